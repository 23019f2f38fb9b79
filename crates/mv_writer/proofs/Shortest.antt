-- No spelling of a module is shorter than the one that is written.
use Rattle.std.proofs.Common.{◌≡◌, ℕ, zero, suc, ◌+◌, ◌≤◌, Bool, true, false, eqb, List, [], ◌∷◌, length, map, Option, Some, None, refl, sym, ap, subst, ◌∙◌, arith, inl, inr}
use Rattle.std.specs.Prelude.{flat_map}
use Rattle.std.proofs.lemmas.List.{length-append}
use Rattle.mv_syntax.specs.declared.fault.ReadKind.TheVariants.{LaterFeature, Count}
use Rattle.mv_syntax.specs.declared.module.Func.{Func}
use Rattle.mv_syntax.specs.Form.{Form}
use Rattle.mv_syntax.specs.Forms.{Joined, give, ◌>>=◌, byte, means, choose, each_of, at_most_one}
use Rattle.mv_syntax.specs.Numbers.{u32}
use Rattle.mv_syntax.specs.Types.{vector, up_to, only, func_type}
use Rattle.mv_syntax.specs.Parts.{import_, table, memory, global, export, element, segment, func}
use Rattle.mv_syntax.specs.Sections.{Parts, Sections, nothing_yet, Holding, Types, Imports, Functions, Tables, Memories, Globals, Exports, Start, Elements, Bodies, Data, holding, contents, section, sections, magic, preamble}
use Rattle.mv_syntax.specs.Modules.{IsSpelled}
use Rattle.mv_writer.specs.Written.{short_u32, written_vector, written_func_type, written_limits, written_table, written_import, written_global, written_export, written_element, written_segment, written_func, written_section, written_list, written_one, written}
use Rattle.mv_writer.proofs.ShortForms.{Shortens, shortens_vector, u32_short, u32_grows, some_group, func_type_short, only_is, up_to_short}
use Rattle.mv_writer.proofs.ShortParts.{import_short, table_short, memory_short, global_short, export_short, element_short, segment_short}
use Rattle.mv_writer.proofs.ShortRuns.{func_short}
use Rattle.mv_writer.proofs.Fitting.{nothing_fits, sections_fit, each_again}
use Rattle.mv_syntax.proofs.SectionInduction.{filled_or_custom}
use Rattle.mv_writer.proofs.Placing.{types_declared}

-- the length of the shortest sections that hold the same
abbrev pub total : Sections → ℕ
total s =
    length (written_list 1 written_func_type s.parts.types)
    + length (written_list 2 written_import s.parts.imports)
    + length (written_list 3 short_u32 s.declared)
    + length (written_one 4 (λ x. 1 ∷ written_table x) s.parts.table)
    + length (written_one 5 (λ x. 1 ∷ written_limits x) s.parts.memory)
    + length (written_list 6 written_global s.parts.globals)
    + length (written_list 7 written_export s.parts.exports)
    + length (written_one 8 short_u32 s.parts.start)
    + length (written_list 9 written_element s.parts.elements)
    + length (written_list 10 written_func s.parts.funcs)
    + length (written_list 11 written_segment s.parts.segments)

-- the length of a section with contents of so many bytes
abbrev section_of : ℕ → ℕ
section_of size = 1 + length (short_u32 size) + size

section_length : (id : ℕ) (text : List ℕ) (size : ℕ) → length text ≤ size → length (written_section id text) ≤ section_of size
section_length id text size le = omega (arith, length-append (short_u32 (length text)) text, u32_grows (length text) size le)

list_total : {A : Type 0} (f : Form A) (w : A → List ℕ) → Shortens f w → (id : ℕ) (text : List ℕ) (items : List A) (size : ℕ) → (vector f).spells text items → length text ≤ size → length (written_list id w items) ≤ section_of size
list_total f w sf id text [] size s le = omega arith
list_total f w sf id text (x ∷ items) size s le = section_length id (written_vector w (x ∷ items)) size (omega (arith, (shortens_vector f w sf).shorter text (x ∷ items) s))

one_length : {A : Type 0} (id : ℕ) (v : A → List ℕ) (o : Option A) (size : ℕ) → ((a : A) → o ≡ Some a → length (v a) ≤ size) → length (written_one id v o) ≤ section_of size
one_length id v None size h = omega arith
one_length id v (Some a) size h = section_length id (v a) size (h a refl)

one_total_at : {A : Type 0} (f : Form A) (w : A → List ℕ) → Shortens f w → (t : Bool) (back : List ℕ) (o : Option A) (a : A) → (choose t (give None) (f >>= λ a. give (Some a))).spells back o → o ≡ Some a → length (w a) ≤ length back
one_total_at {A} f w sf true back o a s e = absurd (let none : None ≡ Some a = sym s.1 ∙ e in cc)
one_total_at {A} f w sf false back o a s e =
    let same : s.first ≡ a = (let both : Some s.first ≡ Some a = sym s.back_spells.1 ∙ e in cc) in
    omega (arith, ap length (ap w same), sf.shorter s.front s.first s.front_spells, ap length s.whole, length-append s.front s.back)

one_total : {A : Type 0} (f : Form A) (w : A → List ℕ) → Shortens f w → (id n : ℕ) (front back : List ℕ) (o : Option A) (size : ℕ) → (means u32 (up_to 1 LaterFeature)).spells front n → (at_most_one f n).spells back o → length front + length back ≤ size
    → length (written_one id (λ x. 1 ∷ w x) o) ≤ section_of size
unfolding at_most_one
one_total f w sf id n front back o size p q le =
    one_length id (λ x. 1 ∷ w x) o size (λ a e. omega (arith, (up_to_short 1 LaterFeature).shorter front n p, some_group n, one_total_at f w sf (eqb n 0) back o a q e))

bodies_total : (n : ℕ) (declared : List ℕ) (front back : List ℕ) (funcs : List Func) (size : ℕ) → (means u32 (only (length declared) Count)).spells front n → (each_of func declared).spells back funcs → length front + length back ≤ size
    → length (written_list 10 written_func funcs) ≤ section_of size
bodies_total n declared front back [] size p q le = omega arith
bodies_total n declared front back (f ∷ funcs) size p q le =
    let e = each_again func written_func func_short declared back (f ∷ funcs) q in
    let o = only_is (length declared) Count p.sign n p.meant in
    let count : n ≡ length (f ∷ funcs) = omega (arith, o.0, o.1, e.2) in
    let len : length (short_u32 n) ≤ length front = omega (arith, ap length (ap short_u32 o.1), u32_short.shorter front p.sign p.spelled) in
    section_length 10 (written_vector written_func (f ∷ funcs)) size (omega (arith, length-append (short_u32 (length (f ∷ funcs))) (flat_map written_func (f ∷ funcs)), e.1, len, ap length (ap short_u32 count)))

-- ---- section by section

abbrev AtMost : Sections → ℕ → Type 0
AtMost s size = total s ≤ size

given_total : (next held : Sections) (size : ℕ) → held ≡ next → AtMost next size → AtMost held size
given_total next held size e h = subst (λ (x : Sections). AtMost x size) (sym e) h

contents_total : (k : Holding) (s : Sections) (text : List ℕ) (held : Sections) → (contents k s).spells text held → AtMost held (total s + section_of (length text))
contents_total Types s text held p = given_total _ held _ p.back_spells.1 (omega (arith, list_total func_type written_func_type func_type_short 1 p.front p.first (length text) p.front_spells (omega (arith, ap length p.whole, length-append p.front p.back))))
contents_total Imports s text held p = given_total _ held _ p.back_spells.1 (omega (arith, list_total import_ written_import import_short 2 p.front p.first (length text) p.front_spells (omega (arith, ap length p.whole, length-append p.front p.back))))
contents_total Functions s text held p = given_total _ held _ p.back_spells.1 (omega (arith, list_total u32 short_u32 u32_short 3 p.front p.first (length text) p.front_spells (omega (arith, ap length p.whole, length-append p.front p.back))))
contents_total Tables s text held p = given_total _ held _ p.back_spells.back_spells.1 (omega (arith, one_total table written_table table_short 4 p.first p.front p.back_spells.front p.back_spells.first (length text) p.front_spells p.back_spells.front_spells (omega (arith, ap length p.whole, length-append p.front p.back, ap length p.back_spells.whole, length-append p.back_spells.front p.back_spells.back))))
contents_total Memories s text held p = given_total _ held _ p.back_spells.back_spells.1 (omega (arith, one_total memory written_limits memory_short 5 p.first p.front p.back_spells.front p.back_spells.first (length text) p.front_spells p.back_spells.front_spells (omega (arith, ap length p.whole, length-append p.front p.back, ap length p.back_spells.whole, length-append p.back_spells.front p.back_spells.back))))
contents_total Globals s text held p = given_total _ held _ p.back_spells.1 (omega (arith, list_total global written_global global_short 6 p.front p.first (length text) p.front_spells (omega (arith, ap length p.whole, length-append p.front p.back))))
contents_total Exports s text held p = given_total _ held _ p.back_spells.1 (omega (arith, list_total export written_export export_short 7 p.front p.first (length text) p.front_spells (omega (arith, ap length p.whole, length-append p.front p.back))))
contents_total Start s text held p = given_total _ held _ p.back_spells.1 (omega (arith, section_length 8 (short_u32 p.first) (length text) (omega (arith, u32_short.shorter p.front p.first p.front_spells, ap length p.whole, length-append p.front p.back))))
contents_total Elements s text held p = given_total _ held _ p.back_spells.1 (omega (arith, list_total element written_element element_short 9 p.front p.first (length text) p.front_spells (omega (arith, ap length p.whole, length-append p.front p.back))))
contents_total Bodies s text held p = given_total _ held _ p.back_spells.back_spells.1 (omega (arith, bodies_total p.first s.declared p.front p.back_spells.front p.back_spells.first (length text) p.front_spells p.back_spells.front_spells (omega (arith, ap length p.whole, length-append p.front p.back, ap length p.back_spells.whole, length-append p.back_spells.front p.back_spells.back))))
contents_total Data s text held p = given_total _ held _ p.back_spells.1 (omega (arith, list_total segment written_segment segment_short 11 p.front p.first (length text) p.front_spells (omega (arith, ap length p.whole, length-append p.front p.back))))

section_total : (s : Sections) (text : List ℕ) (held : Sections) → (section s).spells text held → AtMost held (total s + length text)
unfolding section byte
section_total s text held c =
    let id : ℕ = c.first in
    let r = c.back_spells in
    let size : length text ≡ 1 + length r.front + length r.back = omega (arith, ap length c.whole, length-append c.front c.back, ap length c.front_spells.spelled, ap length r.whole, length-append r.front r.back) in
    elim (filled_or_custom (eqb id 0) id r.first s r.back held refl r.back_spells) [
      | inl same ↦ given_total s held (total s + length text) same (omega arith)
      | inr p ↦ (let h = contents_total (holding id) s r.back held p.filled in omega (arith, size, ap length (ap short_u32 p.size), u32_short.shorter r.front r.first r.front_spells))
    ]

sections_total : (n : ℕ) (s : Sections) (text : List ℕ) (held : Sections) → (sections n s).spells text held → AtMost held (total s + length text)
unfolding sections
sections_total zero s text held c = given_total s held (total s + length text) c.1 (omega arith)
sections_total (suc n) s text held c =
    omega (arith, sections_total n c.first c.back held c.back_spells, section_total s c.front c.first c.front_spells, ap length c.whole, length-append c.front c.back)

magic_length : (k : ℕ) (g : List ℕ → ℕ → Type 0) (text : List ℕ) (n : ℕ) (j : Joined (magic k).spells (λ _. g) text n) → length text ≡ suc (length j.back)
unfolding byte
magic_length k g text n j = omega (arith, ap length j.whole, length-append j.front j.back, ap length j.front_spells.spelled)

preamble_length : (text : List ℕ) (b : ℕ) → preamble.spells text b → 8 ≤ length text
unfolding preamble byte
preamble_length text b p = omega (arith, magic_length 0 _ text b p, magic_length 97 _ p.back b p.back_spells, magic_length 115 _ p.back_spells.back b p.back_spells.back_spells, magic_length 109 _ p.back_spells.back_spells.back b p.back_spells.back_spells.back_spells, magic_length 1 _ p.back_spells.back_spells.back_spells.back b p.back_spells.back_spells.back_spells.back_spells, magic_length 0 _ p.back_spells.back_spells.back_spells.back_spells.back b p.back_spells.back_spells.back_spells.back_spells.back_spells, magic_length 0 _ p.back_spells.back_spells.back_spells.back_spells.back_spells.back b p.back_spells.back_spells.back_spells.back_spells.back_spells.back_spells, magic_length 0 _ p.back_spells.back_spells.back_spells.back_spells.back_spells.back_spells.back b p.back_spells.back_spells.back_spells.back_spells.back_spells.back_spells.back_spells)

pub written_length : (s : Sections) → map (λ f. f.ftype) s.parts.funcs ≡ s.declared → length (written s.parts) ≡ 8 + total s
unfolding written
written_length s e = rw (sym e) (simp length-append (omega arith))

-- no bytes that spell the module are fewer than those written
pub written_shortest : (p : Parts) (bytes : List ℕ) → IsSpelled bytes p → length (written p) ≤ length bytes
written_shortest p bytes s =
    let fits = sections_fit s.count nothing_yet nothing_fits s.back s.held s.goes_on in
    omega (
      arith,
      ap length (ap written s.parts_is),
      written_length s.held (types_declared s.held fits s.bodies),
      sections_total s.count nothing_yet s.back s.held s.goes_on,
      preamble_length s.front 0 s.begins,
      ap length s.whole,
      length-append s.front s.back,
    )
