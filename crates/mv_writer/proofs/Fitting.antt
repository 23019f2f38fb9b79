-- What some sections hold is spelled again by its shortest form, and fits the sizes that a section may have.
use Rattle.std.proofs.Common.{◌≡◌, ℕ, suc, ◌+◌, ◌^◌, ◌≤◌, ◌<◌, Bool, true, false, eqb, List, [], ◌∷◌, ◌++◌, length, map, Option, Some, None, refl, sym, ap, subst, ◌∙◌, arith, ◌⊎◌, inl, inr}
use Rattle.std.specs.Prelude.{flat_map}
use Rattle.std.proofs.lemmas.List.{append-nil, length-append}
use Rattle.mv_syntax.specs.declared.fault.ReadKind.TheVariants.{LaterFeature, Count}
use Rattle.mv_syntax.specs.declared.module.Func.{Func}
use Rattle.mv_syntax.specs.Form.{Form}
use Rattle.mv_syntax.specs.Forms.{give, ◌>>=◌, means, choose, many, each_of, at_most_one}
use Rattle.mv_syntax.specs.Numbers.{u32}
use Rattle.mv_syntax.specs.Types.{vector, up_to, only, func_type}
use Rattle.mv_syntax.specs.Parts.{import_, table, memory, global, export, element, segment, func}
use Rattle.mv_syntax.specs.Sections.{Sections, nothing_yet, Types, Imports, Functions, Tables, Memories, Globals, Exports, Start, Elements, Bodies, Data, section, sections}
use Rattle.mv_syntax.proofs.NumberBounds.{u32_below}
use Rattle.mv_syntax.proofs.SectionInduction.{StaysWith, sections_hold}
use Rattle.mv_writer.specs.Written.{short_u32, written_vector, written_func_type, written_limits, written_table, written_import, written_global, written_export, written_element, written_segment, written_func}
use Rattle.mv_writer.proofs.ShortForms.{Shortens, shortens_vector, u32_short, u32_made, u32_few, some_group, func_type_short, only_is, up_to_short}
use Rattle.mv_writer.proofs.ShortParts.{import_short, table_short, memory_short, global_short, export_short, element_short, segment_short}
use Rattle.mv_writer.proofs.ShortRuns.{func_short, func_type_is}

-- ---- what fits

abbrev pub Fit : {A : Type 0} → Form A → (A → List ℕ) → A → Type 0
Fit f w a = f.spells (w a) a × (length (w a) < 2 ^ 32)

abbrev pub FitsList : {A : Type 0} → Form A → (A → List ℕ) → List A → Type 0
FitsList f w items = Fit (vector f) (written_vector w) items

abbrev pub FitsOption : {A : Type 0} → Form A → (A → List ℕ) → Option A → Type 0
FitsOption f w None = Unit {0}
FitsOption f w (Some a) = f.spells (w a) a × (length (w a) + 1 < 2 ^ 32)

-- the bodies of functions that were declared with these types
pub record FitsBodies (declared : List ℕ) (funcs : List Func) : Type 0 where
  pub spelled : (each_of func declared).spells (flat_map written_func funcs) funcs
  pub size : length (written_vector written_func funcs) < 2 ^ 32
  pub few : length funcs < 2 ^ 32
  pub count : length funcs ≡ length declared
  pub types : map (λ f. f.ftype) funcs ≡ declared

pub record Fits (s : Sections) : Type 0 where
  pub types : FitsList func_type written_func_type s.parts.types
  pub imports : FitsList import_ written_import s.parts.imports
  pub declared : FitsList u32 short_u32 s.declared
  pub table : FitsOption table written_table s.parts.table
  pub memory : FitsOption memory written_limits s.parts.memory
  pub globals : FitsList global written_global s.parts.globals
  pub exports : FitsList export written_export s.parts.exports
  pub start : FitsOption u32 short_u32 s.parts.start
  pub elements : FitsList element written_element s.parts.elements
  pub bodies : (s.parts.funcs ≡ []) ⊎ ((10 ≤ s.last) × FitsBodies s.declared s.parts.funcs)
  pub segments : FitsList segment written_segment s.parts.segments

pub fit_of : {A : Type 0} (f : Form A) (w : A → List ℕ) → Shortens f w → (text : List ℕ) (a : A) → f.spells text a → length text < 2 ^ 32 → Fit f w a
fit_of f w sf text a s lt = (sf.again text a s, omega (arith, sf.shorter text a s))

pub list_of : {A : Type 0} (f : Form A) (w : A → List ℕ) → Shortens f w → (text : List ℕ) (items : List A) → (vector f).spells text items → length text < 2 ^ 32 → FitsList f w items
list_of f w sf text items s lt = fit_of (vector f) (written_vector w) (shortens_vector f w sf) text items s lt

pub no_items : {A : Type 0} (f : Form A) (w : A → List ℕ) → FitsList f w []
unfolding vector many short_u32
no_items f w = (record { first = 0; front = short_u32 0; back = []; whole = refl; front_spells = u32_made 0 (omega arith); back_spells = (refl, refl) }, omega arith)

pub nothing_fits : Fits nothing_yet
nothing_fits = record {
  types = no_items func_type written_func_type;
  imports = no_items import_ written_import;
  declared = no_items u32 short_u32;
  table = tt;
  memory = tt;
  globals = no_items global written_global;
  exports = no_items export written_export;
  start = tt;
  elements = no_items element written_element;
  bodies = inl refl;
  segments = no_items segment written_segment;
}

-- none or one, behind a count
option_from : {A : Type 0} (f : Form A) (w : A → List ℕ) → Shortens f w → (t : Bool) (front back : List ℕ) (o : Option A) → 1 ≤ length front → length front + length back < 2 ^ 32 → (choose t (give None) (f >>= λ a. give (Some a))).spells back o → FitsOption f w o
option_from {A} f w sf true front back o some lt s = subst (λ (x : Option A). FitsOption f w x) (sym s.1) tt
option_from {A} f w sf false front back o some lt s =
    subst (λ (x : Option A). FitsOption f w x) (sym s.back_spells.1) (sf.again s.front s.first s.front_spells, omega (arith, ap length s.whole, length-append s.front s.back, sf.shorter s.front s.first s.front_spells))

option_of : {A : Type 0} (f : Form A) (w : A → List ℕ) → Shortens f w → (n : ℕ) (front back : List ℕ) (o : Option A) → (means u32 (up_to 1 LaterFeature)).spells front n → (at_most_one f n).spells back o → length front + length back < 2 ^ 32 → FitsOption f w o
unfolding at_most_one
option_of {A} f w sf n front back o p q lt = option_from f w sf (eqb n 0) front back o (omega (arith, (up_to_short 1 LaterFeature).shorter front n p, some_group n)) lt q

-- ---- bodies

pub each_again : {A B : Type 0} (f : B → Form A) (w : A → List ℕ) → ((b : B) → Shortens (f b) w) → (bs : List B) (text : List ℕ) (items : List A) → (each_of f bs).spells text items
    → (each_of f bs).spells (flat_map w items) items × (length (flat_map w items) ≤ length text) × (length items ≡ length bs)
unfolding each_of
each_again {A} f w sf [] text items s =
    subst (λ (x : List A). (each_of f []).spells (flat_map w x) x × (length (flat_map w x) ≤ length text) × (length x ≡ 0)) (sym s.1) ((refl, refl), omega arith, refl)
each_again {A} f w sf (b ∷ bs) text items s =
    let r = s.back_spells in
    let rest = each_again f w sf bs r.front r.first r.front_spells in
    let made : (each_of f (b ∷ bs)).spells (w s.first ++ flat_map w r.first) (s.first ∷ r.first) = record {
      first = s.first;
      front = w s.first;
      back = flat_map w r.first;
      whole = refl;
      front_spells = (sf b).again s.front s.first s.front_spells;
      back_spells = record { first = r.first; front = flat_map w r.first; back = []; whole = sym (append-nil (flat_map w r.first)); front_spells = rest.0; back_spells = (refl, refl) };
    } in
    let len : length (w s.first ++ flat_map w r.first) ≤ length text = omega (arith, length-append (w s.first) (flat_map w r.first), ap length s.whole, length-append s.front s.back, ap length r.whole, length-append r.front r.back, (sf b).shorter s.front s.first s.front_spells, rest.1) in
    subst (λ (x : List A). (each_of f (b ∷ bs)).spells (flat_map w x) x × (length (flat_map w x) ≤ length text) × (length x ≡ suc (length bs))) (sym r.back_spells.1) (made, len, ap suc rest.2)

types_are : (declared : List ℕ) (text : List ℕ) (funcs : List Func) → (each_of func declared).spells text funcs → map (λ f. f.ftype) funcs ≡ declared
unfolding each_of
types_are [] text funcs s = ap (map (λ (f : Func). f.ftype)) s.1
types_are (t ∷ declared) text funcs s =
    let r = s.back_spells in
    ap (map (λ (f : Func). f.ftype)) r.back_spells.1 ∙ ap (λ (n : ℕ). n ∷ map (λ f. f.ftype) r.first) (func_type_is t s.front s.first s.front_spells) ∙ ap (λ (x : List ℕ). t ∷ x) (types_are declared r.front r.first r.front_spells)

bodies_of : (n : ℕ) (declared : List ℕ) (front back : List ℕ) (funcs : List Func) → (means u32 (only (length declared) Count)).spells front n → (each_of func declared).spells back funcs → length front + length back < 2 ^ 32 → FitsBodies declared funcs
bodies_of n declared front back funcs p q lt =
    let e = each_again func written_func func_short declared back funcs q in
    let o = only_is (length declared) Count p.sign n p.meant in
    let count : n ≡ length funcs = omega (arith, o.0, o.1, e.2) in
    let len : length (short_u32 n) ≤ length front = omega (arith, ap length (ap short_u32 o.1), u32_short.shorter front p.sign p.spelled) in
    record {
      spelled = e.0;
      size = omega (arith, length-append (short_u32 (length funcs)) (flat_map written_func funcs), e.1, len, ap length (ap short_u32 count));
      few = omega (arith, count, o.1, u32_below front p.sign p.spelled);
      count = e.2;
      types = types_are declared back funcs q;
    }

-- ---- section by section

-- no body stands before the section of bodies
no_bodies : (s : Sections) → Fits s → s.last < 10 → s.parts.funcs ≡ []
no_bodies s h lt = elim h.bodies [ inl e ↦ e | inr p ↦ absurd (omega (arith, p.0)) ]

given_next : (next held : Sections) → held ≡ next → Fits next → Fits held
given_next next held e h = subst Fits (sym e) h

contents_fit : StaysWith Fits
contents_fit Types s h order text held p lt = given_next _ held p.back_spells.1 (record { types = list_of func_type written_func_type func_type_short p.front p.first p.front_spells (omega (arith, ap length p.whole, length-append p.front p.back)); imports = h.imports; declared = h.declared; table = h.table; memory = h.memory; globals = h.globals; exports = h.exports; start = h.start; elements = h.elements; bodies = inl (no_bodies s h (omega arith)); segments = h.segments })
contents_fit Imports s h order text held p lt = given_next _ held p.back_spells.1 (record { types = h.types; imports = list_of import_ written_import import_short p.front p.first p.front_spells (omega (arith, ap length p.whole, length-append p.front p.back)); declared = h.declared; table = h.table; memory = h.memory; globals = h.globals; exports = h.exports; start = h.start; elements = h.elements; bodies = inl (no_bodies s h (omega arith)); segments = h.segments })
contents_fit Functions s h order text held p lt = given_next _ held p.back_spells.1 (record { types = h.types; imports = h.imports; declared = list_of u32 short_u32 u32_short p.front p.first p.front_spells (omega (arith, ap length p.whole, length-append p.front p.back)); table = h.table; memory = h.memory; globals = h.globals; exports = h.exports; start = h.start; elements = h.elements; bodies = inl (no_bodies s h (omega arith)); segments = h.segments })
contents_fit Tables s h order text held p lt = given_next _ held p.back_spells.back_spells.1 (record { types = h.types; imports = h.imports; declared = h.declared; table = option_of table written_table table_short p.first p.front p.back_spells.front p.back_spells.first p.front_spells p.back_spells.front_spells (omega (arith, ap length p.whole, length-append p.front p.back, ap length p.back_spells.whole, length-append p.back_spells.front p.back_spells.back)); memory = h.memory; globals = h.globals; exports = h.exports; start = h.start; elements = h.elements; bodies = inl (no_bodies s h (omega arith)); segments = h.segments })
contents_fit Memories s h order text held p lt = given_next _ held p.back_spells.back_spells.1 (record { types = h.types; imports = h.imports; declared = h.declared; table = h.table; memory = option_of memory written_limits memory_short p.first p.front p.back_spells.front p.back_spells.first p.front_spells p.back_spells.front_spells (omega (arith, ap length p.whole, length-append p.front p.back, ap length p.back_spells.whole, length-append p.back_spells.front p.back_spells.back)); globals = h.globals; exports = h.exports; start = h.start; elements = h.elements; bodies = inl (no_bodies s h (omega arith)); segments = h.segments })
contents_fit Globals s h order text held p lt = given_next _ held p.back_spells.1 (record { types = h.types; imports = h.imports; declared = h.declared; table = h.table; memory = h.memory; globals = list_of global written_global global_short p.front p.first p.front_spells (omega (arith, ap length p.whole, length-append p.front p.back)); exports = h.exports; start = h.start; elements = h.elements; bodies = inl (no_bodies s h (omega arith)); segments = h.segments })
contents_fit Exports s h order text held p lt = given_next _ held p.back_spells.1 (record { types = h.types; imports = h.imports; declared = h.declared; table = h.table; memory = h.memory; globals = h.globals; exports = list_of export written_export export_short p.front p.first p.front_spells (omega (arith, ap length p.whole, length-append p.front p.back)); start = h.start; elements = h.elements; bodies = inl (no_bodies s h (omega arith)); segments = h.segments })
contents_fit Start s h order text held p lt = given_next _ held p.back_spells.1 (record { types = h.types; imports = h.imports; declared = h.declared; table = h.table; memory = h.memory; globals = h.globals; exports = h.exports; start = (u32_short.again p.front p.first p.front_spells, omega (arith, u32_few p.first)); elements = h.elements; bodies = inl (no_bodies s h (omega arith)); segments = h.segments })
contents_fit Elements s h order text held p lt = given_next _ held p.back_spells.1 (record { types = h.types; imports = h.imports; declared = h.declared; table = h.table; memory = h.memory; globals = h.globals; exports = h.exports; start = h.start; elements = list_of element written_element element_short p.front p.first p.front_spells (omega (arith, ap length p.whole, length-append p.front p.back)); bodies = inl (no_bodies s h (omega arith)); segments = h.segments })
contents_fit Bodies s h order text held p lt = given_next _ held p.back_spells.back_spells.1 (record { types = h.types; imports = h.imports; declared = h.declared; table = h.table; memory = h.memory; globals = h.globals; exports = h.exports; start = h.start; elements = h.elements; bodies = inr (omega arith, bodies_of p.first s.declared p.front p.back_spells.front p.back_spells.first p.front_spells p.back_spells.front_spells (omega (arith, ap length p.whole, length-append p.front p.back, ap length p.back_spells.whole, length-append p.back_spells.front p.back_spells.back))); segments = h.segments })
contents_fit Data s h order text held p lt = given_next _ held p.back_spells.1 (record { types = h.types; imports = h.imports; declared = h.declared; table = h.table; memory = h.memory; globals = h.globals; exports = h.exports; start = h.start; elements = h.elements; bodies = elim h.bodies [ inl e ↦ inl e | inr b ↦ inr (omega arith, b.1) ]; segments = list_of segment written_segment segment_short p.front p.first p.front_spells (omega (arith, ap length p.whole, length-append p.front p.back)) })

pub sections_fit : (n : ℕ) (s : Sections) → Fits s → (text : List ℕ) (held : Sections) → (sections n s).spells text held → Fits held
sections_fit n s h text held c = sections_hold Fits contents_fit n s h text held c
