-- The shortest spelling of what a module has is one of its spellings.
use Rattle.std.proofs.Common.{◌≡◌, ℕ, zero, suc, ◌^◌, ◌≤◌, ◌<◌, Bool, false, List, [], ◌∷◌, ◌++◌, length, map, Ok, Option, Some, None, refl, sym, ap, subst, ◌∙◌, append_assoc, eq-eqb, ne_eqb, arith, inl, inr}
use Rattle.std.specs.Prelude.{flat_map}
use Rattle.std.proofs.lemmas.Bool.{le-ltb, lt-leb}
use Rattle.std.proofs.lemmas.List.{append-nil, length-map, nil_from_length}
use Rattle.mv_syntax.specs.declared.fault.ReadKind.TheVariants.{LaterFeature, Count}
use Rattle.mv_syntax.specs.declared.types.FuncType.{FuncType}
use Rattle.mv_syntax.specs.declared.types.Limits.{Limits}
use Rattle.mv_syntax.specs.declared.module.Import.{Import}
use Rattle.mv_syntax.specs.declared.module.Func.{Func}
use Rattle.mv_syntax.specs.declared.module.Global.{Global}
use Rattle.mv_syntax.specs.declared.module.Export.{Export}
use Rattle.mv_syntax.specs.declared.module.Element.{Element}
use Rattle.mv_syntax.specs.declared.module.Segment.{Segment}
use Rattle.mv_syntax.specs.Form.{Form}
use Rattle.mv_syntax.specs.Forms.{Nothing, Joined, give, ◌>>=◌, byte, means, choose, sized, headed, each_of, at_most_one}
use Rattle.mv_syntax.specs.Numbers.{u32, name}
use Rattle.mv_syntax.specs.Types.{vector, up_to, only, func_type}
use Rattle.mv_syntax.specs.Parts.{import_, table, memory, global, export, element, segment, func}
use Rattle.mv_syntax.specs.Sections.{Parts, Sections, nothing_yet, next_id, holding, contents, section, sections, magic, preamble}
use Rattle.mv_syntax.specs.Modules.{IsSpelled, HasSpelling}
use Rattle.mv_writer.specs.Written.{short_u32, written_vector, behind_size, written_func_type, written_limits, written_table, written_import, written_global, written_export, written_element, written_segment, written_func, written_section, written_list, written_one, written_preamble, written}
use Rattle.mv_writer.proofs.ShortForms.{u32_made}
use Rattle.mv_writer.proofs.Fitting.{FitsList, FitsOption, FitsBodies, Fits, nothing_fits, sections_fit}

-- ---- one section behind others

pub record Reaches (s : Sections) (text : List ℕ) (held : Sections) : Type 0 where
  pub count : ℕ
  pub spelled : (sections count s).spells text held

one_behind : (n : ℕ) (s : Sections) (text : List ℕ) (more : Sections) (back : List ℕ) (held : Sections) → (sections n s).spells text more → (section more).spells back held → (sections (suc n) s).spells (text ++ back) held
unfolding sections
one_behind zero s text more back held c d =
    let at : (section s).spells back held = subst (λ (x : Sections). (section x).spells back held) c.1 d in
    let made : (sections 1 s).spells back held = record { first = held; front = back; back = []; whole = sym (append-nil back); front_spells = at; back_spells = (refl, refl) } in
    subst (λ (x : List ℕ). (sections 1 s).spells (x ++ back) held) (sym c.0) made
one_behind (suc n) s text more back held c d = record {
  first = c.first;
  front = c.front;
  back = c.back ++ back;
  whole = ap (λ (x : List ℕ). x ++ back) c.whole ∙ append_assoc c.front c.back back;
  front_spells = c.front_spells;
  back_spells = one_behind n c.first c.back more back held c.back_spells d;
}

next_made : (last id : ℕ) → last < id → id ≤ 11 → next_id last id ≡ Ok id
next_made last id lt le = rw (le-ltb 13 id (omega arith), le-ltb 11 id (omega arith), ne_eqb id 0 (λ e. omega arith), lt-leb id last lt) refl

section_made : (s : Sections) (id : ℕ) (text : List ℕ) (held : Sections) → s.last < id → id ≤ 11 → length text < 2 ^ 32 → (contents (holding id) s).spells text held → (section s).spells (written_section id text) held
unfolding section byte
section_made s id text held lt le small c = record {
  first = id;
  front = id ∷ [];
  back = behind_size text;
  whole = refl;
  front_spells = record { sign = id; spelled = refl; meant = next_made s.last id lt le };
  back_spells = record {
    first = length text;
    front = short_u32 (length text);
    back = text;
    whole = refl;
    front_spells = u32_made (length text) small;
    back_spells = (let made : (choose false (headed (length text) name >>= λ _. give s) (sized (length text) (contents (holding id) s))).spells text held = (c, refl) in
        subst (λ (t : Bool). (choose t (headed (length text) name >>= λ _. give s) (sized (length text) (contents (holding id) s))).spells text held) (sym (ne_eqb id 0 (λ e. omega arith))) made);
  };
}

-- The bytes are the preamble and sections below id k, and hold what `held` has with the id of the last of them.
pub record Placed (k : ℕ) (held : ℕ → Sections) (bytes : List ℕ) : Type 0 where
  pub last : ℕ
  pub below : last < k
  pub back : List ℕ
  pub whole : bytes ≡ written_preamble ++ back
  pub reached : Reaches nothing_yet back (held last)

left_out : (k : ℕ) (held next : ℕ → Sections) (bytes : List ℕ) → ((l : ℕ) → held l ≡ next l) → Placed k held bytes → Placed (suc k) next (bytes ++ [])
left_out k held next bytes same p = record {
  last = p.last;
  below = omega (arith, p.below);
  back = p.back;
  whole = append-nil bytes ∙ p.whole;
  reached = subst (λ (x : Sections). Reaches nothing_yet p.back x) (same p.last) p.reached;
}

-- a stage that knows its last section
abbrev Knows : (ℕ → Sections) → Type 0
Knows held = (l : ℕ) → (held l).last ≡ l

placed : (k : ℕ) (held next : ℕ → Sections) (bytes text : List ℕ) → k ≤ 11 → Knows held → length text < 2 ^ 32 → ((l : ℕ) → (contents (holding k) (held l)).spells text (next k)) → Placed k held bytes → Placed (suc k) next (bytes ++ written_section k text)
placed k held next bytes text le knows small c p =
    let r = p.reached in
    let one = section_made (held p.last) k text (next k) (omega (arith, knows p.last, p.below)) le small (c p.last) in
    record {
      last = k;
      below = omega arith;
      back = p.back ++ written_section k text;
      whole = ap (λ (x : List ℕ). x ++ written_section k text) p.whole ∙ append_assoc written_preamble p.back (written_section k text);
      reached = record { count = suc r.count; spelled = one_behind r.count nothing_yet p.back (held p.last) (written_section k text) (next k) r.spelled one };
    }

-- ---- what each section holds

list_made : {A : Type 0} (f : Form A) (make : A → Sections) (text : List ℕ) (a : A) → f.spells text a → (f >>= λ x. give (make x)).spells text (make a)
list_made f make text a s = record { first = a; front = text; back = []; whole = sym (append-nil text); front_spells = s; back_spells = (refl, refl) }

one_made : {A : Type 0} (f : Form A) (make : Option A → Sections) (text : List ℕ) (a : A) → f.spells text a → (means u32 (up_to 1 LaterFeature) >>= λ n. at_most_one f n >>= λ x. give (make x)).spells (1 ∷ text) (make (Some a))
unfolding at_most_one short_u32
one_made {A} f make text a s = record {
  first = 1;
  front = 1 ∷ [];
  back = text;
  whole = refl;
  front_spells = record { sign = 1; spelled = u32_made 1 (omega arith); meant = refl };
  back_spells = record {
    first = Some a;
    front = text;
    back = [];
    whole = sym (append-nil text);
    front_spells = record { first = a; front = text; back = []; whole = sym (append-nil text); front_spells = s; back_spells = (refl, refl) };
    back_spells = (refl, refl);
  };
}

bodies_made : (declared : List ℕ) (make : List Func → Sections) (funcs : List Func) → FitsBodies declared funcs
    → (means u32 (only (length declared) Count) >>= λ _. each_of func declared >>= λ xs. give (make xs)).spells (written_vector written_func funcs) (make funcs)
bodies_made declared make funcs h = record {
  first = length funcs;
  front = short_u32 (length funcs);
  back = flat_map written_func funcs;
  whole = refl;
  front_spells = record { sign = length funcs; spelled = u32_made (length funcs) h.few; meant = rw (eq-eqb (length funcs) (length declared) h.count) refl };
  back_spells = record { first = funcs; front = flat_map written_func funcs; back = []; whole = sym (append-nil (flat_map written_func funcs)); front_spells = h.spelled; back_spells = (refl, refl) };
}

placed_list : {A : Type 0} (k : ℕ) (held : ℕ → Sections) (next : List A → ℕ → Sections) (f : Form A) (w : A → List ℕ) (items : List A) (bytes : List ℕ) → k ≤ 11 → Knows held → ((l : ℕ) → held l ≡ next [] l)
    → ((l : ℕ) (xs : List A) (text : List ℕ) → (vector f).spells text xs → (contents (holding k) (held l)).spells text (next xs k)) → FitsList f w items → Placed k held bytes → Placed (suc k) (next items) (bytes ++ written_list k w items)
placed_list k held next f w [] bytes le knows same holds fit p = left_out k held (next []) bytes same p
placed_list k held next f w (x ∷ items) bytes le knows same holds fit p =
    placed k held (next (x ∷ items)) bytes (written_vector w (x ∷ items)) le knows fit.1 (λ l. holds l (x ∷ items) (written_vector w (x ∷ items)) fit.0) p

-- a section that is written where there is something
abbrev IsHeld : {A : Type 0} → ℕ → (ℕ → Sections) → (Option A → ℕ → Sections) → (A → List ℕ) → Option A → Type 0
IsHeld k held next v None = Unit {0}
IsHeld k held next v (Some a) = (length (v a) < 2 ^ 32) × ((l : ℕ) → (contents (holding k) (held l)).spells (v a) (next (Some a) k))

placed_one : {A : Type 0} (k : ℕ) (held : ℕ → Sections) (next : Option A → ℕ → Sections) (v : A → List ℕ) (o : Option A) (bytes : List ℕ) → k ≤ 11 → Knows held → ((l : ℕ) → held l ≡ next None l)
    → IsHeld k held next v o → Placed k held bytes → Placed (suc k) (next o) (bytes ++ written_one k v o)
placed_one k held next v None bytes le knows same h p = left_out k held (next None) bytes same p
placed_one k held next v (Some a) bytes le knows same h p = placed k held (next (Some a)) bytes (v a) le knows h.0 h.1 p

placed_bodies : (k : ℕ) (held : ℕ → Sections) (next : List Func → ℕ → Sections) (declared : List ℕ) (funcs : List Func) (bytes : List ℕ) → k ≤ 11 → Knows held → ((l : ℕ) → held l ≡ next [] l)
    → ((l : ℕ) → FitsBodies declared funcs → (contents (holding k) (held l)).spells (written_vector written_func funcs) (next funcs k)) → FitsBodies declared funcs → Placed k held bytes → Placed (suc k) (next funcs) (bytes ++ written_list k written_func funcs)
placed_bodies k held next declared [] bytes le knows same holds fit p = left_out k held (next []) bytes same p
placed_bodies k held next declared (f ∷ funcs) bytes le knows same holds fit p = placed k held (next (f ∷ funcs)) bytes (written_vector written_func (f ∷ funcs)) le knows fit.size (λ l. holds l fit) p

-- ---- the sections one behind another

abbrev pub types_of : List Func → List ℕ
types_of funcs = map (λ f. f.ftype) funcs

abbrev with_types : Parts → List FuncType → ℕ → Sections
with_types p x l = record { last = l; declared = []; parts = record { types = x; imports = []; funcs = []; table = None; memory = None; globals = []; exports = []; start = None; elements = []; segments = [] } }

abbrev with_imports : Parts → List Import → ℕ → Sections
with_imports p x l = record { last = l; declared = []; parts = record { types = p.types; imports = x; funcs = []; table = None; memory = None; globals = []; exports = []; start = None; elements = []; segments = [] } }

abbrev with_declared : Parts → List ℕ → ℕ → Sections
with_declared p x l = record { last = l; declared = x; parts = record { types = p.types; imports = p.imports; funcs = []; table = None; memory = None; globals = []; exports = []; start = None; elements = []; segments = [] } }

abbrev with_table : Parts → Option Limits → ℕ → Sections
with_table p x l = record { last = l; declared = types_of p.funcs; parts = record { types = p.types; imports = p.imports; funcs = []; table = x; memory = None; globals = []; exports = []; start = None; elements = []; segments = [] } }

abbrev with_memory : Parts → Option Limits → ℕ → Sections
with_memory p x l = record { last = l; declared = types_of p.funcs; parts = record { types = p.types; imports = p.imports; funcs = []; table = p.table; memory = x; globals = []; exports = []; start = None; elements = []; segments = [] } }

abbrev with_globals : Parts → List Global → ℕ → Sections
with_globals p x l = record { last = l; declared = types_of p.funcs; parts = record { types = p.types; imports = p.imports; funcs = []; table = p.table; memory = p.memory; globals = x; exports = []; start = None; elements = []; segments = [] } }

abbrev with_exports : Parts → List Export → ℕ → Sections
with_exports p x l = record { last = l; declared = types_of p.funcs; parts = record { types = p.types; imports = p.imports; funcs = []; table = p.table; memory = p.memory; globals = p.globals; exports = x; start = None; elements = []; segments = [] } }

abbrev with_start : Parts → Option ℕ → ℕ → Sections
with_start p x l = record { last = l; declared = types_of p.funcs; parts = record { types = p.types; imports = p.imports; funcs = []; table = p.table; memory = p.memory; globals = p.globals; exports = p.exports; start = x; elements = []; segments = [] } }

abbrev with_elements : Parts → List Element → ℕ → Sections
with_elements p x l = record { last = l; declared = types_of p.funcs; parts = record { types = p.types; imports = p.imports; funcs = []; table = p.table; memory = p.memory; globals = p.globals; exports = p.exports; start = p.start; elements = x; segments = [] } }

abbrev with_funcs : Parts → List Func → ℕ → Sections
with_funcs p x l = record { last = l; declared = types_of p.funcs; parts = record { types = p.types; imports = p.imports; funcs = x; table = p.table; memory = p.memory; globals = p.globals; exports = p.exports; start = p.start; elements = p.elements; segments = [] } }

abbrev with_segments : Parts → List Segment → ℕ → Sections
with_segments p x l = record { last = l; declared = types_of p.funcs; parts = record { types = p.types; imports = p.imports; funcs = p.funcs; table = p.table; memory = p.memory; globals = p.globals; exports = p.exports; start = p.start; elements = p.elements; segments = x } }

-- what the parts of a module are, one by one, that have a spelling
pub record FitsParts (p : Parts) : Type 0 where
  pub types : FitsList func_type written_func_type p.types
  pub imports : FitsList import_ written_import p.imports
  pub declared : FitsList u32 short_u32 (types_of p.funcs)
  pub table : FitsOption table written_table p.table
  pub memory : FitsOption memory written_limits p.memory
  pub globals : FitsList global written_global p.globals
  pub exports : FitsList export written_export p.exports
  pub start : FitsOption u32 short_u32 p.start
  pub elements : FitsList element written_element p.elements
  pub bodies : FitsBodies (types_of p.funcs) p.funcs
  pub segments : FitsList segment written_segment p.segments

no_bodies : FitsBodies [] []
unfolding each_of short_u32
no_bodies = record { spelled = (refl, refl); size = omega arith; few = omega arith; count = refl; types = refl }

pub types_declared : (s : Sections) → Fits s → length s.parts.funcs ≡ length s.declared → types_of s.parts.funcs ≡ s.declared
types_declared s h e = elim h.bodies [
  | inl none ↦ ap types_of none ∙ sym (nil_from_length s.declared (omega (arith, e, ap length none)))
  | inr b ↦ b.1.types
]

bodies_fit : (s : Sections) → Fits s → length s.parts.funcs ≡ length s.declared → FitsBodies (types_of s.parts.funcs) s.parts.funcs
bodies_fit s h e = elim h.bodies [
  | inl none ↦ subst (λ (x : List Func). FitsBodies (types_of x) x) (sym none) no_bodies
  | inr b ↦ subst (λ (x : List ℕ). FitsBodies x s.parts.funcs) (sym b.1.types) b.1
]

parts_fit : (s : Sections) → Fits s → length s.parts.funcs ≡ length s.declared → FitsParts s.parts
parts_fit s h e = record {
  types = h.types;
  imports = h.imports;
  declared = subst (λ (x : List ℕ). FitsList u32 short_u32 x) (sym (types_declared s h e)) h.declared;
  table = h.table;
  memory = h.memory;
  globals = h.globals;
  exports = h.exports;
  start = h.start;
  elements = h.elements;
  bodies = bodies_fit s h e;
  segments = h.segments;
}

pub spelled_fits : (p : Parts) (bytes : List ℕ) → IsSpelled bytes p → FitsParts p
spelled_fits p bytes s = subst FitsParts s.parts_is (parts_fit s.held (sections_fit s.count nothing_yet nothing_fits s.back s.held s.goes_on) s.bodies)

magic_made : (b : ℕ) (g : List ℕ → ℕ → Type 0) (text : List ℕ) → g text 0 → Joined (magic b).spells (λ _. g) (b ∷ text) 0
unfolding byte
magic_made b g text s = record { first = b; front = b ∷ []; back = text; whole = refl; front_spells = record { sign = b; spelled = refl; meant = rw (eq-eqb b b refl) refl }; back_spells = s }

pub preamble_made : preamble.spells written_preamble 0
unfolding preamble
preamble_made =
    magic_made 0 _ _ (magic_made 97 _ _ (magic_made 115 _ _ (magic_made 109 _ _ (magic_made 1 _ _ (magic_made 0 _ _ (magic_made 0 _ _ (magic_made 0 (Nothing 0) [] (refl, refl))))))))

abbrev at_first : ℕ → Sections
at_first l = record { last = l; declared = []; parts = nothing_yet.parts }

begun : Placed 1 at_first written_preamble
unfolding sections
begun = record { last = 0; below = omega arith; back = []; whole = sym (append-nil written_preamble); reached = record { count = 0; spelled = (refl, refl) } }

one_held : {A : Type 0} (k : ℕ) (held : ℕ → Sections) (next : Option A → ℕ → Sections) (f : Form A) (w : A → List ℕ) (o : Option A) → FitsOption f w o
    → ((l : ℕ) (a : A) (text : List ℕ) → f.spells text a → (contents (holding k) (held l)).spells (1 ∷ text) (next (Some a) k)) → IsHeld k held next (λ a. 1 ∷ w a) o
one_held k held next f w None fit holds = tt
one_held k held next f w (Some a) fit holds = (omega (arith, fit.1), λ l. holds l a (w a) fit.0)

start_held : (held : ℕ → Sections) (next : Option ℕ → ℕ → Sections) (o : Option ℕ) → FitsOption u32 short_u32 o
    → ((l x : ℕ) (text : List ℕ) → u32.spells text x → (contents (holding 8) (held l)).spells text (next (Some x) 8)) → IsHeld 8 held next short_u32 o
start_held held next None fit holds = tt
start_held held next (Some x) fit holds = (omega (arith, fit.1), λ l. holds l x (short_u32 x) fit.0)

placed_parts : (p : Parts) → FitsParts p → Placed 12 (with_segments p p.segments) (written p)
unfolding written
placed_parts p h =
    let s1 = placed_list 1 (at_first) (with_types p) func_type written_func_type (p.types) _ (omega arith) (λ l. refl) (λ l. refl) (λ l xs text s. list_made (vector func_type) (λ x. with_types p x 1) text xs s) h.types begun in
    let s2 = placed_list 2 (with_types p p.types) (with_imports p) import_ written_import (p.imports) _ (omega arith) (λ l. refl) (λ l. refl) (λ l xs text s. list_made (vector import_) (λ x. with_imports p x 2) text xs s) h.imports s1 in
    let s3 = placed_list 3 (with_imports p p.imports) (with_declared p) u32 short_u32 (types_of p.funcs) _ (omega arith) (λ l. refl) (λ l. refl) (λ l xs text s. list_made (vector u32) (λ x. with_declared p x 3) text xs s) h.declared s2 in
    let s4 = placed_one 4 (with_declared p (types_of p.funcs)) (with_table p) (λ a. 1 ∷ written_table a) p.table _ (omega arith) (λ l. refl) (λ l. refl) (one_held 4 (with_declared p (types_of p.funcs)) (with_table p) table written_table p.table h.table (λ l a text s. one_made table (λ x. with_table p x 4) text a s)) s3 in
    let s5 = placed_one 5 (with_table p p.table) (with_memory p) (λ a. 1 ∷ written_limits a) p.memory _ (omega arith) (λ l. refl) (λ l. refl) (one_held 5 (with_table p p.table) (with_memory p) memory written_limits p.memory h.memory (λ l a text s. one_made memory (λ x. with_memory p x 5) text a s)) s4 in
    let s6 = placed_list 6 (with_memory p p.memory) (with_globals p) global written_global (p.globals) _ (omega arith) (λ l. refl) (λ l. refl) (λ l xs text s. list_made (vector global) (λ x. with_globals p x 6) text xs s) h.globals s5 in
    let s7 = placed_list 7 (with_globals p p.globals) (with_exports p) export written_export (p.exports) _ (omega arith) (λ l. refl) (λ l. refl) (λ l xs text s. list_made (vector export) (λ x. with_exports p x 7) text xs s) h.exports s6 in
    let s8 = placed_one 8 (with_exports p p.exports) (with_start p) short_u32 p.start _ (omega arith) (λ l. refl) (λ l. refl) (start_held (with_exports p p.exports) (with_start p) p.start h.start (λ l a text s. list_made u32 (λ x. with_start p (Some x) 8) text a s)) s7 in
    let s9 = placed_list 9 (with_start p p.start) (with_elements p) element written_element (p.elements) _ (omega arith) (λ l. refl) (λ l. refl) (λ l xs text s. list_made (vector element) (λ x. with_elements p x 9) text xs s) h.elements s8 in
    let s10 = placed_bodies 10 (with_elements p p.elements) (with_funcs p) (types_of p.funcs) p.funcs _ (omega arith) (λ l. refl) (λ l. refl) (λ l fit. bodies_made (types_of p.funcs) (λ x. with_funcs p x 10) p.funcs fit) h.bodies s9 in
    placed_list 11 (with_funcs p p.funcs) (with_segments p) segment written_segment (p.segments) _ (omega arith) (λ l. refl) (λ l. refl) (λ l xs text s. list_made (vector segment) (λ x. with_segments p x 11) text xs s) h.segments s10

-- the shortest spelling of parts that fit
pub fits_spelled : (p : Parts) → FitsParts p → IsSpelled (written p) p
fits_spelled p h =
    let a = placed_parts p h in
    record {
      front = written_preamble;
      back = a.back;
      whole = a.whole;
      begins = preamble_made;
      count = a.reached.count;
      held = with_segments p p.segments a.last;
      goes_on = a.reached.spelled;
      bodies = sym (length-map p.funcs (λ (f : Func). f.ftype));
      parts_is = refl;
    }

-- the shortest spelling of what has one
pub written_spells : (p : Parts) → HasSpelling p → IsSpelled (written p) p
written_spells p h = fits_spelled p (spelled_fits p h.0 h.2)
