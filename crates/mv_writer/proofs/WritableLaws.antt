-- Parts that keep what a module keeps, in range and not too long, are spelled by the shortest spelling.
use Rattle.std.proofs.Common.{◌≡◌, ℕ, ◌+◌, ◌^◌, ◌≤◌, ◌<◌, List, [], ◌∷◌, ◌++◌, length, Option, Some, None, refl, sym, arith}
use Rattle.std.specs.Prelude.{flat_map, IfSome}
use Rattle.std.specs.List.{AllByRecursion}
use Rattle.std.proofs.lemmas.List.{append-nil, length-append, length-map}
use Rattle.mv_syntax.specs.declared.types.Limits.{Limits}
use Rattle.mv_syntax.specs.declared.module.Import.{Import}
use Rattle.mv_syntax.specs.declared.module.Func.{Func}
use Rattle.mv_syntax.specs.declared.module.Export.{Export}
use Rattle.mv_syntax.specs.Types.{func_type}
use Rattle.mv_syntax.specs.Form.{Form}
use Rattle.mv_syntax.specs.Forms.{each_of}
use Rattle.mv_syntax.specs.Numbers.{u32}
use Rattle.mv_syntax.specs.Parts.{import_, table, memory, global, export, element, segment, func}
use Rattle.mv_syntax.specs.Sections.{Parts, Sections}
use Rattle.mv_syntax.specs.Modules.{IsSpelled, HasSpelling}
use Rattle.mv_syntax.specs.Kept.{IsSoundCode, IsSoundType, IsSoundImport, IsSoundFunc, IsSoundExport}
use Rattle.mv_writer.specs.Written.{short_u32, written_vector, behind_size, written_func_type, written_limits, written_table, written_import, written_global, written_export, written_element, written_segment, written_func, written_section, written_list, written_one, written_preamble, written}
use Rattle.mv_writer.specs.Writable.{AreU32, CodeInRange, ImportInRange, FuncInRange, LimitsInRange, ExportInRange, ElementInRange, SegmentInRange, IsWritable}
use Rattle.mv_writer.proofs.ShortForms.{u32_made, u32_few, some_group}
use Rattle.mv_writer.proofs.Fitting.{FitsList, FitsOption}
use Rattle.mv_writer.proofs.Placing.{types_of, FitsParts, fits_spelled}
use Rattle.mv_writer.proofs.Shortest.{total, written_length}
use Rattle.mv_writer.proofs.Small.{Small, small_append, small_u32, small_sized, small_bytes}
use Rattle.mv_writer.proofs.Encoded.{Encodes, AllEncode, many_small, vector_encoded, count_few, each_encoded, numbers_encoded}
use Rattle.mv_writer.proofs.Items.{signature_written, import_written, func_written, table_written, memory_written, limits_few, limits_small, global_written, export_written, element_written, segment_written}

-- ## Each section is no longer than the whole

abbrev pub sections_of : Parts → Sections
sections_of p = record { last = 11; declared = types_of p.funcs; parts = p }

pub whole_is : (p : Parts) → length (written p) ≡ 8 + total (sections_of p)
whole_is p = written_length (sections_of p) refl

-- the items of a section are no longer than the section
items_few : {A : Type 0} (id : ℕ) (w : A → List ℕ) (items : List A) → length (flat_map w items) ≤ length (written_list id w items)
items_few id w [] = omega arith
items_few id w (x ∷ items) = omega (
  arith,
  length-append (short_u32 (length (written_vector w (x ∷ items)))) (written_vector w (x ∷ items)),
  length-append (short_u32 (length (x ∷ items))) (flat_map w (x ∷ items)),
)

vector_few : {A : Type 0} (id : ℕ) (w : A → List ℕ) (items : List A) → length (written_list id w items) < 2 ^ 32 → length (written_vector w items) < 2 ^ 32
vector_few id w [] lt = omega (arith, length-append (short_u32 0) (flat_map w []), u32_few 0)
vector_few id w (x ∷ items) lt = omega (arith, lt, length-append (short_u32 (length (written_vector w (x ∷ items)))) (written_vector w (x ∷ items)))

list_encoded : {A : Type 0} (f : Form A) (w : A → List ℕ) (P Q : A → Type 0) → ((a : A) → P a → Q a → length (w a) < 2 ^ 32 → Encodes f w a) → (id : ℕ) (items : List A) → AllByRecursion P items → AllByRecursion Q items → length (written_list id w items) < 2 ^ 32 → AllEncode f w items
list_encoded f w P Q make id items p q lt = each_encoded f w P Q make items p q (omega (arith, lt, items_few id w items))

list_fits : {A : Type 0} (f : Form A) (w : A → List ℕ) → ((a : A) → 1 ≤ length (w a)) → (id : ℕ) (items : List A) → AllEncode f w items → length (written_list id w items) < 2 ^ 32 → FitsList f w items
list_fits f w some id items h lt =
    let few : length items < 2 ^ 32 = omega (arith, lt, items_few id w items, count_few w some items) in
    ((vector_encoded f w items few h).spelled, vector_few id w items lt)

-- ## Functions, each with its own type

abbrev ByFunc : Func → Type 0
ByFunc f = Encodes (func f.ftype) written_func f

funcs_encoded : (fs : List Func) → AllByRecursion IsSoundFunc fs → AllByRecursion FuncInRange fs → length (flat_map written_func fs) < 2 ^ 32 → AllByRecursion ByFunc fs
funcs_encoded [] k h lt = tt
funcs_encoded (f ∷ fs) k h lt =
    let size = length-append (written_func f) (flat_map written_func fs) in
    (func_written f k.0 h.0 (omega (arith, lt, size)), funcs_encoded fs k.1 h.1 (omega (arith, lt, size)))

each_func : (fs : List Func) → AllByRecursion ByFunc fs → (each_of func (types_of fs)).spells (flat_map written_func fs) fs
unfolding each_of
each_func [] h = (refl, refl)
each_func (f ∷ fs) h = record {
  first = f;
  front = written_func f;
  back = flat_map written_func fs;
  whole = refl;
  front_spells = h.0.spelled;
  back_spells = record { first = fs; front = flat_map written_func fs; back = []; whole = sym (append-nil (flat_map written_func fs)); front_spells = each_func fs h.1; back_spells = (refl, refl) };
}

funcs_small : (fs : List Func) → AllByRecursion ByFunc fs → Small (flat_map written_func fs)
funcs_small [] h = tt
funcs_small (f ∷ fs) h = small_append (written_func f) (flat_map written_func fs) h.0.small (funcs_small fs h.1)

types_in_range : (fs : List Func) → AllByRecursion FuncInRange fs → AreU32 (types_of fs)
types_in_range [] h = tt
types_in_range (f ∷ fs) h = (h.0.type_is, types_in_range fs h.1)

-- ## Each part takes at least a byte

some_sized : (t : List ℕ) → 1 ≤ length (behind_size t)
some_sized t = omega (arith, length-append (short_u32 (length t)) t, some_group (length t))

some_import : (i : Import) → 1 ≤ length (written_import i)
some_import i = omega (arith, length-append (behind_size i.«module» ++ behind_size i.name) (0 ∷ short_u32 i.ftype))

some_export : (x : Export) → 1 ≤ length (written_export x)
some_export x = omega (arith, length-append (behind_size x.name) (x.kind ∷ short_u32 x.index))

-- ## The parts

record EncodedParts (p : Parts) : Type 0 where
  types : AllEncode func_type written_func_type p.types
  imports : AllEncode import_ written_import p.imports
  declared : AllEncode u32 short_u32 (types_of p.funcs)
  globals : AllEncode global written_global p.globals
  exports : AllEncode export written_export p.exports
  elements : AllEncode element written_element p.elements
  funcs : AllByRecursion ByFunc p.funcs
  segments : AllEncode segment written_segment p.segments

parts_encoded : (p : Parts) → IsWritable p → EncodedParts p
parts_encoded p h =
    let k = h.kept in
    let r = h.in_range in
    let size : 8 + total (sections_of p) < 2 ^ 32 = omega (arith, h.size, whole_is p) in
    record {
      types = list_encoded func_type written_func_type IsSoundType IsSoundType (λ t s _ _. signature_written t s) 1 p.types k.types k.types (omega (arith, size));
      imports = list_encoded import_ written_import IsSoundImport ImportInRange import_written 2 p.imports k.imports r.imports (omega (arith, size));
      declared = numbers_encoded (types_of p.funcs) (types_in_range p.funcs r.funcs);
      globals = list_encoded global written_global (λ g. IsSoundCode g.init) (λ g. CodeInRange g.init) global_written 6 p.globals k.globals r.globals (omega (arith, size));
      exports = list_encoded export written_export IsSoundExport ExportInRange export_written 7 p.exports k.exports r.exports (omega (arith, size));
      elements = list_encoded element written_element (λ e. IsSoundCode e.offset) ElementInRange element_written 9 p.elements k.elements r.elements (omega (arith, size));
      funcs = funcs_encoded p.funcs k.funcs r.funcs (omega (arith, size, items_few 10 written_func p.funcs));
      segments = list_encoded segment written_segment (λ s. IsSoundCode s.offset) SegmentInRange segment_written 11 p.segments k.segments r.segments (omega (arith, size));
    }

table_fits : (o : Option Limits) → IfSome o (λ l. l.min ≤ 65536) → IfSome o LimitsInRange → FitsOption table written_table o
table_fits None k h = tt
table_fits (Some l) k h = (table_written l k h, omega (arith, limits_few l))

memory_fits : (o : Option Limits) → IfSome o (λ l. l.min ≤ 1024) → IfSome o LimitsInRange → FitsOption memory written_limits o
memory_fits None k h = tt
memory_fits (Some l) k h = (memory_written l k h, omega (arith, limits_few l))

start_fits : (o : Option ℕ) → IfSome o (λ x. x < 2 ^ 32) → FitsOption u32 short_u32 o
start_fits None h = tt
start_fits (Some x) h = (u32_made x h, omega (arith, u32_few x))

parts_fit : (p : Parts) → IsWritable p → EncodedParts p → FitsParts p
parts_fit p h e =
    let k = h.kept in
    let r = h.in_range in
    let size : 8 + total (sections_of p) < 2 ^ 32 = omega (arith, h.size, whole_is p) in
    record {
      types = list_fits func_type written_func_type (λ t. omega arith) 1 p.types e.types (omega (arith, size));
      imports = list_fits import_ written_import some_import 2 p.imports e.imports (omega (arith, size));
      declared = list_fits u32 short_u32 some_group 3 (types_of p.funcs) e.declared (omega (arith, size));
      table = table_fits p.table k.table r.table;
      memory = memory_fits p.memory k.memory r.memory;
      globals = list_fits global written_global (λ g. omega arith) 6 p.globals e.globals (omega (arith, size));
      exports = list_fits export written_export some_export 7 p.exports e.exports (omega (arith, size));
      start = start_fits p.start r.start;
      elements = list_fits element written_element (λ x. omega arith) 9 p.elements e.elements (omega (arith, size));
      bodies = record {
        spelled = each_func p.funcs e.funcs;
        size = vector_few 10 written_func p.funcs (omega (arith, size));
        few = omega (arith, size, items_few 10 written_func p.funcs, count_few written_func (λ f. some_sized _) p.funcs);
        count = sym (length-map p.funcs (λ (f : Func). f.ftype));
        types = refl;
      };
      segments = list_fits segment written_segment (λ s. omega arith) 11 p.segments e.segments (omega (arith, size));
    }

-- ## The bytes

small_section : (id : ℕ) (contents : List ℕ) → id < 256 → Small contents → Small (written_section id contents)
small_section id contents lt h = (lt, small_sized contents h)

small_list : {A : Type 0} (id : ℕ) (w : A → List ℕ) (items : List A) → id < 256 → Small (flat_map w items) → Small (written_list id w items)
small_list id w [] lt h = tt
small_list id w (x ∷ items) lt h = small_section id (written_vector w (x ∷ items)) lt (small_append (short_u32 (length (x ∷ items))) (flat_map w (x ∷ items)) (small_u32 (length (x ∷ items))) h)

small_one : {A : Type 0} (id : ℕ) (w : A → List ℕ) (o : Option A) → id < 256 → ((a : A) → Small (w a)) → Small (written_one id w o)
small_one id w None lt h = tt
small_one id w (Some a) lt h = small_section id (w a) lt (h a)

preamble_small : Small written_preamble
preamble_small = (omega arith, (omega arith, (omega arith, (omega arith, (omega arith, (omega arith, (omega arith, (omega arith, tt))))))))

record SmallText (xs : List ℕ) : Type 0 where
  holds : Small xs

small_text : (xs : List ℕ) → Small xs → SmallText xs
small_text xs h = record { holds = h }

joined : {xs ys : List ℕ} → SmallText xs → SmallText ys → SmallText (xs ++ ys)
joined {xs} {ys} h k = record { holds = small_append xs ys h.holds k.holds }

written_small : (p : Parts) → EncodedParts p → Small (written p)
unfolding written
written_small p h =
    let all : SmallText (written p) =
    joined (joined (joined (joined (joined (joined (joined (joined (joined (joined (joined (small_text written_preamble preamble_small)
    (small_text (written_list 1 written_func_type p.types) (small_list 1 written_func_type p.types (omega arith) (many_small func_type written_func_type p.types h.types))))
    (small_text (written_list 2 written_import p.imports) (small_list 2 written_import p.imports (omega arith) (many_small import_ written_import p.imports h.imports))))
    (small_text (written_list 3 short_u32 (types_of p.funcs)) (small_list 3 short_u32 (types_of p.funcs) (omega arith) (many_small u32 short_u32 (types_of p.funcs) h.declared))))
    (small_text (written_one 4 (λ t. 1 ∷ written_table t) p.table) (small_one 4 (λ t. 1 ∷ written_table t) p.table (omega arith) (λ (l : Limits). (omega arith, (omega arith, limits_small l))))))
    (small_text (written_one 5 (λ m. 1 ∷ written_limits m) p.memory) (small_one 5 (λ m. 1 ∷ written_limits m) p.memory (omega arith) (λ (l : Limits). (omega arith, limits_small l)))))
    (small_text (written_list 6 written_global p.globals) (small_list 6 written_global p.globals (omega arith) (many_small global written_global p.globals h.globals))))
    (small_text (written_list 7 written_export p.exports) (small_list 7 written_export p.exports (omega arith) (many_small export written_export p.exports h.exports))))
    (small_text (written_one 8 short_u32 p.start) (small_one 8 short_u32 p.start (omega arith) (λ (x : ℕ). small_u32 x))))
    (small_text (written_list 9 written_element p.elements) (small_list 9 written_element p.elements (omega arith) (many_small element written_element p.elements h.elements))))
    (small_text (written_list 10 written_func p.funcs) (small_list 10 written_func p.funcs (omega arith) (funcs_small p.funcs h.funcs))))
    (small_text (written_list 11 written_segment p.segments) (small_list 11 written_segment p.segments (omega arith) (many_small segment written_segment p.segments h.segments))) in
    all.holds

-- ## The laws

pub writable_spelled : (p : Parts) → IsWritable p → IsSpelled (written p) p
writable_spelled p h = fits_spelled p (parts_fit p h (parts_encoded p h))

pub writable_has_spelling : (p : Parts) → IsWritable p → HasSpelling p
writable_has_spelling p h = (written p, small_bytes (written p) (written_small p (parts_encoded p h)), writable_spelled p h)
