-- The parts that a text spells are those of a module: they keep what a module keeps, in range, and all of them take few bytes.
use Rattle.std.proofs.Common.{◌≡◌, ℕ, ◌+◌, ◌*◌, ◌^◌, ◌≤◌, ◌<◌, List, [], ◌∷◌, ◌++◌, length, Option, Some, None, refl, sym, ap, subst, ◌∙◌, append_assoc, arith}
use Rattle.std.specs.Prelude.{flat_map, IfSome}
use Rattle.std.specs.List.{AllByRecursion}
use Rattle.std.proofs.lemmas.List.{append-nil, length-append, length-map}
use Rattle.mv_syntax.specs.declared.ops.ValType.{ValType}
use Rattle.mv_syntax.specs.declared.ops.ValType.TheVariants.{I32}
use Rattle.mv_syntax.specs.declared.types.Limits.{Limits}
use Rattle.mv_syntax.specs.declared.instr.Instr.{Instr}
use Rattle.mv_syntax.specs.declared.instr.Instr.TheVariants.{End, Const}
use Rattle.mv_syntax.specs.declared.module.Import.{Import}
use Rattle.mv_syntax.specs.declared.module.Func.{Func as Function}
use Rattle.mv_syntax.specs.declared.module.Global.{Global}
use Rattle.mv_syntax.specs.declared.module.Export.{Export}
use Rattle.mv_syntax.specs.declared.module.Element.{Element}
use Rattle.mv_syntax.specs.declared.module.Segment.{Segment}
use Rattle.mv_syntax.specs.Types.{bit_width}
use Rattle.mv_syntax.specs.Tree.{plain, done}
use Rattle.mv_syntax.specs.Sections.{Parts, nothing_yet}
use Rattle.mv_syntax.specs.Modules.{HasSpelling}
use Rattle.mv_syntax.specs.Kept.{IsSpellable, IsSoundCode, IsSoundType, IsSoundImport, IsSoundFunc, IsSoundExport, Keeps}
use Rattle.mv_writer.specs.Written.{short_u32, written_vector, written_func_type, written_limits, written_table, written_import, written_global, written_export, written_element, written_segment, written_func, written_list, written_one, written}
use Rattle.mv_writer.specs.Writable.{InstrInRange, CodeInRange, ImportInRange, FuncInRange, LimitsInRange, ExportInRange, ElementInRange, SegmentInRange, InRange}
use Rattle.mv_writer.proofs.ShortForms.{u32_few}
use Rattle.mv_writer.proofs.Placing.{types_of}
use Rattle.mv_writer.proofs.Small.{small_bytes}
use Rattle.mv_writer.proofs.Items.{limits_few}
use Rattle.mv_writer.proofs.WritableLaws.{whole_is, writable_has_spelling}
use Rattle.mv_scan.specs.declared.token.Token.{Token}
use Rattle.mv_scan.specs.Lines.{lines_of}
use Rattle.mv_statements.specs.declared.statement.Statement.{Statement}
use Rattle.mv_statements.specs.declared.statement.Statement.TheVariants as statements
use Rattle.mv_statements.specs.Statements.{Spells as SpellsStatement, constant_code}
use Rattle.mv_text.specs.Assembly.{added, with_function}
use Rattle.mv_text.specs.Grammar.{sentences, SpellsCode, SpellsFunction, Item, Directive, Defines, SpellsItem, with_item, SpellsItems, Spells}
use Rattle.mv_text.proofs.Sizes.{numbers_few, code_cost, signature_few, import_few, export_few, global_few, element_few, segment_few, func_cost, func_few}
use Rattle.mv_text.proofs.Facts.{cost, IsFit, spelled_fits}
use Rattle.mv_text.proofs.Costs.{AllGood, total_cost, text_total}

-- ## Lists

flat_more : {A : Type 0} (w : A → List ℕ) (items : List A) (a : A) → flat_map w (items ++ a ∷ []) ≡ flat_map w items ++ w a
flat_more w [] a = append-nil (w a)
flat_more w (x ∷ items) a = ap (λ (t : List ℕ). w x ++ t) (flat_more w items a) ∙ sym (append_assoc (w x) (flat_map w items) (w a))

bytes_more : {A : Type 0} (w : A → List ℕ) (items : List A) (a : A) → length (flat_map w (items ++ a ∷ [])) ≡ length (flat_map w items) + length (w a)
bytes_more w items a = ap length (flat_more w items a) ∙ length-append (flat_map w items) (w a)

all_more : {A : Type 0} (P : A → Type 0) (items : List A) (a : A) → AllByRecursion P items → P a → AllByRecursion P (items ++ a ∷ [])
all_more P [] a h p = (p, tt)
all_more P (x ∷ items) a h p = (h.0, all_more P items a h.1 p)

firsts : {A : Type 0} (P Q : A → Type 0) (items : List A) → AllByRecursion (λ a. P a × Q a) items → AllByRecursion P items
firsts P Q [] h = tt
firsts P Q (x ∷ items) h = (h.0.0, firsts P Q items h.1)

seconds : {A : Type 0} (P Q : A → Type 0) (items : List A) → AllByRecursion (λ a. P a × Q a) items → AllByRecursion Q items
seconds P Q [] h = tt
seconds P Q (x ∷ items) h = (h.0.1, seconds P Q items h.1)

first_of : {A : Type 0} (P Q : A → Type 0) (o : Option A) → IfSome o (λ a. P a × Q a) → IfSome o P
first_of P Q None h = tt
first_of P Q (Some a) h = h.0

second_of : {A : Type 0} (P Q : A → Type 0) (o : Option A) → IfSome o (λ a. P a × Q a) → IfSome o Q
second_of P Q None h = tt
second_of P Q (Some a) h = h.1

-- ## Parts

abbrev GoodImport : Import → Type 0
GoodImport i = IsSoundImport i × ImportInRange i

abbrev GoodFunc : Function → Type 0
GoodFunc f = IsSoundFunc f × FuncInRange f

abbrev GoodLimits : ℕ → Limits → Type 0
GoodLimits most l = (l.min ≤ most) × LimitsInRange l

abbrev GoodCode : List Instr → Type 0
GoodCode code = IsSoundCode code × CodeInRange code

abbrev GoodGlobal : Global → Type 0
GoodGlobal g = GoodCode g.init

abbrev GoodExport : Export → Type 0
GoodExport x = IsSoundExport x × ExportInRange x

abbrev GoodElement : Element → Type 0
GoodElement e = IsSoundCode e.offset × ElementInRange e

abbrev GoodSegment : Segment → Type 0
GoodSegment s = IsSoundCode s.offset × SegmentInRange s

-- how many bytes a writer takes for the parts, each function with its type
abbrev spent : Parts → ℕ
spent p =
    length (flat_map written_func_type p.types)
    + length (flat_map written_import p.imports)
    + 5 * length p.funcs
    + length (flat_map written_func p.funcs)
    + length (flat_map written_global p.globals)
    + length (flat_map written_export p.exports)
    + length (flat_map written_element p.elements)
    + length (flat_map written_segment p.segments)

-- at most seventy bytes for each unit of the words
record InParts (p : Parts) (n : ℕ) : Type 0 where
  types : AllByRecursion IsSoundType p.types
  imports : AllByRecursion GoodImport p.imports
  funcs : AllByRecursion GoodFunc p.funcs
  table : IfSome p.table (GoodLimits 65536)
  memory : IfSome p.memory (GoodLimits 1024)
  globals : AllByRecursion GoodGlobal p.globals
  exports : AllByRecursion GoodExport p.exports
  start : IfSome p.start (λ x. x < 2 ^ 32)
  elements : AllByRecursion GoodElement p.elements
  segments : AllByRecursion GoodSegment p.segments
  size : spent p ≤ 70 * n

nothing_in : InParts nothing_yet.parts 0
nothing_in = record { types = tt; imports = tt; funcs = tt; table = tt; memory = tt; globals = tt; exports = tt; start = tt; elements = tt; segments = tt; size = omega arith }

parts_wider : (p : Parts) (n m : ℕ) → InParts p n → n ≤ m → InParts p m
parts_wider p n m h le = record { types = h.types; imports = h.imports; funcs = h.funcs; table = h.table; memory = h.memory; globals = h.globals; exports = h.exports; start = h.start; elements = h.elements; segments = h.segments; size = omega (arith, h.size) }

const_good : (t : ValType) (v : ℕ) → v < 2 ^ bit_width t → GoodCode (constant_code t v)
const_good t v lt = (record { closed = (plain (Const t v) done, refl); spellable = (lt, (tt, tt)) }, (tt, (tt, tt)))

const_is : (t : ValType) (v : ℕ) (code : List Instr) → code ≡ constant_code t v → v < 2 ^ bit_width t → GoodCode code × (code_cost code ≡ 40)
const_is t v code e lt = subst (λ (c : List Instr). GoodCode c × (code_cost c ≡ 40)) (sym e) (const_good t v lt, refl)

directive_in : (st : Statement) (p : Parts) (n c : ℕ) → InParts p n → IsFit st c → 1 ≤ c → InParts (added st p) (n + c)
directive_in (statements.Signature t) p n c h f some =
    record { types = all_more IsSoundType p.types t h.types f.0; imports = h.imports; funcs = h.funcs; table = h.table; memory = h.memory; globals = h.globals; exports = h.exports; start = h.start; elements = h.elements; segments = h.segments; size = omega (arith, h.size, bytes_more written_func_type p.types t, signature_few t, f.1) }
directive_in (statements.Import i) p n c h f some =
    let good : GoodImport i = (record { module_is = f.0.utf8; name_is = f.1.utf8 }, record { module_is = small_bytes i.«module» f.0.small; name_is = small_bytes i.name f.1.small; type_is = f.2 }) in
    record { types = h.types; imports = all_more GoodImport p.imports i h.imports good; funcs = h.funcs; table = h.table; memory = h.memory; globals = h.globals; exports = h.exports; start = h.start; elements = h.elements; segments = h.segments; size = omega (arith, h.size, bytes_more written_import p.imports i, import_few i, f.3) }
directive_in (statements.Func t locals) p n c h f some = parts_wider p n (n + c) h (omega arith)
directive_in statements.EndFunc p n c h f some = parts_wider p n (n + c) h (omega arith)
directive_in (statements.Instr i) p n c h f some = parts_wider p n (n + c) h (omega arith)
directive_in (statements.Table l) p n c h f some =
    record { types = h.types; imports = h.imports; funcs = h.funcs; table = f; memory = h.memory; globals = h.globals; exports = h.exports; start = h.start; elements = h.elements; segments = h.segments; size = omega (arith, h.size) }
directive_in (statements.Memory l) p n c h f some =
    record { types = h.types; imports = h.imports; funcs = h.funcs; table = h.table; memory = f; globals = h.globals; exports = h.exports; start = h.start; elements = h.elements; segments = h.segments; size = omega (arith, h.size) }
directive_in (statements.Start x) p n c h f some =
    record { types = h.types; imports = h.imports; funcs = h.funcs; table = h.table; memory = h.memory; globals = h.globals; exports = h.exports; start = f; elements = h.elements; segments = h.segments; size = omega (arith, h.size) }
directive_in (statements.Global g) p n c h f some =
    let code = const_is g.vtype f.0 g.init (ap (λ (x : Global). x.init) f.1) f.2 in
    record { types = h.types; imports = h.imports; funcs = h.funcs; table = h.table; memory = h.memory; globals = all_more GoodGlobal p.globals g h.globals code.0; exports = h.exports; start = h.start; elements = h.elements; segments = h.segments; size = omega (arith, h.size, bytes_more written_global p.globals g, global_few g, code.1) }
directive_in (statements.Export x) p n c h f some =
    let good : GoodExport x = (record { name_is = f.0.utf8; kind_is = f.1 }, record { name_is = small_bytes x.name f.0.small; index_is = f.2 }) in
    record { types = h.types; imports = h.imports; funcs = h.funcs; table = h.table; memory = h.memory; globals = h.globals; exports = all_more GoodExport p.exports x h.exports good; start = h.start; elements = h.elements; segments = h.segments; size = omega (arith, h.size, bytes_more written_export p.exports x, export_few x, f.3) }
directive_in (statements.Element e) p n c h f some =
    let code = const_is I32 f.0 e.offset (ap (λ (x : Element). x.offset) f.1) f.2 in
    let good : GoodElement e = (code.0.0, record { offset_is = code.0.1; funcs_are = f.3 }) in
    record { types = h.types; imports = h.imports; funcs = h.funcs; table = h.table; memory = h.memory; globals = h.globals; exports = h.exports; start = h.start; elements = all_more GoodElement p.elements e h.elements good; segments = h.segments; size = omega (arith, h.size, bytes_more written_element p.elements e, element_few e, code.1, f.4) }
directive_in (statements.Segment s) p n c h f some =
    let code = const_is I32 f.0 s.offset (ap (λ (x : Segment). x.offset) f.1) f.2 in
    let good : GoodSegment s = (code.0.0, record { offset_is = code.0.1; bytes_are = small_bytes s.bytes f.4 }) in
    record { types = h.types; imports = h.imports; funcs = h.funcs; table = h.table; memory = h.memory; globals = h.globals; exports = h.exports; start = h.start; elements = h.elements; segments = all_more GoodSegment p.segments s h.segments good; size = omega (arith, h.size, bytes_more written_segment p.segments s, segment_few s, code.1, f.3) }

-- ## Functions of the text

some_cost : (s : Statement) (words : List Token) → SpellsStatement s words → 1 ≤ cost words
some_cost s words h = omega (arith, ap cost h.written)

code_fits : (code : List Instr) (lines : List (List Token)) → SpellsCode code lines → AllGood lines → AllByRecursion IsSpellable code × CodeInRange code × (code_cost code ≤ 25 * total_cost lines)
code_fits [] lines h good = (tt, tt, omega arith)
code_fits (i ∷ code) lines h good =
    let g : AllGood (h.0 ∷ h.1) = subst AllGood h.2 good in
    let total = ap total_cost h.2 in
    let one = spelled_fits (statements.Instr i) h.0 h.3 g.0 in
    let rest = code_fits code h.1 h.4 g.1 in
    ((one.0, rest.0), (one.1, rest.1), omega (arith, total, one.2, rest.2, some_cost (statements.Instr i) h.0 h.3))

end_cost : (code : List Instr) → code_cost (code ++ End ∷ []) ≡ code_cost code + 20
end_cost [] = refl
end_cost (i ∷ code) = omega (arith, end_cost code)

total-append : (xs ys : List (List Token)) → total_cost (xs ++ ys) ≡ total_cost xs + total_cost ys
total-append [] ys = omega arith
total-append (x ∷ xs) ys = omega (arith, total-append xs ys)

good_lines : (xs ys : List (List Token)) → AllGood (xs ++ ys) → AllGood xs × AllGood ys
good_lines [] ys h = (tt, h)
good_lines (x ∷ xs) ys h = (let r = good_lines xs ys h.1 in ((h.0, r.0), r.1))

function_in : (f : Function) (lines : List (List Token)) (p : Parts) (n : ℕ) → SpellsFunction f lines → AllGood lines → InParts p n → InParts (with_function f p) (n + total_cost lines)
function_in f lines p n s good h =
    let c : ℕ = total_cost lines in
    let g : AllGood (s.first ∷ (s.inner ++ s.last ∷ [])) = subst AllGood s.whole good in
    let gi = good_lines s.inner (s.last ∷ []) g.1 in
    let total : c ≡ cost s.first + (total_cost s.inner + (cost s.last + 0)) = ap total_cost s.whole ∙ ap (λ (x : ℕ). cost s.first + x) (total-append s.inner (s.last ∷ [])) in
    let head = spelled_fits (statements.Func f.ftype f.locals) s.first s.begins g.0 in
    let code = code_fits s.code s.inner s.each gi.0 in
    let spellable : AllByRecursion IsSpellable f.code = subst (λ (x : List Instr). AllByRecursion IsSpellable x) (sym s.code_is) (all_more IsSpellable s.code End code.0 tt) in
    let ranged : CodeInRange f.code = subst CodeInRange (sym s.code_is) (all_more InstrInRange s.code End code.1 tt) in
    let good : GoodFunc f = (record { locals_are = head.1; code_is = record { closed = s.closed; spellable = spellable } }, record { type_is = head.0; code_is = ranged }) in
    let size : func_cost f + 5 ≤ 70 * c = omega (arith, ap code_cost s.code_is, end_cost s.code, code.2, head.2, total, some_cost (statements.Func f.ftype f.locals) s.first s.begins) in
    record { types = h.types; imports = h.imports; funcs = all_more GoodFunc p.funcs f h.funcs good; table = h.table; memory = h.memory; globals = h.globals; exports = h.exports; start = h.start; elements = h.elements; segments = h.segments; size = omega (arith, h.size, size, bytes_more written_func p.funcs f, length-append p.funcs (f ∷ []), func_few f) }

item_in : (item : Item) (lines : List (List Token)) (p : Parts) (n : ℕ) → SpellsItem item p lines → AllGood lines → InParts p n → InParts (with_item item p) (n + total_cost lines)
item_in (Directive st) lines p n s good h =
    let total : total_cost lines ≡ cost s.words = ap total_cost s.whole ∙ omega arith in
    let g : AllGood (s.words ∷ []) = subst AllGood s.whole good in
    let f = spelled_fits st s.words s.spelled g.0 in
    subst (λ (k : ℕ). InParts (added st p) (n + k)) (sym total) (directive_in st p n (cost s.words) h f (some_cost st s.words s.spelled))
item_in (Defines f) lines p n s good h = function_in f lines p n s good h

items_in : (items : List Item) (before after : Parts) (lines : List (List Token)) (n : ℕ) → SpellsItems items before after lines → AllGood lines → InParts before n → InParts after (n + total_cost lines)
items_in [] before after lines n s good h = subst (λ (p : Parts). InParts p (n + total_cost lines)) (sym s.1) (parts_wider before n (n + total_cost lines) h (omega arith))
items_in (item ∷ items) before after lines n s good h =
    let g = good_lines s.0 s.1 (subst AllGood s.2 good) in
    let total : total_cost lines ≡ total_cost s.0 + total_cost s.1 = ap total_cost s.2 ∙ total-append s.0 s.1 in
    let one = item_in item s.0 before n s.3 g.0 h in
    let rest = items_in items (with_item item before) after s.1 (n + total_cost s.0) s.4 g.1 one in
    let same : (n + total_cost s.0) + total_cost s.1 ≡ n + total_cost lines = omega arith in
    subst (λ (k : ℕ). InParts after k) same rest

-- ## The module

section_few : {A : Type 0} (id : ℕ) (w : A → List ℕ) (items : List A) → length (written_list id w items) ≤ 11 + length (flat_map w items)
section_few id w [] = omega arith
section_few id w (x ∷ items) = omega (
  arith,
  length-append (short_u32 (length (written_vector w (x ∷ items)))) (written_vector w (x ∷ items)),
  length-append (short_u32 (length (x ∷ items))) (flat_map w (x ∷ items)),
  u32_few (length (written_vector w (x ∷ items))),
  u32_few (length (x ∷ items)),
)

one_few : {A : Type 0} (id : ℕ) (w : A → List ℕ) (o : Option A) → ((a : A) → length (w a) ≤ 13) → length (written_one id w o) ≤ 19
one_few id w None h = omega arith
one_few id w (Some a) h = omega (arith, length-append (short_u32 (length (w a))) (w a), u32_few (length (w a)), h a)

written_few : (p : Parts) → length (written p) ≤ 200 + spent p
written_few p = omega (
  arith,
  whole_is p,
  section_few 1 written_func_type p.types,
  section_few 2 written_import p.imports,
  section_few 3 short_u32 (types_of p.funcs),
  numbers_few (types_of p.funcs),
  length-map p.funcs (λ (f : Function). f.ftype),
  one_few 4 (λ t. 1 ∷ written_table t) p.table (λ l. omega (arith, limits_few l)),
  one_few 5 (λ m. 1 ∷ written_limits m) p.memory (λ l. omega (arith, limits_few l)),
  section_few 6 written_global p.globals,
  section_few 7 written_export p.exports,
  one_few 8 short_u32 p.start (λ x. omega (arith, u32_few x)),
  section_few 9 written_element p.elements,
  section_few 10 written_func p.funcs,
  section_few 11 written_segment p.segments,
)

parts_kept : (p : Parts) (n : ℕ) → InParts p n → Keeps p
parts_kept p n h = record {
  types = h.types;
  imports = firsts IsSoundImport ImportInRange p.imports h.imports;
  funcs = firsts IsSoundFunc FuncInRange p.funcs h.funcs;
  table = first_of (λ l. l.min ≤ 65536) LimitsInRange p.table h.table;
  memory = first_of (λ l. l.min ≤ 1024) LimitsInRange p.memory h.memory;
  globals = firsts (λ g. IsSoundCode g.init) (λ g. CodeInRange g.init) p.globals h.globals;
  exports = firsts IsSoundExport ExportInRange p.exports h.exports;
  elements = firsts (λ e. IsSoundCode e.offset) ElementInRange p.elements h.elements;
  segments = firsts (λ s. IsSoundCode s.offset) SegmentInRange p.segments h.segments;
}

parts_in_range : (p : Parts) (n : ℕ) → InParts p n → InRange p
parts_in_range p n h = record {
  imports = seconds IsSoundImport ImportInRange p.imports h.imports;
  funcs = seconds IsSoundFunc FuncInRange p.funcs h.funcs;
  table = second_of (λ l. l.min ≤ 65536) LimitsInRange p.table h.table;
  memory = second_of (λ l. l.min ≤ 1024) LimitsInRange p.memory h.memory;
  globals = seconds (λ g. IsSoundCode g.init) (λ g. CodeInRange g.init) p.globals h.globals;
  exports = seconds IsSoundExport ExportInRange p.exports h.exports;
  start = h.start;
  elements = seconds (λ e. IsSoundCode e.offset) ElementInRange p.elements h.elements;
  segments = seconds (λ s. IsSoundCode s.offset) SegmentInRange p.segments h.segments;
}

-- the parts that a text spells are those of a module
pub has_spelling : (text : List ℕ) (p : Parts) → Spells text p → HasSpelling p
has_spelling text p s =
    let t = text_total text in
    let n : ℕ = 0 + total_cost (sentences (lines_of text)) in
    let h : InParts p n = items_in s.items nothing_yet.parts p (sentences (lines_of text)) 0 s.spelled t.0 nothing_in in
    writable_has_spelling p (record { kept = parts_kept p n h; in_range = parts_in_range p n h; size = omega (arith, t.1, s.small, h.size, written_few p) })
