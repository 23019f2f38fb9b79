-- A module that has a spelling keeps what is said of it.
use Rattle.std.proofs.Common.{◌≡◌, ℕ, zero, suc, ◌+◌, ◌*◌, ◌-◌, ◌<◌, ◌≤◌, Bool, true, false, eqb, List, [], ◌∷◌, ◌++◌, length, replicate, Ok, Err, Option, Some, None, refl, sym, ap, subst, ◌∙◌, inl, inr, arith}
use Rattle.std.proofs.lemmas.Bool.{leb-true}
use Rattle.std.proofs.lemmas.List.{length-append, length-replicate}
use Rattle.std.specs.Prelude.{IfSome, if◌then◌else◌, ◌==◌, nat_le, ◌&&◌, slice_get, min}
use Rattle.std.specs.List.{AllByRecursion}
use Rattle.std.specs.Option.{option_map, ok_or}
use Rattle.std.specs.Str.{is_utf8}
use Rattle.mv_syntax.specs.declared.fault.ReadKind.{ReadKind}
use Rattle.mv_syntax.specs.declared.fault.ReadKind.TheVariants.{Utf8, Limit, Kind}
use Rattle.mv_syntax.specs.declared.ops.ValType.{ValType}
use Rattle.mv_syntax.specs.declared.ops.ValType.TheVariants.{I32, I64}
use Rattle.mv_syntax.specs.declared.types.Limits.{Limits}
use Rattle.mv_syntax.specs.declared.instr.Instr.{Instr}
use Rattle.mv_syntax.specs.declared.instr.Instr.TheVariants as instr
use Rattle.mv_syntax.specs.declared.ops.UnOp.TheVariants as un
use Rattle.mv_syntax.specs.declared.ops.TestOp.TheVariants as test
use Rattle.mv_syntax.specs.declared.module.Global.{Global}
use Rattle.mv_syntax.specs.declared.module.Element.{Element}
use Rattle.mv_syntax.specs.declared.module.Segment.{Segment}
use Rattle.mv_syntax.specs.Form.{Form}
use Rattle.mv_syntax.specs.Forms.{Chosen, give, ◌>>=◌, many, each_of, at_most_one}
use Rattle.mv_syntax.specs.Numbers.{name}
use Rattle.mv_syntax.specs.Types.{bit_width, vector, up_to, val_type, func_type, limits, limits_from}
use Rattle.mv_syntax.specs.Instructions.{Shape, Alone, Blocks, Indexed, Labels, Indirect, Access, Reserved, Const32, Const64, immediates, shape_at, accesses, others, access_of, other_of, comparisons, operations, compares, computes, operator_of, or_else, shape_of, instruction}
use Rattle.mv_syntax.specs.Code.{code}
use Rattle.mv_syntax.specs.Parts.{import_, table, memory, global, export, element, segment, run, runs, body, func}
use Rattle.mv_syntax.specs.Sections.{Parts, Sections, nothing_yet, Types, Imports, Functions, Tables, Memories, Globals, Exports, Start, Elements, Bodies, Data, sections}
use Rattle.mv_syntax.specs.Modules.{HasSpelling}
use Rattle.mv_syntax.proofs.NumberBounds.{s32_fits, s64_fits}
use Rattle.mv_syntax.proofs.SectionInduction.{StaysWith, sections_hold}
use Rattle.mv_syntax.specs.Kept.{IsWidth, IsLoad, IsSpellable, IsSoundCode, IsText, IsSoundType, IsSoundImport, IsSoundFunc, IsSoundExport, Keeps}

-- what holds of each value of a form
abbrev pub Holds : {A : Type 0} → Form A → (A → Type 0) → Type 0
Holds {A} f P = (text : List ℕ) (a : A) → f.spells text a → P a

many_hold : {A : Type 0} (f : Form A) (P : A → Type 0) → Holds f P → (n : ℕ) (text : List ℕ) (items : List A) → (many f n).spells text items → AllByRecursion P items
unfolding many
many_hold f P h zero text items s = subst (AllByRecursion P) (sym s.1) tt
many_hold f P h (suc n) text items s =
    subst (AllByRecursion P) (sym s.back_spells.back_spells.1) (h s.front s.first s.front_spells, many_hold f P h n s.back_spells.front s.back_spells.first s.back_spells.front_spells)

pub many_length : {A : Type 0} (f : Form A) (n : ℕ) (text : List ℕ) (items : List A) → (many f n).spells text items → length items ≡ n
unfolding many
many_length f zero text items s = ap length s.1
many_length f (suc n) text items s = ap length s.back_spells.back_spells.1 ∙ ap suc (many_length f n s.back_spells.front s.back_spells.first s.back_spells.front_spells)

pub each_hold : {A B : Type 0} (f : B → Form A) (P : A → Type 0) → ((b : B) → Holds (f b) P) → (bs : List B) (text : List ℕ) (items : List A) → (each_of f bs).spells text items → AllByRecursion P items
unfolding each_of
each_hold f P h [] text items s = subst (AllByRecursion P) (sym s.1) tt
each_hold f P h (b ∷ bs) text items s =
    subst (AllByRecursion P) (sym s.back_spells.back_spells.1) (h b s.front s.first s.front_spells, each_hold f P h bs s.back_spells.front s.back_spells.first s.back_spells.front_spells)

pub vector_hold : {A : Type 0} (f : Form A) (P : A → Type 0) → Holds f P → Holds (vector f) (AllByRecursion P)
unfolding vector
vector_hold f P h text items s = many_hold f P h s.first s.back items s.back_spells

one_hold : {A : Type 0} (f : Form A) (P : A → Type 0) → Holds f P → (n : ℕ) → Holds (at_most_one f n) (λ o. IfSome o P)
unfolding at_most_one
one_hold {A} f P h n text o s = one (eqb n 0) s
  where
    one : (b : Bool) → Chosen b (give {A = Option A} None).spells (f >>= λ a. give (Some a)).spells text o → IfSome o P
    one true s = subst (λ (o : Option A). IfSome o P) (sym s.1) tt
    one false s = subst (λ (o : Option A). IfSome o P) (sym s.back_spells.1) (h s.front s.first s.front_spells)

-- a meaning by a test
pub guard : {A : Type 0} (b : Bool) (k : ReadKind) (x y : A) → (if b then Ok x else Err k) ≡ Ok y → (b ≡ true) × (x ≡ y)
guard true k x y e = (refl, cc)
guard false k x y e = absurd cc

limited : (most n m : ℕ) (k : ReadKind) → up_to most k n ≡ Ok m → m ≤ most
limited most n m k e =
    let g = guard (nat_le n most) k n m e in
    omega (arith, leb-true _ _ g.0, g.1)

name_text : Holds name IsText
unfolding name
name_text text n s =
    let g = guard (is_utf8 s.back_spells.sign) Utf8 s.back_spells.sign n s.back_spells.meant in
    subst IsText g.1 g.0

-- ---- instructions

-- what each value of a shape's instructions keeps
abbrev IsKept : Shape → Type 0
IsKept (Alone i) = IsSpellable i
IsKept (Blocks make) = (t : Option ValType) → IsSpellable (make t)
IsKept (Indexed make) = (n : ℕ) → IsSpellable (make n)
IsKept (Access make) = (a o : ℕ) → IsSpellable (make a o)
IsKept (Reserved i) = IsSpellable i
IsKept shape = Unit {0}

immediates_kept : (shape : Shape) → IsKept shape → Holds (immediates shape) IsSpellable
unfolding immediates
immediates_kept (Alone i) h text j s = subst IsSpellable (sym s.1) h
immediates_kept (Blocks make) h text j s = subst IsSpellable (sym s.back_spells.1) (h s.first)
immediates_kept (Indexed make) h text j s = subst IsSpellable (sym s.back_spells.1) (h s.first)
immediates_kept Labels h text j s = subst IsSpellable (sym s.back_spells.back_spells.1) tt
immediates_kept Indirect h text j s = subst IsSpellable (sym s.back_spells.back_spells.1) tt
immediates_kept (Access make) h text j s = subst IsSpellable (sym s.back_spells.back_spells.1) (h s.first s.back_spells.first)
immediates_kept (Reserved i) h text j s = subst IsSpellable (sym s.back_spells.1) h
immediates_kept Const32 h text j s = subst IsSpellable (sym s.back_spells.1) (s32_fits s.front s.first s.front_spells)
immediates_kept Const64 h text j s = subst IsSpellable (sym s.back_spells.1) (s64_fits s.front s.first s.front_spells)

abbrev IsKeptRow : ℕ × Shape → Type 0
IsKeptRow row = IsKept row.1

abbrev MaybeKept : Option Shape → Type 0
MaybeKept o = IfSome o IsKept

whole : (t : ValType) (n : ℕ) → IsWidth t n → IsLoad t n false
whole t n w = record { width = w; whole = λ e. refl }

part : (t : ValType) (n : ℕ) → IsWidth t n → 8 * n < bit_width t → IsLoad t n true
part t n w less = record { width = w; whole = λ e. absurd (omega (arith, e)) }

accesses_kept : AllByRecursion IsKeptRow accesses
accesses_kept = (
  λ a o. whole I32 4 (inr (inr refl)),
  (
    λ a o. whole I64 8 (inr (inr (inr refl))),
    (
      λ a o. part I32 1 (inl refl) (omega arith),
      (
        λ a o. whole I32 1 (inl refl),
        (
          λ a o. part I32 2 (inr (inl refl)) (omega arith),
          (
            λ a o. whole I32 2 (inr (inl refl)),
            (
              λ a o. part I64 1 (inl refl) (omega arith),
              (
                λ a o. whole I64 1 (inl refl),
                (
                  λ a o. part I64 2 (inr (inl refl)) (omega arith),
                  (
                    λ a o. whole I64 2 (inr (inl refl)),
                    (
                      λ a o. part I64 4 (inr (inr (inl refl))) (omega arith),
                      (
                        λ a o. whole I64 4 (inr (inr (inl refl))),
                        (
                          λ a o. inr (inr refl),
                          (
                            λ a o. inr (inr (inr refl)),
                            (
                              λ a o. inl refl,
                              (
                                λ a o. inr (inl refl),
                                (
                                  λ a o. inl refl,
                                  (
                                    λ a o. inr (inl refl),
                                    (
                                      λ a o. inr (inr (inl refl)),
                                      tt,
                                    ),
                                  ),
                                ),
                              ),
                            ),
                          ),
                        ),
                      ),
                    ),
                  ),
                ),
              ),
            ),
          ),
        ),
      ),
    ),
  ),
)

others_kept : AllByRecursion IsKeptRow others
others_kept = (
  tt,
  (
    tt,
    (
      λ t. tt,
      (
        λ t. tt,
        (
          λ t. tt,
          (
            tt,
            (
              tt,
              (
                λ n. tt,
                (
                  λ n. tt,
                  (
                    tt,
                    (
                      tt,
                      (
                        λ n. tt,
                        (
                          tt,
                          (
                            tt,
                            (
                              tt,
                              (
                                λ n. tt,
                                (
                                  λ n. tt,
                                  (
                                    λ n. tt,
                                    (
                                      λ n. tt,
                                      (
                                        λ n. tt,
                                        (
                                          tt,
                                          (
                                            tt,
                                            (
                                              tt,
                                              (
                                                tt,
                                                tt,
                                              ),
                                            ),
                                          ),
                                        ),
                                      ),
                                    ),
                                  ),
                                ),
                              ),
                            ),
                          ),
                        ),
                      ),
                    ),
                  ),
                ),
              ),
            ),
          ),
        ),
      ),
    ),
  ),
)

if_kept : {A : Type 0} (P : A → Type 0) (b : Bool) (x y : Option A) → IfSome x P → IfSome y P → IfSome (if b then x else y) P
if_kept P true x y p q = p
if_kept P false x y p q = q

row_kept : (b : ℕ) (rows : List (ℕ × Shape)) → AllByRecursion IsKeptRow rows → MaybeKept (shape_at b rows)
row_kept b [] h = tt
row_kept b (row ∷ rows) h = if_kept IsKept (eqb b row.0) (Some row.1) (shape_at b rows) h.0 (row_kept b rows h.1)

access_kept : (b : ℕ) → MaybeKept (access_of b)
unfolding access_of
access_kept b = row_kept b accesses accesses_kept

other_kept : (b : ℕ) → MaybeKept (other_of b)
unfolding other_of
other_kept b = row_kept b others others_kept

-- each instruction that there is could be spelled
abbrev Yields : Option Instr → Type 0
Yields o = (i : Instr) → o ≡ Some i → IsSpellable i

given : (i : Instr) → IsSpellable i → Yields (Some i)
given i h j e = let same : i ≡ j = cc in subst IsSpellable same h

never : Yields None
never j e = absurd cc

either_kept : (b : Bool) (x y : Option Instr) → Yields x → Yields y → Yields (if b then x else y)
either_kept true x y p q = p
either_kept false x y p q = q

made_kept : {A : Type 0} (make : A → Instr) (o : Option A) → ((a : A) → IsSpellable (make a)) → Yields (option_map make o)
made_kept make None h j e = absurd cc
made_kept make (Some a) h j e = given (make a) (h a) j e

compares_kept : (t : ValType) (n : ℕ) → Yields (compares t n)
compares_kept t n = made_kept (λ op. instr.Rel (record { width = t; op = op })) (slice_get comparisons n) (λ op. tt)

computes_kept : (t : ValType) (n : ℕ) → Yields (computes t n)
computes_kept t n = made_kept (λ op. instr.Bin (record { width = t; op = op })) (slice_get operations n) (λ op. tt)

operator_kept : (b : ℕ) → Yields (operator_of b)
unfolding operator_of
operator_kept b =
    either_kept (b == 69) (Some (instr.Test test.Eqz32)) _ (given (instr.Test test.Eqz32) tt) (
    either_kept (nat_le 70 b && nat_le b 79) (compares I32 (b - 70)) _ (compares_kept I32 (b - 70)) (
    either_kept (b == 80) (Some (instr.Test test.Eqz64)) _ (given (instr.Test test.Eqz64) tt) (
    either_kept (nat_le 81 b && nat_le b 90) (compares I64 (b - 81)) _ (compares_kept I64 (b - 81)) (
    either_kept (b == 103) (Some (instr.Un un.Clz32)) _ (given (instr.Un un.Clz32) tt) (
    either_kept (b == 104) (Some (instr.Un un.Ctz32)) _ (given (instr.Un un.Ctz32) tt) (
    either_kept (b == 105) (Some (instr.Un un.Popcnt32)) _ (given (instr.Un un.Popcnt32) tt) (
    either_kept (nat_le 106 b && nat_le b 120) (computes I32 (b - 106)) _ (computes_kept I32 (b - 106)) (
    either_kept (b == 121) (Some (instr.Un un.Clz64)) _ (given (instr.Un un.Clz64) tt) (
    either_kept (b == 122) (Some (instr.Un un.Ctz64)) _ (given (instr.Un un.Ctz64) tt) (
    either_kept (b == 123) (Some (instr.Un un.Popcnt64)) _ (given (instr.Un un.Popcnt64) tt) (
    either_kept (nat_le 124 b && nat_le b 138) (computes I64 (b - 124)) _ (computes_kept I64 (b - 124)) (
    either_kept (b == 167) (Some (instr.Un un.Wrap)) _ (given (instr.Un un.Wrap) tt) (
    either_kept (b == 172) (Some (instr.Un un.ExtendS)) _ (given (instr.Un un.ExtendS) tt) (
    either_kept (b == 173) (Some (instr.Un un.ExtendU)) _ (given (instr.Un un.ExtendU) tt) (
    never)))))))))))))))

alone_kept : (o : Option Instr) → Yields o → MaybeKept (option_map Alone o)
alone_kept None h = tt
alone_kept (Some i) h = h i refl

else_kept : (a b : Option Shape) → MaybeKept a → MaybeKept b → MaybeKept (or_else a b)
else_kept None b p q = q
else_kept (Some x) b p q = p

some_of : {A : Type 0} (o : Option A) (k : ReadKind) (a : A) → ok_or o k ≡ Ok a → o ≡ Some a
some_of None k a e = absurd cc
some_of (Some x) k a e = cc

shape_kept : (b : ℕ) (shape : Shape) → shape_of b ≡ Ok shape → IsKept shape
shape_kept b shape e =
    let found : Option Shape = or_else (option_map Alone (operator_of b)) (or_else (access_of b) (other_of b)) in
    let kept : MaybeKept found = else_kept (option_map Alone (operator_of b)) (or_else (access_of b) (other_of b)) (alone_kept (operator_of b) (operator_kept b)) (else_kept (access_of b) (other_of b) (access_kept b) (other_kept b)) in
    subst MaybeKept (some_of found _ shape e) kept

instruction_kept : Holds instruction IsSpellable
unfolding instruction
instruction_kept text i s = immediates_kept s.first (shape_kept s.front_spells.sign s.first s.front_spells.meant) s.back i s.back_spells

-- ---- what the sections hold

code_kept : Holds code IsSoundCode
unfolding code
code_kept text c s = record { closed = s.body; spellable = many_hold instruction IsSpellable instruction_kept (length c) text c s.each }

type_kept : Holds func_type IsSoundType
unfolding func_type
type_kept text t s =
    let r = s.back_spells in
    let few : r.first ≤ 1000 = limited 1000 r.front_spells.sign r.first Limit r.front_spells.meant in
    let p = r.back_spells in
    let same : length p.first ≡ r.first = many_length val_type r.first p.front p.first p.front_spells in
    let held : length p.first ≤ 1000 = omega (arith, same, few) in
    subst IsSoundType (sym p.back_spells.back_spells.back_spells.1) held

import_kept : Holds import_ IsSoundImport
unfolding import_
import_kept text i s =
    let r = s.back_spells in
    subst IsSoundImport (sym r.back_spells.back_spells.back_spells.1) (record { module_is = name_text s.front s.first s.front_spells; name_is = name_text r.front r.first r.front_spells })

limits_kept : (most : ℕ) → Holds (limits most) (λ l. l.min ≤ most)
unfolding limits limits_from
limits_kept most text l s =
    let r = s.back_spells in
    let few : r.first ≤ most = limited most r.front_spells.sign r.first Limit r.front_spells.meant in
    least s.first r.first few r.back r.back_spells
  where
    least : (bounded : Bool) (min : ℕ) → min ≤ most → (text : List ℕ) → (limits_from bounded min).spells text l → l.min ≤ most
    least false min le text s = subst (λ (l : Limits). l.min ≤ most) (sym s.1) le
    least true min le text s = subst (λ (l : Limits). l.min ≤ most) (sym s.back_spells.1) le

table_kept : Holds table (λ l. l.min ≤ 65536)
unfolding table
table_kept text l s = limits_kept 65536 s.back l s.back_spells

memory_kept : Holds memory (λ l. l.min ≤ 1024)
unfolding memory
memory_kept text l s = limits_kept 1024 text l s

global_kept : Holds global (λ g. IsSoundCode g.init)
unfolding global
global_kept text g s = let r = s.back_spells.back_spells in subst (λ (g : Global). IsSoundCode g.init) (sym r.back_spells.1) (code_kept r.front r.first r.front_spells)

export_kept : Holds export IsSoundExport
unfolding export
export_kept text x s =
    let r = s.back_spells in
    let few : r.first ≤ 3 = limited 3 r.front_spells.sign r.first Kind r.front_spells.meant in
    subst IsSoundExport (sym r.back_spells.back_spells.1) (record { name_is = name_text s.front s.first s.front_spells; kind_is = few })

element_kept : Holds element (λ e. IsSoundCode e.offset)
unfolding element
element_kept text e s = let r = s.back_spells in subst (λ (e : Element). IsSoundCode e.offset) (sym r.back_spells.back_spells.1) (code_kept r.front r.first r.front_spells)

segment_kept : Holds segment (λ s. IsSoundCode s.offset)
unfolding segment
segment_kept text e s = let r = s.back_spells in subst (λ (e : Segment). IsSoundCode e.offset) (sym r.back_spells.back_spells.back_spells.1) (code_kept r.front r.first r.front_spells)

-- runs of locals stay under the limit
run_kept : (before : List ValType) → length before ≤ 10000 → Holds (run before) (λ ls. length ls ≤ 10000)
unfolding run
run_kept before le text ls s =
    let few : s.first ≤ 10000 - length before = limited (10000 - length before) s.front_spells.sign s.first Limit s.front_spells.meant in
    let t = s.back_spells.first in
    let held : length (before ++ replicate s.first t) ≤ 10000 = omega (arith, length-append before (replicate s.first t), length-replicate s.first t, few) in
    subst (λ (l : List ValType). length l ≤ 10000) (sym s.back_spells.back_spells.1) held

runs_kept : (k : ℕ) (before : List ValType) → length before ≤ 10000 → Holds (runs k before) (λ ls. length ls ≤ 10000)
unfolding runs
runs_kept zero before le text ls s = subst (λ (l : List ValType). length l ≤ 10000) (sym s.1) le
runs_kept (suc k) before le text ls s = runs_kept k s.first (run_kept before le s.front s.first s.front_spells) s.back ls s.back_spells

func_kept : (t : ℕ) → Holds (func t) IsSoundFunc
unfolding func body
func_kept t text f s =
    let b = s.back_spells.0.back_spells in
    let c = b.back_spells in
    subst IsSoundFunc (sym c.back_spells.1) (record { locals_are = runs_kept s.back_spells.0.first [] (omega arith) b.front b.first b.front_spells; code_is = code_kept c.front c.first c.front_spells })

-- ---- sections

abbrev KeepsSo : Sections → Type 0
KeepsSo s = Keeps s.parts

-- what the last step gave is this
same_parts : (more held : Sections) → held ≡ more → KeepsSo more → KeepsSo held
same_parts more held e h = subst KeepsSo (sym e) h

contents_kept : StaysWith KeepsSo
contents_kept Types s h order text held p size = same_parts _ held p.back_spells.1 (record { types = vector_hold func_type IsSoundType type_kept p.front p.first p.front_spells; imports = h.imports; funcs = h.funcs; table = h.table; memory = h.memory; globals = h.globals; exports = h.exports; elements = h.elements; segments = h.segments })
contents_kept Imports s h order text held p size = same_parts _ held p.back_spells.1 (record { types = h.types; imports = vector_hold import_ IsSoundImport import_kept p.front p.first p.front_spells; funcs = h.funcs; table = h.table; memory = h.memory; globals = h.globals; exports = h.exports; elements = h.elements; segments = h.segments })
contents_kept Functions s h order text held p size = same_parts _ held p.back_spells.1 h
contents_kept Tables s h order text held p size = same_parts _ held p.back_spells.back_spells.1 (record { types = h.types; imports = h.imports; funcs = h.funcs; table = one_hold table (λ l. l.min ≤ 65536) table_kept p.first p.back_spells.front p.back_spells.first p.back_spells.front_spells; memory = h.memory; globals = h.globals; exports = h.exports; elements = h.elements; segments = h.segments })
contents_kept Memories s h order text held p size = same_parts _ held p.back_spells.back_spells.1 (record { types = h.types; imports = h.imports; funcs = h.funcs; table = h.table; memory = one_hold memory (λ l. l.min ≤ 1024) memory_kept p.first p.back_spells.front p.back_spells.first p.back_spells.front_spells; globals = h.globals; exports = h.exports; elements = h.elements; segments = h.segments })
contents_kept Globals s h order text held p size = same_parts _ held p.back_spells.1 (record { types = h.types; imports = h.imports; funcs = h.funcs; table = h.table; memory = h.memory; globals = vector_hold global (λ g. IsSoundCode g.init) global_kept p.front p.first p.front_spells; exports = h.exports; elements = h.elements; segments = h.segments })
contents_kept Exports s h order text held p size = same_parts _ held p.back_spells.1 (record { types = h.types; imports = h.imports; funcs = h.funcs; table = h.table; memory = h.memory; globals = h.globals; exports = vector_hold export IsSoundExport export_kept p.front p.first p.front_spells; elements = h.elements; segments = h.segments })
contents_kept Start s h order text held p size = same_parts _ held p.back_spells.1 (record { types = h.types; imports = h.imports; funcs = h.funcs; table = h.table; memory = h.memory; globals = h.globals; exports = h.exports; elements = h.elements; segments = h.segments })
contents_kept Elements s h order text held p size = same_parts _ held p.back_spells.1 (record { types = h.types; imports = h.imports; funcs = h.funcs; table = h.table; memory = h.memory; globals = h.globals; exports = h.exports; elements = vector_hold element (λ e. IsSoundCode e.offset) element_kept p.front p.first p.front_spells; segments = h.segments })
contents_kept Bodies s h order text held p size = same_parts _ held p.back_spells.back_spells.1 (record { types = h.types; imports = h.imports; funcs = each_hold func IsSoundFunc func_kept s.declared p.back_spells.front p.back_spells.first p.back_spells.front_spells; table = h.table; memory = h.memory; globals = h.globals; exports = h.exports; elements = h.elements; segments = h.segments })
contents_kept Data s h order text held p size = same_parts _ held p.back_spells.1 (record { types = h.types; imports = h.imports; funcs = h.funcs; table = h.table; memory = h.memory; globals = h.globals; exports = h.exports; elements = h.elements; segments = vector_hold segment (λ e. IsSoundCode e.offset) segment_kept p.front p.first p.front_spells })

nothing_kept : KeepsSo nothing_yet
nothing_kept = record { types = tt; imports = tt; funcs = tt; table = tt; memory = tt; globals = tt; exports = tt; elements = tt; segments = tt }

-- what has a spelling keeps all this
pub spelled_keeps : (p : Parts) → HasSpelling p → Keeps p
spelled_keeps p h =
    let s = h.2 in
    subst Keeps s.parts_is (sections_hold KeepsSo contents_kept s.count nothing_yet nothing_kept s.back s.held s.goes_on)
