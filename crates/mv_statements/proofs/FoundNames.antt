-- Under its name each instruction is found, with other immediates.
use Rattle.std.proofs.Common.{◌≡◌, ℕ, ◌*◌, Bool, true, false, [], Some, None, inl, inr, refl, ap, subst, sym}
use Rattle.mv_syntax.specs.declared.ops.ValType.{ValType}
use Rattle.mv_syntax.specs.declared.ops.ValType.TheVariants.{I32, I64}
use Rattle.mv_syntax.specs.declared.instr.Instr.{Instr}
use Rattle.mv_syntax.specs.declared.instr.Instr.TheVariants as instr
use Rattle.mv_syntax.specs.declared.ops.UnOp.{UnOp}
use Rattle.mv_syntax.specs.declared.ops.UnOp.TheVariants as un
use Rattle.mv_syntax.specs.declared.ops.TestOp.{TestOp}
use Rattle.mv_syntax.specs.declared.ops.TestOp.TheVariants as test
use Rattle.mv_syntax.specs.declared.ops.Compare.{Compare}
use Rattle.mv_syntax.specs.declared.ops.Compare.TheVariants as compare
use Rattle.mv_syntax.specs.declared.ops.Binary.{Binary}
use Rattle.mv_syntax.specs.declared.ops.Binary.TheVariants as binary
use Rattle.mv_syntax.specs.Kept.{IsSpellable, IsLoad, IsWidth}
use Rattle.mv_statements.specs.declared.head.Head.{Head}
use Rattle.mv_statements.specs.declared.head.Head.TheVariants as heads
use Rattle.mv_statements.specs.Form.{At}
use Rattle.mv_statements.specs.Mnemonics.{instr_name, binary_of, compare_of}
use Rattle.mv_statements.specs.Statements.{immediates, instruction, behind, statement, IsHead, head_word, head_named}

-- the instruction with immediates of zero
abbrev pub blank : Instr → Instr
blank (instr.Block result) = instr.Block None
blank (instr.Loop result) = instr.Loop None
blank (instr.If result) = instr.If None
blank (instr.Br label) = instr.Br 0
blank (instr.BrIf label) = instr.BrIf 0
blank (instr.BrTable labels last) = instr.BrTable [] 0
blank (instr.Call f) = instr.Call 0
blank (instr.CallIndirect t) = instr.CallIndirect 0
blank (instr.LocalGet x) = instr.LocalGet 0
blank (instr.LocalSet x) = instr.LocalSet 0
blank (instr.LocalTee x) = instr.LocalTee 0
blank (instr.GlobalGet x) = instr.GlobalGet 0
blank (instr.GlobalSet x) = instr.GlobalSet 0
blank (instr.Load t bytes signed align offset) = instr.Load t bytes signed 0 0
blank (instr.Store t bytes align offset) = instr.Store t bytes 0 0
blank (instr.Const t value) = instr.Const t 0
blank i = i

abbrev IsFound : Instr → Type 0
IsFound i = head_named (instr_name i) ≡ Some (heads.Instr (blank i))

un_found : (op : UnOp) → IsFound (instr.Un op)
un_found un.Clz32 = refl
un_found un.Ctz32 = refl
un_found un.Popcnt32 = refl
un_found un.Clz64 = refl
un_found un.Ctz64 = refl
un_found un.Popcnt64 = refl
un_found un.Wrap = refl
un_found un.ExtendS = refl
un_found un.ExtendU = refl

test_found : (op : TestOp) → IsFound (instr.Test op)
test_found test.Eqz32 = refl
test_found test.Eqz64 = refl

compare_found : (t : ValType) (op : Compare) → IsFound (compare_of t op)
compare_found I32 compare.Eq = refl
compare_found I32 compare.Ne = refl
compare_found I32 compare.LtS = refl
compare_found I32 compare.LtU = refl
compare_found I32 compare.GtS = refl
compare_found I32 compare.GtU = refl
compare_found I32 compare.LeS = refl
compare_found I32 compare.LeU = refl
compare_found I32 compare.GeS = refl
compare_found I32 compare.GeU = refl
compare_found I64 compare.Eq = refl
compare_found I64 compare.Ne = refl
compare_found I64 compare.LtS = refl
compare_found I64 compare.LtU = refl
compare_found I64 compare.GtS = refl
compare_found I64 compare.GtU = refl
compare_found I64 compare.LeS = refl
compare_found I64 compare.LeU = refl
compare_found I64 compare.GeS = refl
compare_found I64 compare.GeU = refl

binary_found : (t : ValType) (op : Binary) → IsFound (binary_of t op)
binary_found I32 binary.Add = refl
binary_found I32 binary.Sub = refl
binary_found I32 binary.Mul = refl
binary_found I32 binary.DivS = refl
binary_found I32 binary.DivU = refl
binary_found I32 binary.RemS = refl
binary_found I32 binary.RemU = refl
binary_found I32 binary.And = refl
binary_found I32 binary.Or = refl
binary_found I32 binary.Xor = refl
binary_found I32 binary.Shl = refl
binary_found I32 binary.ShrS = refl
binary_found I32 binary.ShrU = refl
binary_found I32 binary.Rotl = refl
binary_found I32 binary.Rotr = refl
binary_found I64 binary.Add = refl
binary_found I64 binary.Sub = refl
binary_found I64 binary.Mul = refl
binary_found I64 binary.DivS = refl
binary_found I64 binary.DivU = refl
binary_found I64 binary.RemS = refl
binary_found I64 binary.RemU = refl
binary_found I64 binary.And = refl
binary_found I64 binary.Or = refl
binary_found I64 binary.Xor = refl
binary_found I64 binary.Shl = refl
binary_found I64 binary.ShrS = refl
binary_found I64 binary.ShrU = refl
binary_found I64 binary.Rotl = refl
binary_found I64 binary.Rotr = refl

const_found : (t : ValType) (v : ℕ) → IsFound (instr.Const t v)
const_found I32 v = refl
const_found I64 v = refl

part_found : (t : ValType) (signed : Bool) (a o : ℕ) → IsFound (instr.Load t 1 signed a o) × (IsFound (instr.Load t 2 signed a o) × (IsFound (instr.Store t 1 a o) × IsFound (instr.Store t 2 a o)))
part_found I32 true a o = (refl, (refl, (refl, refl)))
part_found I32 false a o = (refl, (refl, (refl, refl)))
part_found I64 true a o = (refl, (refl, (refl, refl)))
part_found I64 false a o = (refl, (refl, (refl, refl)))

half_found : (signed : Bool) (a o : ℕ) → IsFound (instr.Load I64 4 signed a o)
half_found true a o = refl
half_found false a o = refl

load_found : (t : ValType) (n : ℕ) (signed : Bool) (a o : ℕ) → IsLoad t n signed → IsFound (instr.Load t n signed a o)
load_found I32 n signed a o h = elim h.width [
  | inl e ↦ subst (λ (k : ℕ). IsFound (instr.Load I32 k signed a o)) (sym e) (part_found I32 signed a o).0
  | inr p ↦ elim p [
    | inl e ↦ subst (λ (k : ℕ). IsFound (instr.Load I32 k signed a o)) (sym e) (part_found I32 signed a o).1.0
    | inr e ↦ (let whole : signed ≡ false = h.whole (ap (λ (k : ℕ). 8 * k) e) in subst (λ (k : ℕ). IsFound (instr.Load I32 k signed a o)) (sym e) (subst (λ (b : Bool). IsFound (instr.Load I32 4 b a o)) (sym whole) refl))
  ]
]
load_found I64 n signed a o h = elim h.width [
  | inl e ↦ subst (λ (k : ℕ). IsFound (instr.Load I64 k signed a o)) (sym e) (part_found I64 signed a o).0
  | inr p ↦ elim p [
    | inl e ↦ subst (λ (k : ℕ). IsFound (instr.Load I64 k signed a o)) (sym e) (part_found I64 signed a o).1.0
    | inr q ↦ elim q [
      | inl e ↦ subst (λ (k : ℕ). IsFound (instr.Load I64 k signed a o)) (sym e) (half_found signed a o)
      | inr e ↦ (let whole : signed ≡ false = h.whole (ap (λ (k : ℕ). 8 * k) e) in subst (λ (k : ℕ). IsFound (instr.Load I64 k signed a o)) (sym e) (subst (λ (b : Bool). IsFound (instr.Load I64 8 b a o)) (sym whole) refl))
    ]
  ]
]

store_found : (t : ValType) (n a o : ℕ) → IsWidth t n → IsFound (instr.Store t n a o)
store_found I32 n a o h = elim h [
  | inl e ↦ subst (λ (k : ℕ). IsFound (instr.Store I32 k a o)) (sym e) refl
  | inr p ↦ elim p [
    | inl e ↦ subst (λ (k : ℕ). IsFound (instr.Store I32 k a o)) (sym e) refl
    | inr e ↦ subst (λ (k : ℕ). IsFound (instr.Store I32 k a o)) (sym e) refl
  ]
]
store_found I64 n a o h = elim h [
  | inl e ↦ subst (λ (k : ℕ). IsFound (instr.Store I64 k a o)) (sym e) refl
  | inr p ↦ elim p [
    | inl e ↦ subst (λ (k : ℕ). IsFound (instr.Store I64 k a o)) (sym e) refl
    | inr q ↦ elim q [
      | inl e ↦ subst (λ (k : ℕ). IsFound (instr.Store I64 k a o)) (sym e) refl
      | inr e ↦ subst (λ (k : ℕ). IsFound (instr.Store I64 k a o)) (sym e) refl
    ]
  ]
]

instr_found : (i : Instr) → IsSpellable i → IsFound i
instr_found instr.Unreachable h = refl
instr_found instr.Nop h = refl
instr_found (instr.Block result) h = refl
instr_found (instr.Loop result) h = refl
instr_found (instr.If result) h = refl
instr_found instr.Else h = refl
instr_found instr.End h = refl
instr_found (instr.Br label) h = refl
instr_found (instr.BrIf label) h = refl
instr_found (instr.BrTable labels last) h = refl
instr_found instr.Return h = refl
instr_found (instr.Call f) h = refl
instr_found (instr.CallIndirect t) h = refl
instr_found instr.Drop h = refl
instr_found instr.Select h = refl
instr_found (instr.LocalGet x) h = refl
instr_found (instr.LocalSet x) h = refl
instr_found (instr.LocalTee x) h = refl
instr_found (instr.GlobalGet x) h = refl
instr_found (instr.GlobalSet x) h = refl
instr_found (instr.Load t n signed align offset) h = load_found t n signed align offset h
instr_found (instr.Store t n align offset) h = store_found t n align offset h
instr_found instr.MemorySize h = refl
instr_found instr.MemoryGrow h = refl
instr_found (instr.Const t v) h = const_found t v
instr_found (instr.Un op) h = un_found op
instr_found (instr.Test op) h = test_found op
instr_found (instr.Rel r) h = compare_found r.width r.op
instr_found (instr.Bin r) h = binary_found r.width r.op

abbrev pub blank_head : Head → Head
blank_head (heads.Instr i) = heads.Instr (blank i)
blank_head head = head

pub head_found : (head : Head) → IsHead head → head_named (head_word head) ≡ Some (blank_head head)
head_found heads.Signature h = refl
head_found heads.Import h = refl
head_found heads.Func h = refl
head_found heads.EndFunc h = refl
head_found heads.Table h = refl
head_found heads.Memory h = refl
head_found heads.Global h = refl
head_found heads.Export h = refl
head_found heads.Start h = refl
head_found heads.Element h = refl
head_found heads.Segment h = refl
head_found (heads.Instr i) h = instr_found i h

-- the immediates are those of the form
immediates_same : (i : Instr) (at : At) → (immediates (blank i)).reads at ≡ (immediates i).reads at
unfolding immediates
immediates_same instr.Unreachable at = refl
immediates_same instr.Nop at = refl
immediates_same (instr.Block result) at = refl
immediates_same (instr.Loop result) at = refl
immediates_same (instr.If result) at = refl
immediates_same instr.Else at = refl
immediates_same instr.End at = refl
immediates_same (instr.Br label) at = refl
immediates_same (instr.BrIf label) at = refl
immediates_same (instr.BrTable labels last) at = refl
immediates_same instr.Return at = refl
immediates_same (instr.Call f) at = refl
immediates_same (instr.CallIndirect t) at = refl
immediates_same instr.Drop at = refl
immediates_same instr.Select at = refl
immediates_same (instr.LocalGet x) at = refl
immediates_same (instr.LocalSet x) at = refl
immediates_same (instr.LocalTee x) at = refl
immediates_same (instr.GlobalGet x) at = refl
immediates_same (instr.GlobalSet x) at = refl
immediates_same (instr.Load t n signed align offset) at = refl
immediates_same (instr.Store t n align offset) at = refl
immediates_same instr.MemorySize at = refl
immediates_same instr.MemoryGrow at = refl
immediates_same (instr.Const t v) at = refl
immediates_same (instr.Un op) at = refl
immediates_same (instr.Test op) at = refl
immediates_same (instr.Rel r) at = refl
immediates_same (instr.Bin r) at = refl

behind_same : (head : Head) (at : At) → (behind (blank_head head)).reads at ≡ (behind head).reads at
unfolding behind instruction
behind_same heads.Signature at = refl
behind_same heads.Import at = refl
behind_same heads.Func at = refl
behind_same heads.EndFunc at = refl
behind_same heads.Table at = refl
behind_same heads.Memory at = refl
behind_same heads.Global at = refl
behind_same heads.Export at = refl
behind_same heads.Start at = refl
behind_same heads.Element at = refl
behind_same heads.Segment at = refl
behind_same (heads.Instr i) at = rw (immediates_same i at) refl

pub statement_same : (head : Head) (at : At) → (statement (blank_head head)).reads at ≡ (statement head).reads at
unfolding statement
statement_same head at = rw (behind_same head at) refl
