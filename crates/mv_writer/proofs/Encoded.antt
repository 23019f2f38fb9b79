-- Each instruction that could be spelled and has its numbers in range is spelled by a writer.
use Rattle.std.proofs.Common.{◌≡◌, ℕ, ◌*◌, ◌%◌, ◌^◌, ◌≤◌, ◌<◌, Bool, true, false, List, [], ◌∷◌, ◌++◌, length, Option, Some, None, Ok, inl, inr, refl, sym, ap, subst, arith}
use Rattle.std.specs.Prelude.{flat_map}
use Rattle.std.specs.List.{AllByRecursion}
use Rattle.std.proofs.lemmas.List.{append-nil, length-append}
use Rattle.mv_syntax.specs.declared.ops.ValType.{ValType}
use Rattle.mv_syntax.specs.declared.ops.ValType.TheVariants.{I32, I64}
use Rattle.mv_syntax.specs.declared.instr.Instr.{Instr}
use Rattle.mv_syntax.specs.declared.instr.Instr.TheVariants as instr
use Rattle.mv_syntax.specs.declared.ops.UnOp.{UnOp}
use Rattle.mv_syntax.specs.declared.ops.UnOp.TheVariants as un
use Rattle.mv_syntax.specs.declared.ops.TestOp.{TestOp}
use Rattle.mv_syntax.specs.declared.ops.TestOp.TheVariants as test
use Rattle.mv_syntax.specs.declared.ops.Compare.{Compare}
use Rattle.mv_syntax.specs.declared.ops.Compare.TheVariants as compare
use Rattle.mv_syntax.specs.declared.ops.Binary.{Binary}
use Rattle.mv_syntax.specs.declared.ops.Binary.TheVariants as binary
use Rattle.mv_syntax.specs.Kept.{IsLoad, IsWidth, IsSpellable}
use Rattle.mv_syntax.specs.Types.{bit_width, vector}
use Rattle.mv_syntax.specs.Form.{Form}
use Rattle.mv_syntax.specs.Forms.{byte, many}
use Rattle.mv_syntax.specs.Numbers.{u32, s32, s64}
use Rattle.mv_syntax.specs.Instructions.{Shape, Alone, Blocks, Indexed, Labels, Indirect, Access, Reserved, Const32, Const64, block_type, zero_byte, immediates, shape_of, instruction, operator_of, access_of, other_of, is_float}
use Rattle.mv_syntax.specs.Opcodes.{opcode}
use Rattle.mv_writer.specs.Written.{short_u32, short_s32, short_s64, written_vector, written_block, written_immediates, written_instruction}
use Rattle.mv_writer.specs.Writable.{AreU32, InstrInRange}
use Rattle.mv_writer.proofs.ShortForms.{u32_made, some_group}
use Rattle.mv_writer.proofs.ShortSigned.{signed_made}
use Rattle.mv_writer.proofs.Small.{Small, small_append, small_u32, small_s32, small_s64}

-- a value that a writer spells, in bytes
pub record Encodes {A : Type 0} (f : Form A) (w : A → List ℕ) (a : A) : Type 0 where
  pub spelled : f.spells (w a) a
  pub small : Small (w a)

abbrev pub AllEncode : {A : Type 0} → Form A → (A → List ℕ) → List A → Type 0
AllEncode f w items = AllByRecursion (λ a. Encodes f w a) items

-- items of one form, as many as there are
pub many_made : {A : Type 0} (f : Form A) (w : A → List ℕ) (items : List A) → AllEncode f w items → (many f (length items)).spells (flat_map w items) items
unfolding many
many_made f w [] h = (refl, refl)
many_made f w (a ∷ items) h = record {
  first = a;
  front = w a;
  back = flat_map w items;
  whole = refl;
  front_spells = h.0.spelled;
  back_spells = record { first = items; front = flat_map w items; back = []; whole = sym (append-nil (flat_map w items)); front_spells = many_made f w items h.1; back_spells = (refl, refl) };
}

pub many_small : {A : Type 0} (f : Form A) (w : A → List ℕ) (items : List A) → AllEncode f w items → Small (flat_map w items)
many_small f w [] h = tt
many_small f w (a ∷ items) h = small_append (w a) (flat_map w items) h.0.small (many_small f w items h.1)

pub vector_encoded : {A : Type 0} (f : Form A) (w : A → List ℕ) (items : List A) → length items < 2 ^ 32 → AllEncode f w items → Encodes (vector f) (written_vector w) items
unfolding vector
vector_encoded f w items few h = record {
  spelled = record { first = length items; front = short_u32 (length items); back = flat_map w items; whole = refl; front_spells = u32_made (length items) few; back_spells = many_made f w items h };
  small = small_append (short_u32 (length items)) (flat_map w items) (small_u32 (length items)) (many_small f w items h);
}

-- items that take at least a byte each are no more than their bytes
pub count_few : {A : Type 0} (w : A → List ℕ) → ((a : A) → 1 ≤ length (w a)) → (items : List A) → length items ≤ length (flat_map w items)
count_few w some [] = omega arith
count_few w some (a ∷ items) = omega (arith, length-append (w a) (flat_map w items), some a, count_few w some items)

-- each item is no longer than all of them
pub each_encoded : {A : Type 0} (f : Form A) (w : A → List ℕ) (P Q : A → Type 0) → ((a : A) → P a → Q a → length (w a) < 2 ^ 32 → Encodes f w a) → (items : List A) → AllByRecursion P items → AllByRecursion Q items → length (flat_map w items) < 2 ^ 32 → AllEncode f w items
each_encoded f w P Q make [] p q lt = tt
each_encoded f w P Q make (a ∷ items) p q lt =
    let size = length-append (w a) (flat_map w items) in
    (make a p.0 q.0 (omega (arith, lt, size)), each_encoded f w P Q make items p.1 q.1 (omega (arith, lt, size)))

pub numbers_encoded : (xs : List ℕ) → AreU32 xs → AllEncode u32 short_u32 xs
numbers_encoded [] h = tt
numbers_encoded (x ∷ xs) h = (record { spelled = u32_made x h.0; small = small_u32 x }, numbers_encoded xs h.1)

pub s32_made : (v : ℕ) → v < 2 ^ 32 → s32.spells (short_s32 v) v
unfolding s32 short_s32
s32_made v lt = record { sign = Some v; spelled = signed_made 5 32 v (omega arith) (omega arith) lt; meant = refl }

pub s64_made : (v : ℕ) → v < 2 ^ 64 → s64.spells (short_s64 v) v
unfolding s64 short_s64
s64_made v lt = record { sign = Some v; spelled = signed_made 10 64 v (omega arith) (omega arith) lt; meant = refl }

-- ## Instructions

abbrev pub Written : Instr → Type 0
Written i = Encodes instruction written_instruction i

-- an opcode of this shape, and immediates
coded : (i : Instr) (shape : Shape) → opcode i < 256 → shape_of (opcode i) ≡ Ok shape → (immediates shape).spells (written_immediates i) i → Small (written_immediates i) → Written i
unfolding instruction byte
coded i shape lt is spelled small = record {
  spelled = record { first = shape; front = opcode i ∷ []; back = written_immediates i; whole = refl; front_spells = record { sign = opcode i; spelled = refl; meant = is }; back_spells = spelled };
  small = (lt, small);
}

alone : (i : Instr) → opcode i < 256 → shape_of (opcode i) ≡ Ok (Alone i) → written_immediates i ≡ [] → Written i
unfolding immediates
alone i lt is none = coded i (Alone i) lt is (none, refl) (subst Small (sym none) tt)

one_number : (make : ℕ → Instr) (x : ℕ) → x < 2 ^ 32 → opcode (make x) < 256 → shape_of (opcode (make x)) ≡ Ok (Indexed make) → written_immediates (make x) ≡ short_u32 x → Written (make x)
unfolding immediates
one_number make x lt code is one =
    coded (make x) (Indexed make) code is
    (subst (λ (t : List ℕ). (immediates (Indexed make)).spells t (make x)) (sym one) (record { first = x; front = short_u32 x; back = []; whole = sym (append-nil (short_u32 x)); front_spells = u32_made x lt; back_spells = (refl, refl) }))
    (subst Small (sym one) (small_u32 x))

two_numbers : (make : ℕ → ℕ → Instr) (a o : ℕ) → a < 2 ^ 32 → o < 2 ^ 32 → opcode (make a o) < 256 → shape_of (opcode (make a o)) ≡ Ok (Access make) → written_immediates (make a o) ≡ short_u32 a ++ short_u32 o → Written (make a o)
unfolding immediates
two_numbers make a o la lo code is two =
    coded (make a o) (Access make) code is
    (subst (λ (t : List ℕ). (immediates (Access make)).spells t (make a o)) (sym two)
    (record { first = a; front = short_u32 a; back = short_u32 o; whole = refl; front_spells = u32_made a la; back_spells = record { first = o; front = short_u32 o; back = []; whole = sym (append-nil (short_u32 o)); front_spells = u32_made o lo; back_spells = (refl, refl) } }))
    (subst Small (sym two) (small_append (short_u32 a) (short_u32 o) (small_u32 a) (small_u32 o)))

block_made : (t : Option ValType) → block_type.spells (written_block t) t
unfolding block_type byte
block_made None = record { sign = 64; spelled = refl; meant = refl }
block_made (Some I32) = record { sign = 127; spelled = refl; meant = refl }
block_made (Some I64) = record { sign = 126; spelled = refl; meant = refl }

small_block : (t : Option ValType) → Small (written_block t)
small_block None = (omega arith, tt)
small_block (Some I32) = (omega arith, tt)
small_block (Some I64) = (omega arith, tt)

blocks : (make : Option ValType → Instr) (t : Option ValType) → opcode (make t) < 256 → shape_of (opcode (make t)) ≡ Ok (Blocks make) → written_immediates (make t) ≡ written_block t → Written (make t)
unfolding immediates
blocks make t code is one =
    coded (make t) (Blocks make) code is
    (subst (λ (x : List ℕ). (immediates (Blocks make)).spells x (make t)) (sym one) (record { first = t; front = written_block t; back = []; whole = sym (append-nil (written_block t)); front_spells = block_made t; back_spells = (refl, refl) }))
    (subst Small (sym one) (small_block t))

zero_made : zero_byte.spells (0 ∷ []) 0
unfolding byte
zero_made = record { sign = 0; spelled = refl; meant = refl }

reserved : (i : Instr) → opcode i < 256 → shape_of (opcode i) ≡ Ok (Reserved i) → written_immediates i ≡ 0 ∷ [] → Written i
unfolding immediates
reserved i code is one =
    coded i (Reserved i) code is (subst (λ (x : List ℕ). (immediates (Reserved i)).spells x i) (sym one) (record { first = 0; front = 0 ∷ []; back = []; whole = refl; front_spells = zero_made; back_spells = (refl, refl) }))
    (subst Small (sym one) (omega arith, tt))

table_written : (ls : List ℕ) (l : ℕ) → AreU32 ls → l < 2 ^ 32 → length (written_instruction (instr.BrTable ls l)) < 2 ^ 32 → Written (instr.BrTable ls l)
unfolding immediates operator_of access_of other_of is_float
table_written ls l each lt size =
    let few : length ls < 2 ^ 32 = omega (arith, size, length-append (written_vector short_u32 ls) (short_u32 l), length-append (short_u32 (length ls)) (flat_map short_u32 ls), count_few short_u32 some_group ls) in
    let v = vector_encoded u32 short_u32 ls few (numbers_encoded ls each) in
    coded (instr.BrTable ls l) Labels (omega arith) refl
    (record { first = ls; front = written_vector short_u32 ls; back = short_u32 l; whole = refl; front_spells = v.spelled; back_spells = record { first = l; front = short_u32 l; back = []; whole = sym (append-nil (short_u32 l)); front_spells = u32_made l lt; back_spells = (refl, refl) } })
    (small_append (written_vector short_u32 ls) (short_u32 l) v.small (small_u32 l))

indirect_written : (t : ℕ) → t < 2 ^ 32 → Written (instr.CallIndirect t)
unfolding immediates operator_of access_of other_of is_float
indirect_written t lt =
    coded (instr.CallIndirect t) Indirect (omega arith) refl
    (record { first = t; front = short_u32 t; back = 0 ∷ []; whole = refl; front_spells = u32_made t lt; back_spells = record { first = 0; front = 0 ∷ []; back = []; whole = refl; front_spells = zero_made; back_spells = (refl, refl) } })
    (small_append (short_u32 t) (0 ∷ []) (small_u32 t) (omega arith, tt))

same_low : (v : ℕ) → v < 2 ^ 32 → v % 2 ^ 32 ≡ v
same_low v lt = omega arith

const_written : (t : ValType) (v : ℕ) → v < 2 ^ bit_width t → Written (instr.Const t v)
unfolding immediates operator_of access_of other_of is_float
const_written I32 v lt =
    let low : short_s32 (v % 2 ^ 32) ≡ short_s32 v = ap short_s32 (same_low v lt) in
    coded (instr.Const I32 v) Const32 (omega arith) refl
    (subst (λ (x : List ℕ). (immediates Const32).spells x (instr.Const I32 v)) (sym low) (record { first = v; front = short_s32 v; back = []; whole = sym (append-nil (short_s32 v)); front_spells = s32_made v lt; back_spells = (refl, refl) }))
    (subst Small (sym low) (small_s32 v lt))
const_written I64 v lt =
    coded (instr.Const I64 v) Const64 (omega arith) refl (record { first = v; front = short_s64 v; back = []; whole = sym (append-nil (short_s64 v)); front_spells = s64_made v lt; back_spells = (refl, refl) }) (small_s64 v lt)

un_written : (op : UnOp) → Written (instr.Un op)
unfolding operator_of access_of other_of is_float
un_written un.Clz32 = alone (instr.Un un.Clz32) (omega arith) refl refl
un_written un.Ctz32 = alone (instr.Un un.Ctz32) (omega arith) refl refl
un_written un.Popcnt32 = alone (instr.Un un.Popcnt32) (omega arith) refl refl
un_written un.Clz64 = alone (instr.Un un.Clz64) (omega arith) refl refl
un_written un.Ctz64 = alone (instr.Un un.Ctz64) (omega arith) refl refl
un_written un.Popcnt64 = alone (instr.Un un.Popcnt64) (omega arith) refl refl
un_written un.Wrap = alone (instr.Un un.Wrap) (omega arith) refl refl
un_written un.ExtendS = alone (instr.Un un.ExtendS) (omega arith) refl refl
un_written un.ExtendU = alone (instr.Un un.ExtendU) (omega arith) refl refl

test_written : (op : TestOp) → Written (instr.Test op)
unfolding operator_of access_of other_of is_float
test_written test.Eqz32 = alone (instr.Test test.Eqz32) (omega arith) refl refl
test_written test.Eqz64 = alone (instr.Test test.Eqz64) (omega arith) refl refl

compare_written : (t : ValType) (op : Compare) → Written (instr.Rel (record { width = t; op = op }))
unfolding operator_of access_of other_of is_float
compare_written I32 compare.Eq = alone (instr.Rel (record { width = I32; op = compare.Eq })) (omega arith) refl refl
compare_written I32 compare.Ne = alone (instr.Rel (record { width = I32; op = compare.Ne })) (omega arith) refl refl
compare_written I32 compare.LtS = alone (instr.Rel (record { width = I32; op = compare.LtS })) (omega arith) refl refl
compare_written I32 compare.LtU = alone (instr.Rel (record { width = I32; op = compare.LtU })) (omega arith) refl refl
compare_written I32 compare.GtS = alone (instr.Rel (record { width = I32; op = compare.GtS })) (omega arith) refl refl
compare_written I32 compare.GtU = alone (instr.Rel (record { width = I32; op = compare.GtU })) (omega arith) refl refl
compare_written I32 compare.LeS = alone (instr.Rel (record { width = I32; op = compare.LeS })) (omega arith) refl refl
compare_written I32 compare.LeU = alone (instr.Rel (record { width = I32; op = compare.LeU })) (omega arith) refl refl
compare_written I32 compare.GeS = alone (instr.Rel (record { width = I32; op = compare.GeS })) (omega arith) refl refl
compare_written I32 compare.GeU = alone (instr.Rel (record { width = I32; op = compare.GeU })) (omega arith) refl refl
compare_written I64 compare.Eq = alone (instr.Rel (record { width = I64; op = compare.Eq })) (omega arith) refl refl
compare_written I64 compare.Ne = alone (instr.Rel (record { width = I64; op = compare.Ne })) (omega arith) refl refl
compare_written I64 compare.LtS = alone (instr.Rel (record { width = I64; op = compare.LtS })) (omega arith) refl refl
compare_written I64 compare.LtU = alone (instr.Rel (record { width = I64; op = compare.LtU })) (omega arith) refl refl
compare_written I64 compare.GtS = alone (instr.Rel (record { width = I64; op = compare.GtS })) (omega arith) refl refl
compare_written I64 compare.GtU = alone (instr.Rel (record { width = I64; op = compare.GtU })) (omega arith) refl refl
compare_written I64 compare.LeS = alone (instr.Rel (record { width = I64; op = compare.LeS })) (omega arith) refl refl
compare_written I64 compare.LeU = alone (instr.Rel (record { width = I64; op = compare.LeU })) (omega arith) refl refl
compare_written I64 compare.GeS = alone (instr.Rel (record { width = I64; op = compare.GeS })) (omega arith) refl refl
compare_written I64 compare.GeU = alone (instr.Rel (record { width = I64; op = compare.GeU })) (omega arith) refl refl

binary_written : (t : ValType) (op : Binary) → Written (instr.Bin (record { width = t; op = op }))
unfolding operator_of access_of other_of is_float
binary_written I32 binary.Add = alone (instr.Bin (record { width = I32; op = binary.Add })) (omega arith) refl refl
binary_written I32 binary.Sub = alone (instr.Bin (record { width = I32; op = binary.Sub })) (omega arith) refl refl
binary_written I32 binary.Mul = alone (instr.Bin (record { width = I32; op = binary.Mul })) (omega arith) refl refl
binary_written I32 binary.DivS = alone (instr.Bin (record { width = I32; op = binary.DivS })) (omega arith) refl refl
binary_written I32 binary.DivU = alone (instr.Bin (record { width = I32; op = binary.DivU })) (omega arith) refl refl
binary_written I32 binary.RemS = alone (instr.Bin (record { width = I32; op = binary.RemS })) (omega arith) refl refl
binary_written I32 binary.RemU = alone (instr.Bin (record { width = I32; op = binary.RemU })) (omega arith) refl refl
binary_written I32 binary.And = alone (instr.Bin (record { width = I32; op = binary.And })) (omega arith) refl refl
binary_written I32 binary.Or = alone (instr.Bin (record { width = I32; op = binary.Or })) (omega arith) refl refl
binary_written I32 binary.Xor = alone (instr.Bin (record { width = I32; op = binary.Xor })) (omega arith) refl refl
binary_written I32 binary.Shl = alone (instr.Bin (record { width = I32; op = binary.Shl })) (omega arith) refl refl
binary_written I32 binary.ShrS = alone (instr.Bin (record { width = I32; op = binary.ShrS })) (omega arith) refl refl
binary_written I32 binary.ShrU = alone (instr.Bin (record { width = I32; op = binary.ShrU })) (omega arith) refl refl
binary_written I32 binary.Rotl = alone (instr.Bin (record { width = I32; op = binary.Rotl })) (omega arith) refl refl
binary_written I32 binary.Rotr = alone (instr.Bin (record { width = I32; op = binary.Rotr })) (omega arith) refl refl
binary_written I64 binary.Add = alone (instr.Bin (record { width = I64; op = binary.Add })) (omega arith) refl refl
binary_written I64 binary.Sub = alone (instr.Bin (record { width = I64; op = binary.Sub })) (omega arith) refl refl
binary_written I64 binary.Mul = alone (instr.Bin (record { width = I64; op = binary.Mul })) (omega arith) refl refl
binary_written I64 binary.DivS = alone (instr.Bin (record { width = I64; op = binary.DivS })) (omega arith) refl refl
binary_written I64 binary.DivU = alone (instr.Bin (record { width = I64; op = binary.DivU })) (omega arith) refl refl
binary_written I64 binary.RemS = alone (instr.Bin (record { width = I64; op = binary.RemS })) (omega arith) refl refl
binary_written I64 binary.RemU = alone (instr.Bin (record { width = I64; op = binary.RemU })) (omega arith) refl refl
binary_written I64 binary.And = alone (instr.Bin (record { width = I64; op = binary.And })) (omega arith) refl refl
binary_written I64 binary.Or = alone (instr.Bin (record { width = I64; op = binary.Or })) (omega arith) refl refl
binary_written I64 binary.Xor = alone (instr.Bin (record { width = I64; op = binary.Xor })) (omega arith) refl refl
binary_written I64 binary.Shl = alone (instr.Bin (record { width = I64; op = binary.Shl })) (omega arith) refl refl
binary_written I64 binary.ShrS = alone (instr.Bin (record { width = I64; op = binary.ShrS })) (omega arith) refl refl
binary_written I64 binary.ShrU = alone (instr.Bin (record { width = I64; op = binary.ShrU })) (omega arith) refl refl
binary_written I64 binary.Rotl = alone (instr.Bin (record { width = I64; op = binary.Rotl })) (omega arith) refl refl
binary_written I64 binary.Rotr = alone (instr.Bin (record { width = I64; op = binary.Rotr })) (omega arith) refl refl

part_written : (t : ValType) (signed : Bool) (a o : ℕ) → a < 2 ^ 32 → o < 2 ^ 32 → Written (instr.Load t 1 signed a o) × (Written (instr.Load t 2 signed a o) × (Written (instr.Store t 1 a o) × Written (instr.Store t 2 a o)))
unfolding operator_of access_of other_of is_float
part_written I32 true a o la lo = (two_numbers (instr.Load I32 1 true) a o la lo (omega arith) refl refl, (two_numbers (instr.Load I32 2 true) a o la lo (omega arith) refl refl, (two_numbers (instr.Store I32 1) a o la lo (omega arith) refl refl, two_numbers (instr.Store I32 2) a o la lo (omega arith) refl refl)))
part_written I32 false a o la lo = (two_numbers (instr.Load I32 1 false) a o la lo (omega arith) refl refl, (two_numbers (instr.Load I32 2 false) a o la lo (omega arith) refl refl, (two_numbers (instr.Store I32 1) a o la lo (omega arith) refl refl, two_numbers (instr.Store I32 2) a o la lo (omega arith) refl refl)))
part_written I64 true a o la lo = (two_numbers (instr.Load I64 1 true) a o la lo (omega arith) refl refl, (two_numbers (instr.Load I64 2 true) a o la lo (omega arith) refl refl, (two_numbers (instr.Store I64 1) a o la lo (omega arith) refl refl, two_numbers (instr.Store I64 2) a o la lo (omega arith) refl refl)))
part_written I64 false a o la lo = (two_numbers (instr.Load I64 1 false) a o la lo (omega arith) refl refl, (two_numbers (instr.Load I64 2 false) a o la lo (omega arith) refl refl, (two_numbers (instr.Store I64 1) a o la lo (omega arith) refl refl, two_numbers (instr.Store I64 2) a o la lo (omega arith) refl refl)))

half_written : (signed : Bool) (a o : ℕ) → a < 2 ^ 32 → o < 2 ^ 32 → Written (instr.Load I64 4 signed a o)
unfolding operator_of access_of other_of is_float
half_written true a o la lo = two_numbers (instr.Load I64 4 true) a o la lo (omega arith) refl refl
half_written false a o la lo = two_numbers (instr.Load I64 4 false) a o la lo (omega arith) refl refl

whole_written : (a o : ℕ) → a < 2 ^ 32 → o < 2 ^ 32 → Written (instr.Load I32 4 false a o) × (Written (instr.Load I64 8 false a o) × (Written (instr.Store I32 4 a o) × (Written (instr.Store I64 4 a o) × Written (instr.Store I64 8 a o))))
unfolding operator_of access_of other_of is_float
whole_written a o la lo = (two_numbers (instr.Load I32 4 false) a o la lo (omega arith) refl refl, (two_numbers (instr.Load I64 8 false) a o la lo (omega arith) refl refl, (two_numbers (instr.Store I32 4) a o la lo (omega arith) refl refl, (two_numbers (instr.Store I64 4) a o la lo (omega arith) refl refl, two_numbers (instr.Store I64 8) a o la lo (omega arith) refl refl))))

load_written : (t : ValType) (n : ℕ) (signed : Bool) (a o : ℕ) → IsLoad t n signed → a < 2 ^ 32 → o < 2 ^ 32 → Written (instr.Load t n signed a o)
load_written I32 n signed a o h la lo = elim h.width [
  | inl e ↦ subst (λ (k : ℕ). Written (instr.Load I32 k signed a o)) (sym e) (part_written I32 signed a o la lo).0
  | inr p ↦ elim p [
    | inl e ↦ subst (λ (k : ℕ). Written (instr.Load I32 k signed a o)) (sym e) (part_written I32 signed a o la lo).1.0
    | inr e ↦ (let whole : signed ≡ false = h.whole (ap (λ (k : ℕ). 8 * k) e) in subst (λ (k : ℕ). Written (instr.Load I32 k signed a o)) (sym e) (subst (λ (b : Bool). Written (instr.Load I32 4 b a o)) (sym whole) (whole_written a o la lo).0))
  ]
]
load_written I64 n signed a o h la lo = elim h.width [
  | inl e ↦ subst (λ (k : ℕ). Written (instr.Load I64 k signed a o)) (sym e) (part_written I64 signed a o la lo).0
  | inr p ↦ elim p [
    | inl e ↦ subst (λ (k : ℕ). Written (instr.Load I64 k signed a o)) (sym e) (part_written I64 signed a o la lo).1.0
    | inr q ↦ elim q [
      | inl e ↦ subst (λ (k : ℕ). Written (instr.Load I64 k signed a o)) (sym e) (half_written signed a o la lo)
      | inr e ↦ (let whole : signed ≡ false = h.whole (ap (λ (k : ℕ). 8 * k) e) in subst (λ (k : ℕ). Written (instr.Load I64 k signed a o)) (sym e) (subst (λ (b : Bool). Written (instr.Load I64 8 b a o)) (sym whole) (whole_written a o la lo).1.0))
    ]
  ]
]

store_written : (t : ValType) (n a o : ℕ) → IsWidth t n → a < 2 ^ 32 → o < 2 ^ 32 → Written (instr.Store t n a o)
store_written I32 n a o h la lo = elim h [
  | inl e ↦ subst (λ (k : ℕ). Written (instr.Store I32 k a o)) (sym e) (part_written I32 true a o la lo).1.1.0
  | inr p ↦ elim p [
    | inl e ↦ subst (λ (k : ℕ). Written (instr.Store I32 k a o)) (sym e) (part_written I32 true a o la lo).1.1.1
    | inr e ↦ subst (λ (k : ℕ). Written (instr.Store I32 k a o)) (sym e) (whole_written a o la lo).1.1.0
  ]
]
store_written I64 n a o h la lo = elim h [
  | inl e ↦ subst (λ (k : ℕ). Written (instr.Store I64 k a o)) (sym e) (part_written I64 true a o la lo).1.1.0
  | inr p ↦ elim p [
    | inl e ↦ subst (λ (k : ℕ). Written (instr.Store I64 k a o)) (sym e) (part_written I64 true a o la lo).1.1.1
    | inr q ↦ elim q [
      | inl e ↦ subst (λ (k : ℕ). Written (instr.Store I64 k a o)) (sym e) (whole_written a o la lo).1.1.1.0
      | inr e ↦ subst (λ (k : ℕ). Written (instr.Store I64 k a o)) (sym e) (whole_written a o la lo).1.1.1.1
    ]
  ]
]

pub instr_written : (i : Instr) → IsSpellable i → InstrInRange i → length (written_instruction i) < 2 ^ 32 → Written i
unfolding operator_of access_of other_of is_float
instr_written instr.Unreachable s h lt = alone instr.Unreachable (omega arith) refl refl
instr_written instr.Nop s h lt = alone instr.Nop (omega arith) refl refl
instr_written instr.Else s h lt = alone instr.Else (omega arith) refl refl
instr_written instr.End s h lt = alone instr.End (omega arith) refl refl
instr_written instr.Return s h lt = alone instr.Return (omega arith) refl refl
instr_written instr.Drop s h lt = alone instr.Drop (omega arith) refl refl
instr_written instr.Select s h lt = alone instr.Select (omega arith) refl refl
instr_written (instr.Block t) s h lt = blocks instr.Block t (omega arith) refl refl
instr_written (instr.Loop t) s h lt = blocks instr.Loop t (omega arith) refl refl
instr_written (instr.If t) s h lt = blocks instr.If t (omega arith) refl refl
instr_written (instr.Br x) s h lt = one_number instr.Br x h (omega arith) refl refl
instr_written (instr.BrIf x) s h lt = one_number instr.BrIf x h (omega arith) refl refl
instr_written (instr.Call x) s h lt = one_number instr.Call x h (omega arith) refl refl
instr_written (instr.LocalGet x) s h lt = one_number instr.LocalGet x h (omega arith) refl refl
instr_written (instr.LocalSet x) s h lt = one_number instr.LocalSet x h (omega arith) refl refl
instr_written (instr.LocalTee x) s h lt = one_number instr.LocalTee x h (omega arith) refl refl
instr_written (instr.GlobalGet x) s h lt = one_number instr.GlobalGet x h (omega arith) refl refl
instr_written (instr.GlobalSet x) s h lt = one_number instr.GlobalSet x h (omega arith) refl refl
instr_written (instr.BrTable ls l) s h lt = table_written ls l h.0 h.1 lt
instr_written (instr.CallIndirect t) s h lt = indirect_written t h
instr_written (instr.Load t n signed a o) s h lt = load_written t n signed a o s h.0 h.1
instr_written (instr.Store t n a o) s h lt = store_written t n a o s h.0 h.1
instr_written instr.MemorySize s h lt = reserved instr.MemorySize (omega arith) refl refl
instr_written instr.MemoryGrow s h lt = reserved instr.MemoryGrow (omega arith) refl refl
instr_written (instr.Const t v) s h lt = const_written t v s
instr_written (instr.Un op) s h lt = un_written op
instr_written (instr.Test op) s h lt = test_written op
instr_written (instr.Rel r) s h lt = compare_written r.width r.op
instr_written (instr.Bin r) s h lt = binary_written r.width r.op
