-- Laws of the operations, for the proofs of the crates above.
use Rattle.std.proofs.Common.{◌≡◌, ℕ, ◌+◌, ◌-◌, ◌/◌, ◌%◌, ◌^◌, ◌<◌, ◌≤◌, subst, arith, Bool, true, false, lit<}
use Rattle.std.specs.Prelude.{ℤ, pos, Ok, Err, IfOk, if◌then◌else◌, ◌==◌, int_div, int_rem}
use lib.IntN.{negsuc}
use Rattle.std.specs.Ordering.{int_eq}
use Rattle.std.proofs.lemmas.Nat.{pow_pos, mod_below, mul-add-lt, pow-add, leading_le, trailing_le, ones-le, or_lt, xor_lt}
use Rattle.std.proofs.Math.Nat.{div-le_self, mod-le, lt_of_le_of_lt}
use lib.Bits.{and_lt}
use Rattle.mv_syntax.specs.Types.{bit_width, operand_type, result_type}
use Rattle.mv_syntax.specs.declared.ops.UnOp.{UnOp}
use Rattle.mv_syntax.specs.declared.ops.UnOp.TheVariants.{Clz32, Ctz32, Popcnt32, Clz64, Ctz64, Popcnt64, Wrap, ExtendS, ExtendU}
use Rattle.mv_syntax.specs.declared.ops.Binary.{Binary}
use Rattle.mv_syntax.specs.declared.ops.Binary.TheVariants.{Add, Sub, Mul, DivS, DivU, RemS, RemU, And, Or, Xor, Shl, ShrS, ShrU, Rotl, Rotr}
use Rattle.mv_arith.specs.declared.ArithTrap.TheVariants.{DivideByZero, Overflow}
use Rattle.mv_arith.specs.Integers.{signed, wrapped, rotated, binary_result, unary_result, leading_zero_count, trailing_zero_count, one_count}
use Rattle.mv_arith.proofs.Bits.{rotated_is, shifted_left-is, shifted_right-is, signed_shift-lt, and-bitwise, or-bitwise, xor-bitwise, leading_are, trailing_are, ones_are}

pub wrapped-lt : (n : ℕ) (z : ℤ) → wrapped n z < 2 ^ n
wrapped-lt n (pos a) = mod_below a (2 ^ n) (pow_pos n)
wrapped-lt n (negsuc a) = omega (arith, pow_pos n)

pub rotated-lt : (n a k : ℕ) → k ≤ n → rotated n a k < 2 ^ n
rotated-lt n a k h =
    let whole : k + (n - k) ≡ n = omega arith in
    let bound : rotated (k + (n - k)) a k < 2 ^ (k + (n - k)) =
    rw (rotated_is, pow-add) (mul-add-lt (a % 2 ^ (n - k)) (2 ^ k) (a / 2 ^ (n - k) % 2 ^ k) (2 ^ (n - k)) (mod_below a (2 ^ (n - k)) (pow_pos (n - k))) (mod_below (a / 2 ^ (n - k)) (2 ^ k) (pow_pos k))) in
    subst (λ w. rotated w a k < 2 ^ w) whole bound

one_fault : {E : Type 0} (fault : Bool) (e : E) (value bound : ℕ) → value < bound → IfOk (if fault then Err e else Ok value) (λ v. v < bound)
one_fault true e value bound h = tt
one_fault false e value bound h = h

two_faults : {E : Type 0} (first second : Bool) (d e : E) (value bound : ℕ) → value < bound → IfOk (if first then Err d else if second then Err e else Ok value) (λ v. v < bound)
two_faults true second d e value bound h = tt
two_faults false second d e value bound h = one_fault second e value bound h

-- a result has n bits
pub binary_result-lt : (n : ℕ) (op : Binary) (a b : ℕ) → 0 < n → a < 2 ^ n → b < 2 ^ n → IfOk (binary_result n op a b) (λ result. result < 2 ^ n)
unfolding binary_result
binary_result-lt n Add a b some h k = mod_below _ (2 ^ n) (pow_pos n)
binary_result-lt n Sub a b some h k = mod_below _ (2 ^ n) (pow_pos n)
binary_result-lt n Mul a b some h k = mod_below _ (2 ^ n) (pow_pos n)
binary_result-lt n DivS a b some h k =
    two_faults (int_eq (signed n b) (pos 0)) (int_eq (int_div (signed n a) (signed n b)) (pos (2 ^ (n - 1)))) DivideByZero Overflow (wrapped n (int_div (signed n a) (signed n b))) (2 ^ n) (wrapped-lt n (int_div (signed n a) (signed n b)))
binary_result-lt n DivU a b some h k = one_fault (b == 0) DivideByZero (a / b) (2 ^ n) (lt_of_le_of_lt (div-le_self a b) h)
binary_result-lt n RemS a b some h k = one_fault (int_eq (signed n b) (pos 0)) DivideByZero (wrapped n (int_rem (signed n a) (signed n b))) (2 ^ n) (wrapped-lt n (int_rem (signed n a) (signed n b)))
binary_result-lt n RemU a b some h k = one_fault (b == 0) DivideByZero (a % b) (2 ^ n) (lt_of_le_of_lt (mod-le a b) h)
binary_result-lt n And a b some h k = subst (λ v. v < 2 ^ n) (and-bitwise n a b h k) (and_lt n a b h k)
binary_result-lt n Or a b some h k = subst (λ v. v < 2 ^ n) (or-bitwise n a b h k) (or_lt n a b h k)
binary_result-lt n Xor a b some h k = subst (λ v. v < 2 ^ n) (xor-bitwise n a b h k) (xor_lt n a b h k)
binary_result-lt n Shl a b some h k = subst (λ v. v < 2 ^ n) (shifted_left-is n (b % n) a (mod_below b n some)) (mod_below _ (2 ^ n) (pow_pos n))
binary_result-lt n ShrS a b some h k = signed_shift-lt n (b % n) a (mod_below b n some) h
binary_result-lt n ShrU a b some h k = subst (λ v. v < 2 ^ n) (shifted_right-is n (b % n) a (mod_below b n some) h) (lt_of_le_of_lt (div-le_self a _) h)
binary_result-lt n Rotl a b some h k = let below : b % n < n = mod_below b n some in rotated-lt n a (b % n) (omega arith)
binary_result-lt n Rotr a b some h k = rotated-lt n a (n - b % n) (omega arith)

pub unary_result-lt : (op : UnOp) (a : ℕ) → a < 2 ^ bit_width (operand_type op) → unary_result op a < 2 ^ bit_width (result_type op)
unfolding unary_result leading_zero_count trailing_zero_count one_count
unary_result-lt Clz32 a h = omega (arith, leading_are 32 a h, leading_le 32 a)
unary_result-lt Ctz32 a h = omega (arith, trailing_are 32 a, trailing_le 32 a)
unary_result-lt Popcnt32 a h = omega (arith, ones_are 32 a h, ones-le 32 a h)
unary_result-lt Clz64 a h = omega (arith, leading_are 64 a h, leading_le 64 a)
unary_result-lt Ctz64 a h = omega (arith, trailing_are 64 a, trailing_le 64 a)
unary_result-lt Popcnt64 a h = omega (arith, ones_are 64 a h, ones-le 64 a h)
unary_result-lt Wrap a h = mod_below a (2 ^ 32) (lit< tt)
unary_result-lt ExtendS a h = wrapped-lt 64 _
unary_result-lt ExtendU a h = omega arith
