-- The integer operations of WebAssembly Core 1.0, section 4.3.2, and the conversions between integers, section 4.3.4.
--
-- An integer of n bits is a number below 2 ^ n, where n is 32 or 64, and is read as a signed number where the operation says so.
use Rattle.std.specs.Prelude.{ℕ, zero, suc, ◌+◌, ◌-◌, ◌*◌, ◌/◌, ◌%◌, ◌^◌, ◌≡◌, ◌==◌, nat_lt, nat_le, if◌then◌else◌, Bool, not, List, [], ◌∷◌, ◌++◌, sum, take, drop, replicate, slice_index, fold, ℤ, pos, ◌-ℤ◌, min, max, map, int_div, int_rem, unsigned_abs, int_lt, Result, Ok, Err}
use Rattle.std.specs.List.{prefix_len, suffix_len, zip}
use Rattle.std.specs.Int.{int_rem_euclid}
use Rattle.std.specs.Int.RustNames.{int_le}
use Rattle.std.specs.Ordering.{int_eq}
use Rattle.mv_syntax.specs.declared.ops.UnOp.{UnOp}
use Rattle.mv_syntax.specs.declared.ops.UnOp.TheVariants.{Clz32, Ctz32, Popcnt32, Clz64, Ctz64, Popcnt64, Wrap, ExtendS, ExtendU}
use Rattle.mv_syntax.specs.declared.ops.Compare.{Compare}
use Rattle.mv_syntax.specs.declared.ops.Compare.TheVariants.{Eq, Ne, LtS, LtU, GtS, GtU, LeS, LeU, GeS, GeU}
use Rattle.mv_syntax.specs.declared.ops.Binary.{Binary}
use Rattle.mv_syntax.specs.declared.ops.Binary.TheVariants.{Add, Sub, Mul, DivS, DivU, RemS, RemU, And, Or, Xor, Shl, ShrS, ShrU, Rotl, Rotr}
use Rattle.mv_arith.specs.declared.ArithTrap.{ArithTrap}
use Rattle.mv_arith.specs.declared.ArithTrap.TheVariants.{DivideByZero, Overflow}

-- ---- integers, signed numbers and bits (4.3.1 and 4.3.2)

-- the signed number that an integer of n bits stands for: less 2 ^ n in the upper half of the range
abbrev pub signed : ℕ → ℕ → ℤ
signed n a = if nat_lt a (2 ^ (n - 1)) then pos a else pos a -ℤ pos (2 ^ n)

-- the integer of n bits that is equal to z modulo 2 ^ n: the one that z is the signed reading of, where it has one
abbrev pub wrapped : ℕ → ℤ → ℕ
wrapped n z = unsigned_abs (int_rem_euclid z (pos (2 ^ n)))

-- ibits: the n bits of an integer, the most significant first
unfoldable pub bits_of : ℕ → ℕ → List ℕ
bits_of zero a = []
bits_of (suc n) a = bits_of n (a / 2) ++ a % 2 ∷ []

-- the integer that has these bits, the most significant first
abbrev pub value_of_bits : List ℕ → ℕ
value_of_bits bits = fold (λ value bit. value * 2 + bit) 0 bits

-- the bits of two integers of n bits, joined place by place
unfoldable pub bitwise : (ℕ → ℕ → ℕ) → ℕ → ℕ → ℕ → ℕ
bitwise join n a b = value_of_bits (map (λ pair. join pair.0 pair.1) (zip (bits_of n a) (bits_of n b)))

-- ---- one operand

-- iclz, ictz: how many of the n bits come before the first 1, and after the last
unfoldable pub leading_zero_count : ℕ → ℕ → ℕ
leading_zero_count n a = prefix_len (λ bit. bit == 0) (bits_of n a)

unfoldable pub trailing_zero_count : ℕ → ℕ → ℕ
trailing_zero_count n a = suffix_len (λ bit. bit == 0) (bits_of n a)

-- ipopcnt: how many of the n bits are 1
unfoldable pub one_count : ℕ → ℕ → ℕ
one_count n a = sum (bits_of n a)

-- wrap is taken modulo 2 ^ 32; extend keeps the signed number, or the number (4.3.4)
unfoldable pub unary_result : UnOp → ℕ → ℕ
unary_result Clz32 a = leading_zero_count 32 a
unary_result Ctz32 a = trailing_zero_count 32 a
unary_result Popcnt32 a = one_count 32 a
unary_result Clz64 a = leading_zero_count 64 a
unary_result Ctz64 a = trailing_zero_count 64 a
unary_result Popcnt64 a = one_count 64 a
unary_result Wrap a = a % 2 ^ 32
unary_result ExtendS a = wrapped 64 (signed 32 a)
unary_result ExtendU a = a

-- ---- two operands

-- idiv_s: the quotient rounded toward zero, but for 2 ^ (n - 1), the quotient of the least number by -1, which is no signed number of n bits
abbrev pub signed_quotient : ℕ → ℤ → ℤ → Result ℕ ArithTrap
signed_quotient n a b =
    if int_eq b (pos 0) then Err DivideByZero
    else if int_eq (int_div a b) (pos (2 ^ (n - 1))) then Err Overflow
    else Ok (wrapped n (int_div a b))

-- irem_s: with the sign of the dividend
abbrev pub signed_remainder : ℕ → ℤ → ℤ → Result ℕ ArithTrap
signed_remainder n a b = if int_eq b (pos 0) then Err DivideByZero else Ok (wrapped n (int_rem a b))

-- idiv_u
abbrev pub quotient : ℕ → ℕ → Result ℕ ArithTrap
quotient a b = if b == 0 then Err DivideByZero else Ok (a / b)

-- irem_u
abbrev pub remainder : ℕ → ℕ → Result ℕ ArithTrap
remainder a b = if b == 0 then Err DivideByZero else Ok (a % b)

-- irotl: the first k bits are moved to the end
unfoldable pub rotated : ℕ → ℕ → ℕ → ℕ
rotated n a k = value_of_bits (drop k (bits_of n a) ++ take k (bits_of n a))

-- ishl: the bits after the first k, and then k zeros
unfoldable pub shifted_left : ℕ → ℕ → ℕ → ℕ
shifted_left n a k = value_of_bits (drop k (bits_of n a) ++ replicate k 0)

-- ishr_u and ishr_s: k times a bit, zero or the first of all, and then all bits but the last k
unfoldable pub shifted_right : ℕ → ℕ → ℕ → ℕ → ℕ
shifted_right n bit a k = value_of_bits (replicate k bit ++ take (n - k) (bits_of n a))

-- the first bit
abbrev pub sign_bit : ℕ → ℕ → ℕ
sign_bit n a = slice_index (bits_of n a) 0

-- for integers of n bits; the count of a shift or a rotation is taken modulo n, and to rotate right by k is to rotate left by n - k
unfoldable pub binary_result : ℕ → Binary → ℕ → ℕ → Result ℕ ArithTrap
binary_result n Add a b = Ok ((a + b) % 2 ^ n)
binary_result n Sub a b = Ok ((a + 2 ^ n - b) % 2 ^ n)
binary_result n Mul a b = Ok ((a * b) % 2 ^ n)
binary_result n DivS a b = signed_quotient n (signed n a) (signed n b)
binary_result n DivU a b = quotient a b
binary_result n RemS a b = signed_remainder n (signed n a) (signed n b)
binary_result n RemU a b = remainder a b
binary_result n And a b = Ok (bitwise min n a b)
binary_result n Or a b = Ok (bitwise max n a b)
binary_result n Xor a b = Ok (bitwise (λ x y. (x + y) % 2) n a b)
binary_result n Shl a b = Ok (shifted_left n a (b % n))
binary_result n ShrS a b = Ok (shifted_right n (sign_bit n a) a (b % n))
binary_result n ShrU a b = Ok (shifted_right n 0 a (b % n))
binary_result n Rotl a b = Ok (rotated n a (b % n))
binary_result n Rotr a b = Ok (rotated n a (n - b % n))

-- when there is no result: the divisor is zero
abbrev pub DividesByZero : Binary → ℕ → Type 0
DividesByZero DivS b = b ≡ 0
DividesByZero DivU b = b ≡ 0
DividesByZero RemS b = b ≡ 0
DividesByZero RemU b = b ≡ 0
DividesByZero op b = ⊥

-- when there is no result: the least number by -1
abbrev pub DividesLeastByMinusOne : ℕ → Binary → ℕ → ℕ → Type 0
DividesLeastByMinusOne n DivS a b = (a ≡ 2 ^ (n - 1)) × (b ≡ 2 ^ n - 1)
DividesLeastByMinusOne n op a b = ⊥

-- ---- comparisons of integers of n bits: the unsigned ones as numbers, the signed ones as signed numbers

unfoldable pub compares : ℕ → Compare → ℕ → ℕ → Bool
compares n Eq a b = a == b
compares n Ne a b = not (a == b)
compares n LtS a b = int_lt (signed n a) (signed n b)
compares n LtU a b = nat_lt a b
compares n GtS a b = int_lt (signed n b) (signed n a)
compares n GtU a b = nat_lt b a
compares n LeS a b = int_le (signed n a) (signed n b)
compares n LeU a b = nat_le a b
compares n GeS a b = int_le (signed n b) (signed n a)
compares n GeU a b = nat_le b a
