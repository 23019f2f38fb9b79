-- Numbers of an assembler text: decimal digits, `-` before those of a constant, or `0x` and hexadecimal digits
-- (docs/FORMATS.md, "Assembler text").
use Rattle.std.specs.Prelude.{ℕ, ◌+◌, ◌-◌, ◌*◌, ◌^◌, nat_le, Bool, ◌&&◌, List, [], ◌∷◌, Option, Some, None, is_some, unwrap_or, ◌==◌, if◌then◌else◌}
use Rattle.std.specs.List.{list_all}
use Rattle.mv_syntax.specs.declared.ops.ValType.{ValType}
use Rattle.mv_syntax.specs.Types.{bit_width}
use Rattle.mv_scan.specs.Words.{hex_value}
use Rattle.mv_scan.specs.Numbers.{decimal}

abbrev pub is_hex_digit : ℕ → Bool
is_hex_digit b = is_some (hex_value b)

abbrev pub hex_digit : ℕ → ℕ
hex_digit b = unwrap_or (hex_value b) 0

abbrev pub hexadecimal_from : ℕ → List ℕ → ℕ
hexadecimal_from n [] = n
hexadecimal_from n (b ∷ digits) = hexadecimal_from (16 * n + hex_digit b) digits

-- what hexadecimal digits stand for, at least one, however many they are
abbrev pub hexadecimal : List ℕ → Option ℕ
hexadecimal [] = None
hexadecimal (b ∷ digits) = if list_all is_hex_digit (b ∷ digits) then Some (hexadecimal_from 0 (b ∷ digits)) else None

-- `0x` and hexadecimal digits, or decimal digits
abbrev pub numeral : List ℕ → Option ℕ
numeral [] = None
numeral (a ∷ []) = decimal (a ∷ [])
numeral (a ∷ b ∷ bytes) = if (a == 48) && (b == 120) then hexadecimal bytes else decimal (a ∷ b ∷ bytes)

abbrev pub at_most : ℕ → Option ℕ → Option ℕ
at_most most None = None
at_most most (Some n) = if nat_le n most then Some n else None

-- a negative number of the type, as its sum with 2 ^ width
abbrev pub negated : ValType → ℕ → ℕ
negated t n = if n == 0 then 0 else 2 ^ bit_width t - n

abbrev pub negative : ValType → Option ℕ → Option ℕ
negative t None = None
negative t (Some n) = Some (negated t n)

-- a constant of the type, from minus 2 ^ (width - 1) to 2 ^ width - 1; only decimal digits may stand behind `-`
abbrev pub constant : ValType → List ℕ → Option ℕ
constant t [] = None
constant t (b ∷ bytes) = if b == 45 then negative t (at_most (2 ^ (bit_width t - 1)) (decimal bytes)) else at_most (2 ^ bit_width t - 1) (numeral (b ∷ bytes))
