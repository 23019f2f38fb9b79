-- Numbers, in decimal digits (docs/FORMATS.md, "Words of a text").
use Rattle.std.specs.Prelude.{ℕ, ◌+◌, ◌-◌, ◌*◌, nat_le, Bool, ◌&&◌, List, [], ◌∷◌, Option, Some, None, if◌then◌else◌}
use Rattle.std.specs.List.{list_all}
use Rattle.mv_scan.specs.declared.token.Token.{Token}
use Rattle.mv_scan.specs.declared.token.Token.TheVariants.{Plain, Quoted, Glued}
use Rattle.mv_scan.specs.declared.found.Found.{Found}
use Rattle.mv_scan.specs.declared.found.Found.TheVariants.{Other, OutOfRange, Is}

abbrev pub is_digit : ℕ → Bool
is_digit b = nat_le 48 b && nat_le b 57

abbrev pub decimal_from : ℕ → List ℕ → ℕ
decimal_from n [] = n
decimal_from n (b ∷ digits) = decimal_from (10 * n + (b - 48)) digits

-- what the digits stand for, however many they are
abbrev pub decimal : List ℕ → Option ℕ
decimal [] = None
decimal (b ∷ digits) = if list_all is_digit (b ∷ digits) then Some (decimal_from 0 (b ∷ digits)) else None

abbrev pub in_range : ℕ → ℕ → Option ℕ → Found ℕ
in_range low high None = Other
in_range low high (Some n) = if nat_le low n && nat_le n high then Is n else OutOfRange

-- a number from low to high
abbrev pub number_of : ℕ → ℕ → Token → Found ℕ
number_of low high (Plain word) = in_range low high (decimal word)
number_of low high (Quoted text) = Other
number_of low high Glued = Other
