-- Names (docs/FORMATS.md, "Words of a text").
use Rattle.std.specs.Prelude.{ℕ, ◌==◌, nat_le, Bool, false, ◌&&◌, ◌||◌, List, [], ◌∷◌, length}
use Rattle.std.specs.List.{list_all}
use Rattle.mv_scan.specs.Numbers.{is_digit}

abbrev pub is_lower : ℕ → Bool
is_lower b = nat_le 97 b && nat_le b 122

abbrev pub is_name_byte : ℕ → Bool
is_name_byte b = is_lower b || (is_digit b || (b == 95))

-- a lower-case letter and up to 15 of lower-case letters, digits and `_`
abbrev pub is_name : List ℕ → Bool
is_name [] = false
is_name (b ∷ bytes) = is_lower b && (nat_le (length bytes) 15 && list_all is_name_byte bytes)
