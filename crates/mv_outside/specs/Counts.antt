-- Numbered calls of an object in memory, and its count of faults.
use Rattle.std.specs.Prelude.{ℕ, ◌+◌, ◌-◌, ◌^◌, min, Bool, ◌==◌, List}
use Rattle.std.specs.List.{list_any}

-- one more, up to the greatest value of the type
abbrev pub one_more : ℕ → ℕ
one_more count = min (count + 1) (2 ^ 64 - 1)

-- whether the call of this number is one of those that are to fail
abbrev pub is_named : List ℕ → ℕ → Bool
is_named named number = list_any (λ (other : ℕ). other == number) named
