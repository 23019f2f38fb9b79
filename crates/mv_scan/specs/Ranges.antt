-- Bounds of what is found.
use Rattle.std.specs.Prelude.{ℕ, ◌≤◌}
use Rattle.mv_scan.specs.declared.found.Found.{Found}
use Rattle.mv_scan.specs.declared.found.Found.TheVariants.{Other, OutOfRange, Is}

-- the number that is found, if there is one, is at most this
abbrev pub IsAtMost : ℕ → Found ℕ → Type 0
IsAtMost high Other = Unit {0}
IsAtMost high OutOfRange = Unit {0}
IsAtMost high (Is n) = n ≤ high
