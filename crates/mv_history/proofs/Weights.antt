-- Sums that stand still at the end of their type.
use Rattle.std.proofs.Common.{◌≡◌, ℕ, ◌+◌, arith}
use Rattle.std.specs.Prelude.{min}

-- what is cut off twice may be cut off once
pub weighs_once : (w p m : ℕ) → min (w + min p m) m ≡ min (w + p) m
weighs_once w p m = omega arith

pub adds_once : (a b m : ℕ) → min (min a m + min b m) m ≡ min (a + b) m
adds_once a b m = omega arith
