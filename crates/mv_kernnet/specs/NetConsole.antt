-- What contracts see of a console over the network.
use Rattle.std.specs.Prelude.{ℕ, Bool}

-- how often it has failed, how long a line may be that is said, and whether no line comes any more
pub record ConsoleSeen : Type 0 where
  pub faults : ℕ
  pub room : ℕ
  pub ended : Bool
