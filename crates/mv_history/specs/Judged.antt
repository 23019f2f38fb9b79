-- A follower that may lead, as a judgement finds it.
use Rattle.std.specs.Prelude.{◌≡◌, Some}
use Rattle.mv_version.specs.Behaviour.{Behaviour}
use Rattle.mv_history.specs.Followers.{Following, Reaches}
use Rattle.mv_history.specs.World.{World}

-- the world's follower is this one, and it reaches this state
pub record IsReadyAs {V : Type 0} (b : Behaviour V) (w : World V) (f : Following V) (s : V) : Type 0 where
  pub follows : w.following ≡ Some f
  pub reaches : Reaches b f s
