-- Messages and worlds whose guests have nothing prepared.
use Rattle.std.specs.Prelude.{◌≡◌, Option, Some, None, List, [], ◌∷◌}
use Rattle.mv_feed.specs.declared.msg.Msg.{Msg}
use Rattle.mv_feed.specs.declared.msg.Msg.TheVariants as msg
use Rattle.mv_version.specs.Behaviour.{Behaviour}
use Rattle.mv_history.specs.Followers.{Base, Forked, Standing, Following}
use Rattle.mv_history.specs.World.{World}

-- A message as a follower takes it: a guest that led follows by its state alone, without what was prepared for its call.
abbrev pub settled : {V : Type 0} → Behaviour V → Msg V → Msg V
settled b (msg.Stand s) = msg.Stand (b.state s)
settled b (msg.Fork u old bytes forward reverse) = msg.Fork u old bytes forward reverse
settled b (msg.Heard item) = msg.Heard item
settled b (msg.Hand n) = msg.Hand n

-- each of these messages is taken as it is
abbrev pub AreSettled : {V : Type 0} → Behaviour V → List (Msg V) → Type 0
AreSettled b [] = Unit {0}
AreSettled b (m ∷ ms) = (settled b m ≡ m) × AreSettled b ms

abbrev pub IsSettledBase : {V : Type 0} → Behaviour V → Base V → Type 0
IsSettledBase b (Forked s) = Unit {0}
IsSettledBase b (Standing s) = b.state s ≡ s

abbrev pub IsSettledFollowing : {V : Type 0} → Behaviour V → Option (Following V) → Type 0
IsSettledFollowing b None = Unit {0}
IsSettledFollowing b (Some f) = IsSettledBase b f.base

-- its leader has nothing prepared, and neither has a guest that follows as it stood
pub record IsSettledWorld {V : Type 0} (b : Behaviour V) (w : World V) : Type 0 where
  pub lead : b.state w.lead ≡ w.lead
  pub following : IsSettledFollowing b w.following
