-- For private clauses: what lies under the follower's lock.
use Rattle.std.specs.Prelude.{◌≡◌, false, map, List, Option, None}
use Rattle.atomic_table.specs.Seated.{TableId}
use Rattle.mv_feed.specs.declared.msg.Msg.{Msg}
use Rattle.mv_version.specs.Behaviour.{Behaviour}
use Rattle.mv_history.specs.Linked.{Linked}
use Rattle.mv_history.specs.Settled.{settled}
use Rattle.mv_history.specs.Spots.{Spot}
use Rattle.mv_ring.specs.Halves.{ring_of_out, taken_list}
use Rattle.mv_ring.specs.declared.ring_out.RingOut.{RingOut}
use Rattle.mv_follower.specs.Follows.{FollowerState, IsAt, has_verdict}
use Rattle.mv_rehearse.specs.Linked.{IsWaiting}
use Rattle.mv_rehearse.specs.declared.beats.Waiting.{Waiting}

-- over what was taken: the follower stands where it leads, and a verdict that waits is shown
pub record StandsAt {V : Type 0} (b : Behaviour V) (taken : List (Msg V)) (f : FollowerState V) (waiting : Option (Waiting V)) : Type 0 where
  pub spot : Spot V
  pub follower_is : IsAt b f spot
  pub spot_is : Linked taken spot
  pub shown_is : IsWaiting b taken waiting
  -- where none waits, none was given
  pub begins : waiting ≡ None → has_verdict f ≡ false

-- A follower takes a message without what was prepared for a call. That the messages of a log have nothing prepared, is known
-- under the core's lock alone.
pub record IsTrailing {V : Type 0} (b : Behaviour V) (ring : TableId) (feed : RingOut V) (f : FollowerState V) (waiting : Option (Waiting V)) : Type 0 where
  pub of_ring : ring_of_out feed ≡ ring
  pub stands : StandsAt b (map (settled b) (taken_list feed)) f waiting
