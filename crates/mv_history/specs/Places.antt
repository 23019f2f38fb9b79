-- The follower that a list of messages makes, as their sender knows it.
use Rattle.std.specs.Prelude.{ℕ, Option, Some, None, is_some, Bool, List, [], ◌∷◌}
use Rattle.mv_feed.specs.declared.msg.Msg.{Msg}
use Rattle.mv_feed.specs.declared.msg.Msg.TheVariants as msg
use Rattle.mv_history.specs.Followers.{Following, Forked, hears}
use Rattle.mv_history.specs.World.{stand}

pub record Place (V : Type 0) : Type 0 where
  pub update : ℕ
  pub follows : Following V
  -- the number of the hand-over that was taken
  pub hand : Option ℕ

abbrev pub forked_place : {V : Type 0} → ℕ → V → List ℕ → List ℕ → List ℕ → Place V
forked_place u old bytes forward reverse =
    record { update = u; follows = record { files = record { «module» = bytes; forward = forward; reverse = reverse }; base = Forked old; heard = [] }; hand = None }

abbrev pub place_after : {V : Type 0} → Option (Place V) → Msg V → Option (Place V)
place_after p (msg.Fork u old bytes forward reverse) = Some (forked_place u old bytes forward reverse)
place_after None (msg.Heard item) = None
place_after None (msg.Hand n) = None
place_after None (msg.Stand s) = None
place_after (Some p) (msg.Heard item) = Some (record { update = p.update; follows = hears p.follows item; hand = p.hand })
place_after (Some p) (msg.Hand n) = Some (record { update = p.update; follows = p.follows; hand = Some n })
place_after (Some p) (msg.Stand s) = Some (record { update = p.update; follows = stand s p.follows; hand = None })

abbrev pub place_from : {V : Type 0} → Option (Place V) → List (Msg V) → Option (Place V)
place_from p [] = p
place_from p (m ∷ ms) = place_from (place_after p m) ms

-- the place after all of these messages
abbrev pub place_of : {V : Type 0} → List (Msg V) → Option (Place V)
place_of ms = place_from None ms

-- a hand-over was taken
abbrev pub is_handed : {V : Type 0} → Place V → Bool
is_handed p = is_some p.hand
