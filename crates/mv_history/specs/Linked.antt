-- A follower's spot and what it took.
use Rattle.std.specs.Prelude.{◌≡◌, Some, List}
use Rattle.mv_feed.specs.declared.msg.Msg.{Msg}
use Rattle.mv_history.specs.Places.{Place, place_of}
use Rattle.mv_history.specs.Spots.{Kept, Spot}

pub record Linked {V : Type 0} (taken : List (Msg V)) (spot : Spot V) : Type 0 where
  -- its place is that of all that was taken
  pub base_is : (p : Place V) → spot.place ≡ Some p → place_of taken ≡ Some p
  -- the reverse rules that it keeps are of that place's update, also while it has no base
  pub keeps_is : (k : Kept) → spot.keeps ≡ Some k → (p : Place V) × (place_of taken ≡ Some p) × (p.update ≡ k.update) × (p.follows.files ≡ k.files)
