-- What a follower has read of the rules files of its base, by how far its birth is.
use Rattle.std.specs.Prelude.{◌≡◌, ◌<◌, ◌≤◌, Some}
use Rattle.mv_history.specs.Followers.{is_forked}
use Rattle.mv_history.specs.Places.{Place}
use Rattle.mv_history.specs.Rules.{AreAccepted, IsAccepted}
use Rattle.mv_history.specs.Spots.{Kept, Spot}

pub record HasRead {V : Type 0} (spot : Spot V) : Type 0 where
  -- only a copy is still to be born
  pub forked : (p : Place V) → spot.place ≡ Some p → 0 < spot.births → is_forked p.follows.base
  -- the forward rules were accepted once two steps of the birth are left, the reverse rules once one is
  pub forward : (p : Place V) → spot.place ≡ Some p → spot.births ≤ 2 → IsAccepted p.follows.files.forward
  pub reverse : (p : Place V) → spot.place ≡ Some p → spot.births ≤ 1 → IsAccepted p.follows.files.reverse
  -- so were those of the update whose reverse rules are kept
  pub kept : (k : Kept) → spot.keeps ≡ Some k → AreAccepted k.files
