-- A world from which a log may begin: the first world of a run, or a later one in which a version is alone, with the messages
-- that were put before it.
use Rattle.std.specs.Prelude.{◌≡◌, ℕ, ◌≤◌, ◌<◌, None, List, [], ◌∷◌, length}
use Rattle.mv_feed.specs.declared.msg.Msg.{Msg}
use Rattle.mv_feed.specs.declared.msg.Msg.TheVariants as msg
use Rattle.mv_history.specs.Ties.{update_wanted}
use Rattle.mv_history.specs.World.{World}

-- each copy is for an update of at most this number
abbrev pub ForksUpTo : {V : Type 0} → ℕ → List (Msg V) → Type 0
ForksUpTo most [] = Unit {0}
ForksUpTo most (msg.Fork u old bytes forward reverse ∷ ms) = (u ≤ most) × ForksUpTo most ms
ForksUpTo most (m ∷ ms) = ForksUpTo most ms

-- each hand-over is that of an entry before this number
abbrev pub HandsBelow : {V : Type 0} → ℕ → List (Msg V) → Type 0
HandsBelow number [] = Unit {0}
HandsBelow number (msg.Hand n ∷ ms) = (n < number) × HandsBelow number ms
HandsBelow number (m ∷ ms) = HandsBelow number ms

-- Nobody follows and no update is wanted, and the messages before are of updates and entries that the run had by then.
pub record IsBase {V : Type 0} (w : World V) (before : List (Msg V)) : Type 0 where
  pub nobody : w.status.follower ≡ 0
  pub alone : w.following ≡ None
  pub unasked : w.status.asked ≡ None
  pub unwanted : update_wanted w.status.wanted ≡ None
  pub forks : ForksUpTo w.status.updates before
  pub hands : HandsBelow w.status.number before
  pub few : length before ≤ w.status.number
