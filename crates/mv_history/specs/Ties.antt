-- What the messages that were sent say of the world, and of each prefix of them.
use Rattle.std.specs.Prelude.{◌≡◌, ℕ, ◌≤◌, ◌<◌, ◌⊎◌, Option, Some, None, List, [], ◌++◌}
use Rattle.mv_calls.specs.declared.calls.Call.{Call}
use Rattle.mv_calls.specs.declared.calls.Reply.{Reply}
use Rattle.mv_feed.specs.declared.msg.Msg.{Msg}
use Rattle.mv_orders.specs.declared.stage.Word.{Word}
use Rattle.mv_orders.specs.declared.stage.Word.TheVariants as word
use Rattle.mv_version.specs.Behaviour.{Behaviour}
use Rattle.mv_history.specs.Followers.{Following, replayed}
use Rattle.mv_history.specs.Places.{Place, is_handed}
use Rattle.mv_history.specs.Replay.{Stands}
use Rattle.mv_history.specs.Rules.{AreAccepted}
use Rattle.mv_history.specs.World.{World}
use Rattle.mv_history.specs.declared.status.Asked.{Asked}
use Rattle.mv_history.specs.declared.status.Wanted.{Wanted}

abbrev pub hand_of : Option Asked → Option ℕ
hand_of None = None
hand_of (Some asked) = Some asked.n

abbrev pub update_by : Word → ℕ → Option ℕ
update_by word.Update n = Some n
update_by w n = None

-- the update that is wanted
abbrev pub update_wanted : Option Wanted → Option ℕ
update_wanted None = None
update_wanted (Some wanted) = update_by wanted.word wanted.update

-- the follower's place is that of the messages
pub record IsAt {V : Type 0} (w : World V) (place : Option (Place V)) : Type 0 where
  pub at : Place V
  pub is_at : place ≡ Some at
  pub update : at.update ≡ w.status.follower
  pub following : w.following ≡ Some at.follows
  pub hand : hand_of w.status.asked ≡ at.hand

pub record Ties {V : Type 0} (w : World V) (place : Option (Place V)) : Type 0 where
  pub known : 0 < w.status.follower → IsAt w place
  pub nobody : w.status.follower ≡ 0 → (w.following ≡ None) × (w.status.asked ≡ None)
  -- copies have rising numbers
  pub old : (p : Place V) → place ≡ Some p → p.update ≤ w.status.updates
  pub some : (u : ℕ) → update_wanted w.status.wanted ≡ Some u → (0 < u) × (u ≡ w.status.updates)
  pub older : (p : Place V) (u : ℕ) → place ≡ Some p → update_wanted w.status.wanted ≡ Some u → p.update < u

-- what a follower heard, and more
abbrev pub with_more : {V : Type 0} → Following V → List (Call × Reply) → Following V
with_more f more = record { files = f.files; base = f.base; heard = f.heard ++ more }

-- the place goes on from an earlier one, at which no hand-over was taken; or it is that one
pub record GoesOn {V : Type 0} (early : Place V) (place : Option (Place V)) : Type 0 where
  pub at : Place V
  pub is_at : place ≡ Some at
  pub update : at.update ≡ early.update
  pub more : List (Call × Reply)
  pub follows : at.follows ≡ with_more early.follows more
  pub unhanded : (early.hand ≡ None) ⊎ ((more ≡ []) × (at.hand ≡ early.hand))

pub record Later {V : Type 0} (early : Place V) (place : Option (Place V)) : Type 0 where
  pub at : Place V
  pub is_at : place ≡ Some at
  pub update : early.update < at.update

-- all was well at this place
pub record WasWell {V : Type 0} (b : Behaviour V) (early : Place V) : Type 0 where
  pub accepted : AreAccepted early.follows.files
  pub at : V
  pub stands : replayed b (is_handed early) early.follows ≡ Stands at

-- the place goes on from an earlier one, or is that of a later update, or all was well at the earlier one
abbrev pub Extends : {V : Type 0} → Behaviour V → Place V → Option (Place V) → Type 0
Extends b early place = GoesOn early place ⊎ (Later early place ⊎ WasWell b early)

-- each hand-over has the number of an entry
abbrev pub HandsPast : {V : Type 0} → ℕ → Option (Place V) → Type 0
HandsPast {V} number place = (p : Place V) (m : ℕ) → place ≡ Some p → p.hand ≡ Some m → m < number

-- the place is as it was when the hand-over n was taken and nothing was sent since, or it has passed it
abbrev pub Waits : {V : Type 0} → ℕ → Place V → ℕ → Option (Place V) → List (Msg V) → Type 0
Waits {V} n early number place since = (n < number) × (((place ≡ Some early) × (since ≡ [])) ⊎ ((p : Place V) (m : ℕ) → place ≡ Some p → p.hand ≡ Some m → n < m))
