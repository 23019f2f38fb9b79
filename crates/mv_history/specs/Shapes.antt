-- What a legal world is like, besides its counts.
use Rattle.std.specs.Prelude.{◌≡◌, ◌≢◌, ℕ, ◌<◌, true, false, Option, Some, None}
use Rattle.mv_orders.specs.declared.stage.Stage.{Stage}
use Rattle.mv_orders.specs.declared.stage.Stage.TheVariants.{OldLeads, NewLeads}
use Rattle.mv_orders.specs.declared.stage.Word.{Word}
use Rattle.mv_orders.specs.declared.stage.Word.TheVariants as word
use Rattle.mv_history.specs.Followers.{Base, Forked, Standing, Following}
use Rattle.mv_history.specs.Statuses.{is_alone, is_old_leads, is_new_leads}
use Rattle.mv_history.specs.Ties.{update_wanted}
use Rattle.mv_history.specs.World.{World}
use Rattle.mv_history.specs.declared.log.Why.{Why}
use Rattle.mv_history.specs.declared.log.Why.TheVariants as why
use Rattle.mv_history.specs.declared.status.Asked.{Asked}
use Rattle.mv_history.specs.declared.status.Wanted.{Wanted}

-- the stage in which an order is accepted, and so wanted
abbrev pub WordFits : Stage → Word → Type 0
WordFits stage word.Update = is_alone stage ≡ true
WordFits stage word.Promote = is_old_leads stage ≡ true
WordFits stage word.Discard = is_old_leads stage ≡ true
WordFits stage word.Finish = is_new_leads stage ≡ true
WordFits stage word.Back = is_new_leads stage ≡ true
WordFits stage word.Halt = Unit {0}

abbrev pub WantedFits : Stage → Option Wanted → Type 0
WantedFits stage None = Unit {0}
WantedFits stage (Some wanted) = WordFits stage wanted.word

-- the stage in which a hand-over is asked
abbrev pub WhyFits : Stage → Why → Type 0
WhyFits stage why.Promote = is_old_leads stage ≡ true
WhyFits stage why.Back = is_new_leads stage ≡ true
WhyFits stage (why.Trap t) = is_alone stage ≡ false

abbrev pub AskedFits : Stage → Option Asked → Type 0
AskedFits stage None = Unit {0}
AskedFits stage (Some asked) = WhyFits stage asked.why

abbrev pub BaseFits : {V : Type 0} → Stage → Base V → Type 0
BaseFits OldLeads (Forked s) = Unit {0}
BaseFits NewLeads (Standing s) = Unit {0}
BaseFits stage base = ⊥

-- a follower is there beside a leader alone: a new version beside the old leader, the old one beside the new leader
abbrev pub FollowerFits : {V : Type 0} → Stage → ℕ → Option (Following V) → Type 0
FollowerFits stage follower None = (follower ≡ 0) × (is_alone stage ≡ true)
FollowerFits stage follower (Some f) = (0 < follower) × BaseFits stage f.base

-- nobody follows, and nothing is asked
pub record IsOver {V : Type 0} (w : World V) : Type 0 where
  pub nobody : w.status.follower ≡ 0
  pub alone : w.following ≡ None
  pub unasked : w.status.asked ≡ None

pub record Shaped {V : Type 0} (w : World V) : Type 0 where
  pub follower : w.status.ended ≡ None → FollowerFits w.status.stage w.status.follower w.following
  pub wanted : w.status.ended ≡ None → WantedFits w.status.stage w.status.wanted
  pub asked : w.status.ended ≡ None → AskedFits w.status.stage w.status.asked
  -- an update that is wanted is the last one that was accepted
  pub numbered : (u : ℕ) → update_wanted w.status.wanted ≡ Some u → (0 < u) × (u ≡ w.status.updates)
  pub over : w.status.ended ≢ None → IsOver w
