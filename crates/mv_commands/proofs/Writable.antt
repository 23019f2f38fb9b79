-- The entries of a legal log can be written: each Mismatch tells another call or an end.
use Rattle.std.proofs.Common.{[], ◌∷◌, List, Option, Some, None, Bool, ℕ}
use Rattle.std.specs.List.{AllByRecursion}
use Rattle.mv_calls.specs.declared.calls.Call.{Call}
use Rattle.mv_version.specs.Behaviour.{Behaviour}
use Rattle.mv_version.specs.declared.event.Event.{Event}
use Rattle.mv_version.specs.declared.event.Event.TheVariants as event
use Rattle.mv_history.specs.Followers.{Following, FollowerShows, IsOtherwise}
use Rattle.mv_history.specs.World.{World, AreLegal, MayEnter, MayMark, OfFollower, Shows, after_entry}
use Rattle.mv_history.specs.declared.log.Cause.{Cause}
use Rattle.mv_history.specs.declared.log.Cause.TheVariants as cause
use Rattle.mv_history.specs.declared.log.Mark.{Mark}
use Rattle.mv_history.specs.declared.log.Mark.TheVariants as mark
use Rattle.mv_history.specs.declared.log.Entry.{Entry}
use Rattle.mv_history.specs.declared.log.Entry.TheVariants as entry
use Rattle.mv_history.specs.declared.updates.Update.{Update}
use Rattle.mv_record.specs.Fitting.{IsTold, IsToldCause, IsToldEntry, IsToldMark}

told_event : (got : Event) → IsOtherwise got → IsTold got
told_event (event.Calls call) other = tt
told_event (event.Ends code) other = tt
told_event event.Point other = absurd other
told_event (event.Traps trap) other = absurd other

module _ {V : Type 0} (b : Behaviour V) where
  told_follower : (o : Option (Following V)) (handed : Bool) (k : ℕ) (want : Call) (got : Event) → OfFollower b o (λ f. FollowerShows b handed f (cause.Mismatch k want got)) → IsTold got
  told_follower None handed k want got shows = absurd shows
  told_follower (Some f) handed k want got shows = told_event got shows.0

  told_cause : (w : World V) (c : Cause) → Shows b w c → IsToldCause c
  told_cause w (cause.Mismatch k want got) shows = told_follower w.following _ k want got shows
  told_cause w (cause.Trap k trap) shows = tt
  told_cause w (cause.Refused fault) shows = tt
  told_cause w (cause.Rules side fault) shows = tt
  told_cause w (cause.Order n) shows = tt
  told_cause w cause.Memory shows = tt

  told_mark : (w : World V) (m : Mark) → MayMark b w m → IsToldMark m
  told_mark w (mark.Discard c) may = told_cause w c may.2
  told_mark w (mark.Dropped c) may = told_cause w c may.2
  told_mark w (mark.Fork u) may = tt
  told_mark w (mark.NoCopy u) may = tt
  told_mark w (mark.Hand x) may = tt
  told_mark w mark.Promote may = tt
  told_mark w mark.Over may = tt
  told_mark w mark.Back may = tt
  told_mark w mark.Finish may = tt
  told_mark w (mark.End x) may = tt

  told_entry : (updates : List Update) (w : World V) (e : Entry) → MayEnter b updates w e → IsToldEntry e
  told_entry updates w (entry.Mark m) may = told_mark w m may
  told_entry updates w (entry.Call item) may = tt
  told_entry updates w entry.Point may = tt
  told_entry updates w (entry.Order text answer) may = tt

  pub legal_told : (updates : List Update) (w : World V) (es : List Entry) → AreLegal b updates w es → AllByRecursion IsToldEntry es
  legal_told updates w [] legal = tt
  legal_told updates w (e ∷ es) legal = (told_entry updates w e legal.0, legal_told updates (after_entry b updates w e) es legal.1)
