-- A follower: what it began with, what it heard since, and where that leads it.
use Rattle.std.specs.Prelude.{◌≡◌, ℕ, Bool, true, not, List, [], ◌∷◌, ◌++◌, Result, Ok, Err}
use Rattle.mv_calls.specs.declared.calls.Call.{Call}
use Rattle.mv_calls.specs.declared.calls.Reply.{Reply}
use Rattle.mv_syntax.specs.declared.fault.BornFault.{BornFault}
use Rattle.mv_rules.specs.declared.rule.Rule.{Rule}
use Rattle.mv_rewrite.specs.Deciding.{groups, joined}
use Rattle.mv_rewrite.specs.Rewriting.{decide}
use Rattle.mv_version.specs.Behaviour.{Behaviour}
use Rattle.mv_version.specs.declared.event.Event.{Event}
use Rattle.mv_version.specs.declared.event.Event.TheVariants as event
use Rattle.mv_history.specs.Replay.{Replayed, Stands, Fails, Unborn, replay, given}
use Rattle.mv_history.specs.Rules.{AreAccepted, IsAccepted, IsRefused, rules_of}
use Rattle.mv_history.specs.declared.log.Cause.{Cause}
use Rattle.mv_history.specs.declared.log.Cause.TheVariants as cause
use Rattle.mv_history.specs.declared.log.Side.TheVariants as side
use Rattle.mv_history.specs.declared.updates.Update.{Update}

-- what a follower begins with: an old state that the new module transforms, or a state as it stands
pub data Base (V : Type 0) : Type 0 where
  Forked : V → Base V
  Standing : V → Base V

pub record Following (V : Type 0) : Type 0 where
  -- the files of its update
  pub files : Update
  pub base : Base V
  -- the calls since then, with their replies
  pub heard : List (Call × Reply)

-- it heard one more
abbrev pub hears : {V : Type 0} → Following V → Call × Reply → Following V
hears f item = record { files = f.files; base = f.base; heard = f.heard ++ item ∷ [] }

-- the rules that it hears by: forward for a new version, reverse for an old one
abbrev pub file_by : {V : Type 0} → Base V → Update → List ℕ
file_by (Forked s) files = files.forward
file_by (Standing s) files = files.reverse

abbrev pub hears_by : {V : Type 0} → Following V → List Rule
hears_by f = rules_of (file_by f.base f.files)

-- what it heard, as the rules rewrite it: the whole once a hand-over is asked, and before that what is sure
abbrev pub rewritten_by : Bool → List Rule → List (Call × Reply) → List (Call × Reply)
rewritten_by handed rules items = joined (groups (decide (not handed) rules) items)

abbrev pub is_forked : {V : Type 0} → Base V → Type 0
is_forked (Forked s) = Unit {0}
is_forked (Standing s) = ⊥

abbrev pub replayed_from : {V : Type 0} → Behaviour V → Result V BornFault → List (Call × Reply) → Replayed V
replayed_from b (Ok s) items = replay b 0 s items
replayed_from b (Err fault) items = Unborn fault

abbrev pub given_from : {V : Type 0} → Behaviour V → Result V BornFault → List (Call × Reply) → List (Call × Reply)
given_from b (Ok s) items = given b s items
given_from b (Err fault) items = []

-- another call, or an end, was met
abbrev pub IsOtherwise : Event → Type 0
IsOtherwise (event.Calls c) = Unit {0}
IsOtherwise (event.Ends n) = Unit {0}
IsOtherwise e = ⊥

module _ {V : Type 0} (b : Behaviour V) where
  -- its state before it heard anything, or the fault of its birth
  abbrev pub begin_by : Base V → Update → Result V BornFault
  begin_by (Forked s) files = b.born s files.«module»
  begin_by (Standing s) files = Ok s

  abbrev pub begin : Following V → Result V BornFault
  begin f = begin_by f.base f.files

  -- its replay of what it heard, rewritten; `handed` says that a hand-over is asked
  abbrev pub replayed : Bool → Following V → Replayed V
  replayed handed f = replayed_from b (begin f) (rewritten_by handed (hears_by f) f.heard)

  -- the calls that it made itself in its replay of all that it heard, with the replies that it got
  abbrev pub given_to : Following V → List (Call × Reply)
  given_to f = given_from b (begin f) (rewritten_by true (hears_by f) f.heard)

  -- It reaches this state: both rules files are accepted, and its replay of all that it heard, rewritten as a whole,
  -- stands there.
  pub record Reaches (f : Following V) (s : V) : Type 0 where
    pub accepted : AreAccepted f.files
    pub stands : replayed true f ≡ Stands s

  -- Its replay fails at item k, whose call is `want`, where it does `met`.
  pub record FailsAt (handed : Bool) (f : Following V) (k : ℕ) (want : Call) (met : Event) : Type 0 where
    pub accepted : AreAccepted f.files
    pub fails : replayed handed f ≡ Fails k want met

  -- What shows that a follower is to be given up. Want of memory is the one cause that needs no showing, and the
  -- operator's order is shown by the log (`Shows` in World.antt).
  abbrev pub FollowerShows : Bool → Following V → Cause → Type 0
  FollowerShows handed f (cause.Rules side.Forward fault) = is_forked f.base × IsRefused f.files.forward fault
  FollowerShows handed f (cause.Rules side.Reverse fault) = is_forked f.base × IsAccepted f.files.forward × IsRefused f.files.reverse fault
  FollowerShows handed f (cause.Refused fault) = is_forked f.base × AreAccepted f.files × (begin f ≡ Err fault)
  FollowerShows handed f (cause.Trap k trap) = (want : Call) × FailsAt handed f k want (event.Traps trap)
  FollowerShows handed f (cause.Mismatch k want got) = IsOtherwise got × FailsAt handed f k want got
  FollowerShows handed f (cause.Order n) = ⊥
  FollowerShows handed f cause.Memory = Unit {0}
