-- For private clauses: what the values of the plain fold stand for.
use Rattle.std.specs.Prelude.{◌≡◌, ◌⊎◌, ℕ, ◌+◌, ◌≤◌, ◌^◌, Bool, cond, IsTrue, Option, Some, None, List}
use Rattle.mv_calls.specs.Suits.{suits_of}
use Rattle.mv_calls.specs.declared.calls.Call.{Call}
use Rattle.mv_calls.specs.declared.calls.Reply.{Reply}
use Rattle.mv_version.specs.declared.event.Event.{Event}
use Rattle.mv_version.specs.declared.event.Event.TheVariants as event
use Rattle.mv_version.specs.Behaviour.{Behaviour}
use Rattle.mv_history.specs.Replay.{Replayed, Stands, Fails, Unborn}
use Rattle.mv_rules.specs.declared.fault.RuleFault.{RuleFault}
use Rattle.mv_syntax.specs.declared.fault.BornFault.{BornFault}
use Rattle.mv_history.specs.Followers.{Base, Forked, Standing, Following, replayed, IsOtherwise}
use Rattle.mv_history.specs.Small.{IsSmall}
use Rattle.mv_history.specs.Statuses.{urgent_of}
use Rattle.mv_history.specs.World.{World, AsksFor, AsksForTrap, lead_after, lead_marked, following_after, following_marked, reached_or, also_stands}
use Rattle.mv_history.specs.declared.log.Entry.{Entry}
use Rattle.mv_history.specs.declared.log.Mark.{Mark}
use Rattle.mv_history.specs.declared.log.Mark.TheVariants as mark
use Rattle.mv_history.specs.declared.log.Why.TheVariants as why
use Rattle.mv_history.specs.declared.updates.Update.{Update}
use Rattle.mv_history.specs.declared.log.Cause.{Cause}
use Rattle.mv_history.specs.declared.log.Cause.TheVariants as cause
use Rattle.mv_history.specs.declared.log.Side.TheVariants as side
use Rattle.mv_history.specs.declared.status.Status.{Status}
use Rattle.mv_orders.specs.declared.stage.Stage.TheVariants.{OldLeads, NewLeads}
use Rattle.mv_history.specs.declared.status.Urgent.TheVariants as urgent
use Rattle.mv_audit.specs.declared.auditing.Audit.{Audit}
use Rattle.mv_history.specs.Rules.{SpellsKept, IsAccepted, IsRefused, AreAccepted}
use Rattle.mv_audit.specs.declared.following.Basis.{Basis}
use Rattle.mv_audit.specs.declared.following.Basis.TheVariants as basis
use Rattle.mv_audit.specs.declared.following.Follower.{Follower}
use Rattle.mv_audit.specs.declared.following.Judgement.{Judgement}
use Rattle.mv_audit.specs.declared.following.Judgement.TheVariants as judgement
use Rattle.mv_audit.specs.declared.following.Verdict.{Verdict}
use Rattle.mv_audit.specs.declared.following.Verdict.TheVariants as verdict
use Rattle.mv_audit.specs.declared.replaying.Outcome.{Outcome}
use Rattle.mv_audit.specs.declared.replaying.Outcome.TheVariants as outcome

-- what came of a replay
abbrev pub came : {V : Type 0} → Behaviour V → Outcome V → Replayed V
came b (outcome.Stands guest) = Stands (b.state guest)
came b (outcome.Fails k want met) = Fails k want met
came b (outcome.Unborn fault) = Unborn fault

-- the event is a call that the reply suits
abbrev pub IsSuited : Event → Reply → Type 0
IsSuited e reply = (call : Call) × (e ≡ event.Calls call) × IsTrue (suits_of call reply)

-- what comes of a rules file
abbrev pub IsVerdict : List ℕ → Verdict → Type 0
IsVerdict text (verdict.Kept rules) = SpellsKept text rules
IsVerdict text (verdict.Refused fault) = IsRefused text fault

abbrev pub base_of : {V : Type 0} → Basis → V → Base V
base_of basis.Forked s = Forked s
base_of basis.Standing s = Standing s

-- the follower that is meant
abbrev pub following_of : {V : Type 0} → Behaviour V → Follower V → Following V
following_of b f = record { files = f.files; base = base_of f.basis (b.state f.state); heard = f.heard.items }

-- what is found out about a follower
abbrev pub IsJudged : {V : Type 0} → Behaviour V → Bool → Following V → Judgement V → Type 0
IsJudged b handed f (judgement.Forward fault) = IsRefused f.files.forward fault
IsJudged b handed f (judgement.Reverse fault) = IsAccepted f.files.forward × IsRefused f.files.reverse fault
IsJudged b handed f (judgement.Ran outcome) = AreAccepted f.files × (replayed b handed f ≡ came b outcome)

-- ## What is found out, as causes say it

abbrev pub IsForked : Basis → Type 0
IsForked basis.Forked = Unit {0}
IsForked basis.Standing = ⊥

abbrev pub IsForwardFault : {V : Type 0} → Judgement V → RuleFault → Type 0
IsForwardFault (judgement.Forward found) fault = found ≡ fault
IsForwardFault (judgement.Reverse found) fault = ⊥
IsForwardFault (judgement.Ran outcome) fault = ⊥

abbrev pub IsReverseFault : {V : Type 0} → Judgement V → RuleFault → Type 0
IsReverseFault (judgement.Forward found) fault = ⊥
IsReverseFault (judgement.Reverse found) fault = found ≡ fault
IsReverseFault (judgement.Ran outcome) fault = ⊥

abbrev pub IsUnbornBy : {V : Type 0} → Outcome V → BornFault → Type 0
IsUnbornBy (outcome.Stands guest) fault = ⊥
IsUnbornBy (outcome.Fails k want met) fault = ⊥
IsUnbornBy (outcome.Unborn found) fault = found ≡ fault

abbrev pub IsUnborn : {V : Type 0} → Judgement V → BornFault → Type 0
IsUnborn (judgement.Forward found) fault = ⊥
IsUnborn (judgement.Reverse found) fault = ⊥
IsUnborn (judgement.Ran outcome) fault = IsUnbornBy outcome fault

abbrev pub FailsBy : {V : Type 0} → Outcome V → ℕ → Call → Event → Type 0
FailsBy (outcome.Stands guest) k want met = ⊥
FailsBy (outcome.Fails j other event) k want met = (j ≡ k) × (other ≡ want) × (event ≡ met)
FailsBy (outcome.Unborn found) k want met = ⊥

abbrev pub FailsIn : {V : Type 0} → Judgement V → ℕ → Call → Event → Type 0
FailsIn (judgement.Forward found) k want met = ⊥
FailsIn (judgement.Reverse found) k want met = ⊥
FailsIn (judgement.Ran outcome) k want met = FailsBy outcome k want met

abbrev pub StandsBy : {V : Type 0} → Outcome V → Type 0
StandsBy (outcome.Stands guest) = Unit {0}
StandsBy (outcome.Fails k want met) = ⊥
StandsBy (outcome.Unborn found) = ⊥

abbrev pub StandsIn : {V : Type 0} → Judgement V → Type 0
StandsIn (judgement.Forward found) = ⊥
StandsIn (judgement.Reverse found) = ⊥
StandsIn (judgement.Ran outcome) = StandsBy outcome

-- The cause may be shown, by what the follower began with and by the status. Where this doesn't hold nothing that is found
-- out shows the cause.
abbrev pub MayShow : Basis → Status → Cause → Type 0
MayShow p st (cause.Rules side fault) = IsForked p
MayShow p st (cause.Refused fault) = IsForked p
MayShow p st (cause.Trap k trap) = Unit {0}
MayShow p st (cause.Mismatch k want got) = IsOtherwise got
MayShow p st (cause.Order n) = IsForked p × (urgent_of st ≡ urgent.Discard n)
MayShow p st cause.Memory = Unit {0}

-- the cause says nothing of what comes of the follower: it is shown where it may be
abbrev pub IsTold : Cause → Type 0
IsTold (cause.Rules side fault) = ⊥
IsTold (cause.Refused fault) = ⊥
IsTold (cause.Trap k trap) = ⊥
IsTold (cause.Mismatch k want got) = ⊥
IsTold (cause.Order n) = Unit {0}
IsTold cause.Memory = Unit {0}

-- what was found out is what the cause says
abbrev pub FoundBy : {V : Type 0} → Judgement V → Cause → Type 0
FoundBy j (cause.Rules side.Forward fault) = IsForwardFault j fault
FoundBy j (cause.Rules side.Reverse fault) = IsReverseFault j fault
FoundBy j (cause.Refused fault) = IsUnborn j fault
FoundBy j (cause.Trap k trap) = (want : Call) × FailsIn j k want (event.Traps trap)
FoundBy j (cause.Mismatch k want got) = FailsIn j k want got
FoundBy j (cause.Order n) = Unit {0}
FoundBy j cause.Memory = Unit {0}

-- ## The world that is meant

abbrev pub follower_of : {V : Type 0} → Behaviour V → Option (Follower V) → Option (Following V)
follower_of b None = None
follower_of b (Some f) = Some (following_of b f)

abbrev pub world_of : {V : Type 0} → Behaviour V → Audit V → World V
world_of b a = record { lead = b.state a.lead; following = follower_of b a.follower; status = a.status }

-- ## What is to be found out

-- what comes of the follower decides whether the cause is shown
abbrev pub AsksOf : {V : Type 0} → Option (Follower V) → Status → Cause → Type 0
AsksOf None st c = ⊥
AsksOf (Some f) st c = MayShow f.basis st c × (IsTold c → ⊥)

-- what comes of the follower decides whether the mark may come
abbrev pub AsksFollower : {V : Type 0} → Audit V → Mark → Type 0
AsksFollower a mark.Promote = (a.status.ended ≡ None) × (a.status.stage ≡ OldLeads) × AsksFor a.status why.Promote
AsksFollower a mark.Over = (a.status.ended ≡ None) × (a.status.stage ≡ OldLeads) × AsksForTrap a.status
AsksFollower a mark.Back = (a.status.ended ≡ None) × (a.status.stage ≡ NewLeads) × (AsksFor a.status why.Back ⊎ AsksForTrap a.status)
AsksFollower a (mark.Discard x) = (a.status.ended ≡ None) × (a.status.stage ≡ OldLeads) × AsksOf a.follower a.status x
AsksFollower a (mark.Dropped x) = (a.status.ended ≡ None) × (a.status.stage ≡ NewLeads) × AsksOf a.follower a.status x
AsksFollower a m = ⊥

-- the world with the guests after a hand-over; the old leader follows, or not
abbrev pub handed_over : {V : Type 0} → Behaviour V → Bool → World V → World V
handed_over b follows w = record { lead = reached_or b w.lead w.following; following = cond follows (also_stands w.lead w.following) None; status = w.status }

-- the world with the guests after a mark, and after an entry
abbrev pub guests_marked : {V : Type 0} → Behaviour V → List Update → World V → Mark → World V
guests_marked b updates w m = record { lead = lead_marked b w m; following = following_marked b updates w m; status = w.status }

abbrev pub guests_after : {V : Type 0} → Behaviour V → List Update → World V → Entry → World V
guests_after b updates w e = record { lead = lead_after b w e; following = following_after b updates w e; status = w.status }

-- The counts of a log are within its limits, and so few entries and updates were before it that those of the run fit their
-- types; before the first log of a run there were none.
pub record IsCounted (st : Status) : Type 0 where
  pub small : IsSmall st
  pub number : st.number ≤ st.since + 2 ^ 62
  pub updates : st.updates ≤ st.fresh + 2 ^ 30
