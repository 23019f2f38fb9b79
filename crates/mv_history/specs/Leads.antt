-- What a turn of the leader enters: the first of its steps that applies. What it doesn't choose itself is an argument.
use Rattle.std.specs.Prelude.{ℕ, zero, suc, Bool, true, false, cond, nat_lt, ◌&&◌, Option, Some, None, List}
use Rattle.mv_calls.specs.declared.calls.Call.{Call}
use Rattle.mv_calls.specs.declared.calls.Reply.{Reply}
use Rattle.mv_calls.specs.declared.trap.Trap.{Trap}
use Rattle.mv_orders.specs.declared.reply.OrderReply.{OrderReply}
use Rattle.mv_version.specs.Behaviour.{Behaviour}
use Rattle.mv_version.specs.declared.event.Event.{Event}
use Rattle.mv_version.specs.declared.event.Event.TheVariants as event
use Rattle.mv_history.specs.Answers.{Answers}
use Rattle.mv_history.specs.declared.updates.Update.{Update}
use Rattle.mv_history.specs.Statuses.{is_within, point_leads, urgent_of}
use Rattle.mv_orders.specs.declared.stage.Stage.{Stage}
use Rattle.mv_orders.specs.declared.stage.Stage.TheVariants.{OldLeads, NewLeads}
use Rattle.mv_history.specs.declared.log.Cause.{Cause}
use Rattle.mv_history.specs.declared.log.Cause.TheVariants as cause
use Rattle.mv_history.specs.declared.log.Entry.{Entry}
use Rattle.mv_history.specs.declared.log.Entry.TheVariants as entry
use Rattle.mv_history.specs.declared.log.How.TheVariants as how
use Rattle.mv_history.specs.declared.log.Mark.{Mark}
use Rattle.mv_history.specs.declared.log.Mark.TheVariants as mark
use Rattle.mv_history.specs.declared.log.Why.{Why}
use Rattle.mv_history.specs.declared.log.Why.TheVariants as why
use Rattle.mv_history.specs.declared.status.Asked.{Asked}
use Rattle.mv_history.specs.declared.status.AtPoint.{AtPoint}
use Rattle.mv_history.specs.declared.status.AtPoint.TheVariants as at
use Rattle.mv_history.specs.declared.status.Status.{Status}
use Rattle.mv_history.specs.declared.status.Urgent.{Urgent}
use Rattle.mv_history.specs.declared.status.Urgent.TheVariants as urgent

-- what others choose in one turn
pub record Chosen : Type 0 where
  -- the line that came from the operator, with its answer
  pub line : Option (List ℕ × OrderReply)
  -- there is memory for a copy of the leader
  pub copied : Bool
  -- the kernel's reply, or none where it fails
  pub reply : Option Reply

-- the line, if one came, has an answer that it may have
abbrev pub OkLine : Status → List Update → Option (List ℕ × OrderReply) → Type 0
OkLine st updates None = Unit {0}
OkLine st updates (Some line) = Answers st updates line.0 line.1

abbrev pub call_entry : Call → Option Reply → Entry
call_entry c None = entry.Mark (mark.End how.KernelFault)
call_entry c (Some reply) = entry.Call (c, reply)

abbrev pub fork_entry : ℕ → Bool → Entry
fork_entry u true = entry.Mark (mark.Fork u)
fork_entry u false = entry.Mark (mark.NoCopy u)

abbrev pub point_entry : AtPoint → Bool → Entry
point_entry (at.Forks u) copied = fork_entry u copied
point_entry (at.Hands x) copied = entry.Mark (mark.Hand x)
point_entry at.Passes copied = entry.Point

abbrev pub trap_entry : ℕ → Trap → Entry
trap_entry zero t = entry.Mark (mark.End (how.Trapped t))
trap_entry (suc follower) t = entry.Mark (mark.Hand (why.Trap t))

-- last: the leader's next event
abbrev pub event_entry : Event → Status → Chosen → Entry
event_entry (event.Calls c) st chosen = call_entry c chosen.reply
event_entry event.Point st chosen = point_entry (point_leads st) chosen.copied
event_entry (event.Ends code) st chosen = entry.Mark (mark.End (how.Ended code))
event_entry (event.Traps t) st chosen = trap_entry st.follower t

-- before that: a line of the operator
abbrev pub line_entry : Option (List ℕ × OrderReply) → Event → Status → Chosen → Entry
line_entry (Some line) e st chosen = entry.Order line.0 line.1
line_entry None e st chosen = event_entry e st chosen

-- before that: what is wanted at once
abbrev pub urgent_entry : Urgent → Event → Status → Chosen → Entry
urgent_entry (urgent.Discard n) e st chosen = entry.Mark (mark.Discard (cause.Order n))
urgent_entry urgent.Finish e st chosen = entry.Mark mark.Finish
urgent_entry urgent.Halt e st chosen = entry.Mark (mark.End how.Halted)
urgent_entry urgent.Nothing e st chosen = line_entry chosen.line e st chosen

-- first of all: the log's limits
abbrev pub lead_entry : {V : Type 0} → Behaviour V → V → Status → Chosen → Entry
lead_entry b lead st chosen = cond (is_within st) (urgent_entry (urgent_of st) (b.go lead) st chosen) (entry.Mark (mark.End how.LogLimit))

-- ## Whether the operator is asked, and whether the entry needs a message's place

abbrev pub is_calm : Urgent → Bool
is_calm (urgent.Discard n) = false
is_calm urgent.Finish = false
is_calm urgent.Halt = false
is_calm urgent.Nothing = true

-- the operator is asked exactly where no earlier step applies
abbrev pub asks_line : Status → Bool
asks_line st = is_within st && is_calm (urgent_of st)

abbrev pub point_needs_room : AtPoint → Bool
point_needs_room (at.Forks u) = true
point_needs_room (at.Hands x) = true
point_needs_room at.Passes = false

abbrev pub event_needs_room : Event → Status → Bool
event_needs_room (event.Calls c) st = nat_lt 0 st.follower
event_needs_room event.Point st = point_needs_room (point_leads st)
event_needs_room (event.Ends code) st = false
event_needs_room (event.Traps t) st = nat_lt 0 st.follower

abbrev pub line_needs_room : Option (List ℕ × OrderReply) → Event → Status → Bool
line_needs_room (Some line) e st = false
line_needs_room None e st = event_needs_room e st

-- the next entry needs a message's place: a copy, a hand-over, or a call beside a follower
abbrev pub needs_room : {V : Type 0} → Behaviour V → V → Status → Option (List ℕ × OrderReply) → Bool
needs_room b lead st line = cond (asks_line st) (line_needs_room line (b.go lead) st) false

-- ## What a judgement enters

-- a follower that is given up, by the stage
abbrev pub failed_mark : Stage → Cause → Mark
failed_mark OldLeads c = mark.Discard c
failed_mark stage c = mark.Dropped c

-- a follower that is ready, by what was asked
abbrev pub handed_mark : Why → Mark
handed_mark why.Promote = mark.Promote
handed_mark why.Back = mark.Back
handed_mark (why.Trap t) = mark.Over

abbrev pub ready_by : Stage → Why → Mark
ready_by NewLeads x = mark.Back
ready_by stage x = handed_mark x

abbrev pub ready_mark : Stage → Option Asked → Option Mark
ready_mark stage None = None
ready_mark stage (Some asked) = Some (ready_by stage asked.why)
