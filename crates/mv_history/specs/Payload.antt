-- What an entry weighs: the bytes of writes, of reads, of random bytes, of order texts and of reply lines, and 32 for
-- each subscription and each event of a poll. A call in a cause weighs as any other.
use Rattle.std.specs.Prelude.{ℕ, ◌+◌, ◌*◌, length}
use Rattle.mv_calls.specs.declared.calls.Call.{Call}
use Rattle.mv_calls.specs.declared.calls.Call.TheVariants as call
use Rattle.mv_calls.specs.declared.calls.Reply.{Reply}
use Rattle.mv_calls.specs.declared.calls.Reply.TheVariants as reply
use Rattle.mv_version.specs.declared.event.Event.{Event}
use Rattle.mv_version.specs.declared.event.Event.TheVariants as event
use Rattle.mv_orders.specs.Reply.{reply_text}
use Rattle.mv_history.specs.declared.log.Cause.{Cause}
use Rattle.mv_history.specs.declared.log.Cause.TheVariants as cause
use Rattle.mv_history.specs.declared.log.Mark.{Mark}
use Rattle.mv_history.specs.declared.log.Mark.TheVariants as mark
use Rattle.mv_history.specs.declared.log.Entry.{Entry}
use Rattle.mv_history.specs.declared.log.Entry.TheVariants as entry

abbrev pub call_payload : Call → ℕ
call_payload (call.Write fd bytes) = length bytes
call_payload (call.Poll subs) = 32 * length subs
call_payload c = 0

abbrev pub reply_payload : Reply → ℕ
reply_payload (reply.Bytes bytes) = length bytes
reply_payload (reply.Ready happenings) = 32 * length happenings
reply_payload r = 0

abbrev pub event_payload : Event → ℕ
event_payload (event.Calls c) = call_payload c
event_payload e = 0

abbrev pub cause_payload : Cause → ℕ
cause_payload (cause.Mismatch k want got) = call_payload want + event_payload got
cause_payload c = 0

abbrev pub mark_payload : Mark → ℕ
mark_payload (mark.Discard c) = cause_payload c
mark_payload (mark.Dropped c) = cause_payload c
mark_payload m = 0

abbrev pub payload_of : Entry → ℕ
payload_of (entry.Call item) = call_payload item.0 + reply_payload item.1
payload_of entry.Point = 0
payload_of (entry.Order text answer) = length text + length (reply_text answer)
payload_of (entry.Mark m) = mark_payload m
