-- No value of a shown log has a float, so its text is exact.
use Rattle.std.proofs.Common.{◌≡◌, refl, List, [], ◌∷◌, map, Bool, true, false, ℕ, if◌then◌else◌}
use Rattle.std.specs.Str.{is_utf8}
use Rattle.serde_json.specs.Data.{Data}
use Rattle.serde_json.specs.View.{items_of}
use Rattle.serde_json.specs.Written.{has_float, items_have_float}
use Rattle.mv_calls.specs.declared.subs.Sub.{Sub}
use Rattle.mv_calls.specs.declared.subs.Sub.TheVariants as sub
use Rattle.mv_calls.specs.declared.happenings.Happened.{Happened}
use Rattle.mv_calls.specs.declared.calls.Call.{Call}
use Rattle.mv_calls.specs.declared.calls.Call.TheVariants as call
use Rattle.mv_calls.specs.declared.calls.Reply.{Reply}
use Rattle.mv_calls.specs.declared.calls.Reply.TheVariants as reply
use Rattle.mv_syntax.specs.declared.fault.StartFault.{StartFault}
use Rattle.mv_syntax.specs.declared.fault.StartFault.TheVariants as start
use Rattle.mv_syntax.specs.declared.fault.BornFault.{BornFault}
use Rattle.mv_syntax.specs.declared.fault.BornFault.TheVariants as born
use Rattle.mv_version.specs.declared.event.Event.{Event}
use Rattle.mv_version.specs.declared.event.Event.TheVariants as event
use Rattle.mv_orders.specs.declared.reply.OrderReply.{OrderReply}
use Rattle.mv_orders.specs.declared.reply.OrderReply.TheVariants as answer
use Rattle.mv_orders.proofs.Lines.{no_float}
use Rattle.mv_history.specs.declared.log.Cause.{Cause}
use Rattle.mv_history.specs.declared.log.Cause.TheVariants as cause
use Rattle.mv_history.specs.declared.log.Why.{Why}
use Rattle.mv_history.specs.declared.log.Why.TheVariants as why
use Rattle.mv_history.specs.declared.log.How.{How}
use Rattle.mv_history.specs.declared.log.How.TheVariants as how
use Rattle.mv_history.specs.declared.log.Mark.{Mark}
use Rattle.mv_history.specs.declared.log.Mark.TheVariants as mark
use Rattle.mv_history.specs.declared.log.Entry.{Entry}
use Rattle.mv_history.specs.declared.log.Entry.TheVariants as entry
use Rattle.mv_show.specs.Calls.{sub_data, happened_data, call_data, reply_data}
use Rattle.mv_show.specs.Causes.{start_data, birth_data, event_data, cause_data}
use Rattle.mv_show.specs.Lines.{hand_data, end_data, mark_data, entry_data}
use Rattle.mv_show.specs.Orders.{order_reply_data}

if_free : (b : Bool) (x y : Data) → has_float x ≡ false → has_float y ≡ false → has_float (if b then x else y) ≡ false
if_free true x y first second = first
if_free false x y first second = second

items_free : {A : Type 0} (f : A → Data) → ((a : A) → has_float (f a) ≡ false) → (xs : List A) → items_have_float (items_of (map f xs)) ≡ false
items_free f free [] = refl
items_free f free (x ∷ xs) = rw (free x) (items_free f free xs)

sub_free : (s : Sub) → has_float (sub_data s) ≡ false
sub_free (sub.Clock id timeout flags) = refl
sub_free (sub.Read fd) = refl
sub_free (sub.Write fd) = refl

happened_free : (x : Happened) → has_float (happened_data x) ≡ false
happened_free x = refl

call_free : (c : Call) → has_float (call_data c) ≡ false
call_free (call.Clock id) = refl
call_free (call.Random len) = refl
call_free (call.Read fd cap) = refl
call_free (call.Write fd bytes) = if_free (is_utf8 bytes) _ _ refl refl
call_free (call.Close fd) = refl
call_free (call.FdStat fd) = refl
call_free call.Yield = refl
call_free (call.Poll subs) = rw (items_free sub_data sub_free subs) refl
call_free (call.Accept fd flags) = refl
call_free (call.Shutdown fd how) = refl

reply_free : (r : Reply) → has_float (reply_data r) ≡ false
reply_free (reply.Errno errno) = refl
reply_free reply.Done = refl
reply_free (reply.Bytes bytes) = if_free (is_utf8 bytes) _ _ refl refl
reply_free (reply.Count count) = refl
reply_free (reply.Fd fd) = refl
reply_free (reply.Time time) = refl
reply_free (reply.Stat filetype flags rights heirs) = refl
reply_free (reply.Ready happenings) = rw (items_free happened_data happened_free happenings) refl

order_reply_free : (r : OrderReply) → has_float (order_reply_data r) ≡ false
order_reply_free (answer.Accepted word update) = no_float (answer.Accepted word update)
order_reply_free (answer.Told stage update last) = no_float (answer.Told stage update last)
order_reply_free answer.Long = refl
order_reply_free answer.Utf8 = refl
order_reply_free (answer.Unknown text) = if_free (is_utf8 text) _ _ refl refl
order_reply_free (answer.Stage now) = no_float (answer.Stage now)
order_reply_free (answer.Busy update) = refl
order_reply_free answer.Many = refl
order_reply_free (answer.Missing path) = if_free (is_utf8 path) _ _ refl refl
order_reply_free (answer.Failed path) = if_free (is_utf8 path) _ _ refl refl

start_free : (f : StartFault) → has_float (start_data f) ≡ false
start_free start.NoEntry = refl
start_free (start.UnknownImport import) = refl
start_free (start.ImportType import) = refl
start_free (start.ElementBounds segment) = refl
start_free (start.DataBounds segment) = refl
start_free (start.Trap t) = refl

birth_free : (f : BornFault) → has_float (birth_data f) ≡ false
birth_free (born.Read fault) = refl
birth_free (born.Valid fault) = refl
birth_free (born.Start fault) = start_free fault
birth_free born.NoTransform = refl
birth_free born.NoResume = refl
birth_free (born.Transform t) = refl
birth_free (born.Code code) = refl

event_free : (e : Event) → has_float (event_data e) ≡ false
event_free (event.Calls c) = rw (call_free c) refl
event_free event.Point = refl
event_free (event.Ends code) = refl
event_free (event.Traps t) = refl

cause_free : (c : Cause) → has_float (cause_data c) ≡ false
cause_free (cause.Trap k t) = refl
cause_free (cause.Mismatch k want got) = rw (event_free got, call_free want) refl
cause_free (cause.Refused fault) = rw (birth_free fault) refl
cause_free (cause.Rules side fault) = refl
cause_free (cause.Order n) = refl
cause_free cause.Memory = refl

hand_free : (n : ℕ) (w : Why) → has_float (hand_data n w) ≡ false
hand_free n why.Promote = refl
hand_free n why.Back = refl
hand_free n (why.Trap t) = refl

end_free : (n : ℕ) (h : How) → has_float (end_data n h) ≡ false
end_free n (how.Ended code) = refl
end_free n (how.Trapped t) = refl
end_free n how.Halted = refl
end_free n how.Cut = refl
end_free n how.KernelFault = refl
end_free n how.LogLimit = refl
end_free n how.Memory = refl

mark_free : (n : ℕ) (m : Mark) → has_float (mark_data n m) ≡ false
mark_free n (mark.Fork update) = refl
mark_free n (mark.NoCopy update) = refl
mark_free n (mark.Hand reason) = hand_free n reason
mark_free n mark.Promote = refl
mark_free n mark.Over = refl
mark_free n mark.Back = refl
mark_free n mark.Finish = refl
mark_free n (mark.Discard c) = rw (cause_free c) refl
mark_free n (mark.Dropped c) = rw (cause_free c) refl
mark_free n (mark.End ending) = end_free n ending

pub entry_free : (n : ℕ) (e : Entry) → has_float (entry_data n e) ≡ false
entry_free n (entry.Call item) = rw (call_free item.0, reply_free item.1) refl
entry_free n entry.Point = refl
entry_free n (entry.Order text reply) = if_free (is_utf8 text) _ _ (rw (order_reply_free reply) refl) (rw (order_reply_free reply) refl)
entry_free n (entry.Mark m) = mark_free n m
