-- What of a run no guest knows: the stage, the counts, what is wanted and asked.
use Rattle.std.specs.Prelude.{ℕ, ◌+◌, ◌-◌, ◌^◌, min, Bool, true, false, ◌&&◌, Option, Some, None, nat_lt, nat_le, cond}
use Rattle.mv_orders.specs.declared.reply.OrderReply.{OrderReply}
use Rattle.mv_orders.specs.declared.reply.OrderReply.TheVariants as reply
use Rattle.mv_orders.specs.declared.order.Order.{Order}
use Rattle.mv_orders.specs.declared.order.Order.TheVariants as order
use Rattle.mv_orders.specs.declared.stage.Stage.{Stage}
use Rattle.mv_orders.specs.declared.stage.Stage.TheVariants.{OldAlone, OldLeads, NewLeads, NewAlone}
use Rattle.mv_orders.specs.declared.stage.Word.{Word}
use Rattle.mv_orders.specs.declared.stage.Word.TheVariants as word
use Rattle.mv_orders.specs.declared.stage.Last.{Last}
use Rattle.mv_orders.specs.declared.stage.Last.TheVariants as last
use Rattle.mv_history.specs.declared.log.Cause.{Cause}
use Rattle.mv_history.specs.declared.log.Cause.TheVariants as cause
use Rattle.mv_history.specs.declared.log.Entry.{Entry}
use Rattle.mv_history.specs.declared.log.Entry.TheVariants as entry
use Rattle.mv_history.specs.declared.log.Mark.{Mark}
use Rattle.mv_history.specs.declared.log.Mark.TheVariants as mark
use Rattle.mv_history.specs.declared.log.Why.TheVariants as why
use Rattle.mv_history.specs.declared.status.AtPoint.{AtPoint}
use Rattle.mv_history.specs.declared.status.AtPoint.TheVariants as at
use Rattle.mv_history.specs.declared.status.Urgent.{Urgent}
use Rattle.mv_history.specs.declared.status.Urgent.TheVariants as urgent
use Rattle.mv_history.specs.declared.status.Wanted.{Wanted}
use Rattle.mv_history.specs.declared.status.Status.{Status}
use Rattle.mv_history.specs.Payload.{payload_of}

-- ## The limits of a log

-- the most entries, the most bytes of payload, and the most updates, since the base
abbrev pub entry_limit : ℕ
entry_limit = 999990

abbrev pub payload_limit : ℕ
payload_limit = 268173312

abbrev pub update_limit : ℕ
update_limit = 64

-- the log may go on
abbrev pub is_within : Status → Bool
is_within st = nat_lt st.since entry_limit && nat_le st.weight payload_limit

-- ## What an entry changes

abbrev pub first_status : Status
first_status =
    record { stage = OldAlone; number = 0; since = 0; weight = 0; updates = 0; fresh = 0; follower = 0; wanted = None; asked = None; last = last.Never; ended = None }

-- nothing wanted or asked
abbrev pub cleared : Status → Status
cleared st = record st { wanted = None; asked = None }

-- the word is wanted from now on, by the order of this entry
abbrev pub wanting : Status → Word → ℕ → Status
wanting st w update = record st { wanted = Some (record { word = w; n = st.number; update = update }) }

-- an accepted update counts
abbrev pub accepted : Status → Word → ℕ → Status
accepted st word.Update update = record (wanting st word.Update update) { updates = st.updates + 1; fresh = st.fresh + 1 }
accepted st w update = wanting st w update

abbrev pub answered : Status → OrderReply → Status
answered st (reply.Accepted w update) = accepted st w update
answered st other = st

-- the name of a cause in a status
abbrev pub kind_of : Cause → Last
kind_of (cause.Trap k t) = last.Trap
kind_of (cause.Mismatch k want got) = last.Mismatch
kind_of (cause.Refused fault) = last.Refused
kind_of (cause.Rules side fault) = last.Rules
kind_of (cause.Order n) = last.Order
kind_of cause.Memory = last.Memory

abbrev pub marked : Status → Mark → Status
marked st (mark.Fork update) = record (cleared st) { stage = OldLeads; follower = update }
marked st (mark.NoCopy update) = record (cleared st) { last = last.Memory }
marked st (mark.Hand x) = record st { asked = Some (record { why = x; n = st.number }) }
marked st mark.Promote = record (cleared st) { stage = NewLeads }
marked st mark.Over = record (cleared st) { stage = NewAlone; follower = 0 }
marked st mark.Back = record (cleared st) { stage = OldAlone; follower = 0 }
marked st mark.Finish = record (cleared st) { stage = NewAlone; follower = 0 }
marked st (mark.Discard x) = record (cleared st) { stage = OldAlone; follower = 0; last = kind_of x }
marked st (mark.Dropped x) = record (cleared st) { stage = NewAlone; follower = 0; last = kind_of x }
marked st (mark.End how) = record st { follower = 0; asked = None; ended = Some how }

abbrev pub changed : Status → Entry → Status
changed st (entry.Call item) = st
changed st entry.Point = st
changed st (entry.Order text answer) = answered st answer
changed st (entry.Mark m) = marked st m

-- the status after an entry: what it changes, and one entry more; the weight stands still at the end of its type
abbrev pub status_after : Status → Entry → Status
status_after st e = record (changed st e) { number = st.number + 1; since = st.since + 1; weight = min (st.weight + payload_of e) (2 ^ 64 - 1) }

-- ## What the status decides

abbrev pub is_alone : Stage → Bool
is_alone OldAlone = true
is_alone OldLeads = false
is_alone NewLeads = false
is_alone NewAlone = true

abbrev pub is_old_leads : Stage → Bool
is_old_leads OldLeads = true
is_old_leads stage = false

abbrev pub is_new_leads : Stage → Bool
is_new_leads NewLeads = true
is_new_leads stage = false

abbrev pub word_leads : Word → Stage → ℕ → AtPoint
word_leads word.Update stage update = cond (is_alone stage) (at.Forks update) at.Passes
word_leads word.Promote stage update = at.Hands why.Promote
word_leads word.Back stage update = at.Hands why.Back
word_leads w stage update = at.Passes

abbrev pub wanted_leads : Option Wanted → Stage → AtPoint
wanted_leads None stage = at.Passes
wanted_leads (Some wanted) stage = word_leads wanted.word stage wanted.update

-- what a point leads to: a copy for the update that is wanted while one version is alone, the hand-over that is
-- wanted, or nothing
abbrev pub point_leads : Status → AtPoint
point_leads st = wanted_leads st.wanted st.stage

abbrev pub urgent_word : Word → ℕ → Urgent
urgent_word word.Discard n = urgent.Discard n
urgent_word word.Finish n = urgent.Finish
urgent_word word.Halt n = urgent.Halt
urgent_word w n = urgent.Nothing

abbrev pub urgent_wanted : Option Wanted → Urgent
urgent_wanted None = urgent.Nothing
urgent_wanted (Some wanted) = urgent_word wanted.word wanted.n

-- what is wanted at once, before the leader goes on
abbrev pub urgent_of : Status → Urgent
urgent_of st = urgent_wanted st.wanted

-- ## Answers to orders that need no file

abbrev pub only_in : Bool → Word → Stage → OrderReply
only_in true w stage = reply.Accepted w 0
only_in false w stage = reply.Stage stage

-- an update is wanted already
abbrev pub busy_word : Word → ℕ → Option OrderReply
busy_word word.Update update = Some (reply.Busy update)
busy_word w update = None

abbrev pub busy_by : Option Wanted → Option OrderReply
busy_by None = None
busy_by (Some wanted) = busy_word wanted.word wanted.update

abbrev pub many_by : ℕ → Option OrderReply
many_by fresh = cond (nat_lt fresh update_limit) None (Some reply.Many)

abbrev pub or_else : Option OrderReply → Option OrderReply → Option OrderReply
or_else (Some r) other = Some r
or_else None other = other

abbrev pub update_refusal : Status → Option OrderReply
update_refusal st = cond (is_alone st.stage) (or_else (busy_by st.wanted) (many_by st.fresh)) (Some (reply.Stage st.stage))

-- the answer to an order, where it needs no file; none where it is an update that goes on to its files
abbrev pub early_reply : Status → Order → Option OrderReply
early_reply st (order.Update m f r) = update_refusal st
early_reply st order.Promote = Some (only_in (is_old_leads st.stage) word.Promote st.stage)
early_reply st order.Discard = Some (only_in (is_old_leads st.stage) word.Discard st.stage)
early_reply st order.Finish = Some (only_in (is_new_leads st.stage) word.Finish st.stage)
early_reply st order.Back = Some (only_in (is_new_leads st.stage) word.Back st.stage)
early_reply st order.Halt = Some (reply.Accepted word.Halt 0)
early_reply st order.Status = Some (reply.Told st.stage st.follower st.last)
