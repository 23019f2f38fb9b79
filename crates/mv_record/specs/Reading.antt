-- Reading the body of an entry from left to right, with the first fault that is met (docs/FORMATS.md, "Log file").
use Rattle.std.specs.Prelude.{◌≡◌, ℕ, zero, suc, List, [], ◌∷◌, length, take, drop, Result, Ok, Err, nat_lt, ◌==◌, if◌then◌else◌}
use Rattle.std.specs.Borrow.{Bor}
use Rattle.byteorder.specs.Endian.{little_number}
use Rattle.mv_calls.specs.declared.fault.Or.{Or}
use Rattle.mv_calls.specs.declared.fault.Or.TheVariants as or
use Rattle.mv_calls.specs.Suits.{suits_of}
use Rattle.mv_calls.specs.declared.subs.Sub.{Sub}
use Rattle.mv_calls.specs.declared.subs.Sub.TheVariants as sub
use Rattle.mv_calls.specs.declared.happenings.Happened.{Happened}
use Rattle.mv_calls.specs.declared.calls.Call.{Call}
use Rattle.mv_calls.specs.declared.calls.Call.TheVariants as call
use Rattle.mv_calls.specs.declared.calls.Reply.{Reply}
use Rattle.mv_calls.specs.declared.calls.Reply.TheVariants as reply
use Rattle.mv_orders.specs.declared.stage.Word.{Word}
use Rattle.mv_orders.specs.declared.stage.Word.TheVariants as word
use Rattle.mv_orders.specs.declared.stage.Stage.{Stage}
use Rattle.mv_orders.specs.declared.stage.Stage.TheVariants as stage
use Rattle.mv_orders.specs.declared.stage.Last.{Last}
use Rattle.mv_orders.specs.declared.stage.Last.TheVariants as last
use Rattle.mv_orders.specs.declared.reply.OrderReply.{OrderReply}
use Rattle.mv_orders.specs.declared.reply.OrderReply.TheVariants as answer
use Rattle.mv_calls.specs.declared.trap.Trap.{Trap}
use Rattle.mv_calls.specs.declared.trap.Trap.TheVariants as trap
use Rattle.mv_syntax.specs.declared.fault.ReadKind.{ReadKind}
use Rattle.mv_syntax.specs.declared.fault.ReadKind.TheVariants as read_kind
use Rattle.mv_syntax.specs.declared.fault.ValidKind.{ValidKind}
use Rattle.mv_syntax.specs.declared.fault.ValidKind.TheVariants as valid_kind
use Rattle.mv_syntax.specs.declared.fault.ReadFault.{ReadFault}
use Rattle.mv_syntax.specs.declared.fault.ValidFault.{ValidFault}
use Rattle.mv_syntax.specs.declared.fault.StartFault.{StartFault}
use Rattle.mv_syntax.specs.declared.fault.StartFault.TheVariants as start
use Rattle.mv_syntax.specs.declared.fault.BornFault.{BornFault}
use Rattle.mv_syntax.specs.declared.fault.BornFault.TheVariants as born
use Rattle.mv_history.specs.declared.log.Side.{Side}
use Rattle.mv_history.specs.declared.log.Side.TheVariants as side
use Rattle.mv_rules.specs.declared.fault.RuleKind.{RuleKind}
use Rattle.mv_rules.specs.declared.fault.RuleKind.TheVariants as rule_kind
use Rattle.mv_rules.specs.declared.fault.RuleFault.{RuleFault}
use Rattle.mv_version.specs.declared.event.Event.{Event}
use Rattle.mv_version.specs.declared.event.Event.TheVariants as event
use Rattle.mv_history.specs.declared.log.Cause.{Cause}
use Rattle.mv_history.specs.declared.log.Cause.TheVariants as cause
use Rattle.mv_history.specs.declared.log.Why.{Why}
use Rattle.mv_history.specs.declared.log.Why.TheVariants as why
use Rattle.mv_history.specs.declared.log.How.{How}
use Rattle.mv_history.specs.declared.log.How.TheVariants as how
use Rattle.mv_history.specs.declared.log.Mark.{Mark}
use Rattle.mv_history.specs.declared.log.Mark.TheVariants as mark
use Rattle.mv_history.specs.declared.log.Entry.{Entry}
use Rattle.mv_history.specs.declared.log.Entry.TheVariants as entry
use Rattle.mv_record.specs.declared.fault.BodyFault.{BodyFault}
use Rattle.mv_record.specs.declared.fault.BodyFault.TheVariants.{Passes, Code, Suit}

infixl 10 ◌>>=◌
abbrev pub ◌>>=◌ : {A B F : Type 0} → Result A F → (A → Result B F) → Result B F
(Ok x) >>= f = f x
(Err e) >>= f = Err e

-- what is read from the first bytes on, and the bytes after it
abbrev pub Reader : Type 0 → Type 0
Reader A = List ℕ → Result (A × List ℕ) BodyFault

-- one field, and then what is read after it
infixr 10 ◌⟫◌
abbrev pub ◌⟫◌ : {A B : Type 0} → Reader A → (A → Reader B) → Reader B
(read ⟫ next) bytes = read bytes >>= λ field. next field.0 field.1

-- nothing more is read
abbrev pub plain_at : {A : Type 0} → A → Reader A
plain_at x bytes = Ok (x, bytes)

-- a number of n bytes
abbrev pub number_at : ℕ → Reader ℕ
number_at n bytes = if nat_lt (length bytes) n then Err Passes else Ok (little_number n bytes, drop n bytes)

unfoldable pub byte_list_at : Reader (List ℕ)
byte_list_at bytes = do
  n ← number_at 4 bytes
  if nat_lt (length n.1) n.0 then Err Passes else Ok (take n.0 n.1, drop n.0 n.1)

-- so many values
unfoldable pub many_at : {A : Type 0} → Reader A → ℕ → Reader (List A)
many_at read zero bytes = Ok ([], bytes)
many_at read (suc n) bytes = do
  first ← read bytes
  others ← many_at read n first.1
  Ok (first.0 ∷ others.0, others.1)

-- a count and as many values
abbrev pub list_at : {A : Type 0} → Reader A → Reader (List A)
list_at read = number_at 4 ⟫ λ n. many_at read n

-- a code that no table has stands at the first byte
abbrev pub unknown_code : {A : Type 0} → List ℕ → Result A BodyFault
unknown_code bytes = Err (Code (length bytes))

-- a table: each code, and what reads what follows it
abbrev pub Table : Type 0 → Type 0
Table A = List (ℕ × Reader A)

abbrev pub by_code : {A : Type 0} → Table A → ℕ → List ℕ → Reader A
by_code [] code rest bytes = unknown_code bytes
by_code (row ∷ rows) code rest bytes = if code == row.0 then row.1 rest else by_code rows code rest bytes

-- a code and what its table says
abbrev pub tagged_at : {A : Type 0} → Table A → Reader A
tagged_at table bytes = number_at 1 bytes >>= λ code. by_code table code.0 code.1 bytes

-- ---- a subscription

unfoldable pub clock_sub_at : Reader Sub
clock_sub_at = number_at 4 ⟫ λ id. number_at 8 ⟫ λ timeout. number_at 2 ⟫ λ flags. plain_at (sub.Clock id timeout flags)

unfoldable pub read_sub_at : Reader Sub
read_sub_at = number_at 4 ⟫ λ fd. plain_at (sub.Read fd)

unfoldable pub write_sub_at : Reader Sub
write_sub_at = number_at 4 ⟫ λ fd. plain_at (sub.Write fd)

abbrev pub sub_table : Table Sub
sub_table =
    (0, clock_sub_at) ∷
    (1, read_sub_at) ∷
    (2, write_sub_at) ∷ []

unfoldable pub sub_at : Reader Sub
sub_at = tagged_at sub_table

-- ---- an event

abbrev pub made_happened : ℕ → ℕ → ℕ → ℕ → Happened
made_happened sub error nbytes flags = record { sub = sub; error = error; nbytes = nbytes; flags = flags }

unfoldable pub happened_at : Reader Happened
happened_at = number_at 4 ⟫ λ sub. number_at 2 ⟫ λ error. number_at 8 ⟫ λ nbytes. number_at 2 ⟫ λ flags. plain_at (made_happened sub error nbytes flags)

-- ---- a call

unfoldable pub clock_call_at : Reader Call
clock_call_at = number_at 4 ⟫ λ id. plain_at (call.Clock id)

unfoldable pub random_call_at : Reader Call
random_call_at = number_at 4 ⟫ λ len. plain_at (call.Random len)

unfoldable pub read_call_at : Reader Call
read_call_at = number_at 4 ⟫ λ fd. number_at 4 ⟫ λ cap. plain_at (call.Read fd cap)

unfoldable pub write_call_at : Reader Call
write_call_at = number_at 4 ⟫ λ fd. byte_list_at ⟫ λ bytes. plain_at (call.Write fd bytes)

unfoldable pub close_call_at : Reader Call
close_call_at = number_at 4 ⟫ λ fd. plain_at (call.Close fd)

unfoldable pub fd_stat_call_at : Reader Call
fd_stat_call_at = number_at 4 ⟫ λ fd. plain_at (call.FdStat fd)

unfoldable pub poll_call_at : Reader Call
poll_call_at = list_at sub_at ⟫ λ subs. plain_at (call.Poll subs)

unfoldable pub accept_call_at : Reader Call
accept_call_at = number_at 4 ⟫ λ fd. number_at 2 ⟫ λ flags. plain_at (call.Accept fd flags)

unfoldable pub shutdown_call_at : Reader Call
shutdown_call_at = number_at 4 ⟫ λ fd. number_at 1 ⟫ λ how. plain_at (call.Shutdown fd how)

abbrev pub call_table : Table Call
call_table =
    (0, clock_call_at) ∷
    (1, random_call_at) ∷
    (2, read_call_at) ∷
    (3, write_call_at) ∷
    (4, close_call_at) ∷
    (5, fd_stat_call_at) ∷
    (6, plain_at call.Yield) ∷
    (7, poll_call_at) ∷
    (8, accept_call_at) ∷
    (9, shutdown_call_at) ∷ []

unfoldable pub call_at : Reader Call
call_at = tagged_at call_table

-- ---- a reply

unfoldable pub errno_reply_at : Reader Reply
errno_reply_at = number_at 2 ⟫ λ errno. plain_at (reply.Errno errno)

unfoldable pub bytes_reply_at : Reader Reply
bytes_reply_at = byte_list_at ⟫ λ bytes. plain_at (reply.Bytes bytes)

unfoldable pub count_reply_at : Reader Reply
count_reply_at = number_at 4 ⟫ λ count. plain_at (reply.Count count)

unfoldable pub fd_reply_at : Reader Reply
fd_reply_at = number_at 4 ⟫ λ fd. plain_at (reply.Fd fd)

unfoldable pub time_reply_at : Reader Reply
time_reply_at = number_at 8 ⟫ λ time. plain_at (reply.Time time)

unfoldable pub stat_reply_at : Reader Reply
stat_reply_at = number_at 1 ⟫ λ filetype. number_at 2 ⟫ λ flags. number_at 8 ⟫ λ rights. number_at 8 ⟫ λ heirs. plain_at (reply.Stat filetype flags rights heirs)

unfoldable pub ready_reply_at : Reader Reply
ready_reply_at = list_at happened_at ⟫ λ happenings. plain_at (reply.Ready happenings)

abbrev pub reply_table : Table Reply
reply_table =
    (0, errno_reply_at) ∷
    (1, plain_at reply.Done) ∷
    (2, bytes_reply_at) ∷
    (3, count_reply_at) ∷
    (4, fd_reply_at) ∷
    (5, time_reply_at) ∷
    (6, stat_reply_at) ∷
    (7, ready_reply_at) ∷ []

unfoldable pub reply_at : Reader Reply
reply_at = tagged_at reply_table

-- ---- an accepted word

abbrev pub word_table : Table Word
word_table =
    (0, plain_at word.Update) ∷
    (1, plain_at word.Promote) ∷
    (2, plain_at word.Discard) ∷
    (3, plain_at word.Finish) ∷
    (4, plain_at word.Back) ∷
    (5, plain_at word.Halt) ∷ []

unfoldable pub word_at : Reader Word
word_at = tagged_at word_table

-- ---- a stage

abbrev pub stage_table : Table Stage
stage_table =
    (0, plain_at stage.OldAlone) ∷
    (1, plain_at stage.OldLeads) ∷
    (2, plain_at stage.NewLeads) ∷
    (3, plain_at stage.NewAlone) ∷ []

unfoldable pub stage_at : Reader Stage
stage_at = tagged_at stage_table

-- ---- why the last follower was dropped

abbrev pub last_table : Table Last
last_table =
    (0, plain_at last.Never) ∷
    (1, plain_at last.Trap) ∷
    (2, plain_at last.Mismatch) ∷
    (3, plain_at last.Refused) ∷
    (4, plain_at last.Rules) ∷
    (5, plain_at last.Order) ∷
    (6, plain_at last.Memory) ∷ []

unfoldable pub last_at : Reader Last
last_at = tagged_at last_table

-- ---- the answer to an order

unfoldable pub accepted_answer_at : Reader OrderReply
accepted_answer_at = word_at ⟫ λ word. number_at 4 ⟫ λ update. plain_at (answer.Accepted word update)

unfoldable pub told_answer_at : Reader OrderReply
told_answer_at = stage_at ⟫ λ stage. number_at 4 ⟫ λ update. last_at ⟫ λ last. plain_at (answer.Told stage update last)

unfoldable pub unknown_answer_at : Reader OrderReply
unknown_answer_at = byte_list_at ⟫ λ text. plain_at (answer.Unknown text)

unfoldable pub stage_answer_at : Reader OrderReply
stage_answer_at = stage_at ⟫ λ now. plain_at (answer.Stage now)

unfoldable pub busy_answer_at : Reader OrderReply
busy_answer_at = number_at 4 ⟫ λ update. plain_at (answer.Busy update)

unfoldable pub missing_answer_at : Reader OrderReply
missing_answer_at = byte_list_at ⟫ λ path. plain_at (answer.Missing path)

unfoldable pub failed_answer_at : Reader OrderReply
failed_answer_at = byte_list_at ⟫ λ path. plain_at (answer.Failed path)

abbrev pub answer_table : Table OrderReply
answer_table =
    (0, accepted_answer_at) ∷
    (1, told_answer_at) ∷
    (2, plain_at answer.Long) ∷
    (3, plain_at answer.Utf8) ∷
    (4, unknown_answer_at) ∷
    (5, stage_answer_at) ∷
    (6, busy_answer_at) ∷
    (7, plain_at answer.Many) ∷
    (8, missing_answer_at) ∷
    (9, failed_answer_at) ∷ []

unfoldable pub answer_at : Reader OrderReply
answer_at = tagged_at answer_table

-- ---- a trap

abbrev pub trap_table : Table Trap
trap_table =
    (0, plain_at trap.Unreachable) ∷
    (1, plain_at trap.DivideByZero) ∷
    (2, plain_at trap.Overflow) ∷
    (3, plain_at trap.Bounds) ∷
    (4, plain_at trap.TableIndex) ∷
    (5, plain_at trap.EmptyElement) ∷
    (6, plain_at trap.IndirectType) ∷
    (7, plain_at trap.Frames) ∷
    (8, plain_at trap.Operands) ∷
    (9, plain_at trap.Spent) ∷
    (10, plain_at trap.OldGlobal) ∷
    (11, plain_at trap.NotNow) ∷
    (12, plain_at trap.CallInTransform) ∷ []

unfoldable pub trap_at : Reader Trap
trap_at = tagged_at trap_table

-- ---- what is wrong with the bytes of a module

abbrev pub read_kind_table : Table ReadKind
read_kind_table =
    (0, plain_at read_kind.Magic) ∷
    (1, plain_at read_kind.Cut) ∷
    (2, plain_at read_kind.Order) ∷
    (3, plain_at read_kind.Size) ∷
    (4, plain_at read_kind.Leb) ∷
    (5, plain_at read_kind.Utf8) ∷
    (6, plain_at read_kind.Kind) ∷
    (7, plain_at read_kind.Float) ∷
    (8, plain_at read_kind.LaterFeature) ∷
    (9, plain_at read_kind.Count) ∷
    (10, plain_at read_kind.Limit) ∷ []

unfoldable pub read_kind_at : Reader ReadKind
read_kind_at = tagged_at read_kind_table

-- ---- why a module is not valid

abbrev pub valid_kind_table : Table ValidKind
valid_kind_table =
    (0, plain_at valid_kind.TypeIndex) ∷
    (1, plain_at valid_kind.FuncIndex) ∷
    (2, plain_at valid_kind.NoTable) ∷
    (3, plain_at valid_kind.NoMemory) ∷
    (4, plain_at valid_kind.GlobalIndex) ∷
    (5, plain_at valid_kind.LocalIndex) ∷
    (6, plain_at valid_kind.LabelIndex) ∷
    (7, plain_at valid_kind.Operand) ∷
    (8, plain_at valid_kind.Immutable) ∷
    (9, plain_at valid_kind.Align) ∷
    (10, plain_at valid_kind.Constant) ∷
    (11, plain_at valid_kind.Limits) ∷
    (12, plain_at valid_kind.ExportName) ∷
    (13, plain_at valid_kind.StartType) ∷ []

unfoldable pub valid_kind_at : Reader ValidKind
valid_kind_at = tagged_at valid_kind_table

-- ---- the first fault of the bytes of a module

abbrev pub made_read_fault : ReadKind → ℕ → ReadFault
made_read_fault kind place = record { kind = kind; place = place }

unfoldable pub read_fault_at : Reader ReadFault
read_fault_at = read_kind_at ⟫ λ kind. number_at 8 ⟫ λ place. plain_at (made_read_fault kind place)

-- ---- the first fault of a module that can be read

abbrev pub made_valid_fault : ℕ → ℕ → ℕ → ValidKind → ValidFault
made_valid_fault part item at kind = record { part = part; item = item; at = at; kind = kind }

unfoldable pub valid_fault_at : Reader ValidFault
valid_fault_at = number_at 1 ⟫ λ part. number_at 4 ⟫ λ item. number_at 4 ⟫ λ at. valid_kind_at ⟫ λ kind. plain_at (made_valid_fault part item at kind)

-- ---- why a module cannot be started

unfoldable pub unknown_import_start_fault_at : Reader StartFault
unknown_import_start_fault_at = number_at 4 ⟫ λ import. plain_at (start.UnknownImport import)

unfoldable pub import_type_start_fault_at : Reader StartFault
import_type_start_fault_at = number_at 4 ⟫ λ import. plain_at (start.ImportType import)

unfoldable pub element_bounds_start_fault_at : Reader StartFault
element_bounds_start_fault_at = number_at 4 ⟫ λ segment. plain_at (start.ElementBounds segment)

unfoldable pub data_bounds_start_fault_at : Reader StartFault
data_bounds_start_fault_at = number_at 4 ⟫ λ segment. plain_at (start.DataBounds segment)

unfoldable pub trap_start_fault_at : Reader StartFault
trap_start_fault_at = trap_at ⟫ λ trap. plain_at (start.Trap trap)

abbrev pub start_fault_table : Table StartFault
start_fault_table =
    (0, plain_at start.NoEntry) ∷
    (1, unknown_import_start_fault_at) ∷
    (2, import_type_start_fault_at) ∷
    (3, element_bounds_start_fault_at) ∷
    (4, data_bounds_start_fault_at) ∷
    (5, trap_start_fault_at) ∷ []

unfoldable pub start_fault_at : Reader StartFault
start_fault_at = tagged_at start_fault_table

-- ---- why no guest came to be

unfoldable pub read_born_fault_at : Reader BornFault
read_born_fault_at = read_fault_at ⟫ λ fault. plain_at (born.Read fault)

unfoldable pub valid_born_fault_at : Reader BornFault
valid_born_fault_at = valid_fault_at ⟫ λ fault. plain_at (born.Valid fault)

unfoldable pub start_born_fault_at : Reader BornFault
start_born_fault_at = start_fault_at ⟫ λ fault. plain_at (born.Start fault)

unfoldable pub transform_born_fault_at : Reader BornFault
transform_born_fault_at = trap_at ⟫ λ trap. plain_at (born.Transform trap)

unfoldable pub code_born_fault_at : Reader BornFault
code_born_fault_at = number_at 4 ⟫ λ code. plain_at (born.Code code)

abbrev pub born_fault_table : Table BornFault
born_fault_table =
    (0, read_born_fault_at) ∷
    (1, valid_born_fault_at) ∷
    (2, start_born_fault_at) ∷
    (3, plain_at born.NoTransform) ∷
    (4, plain_at born.NoResume) ∷
    (5, transform_born_fault_at) ∷
    (6, code_born_fault_at) ∷ []

unfoldable pub born_fault_at : Reader BornFault
born_fault_at = tagged_at born_fault_table

-- ---- the side of a list of rules

abbrev pub side_table : Table Side
side_table =
    (0, plain_at side.Forward) ∷
    (1, plain_at side.Reverse) ∷ []

unfoldable pub side_at : Reader Side
side_at = tagged_at side_table

-- ---- what is wrong with a line of rules

abbrev pub rule_kind_table : Table RuleKind
rule_kind_table =
    (0, plain_at rule_kind.Size) ∷
    (1, plain_at rule_kind.Header) ∷
    (2, plain_at rule_kind.Shape) ∷
    (3, plain_at rule_kind.Many) ∷
    (4, plain_at rule_kind.Empty) ∷
    (5, plain_at rule_kind.Word) ∷
    (6, plain_at rule_kind.Number) ∷
    (7, plain_at rule_kind.Quote) ∷
    (8, plain_at rule_kind.Name) ∷
    (9, plain_at rule_kind.Twice) ∷
    (10, plain_at rule_kind.Unbound) ∷
    (11, plain_at rule_kind.Reads) ∷
    (12, plain_at rule_kind.Accepts) ∷
    (13, plain_at rule_kind.Guard) ∷ []

unfoldable pub rule_kind_at : Reader RuleKind
rule_kind_at = tagged_at rule_kind_table

-- ---- the first fault of a rules file

abbrev pub made_rule_fault : ℕ → RuleKind → RuleFault
made_rule_fault line kind = record { line = line; kind = kind }

unfoldable pub rule_fault_at : Reader RuleFault
rule_fault_at = number_at 4 ⟫ λ line. rule_kind_at ⟫ λ kind. plain_at (made_rule_fault line kind)

-- ---- what a follower did instead

unfoldable pub calls_got_at : Reader Event
calls_got_at = call_at ⟫ λ call. plain_at (event.Calls call)

unfoldable pub ends_got_at : Reader Event
ends_got_at = number_at 4 ⟫ λ code. plain_at (event.Ends code)

abbrev pub got_table : Table Event
got_table =
    (0, calls_got_at) ∷
    (1, ends_got_at) ∷ []

unfoldable pub got_at : Reader Event
got_at = tagged_at got_table

-- ---- why a follower is given up

unfoldable pub trap_cause_at : Reader Cause
trap_cause_at = number_at 8 ⟫ λ k. trap_at ⟫ λ trap. plain_at (cause.Trap k trap)

unfoldable pub mismatch_cause_at : Reader Cause
mismatch_cause_at = number_at 8 ⟫ λ k. call_at ⟫ λ want. got_at ⟫ λ got. plain_at (cause.Mismatch k want got)

unfoldable pub refused_cause_at : Reader Cause
refused_cause_at = born_fault_at ⟫ λ fault. plain_at (cause.Refused fault)

unfoldable pub rules_cause_at : Reader Cause
rules_cause_at = side_at ⟫ λ side. rule_fault_at ⟫ λ fault. plain_at (cause.Rules side fault)

unfoldable pub order_cause_at : Reader Cause
order_cause_at = number_at 8 ⟫ λ n. plain_at (cause.Order n)

abbrev pub cause_table : Table Cause
cause_table =
    (0, trap_cause_at) ∷
    (1, mismatch_cause_at) ∷
    (2, refused_cause_at) ∷
    (3, rules_cause_at) ∷
    (4, order_cause_at) ∷
    (5, plain_at cause.Memory) ∷ []

unfoldable pub cause_at : Reader Cause
cause_at = tagged_at cause_table

-- ---- why a hand-over is asked for

unfoldable pub trap_why_at : Reader Why
trap_why_at = trap_at ⟫ λ trap. plain_at (why.Trap trap)

abbrev pub why_table : Table Why
why_table =
    (0, plain_at why.Promote) ∷
    (1, plain_at why.Back) ∷
    (2, trap_why_at) ∷ []

unfoldable pub why_at : Reader Why
why_at = tagged_at why_table

-- ---- how a run ended

unfoldable pub ended_how_at : Reader How
ended_how_at = number_at 4 ⟫ λ code. plain_at (how.Ended code)

unfoldable pub trapped_how_at : Reader How
trapped_how_at = trap_at ⟫ λ trap. plain_at (how.Trapped trap)

abbrev pub how_table : Table How
how_table =
    (0, ended_how_at) ∷
    (1, trapped_how_at) ∷
    (2, plain_at how.Halted) ∷
    (3, plain_at how.Cut) ∷
    (4, plain_at how.KernelFault) ∷
    (5, plain_at how.LogLimit) ∷
    (6, plain_at how.Memory) ∷ []

unfoldable pub how_at : Reader How
how_at = tagged_at how_table

-- ---- a mark

unfoldable pub fork_mark_at : Reader Mark
fork_mark_at = number_at 4 ⟫ λ update. plain_at (mark.Fork update)

unfoldable pub no_copy_mark_at : Reader Mark
no_copy_mark_at = number_at 4 ⟫ λ update. plain_at (mark.NoCopy update)

unfoldable pub hand_mark_at : Reader Mark
hand_mark_at = why_at ⟫ λ why. plain_at (mark.Hand why)

unfoldable pub discard_mark_at : Reader Mark
discard_mark_at = cause_at ⟫ λ cause. plain_at (mark.Discard cause)

unfoldable pub dropped_mark_at : Reader Mark
dropped_mark_at = cause_at ⟫ λ cause. plain_at (mark.Dropped cause)

unfoldable pub end_mark_at : Reader Mark
end_mark_at = how_at ⟫ λ how. plain_at (mark.End how)

abbrev pub mark_table : Table Mark
mark_table =
    (0, fork_mark_at) ∷
    (1, no_copy_mark_at) ∷
    (2, hand_mark_at) ∷
    (3, plain_at mark.Promote) ∷
    (4, plain_at mark.Over) ∷
    (5, plain_at mark.Back) ∷
    (6, plain_at mark.Finish) ∷
    (7, discard_mark_at) ∷
    (8, dropped_mark_at) ∷
    (9, end_mark_at) ∷ []

unfoldable pub mark_at : Reader Mark
mark_at = tagged_at mark_table

-- a reply that doesn't suit is told by its first byte
unfoldable pub item_at : Reader (Call × Reply)
item_at bytes = do
  c ← call_at bytes
  r ← reply_at c.1
  if suits_of c.0 r.0 then Ok ((c.0, r.0), r.1) else Err (Suit (length c.1))

-- ---- an entry

unfoldable pub call_body_at : Reader Entry
call_body_at = item_at ⟫ λ item. plain_at (entry.Call item)

unfoldable pub order_body_at : Reader Entry
order_body_at = byte_list_at ⟫ λ text. answer_at ⟫ λ reply. plain_at (entry.Order text reply)

unfoldable pub mark_body_at : Reader Entry
mark_body_at = mark_at ⟫ λ mark. plain_at (entry.Mark mark)

abbrev pub body_table : Table Entry
body_table =
    (0, call_body_at) ∷
    (1, plain_at entry.Point) ∷
    (2, order_body_at) ∷
    (3, mark_body_at) ∷ []

unfoldable pub body_at : Reader Entry
body_at = tagged_at body_table

-- a body is read to its end
unfoldable pub whole_body : List ℕ → Result Entry BodyFault
whole_body bytes = do
  e ← body_at bytes
  if length e.1 == 0 then Ok e.0 else Err Passes

-- ---- what a function returned is what reading gives, unless memory ran out

abbrev pub FailsAs : {Y F : Type 0} → Or F → Result Y F → Type 0
FailsAs or.OutOfMemory read = Unit {0}
FailsAs (or.Fault f) read = read ≡ Err f

abbrev pub Gives : {X Y F : Type 0} → (X → Y) → Result X (Or F) → Result Y F → Type 0
Gives view (Ok x) read = read ≡ Ok (view x)
Gives view (Err e) read = FailsAs e read

-- a value and the bytes after it
abbrev pub GivesField : {X F : Type 0} → Result (X × Bor (List ℕ)) (Or F) → Result (X × List ℕ) F → Type 0
GivesField = Gives (λ x. (x.0, x.1.now))
