-- The one file of a log (docs/FORMATS.md, "Log file").
use Rattle.std.specs.Prelude.{ℕ, List, [], ◌∷◌, ◌++◌, length, codes}
use Rattle.std.specs.List.{flat_map}
use Rattle.byteorder.specs.Endian.{little_bytes}
use Rattle.mv_calls.specs.declared.subs.Sub.{Sub}
use Rattle.mv_calls.specs.declared.subs.Sub.TheVariants as sub
use Rattle.mv_calls.specs.declared.happenings.Happened.{Happened}
use Rattle.mv_calls.specs.declared.calls.Call.{Call}
use Rattle.mv_calls.specs.declared.calls.Call.TheVariants as call
use Rattle.mv_calls.specs.declared.calls.Reply.{Reply}
use Rattle.mv_calls.specs.declared.calls.Reply.TheVariants as reply
use Rattle.mv_orders.specs.declared.stage.Word.{Word}
use Rattle.mv_orders.specs.declared.stage.Word.TheVariants as word
use Rattle.mv_orders.specs.declared.stage.Stage.{Stage}
use Rattle.mv_orders.specs.declared.stage.Stage.TheVariants as stage
use Rattle.mv_orders.specs.declared.stage.Last.{Last}
use Rattle.mv_orders.specs.declared.stage.Last.TheVariants as last
use Rattle.mv_orders.specs.declared.reply.OrderReply.{OrderReply}
use Rattle.mv_orders.specs.declared.reply.OrderReply.TheVariants as answer
use Rattle.mv_calls.specs.declared.trap.Trap.{Trap}
use Rattle.mv_calls.specs.declared.trap.Trap.TheVariants as trap
use Rattle.mv_syntax.specs.declared.fault.ReadKind.{ReadKind}
use Rattle.mv_syntax.specs.declared.fault.ReadKind.TheVariants as read_kind
use Rattle.mv_syntax.specs.declared.fault.ValidKind.{ValidKind}
use Rattle.mv_syntax.specs.declared.fault.ValidKind.TheVariants as valid_kind
use Rattle.mv_syntax.specs.declared.fault.ReadFault.{ReadFault}
use Rattle.mv_syntax.specs.declared.fault.ValidFault.{ValidFault}
use Rattle.mv_syntax.specs.declared.fault.StartFault.{StartFault}
use Rattle.mv_syntax.specs.declared.fault.StartFault.TheVariants as start
use Rattle.mv_syntax.specs.declared.fault.BornFault.{BornFault}
use Rattle.mv_syntax.specs.declared.fault.BornFault.TheVariants as born
use Rattle.mv_history.specs.declared.log.Side.{Side}
use Rattle.mv_history.specs.declared.log.Side.TheVariants as side
use Rattle.mv_rules.specs.declared.fault.RuleKind.{RuleKind}
use Rattle.mv_rules.specs.declared.fault.RuleKind.TheVariants as rule_kind
use Rattle.mv_rules.specs.declared.fault.RuleFault.{RuleFault}
use Rattle.mv_version.specs.declared.event.Event.{Event}
use Rattle.mv_version.specs.declared.event.Event.TheVariants as event
use Rattle.mv_history.specs.declared.log.Cause.{Cause}
use Rattle.mv_history.specs.declared.log.Cause.TheVariants as cause
use Rattle.mv_history.specs.declared.log.Why.{Why}
use Rattle.mv_history.specs.declared.log.Why.TheVariants as why
use Rattle.mv_history.specs.declared.log.How.{How}
use Rattle.mv_history.specs.declared.log.How.TheVariants as how
use Rattle.mv_history.specs.declared.log.Mark.{Mark}
use Rattle.mv_history.specs.declared.log.Mark.TheVariants as mark
use Rattle.mv_history.specs.declared.log.Entry.{Entry}
use Rattle.mv_history.specs.declared.log.Entry.TheVariants as entry

-- a number of one byte
abbrev pub byte : ℕ → List ℕ
byte n = n ∷ []

-- a length and as many bytes
abbrev pub byte_list : List ℕ → List ℕ
byte_list bytes = little_bytes 4 (length bytes) ++ bytes

-- a count and as many values
abbrev pub list_text : {A : Type 0} → (A → List ℕ) → List A → List ℕ
list_text text values = little_bytes 4 (length values) ++ flat_map text values

-- a subscription
abbrev pub sub_text : Sub → List ℕ
sub_text (sub.Clock id timeout flags) = 0 ∷ (little_bytes 4 id ++ (little_bytes 8 timeout ++ little_bytes 2 flags))
sub_text (sub.Read fd) = 1 ∷ little_bytes 4 fd
sub_text (sub.Write fd) = 2 ∷ little_bytes 4 fd

-- an event
abbrev pub happened_text : Happened → List ℕ
happened_text x = little_bytes 4 x.sub ++ (little_bytes 2 x.error ++ (little_bytes 8 x.nbytes ++ little_bytes 2 x.flags))

-- a call
abbrev pub call_text : Call → List ℕ
call_text (call.Clock id) = 0 ∷ little_bytes 4 id
call_text (call.Random len) = 1 ∷ little_bytes 4 len
call_text (call.Read fd cap) = 2 ∷ (little_bytes 4 fd ++ little_bytes 4 cap)
call_text (call.Write fd bytes) = 3 ∷ (little_bytes 4 fd ++ byte_list bytes)
call_text (call.Close fd) = 4 ∷ little_bytes 4 fd
call_text (call.FdStat fd) = 5 ∷ little_bytes 4 fd
call_text call.Yield = 6 ∷ []
call_text (call.Poll subs) = 7 ∷ list_text sub_text subs
call_text (call.Accept fd flags) = 8 ∷ (little_bytes 4 fd ++ little_bytes 2 flags)
call_text (call.Shutdown fd how) = 9 ∷ (little_bytes 4 fd ++ byte how)

-- a reply
abbrev pub reply_text : Reply → List ℕ
reply_text (reply.Errno errno) = 0 ∷ little_bytes 2 errno
reply_text reply.Done = 1 ∷ []
reply_text (reply.Bytes bytes) = 2 ∷ byte_list bytes
reply_text (reply.Count count) = 3 ∷ little_bytes 4 count
reply_text (reply.Fd fd) = 4 ∷ little_bytes 4 fd
reply_text (reply.Time time) = 5 ∷ little_bytes 8 time
reply_text (reply.Stat filetype flags rights heirs) = 6 ∷ (byte filetype ++ (little_bytes 2 flags ++ (little_bytes 8 rights ++ little_bytes 8 heirs)))
reply_text (reply.Ready happenings) = 7 ∷ list_text happened_text happenings

-- an accepted word
abbrev pub word_text : Word → List ℕ
word_text word.Update = 0 ∷ []
word_text word.Promote = 1 ∷ []
word_text word.Discard = 2 ∷ []
word_text word.Finish = 3 ∷ []
word_text word.Back = 4 ∷ []
word_text word.Halt = 5 ∷ []

-- a stage
abbrev pub stage_text : Stage → List ℕ
stage_text stage.OldAlone = 0 ∷ []
stage_text stage.OldLeads = 1 ∷ []
stage_text stage.NewLeads = 2 ∷ []
stage_text stage.NewAlone = 3 ∷ []

-- why the last follower was dropped
abbrev pub last_text : Last → List ℕ
last_text last.Never = 0 ∷ []
last_text last.Trap = 1 ∷ []
last_text last.Mismatch = 2 ∷ []
last_text last.Refused = 3 ∷ []
last_text last.Rules = 4 ∷ []
last_text last.Order = 5 ∷ []
last_text last.Memory = 6 ∷ []

-- the answer to an order
abbrev pub answer_text : OrderReply → List ℕ
answer_text (answer.Accepted word update) = 0 ∷ (word_text word ++ little_bytes 4 update)
answer_text (answer.Told stage update last) = 1 ∷ (stage_text stage ++ (little_bytes 4 update ++ last_text last))
answer_text answer.Long = 2 ∷ []
answer_text answer.Utf8 = 3 ∷ []
answer_text (answer.Unknown text) = 4 ∷ byte_list text
answer_text (answer.Stage now) = 5 ∷ stage_text now
answer_text (answer.Busy update) = 6 ∷ little_bytes 4 update
answer_text answer.Many = 7 ∷ []
answer_text (answer.Missing path) = 8 ∷ byte_list path
answer_text (answer.Failed path) = 9 ∷ byte_list path

-- a trap
abbrev pub trap_text : Trap → List ℕ
trap_text trap.Unreachable = 0 ∷ []
trap_text trap.DivideByZero = 1 ∷ []
trap_text trap.Overflow = 2 ∷ []
trap_text trap.Bounds = 3 ∷ []
trap_text trap.TableIndex = 4 ∷ []
trap_text trap.EmptyElement = 5 ∷ []
trap_text trap.IndirectType = 6 ∷ []
trap_text trap.Frames = 7 ∷ []
trap_text trap.Operands = 8 ∷ []
trap_text trap.Spent = 9 ∷ []
trap_text trap.OldGlobal = 10 ∷ []
trap_text trap.NotNow = 11 ∷ []
trap_text trap.CallInTransform = 12 ∷ []

-- what is wrong with the bytes of a module
abbrev pub read_kind_text : ReadKind → List ℕ
read_kind_text read_kind.Magic = 0 ∷ []
read_kind_text read_kind.Cut = 1 ∷ []
read_kind_text read_kind.Order = 2 ∷ []
read_kind_text read_kind.Size = 3 ∷ []
read_kind_text read_kind.Leb = 4 ∷ []
read_kind_text read_kind.Utf8 = 5 ∷ []
read_kind_text read_kind.Kind = 6 ∷ []
read_kind_text read_kind.Float = 7 ∷ []
read_kind_text read_kind.LaterFeature = 8 ∷ []
read_kind_text read_kind.Count = 9 ∷ []
read_kind_text read_kind.Limit = 10 ∷ []

-- why a module is not valid
abbrev pub valid_kind_text : ValidKind → List ℕ
valid_kind_text valid_kind.TypeIndex = 0 ∷ []
valid_kind_text valid_kind.FuncIndex = 1 ∷ []
valid_kind_text valid_kind.NoTable = 2 ∷ []
valid_kind_text valid_kind.NoMemory = 3 ∷ []
valid_kind_text valid_kind.GlobalIndex = 4 ∷ []
valid_kind_text valid_kind.LocalIndex = 5 ∷ []
valid_kind_text valid_kind.LabelIndex = 6 ∷ []
valid_kind_text valid_kind.Operand = 7 ∷ []
valid_kind_text valid_kind.Immutable = 8 ∷ []
valid_kind_text valid_kind.Align = 9 ∷ []
valid_kind_text valid_kind.Constant = 10 ∷ []
valid_kind_text valid_kind.Limits = 11 ∷ []
valid_kind_text valid_kind.ExportName = 12 ∷ []
valid_kind_text valid_kind.StartType = 13 ∷ []

-- the first fault of the bytes of a module
abbrev pub read_fault_text : ReadFault → List ℕ
read_fault_text x = read_kind_text x.kind ++ little_bytes 8 x.place

-- the first fault of a module that can be read
abbrev pub valid_fault_text : ValidFault → List ℕ
valid_fault_text x = byte x.part ++ (little_bytes 4 x.item ++ (little_bytes 4 x.at ++ valid_kind_text x.kind))

-- why a module cannot be started
abbrev pub start_fault_text : StartFault → List ℕ
start_fault_text start.NoEntry = 0 ∷ []
start_fault_text (start.UnknownImport import) = 1 ∷ little_bytes 4 import
start_fault_text (start.ImportType import) = 2 ∷ little_bytes 4 import
start_fault_text (start.ElementBounds segment) = 3 ∷ little_bytes 4 segment
start_fault_text (start.DataBounds segment) = 4 ∷ little_bytes 4 segment
start_fault_text (start.Trap trap) = 5 ∷ trap_text trap

-- why no guest came to be
abbrev pub born_fault_text : BornFault → List ℕ
born_fault_text (born.Read fault) = 0 ∷ read_fault_text fault
born_fault_text (born.Valid fault) = 1 ∷ valid_fault_text fault
born_fault_text (born.Start fault) = 2 ∷ start_fault_text fault
born_fault_text born.NoTransform = 3 ∷ []
born_fault_text born.NoResume = 4 ∷ []
born_fault_text (born.Transform trap) = 5 ∷ trap_text trap
born_fault_text (born.Code code) = 6 ∷ little_bytes 4 code

-- the side of a list of rules
abbrev pub side_text : Side → List ℕ
side_text side.Forward = 0 ∷ []
side_text side.Reverse = 1 ∷ []

-- what is wrong with a line of rules
abbrev pub rule_kind_text : RuleKind → List ℕ
rule_kind_text rule_kind.Size = 0 ∷ []
rule_kind_text rule_kind.Header = 1 ∷ []
rule_kind_text rule_kind.Shape = 2 ∷ []
rule_kind_text rule_kind.Many = 3 ∷ []
rule_kind_text rule_kind.Empty = 4 ∷ []
rule_kind_text rule_kind.Word = 5 ∷ []
rule_kind_text rule_kind.Number = 6 ∷ []
rule_kind_text rule_kind.Quote = 7 ∷ []
rule_kind_text rule_kind.Name = 8 ∷ []
rule_kind_text rule_kind.Twice = 9 ∷ []
rule_kind_text rule_kind.Unbound = 10 ∷ []
rule_kind_text rule_kind.Reads = 11 ∷ []
rule_kind_text rule_kind.Accepts = 12 ∷ []
rule_kind_text rule_kind.Guard = 13 ∷ []

-- the first fault of a rules file
abbrev pub rule_fault_text : RuleFault → List ℕ
rule_fault_text x = little_bytes 4 x.line ++ rule_kind_text x.kind

-- what a follower did instead; an update point or a trap has no spelling (`IsTold`)
abbrev pub got_text : Event → List ℕ
got_text (event.Calls call) = 0 ∷ call_text call
got_text (event.Ends code) = 1 ∷ little_bytes 4 code
got_text event.Point = []
got_text (event.Traps trap) = []

-- why a follower is given up
abbrev pub cause_text : Cause → List ℕ
cause_text (cause.Trap k trap) = 0 ∷ (little_bytes 8 k ++ trap_text trap)
cause_text (cause.Mismatch k want got) = 1 ∷ (little_bytes 8 k ++ (call_text want ++ got_text got))
cause_text (cause.Refused fault) = 2 ∷ born_fault_text fault
cause_text (cause.Rules side fault) = 3 ∷ (side_text side ++ rule_fault_text fault)
cause_text (cause.Order n) = 4 ∷ little_bytes 8 n
cause_text cause.Memory = 5 ∷ []

-- why a hand-over is asked for
abbrev pub why_text : Why → List ℕ
why_text why.Promote = 0 ∷ []
why_text why.Back = 1 ∷ []
why_text (why.Trap trap) = 2 ∷ trap_text trap

-- how a run ended
abbrev pub how_text : How → List ℕ
how_text (how.Ended code) = 0 ∷ little_bytes 4 code
how_text (how.Trapped trap) = 1 ∷ trap_text trap
how_text how.Halted = 2 ∷ []
how_text how.Cut = 3 ∷ []
how_text how.KernelFault = 4 ∷ []
how_text how.LogLimit = 5 ∷ []
how_text how.Memory = 6 ∷ []

-- a mark
abbrev pub mark_text : Mark → List ℕ
mark_text (mark.Fork update) = 0 ∷ little_bytes 4 update
mark_text (mark.NoCopy update) = 1 ∷ little_bytes 4 update
mark_text (mark.Hand why) = 2 ∷ why_text why
mark_text mark.Promote = 3 ∷ []
mark_text mark.Over = 4 ∷ []
mark_text mark.Back = 5 ∷ []
mark_text mark.Finish = 6 ∷ []
mark_text (mark.Discard cause) = 7 ∷ cause_text cause
mark_text (mark.Dropped cause) = 8 ∷ cause_text cause
mark_text (mark.End how) = 9 ∷ how_text how

-- a call and its reply
abbrev pub item_text : Call × Reply → List ℕ
item_text item = call_text item.0 ++ reply_text item.1

-- an entry
abbrev pub body_text : Entry → List ℕ
body_text (entry.Call item) = 0 ∷ item_text item
body_text entry.Point = 1 ∷ []
body_text (entry.Order text reply) = 2 ∷ (byte_list text ++ answer_text reply)
body_text (entry.Mark mark) = 3 ∷ mark_text mark

abbrev pub entry_text : Entry → List ℕ
entry_text entry = byte_list (body_text entry)

abbrev pub file_text : List (List ℕ) → List Entry → List ℕ
file_text args entries = codes "MVLOG001" ++ (list_text byte_list args ++ flat_map entry_text entries)
