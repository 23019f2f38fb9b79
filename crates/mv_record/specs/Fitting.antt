-- Which logs have a file: each number is one of its type, and each length and count that is written as a u32 fits one.
use Rattle.std.specs.Prelude.{◌≡◌, ℕ, ◌<◌, ◌^◌, List, length, IsTrue}
use Rattle.std.specs.List.{AllByRecursion}
use Rattle.mv_calls.specs.Suits.{suits_of}
use Rattle.mv_calls.specs.declared.subs.Sub.{Sub}
use Rattle.mv_calls.specs.declared.subs.Sub.TheVariants as sub
use Rattle.mv_calls.specs.declared.happenings.Happened.{Happened}
use Rattle.mv_calls.specs.declared.calls.Call.{Call}
use Rattle.mv_calls.specs.declared.calls.Call.TheVariants as call
use Rattle.mv_calls.specs.declared.calls.Reply.{Reply}
use Rattle.mv_calls.specs.declared.calls.Reply.TheVariants as reply
use Rattle.mv_orders.specs.declared.reply.OrderReply.{OrderReply}
use Rattle.mv_orders.specs.declared.reply.OrderReply.TheVariants as answer
use Rattle.mv_syntax.specs.declared.fault.ReadFault.{ReadFault}
use Rattle.mv_syntax.specs.declared.fault.ValidFault.{ValidFault}
use Rattle.mv_syntax.specs.declared.fault.StartFault.{StartFault}
use Rattle.mv_syntax.specs.declared.fault.StartFault.TheVariants as start
use Rattle.mv_syntax.specs.declared.fault.BornFault.{BornFault}
use Rattle.mv_syntax.specs.declared.fault.BornFault.TheVariants as born
use Rattle.mv_rules.specs.declared.fault.RuleFault.{RuleFault}
use Rattle.mv_version.specs.declared.event.Event.{Event}
use Rattle.mv_version.specs.declared.event.Event.TheVariants as event
use Rattle.mv_history.specs.declared.log.Cause.{Cause}
use Rattle.mv_history.specs.declared.log.Cause.TheVariants as cause
use Rattle.mv_history.specs.declared.log.How.{How}
use Rattle.mv_history.specs.declared.log.How.TheVariants as how
use Rattle.mv_history.specs.declared.log.Mark.{Mark}
use Rattle.mv_history.specs.declared.log.Mark.TheVariants as mark
use Rattle.mv_history.specs.declared.log.Entry.{Entry}
use Rattle.mv_history.specs.declared.log.Entry.TheVariants as entry
use Rattle.mv_record.specs.Spelling.{body_text, file_text}

-- ---- numbers of a type

abbrev pub IsU8 : ℕ → Type 0
IsU8 n = n < 2 ^ 8

abbrev pub IsU16 : ℕ → Type 0
IsU16 n = n < 2 ^ 16

abbrev pub IsU32 : ℕ → Type 0
IsU32 n = n < 2 ^ 32

abbrev pub IsU64 : ℕ → Type 0
IsU64 n = n < 2 ^ 64

-- a length that is written as a u32
abbrev pub IsSmall : {A : Type 0} → List A → Type 0
IsSmall values = length values < 2 ^ 32

abbrev pub FitsList : {A : Type 0} → (A → Type 0) → List A → Type 0
FitsList Fits values = IsSmall values × AllByRecursion Fits values

-- ---- calls and replies

abbrev pub FitsSub : Sub → Type 0
FitsSub (sub.Clock id timeout flags) = IsU32 id × IsU64 timeout × IsU16 flags
FitsSub (sub.Read fd) = IsU32 fd
FitsSub (sub.Write fd) = IsU32 fd

abbrev pub FitsHappened : Happened → Type 0
FitsHappened x = IsU32 x.sub × IsU16 x.error × IsU64 x.nbytes × IsU16 x.flags

abbrev pub FitsCall : Call → Type 0
FitsCall (call.Clock id) = IsU32 id
FitsCall (call.Random len) = IsU32 len
FitsCall (call.Read fd cap) = IsU32 fd × IsU32 cap
FitsCall (call.Write fd bytes) = IsU32 fd × IsSmall bytes
FitsCall (call.Close fd) = IsU32 fd
FitsCall (call.FdStat fd) = IsU32 fd
FitsCall call.Yield = Unit {0}
FitsCall (call.Poll subs) = FitsList FitsSub subs
FitsCall (call.Accept fd flags) = IsU32 fd × IsU16 flags
FitsCall (call.Shutdown fd how) = IsU32 fd × IsU8 how

abbrev pub FitsReply : Reply → Type 0
FitsReply (reply.Errno errno) = IsU16 errno
FitsReply reply.Done = Unit {0}
FitsReply (reply.Bytes bytes) = IsSmall bytes
FitsReply (reply.Count count) = IsU32 count
FitsReply (reply.Fd fd) = IsU32 fd
FitsReply (reply.Time time) = IsU64 time
FitsReply (reply.Stat filetype flags rights heirs) = IsU8 filetype × IsU16 flags × IsU64 rights × IsU64 heirs
FitsReply (reply.Ready happenings) = FitsList FitsHappened happenings

abbrev pub FitsAnswer : OrderReply → Type 0
FitsAnswer (answer.Accepted word update) = IsU32 update
FitsAnswer (answer.Told stage update last) = IsU32 update
FitsAnswer answer.Long = Unit {0}
FitsAnswer answer.Utf8 = Unit {0}
FitsAnswer (answer.Unknown text) = IsSmall text
FitsAnswer (answer.Stage now) = Unit {0}
FitsAnswer (answer.Busy update) = IsU32 update
FitsAnswer answer.Many = Unit {0}
FitsAnswer (answer.Missing path) = IsSmall path
FitsAnswer (answer.Failed path) = IsSmall path

abbrev pub FitsReadFault : ReadFault → Type 0
FitsReadFault x = IsU64 x.place

abbrev pub FitsValidFault : ValidFault → Type 0
FitsValidFault x = IsU8 x.part × IsU32 x.item × IsU32 x.at

abbrev pub FitsStartFault : StartFault → Type 0
FitsStartFault start.NoEntry = Unit {0}
FitsStartFault (start.UnknownImport import) = IsU32 import
FitsStartFault (start.ImportType import) = IsU32 import
FitsStartFault (start.ElementBounds segment) = IsU32 segment
FitsStartFault (start.DataBounds segment) = IsU32 segment
FitsStartFault (start.Trap trap) = Unit {0}

abbrev pub FitsBornFault : BornFault → Type 0
FitsBornFault (born.Read fault) = FitsReadFault fault
FitsBornFault (born.Valid fault) = FitsValidFault fault
FitsBornFault (born.Start fault) = FitsStartFault fault
FitsBornFault born.NoTransform = Unit {0}
FitsBornFault born.NoResume = Unit {0}
FitsBornFault (born.Transform trap) = Unit {0}
FitsBornFault (born.Code code) = IsU32 code

abbrev pub FitsRuleFault : RuleFault → Type 0
FitsRuleFault x = IsU32 x.line

abbrev pub FitsGot : Event → Type 0
FitsGot (event.Calls call) = FitsCall call
FitsGot (event.Ends code) = IsU32 code
FitsGot event.Point = ⊥
FitsGot (event.Traps trap) = ⊥

abbrev pub FitsCause : Cause → Type 0
FitsCause (cause.Trap k trap) = IsU64 k
FitsCause (cause.Mismatch k want got) = IsU64 k × FitsCall want × FitsGot got
FitsCause (cause.Refused fault) = FitsBornFault fault
FitsCause (cause.Rules side fault) = FitsRuleFault fault
FitsCause (cause.Order n) = IsU64 n
FitsCause cause.Memory = Unit {0}

abbrev pub FitsHow : How → Type 0
FitsHow (how.Ended code) = IsU32 code
FitsHow (how.Trapped trap) = Unit {0}
FitsHow how.Halted = Unit {0}
FitsHow how.Cut = Unit {0}
FitsHow how.KernelFault = Unit {0}
FitsHow how.LogLimit = Unit {0}
FitsHow how.Memory = Unit {0}

abbrev pub FitsMark : Mark → Type 0
FitsMark (mark.Fork update) = IsU32 update
FitsMark (mark.NoCopy update) = IsU32 update
FitsMark (mark.Hand why) = Unit {0}
FitsMark mark.Promote = Unit {0}
FitsMark mark.Over = Unit {0}
FitsMark mark.Back = Unit {0}
FitsMark mark.Finish = Unit {0}
FitsMark (mark.Discard cause) = FitsCause cause
FitsMark (mark.Dropped cause) = FitsCause cause
FitsMark (mark.End how) = FitsHow how

-- a reply suits its call
abbrev pub FitsItem : Call × Reply → Type 0
FitsItem item = FitsCall item.0 × FitsReply item.1 × IsTrue (suits_of item.0 item.1)

abbrev pub FitsBody : Entry → Type 0
FitsBody (entry.Call item) = FitsItem item
FitsBody entry.Point = Unit {0}
FitsBody (entry.Order text reply) = IsSmall text × FitsAnswer reply
FitsBody (entry.Mark mark) = FitsMark mark

-- and the length of its body does
abbrev pub FitsEntry : Entry → Type 0
FitsEntry entry = FitsBody entry × IsSmall (body_text entry)

pub record FitsFile (args : List (List ℕ)) (entries : List Entry) : Type 0 where
  pub arguments : FitsList IsSmall args
  pub each : AllByRecursion FitsEntry entries

-- the file of these arguments and entries
pub record IsFile (bytes : List ℕ) (args : List (List ℕ)) (entries : List Entry) : Type 0 where
  pub fits : FitsFile args entries
  pub text : bytes ≡ file_text args entries

-- ---- a Mismatch tells another call, or an end

abbrev pub IsTold : Event → Type 0
IsTold (event.Calls call) = Unit {0}
IsTold event.Point = ⊥
IsTold (event.Ends code) = Unit {0}
IsTold (event.Traps trap) = ⊥

abbrev pub IsToldCause : Cause → Type 0
IsToldCause (cause.Mismatch k want got) = IsTold got
IsToldCause _ = Unit {0}

abbrev pub IsToldMark : Mark → Type 0
IsToldMark (mark.Discard cause) = IsToldCause cause
IsToldMark (mark.Dropped cause) = IsToldCause cause
IsToldMark _ = Unit {0}

abbrev pub IsToldEntry : Entry → Type 0
IsToldEntry (entry.Mark mark) = IsToldMark mark
IsToldEntry _ = Unit {0}
