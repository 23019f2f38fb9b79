-- Which replies an order line may have (docs/FORMATS.md, "Orders").
use Rattle.std.specs.Prelude.{◌≡◌, ◌≢◌, ◌⊎◌, ℕ, ◌+◌, Option, Some, None, List, slice_get, Result, Ok, Err, codes}
use Rattle.mv_orders.specs.Order.{Reads}
use Rattle.mv_orders.specs.declared.order.Order.{Order}
use Rattle.mv_orders.specs.declared.order.Order.TheVariants as order
use Rattle.mv_orders.specs.declared.order.OrderFault.{OrderFault}
use Rattle.mv_orders.specs.declared.order.OrderFault.TheVariants as faults
use Rattle.mv_orders.specs.declared.reply.OrderReply.{OrderReply}
use Rattle.mv_orders.specs.declared.reply.OrderReply.TheVariants as reply
use Rattle.mv_orders.specs.declared.stage.Word.TheVariants as word
use Rattle.mv_history.specs.Rules.{no_rules_text}
use Rattle.mv_history.specs.Statuses.{early_reply}
use Rattle.mv_history.specs.declared.status.Status.{Status}
use Rattle.mv_history.specs.declared.updates.Update.{Update}

-- the word for no rules, which names no file
abbrev pub none_word : List ℕ
none_word = codes "none"

-- one of the line's paths that is read
abbrev pub IsPathOf : Order → List ℕ → Type 0
IsPathOf (order.Update m f r) path = (path ≡ m) ⊎ (((path ≡ f) × (f ≢ none_word)) ⊎ ((path ≡ r) × (r ≢ none_word)))
IsPathOf o path = ⊥

-- a list of rules that the order calls `none` is kept as the file of no rules
abbrev pub StandsFor : Order → Update → Type 0
StandsFor (order.Update m f r) files = (f ≡ none_word → files.forward ≡ no_rules_text) × (r ≡ none_word → files.reverse ≡ no_rules_text)
StandsFor o files = ⊥

-- The answer to an update that goes on to its files: it is accepted under the next number, and the log has its files
-- there; or one of its files is missing, or couldn't be read.
abbrev pub IsFilesReply : Status → List Update → Order → OrderReply → Type 0
IsFilesReply st updates o (reply.Accepted word.Update n) = (n ≡ st.updates + 1) × ((files : Update) × (slice_get updates st.fresh ≡ Some files) × StandsFor o files)
IsFilesReply st updates o (reply.Missing path) = IsPathOf o path
IsFilesReply st updates o (reply.Failed path) = IsPathOf o path
IsFilesReply st updates o r = ⊥

-- the answer that needs no file, or one of those that do
abbrev pub IsReplyBy : Option OrderReply → Status → List Update → Order → OrderReply → Type 0
IsReplyBy (Some early) st updates o r = r ≡ early
IsReplyBy None st updates o r = IsFilesReply st updates o r

-- the answer to what a line gives when it is read
abbrev pub IsReplyTo : Status → List Update → List ℕ → Result Order OrderFault → OrderReply → Type 0
IsReplyTo st updates text (Err faults.Long) r = r ≡ reply.Long
IsReplyTo st updates text (Err faults.Utf8) r = r ≡ reply.Utf8
IsReplyTo st updates text (Err faults.Unknown) r = r ≡ reply.Unknown text
IsReplyTo st updates text (Ok o) r = IsReplyBy (early_reply st o) st updates o r

-- the reply may answer this line
abbrev pub Answers : Status → List Update → List ℕ → OrderReply → Type 0
Answers st updates text r = (reading : Result Order OrderFault) × Reads text reading × IsReplyTo st updates text reading r
