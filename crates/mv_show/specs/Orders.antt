-- The answers to orders as JSON values: what the console got, or its bytes in hexadecimal (docs/FORMATS.md, "Shown log").
use Rattle.std.specs.Prelude.{ℕ, List, codes, if◌then◌else◌}
use Rattle.std.specs.Str.{is_utf8}
use Rattle.serde_json.specs.Data.{Data, object, no_members}
use Rattle.mv_orders.specs.declared.reply.OrderReply.{OrderReply}
use Rattle.mv_orders.specs.declared.reply.OrderReply.TheVariants as reply
use Rattle.mv_orders.specs.Reply.{reply_data}
use Rattle.mv_show.specs.Calls.{text_at, hex_at}

-- a refusal that names bytes which are no UTF-8
abbrev pub hex_refusal : List ℕ → List ℕ → Data
hex_refusal why bytes = object (hex_at bytes (text_at (codes "no") why no_members))

abbrev pub order_reply_data : OrderReply → Data
order_reply_data (reply.Unknown text) = if is_utf8 text then reply_data (reply.Unknown text) else hex_refusal (codes "unknown") text
order_reply_data (reply.Missing path) = if is_utf8 path then reply_data (reply.Missing path) else hex_refusal (codes "missing") path
order_reply_data (reply.Failed path) = if is_utf8 path then reply_data (reply.Failed path) else hex_refusal (codes "failed") path
order_reply_data answer = reply_data answer
