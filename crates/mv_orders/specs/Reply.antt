-- The lines that answer orders.
use Rattle.std.specs.Prelude.{ℕ, List, [], ◌∷◌, ◌++◌, codes, decimal, IsUtf8}
use Rattle.json.specs.Print.{quoted}
use Rattle.serde_json.specs.Data.{Data, number, unsigned, string, object, member, no_members, Members}
use Rattle.mv_orders.specs.declared.stage.Stage.{Stage}
use Rattle.mv_orders.specs.declared.stage.Stage.TheVariants.{OldAlone, OldLeads, NewLeads, NewAlone}
use Rattle.mv_orders.specs.declared.stage.Word.{Word}
use Rattle.mv_orders.specs.declared.stage.Word.TheVariants as word
use Rattle.mv_orders.specs.declared.stage.Last.{Last}
use Rattle.mv_orders.specs.declared.stage.Last.TheVariants as last
use Rattle.mv_orders.specs.declared.reply.OrderReply.{OrderReply}
use Rattle.mv_orders.specs.declared.reply.OrderReply.TheVariants as reply

abbrev pub stage_name : Stage → List ℕ
stage_name OldAlone = codes "OldAlone"
stage_name OldLeads = codes "OldLeads"
stage_name NewLeads = codes "NewLeads"
stage_name NewAlone = codes "NewAlone"

abbrev pub word_name : Word → List ℕ
word_name word.Update = codes "update"
word_name word.Promote = codes "promote"
word_name word.Discard = codes "discard"
word_name word.Finish = codes "finish"
word_name word.Back = codes "back"
word_name word.Halt = codes "halt"

abbrev pub last_name : Last → List ℕ
last_name last.Never = codes "never"
last_name last.Trap = codes "trap"
last_name last.Mismatch = codes "mismatch"
last_name last.Refused = codes "refused"
last_name last.Rules = codes "rules"
last_name last.Order = codes "order"
last_name last.Memory = codes "memory"

-- a text in the reply is UTF-8
abbrev pub IsText : OrderReply → Type 0
IsText (reply.Unknown text) = IsUtf8 text
IsText (reply.Missing path) = IsUtf8 path
IsText (reply.Failed path) = IsUtf8 path
IsText _ = Unit {0}

abbrev pub in_quotes : List ℕ → List ℕ
in_quotes name = 34 ∷ (name ++ 34 ∷ [])

-- an accepted update has its number
abbrev pub accepted_text : Word → ℕ → List ℕ
accepted_text word.Update n = codes "{\"ok\":\"update\",\"update\":" ++ decimal n ++ codes "}"
accepted_text w n = codes "{\"ok\":\"" ++ word_name w ++ codes "\"}"

-- the line of a reply without its line feed; `quoted` is a JSON string as `serde_json` writes it
abbrev pub reply_json : OrderReply → List ℕ
reply_json (reply.Accepted w n) = accepted_text w n
reply_json (reply.Told s n l) =
    codes "{\"last\":" ++ (in_quotes (last_name l) ++ (codes ",\"ok\":\"status\",\"stage\":" ++ (in_quotes (stage_name s) ++ (codes ",\"update\":" ++ (decimal n ++ codes "}")))))
reply_json reply.Long = codes "{\"no\":\"long\"}"
reply_json reply.Utf8 = codes "{\"no\":\"utf8\"}"
reply_json (reply.Unknown text) = codes "{\"no\":\"unknown\",\"text\":" ++ quoted text ++ codes "}"
reply_json (reply.Stage s) = codes "{\"no\":\"stage\",\"now\":" ++ (in_quotes (stage_name s) ++ codes "}")
reply_json (reply.Busy n) = codes "{\"no\":\"busy\",\"update\":" ++ decimal n ++ codes "}"
reply_json reply.Many = codes "{\"no\":\"many\"}"
reply_json (reply.Missing path) = codes "{\"no\":\"missing\",\"path\":" ++ quoted path ++ codes "}"
reply_json (reply.Failed path) = codes "{\"no\":\"failed\",\"path\":" ++ quoted path ++ codes "}"

-- the line of a reply, with its line feed
abbrev pub reply_text : OrderReply → List ℕ
reply_text r = reply_json r ++ 10 ∷ []

abbrev accepted_data : Word → ℕ → Data
accepted_data word.Update n = object (member (codes "ok") (string (codes "update")) (member (codes "update") (number (unsigned n)) no_members))
accepted_data w n = object (member (codes "ok") (string (word_name w)) no_members)

abbrev refusal_data : List ℕ → Members → Data
refusal_data why more = object (member (codes "no") (string why) more)

-- the same as a JSON value, for private clauses
abbrev pub reply_data : OrderReply → Data
reply_data (reply.Accepted w n) = accepted_data w n
reply_data (reply.Told s n l) = object (member (codes "last") (string (last_name l)) (member (codes "ok") (string (codes "status")) (member (codes "stage") (string (stage_name s)) (member (codes "update") (number (unsigned n)) no_members))))
reply_data reply.Long = refusal_data (codes "long") no_members
reply_data reply.Utf8 = refusal_data (codes "utf8") no_members
reply_data (reply.Unknown text) = refusal_data (codes "unknown") (member (codes "text") (string text) no_members)
reply_data (reply.Stage s) = refusal_data (codes "stage") (member (codes "now") (string (stage_name s)) no_members)
reply_data (reply.Busy n) = refusal_data (codes "busy") (member (codes "update") (number (unsigned n)) no_members)
reply_data reply.Many = refusal_data (codes "many") no_members
reply_data (reply.Missing path) = refusal_data (codes "missing") (member (codes "path") (string path) no_members)
reply_data (reply.Failed path) = refusal_data (codes "failed") (member (codes "path") (string path) no_members)
