-- What `serde_json` writes for the value of a reply.
use Rattle.std.proofs.Common.{◌≡◌, ℕ, refl, false}
use Rattle.json.specs.Print.{escape}
use Rattle.serde_json.specs.Written.{has_float, compact_text}
use Rattle.serde_json.proofs.OnLiterals.{serde_json_on_literals}
use Rattle.mv_orders.specs.declared.stage.Stage.{Stage}
use Rattle.mv_orders.specs.declared.stage.Stage.TheVariants.{OldAlone, OldLeads, NewLeads, NewAlone}
use Rattle.mv_orders.specs.declared.stage.Word.{Word}
use Rattle.mv_orders.specs.declared.stage.Word.TheVariants as word
use Rattle.mv_orders.specs.declared.stage.Last.{Last}
use Rattle.mv_orders.specs.declared.stage.Last.TheVariants as last
use Rattle.mv_orders.specs.declared.reply.OrderReply.{OrderReply}
use Rattle.mv_orders.specs.declared.reply.OrderReply.TheVariants as reply
use Rattle.mv_orders.specs.Reply.{stage_name, last_name, reply_json, reply_data}

-- the names stand for themselves in a JSON string
stage_plain : (s : Stage) → escape (stage_name s) ≡ stage_name s
unfolding serde_json_on_literals
stage_plain OldAlone = refl
stage_plain OldLeads = refl
stage_plain NewLeads = refl
stage_plain NewAlone = refl

last_plain : (l : Last) → escape (last_name l) ≡ last_name l
unfolding serde_json_on_literals
last_plain last.Never = refl
last_plain last.Trap = refl
last_plain last.Mismatch = refl
last_plain last.Refused = refl
last_plain last.Rules = refl
last_plain last.Order = refl
last_plain last.Memory = refl

accepted_free : (w : Word) (n : ℕ) → has_float (reply_data (reply.Accepted w n)) ≡ false
accepted_free word.Update n = refl
accepted_free word.Promote n = refl
accepted_free word.Discard n = refl
accepted_free word.Finish n = refl
accepted_free word.Back n = refl
accepted_free word.Halt n = refl

pub no_float : (r : OrderReply) → has_float (reply_data r) ≡ false
no_float (reply.Accepted w n) = accepted_free w n
no_float (reply.Told s n l) = refl
no_float reply.Long = refl
no_float reply.Utf8 = refl
no_float (reply.Unknown text) = refl
no_float (reply.Stage s) = refl
no_float (reply.Busy n) = refl
no_float reply.Many = refl
no_float (reply.Missing path) = refl
no_float (reply.Failed path) = refl

accepted_is : (w : Word) (n : ℕ) → compact_text (reply_data (reply.Accepted w n)) ≡ reply_json (reply.Accepted w n)
unfolding serde_json_on_literals
accepted_is word.Update n = refl
accepted_is word.Promote n = refl
accepted_is word.Discard n = refl
accepted_is word.Finish n = refl
accepted_is word.Back n = refl
accepted_is word.Halt n = refl

told_is : (s : Stage) (n : ℕ) (l : Last) → compact_text (reply_data (reply.Told s n l)) ≡ reply_json (reply.Told s n l)
unfolding serde_json_on_literals
told_is s n l = rw (stage_plain s, last_plain l) refl

stage_is : (s : Stage) → compact_text (reply_data (reply.Stage s)) ≡ reply_json (reply.Stage s)
unfolding serde_json_on_literals
stage_is s = rw (stage_plain s) refl

pub text_is : (r : OrderReply) → compact_text (reply_data r) ≡ reply_json r
unfolding serde_json_on_literals
text_is (reply.Accepted w n) = accepted_is w n
text_is (reply.Told s n l) = told_is s n l
text_is reply.Long = refl
text_is reply.Utf8 = refl
text_is (reply.Unknown text) = refl
text_is (reply.Stage s) = stage_is s
text_is (reply.Busy n) = refl
text_is reply.Many = refl
text_is (reply.Missing path) = refl
text_is (reply.Failed path) = refl
