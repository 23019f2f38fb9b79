use Rattle.std.proofs.Common.{◌≡◌, ◌++◌, ◌∷◌, [], ap, ◌∙◌, List, ℕ, false}
use Rattle.serde_json.specs.Written.{has_float, compact_text}
use Rattle.serde_json.specs.View.{view}
use Rattle.mv_orders.specs.Reply.{reply_json}
use Rattle.mv_orders.proofs.Lines.{no_float, text_is}
use Rattle.mv_orders.proofs.reply.reply_line.Goals as goal

pub returns : goal.returns
returns c =
    let r = c.args.reply.now in
    let free : has_float (view c.in_ok-value.value) ≡ false = ap has_float c.in_ok-value.ensures ∙ no_float r in
    let text : c.in_ok-line.line.items ≡ reply_json r = c.in_ok-line.ensures.text free ∙ ap compact_text c.in_ok-value.ensures ∙ text_is r in
    record { line = c.from_vec.ensures ∙ c.in_ok-push.ensures.items ∙ ap (λ (x : List ℕ). x ++ 10 ∷ []) text }
