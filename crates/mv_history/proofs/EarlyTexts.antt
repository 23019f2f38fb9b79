-- What is answered before a file is read is text: it has none of the texts of the line, and no path.
use Rattle.std.specs.Prelude.{◌≡◌, ℕ, Bool, true, false, cond, Option, Some, None, IfSome, nat_lt}
use Rattle.std.proofs.Common.{subst, sym}
use Rattle.mv_orders.specs.Reply.{IsText}
use Rattle.mv_orders.specs.declared.order.Order.{Order}
use Rattle.mv_orders.specs.declared.order.Order.TheVariants as order
use Rattle.mv_orders.specs.declared.reply.OrderReply.{OrderReply}
use Rattle.mv_orders.specs.declared.reply.OrderReply.TheVariants as reply
use Rattle.mv_orders.specs.declared.stage.Stage.{Stage}
use Rattle.mv_orders.specs.declared.stage.Word.{Word}
use Rattle.mv_orders.specs.declared.stage.Word.TheVariants as word
use Rattle.mv_history.specs.Statuses.{busy_by, busy_word, early_reply, many_by, only_in, or_else, is_alone, is_old_leads, is_new_leads, update_limit}
use Rattle.mv_history.specs.declared.status.Status.{Status}
use Rattle.mv_history.specs.declared.status.Wanted.{Wanted}

abbrev HasText : Option OrderReply → Type 0
HasText r = IfSome r IsText

only_text : (here : Bool) (w : Word) (stage : Stage) → IsText (only_in here w stage)
only_text true w stage = tt
only_text false w stage = tt

busy_text : (w : Word) (n : ℕ) → HasText (busy_word w n)
busy_text word.Update n = tt
busy_text word.Promote n = tt
busy_text word.Discard n = tt
busy_text word.Finish n = tt
busy_text word.Back n = tt
busy_text word.Halt n = tt

wanted_text : (wanted : Option Wanted) → HasText (busy_by wanted)
wanted_text None = tt
wanted_text (Some wanted) = busy_text wanted.word wanted.update

many_text : (few : Bool) → HasText (cond few None (Some reply.Many))
many_text true = tt
many_text false = tt

else_text : (a b : Option OrderReply) → HasText a → HasText b → HasText (or_else a b)
else_text None b first second = second
else_text (Some r) b first second = first

stage_text : (alone : Bool) (o : Option OrderReply) (stage : Stage) → HasText o → HasText (cond alone o (Some (reply.Stage stage)))
stage_text true o stage h = h
stage_text false o stage h = tt

pub early_text : (st : Status) (o : Order) → IfSome (early_reply st o) (λ r. IsText r)
early_text st (order.Update m f r) =
    stage_text (is_alone st.stage) (or_else (busy_by st.wanted) (many_by st.fresh)) st.stage
    (else_text (busy_by st.wanted) (many_by st.fresh) (wanted_text st.wanted) (many_text (nat_lt st.fresh update_limit)))
early_text st order.Promote = only_text (is_old_leads st.stage) word.Promote st.stage
early_text st order.Discard = only_text (is_old_leads st.stage) word.Discard st.stage
early_text st order.Finish = only_text (is_new_leads st.stage) word.Finish st.stage
early_text st order.Back = only_text (is_new_leads st.stage) word.Back st.stage
early_text st order.Halt = tt
early_text st order.Status = tt

-- so is what a call answers that gives it
pub given_text : (st : Status) (o : Order) (r : Option OrderReply) → r ≡ early_reply st o → IfSome r (λ r. IsText r)
given_text st o r is = subst (λ (r : Option OrderReply). IfSome r (λ r. IsText r)) (sym is) (early_text st o)
