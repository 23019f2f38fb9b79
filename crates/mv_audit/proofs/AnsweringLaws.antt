-- A line is read in one way, so one reading decides its answers.
use Rattle.std.specs.Prelude.{◌↔◌, ℕ, Bool, IsTrue, List, Result}
use Rattle.std.proofs.Common.{subst}
use Rattle.mv_orders.specs.Order.{Reads}
use Rattle.mv_orders.proofs.Words.{same_reading}
use Rattle.mv_orders.specs.declared.order.Order.{Order}
use Rattle.mv_orders.specs.declared.order.OrderFault.{OrderFault}
use Rattle.mv_orders.specs.declared.reply.OrderReply.{OrderReply}
use Rattle.mv_history.specs.Answers.{Answers, IsReplyTo}
use Rattle.mv_history.specs.declared.status.Status.{Status}
use Rattle.mv_history.specs.declared.updates.Update.{Update}

pub answers_exactly : (answer : Bool) (st : Status) (updates : List Update) (text : List ℕ) (r : OrderReply) (reading : Result Order OrderFault) → Reads text reading
    → (IsTrue answer ↔ IsReplyTo st updates text reading r) → IsTrue answer ↔ Answers st updates text r
answers_exactly answer st updates text r reading reads same =
    let P : Result Order OrderFault → Type 0 = λ x. IsReplyTo st updates text x r in
    ((λ h. (reading, reads, same.0 h)), (λ h. same.1 (subst P (same_reading text h.0 reading h.1 reads) h.2)))
