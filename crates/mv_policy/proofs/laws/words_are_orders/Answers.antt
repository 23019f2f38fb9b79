use Rattle.std.proofs.Common.{◌≡◌, ap, refl, ◌∙◌}
use Rattle.std.specs.List.{join_with_byte}
use Rattle.mv_orders.specs.declared.order.Order.{Order}
use Rattle.mv_orders.specs.declared.order.Order.TheVariants as order
use Rattle.mv_orders.specs.Order.{order_words}
use Rattle.mv_policy.specs.PolicyText.{which_text}
use Rattle.mv_policy.specs.Decided.{first_word}
use Rattle.mv_policy.specs.Orders.{which_order}
use Rattle.mv_policy.proofs.laws.words_are_orders.Goals as goal

first_of : (o : Order) → first_word (join_with_byte 32 (order_words o)) ≡ which_text (which_order o)
first_of (order.Update m f r) = refl
first_of order.Promote = refl
first_of order.Discard = refl
first_of order.Finish = refl
first_of order.Back = refl
first_of order.Halt = refl
first_of order.Status = refl

pub returns : goal.returns
returns c = λ line o is. ap first_word is.joined ∙ first_of o
