-- The orders that a policy has a word for.
use Rattle.mv_orders.specs.declared.order.Order.{Order}
use Rattle.mv_orders.specs.declared.order.Order.TheVariants as order
use Rattle.mv_policy.specs.declared.line.Which.{Which}
use Rattle.mv_policy.specs.declared.line.Which.TheVariants as which

abbrev pub which_order : Order → Which
which_order (order.Update module_path forward reverse) = which.Update
which_order order.Promote = which.Promote
which_order order.Discard = which.Discard
which_order order.Finish = which.Finish
which_order order.Back = which.Back
which_order order.Halt = which.Halt
which_order order.Status = which.Status
