use Rattle.mv_history.proofs.OrderLaws.{accepts_update, order_keeps, order_wants}
use Rattle.mv_history.proofs.log_laws.orders_keep_the_rest.Goals as goal

pub returns : goal.returns
returns c = record {
  stage = λ st r. (order_keeps st r).stage;
  follower = λ st r. (order_keeps st r).follower;
  asked = λ st r. (order_keeps st r).asked;
  last = λ st r. (order_keeps st r).last;
  ended = λ st r. (order_keeps st r).ended;
  counts = λ st r. ((order_keeps st r).updates, (order_keeps st r).rises);
  wants = order_wants;
  accepts = λ st updates text n answers. let a = accepts_update st updates text n answers in (a.number, a.goes.alone, a.goes.unwanted, a.goes.few, (a.files, a.held));
}
