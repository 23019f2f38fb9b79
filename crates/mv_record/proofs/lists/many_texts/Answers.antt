use Rattle.std.proofs.lemmas.Result.{err_from_is_err_and}
use Rattle.mv_record.specs.Reading.{many_at, byte_list_at}
use Rattle.mv_record.proofs.Loop.{many_go_on, many_end, many_done}
use Rattle.mv_record.proofs.lists.many_texts.Goals as goal

pub returns-in_err-value : goal.returns-in_err-value
returns-in_err-value c =
    let p = err_from_is_err_and c.from_residual.result c.from_residual.ensures.1 in
    rw (p.1, p.2) (many_end byte_list_at c.in_err-value.field-0.0 c.loop.values.items c.args.count c.loop.counter c.loop.rest.now (many_at byte_list_at c.args.count c.args.bytes.now) c.loop-test.true c.in_err-value.ensures c.loop.invariant)

pub loop-preserved : goal.loop-preserved
loop-preserved c = rw c.in_ok-push.ensures.items (many_go_on byte_list_at c.loop.values.items c.args.count c.loop.counter c.loop.rest.now c.in_ok-value.value c.in_ok-value.after.now (many_at byte_list_at c.args.count c.args.bytes.now) c.loop-test.true c.in_ok-value.ensures c.loop.invariant)

pub returns : goal.returns
returns c = many_done byte_list_at c.loop.values.items c.args.count c.loop.counter c.loop.rest.now (many_at byte_list_at c.args.count c.args.bytes.now) c.loop-test.false c.loop.invariant
