use Rattle.std.proofs.Common.{◌+◌, ◌*◌, ◌<◌, length, arith}
use Rattle.std.proofs.lemmas.Result.{err_from_is_err_and}
use Rattle.mv_inspect.proofs.Threes.{so_far_done, so_far_next, so_far_stops, three_at}
use Rattle.mv_inspect.proofs.naming.updates_at.Goals as goal

pub returns-in_err-update-clause-unread : goal.returns-in_err-update-clause-unread
returns-in_err-update-clause-unread g c =
    let p = err_from_is_err_and c.from_residual.result c.from_residual.ensures.1 in
    let fits : 3 * c.loop-number.number + 2 < length c.args.names.now = omega arith in
    let is = three_at c.args.names.now (3 * c.loop-number.number) (3 * c.loop-number.number + 3) _ _ _ fits (omega arith) c.index-names-place.is c.index-names-place-in-loop-number.is c.index-names-place-in-loop-number-2.is in
    rw (p.1, p.2) (so_far_stops _ _ _ _ c.args.names.now (3 * c.loop-number.number) (3 * c.loop-number.number + 3) c.loop-number.updates.items _ _ _ _ _ c.loop-number.invariant is c.in_err-update.ensures.unread)

pub loop-number-preserved : goal.loop-number-preserved
loop-number-preserved g c =
    let fits : 3 * c.loop-number.number + 2 < length c.args.names.now = omega arith in
    let is = three_at c.args.names.now (3 * c.loop-number.number) (3 * (c.loop-number.number + 1)) _ _ _ fits (omega arith) c.index-names-place.is c.index-names-place-in-loop-number.is c.index-names-place-in-loop-number-2.is in
    rw c.in-Ok.ensures.items (so_far_next _ _ _ _ c.args.names.now (3 * c.loop-number.number) (3 * (c.loop-number.number + 1)) c.loop-number.updates.items _ _ _ _ _ c.in_ok-update.update c.loop-number.invariant is c.in_ok-update.ensures.read c.in_ok-update.ensures.same c.in_ok-update.ensures.later)

pub returns-clause-read : goal.returns-clause-read
returns-clause-read g c =
    let short : length c.args.names.now < 3 * c.loop-number.number + 3 = omega arith in
    rw c.from_vec.ensures.list (so_far_done _ _ _ _ c.args.names.now (3 * c.loop-number.number) c.loop-number.updates.items short c.loop-number.invariant)
