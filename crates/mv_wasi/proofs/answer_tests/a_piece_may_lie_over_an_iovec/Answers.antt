use Rattle.std.proofs.Common.{rules}
use Rattle.mv_wasi.proofs.Bounds.{pieces-inside}
use Rattle.mv_wasi.proofs.answer_tests.a_piece_may_lie_over_an_iovec.Goals as goal

pub own_read-requires-clause-within : goal.own_read-requires-clause-within
own_read-requires-clause-within g c = search (rules, pieces-inside)
