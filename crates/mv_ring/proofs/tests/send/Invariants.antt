use Rattle.std.specs.Prelude.{◌≤◌, length}
use Rattle.mv_ring.specs.Halves.{put_list}
use Rattle.mv_ring.proofs.tests.send.Given as goal

abbrev pub invariant-loop : goal.invariant-loop
invariant-loop g l = length (put_list l.feed) ≤ l.n
