use Rattle.std.specs.Prelude.{◌≤◌, length}
use Rattle.mv_ring.specs.Halves.{put_list}
use Rattle.mv_ring.proofs.tests.send_all.Given as goal

abbrev pub invariant-loop-n : goal.invariant-loop-n
invariant-loop-n g l = length (put_list l.feed) ≤ l.n
