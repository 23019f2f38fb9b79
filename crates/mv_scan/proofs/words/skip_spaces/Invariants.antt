use Rattle.std.proofs.Common.{◌≡◌, length}
use Rattle.mv_scan.specs.Words.{drop_spaces}
use Rattle.mv_scan.proofs.words.skip_spaces.Given as goal

abbrev pub invariant-loop-rest : goal.invariant-loop-rest
invariant-loop-rest l = drop_spaces l.rest ≡ drop_spaces l.bytes

abbrev pub decreases-loop-rest : goal.decreases-loop-rest
decreases-loop-rest l = length l.rest
