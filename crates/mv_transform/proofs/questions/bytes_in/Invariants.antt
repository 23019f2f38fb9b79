use Rattle.std.proofs.Common.{◌≡◌, ◌+◌}
use Rattle.std.specs.Prelude.{slice_range}
use Rattle.mv_transform.proofs.questions.bytes_in.Given as goal

abbrev pub invariant-loop-index : goal.invariant-loop-index
invariant-loop-index l = l.bytes.items ≡ slice_range l.memory.bytes l.place (l.place + l.index)
