use Rattle.std.proofs.Common.{◌≡◌, drop}
use Rattle.mv_syntax.specs.Types.{same_types}
use Rattle.mv_machine.proofs.calls.are_same_types.Given as goal

abbrev pub invariant-loop-index : goal.invariant-loop-index
invariant-loop-index l = same_types l.fn.a l.fn.b ≡ same_types (drop l.index l.fn.a) (drop l.index l.fn.b)
