use Rattle.std.proofs.Common.{◌≡◌, map, take}
use Rattle.mv_execution.specs.Instance.{constant_of}
use Rattle.mv_machine.proofs.instance.new_globals.Given as goal

abbrev pub invariant-loop-global : goal.invariant-loop-global
invariant-loop-global l = l.values.items ≡ map (λ g. constant_of g.init) (take l.global-index l.globals)
