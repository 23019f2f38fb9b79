use Rattle.std.proofs.Common.{◌≡◌, map, take}
use Rattle.mv_writer.proofs.sections.types_of.Given as goal

abbrev pub invariant-loop-func : goal.invariant-loop-func
invariant-loop-func l = l.types.items ≡ map (λ f. f.ftype) (take l.func-index l.fn.funcs)
