use Rattle.std.proofs.Common.{◌≡◌, ◌∷◌, take}
use Rattle.mv_commands.proofs.loading.arguments.Given as goal

abbrev pub invariant-loop-arg : goal.invariant-loop-arg
invariant-loop-arg l = l.all.items ≡ l.old ∷ take l.arg-index l.arg-items
