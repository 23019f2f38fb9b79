use Rattle.std.proofs.Common.{◌≡◌, [], drop, take}
use Rattle.mv_rules.specs.Names.{has_again}
use Rattle.mv_rules.proofs.names.has_again.Given as goal

abbrev pub invariant-loop-index : goal.invariant-loop-index
invariant-loop-index l = has_again l.left (take l.index l.parts) (drop l.index l.parts) ≡ has_again l.left [] l.parts
