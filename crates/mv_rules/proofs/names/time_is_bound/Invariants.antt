use Rattle.std.proofs.Common.{◌≡◌, drop}
use Rattle.std.specs.List.{list_any}
use Rattle.mv_rules.specs.Names.{binds_time}
use Rattle.mv_rules.proofs.names.time_is_bound.Given as goal

abbrev pub invariant-loop-pattern : goal.invariant-loop-pattern
invariant-loop-pattern l = list_any (binds_time l.name) (drop l.pattern-index l.left) ≡ list_any (binds_time l.name) l.left
