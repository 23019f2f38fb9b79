use Rattle.std.proofs.Common.{◌≡◌, drop}
use Rattle.std.specs.List.{list_any}
use Rattle.mv_rules.specs.Names.{binds_bytes}
use Rattle.mv_rules.proofs.names.bytes_are_bound.Given as goal

abbrev pub invariant-loop-pattern : goal.invariant-loop-pattern
invariant-loop-pattern l = list_any (binds_bytes l.name) (drop l.pattern-index l.left) ≡ list_any (binds_bytes l.name) l.left
