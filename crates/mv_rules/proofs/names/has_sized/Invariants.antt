use Rattle.std.proofs.Common.{◌≡◌, drop}
use Rattle.std.specs.List.{list_any}
use Rattle.mv_rules.specs.Names.{is_sized}
use Rattle.mv_rules.proofs.names.has_sized.Given as goal

abbrev pub invariant-loop-part : goal.invariant-loop-part
invariant-loop-part l = list_any is_sized (drop l.part-index l.parts) ≡ list_any is_sized l.parts
