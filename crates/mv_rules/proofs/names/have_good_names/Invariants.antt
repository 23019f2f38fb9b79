use Rattle.std.proofs.Common.{◌≡◌, drop}
use Rattle.std.specs.List.{list_all}
use Rattle.mv_rules.specs.Names.{part_name_passes}
use Rattle.mv_scan.specs.Names.{is_name}
use Rattle.mv_rules.proofs.names.have_good_names.Given as goal

abbrev pub invariant-loop-part : goal.invariant-loop-part
invariant-loop-part l = list_all (part_name_passes is_name) (drop l.part-index l.parts) ≡ list_all (part_name_passes is_name) l.parts
