use Rattle.std.proofs.Common.{◌≡◌, ◌++◌, take}
use Rattle.std.specs.List.{flat_map, AllByRecursion}
use Rattle.mv_record.specs.Spelling.{byte_list}
use Rattle.mv_record.specs.Fitting.{IsSmall}
use Rattle.mv_record.proofs.putting.put_each_texts.Given as goal

abbrev pub invariant-loop-value : goal.invariant-loop-value
invariant-loop-value l = AllByRecursion IsSmall (take l.value-index l.values) × (l.out.items ≡ l.fn.out.items ++ flat_map byte_list (take l.value-index l.values))
