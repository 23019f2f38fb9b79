use Rattle.std.proofs.Common.{◌≡◌, ◌++◌, take}
use Rattle.std.specs.List.{flat_map, AllByRecursion}
use Rattle.mv_record.specs.Spelling.{happened_text}
use Rattle.mv_record.specs.Fitting.{FitsHappened}
use Rattle.mv_record.proofs.putting.put_each_happenings.Given as goal

abbrev pub invariant-loop-value : goal.invariant-loop-value
invariant-loop-value l = AllByRecursion FitsHappened (take l.value-index l.values) × (l.out.items ≡ l.fn.out.items ++ flat_map happened_text (take l.value-index l.values))
