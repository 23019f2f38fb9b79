use Rattle.std.proofs.Common.{◌≡◌, ◌++◌, take}
use Rattle.std.specs.List.{flat_map, AllByRecursion}
use Rattle.mv_record.specs.Spelling.{entry_text}
use Rattle.mv_record.specs.Fitting.{FitsEntry}
use Rattle.mv_record.proofs.writing.put_entries.Given as goal

abbrev pub invariant-loop-entry : goal.invariant-loop-entry
invariant-loop-entry l = AllByRecursion FitsEntry (take l.entry-index l.entries) × (l.out.items ≡ l.fn.out.items ++ flat_map entry_text (take l.entry-index l.entries))
