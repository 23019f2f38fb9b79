-- The answer is that for the files that are left.
use Rattle.std.proofs.Common.{length, ◌-◌, ◌≡◌, ◌≤◌}
use Rattle.std.specs.Prelude.{drop}
use Rattle.mv_outside.specs.MemFiles.{do_paths_differ}
use Rattle.mv_outside.proofs.mem_files.paths_differ.Given as goal

abbrev pub invariant-loop-next : goal.invariant-loop-next
invariant-loop-next l =
    (l.next ≤ length l.files) × (do_paths_differ (drop l.next l.files) ≡ do_paths_differ l.files)

abbrev pub decreases-loop-next : goal.decreases-loop-next
decreases-loop-next l = length l.files - l.next
