-- No file so far stands at the path.
use Rattle.std.proofs.Common.{length, ◌-◌, ◌+◌, ◌≡◌, ◌≤◌}
use Rattle.std.specs.Prelude.{drop}
use Rattle.std.specs.List.{position_or_len}
use Rattle.mv_outside.specs.MemFiles.{is_at}
use Rattle.mv_outside.proofs.mem_files.place_of.Given as goal

abbrev pub invariant-loop-next : goal.invariant-loop-next
invariant-loop-next l =
    (l.next ≤ length l.files)
    × (l.next + position_or_len (is_at l.path) (drop l.next l.files) ≡ position_or_len (is_at l.path) l.files)

abbrev pub decreases-loop-next : goal.decreases-loop-next
decreases-loop-next l = length l.files - l.next
