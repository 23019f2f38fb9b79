-- The copies are those of the first texts.
use Rattle.std.proofs.Common.{◌≡◌, ◌-◌, ◌≤◌, length}
use Rattle.std.specs.Prelude.{take}
use Rattle.mv_calls.proofs.texts.Texts.from_slice.Given as goal

abbrev pub invariant-loop-alloc : goal.invariant-loop-alloc
invariant-loop-alloc l = (l.copies.len ≤ length l.items) × (l.copies.items ≡ take l.copies.len l.items)

abbrev pub decreases-loop-alloc : goal.decreases-loop-alloc
decreases-loop-alloc l = length l.items - l.copies.len
