-- The events so far are below the count.
use Rattle.std.proofs.Common.{length, ◌-◌, ◌≡◌, ◌≤◌, true}
use Rattle.std.specs.Prelude.{take}
use Rattle.mv_calls.specs.Suits.{are_below}
use Rattle.mv_calls.proofs.calls.below.Given as goal

abbrev pub invariant-loop-next : goal.invariant-loop-next
invariant-loop-next l = (l.next ≤ length l.happenings) × (are_below l.count (take l.next l.happenings) ≡ true)

abbrev pub decreases-loop-next : goal.decreases-loop-next
decreases-loop-next l = length l.happenings - l.next
