-- The answer is that for the events from the last one looked at on.
use Rattle.std.proofs.Common.{length, ◌-◌, ◌≡◌, ◌≤◌}
use Rattle.std.specs.Prelude.{drop}
use Rattle.mv_calls.specs.Suits.{are_rising}
use Rattle.mv_calls.proofs.calls.rising.Given as goal

abbrev pub invariant-loop-next : goal.invariant-loop-next
invariant-loop-next l = (1 ≤ l.next) × (are_rising (drop (l.next - 1) l.happenings) ≡ are_rising l.happenings)

abbrev pub decreases-loop-next : goal.decreases-loop-next
decreases-loop-next l = length l.happenings - l.next
