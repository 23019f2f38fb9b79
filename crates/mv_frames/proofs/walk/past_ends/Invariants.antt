use Rattle.std.proofs.Common.{◌≡◌, ◌≤◌, length, drop, ◌-◌, List, Some}
use Rattle.mv_syntax.specs.Tree.{Rest, rests_at}
use Rattle.std.specs.Option.{option_map}
use Rattle.mv_frames.proofs.walk.past_ends.Given as goal

abbrev pub invariant-loop-depth : goal.invariant-loop-depth
invariant-loop-depth l = (rs : List Rest) × (rests_at l.code l.at ≡ Some rs) × (l.depth ≤ length rs) × (option_map (drop l.count) (rests_at l.code l.start) ≡ Some (drop l.depth rs))

abbrev pub decreases-loop-depth : goal.decreases-loop-depth
decreases-loop-depth l = length l.code - l.at
