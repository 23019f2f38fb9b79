use Rattle.std.proofs.Common.{◌≡◌, ◌<◌, length, drop, ◌-◌, List, Some}
use Rattle.mv_syntax.specs.Tree.{Rest, rests_at, with_other}
use Rattle.std.specs.Option.{option_map}
use Rattle.mv_frames.proofs.walk.other_list.Given as goal

abbrev pub invariant-loop-inner : goal.invariant-loop-inner
invariant-loop-inner l = (rs : List Rest) × (rests_at l.code l.at ≡ Some rs) × (l.inner < length rs) × (option_map with_other (rests_at l.code l.start) ≡ Some (with_other (drop l.inner rs)))

abbrev pub decreases-loop-inner : goal.decreases-loop-inner
decreases-loop-inner l = length l.code - l.at
