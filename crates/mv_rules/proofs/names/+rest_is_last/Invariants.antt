use Rattle.std.proofs.Common.{length}
use Rattle.mv_rules.proofs.names.+rest_is_last.Given as goal

abbrev pub decreases-rest_is_last : goal.decreases-rest_is_last
decreases-rest_is_last l = length l.parts.now
