use Rattle.mv_rules.proofs.ShapeLaws.{spelled_shaped}
use Rattle.mv_rules.proofs.laws.spelled_rules_are_shaped.Goals as goal

pub returns : goal.returns
returns c = spelled_shaped
