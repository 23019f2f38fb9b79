use Rattle.mv_syntax.proofs.ExpressionLaws.{bodies_law}
use Rattle.mv_syntax.proofs.laws.bodies_are_standard.Goals as goal

pub returns : goal.returns
returns c = bodies_law
