use Rattle.mv_history.proofs.BaseLaws.{base_ties, ties_on}
use Rattle.mv_history.proofs.base_laws.messages_make_the_follower.Goals as goal

pub returns-clause-follower : goal.returns-clause-follower
returns-clause-follower g c updates base before es is_base legal alive = (ties_on g.V.Version.behaviour updates base before es legal (base_ties base before is_base)).known alive

pub returns-clause-ties : goal.returns-clause-ties
returns-clause-ties g c updates w before es legal ties = ties_on g.V.Version.behaviour updates w before es legal ties

pub returns-clause-base : goal.returns-clause-base
returns-clause-base g c base before is_base = base_ties base before is_base
