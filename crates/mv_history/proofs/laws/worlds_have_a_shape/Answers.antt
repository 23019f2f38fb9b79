use Rattle.mv_history.proofs.ShapeLaws.{first_shaped, follower_runs, legal_shaped}
use Rattle.mv_history.proofs.laws.worlds_have_a_shape.Goals as goal

pub returns-clause-shaped : goal.returns-clause-shaped
returns-clause-shaped g c updates w es legal shaped = legal_shaped g.V.Version.behaviour updates w es legal shaped

pub returns-clause-first : goal.returns-clause-first
returns-clause-first g c first = first_shaped first

pub returns-clause-runs : goal.returns-clause-runs
returns-clause-runs g c w shaped alive = follower_runs w shaped alive
