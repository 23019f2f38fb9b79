use Rattle.mv_history.proofs.SpotLaws.{step_one, step_ready, step_shown, step_waits}
use Rattle.mv_history.proofs.step_laws.steps_are_shown.Goals as goal

pub returns-clause-gives_up : goal.returns-clause-gives_up
returns-clause-gives_up g c spot p why read at step = step_shown g.V.Version.behaviour g.met.V.Version.points_end spot p why read at step

pub returns-clause-ready : goal.returns-clause-ready
returns-clause-ready g c spot p s n read at step = step_ready g.V.Version.behaviour spot p s n read at step

pub returns-clause-waits : goal.returns-clause-waits
returns-clause-waits g c spot next may step = step_waits g.V.Version.behaviour spot next may step

pub returns-clause-one : goal.returns-clause-one
returns-clause-one g c spot x y first second = step_one g.V.Version.behaviour spot x y first second
