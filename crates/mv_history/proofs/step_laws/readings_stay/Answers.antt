use Rattle.mv_history.proofs.SpotLaws.{cleared_read, message_read, none_read, step_read}
use Rattle.mv_history.proofs.step_laws.readings_stay.Goals as goal

pub returns-clause-first : goal.returns-clause-first
returns-clause-first g c = none_read

pub returns-clause-step : goal.returns-clause-step
returns-clause-step g c spot next read step = step_read g.V.Version.behaviour spot next read step

pub returns-clause-message : goal.returns-clause-message
returns-clause-message g c spot m read = message_read spot m read

pub returns-clause-cleared : goal.returns-clause-cleared
returns-clause-cleared g c spot read = cleared_read spot read
