use Rattle.mv_history.proofs.Hearing.{heard_is}
use Rattle.mv_history.proofs.log_laws.followers_hear.Goals as goal

pub returns : goal.returns
returns g c = record { heard = heard_is g.V.Version.behaviour }
