use Rattle.mv_history.proofs.StretchLaws.{stretch_leads}
use Rattle.mv_history.proofs.laws.leads_by_itself.Goals as goal

pub returns : goal.returns
returns g c = record { lead = λ updates w es keeps. stretch_leads g.V.Version.behaviour updates w es keeps }
