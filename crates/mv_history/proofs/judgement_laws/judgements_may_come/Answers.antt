use Rattle.mv_history.proofs.MarkLaws.{failed_may, is_ready, ready_leads, ready_may}
use Rattle.mv_history.proofs.judgement_laws.judgements_may_come.Goals as goal

pub returns-clause-failed : goal.returns-clause-failed
returns-clause-failed g c w why shaped shows = failed_may g.V.Version.behaviour w why shaped shows

pub returns-clause-ready : goal.returns-clause-ready
returns-clause-ready g c w m shaped ready asked = ready_may g.V.Version.behaviour w m shaped ready asked

pub returns-clause-known : goal.returns-clause-known
returns-clause-known g c w f s ready = is_ready g.V.Version.behaviour w f s ready

pub returns-clause-leads : goal.returns-clause-leads
returns-clause-leads g c updates w f s m ready asked = ready_leads g.V.Version.behaviour updates w f s m ready asked
