use Rattle.mv_history.proofs.Whole.{cause_from, ready_from}
use Rattle.mv_history.proofs.laws.verdicts_stay.Goals as goal

pub returns-clause-cause : goal.returns-clause-cause
returns-clause-cause g c updates base before es prefix rest place why is_base legal same is alive follower shows =
    cause_from g.V.Version.behaviour updates base before es prefix rest place why is_base legal same is alive follower shows

pub returns-clause-ready : goal.returns-clause-ready
returns-clause-ready g c updates base before es prefix rest place n s is_base legal same is handed alive asked reaches =
    ready_from g.V.Version.behaviour updates base before es prefix rest place n s is_base legal same is handed alive asked reaches
