use Rattle.mv_commands.specs.Causes.{IsAny}
use Rattle.mv_commands.proofs.Comings.{did_by, files_by, legal_by}
use Rattle.mv_commands.proofs.Exactness.{exact_is}
use Rattle.mv_commands.proofs.carrying.program.Goals as goal

pub returns-clause-done : goal.returns-clause-done
returns-clause-done g c = did_by IsAny _ _ _ _ _ c.served.ensures.1

pub returns-clause-legal : goal.returns-clause-legal
returns-clause-legal g c = legal_by IsAny _ _ _ _ _ c.served.ensures.1

pub returns-clause-files : goal.returns-clause-files
returns-clause-files g c = files_by IsAny _ _ _ _ _ c.served.ensures.1

pub returns-clause-exact : goal.returns-clause-exact
returns-clause-exact g c = exact_is IsAny _ _ _ _ _ _ _ c.served.ensures
