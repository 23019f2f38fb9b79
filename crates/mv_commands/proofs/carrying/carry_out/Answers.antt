use Rattle.mv_commands.specs.Causes.{IsOnOneThread}
use Rattle.mv_commands.proofs.Comings.{did_by, files_by, legal_by}
use Rattle.mv_commands.proofs.Exactness.{exact_is}
use Rattle.mv_commands.proofs.carrying.carry_out.Goals as goal

pub returns-clause-done : goal.returns-clause-done
returns-clause-done g c = did_by IsOnOneThread _ _ _ _ _ c.shown.ensures.1

pub returns-clause-legal : goal.returns-clause-legal
returns-clause-legal g c = legal_by IsOnOneThread _ _ _ _ _ c.shown.ensures.1

pub returns-clause-files : goal.returns-clause-files
returns-clause-files g c = files_by IsOnOneThread _ _ _ _ _ c.shown.ensures.1

pub returns-clause-exact : goal.returns-clause-exact
returns-clause-exact g c = exact_is IsOnOneThread _ _ _ _ _ _ _ c.shown.ensures
