use Rattle.mv_commands.proofs.Comings.{same_cause}
use Rattle.mv_commands.proofs.running.did_any.Goals as goal

pub returns-in-Serve : goal.returns-in-Serve
returns-in-Serve g c = same_cause _ _ _ _ _ _ c.in-Serve.is c.serve_asked.ensures
