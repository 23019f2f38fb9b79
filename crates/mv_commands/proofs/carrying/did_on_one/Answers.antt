use Rattle.std.proofs.Common.{refl, rules}
use Rattle.mv_commands.proofs.Comings.{refused_service}
use Rattle.mv_commands.proofs.carrying.did_on_one.Goals as goal

pub returns-then-is_service : goal.returns-then-is_service
returns-then-is_service g c = λ words says. refused_service words c.args.command _ _ _ _ (c.if-is_service.ensures.yes refl) says c.not_run.ensures.ending (search rules)
