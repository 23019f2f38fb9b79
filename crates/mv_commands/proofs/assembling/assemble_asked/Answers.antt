use Rattle.std.proofs.Common.{refl, ap, rules}
use Rattle.mv_words.specs.declared.command.Command.TheVariants as ask
use Rattle.mv_commands.proofs.Comings.{first_missing, first_refused}
use Rattle.mv_commands.proofs.assembling.assemble_asked.Goals as goal

pub returns-in-NoFile : goal.returns-in-NoFile
returns-in-NoFile g c =
    first_missing (ask.Assemble c.args.text c.args.to) c.args.text _ _ _ _ _ refl c.not_run.ensures.ending (ap g.F.Files.faults c.not_run.ensures.same.2) c.in-NoFile.ensures.made (search rules)

pub returns-in-Refused : goal.returns-in-Refused
returns-in-Refused g c = first_refused (ask.Assemble c.args.text c.args.to) c.args.text _ _ _ _ _ refl c.not_run-in-Refused.ensures.ending c.in-Refused.ensures.made (search rules)
