use Rattle.std.proofs.Common.{◌∙◌, refl, ap, rules, subst}
use Rattle.mv_words.specs.declared.command.Command.TheVariants as ask
use Rattle.mv_commands.specs.Causes.{IsFeasible}
use Rattle.mv_commands.specs.Named.{SaysOfModule, SaysOfRules}
use Rattle.mv_commands.proofs.Comings.{audit_comes, judged_comes, same_cause, show_comes}
use Rattle.mv_commands.proofs.running.did.Goals as goal

pub returns-in-Check : goal.returns-in-Check
returns-in-Check g c =
    judged_comes SaysOfModule _ (ask.Check c.in-Check.path) c.in-Check.path _ _ _ _ _ _ c.in-Check.is refl (λ text finding says. says) (c.not_run.ensures.ending ∙ c.ending_of.ensures) (ap g.F.Files.faults c.not_run.ensures.same.2) c.module_at-judged.ensures.judged (search rules)

pub returns-in-Rules : goal.returns-in-Rules
returns-in-Rules g c =
    judged_comes SaysOfRules _ (ask.Rules c.in-Rules.forward) c.in-Rules.forward _ _ _ _ _ _ c.in-Rules.is refl (λ text finding says. says) (c.not_run-in-Rules.ensures.ending ∙ c.ending_of-in-Rules.ensures) (ap g.F.Files.faults c.not_run-in-Rules.ensures.same.2) c.rules_at-judged.ensures.judged (search rules)

pub returns-in-Audit : goal.returns-in-Audit
returns-in-Audit g c =
    audit_comes _ c.in-Audit.log c.in-Audit.old c.in-Audit.updates _ _ _ _ _ _ c.in-Audit.is (c.not_run-in-Audit.ensures.ending ∙ c.audit_ending.ensures) (ap g.F.Files.faults c.not_run-in-Audit.ensures.same.2) c.audit_at-inspected.ensures.inspected (search rules)

pub returns-in-Show : goal.returns-in-Show
returns-in-Show g c =
    show_comes _ c.in-Show.log _ _ _ _ _ _ c.in-Show.is (c.not_run-in-Show.ensures.ending ∙ c.show_ending.ensures) (ap g.F.Files.faults c.not_run-in-Show.ensures.same.2) c.log_at-listed.ensures.listed (search rules)

pub returns-in-Run : goal.returns-in-Run
returns-in-Run g c = same_cause _ _ _ _ _ _ c.in-Run.is c.run_asked.ensures

pub returns-in-Rehearse : goal.returns-in-Rehearse
returns-in-Rehearse g c = same_cause _ _ _ _ _ _ c.in-Rehearse.is c.rehearse_asked.ensures

pub returns-in-Load : goal.returns-in-Load
returns-in-Load g c = same_cause _ _ _ _ _ _ c.in-Load.is c.load_asked.ensures

pub load_asked-requires : goal.load_asked-requires
load_asked-requires g c = subst IsFeasible c.in-Load.is c.requires.feasible
