use Rattle.std.proofs.Common.{◌≡◌, ◌∙◌, refl, rules, subst, sym, true, false}
use Rattle.mv_history.specs.Ends.{EndsBy}
use Rattle.mv_history.specs.declared.log.How.{How}
use Rattle.mv_load.specs.Figures.{figures_of}
use Rattle.mv_commands.proofs.Comings.{load_audits}
use Rattle.mv_commands.proofs.loads.load_asked.Goals as goal

pub unreachable-requires : goal.unreachable-requires
unreachable-requires g c =
    let legal = load_audits c.args.connections c.in-Ok.log c.in-Ok.ensures.load in
    let bad : false ≡ true = sym c.in-Ok-false.field-0-test ∙ c.in-Ok-false.ensures.1 legal in
    cc

pub returns : goal.returns
returns g c =
    let load = c.in-Ok.ensures.load in
    let how_is = c.how_of-how.ensures load.run.how load.run.ends in
    let figures_are : c.figures_of-figures.result ≡ figures_of c.in-Ok.log.entries.list = search rules in
    ((load, subst (λ (h : How). EndsBy c.in-Ok.log.entries.list h) (sym how_is) load.run.ends, figures_are), refl)
