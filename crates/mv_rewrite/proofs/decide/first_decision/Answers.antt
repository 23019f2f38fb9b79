use Rattle.std.proofs.Common.{List, sym, subst}
use Rattle.std.specs.List.{AllPass}
use Rattle.mv_rules.specs.declared.rule.Pattern.{Pattern}
use Rattle.mv_rules.specs.Shape.{errno_counts}
use Rattle.mv_rewrite.proofs.FrontRules.{shaped_at}
use Rattle.mv_rewrite.proofs.decide.first_decision.Goals as goal

pub make_right-requires : goal.make_right-requires
make_right-requires c =
    let shaped = shaped_at c.args.rules.now c.loop-rule.rule-index c.rule-item.result c.requires.shaped c.loop-rule-test.true c.rule-item.is in
    subst (λ (right : List Pattern). AllPass errno_counts right) (sym c.slice.ensures) shaped.errnos
