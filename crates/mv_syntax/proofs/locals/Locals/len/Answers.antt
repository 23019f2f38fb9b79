use Rattle.std.proofs.Common.{arith, ap, ◌∙◌, sym, subst}
use Rattle.mv_syntax.specs.LocalRuns.{spread, AreRising}
use Rattle.mv_syntax.proofs.LocalRuns.{length_is, nothing_is}
use Rattle.mv_syntax.proofs.locals.Locals.len.Goals as goal

pub returns-then-kept-gt0 : goal.returns-then-kept-gt0
returns-then-kept-gt0 c =
    let same = c.as_slice-runs.ensures.value in
    length_is c.as_slice-runs.result.now c.args.self.now _ _ (subst (AreRising 0) (sym same) c.self.invariant) (ap (spread 0) same ∙ c.self.view_is) (omega (arith, c.if-kept-gt0.true))

pub returns-else-kept-gt0 : goal.returns-else-kept-gt0
returns-else-kept-gt0 c =
    let same = c.as_slice-runs.ensures.value in
    sym (nothing_is c.as_slice-runs.result.now c.args.self.now (ap (spread 0) same ∙ c.self.view_is) (omega (arith, c.if-kept-gt0.false)))
