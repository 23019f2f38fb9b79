use Rattle.std.proofs.Common.{arith, rules, leb, ap, ◌∙◌, sym, subst}
use Rattle.std.proofs.lemmas.List.Sorted.{IsPartitionPoint-from_clause, IsPartitionedBy-leb}
use Rattle.mv_syntax.specs.declared.ops.ValType.TheVariants.{I32}
use Rattle.mv_syntax.specs.declared.locals.LocalRun.{LocalRun}
use Rattle.mv_syntax.specs.LocalRuns.{spread, AreRising}
use Rattle.mv_syntax.proofs.LocalRuns.{ends_rise, none_at, type_at}
use Rattle.mv_syntax.proofs.locals.Locals.get.Goals as goal

pub returns-then-at-runs : goal.returns-then-at-runs
returns-then-at-runs c =
    let same = c.as_slice-runs.ensures.value in
    let up = subst (AreRising 0) (sym same) c.self.invariant in
    let parted = IsPartitionedBy-leb (λ (run : LocalRun). run.end) _ c.args.index (ends_rise 0 _ up) in
    let point = IsPartitionPoint-from_clause (λ (run : LocalRun). leb run.end c.args.index) _ _ c.partition_point-at.ensures.partitioned parted (λ a r q k. search rules) in
    type_at c.args.index c.as_slice-runs.result.now c.args.self.now c.partition_point-at.result _ up (ap (spread 0) same ∙ c.self.view_is) point (omega (arith, c.if-at-runs.true))

pub returns-else-at-runs : goal.returns-else-at-runs
returns-else-at-runs c =
    let same = c.as_slice-runs.ensures.value in
    let up = subst (AreRising 0) (sym same) c.self.invariant in
    let parted = IsPartitionedBy-leb (λ (run : LocalRun). run.end) _ c.args.index (ends_rise 0 _ up) in
    let point = IsPartitionPoint-from_clause (λ (run : LocalRun). leb run.end c.args.index) _ _ c.partition_point-at.ensures.partitioned parted (λ a r q k. search rules) in
    none_at c.args.index c.as_slice-runs.result.now c.args.self.now c.partition_point-at.result (record { end = 0; vtype = I32 }) up (ap (spread 0) same ∙ c.self.view_is) point (omega (arith, c.if-at-runs.false))
