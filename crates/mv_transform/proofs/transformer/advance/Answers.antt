use Rattle.std.proofs.Common.{ap, sym, subst, arith}
use Rattle.mv_execution.specs.Config.{Config}
use Rattle.mv_execution.specs.Instance.{program_of}
use Rattle.mv_execution.specs.Run.{Stop, Import}
use Rattle.mv_start.specs.Instances.{ample}
use Rattle.mv_start.proofs.Gaps.{never-fuel}
use Rattle.mv_transform.specs.Shown.{WaitsForImport}
use Rattle.mv_transform.proofs.Waits.{run-waits}
use Rattle.mv_transform.proofs.transformer.advance.Goals as goal

pub unreachable-requires : goal.unreachable-requires
unreachable-requires c =
    never-fuel (program_of c.args.machine.now.parts) ample c.args.machine.now.config c.keeps.ensures.gap (omega arith) (ap (λ (r : Config × Stop). r.1) c.in-Fuel.ensures.stop)

pub answer-requires-clause-import : goal.answer-requires-clause-import
answer-requires-clause-import c =
    subst (λ p. WaitsForImport p c.run.new.self.config.waiting) (sym c.in-Import.ensures.same) (run-waits c.args.machine.now.parts ample c.args.machine.now.config c.run.new.self.config (Import c.in-Import.index) c.requires.waits c.in-Import.ensures.stop)
