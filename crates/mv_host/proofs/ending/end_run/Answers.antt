use Rattle.mv_host.proofs.Outcomes.{served}
use Rattle.mv_host.proofs.ending.end_run.Goals as goal

pub returns : goal.returns
returns g c = record {
  served = served g.V.Version.behaviour g.N.Run.began g.K.Kernel.done g.K.Kernel.faults g.C.Console.coming g.C.Console.said g.C.Console.faults g.F.Files.content g.F.Files.faults c.args.core c.args.how c.status_by.result
      c.close-kernel.result.0 c.close-kernel.result.1 c.close-kernel.result.2 c.close-kernel.result.3 c.close-kernel.ensures.parts.0 c.close-kernel.ensures.parts.1 c.close-kernel.ensures.parts.2 c.close-kernel.ensures.parts.3
      c.close-kernel.ensures.kept c.requires.ended c.requires.uncut c.requires.line c.requires.asks c.status_by.ensures.status;
}
