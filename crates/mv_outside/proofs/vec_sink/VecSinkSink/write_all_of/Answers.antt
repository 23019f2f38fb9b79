-- Where it fails, half of the piece was added, or nothing.
use Rattle.std.proofs.Common.{ap}
use Rattle.mv_outside.specs.VecSink.{SinkState}
use Rattle.mv_outside.proofs.SinkLaws.{adds_half}
use Rattle.mv_outside.proofs.vec_sink.VecSinkSink.write_all_of.Goals as goal

pub returns-then-contains-clause-part : goal.returns-then-contains-clause-part
returns-then-contains-clause-part c =
    λ _. adds_half c.args.self.now.written c.self.inside.written.items c.add_half.new.written.items c.args.bytes.now (ap (λ (s : SinkState). s.written) c.self.view_is) c.add_half.ensures
