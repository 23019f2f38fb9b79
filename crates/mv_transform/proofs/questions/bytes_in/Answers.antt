use Rattle.std.proofs.Common.{[], arith}
use Rattle.mv_wasi.proofs.Pieces.{byte_more}
use Rattle.mv_transform.proofs.questions.bytes_in.Goals as goal

pub loop-index-preserved : goal.loop-index-preserved
loop-index-preserved c =
    byte_more [] c.push.new.self.items c.loop-index.bytes.items c.args.memory.now.bytes c.args.place c.loop-index.index c.byte_at.result (omega arith) c.in_ok-push.ensures.items c.loop-index.invariant c.byte_at.ensures
