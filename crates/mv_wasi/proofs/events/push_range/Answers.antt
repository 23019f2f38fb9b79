use Rattle.std.proofs.Common.{arith}
use Rattle.mv_wasi.proofs.Pieces.{byte_more}
use Rattle.mv_wasi.proofs.events.push_range.Goals as goal

pub loop-index-preserved : goal.loop-index-preserved
loop-index-preserved c = record {
  room = omega (arith, c.push.ensures.len, c.loop-index.invariant.room);
  whole = byte_more c.args.bytes.now.items c.push.new.self.items c.loop-index.bytes.items c.args.memory.now.bytes c.args.place c.loop-index.index c.number_at.result (omega arith) c.push.ensures.items c.loop-index.invariant.whole c.number_at.ensures.value;
}
