use Rattle.std.proofs.Common.{arith}
use Rattle.mv_wasi.proofs.Fillings.{collected-more, collected-all}
use Rattle.mv_wasi.proofs.iovecs.pieces_of.Goals as goal

pub loop-index-preserved : goal.loop-index-preserved
loop-index-preserved c = record {
  few = omega (arith, c.push.ensures.len, c.loop-index.invariant.few);
  whole = collected-more c.args.memory.now.bytes c.args.iovs c.args.count c.loop-index.index c.loop-index.pieces.items c.push.new.self.items _ c.piece_at.result (omega arith) c.push.ensures.items c.piece_at.ensures c.loop-index.invariant.whole;
}

pub returns : goal.returns
returns c = collected-all c.args.memory.now.bytes c.args.iovs c.args.count c.loop-index.index c.loop-index.pieces.items _ (omega arith) c.loop-index.invariant.whole
