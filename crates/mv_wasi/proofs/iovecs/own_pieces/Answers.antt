use Rattle.std.proofs.Common.{arith}
use Rattle.mv_wasi.proofs.Bounds.{range-lies}
use Rattle.mv_wasi.proofs.Owning.{bytes-then, ranges-kept, ranges-more}
use Rattle.mv_wasi.proofs.iovecs.own_pieces.Goals as goal

pub own_range-requires : goal.own_range-requires
own_range-requires c =
    omega (arith, c.loop-place.invariant.same.size, range-lies c.args.memory.now.bytes c.args.pieces.now c.loop-place.place-index (0, 0) (omega arith) c.requires)

pub loop-place-preserved : goal.loop-place-preserved
loop-place-preserved c = record {
  same = bytes-then c.args.memory.now c.loop-place.memory c.own_range.new.memory c.loop-place.invariant.same c.own_range.ensures.same;
  owned = ranges-more c.own_range.new.memory c.args.pieces.now c.loop-place.place-index (0, 0) (omega arith)
      (ranges-kept c.loop-place.memory c.own_range.new.memory _ c.own_range.ensures.same c.loop-place.invariant.owned) c.in_ok-own_range.ensures.owned;
}
