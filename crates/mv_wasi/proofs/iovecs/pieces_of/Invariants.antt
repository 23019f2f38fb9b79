use Rattle.std.proofs.Common.{◌≡◌, ◌++◌, length}
use Rattle.mv_wasi.specs.Ranges.{pieces as pieces_in}
use Rattle.mv_wasi.proofs.Pieces.{rest_of}
use Rattle.mv_wasi.proofs.iovecs.pieces_of.Given as goal

abbrev pub invariant-loop-index : goal.invariant-loop-index
invariant-loop-index l = record {
  few : length l.pieces.items ≡ l.index;
  whole : l.pieces.items ++ rest_of l.memory.bytes l.iovs l.count l.index ≡ pieces_in l.memory.bytes l.iovs l.count;
}
