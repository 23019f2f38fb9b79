use Rattle.std.proofs.Common.{take}
use Rattle.mv_memory.specs.Memory.{HasBytes}
use Rattle.mv_wasi.specs.Readies.{HasRanges}
use Rattle.mv_wasi.proofs.iovecs.own_pieces.Given as goal

abbrev pub invariant-loop-place : goal.invariant-loop-place
invariant-loop-place l = record {
  same : HasBytes l.initial.memory l.memory l.initial.memory.bytes;
  owned : HasRanges l.memory (take l.place-index l.pieces);
}
