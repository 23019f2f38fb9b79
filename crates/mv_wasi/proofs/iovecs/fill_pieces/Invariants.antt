use Rattle.std.proofs.Common.{◌≡◌, ◌≤◌, drop, length}
use Rattle.mv_wasi.specs.Ranges.{scattered}
use Rattle.mv_wasi.specs.Readies.{HasRanges}
use Rattle.mv_wasi.proofs.iovecs.fill_pieces.Given as goal

abbrev pub invariant-loop-place : goal.invariant-loop-place
invariant-loop-place l = record {
  part : l.done ≤ length l.bytes;
  ready : HasRanges l.memory (drop l.place-index l.pieces);
  same : l.memory ≡ record l.initial.memory { bytes = l.memory.bytes };
  whole : scattered (drop l.place-index l.pieces) (drop l.done l.bytes) l.memory.bytes ≡ scattered l.pieces l.bytes l.initial.memory.bytes;
}
