use Rattle.std.proofs.Common.{◌≡◌, ◌++◌, ◌+◌, length}
use Rattle.std.specs.Prelude.{slice_range}
use Rattle.mv_wasi.proofs.events.push_range.Given as goal

abbrev pub invariant-loop-index : goal.invariant-loop-index
invariant-loop-index l = record {
  room : length l.bytes.items ≡ length l.initial.bytes.items + l.index;
  whole : l.bytes.items ≡ l.initial.bytes.items ++ slice_range l.memory.bytes l.place (l.place + l.index);
}
