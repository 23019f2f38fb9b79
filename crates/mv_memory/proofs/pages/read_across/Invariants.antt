use Rattle.std.proofs.Common.{◌≡◌, ◌<◌, ◌+◌, ◌-◌, ◌++◌, ℕ, slice_index, slice_range, replicate}
use Rattle.mv_memory.specs.Pages.{bytes_of}
use Rattle.mv_memory.proofs.pages.read_across.Given as goal

abbrev pub invariant-loop-i : goal.invariant-loop-i
invariant-loop-i l = record {
  buffer : l.bytes ≡ slice_range (bytes_of l.pages.items) l.at (l.at + l.i) ++ replicate (8 - l.i) 0;
  small : (k : ℕ) → slice_index l.bytes k < 256;
}
