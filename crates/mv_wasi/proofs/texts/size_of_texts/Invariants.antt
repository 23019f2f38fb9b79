use Rattle.std.proofs.Common.{◌≡◌, ◌≤◌, ◌+◌, ◌*◌, ◌^◌, drop}
use Rattle.mv_wasi.specs.Ranges.{text_size}
use Rattle.mv_wasi.proofs.texts.size_of_texts.Given as goal

abbrev pub invariant-loop-text : goal.invariant-loop-text
invariant-loop-text l = record {
  whole : l.size + text_size (drop l.text-index l.texts) ≡ text_size l.texts;
  fits : l.size ≤ l.text-index * 2 ^ 64;
}
