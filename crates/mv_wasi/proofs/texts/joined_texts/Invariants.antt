use Rattle.std.proofs.Common.{◌≡◌, ◌++◌, drop}
use Rattle.mv_wasi.specs.Ranges.{text_bytes}
use Rattle.mv_wasi.proofs.texts.joined_texts.Given as goal

abbrev pub invariant-loop-text : goal.invariant-loop-text
invariant-loop-text l = l.bytes.items ++ text_bytes (drop l.text-index l.texts) ≡ text_bytes l.texts
