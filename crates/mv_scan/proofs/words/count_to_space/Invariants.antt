use Rattle.std.proofs.Common.{◌≡◌, ◌+◌, drop}
use Rattle.mv_scan.specs.Words.{word_len}
use Rattle.mv_scan.proofs.words.count_to_space.Given as goal

abbrev pub invariant-loop-index : goal.invariant-loop-index
invariant-loop-index l = word_len l.bytes ≡ l.index + word_len (drop l.index l.bytes)
