use Rattle.std.proofs.Common.{◌≡◌, map, take}
use Rattle.mv_words.proofs.reading.copies_of.Given as goal

abbrev pub invariant-loop-word : goal.invariant-loop-word
invariant-loop-word l = l.copies.items ≡ map (λ w. w.now) (take l.word-index l.words)
