use Rattle.std.proofs.Common.{◌≡◌, map, drop}
use Rattle.mv_words.specs.Hyphens.{has_short}
use Rattle.mv_words.proofs.shapes.has_short_word.Given as goal

abbrev pub invariant-loop-word : goal.invariant-loop-word
invariant-loop-word l = has_short (map (λ w. w.now) (drop l.word-index l.words)) ≡ has_short (map (λ w. w.now) l.words)
