use Rattle.std.proofs.Common.{◌≡◌, ◌++◌, ◌-◌, length}
use Rattle.mv_scan.specs.Words.{words_within}
use Rattle.mv_scan.proofs.words.find_words.Given as goal

-- the words so far, and those of the rest
abbrev pub invariant-loop : goal.invariant-loop
invariant-loop l = l.words.items ++ words_within (length l.line - l.counter) l.rest ≡ words_within (length l.line) l.line
