-- The words of a line are those that spell it.
use Rattle.std.proofs.Common.{◌≡◌, ◌↔◌, ℕ, List, length, sym, subst, arith, Vec, Global, IfOk, Result, Ok, Err}
use Rattle.mv_scan.specs.declared.token.Token.{Token}
use Rattle.mv_scan.specs.Words.{words_of, words_within}
use Rattle.mv_scan.specs.WordGrammar.{SpellsLine, SpellsWords}
use Rattle.mv_scan.proofs.WordGiven.{words_given, line_given}
use Rattle.mv_scan.proofs.WordFound.{words_found, line_found}

-- the law of the words
pub words_spelled : (line : List ℕ) (words : List Token) → SpellsLine words line ↔ (words_of line ≡ words)
words_spelled line words = (λ s. line_given words line s, λ e. subst (λ (k : List Token). SpellsLine k line) e (line_found line))

-- the words of bytes among which no comment is looked for
pub all_spelled : (line : List ℕ) (words : List Token) → SpellsWords words line ↔ (words_within (length line) line ≡ words)
all_spelled line words = (
  λ s. words_given words (length line) line (omega arith) s,
  λ e. subst (λ (k : List Token). SpellsWords k line) e (words_found (length line) line (omega arith)),
)

-- ## Of what a call finds

pub if_all_spelled : {E : Type 0} (line : List ℕ) (r : Result (Vec Token Global) E) → IfOk r (λ found. found.items ≡ words_within (length line) line)
    → IfOk r (λ found. (words : List Token) → SpellsWords words line ↔ (found.items ≡ words))
if_all_spelled line (Ok v) h = subst (λ (k : List Token). (words : List Token) → SpellsWords words line ↔ (k ≡ words)) (sym h) (all_spelled line)
if_all_spelled line (Err e) h = h

pub if_spelled : {E : Type 0} (line : List ℕ) (r : Result (Vec Token Global) E) → IfOk r (λ found. found.items ≡ words_of line)
    → IfOk r (λ found. (words : List Token) → SpellsLine words line ↔ (found.items ≡ words))
if_spelled line (Ok v) h = subst (λ (k : List Token). (words : List Token) → SpellsLine words line ↔ (k ≡ words)) (sym h) (words_spelled line)
if_spelled line (Err e) h = h
