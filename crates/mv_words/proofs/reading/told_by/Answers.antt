use Rattle.std.proofs.Common.{refl, inl, inr}
use Rattle.mv_words.proofs.Asking.{one_text, two_texts}
use Rattle.mv_words.proofs.reading.told_by.Goals as goal

pub returns-then-eq-clause-some : goal.returns-then-eq-clause-some
returns-then-eq-clause-some c = inl (one_text (λ w. w.now) _ _ _ c.if-words-eq1.true c.if-eq.ensures)

pub returns-then-eq-2-clause-some : goal.returns-then-eq-2-clause-some
returns-then-eq-2-clause-some c = one_text (λ w. w.now) _ _ _ c.if-words-eq1.true c.if-eq-2.ensures

pub returns-then-is_command_word-clause-some : goal.returns-then-is_command_word-clause-some
returns-then-is_command_word-clause-some c = inr (_, c.if-is_command_word.ensures.yes refl, two_texts (λ w. w.now) _ _ _ c.if-words-eq2.true c.if-eq-3.ensures)
