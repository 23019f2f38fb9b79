use Rattle.std.proofs.Common.{◌≡◌, ◌∙◌, sym, ap, Some, None}
use Rattle.std.proofs.Common.{arith}
use Rattle.std.proofs.lemmas.Grind.{common_steps}
use Rattle.std.specs.Option.{option_map}
use Rattle.mv_scan.specs.Words.{drop_spaces, first_word}
use Rattle.mv_scan.proofs.WordSteps.{words_step, words_stop}
use Rattle.mv_scan.proofs.words.find_words.Goals as goal

pub returns-in-None : goal.returns-in-None
returns-in-None c =
    let none : first_word (drop_spaces c.loop.rest.now) ≡ None = sym c.in_ok-word.ensures ∙ ap (λ w. option_map (λ t. (t.0, t.1.now)) w) c.in-None.is in
    words_stop _ c.loop.rest.now c.loop.words.items _ none c.loop.invariant

pub loop-preserved : goal.loop-preserved
loop-preserved c =
    let found : first_word (drop_spaces c.loop.rest.now) ≡ Some (c.in-Some.word, c.in-Some.after.now) = grind (arith, common_steps) in
    rw c.in_ok-push-in-Some.ensures.items
    (words_step _ c.loop.counter c.loop.rest.now (c.in-Some.word, c.in-Some.after.now) c.loop.words.items _ c.loop-test.true found c.loop.invariant)
