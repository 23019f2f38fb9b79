use Rattle.std.proofs.Common.{rules, ◌≡◌, map, subst, arith, ap, ◌∙◌, List, ℕ}
use Rattle.std.specs.Prelude.{IsUtf8}
use Rattle.mv_orders.specs.Answers.{AllowsAnswer}
use Rattle.mv_orders.specs.Order.{Reads, ReadsWords}
use Rattle.mv_orders.proofs.PathTexts.{answered_paths}
use Rattle.mv_orders.proofs.Words.{cut, line_reads, answers_ok, answers_fault}
use Rattle.mv_orders.proofs.order.read_order.Goals as goal

pub returns-clause-order : goal.returns-clause-order
returns-clause-order c =
    let line = c.args.line.now in
    let words : map (λ w. w.now) c.as_slice.result.now ≡ cut line = ap (map (λ w. w.now)) c.as_slice.ensures.value ∙ c.in_ok-words.ensures in
    let text : IsUtf8 line = search rules in
    answers_ok (Reads line) c.order_from_words.result
    (line_reads line c.order_from_words.result (omega arith) text (subst (λ (ws : List (List ℕ)). AllowsAnswer (ReadsWords ws) c.order_from_words.result) words c.order_from_words.ensures))

pub returns-clause-refused : goal.returns-clause-refused
returns-clause-refused c =
    let line = c.args.line.now in
    let words : map (λ w. w.now) c.as_slice.result.now ≡ cut line = ap (map (λ w. w.now)) c.as_slice.ensures.value ∙ c.in_ok-words.ensures in
    let text : IsUtf8 line = search rules in
    answers_fault (Reads line) c.order_from_words.result
    (line_reads line c.order_from_words.result (omega arith) text (subst (λ (ws : List (List ℕ)). AllowsAnswer (ReadsWords ws) c.order_from_words.result) words c.order_from_words.ensures))

pub returns-clause-paths : goal.returns-clause-paths
returns-clause-paths c = answered_paths c.args.line.now c.order_from_words.result (returns-clause-order c)
