-- Rules, one after another, at the front of a list.
use Rattle.std.proofs.Common.{◌≡◌, ℕ, zero, suc, ◌<◌, Bool, List, [], ◌∷◌, ◌++◌, append_assoc, length, get_or, drop, ap, ◌∙◌, sym, arith, subst}
use Rattle.std.specs.Prelude.{Some}
use Rattle.mv_calls.specs.declared.calls.Call.{Call}
use Rattle.mv_calls.specs.declared.calls.Reply.{Reply}
use Rattle.mv_rules.specs.declared.rule.Rule.{Rule}
use Rattle.mv_rules.specs.Shape.{IsShaped, AreShaped}
use Rattle.mv_rewrite.specs.declared.decide.Decision.{Decision}
use Rattle.mv_rewrite.specs.declared.decide.Decision.TheVariants.{Pass, Replace, Wait}
use Rattle.mv_rewrite.specs.Decisions.{IsWithin, decision_seen}
use Rattle.mv_rewrite.specs.Deciding.{groups}
use Rattle.mv_rewrite.proofs.DecidingLaws.{groups_step}
use Rattle.mv_rewrite.proofs.RewritingLaws.{decide_takes}
use Rattle.mv_rewrite.specs.Rewriting.{decide}

pub shaped_at : (rules : List Rule) (i : ℕ) (rule : Rule) → AreShaped rules → i < length rules → rule ≡ get_or rules i rule → IsShaped rule
shaped_at [] i rule shaped lt here = absurd (omega arith)
shaped_at (first ∷ rules) zero rule shaped lt here = subst (λ (r : Rule). IsShaped r) (sym here) shaped.0
shaped_at (first ∷ rules) (suc i) rule shaped lt here = shaped_at rules i rule shaped.1 (omega arith) here

-- what is seen of a decision says how many items it takes
pub decided_within : (more : Bool) (rules : List Rule) (items : List (Call × Reply)) (d : Decision)
    → AreShaped rules → decision_seen d items ≡ decide more rules items → IsWithin d (length items)
decided_within more rules items Pass shaped seen = tt
decided_within more rules items (Replace made count) shaped seen = decide_takes more rules shaped items (made, count) (sym seen)
decided_within more rules items Wait shaped seen = tt

-- one more group, where a list is rewritten as a whole
pub whole_step : (more : Bool) (rules : List Rule) (given : List (List (Call × Reply))) (rest : List (Call × Reply)) (made : List (Call × Reply)) (count : ℕ)
    (all : List (List (Call × Reply)))
    → AreShaped rules → given ++ groups (decide more rules) rest ≡ all → decide more rules rest ≡ Some (made, count)
    → (given ++ made ∷ []) ++ groups (decide more rules) (drop count rest) ≡ all
whole_step more rules given rest made count all shaped h next =
    append_assoc given (made ∷ []) (groups (decide more rules) (drop count rest))
    ∙ ap (λ (k : List (List (Call × Reply))). given ++ k) (sym (groups_step (decide more rules) rest (made, count) (decide_takes more rules shaped) next))
    ∙ h
