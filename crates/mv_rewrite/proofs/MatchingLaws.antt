-- A rule of the shape that a file may have is steady.
use Rattle.std.specs.Prelude.{◌≡◌, ℕ, suc, ◌<◌, ◌≤◌, true, false, List, [], ◌∷◌, ◌++◌, length, Option, Some, None, map, refl}
use Rattle.std.proofs.Common.{ap, arith}
use Rattle.std.proofs.lemmas.List.{length-map}
use Rattle.mv_calls.specs.declared.calls.Call.{Call}
use Rattle.mv_calls.specs.declared.calls.Reply.{Reply}
use Rattle.mv_rules.specs.declared.rule.Pattern.{Pattern}
use Rattle.mv_rules.specs.declared.rule.Guard.{Guard}
use Rattle.mv_rules.specs.declared.rule.Rule.{Rule}
use Rattle.mv_rules.specs.Shape.{IsShaped, AreShaped}
use Rattle.mv_rewrite.proofs.DecidingLaws.{IsSteady, AreSteady, RulesBounded}
use Rattle.mv_rewrite.specs.Bound.{Bound, unbound}
use Rattle.mv_rewrite.specs.declared.fit.Fit.{Fit}
use Rattle.mv_rewrite.specs.declared.fit.Fit.TheVariants.{Whole, Short, Not}
use Rattle.mv_rewrite.specs.Matching.{bind_guarded, fit_after, fit_of, rule_fit, made_of, made_by, is_short, front_of, could_match}

-- what is whole stays whole, and what doesn't match goes on not to
abbrev pub Settled : Fit → Fit → Type 0
Settled (Whole b) later = later ≡ Whole b
Settled Short later = Unit {0}
Settled Not later = later ≡ Not

settled_after : (o : Option Bound) (f g : Bound → Fit) → ((b : Bound) → Settled (f b) (g b)) → Settled (fit_after o f) (fit_after o g)
settled_after None f g h = refl
settled_after (Some b) f g h = h b

pub fit_settled : (guards : List Guard) (left : List Pattern) (items more : List (Call × Reply)) (b : Bound) → Settled (fit_of guards left items b) (fit_of guards left (items ++ more) b)
fit_settled guards [] items more b = refl
fit_settled guards (pattern ∷ left) [] more b = tt
fit_settled guards (pattern ∷ left) (item ∷ items) more b =
    settled_after (bind_guarded guards pattern item.0 item.1 b) (fit_of guards left items) (fit_of guards left (items ++ more)) (λ c. fit_settled guards left items more c)

-- a whole match is of items that are there
abbrev pub WithinItems : ℕ → ℕ → Fit → Type 0
WithinItems size count (Whole b) = size ≤ count
WithinItems size count Short = count < size
WithinItems size count Not = Unit {0}

within_more : (size count : ℕ) (fit : Fit) → WithinItems size count fit → WithinItems (suc size) (suc count) fit
within_more size count (Whole b) h = omega arith
within_more size count Short h = omega arith
within_more size count Not h = tt

within_after : (size count : ℕ) (o : Option Bound) (f : Bound → Fit) → ((b : Bound) → WithinItems size count (f b)) → WithinItems (suc size) (suc count) (fit_after o f)
within_after size count None f h = tt
within_after size count (Some b) f h = within_more size count (f b) (h b)

pub fit_within : (guards : List Guard) (left : List Pattern) (items : List (Call × Reply)) (b : Bound) → WithinItems (length left) (length items) (fit_of guards left items b)
fit_within guards [] items b = omega arith
fit_within guards (pattern ∷ left) [] b = omega arith
fit_within guards (pattern ∷ left) (item ∷ items) b =
    within_after (length left) (length items) (bind_guarded guards pattern item.0 item.1 b) (fit_of guards left items) (λ c. fit_within guards left items c)

takes_by : (rule : Rule) (shaped : IsShaped rule) (count : ℕ) (made : List (Call × Reply)) (n : ℕ) (fit : Fit)
    → WithinItems (length rule.left) count fit → made_by rule fit ≡ Some (made, n) → (0 < n) × (n ≤ count)
takes_by rule shaped count made n (Whole b) within h =
    let some = shaped.some in
    let p : ((map (made_of b) rule.right, length rule.left)) ≡ (made, n) = cc in
    let e : length rule.left ≡ n = ap (λ (v : List (Call × Reply) × ℕ). v.1) p in
    (omega arith, omega arith)
takes_by rule shaped count made n Short within h = cc
takes_by rule shaped count made n Not within h = cc

stays_by : (rule : Rule) (made : List (Call × Reply)) (n : ℕ) (fit later : Fit) → Settled fit later
    → made_by rule fit ≡ Some (made, n) → made_by rule later ≡ Some (made, n)
stays_by rule made n (Whole b) later same h = rw same h
stays_by rule made n Short later same h = cc
stays_by rule made n Not later same h = cc

fails_by : (rule : Rule) (fit later : Fit) → Settled fit later → made_by rule fit ≡ None → is_short fit ≡ false
    → (made_by rule later ≡ None) × (is_short later ≡ false)
fails_by rule (Whole b) later same none may = cc
fails_by rule Short later same none may = cc
fails_by rule Not later same none may = (ap (λ f. made_by rule f) same, ap is_short same)

short_by : (rule : Rule) (shaped : IsShaped rule) (count : ℕ) (fit : Fit) → WithinItems (length rule.left) count fit → is_short fit ≡ true → count < 8
short_by rule shaped count (Whole b) within h = cc
short_by rule shaped count Short within h = let few = shaped.left in omega arith
short_by rule shaped count Not within h = cc

pub steady_rule : (rule : Rule) → IsShaped rule → IsSteady front_of could_match rule
steady_rule rule shaped = record {
  takes = λ l made n h. takes_by rule shaped (length l) made n (rule_fit rule l) (fit_within rule.guards rule.left l unbound) h;
  stays = λ l m made n h. stays_by rule made n (rule_fit rule l) (rule_fit rule (l ++ m)) (fit_settled rule.guards rule.left l m unbound) h;
  fails = λ l m none may. fails_by rule (rule_fit rule l) (rule_fit rule (l ++ m)) (fit_settled rule.guards rule.left l m unbound) none may;
  short = λ l h. short_by rule shaped (length l) (rule_fit rule l) (fit_within rule.guards rule.left l unbound) h;
}

pub steady_rules : (rules : List Rule) → AreShaped rules → AreSteady front_of could_match rules
steady_rules [] shaped = tt
steady_rules (rule ∷ rules) shaped = (steady_rule rule shaped.0, steady_rules rules shaped.1)

bounded_by : (rule : Rule) (shaped : IsShaped rule) (made : List (Call × Reply)) (n : ℕ) (fit : Fit) → made_by rule fit ≡ Some (made, n) → length made ≤ 16
bounded_by rule shaped made n (Whole b) h =
    let p : ◌≡◌ {A = List (Call × Reply) × ℕ} (map (made_of b) rule.right, length rule.left) (made, n) = cc in
    let e : length (map (made_of b) rule.right) ≡ length made = ap (λ (v : List (Call × Reply) × ℕ). length v.0) p in
    let k : length (map (made_of b) rule.right) ≡ length rule.right = length-map rule.right (made_of b) in
    let few : length rule.right ≤ 16 = shaped.right in
    omega arith
bounded_by rule shaped made n Short h = cc
bounded_by rule shaped made n Not h = cc

-- a rule makes at most sixteen items
pub bounded_rules : (rules : List Rule) → AreShaped rules → RulesBounded front_of 16 rules
bounded_rules [] shaped = tt
bounded_rules (rule ∷ rules) shaped = (λ l made n h. bounded_by rule shaped.0 made n (rule_fit rule l) h, bounded_rules rules shaped.1)
