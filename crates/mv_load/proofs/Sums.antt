-- One entry more in a sum over a log, and in its status.
use Rattle.std.proofs.Common.{◌≡◌, ℕ, ◌+◌, ◌<◌, List, [], ◌∷◌, ◌++◌, length, take, get_or, slice_index_or, refl, ap, sym, ◌∙◌, arith}
use Rattle.std.proofs.lemmas.List.{take_more}
use Rattle.mv_orders.specs.declared.stage.Stage.{Stage}
use Rattle.mv_history.specs.Statuses.{first_status, status_after}
use Rattle.mv_history.specs.declared.log.Entry.{Entry}
use Rattle.mv_history.specs.declared.status.Status.{Status}
use Rattle.mv_load.specs.Figures.{capped, status_behind, sum_of}

sum_more : (count : Entry → ℕ) (es : List Entry) (e : Entry) → sum_of count (es ++ e ∷ []) ≡ sum_of count es + count e
sum_more count [] e = omega arith
sum_more count (x ∷ es) e = let h : sum_of count (es ++ e ∷ []) ≡ sum_of count es + count e = sum_more count es e in omega arith

status_more : (st : Status) (es : List Entry) (e : Entry) → status_behind st (es ++ e ∷ []) ≡ status_after (status_behind st es) e
status_more st [] e = refl
status_more st (x ∷ es) e = status_more (status_after st x) es e

cap_again : (a b : ℕ) → capped (capped a + b) ≡ capped (a + b)
cap_again a b = omega arith

-- the entry with this number
abbrev IsAt : List Entry → ℕ → Entry → Type 0
IsAt es i e = e ≡ slice_index_or es i e

taken : (es : List Entry) (i : ℕ) (e : Entry) → i < length es → IsAt es i e → take (i + 1) es ≡ take i es ++ e ∷ []
taken es i e lt at = let h : take (i + 1) es ≡ take i es ++ get_or es i e ∷ [] = take_more es i e lt in h ∙ ap (λ x. take i es ++ x ∷ []) (sym at)

pub sum_on : (count : Entry → ℕ) (es : List Entry) (i : ℕ) (e : Entry) (a now : ℕ) → i < length es → e ≡ slice_index_or es i e → a ≡ capped (sum_of count (take i es)) → now ≡ capped (a + count e) →
    now ≡ capped (sum_of count (take (i + 1) es))
sum_on count es i e a now lt at before step =
    let more : sum_of count (take (i + 1) es) ≡ sum_of count (take i es) + count e = ap (sum_of count) (taken es i e lt at) ∙ sum_more count (take i es) e in
    step ∙ ap (λ (n : ℕ). capped (n + count e)) before ∙ cap_again (sum_of count (take i es)) (count e) ∙ sym (ap capped more)

pub stage_on : (es : List Entry) (i : ℕ) (e : Entry) (stage now : Stage) → i < length es → e ≡ slice_index_or es i e → stage ≡ (status_behind first_status (take i es)).stage →
    ((st : Status) → st.stage ≡ stage → now ≡ (status_after st e).stage) → now ≡ (status_behind first_status (take (i + 1) es)).stage
stage_on es i e stage now lt at before next =
    next (status_behind first_status (take i es)) (sym before) ∙ ap (λ (st : Status). st.stage) (sym (ap (status_behind first_status) (taken es i e lt at) ∙ status_more first_status (take i es) e))
