-- An array of subscriptions, as a loop goes over it.
use Rattle.std.proofs.Common.{◌≡◌, ℕ, zero, suc, ◌+◌, ◌*◌, ◌-◌, ◌<◌, ◌≤◌, List, [], ◌∷◌, ◌++◌, Option, Some, None, refl, sym, ap, ◌∙◌, arith, append_assoc, append-nil}
use Rattle.mv_calls.specs.declared.subs.Sub.{Sub}
use Rattle.mv_wasi.specs.Polls.{sub_at, subs_at, joins}

-- these subscriptions, and then those of a list that may be none
abbrev pub behind : List Sub → Option (List Sub) → Option (List Sub)
behind out None = None
behind out (Some more) = Some (out ++ more)

-- the subscriptions from the one of this number on
abbrev pub rest_of : List ℕ → ℕ → ℕ → ℕ → Option (List Sub)
rest_of m subs count index = subs_at m (subs + 48 * index) (count - index)

from_here : (m : List ℕ) (place count : ℕ) → 0 < count → subs_at m place count ≡ joins (sub_at m place) (subs_at m (place + 48) (count - 1))
unfolding subs_at
from_here m place zero some = absurd (omega arith)
from_here m place (suc count) some =
    let same : suc count - 1 ≡ count = omega arith in
    rw same refl

rest_is : (m : List ℕ) (subs count index : ℕ) → index < count → rest_of m subs count index ≡ joins (sub_at m (subs + 48 * index)) (rest_of m subs count (index + 1))
rest_is m subs count index lt =
    let place : subs + 48 * index + 48 ≡ subs + 48 * (index + 1) = omega arith in
    let left : count - index - 1 ≡ count - (index + 1) = omega arith in
    from_here m (subs + 48 * index) (count - index) (omega arith)
    ∙ ap (λ (p : ℕ). joins (sub_at m (subs + 48 * index)) (subs_at m p (count - index - 1))) place
    ∙ ap (λ (n : ℕ). joins (sub_at m (subs + 48 * index)) (subs_at m (subs + 48 * (index + 1)) n)) left

all-here : (m : List ℕ) (subs count : ℕ) → rest_of m subs count 0 ≡ subs_at m subs count
all-here m subs count =
    let place : subs + 48 * 0 ≡ subs = omega arith in
    let left : count - 0 ≡ count = omega arith in
    ap (λ (p : ℕ). subs_at m p (count - 0)) place ∙ ap (λ (n : ℕ). subs_at m subs n) left

none-left : (m : List ℕ) (subs count index : ℕ) → count ≤ index → rest_of m subs count index ≡ Some []
unfolding subs_at
none-left m subs count index h =
    let left : count - index ≡ 0 = omega arith in
    rw left refl

behind-none : (o : Option (List Sub)) → behind [] o ≡ o
behind-none None = refl
behind-none (Some more) = refl

behind-more : (out : List Sub) (sub : Sub) (o : Option (List Sub)) → behind out (joins (Some sub) o) ≡ behind (out ++ sub ∷ []) o
behind-more out sub None = refl
behind-more out sub (Some more) = ap (λ l. Some l) (sym (append_assoc out (sub ∷ []) more))

-- before the first one
pub subs-first : (m : List ℕ) (subs count : ℕ) → behind [] (rest_of m subs count 0) ≡ subs_at m subs count
subs-first m subs count = behind-none (rest_of m subs count 0) ∙ all-here m subs count

-- one more was read
pub subs-more : (m : List ℕ) (subs count index : ℕ) (out now : List Sub) (sub : Sub) (all : Option (List Sub)) → index < count → sub_at m (subs + 48 * index) ≡ Some sub → now ≡ out ++ sub ∷ [] → behind out (rest_of m subs count index) ≡ all → behind now (rest_of m subs count (index + 1)) ≡ all
subs-more m subs count index out now sub all lt is e whole =
    ap (λ l. behind l (rest_of m subs count (index + 1))) e
    ∙ sym (behind-more out sub (rest_of m subs count (index + 1)))
    ∙ ap (λ o. behind out (joins o (rest_of m subs count (index + 1)))) (sym is)
    ∙ ap (λ o. behind out o) (sym (rest_is m subs count index lt))
    ∙ whole

-- one of another form
pub subs-none : (m : List ℕ) (subs count index : ℕ) (out : List Sub) (all : Option (List Sub)) → index < count → sub_at m (subs + 48 * index) ≡ None → behind out (rest_of m subs count index) ≡ all → None ≡ all
subs-none m subs count index out all lt is whole =
    sym (ap (λ o. behind out o) (rest_is m subs count index lt) ∙ ap (λ o. behind out (joins o (rest_of m subs count (index + 1)))) is) ∙ whole

-- all were read
pub subs-all : (m : List ℕ) (subs count index : ℕ) (out : List Sub) (all : Option (List Sub)) → count ≤ index → behind out (rest_of m subs count index) ≡ all → Some out ≡ all
subs-all m subs count index out all h whole =
    sym (ap (λ o. behind out o) (none-left m subs count index h) ∙ ap (λ l. Some l) (append-nil out)) ∙ whole
