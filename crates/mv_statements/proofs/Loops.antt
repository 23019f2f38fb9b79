-- Reading a form so many times, as a loop does.
use Rattle.std.proofs.Common.{◌≡◌, ℕ, suc, ◌-◌, ◌+◌, ◌≤◌, ◌<◌, List, [], ◌∷◌, ◌++◌, refl, sym, ap, ◌∙◌, append_assoc, arith}
use Rattle.std.proofs.lemmas.List.{append-nil}
use Rattle.mv_statements.specs.Form.{At, Form}
use Rattle.mv_statements.specs.Forms.{many}

-- what was read before, and what is still read
abbrev pub with_front : {A : Type 0} → List A → List A × At → List A × At
with_front front read = (front ++ read.0, read.1)

pub begins : {A : Type 0} (f : Form A) (count : ℕ) (at : At) → with_front [] ((many f (count - 0)).reads at) ≡ (many f count).reads at
begins f count at = let k : count - 0 ≡ count = omega arith in rw k refl

pub goes_on : {A : Type 0} (f : Form A) (front : List A) (count i : ℕ) (at : At) (a : A) (next : At) (total : List A × At) → i < count → (let r : A × At = (a, next) in r) ≡ f.reads at
    → with_front front ((many f (count - i)).reads at) ≡ total → with_front (front ++ a ∷ []) ((many f (count - (i + 1))).reads next) ≡ total
unfolding many
goes_on {A} f front count i at a next total lt h so_far =
    let k : count - i ≡ suc (count - (i + 1)) = omega arith in
    let rest : List A × At = (many f (count - (i + 1))).reads next in
    let group : (front ++ (a ∷ [])) ++ rest.0 ≡ front ++ (a ∷ rest.0) = append_assoc front (a ∷ []) rest.0 in
    let one : with_front front ((many f (count - i)).reads at) ≡ with_front (front ++ a ∷ []) rest = rw (k, ← h) (ap (λ (items : List A). (items, rest.1)) (sym group)) in
    sym one ∙ so_far

pub is_done : {A : Type 0} (f : Form A) (front : List A) (count i : ℕ) (at : At) (total : List A × At) → count ≤ i → with_front front ((many f (count - i)).reads at) ≡ total → (let r : List A × At = (front, at) in r) ≡ total
unfolding many
is_done {A} f front count i at total le so_far =
    let k : count - i ≡ 0 = omega arith in
    let one : with_front front ((many f (count - i)).reads at) ≡ (front, at) = rw k (ap (λ (items : List A). (items, at)) (append-nil front)) in
    sym one ∙ so_far
