-- Lists that an object tells, or doesn't tell.
use Rattle.std.specs.Prelude.{◌≡◌, ◌≤◌, ℕ, List, [], ◌∷◌, ◌++◌, take, length, Option, Some, None, refl}
use Rattle.std.proofs.Common.{ap, append_assoc, append-nil}

-- what is told after these came, where anything is told
abbrev pub told_more : {A : Type 0} → Option (List A) → List A → Option (List A)
told_more None more = None
told_more (Some items) more = Some (items ++ more)

-- what was told before the first was taken, where anything is told
abbrev pub told_first : {A : Type 0} → A → Option (List A) → Option (List A)
told_first first None = None
told_first first (Some rest) = Some (first ∷ rest)

-- nothing is left, as far as it is told
abbrev pub IsAtEnd : {A : Type 0} → Option (List A) → Type 0
IsAtEnd None = Unit {0}
IsAtEnd (Some []) = Unit {0}
IsAtEnd (Some (first ∷ rest)) = ⊥

-- some first part of the items came
abbrev pub AddsPart : {A : Type 0} → Option (List A) → List A → Option (List A) → Type 0
AddsPart before items now = (k : ℕ) × (k ≤ length items) × (now ≡ told_more before (take k items))

-- what comes in two pieces comes in one
pub told_more-append : {A : Type 0} (told : Option (List A)) (xs ys : List A) →
    told_more (told_more told xs) ys ≡ told_more told (xs ++ ys)
told_more-append None xs ys = refl
told_more-append (Some items) xs ys = ap Some (append_assoc items xs ys)

-- where nothing comes, all is as before
pub told_more-none : {A : Type 0} (told : Option (List A)) → told_more told [] ≡ told
told_more-none None = refl
told_more-none (Some items) = ap Some (append-nil items)
