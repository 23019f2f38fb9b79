-- Rewriting a list by rules, one decision at a time, whatever the rules and the items are.
--
-- `front r l` is what the rule r makes where its left side matches the items at the front of l, and how many of
-- them it takes. `could r l` says that it may still match once more items stand behind l.
use Rattle.std.specs.Prelude.{◌≡◌, ℕ, zero, suc, ◌-◌, Bool, true, false, ◌&&◌, List, [], ◌∷◌, ◌++◌, drop, Option, Some, None}
use Rattle.std.specs.List.{flat_map}

-- a rule that matches decides; one that could match keeps the rules behind it from deciding
abbrev pub first_of_two : {T : Type 0} → Option T → Bool → Option T → Option T
first_of_two (Some t) waits others = Some t
first_of_two None true others = None
first_of_two None false others = others

-- what the first of the rules that says anything decides of the items x ∷ l, and the head where none does
abbrev pub chosen : {R I : Type 0} → (R → List I → Option (List I × ℕ)) → (R → List I → Bool) → Bool → List R → I → List I → Option (List I × ℕ)
chosen front could more [] x l = Some (x ∷ [], 1)
chosen front could more (r ∷ rules) x l =
    first_of_two (front r (x ∷ l)) (could r (x ∷ l) && more) (chosen front could more rules x l)

-- The decision at the front: what is given, and how many items that takes. It is none where nothing is there, and,
-- if more items may come, where a rule that could match stands before each that matches.
abbrev pub decision : {R I : Type 0} → (R → List I → Option (List I × ℕ)) → (R → List I → Bool) → Bool → List R → List I → Option (List I × ℕ)
decision front could more rules [] = None
decision front could more rules (x ∷ l) = chosen front could more rules x l

-- what a decision gives, before what the items give that it doesn't take; `rest k` passes over k more items
abbrev pub given_by : {I : Type 0} → Option (List I × ℕ) → (ℕ → List (List I)) → List (List I)
given_by None rest = []
given_by (Some t) rest = t.0 ∷ rest (t.1 - 1)

-- what the decisions give, each by itself, once `passed` items are passed over
abbrev pub groups_after : {I : Type 0} → (List I → Option (List I × ℕ)) → ℕ → List I → List (List I)
groups_after decide passed [] = []
groups_after decide (suc passed) (x ∷ l) = groups_after decide passed l
groups_after decide zero (x ∷ l) = given_by (decide (x ∷ l)) (λ k. groups_after decide k l)

abbrev pub groups : {I : Type 0} → (List I → Option (List I × ℕ)) → List I → List (List I)
groups decide l = groups_after decide 0 l

-- the groups, one after another
abbrev pub joined : {I : Type 0} → List (List I) → List I
joined given = flat_map (λ group. group) given

-- the first decisions of l give these groups, and leave these items
abbrev pub Decides : {I : Type 0} → (List I → Option (List I × ℕ)) → List I → List (List I) → List I → Type 0
Decides decide l [] rest = l ≡ rest
Decides decide l (group ∷ given) rest = (n : ℕ) × (decide l ≡ Some (group, n)) × Decides decide (drop n l) given rest

-- a list begins with another
abbrev pub BeginsWith : {X : Type 0} → List X → List X → Type 0
BeginsWith {X} l front = (rest : List X) × (l ≡ front ++ rest)
