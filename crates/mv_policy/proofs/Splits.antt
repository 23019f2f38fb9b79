-- Cutting bytes at each that is this one, and joining the parts again.
use Rattle.std.proofs.Common.{◌≡◌, ◌≢◌, ◌∷◌, [], ℕ, List, Bool, true, false, refl, ap, ◌∙◌, eqb, All, cond}
use Rattle.std.specs.List.{AllByRecursion, onto_first, join_with_byte}
use Rattle.std.proofs.lemmas.List.Splits.{slice_split_none, slice_split_at}
use Rattle.std.proofs.lemmas.Bool.{ne_eqb, eqb-false}
use Rattle.std.proofs.lemmas.List.Elements.{All-from_recursion}
use Rattle.mv_policy.specs.Reading.{cut}

abbrev pub Lacks : ℕ → List ℕ → Type 0
Lacks c = AllByRecursion (λ b. b ≢ c)

onto_first_lacks : (c x : ℕ) (parts : List (List ℕ)) → x ≢ c → AllByRecursion (Lacks c) parts → AllByRecursion (Lacks c) (onto_first x parts)
onto_first_lacks c x [] ne all = ((ne, tt), tt)
onto_first_lacks c x (part ∷ parts) ne all = ((ne, all.0), all.1)

-- no part has the byte
pub cut_lacks : (c : ℕ) (bytes : List ℕ) → AllByRecursion (Lacks c) (cut c bytes)
cut_lacks c [] = (tt, tt)
cut_lacks c (x ∷ xs) = at_byte x xs (eqb x c) refl (cut_lacks c xs)
  where
    at_byte : (x : ℕ) (xs : List ℕ) (b : Bool) → eqb x c ≡ b → AllByRecursion (Lacks c) (cut c xs) → AllByRecursion (Lacks c) (cond b ([] ∷ cut c xs) (onto_first x (cut c xs)))
    at_byte x xs true e all = (tt, all)
    at_byte x xs false e all = onto_first_lacks c x (cut c xs) (eqb-false x c e) all

passes : (c : ℕ) (word : List ℕ) → Lacks c word → All (λ b. eqb b c ≡ false) word
passes c word plain = All-from_recursion (λ b. eqb b c ≡ false) word (each word plain)
  where
    each : (word : List ℕ) → Lacks c word → AllByRecursion (λ b. eqb b c ≡ false) word
    each [] plain = tt
    each (b ∷ bs) plain = (ne_eqb b c plain.0, each bs plain.1)

-- what was joined is cut to the same parts
pub cut_join : (c : ℕ) (word : List ℕ) (more : List (List ℕ)) → eqb c c ≡ true → AllByRecursion (Lacks c) (word ∷ more) → cut c (join_with_byte c (word ∷ more)) ≡ word ∷ more
cut_join c word [] same plain = slice_split_none (λ b. eqb b c) word (passes c word plain.0)
cut_join c word (next ∷ more) same plain =
    slice_split_at (λ b. eqb b c) word c (join_with_byte c (next ∷ more)) (passes c word plain.0) same
    ∙ ap (λ (ws : List (List ℕ)). word ∷ ws) (cut_join c next more same plain.1)
