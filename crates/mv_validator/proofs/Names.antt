-- The names of the exports so far, kept in an ordered set.
use Rattle.std.proofs.Common.{◌≡◌, ◌<◌, ℕ, zero, suc, ◌+◌, Bool, true, false, not, cond, List, [], ◌∷◌, length, take, get_or, Some, Bor, refl, sym, ap, ◌∙◌, arith}
use Rattle.std.specs.Prelude.{◌||◌, slice_get}
use Rattle.std.specs.Str.{bytes_eq}
use Rattle.std.specs.Ordering.{nat_cmp}
use Rattle.std.specs.Cmp.Lexicographic.{slice_cmp}
use Rattle.std.specs.BTreeSet.{BTreeSet, contains_by, Updates}
use Rattle.std.proofs.lemmas.Map.Text.{is_eq-slice_cmp}
use Rattle.std.proofs.lemmas.Option.{slice_get_read}
use Rattle.mv_syntax.specs.declared.module.Export.{Export}
use Rattle.mv_validator.specs.Checks.{has_name}

abbrev pub Names : Type 0
Names = BTreeSet (Bor (List ℕ))

-- whether a name is in the set
abbrev pub has : Names → List ℕ → Bool
has names name = contains_by (λ k. slice_cmp nat_cmp name k.now) names

-- the set has the names of these exports
abbrev pub AreNamesOf : List Export → Names → Type 0
AreNamesOf xs names = (name : List ℕ) → has names name ≡ has_name name xs

last-or : (a b : Bool) → a ≡ b → (a || false) ≡ cond b true false
last-or true true e = refl
last-or false false e = refl
last-or true false e = absurd (cc)
last-or false true e = absurd (cc)

or-last : (a b c : Bool) → (a || cond b true c) ≡ cond b true (a || c)
or-last true true c = refl
or-last true false c = refl
or-last false true c = refl
or-last false false c = refl

-- one export more
name-more : (name : List ℕ) (x : Export) (xs : List Export) (m : ℕ) → slice_get xs m ≡ Some x → has_name name (take (suc m) xs) ≡ cond (bytes_eq x.name name) true (has_name name (take m xs))
name-more name x [] m e = absurd (cc)
name-more name x (z ∷ xs) zero e =
    let one : z ≡ x = cc in
    last-or (bytes_eq z.name name) (bytes_eq x.name name) (ap (λ (y : Export). bytes_eq y.name name) one)
name-more name x (z ∷ xs) (suc m) e =
    ap (λ b. bytes_eq z.name name || b) (name-more name x xs m e) ∙ or-last (bytes_eq z.name name) (bytes_eq x.name name) (has_name name (take m xs))

pub names-more : (names more : Names) (key : Bor (List ℕ)) (xs : List Export) (m : ℕ) (x : Export) → m < length xs → x ≡ get_or xs m x → key.now ≡ x.name → AreNamesOf (take m xs) names
    → Updates (λ a b. slice_cmp nat_cmp a.now b.now) names more key true → AreNamesOf (take (m + 1) xs) more
names-more names more key xs m x lt is same h updates name =
    let there : slice_get xs m ≡ Some x = slice_get_read xs (length xs) m x refl lt is in
    let next : suc m ≡ m + 1 = omega arith in
    updates.0 (record { ref_ptr = (0, 0); now = name })
    ∙ ap (λ b. cond b true (has names name)) (is_eq-slice_cmp key.now name ∙ ap (λ n. bytes_eq n name) same)
    ∙ ap (cond (bytes_eq x.name name) true) (h name)
    ∙ sym (name-more name x xs m there)
    ∙ ap (λ n. has_name name (take n xs)) next

-- whether the name of an export is new
pub is-new : (names : Names) (key : Bor (List ℕ)) (xs : List Export) (x : Export) (new : Bool) → key.now ≡ x.name → AreNamesOf xs names → new ≡ not (has names key.now) → new ≡ not (has_name x.name xs)
is-new names key xs x new same h e = e ∙ ap not (h key.now ∙ ap (λ n. has_name n xs) same)
