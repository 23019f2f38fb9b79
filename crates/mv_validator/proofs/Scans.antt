-- A part of a module whose items are checked one after another.
use Rattle.std.proofs.Common.{◌≡◌, ℕ, zero, suc, ◌+◌, ◌<◌, ◌≤◌, List, [], ◌∷◌, ◌++◌, length, get_or, Option, Some, None, refl, sym, ap, subst, ◌∙◌, inl, inr, ⊎_elim, arith}
use Rattle.std.specs.Prelude.{slice_get}
use Rattle.std.proofs.lemmas.Bool.{cases_lt}
use Rattle.std.proofs.lemmas.Option.{slice_get_read, slice_get_within}
use Rattle.mv_syntax.specs.declared.fault.ValidFault.{ValidFault}
use Rattle.mv_syntax.specs.declared.fault.ValidKind.{ValidKind}
use Rattle.mv_syntax.specs.Sections.{Parts}
use Rattle.mv_validator.specs.Checks.{Check, Numbered, numbered, Passes, Fails, AllPass, FirstFails, Tells}

-- each item before one of them
abbrev pub Before : {A : Type 0} → (ℕ → A → Type 0) → List A → ℕ → Type 0
Before {A} P xs m = (n : ℕ) (x : A) → n < m → slice_get xs n ≡ Some x → P n x

pub none-before : {A : Type 0} (P : ℕ → A → Type 0) (xs : List A) → Before P xs 0
none-before P xs n x lt e = absurd (omega arith)

pub before-more : {A : Type 0} (P : ℕ → A → Type 0) (xs : List A) (m : ℕ) (x : A) → m < length xs → x ≡ get_or xs m x → Before P xs m → P m x → Before P xs (m + 1)
before-more {A} P xs m x lt is h here n y less e = ⊎_elim (λ l. h n y l e) (λ g. at (omega arith) e) (cases_lt n m)
  where
    there : slice_get xs m ≡ Some x
    there = slice_get_read xs (length xs) m x refl lt is

    at : n ≡ m → slice_get xs n ≡ Some y → P n y
    at same e' =
        let both : Some x ≡ Some y = sym there ∙ ap (slice_get xs) (sym same) ∙ e' in
        let one : x ≡ y = cc in
        subst (λ k. P k y) (sym same) (subst (λ z. P m z) one here)

abbrev pub PassesAt : {A : Type 0} → Parts → (ℕ → A → Check) → ℕ → A → Type 0
PassesAt p make n x = Passes p (make n x)

-- all items pass
pub all-from : {A : Type 0} (p : Parts) (part : ℕ) (make : ℕ → A → Check) (k : ℕ) (xs : List A) → ((n : ℕ) (x : A) → slice_get xs n ≡ Some x → Passes p (make (k + n) x)) → AllPass p (numbered part make k xs)
all-from p part make k [] h = tt
all-from p part make k (x ∷ xs) h =
    let here : k + 0 ≡ k = omega arith in
    (subst (λ m. Passes p (make m x)) here (h 0 x refl), all-from p part make (suc k) xs (λ n y e. (let same : k + suc n ≡ suc k + n = omega arith in subst (λ m. Passes p (make m y)) same (h (suc n) y e))))

pub all-pass : {A : Type 0} (p : Parts) (part : ℕ) (make : ℕ → A → Check) (xs : List A) (m : ℕ) → length xs ≤ m → Before (PassesAt p make) xs m → AllPass p (numbered part make 0 xs)
all-pass p part make xs m le h =
    all-from p part make 0 xs (λ n x e. (let lt : n < m = omega (arith, slice_get_within xs n x e) in let same : n ≡ 0 + n = omega arith in subst (λ k. Passes p (make k x)) same (h n x lt e)))

pub from-all : {A : Type 0} (p : Parts) (part : ℕ) (make : ℕ → A → Check) (k : ℕ) (xs : List A) → AllPass p (numbered part make k xs) → (n : ℕ) (x : A) → slice_get xs n ≡ Some x → Passes p (make (k + n) x)
from-all p part make k [] h n x e = absurd (cc)
from-all p part make k (y ∷ xs) h zero x e =
    let one : y ≡ x = cc in
    let here : k ≡ k + 0 = omega arith in
    subst (λ m. Passes p (make m x)) here (subst (λ z. Passes p (make k z)) one h.0)
from-all p part make k (y ∷ xs) h (suc n) x e =
    let same : suc k + n ≡ k + suc n = omega arith in
    subst (λ m. Passes p (make m x)) same (from-all p part make (suc k) xs h.1 n x e)

pub each-passes : {A : Type 0} (p : Parts) (part : ℕ) (make : ℕ → A → Check) (xs : List A) → AllPass p (numbered part make 0 xs) → (n : ℕ) (x : A) → slice_get xs n ≡ Some x → Passes p (make n x)
each-passes p part make xs h n x e = let same : 0 + n ≡ n = omega arith in subst (λ m. Passes p (make m x)) same (from-all p part make 0 xs h n x e)

-- the first that fails
fails-from : {A : Type 0} (p : Parts) (part : ℕ) (make : ℕ → A → Check) (k : ℕ) (xs : List A) (m : ℕ) (x : A) (f : ValidFault)
    → ((n : ℕ) (y : A) → n < m → slice_get xs n ≡ Some y → Passes p (make (k + n) y)) → slice_get xs m ≡ Some x
    → f.part ≡ part → f.item ≡ k + m → Fails p (make (k + m) x) f.at f.kind → FirstFails p (numbered part make k xs) f
fails-from p part make k [] m x f h e in_part in_item fails = absurd (cc)
fails-from p part make k (y ∷ xs) zero x f h e in_part in_item fails =
    let one : y ≡ x = cc in
    let here : k + 0 ≡ k = omega arith in
    inl (record { part = in_part; item = in_item ∙ here; fails = subst (λ m. Fails p (make m y) f.at f.kind) here (subst (λ z. Fails p (make (k + 0) z) f.at f.kind) (sym one) fails) })
fails-from p part make k (y ∷ xs) (suc m) x f h e in_part in_item fails =
    let here : k + 0 ≡ k = omega arith in
    let same : k + suc m ≡ suc k + m = omega arith in
    inr (
      subst (λ i. Passes p (make i y)) here (h 0 y (omega arith) refl),
      fails-from p part make (suc k) xs m x f (λ n z lt e'. (let step : k + suc n ≡ suc k + n = omega arith in subst (λ i. Passes p (make i z)) step (h (suc n) z (omega arith) e'))) e in_part (in_item ∙ same) (subst (λ i. Fails p (make i x) f.at f.kind) same fails),
    )

pub first-fails : {A : Type 0} (p : Parts) (part : ℕ) (make : ℕ → A → Check) (xs : List A) (m : ℕ) (x : A) (f : ValidFault) → Before (PassesAt p make) xs m → m < length xs → x ≡ get_or xs m x
    → f.part ≡ part → f.item ≡ m → Fails p (make m x) f.at f.kind → FirstFails p (numbered part make 0 xs) f
first-fails p part make xs m x f h lt is in_part in_item fails =
    let zero-first : m ≡ 0 + m = omega arith in
    fails-from p part make 0 xs m x f (λ n y less e. (let same : n ≡ 0 + n = omega arith in subst (λ k. Passes p (make k y)) same (h n y less e))) (slice_get_read xs (length xs) m x refl lt is) in_part (in_item ∙ zero-first) (subst (λ i. Fails p (make i x) f.at f.kind) zero-first fails)

-- what was found of an item as a whole
pub found : {A : Type 0} (p : Parts) (part : ℕ) (make : ℕ → A → Check) (xs ys : List A) (m : ℕ) (x : A) (f : ValidFault) (kind : ValidKind) → xs ≡ ys → Before (PassesAt p make) xs m → m < length xs → x ≡ get_or xs m x
    → f ≡ record { part = part; item = m; at = 0; kind = kind } → Fails p (make m x) 0 kind → FirstFails p (numbered part make 0 ys) f
found p part make xs ys m x f kind same h lt is fault fails =
    subst (λ zs. FirstFails p (numbered part make 0 zs) f) same
    (subst (λ g. FirstFails p (numbered part make 0 xs) g) (sym fault) (first-fails p part make xs m x (record { part = part; item = m; at = 0; kind = kind }) h lt is refl refl fails))

-- nothing was found
pub all-found : {A : Type 0} (p : Parts) (part : ℕ) (make : ℕ → A → Check) (xs ys : List A) (m : ℕ) → xs ≡ ys → length xs ≤ m → Before (PassesAt p make) xs m → AllPass p (numbered part make 0 ys)
all-found p part make xs ys m same le h = subst (λ zs. AllPass p (numbered part make 0 zs)) same (all-pass p part make xs m le h)

-- some checks, and others behind them
pub all-append : (p : Parts) (cs ds : List Numbered) → AllPass p cs → AllPass p ds → AllPass p (cs ++ ds)
all-append p [] ds h k = k
all-append p (c ∷ cs) ds h k = (h.0, all-append p cs ds h.1 k)

pub all-parts : (p : Parts) (cs ds : List Numbered) → AllPass p (cs ++ ds) → AllPass p cs × AllPass p ds
all-parts p [] ds h = (tt, h)
all-parts p (c ∷ cs) ds h = let r = all-parts p cs ds h.1 in ((h.0, r.0), r.1)

pub fails-left : (p : Parts) (cs ds : List Numbered) (f : ValidFault) → FirstFails p cs f → FirstFails p (cs ++ ds) f
fails-left p [] ds f h = absurd h
fails-left p (c ∷ cs) ds f (inl h) = inl h
fails-left p (c ∷ cs) ds f (inr h) = inr (h.0, fails-left p cs ds f h.1)

pub fails-right : (p : Parts) (cs ds : List Numbered) (f : ValidFault) → AllPass p cs → FirstFails p ds f → FirstFails p (cs ++ ds) f
fails-right p [] ds f h k = k
fails-right p (c ∷ cs) ds f h k = inr (h.0, fails-right p cs ds f h.1 k)

pub tells-right : (p : Parts) (cs ds : List Numbered) (o : Option ValidFault) → AllPass p cs → Tells p ds o → Tells p (cs ++ ds) o
tells-right p cs ds None h k = all-append p cs ds h k
tells-right p cs ds (Some f) h k = fails-right p cs ds f h k

-- what was found by checks that told of no fault
pub passed : (p : Parts) (cs : List Numbered) (o : Option ValidFault) → Tells p cs o → o ≡ None → AllPass p cs
passed p cs o h e = subst (Tells p cs) e h
