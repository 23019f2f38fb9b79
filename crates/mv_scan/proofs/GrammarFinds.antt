-- What is found is there: tests, numbers in a range, and the first place in a list.
use Rattle.std.proofs.Common.{◌≡◌, ℕ, suc, ◌+◌, ◌<◌, ◌≤◌, ◌&&◌, ◌||◌, Bool, true, false, cond, not, List, [], ◌∷◌, ◌++◌, length, refl, ap, sym, ◌∙◌, subst, take, drop, arith, Some, None, add-one, one-add, le-leb, leb-true}
use Rattle.std.proofs.lemmas.Grind.{common_steps}
use Rattle.std.specs.Prelude.{Option, nat_le, nat_lt, if◌then◌else◌}
use Rattle.std.specs.List.{position, position_or_len, list_any}
use Rattle.mv_scan.specs.declared.found.Found.{Found}
use Rattle.mv_scan.specs.declared.found.Found.TheVariants.{Other, OutOfRange, Is}
use Rattle.mv_scan.specs.Found.{found_map, pair, only_if}
use Rattle.mv_scan.specs.Numbers.{in_range}

-- ## Tests

pub both_true : (b c : Bool) → (b && c) ≡ true → (b ≡ true) × (c ≡ true)
both_true true c h = (refl, h)
both_true false c h = cc

pub both_false : (b c : Bool) → (b || c) ≡ false → (b ≡ false) × (c ≡ false)
both_false true c h = cc
both_false false c h = (refl, h)

pub by_test : {A : Type 0} (P : A → Type 0) (b : Bool) (x y : A) → (b ≡ true → P x) → (b ≡ false → P y) → P (if b then x else y)
by_test P true x y h k = h refl
by_test P false x y h k = k refl

pub by_if : {A : Type 0} (b : Bool) (x y : Found A) (p : A) (P : Type 0)
    → (b ≡ true → x ≡ Is p → P) → (b ≡ false → y ≡ Is p → P) → (if b then x else y) ≡ Is p → P
by_if true x y p P h k is = h refl is
by_if false x y p P h k is = k refl is

pub by_map : {A B : Type 0} (f : A → B) (x : Found A) (p : B) (P : B → Type 0) → ((a : A) → x ≡ Is a → P (f a)) → found_map f x ≡ Is p → P p
by_map f Other p P h is = cc
by_map f OutOfRange p P h is = cc
by_map f (Is a) p P h is = let e : f a ≡ p = cc in subst P e (h a refl)

pub pair_is : {A B : Type 0} (x : Found A) (y : Found B) (t : A × B) → pair x y ≡ Is t → (x ≡ Is t.0) × (y ≡ Is t.1)
pair_is Other y t is = cc
pair_is OutOfRange Other t is = cc
pair_is OutOfRange OutOfRange t is = cc
pair_is OutOfRange (Is b) t is = cc
pair_is (Is a) Other t is = cc
pair_is (Is a) OutOfRange t is = cc
pair_is {A} {B} (Is a) (Is b) t is = let e : ◌≡◌ {A = A × B} (a, b) t = cc in (ap (λ (s : A × B). Is s.0) e, ap (λ (s : A × B). Is s.1) e)

pub only_is : {A : Type 0} (b : Bool) (x : Found A) (p : A) → only_if b x ≡ Is p → (b ≡ true) × (x ≡ Is p)
only_is true x p is = (refl, is)
only_is false x p is = cc

-- ## Ranges

in_test : (m n : ℕ) (b c : Bool) → (if b && c then Is m else OutOfRange) ≡ Is n → (b ≡ true) × ((c ≡ true) × (m ≡ n))
in_test m n true true is = let e : m ≡ n = cc in (refl, (refl, e))
in_test m n true false is = cc
in_test m n false c is = cc

pub range_is : (low high n : ℕ) (o : Option ℕ) → in_range low high o ≡ Is n → (o ≡ Some n) × ((low ≤ n) × (n ≤ high))
range_is low high n None is = cc
range_is low high n (Some m) is =
    let t = in_test m n (nat_le low m) (nat_le m high) is in
    let e : m ≡ n = t.1.1 in
    (ap (λ (k : ℕ). Some k) e, (subst (λ (k : ℕ). low ≤ k) e (leb-true low m t.0), subst (λ (k : ℕ). k ≤ high) e (leb-true m high t.1.0)))

in_range_by : (n : ℕ) (b c : Bool) → b ≡ true → c ≡ true → (if b && c then Is n else OutOfRange) ≡ Is n
in_range_by n true true h k = refl
in_range_by n true false h k = cc
in_range_by n false c h k = cc

pub range_of : (low high n : ℕ) (o : Option ℕ) → o ≡ Some n → low ≤ n → n ≤ high → in_range low high o ≡ Is n
range_of low high n o e from to = ap (in_range low high) e ∙ in_range_by n (nat_le low n) (nat_le n high) (le-leb low n from) (le-leb n high to)

-- ## The first place

-- here stands one that passes
pub record StandsAt {X : Type 0} (p : X → Bool) (xs : List X) (k : ℕ) : Type 0 where
  pub one : X
  pub parts : xs ≡ take k xs ++ (one ∷ drop (k + 1) xs)
  pub passes : p one ≡ true

parts_on : {X : Type 0} (x one : X) (xs : List X) (n : ℕ) → xs ≡ take n xs ++ (one ∷ drop (n + 1) xs)
    → x ∷ xs ≡ take (suc n) (x ∷ xs) ++ (one ∷ drop (suc n + 1) (x ∷ xs))
parts_on x one xs n h =
    ap (λ ys. x ∷ ys) (h ∙ ap (λ (k : ℕ). take n xs ++ (one ∷ drop k xs)) (add-one n))
    ∙ ap (λ (k : ℕ). x ∷ (take n xs ++ (one ∷ drop k (x ∷ xs)))) (sym (add-one (suc n)))

stands_step : {X : Type 0} (p : X → Bool) (x : X) (xs : List X) (b : Bool) (n : ℕ) → p x ≡ b → (b ≡ false → n < length xs → StandsAt p xs n)
    → cond (not b) (1 + n) 0 < length (x ∷ xs) → StandsAt p (x ∷ xs) (cond (not b) (1 + n) 0)
stands_step p x xs true n e h lt = record { one = x; parts = refl; passes = e }
stands_step {X} p x xs false n e h lt =
    let k : 1 + n ≡ suc n = one-add n in
    let at : StandsAt p xs n = h refl (omega arith) in
    let q : StandsAt p (x ∷ xs) (suc n) = record { one = at.one; parts = parts_on x at.one xs n at.parts; passes = at.passes } in
    subst (λ (j : ℕ). StandsAt p (x ∷ xs) j) (sym k) q

stands_len : {X : Type 0} (p : X → Bool) (xs : List X) → position_or_len p xs < length xs → StandsAt p xs (position_or_len p xs)
stands_len p [] lt = absurd (omega arith)
stands_len p (x ∷ xs) lt = stands_step p x xs (p x) (position_or_len p xs) refl (λ e less. stands_len p xs less) lt

stands_if : {X : Type 0} (p : X → Bool) (xs : List X) (n k : ℕ) (b : Bool) → (b ≡ true → StandsAt p xs n) → cond b (Some n) None ≡ Some k → StandsAt p xs k
stands_if p xs n k true h is = let e : n ≡ k = cc in subst (λ (j : ℕ). StandsAt p xs j) e (h refl)
stands_if p xs n k false h is = cc

below_true : (m n : ℕ) → nat_lt m n ≡ true → m < n
below_true m n h = grind (arith, common_steps, h)

pub position_is : {X : Type 0} (p : X → Bool) (xs : List X) (k : ℕ) → position p xs ≡ Some k → StandsAt p xs k
position_is p xs k is =
    stands_if p xs (position_or_len p xs) k (nat_lt (position_or_len p xs) (length xs)) (λ lt. stands_len p xs (below_true _ _ lt)) is

len_step : {X : Type 0} (p : X → Bool) (x : X) (n m : ℕ) (b : Bool) → p x ≡ b → b ≡ false → n ≡ m → cond (not (p x)) (1 + n) 0 ≡ suc m
len_step p x n m true e other h = cc
len_step p x n m false e other h = rw e (one-add n ∙ ap (λ (k : ℕ). suc k) h)

len_here : {X : Type 0} (p : X → Bool) (x : X) (n : ℕ) → p x ≡ true → cond (not (p x)) (1 + n) 0 ≡ 0
len_here p x n e = rw e refl

len_at : {X : Type 0} (p : X → Bool) (xs ys : List X) (x : X) → list_any p xs ≡ false → p x ≡ true → position_or_len p (xs ++ (x ∷ ys)) ≡ length xs
len_at p [] ys x none e = len_here p x (position_or_len p ys) e
len_at p (z ∷ xs) ys x none e =
    let t = both_false (p z) (list_any p xs) none in
    len_step p z (position_or_len p (xs ++ (x ∷ ys))) (length xs) (p z) refl t.0 (len_at p xs ys x t.1 e)

len_none : {X : Type 0} (p : X → Bool) (xs : List X) → list_any p xs ≡ false → position_or_len p xs ≡ length xs
len_none p [] none = refl
len_none p (z ∷ xs) none =
    let t = both_false (p z) (list_any p xs) none in
    len_step p z (position_or_len p xs) (length xs) (p z) refl t.0 (len_none p xs t.1)

longer : {X : Type 0} (xs ys : List X) (x : X) → nat_lt (length xs) (length (xs ++ (x ∷ ys))) ≡ true
longer xs ys x = grind (arith, common_steps)

not_longer : (n : ℕ) → nat_lt n n ≡ false
not_longer n = grind (arith, common_steps)

pub position_at : {X : Type 0} (p : X → Bool) (xs ys : List X) (x : X) → list_any p xs ≡ false → p x ≡ true → position p (xs ++ (x ∷ ys)) ≡ Some (length xs)
position_at p xs ys x none e =
    ap (λ (n : ℕ). cond (nat_lt n (length (xs ++ (x ∷ ys)))) (Some n) None) (len_at p xs ys x none e)
    ∙ ap (λ (b : Bool). cond b (Some (length xs)) None) (longer xs ys x)

pub position_none : {X : Type 0} (p : X → Bool) (xs : List X) → list_any p xs ≡ false → position p xs ≡ None
position_none p xs none =
    ap (λ (n : ℕ). cond (nat_lt n (length xs)) (Some n) None) (len_none p xs none)
    ∙ ap (λ (b : Bool). cond b (Some (length xs)) None) (not_longer (length xs))
