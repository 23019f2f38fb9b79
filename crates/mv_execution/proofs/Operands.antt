-- Lists of values that have types, and operands that are there.
use Rattle.std.proofs.Common.{true, false, cond, Bool, ◌≡◌, ℕ, zero, suc, ◌<◌, ◌^◌, List, [], ◌∷◌, ◌++◌, length, map, Option, Some, None, refl, sym, ap, subst, arith, lit<}
use Rattle.std.specs.Prelude.{slice_get, slice_set, option_and_then}
use Rattle.std.specs.Option.{option_map}
use Rattle.std.proofs.lemmas.Bool.{lt-ltb}
use Rattle.mv_syntax.specs.declared.ops.ValType.{ValType}
use Rattle.mv_syntax.specs.declared.ops.ValType.TheVariants.{I32, I64}
use Rattle.mv_syntax.specs.Types.{bit_width}
use Rattle.mv_validator.specs.Typing.{only_if}
use Rattle.mv_execution.specs.Values.{is_of, truth}
use Rattle.mv_execution.specs.Config.{Frame}
use Rattle.mv_execution.specs.Rows.{Out, Stuck, taking, popping}
use Rattle.mv_execution.specs.Fits.{IsOf, AreOf}

pub are-length : (ts : List ValType) (vs : List ℕ) → AreOf ts vs → length ts ≡ length vs
are-length [] [] h = refl
are-length [] (v ∷ vs) h = absurd h
are-length (t ∷ ts) [] h = absurd h
are-length (t ∷ ts) (v ∷ vs) h = ap suc (are-length ts vs h.1)

pub are-append : (xs ys : List ValType) (a b : List ℕ) → AreOf xs a → AreOf ys b → AreOf (xs ++ ys) (a ++ b)
are-append [] ys [] b h k = k
are-append [] ys (v ∷ a) b h k = absurd h
are-append (x ∷ xs) ys [] b h k = absurd h
are-append (x ∷ xs) ys (v ∷ a) b h k = (h.0, are-append xs ys a b h.1 k)

pub are-split : (xs ys : List ValType) (vs : List ℕ) → AreOf (xs ++ ys) vs → (a b : List ℕ) × (vs ≡ a ++ b) × AreOf xs a × AreOf ys b
are-split [] ys vs h = ([], vs, refl, tt, h)
are-split (x ∷ xs) ys [] h = absurd h
are-split (x ∷ xs) ys (v ∷ vs) h =
    let s = are-split xs ys vs h.1 in
    (v ∷ s.0, s.1, ap (λ l. v ∷ l) s.2, (h.0, s.3), s.4)

-- one operand
pub one : (t : ValType) (ts : List ValType) (own : List ℕ) → AreOf (t ∷ ts) own → (v : ℕ) × (rest : List ℕ) × (own ≡ v ∷ rest) × IsOf t v × AreOf ts rest
one t ts [] h = absurd h
one t ts (v ∷ rest) h = (v, rest, refl, h.0, h.1)

pub are-get : (ts : List ValType) (vs : List ℕ) (n : ℕ) (t : ValType) → AreOf ts vs → slice_get ts n ≡ Some t → (v : ℕ) × (slice_get vs n ≡ Some v) × IsOf t v
are-get [] vs n t h e = absurd (cc)
are-get (u ∷ ts) [] n t h e = absurd h
are-get (u ∷ ts) (v ∷ vs) zero t h e = let same : u ≡ t = cc in (v, refl, subst (λ x. IsOf x v) same h.0)
are-get (u ∷ ts) (v ∷ vs) (suc n) t h e = are-get ts vs n t h.1 e

pub are-set : (ts : List ValType) (vs : List ℕ) (n : ℕ) (t : ValType) (v : ℕ) → AreOf ts vs → slice_get ts n ≡ Some t → IsOf t v → AreOf ts (slice_set vs n v) × (n < length vs)
are-set [] vs n t v h e k = absurd (cc)
are-set (u ∷ ts) [] n t v h e k = absurd h
are-set (u ∷ ts) (w ∷ vs) zero t v h e k = let same : u ≡ t = cc in ((subst (λ x. IsOf x v) (sym same) k, h.1), omega arith)
are-set (u ∷ ts) (w ∷ vs) (suc n) t v h e k = let r = are-set ts vs n t v h.1 e k in ((h.0, r.0), omega (arith, r.1))

-- ---- what an answer that is there was made of

pub map-some : {A B : Type 0} (f : A → B) (o : Option A) (y : B) → option_map f o ≡ Some y → (x : A) × (o ≡ Some x) × (f x ≡ y)
map-some f None y h = absurd (cc)
map-some f (Some x) y h = (x, refl, cc)

pub then-some : {A B : Type 0} (f : A → Option B) (o : Option A) (y : B) → option_and_then f o ≡ Some y → (x : A) × (o ≡ Some x) × (f x ≡ Some y)
then-some f None y h = absurd (cc)
then-some f (Some x) y h = (x, refl, h)

pub only-some : {A : Type 0} (b : Bool) (x y : A) → only_if b x ≡ Some y → (b ≡ true) × (x ≡ y)
only-some false x y h = absurd (cc)
only-some true x y h = (refl, cc)

pub get-map : {A B : Type 0} (f : A → B) (xs : List A) (n : ℕ) (x : A) → slice_get xs n ≡ Some x → slice_get (map f xs) n ≡ Some (f x)
get-map f [] n x h = absurd (cc)
get-map f (y ∷ xs) zero x h = let same : y ≡ x = cc in ap (λ z. Some (f z)) same
get-map f (y ∷ xs) (suc n) x h = get-map f xs n x h

-- ---- operands that are taken

pub taken : {A : Type 0} (P : Out A → Type 0) (f : Frame) (next : ℕ → Frame → Out A) (v : ℕ) (below : List ℕ) → f.operands ≡ v ∷ below → P (next v (record f { operands = below })) → P (taking f next)
taken {A} P f next v below e p = subst (λ os. P (elim os as (λ z. Out A) [ [] ↦ Stuck | w ∷ ws ↦ next w (record f { operands = ws }) ])) (sym e) p

pub popped : {A : Type 0} (P : Out A → Type 0) (t : ValType) (f : Frame) (next : ℕ → Frame → Out A) (v : ℕ) (below : List ℕ) → f.operands ≡ v ∷ below → IsOf t v → P (next v (record f { operands = below })) → P (popping t f next)
popped {A} P t f next v below e k p =
    taken P f (λ w g. cond (is_of t w) (next w g) Stuck) v below e (subst (λ b. P (cond b (next v (record f { operands = below })) Stuck)) (sym (lt-ltb v (2 ^ bit_width t) k)) p)

pub truth-of : (b : Bool) → IsOf I32 (truth b)
truth-of true = lit< tt
truth-of false = lit< tt

pub width-some : (t : ValType) → 0 < bit_width t
width-some I32 = lit< tt
width-some I64 = lit< tt
