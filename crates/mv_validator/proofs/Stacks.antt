-- For which operand types a frame stands.
use Rattle.std.proofs.Common.{true, false, cond, Bool, ◌≡◌, List, [], ◌∷◌, ◌++◌, Option, Some, None, refl, sym, ap, ◌∙◌, subst}
use Rattle.mv_syntax.specs.Types.{same_type}
use Rattle.std.specs.Prelude.{map, option_and_then}
use Rattle.std.specs.Option.{option_map}
use Rattle.mv_syntax.specs.declared.ops.ValType.{ValType}
use Rattle.mv_syntax.specs.declared.ops.ValType.TheVariants.{I32, I64}
use Rattle.mv_validator.specs.OperandStack.{fits_type, taken, all_taken, any_taken, operand_taken, met, both_met, two_met, selected}
use Rattle.mv_validator.specs.ControlFrames.{is_empty}

abbrev pub OperandStack : Type 0
OperandStack = List (Option ValType)

-- a known type is itself, and an unknown one is any
abbrev pub Fits : Option ValType → ValType → Type 0
Fits None t = Unit {0}
Fits (Some u) t = u ≡ t

-- The operand types for which known ones stand. In unreachable code any may lie below.
abbrev pub Stands : OperandStack → Bool → List ValType → Type 0
Stands [] true m = Unit {0}
Stands [] false m = m ≡ []
Stands (o ∷ os) unreachable [] = ⊥
Stands (o ∷ os) unreachable (t ∷ m) = Fits o t × Stands os unreachable m

pub same-is : (a b : ValType) → same_type a b ≡ true → a ≡ b
same-is I32 I32 h = refl
same-is I64 I64 h = refl
same-is I32 I64 h = absurd (cc)
same-is I64 I32 h = absurd (cc)

pub same-refl : (a : ValType) → same_type a a ≡ true
same-refl I32 = refl
same-refl I64 = refl

fits-is : (o : Option ValType) (t : ValType) → fits_type o t ≡ true → Fits o t
fits-is None t h = tt
fits-is (Some u) t h = same-is u t h

is-fits : (o : Option ValType) (t : ValType) → Fits o t → fits_type o t ≡ true
is-fits None t h = refl
is-fits (Some u) t h = rw h (same-refl t)

pub cond-some : {A : Type 0} (b : Bool) (x y : A) → cond b (Some x) None ≡ Some y → (b ≡ true) × (x ≡ y)
cond-some true x y h = (refl, cc)
cond-some false x y h = absurd (cc)

pub map-some : {A B : Type 0} (f : A → B) (o : Option A) (y : B) → option_map f o ≡ Some y → (x : A) × (o ≡ Some x) × (f x ≡ y)
map-some f None y h = absurd (cc)
map-some f (Some x) y h = (x, refl, cc)

pub bind-some : {A B : Type 0} (f : A → Option B) (o : Option A) (y : B) → option_and_then f o ≡ Some y → (x : A) × (o ≡ Some x) × (f x ≡ Some y)
bind-some f None y h = absurd (cc)
bind-some f (Some x) y h = (x, refl, h)

-- one operand of a type
pub taken-from : (t : ValType) (os rest : OperandStack) (unreachable : Bool) (m : List ValType) → taken t os unreachable ≡ Some rest → Stands rest unreachable m → Stands os unreachable (t ∷ m)
taken-from t [] rest true m h s = tt
taken-from t [] rest false m h s = absurd (cc)
taken-from t (o ∷ os) rest unreachable m h s =
    let c = cond-some (fits_type o t) os rest h in
    (fits-is o t c.0, subst (λ x. Stands x unreachable m) (sym c.1) s)

pub taken-to : (t : ValType) (os : OperandStack) (unreachable : Bool) (m : List ValType) → Stands os unreachable (t ∷ m) → (rest : OperandStack) × (taken t os unreachable ≡ Some rest) × Stands rest unreachable m
taken-to t [] true m s = ([], refl, tt)
taken-to t [] false m s = absurd (cc)
taken-to t (o ∷ os) unreachable m s = (os, ap (λ b. cond b (Some os) None) (is-fits o t s.0), s.1)

-- operands of types
pub all-from : (ts : List ValType) (os rest : OperandStack) (unreachable : Bool) (m : List ValType) → all_taken ts os unreachable ≡ Some rest → Stands rest unreachable m → Stands os unreachable (ts ++ m)
all-from [] os rest unreachable m h s = let e : os ≡ rest = cc in subst (λ x. Stands x unreachable m) (sym e) s
all-from (t ∷ ts) os rest unreachable m h s =
    let b = bind-some (λ x. all_taken ts x unreachable) (taken t os unreachable) rest h in
    taken-from t os b.0 unreachable (ts ++ m) b.1 (all-from ts b.0 rest unreachable m b.2 s)

pub all-to : (ts : List ValType) (os : OperandStack) (unreachable : Bool) (m : List ValType) → Stands os unreachable (ts ++ m) → (rest : OperandStack) × (all_taken ts os unreachable ≡ Some rest) × Stands rest unreachable m
all-to [] os unreachable m s = (os, refl, s)
all-to (t ∷ ts) os unreachable m s =
    let a = taken-to t os unreachable (ts ++ m) s in
    let b = all-to ts a.0 unreachable m a.2 in
    (b.0, ap (option_and_then (λ x. all_taken ts x unreachable)) a.1 ∙ b.1, b.2)

-- an operand of any type
pub any-from : (os rest : OperandStack) (unreachable : Bool) (m : List ValType) → any_taken os unreachable ≡ Some rest → Stands rest unreachable m → (t : ValType) × Stands os unreachable (t ∷ m)
any-from [] rest true m h s = (I32, tt)
any-from [] rest false m h s = absurd (cc)
any-from (None ∷ os) rest unreachable m h s = let e : os ≡ rest = cc in (I32, (tt, subst (λ x. Stands x unreachable m) (sym e) s))
any-from (Some u ∷ os) rest unreachable m h s = let e : os ≡ rest = cc in (u, (refl, subst (λ x. Stands x unreachable m) (sym e) s))

pub any-to : (t : ValType) (os : OperandStack) (unreachable : Bool) (m : List ValType) → Stands os unreachable (t ∷ m) → (rest : OperandStack) × (any_taken os unreachable ≡ Some rest) × Stands rest unreachable m
any-to t [] true m s = ([], refl, tt)
any-to t [] false m s = absurd (cc)
any-to t (o ∷ os) unreachable m s = (os, refl, s.1)

-- operands that were pushed
pub pushed-from : (ts : List ValType) (os : OperandStack) (unreachable : Bool) (m : List ValType) → Stands (map Some ts ++ os) unreachable m → (below : List ValType) × (m ≡ ts ++ below) × Stands os unreachable below
pushed-from [] os unreachable m s = (m, refl, s)
pushed-from (t ∷ ts) os unreachable [] s = absurd s
pushed-from (t ∷ ts) os unreachable (u ∷ m) s =
    let p = pushed-from ts os unreachable m s.1 in
    (p.0, ap (λ x. x ∷ m) (sym s.0) ∙ ap (λ l. t ∷ l) p.1, p.2)

pub pushed-to : (ts : List ValType) (os : OperandStack) (unreachable : Bool) (below : List ValType) → Stands os unreachable below → Stands (map Some ts ++ os) unreachable (ts ++ below)
pushed-to [] os unreachable below s = s
pushed-to (t ∷ ts) os unreachable below s = (refl, pushed-to ts os unreachable below s)

-- a frame stands for some operands
pub stands-some : (os : OperandStack) (unreachable : Bool) → (m : List ValType) × Stands os unreachable m
stands-some [] true = ([], tt)
stands-some [] false = ([], refl)
stands-some (None ∷ os) unreachable = let s = stands-some os unreachable in (I32 ∷ s.0, (tt, s.1))
stands-some (Some u ∷ os) unreachable = let s = stands-some os unreachable in (u ∷ s.0, (refl, s.1))

empty-is : {A : Type 0} (xs : List A) → is_empty xs ≡ true → xs ≡ []
empty-is [] h = refl
empty-is (x ∷ xs) h = absurd (cc)

pub append-none : {A : Type 0} (xs : List A) → xs ++ [] ≡ xs
append-none [] = refl
append-none (x ∷ xs) = ap (λ l. x ∷ l) (append-none xs)

stands-none : (unreachable : Bool) → Stands [] unreachable []
stands-none true = tt
stands-none false = refl

-- operands that are these and no more
pub exactly-from : (ts : List ValType) (os rest : OperandStack) (unreachable : Bool) → all_taken ts os unreachable ≡ Some rest → is_empty rest ≡ true → Stands os unreachable ts
exactly-from ts os rest unreachable h e =
    subst (λ x. Stands os unreachable x) (append-none ts) (all-from ts os rest unreachable [] h (subst (λ x. Stands x unreachable []) (sym (empty-is rest e)) (stands-none unreachable)))

no-more : (rest : OperandStack) (unreachable : Bool) → Stands rest unreachable [] → is_empty rest ≡ true
no-more [] unreachable s = refl
no-more (o ∷ os) unreachable s = absurd s

pub exactly-to : (ts : List ValType) (os : OperandStack) (unreachable : Bool) → Stands os unreachable ts → (rest : OperandStack) × (all_taken ts os unreachable ≡ Some rest) × (is_empty rest ≡ true)
exactly-to ts os unreachable s =
    let a = all-to ts os unreachable [] (subst (λ x. Stands os unreachable x) (sym (append-none ts)) s) in
    (a.0, a.1, no-more a.0 unreachable a.2)

-- an operand of which something is known
operand-from : (os rest : OperandStack) (o : Option ValType) (unreachable : Bool) (t : ValType) (m : List ValType) → operand_taken os unreachable ≡ Some (o, rest) → Fits o t → Stands rest unreachable m → Stands os unreachable (t ∷ m)
operand-from [] rest o true t m h f s = tt
operand-from [] rest o false t m h f s = absurd (cc)
operand-from (p ∷ os) rest o unreachable t m h f s =
    let e : (p, os) ≡ (o, rest) = cc in
    let front : p ≡ o = ap (λ (x : Option ValType × OperandStack). x.0) e in
    let back : os ≡ rest = ap (λ (x : Option ValType × OperandStack). x.1) e in
    (subst (λ x. Fits x t) (sym front) f, subst (λ x. Stands x unreachable m) (sym back) s)

operand-to : (os : OperandStack) (unreachable : Bool) (t : ValType) (m : List ValType) → Stands os unreachable (t ∷ m) → (o : Option ValType) × (rest : OperandStack) × (operand_taken os unreachable ≡ Some (o, rest)) × Fits o t × Stands rest unreachable m
operand-to [] true t m s = (None, [], refl, tt, tt)
operand-to [] false t m s = absurd (cc)
operand-to (o ∷ os) unreachable t m s = (o, os, refl, s.0, s.1)

-- two operands of one type
met-from : (a b o : Option ValType) (t : ValType) → met a b ≡ Some o → Fits o t → Fits a t × Fits b t
met-from None b o t h f = let e : b ≡ o = cc in (tt, subst (λ x. Fits x t) (sym e) f)
met-from (Some a) None o t h f = let e : Some a ≡ o = cc in (subst (λ x. Fits x t) (sym e) f, tt)
met-from (Some a) (Some b) o t h f =
    let c = cond-some (same_type a b) (Some a) o h in
    let here : a ≡ t = subst (λ x. Fits x t) (sym c.1) f in
    (here, sym (same-is a b c.0) ∙ here)

met-to : (a b : Option ValType) (t : ValType) → Fits a t → Fits b t → (o : Option ValType) × (met a b ≡ Some o) × Fits o t
met-to None b t f g = (b, refl, g)
met-to (Some a) None t f g = (Some a, refl, f)
met-to (Some a) (Some b) t f g = (Some a, ap (λ x. cond x (Some (Some a)) None) (ap (λ x. same_type x b) (f ∙ sym g) ∙ same-refl b), f)

-- both operands of a `select`, on the others
pub record Pair (os : OperandStack) (unreachable : Bool) (m : List ValType) : Type 0 where
  pub type : ValType
  pub below : List ValType
  pub is : m ≡ type ∷ below
  pub stands : Stands os unreachable (type ∷ type ∷ below)

both-from : (a : Option ValType) (b : Option (Option ValType × OperandStack)) (os rest : OperandStack) (unreachable : Bool) (m : List ValType) → operand_taken os unreachable ≡ b → both_met a b ≡ Some rest → Stands rest unreachable m → (t : ValType) × (below : List ValType) × (m ≡ t ∷ below) × Fits a t × Stands os unreachable (t ∷ below)
both-from a None os rest unreachable m e h s = absurd (cc)
both-from a (Some b) os rest unreachable m e h s =
    let k = map-some (λ o. o ∷ b.1) (met a b.0) rest h in
    by m k.0 (subst (λ x. Stands x unreachable m) (sym k.2) s) k.1
  where
    by : (n : List ValType) (o : Option ValType) → Stands (o ∷ b.1) unreachable n → met a b.0 ≡ Some o → (t : ValType) × (below : List ValType) × (n ≡ t ∷ below) × Fits a t × Stands os unreachable (t ∷ below)
    by [] o s' k = absurd s'
    by (t ∷ n) o s' k =
        let f = met-from a b.0 o t k s'.0 in
        (t, n, refl, f.0, operand-from os b.1 b.0 unreachable t n e f.1 s'.1)

two-from : (a : Option (Option ValType × OperandStack)) (os rest : OperandStack) (unreachable : Bool) (m : List ValType) → operand_taken os unreachable ≡ a → two_met unreachable a ≡ Some rest → Stands rest unreachable m → Pair os unreachable m
two-from None os rest unreachable m e h s = absurd (cc)
two-from (Some a) os rest unreachable m e h s =
    let k = both-from a.0 (operand_taken a.1 unreachable) a.1 rest unreachable m refl h s in
    record { type = k.0; below = k.1; is = k.2; stands = operand-from os a.1 a.0 unreachable k.0 (k.0 ∷ k.1) e k.3 k.4 }

-- a `select`
pub selected-from : (os rest : OperandStack) (unreachable : Bool) (m : List ValType) → selected os unreachable ≡ Some rest → Stands rest unreachable m → (t : ValType) × (below : List ValType) × (m ≡ t ∷ below) × Stands os unreachable (I32 ∷ t ∷ t ∷ below)
selected-from os rest unreachable m h s =
    let c = bind-some (λ x. two_met unreachable (operand_taken x unreachable)) (taken I32 os unreachable) rest h in
    let p = two-from (operand_taken c.0 unreachable) c.0 rest unreachable m refl c.2 s in
    (p.type, p.below, p.is, taken-from I32 os c.0 unreachable (p.type ∷ p.type ∷ p.below) c.1 p.stands)

pub selected-to : (t : ValType) (os : OperandStack) (unreachable : Bool) (m : List ValType) → Stands os unreachable (I32 ∷ t ∷ t ∷ m) → (rest : OperandStack) × (selected os unreachable ≡ Some rest) × Stands rest unreachable (t ∷ m)
selected-to t os unreachable m s =
    let c = taken-to I32 os unreachable (t ∷ t ∷ m) s in
    let a = operand-to c.0 unreachable t (t ∷ m) c.2 in
    let b = operand-to a.1 unreachable t m a.4 in
    let o = met-to a.0 b.0 t a.3 b.3 in (
      o.0 ∷ b.1,
      ap (option_and_then (λ x. two_met unreachable (operand_taken x unreachable))) c.1 ∙ ap (two_met unreachable) a.2 ∙ ap (both_met a.0) b.2 ∙ ap (option_map (λ x. x ∷ b.1)) o.1,
      (o.2, b.4),
    )
