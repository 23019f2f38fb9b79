-- The numbers that the forms spell are those of the rules, WebAssembly Core 1.0, 5.2.2.
use Rattle.std.proofs.Common.{◌≡◌, ℕ, zero, suc, ◌+◌, ◌*◌, ◌-◌, ◌%◌, ◌≤◌, ◌<◌, Bool, true, false, List, [], ◌∷◌, Ok, Option, Some, None, refl, sym, subst, arith, inl, inr, ◌^◌, cond, ltb, min, ◌⊎◌, ◌∙◌, ap}
use Rattle.std.proofs.lemmas.Bool.{cases_lt, ltb-true, ltb-false, lt-ltb, le-ltb}
use Rattle.std.proofs.Math.Pow.{pow_mono}
use Rattle.std.specs.Prelude.{◌↔◌, nat_lt, if◌then◌else◌}
use Rattle.std.specs.Option.{option_map}
use Rattle.mv_syntax.specs.Numbers.{groups, number_of, u32, s32, s64, IsUnsigned, IsSigned, last_group}
use Rattle.mv_syntax.specs.Modules.{AreBytes}
use Rattle.mv_syntax.proofs.NumberParts.{groups_parts, groups_last, groups_more}
use Rattle.mv_syntax.specs.Forms.{means}

-- a number in groups of seven bits, as the forms have them: the last one, or one and the higher ones
abbrev pub InGroups : Bool → ℕ → List ℕ → ℕ → Type 0
InGroups signed width [] n = ⊥
InGroups signed width (b ∷ rest) n =
    ((b < 128) × (rest ≡ []) × (last_group signed width b ≡ Some n))
    ⊎ ((128 ≤ b) × (7 < width) × (high : ℕ) × InGroups signed (width - 7) rest high × (n ≡ b % 128 + 128 * high))

map_is : (f : ℕ → ℕ) (o : Option ℕ) (v : ℕ) → Some v ≡ option_map f o → (h : ℕ) × (o ≡ Some h) × (v ≡ f h)
map_is f (Some h) v e = (h, refl, cc)
map_is f None v e = absurd cc

no_groups : (signed : Bool) (w : ℕ) (text : List ℕ) (v : ℕ) → (groups signed zero w).spells text (Some v) → ⊥
unfolding groups
no_groups signed w text v s = let e : Some v ≡ None = s.1 in cc

pub number_of_groups : (k : ℕ) (signed : Bool) (width : ℕ) (text : List ℕ) (n : ℕ) → 7 * k < width + 7 → (groups signed k width).spells text (Some n) → InGroups signed width text n
number_of_groups zero signed width text n few s = absurd (no_groups signed width text n s)
number_of_groups (suc k) signed width text n few s = elim (groups_parts signed k width text (Some n) s) [
  | inl p ↦ subst (λ (t : List ℕ). InGroups signed width t n) (sym p.text_is) (inl (p.below, refl, sym p.value))
  | inr p ↦ (
      let e = map_is (λ h. p.byte % 128 + 128 * h) p.high n p.value in
      let rest : (groups signed k (width - 7)).spells p.rest (Some e.0) = subst (λ (o : Option ℕ). (groups signed k (width - 7)).spells p.rest o) e.1 p.spelled in
      let wide : 7 < width = wider k signed width p.rest e.0 few rest in
      subst (λ (t : List ℕ). InGroups signed width t n) (sym p.text_is) (inr (p.above, wide, e.0, number_of_groups k signed (width - 7) p.rest e.0 (omega arith) rest, e.2)))
] where
  wider : (k : ℕ) (signed : Bool) (width : ℕ) (rest : List ℕ) (v : ℕ) → 7 * suc k < width + 7 → (groups signed k (width - 7)).spells rest (Some v) → 7 < width
  wider zero signed width rest v few s = absurd (no_groups signed (width - 7) rest v s)
  wider (suc k) signed width rest v few s = omega arith

pub groups_of_number : (text : List ℕ) (k : ℕ) (signed : Bool) (width : ℕ) (n : ℕ) → width ≤ 7 * k → 1 ≤ width → InGroups signed width text n → (groups signed k width).spells text (Some n)
groups_of_number [] k signed width n enough some h = absurd h
groups_of_number (b ∷ rest) zero signed width n enough some h = absurd (omega arith)
groups_of_number (b ∷ rest) (suc k) signed width n enough some (inl h) =
    subst (λ (t : List ℕ). (groups signed (suc k) width).spells (b ∷ t) (Some n)) (sym h.1) (subst (λ (o : Option ℕ). (groups signed (suc k) width).spells (b ∷ []) o) h.2 (groups_last signed k width b h.0))
groups_of_number (b ∷ rest) (suc k) signed width n enough some (inr h) =
    subst (λ (v : ℕ). (groups signed (suc k) width).spells (b ∷ rest) (Some v)) (sym h.4) (groups_more signed k width b rest (Some h.2) h.0 (groups_of_number rest k signed (width - 7) h.2 (omega arith) (omega arith) h.3))

some_of : (o : Option ℕ) (n : ℕ) → number_of o ≡ Ok n → o ≡ Some n
some_of (Some m) n e = cc
some_of None n e = absurd cc

abbrev Numbers : Bool → ℕ → ℕ → List ℕ → ℕ → Type 0
Numbers signed k width text n = (means (groups signed k width) number_of).spells text n

numbers_law : (signed : Bool) (k width : ℕ) → 7 * k < width + 7 → width ≤ 7 * k → 1 ≤ width → (text : List ℕ) (n : ℕ) → Numbers signed k width text n ↔ InGroups signed width text n
numbers_law signed k width few enough some text n = (
  λ s. number_of_groups k signed width text n few (subst (λ (o : Option ℕ). (groups signed k width).spells text o) (some_of s.sign n s.meant) s.spelled),
  λ h. record { sign = Some n; spelled = groups_of_number text k signed width n enough some h; meant = refl },
)

pub u32_law : (text : List ℕ) (n : ℕ) → u32.spells text n ↔ InGroups false 32 text n
unfolding u32
u32_law text n = numbers_law false 5 32 (omega arith) (omega arith) (omega arith) text n

pub s32_law : (text : List ℕ) (n : ℕ) → s32.spells text n ↔ InGroups true 32 text n
unfolding s32
s32_law text n = numbers_law true 5 32 (omega arith) (omega arith) (omega arith) text n

pub s64_law : (text : List ℕ) (n : ℕ) → s64.spells text n ↔ InGroups true 64 text n
unfolding s64
s64_law text n = numbers_law true 10 64 (omega arith) (omega arith) (omega arith) text n

-- ---- the groups and the rules

rest_bytes : (b : ℕ) (rest : List ℕ) → AreBytes (b ∷ rest) → AreBytes rest
rest_bytes b rest h i = h (suc i)

no_bytes : AreBytes []
no_bytes i = omega arith

more_bytes : (b : ℕ) (rest : List ℕ) → b < 2 ^ 8 → AreBytes rest → AreBytes (b ∷ rest)
more_bytes b rest lt h zero = lt
more_bytes b rest lt h (suc i) = h i

one_byte : (b : ℕ) (rest : List ℕ) → b < 2 ^ 8 → rest ≡ [] → AreBytes (b ∷ rest)
one_byte b rest lt none = subst (λ (r : List ℕ). AreBytes (b ∷ r)) (sym none) (more_bytes b [] lt no_bytes)

low_bits : (b m n : ℕ) → 2 ^ 7 ≤ b → b < 2 ^ 8 → (n ≡ b % 128 + 128 * m) ↔ (n ≡ 2 ^ 7 * m + (b - 2 ^ 7))
low_bits b m n le lt = (λ e. omega arith, λ e. omega arith)

last_unsigned : (w b n : ℕ) → last_group false w b ≡ Some n → (b < 2 ^ w) × (n ≡ b)
last_unsigned w b n e = by (ltb b (2 ^ w)) refl e
  where
    by : (t : Bool) → ltb b (2 ^ w) ≡ t → cond t (Some b) None ≡ Some n → (b < 2 ^ w) × (n ≡ b)
    by true is e = let same : b ≡ n = cc in (ltb-true _ _ is, sym same)
    by false is e = absurd cc

unsigned_last : (w b n : ℕ) → b < 2 ^ w → n ≡ b → last_group false w b ≡ Some n
unsigned_last w b n lt e = let value : last_group false w b ≡ Some b = rw (lt-ltb b (2 ^ w) lt) refl in value ∙ ap (λ (x : ℕ). Some x) (sym e)

unsigned_from : (text : List ℕ) (w n : ℕ) → AreBytes text → InGroups false w text n → IsUnsigned w text n
unsigned_from [] w n bytes h = absurd h
unsigned_from (b ∷ rest) w n bytes (inl h) = let last = last_unsigned w b n h.2 in inl (h.0, last.0, h.1, last.1)
unsigned_from (b ∷ rest) w n bytes (inr h) = inr (h.0, bytes 0, h.1, h.2, unsigned_from rest (w - 7) h.2 (rest_bytes b rest bytes) h.3, (low_bits b h.2 n h.0 (bytes 0)).0 h.4)

unsigned_to : (text : List ℕ) (w n : ℕ) → IsUnsigned w text n → AreBytes text × InGroups false w text n
unsigned_to [] w n h = absurd h
unsigned_to (b ∷ rest) w n (inl h) = (one_byte b rest (omega (arith, h.0)) h.2, inl (h.0, h.2, unsigned_last w b n h.1 h.3))
unsigned_to (b ∷ rest) w n (inr h) =
    let high = unsigned_to rest (w - 7) h.3 h.4 in
    (more_bytes b rest h.1 high.0, inr (h.0, h.2, h.3, high.1, (low_bits b h.3 n h.0 h.1).1 h.5))

-- half of the numbers that the last group has bits for: at most 64, and at most those of the width
record Half (w : ℕ) : Type 0 where
  few : 2 ^ (min w 7 - 1) ≤ 2 ^ 6
  within : 2 ^ (min w 7 - 1) ≤ 2 ^ (w - 1)
  top : 2 ^ (w - 1) ≤ 2 ^ w
  least : (b : ℕ) → b < 2 ^ 6 → b < 2 ^ (w - 1) → b < 2 ^ (min w 7 - 1)
  most : (b : ℕ) → 2 ^ 6 ≤ b → 2 ^ 7 - 2 ^ (w - 1) ≤ b → 128 ≤ b + 2 ^ (min w 7 - 1)

half_of : (w : ℕ) → Half w
half_of w = elim (cases_lt w 7) [ inl lt ↦ narrow lt | inr le ↦ wide le ]
  where
    higher : 2 ^ (w - 1) ≤ 2 ^ w
    higher = let le : w - 1 ≤ w = omega arith in pow_mono le

    narrow : w < 7 → Half w
    narrow lt =
        let all : min w 7 ≡ w = omega arith in
        let is : 2 ^ (min w 7 - 1) ≡ 2 ^ (w - 1) = ap (λ (k : ℕ). 2 ^ (k - 1)) all in
        let less : w - 1 ≤ 6 = omega arith in
        let small : 2 ^ (w - 1) ≤ 2 ^ 6 = pow_mono less in
        record { few = omega (arith, is, small); within = omega (arith, is); top = higher; least = λ b low fits. omega (arith, is, fits); most = λ b high fits. omega (arith, is, fits, small) }

    wide : 7 ≤ w → Half w
    wide le =
        let seven : min w 7 ≡ 7 = omega arith in
        let is : 2 ^ (min w 7 - 1) ≡ 2 ^ 6 = ap (λ (k : ℕ). 2 ^ (k - 1)) seven in
        let more : 6 ≤ w - 1 = omega arith in
        let large : 2 ^ 6 ≤ 2 ^ (w - 1) = pow_mono more in
        record { few = omega (arith, is); within = omega (arith, is, large); top = higher; least = λ b low fits. omega (arith, is, low); most = λ b high fits. omega (arith, is, high) }

-- the last group of a number with a sign, by the two rules for one byte
abbrev Signed : ℕ → ℕ → ℕ → Type 0
Signed w b n = ((b < 2 ^ 6) × (b < 2 ^ (w - 1)) × (n ≡ b)) ⊎ ((2 ^ 6 ≤ b) × (2 ^ 7 - 2 ^ (w - 1) ≤ b) × (n + 2 ^ 7 ≡ b + 2 ^ w))

last_signed : (w b n : ℕ) → last_group true w b ≡ Some n → Signed w b n
last_signed w b n e = lower (nat_lt b (2 ^ (min w 7 - 1))) refl e
  where
    half : Half w
    half = half_of w

    upper : (t : Bool) → nat_lt (b + 2 ^ (min w 7 - 1)) 128 ≡ t → (if t then None else Some (b + 2 ^ w - 128)) ≡ Some n → Signed w b n
    upper true is e = absurd cc
    upper false is e =
        let same : b + 2 ^ w - 128 ≡ n = cc in
        let over : 128 ≤ b + 2 ^ (min w 7 - 1) = ltb-false _ _ is in
        inr (omega (arith, over, half.few), omega (arith, over, half.within), omega (arith, same, over, half.within, half.top))

    lower : (t : Bool) → nat_lt b (2 ^ (min w 7 - 1)) ≡ t → (if t then Some b else if nat_lt (b + 2 ^ (min w 7 - 1)) 128 then None else Some (b + 2 ^ w - 128)) ≡ Some n → Signed w b n
    lower true is e =
        let same : b ≡ n = cc in
        let less : b < 2 ^ (min w 7 - 1) = ltb-true _ _ is in
        inl (omega (arith, less, half.few), omega (arith, less, half.within), sym same)
    lower false is e = upper (nat_lt (b + 2 ^ (min w 7 - 1)) 128) refl e

signed_low : (w b n : ℕ) → b < 2 ^ 6 → b < 2 ^ (w - 1) → n ≡ b → last_group true w b ≡ Some n
signed_low w b n low fits e =
    let less : b < 2 ^ (min w 7 - 1) = (half_of w).least b low fits in
    let value : last_group true w b ≡ Some b = rw (lt-ltb b (2 ^ (min w 7 - 1)) less) refl in
    value ∙ ap (λ (x : ℕ). Some x) (sym e)

signed_high : (w b n : ℕ) → 2 ^ 6 ≤ b → 2 ^ 7 - 2 ^ (w - 1) ≤ b → n + 2 ^ 7 ≡ b + 2 ^ w → last_group true w b ≡ Some n
signed_high w b n high fits e =
    let half = half_of w in
    let not_low : 2 ^ (min w 7 - 1) ≤ b = omega (arith, half.few) in
    let over : 128 ≤ b + 2 ^ (min w 7 - 1) = half.most b high fits in
    let same : b + 2 ^ w - 128 ≡ n = omega (arith, e) in
    let value : last_group true w b ≡ Some (b + 2 ^ w - 128) = rw (le-ltb b (2 ^ (min w 7 - 1)) not_low, le-ltb (b + 2 ^ (min w 7 - 1)) 128 over) refl in
    value ∙ ap (λ (x : ℕ). Some x) same

signed_from : (text : List ℕ) (w n : ℕ) → AreBytes text → InGroups true w text n → IsSigned w text n
signed_from [] w n bytes h = absurd h
signed_from (b ∷ rest) w n bytes (inl h) = elim (last_signed w b n h.2) [
  | inl low ↦ inl (low.0, low.1, h.1, low.2)
  | inr high ↦ inr (inl (high.0, h.0, high.1, h.1, high.2))
]
signed_from (b ∷ rest) w n bytes (inr h) = inr (inr (h.0, bytes 0, h.1, h.2, signed_from rest (w - 7) h.2 (rest_bytes b rest bytes) h.3, (low_bits b h.2 n h.0 (bytes 0)).0 h.4))

signed_to : (text : List ℕ) (w n : ℕ) → IsSigned w text n → AreBytes text × InGroups true w text n
signed_to [] w n h = absurd h
signed_to (b ∷ rest) w n (inl h) = (one_byte b rest (omega (arith, h.0)) h.2, inl (omega (arith, h.0), h.2, signed_low w b n h.0 h.1 h.3))
signed_to (b ∷ rest) w n (inr (inl h)) = (one_byte b rest (omega (arith, h.1)) h.3, inl (h.1, h.3, signed_high w b n h.0 h.2 h.4))
signed_to (b ∷ rest) w n (inr (inr h)) =
    let high = signed_to rest (w - 7) h.3 h.4 in
    (more_bytes b rest h.1 high.0, inr (h.0, h.2, h.3, high.1, (low_bits b h.3 n h.0 h.1).1 h.5))

-- ---- the forms and the rules

pub u32_rules : (text : List ℕ) (n : ℕ) → (AreBytes text × u32.spells text n) ↔ IsUnsigned 32 text n
u32_rules text n = (λ s. unsigned_from text 32 n s.0 ((u32_law text n).0 s.1), λ h. let g = unsigned_to text 32 n h in (g.0, (u32_law text n).1 g.1))

pub s32_rules : (text : List ℕ) (n : ℕ) → (AreBytes text × s32.spells text n) ↔ IsSigned 32 text n
s32_rules text n = (λ s. signed_from text 32 n s.0 ((s32_law text n).0 s.1), λ h. let g = signed_to text 32 n h in (g.0, (s32_law text n).1 g.1))

pub s64_rules : (text : List ℕ) (n : ℕ) → (AreBytes text × s64.spells text n) ↔ IsSigned 64 text n
s64_rules text n = (λ s. signed_from text 64 n s.0 ((s64_law text n).0 s.1), λ h. let g = signed_to text 64 n h in (g.0, (s64_law text n).1 g.1))
