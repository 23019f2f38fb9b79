-- The shortest form of a number with a sign.
use Rattle.std.proofs.Common.{◌≡◌, ℕ, zero, suc, ◌+◌, ◌*◌, ◌-◌, ◌/◌, ◌%◌, ◌^◌, ◌≤◌, ◌<◌, Bool, true, false, cond, ltb, min, List, [], ◌∷◌, length, Ok, Option, Some, None, refl, sym, ap, subst, ◌∙◌, arith, ◌⊎◌, inl, inr}
use Rattle.std.proofs.lemmas.Bool.{cases_lt, lt-ltb, le-ltb, ltb-true, ltb-false}
use Rattle.std.proofs.lemmas.Nat.{pow-add}
use Rattle.std.proofs.Math.Pow.{pow_mono}
use Rattle.std.specs.Option.{option_map}
use Rattle.mv_syntax.specs.Forms.{means}
use Rattle.mv_syntax.specs.Numbers.{groups, last_group, number_of, s32, s64}
use Rattle.mv_syntax.proofs.NumberParts.{groups_parts, groups_last, groups_more}
use Rattle.mv_syntax.proofs.Powers.{seven_more}
use Rattle.mv_writer.specs.Written.{half, short_signed, short_s32, short_s64}
use Rattle.mv_writer.proofs.ShortForms.{Shortens}

pub record HalfIs (w : ℕ) : Type 0 where
  pub most : half w ≤ 64
  pub some : 1 ≤ half w
  pub narrow : w ≤ 7 → 2 * half w ≡ 2 ^ w
  pub fits : 2 * half w ≤ 2 ^ w

pub half_is : (w : ℕ) → 1 ≤ w → HalfIs w
half_is w le = elim (cases_lt 7 w) [
  | inl wide ↦ (
      let m : min w 7 ≡ 7 = omega arith in
      let h : half w ≡ 64 = rw m refl in
      let top : 2 ^ 7 ≤ 2 ^ w = pow_mono {i = 7} {j = w} (omega arith) in
      record { most = omega arith; some = omega arith; narrow = λ small. absurd (omega arith); fits = omega arith })
  | inr small ↦ (
      let m : min w 7 ≡ w = omega arith in
      let h : half w ≡ 2 ^ (w - 1) = rw m refl in
      let split : w ≡ 1 + (w - 1) = omega arith in
      let two : 2 ^ w ≡ 2 * 2 ^ (w - 1) = ap (λ (k : ℕ). 2 ^ k) split ∙ pow-add 2 1 (w - 1) in
      let top : 2 ^ (w - 1) ≤ 2 ^ 6 = pow_mono {i = w - 1} {j = 6} (omega arith) in
      let least : 2 ^ 0 ≤ 2 ^ (w - 1) = pow_mono {i = 0} {j = w - 1} (omega arith) in
      record { most = omega arith; some = omega arith; narrow = λ _. omega arith; fits = omega arith })
]

pub signed_made : (n w v : ℕ) → 1 ≤ w → w ≤ 7 * n → v < 2 ^ w → (groups true n w).spells (short_signed n w v) (Some v)
signed_made zero w v some le lt = absurd (omega arith)
signed_made (suc n) w v some le lt =
    let h = half_is w some in
    elim (cases_lt v (half w)) [
      | inl small ↦ (
          let value : last_group true w v ≡ Some v = rw (lt-ltb v (half w) small) refl in
          let made = subst (λ (o : Option ℕ). (groups true (suc n) w).spells (v ∷ []) o) value (groups_last true n w v (omega (arith, h.most))) in
          subst (λ (t : Bool). (groups true (suc n) w).spells (cond t (v ∷ []) (cond (ltb (v + half w) (2 ^ w)) ((128 + v % 128) ∷ short_signed n (w - 7) (v / 128)) ((v + 128 - 2 ^ w) ∷ []))) (Some v)) (sym (lt-ltb v (half w) small)) made)
      | inr large ↦ elim (cases_lt (v + half w) (2 ^ w)) [
        | inl more ↦ (
            let wide : 7 < w = wider w v h large more in
            let high : v / 128 < 2 ^ (w - 7) = omega (arith, seven_more w (omega arith)) in
            let sum : (128 + v % 128) % 128 + 128 * (v / 128) ≡ v = omega arith in
            let made = groups_more true n w (128 + v % 128) (short_signed n (w - 7) (v / 128)) (Some (v / 128)) (omega arith) (signed_made n (w - 7) (v / 128) (omega arith) (omega arith) high) in
            let all : (groups true (suc n) w).spells ((128 + v % 128) ∷ short_signed n (w - 7) (v / 128)) (Some v) = subst (λ (x : ℕ). (groups true (suc n) w).spells ((128 + v % 128) ∷ short_signed n (w - 7) (v / 128)) (Some x)) sum made in
            rw (le-ltb v (half w) large, lt-ltb (v + half w) (2 ^ w) more) all)
        | inr negative ↦ (
            let b : ℕ = v + 128 - 2 ^ w in
            let below : v + 128 - 2 ^ w < 128 = omega arith in
            let not_small : half w ≤ v + 128 - 2 ^ w = omega (arith, h.most) in
            let in_range : 128 ≤ v + 128 - 2 ^ w + half w = omega (arith, h.most) in
            let back : v + 128 - 2 ^ w + 2 ^ w - 128 ≡ v = omega (arith, h.most) in
            let value : last_group true w (v + 128 - 2 ^ w) ≡ Some v = rw (le-ltb (v + 128 - 2 ^ w) (half w) not_small, le-ltb (v + 128 - 2 ^ w + half w) 128 in_range) (ap (λ (x : ℕ). Some x) back) in
            let made = subst (λ (o : Option ℕ). (groups true (suc n) w).spells ((v + 128 - 2 ^ w) ∷ []) o) value (groups_last true n w (v + 128 - 2 ^ w) below) in
            rw (le-ltb v (half w) large, le-ltb (v + half w) (2 ^ w) negative) made)
      ]
    ] where
      wider : (w v : ℕ) → HalfIs w → half w ≤ v → v + half w < 2 ^ w → 7 < w
      wider w v h large more = elim (cases_lt 7 w) [ inl lt ↦ lt | inr le ↦ absurd (omega (arith, h.narrow le)) ]

map_is : (f : ℕ → ℕ) (o : Option ℕ) (v : ℕ) → Some v ≡ option_map f o → (h : ℕ) × (o ≡ Some h) × (v ≡ f h)
map_is f (Some h) v e = (h, refl, cc)
map_is f None v e = absurd cc

no_groups : (w : ℕ) (text : List ℕ) (v : ℕ) → (groups true zero w).spells text (Some v) → ⊥
unfolding groups
no_groups w text v s = let e : Some v ≡ None = s.1 in cc

-- what the last group stands for: itself, or a negative number
last_is : (w b : ℕ) (s t : Bool) (v : ℕ) → ltb b (half w) ≡ s → ltb (b + half w) 128 ≡ t → Some v ≡ cond s (Some b) (cond t None (Some (b + 2 ^ w - 128))) → ((b < half w) × (v ≡ b)) ⊎ ((half w ≤ b) × (128 ≤ b + half w) × (v ≡ b + 2 ^ w - 128))
last_is w b true t v sb tb e = inl (ltb-true _ _ sb, cc)
last_is w b false true v sb tb e = absurd cc
last_is w b false false v sb tb e = inr (ltb-false _ _ sb, ltb-false _ _ tb, cc)

-- the length of the shortest form, by its two tests
signed_length : (n w v k : ℕ) (s t : Bool) → ltb v (half w) ≡ s → ltb (v + half w) (2 ^ w) ≡ t → 1 ≤ k → ((half w ≤ v) → (v + half w < 2 ^ w) → 1 + length (short_signed n (w - 7) (v / 128)) ≤ k)
    → length (cond s (v ∷ []) (cond t ((128 + v % 128) ∷ short_signed n (w - 7) (v / 128)) ((v + 128 - 2 ^ w) ∷ []))) ≤ k
signed_length n w v k true t sb tb one more = omega arith
signed_length n w v k false true sb tb one more = omega (arith, more (ltb-false _ _ sb) (ltb-true _ _ tb))
signed_length n w v k false false sb tb one more = omega arith

pub signed_short : (n w : ℕ) (text : List ℕ) (v : ℕ) → 7 * n < w + 7 → 1 ≤ w → (groups true n w).spells text (Some v) → (v < 2 ^ w) × (length (short_signed n w v) ≤ length text)
signed_short zero w text v wide some s = absurd (no_groups w text v s)
signed_short (suc n) w text v wide some s =
    let h = half_is w some in
    elim (groups_parts true n w text (Some v) s) [
      | inl p ↦ elim (last_is w p.byte (ltb p.byte (half w)) (ltb (p.byte + half w) 128) v refl refl p.value) [
        | inl q ↦ (omega (arith, q.0, q.1, h.fits, h.some), signed_length n w v (length text) (ltb v (half w)) (ltb (v + half w) (2 ^ w)) refl refl (omega (arith, ap length p.text_is)) (λ large more. absurd (omega (arith, q.0, q.1))))
        | inr q ↦ (omega (arith, q.2, p.below, h.fits, h.some, h.most), signed_length n w v (length text) (ltb v (half w)) (ltb (v + half w) (2 ^ w)) refl refl (omega (arith, ap length p.text_is)) (λ large more. absurd (omega (arith, q.1, q.2, h.fits, h.most))))
      ]
      | inr p ↦ (
          let e = map_is (λ x. p.byte % 128 + 128 * x) p.high v p.value in
          let rest : (groups true n (w - 7)).spells p.rest (Some e.0) = subst (λ (o : Option ℕ). (groups true n (w - 7)).spells p.rest o) e.1 p.spelled in
          let le : 7 < w = wider n w p.rest e.0 wide rest in
          let r = signed_short n (w - 7) p.rest e.0 (omega arith) (omega arith) rest in
          let high-is : v / 128 ≡ e.0 = omega (arith, e.2) in
          let len : length (short_signed n (w - 7) (v / 128)) ≤ length p.rest = omega (arith, ap length (ap (short_signed n (w - 7)) high-is), r.1) in
          (omega (arith, e.2, r.0, seven_more w (omega arith)), signed_length n w v (length text) (ltb v (half w)) (ltb (v + half w) (2 ^ w)) refl refl (omega (arith, ap length p.text_is)) (λ large more. omega (arith, ap length p.text_is, len))))
    ] where
      wider : (n w : ℕ) (rest : List ℕ) (v : ℕ) → 7 * suc n < w + 7 → (groups true n (w - 7)).spells rest (Some v) → 7 < w
      wider zero w rest v few s = absurd (no_groups (w - 7) rest v s)
      wider (suc n) w rest v few s = omega arith

some_number : (o : Option ℕ) (v : ℕ) → number_of o ≡ Ok v → o ≡ Some v
some_number (Some n) v e = cc
some_number None v e = absurd cc

signed_shortens : (n w : ℕ) → 7 * n < w + 7 → w ≤ 7 * n → 1 ≤ w → Shortens (means (groups true n w) number_of) (short_signed n w)
signed_shortens n w few enough some = record {
  again = λ text v s.
      let r = signed_short n w text v few some (subst (λ (o : Option ℕ). (groups true n w).spells text o) (some_number s.sign v s.meant) s.spelled) in
      record { sign = Some v; spelled = signed_made n w v some enough r.0; meant = refl };
  shorter = λ text v s. (signed_short n w text v few some (subst (λ (o : Option ℕ). (groups true n w).spells text o) (some_number s.sign v s.meant) s.spelled)).1;
}

pub s32_short : Shortens s32 short_s32
unfolding s32 short_s32
s32_short = signed_shortens 5 32 (omega arith) (omega arith) (omega arith)

pub s64_short : Shortens s64 short_s64
unfolding s64 short_s64
s64_short = signed_shortens 10 64 (omega arith) (omega arith) (omega arith)

pub s32_below : (text : List ℕ) (v : ℕ) → s32.spells text v → v < 2 ^ 32
unfolding s32
s32_below text v s = (signed_short 5 32 text v (omega arith) (omega arith) (subst (λ (o : Option ℕ). (groups true 5 32).spells text o) (some_number s.sign v s.meant) s.spelled)).0
