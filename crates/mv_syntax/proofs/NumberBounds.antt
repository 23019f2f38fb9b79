-- A number that has a spelling is below the power of two of its bits.
use Rattle.std.proofs.Common.{◌≡◌, ℕ, ◌+◌, ◌-◌, ◌%◌, ◌^◌, ◌<◌, ◌≤◌, Bool, true, false, List, [], ◌∷◌, Some, None, refl, inl, inr, arith}
use Rattle.std.proofs.lemmas.Bool.{ltb-true}
use Rattle.std.proofs.Math.Nat.{one-le-pow}
use Rattle.std.proofs.Math.Pow.{pow_mono}
use Rattle.std.specs.Prelude.{min, nat_lt, if◌then◌else◌}
use Rattle.mv_syntax.specs.Numbers.{last_group, u32, s32, s64}
use Rattle.mv_syntax.proofs.Powers.{seven_more}
use Rattle.mv_syntax.proofs.NumberLaws.{InGroups, u32_law, s32_law, s64_law}

-- ---- without a sign

last_below : (width b n : ℕ) → last_group false width b ≡ Some n → n < 2 ^ width
last_below width b n e = by (nat_lt b (2 ^ width)) refl e
  where
    by : (t : Bool) → nat_lt b (2 ^ width) ≡ t → (if t then Some b else None) ≡ Some n → n < 2 ^ width
    by true is e = let same : b ≡ n = cc in omega (arith, same, ltb-true _ _ is)
    by false is e = absurd cc

number_below : (text : List ℕ) (width n : ℕ) → InGroups false width text n → n < 2 ^ width
number_below [] width n h = absurd h
number_below (b ∷ rest) width n (inl h) = last_below width b n h.2
number_below (b ∷ rest) width n (inr h) =
    let low : b % 128 < 128 = omega arith in
    omega (arith, low, h.4, seven_more width (omega (arith, h.1)), number_below rest (width - 7) h.2 h.3)

pub u32_below : (text : List ℕ) (n : ℕ) → u32.spells text n → n < 2 ^ 32
u32_below text n s = number_below text 32 n ((u32_law text n).0 s)

-- ---- with a sign

last_fits : (width b n : ℕ) → b < 128 → last_group true width b ≡ Some n → n < 2 ^ width
last_fits width b n lt e = lower (nat_lt b (2 ^ (min width 7 - 1))) refl e
  where
    upper : (t : Bool) → (if t then None else Some (b + 2 ^ width - 128)) ≡ Some n → n < 2 ^ width
    upper true e = absurd cc
    upper false e =
        let same : b + 2 ^ width - 128 ≡ n = cc in
        omega (arith, same, one-le-pow width 2 (omega arith))

    lower : (t : Bool) → nat_lt b (2 ^ (min width 7 - 1)) ≡ t → (if t then Some b else if nat_lt (b + 2 ^ (min width 7 - 1)) 128 then None else Some (b + 2 ^ width - 128)) ≡ Some n → n < 2 ^ width
    lower true is e =
        let same : b ≡ n = cc in
        let below : min width 7 - 1 ≤ width = omega arith in
        let less : 2 ^ (min width 7 - 1) ≤ 2 ^ width = pow_mono below in
        omega (arith, same, ltb-true _ _ is, less)
    lower false is e = upper (nat_lt (b + 2 ^ (min width 7 - 1)) 128) e

number_fits : (text : List ℕ) (width n : ℕ) → InGroups true width text n → n < 2 ^ width
number_fits [] width n h = absurd h
number_fits (b ∷ rest) width n (inl h) = last_fits width b n h.0 h.2
number_fits (b ∷ rest) width n (inr h) =
    let low : b % 128 < 128 = omega arith in
    omega (arith, low, h.4, seven_more width (omega (arith, h.1)), number_fits rest (width - 7) h.2 h.3)

pub s32_fits : (text : List ℕ) (n : ℕ) → s32.spells text n → n < 2 ^ 32
s32_fits text n s = number_fits text 32 n ((s32_law text n).0 s)

pub s64_fits : (text : List ℕ) (n : ℕ) → s64.spells text n → n < 2 ^ 64
s64_fits text n s = number_fits text 64 n ((s64_law text n).0 s)
