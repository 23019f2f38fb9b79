-- What a writer gives are bytes.
use Rattle.std.proofs.Common.{◌≡◌, ℕ, zero, suc, ◌+◌, ◌*◌, ◌-◌, ◌/◌, ◌%◌, ◌^◌, ◌≤◌, ◌<◌, Bool, true, false, cond, ltb, List, [], ◌∷◌, ◌++◌, length, refl, arith}
use Rattle.std.specs.List.{AllByRecursion}
use Rattle.std.proofs.lemmas.Bool.{ltb-true}
use Rattle.mv_syntax.specs.Modules.{AreBytes}
use Rattle.mv_writer.specs.Written.{short_groups, short_u32, half, short_signed, short_s32, short_s64, behind_size}
use Rattle.std.specs.Prelude.{min}
use Rattle.std.proofs.Math.Pow.{pow_mono}
use Rattle.mv_syntax.proofs.Powers.{seven_more}

abbrev pub Small : List ℕ → Type 0
Small xs = AllByRecursion (λ b. b < 256) xs

pub small_append : (xs ys : List ℕ) → Small xs → Small ys → Small (xs ++ ys)
small_append [] ys h k = k
small_append (x ∷ xs) ys h k = (h.0, small_append xs ys h.1 k)

pub small_bytes : (xs : List ℕ) → Small xs → AreBytes xs
small_bytes [] h i = omega arith
small_bytes (x ∷ xs) h zero = h.0
small_bytes (x ∷ xs) h (suc i) = small_bytes xs h.1 i

pub bytes_small : (xs : List ℕ) → AreBytes xs → Small xs
bytes_small [] h = tt
bytes_small (x ∷ xs) h = (h 0, bytes_small xs (λ i. h (suc i)))

small_group : (v : ℕ) (rest : List ℕ) (t : Bool) → ltb v 128 ≡ t → Small rest → Small (cond t (v ∷ []) ((128 + v % 128) ∷ rest))
small_group v rest true is h = (omega (arith, ltb-true _ _ is), tt)
small_group v rest false is h = (omega arith, h)

small_groups : (n v : ℕ) → Small (short_groups n v)
small_groups zero v = tt
small_groups (suc n) v = small_group v (short_groups n (v / 128)) (ltb v 128) refl (small_groups n (v / 128))

pub small_u32 : (v : ℕ) → Small (short_u32 v)
unfolding short_u32
small_u32 v = small_groups 5 v

pub small_sized : (xs : List ℕ) → Small xs → Small (behind_size xs)
small_sized xs h = small_append (short_u32 (length xs)) xs (small_u32 (length xs)) h

half_few : (w : ℕ) → half w ≤ 64
half_few w = let le : min w 7 - 1 ≤ 6 = omega arith in pow_mono {i = min w 7 - 1} {j = 6} le

high_below : (w v : ℕ) → v < 2 ^ w → 7 ≤ w → v / 128 < 2 ^ (w - 7)
high_below w v lt le = omega (arith, seven_more w le)

small_signed_at : (w v : ℕ) (rest : List ℕ) (s t : Bool) → ltb v (half w) ≡ s → v < 2 ^ w → Small rest → Small (cond s (v ∷ []) (cond t ((128 + v % 128) ∷ rest) ((v + 128 - 2 ^ w) ∷ [])))
small_signed_at w v rest true t is lt h = (omega (arith, ltb-true _ _ is, half_few w), tt)
small_signed_at w v rest false true is lt h = (omega arith, h)
small_signed_at w v rest false false is lt h = (omega arith, tt)

-- one group more; the last takes up to seven bits
signed_more : (n w v : ℕ) → 7 ≤ w → ((u : ℕ) → u < 2 ^ (w - 7) → Small (short_signed n (w - 7) u)) → v < 2 ^ w → Small (short_signed (suc n) w v)
signed_more n w v le more lt = small_signed_at w v (short_signed n (w - 7) (v / 128)) (ltb v (half w)) (ltb (v + half w) (2 ^ w)) refl lt (more (v / 128) (high_below w v lt le))

signed_last : (w v : ℕ) → v < 2 ^ w → Small (short_signed 1 w v)
signed_last w v lt = small_signed_at w v [] (ltb v (half w)) (ltb (v + half w) (2 ^ w)) refl lt tt

small_signed : (n w v : ℕ) → 7 * n < w → v < 2 ^ w → Small (short_signed (suc n) w v)
small_signed zero w v le lt = signed_last w v lt
small_signed (suc n) w v le lt = signed_more (suc n) w v (omega arith) (λ (u : ℕ) (h : u < 2 ^ (w - 7)). small_signed n (w - 7) u (omega arith) h) lt

pub small_s32 : (v : ℕ) → v < 2 ^ 32 → Small (short_s32 v)
unfolding short_s32
small_s32 v lt = small_signed 4 32 v (omega arith) lt

pub small_s64 : (v : ℕ) → v < 2 ^ 64 → Small (short_s64 v)
unfolding short_s64
small_s64 v lt = small_signed 9 64 v (omega arith) lt
