-- One group more of a number.
use Rattle.std.proofs.Common.{◌≡◌, ℕ, zero, suc, ◌+◌, ◌-◌, ◌/◌, ◌%◌, ◌^◌, ◌≤◌, ◌<◌, List, [], ◌∷◌, ◌++◌, sym, append_assoc, arith, inl, inr}
use Rattle.std.proofs.lemmas.Bool.{cases_lt, lt-ltb, le-ltb}
use Rattle.mv_writer.specs.Written.{short_groups, half, short_signed}
use Rattle.mv_writer.proofs.ShortSigned.{half_is}

pub more_groups : (n v : ℕ) (bytes : List ℕ) → 1 ≤ n → 128 ≤ v → bytes ++ short_groups n v ≡ bytes ++ (128 + v % 128) ∷ [] ++ short_groups (n - 1) (v / 128)
more_groups zero v bytes some le = absurd (omega arith)
more_groups (suc n) v bytes some le =
    let e : suc n - 1 ≡ n = omega arith in
    rw (le-ltb v 128 le, e) (sym (append_assoc bytes ((128 + v % 128) ∷ []) (short_groups n (v / 128))))

-- a number that its low group does not hold has more than seven bits
pub wide : (w max v : ℕ) → 1 ≤ w → max + 1 ≡ 2 ^ w → half w ≤ v → v ≤ max - half w → 7 < w
wide w max v some e le more =
    let h = half_is w some in
    elim (cases_lt 7 w) [
      | inl lt ↦ lt
      | inr narrow ↦ absurd (omega (arith, h.narrow narrow, h.some))
    ]

pub more_signed : (n w max v : ℕ) (bytes : List ℕ) → 1 ≤ n → 1 ≤ w → max + 1 ≡ 2 ^ w → half w ≤ v → v ≤ max - half w → bytes ++ short_signed n w v ≡ bytes ++ (128 + v % 128) ∷ [] ++ short_signed (n - 1) (w - 7) (v / 128)
more_signed zero w max v bytes some bits e le more = absurd (omega arith)
more_signed (suc n) w max v bytes some bits e le more =
    let less : suc n - 1 ≡ n = omega arith in
    let below : v + half w < 2 ^ w = omega (arith, (half_is w bits).some) in
    rw (le-ltb v (half w) le, lt-ltb (v + half w) (2 ^ w) below, less) (sym (append_assoc bytes ((128 + v % 128) ∷ []) (short_signed n (w - 7) (v / 128))))
