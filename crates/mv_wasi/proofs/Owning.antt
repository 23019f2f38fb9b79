-- Ranges that are owned, while others are owned and while bytes are written.
use Rattle.std.proofs.Common.{◌≡◌, ℕ, zero, suc, ◌+◌, ◌<◌, ◌≤◌, List, [], ◌∷◌, length, take, get_or, refl, sym, ap, ◌∙◌, subst, arith}
use Rattle.mv_memory.specs.Memory.{Contents, HasBytes}
use Rattle.mv_wasi.specs.Readies.{HasRange, HasRanges}

-- a part of a range, from its place on
pub range-front : (memory : Contents) (place len some : ℕ) → some ≤ len → HasRange memory place len → HasRange memory place some
range-front memory place len some le h = record { within = omega (arith, h.within); owned = record { at = λ byte from to. h.owned.at byte from (omega arith) } }

-- ---- more is owned

pub range-kept : (old new : Contents) (place len : ℕ) → HasBytes old new old.bytes → HasRange old place len → HasRange new place len
range-kept old new place len k h = record { within = omega (arith, k.size, h.within); owned = k.owned.at place len h.owned }

pub ranges-kept : (old new : Contents) (xs : List (ℕ × ℕ)) → HasBytes old new old.bytes → HasRanges old xs → HasRanges new xs
ranges-kept old new [] k h = tt
ranges-kept old new (x ∷ xs) k h = (range-kept old new x.0 x.1 k h.0, ranges-kept old new xs k h.1)

pub bytes-then : (a b c : Contents) → HasBytes a b a.bytes → HasBytes b c b.bytes → HasBytes a c a.bytes
bytes-then a b c h k = record {
  bytes = k.bytes ∙ h.bytes;
  size = k.size ∙ h.size;
  max = k.max ∙ h.max;
  owned = record { at = λ place len o. k.owned.at place len (h.owned.at place len o) };
}

pub bytes-same : (a : Contents) → HasBytes a a a.bytes
bytes-same a = record { bytes = refl; size = refl; max = refl; owned = record { at = λ place len o. o } }

-- one range more
pub ranges-more : (memory : Contents) (xs : List (ℕ × ℕ)) (i : ℕ) (d : ℕ × ℕ) → i < length xs → HasRanges memory (take i xs) → HasRange memory (get_or xs i d).0 (get_or xs i d).1 → HasRanges memory (take (i + 1) xs)
ranges-more memory [] i d lt h r = absurd (omega arith)
ranges-more memory (x ∷ xs) zero d lt h r = (r, tt)
ranges-more memory (x ∷ xs) (suc i) d lt h r =
    let one : suc i + 1 ≡ suc (i + 1) = omega arith in
    subst (λ n. HasRanges memory (take n (x ∷ xs))) (sym one) (h.0, ranges-more memory xs i d (omega arith) h.1 r)

-- ---- bytes are written

pub range-written : (memory : Contents) (bytes : List ℕ) (place len : ℕ) → length bytes ≡ length memory.bytes → HasRange memory place len → HasRange (record memory { bytes = bytes }) place len
range-written memory bytes place len e h = record { within = omega (arith, e, h.within); owned = record { at = h.owned.at } }

pub ranges-written : (memory : Contents) (bytes : List ℕ) (xs : List (ℕ × ℕ)) → length bytes ≡ length memory.bytes → HasRanges memory xs → HasRanges (record memory { bytes = bytes }) xs
ranges-written memory bytes [] e h = tt
ranges-written memory bytes (x ∷ xs) e h = (range-written memory bytes x.0 x.1 e h.0, ranges-written memory bytes xs e h.1)

-- bytes alone were written
pub same-written : (first before now : Contents) (bytes : List ℕ) → before ≡ record first { bytes = before.bytes } → now ≡ record before { bytes = bytes } → now ≡ record first { bytes = now.bytes }
same-written first before now bytes e k =
    k ∙ ap (λ (z : Contents). let r : Contents = record z { bytes = bytes } in r) e
    ∙ ap (λ z. let r : Contents = record first { bytes = z } in r) (sym (ap (λ (z : Contents). z.bytes) k))
