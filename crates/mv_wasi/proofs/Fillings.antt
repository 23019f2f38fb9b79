-- The pieces of a read: collected one by one, and filled one by one.
use Rattle.std.proofs.Common.{◌≡◌, ℕ, ◌+◌, ◌-◌, ◌*◌, ◌<◌, ◌≤◌, List, [], ◌∷◌, ◌++◌, length, take, drop, get_or, refl, sym, ap, ◌∙◌, subst, arith, append_assoc, append-nil, length-drop, inl, inr}
use Rattle.std.specs.Prelude.{min, slice_range}
use Rattle.std.proofs.lemmas.Bool.{cases_lt}
use Rattle.std.proofs.lemmas.List.{drop_more, drop_all, drop-drop, take_all, length-take}
use Rattle.mv_memory.specs.Bytes.{written}
use Rattle.mv_memory.specs.Memory.{Contents}
use Rattle.mv_memory.proofs.BytesLemmas.{length-written}
use Rattle.mv_wasi.specs.Ranges.{piece_at, scattered}
use Rattle.mv_wasi.specs.Readies.{HasRange, HasRanges}
use Rattle.mv_wasi.proofs.Pieces.{rest_of, rest_is, rest_is_none}
use Rattle.mv_wasi.proofs.Owning.{ranges-written}

-- one piece more was collected
pub collected-more : (m : List ℕ) (iovs count index : ℕ) (before now all : List (ℕ × ℕ)) (piece : ℕ × ℕ) → index < count → now ≡ before ++ piece ∷ [] → piece ≡ piece_at m (iovs + 8 * index) →
    before ++ rest_of m iovs count index ≡ all → now ++ rest_of m iovs count (index + 1) ≡ all
collected-more m iovs count index before now all piece lt is at whole =
    ap (λ xs. xs ++ rest_of m iovs count (index + 1)) is
    ∙ append_assoc before (piece ∷ []) (rest_of m iovs count (index + 1))
    ∙ ap (λ (p : ℕ × ℕ). before ++ (p ∷ rest_of m iovs count (index + 1))) at
    ∙ ap (λ xs. before ++ xs) (sym (rest_is m iovs count index lt))
    ∙ whole

-- all were collected
pub collected-all : (m : List ℕ) (iovs count index : ℕ) (now all : List (ℕ × ℕ)) → index ≡ count → now ++ rest_of m iovs count index ≡ all → now ≡ all
collected-all m iovs count index now all e whole =
    sym (ap (λ xs. now ++ xs) (ap (rest_of m iovs count) e ∙ rest_is_none m iovs count) ∙ append-nil now) ∙ whole

-- ---- filled

-- what is left of the bytes behind one piece
left-over : (bytes : List ℕ) (done len some : ℕ) → done ≤ length bytes → some ≡ min (length bytes - done) len → drop len (drop done bytes) ≡ drop (done + some) bytes
left-over bytes done len some le e =
    elim (cases_lt len (length bytes - done)) [
      | inl all ↦ (let k : done + len ≡ done + some = omega arith in drop-drop len done bytes ∙ ap (λ n. drop n bytes) k)
      | inr cut ↦ (
          let left : length (drop done bytes) ≤ len = omega (arith, length-drop done bytes) in
          drop_all len (drop done bytes) left ∙ sym (drop_all (done + some) bytes (omega arith)))
    ]

-- what is written to it
put-in : (bytes : List ℕ) (done len some : ℕ) → done ≤ length bytes → some ≡ min (length bytes - done) len → take len (drop done bytes) ≡ slice_range bytes done (done + some)
put-in bytes done len some le e =
    let range : slice_range bytes done (done + some) ≡ take some (drop done bytes) = (let k : done + some - done ≡ some = omega arith in ap (λ n. take n (drop done bytes)) k) in
    elim (cases_lt len (length bytes - done)) [
      | inl all ↦ (let k : len ≡ some = omega arith in ap (λ n. take n (drop done bytes)) k ∙ sym range)
      | inr cut ↦ (
          let left : length (drop done bytes) ≤ len = omega (arith, length-drop done bytes) in
          let whole : length (drop done bytes) ≤ some = omega (arith, length-drop done bytes) in
          take_all len (drop done bytes) left ∙ sym (take_all some (drop done bytes) whole) ∙ sym range)
    ]

pub chunk-length : (bytes : List ℕ) (done len some : ℕ) → done ≤ length bytes → some ≡ min (length bytes - done) len → length (slice_range bytes done (done + some)) ≤ len
chunk-length bytes done len some le e = omega (arith, ap length (put-in bytes done len some le e), length-take len (drop done bytes))

-- one piece more was filled
pub filled-more : (xs : List (ℕ × ℕ)) (i done some : ℕ) (d : ℕ × ℕ) (bytes m all : List ℕ) → i < length xs → done ≤ length bytes → some ≡ min (length bytes - done) (get_or xs i d).1 →
    scattered (drop i xs) (drop done bytes) m ≡ all → scattered (drop (i + 1) xs) (drop (done + some) bytes) (written m (get_or xs i d).0 (slice_range bytes done (done + some))) ≡ all
unfolding scattered
filled-more xs i done some d bytes m all lt le e whole =
    sym (
    ap (λ (ys : List (ℕ × ℕ)). scattered ys (drop done bytes) m) (drop_more xs i d lt)
    ∙ ap (λ b. scattered (drop (i + 1) xs) b (written m (get_or xs i d).0 (take (get_or xs i d).1 (drop done bytes)))) (left-over bytes done (get_or xs i d).1 some le e)
    ∙ ap (λ b. scattered (drop (i + 1) xs) (drop (done + some) bytes) (written m (get_or xs i d).0 b)) (put-in bytes done (get_or xs i d).1 some le e))
    ∙ whole

-- all were filled
pub filled-all : (xs : List (ℕ × ℕ)) (i : ℕ) (bytes m all : List ℕ) → length xs ≤ i → scattered (drop i xs) bytes m ≡ all → m ≡ all
unfolding scattered
filled-all xs i bytes m all le whole = sym (ap (λ (ys : List (ℕ × ℕ)). scattered ys bytes m) (drop_all i xs le)) ∙ whole

-- the first piece of those that are left, and the others
pub ranges-first : (memory : Contents) (xs : List (ℕ × ℕ)) (i : ℕ) (d : ℕ × ℕ) → i < length xs → HasRanges memory (drop i xs) → HasRange memory (get_or xs i d).0 (get_or xs i d).1 × HasRanges memory (drop (i + 1) xs)
ranges-first memory xs i d lt h = subst (HasRanges memory) (drop_more xs i d lt) h

-- filling keeps the size
pub length-scattered : (xs : List (ℕ × ℕ)) (memory : Contents) (bytes : List ℕ) → HasRanges memory xs → length (scattered xs bytes memory.bytes) ≡ length memory.bytes
unfolding scattered
length-scattered [] memory bytes h = refl
length-scattered (x ∷ xs) memory bytes h =
    let fits : x.0 + length (take x.1 bytes) ≤ length memory.bytes = omega (arith, h.0.within, length-take x.1 bytes) in
    let same : length (written memory.bytes x.0 (take x.1 bytes)) ≡ length memory.bytes = length-written memory.bytes x.0 (take x.1 bytes) fits in
    length-scattered xs (record memory { bytes = written memory.bytes x.0 (take x.1 bytes) }) (drop x.1 bytes) (ranges-written memory (written memory.bytes x.0 (take x.1 bytes)) xs same h.1) ∙ same
