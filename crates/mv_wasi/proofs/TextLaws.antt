-- Texts, as a loop goes over them.
use Rattle.std.proofs.Common.{◌≡◌, ℕ, zero, suc, ◌+◌, ◌*◌, ◌^◌, ◌<◌, ◌≤◌, List, [], ◌∷◌, ◌++◌, length, drop, get_or, refl, sym, ap, ◌∙◌, arith, append_assoc, append-nil, length-append, drop-cons, add-one}
use Rattle.std.specs.Prelude.{◌/◌, ◌%◌, ◌&&◌, Bool, true, false}
use Rattle.std.proofs.lemmas.Bool.{leb-true}
use Rattle.std.specs.Int.{w32, to_le_bytes}
use Rattle.std.proofs.lemmas.Nat.{shr-shr}
use Rattle.mv_memory.specs.Bytes.{low_bytes, written}
use Rattle.mv_memory.specs.Memory.{Contents}
use Rattle.mv_wasi.specs.declared.made.Made.TheVariants.{Local}
use Rattle.mv_wasi.specs.Ranges.{is_within, with_number, text_size, text_bytes, place_bytes}
use Rattle.mv_wasi.specs.Decoding.{checked, sizes_answered}
use Rattle.mv_wasi.specs.Machines.{cleaned}

-- the text at a place, and those behind it
pub front : (texts : List (List ℕ)) (i : ℕ) (text : List ℕ) → i < length texts → text ≡ get_or texts i text → drop i texts ≡ text ∷ drop (i + 1) texts
front texts i text h is = rw add-one (drop-cons texts i text h ∙ ap (λ t. t ∷ drop (suc i) texts) (sym is))

pub past : (texts : List (List ℕ)) (i : ℕ) → length texts ≤ i → drop i texts ≡ []
past [] zero h = refl
past [] (suc i) h = refl
past (text ∷ texts) zero h = absurd (omega arith)
past (text ∷ texts) (suc i) h = past texts i (omega arith)

-- ---- what they take

pub size-more : (texts : List (List ℕ)) (i : ℕ) (text : List ℕ) → i < length texts → text ≡ get_or texts i text → text_size (drop i texts) ≡ length text + 1 + text_size (drop (i + 1) texts)
unfolding text_size
size-more texts i text h is = ap text_size (front texts i text h is)

pub size-past : (texts : List (List ℕ)) (i : ℕ) → length texts ≤ i → text_size (drop i texts) ≡ 0
unfolding text_size
size-past texts i h = ap text_size (past texts i h)

-- ---- the texts

pub bytes-more : (texts : List (List ℕ)) (i : ℕ) (text out now all : List ℕ) → i < length texts → text ≡ get_or texts i text → now ≡ (out ++ text) ++ 0 ∷ [] → out ++ text_bytes (drop i texts) ≡ all → now ++ text_bytes (drop (i + 1) texts) ≡ all
unfolding text_bytes
bytes-more texts i text out now all h is e whole =
    ap (λ xs. xs ++ text_bytes (drop (i + 1) texts)) e
    ∙ append_assoc (out ++ text) (0 ∷ []) (text_bytes (drop (i + 1) texts))
    ∙ append_assoc out text (0 ∷ text_bytes (drop (i + 1) texts))
    ∙ ap (λ t. out ++ text_bytes t) (sym (front texts i text h is))
    ∙ whole

pub bytes-past : (texts : List (List ℕ)) (i : ℕ) (out all : List ℕ) → length texts ≤ i → out ++ text_bytes (drop i texts) ≡ all → out ≡ all
unfolding text_bytes
bytes-past texts i out all h whole = sym (ap (λ t. out ++ text_bytes t) (past texts i h) ∙ append-nil out) ∙ whole

pub length-bytes : (texts : List (List ℕ)) → length (text_bytes texts) ≡ text_size texts
unfolding text_bytes text_size
length-bytes [] = refl
length-bytes (text ∷ more) = omega (arith, length-append text (0 ∷ text_bytes more), length-bytes more)

-- ---- their places

pub places-more : (texts : List (List ℕ)) (i place next : ℕ) (text out now all : List ℕ) → i < length texts → text ≡ get_or texts i text → next ≡ place + (length text + 1) → now ≡ out ++ low_bytes 4 place → out ++ place_bytes place (drop i texts) ≡ all → now ++ place_bytes next (drop (i + 1) texts) ≡ all
unfolding place_bytes
places-more texts i place next text out now all h is at e whole =
    let same : next ≡ place + length text + 1 = omega arith in
    ap (λ xs. xs ++ place_bytes next (drop (i + 1) texts)) e
    ∙ append_assoc out (low_bytes 4 place) (place_bytes next (drop (i + 1) texts))
    ∙ ap (λ n. out ++ (low_bytes 4 place ++ place_bytes n (drop (i + 1) texts))) same
    ∙ ap (λ t. out ++ place_bytes place t) (sym (front texts i text h is))
    ∙ whole

pub places-past : (texts : List (List ℕ)) (i place : ℕ) (out all : List ℕ) → length texts ≤ i → out ++ place_bytes place (drop i texts) ≡ all → out ≡ all
unfolding place_bytes
places-past texts i place out all h whole = sym (ap (λ t. out ++ place_bytes place t) (past texts i h) ∙ append-nil out) ∙ whole

pub length-places : (place : ℕ) (texts : List (List ℕ)) → length (place_bytes place texts) ≡ 4 * length texts
unfolding place_bytes low_bytes
length-places place [] = refl
length-places place (text ∷ more) = omega (arith, length-places (place + length text + 1) more)

-- ---- numbers of four bytes

pub word-bytes : (value : ℕ) → to_le_bytes w32 value ≡ low_bytes 4 value
unfolding low_bytes
word-bytes value =
    let two : value / 256 / 256 ≡ value / 65536 = shr-shr value 8 8 in
    let three : value / 65536 / 256 ≡ value / 16777216 = shr-shr value 16 8 in
    rw (two, three) refl

-- ---- what is answered at once

and-both : (a b : Bool) → a && b ≡ true → (a ≡ true) × (b ≡ true)
and-both true b e = (refl, e)
and-both false b e = absurd (let bad : false ≡ true = e in cc)

-- both ranges are in bounds
pub both-within : (m : List ℕ) (first first_len second second_len : ℕ) → is_within m first first_len && is_within m second second_len ≡ true → (first + first_len ≤ length m) × (second + second_len ≤ length m)
both-within m first first_len second second_len e =
    let both = and-both (is_within m first first_len) (is_within m second second_len) e in
    (leb-true _ _ both.0, leb-true _ _ both.1)

-- the two numbers that were written
pub sizes-written : (old new : Contents) (count_at size_at : ℕ) (texts : List (List ℕ)) (first second : List ℕ) → is_within old.bytes count_at 4 && is_within old.bytes size_at 4 ≡ true → first ≡ low_bytes 4 (length texts % 2 ^ 32) → second ≡ low_bytes 4 (text_size texts % 2 ^ 32) → cleaned new ≡ cleaned (record old { bytes = written (written old.bytes count_at first) size_at second }) → cleaned new ≡ cleaned (record old { bytes = (sizes_answered count_at size_at texts old.bytes).1 })
sizes-written old new count_at size_at texts first second inside f s h =
    h ∙ ap (λ b. cleaned (record old { bytes = b })) (
    ap (λ xs. written (written old.bytes count_at xs) size_at second) f
    ∙ ap (λ xs. written (written old.bytes count_at (low_bytes 4 (length texts % 2 ^ 32))) size_at xs) s
    ∙ sym (ap (λ within. (checked old.bytes false within (Local 0, with_number size_at 4 (text_size texts % 2 ^ 32) (with_number count_at 4 (length texts % 2 ^ 32) old.bytes))).1) inside))
