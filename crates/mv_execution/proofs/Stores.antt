-- The store keeps its types: bytes that are read and written, and pages that are added.
use Rattle.std.proofs.Common.{true, false, Bool, ◌≡◌, ℕ, zero, suc, ◌+◌, ◌*◌, ◌/◌, ◌%◌, ◌^◌, ◌<◌, ◌≤◌, List, [], ◌++◌, length, get_or, Option, Some, None, refl, sym, subst, arith, length-append, lit<, inl, inr, ⊎_elim}
use Rattle.std.specs.Prelude.{All, slice_range, ◌==◌, ◌||◌, ◌⊎◌}
use Rattle.std.proofs.Math.Nat.{add-mul-div_right, min-le_right}
use Rattle.std.proofs.Math.Pow.{pow_mono}
use Rattle.std.proofs.lemmas.Nat.{mod_below}
use Rattle.std.proofs.lemmas.Bool.{eqb-true, cases_lt}
use Rattle.std.proofs.lemmas.List.{get_or_past}
use Rattle.std.proofs.lemmas.Grind.{common_steps}
use Rattle.std.proofs.lemmas.List.Elements.{All-append, All-get_or, All-take, All-drop, All-nil, All-cons}
use Rattle.mv_syntax.specs.declared.ops.ValType.{ValType}
use Rattle.mv_syntax.specs.declared.ops.ValType.TheVariants.{I32, I64}
use Rattle.mv_syntax.specs.Types.{bit_width}
use Rattle.mv_memory.specs.Bytes.{page_size, page_limit, most_pages, little_endian, low_bytes, IsByte, IsWidth}
use Rattle.mv_memory.specs.Memory.{Contents, page_count, grown}
use Rattle.mv_memory.proofs.BytesLemmas.{length-zeros, little_endian-lt, width-fits}
use Rattle.mv_execution.specs.Values.{is_width}

pub bytes-low : (count n : ℕ) → All IsByte (low_bytes count n)
unfolding low_bytes
bytes-low zero n = All-nil IsByte
bytes-low (suc count) n = All-cons IsByte (n % 256) (low_bytes count (n / 256)) (mod_below n 256 (lit< tt)) (bytes-low count (n / 256))

pub grown-count : (m : Contents) (n : ℕ) → page_count (grown m n) ≡ page_count m + n
grown-count m n = rw (length-append, length-zeros) (add-mul-div_right (length m.bytes) n {z = page_size} (lit< tt))

pub most-limit : (max : Option ℕ) → most_pages max ≤ page_limit
most-limit None = omega arith
most-limit (Some n) = min-le_right n page_limit

-- the widths of accesses
or-cases : (a b : Bool) → (a || b) ≡ true → (a ≡ true) ⊎ (b ≡ true)
or-cases true b h = inl refl
or-cases false b h = inr h

abbrev IsWidthOf : ValType → ℕ → Type 0
IsWidthOf t n = IsWidth n × (8 * n ≤ bit_width t)

pub width-of : (t : ValType) (n : ℕ) → is_width t n ≡ true → IsWidthOf t n
width-of I32 n h =
    ⊎_elim (λ e. (inl (eqb-true n 1 e), omega (arith, eqb-true n 1 e)))
    (λ h2. ⊎_elim (λ e. (inr (inl (eqb-true n 2 e)), omega (arith, eqb-true n 2 e))) (λ e. (inr (inr (inl (eqb-true n 4 e))), omega (arith, eqb-true n 4 e))) (or-cases (n == 2) (n == 4) h2))
    (or-cases (n == 1) (n == 2 || n == 4) h)
width-of I64 n h =
    ⊎_elim (λ e. (inl (eqb-true n 1 e), omega (arith, eqb-true n 1 e)))
    (λ h2. ⊎_elim (λ e. (inr (inl (eqb-true n 2 e)), omega (arith, eqb-true n 2 e)))
    (λ h3. ⊎_elim (λ e. (inr (inr (inl (eqb-true n 4 e))), omega (arith, eqb-true n 4 e))) (λ e. (inr (inr (inr (eqb-true n 8 e))), omega (arith, eqb-true n 8 e))) (or-cases (n == 4) (n == 8) h3))
    (or-cases (n == 2) (n == 4 || n == 8) h2))
    (or-cases (n == 1) (n == 2 || (n == 4 || n == 8)) h)

small : (xs : List ℕ) → All IsByte xs → (k : ℕ) → get_or xs k 0 < 256
small xs h k = ⊎_elim (λ lt. All-get_or IsByte xs k 0 lt h) (λ ge. subst (λ v. v < 256) (sym (get_or_past xs k 0 ge)) (lit< tt)) (cases_lt k (length xs))

length-slice : (bytes : List ℕ) (ea n : ℕ) → ea + n ≤ length bytes → length (slice_range bytes ea (ea + n)) ≡ n
length-slice bytes ea n h = grind (arith, common_steps)

-- bytes that are read are a value of the type
pub read-lt : (t : ValType) (bytes : List ℕ) (ea n : ℕ) → All IsByte bytes → ea + n ≤ length bytes → is_width t n ≡ true → little_endian (slice_range bytes ea (ea + n)) < 2 ^ bit_width t
read-lt t bytes ea n are h w =
    let k = width-of t n w in
    let part : All IsByte (slice_range bytes ea (ea + n)) = All-take IsByte _ _ (All-drop IsByte ea bytes are) in
    let low : little_endian (slice_range bytes ea (ea + n)) < 256 ^ length (slice_range bytes ea (ea + n)) = little_endian-lt (slice_range bytes ea (ea + n)) [] (small (slice_range bytes ea (ea + n) ++ []) (All-append IsByte (slice_range bytes ea (ea + n)) [] part (All-nil IsByte))) in
    let narrow : little_endian (slice_range bytes ea (ea + n)) < 2 ^ (8 * n) = width-fits n (little_endian (slice_range bytes ea (ea + n))) k.0 (subst (λ l. little_endian (slice_range bytes ea (ea + n)) < 256 ^ l) (length-slice bytes ea n h) low) in
    omega (arith, narrow, pow_mono k.1)
