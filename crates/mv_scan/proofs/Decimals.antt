-- Digits make numbers grow.
use Rattle.std.proofs.Common.{◌≡◌, ℕ, ◌+◌, ◌-◌, ◌*◌, ◌<◌, ◌≤◌, List, [], ◌∷◌, length, get_or, drop, ap, arith}
use Rattle.std.proofs.lemmas.List.{drop_more}
use Rattle.mv_scan.specs.Numbers.{decimal_from}

decimal_grows : (n : ℕ) (digits : List ℕ) → n ≤ decimal_from n digits
decimal_grows n [] = omega arith
decimal_grows n (b ∷ digits) = let h : 10 * n + (b - 48) ≤ decimal_from (10 * n + (b - 48)) digits = decimal_grows (10 * n + (b - 48)) digits in omega arith

decimal_at : (n : ℕ) (bytes : List ℕ) (i : ℕ) → i < length bytes → decimal_from n (drop i bytes) ≡ decimal_from (10 * n + (get_or bytes i 0 - 48)) (drop (i + 1) bytes)
decimal_at n bytes i lt = ap (λ (k : List ℕ). decimal_from n k) (drop_more bytes i 0 lt)

-- a number that is too large at a digit stays so
pub too_large : (n max : ℕ) (bytes : List ℕ) (i : ℕ) → i < length bytes → decimal_from n (drop i bytes) ≡ decimal_from 0 bytes
    → max < 10 * n + (get_or bytes i 0 - 48) → max < decimal_from 0 bytes
too_large n max bytes i lt whole more =
    let e : decimal_from n (drop i bytes) ≡ decimal_from (10 * n + (get_or bytes i 0 - 48)) (drop (i + 1) bytes) = decimal_at n bytes i lt in
    let g : 10 * n + (get_or bytes i 0 - 48) ≤ decimal_from (10 * n + (get_or bytes i 0 - 48)) (drop (i + 1) bytes) = decimal_grows (10 * n + (get_or bytes i 0 - 48)) (drop (i + 1) bytes) in
    omega arith
