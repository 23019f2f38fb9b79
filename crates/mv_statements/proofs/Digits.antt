-- Hexadecimal digits make numbers grow.
use Rattle.std.proofs.Common.{◌≡◌, ℕ, ◌+◌, ◌*◌, ◌<◌, ◌≤◌, List, [], ◌∷◌, length, get_or, drop, ap, arith}
use Rattle.std.proofs.lemmas.List.{drop_more}
use Rattle.mv_statements.specs.Numerals.{hex_digit, hexadecimal_from}

grows : (n : ℕ) (digits : List ℕ) → n ≤ hexadecimal_from n digits
grows n [] = omega arith
grows n (b ∷ digits) = let h : 16 * n + hex_digit b ≤ hexadecimal_from (16 * n + hex_digit b) digits = grows (16 * n + hex_digit b) digits in omega arith

digit_at : (n : ℕ) (bytes : List ℕ) (i : ℕ) → i < length bytes → hexadecimal_from n (drop i bytes) ≡ hexadecimal_from (16 * n + hex_digit (get_or bytes i 0)) (drop (i + 1) bytes)
digit_at n bytes i lt = ap (λ (k : List ℕ). hexadecimal_from n k) (drop_more bytes i 0 lt)

-- a number that is too large at a digit stays so
pub too_large : (n max : ℕ) (bytes : List ℕ) (i : ℕ) → i < length bytes → hexadecimal_from n (drop i bytes) ≡ hexadecimal_from 0 bytes
    → max < 16 * n + hex_digit (get_or bytes i 0) → max < hexadecimal_from 0 bytes
too_large n max bytes i lt whole more =
    let e : hexadecimal_from n (drop i bytes) ≡ hexadecimal_from (16 * n + hex_digit (get_or bytes i 0)) (drop (i + 1) bytes) = digit_at n bytes i lt in
    let g : 16 * n + hex_digit (get_or bytes i 0) ≤ hexadecimal_from (16 * n + hex_digit (get_or bytes i 0)) (drop (i + 1) bytes) = grows (16 * n + hex_digit (get_or bytes i 0)) (drop (i + 1) bytes) in
    omega arith
