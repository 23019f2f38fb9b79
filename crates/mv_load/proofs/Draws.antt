-- The four pieces of a connection are those of four draws, one behind the other.
use Rattle.std.proofs.Common.{◌≡◌, ℕ, suc, ◌+◌, ◌*◌, ◌%◌, [], ◌∷◌, refl, sym, ap, ◌∙◌, arith}
use Rattle.mv_load.specs.Connections.{drawn, letters, piece, connection}

abbrev next : ℕ → ℕ
next x = (75 * x + 74) % 65537

draws_on : (k x : ℕ) → x ≡ drawn k → next x ≡ drawn (k + 1)
draws_on k x e = let s : k + 1 ≡ suc k = omega arith in ap next e ∙ sym (ap drawn s)

pub draws_next : (k x y : ℕ) → x ≡ drawn k → y ≡ (75 * x + 74) % 65537 → y ≡ drawn (k + 1)
draws_next k x y e s = s ∙ draws_on k x e

piece_is : (k x : ℕ) → x ≡ drawn (k + 1) → letters x ≡ piece k
piece_is k x e = ap letters e

four_pieces : (k a b c d : ℕ) → a ≡ drawn (4 * k + 1) → b ≡ drawn (4 * k + 1 + 1) → c ≡ drawn (4 * k + 2 + 1) → d ≡ drawn (4 * k + 3 + 1) →
    letters a ∷ letters b ∷ letters c ∷ letters d ∷ [] ≡ piece (4 * k) ∷ piece (4 * k + 1) ∷ piece (4 * k + 2) ∷ piece (4 * k + 3) ∷ []
four_pieces k a b c d ea eb ec ed =
    let pa : letters a ≡ piece (4 * k) = piece_is (4 * k) a ea in
    let pb : letters b ≡ piece (4 * k + 1) = piece_is (4 * k + 1) b eb in
    let pc : letters c ≡ piece (4 * k + 2) = piece_is (4 * k + 2) c ec in
    let pd : letters d ≡ piece (4 * k + 3) = piece_is (4 * k + 3) d ed in
    rw pa (rw pb (rw pc (rw pd refl)))

-- the fourth draw behind this one is the last of the connection
pub record Draws (k last a b c d : ℕ) : Type 0 where
  pub pieces : letters a ∷ letters b ∷ letters c ∷ letters d ∷ [] ≡ (connection k).pieces
  pub last_is : d ≡ drawn (4 * (k + 1))

pub four_draws : (k last a b c d : ℕ) → last ≡ drawn (4 * k) → a ≡ (75 * last + 74) % 65537 → b ≡ (75 * a + 74) % 65537 →
    c ≡ (75 * b + 74) % 65537 → d ≡ (75 * c + 74) % 65537 → Draws k last a b c d
four_draws k last a b c d e ea eb ec ed =
    let sa : a ≡ drawn (4 * k + 1) = draws_next (4 * k) last a e ea in
    let sb : b ≡ drawn (4 * k + 1 + 1) = draws_next (4 * k + 1) a b sa eb in
    let two : 4 * k + 1 + 1 ≡ 4 * k + 2 = omega arith in
    let sc : c ≡ drawn (4 * k + 2 + 1) = draws_next (4 * k + 2) b c (sb ∙ ap drawn two) ec in
    let three : 4 * k + 2 + 1 ≡ 4 * k + 3 = omega arith in
    let sd : d ≡ drawn (4 * k + 3 + 1) = draws_next (4 * k + 3) c d (sc ∙ ap drawn three) ed in
    let all : 4 * k + 3 + 1 ≡ 4 * (k + 1) = omega arith in
    record { pieces = four_pieces k a b c d sa sb sc sd; last_is = sd ∙ ap drawn all }
