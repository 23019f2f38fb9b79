-- What a failed call of a sink in memory leaves.
use Rattle.std.specs.Prelude.{◌≡◌, ◌⊎◌, ◌/◌, ℕ, List, ◌++◌, take, length, Some}
use Rattle.std.proofs.Common.{arith, ap, sym, ◌∙◌, append-nil, inl, inr}
use Rattle.mv_outside.specs.Told.{AddsPart}

-- half of the piece, and nothing, are first parts of it
pub adds_half : (seen before now piece : List ℕ) → before ≡ seen → (now ≡ before ++ take (length piece / 2) piece) ⊎ (now ≡ before) → AddsPart (Some seen) piece (Some now)
adds_half seen before now piece same (inl half) =
    (length piece / 2, omega arith, ap Some (half ∙ ap (λ (l : List ℕ). l ++ take (length piece / 2) piece) same))
adds_half seen before now piece same (inr none) = (0, omega arith, ap Some (none ∙ same ∙ sym (append-nil seen)))
