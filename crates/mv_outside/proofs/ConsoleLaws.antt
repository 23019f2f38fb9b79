-- What the answers of a console in memory mean.
use Rattle.std.specs.Prelude.{◌≡◌, ◌↔◌, ◌≤◌, ℕ, Bool, true, false, if◌then◌else◌, List, [], ◌∷◌, take, length, Option, Some, None, IsTrue, refl}
use Rattle.std.proofs.Common.{arith, ap, sym, ◌∙◌}
use Rattle.std.proofs.lemmas.List.{length-take}
use Rattle.mv_outside.specs.Console.{line_limit}
use Rattle.mv_outside.specs.MemConsole.{handed, first_line}
use Rattle.mv_outside.specs.declared.console.Line.{Line}
use Rattle.mv_outside.specs.declared.console.Line.TheVariants as line

never_failed : (coming : List (Option (List ℕ))) → first_line coming ≡ line.Failed → ⊥
never_failed [] h = cc
never_failed (Some bytes ∷ rest) h = cc
never_failed (None ∷ rest) h = cc

-- it answers Failed exactly where it is to fail
pub failed_when_named : (r : Line) (fails : Bool) (coming : List (Option (List ℕ))) →
    r ≡ (if fails then line.Failed else first_line coming) → (r ≡ line.Failed) ↔ IsTrue fails
failed_when_named r true coming h = ((λ failed. refl), (λ named. h))
failed_when_named r false coming h =
    ((λ failed. absurd (never_failed coming (sym h ∙ failed))), (λ named. absurd (let bad : false ≡ true = named in cc)))

-- what is handed on is short
pub handed_short : (given bytes : List ℕ) → Some given ≡ handed (Some bytes) → length given ≤ line_limit
handed_short given bytes h =
    let same : given ≡ take line_limit bytes = cc in
    omega (arith, ap length same, length-take line_limit bytes)
