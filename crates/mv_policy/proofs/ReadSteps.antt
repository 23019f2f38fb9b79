-- Reading line by line.
use Rattle.std.proofs.Common.{◌≡◌, ◌<◌, ◌∷◌, [], ℕ, suc, ◌+◌, List, ◌++◌, length, drop, get_or, map, ap, sym, ◌∙◌, add-one, drop-cons, Bor}
use Rattle.std.specs.Prelude.{Result, Ok, Err}
use Rattle.mv_policy.specs.declared.line.PolicyLine.{PolicyLine}
use Rattle.mv_policy.specs.declared.fault.PolicyFault.{PolicyFault}
use Rattle.mv_policy.specs.Reading.{and_then, next_line, read_lines}

abbrev bytes_of : List (Bor (List ℕ)) → List (List ℕ)
bytes_of lines = map (λ w. w.now) lines

front : (lines : List (Bor (List ℕ))) (d : Bor (List ℕ)) (i : ℕ) (before : List PolicyLine) → i < length lines
    → read_lines before (bytes_of (drop i lines)) ≡ and_then (next_line before (get_or lines i d).now) (λ line. read_lines (before ++ line ∷ []) (bytes_of (drop (suc i) lines)))
front lines d i before h = ap (λ (k : List (Bor (List ℕ))). read_lines before (bytes_of k)) (drop-cons lines i d h)

-- one line is read, and the rest
pub read_step : (lines : List (Bor (List ℕ))) (d : Bor (List ℕ)) (i : ℕ) (before after : List PolicyLine) (line : PolicyLine) (whole : Result (List PolicyLine) PolicyFault)
    → i < length lines → next_line before (get_or lines i d).now ≡ Ok line → after ≡ before ++ line ∷ []
    → read_lines before (bytes_of (drop i lines)) ≡ whole → read_lines after (bytes_of (drop (i + 1) lines)) ≡ whole
read_step lines d i before after line whole h is grown rest =
    rw (grown, add-one)
    (ap (λ (r : Result PolicyLine PolicyFault). and_then r (λ line. read_lines (before ++ line ∷ []) (bytes_of (drop (suc i) lines)))) (sym is)
    ∙ sym (front lines d i before h) ∙ rest)

-- its fault is that of all
pub read_stop : (lines : List (Bor (List ℕ))) (d : Bor (List ℕ)) (i : ℕ) (before : List PolicyLine) (fault : PolicyFault) (whole : Result (List PolicyLine) PolicyFault)
    → i < length lines → next_line before (get_or lines i d).now ≡ Err fault
    → read_lines before (bytes_of (drop i lines)) ≡ whole → whole ≡ Err fault
read_stop lines d i before fault whole h is rest =
    sym rest ∙ front lines d i before h
    ∙ ap (λ (r : Result PolicyLine PolicyFault). and_then r (λ line. read_lines (before ++ line ∷ []) (bytes_of (drop (suc i) lines)))) is
