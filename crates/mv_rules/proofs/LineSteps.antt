-- Lines, one after another.
use Rattle.std.proofs.Common.{◌≡◌, ℕ, ◌+◌, List, ◌∷◌, ap, ◌∙◌, sym}
use Rattle.std.specs.Prelude.{Result, Ok, Err}
use Rattle.mv_rules.specs.declared.rule.Rule.{Rule}
use Rattle.mv_rules.specs.declared.fault.RuleFault.{RuleFault}
use Rattle.mv_rules.specs.declared.reading.Version.{Version}
use Rattle.mv_rules.specs.declared.reading.Reading.{Reading}
use Rattle.mv_rules.specs.RulesText.{and_then, read_line, read_lines}

-- one line is read, and the rest
pub read_step : (version : Version) (reading next : Reading) (at : ℕ) (line : List ℕ) (lines more : List (List ℕ)) (whole : Result (List Rule) RuleFault)
    → lines ≡ line ∷ more → read_line version reading at line ≡ Ok next → read_lines version reading at lines ≡ whole
    → read_lines version next (at + 1) more ≡ whole
read_step version reading next at line lines more whole split is h =
    ap (λ (r : Result Reading RuleFault). and_then r (λ s. read_lines version s (at + 1) more)) (sym is)
    ∙ ap (λ (k : List (List ℕ)). read_lines version reading at k) (sym split) ∙ h

-- its fault is that of all
pub read_stop : (version : Version) (reading : Reading) (at : ℕ) (line : List ℕ) (lines more : List (List ℕ)) (fault : RuleFault) (whole : Result (List Rule) RuleFault)
    → lines ≡ line ∷ more → read_line version reading at line ≡ Err fault → read_lines version reading at lines ≡ whole
    → whole ≡ Err fault
read_stop version reading at line lines more fault whole split is h =
    sym h ∙ ap (λ (k : List (List ℕ)). read_lines version reading at k) split
    ∙ ap (λ (r : Result Reading RuleFault). and_then r (λ s. read_lines version s (at + 1) more)) is
