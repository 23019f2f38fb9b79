use Rattle.std.proofs.Common.{◌≡◌, drop}
use Rattle.mv_rules.specs.Forms.{all_parts}
use Rattle.mv_rules.proofs.PartSteps.{parts_before}
use Rattle.mv_rules.proofs.terms.read_all_parts.Given as goal

-- the parts so far, and those of the words that are left
abbrev pub invariant-loop-token : goal.invariant-loop-token
invariant-loop-token l = parts_before l.in_range l.parts.items (all_parts l.lengths (drop l.token-index l.tokens)) ≡ all_parts l.lengths l.tokens
