-- The rules that a text spells are within the limits of the format.
use Rattle.std.specs.Prelude.{◌≡◌, ℕ, ◌+◌, nat_lt, Bool, true, false, Option, Some, None, List, [], ◌∷◌, refl, Result, Ok, Err, if◌then◌else◌, length}
use Rattle.std.proofs.Common.{subst}
use Rattle.mv_rules.specs.declared.rule.Rule.{Rule}
use Rattle.mv_rules.specs.declared.fault.RuleFault.{RuleFault}
use Rattle.mv_rules.specs.declared.fault.RuleKind.TheVariants as kinds
use Rattle.mv_rules.specs.declared.reading.Version.{Version}
use Rattle.mv_rules.specs.declared.reading.Phase.{Phase}
use Rattle.mv_rules.specs.declared.reading.Phase.TheVariants.{Outside, InLeft, InRight}
use Rattle.mv_rules.specs.declared.reading.Reading.{Reading}
use Rattle.mv_rules.specs.declared.line.Line.{Line}
use Rattle.mv_rules.specs.declared.line.Line.TheVariants as lines
use Rattle.mv_scan.specs.Words.{words_of}
use Rattle.mv_scan.specs.Lines.{lines_of}
use Rattle.mv_rules.specs.Drafts.{IsDraft}
use Rattle.mv_rules.specs.Shape.{AreShaped}
use Rattle.mv_rules.specs.RulesText.{rules_in, read_file, read_body, read_lines, read_line, version_of, unread, unless, first_fault, faults_on, after_line, ended, and_then, is_outside, fault_at, line_of, lengths_stand}
use Rattle.mv_rules.proofs.DraftSteps.{draft_read, shaped_more}

abbrev OkShaped : Result Reading RuleFault → Type 0
OkShaped (Ok reading) = AreShaped reading.rules
OkShaped (Err fault) = Unit {0}

ended_shaped : (rules : List Rule) (phase : Phase) → AreShaped rules → IsDraft phase → AreShaped (ended rules phase).rules
ended_shaped rules Outside all draft = all
ended_shaped rules (InLeft rule) all draft = all
ended_shaped rules (InRight rule) all draft = shaped_more rules rule all draft

after_shaped : (reading : Reading) (at : ℕ) (line : Line) → AreShaped reading.rules → IsDraft reading.phase → AreShaped (after_line reading at line).rules
after_shaped reading at lines.Blank all draft = all
after_shaped reading at (lines.Begins more) all draft = all
after_shaped reading at (lines.Turns more) all draft = all
after_shaped reading at (lines.Ends more) all draft = ended_shaped reading.rules reading.phase all draft
after_shaped reading at (lines.Item found) all draft = all
after_shaped reading at (lines.When found) all draft = all
after_shaped reading at lines.Other all draft = all

unless_shaped : (at : ℕ) (fault : Option _) (after : Reading) → AreShaped after.rules → OkShaped (unless at fault after)
unless_shaped at None after all = all
unless_shaped at (Some kind) after all = tt

line_shaped : (version : Version) (reading : Reading) (at : ℕ) (bytes : List ℕ) → AreShaped reading.rules → IsDraft reading.phase → OkShaped (read_line version reading at bytes)
line_shaped version reading at bytes all draft =
    let lengths = lengths_stand version reading.phase in
    let tokens = words_of bytes in
    let line = line_of version lengths tokens in
    unless_shaped at (first_fault (faults_on reading lengths tokens line)) (after_line reading at line) (after_shaped reading at line all draft)

abbrev OkRules : Result (List Rule) RuleFault → Type 0
OkRules (Ok rules) = AreShaped rules
OkRules (Err fault) = Unit {0}

end_shaped : (outside : Bool) (reading : Reading) (fault : RuleFault) → AreShaped reading.rules → OkRules (if outside then Ok reading.rules else Err fault)
end_shaped true reading fault all = all
end_shaped false reading fault all = tt

lines_shaped : (version : Version) (reading : Reading) (at : ℕ) (lines : List (List ℕ)) → AreShaped reading.rules → IsDraft reading.phase → OkRules (read_lines version reading at lines)
lines_shaped version reading at [] all draft = end_shaped (is_outside reading.phase) reading (fault_at at kinds.Shape) all
lines_shaped version reading at (line ∷ lines) all draft =
    behind (read_line version reading at line) refl (line_shaped version reading at line all draft)
    (λ next shaped drafted. lines_shaped version next (at + 1) lines shaped drafted)
  where
    behind : (r : Result Reading RuleFault) → read_line version reading at line ≡ r → OkShaped r
        → ((next : Reading) → AreShaped next.rules → IsDraft next.phase → OkRules (read_lines version next (at + 1) lines))
        → OkRules (and_then r (λ next. read_lines version next (at + 1) lines))
    behind (Ok next) is shaped rest = rest next shaped (draft_read version reading at line next is draft)
    behind (Err fault) is shaped rest = tt

body_shaped : (version : Option Version) (lines : List (List ℕ)) → OkRules (read_body version lines)
body_shaped None lines = tt
body_shaped (Some version) lines = lines_shaped version unread 2 lines tt tt

file_shaped : (lines : List (List ℕ)) → OkRules (read_file lines)
file_shaped [] = tt
file_shaped (line ∷ lines) = body_shaped (version_of line) lines

text_shaped : (large : Bool) (fault : RuleFault) (lines : List (List ℕ)) → OkRules (if large then Err fault else read_file lines)
text_shaped true fault lines = tt
text_shaped false fault lines = file_shaped lines

pub spelled_shaped : (text : List ℕ) (rules : List Rule) → rules_in text ≡ Ok rules → AreShaped rules
spelled_shaped text rules is =
    let all : OkRules (rules_in text) = text_shaped (nat_lt 65536 (length text)) (fault_at 1 kinds.Size) (lines_of text) in
    subst OkRules is all
