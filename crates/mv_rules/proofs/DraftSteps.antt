-- A line without a fault keeps what holds of a rule while its text is read.
use Rattle.std.proofs.Common.{◌≡◌, ℕ, ◌<◌, ◌||◌, Bool, true, false, List, [], ◌∷◌, ◌++◌, length, refl, arith, Some, None, length-append, lit≤, subst}
use Rattle.std.proofs.lemmas.Grind.{common_steps}
use Rattle.std.specs.Prelude.{not, Option, Result, Ok, Err, nat_le, if◌then◌else◌}
use Rattle.std.specs.List.{AllPass}
use Rattle.std.proofs.lemmas.List.Elements.{All-push}
use Rattle.mv_rules.specs.Names.{bytes_are_bound}
use Rattle.mv_rules.specs.declared.rule.Pattern.{Pattern}
use Rattle.mv_rules.specs.declared.rule.Guard.{Guard}
use Rattle.mv_rules.specs.declared.rule.Rule.{Rule}
use Rattle.mv_rules.specs.declared.fault.RuleKind.{RuleKind}
use Rattle.mv_scan.specs.declared.found.Found.{Found}
use Rattle.mv_scan.specs.declared.found.Found.TheVariants.{Other, OutOfRange, Is}
use Rattle.mv_rules.specs.declared.line.Line.{Line}
use Rattle.mv_rules.specs.declared.line.Line.TheVariants as lines
use Rattle.mv_rules.specs.declared.reading.Phase.{Phase}
use Rattle.mv_rules.specs.declared.reading.Phase.TheVariants.{Outside, InLeft, InRight}
use Rattle.mv_rules.specs.declared.reading.Reading.{Reading}
use Rattle.mv_scan.specs.declared.token.Token.{Token}
use Rattle.mv_rules.specs.Shape.{errno_counts, IsShaped, AreShaped}
use Rattle.mv_rules.specs.Drafts.{IsDraft, Counts, LineCounts}
use Rattle.mv_rules.specs.declared.fault.RuleFault.{RuleFault}
use Rattle.mv_rules.specs.declared.reading.Version.{Version}
use Rattle.mv_scan.specs.Words.{words_of}
use Rattle.mv_scan.specs.Found.{holds}
use Rattle.mv_rules.proofs.ErrnoCounts.{line_counts}
use Rattle.mv_rules.specs.RulesText.{read_line, lengths_stand, line_of, unless, is_full, is_bad_guard_in, first_fault, faults_on, after_line, is_empty_left, with_item, with_guard, turned, ended}

-- one rule more
pub shaped_more : (rules : List Rule) (rule : Rule) → AreShaped rules → IsShaped rule → AreShaped (rules ++ rule ∷ [])
shaped_more [] rule all one = (one, tt)
shaped_more (first ∷ rules) rule all one = (all.0, shaped_more rules rule all.1 one)

-- no test of the table holds
abbrev pub AllFalse : List (Bool × RuleKind) → Type 0
AllFalse [] = Unit {0}
AllFalse (test ∷ tests) = (test.0 ≡ false) × AllFalse tests

clean_by : (b : Bool) (kind : RuleKind) (rest : Option RuleKind) → (if b then Some kind else rest) ≡ None → (b ≡ false) × (rest ≡ None)
clean_by true kind rest h = cc
clean_by false kind rest h = (refl, h)

pub clean_all : (tests : List (Bool × RuleKind)) → first_fault tests ≡ None → AllFalse tests
clean_all [] h = tt
clean_all (test ∷ tests) h = let t = clean_by test.0 test.1 (first_fault tests) h in (t.0, clean_all tests t.1)

or_false : (b c : Bool) → (b || c) ≡ false → c ≡ false
or_false true c h = cc
or_false false c h = h

pub below : (m n : ℕ) → nat_le m n ≡ false → n < m
below m n h = grind (arith, common_steps, h)

no_errnos : (right : List Pattern) → right ≡ [] → AllPass errno_counts right
no_errnos [] h = λ k d below. absurd (omega arith)
no_errnos (pattern ∷ right) h = cc

item_after : (phase : Phase) (found : Found Pattern) → is_full phase ≡ false → IsDraft phase → Counts found → IsDraft (with_item phase found)
item_after Outside found room draft counts = tt
item_after (InLeft rule) Other room draft counts = draft
item_after (InLeft rule) OutOfRange room draft counts = draft
item_after (InLeft rule) (Is pattern) room draft counts =
    let h : length rule.left < 8 = below 8 (length rule.left) room in
    record { left = rw length-append (omega arith); guards = draft.guards; right = draft.right }
item_after (InRight rule) Other room draft counts = draft
item_after (InRight rule) OutOfRange room draft counts = draft
item_after (InRight rule) (Is pattern) room draft counts =
    let h : length rule.right < 16 = below 16 (length rule.right) room in
    record { some = draft.some; left = draft.left; guards = draft.guards; right = rw length-append (omega arith); errnos = All-push (λ p. errno_counts p ≡ true) rule.right pattern draft.errnos counts }

guard_after : (phase : Phase) (found : Found Guard) → holds (is_bad_guard_in phase) found ≡ false → IsDraft phase → IsDraft (with_guard phase found)
guard_after Outside found good draft = tt
guard_after (InLeft rule) Other good draft = draft
guard_after (InLeft rule) OutOfRange good draft = draft
guard_after (InLeft rule) (Is guard) good draft =
    let h : length rule.guards < 8 = below 8 (length rule.guards) (or_false (not (bytes_are_bound rule.left guard.name)) (nat_le 8 (length rule.guards)) good) in
    record { left = draft.left; guards = rw length-append (omega arith); right = draft.right }
guard_after (InRight rule) found good draft = draft

turned_after : (phase : Phase) (more : Bool) → is_empty_left phase (lines.Turns more) ≡ false → IsDraft phase → IsDraft (turned phase)
turned_after Outside more some draft = tt
turned_after (InLeft rule) more some draft =
    let e = draft.right in
    record { some = below _ _ some; left = draft.left; guards = draft.guards; right = rw e (lit≤ tt); errnos = no_errnos rule.right e }
turned_after (InRight rule) more some draft = draft

ended_after : (rules : List Rule) (phase : Phase) → IsDraft phase → IsDraft (ended rules phase).phase
ended_after rules Outside draft = tt
ended_after rules (InLeft rule) draft = draft
ended_after rules (InRight rule) draft = tt

draft_after : (reading : Reading) (lengths : Bool) (tokens : List Token) (at : ℕ) (line : Line)
    → AllFalse (faults_on reading lengths tokens line) → IsDraft reading.phase → LineCounts line
    → IsDraft (after_line reading at line).phase
draft_after reading lengths tokens at lines.Blank clean draft counts = draft
draft_after reading lengths tokens at (lines.Begins more) clean draft counts = record { left = lit≤ tt; guards = lit≤ tt; right = refl }
draft_after reading lengths tokens at (lines.Turns more) clean draft counts = turned_after reading.phase more clean.1.1.0 draft
draft_after reading lengths tokens at (lines.Ends more) clean draft counts = ended_after reading.rules reading.phase draft
draft_after reading lengths tokens at (lines.Item found) clean draft counts = item_after reading.phase found (or_false _ _ clean.1.0) draft counts
draft_after reading lengths tokens at (lines.When found) clean draft counts = guard_after reading.phase found clean.1.1.1.1.1.1.1.1.1.0 draft
draft_after reading lengths tokens at lines.Other clean draft counts = draft

abbrev OkDraft : Result Reading RuleFault → Type 0
OkDraft (Ok reading) = IsDraft reading.phase
OkDraft (Err fault) = Unit {0}

unless_draft : (at : ℕ) (fault : Option RuleKind) (next after : Reading)
    → unless at fault after ≡ Ok next → (fault ≡ None → IsDraft after.phase) → IsDraft next.phase
unless_draft at None next after is h = let P : Result Reading RuleFault → Type 0 = OkDraft in subst P is (h refl)
unless_draft at (Some kind) next after is h = cc

-- a line that is read keeps it
pub draft_read : (version : Version) (reading : Reading) (at : ℕ) (bytes : List ℕ) (next : Reading)
    → read_line version reading at bytes ≡ Ok next → IsDraft reading.phase → IsDraft next.phase
draft_read version reading at bytes next is draft =
    let lengths = lengths_stand version reading.phase in
    let tokens = words_of bytes in
    let line = line_of version lengths tokens in
    unless_draft at (first_fault (faults_on reading lengths tokens line)) next (after_line reading at line) is
    (λ none. draft_after reading lengths tokens at line (clean_all (faults_on reading lengths tokens line) none) draft (line_counts version lengths tokens))
