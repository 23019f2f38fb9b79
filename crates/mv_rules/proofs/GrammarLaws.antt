-- A file's rules are those that it spells, and its first fault is at its first faulty line.
use Rattle.std.proofs.Common.{◌≡◌, ◌⊎◌, ◌↔◌, inl, inr, ℕ, ◌+◌, ◌<◌, ◌≤◌, Bool, true, false, List, [], ◌∷◌, ◌++◌, length, refl, ap, sym, ◌∙◌, subst, arith, append_assoc, append-nil, length-append, Some, None, codes}
use Rattle.std.proofs.lemmas.Grind.{common_steps}
use Rattle.std.proofs.lemmas.Slice.Eq.{bytes_eq-Decides}
use Rattle.std.specs.Prelude.{Option, Result, Ok, Err, nat_lt, if◌then◌else◌}
use Rattle.std.specs.Str.{bytes_eq}
use Rattle.mv_rules.specs.declared.rule.Pattern.{Pattern}
use Rattle.mv_rules.specs.declared.rule.Pattern.TheVariants.{Yield}
use Rattle.mv_rules.specs.declared.rule.Rule.{Rule}
use Rattle.mv_rules.specs.declared.fault.RuleFault.{RuleFault}
use Rattle.mv_rules.specs.declared.fault.RuleKind.{RuleKind}
use Rattle.mv_rules.specs.declared.fault.RuleKind.TheVariants as kinds
use Rattle.mv_rules.specs.declared.reading.Version.{Version}
use Rattle.mv_rules.specs.declared.reading.Version.TheVariants.{First, Second}
use Rattle.mv_rules.specs.declared.reading.Phase.{Phase}
use Rattle.mv_rules.specs.declared.reading.Phase.TheVariants.{Outside, InLeft, InRight}
use Rattle.mv_rules.specs.declared.reading.Reading.{Reading}
use Rattle.mv_scan.specs.Words.{words_of}
use Rattle.mv_rules.specs.RulesText.{and_then, at_end, fault_at, faults_on, first_fault, after_line, unless, line_of, lengths_stand, read_line, read_lines, read_body, read_file, rules_in, unread, version_of}
use Rattle.mv_scan.specs.Lines.{lines_of}
use Rattle.mv_rules.specs.Grammar.{SpellsLeftItem, header, HasHeader, Spells, CanGoOn, CannotGoOn, StopsAt, EndsEarly, IsFirstFaultyLine}
use Rattle.mv_rules.proofs.GrammarSteps.{leaves_given}
use Rattle.mv_rules.proofs.GrammarPhases.{reading_of, Step}
use Rattle.mv_rules.proofs.GrammarBack.{step_given}
use Rattle.mv_rules.proofs.GrammarReads.{body_is, body_given}

-- ## The first line

by_version : (b : Bool) (x y : Option Version) (P : Option Version → Type 0) → (b ≡ true → P x) → P y → P (if b then x else y)
by_version true x y P h k = h refl
by_version false x y P h k = k

abbrev IsHeader : List ℕ → Option Version → Type 0
IsHeader line None = Unit {0}
IsHeader line (Some version) = line ≡ header version

version_is : (line : List ℕ) → IsHeader line (version_of line)
version_is line =
    let P : Option Version → Type 0 = IsHeader line in
    by_version (bytes_eq line (codes "mvrules 1")) _ _ P (λ e. (bytes_eq-Decides line (codes "mvrules 1")).0 e)
    (by_version (bytes_eq line (codes "mvrules 2")) _ _ P (λ e. (bytes_eq-Decides line (codes "mvrules 2")).0 e) tt)

pub version_given : (version : Version) → version_of (header version) ≡ Some version
version_given First = refl
version_given Second = refl

header_given : (line : List ℕ) (version : Version) → line ≡ header version → version_of line ≡ Some version
header_given line version e = ap version_of e ∙ version_given version

-- ## The rules

pub not_large : (n : ℕ) → nat_lt 65536 n ≡ false → n ≤ 65536
not_large n h = grind (arith, common_steps, h)

large : (n : ℕ) → nat_lt 65536 n ≡ true → 65536 < n
large n h = grind (arith, common_steps, h)

pub is_small : (n : ℕ) → n ≤ 65536 → nat_lt 65536 n ≡ false
is_small n h = grind (arith, common_steps)

spells_body : (text line : List ℕ) (body : List (List ℕ)) (version : Option Version) (rules : List Rule) → length text ≤ 65536 → lines_of text ≡ line ∷ body → IsHeader line version
    → read_body version body ≡ Ok rules → Spells text rules
spells_body text line body None rules size lines named is = cc
spells_body text line body (Some version) rules size lines named is =
    record {
      version = version;
      body = body;
      header = record { size = size; lines = lines ∙ ap (λ (k : List ℕ). k ∷ body) named };
      spelled = body_is version body rules is;
    }

spells_file : (text : List ℕ) (lines : List (List ℕ)) (rules : List Rule) → length text ≤ 65536 → lines_of text ≡ lines → read_file lines ≡ Ok rules → Spells text rules
spells_file text [] rules size e is = cc
spells_file text (line ∷ body) rules size e is = spells_body text line body (version_of line) rules size e (version_is line) is

spells_sized : (text : List ℕ) (rules : List Rule) (b : Bool) → nat_lt 65536 (length text) ≡ b
    → (if b then Err (fault_at 1 kinds.Size) else read_file (lines_of text)) ≡ Ok rules → Spells text rules
spells_sized text rules true e is = cc
spells_sized text rules false e is = spells_file text (lines_of text) rules (not_large (length text) e) refl is

-- the rules that are found are spelled
pub found_spelled : (text : List ℕ) (rules : List Rule) → rules_in text ≡ Ok rules → Spells text rules
found_spelled text rules is = spells_sized text rules (nat_lt 65536 (length text)) refl is

-- a text with a first line is read behind it
read_behind : (text : List ℕ) (version : Version) (body : List (List ℕ)) → HasHeader text version body → rules_in text ≡ read_lines version unread 2 body
read_behind text version body h =
    ap (λ (b : Bool). if b then Err (fault_at 1 kinds.Size) else read_file (lines_of text)) (is_small (length text) h.size)
    ∙ ap (λ (k : List (List ℕ)). read_file k) h.lines
    ∙ ap (λ (v : Option Version). read_body v body) (version_given version)

-- the rules that are spelled are found
pub spelled_found : (text : List ℕ) (rules : List Rule) → Spells text rules → rules_in text ≡ Ok rules
spelled_found text rules s = read_behind text s.version s.body s.header ∙ body_given s.version s.body rules s.spelled

-- the law of the rules text
pub spelled : (text : List ℕ) (rules : List Rule) → (rules_in text ≡ Ok rules) ↔ Spells text rules
spelled text rules = (found_spelled text rules, spelled_found text rules)

-- a text with a fault spells no rules
pub fault_spells_none : (text : List ℕ) (fault : RuleFault) → rules_in text ≡ Err fault → (rules : List Rule) → Spells text rules → ⊥
fault_spells_none text fault is rules s = let e = spelled_found text rules s in cc

-- ## What can go on

-- more lines that are read to the end
record Completes (version : Version) (reading : Reading) (at : ℕ) : Type 0 where
  pub more : List (List ℕ)
  pub all : List Rule
  pub is : read_lines version reading at more ≡ Ok all

one_more : (version : Version) (rules : List Rule) (phase : Phase) (at : ℕ) (line : List ℕ) (next : Reading) → Step version rules phase at (words_of line) next
    → Completes version next (at + 1) → Completes version (reading_of rules phase) at
one_more version rules phase at line next s c =
    let l = lengths_stand version phase in
    let is : read_line version (reading_of rules phase) at line ≡ Ok next =
    leaves_given (reading_of rules phase) at l (words_of line) (line_of version l (words_of line)) next (step_given version rules phase at (words_of line) next s) in
    record { more = line ∷ c.more; all = c.all; is = ap (λ (k : Result Reading RuleFault). and_then k (λ n. read_lines version n (at + 1) c.more)) is ∙ c.is }

ended_completes : (version : Version) (rules : List Rule) (at : ℕ) → Completes version (reading_of rules Outside) at
ended_completes version rules at = record { more = []; all = rules; is = refl }

right_completes : (version : Version) (rules : List Rule) (rule : Rule) (at : ℕ) → Completes version (reading_of rules (InRight rule)) at
right_completes version rules rule at =
    one_more version rules (InRight rule) at (codes "end") (reading_of (rules ++ rule ∷ []) Outside) (inl (record { written = refl; after = refl })) (ended_completes version (rules ++ rule ∷ []) (at + 1))

turn_completes : (version : Version) (rules : List Rule) (rule : Rule) (at : ℕ) → 1 ≤ length rule.left → Completes version (reading_of rules (InLeft rule)) at
turn_completes version rules rule at some =
    one_more version rules (InLeft rule) at (codes "to") (reading_of rules (InRight rule)) (inl (record { written = refl; some = some; after = refl })) (right_completes version rules rule (at + 1))

yield_item : SpellsLeftItem [] Yield (words_of (codes "yield -> done"))
yield_item = record { spelled = refl; once = refl }

left_completes : (version : Version) (rules : List Rule) (rule : Rule) (at : ℕ) (left : List Pattern) → rule.left ≡ left → Completes version (reading_of rules (InLeft rule)) at
left_completes version rules rule at [] e =
    let some : 1 ≤ length (rule.left ++ Yield ∷ []) = rw length-append (omega arith) in
    one_more version rules (InLeft rule) at (codes "yield -> done") (reading_of rules (InLeft (record rule { left = rule.left ++ Yield ∷ [] })))
    (inr (inl (record {
      item = Yield;
      spelled = subst (λ (k : List Pattern). SpellsLeftItem k Yield (words_of (codes "yield -> done"))) (sym e) yield_item;
      room = subst (λ (k : List Pattern). length k < 8) (sym e) (omega arith);
      after = refl;
    })))
    (turn_completes version rules (record rule { left = rule.left ++ Yield ∷ [] }) (at + 1) some)
left_completes version rules rule at (item ∷ items) e =
    turn_completes version rules rule at (subst (λ (k : List Pattern). 1 ≤ length k) (sym e) (omega arith))

completes : (version : Version) (rules : List Rule) (phase : Phase) (at : ℕ) → Completes version (reading_of rules phase) at
completes version rules Outside at = ended_completes version rules at
completes version rules (InLeft rule) at = left_completes version rules rule at rule.left refl
completes version rules (InRight rule) at = right_completes version rules rule at

-- ## The first faulty line

-- these lines are read without a fault, and then this was read
record Reached (version : Version) (before : List (List ℕ)) (reading : Reading) (at : ℕ) : Type 0 where
  pub place : at ≡ length before + 2
  pub goes : (more : List (List ℕ)) → read_lines version unread 2 (before ++ more) ≡ read_lines version reading at more

reached_start : (version : Version) → Reached version [] unread 2
reached_start version = record { place = refl; goes = λ more. refl }

reached_more : (version : Version) (before : List (List ℕ)) (reading next : Reading) (at : ℕ) (line : List ℕ) → Reached version before reading at → read_line version reading at line ≡ Ok next
    → Reached version (before ++ line ∷ []) next (at + 1)
reached_more version before reading next at line r is =
    let p = r.place in
    record {
      place = rw length-append (omega arith);
      goes = λ more.
          ap (λ (k : List (List ℕ)). read_lines version unread 2 k) (append_assoc before (line ∷ []) more)
          ∙ r.goes (line ∷ more)
          ∙ ap (λ (k : Result Reading RuleFault). and_then k (λ n. read_lines version n (at + 1) more)) is;
    }

can_go_on : (version : Version) (before : List (List ℕ)) (reading : Reading) (at : ℕ) → Reached version before reading at → CanGoOn version before
can_go_on version before reading at r =
    let c : Completes version reading at = completes version reading.rules reading.phase at in
    record { more = c.more; rules = c.all; spelled = body_is version (before ++ c.more) c.all (r.goes c.more ∙ c.is) }

cannot_go_on : (version : Version) (before : List (List ℕ)) (reading : Reading) (at : ℕ) (line : List ℕ) (fault : RuleFault) → Reached version before reading at
    → read_line version reading at line ≡ Err fault → CannotGoOn version (before ++ line ∷ [])
cannot_go_on version before reading at line fault r is more rules s =
    let found : read_lines version unread 2 ((before ++ line ∷ []) ++ more) ≡ Ok rules = body_given version ((before ++ line ∷ []) ++ more) rules s in
    let stops : read_lines version unread 2 ((before ++ line ∷ []) ++ more) ≡ Err fault =
    ap (λ (k : List (List ℕ)). read_lines version unread 2 k) (append_assoc before (line ∷ []) more)
    ∙ r.goes (line ∷ more)
    ∙ ap (λ (k : Result Reading RuleFault). and_then k (λ n. read_lines version n (at + 1) more)) is in
    cc

unless_at : (at : ℕ) (found : Option RuleKind) (after : Reading) (fault : RuleFault) → unless at found after ≡ Err fault → fault.line ≡ at
unless_at at None after fault h = cc
unless_at at (Some kind) after fault h = let e : fault_at at kind ≡ fault = cc in sym (ap (λ (f : RuleFault). f.line) e)

pub line_at : (version : Version) (reading : Reading) (at : ℕ) (line : List ℕ) (fault : RuleFault) → read_line version reading at line ≡ Err fault → fault.line ≡ at
line_at version reading at line fault is =
    let l = lengths_stand version reading.phase in
    let words = words_of line in
    unless_at at (first_fault (faults_on reading l words (line_of version l words))) (after_line reading at (line_of version l words)) fault is

pub end_at : (rules : List Rule) (phase : Phase) (at : ℕ) (fault : RuleFault) → at_end (reading_of rules phase) at ≡ Err fault → fault.line ≡ at
end_at rules Outside at fault is = cc
end_at rules (InLeft rule) at fault is = let e : fault_at at kinds.Shape ≡ fault = cc in sym (ap (λ (f : RuleFault). f.line) e)
end_at rules (InRight rule) at fault is = let e : fault_at at kinds.Shape ≡ fault = cc in sym (ap (λ (f : RuleFault). f.line) e)

abbrev IsPlaceIn : Version → List (List ℕ) → ℕ → Type 0
IsPlaceIn version body at = StopsAt version body at ⊎ EndsEarly version body at

ends_early : (version : Version) (before : List (List ℕ)) (reading : Reading) (at : ℕ) (fault : RuleFault) → Reached version before reading at → at_end reading at ≡ Err fault
    → EndsEarly version (before ++ []) fault.line
ends_early version before reading at fault r is =
    let whole : before ++ [] ≡ before = append-nil before in
    subst (λ (k : List (List ℕ)). EndsEarly version k fault.line) (sym whole)
    (record {
      place = end_at reading.rules reading.phase at fault is ∙ r.place;
      goes_on = can_go_on version before reading at r;
      stops = λ rules s.
          let found : read_lines version unread 2 before ≡ Ok rules = body_given version before rules s in
          let stops : read_lines version unread 2 before ≡ Err fault = ap (λ (k : List (List ℕ)). read_lines version unread 2 k) (sym whole) ∙ r.goes [] ∙ is in
          cc;
    })

stops_by : (version : Version) (before : List (List ℕ)) (reading : Reading) (at : ℕ) (line : List ℕ) (lines : List (List ℕ)) (fault : RuleFault) → Reached version before reading at
    → (found : Result Reading RuleFault) → read_line version reading at line ≡ found
    → ((next : Reading) → read_line version reading at line ≡ Ok next → read_lines version next (at + 1) lines ≡ Err fault → IsPlaceIn version ((before ++ line ∷ []) ++ lines) fault.line)
    → and_then found (λ next. read_lines version next (at + 1) lines) ≡ Err fault → IsPlaceIn version (before ++ line ∷ lines) fault.line
stops_by version before reading at line lines fault r (Ok next) e later is =
    subst (λ (k : List (List ℕ)). IsPlaceIn version k fault.line) (append_assoc before (line ∷ []) lines) (later next e is)
stops_by version before reading at line lines fault r (Err other) e later is =
    let same : other ≡ fault = cc in
    let here : read_line version reading at line ≡ Err fault = e ∙ ap (λ (f : RuleFault). Err f) same in
    inl (record {
      before = before;
      line = line;
      after = lines;
      lines = refl;
      place = line_at version reading at line fault here ∙ r.place;
      goes_on = can_go_on version before reading at r;
      stops = cannot_go_on version before reading at line fault r here;
    })

place_in : (version : Version) (lines before : List (List ℕ)) (reading : Reading) (at : ℕ) (fault : RuleFault) → Reached version before reading at
    → read_lines version reading at lines ≡ Err fault → IsPlaceIn version (before ++ lines) fault.line
place_in version [] before reading at fault r is = inr (ends_early version before reading at fault r is)
place_in version (line ∷ lines) before reading at fault r is =
    stops_by version before reading at line lines fault r (read_line version reading at line) refl
    (λ next e later. place_in version lines (before ++ line ∷ []) next (at + 1) fault (reached_more version before reading next at line r e) later)
    is

-- ## The place of a fault

place_body : (text line : List ℕ) (body : List (List ℕ)) (version : Option Version) (fault : RuleFault) → length text ≤ 65536 → lines_of text ≡ line ∷ body → version_of line ≡ version → IsHeader line version
    → read_body version body ≡ Err fault → IsFirstFaultyLine text fault.line
place_body text line body None fault size lines named head is =
    let e : fault_at 1 kinds.Header ≡ fault = cc in
    inl (
      sym (ap (λ (f : RuleFault). f.line) e),
      λ version other h.
          let same : line ∷ body ≡ header version ∷ other = sym lines ∙ h.lines in
          let first : line ≡ header version = cc in
          let found = header_given line version first in cc,
    )
place_body text line body (Some version) fault size lines named head is =
    inr (version, body, record { size = size; lines = lines ∙ ap (λ (k : List ℕ). k ∷ body) head }, place_in version body [] unread 2 fault (reached_start version) is)

place_file : (text : List ℕ) (lines : List (List ℕ)) (fault : RuleFault) → length text ≤ 65536 → lines_of text ≡ lines → read_file lines ≡ Err fault → IsFirstFaultyLine text fault.line
place_file text [] fault size e is =
    let f : fault_at 1 kinds.Header ≡ fault = cc in
    inl (sym (ap (λ (k : RuleFault). k.line) f), λ version other h. let same : [] ≡ header version ∷ other = sym e ∙ h.lines in cc)
place_file text (line ∷ body) fault size e is = place_body text line body (version_of line) fault size e refl (version_is line) is

place_sized : (text : List ℕ) (fault : RuleFault) (b : Bool) → nat_lt 65536 (length text) ≡ b
    → (if b then Err (fault_at 1 kinds.Size) else read_file (lines_of text)) ≡ Err fault → IsFirstFaultyLine text fault.line
place_sized text fault true e is =
    let f : fault_at 1 kinds.Size ≡ fault = cc in
    let more = large (length text) e in
    inl (sym (ap (λ (k : RuleFault). k.line) f), λ version other h. let size : length text ≤ 65536 = h.size in absurd (omega arith))
place_sized text fault false e is = place_file text (lines_of text) fault (not_large (length text) e) refl is

-- a fault is at the first faulty line
pub place : (text : List ℕ) (fault : RuleFault) → rules_in text ≡ Err fault → IsFirstFaultyLine text fault.line
place text fault is = place_sized text fault (nat_lt 65536 (length text)) refl is
