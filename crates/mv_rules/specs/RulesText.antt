-- The rules that a text spells, or its first fault: the first faulty line counts, and on it the first kind in the order of
-- the table (docs/FORMATS.md, "Faults of rules").
use Rattle.std.specs.Prelude.{ℕ, ◌+◌, nat_le, nat_lt, Bool, true, false, ◌&&◌, ◌||◌, not, List, [], ◌∷◌, ◌++◌, length, Option, Some, None, Result, Ok, Err, if◌then◌else◌, codes}
use Rattle.std.specs.List.{list_any}
use Rattle.std.specs.Str.{bytes_eq}
use Rattle.mv_rules.specs.declared.rule.Pattern.{Pattern}
use Rattle.mv_rules.specs.declared.rule.Guard.{Guard}
use Rattle.mv_rules.specs.declared.rule.Rule.{Rule}
use Rattle.mv_rules.specs.declared.fault.RuleFault.{RuleFault}
use Rattle.mv_rules.specs.declared.fault.RuleKind.{RuleKind}
use Rattle.mv_rules.specs.declared.fault.RuleKind.TheVariants as kinds
use Rattle.mv_scan.specs.declared.found.Found.{Found}
use Rattle.mv_scan.specs.declared.found.Found.TheVariants.{Is}
use Rattle.mv_rules.specs.declared.line.Line.{Line}
use Rattle.mv_rules.specs.declared.line.Line.TheVariants as lines
use Rattle.mv_rules.specs.declared.reading.Version.{Version}
use Rattle.mv_rules.specs.declared.reading.Version.TheVariants.{First, Second}
use Rattle.mv_rules.specs.declared.reading.Phase.{Phase}
use Rattle.mv_rules.specs.declared.reading.Phase.TheVariants.{Outside, InLeft, InRight}
use Rattle.mv_rules.specs.declared.reading.Reading.{Reading}
use Rattle.mv_scan.specs.declared.token.Token.{Token}
use Rattle.mv_scan.specs.declared.token.Token.TheVariants.{Plain, Quoted, Glued}
use Rattle.mv_rules.specs.declared.verb.Verb.{Verb}
use Rattle.mv_scan.specs.Lines.{lines_of}
use Rattle.mv_scan.specs.Words.{words_of, is_bad_text}
use Rattle.mv_scan.specs.Found.{holds, is_other, is_out_of_range}
use Rattle.mv_rules.specs.Forms.{verb_of, item_of, guard_of, part_of}
use Rattle.mv_rules.specs.Names.{has_good_names, rest_is_last, is_sized, parts_in, has_again, is_all_bound, bytes_are_bound}
use Rattle.mv_scan.specs.Names.{is_name}

-- ## What a line is, by its first word

abbrev pub has_words : List Token → Bool
has_words [] = false
has_words (token ∷ tokens) = true

abbrev pub item_line : Bool → List Token → Option Verb → Line
item_line lengths rest None = lines.Other
item_line lengths rest (Some verb) = lines.Item (item_of verb lengths rest)

-- a guard is a form of version 2
abbrev pub guard_line : Version → List Token → Line
guard_line First rest = lines.Other
guard_line Second rest = lines.When (guard_of rest)

abbrev pub line_under : Version → Bool → List ℕ → List Token → Line
line_under version lengths word rest =
    if bytes_eq word (codes "rule") then lines.Begins (has_words rest) else if bytes_eq word (codes "to") then lines.Turns (has_words rest)
    else if bytes_eq word (codes "end") then lines.Ends (has_words rest) else if bytes_eq word (codes "when") then guard_line version rest
    else item_line lengths rest (verb_of word)

abbrev pub line_of : Version → Bool → List Token → Line
line_of version lengths [] = lines.Blank
line_of version lengths (Plain word ∷ rest) = line_under version lengths word rest
line_of version lengths (Quoted text ∷ rest) = lines.Other
line_of version lengths (Glued ∷ rest) = lines.Other

-- a `#name` is a part on the right of version 2 alone
abbrev pub lengths_stand : Version → Phase → Bool
lengths_stand Second (InRight rule) = true
lengths_stand version phase = false

-- ## The table of faults

-- an item outside a rule, or `rule`, `to` or `end` out of place
abbrev pub is_misplaced : Phase → Line → Bool
is_misplaced Outside (lines.Turns more) = true
is_misplaced Outside (lines.Ends more) = true
is_misplaced Outside (lines.Item found) = true
is_misplaced (InLeft rule) (lines.Begins more) = true
is_misplaced (InLeft rule) (lines.Ends more) = true
is_misplaced (InRight rule) (lines.Begins more) = true
is_misplaced (InRight rule) (lines.Turns more) = true
is_misplaced phase line = false

-- how many words are parts of a byte list, of which an item has at most one
abbrev pub part_count : Bool → List Token → ℕ
part_count lengths [] = 0
part_count lengths (token ∷ tokens) = (if is_other (part_of lengths token) then 0 else 1) + part_count lengths tokens

abbrev pub is_full : Phase → Bool
is_full Outside = false
is_full (InLeft rule) = nat_le 8 (length rule.left)
is_full (InRight rule) = nat_le 16 (length rule.right)

-- one too many: rules, items of a side, parts of a byte list
abbrev pub is_excess : Reading → Bool → List Token → Line → Bool
is_excess reading lengths tokens (lines.Begins more) = nat_le 64 (length reading.rules)
is_excess reading lengths tokens (lines.Item found) = nat_lt 16 (part_count lengths tokens) || is_full reading.phase
is_excess reading lengths tokens line = false

-- a right side after no left item
abbrev pub is_empty_left : Phase → Line → Bool
is_empty_left (InLeft rule) (lines.Turns more) = nat_le (length rule.left) 0
is_empty_left phase line = false

abbrev pub is_left : Phase → Bool
is_left (InLeft rule) = true
is_left phase = false

-- none of the forms: a word more, another item, a guard outside a left side, another first word
abbrev pub is_formless : Phase → Line → Bool
is_formless phase lines.Blank = false
is_formless phase (lines.Begins more) = more
is_formless phase (lines.Turns more) = more
is_formless phase (lines.Ends more) = more
is_formless phase (lines.Item found) = is_other found
is_formless phase (lines.When found) = not (is_left phase) || is_other found
is_formless phase lines.Other = true

-- a number out of its range
abbrev pub is_unfit : Line → Bool
is_unfit (lines.Item found) = is_out_of_range found
is_unfit (lines.When found) = is_out_of_range found
is_unfit line = false

-- a name of another form; on the left a rest that isn't last; on the right a part with a length
abbrev pub is_misnamed_item : Phase → Pattern → Bool
is_misnamed_item Outside pattern = false
is_misnamed_item (InLeft rule) pattern = not (has_good_names pattern && rest_is_last (parts_in pattern))
is_misnamed_item (InRight rule) pattern = not (has_good_names pattern) || list_any is_sized (parts_in pattern)

abbrev pub is_misnamed_guard : Guard → Bool
is_misnamed_guard guard = not (is_name guard.name)

abbrev pub is_misnamed : Phase → Line → Bool
is_misnamed phase (lines.Item found) = holds (is_misnamed_item phase) found
is_misnamed phase (lines.When found) = holds is_misnamed_guard found
is_misnamed phase line = false

-- a byte name again on the left
abbrev pub is_twice_in : Phase → Pattern → Bool
is_twice_in (InLeft rule) pattern = has_again rule.left [] (parts_in pattern)
is_twice_in phase pattern = false

abbrev pub is_twice : Phase → Line → Bool
is_twice phase (lines.Item found) = holds (is_twice_in phase) found
is_twice phase line = false

-- a right name that the left doesn't bind with the same sign
abbrev pub is_unbound_in : Phase → Pattern → Bool
is_unbound_in (InRight rule) pattern = not (is_all_bound rule.left pattern)
is_unbound_in phase pattern = false

abbrev pub is_unbound : Phase → Line → Bool
is_unbound phase (lines.Item found) = holds (is_unbound_in phase) found
is_unbound phase line = false

-- a guard of a name that no earlier item binds as a byte name, or a rule's ninth
abbrev pub is_bad_guard_in : Phase → Guard → Bool
is_bad_guard_in (InLeft rule) guard = not (bytes_are_bound rule.left guard.name) || nat_le 8 (length rule.guards)
is_bad_guard_in phase guard = false

abbrev pub is_bad_guard : Phase → Line → Bool
is_bad_guard phase (lines.When found) = holds (is_bad_guard_in phase) found
is_bad_guard phase line = false

-- each kind, in the order of the table, and whether the line has it
abbrev pub faults_on : Reading → Bool → List Token → Line → List (Bool × RuleKind)
faults_on reading lengths tokens line =
    (is_misplaced reading.phase line, kinds.Shape)
    ∷ (is_excess reading lengths tokens line, kinds.Many)
    ∷ (is_empty_left reading.phase line, kinds.Empty)
    ∷ (is_formless reading.phase line, kinds.Word)
    ∷ (is_unfit line, kinds.Number)
    ∷ (list_any is_bad_text tokens, kinds.Quote)
    ∷ (is_misnamed reading.phase line, kinds.Name)
    ∷ (is_twice reading.phase line, kinds.Twice)
    ∷ (is_unbound reading.phase line, kinds.Unbound)
    ∷ (is_bad_guard reading.phase line, kinds.Guard)
    ∷ []

abbrev pub first_fault : List (Bool × RuleKind) → Option RuleKind
first_fault [] = None
first_fault (test ∷ tests) = if test.0 then Some test.1 else first_fault tests

-- ## What a line without a fault leaves

-- a rule of which only the first line was read
abbrev pub new_rule : ℕ → Rule
new_rule at = record { line = at; left = []; guards = []; right = [] }

abbrev pub with_item : Phase → Found Pattern → Phase
with_item (InLeft rule) (Is pattern) = InLeft (record rule { left = rule.left ++ pattern ∷ [] })
with_item (InRight rule) (Is pattern) = InRight (record rule { right = rule.right ++ pattern ∷ [] })
with_item phase found = phase

abbrev pub with_guard : Phase → Found Guard → Phase
with_guard (InLeft rule) (Is guard) = InLeft (record rule { guards = rule.guards ++ guard ∷ [] })
with_guard phase found = phase

abbrev pub turned : Phase → Phase
turned (InLeft rule) = InRight rule
turned phase = phase

abbrev pub ended : List Rule → Phase → Reading
ended rules (InRight rule) = record { rules = rules ++ rule ∷ []; phase = Outside }
ended rules phase = record { rules = rules; phase = phase }

abbrev pub after_line : Reading → ℕ → Line → Reading
after_line reading at lines.Blank = reading
after_line reading at (lines.Begins more) = record reading { phase = InLeft (new_rule at) }
after_line reading at (lines.Turns more) = record reading { phase = turned reading.phase }
after_line reading at (lines.Ends more) = ended reading.rules reading.phase
after_line reading at (lines.Item found) = record reading { phase = with_item reading.phase found }
after_line reading at (lines.When found) = record reading { phase = with_guard reading.phase found }
after_line reading at lines.Other = reading

-- ## The whole text

abbrev pub fault_at : ℕ → RuleKind → RuleFault
fault_at at kind = record { line = at; kind = kind }

abbrev pub unless : {T : Type 0} → ℕ → Option RuleKind → T → Result T RuleFault
unless at None value = Ok value
unless at (Some kind) value = Err (fault_at at kind)

abbrev pub and_then : {A B : Type 0} → Result A RuleFault → (A → Result B RuleFault) → Result B RuleFault
and_then (Ok value) next = next value
and_then (Err fault) next = Err fault

abbrev pub read_words : Reading → ℕ → Bool → List Token → Line → Result Reading RuleFault
read_words reading at lengths tokens line = unless at (first_fault (faults_on reading lengths tokens line)) (after_line reading at line)

abbrev pub read_line : Version → Reading → ℕ → List ℕ → Result Reading RuleFault
read_line version reading at bytes =
    let lengths = lengths_stand version reading.phase in
    read_words reading at lengths (words_of bytes) (line_of version lengths (words_of bytes))

abbrev pub is_outside : Phase → Bool
is_outside Outside = true
is_outside phase = false

-- the file's end is out of place in a rule; its line is the one after the last
abbrev pub at_end : Reading → ℕ → Result (List Rule) RuleFault
at_end reading at = if is_outside reading.phase then Ok reading.rules else Err (fault_at at kinds.Shape)

abbrev pub read_lines : Version → Reading → ℕ → List (List ℕ) → Result (List Rule) RuleFault
read_lines version reading at [] = at_end reading at
read_lines version reading at (line ∷ lines) = and_then (read_line version reading at line) (λ next. read_lines version next (at + 1) lines)

abbrev pub version_of : List ℕ → Option Version
version_of line =
    if bytes_eq line (codes "mvrules 1") then Some First else if bytes_eq line (codes "mvrules 2") then Some Second else None

abbrev pub unread : Reading
unread = record { rules = []; phase = Outside }

abbrev pub read_body : Option Version → List (List ℕ) → Result (List Rule) RuleFault
read_body None lines = Err (fault_at 1 kinds.Header)
read_body (Some version) lines = read_lines version unread 2 lines

abbrev pub read_file : List (List ℕ) → Result (List Rule) RuleFault
read_file [] = Err (fault_at 1 kinds.Header)
read_file (line ∷ lines) = read_body (version_of line) lines

-- what a rules file spells
abbrev pub rules_in : List ℕ → Result (List Rule) RuleFault
rules_in text = if nat_lt 65536 (length text) then Err (fault_at 1 kinds.Size) else read_file (lines_of text)
