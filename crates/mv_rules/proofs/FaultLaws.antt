-- A text has one list of rules or one first faulty line, and its fault is of the lines up to that one.
use Rattle.std.proofs.Common.{◌≡◌, ◌⊎◌, inl, inr, ℕ, ◌+◌, ◌<◌, ◌≤◌, Bool, List, [], ◌∷◌, ◌++◌, length, refl, ap, sym, ◌∙◌, subst, arith, append_assoc, length-append, Some, None}
use Rattle.std.proofs.lemmas.Bool.{cases_order}
use Rattle.std.specs.Prelude.{Option, Result, Ok, Err, if◌then◌else◌}
use Rattle.mv_rules.specs.declared.rule.Rule.{Rule}
use Rattle.mv_rules.specs.declared.fault.RuleFault.{RuleFault}
use Rattle.mv_rules.specs.declared.fault.RuleKind.TheVariants as kinds
use Rattle.mv_rules.specs.declared.reading.Version.{Version}
use Rattle.mv_rules.specs.declared.reading.Reading.{Reading}
use Rattle.mv_scan.specs.Lines.{lines_of}
use Rattle.mv_rules.specs.RulesText.{and_then, fault_at, read_line, read_lines, read_body, read_file, rules_in, unread, version_of}
use Rattle.mv_rules.specs.Grammar.{header, HasHeader, Spells, SpellsBody, CanGoOn, StopsAt, EndsEarly, IsFirstFaultyLine, AgreeUpTo}
use Rattle.mv_rules.proofs.GrammarLaws.{version_given, is_small, found_spelled, spelled_found, end_at, line_at, place}

-- ## One list of rules

same_rules : (r : Result (List Rule) RuleFault) (x y : List Rule) → r ≡ Ok x → r ≡ Ok y → x ≡ y
same_rules r x y h k = cc

pub one_list : (text : List ℕ) (rules others : List Rule) → Spells text rules → Spells text others → rules ≡ others
one_list text rules others s t = same_rules (rules_in text) rules others (spelled_found text rules s) (spelled_found text others t)

-- ## One first line

one_version : (version other : Version) → header version ≡ header other → version ≡ other
one_version version other e =
    let named : Some version ≡ Some other = sym (version_given version) ∙ ap version_of e ∙ version_given other in cc

one_header : (text : List ℕ) (version other : Version) (body others : List (List ℕ)) → HasHeader text version body → HasHeader text other others → (version ≡ other) × (body ≡ others)
one_header text version other body others h k =
    let same : header version ∷ body ≡ header other ∷ others = sym h.lines ∙ k.lines in
    let first : header version ≡ header other = cc in
    let behind : body ≡ others = cc in
    (one_version version other first, behind)

-- ## No faulty line where rules are spelled

abbrev IsPlace : Version → List (List ℕ) → ℕ → Type 0
IsPlace version body at = StopsAt version body at ⊎ EndsEarly version body at

body_goes_on : (version : Version) (body : List (List ℕ)) (rules : List Rule) (at : ℕ) → SpellsBody version body rules → IsPlace version body at → ⊥
body_goes_on version body rules at s (inl p) =
    p.stops p.after rules (subst (λ (k : List (List ℕ)). SpellsBody version k rules) (p.lines ∙ sym (append_assoc p.before (p.line ∷ []) p.after)) s)
body_goes_on version body rules at s (inr p) = p.stops rules s

pub spelled_is_faultless : (text : List ℕ) (rules : List Rule) (at : ℕ) → Spells text rules → IsFirstFaultyLine text at → ⊥
spelled_is_faultless text rules at s (inl p) = p.1 s.version s.body s.header
spelled_is_faultless text rules at s (inr (version, body, head, p)) =
    let same = one_header text s.version version s.body body s.header head in
    let here : SpellsBody s.version body rules = subst (λ (k : List (List ℕ)). SpellsBody s.version k rules) same.1 s.spelled in
    body_goes_on version body rules at (subst (λ (v : Version). SpellsBody v body rules) same.0 here) p

-- ## One first faulty line

-- the longer of two fronts of a list goes on behind the shorter
record GoesOn (before : List (List ℕ)) (line : List ℕ) (longer : List (List ℕ)) : Type 0 where
  pub more : List (List ℕ)
  pub whole : longer ≡ before ++ (line ∷ more)

goes_on : (before after longer behind : List (List ℕ)) (line : List ℕ) → before ++ (line ∷ after) ≡ longer ++ behind → length before < length longer → GoesOn before line longer
goes_on [] after [] behind line e less = absurd (omega (arith, less))
goes_on [] after (first ∷ longer) behind line e less = let same : line ≡ first = cc in record { more = longer; whole = ap (λ (k : List ℕ). k ∷ longer) (sym same) }
goes_on (b ∷ before) after [] behind line e less = absurd (omega (arith, less))
goes_on (b ∷ before) after (first ∷ longer) behind line e less =
    let same : b ≡ first = cc in
    let rest : before ++ (line ∷ after) ≡ longer ++ behind = cc in
    let r : GoesOn before line longer = goes_on before after longer behind line rest (omega (arith, less)) in
    record { more = r.more; whole = ap (λ (k : List ℕ). k ∷ longer) (sym same) ∙ ap (λ (k : List (List ℕ)). b ∷ k) r.whole }

not_before : (version : Version) (body : List (List ℕ)) (at other : ℕ) (p : StopsAt version body at) (q : StopsAt version body other) → length p.before < length q.before → ⊥
not_before version body at other p q less =
    let on : GoesOn p.before p.line q.before = goes_on p.before p.after q.before (q.line ∷ q.after) p.line (sym p.lines ∙ q.lines) less in
    let c = q.goes_on in
    let same : q.before ++ c.more ≡ (p.before ++ (p.line ∷ [])) ++ (on.more ++ c.more) =
    ap (λ (k : List (List ℕ)). k ++ c.more) on.whole ∙ append_assoc p.before (p.line ∷ on.more) c.more ∙ sym (append_assoc p.before (p.line ∷ []) (on.more ++ c.more)) in
    p.stops (on.more ++ c.more) c.rules (subst (λ (k : List (List ℕ)). SpellsBody version k c.rules) same c.spelled)

-- lines that stop somewhere can't go on
not_whole : (version : Version) (body : List (List ℕ)) (at : ℕ) → StopsAt version body at → CanGoOn version body → ⊥
not_whole version body at p c =
    let same : body ++ c.more ≡ (p.before ++ (p.line ∷ [])) ++ (p.after ++ c.more) =
    ap (λ (k : List (List ℕ)). k ++ c.more) p.lines ∙ append_assoc p.before (p.line ∷ p.after) c.more ∙ sym (append_assoc p.before (p.line ∷ []) (p.after ++ c.more)) in
    p.stops (p.after ++ c.more) c.rules (subst (λ (k : List (List ℕ)). SpellsBody version k c.rules) same c.spelled)

one_stop : (version : Version) (body : List (List ℕ)) (at other : ℕ) (p : StopsAt version body at) (q : StopsAt version body other)
    → (length p.before ≡ length q.before) ⊎ ((length p.before < length q.before) ⊎ (length q.before < length p.before)) → at ≡ other
one_stop version body at other p q (inl same) = p.place ∙ ap (λ (n : ℕ). n + 2) same ∙ sym q.place
one_stop version body at other p q (inr (inl less)) = absurd (not_before version body at other p q less)
one_stop version body at other p q (inr (inr more)) = absurd (not_before version body other at q p more)

one_place : (version : Version) (body : List (List ℕ)) (at other : ℕ) → IsPlace version body at → IsPlace version body other → at ≡ other
one_place version body at other (inl p) (inl q) = one_stop version body at other p q (cases_order (length p.before) (length q.before))
one_place version body at other (inl p) (inr q) = absurd (not_whole version body at p q.goes_on)
one_place version body at other (inr p) (inl q) = absurd (not_whole version body other q p.goes_on)
one_place version body at other (inr p) (inr q) = p.place ∙ sym q.place

pub one_faulty_line : (text : List ℕ) (at other : ℕ) → IsFirstFaultyLine text at → IsFirstFaultyLine text other → at ≡ other
one_faulty_line text at other (inl p) (inl q) = p.0 ∙ sym q.0
one_faulty_line text at other (inl p) (inr (version, body, head, q)) = absurd (p.1 version body head)
one_faulty_line text at other (inr (version, body, head, p)) (inl q) = absurd (q.1 version body head)
one_faulty_line text at other (inr (version, body, head, p)) (inr (second, lines, top, q)) =
    let same = one_header text second version lines body top head in
    let here : IsPlace second body other = subst (λ (k : List (List ℕ)). IsPlace second k other) same.1 q in
    one_place version body at other p (subst (λ (v : Version). IsPlace v body other) same.0 here)

-- ## One of the two

abbrev pub IsEither : List ℕ → Type 0
IsEither text = ((rules : List Rule) × Spells text rules) ⊎ ((at : ℕ) × IsFirstFaultyLine text at)

either_by : (text : List ℕ) (r : Result (List Rule) RuleFault) → rules_in text ≡ r → IsEither text
either_by text (Ok rules) e = inl (rules, found_spelled text rules e)
either_by text (Err fault) e = inr (fault.line, place text fault e)

pub either : (text : List ℕ) → IsEither text
either text = either_by text (rules_in text) refl

-- ## Within the lines

place_within : (version : Version) (body : List (List ℕ)) (at : ℕ) → IsPlace version body at → (1 ≤ at) × (at ≤ length body + 2)
place_within version body at (inl p) =
    let size : length body ≡ length p.before + length (p.line ∷ p.after) = ap (λ (k : List (List ℕ)). length k) p.lines ∙ length-append p.before (p.line ∷ p.after) in
    let here = p.place in
    (omega (arith, here), omega (arith, here, size))
place_within version body at (inr p) = let here = p.place in (omega (arith, here), omega (arith, here))

pub is_within : (text : List ℕ) (at : ℕ) → IsFirstFaultyLine text at → (1 ≤ at) × (at ≤ length (lines_of text) + 1)
is_within text at (inl p) = let here = p.0 in (omega (arith, here), omega (arith, here))
is_within text at (inr (version, body, head, p)) =
    let size : length (lines_of text) ≡ length (header version ∷ body) = ap (λ (k : List (List ℕ)). length k) head.lines in
    let w = place_within version body at p in
    (w.0, omega (arith, w.1, size))

-- ## Of the lines up to it

not_earlier_by : (version : Version) (line : List ℕ) (lines : List (List ℕ)) (reading : Reading) (at : ℕ) (fault : RuleFault) (found : Result Reading RuleFault) → read_line version reading at line ≡ found
    → ((next : Reading) → read_lines version next (at + 1) lines ≡ Err fault → at + 1 ≤ fault.line)
    → and_then found (λ next. read_lines version next (at + 1) lines) ≡ Err fault → at ≤ fault.line
not_earlier_by version line lines reading at fault (Ok next) e later is = let behind = later next is in omega (arith, behind)
not_earlier_by version line lines reading at fault (Err other) e later is =
    let same : other ≡ fault = cc in
    let here = line_at version reading at line fault (e ∙ ap (λ (f : RuleFault). Err f) same) in
    omega (arith, here)

-- a fault isn't before the line at which the rest begins
not_earlier : (version : Version) (lines : List (List ℕ)) (reading : Reading) (at : ℕ) (fault : RuleFault) → read_lines version reading at lines ≡ Err fault → at ≤ fault.line
not_earlier version [] reading at fault is = let here = end_at reading.rules reading.phase at fault is in omega (arith, here)
not_earlier version (line ∷ lines) reading at fault is =
    not_earlier_by version line lines reading at fault (read_line version reading at line) refl (λ next later. not_earlier version lines next (at + 1) fault later) is

same_by : (version : Version) (front behind others : List (List ℕ)) (at : ℕ) (fault : RuleFault) (found : Result Reading RuleFault)
    → ((next : Reading) → read_lines version next (at + 1) (front ++ behind) ≡ Err fault → read_lines version next (at + 1) (front ++ others) ≡ Err fault)
    → and_then found (λ next. read_lines version next (at + 1) (front ++ behind)) ≡ Err fault → and_then found (λ next. read_lines version next (at + 1) (front ++ others)) ≡ Err fault
same_by version front behind others at fault (Ok next) later is = later next is
same_by version front behind others at fault (Err other) later is = is

-- a fault on one of these lines is met whatever stands behind them
same_lines : (version : Version) (front behind others : List (List ℕ)) (reading : Reading) (at : ℕ) (fault : RuleFault) → fault.line < at + length front
    → read_lines version reading at (front ++ behind) ≡ Err fault → read_lines version reading at (front ++ others) ≡ Err fault
same_lines version [] behind others reading at fault less is = let more = not_earlier version behind reading at fault is in absurd (omega (arith, more, less))
same_lines version (line ∷ front) behind others reading at fault less is =
    same_by version front behind others at fault (read_line version reading at line) (λ next. same_lines version front behind others next (at + 1) fault (omega (arith, less))) is

same_body : (version : Option Version) (front behind others : List (List ℕ)) (fault : RuleFault) → fault.line < 2 + length front
    → read_body version (front ++ behind) ≡ Err fault → read_body version (front ++ others) ≡ Err fault
same_body None front behind others fault less is = is
same_body (Some version) front behind others fault less is = same_lines version front behind others unread 2 fault less is

same_file : (front behind others : List (List ℕ)) (fault : RuleFault) → 1 ≤ length front → length front ≡ fault.line → read_file (front ++ behind) ≡ Err fault → read_file (front ++ others) ≡ Err fault
same_file [] behind others fault some count is = absurd (omega (arith, some))
same_file (line ∷ front) behind others fault some count is = same_body (version_of line) front behind others fault (omega (arith, count)) is

of_file : (text : List ℕ) (lines : List (List ℕ)) → length text ≤ 65536 → lines_of text ≡ lines → rules_in text ≡ read_file lines
of_file text lines size e =
    ap (λ (b : Bool). if b then Err (fault_at 1 kinds.Size) else read_file (lines_of text)) (is_small (length text) size) ∙ ap (λ (k : List (List ℕ)). read_file k) e

pub same_fault : (text other : List ℕ) (fault : RuleFault) → AgreeUpTo fault.line text other → rules_in text ≡ Err fault → rules_in other ≡ Err fault
same_fault text other fault a is =
    let some = (is_within text fault.line (place text fault is)).0 in
    let count = a.count in
    of_file other (a.front ++ a.others) a.other_size a.other_lines
    ∙ same_file a.front a.behind a.others fault (omega (arith, some, count)) a.count (sym (of_file text (a.front ++ a.behind) a.size a.lines) ∙ is)

same_place_by : (text other : List ℕ) (at : ℕ) (r : Result (List Rule) RuleFault) → rules_in text ≡ r → AgreeUpTo at text other → IsFirstFaultyLine text at → IsFirstFaultyLine other at
same_place_by text other at (Ok rules) e a p = absurd (spelled_is_faultless text rules at (found_spelled text rules e) p)
same_place_by text other at (Err fault) e a p =
    let same : fault.line ≡ at = one_faulty_line text fault.line at (place text fault e) p in
    let agree : AgreeUpTo fault.line text other = subst (λ (n : ℕ). AgreeUpTo n text other) (sym same) a in
    subst (λ (n : ℕ). IsFirstFaultyLine other n) same (place other fault (same_fault text other fault agree e))

pub same_place : (text other : List ℕ) (at : ℕ) → AgreeUpTo at text other → IsFirstFaultyLine text at → IsFirstFaultyLine other at
same_place text other at a p = same_place_by text other at (rules_in text) refl a p
