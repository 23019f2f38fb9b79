-- The line of the first fault is the first with which a text can't go on.
use Rattle.std.proofs.Common.{◌≡◌, ℕ, ◌+◌, ◌^◌, Bool, true, false, cond, ltb, List, [], ◌∷◌, ◌++◌, length, Option, Some, None, Result, Ok, Err, ◌⊎◌, inl, inr, refl, sym, ap, ◌∙◌, append_assoc, arith}
use Rattle.std.specs.Prelude.{codes}
use Rattle.std.proofs.lemmas.Bool.{ltb-false, ltb-true}
use Rattle.mv_calls.specs.Or.{IfFault}
use Rattle.mv_calls.specs.declared.fault.Or.{Or}
use Rattle.mv_calls.specs.declared.fault.Or.TheVariants.{Fault, OutOfMemory}
use Rattle.mv_syntax.specs.declared.instr.Instr.TheVariants.{End}
use Rattle.mv_syntax.specs.Sections.{Parts, nothing_yet}
use Rattle.mv_scan.specs.declared.token.Token.TheVariants.{Plain}
use Rattle.mv_scan.specs.Lines.{lines_of}
use Rattle.mv_statements.specs.declared.fault.TextFault.{TextFault}
use Rattle.mv_statements.specs.declared.fault.TextKind.{TextKind}
use Rattle.mv_statements.specs.declared.fault.TextKind.TheVariants as kinds
use Rattle.mv_statements.specs.declared.statement.Statement.TheVariants as statements
use Rattle.mv_statements.specs.declared.statement.Reading.TheVariants.{Known}
use Rattle.mv_statements.specs.Forms.{last}
use Rattle.mv_statements.specs.Statements.{reading_of, immediates, instruction, behind, statement}
use Rattle.mv_text.specs.States.{Body}
use Rattle.mv_text.specs.declared.state.State.{State}
use Rattle.mv_text.specs.Comments.{words_on}
use Rattle.mv_text.specs.Assembly.{with_function, ended, outside, within, judged, step, stepped, finished_in, assembled_from, nothing, assembled, fault_at}
use Rattle.mv_text.specs.Grammar.{sentences, CanGoOn, CannotGoOn, StopsAt, EndsEarly, IsFirstFaultyLine}
use Rattle.mv_text.proofs.Assembles.{read_is_spelled, leads_read, items_lead}

-- ## Where the fault is met

abbrev Reaches : State → List (List ℕ) → State → Type 0
Reaches s [] t = s ≡ t
Reaches s (line ∷ lines) t = (next : State) × (step s (words_on line) ≡ Ok next) × Reaches next lines t

record Met (s : State) (at : ℕ) (lines : List (List ℕ)) (fault : TextFault) : Type 0 where
  before : List (List ℕ)
  line : List ℕ
  after : List (List ℕ)
  state : State
  whole : lines ≡ before ++ (line ∷ after)
  place : fault.line ≡ length before + at
  reached : Reaches s before state
  refused : step state (words_on line) ≡ Err fault.kind

record Early (s : State) (at : ℕ) (lines : List (List ℕ)) (fault : TextFault) : Type 0 where
  state : State
  place : fault.line ≡ length lines + at
  reached : Reaches s lines state

early_at : (s : State) (inside : Option Body) (at : ℕ) (fault : TextFault) → finished_in inside s.parts at ≡ Err fault → Early s at [] fault
early_at s None at fault e = absurd cc
early_at s (Some f) at fault e =
    let same : fault_at at kinds.Unended ≡ fault = cc in
    record { state = s; place = sym (ap (λ (x : TextFault). x.line) same) ∙ omega arith; reached = refl }

met_at : (s : State) (at : ℕ) (line : List ℕ) (lines : List (List ℕ)) (fault : TextFault) → (r : Result State TextKind) → step s (words_on line) ≡ r → ((next : State) → assembled_from next (at + 1) lines ≡ Err fault → Met next (at + 1) lines fault ⊎ Early next (at + 1) lines fault)
    → stepped at r (λ next. assembled_from next (at + 1) lines) ≡ Err fault → Met s at (line ∷ lines) fault ⊎ Early s at (line ∷ lines) fault
met_at s at line lines fault (Err kind) is more e =
    let same : fault_at at kind ≡ fault = cc in
    inl (record { before = []; line = line; after = lines; state = s; whole = refl; place = sym (ap (λ (x : TextFault). x.line) same) ∙ omega arith; reached = refl; refused = is ∙ ap (λ (x : TextFault). Err x.kind) same })
met_at s at line lines fault (Ok next) is more e = elim (more next e) [
  | inl m ↦ inl (record { before = line ∷ m.before; line = m.line; after = m.after; state = m.state; whole = ap (λ (x : List (List ℕ)). line ∷ x) m.whole; place = omega (arith, m.place); reached = (next, is, m.reached); refused = m.refused })
  | inr m ↦ inr (record { state = m.state; place = omega (arith, m.place); reached = (next, is, m.reached) })
]

met : (lines : List (List ℕ)) (s : State) (at : ℕ) (fault : TextFault) → assembled_from s at lines ≡ Err fault → Met s at lines fault ⊎ Early s at lines fault
met [] s at fault e = inr (early_at s s.inside at fault e)
met (line ∷ lines) s at fault e = met_at s at line lines fault (step s (words_on line)) refl (λ (next : State) (h : assembled_from next (at + 1) lines ≡ Err fault). met lines next (at + 1) fault h) e

-- ## Going on

goes_on : (before more : List (List ℕ)) (s t : State) (at : ℕ) → Reaches s before t → assembled_from s at (before ++ more) ≡ assembled_from t (length before + at) more
goes_on [] more s t at h =
    let place : at ≡ 0 + at = omega arith in
    ap (λ (x : State). assembled_from x at more) h ∙ ap (λ (n : ℕ). assembled_from t n more) place
goes_on (line ∷ before) more s t at h =
    let place : length before + (at + 1) ≡ length (line ∷ before) + at = omega arith in
    ap (λ (x : Result State TextKind). stepped at x (λ next. assembled_from next (at + 1) (before ++ more))) h.1 ∙ goes_on before more h.0 t (at + 1) h.2 ∙ ap (λ (n : ℕ). assembled_from t n more) place

end_words : words_on (codes "end") ≡ Plain (codes "end") ∷ []
end_words = refl

last_words : words_on (codes "endfunc") ≡ Plain (codes "endfunc") ∷ []
last_words = refl

end_read : reading_of (Plain (codes "end") ∷ []) ≡ Known (statements.Instr End) None
unfolding statement behind instruction immediates last
end_read = refl

last_read : reading_of (Plain (codes "endfunc") ∷ []) ≡ Known statements.EndFunc None
unfolding statement behind last
last_read = refl

-- the lines that end a function in which these blocks are open
abbrev closing : List Bool → List (List ℕ)
closing [] = codes "endfunc" ∷ []
closing (open_ ∷ opens) = codes "end" ∷ closing opens

end_step : (p : Parts) (f : Body) (open_ : Bool) (opens : List Bool) → f.opens ≡ open_ ∷ opens → step (within p f) (words_on (codes "end")) ≡ Ok (within p (record f { code = f.code ++ End ∷ []; opens = opens }))
end_step p f open_ opens is =
    let body : f ≡ record f { opens = open_ ∷ opens } = ap (λ (o : List Bool). record f { opens = o }) is in
    ap (step (within p f)) end_words ∙ ap (judged (within p f)) end_read ∙ ap (λ (b : Body). judged (within p b) (Known (statements.Instr End) None)) body

last_step : (p : Parts) (f : Body) → f.opens ≡ [] → step (within p f) (words_on (codes "endfunc")) ≡ Ok (outside (with_function (ended f) p))
last_step p f is =
    let body : f ≡ record f { opens = [] } = ap (λ (o : List Bool). record f { opens = o }) is in
    ap (step (within p f)) last_words ∙ ap (judged (within p f)) last_read ∙ ap (λ (b : Body). judged (within p b) (Known statements.EndFunc None)) body

closed : (opens : List Bool) (p : Parts) (f : Body) (at : ℕ) → f.opens ≡ opens → (q : Parts) × (assembled_from (within p f) at (closing opens) ≡ Ok q)
closed [] p f at is = (with_function (ended f) p, ap (λ (r : Result State TextKind). stepped at r (λ next. assembled_from next (at + 1) [])) (last_step p f is))
closed (open_ ∷ opens) p f at is =
    let next : Body = record f { code = f.code ++ End ∷ []; opens = opens } in
    let r = closed opens p next (at + 1) refl in
    (r.0, ap (λ (x : Result State TextKind). stepped at x (λ s. assembled_from s (at + 1) (closing opens))) (end_step p f open_ opens is) ∙ r.1)

ended_from : (t : State) (inside : Option Body) (at : ℕ) → t.inside ≡ inside → (more : List (List ℕ)) × (q : Parts) × (assembled_from t at more ≡ Ok q)
ended_from t None at is = ([], t.parts, ap (λ (o : Option Body). finished_in o t.parts at) is)
ended_from t (Some f) at is =
    let r = closed f.opens t.parts f at refl in
    (closing f.opens, r.0, ap (λ (o : Option Body). assembled_from (record { parts = t.parts; inside = o }) at (closing f.opens)) is ∙ r.1)

can_go_on : (before : List (List ℕ)) (t : State) → Reaches nothing before t → CanGoOn before
can_go_on before t h =
    let n : ℕ = length before + 1 in
    let e = ended_from t t.inside n refl in
    let read : assembled_from nothing 1 (before ++ e.0) ≡ Ok e.1 = goes_on before e.0 nothing t 1 h ∙ e.2 in
    let s = read_is_spelled (before ++ e.0) nothing 1 e.1 read in
    record { more = e.0; parts = e.1; items = s.0; spelled = s.1 }

cannot_go_on : (before : List (List ℕ)) (line : List ℕ) (t : State) (kind : TextKind) → Reaches nothing before t → step t (words_on line) ≡ Err kind → CannotGoOn (before ++ (line ∷ []))
cannot_go_on before line t kind h refused more items parts s =
    let read : assembled_from nothing 1 ((before ++ (line ∷ [])) ++ more) ≡ Ok parts = leads_read ((before ++ (line ∷ [])) ++ more) nothing 1 parts (items_lead items nothing_yet.parts parts (sentences ((before ++ (line ∷ [])) ++ more)) s) in
    let same : (before ++ (line ∷ [])) ++ more ≡ before ++ (line ∷ more) = append_assoc before (line ∷ []) more in
    let n : ℕ = length before + 1 in
    let faulty : assembled_from t n (line ∷ more) ≡ Err (fault_at n kind) = ap (λ (r : Result State TextKind). stepped n r (λ next. assembled_from next (n + 1) more)) refused in
    let both : Ok parts ≡ Err (fault_at n kind) = sym read ∙ ap (assembled_from nothing 1) same ∙ goes_on before (line ∷ more) nothing t 1 h ∙ faulty in
    cc

-- ## The text

first_in : (lines : List (List ℕ)) (fault : TextFault) → assembled_from nothing 1 lines ≡ Err fault → StopsAt lines fault.line ⊎ EndsEarly lines fault.line
first_in lines fault e = elim (met lines nothing 1 fault e) [
  | inl m ↦ inl (record { before = m.before; line = m.line; after = m.after; whole = m.whole; place = m.place; goes_on = can_go_on m.before m.state m.reached; stops = cannot_go_on m.before m.line m.state fault.kind m.reached m.refused })
  | inr m ↦ inr (record {
    place = m.place;
    goes_on = can_go_on lines m.state m.reached;
    stops = λ items parts s. (let both : Ok parts ≡ Err fault = sym (leads_read lines nothing 1 parts (items_lead items nothing_yet.parts parts (sentences lines) s)) ∙ e in cc);
  })
]

first_at : (text : List ℕ) (fault : TextFault) (large : Bool) → ltb (2 ^ 24) (length text) ≡ large → cond large (Err (fault_at 1 kinds.Size)) (assembled_from nothing 1 (lines_of text)) ≡ Err fault → IsFirstFaultyLine text fault.line
first_at text fault true is e = (let same : fault_at 1 kinds.Size ≡ fault = cc in inl (sym (ap (λ (x : TextFault). x.line) same), ltb-true (2 ^ 24) (length text) is))
first_at text fault false is e = inr (ltb-false (2 ^ 24) (length text) is, first_in (lines_of text) fault e)

pub if_first : {T : Type 0} (text : List ℕ) (r : Result T (Or TextFault)) → IfFault r (λ fault. assembled text ≡ Err fault) → IfFault r (λ fault. IsFirstFaultyLine text fault.line)
if_first text (Ok found) h = h
if_first text (Err (Fault fault)) h = first_at text fault (ltb (2 ^ 24) (length text)) refl h
if_first text (Err OutOfMemory) h = h
