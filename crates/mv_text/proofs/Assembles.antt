-- What a text is read as is what it spells.
use Rattle.std.proofs.Common.{◌≡◌, ℕ, ◌+◌, ◌^◌, Bool, true, false, cond, ltb, List, [], ◌∷◌, ◌++◌, length, Option, Some, None, Result, Ok, Err, IfOk, ◌↔◌, ◌⊎◌, inl, inr, refl, sym, ap, subst, ◌∙◌, append_assoc}
use Rattle.std.specs.Prelude.{option_and_then}
use Rattle.std.proofs.lemmas.Bool.{ltb-false, le-ltb}
use Rattle.std.proofs.lemmas.List.{append-nil}
use Rattle.mv_calls.specs.Or.{IfFault, IsFault}
use Rattle.mv_calls.specs.declared.fault.Or.{Or}
use Rattle.mv_calls.specs.declared.fault.Or.TheVariants.{Fault, OutOfMemory}
use Rattle.mv_syntax.specs.declared.ops.ValType.{ValType}
use Rattle.mv_syntax.specs.declared.fault.ReadKind.{ReadKind}
use Rattle.mv_syntax.specs.declared.instr.Instr.{Instr}
use Rattle.mv_syntax.specs.declared.instr.Instr.TheVariants.{End}
use Rattle.mv_syntax.specs.declared.module.Func.{Func as Function}
use Rattle.mv_syntax.specs.Nesting.{nest}
use Rattle.mv_syntax.proofs.NestingLaws.{Onward, Closes, closes_body, body_closes}
use Rattle.mv_syntax.specs.Sections.{Parts, nothing_yet}
use Rattle.mv_scan.specs.declared.token.Token.{Token}
use Rattle.mv_scan.specs.Lines.{lines_of}
use Rattle.mv_statements.specs.declared.fault.TextFault.{TextFault}
use Rattle.mv_statements.specs.declared.fault.TextKind.{TextKind}
use Rattle.mv_statements.specs.declared.fault.TextKind.TheVariants as kinds
use Rattle.mv_statements.specs.declared.statement.Statement.{Statement}
use Rattle.mv_statements.specs.declared.statement.Statement.TheVariants as statements
use Rattle.mv_statements.specs.declared.statement.Reading.{Reading}
use Rattle.mv_statements.specs.declared.statement.Reading.TheVariants.{Unknown, Known}
use Rattle.mv_statements.specs.Statements.{Spells as SpellsStatement, reading_of}
use Rattle.mv_statements.proofs.Spelled.{spells_reading, reading_spells}
use Rattle.mv_text.specs.States.{Body}
use Rattle.mv_text.specs.declared.state.State.{State}
use Rattle.mv_text.specs.Comments.{words_on}
use Rattle.mv_text.specs.Assembly.{added, with_function, is_misplaced_outside, is_misplaced_inside, is_misplaced, kind_before, stays_open, new_body, ended, outside, within, with_instr, end_func, place_outside, place_inside, place, unless_faulty, judged, step, stepped, finished_in, assembled_from, nothing, assembled, fault_at}
use Rattle.mv_text.specs.Grammar.{sentences, if_words, SpellsCode, SpellsFunction, Item, Directive, Defines, IsPart, SpellsDirective, SpellsItem, with_item, SpellsItems, Spells}

-- ## Blocks

abbrev pub nests : List Bool → List Instr → Option (List Bool)
nests opens [] = Some opens
nests opens (i ∷ code) = option_and_then (λ o. nests o code) (stays_open (nest opens i))

closes_at : (code : List Instr) (r : Result (Option (List Bool)) ReadKind) → ((o : List Bool) → nests o code ≡ Some [] → Closes o (code ++ End ∷ [])) → option_and_then (λ o. nests o code) (stays_open r) ≡ Some []
    → Onward r (code ++ End ∷ [] ≡ []) (λ o. Closes o (code ++ End ∷ []))
closes_at code (Ok None) more e = absurd cc
closes_at code (Ok (Some o)) more e = more o e
closes_at code (Err k) more e = absurd cc

pub closes : (code : List Instr) (opens : List Bool) → nests opens code ≡ Some [] → Closes opens (code ++ End ∷ [])
closes [] [] e = refl
closes [] (open_ ∷ opens) e = absurd cc
closes (i ∷ code) opens e = closes_at code (nest opens i) (λ (o : List Bool) (h : nests o code ≡ Some []). closes code o h) e

some_left : (code : List Instr) → code ++ End ∷ [] ≡ [] → ⊥
some_left [] e = cc
some_left (i ∷ code) e = cc

nested_at : (code : List Instr) (r : Result (Option (List Bool)) ReadKind) → ((o : List Bool) → Closes o (code ++ End ∷ []) → nests o code ≡ Some []) → Onward r (code ++ End ∷ [] ≡ []) (λ o. Closes o (code ++ End ∷ []))
    → option_and_then (λ o. nests o code) (stays_open r) ≡ Some []
nested_at code (Ok None) more h = absurd (some_left code h)
nested_at code (Ok (Some o)) more h = more o h
nested_at code (Err k) more h = absurd h

pub nested : (code : List Instr) (opens : List Bool) → Closes opens (code ++ End ∷ []) → nests opens code ≡ Some []
nested [] [] h = refl
nested [] (open_ ∷ opens) h = absurd h
nested (i ∷ code) opens h = nested_at code (nest opens i) (λ (o : List Bool) (c : Closes o (code ++ End ∷ [])). nested code o c) h

-- ## One line

kind_none : (m : Bool) (fault : Option TextKind) → kind_before m fault ≡ None → (m ≡ false) × (fault ≡ None)
kind_none true None e = absurd cc
kind_none false None e = (refl, refl)
kind_none true (Some kinds.Size) e = absurd cc
kind_none false (Some kinds.Size) e = absurd cc
kind_none true (Some kinds.Word) e = absurd cc
kind_none false (Some kinds.Word) e = absurd cc
kind_none true (Some kinds.Place) e = absurd cc
kind_none false (Some kinds.Place) e = absurd cc
kind_none true (Some kinds.Count) e = absurd cc
kind_none false (Some kinds.Count) e = absurd cc
kind_none true (Some kinds.Quote) e = absurd cc
kind_none false (Some kinds.Quote) e = absurd cc
kind_none true (Some kinds.Number) e = absurd cc
kind_none false (Some kinds.Number) e = absurd cc
kind_none true (Some kinds.Nest) e = absurd cc
kind_none false (Some kinds.Nest) e = absurd cc
kind_none true (Some kinds.Unended) e = absurd cc
kind_none false (Some kinds.Unended) e = absurd cc

unless_ok : (fault : Option TextKind) (r : Result State TextKind) (next : State) → unless_faulty fault r ≡ Ok next → (fault ≡ None) × (r ≡ Ok next)
unless_ok None r next e = (refl, e)
unless_ok (Some k) r next e = absurd cc

pub record IsPlaced (s : State) (reading : Reading) (next : State) : Type 0 where
  pub statement : Statement
  pub read : reading ≡ Known statement None
  pub fits : is_misplaced s statement ≡ false
  pub placed : place s statement ≡ Ok next

placed_at : (s : State) (reading : Reading) (next : State) → judged s reading ≡ Ok next → IsPlaced s reading next
placed_at s Unknown next e = absurd cc
placed_at s (Known statement fault) next e =
    let u = unless_ok (kind_before (is_misplaced s statement) fault) (place s statement) next e in
    let k = kind_none (is_misplaced s statement) fault u.0 in
    record { statement = statement; read = ap (λ (f : Option TextKind). Known statement f) k.1; fits = k.0; placed = u.1 }

-- what a line outside functions does
abbrev Begins : Parts → Statement → State → Type 0
Begins p statement next = (t : ℕ) × (locals : List ValType) × (statement ≡ statements.Func t locals) × (next ≡ within p (new_body t locals))

abbrev Adds : Parts → Statement → State → Type 0
Adds p statement next = IsPart statement × (next ≡ outside (added statement p))

outside_step : (p : Parts) (statement : Statement) (next : State) → is_misplaced_outside p statement ≡ false → place_outside p statement ≡ Ok next → Begins p statement next ⊎ Adds p statement next
outside_step p (statements.Func t locals) next fits e = inl (t, locals, refl, cc)
outside_step p (statements.Signature t) next fits e = inr (tt, cc)
outside_step p (statements.Import i) next fits e = inr (tt, cc)
outside_step p (statements.Table limits) next fits e = inr (tt, cc)
outside_step p (statements.Memory limits) next fits e = inr (tt, cc)
outside_step p (statements.Global g) next fits e = inr (tt, cc)
outside_step p (statements.Export x) next fits e = inr (tt, cc)
outside_step p (statements.Start f) next fits e = inr (tt, cc)
outside_step p (statements.Element s) next fits e = inr (tt, cc)
outside_step p (statements.Segment s) next fits e = inr (tt, cc)
outside_step p statements.EndFunc next fits e = absurd cc
outside_step p (statements.Instr i) next fits e = absurd cc

-- what a line in a function does
abbrev Goes : Parts → Body → Statement → State → Type 0
Goes p f statement next = (i : Instr) × (opens : List Bool) × (statement ≡ statements.Instr i) × (stays_open (nest f.opens i) ≡ Some opens) × (next ≡ within p (record f { code = f.code ++ i ∷ []; opens = opens }))

abbrev Ends : Parts → Body → Statement → State → Type 0
Ends p f statement next = (statement ≡ statements.EndFunc) × (f.opens ≡ []) × (next ≡ outside (with_function (ended f) p))

goes_at : (p : Parts) (f : Body) (i : Instr) (o : Option (List Bool)) (next : State) → stays_open (nest f.opens i) ≡ o → with_instr p f i o ≡ Ok next → Goes p f (statements.Instr i) next
goes_at p f i None next is e = absurd cc
goes_at p f i (Some opens) next is e = (i, opens, refl, is, cc)

ends_at : (p : Parts) (f : Body) (opens : List Bool) (next : State) → f.opens ≡ opens → end_func p f opens ≡ Ok next → Ends p f statements.EndFunc next
ends_at p f [] next is e = (refl, is, cc)
ends_at p f (open_ ∷ opens) next is e = absurd cc

inside_step : (p : Parts) (f : Body) (statement : Statement) (next : State) → is_misplaced_inside statement ≡ false → place_inside p f statement ≡ Ok next → Goes p f statement next ⊎ Ends p f statement next
inside_step p f (statements.Instr i) next fits e = inl (goes_at p f i (stays_open (nest f.opens i)) next refl e)
inside_step p f statements.EndFunc next fits e = inr (ends_at p f f.opens next refl e)
inside_step p f (statements.Signature t) next fits e = absurd cc
inside_step p f (statements.Import i) next fits e = absurd cc
inside_step p f (statements.Table limits) next fits e = absurd cc
inside_step p f (statements.Memory limits) next fits e = absurd cc
inside_step p f (statements.Global g) next fits e = absurd cc
inside_step p f (statements.Export x) next fits e = absurd cc
inside_step p f (statements.Start x) next fits e = absurd cc
inside_step p f (statements.Element s) next fits e = absurd cc
inside_step p f (statements.Segment s) next fits e = absurd cc
inside_step p f (statements.Func t locals) next fits e = absurd cc

-- ## What is read is spelled

-- the function with this code behind what was read of it
abbrev pub completed : Body → List Instr → Function
completed f code = record { ftype = f.ftype; locals = f.locals; code = (f.code ++ code) ++ End ∷ [] }

-- the rest of a function, and what follows it
pub record Rest (f : Body) (before after : Parts) (lines : List (List Token)) : Type 0 where
  pub code : List Instr
  pub inner : List (List Token)
  pub last : List Token
  pub more : List (List Token)
  pub whole : lines ≡ inner ++ (last ∷ more)
  pub each : SpellsCode code inner
  pub ends : SpellsStatement statements.EndFunc last
  pub closes : nests f.opens code ≡ Some []
  pub items : List Item
  pub spelled : SpellsItems items (with_function (completed f code) before) after more

abbrev pub Goal : Option Body → Parts → Parts → List (List Token) → Type 0
Goal None before after lines = (items : List Item) × SpellsItems items before after lines
Goal (Some f) before after lines = Rest f before after lines

one_more : (before after : Parts) (words : List Token) (lines : List (List Token)) (statement : Statement) → SpellsStatement statement words → IsPart statement → is_misplaced_outside before statement ≡ false
    → Goal None (added statement before) after lines → Goal None before after (words ∷ lines)
one_more before after words lines statement s part fits rest =
    (Directive statement ∷ rest.0, (words ∷ [], lines, refl, record { words = words; whole = refl; spelled = s; part = part; placed = fits }, rest.1))

function_more : (before after : Parts) (words : List Token) (lines : List (List Token)) (t : ℕ) (locals : List ValType) → SpellsStatement (statements.Func t locals) words → Rest (new_body t locals) before after lines → Goal None before after (words ∷ lines)
function_more before after words lines t locals s r =
    let f : Function = completed (new_body t locals) r.code in
    let spelled : SpellsFunction f (words ∷ (r.inner ++ r.last ∷ [])) = record {
      first = words;
      inner = r.inner;
      last = r.last;
      whole = refl;
      begins = s;
      code = r.code;
      code_is = refl;
      each = r.each;
      ends = r.ends;
      closed = closes_body (r.code ++ End ∷ []) (closes r.code [] r.closes);
    } in
    let parts : words ∷ lines ≡ (words ∷ (r.inner ++ r.last ∷ [])) ++ r.more = ap (λ (x : List (List Token)). words ∷ x) (r.whole ∙ sym (append_assoc r.inner (r.last ∷ []) r.more)) in
    (Defines f ∷ r.items, (words ∷ (r.inner ++ r.last ∷ []), r.more, parts, spelled, r.spelled))

instr_more : (f : Body) (before after : Parts) (words : List Token) (lines : List (List Token)) (i : Instr) (opens : List Bool) → SpellsStatement (statements.Instr i) words → stays_open (nest f.opens i) ≡ Some opens
    → Rest (record f { code = f.code ++ i ∷ []; opens = opens }) before after lines → Rest f before after (words ∷ lines)
instr_more f before after words lines i opens s o r =
    let same : (f.code ++ i ∷ []) ++ r.code ≡ f.code ++ (i ∷ r.code) = append_assoc f.code (i ∷ []) r.code in
    record {
      code = i ∷ r.code;
      inner = words ∷ r.inner;
      last = r.last;
      more = r.more;
      whole = ap (λ (x : List (List Token)). words ∷ x) r.whole;
      each = (words, r.inner, refl, s, r.each);
      ends = r.ends;
      closes = ap (λ (x : Option (List Bool)). option_and_then (λ o. nests o r.code) x) o ∙ r.closes;
      items = r.items;
      spelled = subst (λ (c : List Instr). SpellsItems r.items (with_function (record { ftype = f.ftype; locals = f.locals; code = c ++ End ∷ [] }) before) after r.more) same r.spelled;
    }

end_more : (f : Body) (before after : Parts) (words : List Token) (lines : List (List Token)) → SpellsStatement statements.EndFunc words → f.opens ≡ [] → Goal None (with_function (ended f) before) after lines → Rest f before after (words ∷ lines)
end_more f before after words lines s flat rest = record {
  code = [];
  inner = [];
  last = words;
  more = lines;
  whole = refl;
  each = refl;
  ends = s;
  closes = ap (λ (o : List Bool). Some o) flat;
  items = rest.0;
  spelled = subst (λ (c : List Instr). SpellsItems rest.0 (with_function (record { ftype = f.ftype; locals = f.locals; code = c ++ End ∷ [] }) before) after lines) (sym (append-nil f.code)) rest.1;
}

-- one line with words in front of what is spelled
line_more : (s : State) (inside : Option Body) → s.inside ≡ inside → (words : List Token) (lines : List (List Token)) (after : Parts) (next : State) → IsPlaced s (reading_of words) next
    → Goal next.inside next.parts after lines → Goal inside s.parts after (words ∷ lines)
line_more s None is words lines after next h rest =
    let st : Statement = h.statement in
    let spelled : SpellsStatement st words = reading_spells words st h.read in
    let fits : is_misplaced_outside s.parts st ≡ false = subst (λ (o : Option Body). is_misplaced (record { parts = s.parts; inside = o }) st ≡ false) is h.fits in
    let placed : place_outside s.parts st ≡ Ok next = subst (λ (o : Option Body). place (record { parts = s.parts; inside = o }) st ≡ Ok next) is h.placed in
    elim (outside_step s.parts st next fits placed) [
      | inl b ↦ function_more s.parts after words lines b.0 b.1 (subst (λ (x : Statement). SpellsStatement x words) b.2 spelled) (subst (λ (n : State). Goal n.inside n.parts after lines) b.3 rest)
      | inr a ↦ one_more s.parts after words lines st spelled a.0 fits (subst (λ (n : State). Goal n.inside n.parts after lines) a.1 rest)
    ]
line_more s (Some f) is words lines after next h rest =
    let st : Statement = h.statement in
    let spelled : SpellsStatement st words = reading_spells words st h.read in
    let fits : is_misplaced_inside st ≡ false = subst (λ (o : Option Body). is_misplaced (record { parts = s.parts; inside = o }) st ≡ false) is h.fits in
    let placed : place_inside s.parts f st ≡ Ok next = subst (λ (o : Option Body). place (record { parts = s.parts; inside = o }) st ≡ Ok next) is h.placed in
    elim (inside_step s.parts f st next fits placed) [
      | inl g ↦ instr_more f s.parts after words lines g.0 g.1 (subst (λ (x : Statement). SpellsStatement x words) g.2 spelled) g.3 (subst (λ (n : State). Goal n.inside n.parts after lines) g.4 rest)
      | inr e ↦ end_more f s.parts after words lines (subst (λ (x : Statement). SpellsStatement x words) e.0 spelled) e.1 (subst (λ (n : State). Goal n.inside n.parts after lines) e.2 rest)
    ]

stepped_ok : (at : ℕ) (r : Result State TextKind) (f : State → Result Parts TextFault) (p : Parts) → stepped at r f ≡ Ok p → (next : State) × (r ≡ Ok next) × (f next ≡ Ok p)
stepped_ok at (Ok next) f p e = (next, refl, e)
stepped_ok at (Err kind) f p e = absurd cc

finished_ok : (inside : Option Body) (before after : Parts) (at : ℕ) → finished_in inside before at ≡ Ok after → Goal inside before after []
finished_ok None before after at e = (let same : before ≡ after = cc in ([], (refl, sym same)))
finished_ok (Some f) before after at e = absurd cc

words_more : (s : State) (words : List Token) (lines : List (List Token)) (after : Parts) (next : State) → step s words ≡ Ok next → Goal next.inside next.parts after lines → Goal s.inside s.parts after (if_words words lines)
words_more s [] lines after next e rest = (let same : s ≡ next = cc in subst (λ (n : State). Goal n.inside n.parts after lines) (sym same) rest)
words_more s (word ∷ words) lines after next e rest = line_more s s.inside refl (word ∷ words) lines after next (placed_at s (reading_of (word ∷ words)) next e) rest

pub read_is_spelled : (lines : List (List ℕ)) (s : State) (at : ℕ) (after : Parts) → assembled_from s at lines ≡ Ok after → Goal s.inside s.parts after (sentences lines)
read_is_spelled [] s at after e = finished_ok s.inside s.parts after at e
read_is_spelled (line ∷ lines) s at after e =
    let t = stepped_ok at (step s (words_on line)) (λ next. assembled_from next (at + 1) lines) after e in
    words_more s (words_on line) (sentences lines) after t.0 t.1 (read_is_spelled lines t.0 (at + 1) after t.2)

-- ## What is spelled is read

-- the lines lead to these parts
abbrev pub Leads : State → List (List Token) → Parts → Type 0
Leads s [] after = s ≡ outside after
Leads s (words ∷ lines) after = (next : State) × (step s words ≡ Ok next) × Leads next lines after

words_lead : (s : State) (words : List Token) (lines : List (List Token)) (after : Parts) → Leads s (if_words words lines) after → (next : State) × (step s words ≡ Ok next) × Leads next lines after
words_lead s [] lines after h = (s, refl, h)
words_lead s (word ∷ words) lines after h = h

pub leads_read : (lines : List (List ℕ)) (s : State) (at : ℕ) (after : Parts) → Leads s (sentences lines) after → assembled_from s at lines ≡ Ok after
leads_read [] s at after h = rw h refl
leads_read (line ∷ lines) s at after h =
    let w = words_lead s (words_on line) (sentences lines) after h in
    ap (λ (r : Result State TextKind). stepped at r (λ next. assembled_from next (at + 1) lines)) w.1 ∙ leads_read lines w.0 (at + 1) after w.2

-- a spelled statement that may stand is placed
step_is : (s : State) (st : Statement) (words : List Token) → SpellsStatement st words → is_misplaced s st ≡ false → step s words ≡ place s st
step_is s st words h fits =
    let read : reading_of words ≡ Known st None = spells_reading words st h in
    let first : step s words ≡ judged s (reading_of words) = subst (λ (w : List Token). step s w ≡ judged s (reading_of w)) (sym h.written) refl in
    first ∙ ap (judged s) read ∙ ap (λ (m : Bool). unless_faulty (kind_before m None) (place s st)) fits

placed_outside : (p : Parts) (st : Statement) → IsPart st → place_outside p st ≡ Ok (outside (added st p))
placed_outside p (statements.Func t locals) part = absurd part
placed_outside p (statements.Signature t) part = refl
placed_outside p (statements.Import i) part = refl
placed_outside p (statements.Table limits) part = refl
placed_outside p (statements.Memory limits) part = refl
placed_outside p (statements.Global g) part = refl
placed_outside p (statements.Export x) part = refl
placed_outside p (statements.Start f) part = refl
placed_outside p (statements.Element s) part = refl
placed_outside p (statements.Segment s) part = refl
placed_outside p statements.EndFunc part = refl
placed_outside p (statements.Instr i) part = refl

code_at : (i : Instr) (code : List Instr) (p : Parts) (f : Body) (opens : List Bool) (words : List Token) (rest more : List (List Token)) (after : Parts) → SpellsStatement (statements.Instr i) words
    → ((b : Body) → nests b.opens code ≡ Some opens → Leads (within p (record b { code = b.code ++ code; opens = opens })) more after → Leads (within p b) (rest ++ more) after)
    → (o : Option (List Bool)) → stays_open (nest f.opens i) ≡ o → option_and_then (λ o. nests o code) o ≡ Some opens
    → Leads (within p (record f { code = f.code ++ (i ∷ code); opens = opens })) more after → Leads (within p f) (words ∷ (rest ++ more)) after
code_at i code p f opens words rest more after s on None is e h = absurd cc
code_at i code p f opens words rest more after s on (Some o) is e h =
    let next : Body = record f { code = f.code ++ i ∷ []; opens = o } in
    let go : step (within p f) words ≡ Ok (within p next) = step_is (within p f) (statements.Instr i) words s refl ∙ ap (with_instr p f i) is in
    let same : f.code ++ (i ∷ code) ≡ (f.code ++ i ∷ []) ++ code = sym (append_assoc f.code (i ∷ []) code) in
    (within p next, go, on next e (subst (λ (c : List Instr). Leads (within p (record f { code = c; opens = opens })) more after) same h))

code_leads : (code : List Instr) (p : Parts) (f : Body) (opens : List Bool) (inner more : List (List Token)) (after : Parts) → SpellsCode code inner → nests f.opens code ≡ Some opens
    → Leads (within p (record f { code = f.code ++ code; opens = opens })) more after → Leads (within p f) (inner ++ more) after
code_leads [] p f opens inner more after each e h =
    let same : f.opens ≡ opens = cc in
    let body : record f { code = f.code ++ []; opens = opens } ≡ f = ap (λ (c : List Instr). record f { code = c; opens = opens }) (append-nil f.code) ∙ ap (λ (o : List Bool). record f { code = f.code; opens = o }) (sym same) in
    subst (λ (x : List (List Token)). Leads (within p f) (x ++ more) after) (sym each) (subst (λ (b : Body). Leads (within p b) more after) body h)
code_leads (i ∷ code) p f opens inner more after each e h =
    subst (λ (x : List (List Token)). Leads (within p f) (x ++ more) after) (sym each.2)
    (code_at i code p f opens each.0 each.1 more after each.3
    (λ (b : Body) (n : nests b.opens code ≡ Some opens) (l : Leads (within p (record b { code = b.code ++ code; opens = opens })) more after). code_leads code p b opens each.1 more after each.4 n l)
    (stays_open (nest f.opens i)) refl e h)

function_leads : (f : Function) (front rest : List (List Token)) (before after : Parts) → SpellsFunction f front → Leads (outside (with_function f before)) rest after → Leads (outside before) (front ++ rest) after
function_leads f front rest before after s h =
    let start : Body = new_body f.ftype f.locals in
    let flat : nests [] s.code ≡ Some [] = nested s.code [] (subst (λ (c : List Instr). Closes [] c) s.code_is (body_closes f.code s.closed)) in
    let whole : Body = record start { code = s.code; opens = [] } in
    let f_is : ended whole ≡ f = ap (λ (c : List Instr). record { ftype = f.ftype; locals = f.locals; code = c }) (sym s.code_is) in
    let last : step (within before whole) s.last ≡ Ok (outside (with_function f before)) = step_is (within before whole) statements.EndFunc s.last s.ends refl ∙ ap (λ (x : Function). Ok (outside (with_function x before))) f_is in
    let inner : Leads (within before start) (s.inner ++ (s.last ∷ rest)) after = code_leads s.code before start [] s.inner (s.last ∷ rest) after s.each flat (outside (with_function f before), last, h) in
    let all : front ++ rest ≡ s.first ∷ (s.inner ++ (s.last ∷ rest)) = ap (λ (x : List (List Token)). x ++ rest) s.whole ∙ ap (λ (x : List (List Token)). s.first ∷ x) (append_assoc s.inner (s.last ∷ []) rest) in
    subst (λ (x : List (List Token)). Leads (outside before) x after) (sym all) (within before start, step_is (outside before) (statements.Func f.ftype f.locals) s.first s.begins refl, inner)

directive_leads : (st : Statement) (front rest : List (List Token)) (before after : Parts) → SpellsDirective st before front → Leads (outside (added st before)) rest after → Leads (outside before) (front ++ rest) after
directive_leads st front rest before after s h =
    subst (λ (x : List (List Token)). Leads (outside before) (x ++ rest) after) (sym s.whole) (outside (added st before), step_is (outside before) st s.words s.spelled s.placed ∙ placed_outside before st s.part, h)

item_leads : (item : Item) (front rest : List (List Token)) (before after : Parts) → SpellsItem item before front → Leads (outside (with_item item before)) rest after → Leads (outside before) (front ++ rest) after
item_leads (Directive st) front rest before after s h = directive_leads st front rest before after s h
item_leads (Defines f) front rest before after s h = function_leads f front rest before after s h

pub items_lead : (items : List Item) (before after : Parts) (lines : List (List Token)) → SpellsItems items before after lines → Leads (outside before) lines after
items_lead [] before after lines h = subst (λ (x : List (List Token)). Leads (outside before) x after) (sym h.0) (ap outside (sym h.1))
items_lead (item ∷ items) before after lines h =
    subst (λ (x : List (List Token)). Leads (outside before) x after) (sym h.2) (item_leads item h.0 h.1 before after h.3 (items_lead items (with_item item before) after h.1 h.4))

-- ## The text

abbrev Found : List ℕ → Bool → Parts → Type 0
Found text large p = cond large (Err (fault_at 1 kinds.Size)) (assembled_from nothing 1 (lines_of text)) ≡ Ok p

found_spells : (text : List ℕ) (p : Parts) (large : Bool) → ltb (2 ^ 24) (length text) ≡ large → Found text large p → Spells text p
found_spells text p true is e = absurd cc
found_spells text p false is e =
    let g = read_is_spelled (lines_of text) nothing 1 p e in
    record { small = ltb-false (2 ^ 24) (length text) is; items = g.0; spelled = g.1 }

pub assembled_spells : (text : List ℕ) (p : Parts) → assembled text ≡ Ok p → Spells text p
assembled_spells text p e = found_spells text p (ltb (2 ^ 24) (length text)) refl e

pub spells_assembled : (text : List ℕ) (p : Parts) → Spells text p → assembled text ≡ Ok p
spells_assembled text p s =
    let few : ltb (2 ^ 24) (length text) ≡ false = le-ltb (2 ^ 24) (length text) s.small in
    rw few (leads_read (lines_of text) nothing 1 p (items_lead s.items nothing_yet.parts p (sentences (lines_of text)) s.spelled))

pub if_spelled : {T : Type 0} (text : List ℕ) (r : Result T (Or TextFault)) (view : T → Parts) → IfOk r (λ d. assembled text ≡ Ok (view d)) → IfOk r (λ d. (p : Parts) → Spells text p ↔ (p ≡ view d))
if_spelled text (Ok d) view h = λ p. (λ (s : Spells text p). (let e : Ok p ≡ Ok (view d) = sym (spells_assembled text p s) ∙ h in cc), λ (e : p ≡ view d). subst (λ (x : Parts). Spells text x) (sym e) (assembled_spells text (view d) h))
if_spelled text (Err e) view h = h

pub if_refused : {T : Type 0} (text : List ℕ) (r : Result T (Or TextFault)) → IfFault r (λ fault. assembled text ≡ Err fault) → IsFault r → (p : Parts) → Spells text p → ⊥
if_refused text (Ok found) h is p s = absurd is
if_refused text (Err (Fault fault)) h is p s = (let e : Err fault ≡ Ok p = sym h ∙ spells_assembled text p s in cc)
if_refused text (Err OutOfMemory) h is p s = absurd is
