-- Reading a body instruction by instruction gives exactly the closed bodies, each instruction spelled behind the other.
use Rattle.std.proofs.Common.{◌≡◌, ℕ, zero, suc, ◌+◌, ◌≤◌, ◌<◌, Bool, List, [], ◌∷◌, ◌++◌, length, Result, Ok, Err, Option, Some, None, refl, sym, ap, subst, ◌∙◌, add-zero, arith}
use Rattle.std.proofs.lemmas.List.{append-nil, length-append, nil_from_length}
use Rattle.mv_syntax.specs.declared.fault.ReadFault.{ReadFault}
use Rattle.mv_syntax.specs.declared.fault.ReadKind.{ReadKind}
use Rattle.mv_syntax.specs.declared.instr.Instr.{Instr}
use Rattle.mv_syntax.specs.Form.{At, runs_out, after}
use Rattle.mv_syntax.specs.Forms.{judged, byte_from, byte, many}
use Rattle.mv_syntax.specs.Instructions.{instruction}
use Rattle.mv_syntax.specs.Nesting.{nest}
use Rattle.mv_syntax.specs.Code.{EachSpelled}
use Rattle.mv_syntax.proofs.InstructionLaws.{instruction_agrees}
use Rattle.mv_syntax.proofs.NestingLaws.{Closes, Onward}
use Rattle.mv_syntax.specs.Bodies.{nowhere, with_step, nested, goes_on, closing}

-- ---- an instruction has a byte at least

pub instruction_long : (text : List ℕ) (i : Instr) → instruction.spells text i → 0 < length text
unfolding instruction byte
instruction_long text i s =
    let one : length s.front ≡ 1 = ap length s.front_spells.spelled in
    omega (arith, ap length s.whole, length-append s.front s.back)

pub instruction_shorter : (at : At) (i : Instr) (next : At) → instruction.reads at ≡ Ok (i, next) → length next.rest < length at.rest
instruction_shorter at i next e =
    let t = instruction_agrees.sound at i next e in
    omega (arith, ap length t.parts, length-append t.text next.rest, instruction_long t.text i t.spelled)

pub each_long : (code : List Instr) (text : List ℕ) → EachSpelled text code → length code ≤ length text
unfolding many
each_long [] text s = omega arith
each_long (i ∷ code) text s =
    let r = s.back_spells in
    let same : s.first ∷ r.first ≡ i ∷ code = sym r.back_spells.1 in
    let code-is : r.first ≡ code = cc in
    let rest : EachSpelled r.front code = subst (λ (c : List Instr). (many instruction (length code)).spells r.front c) code-is r.front_spells in
    omega (arith, ap length s.whole, length-append s.front s.back, ap length r.whole, length-append r.front r.back, instruction_long s.front s.first s.front_spells, each_long code r.front rest)

-- ---- what closes is spelled so

with_step_ok : (i : Instr) (r : Result (Option (List Bool)) ReadKind) (step : Instr × Option (List Bool)) → with_step i r ≡ Ok step → (r ≡ Ok step.1) × (i ≡ step.0)
with_step_ok i (Ok opens) step e =
    let p : (i, opens) ≡ step = cc in
    (ap (λ (x : Instr × Option (List Bool)). Ok x.1) p, ap (λ (x : Instr × Option (List Bool)). x.0) p)
with_step_ok i (Err k) step e = absurd cc

-- the first instruction, and the others
each_cons : (i : Instr) (code : List Instr) (front back : List ℕ) → instruction.spells front i → EachSpelled back code → EachSpelled (front ++ back) (i ∷ code)
unfolding many
each_cons i code front back s r = record {
  first = i;
  front = front;
  back = back;
  whole = refl;
  front_spells = s;
  back_spells = record { first = code; front = back; back = []; whole = sym (append-nil back); front_spells = r; back_spells = (refl, refl) };
}

each_nil : EachSpelled [] []
unfolding many
each_nil = (refl, refl)

pub record IsClosing (opens : List Bool) (text : List ℕ) (code : List Instr) : Type 0 where
  pub closes : Closes opens code
  pub each : EachSpelled text code

abbrev FromStep : ℕ → Instr → Option (List Bool) → List ℕ → List Instr → Type 0
FromStep n i opens text code = (goes_on (closing n) i opens).spells text code

abbrev Below : ℕ → Type 0
Below n = (opens : List Bool) (text : List ℕ) (code : List Instr) → (closing n opens).spells text code → IsClosing opens text code

step_spelled : (n : ℕ) → Below n → (opens : List Bool) (i : Instr) (left : Option (List Bool)) (front back : List ℕ) (code : List Instr) → instruction.spells front i → nest opens i ≡ Ok left → FromStep n i left back code → IsClosing opens (front ++ back) code
step_spelled n below opens i None front back code head step s =
    let nil : List Instr = [] in
    let same : nil ≡ nil = refl in
    let closed : Closes opens (i ∷ []) = subst (λ (r : Result (Option (List Bool)) ReadKind). Onward r (nil ≡ nil) (λ o. Closes o nil)) (sym step) same in
    let each : EachSpelled (front ++ back) (i ∷ []) = each_cons i [] front back head (subst (λ (t : List ℕ). EachSpelled t []) (sym s.0) each_nil) in
    subst (λ (c : List Instr). IsClosing opens (front ++ back) c) (sym s.1) (record { closes = closed; each = each })
step_spelled n below opens i (Some left) front back code head step s =
    let rest = below left s.front s.first s.front_spells in
    let closed : Closes opens (i ∷ s.first) = subst (λ (r : Result (Option (List Bool)) ReadKind). Onward r (s.first ≡ []) (λ o. Closes o s.first)) (sym step) rest.closes in
    let back-is : s.front ≡ back = sym (s.whole ∙ ap (λ (t : List ℕ). s.front ++ t) s.back_spells.0 ∙ append-nil s.front) in
    let each : EachSpelled (front ++ back) (i ∷ s.first) = each_cons i s.first front back head (subst (λ (t : List ℕ). EachSpelled t s.first) back-is rest.each) in
    subst (λ (c : List Instr). IsClosing opens (front ++ back) c) (sym s.back_spells.1) (record { closes = closed; each = each })

pub closing_spelled : (n : ℕ) (opens : List Bool) (text : List ℕ) (code : List Instr) → (closing n opens).spells text code → IsClosing opens text code
unfolding closing nowhere
closing_spelled zero opens text code s = absurd s
closing_spelled (suc n) opens text code s =
    let m = with_step_ok s.front_spells.sign (nest opens s.front_spells.sign) s.first s.front_spells.meant in
    let head : instruction.spells s.front s.first.0 = subst (λ (i : Instr). instruction.spells s.front i) m.1 s.front_spells.spelled in
    let step : nest opens s.first.0 ≡ Ok s.first.1 = subst (λ (i : Instr). nest opens i ≡ Ok s.first.1) m.1 m.0 in
    let r = step_spelled n (closing_spelled n) opens s.first.0 s.first.1 s.front s.back code head step s.back_spells in
    record { closes = r.closes; each = subst (λ (t : List ℕ). EachSpelled t code) (sym s.whole) r.each }

-- ---- what is spelled so closes

abbrev Makes : ℕ → List Bool → List ℕ → List Instr → Type 0
Makes n opens text code = (closing n opens).spells text code

step_made : (n : ℕ) (opens : List Bool) (i : Instr) (code : List Instr) (front back : List ℕ) (left : Result (Option (List Bool)) ReadKind) → instruction.spells front i → nest opens i ≡ left → EachSpelled back code
    → Onward left (code ≡ []) (λ o. Makes n o back code) → Makes (suc n) opens (front ++ back) (i ∷ code)
unfolding closing many
step_made n opens i code front back (Ok None) head step each h =
    let back-is : back ≡ [] = (subst (λ (c : List Instr). EachSpelled back c) h each).0 in
    record {
      first = (i, None);
      front = front;
      back = back;
      whole = refl;
      front_spells = record { sign = i; spelled = head; meant = ap (with_step i) step };
      back_spells = (back-is, ap (λ (c : List Instr). i ∷ c) h);
    }
step_made n opens i code front back (Ok (Some o)) head step each h = record {
  first = (i, Some o);
  front = front;
  back = back;
  whole = refl;
  front_spells = record { sign = i; spelled = head; meant = ap (with_step i) step };
  back_spells = record { first = code; front = back; back = []; whole = sym (append-nil back); front_spells = h; back_spells = (refl, refl) };
}
step_made n opens i code front back (Err k) head step each h = absurd h

each_parts : (i : Instr) (code : List Instr) (text : List ℕ) → EachSpelled text (i ∷ code) → (front : List ℕ) × (back : List ℕ) × (text ≡ front ++ back) × instruction.spells front i × EachSpelled back code
unfolding many
each_parts i code text s =
    let r = s.back_spells in
    let same : i ∷ code ≡ s.first ∷ r.first = r.back_spells.1 in
    let head-is : s.first ≡ i = cc in
    let code-is : r.first ≡ code = cc in
    let back-is : r.front ≡ s.back = sym (r.whole ∙ ap (λ (t : List ℕ). r.front ++ t) r.back_spells.0 ∙ append-nil r.front) in
    let rest : EachSpelled r.front code = subst (λ (c : List Instr). (many instruction (length code)).spells r.front c) code-is r.front_spells in
    (s.front, s.back, s.whole, subst (λ (x : Instr). instruction.spells s.front x) head-is s.front_spells, subst (λ (t : List ℕ). EachSpelled t code) back-is rest)

onward_made : (n : ℕ) (code : List Instr) (back : List ℕ) (left : Result (Option (List Bool)) ReadKind) → ((o : List Bool) → Closes o code → Makes n o back code) → Onward left (code ≡ []) (λ o. Closes o code) → Onward left (code ≡ []) (λ o. Makes n o back code)
onward_made n code back (Ok None) f h = h
onward_made n code back (Ok (Some o)) f h = f o h
onward_made n code back (Err k) f h = h

pub closing_made : (code : List Instr) (n : ℕ) (opens : List Bool) (text : List ℕ) → length code ≤ n → Closes opens code → EachSpelled text code → (closing n opens).spells text code
closing_made [] n opens text le closes each = absurd closes
closing_made (i ∷ code) zero opens text le closes each = absurd (omega arith)
closing_made (i ∷ code) (suc n) opens text le closes each =
    let p = each_parts i code text each in
    let made = step_made n opens i code p.0 p.1 (nest opens i) p.3 refl p.4 (onward_made n code p.1 (nest opens i) (λ o h. closing_made code n o p.1 (omega arith) h p.4) closes) in
    subst (λ (t : List ℕ). Makes (suc n) opens t (i ∷ code)) (sym p.2) made

-- ---- the bound is no bound: as many instructions as there are bytes

ended_byte : (rest : List ℕ) (place : ℕ) (short : ReadKind) → rest ≡ [] → byte_from place short rest ≡ Err (record { place = place + length rest; kind = short })
ended_byte rest place short e = rw e (ap (λ (p : ℕ). Err (record { place = p; kind = short })) (sym (add-zero place)))

pub ended_instruction : (at : At) → length at.rest ≡ 0 → instruction.reads at ≡ runs_out at
unfolding instruction byte
ended_instruction at e = rw (ended_byte at.rest at.place at.short (nil_from_length at.rest e)) refl

abbrev pub Same : ℕ → ℕ → List Bool → At → Type 0
Same m n opens at = (closing m opens).reads at ≡ (closing n opens).reads at

pub step_same : (m n : ℕ) (i : Instr) (left : Option (List Bool)) (next : At) → ((o : List Bool) → Same m n o next) → (goes_on (closing m) i left).reads next ≡ (goes_on (closing n) i left).reads next
step_same m n i None next h = refl
step_same m n i (Some o) next h = ap (λ (r : Result (List Instr × At) ReadFault). after r (λ x. Ok (i ∷ x.0, x.1))) (h o)

judged_same : (m n : ℕ) (start : ℕ) (next : At) (r : Result (Instr × Option (List Bool)) ReadKind) → ((o : List Bool) → Same m n o next)
    → after (judged start next r) (λ x. (goes_on (closing m) x.0.0 x.0.1).reads x.1) ≡ after (judged start next r) (λ x. (goes_on (closing n) x.0.0 x.0.1).reads x.1)
judged_same m n start next (Ok step) h = step_same m n step.0 step.1 next h
judged_same m n start next (Err k) h = refl

read_same : (m n : ℕ) (opens : List Bool) (start : ℕ) (r : Result (Instr × At) ReadFault) → ((i : Instr) (next : At) → r ≡ Ok (i, next) → (o : List Bool) → Same m n o next)
    → after (after r (λ x. judged start x.1 (nested opens x.0))) (λ x. (goes_on (closing m) x.0.0 x.0.1).reads x.1) ≡ after (after r (λ x. judged start x.1 (nested opens x.0))) (λ x. (goes_on (closing n) x.0.0 x.0.1).reads x.1)
read_same m n opens start (Ok x) h = judged_same m n start x.1 (nested opens x.0) (h x.0 x.1 refl)
read_same m n opens start (Err d) h = refl

pub enough : (m n : ℕ) (opens : List Bool) (at : At) → length at.rest ≤ m → length at.rest ≤ n → (closing m opens).reads at ≡ (closing n opens).reads at
unfolding closing nowhere
enough zero zero opens at lm ln = refl
enough zero (suc n) opens at lm ln = rw (ended_instruction at (omega arith)) refl
enough (suc m) zero opens at lm ln = rw (ended_instruction at (omega arith)) refl
enough (suc m) (suc n) opens at lm ln = read_same m n opens at.place (instruction.reads at) (λ i next e o. enough m n o next (omega (arith, instruction_shorter at i next e)) (omega (arith, instruction_shorter at i next e)))
