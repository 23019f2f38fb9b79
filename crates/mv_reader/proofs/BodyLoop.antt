-- Reading a body instruction by instruction, as a loop does.
use Rattle.std.proofs.Common.{◌≡◌, ℕ, zero, suc, Bool, List, [], ◌∷◌, ◌++◌, length, Result, Ok, Err, Option, Some, None, refl, sym, ◌∙◌, arith}
use Rattle.mv_calls.specs.declared.fault.Or.{Or}
use Rattle.mv_calls.specs.declared.fault.Or.TheVariants as or
use Rattle.mv_syntax.specs.declared.fault.ReadFault.{ReadFault}
use Rattle.mv_syntax.specs.declared.fault.ReadKind.{ReadKind}
use Rattle.mv_syntax.specs.declared.instr.Instr.{Instr}
use Rattle.mv_syntax.specs.Form.{At, after}
use Rattle.mv_syntax.specs.Forms.{judged}
use Rattle.mv_syntax.specs.Instructions.{instruction}
use Rattle.mv_syntax.specs.Nesting.{nest}
use Rattle.mv_syntax.specs.Bodies.{nowhere, nested, goes_on, closing}
use Rattle.mv_syntax.proofs.BodyLaws.{Same, step_same, ended_instruction, instruction_shorter, enough}
use Rattle.mv_syntax.specs.Reading.{Fails}
use Rattle.mv_reader.proofs.Loops.{with_front, regroup}

-- what is still read of the body
abbrev pub rest_of : List Bool → At → Result (List Instr × At) ReadFault
rest_of opens at = (closing (length at.rest) opens).reads at

-- behind an instruction
abbrev go_on : Result ((Instr × Option (List Bool)) × At) ReadFault → Result (List Instr × At) ReadFault
go_on r = after r (λ x. (goes_on (closing (length x.1.rest)) x.0.0 x.0.1).reads x.1)

abbrev step_of : List Bool → ℕ → Result (Instr × At) ReadFault → Result ((Instr × Option (List Bool)) × At) ReadFault
step_of opens start r = after r (λ x. judged start x.1 (nested opens x.0))

judged_to : (m start : ℕ) (next : At) (r : Result (Instr × Option (List Bool)) ReadKind) → ((o : List Bool) → Same m (length next.rest) o next)
    → after (judged start next r) (λ x. (goes_on (closing m) x.0.0 x.0.1).reads x.1) ≡ go_on (judged start next r)
judged_to m start next (Ok step) h = step_same m (length next.rest) step.0 step.1 next h
judged_to m start next (Err k) h = refl

read_to : (m : ℕ) (opens : List Bool) (start : ℕ) (r : Result (Instr × At) ReadFault) → ((i : Instr) (next : At) → r ≡ Ok (i, next) → (o : List Bool) → Same m (length next.rest) o next)
    → after (step_of opens start r) (λ x. (goes_on (closing m) x.0.0 x.0.1).reads x.1) ≡ go_on (step_of opens start r)
read_to m opens start (Ok x) h = judged_to m start x.1 (nested opens x.0) (h x.0 x.1 refl)
read_to m opens start (Err d) h = refl

from_count : (n : ℕ) (opens : List Bool) (at : At) → length at.rest ≡ n → (closing n opens).reads at ≡ go_on (step_of opens at.place (instruction.reads at))
unfolding closing nowhere
from_count zero opens at e = rw (ended_instruction at e) refl
from_count (suc n) opens at e = read_to n opens at.place (instruction.reads at) (λ i next h o. enough n (length next.rest) o next (omega (arith, instruction_shorter at i next h)) (omega arith))

-- a body is an instruction, and what that leaves to be read
pub stepwise : (opens : List Bool) (at : At) → rest_of opens at ≡ go_on (step_of opens at.place (instruction.reads at))
stepwise opens at = from_count (length at.rest) opens at refl

pub front_nil : {A : Type 0} (r : Result (List A × At) ReadFault) → with_front [] r ≡ r
front_nil (Ok x) = refl
front_nil (Err d) = refl

pub body_goes_on : (front : List Instr) (opens left : List Bool) (at next : At) (i : Instr) (total : Result (List Instr × At) ReadFault) → instruction.reads at ≡ Ok (i, next) → nest opens i ≡ Ok (Some left)
    → with_front front (rest_of opens at) ≡ total → with_front (front ++ i ∷ []) (rest_of left next) ≡ total
body_goes_on front opens left at next i total h step so_far =
    let one : with_front front (rest_of opens at) ≡ with_front (front ++ i ∷ []) (rest_of left next) = rw (stepwise opens at, h, step) (regroup front i (rest_of left next)) in
    sym one ∙ so_far

pub body_closed : (front : List Instr) (opens : List Bool) (at next : At) (i : Instr) (total : Result (List Instr × At) ReadFault) → instruction.reads at ≡ Ok (i, next) → nest opens i ≡ Ok None
    → with_front front (rest_of opens at) ≡ total → total ≡ Ok (front ++ i ∷ [], next)
body_closed front opens at next i total h step so_far =
    let one : with_front front (rest_of opens at) ≡ Ok (front ++ i ∷ [], next) = rw (stepwise opens at, h, step) refl in
    sym so_far ∙ one

pub body_refused : (front : List Instr) (opens : List Bool) (at next : At) (i : Instr) (k : ReadKind) (total : Result (List Instr × At) ReadFault) → instruction.reads at ≡ Ok (i, next) → nest opens i ≡ Err k
    → with_front front (rest_of opens at) ≡ total → total ≡ Err (record { place = at.place; kind = k })
body_refused front opens at next i k total h step so_far =
    let one : with_front front (rest_of opens at) ≡ Err (record { place = at.place; kind = k }) = rw (stepwise opens at, h, step) refl in
    sym so_far ∙ one

pub body_ends : (e : Or ReadFault) (front : List Instr) (opens : List Bool) (at : At) (total : Result (List Instr × At) ReadFault) → Fails e (instruction.reads at)
    → with_front front (rest_of opens at) ≡ total → Fails e total
body_ends or.OutOfMemory front opens at total h so_far = tt
body_ends (or.Fault d) front opens at total h so_far =
    let one : with_front front (rest_of opens at) ≡ Err d = rw (stepwise opens at, h) refl in
    sym so_far ∙ one
