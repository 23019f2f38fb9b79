-- What is read as code is spelled so, and what is spelled so is read.
use Rattle.std.proofs.Common.{◌≡◌, ℕ, zero, suc, ◌≤◌, Bool, List, [], ◌∷◌, ◌++◌, length, Ok, Option, Some, None, arith, ap}
use Rattle.std.proofs.lemmas.List.{length-append}
use Rattle.mv_syntax.specs.declared.instr.Instr.{Instr}
use Rattle.mv_syntax.specs.Form.{At, past, Form}
use Rattle.mv_syntax.specs.Bodies.{nowhere, nested, goes_on, closing}
use Rattle.mv_syntax.specs.Code.{Spelled, code}
use Rattle.mv_syntax.proofs.FormLaws.{Took, Agrees, give_agrees, then_agrees, means_agrees, nowhere_sound, nowhere_complete}
use Rattle.mv_syntax.proofs.InstructionLaws.{instruction_agrees}
use Rattle.mv_syntax.proofs.NestingLaws.{body_closes, closes_body}
use Rattle.mv_syntax.proofs.BodyLaws.{each_long, closing_spelled, closing_made}

nowhere_agrees : {A : Type 0} → Agrees {A = A} nowhere
unfolding nowhere
nowhere_agrees = record { sound = nowhere_sound; complete = nowhere_complete }

goes_on_agrees : (next : List Bool → Form (List Instr)) → ((opens : List Bool) → Agrees (next opens)) → (i : Instr) (left : Option (List Bool)) → Agrees (goes_on next i left)
goes_on_agrees next k i None = give_agrees (i ∷ [])
goes_on_agrees next k i (Some opens) = then_agrees (k opens) (λ code. give_agrees (i ∷ code))

closing_agrees : (n : ℕ) (opens : List Bool) → Agrees (closing n opens)
unfolding closing
closing_agrees zero opens = nowhere_agrees
closing_agrees (suc n) opens = then_agrees (means_agrees instruction_agrees (nested opens)) (λ step. goes_on_agrees (closing n) (closing_agrees n) step.0 step.1)

code_sound : (at : At) (c : List Instr) (next : At) → (closing (length at.rest) []).reads at ≡ Ok (c, next) → Took Spelled at c next
code_sound at c next e =
    let t = (closing_agrees (length at.rest) []).sound at c next e in
    let s = closing_spelled (length at.rest) [] t.text c t.spelled in
    record { text = t.text; spelled = record { body = closes_body c s.closes; each = s.each }; parts = t.parts; next_is = t.next_is }

code_complete : (at : At) (text : List ℕ) (c : List Instr) (more : List ℕ) → Spelled text c → at.rest ≡ text ++ more → (closing (length at.rest) []).reads at ≡ Ok (c, past at text more)
code_complete at text c more s e =
    let le : length c ≤ length at.rest = omega (arith, each_long c text s.each, ap length e, length-append text more) in
    (closing_agrees (length at.rest) []).complete at text c more (closing_made c (length at.rest) [] text le (body_closes c s.body) s.each) e

pub code_agrees : Agrees code
unfolding code
code_agrees = record { sound = code_sound; complete = code_complete }
