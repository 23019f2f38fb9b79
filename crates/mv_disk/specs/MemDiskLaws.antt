-- What a disk in memory tells is lawful.
use Rattle.std.specs.Prelude.{◌≡◌, ℕ, ◌+◌, ◌-◌, ◌≤◌, min, List, [], ◌∷◌, ◌++◌, take, drop, length, Some, refl}
use Rattle.std.proofs.Common.{arith, sym, ◌∙◌, ap, subst, get_or, length-append, length-take, length-drop}
use Rattle.std.proofs.lemmas.List.{take_all, get_or_append_left, get_or-append_right, get_or-take, get_or-drop}
use Rattle.mv_disk.specs.Disk.{Torn, with_bytes}
use Rattle.mv_disk.specs.MemDisk.{DiskState, content_after, OutcomesAfter, MayLeave, content_of, reads_of, LeavesNow, moment_of, LeftSince}
use Rattle.mv_disk.specs.declared.mem_disk.Step.{Step}
use Rattle.mv_disk.specs.declared.mem_disk.Step.TheVariants as step

-- a write is one way of doing it in part
pub torn_by : (content : List ℕ) (at n : ℕ) (piece : List ℕ) → length piece ≤ n → Torn at n content (with_bytes content at piece)
torn_by content at n piece short =
    let tail : List ℕ = piece ++ drop (at + length piece) content in
    let long : length (with_bytes content at piece) ≡ min at (length content) + (length piece + (length content - (at + length piece))) =
    omega (arith, length-append (take at content) tail, length-append piece (drop (at + length piece) content), length-take at content, length-drop (at + length piece) content) in
    record {
      front = λ p below within. get_or_append_left (take at content) tail 0 p (omega (arith, length-take at content)) ∙ get_or-take at content p 0 below;
      back = λ p past within.
          let place : at + length piece + (p - at - length piece) ≡ p = omega arith in
          get_or-append_right (take at content) tail at p 0 (omega (arith, length-take at content)) (omega arith)
          ∙ get_or-append_right piece (drop (at + length piece) content) (length piece) (p - at) 0 refl (omega arith)
          ∙ get_or-drop (at + length piece) content (p - at - length piece) 0
          ∙ ap (λ (k : ℕ). get_or content k 0) place;
      no_shorter = omega (arith, long);
      no_longer = omega (arith, long);
    }

-- what is read is an outcome
outcome_read : (content : List ℕ) (outcomes : List ℕ → Type 0) (steps : List Step) → outcomes content → OutcomesAfter content outcomes steps (content_after content steps)
outcome_read content outcomes [] here = here
outcome_read content outcomes (step.Write at bytes done ∷ steps) here =
    outcome_read (with_bytes content at (take done bytes)) (λ d. (before : List ℕ) × outcomes before × Torn at (length bytes) before d) steps
    (content, here, torn_by content at (length bytes) (take done bytes) (omega (arith, length-take done bytes)))
outcome_read content outcomes (step.Sync ∷ steps) here = outcome_read content (λ d. d ≡ content) steps refl

pub leaves_read : (d : DiskState) (content : List ℕ) → reads_of d ≡ Some content → LeavesNow d content
leaves_read d content is =
    let same : content_of d ≡ content = cc in
    subst (λ (c : List ℕ). LeavesNow d c) same (outcome_read d.first (λ c. c ≡ d.first) d.steps refl)

pub counts_now : (d : DiskState) (t : ℕ) (c : List ℕ) → t ≤ moment_of d → LeavesNow d c → LeftSince d t c
counts_now d t c le now =
    (length d.steps, le, omega arith, subst (λ (steps : List Step). MayLeave d.first steps c) (sym (take_all (length d.steps) d.steps (omega arith))) now)

pub only_now : (d : DiskState) (c : List ℕ) → LeftSince d (moment_of d) c → LeavesNow d c
only_now d c (k, le, within, left) = subst (λ (steps : List Step). MayLeave d.first steps c) (take_all k d.steps le) left
