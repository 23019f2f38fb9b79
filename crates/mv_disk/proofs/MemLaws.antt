-- One step more of a disk in memory.
use Rattle.std.proofs.Common.{◌≡◌, ◌↔◌, inl, inr, ⊎_elim, ℕ, ◌+◌, ◌≤◌, Bool, true, false, IsTrue, List, [], ◌∷◌, ◌++◌, length, take, Result, Err, refl, sym, ◌∙◌, ap, subst, arith, length-append}
use Rattle.std.proofs.lemmas.Bool.{cases_lt}
use Rattle.std.proofs.lemmas.List.{take_all, take-append-le}
use Rattle.mv_calls.specs.Or.{IsFault}
use Rattle.mv_calls.specs.declared.fault.Or.{Or}
use Rattle.mv_calls.specs.declared.fault.Or.TheVariants.{OutOfMemory}
use Rattle.mv_outside.specs.declared.fault.Failed.{Failed}
use Rattle.mv_disk.specs.Disk.{Elapses, Follows, Only, Torn, with_bytes}
use Rattle.mv_disk.specs.MemDisk.{DiskState, content_after, OutcomesAfter, MayLeave, content_of, LeavesNow, moment_of, LeftSince}
use Rattle.mv_disk.specs.declared.mem_disk.Step.{Step}
use Rattle.mv_disk.specs.declared.mem_disk.Step.TheVariants as step

-- what is read after one more
pub content_written : (content : List ℕ) (steps : List Step) (at : ℕ) (bytes : List ℕ) (done : ℕ) →
    content_after content (steps ++ step.Write at bytes done ∷ []) ≡ with_bytes (content_after content steps) at (take done bytes)
content_written content [] at bytes done = refl
content_written content (step.Write p b d ∷ steps) at bytes done = content_written (with_bytes content p (take d b)) steps at bytes done
content_written content (step.Sync ∷ steps) at bytes done = content_written content steps at bytes done

pub content_synced : (content : List ℕ) (steps : List Step) → content_after content (steps ++ step.Sync ∷ []) ≡ content_after content steps
content_synced content [] = refl
content_synced content (step.Write p b d ∷ steps) = content_synced (with_bytes content p (take d b)) steps
content_synced content (step.Sync ∷ steps) = content_synced content steps

-- what a crash leaves after one more
outcome_written : (content : List ℕ) (outcomes : List ℕ → Type 0) (steps : List Step) (at : ℕ) (bytes : List ℕ) (done : ℕ) (c : List ℕ) →
    OutcomesAfter content outcomes (steps ++ step.Write at bytes done ∷ []) c → (d : List ℕ) × OutcomesAfter content outcomes steps d × Torn at (length bytes) d c
outcome_written content outcomes [] at bytes done c left = left
outcome_written content outcomes (step.Write p b d ∷ steps) at bytes done c left =
    outcome_written (with_bytes content p (take d b)) (λ x. (before : List ℕ) × outcomes before × Torn p (length b) before x) steps at bytes done c left
outcome_written content outcomes (step.Sync ∷ steps) at bytes done c left = outcome_written content (λ x. x ≡ content) steps at bytes done c left

outcome_synced : (content : List ℕ) (outcomes : List ℕ → Type 0) (steps : List Step) (c : List ℕ) →
    OutcomesAfter content outcomes (steps ++ step.Sync ∷ []) c → c ≡ content_after content steps
outcome_synced content outcomes [] c left = left
outcome_synced content outcomes (step.Write p b d ∷ steps) c left =
    outcome_synced (with_bytes content p (take d b)) (λ x. (before : List ℕ) × outcomes before × Torn p (length b) before x) steps c left
outcome_synced content outcomes (step.Sync ∷ steps) c left = outcome_synced content (λ x. x ≡ content) steps c left

-- what a crash since a moment may have left
abbrev pub Since : List ℕ → List Step → ℕ → List ℕ → Type 0
Since first steps t c = (k : ℕ) × (t ≤ k) × (k ≤ length steps) × MayLeave first (take k steps) c

one_step : (first : List ℕ) (steps : List Step) (s : Step) →
    Elapses (length steps) (length (steps ++ s ∷ [])) (Since first steps) (Since first (steps ++ s ∷ [])) (λ c. MayLeave first (steps ++ s ∷ []) c)
one_step first steps s = record {
  later = omega (arith, long);
  nothing_else = λ t c le (k, past, within, left). ⊎_elim
      (λ new. inr (subst (λ (l : List Step). MayLeave first l c) (take_all k (steps ++ s ∷ []) (omega (arith, long))) left))
      (λ old. inl (k, past, old, subst (λ (l : List Step). MayLeave first l c) (take-append-le k steps (s ∷ []) old) left))
      (cases_lt (length steps) k);
  keeps = λ t c le (k, past, within, left).
      (k, past, omega (arith, long), subst (λ (l : List Step). MayLeave first l c) (sym (take-append-le k steps (s ∷ []) within)) left);
}
  where
    long : length (steps ++ s ∷ []) ≡ length steps + 1
    long = omega (arith, length-append steps (s ∷ []))

module _ (d : DiskState) (first : List ℕ) (now : List Step) (first_is : first ≡ d.first) where
  pub elapses : (s : Step) → now ≡ d.steps ++ s ∷ [] → Elapses (moment_of d) (length now) (LeftSince d) (Since first now) (λ c. MayLeave first now c)
  elapses s is =
      subst (λ (f : List ℕ). Elapses (moment_of d) (length now) (LeftSince d) (Since f now) (λ c. MayLeave f now c)) (sym first_is)
      (subst (λ (l : List Step). Elapses (moment_of d) (length l) (LeftSince d) (Since d.first l) (λ c. MayLeave d.first l c)) (sym is) (one_step d.first d.steps s))

  pub follows : (at : ℕ) (bytes : List ℕ) (done : ℕ) → now ≡ d.steps ++ step.Write at bytes done ∷ [] → Follows (Torn at (length bytes)) (LeavesNow d) (λ c. MayLeave first now c)
  follows at bytes done is c left =
      outcome_written d.first (λ x. x ≡ d.first) d.steps at bytes done c
      (subst (λ (l : List Step). MayLeave d.first l c) is (subst (λ (f : List ℕ). MayLeave f now c) first_is left))

  pub written : (at : ℕ) (bytes : List ℕ) (done : ℕ) → now ≡ d.steps ++ step.Write at bytes done ∷ [] → content_after first now ≡ with_bytes (content_of d) at (take done bytes)
  written at bytes done is =
      ap (λ (f : List ℕ). content_after f now) first_is ∙ ap (λ (l : List Step). content_after d.first l) is ∙ content_written d.first d.steps at bytes done

  pub synced : now ≡ d.steps ++ step.Sync ∷ [] → content_after first now ≡ content_of d
  synced is = ap (λ (f : List ℕ). content_after f now) first_is ∙ ap (λ (l : List Step). content_after d.first l) is ∙ content_synced d.first d.steps

  pub only_synced : now ≡ d.steps ++ step.Sync ∷ [] → Only (content_of d) (λ c. MayLeave first now c)
  only_synced is c left =
      outcome_synced d.first (λ x. x ≡ d.first) d.steps c
      (subst (λ (l : List Step). MayLeave d.first l c) is (subst (λ (f : List ℕ). MayLeave f now c) first_is left))

-- it is no failure exactly where it isn't to fail
pub no_fault : (r : Result Unit (Or Failed)) (fails : Bool) → fails ≡ false → r ≡ Err OutOfMemory → IsFault r ↔ IsTrue fails
no_fault r fails fine memory =
    let P : Result Unit (Or Failed) → Type 0 = λ v. IsFault v ↔ IsTrue fails in
    subst P (sym memory) ((λ fault. absurd fault), (λ named. absurd (let bad : false ≡ true = sym fine ∙ named in cc)))
