-- Runs of locals, as they are made from the first local to the last.
use Rattle.std.proofs.Common.{◌≡◌, ℕ, zero, suc, ◌+◌, Bool, true, false, cond, eqb, List, [], ◌∷◌, ◌++◌, refl, sym, ap, ◌∙◌, append_assoc, append-nil, ne_eqb, arith, ◌-◌, ◌<◌, length, replicate, get_or, drop, subst}
use Rattle.mv_syntax.specs.Types.{same_type}
use Rattle.std.proofs.lemmas.List.{drop_more}
use Rattle.mv_syntax.specs.declared.ops.ValType.{ValType}
use Rattle.mv_writer.specs.Written.{joined_to, runs_of}
use Rattle.mv_writer.proofs.ShortRuns.{same_is, joined_twice}
use Rattle.mv_syntax.specs.declared.ops.ValType.TheVariants.{I32, I64}
use Rattle.mv_syntax.specs.declared.locals.LocalRun.{LocalRun}
use Rattle.mv_syntax.specs.LocalRuns.{spread, AreRising}

-- so many locals of a type before others in runs, where there may be none
abbrev pub pending : ℕ → ValType → List (ℕ × ValType) → List (ℕ × ValType)
pending zero t runs = runs
pending (suc n) t runs = joined_to (suc n) t runs

abbrev pub pushed : List (ℕ × ValType) → ℕ → ValType → List (ℕ × ValType)
pushed runs n t = cond (eqb n 0) runs (runs ++ (n, t) ∷ [])

pub same_step : (n : ℕ) (t u : ValType) (runs : List (ℕ × ValType)) → same_type t u ≡ true → pending n t (joined_to 1 u runs) ≡ pending (n + 1) t runs
same_step zero t u runs e = ap (λ (x : ValType). joined_to 1 x runs) (sym (same_is t u e))
same_step (suc n) t u runs e =
    let one : suc n + 1 ≡ suc (suc n) = omega arith in
    rw one (ap (λ (x : ValType). joined_to (suc n) t (joined_to 1 x runs)) (sym (same_is t u e)) ∙ joined_twice (suc n) 1 t runs ∙ ap (λ (k : ℕ). joined_to k t runs) one)

other_first : (n : ℕ) (t u : ValType) (runs : List (ℕ × ValType)) → same_type t u ≡ false → joined_to n t (joined_to 1 u runs) ≡ (n, t) ∷ joined_to 1 u runs
other_first n t u [] e = rw e refl
other_first n t u (r ∷ runs) e = at_one (same_type u r.1)
  where
    at_one : (b : Bool) → joined_to n t (cond b ((1 + r.0, u) ∷ runs) ((1, u) ∷ r ∷ runs)) ≡ (n, t) ∷ cond b ((1 + r.0, u) ∷ runs) ((1, u) ∷ r ∷ runs)
    at_one true = rw e refl
    at_one false = rw e refl

pub other_step : (front : List (ℕ × ValType)) (n : ℕ) (t u : ValType) (runs : List (ℕ × ValType)) → same_type t u ≡ false → front ++ pending n t (joined_to 1 u runs) ≡ pushed front n t ++ pending 1 u runs
other_step front zero t u runs e = refl
other_step front (suc n) t u runs e =
    let one = other_first (suc n) t u runs e in
    rw (ne_eqb (suc n) 0 (λ e. omega arith), one) (sym (append_assoc front ((suc n, t) ∷ []) (joined_to 1 u runs)))

pub last_step : (front : List (ℕ × ValType)) (n : ℕ) (t : ValType) → front ++ pending n t [] ≡ pushed front n t
last_step front zero t = append-nil front
last_step front (suc n) t = rw (ne_eqb (suc n) 0 (λ e. omega arith)) refl

-- ---- a run at a time

same_run : (m n : ℕ) (t u : ValType) (locals : List ValType) → same_type t u ≡ true → pending n t (runs_of (replicate m u ++ locals)) ≡ pending (n + m) t (runs_of locals)
same_run zero n t u locals e = ap (λ (k : ℕ). pending k t (runs_of locals)) {x = n} {y = n + 0} (omega arith)
same_run (suc m) n t u locals e =
    same_step n t u (runs_of (replicate m u ++ locals)) e ∙ same_run m (n + 1) t u locals e ∙ ap (λ (k : ℕ). pending k t (runs_of locals)) {x = n + 1 + m} {y = n + suc m} (omega arith)

own_type : (t : ValType) → same_type t t ≡ true
own_type I32 = refl
own_type I64 = refl

other_run : (m : ℕ) (front : List (ℕ × ValType)) (n : ℕ) (t u : ValType) (locals : List ValType) → 0 < m → same_type t u ≡ false
    → front ++ pending n t (runs_of (replicate m u ++ locals)) ≡ pushed front n t ++ pending m u (runs_of locals)
other_run zero front n t u locals lt e = absurd (omega arith)
other_run (suc m) front n t u locals lt e =
    other_step front n t u (runs_of (replicate m u ++ locals)) e ∙ ap (λ (x : List (ℕ × ValType)). pushed front n t ++ x) (same_run m 1 u u locals (own_type u) ∙ ap (λ (k : ℕ). pending k u (runs_of locals)) {x = 1 + m} {y = suc m} (omega arith))

-- what is kept of the locals, and the next run of them
module _ (kept : List LocalRun) (i : ℕ) (d : LocalRun) (lt : i < length kept) where
  abbrev run : LocalRun
  run = get_or kept i d

  parts : drop i kept ≡ run ∷ drop (i + 1) kept
  parts = drop_more kept i d lt

  pub rising_step : (start : ℕ) → AreRising start (drop i kept) → (start < run.end) × AreRising run.end (drop (i + 1) kept)
  rising_step start up = subst (AreRising start) parts up

  pub same_kept : (front : List (ℕ × ValType)) (start n : ℕ) (t : ValType) (all : List (ℕ × ValType)) → same_type t run.vtype ≡ true
      → front ++ pending n t (runs_of (spread start (drop i kept))) ≡ all → front ++ pending (n + (run.end - start)) t (runs_of (spread run.end (drop (i + 1) kept))) ≡ all
  same_kept front start n t all e so_far =
      ap (λ (x : List (ℕ × ValType)). front ++ x) (sym (same_run (run.end - start) n t run.vtype (spread run.end (drop (i + 1) kept)) e) ∙ ap (λ (rs : List LocalRun). pending n t (runs_of (spread start rs))) (sym parts)) ∙ so_far

  pub other_kept : (front : List (ℕ × ValType)) (start n : ℕ) (t : ValType) (all : List (ℕ × ValType)) → start < run.end → same_type t run.vtype ≡ false
      → front ++ pending n t (runs_of (spread start (drop i kept))) ≡ all → pushed front n t ++ pending (run.end - start) run.vtype (runs_of (spread run.end (drop (i + 1) kept))) ≡ all
  other_kept front start n t all up e so_far =
      sym (other_run (run.end - start) front n t run.vtype (spread run.end (drop (i + 1) kept)) (omega arith) e) ∙ ap (λ (rs : List LocalRun). front ++ pending n t (runs_of (spread start rs))) (sym parts) ∙ so_far
