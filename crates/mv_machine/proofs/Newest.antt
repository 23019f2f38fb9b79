-- The newest call of the code is the newest one over trees.
use Rattle.std.proofs.Common.{◌≡◌, ℕ, zero, suc, ◌+◌, ◌-◌, ◌<◌, List, [], ◌∷◌, ◌++◌, length, take, drop, get_or, set, refl, sym, ap, ◌∙◌, subst, arith}
use Rattle.std.specs.Prelude.{reverse, map, OnOk, OnErr, Result, Ok, Err}
use Rattle.std.proofs.lemmas.Option.{slice_get-get_or}
use Rattle.std.proofs.lemmas.List.{length-reverse, length-take, get_or-take, drop-set-lt, drop_more, drop_all}
use Rattle.std.proofs.Math.Seq.{take-set-lt}
use Rattle.mv_syntax.specs.declared.module.Func.{Func}
use Rattle.mv_frames.specs.declared.frame.Frame.{Frame as FlatFrame}
use Rattle.mv_frames.specs.Frames.{frame_of, IsPlaced}
use Rattle.mv_frames.proofs.Lists.{reverse-last, reverse-set_last, reverse-top, reverse-split}
use Rattle.mv_execution.specs.Config.{Frame, operand_count}
use Rattle.mv_machine.specs.States.{code_at, code_or, call_of, calls_of, ArePlacedIn, open_count, operands_in}

-- ---- a write over the newest call, and the calls around it

pub record Newest (fs : List FlatFrame) (n : ℕ) (f : FlatFrame) : Type 0 where
  pub older : List FlatFrame
  pub listed : reverse fs ≡ f ∷ older
  pub written : (g : FlatFrame) → reverse (set fs (n - 1) g) ≡ g ∷ older

pub newest : (fs : List FlatFrame) (n : ℕ) (f : FlatFrame) → n ≡ length fs → 0 < n → f ≡ get_or fs (n - 1) f → Newest fs n f
newest fs n f e some is =
    let is' = rw e at is in
    let l : reverse fs ≡ f ∷ reverse (take (length fs - 1) fs) = reverse-last fs f (omega (arith, e)) ∙ ap (λ x. x ∷ reverse (take (length fs - 1) fs)) (sym is') in
    record { older = reverse (take (length fs - 1) fs); listed = l; written = λ g. reverse-set_last fs n g e some ∙ ap (λ x. g ∷ drop 1 x) l }

-- where it is the last one
pub last-listed : (fs : List FlatFrame) (n : ℕ) (f : FlatFrame) → Newest fs n f → n ≡ length fs → n - 1 ≡ 0 → reverse fs ≡ f ∷ []
last-listed fs n f t e last = t.listed ∙ ap (λ l. f ∷ l) (none t.older (omega (arith, e, last, ap (λ (x : List FlatFrame). length x) t.listed, length-reverse fs)))
  where
    none : (l : List FlatFrame) → length l ≡ 0 → l ≡ []
    none [] h = refl
    none (x ∷ l) h = absurd (omega (arith, h))

pub code-get : (funcs : List Func) (k : ℕ) (d : Func) → k < length funcs → (get_or funcs k d).code ≡ code_at funcs k
code-get funcs k d lt = sym (ap code_or (slice_get-get_or funcs k d lt))

-- the operands of calls, over trees
pub operands-in-are : (funcs : List Func) (fs : List FlatFrame) → operand_count (map (call_of funcs) fs) ≡ operands_in fs
operands-in-are funcs [] = refl
operands-in-are funcs (f ∷ fs) = omega (arith, length-reverse f.operands.items, operands-in-are funcs fs)

module _ (funcs : List Func) (fs : List FlatFrame) (n : ℕ) (f : FlatFrame) (t : Newest fs n f) where
  pub calls-are : calls_of funcs fs ≡ call_of funcs f ∷ map (call_of funcs) t.older
  calls-are = ap (map (call_of funcs)) t.listed

  pub calls-written : (g : FlatFrame) → calls_of funcs (set fs (n - 1) g) ≡ call_of funcs g ∷ map (call_of funcs) t.older
  calls-written g = ap (map (call_of funcs)) (t.written g)

  -- the newest call as it is over trees
  pub calls-become : (g : FlatFrame) (next : Frame) → g.func ≡ f.func → frame_of (code_at funcs f.func) g ≡ next → calls_of funcs (set fs (n - 1) g) ≡ next ∷ map (call_of funcs) t.older
  calls-become g next same e =
      calls-written g ∙ ap (λ k. frame_of (code_at funcs k) g ∷ map (call_of funcs) t.older) same ∙ ap (λ x. x ∷ map (call_of funcs) t.older) e

  pub same-written : (g : FlatFrame) → g.func ≡ f.func → frame_of (code_at funcs f.func) g ≡ call_of funcs f → calls_of funcs (set fs (n - 1) g) ≡ calls_of funcs fs
  same-written g same e = calls-become g (call_of funcs f) same e ∙ sym calls-are

  pub newest-placed : ArePlacedIn funcs (reverse fs) → (f.func < length funcs) × IsPlaced (code_at funcs f.func) f × ArePlacedIn funcs t.older
  newest-placed p = subst (ArePlacedIn funcs) t.listed p

  pub placed-written : (g : FlatFrame) → ArePlacedIn funcs (reverse fs) → g.func ≡ f.func → IsPlaced (code_at funcs f.func) g → ArePlacedIn funcs (reverse (set fs (n - 1) g))
  placed-written g p same here =
      let q = newest-placed p in
      subst (ArePlacedIn funcs) (sym (t.written g)) (rw same q.0, subst (λ k. IsPlaced (code_at funcs k) g) (sym same) here, q.2)

  -- how many operands all calls have
  pub operands-are : operand_count (calls_of funcs fs) ≡ length f.operands.items + operand_count (map (call_of funcs) t.older)
  operands-are = ap operand_count calls-are ∙ ap (λ k. k + operand_count (map (call_of funcs) t.older)) (length-reverse f.operands.items)

  pub operands-written : (g : FlatFrame) → operand_count (calls_of funcs (set fs (n - 1) g)) ≡ length g.operands.items + operand_count (map (call_of funcs) t.older)
  operands-written g = ap operand_count (calls-written g) ∙ ap (λ k. k + operand_count (map (call_of funcs) t.older)) (length-reverse g.operands.items)

pub open-written : (fs : List FlatFrame) (n : ℕ) (f : FlatFrame) (t : Newest fs n f) (g : FlatFrame) → length g.labels.items < length f.labels.items → open_count (reverse (set fs (n - 1) g)) < open_count (reverse fs)
open-written fs n f t g lt = rw (t.written g, t.listed) (omega arith)

-- ---- the newest call and the one before it

pub record Pair (fs : List FlatFrame) (n : ℕ) (f g : FlatFrame) : Type 0 where
  pub older : List FlatFrame
  pub listed : reverse fs ≡ f ∷ g ∷ older
  pub written : (h : FlatFrame) → reverse (set fs (n - 1 - 1) h) ≡ f ∷ h ∷ older
  pub kept : (h : FlatFrame) → reverse (take (n - 1) (set fs (n - 1 - 1) h)) ≡ h ∷ older
  pub shorter : reverse (take (n - 1) fs) ≡ g ∷ older

pair-shorter : (fs : List FlatFrame) (n : ℕ) (g : FlatFrame) → n ≡ length fs → 1 < n → g ≡ get_or fs (n - 1 - 1) g → reverse (take (n - 1) fs) ≡ g ∷ drop 1 (reverse (take (n - 1) fs))
pair-shorter fs n g e two is =
    let len : n - 1 ≡ length (take (n - 1) fs) = omega (arith, length-take (n - 1) fs, e) in
    let lt : n - 1 - 1 < n - 1 = omega arith in
    reverse-top (take (n - 1) fs) (n - 1) g len (is ∙ sym (get_or-take (n - 1) fs (n - 1 - 1) g lt)) (omega arith)

pair-kept : (fs : List FlatFrame) (n : ℕ) (h : FlatFrame) → n ≡ length fs → 1 < n → reverse (take (n - 1) (set fs (n - 1 - 1) h)) ≡ h ∷ drop 1 (reverse (take (n - 1) fs))
pair-kept fs n h e two =
    let len : n - 1 ≡ length (take (n - 1) fs) = omega (arith, length-take (n - 1) fs, e) in
    ap reverse (take-set-lt (n - 1) fs (n - 1 - 1) h (omega arith)) ∙ reverse-set_last (take (n - 1) fs) (n - 1) h len (omega arith)

pair-back : (fs : List FlatFrame) (n : ℕ) (f : FlatFrame) → n ≡ length fs → 1 < n → f ≡ get_or fs (n - 1) f → drop (n - 1) fs ≡ f ∷ []
pair-back fs n f e two is =
    drop_more fs (n - 1) f (omega (arith, e)) ∙ ap (λ x. x ∷ drop (n - 1 + 1) fs) (sym is) ∙ ap (λ l. f ∷ l) (drop_all (n - 1 + 1) fs (omega (arith, e)))

pub pair : (fs : List FlatFrame) (n : ℕ) (f g : FlatFrame) → n ≡ length fs → 1 < n → f ≡ get_or fs (n - 1) f → g ≡ get_or fs (n - 1 - 1) g → Pair fs n f g
pair fs n f g e two isf isg =
    let back = pair-back fs n f e two isf in
    let shorter = pair-shorter fs n g e two isg in
    record { older = drop 1 (reverse (take (n - 1) fs)); listed = reverse-split (n - 1) fs ∙ ap (λ l. reverse l ++ reverse (take (n - 1) fs)) back ∙ ap (λ l. f ∷ l) shorter; written = λ h. (reverse-split (n - 1) (set fs (n - 1 - 1) h) ∙ ap (λ l. reverse l ++ reverse (take (n - 1) (set fs (n - 1 - 1) h))) (drop-set-lt (n - 1) fs (n - 1 - 1) h (omega arith) ∙ back) ∙ ap (λ l. f ∷ l) (pair-kept fs n h e two)); kept = λ h. pair-kept fs n h e two; shorter = shorter }

module _ (funcs : List Func) (fs : List FlatFrame) (n : ℕ) (f g : FlatFrame) (t : Pair fs n f g) where
  pub pair-calls : calls_of funcs fs ≡ call_of funcs f ∷ call_of funcs g ∷ map (call_of funcs) t.older
  pair-calls = ap (map (call_of funcs)) t.listed

  pub pair-placed : ArePlacedIn funcs (reverse fs) → ArePlacedIn funcs (f ∷ g ∷ t.older)
  pair-placed p = subst (ArePlacedIn funcs) t.listed p

-- ---- reads and results

pub get_or-same : {A : Type 0} (xs : List A) (k : ℕ) (d e : A) → k < length xs → get_or xs k d ≡ get_or xs k e
get_or-same [] k d e lt = absurd (omega arith)
get_or-same (x ∷ xs) zero d e lt = refl
get_or-same (x ∷ xs) (suc k) d e lt = get_or-same xs k d e (omega arith)

pub on_ok-from : {R E : Type 0} (r : Result R E) (A B : Type 0) → (A → B) → OnOk r A → OnOk r B
on_ok-from (Ok x) A B f h = f h
on_ok-from (Err e) A B f h = h

pub on_err-from : {R E : Type 0} (r : Result R E) (A B : Type 0) → (A → B) → OnErr r A → OnErr r B
on_err-from (Ok x) A B f h = h
on_err-from (Err e) A B f h = f h

pub on_err-always : {R E : Type 0} (r : Result R E) (A : Type 0) → A → OnErr r A
on_err-always (Ok x) A h = tt
on_err-always (Err e) A h = h

-- ---- that there is a call

pub some-calls : (P : List Frame → Type 0) → (P [] → ⊥) → (funcs : List Func) (fs : List FlatFrame) → P (calls_of funcs fs) → 0 < length fs
some-calls P none funcs fs h = rw length-reverse at (by (reverse fs) h)
  where
    by : (l : List FlatFrame) → P (map (call_of funcs) l) → 0 < length l
    by [] k = absurd (none k)
    by (f ∷ l) k = omega arith
