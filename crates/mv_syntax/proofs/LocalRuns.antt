-- Locals in runs: how many they are, which type each has, and what one run more does.
use Rattle.std.proofs.Common.{◌≡◌, ℕ, zero, suc, ◌+◌, ◌-◌, ◌<◌, ◌≤◌, List, [], ◌∷◌, ◌++◌, length, replicate, get_or, set, Some, None, refl, sym, ap, ◌∙◌, append_assoc, append-nil, arith, length-append, subst, leb, leb-true, leb-false, true, false}
use Rattle.std.specs.Prelude.{slice_get}
use Rattle.std.specs.List.Sorted.{IsNonDecreasingBy, IsPartitionPoint}
use Rattle.std.proofs.lemmas.List.{length-replicate, replicate-append-replicate}
use Rattle.mv_syntax.specs.declared.ops.ValType.{ValType}
use Rattle.mv_syntax.specs.declared.locals.LocalRun.{LocalRun}
use Rattle.mv_syntax.specs.LocalRuns.{spread, AreRising}

-- the end of the last run, or of what lies before them
abbrev pub end_of : ℕ → List LocalRun → ℕ
end_of before [] = before
end_of before (run ∷ runs) = end_of run.end runs

pub spread_length : (before : ℕ) (runs : List LocalRun) → AreRising before runs → before + length (spread before runs) ≡ end_of before runs
spread_length before [] up = omega arith
spread_length before (run ∷ runs) (lt, up) = omega (arith, length-append (replicate (run.end - before) run.vtype) (spread run.end runs), length-replicate (run.end - before) run.vtype, spread_length run.end runs up)

pub end_is_last : (before : ℕ) (runs : List LocalRun) (k : ℕ) (d : LocalRun) → k + 1 ≡ length runs → end_of before runs ≡ (get_or runs k d).end
end_is_last before [] k d e = absurd (omega arith)
end_is_last before (run ∷ []) zero d e = refl
end_is_last before (run ∷ []) (suc k) d e = absurd (omega arith)
end_is_last before (run ∷ more ∷ runs) zero d e = absurd (omega arith)
end_is_last before (run ∷ more ∷ runs) (suc k) d e = end_is_last run.end (more ∷ runs) k d (omega arith)

-- ---- one run more

pub spread_more : (before : ℕ) (runs : List LocalRun) (run : LocalRun) → spread before (runs ++ run ∷ []) ≡ spread before runs ++ replicate (run.end - end_of before runs) run.vtype
spread_more before [] run = append-nil (replicate (run.end - before) run.vtype)
spread_more before (first ∷ runs) run =
    ap (λ (x : List ValType). replicate (first.end - before) first.vtype ++ x) (spread_more first.end runs run) ∙ sym (append_assoc (replicate (first.end - before) first.vtype) (spread first.end runs) (replicate (run.end - end_of first.end runs) run.vtype))

pub rising_more : (before : ℕ) (runs : List LocalRun) (run : LocalRun) → AreRising before runs → end_of before runs < run.end → AreRising before (runs ++ run ∷ [])
rising_more before [] run up lt = (lt, tt)
rising_more before (first ∷ runs) run (lt, up) more = (lt, rising_more first.end runs run up more)

-- ---- the last run made longer

abbrev longer : LocalRun → ℕ → LocalRun
longer run count = record run { end = run.end + count }

longer_one : (before : ℕ) (run : LocalRun) (count : ℕ) → before < run.end → replicate (run.end + count - before) run.vtype ++ [] ≡ (replicate (run.end - before) run.vtype ++ []) ++ replicate count run.vtype
longer_one before run count lt =
    let t = run.vtype in
    append-nil (replicate (run.end + count - before) t) ∙ ap (λ n. replicate n t) (omega arith) ∙ sym (replicate-append-replicate (run.end - before) count t) ∙ ap (λ (x : List ValType). x ++ replicate count t) (sym (append-nil (replicate (run.end - before) t)))

pub spread_longer : (before : ℕ) (runs : List LocalRun) (k : ℕ) (d : LocalRun) (count : ℕ) → AreRising before runs → k + 1 ≡ length runs
    → spread before (set runs k (longer (get_or runs k d) count)) ≡ spread before runs ++ replicate count (get_or runs k d).vtype
spread_longer before [] k d count up e = absurd (omega arith)
spread_longer before (run ∷ []) zero d count (lt, up) e = longer_one before run count lt
spread_longer before (run ∷ []) (suc k) d count up e = absurd (omega arith)
spread_longer before (run ∷ more ∷ runs) zero d count up e = absurd (omega arith)
spread_longer before (run ∷ more ∷ runs) (suc k) d count (lt, up) e =
    ap (λ (x : List ValType). replicate (run.end - before) run.vtype ++ x) (spread_longer run.end (more ∷ runs) k d count up (omega arith)) ∙ sym (append_assoc (replicate (run.end - before) run.vtype) (spread run.end (more ∷ runs)) (replicate count (get_or (more ∷ runs) k d).vtype))

pub rising_longer : (before : ℕ) (runs : List LocalRun) (k : ℕ) (d : LocalRun) (count : ℕ) → AreRising before runs → k + 1 ≡ length runs → AreRising before (set runs k (longer (get_or runs k d) count))
rising_longer before [] k d count up e = absurd (omega arith)
rising_longer before (run ∷ []) zero d count (lt, up) e = (omega (arith, lt), tt)
rising_longer before (run ∷ []) (suc k) d count up e = absurd (omega arith)
rising_longer before (run ∷ more ∷ runs) zero d count up e = absurd (omega arith)
rising_longer before (run ∷ more ∷ runs) (suc k) d count (lt, up) e = (lt, rising_longer run.end (more ∷ runs) k d count up (omega arith))

-- ---- the type of a local

within : (n i : ℕ) (t : ValType) (locals : List ValType) → i < n → slice_get (replicate n t ++ locals) i ≡ Some t
within zero i t locals lt = absurd (omega arith)
within (suc n) zero t locals lt = refl
within (suc n) (suc i) t locals lt = within n i t locals (omega arith)

behind : (n i : ℕ) (t : ValType) (locals : List ValType) → slice_get (replicate n t ++ locals) (n + i) ≡ slice_get locals i
behind zero i t locals = ap (slice_get locals) {x = 0 + i} {y = i} (omega arith)
behind (suc n) i t locals = ap (slice_get (replicate (suc n) t ++ locals)) {x = suc n + i} {y = suc (n + i)} (omega arith) ∙ behind n i t locals

step : (before index : ℕ) (run : LocalRun) (runs : List LocalRun) → before < run.end → run.end ≤ index → slice_get (spread before (run ∷ runs)) (index - before) ≡ slice_get (spread run.end runs) (index - run.end)
step before index run runs lt le =
    ap (slice_get (spread before (run ∷ runs))) (omega arith) ∙ behind (run.end - before) (index - run.end) run.vtype (spread run.end runs)

pub found : (before index : ℕ) (runs : List LocalRun) (k : ℕ) (d : LocalRun) → AreRising before runs → before ≤ index → k < length runs → ((i : ℕ) → i < k → (get_or runs i d).end ≤ index) → index < (get_or runs k d).end
    → slice_get (spread before runs) (index - before) ≡ Some (get_or runs k d).vtype
found before index [] k d up le lt below above = absurd (omega arith)
found before index (run ∷ runs) zero d (first, up) le lt below above = within (run.end - before) (index - before) run.vtype (spread run.end runs) (omega arith)
found before index (run ∷ runs) (suc k) d (first, up) le lt below above =
    step before index run runs first (below 0 (omega arith)) ∙ found run.end index runs k d up (below 0 (omega arith)) (omega arith) (λ i l. below (suc i) (omega arith)) above

pub absent : (before index : ℕ) (runs : List LocalRun) (d : LocalRun) → AreRising before runs → ((i : ℕ) → i < length runs → (get_or runs i d).end ≤ index) → slice_get (spread before runs) (index - before) ≡ None
absent before index [] d up below = refl
absent before index (run ∷ runs) d (first, up) below =
    step before index run runs first (below 0 (omega arith)) ∙ absent run.end index runs d up (λ i l. below (suc i) (omega arith))

first_least : (before : ℕ) (runs : List LocalRun) (i : ℕ) (d : LocalRun) → AreRising before runs → i < length runs → before < (get_or runs i d).end
first_least before [] i d up lt = absurd (omega arith)
first_least before (run ∷ runs) zero d (first, up) lt = first
first_least before (run ∷ runs) (suc i) d (first, up) lt = omega (arith, first, first_least run.end runs i d up (omega arith))

-- the ends are in order, as a search asks
pub ends_rise : (before : ℕ) (runs : List LocalRun) → AreRising before runs → IsNonDecreasingBy (λ (run : LocalRun). run.end) runs
ends_rise before [] up i j d le lt = absurd (omega arith)
ends_rise before (run ∷ runs) (first, up) zero zero d le lt = omega arith
ends_rise before (run ∷ runs) (first, up) zero (suc j) d le lt = omega (arith, first_least run.end runs j d up (omega arith))
ends_rise before (run ∷ runs) (first, up) (suc i) zero d le lt = absurd (omega arith)
ends_rise before (run ∷ runs) (first, up) (suc i) (suc j) d le lt = ends_rise run.end runs up i j d (omega arith) (omega arith)

-- ---- what a type of locals answers

pub length_is : (runs : List LocalRun) (locals : List ValType) (k : ℕ) (d : LocalRun) → AreRising 0 runs → spread 0 runs ≡ locals → k + 1 ≡ length runs → (get_or runs k d).end ≡ length locals
length_is runs locals k d up same e = omega (arith, ap length same, spread_length 0 runs up, end_is_last 0 runs k d e)

pub nothing_is : (runs : List LocalRun) (locals : List ValType) → spread 0 runs ≡ locals → length runs ≡ 0 → length locals ≡ 0
nothing_is [] locals same e = ap length (sym same)
nothing_is (run ∷ runs) locals same e = absurd (omega arith)

abbrev pub IsPoint : ℕ → List LocalRun → ℕ → Type 0
IsPoint index runs at = IsPartitionPoint (λ (run : LocalRun). leb run.end index ≡ true) (λ (run : LocalRun). leb run.end index ≡ false) runs at

pub type_at : (index : ℕ) (runs : List LocalRun) (locals : List ValType) (at : ℕ) (d : LocalRun) → AreRising 0 runs → spread 0 runs ≡ locals → IsPoint index runs at → at < length runs → Some (get_or runs at d).vtype ≡ slice_get locals index
type_at index runs locals at d up same point lt =
    sym (ap (λ (x : List ValType). slice_get x index) (sym same) ∙ ap (slice_get (spread 0 runs)) {x = index} {y = index - 0} (omega arith) ∙ found 0 index runs at d up (omega arith) lt (λ i l. leb-true _ _ (point.0 i d (omega arith) l)) (leb-false _ _ (point.1 at d (omega arith) lt)))

pub none_at : (index : ℕ) (runs : List LocalRun) (locals : List ValType) (at : ℕ) (d : LocalRun) → AreRising 0 runs → spread 0 runs ≡ locals → IsPoint index runs at → length runs ≤ at → None ≡ slice_get locals index
none_at index runs locals at d up same point le =
    sym (ap (λ (x : List ValType). slice_get x index) (sym same) ∙ ap (slice_get (spread 0 runs)) {x = index} {y = index - 0} (omega arith) ∙ absent 0 index runs d up (λ i l. leb-true _ _ (point.0 i d (omega arith) (omega arith))))

made : (run : LocalRun) (count end : ℕ) (t : ValType) → end ≡ run.end + count → t ≡ run.vtype → record { end = end; vtype = t } ≡ longer run count
made run count end t e same = ap (λ (n : ℕ). record { end = n; vtype = t }) e ∙ ap (λ (u : ValType). record { end = run.end + count; vtype = u }) same

-- some locals more, of the type of the last one
pub joined : (runs : List LocalRun) (locals : List ValType) (k count end : ℕ) (t : ValType) (last : LocalRun) → AreRising 0 runs → spread 0 runs ≡ locals → k + 1 ≡ length runs → last ≡ get_or runs k last → last.vtype ≡ t → end ≡ length locals + count
    → AreRising 0 (set runs k (record { end = end; vtype = t })) × (spread 0 (set runs k (record { end = end; vtype = t })) ≡ locals ++ replicate count t)
joined runs locals k count end t last up same e is type size =
    let r : LocalRun = get_or runs k last in
    let type_is : r.vtype ≡ t = ap (λ (x : LocalRun). x.vtype) (sym is) ∙ type in
    let one = made r count end t (omega (arith, size, length_is runs locals k last up same e)) (sym type_is) in (
      subst (λ (x : LocalRun). AreRising 0 (set runs k x)) (sym one) (rising_longer 0 runs k last count up e),
      ap (λ (x : LocalRun). spread 0 (set runs k x)) one ∙ spread_longer 0 runs k last count up e ∙ ap (λ (x : List ValType). x ++ replicate count r.vtype) same ∙ ap (λ (u : ValType). locals ++ replicate count u) type_is,
    )

-- some locals more, in a run of their own
pub pushed : (runs : List LocalRun) (locals : List ValType) (count end : ℕ) (t : ValType) → AreRising 0 runs → spread 0 runs ≡ locals → 0 < count → end ≡ length locals + count
    → AreRising 0 (runs ++ record { end = end; vtype = t } ∷ []) × (spread 0 (runs ++ record { end = end; vtype = t } ∷ []) ≡ locals ++ replicate count t)
pushed runs locals count end t up same some size =
    let at : length locals ≡ end_of 0 runs = omega (arith, ap length same, spread_length 0 runs up) in
    let r : LocalRun = record { end = end; vtype = t } in (
      rising_more 0 runs r up (omega arith),
      spread_more 0 runs r ∙ ap (λ (x : List ValType). x ++ replicate (end - end_of 0 runs) t) same ∙ ap (λ (n : ℕ). locals ++ replicate n t) (omega arith),
    )
