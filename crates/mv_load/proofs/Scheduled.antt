-- The schedule of a load is one: it isn't too long, and each of its bytes is the letter of a beat.
use Rattle.std.proofs.Common.{◌≡◌, ◌≤◌, ◌+◌, ◌*◌, ◌^◌, ℕ, suc, List, [], ◌∷◌, ◌++◌, Bool, true, false, ◌&&◌, length, codes, refl, ap, ◌∙◌, None, Result, Ok, Err, arith}
use Rattle.std.specs.Prelude.{zero, nat_lt}
use Rattle.std.specs.List.{list_all}
use Rattle.std.proofs.lemmas.Bool.{le-ltb}
use Rattle.std.proofs.lemmas.List.{length-append}
use Rattle.std.proofs.lemmas.List.Folds.{list_all-append}
use Rattle.mv_rehearse.specs.declared.beats.Beat.{Beat}
use Rattle.mv_schedule.specs.Schedules.{beats_in, first_other, schedule_of}
use Rattle.mv_schedule.specs.declared.fault.ScheduleFault.{ScheduleFault}
use Rattle.mv_schedule.proofs.Letters.{passes}
use Rattle.mv_load.specs.Schedule.{load_beats, times}

abbrev six : List ℕ
six = codes "LCFFFJ"

length_six : (n : ℕ) → length (times n six) ≡ 6 * n
length_six zero = refl
length_six (suc n) =
    let both : length (times n six ++ six) ≡ length (times n six) + 6 = length-append (times n six) six in
    let before : length (times n six) ≡ 6 * n = length_six n in
    omega (arith, both, before)

all_pass : (n : ℕ) → list_all passes (times n six) ≡ true
all_pass zero = refl
all_pass (suc n) = list_all-append passes (times n six) six ∙ ap (λ (b : Bool). b && true) (all_pass n)

none_other : (text : List ℕ) (place : ℕ) → list_all passes text ≡ true → first_other place text ≡ None
unfolding first_other
none_other [] place e = refl
none_other (byte ∷ text) place e = at (passes byte) refl e (none_other text (place + 1))
  where
    at : (b : Bool) → passes byte ≡ b → (b && list_all passes text) ≡ true → (list_all passes text ≡ true → first_other (place + 1) text ≡ None) → first_other place (byte ∷ text) ≡ None
    at true is rest next = rw is (next rest)
    at false is rest next = absurd cc

reads : (text : List ℕ) → nat_lt (2 ^ 24) (length text) ≡ false → first_other 0 text ≡ None → schedule_of text ≡ Ok (beats_in text)
reads text short none = rw (short, none) refl

pub load_reads : (n : ℕ) → n ≤ 10000 → schedule_of (load_beats n) ≡ Ok (beats_in (load_beats n))
load_reads n few =
    let long : length (load_beats n) ≡ 6 * (24 * n + 200) = length_six (24 * n + 200) in
    let short : length (load_beats n) ≤ 2 ^ 24 = omega (arith, long, few) in
    reads (load_beats n) (le-ltb (2 ^ 24) (length (load_beats n)) short) (none_other (load_beats n) 0 (all_pass (24 * n + 200)))

no_fault : (r : Result (List Beat) ScheduleFault) (beats : List Beat) (fault : ScheduleFault) → r ≡ Ok beats → r ≡ Err fault → ⊥
no_fault r beats fault ok err = cc

-- it has no fault
pub load_has_no_fault : (n : ℕ) (fault : ScheduleFault) → n ≤ 10000 → schedule_of (load_beats n) ≡ Err fault → ⊥
load_has_no_fault n fault few = no_fault _ _ fault (load_reads n few)
