-- A guest's behaviour gives states that have nothing prepared.
use Rattle.std.proofs.Common.{◌≡◌, ℕ, zero, suc, ◌+◌, List, Option, Some, None, refl, ap, ◌∙◌, subst}
use Rattle.std.specs.Prelude.{Result, Ok, Err, codes}
use Rattle.mv_syntax.specs.declared.fault.BornFault.{BornFault}
use Rattle.mv_syntax.specs.declared.fault.BornFault.TheVariants.{Read, Valid, Start, NoTransform, NoResume, Transform}
use Rattle.mv_syntax.specs.declared.fault.StartFault.{StartFault}
use Rattle.mv_syntax.specs.declared.fault.ReadFault.{ReadFault}
use Rattle.mv_syntax.specs.Sections.{Parts}
use Rattle.mv_syntax.specs.Modules.{module_at}
use Rattle.mv_execution.specs.Config.{Config, gap_limit}
use Rattle.mv_execution.specs.Instance.{program_of}
use Rattle.mv_execution.specs.Run.{run, entered}
use Rattle.mv_start.specs.Instances.{ample, imports_fault, entry_of, nothing_type, number_type, filled, started_instance}
use Rattle.mv_version.specs.Behaviour.{IsSettled, PointsEnd}
use Rattle.mv_guest.specs.Standing.{Standing, stands_from, unready}
use Rattle.mv_guest.proofs.Points.{points-end}
use Rattle.mv_transform.specs.Found.{valid_fault}
use Rattle.mv_transform.specs.Transforms.{Met, Finished, Fails, GoesOn, met, finished, transformed_within, transformed}
use Rattle.mv_transform.specs.Births.{unless_faulty, with_entry, with_module, started_from, resumed, transformed_from, born_of, behaviour}

-- what begins has nothing prepared
abbrev Settles : Result Standing BornFault → Type 0
Settles r = (s : Standing) → r ≡ Ok s → unready s ≡ s

fault-settles : (fault : BornFault) → Settles (Err fault)
fault-settles fault s e = absurd (cc)

ok-settles : (r : Standing) → unready r ≡ r → Settles (Ok r)
ok-settles r h s e = let k : r ≡ s = cc in subst (λ z. unready z ≡ z) k h

faulty-settles : {F : Type 0} (why : F → BornFault) (o : Option F) (r : Result Standing BornFault) → Settles r → Settles (unless_faulty why o r)
faulty-settles why None r h = h
faulty-settles why (Some fault) r h = fault-settles (why fault)

entry-settles : (fault : BornFault) (o : Option ℕ) (next : ℕ → Result Standing BornFault) → ((x : ℕ) → Settles (next x)) → Settles (with_entry fault o next)
entry-settles fault None next h = fault-settles fault
entry-settles fault (Some x) next h = h x

module-settles : (r : Result Parts ReadFault) (next : Parts → Result Standing BornFault) → ((p : Parts) → Settles (next p)) → Settles (with_module r next)
module-settles (Err fault) next h = fault-settles (Read fault)
module-settles (Ok p) next h = faulty-settles Valid (valid_fault p) (next p) (h p)

started-settles : (p : Parts) (args : List (List ℕ)) (r : Result Config StartFault) → Settles (started_from p args r)
started-settles p args (Err fault) = fault-settles (Start fault)
started-settles p args (Ok c) = ok-settles (stands_from p args c) refl

resumed-settles : (old : Standing) (p : Parts) (y : ℕ) (r : Result Config BornFault) → Settles (resumed old p y r)
resumed-settles old p y (Err fault) = fault-settles fault
resumed-settles old p y (Ok c) = ok-settles _ refl

transformed-settles : (old : Standing) (p : Parts) (x y : ℕ) (r : Result Config StartFault) → Settles (transformed_from old p x y r)
transformed-settles old p x y (Err fault) = fault-settles (Start fault)
transformed-settles old p x y (Ok c) = resumed-settles old p y _

born-settles : (old : Standing) (p : Parts) → Settles (born_of old p)
born-settles old p =
    faulty-settles Start (imports_fault p) _
    (entry-settles NoTransform (entry_of (codes "live_transform") number_type p) _ (λ x.
    entry-settles NoResume (entry_of (codes "live_resume") nothing_type p) _ (λ y.
    transformed-settles old p x y (filled p))))

-- ---- what was prepared says nothing to a transformer

transformed-unready : (p : Parts) (old : Standing) (n : ℕ) (c : Config) → transformed_within p (unready old) n c ≡ transformed_within p old n c
unfolding transformed_within
transformed-unready p old zero c = refl
transformed-unready p old (suc n) c = by (λ d. transformed-unready p old n d) (met p old (run (program_of p) ample c))
  where
    by : ((d : Config) → transformed_within p (unready old) n d ≡ transformed_within p old n d) → (o : Met) → elim o as (λ z. Result Config BornFault) [ Finished d code ↦ finished d code | Fails t ↦ Err (Transform t) | GoesOn d ↦ transformed_within p (unready old) n d ] ≡ elim o as (λ z. Result Config BornFault) [ Finished d code ↦ finished d code | Fails t ↦ Err (Transform t) | GoesOn d ↦ transformed_within p old n d ]
    by more (Finished d code) = refl
    by more (Fails t) = refl
    by more (GoesOn d) = more d

from-unready : (old : Standing) (p : Parts) (x y : ℕ) (r : Result Config StartFault) → transformed_from (unready old) p x y r ≡ transformed_from old p x y r
from-unready old p x y (Err fault) = refl
from-unready old p x y (Ok c) = by (transformed-unready p old (gap_limit + 2) (entered (program_of p) x c))
  where
    resumed-same : (r : Result Config BornFault) → resumed (unready old) p y r ≡ resumed old p y r
    resumed-same (Err fault) = refl
    resumed-same (Ok d) = refl

    by : transformed p (unready old) (entered (program_of p) x c) ≡ transformed p old (entered (program_of p) x c) → resumed (unready old) p y (transformed p (unready old) (entered (program_of p) x c)) ≡ resumed old p y (transformed p old (entered (program_of p) x c))
    by e = resumed-same (transformed p (unready old) (entered (program_of p) x c)) ∙ ap (resumed old p y) e

faulty-same : {F : Type 0} (why : F → BornFault) (o : Option F) (r q : Result Standing BornFault) → r ≡ q → unless_faulty why o r ≡ unless_faulty why o q
faulty-same why None r q h = h
faulty-same why (Some fault) r q h = refl

entry-same : (fault : BornFault) (o : Option ℕ) (next other : ℕ → Result Standing BornFault) → ((x : ℕ) → next x ≡ other x) → with_entry fault o next ≡ with_entry fault o other
entry-same fault None next other h = refl
entry-same fault (Some x) next other h = h x

module-same : (r : Result Parts ReadFault) (next other : Parts → Result Standing BornFault) → ((p : Parts) → next p ≡ other p) → with_module r next ≡ with_module r other
module-same (Err fault) next other h = refl
module-same (Ok p) next other h = faulty-same Valid (valid_fault p) (next p) (other p) (h p)

born-unready : (old : Standing) (p : Parts) → born_of (unready old) p ≡ born_of old p
born-unready old p =
    faulty-same Start (imports_fault p)
    (with_entry NoTransform (entry_of (codes "live_transform") number_type p) (λ x. with_entry NoResume (entry_of (codes "live_resume") nothing_type p) (λ y. transformed_from (unready old) p x y (filled p))))
    (with_entry NoTransform (entry_of (codes "live_transform") number_type p) (λ x. with_entry NoResume (entry_of (codes "live_resume") nothing_type p) (λ y. transformed_from old p x y (filled p))))
    (entry-same NoTransform (entry_of (codes "live_transform") number_type p)
    (λ x. with_entry NoResume (entry_of (codes "live_resume") nothing_type p) (λ y. transformed_from (unready old) p x y (filled p)))
    (λ x. with_entry NoResume (entry_of (codes "live_resume") nothing_type p) (λ y. transformed_from old p x y (filled p))) (λ x.
    entry-same NoResume (entry_of (codes "live_resume") nothing_type p)
    (λ y. transformed_from (unready old) p x y (filled p)) (λ y. transformed_from old p x y (filled p)) (λ y.
    from-unready old p x y (filled p))))

pub settled : IsSettled behaviour
settled = record {
  state_once = λ s. refl;
  after_is = λ s r. refl;
  passed_is = λ s. refl;
  started_is = λ bytes args s e. module-settles (module_at bytes) (λ p. started_from p args (started_instance p)) (λ p. started-settles p args (started_instance p)) s e;
  born_is = λ s bytes. module-same (module_at bytes) (born_of (unready s)) (born_of s) (λ p. born-unready s p);
  newborn_is = λ s bytes v e. module-settles (module_at bytes) (born_of s) (λ p. born-settles s p) v e;
}

-- Update points in a row come to an end.
pub points : PointsEnd behaviour
points = points-end
