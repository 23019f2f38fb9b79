-- Reading a form so many times, as a loop does.
use Rattle.std.proofs.Common.{◌≡◌, ℕ, suc, ◌-◌, ◌+◌, ◌≤◌, ◌<◌, List, [], ◌∷◌, ◌++◌, Result, Ok, Err, refl, sym, ap, ◌∙◌, append_assoc, arith, length, get_or, drop}
use Rattle.std.proofs.lemmas.List.{append-nil, drop_more, drop_all}
use Rattle.mv_syntax.specs.declared.ops.ValType.{ValType}
use Rattle.mv_calls.specs.declared.fault.Or.{Or}
use Rattle.mv_calls.specs.declared.fault.Or.TheVariants as or
use Rattle.mv_syntax.specs.declared.fault.ReadFault.{ReadFault}
use Rattle.mv_syntax.specs.Form.{At, Form, after}
use Rattle.mv_syntax.specs.Forms.{many, each_of}
use Rattle.mv_syntax.specs.Parts.{run, runs}
use Rattle.mv_syntax.specs.Reading.{Fails}

-- what was read before, and what is still read
abbrev pub with_front : {A : Type 0} → List A → Result (List A × At) ReadFault → Result (List A × At) ReadFault
with_front front read = after read (λ x. Ok (front ++ x.0, x.1))

pub regroup : {A : Type 0} (front : List A) (a : A) (read : Result (List A × At) ReadFault) → with_front front (after read (λ x. Ok (a ∷ x.0, x.1))) ≡ with_front (front ++ a ∷ []) read
regroup {A} front a (Ok x) = ap (λ (items : List A). Ok (items, x.1)) (simp append_assoc)
regroup front a (Err f) = refl

pub goes_on : {A : Type 0} (f : Form A) (front : List A) (count i : ℕ) (at : At) (a : A) (next : At) (total : Result (List A × At) ReadFault) → i < count → f.reads at ≡ Ok (a, next)
    → with_front front ((many f (count - i)).reads at) ≡ total → with_front (front ++ a ∷ []) ((many f (count - (i + 1))).reads next) ≡ total
unfolding many
goes_on f front count i at a next total lt h so_far =
    let k : count - i ≡ suc (count - (i + 1)) = omega arith in
    let one : with_front front ((many f (count - i)).reads at) ≡ with_front (front ++ a ∷ []) ((many f (count - (i + 1))).reads next) = rw (k, h) (regroup front a ((many f (count - (i + 1))).reads next)) in
    sym one ∙ so_far

pub ends : {A : Type 0} (f : Form A) (e : Or ReadFault) (front : List A) (count i : ℕ) (at : At) (total : Result (List A × At) ReadFault) → i < count → Fails e (f.reads at)
    → with_front front ((many f (count - i)).reads at) ≡ total → Fails e total
unfolding many
ends f or.OutOfMemory front count i at total lt h so_far = tt
ends f (or.Fault d) front count i at total lt h so_far =
    let k : count - i ≡ suc (count - (i + 1)) = omega arith in
    let one : with_front front ((many f (count - i)).reads at) ≡ Err d = rw (k, h) refl in
    sym so_far ∙ one

pub is_done : {A : Type 0} (f : Form A) (front : List A) (count i : ℕ) (at : At) (total : Result (List A × At) ReadFault) → count ≤ i → with_front front ((many f (count - i)).reads at) ≡ total → total ≡ Ok (front, at)
unfolding many
is_done {A} f front count i at total le so_far =
    let k : count - i ≡ 0 = omega arith in
    let one : with_front front ((many f (count - i)).reads at) ≡ Ok (front, at) = rw k (ap (λ (items : List A). Ok (items, at)) (append-nil front)) in
    sym so_far ∙ one

-- ---- runs of locals

pub runs_go_on : (locals more : List ValType) (count i : ℕ) (at next : At) (total : Result (List ValType × At) ReadFault) → i < count → (run locals).reads at ≡ Ok (more, next)
    → (runs (count - i) locals).reads at ≡ total → (runs (count - (i + 1)) more).reads next ≡ total
unfolding runs
runs_go_on locals more count i at next total lt h so_far =
    let k : count - i ≡ suc (count - (i + 1)) = omega arith in
    let one : (runs (count - i) locals).reads at ≡ (runs (count - (i + 1)) more).reads next = rw (k, h) refl in
    sym one ∙ so_far

pub runs_end : (e : Or ReadFault) (locals : List ValType) (count i : ℕ) (at : At) (total : Result (List ValType × At) ReadFault) → i < count → Fails e ((run locals).reads at)
    → (runs (count - i) locals).reads at ≡ total → Fails e total
unfolding runs
runs_end or.OutOfMemory locals count i at total lt h so_far = tt
runs_end (or.Fault d) locals count i at total lt h so_far =
    let k : count - i ≡ suc (count - (i + 1)) = omega arith in
    let one : (runs (count - i) locals).reads at ≡ Err d = rw (k, h) refl in
    sym so_far ∙ one

pub runs_done : (locals : List ValType) (count i : ℕ) (at : At) (total : Result (List ValType × At) ReadFault) → count ≤ i → (runs (count - i) locals).reads at ≡ total → total ≡ Ok (locals, at)
unfolding runs
runs_done locals count i at total le so_far =
    let k : count - i ≡ 0 = omega arith in
    let one : (runs (count - i) locals).reads at ≡ Ok (locals, at) = rw k refl in
    sym so_far ∙ one

-- ---- a form for each item of a list

pub each_goes_on : {A B : Type 0} (f : B → Form A) (front : List A) (bs : List B) (i : ℕ) (at : At) (a : A) (next : At) (total : Result (List A × At) ReadFault) (d : B) → i < length bs → (f (get_or bs i d)).reads at ≡ Ok (a, next)
    → with_front front ((each_of f (drop i bs)).reads at) ≡ total → with_front (front ++ a ∷ []) ((each_of f (drop (i + 1) bs)).reads next) ≡ total
unfolding each_of
each_goes_on {A} {B} f front bs i at a next total d lt h so_far =
    let parts : drop i bs ≡ get_or bs i d ∷ drop (i + 1) bs = drop_more bs i d lt in
    let one : with_front front ((each_of f (drop i bs)).reads at) ≡ with_front (front ++ a ∷ []) ((each_of f (drop (i + 1) bs)).reads next) = rw (parts, h) (regroup front a ((each_of f (drop (i + 1) bs)).reads next)) in
    sym one ∙ so_far

pub each_ends : {A B : Type 0} (f : B → Form A) (e : Or ReadFault) (front : List A) (bs : List B) (i : ℕ) (at : At) (total : Result (List A × At) ReadFault) (b : B) → i < length bs → Fails e ((f (get_or bs i b)).reads at)
    → with_front front ((each_of f (drop i bs)).reads at) ≡ total → Fails e total
unfolding each_of
each_ends f or.OutOfMemory front bs i at total b lt h so_far = tt
each_ends {A} {B} f (or.Fault d) front bs i at total b lt h so_far =
    let parts : drop i bs ≡ get_or bs i b ∷ drop (i + 1) bs = drop_more bs i b lt in
    let one : with_front front ((each_of f (drop i bs)).reads at) ≡ Err d = rw (parts, h) refl in
    sym so_far ∙ one

pub each_done : {A B : Type 0} (f : B → Form A) (front : List A) (bs : List B) (i : ℕ) (at : At) (total : Result (List A × At) ReadFault) → length bs ≤ i → with_front front ((each_of f (drop i bs)).reads at) ≡ total → total ≡ Ok (front, at)
unfolding each_of
each_done {A} {B} f front bs i at total le so_far =
    let none : drop i bs ≡ [] = drop_all i bs le in
    let one : with_front front ((each_of f (drop i bs)).reads at) ≡ Ok (front, at) = rw none (ap (λ (items : List A). Ok (items, at)) (append-nil front)) in
    sym so_far ∙ one
