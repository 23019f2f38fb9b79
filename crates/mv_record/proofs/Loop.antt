-- Reading in loops.
use Rattle.std.proofs.Common.{◌≡◌, ℕ, zero, suc, take, ◌-◌, ◌+◌, ◌≤◌, ◌<◌, true, false, eqb, List, [], ◌∷◌, ◌++◌, length, drop, drop-cons, get_or, Result, Ok, Err, refl, sym, ap, ◌∙◌, append_assoc, arith, add-one, eq-eqb}
use Rattle.std.proofs.lemmas.List.{append-nil, nil_from_length, length-drop}
use Rattle.std.proofs.lemmas.Bool.{ne_eqb}
use Rattle.mv_calls.specs.declared.fault.Or.{Or}
use Rattle.mv_calls.specs.declared.fault.Or.TheVariants as or
use Rattle.std.specs.List.{AllByRecursion}
use Rattle.mv_history.specs.declared.log.Entry.{Entry}
use Rattle.mv_record.specs.declared.fault.BodyFault.{BodyFault}
use Rattle.mv_record.specs.declared.fault.RecordFault.{RecordFault}
use Rattle.mv_record.specs.declared.fault.RecordKind.TheVariants.{Magic, Cut}
use Rattle.mv_record.specs.Reading.{◌>>=◌, FailsAs, Reader, many_at}
use Rattle.mv_record.specs.File.{record_at, entries_at, after_magic, fault}

-- ---- the first eight bytes

pub magic_goes_on : (total i : ℕ) (magic bytes : List ℕ) (all : Result (List ℕ) RecordFault) → i < length magic → i < length bytes → get_or bytes i 0 ≡ get_or magic i 0
    → after_magic total (drop i magic) (drop i bytes) ≡ all → after_magic total (drop (i + 1) magic) (drop (i + 1) bytes) ≡ all
magic_goes_on total i magic bytes all lm lb e so_far =
    let test : eqb (get_or bytes i 0) (get_or magic i 0) ≡ true = eq-eqb _ _ e in
    let one : after_magic total (drop i magic) (drop i bytes) ≡ after_magic total (drop (suc i) magic) (drop (suc i) bytes) = rw (drop-cons magic i 0 lm, drop-cons bytes i 0 lb, test) refl in
    rw add-one (sym one ∙ so_far)

pub magic_cut : (total i : ℕ) (magic bytes : List ℕ) (all : Result (List ℕ) RecordFault) → i < length magic → i ≡ length bytes
    → after_magic total (drop i magic) (drop i bytes) ≡ all → all ≡ Err (fault Cut total)
magic_cut total i magic bytes all lm e so_far =
    let none : drop i bytes ≡ [] = nil_from_length (drop i bytes) (omega (arith, length-drop i bytes)) in
    let one : after_magic total (drop i magic) (drop i bytes) ≡ Err (fault Cut total) = rw (drop-cons magic i 0 lm, none) refl in
    sym so_far ∙ one

pub magic_differs : (i : ℕ) (magic bytes : List ℕ) (all : Result (List ℕ) RecordFault) → i < length magic → i < length bytes → (get_or bytes i 0 ≡ get_or magic i 0 → ⊥)
    → after_magic (length bytes) (drop i magic) (drop i bytes) ≡ all → all ≡ Err (fault Magic i)
magic_differs i magic bytes all lm lb ne so_far =
    let test : eqb (get_or bytes i 0) (get_or magic i 0) ≡ false = ne_eqb _ _ ne in
    let place : length bytes - length (get_or bytes i 0 ∷ drop (suc i) bytes) ≡ i = omega (arith, length-drop (suc i) bytes) in
    let one : after_magic (length bytes) (drop i magic) (drop i bytes) ≡ Err (fault Magic (length bytes - length (get_or bytes i 0 ∷ drop (suc i) bytes))) = rw (drop-cons magic i 0 lm, drop-cons bytes i 0 lb, test) refl in
    sym so_far ∙ one ∙ ap (λ (k : ℕ). Err (fault Magic k)) place

-- ---- lists

-- what was read before, and what is still read
abbrev pub with_more : {A : Type 0} → List A → Result (List A × List ℕ) BodyFault → Result (List A × List ℕ) BodyFault
with_more front read = read >>= λ x. Ok (front ++ x.0, x.1)

module _ {A : Type 0} (read : Reader A) where
  regroup : (front : List A) (v : A) (r : Result (List A × List ℕ) BodyFault) → with_more front (r >>= λ x. Ok (v ∷ x.0, x.1)) ≡ with_more (front ++ v ∷ []) r
  regroup front v (Ok x) = ap (λ (vs : List A). Ok (vs, x.1)) (simp append_assoc)
  regroup front v (Err f) = refl

  pub many_go_on : (front : List A) (count i : ℕ) (bytes : List ℕ) (v : A) (after : List ℕ) (all : Result (List A × List ℕ) BodyFault) → i < count
      → read bytes ≡ Ok (v, after) → with_more front (many_at read (count - i) bytes) ≡ all → with_more (front ++ v ∷ []) (many_at read (count - (i + 1)) after) ≡ all
  unfolding many_at
  many_go_on front count i bytes v after all lt h so_far =
      let k : count - i ≡ suc (count - (i + 1)) = omega arith in
      let one : with_more front (many_at read (count - i) bytes) ≡ with_more (front ++ v ∷ []) (many_at read (count - (i + 1)) after) = rw (k, h) (regroup front v (many_at read (count - (i + 1)) after)) in
      sym one ∙ so_far

  pub many_end : (e : Or BodyFault) (front : List A) (count i : ℕ) (bytes : List ℕ) (all : Result (List A × List ℕ) BodyFault) → i < count
      → FailsAs e (read bytes) → with_more front (many_at read (count - i) bytes) ≡ all → FailsAs e all
  unfolding many_at
  many_end or.OutOfMemory front count i bytes all lt h so_far = tt
  many_end (or.Fault f) front count i bytes all lt h so_far =
      let k : count - i ≡ suc (count - (i + 1)) = omega arith in
      let one : with_more front (many_at read (count - i) bytes) ≡ Err f = rw (k, h) refl in
      sym so_far ∙ one

  pub many_done : (front : List A) (count i : ℕ) (bytes : List ℕ) (all : Result (List A × List ℕ) BodyFault) → count ≤ i → with_more front (many_at read (count - i) bytes) ≡ all → all ≡ Ok (front, bytes)
  unfolding many_at
  many_done front count i bytes all le so_far =
      let k : count - i ≡ 0 = omega arith in
      let one : with_more front (many_at read (count - i) bytes) ≡ Ok (front, bytes) = rw k (ap (λ (vs : List A). Ok (vs, bytes)) (append-nil front)) in
      sym so_far ∙ one

-- ---- what holds of the values that were written

module _ {A : Type 0} (P : A → Type 0) where
  all_next : (xs : List A) (i : ℕ) (d : A) → i < length xs → AllByRecursion P (take i xs) → P (get_or xs i d) → AllByRecursion P (take (suc i) xs)
  all_next [] i d lt all p = absurd (omega arith)
  all_next (x ∷ xs) zero d lt all p = (p, tt)
  all_next (x ∷ xs) (suc i) d lt all p = (all.0, all_next xs i d (omega arith) all.1 p)

  pub all_more : (xs : List A) (i : ℕ) (d : A) → i < length xs → AllByRecursion P (take i xs) → P (get_or xs i d) → AllByRecursion P (take (i + 1) xs)
  all_more xs i d lt all p = rw add-one (all_next xs i d lt all p)

  pub one_of_all : (xs : List A) (i : ℕ) (d : A) → i < length xs → AllByRecursion P xs → P (get_or xs i d)
  one_of_all [] i d lt all = absurd (omega arith)
  one_of_all (x ∷ xs) zero d lt all = all.0
  one_of_all (x ∷ xs) (suc i) d lt all = one_of_all xs i d (omega arith) all.1

-- ---- entries

abbrev pub with_entries : List Entry → Result (List Entry) RecordFault → Result (List Entry) RecordFault
with_entries front read = read >>= λ es. Ok (front ++ es)

regroup_entries : (front : List Entry) (e : Entry) (read : Result (List Entry) RecordFault) → with_entries front (read >>= λ es. Ok (e ∷ es)) ≡ with_entries (front ++ e ∷ []) read
regroup_entries front e (Ok es) = ap (λ (x : List Entry). Ok x) (simp append_assoc)
regroup_entries front e (Err f) = refl

pub entries_go_on : (total : ℕ) (front : List Entry) (count i : ℕ) (bytes : List ℕ) (e : Entry) (after : List ℕ) (all : Result (List Entry) RecordFault) → i < count → 0 < length bytes
    → record_at total bytes ≡ Ok (e, after) → with_entries front (entries_at total (count - i) bytes) ≡ all → with_entries (front ++ e ∷ []) (entries_at total (count - (i + 1)) after) ≡ all
unfolding entries_at
entries_go_on total front count i [] e after all lt some h so_far = absurd (omega arith)
entries_go_on total front count i (b ∷ bs) e after all lt some h so_far =
    let k : count - i ≡ suc (count - (i + 1)) = omega arith in
    let one : with_entries front (entries_at total (count - i) (b ∷ bs)) ≡ with_entries (front ++ e ∷ []) (entries_at total (count - (i + 1)) after) = rw (k, h) (regroup_entries front e (entries_at total (count - (i + 1)) after)) in
    sym one ∙ so_far

pub entries_end : (f : Or RecordFault) (total : ℕ) (front : List Entry) (count i : ℕ) (bytes : List ℕ) (all : Result (List Entry) RecordFault) → i < count → 0 < length bytes
    → FailsAs f (record_at total bytes) → with_entries front (entries_at total (count - i) bytes) ≡ all → FailsAs f all
unfolding entries_at
entries_end or.OutOfMemory total front count i bytes all lt some h so_far = tt
entries_end (or.Fault f) total front count i [] all lt some h so_far = absurd (omega arith)
entries_end (or.Fault f) total front count i (b ∷ bs) all lt some h so_far =
    let k : count - i ≡ suc (count - (i + 1)) = omega arith in
    let one : with_entries front (entries_at total (count - i) (b ∷ bs)) ≡ Err f = rw (k, h) refl in
    sym so_far ∙ one

no_more : (total k : ℕ) (bytes : List ℕ) → length bytes ≡ 0 → entries_at total k bytes ≡ Ok []
unfolding entries_at
no_more total k [] e = refl
no_more total k (b ∷ bs) e = absurd (omega arith)

no_fuel : (total : ℕ) (bytes : List ℕ) → entries_at total 0 bytes ≡ Ok []
unfolding entries_at
no_fuel total [] = refl
no_fuel total (b ∷ bs) = refl

-- at the end of the bytes
pub entries_stop : (total : ℕ) (front : List Entry) (k : ℕ) (bytes : List ℕ) (all : Result (List Entry) RecordFault) → length bytes ≡ 0 → with_entries front (entries_at total k bytes) ≡ all → all ≡ Ok front
entries_stop total front k bytes all none so_far =
    let one : with_entries front (entries_at total k bytes) ≡ Ok front = rw (no_more total k bytes none) (ap (λ (x : List Entry). Ok x) (append-nil front)) in
    sym so_far ∙ one

pub entries_done : (total : ℕ) (front : List Entry) (count i : ℕ) (bytes : List ℕ) (all : Result (List Entry) RecordFault) → count ≤ i → with_entries front (entries_at total (count - i) bytes) ≡ all → all ≡ Ok front
entries_done total front count i bytes all le so_far =
    let k : count - i ≡ 0 = omega arith in
    let one : with_entries front (entries_at total (count - i) bytes) ≡ Ok front = rw (k, no_fuel total bytes) (ap (λ (x : List Entry). Ok x) (append-nil front)) in
    sym so_far ∙ one
