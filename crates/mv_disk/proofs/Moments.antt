-- Runs of calls, and what a crash during them leaves.
use Rattle.std.proofs.Common.{◌≡◌, inl, inr, ⊎_elim, ℕ, List, Option, Some, None, refl, arith}
use Rattle.std.specs.Option.{option_map}
use Rattle.mv_disk.specs.Disk.{IsSameDisk, LeavesOnly}

-- what was told before is told now in another form
pub told_back : (told : Option (List ℕ)) (form : List ℕ → List ℕ) (now : Option (List ℕ)) (new : List ℕ) → now ≡ option_map form told → now ≡ Some new →
    (content : List ℕ) × (told ≡ Some content) × (new ≡ form content)
told_back None form now new is some = absurd cc
told_back (Some content) form now new is some = (content, refl, cc)

module _ {D : Type 0} (moment : D → ℕ) (left_since : D → ℕ → List ℕ → Type 0) where
  -- no call
  pub no_call : (disk : D) (P : List ℕ → Type 0) → ((c : List ℕ) → left_since disk (moment disk) c → P c) → LeavesOnly moment left_since disk disk P
  no_call disk P here = record { later = omega arith; each = here; earlier = λ t c le left. inl left }

  -- one run after another
  pub both_runs : (first mid last : D) (P Q R : List ℕ → Type 0) → LeavesOnly moment left_since first mid P → LeavesOnly moment left_since mid last Q →
      ((c : List ℕ) → P c → R c) → ((c : List ℕ) → Q c → R c) → LeavesOnly moment left_since first last R
  both_runs first mid last P Q R one two of_one of_two = record {
    later = omega (arith, one.later, two.later);
    each = λ c left. ⊎_elim (λ was. of_one c (one.each c was)) (λ now. of_two c now) (two.earlier (moment first) c one.later left);
    earlier = λ t c le left. ⊎_elim
        (λ was. ⊎_elim (λ before. inl before) (λ here. inr (of_one c here)) (one.earlier t c le was))
        (λ now. inr (of_two c now))
        (two.earlier t c (omega (arith, le, one.later)) left);
  }

  -- it leaves less than that
  pub one_run : (first last : D) (P R : List ℕ → Type 0) → LeavesOnly moment left_since first last P → ((c : List ℕ) → P c → R c) → LeavesOnly moment left_since first last R
  one_run first last P R one of_one = record {
    later = one.later;
    each = λ c left. of_one c (one.each c left);
    earlier = λ t c le left. ⊎_elim (λ before. inl before) (λ here. inr (of_one c here)) (one.earlier t c le left);
  }

  -- calls that change nothing
  pub unchanged : (reads : D → Option (List ℕ)) (may_leave : D → List ℕ → Type 0) (first last : D) (P : List ℕ → Type 0) → IsSameDisk reads may_leave moment left_since first last →
      ((c : List ℕ) → left_since first (moment first) c → P c) → LeavesOnly moment left_since first last P
  unchanged reads may_leave first last P same here = record {
    later = omega (arith, same.moment_same);
    each = λ c left. here c ((same.since_same (moment first) c).0 left);
    earlier = λ t c le left. inl ((same.since_same t c).0 left);
  }
