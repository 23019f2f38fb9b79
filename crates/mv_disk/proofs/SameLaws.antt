-- Calls that change nothing.
use Rattle.std.proofs.Common.{ℕ, List, Option, refl, ◌∙◌}
use Rattle.mv_disk.specs.Disk.{IsSameDisk}

module _ {D : Type 0} (reads : D → Option (List ℕ)) (may_leave : D → List ℕ → Type 0) (moment : D → ℕ) (left_since : D → ℕ → List ℕ → Type 0) where
  pub same_disk : (disk : D) → IsSameDisk reads may_leave moment left_since disk disk
  same_disk disk = record {
    reads_same = refl;
    leaves_same = λ c. (λ h. h, λ h. h);
    moment_same = refl;
    since_same = λ t c. (λ h. h, λ h. h);
  }

  pub same_twice : (first mid last : D) → IsSameDisk reads may_leave moment left_since first mid → IsSameDisk reads may_leave moment left_since mid last →
      IsSameDisk reads may_leave moment left_since first last
  same_twice first mid last one two = record {
    reads_same = two.reads_same ∙ one.reads_same;
    leaves_same = λ c. (λ h. (one.leaves_same c).0 ((two.leaves_same c).0 h), λ h. (two.leaves_same c).1 ((one.leaves_same c).1 h));
    moment_same = two.moment_same ∙ one.moment_same;
    since_same = λ t c. (λ h. (one.since_same t c).0 ((two.since_same t c).0 h), λ h. (two.since_same t c).1 ((one.since_same t c).1 h));
  }
