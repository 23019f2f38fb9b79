-- The two writes of an append, one after the other.
use Rattle.std.proofs.Common.{◌≡◌, ◌⊎◌, inl, ℕ, ◌+◌, ◌-◌, ◌^◌, ◌<◌, ◌≤◌, List, [], ◌∷◌, ◌++◌, length, Option, Some, sym, ◌∙◌, ap, arith, length-append}
use Rattle.std.specs.Option.{option_map}
use Rattle.mv_disk.specs.Disk.{LeavesOnly, Torn, with_bytes}
use Rattle.mv_disk.specs.Records.{records}
use Rattle.mv_disk.specs.Journal.{sized, at_rest, IsAtRest}
use Rattle.mv_disk.proofs.AppendLaws.{with_record, staged, torn_behind, torn_gate, opened}
use Rattle.mv_disk.proofs.Moments.{both_runs, one_run}
use Rattle.mv_disk.proofs.TornLaws.{with_bytes-end}

-- the records are as they were, or with this one
abbrev pub BeforeOrWith : List ℕ → List ℕ → List ℕ → Type 0
BeforeOrWith content body c = (records c ≡ records content) ⊎ (records c ≡ records content ++ body ∷ [])

module _ (end : ℕ) (outcomes : List ℕ → Type 0) (body bytes content : List ℕ) (rest : IsAtRest end outcomes content) (bytes_are : bytes ≡ sized body ++ 0 ∷ []) where
  pub staged_told : (told now : Option (List ℕ)) → told ≡ Some content → now ≡ option_map (λ (l : List ℕ). with_bytes l end bytes) told → now ≡ Some (with_record rest.bodies 0 body)
  staged_told told now is written =
      written ∙ ap (λ (o : Option (List ℕ)). option_map (λ (l : List ℕ). with_bytes l end bytes) o) is
      ∙ ap (λ (b : List ℕ). Some (with_bytes content end b)) bytes_are ∙ ap Some (staged end outcomes content rest body)

  pub opened_told : (told now : Option (List ℕ)) → told ≡ Some (with_record rest.bodies 0 body) → now ≡ option_map (λ (l : List ℕ). with_bytes l (end - 1) (1 ∷ [])) told → now ≡ Some (at_rest (rest.bodies ++ body ∷ []))
  opened_told told now is written =
      written ∙ ap (λ (o : Option (List ℕ)). option_map (λ (l : List ℕ). with_bytes l (end - 1) (1 ∷ [])) o) is ∙ ap Some (opened end outcomes content rest body)

  -- the gate stands inside what was written
  pub gate_inside : (told now : Option (List ℕ)) (new : List ℕ) → told ≡ Some content → now ≡ option_map (λ (l : List ℕ). with_bytes l end bytes) told → now ≡ Some new → end - 1 + 0 ≤ length new
  gate_inside told now new is written some =
      let both : Some new ≡ Some (with_bytes content end bytes) =
      sym some ∙ written ∙ ap (λ (o : Option (List ℕ)). option_map (λ (l : List ℕ). with_bytes l end bytes) o) is in
      let new_is : new ≡ with_bytes content end bytes = cc in
      omega (arith, ap length (new_is ∙ with_bytes-end content end bytes rest.end_is), length-append content bytes, rest.end_is)

  module _ {D : Type 0} (moment : D → ℕ) (left_since : D → ℕ → List ℕ → Type 0) (first mid last : D) where
    -- the first write leaves the records as they were
    pub first_run : LeavesOnly moment left_since first mid (Torn end (length bytes) content) → LeavesOnly moment left_since first mid (BeforeOrWith content body)
    first_run run = one_run moment left_since first mid (Torn end (length bytes) content) (BeforeOrWith content body) run
        (λ c torn. inl (torn_behind end outcomes content rest (length bytes) c torn))

    -- the second leaves them so, or with the new one
    pub second_run : length body < 2 ^ 32 → LeavesOnly moment left_since first mid (BeforeOrWith content body) →
        LeavesOnly moment left_since mid last (Torn (end - 1) 1 (with_record rest.bodies 0 body)) → LeavesOnly moment left_since first last (BeforeOrWith content body)
    second_run short one two = both_runs moment left_since first mid last (BeforeOrWith content body) (Torn (end - 1) 1 (with_record rest.bodies 0 body)) (BeforeOrWith content body)
        one two (λ c h. h) (λ c torn. torn_gate end outcomes content rest body c short torn)
