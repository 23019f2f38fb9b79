-- What a journal keeps goes on from append to append.
use Rattle.std.proofs.Common.{◌≡◌, ⊎_elim, ℕ, ◌+◌, ◌-◌, ◌<◌, ◌≤◌, List, [], ◌∷◌, ◌++◌, length, get_or, take, Option, Some, sym, ◌∙◌, ap, subst, arith, length-append, length-take}
use Rattle.std.proofs.lemmas.Bool.{cases_eq}
use Rattle.std.proofs.lemmas.List.{take_all, take-append-le, get_or_append_left, get_or_at}
use Rattle.mv_disk.specs.Disk.{LeavesOnly}
use Rattle.mv_disk.specs.Kept.{Story, IsWhole, IsKept, new_story}
use Rattle.mv_disk.specs.Records.{records}
use Rattle.mv_disk.proofs.AppendRuns.{BeforeOrWith}

-- a first part with all of it
all_of_part : (xs all : List (List ℕ)) → xs ≡ take (length xs) all → take (length all) xs ≡ take (length all) all → xs ≡ all
all_of_part xs all part whole =
    let short : length xs ≤ length all = omega (arith, ap length part, length-take (length xs) all) in
    sym (take_all (length all) xs short) ∙ whole ∙ take_all (length all) all (omega arith)

empty_part : (xs all : List (List ℕ)) → length all ≡ 0 → xs ≡ take (length xs) all → xs ≡ all
empty_part xs [] none part = part ∙ take_all (length xs) [] (omega arith)
empty_part xs (a ∷ all) none part = absurd (omega arith)

-- a first part is one of more
part_of_more : (xs all : List (List ℕ)) (body : List ℕ) → xs ≡ take (length xs) all → xs ≡ take (length xs) (all ++ body ∷ [])
part_of_more xs all body part =
    part ∙ sym (take-append-le (length xs) all (body ∷ []) (omega (arith, ap length part, length-take (length xs) all)))

module _ {D : Type 0} (reads : D → Option (List ℕ)) (may_leave : D → List ℕ → Type 0) (moment : D → ℕ) (left_since : D → ℕ → List ℕ → Type 0)
    (leaves_read : (disk : D) (content : List ℕ) → reads disk ≡ Some content → may_leave disk content)
    (counts_now : (disk : D) (t : ℕ) (c : List ℕ) → t ≤ moment disk → may_leave disk c → left_since disk t c)
    (only_now : (disk : D) (c : List ℕ) → left_since disk (moment disk) c → may_leave disk c) where
  -- a whole story tells what is read
  pub told_whole : (disk : D) (content : List ℕ) (s : Story) → reads disk ≡ Some content → IsWhole s → IsKept moment left_since disk s → records content ≡ s.bodies
  told_whole disk content s told whole kept =
      let part = kept.first_part content (counts_now disk s.since content kept.made (leaves_read disk content told)) in
      ⊎_elim
      (λ (none : length s.bodies ≡ 0). empty_part (records content) s.bodies none part)
      (λ some.
      let last : ℕ = length s.bodies - 1 in
      let within : last < length s.moments = omega arith in
      let at = kept.at_least last within content (counts_now disk (get_or s.moments last 0) content (kept.past last within) (leaves_read disk content told)) in
      let all : last + 1 ≡ length s.bodies = omega arith in
      all_of_part (records content) s.bodies part (subst (λ (n : ℕ). take n (records content) ≡ take n s.bodies) all at))
      (cases_eq (length s.bodies) 0)

  module _ (old new : D) (content body : List ℕ) (s : Story) (told : reads old ≡ Some content) (whole : IsWhole s) (kept : IsKept moment left_since old s)
      (run : LeavesOnly moment left_since old new (BeforeOrWith content body)) where
    bodies_are : records content ≡ s.bodies
    bodies_are = told_whole old content s told whole kept

    more_part : (c : List ℕ) → left_since new s.since c → records c ≡ take (length (records c)) (s.bodies ++ body ∷ [])
    more_part c left = ⊎_elim
        (λ was. part_of_more (records c) s.bodies body (kept.first_part c was))
        (λ here. ⊎_elim
        (λ before. part_of_more (records c) s.bodies body (sym (take_all (length (records c)) (records c) (omega arith)) ∙ ap (λ (l : List (List ℕ)). take (length (records c)) l) (before ∙ bodies_are)))
        (λ with. sym (take_all (length (records c)) (records c) (omega arith)) ∙ ap (λ (l : List (List ℕ)). take (length (records c)) l) (with ∙ ap (λ (l : List (List ℕ)). l ++ body ∷ []) bodies_are))
        here)
        (run.earlier s.since c kept.made left)

    more_least : (k : ℕ) → k < length s.moments → (c : List ℕ) → left_since new (get_or s.moments k 0) c → take (k + 1) (records c) ≡ take (k + 1) (s.bodies ++ body ∷ [])
    more_least k within c left =
        let small : take (k + 1) (s.bodies ++ body ∷ []) ≡ take (k + 1) s.bodies = take-append-le (k + 1) s.bodies (body ∷ []) (omega (arith, whole)) in
        ⊎_elim
        (λ was. kept.at_least k within c was ∙ sym small)
        (λ here. ⊎_elim
        (λ before. ap (λ (l : List (List ℕ)). take (k + 1) l) (before ∙ bodies_are) ∙ sym small)
        (λ with. ap (λ (l : List (List ℕ)). take (k + 1) l) (with ∙ ap (λ (l : List (List ℕ)). l ++ body ∷ []) bodies_are))
        here)
        (run.earlier (get_or s.moments k 0) c (kept.past k within) left)

    pub kept_err : IsKept moment left_since new (record { since = s.since; bodies = s.bodies ++ body ∷ []; moments = s.moments })
    kept_err = record {
      made = omega (arith, kept.made, run.later);
      first_part = more_part;
      few = omega (arith, kept.few, length-append s.bodies (body ∷ []));
      past = λ k within. omega (arith, kept.past k within, run.later);
      at_least = more_least;
    }

    pub kept_ok : ((c : List ℕ) → may_leave new c → records c ≡ records content ++ body ∷ []) → IsKept moment left_since new (record { since = s.since; bodies = s.bodies ++ body ∷ []; moments = s.moments ++ moment new ∷ [] })
    kept_ok lasts = record {
      made = omega (arith, kept.made, run.later);
      first_part = more_part;
      few = omega (arith, kept.few, length-append s.bodies (body ∷ []), length-append s.moments (moment new ∷ []));
      past = λ k within. ⊎_elim (λ last. omega (arith, at_end k last)) (λ below. omega (arith, at_front k (earlier k within below), kept.past k (earlier k within below), run.later)) (cases_eq k (length s.moments));
      at_least = λ k within c left. ⊎_elim
          (λ last.
          let left_now = subst (λ (t : ℕ). left_since new t c) (at_end k last) left in
          ap (λ (l : List (List ℕ)). take (k + 1) l) (lasts c (only_now new c left_now) ∙ ap (λ (l : List (List ℕ)). l ++ body ∷ []) bodies_are))
          (λ below. more_least k (earlier k within below) c (subst (λ (t : ℕ). left_since new t c) (at_front k (earlier k within below)) left))
          (cases_eq k (length s.moments));
    }
      where
        earlier : (k : ℕ) → k < length (s.moments ++ moment new ∷ []) → (k ≡ length s.moments → ⊥) → k < length s.moments
        earlier k within below = omega (arith, length-append s.moments (moment new ∷ []))

        at_end : (k : ℕ) → k ≡ length s.moments → get_or (s.moments ++ moment new ∷ []) k 0 ≡ moment new
        at_end k last = get_or_at s.moments (moment new) [] 0 k (sym last)

        at_front : (k : ℕ) → k < length s.moments → get_or (s.moments ++ moment new ∷ []) k 0 ≡ get_or s.moments k 0
        at_front k within = get_or_append_left s.moments (moment new ∷ []) 0 k within

-- nothing was appended, and no crash leaves a record
pub kept_new : {D : Type 0} (moment : D → ℕ) (left_since : D → ℕ → List ℕ → Type 0) (first last : D) → LeavesOnly moment left_since first last (λ c. records c ≡ []) →
    IsKept moment left_since last (new_story (moment first))
kept_new moment left_since first last run = record {
  made = run.later;
  first_part = λ c left. let none = run.each c left in
      none ∙ sym (ap (λ (l : List (List ℕ)). take (length l) []) none);
  few = omega arith;
  past = λ k within. absurd (omega arith);
  at_least = λ k within. absurd (omega arith);
}
