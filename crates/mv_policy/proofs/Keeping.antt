-- What a console of a policy keeps is kept by each look and by each line that is said.
use Rattle.std.proofs.Common.{◌≡◌, ◌≢◌, ℕ, Bool, true, false, List, [], ◌∷◌, ◌++◌, length, take, refl, ap, sym, ◌∙◌, subst, arith, inl, inr, append_assoc, append-nil, length-append, Option, Some, None}
use Rattle.std.specs.List.{flat_map}
use Rattle.std.proofs.lemmas.Grind.{flat_map-append}
use Rattle.std.proofs.lemmas.List.{take-append-le}
use Rattle.std.proofs.Math.Seq.{take-length}
use Rattle.mv_outside.specs.Told.{told_more, told_first, told_more-append, told_more-none}
use Rattle.mv_outside.specs.declared.console.Line.{Line}
use Rattle.mv_outside.specs.declared.console.Line.TheVariants as line
use Rattle.mv_policy.specs.declared.line.PolicyLine.{PolicyLine}
use Rattle.mv_policy.specs.declared.spoken.Spoken.{Spoken}
use Rattle.mv_policy.specs.declared.spoken.Spoken.TheVariants.{Reply, Denial}
use Rattle.mv_policy.specs.Decided.{decided}
use Rattle.mv_policy.specs.Spoken.{denial_text, text_of, rule_of, texts, denials}
use Rattle.mv_policy.specs.Guarded.{Seen, denied_in, denied_turn, denied_by, told_front, IsLost, HasSaid, IsKept}
use Rattle.mv_policy.specs.Looks.{first_failure, HandsOn, Denies, Breaks, Passes, Looks, HasReplied, with_reply}
use Rattle.std.specs.Prelude.{Result, Ok, Err}
use Rattle.mv_outside.specs.declared.fault.Failed.{Failed}

abbrev Turns : Type 0
Turns = List (Option (List ℕ))

-- ## One more

one_more : {X A : Type 0} (f : X → List A) (xs : List X) (x : X) → flat_map f (xs ++ x ∷ []) ≡ flat_map f xs ++ f x
one_more f xs x = flat_map-append f xs (x ∷ []) ∙ ap (λ k. flat_map f xs ++ k) (append-nil (f x))

came_each : (taken : Turns) (x : Option (List ℕ)) (now : Option Turns) → told_front taken (told_first x now) ≡ told_front (taken ++ x ∷ []) now
came_each taken x None = refl
came_each taken x (Some rest) = ap (λ (k : Turns). Some k) (sym (append_assoc taken (x ∷ []) rest))

came_more : (coming before now : Option Turns) (taken : Turns) (x : Option (List ℕ)) → coming ≡ told_front taken before → before ≡ told_first x now → coming ≡ told_front (taken ++ x ∷ []) now
came_more coming before now taken x h e = h ∙ ap (told_front taken) e ∙ came_each taken x now

-- ## What was said

spoke_more : (said before : Option (List ℕ)) (stored : List Spoken) (at : Option ℕ) (x : Spoken) → HasSaid said before stored at → HasSaid said (told_more before (text_of x)) (stored ++ x ∷ []) at
spoke_more said before stored None x h =
    ap (λ (t : Option (List ℕ)). told_more t (text_of x)) h ∙ told_more-append said (texts stored) (text_of x) ∙ ap (told_more said) (sym (one_more text_of stored x))
spoke_more said before stored (Some n) x h =
    let front : take n (stored ++ x ∷ []) ≡ take n stored = take-append-le n stored (x ∷ []) h.0 in (
      omega (arith, h.0, length-append stored (x ∷ [])),
      (
        h.1.0 ++ text_of x,
        ap (λ (t : Option (List ℕ)). told_more t (text_of x)) h.1.1 ∙ told_more-append said (texts (take n stored) ++ h.1.0) (text_of x)
            ∙ ap (told_more said) (append_assoc (texts (take n stored)) h.1.0 (text_of x) ∙ ap (λ (k : List Spoken). texts k ++ (h.1.0 ++ text_of x)) (sym front)),
      ),
    )

spoke_part : (said before : Option (List ℕ)) (stored : List Spoken) (at : Option ℕ) (part : List ℕ) → HasSaid said before stored at → HasSaid said (told_more before part) stored (first_failure at (length stored))
spoke_part said before stored None part h = (
  omega arith,
  (
    part,
    ap (λ (t : Option (List ℕ)). told_more t part) h ∙ told_more-append said (texts stored) part
        ∙ ap (λ (k : List Spoken). told_more said (texts k ++ part)) (sym (take-length stored)),
  ),
)
spoke_part said before stored (Some n) part h = (
  h.0,
  (
    h.1.0 ++ part,
    ap (λ (t : Option (List ℕ)). told_more t part) h.1.1 ∙ told_more-append said (texts (take n stored) ++ h.1.0) part
        ∙ ap (told_more said) (append_assoc (texts (take n stored)) h.1.0 part),
  ),
)

broken : (at : Option ℕ) (n : ℕ) → first_failure at n ≢ None
broken None n h = cc
broken (Some k) n h = cc

-- ## Looks

module _ (coming : Option (List (Option (List ℕ)))) (said : Option (List ℕ)) (policy : List PolicyLine) where
  denied_more : (taken : Turns) (x : Option (List ℕ)) (rules : List ℕ) → denied_turn policy x ≡ rules → denied_by policy (taken ++ x ∷ []) ≡ denied_by policy taken ++ rules
  denied_more taken x rules h = one_more (denied_turn policy) taken x ∙ ap (λ (k : List ℕ). denied_by policy taken ++ k) h

  denied_none : (taken : Turns) (x : Option (List ℕ)) (rules : List ℕ) → denied_turn policy x ≡ [] → rules ≡ denied_by policy taken → rules ≡ denied_by policy (taken ++ x ∷ [])
  denied_none taken x rules h e = e ∙ sym (append-nil (denied_by policy taken)) ∙ sym (denied_more taken x [] h)

  hands_on : (before now : Seen) (order : List ℕ) → HandsOn before order now → IsKept coming said policy before → IsKept coming said policy now
  hands_on before now order h k =
      let turn : denied_turn policy (Some h.text) ≡ [] = ap denied_in (ap (λ (p : List PolicyLine). decided p h.text) (sym k.ruled) ∙ h.allowed) in
      subst (IsKept coming said policy) (sym h.same) (record {
        ruled = k.ruled;
        taken = k.taken ++ Some h.text ∷ [];
        came = came_more coming before.coming now.coming k.taken (Some h.text) k.came h.taken;
        lost = k.lost;
        denied = denied_none k.taken (Some h.text) (denials before.stored ++ k.lost) turn k.denied;
        unsaid = k.unsaid;
        spoke = k.spoke;
        broke = k.broke;
      })

  passes : (before now : Seen) → Passes before now → IsKept coming said policy before → IsKept coming said policy now
  passes before now h k =
      subst (IsKept coming said policy) (sym h.same) (record {
        ruled = k.ruled;
        taken = k.taken ++ None ∷ [];
        came = came_more coming before.coming now.coming k.taken None k.came h.taken;
        lost = k.lost;
        denied = denied_none k.taken None (denials before.stored ++ k.lost) refl k.denied;
        unsaid = k.unsaid;
        spoke = k.spoke;
        broke = k.broke;
      })

  -- none was lost so far
  all_said : (before : Seen) → before.deaf ≡ false → (k : IsKept coming said policy before) → denials before.stored ≡ denied_by policy k.taken
  all_said before hears k =
      let none : k.lost ≡ [] = subst (λ (d : Bool). IsLost d k.lost) hears k.unsaid in
      sym (append-nil (denials before.stored)) ∙ ap (λ (l : List ℕ). denials before.stored ++ l) (sym none) ∙ k.denied

  denies : (before now : Seen) → Denies before now → IsKept coming said policy before → IsKept coming said policy now
  denies before now h k =
      let turn : denied_turn policy (Some h.text) ≡ h.rule ∷ [] = ap denied_in (ap (λ (p : List PolicyLine). decided p h.text) (sym k.ruled) ∙ h.denied) in
      subst (IsKept coming said policy) (sym h.same) (record {
        ruled = k.ruled;
        taken = k.taken ++ Some h.text ∷ [];
        came = came_more coming before.coming now.coming k.taken (Some h.text) k.came h.taken;
        lost = [];
        denied = append-nil (denials (before.stored ++ Denial h.rule ∷ [])) ∙ one_more rule_of before.stored (Denial h.rule)
            ∙ ap (λ (l : List ℕ). l ++ h.rule ∷ []) (all_said before h.hears k) ∙ sym (denied_more k.taken (Some h.text) (h.rule ∷ []) turn);
        unsaid = subst (λ (d : Bool). IsLost d []) (sym h.hears) refl;
        spoke = spoke_more said before.said before.stored before.failed_at (Denial h.rule) k.spoke;
        broke = k.broke;
      })

  breaks : (before now : Seen) → Breaks before now → IsKept coming said policy before → IsKept coming said policy now
  breaks before now h k =
      let turn : denied_turn policy (Some h.text) ≡ h.rule ∷ [] = ap denied_in (ap (λ (p : List PolicyLine). decided p h.text) (sym k.ruled) ∙ h.denied) in
      subst (IsKept coming said policy) (sym h.same) (record {
        ruled = k.ruled;
        taken = k.taken ++ Some h.text ∷ [];
        came = came_more coming before.coming now.coming k.taken (Some h.text) k.came h.taken;
        lost = h.rule ∷ [];
        denied = ap (λ (l : List ℕ). l ++ h.rule ∷ []) (all_said before h.hears k) ∙ sym (denied_more k.taken (Some h.text) (h.rule ∷ []) turn);
        unsaid = (h.rule, refl);
        spoke = spoke_part said before.said before.stored before.failed_at (take h.part (denial_text h.rule)) k.spoke;
        broke = λ deaf. broken before.failed_at (length before.stored);
      })

  kept_same : (before now : Seen) → now ≡ before → IsKept coming said policy before → IsKept coming said policy now
  kept_same before now h k = subst (IsKept coming said policy) (sym h) k

  -- each look keeps it
  pub looks_keep : (before now : Seen) (r : Line) → Looks before r now → IsKept coming said policy before → IsKept coming said policy now
  looks_keep before now (line.Line order) h k = hands_on before now order h k
  looks_keep before now line.Idle (inl h) k = passes before now h k
  looks_keep before now line.Idle (inr h) k = denies before now h k
  looks_keep before now line.Closed h k = kept_same before now h.0 k
  looks_keep before now line.Failed (inl h) k = kept_same before now h k
  looks_keep before now line.Failed (inr h) k = breaks before now h k
  looks_keep before now line.Memory h k = kept_same before now h k

  -- ## Replies

  reply_kept : (before : Seen) (x : Spoken) → rule_of x ≡ [] → IsKept coming said policy before
      → IsKept coming said policy (record before { said = told_more before.said (text_of x); stored = before.stored ++ x ∷ [] })
  reply_kept before x none k = record {
    ruled = k.ruled;
    taken = k.taken;
    came = k.came;
    lost = k.lost;
    denied = ap (λ (l : List ℕ). l ++ k.lost) (one_more rule_of before.stored x ∙ ap (λ (l : List ℕ). denials before.stored ++ l) none ∙ append-nil (denials before.stored)) ∙ k.denied;
    unsaid = k.unsaid;
    spoke = spoke_more said before.said before.stored before.failed_at x k.spoke;
    broke = k.broke;
  }

  -- a line that was said
  pub reply_keeps : (before : Seen) (line : List ℕ) → IsKept coming said policy before
      → IsKept coming said policy (record before { said = told_more before.said line; stored = with_reply before.stored line })
  reply_keeps before [] k =
      subst (λ (t : Option (List ℕ)). IsKept coming said policy (record before { said = t })) (sym (told_more-none before.said)) k
  reply_keeps before (b ∷ bytes) k = reply_kept before (Reply (b ∷ bytes)) refl k

  -- a line of which only a part was said
  pub part_keeps : (before : Seen) (part : List ℕ) → IsKept coming said policy before
      → IsKept coming said policy (record before { said = told_more before.said part; failed_at = first_failure before.failed_at (length before.stored) })
  part_keeps before part k = record {
    ruled = k.ruled;
    taken = k.taken;
    came = k.came;
    lost = k.lost;
    denied = k.denied;
    unsaid = k.unsaid;
    spoke = spoke_part said before.said before.stored before.failed_at part k.spoke;
    broke = λ deaf. broken before.failed_at (length before.stored);
  }

-- each line that is said keeps it
pub replied_keep : (coming : Option (List (Option (List ℕ)))) (said : Option (List ℕ)) (policy : List PolicyLine) (before now : Seen) (bytes : List ℕ) (r : Result Unit Failed)
    → HasReplied before bytes r now → IsKept coming said policy before → IsKept coming said policy now
replied_keep coming said policy before now bytes (Ok done) h k = subst (IsKept coming said policy) (sym h) (reply_keeps coming said policy before bytes k)
replied_keep coming said policy before now bytes (Err failed) h k =
    subst (IsKept coming said policy) (sym h.1) (part_keeps coming said policy before (take h.0 bytes) k)

-- a console that was just made
pub new_kept : (coming : Option (List (Option (List ℕ)))) (said : Option (List ℕ)) (policy : List PolicyLine)
    → IsKept coming said policy (record { coming = coming; said = said; policy = policy; stored = []; failed_at = None; deaf = false })
new_kept coming said policy = record {
  ruled = refl;
  taken = [];
  came = sym (none_taken coming);
  lost = [];
  denied = refl;
  unsaid = refl;
  spoke = sym (told_more-none said);
  broke = λ h. absurd (let bad : false ≡ true = h in cc);
}
  where
    none_taken : (told : Option (List (Option (List ℕ)))) → told_front [] told ≡ told
    none_taken None = refl
    none_taken (Some rest) = refl
