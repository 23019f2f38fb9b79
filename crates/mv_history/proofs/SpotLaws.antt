-- A step of a follower: what it gives up is shown, a Ready is reached, and it is one.
use Rattle.std.specs.Prelude.{◌≡◌, ◌⊎◌, ℕ, zero, suc, ◌+◌, ◌≤◌, ◌<◌, Bool, true, false, cond, nat_eq, nat_lt, ◌&&◌, is_none, is_some, Option, Some, None, List, [], ◌∷◌, ◌++◌, length, take, drop, refl, Result, Ok, Err}
use Rattle.std.proofs.Common.{ap, arith, sym, subst, ◌∙◌, inl, inr, append-nil, append_assoc, length-append}
use Rattle.std.proofs.lemmas.Bool.Decides.{nat_tests}
use Rattle.std.proofs.lemmas.List.{take-append-drop, take_all}
use Rattle.std.proofs.lemmas.List.Concat.{flat_map-append}
use Rattle.mv_calls.specs.declared.calls.Call.{Call}
use Rattle.mv_calls.specs.declared.calls.Reply.{Reply}
use Rattle.mv_feed.specs.declared.msg.Msg.{Msg}
use Rattle.mv_feed.specs.declared.msg.Msg.TheVariants as msg
use Rattle.mv_rewrite.specs.Deciding.{joined}
use Rattle.mv_rules.specs.declared.fault.RuleFault.{RuleFault}
use Rattle.mv_rules.specs.declared.rule.Rule.{Rule}
use Rattle.mv_syntax.specs.declared.fault.BornFault.{BornFault}
use Rattle.mv_version.specs.Behaviour.{Behaviour, PointsEnd}
use Rattle.mv_version.specs.declared.event.Event.{Event}
use Rattle.mv_version.specs.declared.event.Event.TheVariants as event
use Rattle.mv_history.specs.Followers.{Base, Following, Reaches, FollowerShows, begin, hears_by, is_forked, replayed, replayed_from, rewritten_by}
use Rattle.mv_history.specs.Places.{Place, forked_place, is_handed, place_after}
use Rattle.mv_history.specs.Readings.{HasRead}
use Rattle.mv_history.specs.Replay.{Replayed, Stands, Fails, Unborn, event_fits, is_point, past, replay}
use Rattle.mv_history.specs.Rules.{AreAccepted, IsAccepted, IsRefused}
use Rattle.mv_history.specs.Spots.{GivesUp, IsBorn, IsReadyFor, Kept, Matches, Moves, Next, NextAt, ReadsFile, Spot, StepsTo, cleared_spot, decided_next, failure, groups_at, groups_by, handed_next, item_next, items_at, may_carry, may_carry_at, no_spot, spot_after, standing_spot}
use Rattle.mv_history.specs.declared.log.Cause.{Cause}
use Rattle.mv_history.specs.declared.log.Cause.TheVariants as cause
use Rattle.mv_history.specs.declared.log.Side.{Side}
use Rattle.mv_history.specs.declared.log.Side.TheVariants as side
use Rattle.mv_history.specs.declared.updates.Update.{Update}
use Rattle.mv_history.proofs.ReplayLaws.{past_ends, replay-append}
use Rattle.mv_history.proofs.RulesLaws.{accepted_stays, refused_one}

-- ## Truth values

four : (a b c d : Bool) → (a && b && c && d) ≡ true → (a ≡ true) × (b ≡ true) × (c ≡ true) × (d ≡ true)
four true true true true h = (refl, refl, refl, refl)
four true true true false h = absurd (let bad : false ≡ true = h in cc)
four true true false d h = absurd (let bad : false ≡ true = h in cc)
four true false c d h = absurd (let bad : false ≡ true = h in cc)
four false b c d h = absurd (let bad : false ≡ true = h in cc)

equal_is : (n m : ℕ) → nat_eq n m ≡ true → n ≡ m
equal_is n m h = grind (arith, nat_tests, h)

none_is : (o : Option ℕ) → is_none o ≡ true → o ≡ None
none_is None h = refl
none_is (Some n) h = absurd (let bad : false ≡ true = h in cc)

-- ## Kept rules

no_kept : (A : Type 0) (k : Kept) → None ≡ Some k → A
no_kept A k bad = absurd (let h : None ≡ Some k = bad in cc)

kept_is : (k j : Kept) → Some j ≡ Some k → AreAccepted j.files → AreAccepted k.files
kept_is k j is h = let same : j ≡ k = (let e : Some j ≡ Some k = is in cc) in subst (λ (x : Kept). AreAccepted x.files) same h

-- ## Lists

tail_is : {A : Type 0} (x y : A) (xs ys : List A) → x ∷ xs ≡ y ∷ ys → xs ≡ ys
tail_is x y xs ys h = cc

head_is : {A : Type 0} (x y : A) (xs ys : List A) → x ∷ xs ≡ y ∷ ys → x ≡ y
head_is x y xs ys h = cc

-- a list is cut at one place in one way
one_cut : {A : Type 0} (xs vs ys ws : List A) → length xs ≡ length vs → xs ++ ys ≡ vs ++ ws → (xs ≡ vs) × (ys ≡ ws)
one_cut [] [] ys ws same h = (refl, h)
one_cut [] (v ∷ vs) ys ws same h = absurd (omega (arith, same))
one_cut (x ∷ xs) [] ys ws same h = absurd (omega (arith, same))
one_cut {A} (x ∷ xs) (v ∷ vs) ys ws same h =
    let more = one_cut xs vs ys ws (omega (arith, same)) (tail_is x v (xs ++ ys) (vs ++ ws) h) in
    (ap (λ (l : List A). x ∷ l) more.0 ∙ ap (λ (z : A). z ∷ vs) (head_is x v (xs ++ ys) (vs ++ ws) h), more.1)

-- the rewritten list is what its groups give
rewritten_groups : (handed : Bool) (rules : List Rule) (items : List (Call × Reply)) → rewritten_by handed rules items ≡ joined (groups_by handed rules items)
rewritten_groups true rules items = refl
rewritten_groups false rules items = refl

-- the first groups give the first items
joined_first : (n : ℕ) (groups : List (List (Call × Reply))) → joined groups ≡ joined (take n groups) ++ joined (drop n groups)
joined_first n groups = ap joined (sym (take-append-drop n groups)) ∙ flat_map-append (λ (group : List (Call × Reply)). group) (take n groups) (drop n groups)

not_below : (n m : ℕ) → nat_lt n m ≡ false → m ≤ n
not_below n m h = grind (arith, nat_tests, h)

module _ {V : Type 0} where
  -- the whole rewritten list, and the items so far
  whole_at : (p : Place V) (n : ℕ) → rewritten_by (is_handed p) (hears_by p.follows) p.follows.heard ≡ items_at p n ++ joined (drop n (groups_at p))
  whole_at p n = rewritten_groups (is_handed p) (hears_by p.follows) p.follows.heard ∙ joined_first n (groups_at p)

  all_at : (p : Place V) (n : ℕ) → nat_lt n (length (groups_at p)) ≡ false → rewritten_by (is_handed p) (hears_by p.follows) p.follows.heard ≡ items_at p n
  all_at p n over = rewritten_groups (is_handed p) (hears_by p.follows) p.follows.heard ∙ ap joined (sym (take_all n (groups_at p) (not_below n (length (groups_at p)) over)))

  place_is : (q p : Place V) (P : Place V → Type 0) → Some q ≡ Some p → P q → P p
  place_is q p P is h = let same : q ≡ p = (let e : Some q ≡ Some p = is in cc) in subst P same h

  no_place : (A : Type 0) (p : Place V) → None ≡ Some p → A
  no_place A p bad = absurd (let h : None ≡ Some p = bad in cc)

  -- ## What was read

  pub none_read : HasRead (no_spot {V = V})
  none_read = record { forked = λ p bad. no_place _ p bad; forward = λ p bad. no_place _ p bad; reverse = λ p bad. no_place _ p bad; kept = λ k bad. no_kept _ k bad }

  pub cleared_read : (spot : Spot V) → HasRead spot → HasRead (cleared_spot spot)
  cleared_read spot read = record { forked = λ p bad. no_place _ p bad; forward = λ p bad. no_place _ p bad; reverse = λ p bad. no_place _ p bad; kept = read.kept }

  -- the same files and the same kind of base
  record SameFiles (q p : Place V) : Type 0 where
    pub files : p.follows.files ≡ q.follows.files
    pub base : p.follows.base ≡ q.follows.base

  read_on : (spot next : Spot V) → ((p : Place V) → next.place ≡ Some p → (q : Place V) × (spot.place ≡ Some q) × SameFiles q p) → next.births ≡ spot.births → next.keeps ≡ spot.keeps → HasRead spot → HasRead next
  read_on spot next places births keeps read = record {
    forked = λ p is some. let q = places p is in subst (λ (x : Base V). is_forked x) (sym q.2.base) (read.forked q.0 q.1 (omega (arith, births, some)));
    forward = λ p is few. let q = places p is in subst (λ (x : Update). IsAccepted x.forward) (sym q.2.files) (read.forward q.0 q.1 (omega (arith, births, few)));
    reverse = λ p is few. let q = places p is in subst (λ (x : Update). IsAccepted x.reverse) (sym q.2.files) (read.reverse q.0 q.1 (omega (arith, births, few)));
    kept = λ k is. read.kept k (sym keeps ∙ is);
  }

  heard_from : (place : Option (Place V)) (item : Call × Reply) (p : Place V) → place_after place (msg.Heard item) ≡ Some p → (q : Place V) × (place ≡ Some q) × SameFiles q p
  heard_from None item p is = no_place _ p is
  heard_from (Some q) item p is = (q, refl, place_is _ p (λ x. SameFiles q x) is (record { files = refl; base = refl }))

  hand_from : (place : Option (Place V)) (n : ℕ) (p : Place V) → place_after place (msg.Hand n) ≡ Some p → (q : Place V) × (place ≡ Some q) × SameFiles q p
  hand_from None n p is = no_place _ p is
  hand_from (Some q) n p is = (q, refl, place_is _ p (λ x. SameFiles q x) is (record { files = refl; base = refl }))

  standing_read : (keeps : Option Kept) (s : V) → ((k : Kept) → keeps ≡ Some k → AreAccepted k.files) → HasRead (standing_spot keeps s)
  standing_read None s kept = none_read
  standing_read (Some j) s kept = record {
    forked = λ p is some. absurd (omega (arith, some));
    forward = λ p is few. place_is _ p (λ x. IsAccepted x.follows.files.forward) is (kept j refl).forward;
    reverse = λ p is few. place_is _ p (λ x. IsAccepted x.follows.files.reverse) is (kept j refl).reverse;
    kept = λ k is. kept_is k j is (kept j refl);
  }

  -- each message keeps it
  pub message_read : (spot : Spot V) (m : Msg V) → HasRead spot → HasRead (spot_after spot m)
  message_read spot (msg.Fork u old bytes forward reverse) read = record {
    forked = λ p is some. place_is (forked_place u old bytes forward reverse) p (λ x. is_forked x.follows.base) is tt;
    forward = λ p is few. absurd (omega (arith, few));
    reverse = λ p is few. absurd (omega (arith, few));
    kept = λ k bad. no_kept _ k bad;
  }
  message_read spot (msg.Heard item) read = read_on spot (spot_after spot (msg.Heard item)) (λ p is. heard_from spot.place item p is) refl refl read
  message_read spot (msg.Hand n) read = read_on spot (spot_after spot (msg.Hand n)) (λ p is. hand_from spot.place n p is) refl refl read
  message_read spot (msg.Stand s) read = standing_read spot.keeps s read.kept

  -- ## What comes of a step

  moves_is : (x y : Spot V) → Moves x ≡ Moves y → x ≡ y
  moves_is x y h = cc

  moves_ready : (A : Type 0) (x : Spot V) (s : V) (n : ℕ) → Moves x ≡ IsReadyFor s n → A
  moves_ready A x s n h = absurd (let bad : Moves x ≡ IsReadyFor s n = h in cc)

  moves_gives : (A : Type 0) (x : Spot V) (c : Cause) → Moves x ≡ GivesUp c → A
  moves_gives A x c h = absurd (let bad : Moves x ≡ GivesUp c = h in cc)

  ready_gives : (A : Type 0) (s : V) (n : ℕ) (c : Cause) → IsReadyFor s n ≡ GivesUp c → A
  ready_gives A s n c h = absurd (let bad : IsReadyFor s n ≡ GivesUp c = h in cc)

  gives_is : (c d : Cause) → ◌≡◌ {A = Next V} (GivesUp c) (GivesUp d) → c ≡ d
  gives_is c d h = cc

  ready_is : (s t : V) (n m : ℕ) → IsReadyFor s n ≡ IsReadyFor t m → (s ≡ t) × (n ≡ m)
  ready_is s t n m h = (let e : IsReadyFor s n ≡ IsReadyFor t m = h in cc, let e : IsReadyFor s n ≡ IsReadyFor t m = h in cc)

  one_place : (spot : Spot V) (p q : Place V) → spot.place ≡ Some p → spot.place ≡ Some q → p ≡ q
  one_place spot p q h k = let e : Some p ≡ Some q = sym h ∙ k in cc

module _ {V : Type 0} (b : Behaviour V) where
  -- a replay fails at the next item
  fails_next : (begins : Result V BornFault) (items : List (Call × Reply)) (item : Call × Reply) (more : List (Call × Reply)) (s : V) → replayed_from b begins items ≡ Stands s →
      event_fits (b.go (past b s)) item ≡ false → replayed_from b begins (items ++ item ∷ more) ≡ Fails (length items) item.0 (b.go (past b s))
  fails_next (Ok first) items item more s h misfit =
      replay-append b 0 first items (item ∷ more) s h
      ∙ ap (λ (t : Bool). cond t (replay b (0 + length items + 1) (b.after (past b s) item.1) more) (Fails (0 + length items) item.0 (b.go (past b s)))) misfit
      ∙ ap (λ (n : ℕ). Fails n item.0 (b.go (past b s))) (omega arith)
  fails_next (Err fault) items item more s h misfit = absurd (let bad : Unborn fault ≡ Stands s = h in cc)

  -- ## A step that gives up

  module _ (spot : Spot V) (read : HasRead spot) (p : Place V) (is : spot.place ≡ Some p) where
    both_read : spot.births ≤ 1 → AreAccepted p.follows.files
    both_read few = record { forward = read.forward p is (omega (arith, few)); reverse = read.reverse p is few }

    shows_failure : (k : ℕ) (want : Call) (e : Event) → AreAccepted p.follows.files → is_point e ≡ false → replayed b (is_handed p) p.follows ≡ Fails k want e → FollowerShows b (is_handed p) p.follows (failure k want e)
    shows_failure k want (event.Calls c) accepted other fails = (tt, record { accepted = accepted; fails = fails })
    shows_failure k want event.Point accepted other fails = absurd (let bad : true ≡ false = other in cc)
    shows_failure k want (event.Ends n) accepted other fails = (tt, record { accepted = accepted; fails = fails })
    shows_failure k want (event.Traps t) accepted other fails = (want, record { accepted = accepted; fails = fails })

    -- an item that doesn't fit
    misfits : (ends : PointsEnd b) (c : Cause) (next : Next V) (m : Matches b spot p next) (item : Call × Reply) (more : List (Call × Reply)) → spot.births ≡ 0 → m.rest ≡ item ∷ more →
        (t : Bool) → event_fits (b.go (past b m.reached)) item ≡ t → GivesUp c ≡ cond t (Moves (record spot { matched = spot.matched + 1 })) (GivesUp (failure spot.matched item.0 (b.go (past b m.reached)))) → FollowerShows b (is_handed p) p.follows c
    misfits ends c next m item more born rest true fits h = moves_gives _ _ _ (sym h)
    misfits ends c next m item more born rest false fits h =
        let later = joined (drop spot.decisions (groups_at p)) in
        let list : rewritten_by (is_handed p) (hears_by p.follows) p.follows.heard ≡ m.matched ++ item ∷ (more ++ later) =
        whole_at p spot.decisions ∙ ap (λ (l : List (Call × Reply)). l ++ later) (m.items_are ∙ ap (λ (l : List (Call × Reply)). m.matched ++ l) rest) ∙ append_assoc m.matched (item ∷ more) later in
        let fails : replayed b (is_handed p) p.follows ≡ Fails spot.matched item.0 (b.go (past b m.reached)) =
        ap (λ (l : List (Call × Reply)). replayed_from b (begin b p.follows) l) list
        ∙ fails_next (begin b p.follows) m.matched item (more ++ later) m.reached m.stands fits
        ∙ ap (λ (n : ℕ). Fails n item.0 (b.go (past b m.reached))) m.count in
        subst (λ (x : Cause). FollowerShows b (is_handed p) p.follows x) (sym (gives_is c _ h))
        (shows_failure spot.matched item.0 (b.go (past b m.reached)) (both_read (omega (arith, born))) (past_ends b ends m.reached) fails)

    hands_over : (c : Cause) (hand : Option ℕ) (s : V) → GivesUp c ≡ handed_next b spot hand s → ⊥
    hands_over c None s h = moves_gives _ _ _ (sym h)
    hands_over c (Some n) s h = ready_gives _ _ _ _ (sym h)

    decides : (c : Cause) (s : V) (t : Bool) → GivesUp c ≡ decided_next b spot p s t → ⊥
    decides c s true h = moves_gives _ _ _ (sym h)
    decides c s false h = hands_over c p.hand s h

    matches_shown : (ends : PointsEnd b) (c : Cause) (m : Matches b spot p (GivesUp c)) (rest : List (Call × Reply)) → spot.births ≡ 0 → m.rest ≡ rest → GivesUp c ≡ item_next b spot p m.reached rest → FollowerShows b (is_handed p) p.follows c
    matches_shown ends c m [] born rest h = absurd (decides c m.reached (nat_lt spot.decisions (length (groups_at p))) h)
    matches_shown ends c m (item ∷ more) born rest h = misfits ends c (GivesUp c) m item more born rest (event_fits (b.go (past b m.reached)) item) refl h

    reads_shown : (text : List ℕ) (which : Side) (next : Spot V) (c : Cause) → ReadsFile b text which (GivesUp c) next → (fault : RuleFault) × IsRefused text fault × (c ≡ cause.Rules which fault)
    reads_shown text which next c (inl h) = moves_gives _ _ _ (sym h.1)
    reads_shown text which next c (inr h) = (h.0, h.1, gives_is c _ h.2)

    born_shown : (c : Cause) → IsBorn b spot p.follows (GivesUp c) → (fault : BornFault) × (begin b p.follows ≡ Err fault) × (c ≡ cause.Refused fault)
    born_shown c (inl h) = moves_gives _ _ _ (sym h.2)
    born_shown c (inr h) = (h.0, h.1, gives_is c _ h.2)

    gives_at : (ends : PointsEnd b) (c : Cause) (births : ℕ) → spot.births ≡ births → NextAt b spot p births (GivesUp c) → FollowerShows b (is_handed p) p.follows c
    gives_at ends c zero born m = matches_shown ends c m m.rest born refl m.next_is
    gives_at ends c (suc zero) born h =
        let shown = born_shown c h in
        subst (λ (x : Cause). FollowerShows b (is_handed p) p.follows x) (sym shown.2) (read.forked p is (omega (arith, born)), both_read (omega (arith, born)), shown.1)
    gives_at ends c (suc (suc zero)) born h =
        let shown = reads_shown p.follows.files.reverse side.Reverse _ c h in
        subst (λ (x : Cause). FollowerShows b (is_handed p) p.follows x) (sym shown.2) (read.forked p is (omega (arith, born)), read.forward p is (omega (arith, born)), shown.1)
    gives_at ends c (suc (suc (suc n))) born h =
        let shown = reads_shown p.follows.files.forward side.Forward _ c h in
        subst (λ (x : Cause). FollowerShows b (is_handed p) p.follows x) (sym shown.2) (read.forked p is (omega (arith, born)), shown.1)

    -- ## A step that is ready

    abbrev IsReachedFor : V → ℕ → Type 0
    IsReachedFor s n = (p.hand ≡ Some n) × Reaches b p.follows s

    readies_at : (s : V) (n : ℕ) (m : Matches b spot p (IsReadyFor s n)) → spot.births ≡ 0 → m.rest ≡ [] → nat_lt spot.decisions (length (groups_at p)) ≡ false →
        (hand : Option ℕ) → p.hand ≡ hand → IsReadyFor s n ≡ handed_next b spot hand m.reached → IsReachedFor s n
    readies_at s n m born rest over None handed h = moves_ready _ _ _ _ (sym h)
    readies_at s n m born rest over (Some k) handed h =
        let same = ready_is s m.reached n k h in
        let list : rewritten_by true (hears_by p.follows) p.follows.heard ≡ m.matched =
        ap (λ (o : Option ℕ). rewritten_by (is_some o) (hears_by p.follows) p.follows.heard) (sym handed) ∙ all_at p spot.decisions over
        ∙ m.items_are ∙ ap (λ (l : List (Call × Reply)). m.matched ++ l) rest ∙ append-nil m.matched in (
          handed ∙ ap (λ (i : ℕ). let o : Option ℕ = Some i in o) (sym same.1),
          record {
            accepted = both_read (omega (arith, born));
            stands = ap (λ (l : List (Call × Reply)). replayed_from b (begin b p.follows) l) list ∙ m.stands ∙ ap (λ (x : V). let r : Replayed V = Stands x in r) (sym same.0);
          },
        )

    decided_ready : (s : V) (n : ℕ) (m : Matches b spot p (IsReadyFor s n)) → spot.births ≡ 0 → m.rest ≡ [] →
        (t : Bool) → nat_lt spot.decisions (length (groups_at p)) ≡ t → IsReadyFor s n ≡ decided_next b spot p m.reached t → IsReachedFor s n
    decided_ready s n m born rest true more h = moves_ready _ _ _ _ (sym h)
    decided_ready s n m born rest false over h = readies_at s n m born rest over p.hand refl h

    item_ready : (s : V) (n : ℕ) (c : Cause) (next : Spot V) (t : Bool) → IsReadyFor s n ≡ cond t (Moves next) (GivesUp c) → ⊥
    item_ready s n c next true h = moves_ready _ _ _ _ (sym h)
    item_ready s n c next false h = ready_gives _ _ _ _ h

    matches_ready : (s : V) (n : ℕ) (m : Matches b spot p (IsReadyFor s n)) (rest : List (Call × Reply)) → spot.births ≡ 0 → m.rest ≡ rest → IsReadyFor s n ≡ item_next b spot p m.reached rest → IsReachedFor s n
    matches_ready s n m [] born rest h = decided_ready s n m born rest (nat_lt spot.decisions (length (groups_at p))) refl h
    matches_ready s n m (item ∷ more) born rest h = absurd (item_ready s n _ _ (event_fits (b.go (past b m.reached)) item) h)

    reads_ready : (text : List ℕ) (which : Side) (next : Spot V) (s : V) (n : ℕ) → ReadsFile b text which (IsReadyFor s n) next → ⊥
    reads_ready text which next s n (inl h) = moves_ready _ _ _ _ (sym h.1)
    reads_ready text which next s n (inr h) = ready_gives _ _ _ _ h.2

    born_ready : (s : V) (n : ℕ) → IsBorn b spot p.follows (IsReadyFor s n) → ⊥
    born_ready s n (inl h) = moves_ready _ _ _ _ (sym h.2)
    born_ready s n (inr h) = ready_gives _ _ _ _ h.2

    reached_at : (s : V) (n births : ℕ) → spot.births ≡ births → NextAt b spot p births (IsReadyFor s n) → IsReachedFor s n
    reached_at s n zero born m = matches_ready s n m m.rest born refl m.next_is
    reached_at s n (suc zero) born h = absurd (born_ready s n h)
    reached_at s n (suc (suc zero)) born h = absurd (reads_ready p.follows.files.reverse side.Reverse _ s n h)
    reached_at s n (suc (suc (suc k))) born h = absurd (reads_ready p.follows.files.forward side.Forward _ s n h)

    -- ## A step that goes on

    same_read : (next : Spot V) → next.place ≡ spot.place → next.births ≡ spot.births → next.keeps ≡ spot.keeps → HasRead next
    same_read next place births keeps = read_on spot next (λ q at. (q, sym place ∙ at, record { files = refl; base = refl })) births keeps read

    item_moves : (next : Spot V) (s : V) (rest : List (Call × Reply)) → Moves next ≡ item_next b spot p s rest → HasRead next
    item_moves next s [] h = by (nat_lt spot.decisions (length (groups_at p))) h
      where
        handed : (hand : Option ℕ) → Moves next ≡ handed_next b spot hand s → HasRead next
        handed None e = subst (λ (x : Spot V). HasRead x) (sym (moves_is next _ e)) (same_read (record spot { quiet = true }) refl refl refl)
        handed (Some n) e = moves_ready _ _ _ _ e

        by : (t : Bool) → Moves next ≡ decided_next b spot p s t → HasRead next
        by true e = subst (λ (x : Spot V). HasRead x) (sym (moves_is next _ e)) (same_read (record spot { decisions = spot.decisions + 1 }) refl refl refl)
        by false e = handed p.hand e
    item_moves next s (item ∷ more) h = by (event_fits (b.go (past b s)) item) h
      where
        by : (t : Bool) → Moves next ≡ cond t (Moves (record spot { matched = spot.matched + 1 })) (GivesUp (failure spot.matched item.0 (b.go (past b s)))) → HasRead next
        by true e = subst (λ (x : Spot V). HasRead x) (sym (moves_is next _ e)) (same_read (record spot { matched = spot.matched + 1 }) refl refl refl)
        by false e = moves_gives _ _ _ e

    here : (P : Place V → Type 0) → P p → (q : Place V) → spot.place ≡ Some q → P q
    here P h q at = subst P (one_place spot p q is at) h

    read_forward : spot.births ≡ 3 ⊎ (2 < spot.births) → IsAccepted p.follows.files.forward → HasRead (record spot { births = 2 })
    read_forward born accepted = record {
      forked = λ q at some. read.forked q at (elim born [ inl e ↦ omega (arith, e) | inr more ↦ omega (arith, more) ]);
      forward = λ q at few. here (λ x. IsAccepted x.follows.files.forward) accepted q at;
      reverse = λ q at few. absurd (omega (arith, few));
      kept = read.kept;
    }

    read_reverse : spot.births ≡ 2 → IsAccepted p.follows.files.reverse → HasRead (record spot { births = 1; keeps = Some (record { update = p.update; files = p.follows.files }) })
    read_reverse born accepted =
        let forward = read.forward p is (omega (arith, born)) in record {
          forked = λ q at some. read.forked q at (omega (arith, born));
          forward = λ q at few. here (λ x. IsAccepted x.follows.files.forward) forward q at;
          reverse = λ q at few. here (λ x. IsAccepted x.follows.files.reverse) accepted q at;
          kept = λ k at. kept_is k _ at (record { forward = forward; reverse = accepted });
        }

    now_born : spot.births ≡ 1 → HasRead (record spot { births = 0 })
    now_born born =
        let both = both_read (omega (arith, born)) in record {
          forked = λ q at some. absurd (omega (arith, some));
          forward = λ q at few. here (λ x. IsAccepted x.follows.files.forward) both.forward q at;
          reverse = λ q at few. here (λ x. IsAccepted x.follows.files.reverse) both.reverse q at;
          kept = read.kept;
        }

    reads_moves : (text : List ℕ) (which : Side) (after next : Spot V) → ReadsFile b text which (Moves next) after → IsAccepted text × (next ≡ after)
    reads_moves text which after next (inl h) = (h.0, moves_is next after h.1)
    reads_moves text which after next (inr h) = moves_gives _ _ _ h.2

    born_moves : (next : Spot V) → IsBorn b spot p.follows (Moves next) → next ≡ record spot { births = 0 }
    born_moves next (inl h) = moves_is next _ h.2
    born_moves next (inr h) = moves_gives _ _ _ h.2

    moves_at : (next : Spot V) (births : ℕ) → spot.births ≡ births → NextAt b spot p births (Moves next) → HasRead next
    moves_at next zero born m = item_moves next m.reached m.rest m.next_is
    moves_at next (suc zero) born h = subst (λ (x : Spot V). HasRead x) (sym (born_moves next h)) (now_born born)
    moves_at next (suc (suc zero)) born h =
        let done = reads_moves p.follows.files.reverse side.Reverse _ next h in subst (λ (x : Spot V). HasRead x) (sym done.1) (read_reverse born done.0)
    moves_at next (suc (suc (suc n))) born h =
        let done = reads_moves p.follows.files.forward side.Forward _ next h in subst (λ (x : Spot V). HasRead x) (sym done.1) (read_forward (inr (omega (arith, born))) done.0)

  -- what a step gives up is shown over what was taken
  pub step_shown : (ends : PointsEnd b) (spot : Spot V) (p : Place V) (c : Cause) → HasRead spot → spot.place ≡ Some p → StepsTo b spot (GivesUp c) → FollowerShows b (is_handed p) p.follows c
  step_shown ends spot p c read is step =
      subst (λ (x : Place V). FollowerShows b (is_handed x) x.follows c) (one_place spot step.place p step.place_is is) (gives_at spot read step.place step.place_is ends c spot.births refl step.by)

  -- a guest that is ready was reached
  pub step_ready : (spot : Spot V) (p : Place V) (s : V) (n : ℕ) → HasRead spot → spot.place ≡ Some p → StepsTo b spot (IsReadyFor s n) → (p.hand ≡ Some n) × Reaches b p.follows s
  step_ready spot p s n read is step =
      subst (λ (x : Place V). (x.hand ≡ Some n) × Reaches b x.follows s) (one_place spot step.place p step.place_is is) (reached_at spot read step.place step.place_is s n spot.births refl step.by)

  -- each step keeps what was read
  pub step_read : (spot next : Spot V) → HasRead spot → StepsTo b spot (Moves next) → HasRead next
  step_read spot next read step = moves_at spot read step.place step.place_is next spot.births refl step.by

  -- ## A step where a message may be taken

  module _ (spot : Spot V) (p : Place V) (next : Next V) (born : spot.births ≡ 0) (none : spot.matched ≡ length (items_at p spot.decisions)) (unhanded : p.hand ≡ None) where
    hand_goes : (hand : Option ℕ) (s : V) → hand ≡ None → next ≡ handed_next b spot hand s → (later : Spot V) × (next ≡ Moves later)
    hand_goes None s is h = (record spot { quiet = true }, h)
    hand_goes (Some n) s is h = absurd (let bad : None ≡ Some n = sym is in cc)

    decision_goes : (t : Bool) (s : V) → next ≡ decided_next b spot p s t → (later : Spot V) × (next ≡ Moves later)
    decision_goes true s h = (record spot { decisions = spot.decisions + 1 }, h)
    decision_goes false s h = hand_goes p.hand s unhanded h

    rest_goes : (m : Matches b spot p next) (rest : List (Call × Reply)) → m.rest ≡ rest → next ≡ item_next b spot p m.reached rest → (later : Spot V) × (next ≡ Moves later)
    rest_goes m [] is h = decision_goes (nat_lt spot.decisions (length (groups_at p))) m.reached h
    rest_goes m (item ∷ more) is h =
        let all = ap length m.items_are ∙ length-append m.matched m.rest in
        let some = ap length is in absurd (omega (arith, all, some, none, m.count))

    goes_at : (births : ℕ) → spot.births ≡ births → NextAt b spot p births next → (later : Spot V) × (next ≡ Moves later)
    goes_at zero is m = rest_goes m m.rest refl m.next_is
    goes_at (suc n) is h = absurd (omega (arith, is, born))

  waits_at : (spot : Spot V) (p : Place V) (next : Next V) → may_carry_at (Some p) spot ≡ true → NextAt b spot p spot.births next → (later : Spot V) × (next ≡ Moves later)
  waits_at spot p next may by =
      let each = four (nat_eq spot.births 0) (nat_eq spot.matched (length (items_at p spot.decisions))) spot.quiet (is_none p.hand) may in
      goes_at spot p next (equal_is spot.births 0 each.0) (equal_is spot.matched (length (items_at p spot.decisions)) each.1) (none_is p.hand each.3) spot.births refl by

  -- where a message may be taken it goes on
  pub step_waits : (spot : Spot V) (next : Next V) → may_carry spot ≡ true → StepsTo b spot next → (later : Spot V) × (next ≡ Moves later)
  step_waits spot next may step = waits_at spot step.place next (ap (λ (o : Option (Place V)). may_carry_at o spot) (sym step.place_is) ∙ may) step.by

  -- ## A step is one

  module _ (spot : Spot V) (p : Place V) (x y : Next V) where
    reads_one : (text : List ℕ) (which : Side) (after : Spot V) → ReadsFile b text which x after → ReadsFile b text which y after → x ≡ y
    reads_one text which after (inl h) (inl k) = h.1 ∙ sym k.1
    reads_one text which after (inl h) (inr k) = absurd (accepted_stays text k.0 h.0 k.1)
    reads_one text which after (inr h) (inl k) = absurd (accepted_stays text h.0 k.0 h.1)
    reads_one text which after (inr h) (inr k) = h.2 ∙ ap (λ (fault : RuleFault). let n : Next V = GivesUp (cause.Rules which fault) in n) (refused_one text h.0 k.0 h.1 k.1) ∙ sym k.2

    born_one : (f : Following V) → IsBorn b spot f x → IsBorn b spot f y → x ≡ y
    born_one f (inl h) (inl k) = h.2 ∙ sym k.2
    born_one f (inl h) (inr k) = absurd (let bad : Ok h.0 ≡ Err k.0 = sym h.1 ∙ k.1 in cc)
    born_one f (inr h) (inl k) = absurd (let bad : Ok k.0 ≡ Err h.0 = sym k.1 ∙ h.1 in cc)
    born_one f (inr h) (inr k) =
        let same : h.0 ≡ k.0 = (let e : Err h.0 ≡ Err k.0 = sym h.1 ∙ k.1 in cc) in
        h.2 ∙ ap (λ (fault : BornFault). let n : Next V = GivesUp (cause.Refused fault) in n) same ∙ sym k.2

    matches_one : Matches b spot p x → Matches b spot p y → x ≡ y
    matches_one h k =
        let cut = one_cut h.matched k.matched h.rest k.rest (h.count ∙ sym k.count) (sym h.items_are ∙ k.items_are) in
        let at : Stands h.reached ≡ Stands k.reached = sym h.stands ∙ ap (λ (l : List (Call × Reply)). replayed_from b (begin b p.follows) l) cut.0 ∙ k.stands in
        let same : h.reached ≡ k.reached = cc in
        h.next_is ∙ ap (λ (s : V). item_next b spot p s h.rest) same ∙ ap (λ (l : List (Call × Reply)). item_next b spot p k.reached l) cut.1 ∙ sym k.next_is

    next_one : (births : ℕ) → NextAt b spot p births x → NextAt b spot p births y → x ≡ y
    next_one zero h k = matches_one h k
    next_one (suc zero) h k = born_one p.follows h k
    next_one (suc (suc zero)) h k = reads_one p.follows.files.reverse side.Reverse _ h k
    next_one (suc (suc (suc n))) h k = reads_one p.follows.files.forward side.Forward _ h k

  pub step_one : (spot : Spot V) (x y : Next V) → StepsTo b spot x → StepsTo b spot y → x ≡ y
  step_one spot x y h k =
      next_one spot k.place x y spot.births (subst (λ (q : Place V). NextAt b spot q spot.births x) (one_place spot h.place k.place h.place_is k.place_is) h.by) k.by
