-- From a base, the messages before it say nothing more of what follows.
use Rattle.std.specs.Prelude.{◌≡◌, ℕ, zero, suc, ◌+◌, ◌≤◌, ◌<◌, ◌⊎◌, Option, Some, None, List, [], ◌∷◌, ◌++◌, length, refl}
use Rattle.std.proofs.Common.{ap, arith, sym, subst, ◌∙◌, inl, inr, length-append}
use Rattle.mv_calls.specs.declared.calls.Call.{Call}
use Rattle.mv_calls.specs.declared.calls.Reply.{Reply}
use Rattle.mv_feed.specs.declared.msg.Msg.{Msg}
use Rattle.mv_feed.specs.declared.msg.Msg.TheVariants as msg
use Rattle.mv_orders.specs.declared.reply.OrderReply.{OrderReply}
use Rattle.mv_version.specs.Behaviour.{Behaviour}
use Rattle.mv_history.specs.Bases.{ForksUpTo, HandsBelow, IsBase}
use Rattle.mv_history.specs.Places.{Place, forked_place, place_after, place_from, place_of}
use Rattle.mv_history.specs.Ties.{hand_of, update_wanted, HandsPast, Ties}
use Rattle.mv_history.specs.World.{World, begun, after_entry, after_entries, MayEnter, AreLegal, sends, heard_by, sent}
use Rattle.mv_history.specs.declared.log.Entry.{Entry}
use Rattle.mv_history.specs.declared.log.Entry.TheVariants as entry
use Rattle.mv_history.specs.declared.log.Mark.TheVariants as mark
use Rattle.mv_history.specs.declared.updates.Update.{Update}
use Rattle.mv_history.proofs.ExtendsLaws.{sends_few}
use Rattle.mv_history.proofs.OrderLaws.{order_keeps, order_wants}
use Rattle.mv_history.proofs.TiesLaws.{forks_wants, none_wanted, place_from-append, ties_all, ties_once}
use Rattle.mv_history.proofs.WorldLaws.{number-length, updates_more}

hand_is : (number m n : ℕ) → Some n ≡ Some m → n < number → m < number
hand_is number m n is h = let same : n ≡ m = (let e : Some n ≡ Some m = is in cc) in omega (arith, same, h)

no_hand : (A : Type 0) (m : ℕ) → None ≡ Some m → A
no_hand A m bad = absurd (let h : None ≡ Some m = bad in cc)

-- ## Lists of messages

module _ {V : Type 0} where
  pub forks_front : (most : ℕ) (xs ys : List (Msg V)) → ForksUpTo most (xs ++ ys) → ForksUpTo most xs
  forks_front most [] ys h = tt
  forks_front most (msg.Fork u old bytes forward reverse ∷ xs) ys h = (h.0, forks_front most xs ys h.1)
  forks_front most (msg.Heard item ∷ xs) ys h = forks_front most xs ys h
  forks_front most (msg.Hand n ∷ xs) ys h = forks_front most xs ys h
  forks_front most (msg.Stand s ∷ xs) ys h = forks_front most xs ys h

  pub forks_both : (most : ℕ) (xs ys : List (Msg V)) → ForksUpTo most xs → ForksUpTo most ys → ForksUpTo most (xs ++ ys)
  forks_both most [] ys h k = k
  forks_both most (msg.Fork u old bytes forward reverse ∷ xs) ys h k = (h.0, forks_both most xs ys h.1 k)
  forks_both most (msg.Heard item ∷ xs) ys h k = forks_both most xs ys h k
  forks_both most (msg.Hand n ∷ xs) ys h k = forks_both most xs ys h k
  forks_both most (msg.Stand s ∷ xs) ys h k = forks_both most xs ys h k

  pub forks_more : (few most : ℕ) (xs : List (Msg V)) → few ≤ most → ForksUpTo few xs → ForksUpTo most xs
  forks_more few most [] le h = tt
  forks_more few most (msg.Fork u old bytes forward reverse ∷ xs) le h = (let first = h.0 in omega (arith, first, le), forks_more few most xs le h.1)
  forks_more few most (msg.Heard item ∷ xs) le h = forks_more few most xs le h
  forks_more few most (msg.Hand n ∷ xs) le h = forks_more few most xs le h
  forks_more few most (msg.Stand s ∷ xs) le h = forks_more few most xs le h

  pub hands_front : (number : ℕ) (xs ys : List (Msg V)) → HandsBelow number (xs ++ ys) → HandsBelow number xs
  hands_front number [] ys h = tt
  hands_front number (msg.Fork u old bytes forward reverse ∷ xs) ys h = hands_front number xs ys h
  hands_front number (msg.Heard item ∷ xs) ys h = hands_front number xs ys h
  hands_front number (msg.Hand n ∷ xs) ys h = (h.0, hands_front number xs ys h.1)
  hands_front number (msg.Stand s ∷ xs) ys h = hands_front number xs ys h

  pub hands_both : (number : ℕ) (xs ys : List (Msg V)) → HandsBelow number xs → HandsBelow number ys → HandsBelow number (xs ++ ys)
  hands_both number [] ys h k = k
  hands_both number (msg.Fork u old bytes forward reverse ∷ xs) ys h k = hands_both number xs ys h k
  hands_both number (msg.Heard item ∷ xs) ys h k = hands_both number xs ys h k
  hands_both number (msg.Hand n ∷ xs) ys h k = (h.0, hands_both number xs ys h.1 k)
  hands_both number (msg.Stand s ∷ xs) ys h k = hands_both number xs ys h k

  pub hands_more : (few number : ℕ) (xs : List (Msg V)) → few ≤ number → HandsBelow few xs → HandsBelow number xs
  hands_more few number [] le h = tt
  hands_more few number (msg.Fork u old bytes forward reverse ∷ xs) le h = hands_more few number xs le h
  hands_more few number (msg.Heard item ∷ xs) le h = hands_more few number xs le h
  hands_more few number (msg.Hand n ∷ xs) le h = (let first = h.0 in omega (arith, first, le), hands_more few number xs le h.1)
  hands_more few number (msg.Stand s ∷ xs) le h = hands_more few number xs le h

  -- ## The place that they make

  no_place : (A : Type 0) (p : Place V) → None ≡ Some p → A
  no_place A p bad = absurd (let h : None ≡ Some p = bad in cc)

  -- the place is of an update of at most this number
  abbrev UpTo : ℕ → Option (Place V) → Type 0
  UpTo most place = (p : Place V) → place ≡ Some p → p.update ≤ most

  update_is : (most : ℕ) (q p : Place V) → Some q ≡ Some p → q.update ≤ most → p.update ≤ most
  update_is most q p is h = let same : q ≡ p = (let e : Some q ≡ Some p = is in cc) in subst (λ (x : Place V). x.update ≤ most) same h

  upto_once : (most : ℕ) (place : Option (Place V)) (m : Msg V) → UpTo most place → ForksUpTo most (m ∷ []) → UpTo most (place_after place m)
  upto_once most place (msg.Fork u old bytes forward reverse) upto h = λ p is. update_is most (forked_place u old bytes forward reverse) p is h.0
  upto_once most None (msg.Heard item) upto h = λ p is. no_place _ p is
  upto_once most None (msg.Hand n) upto h = λ p is. no_place _ p is
  upto_once most None (msg.Stand s) upto h = λ p is. no_place _ p is
  upto_once most (Some q) (msg.Heard item) upto h = λ p is. update_is most _ p is (upto q refl)
  upto_once most (Some q) (msg.Hand n) upto h = λ p is. update_is most _ p is (upto q refl)
  upto_once most (Some q) (msg.Stand s) upto h = λ p is. update_is most _ p is (upto q refl)

  upto_all : (most : ℕ) (place : Option (Place V)) (ms : List (Msg V)) → UpTo most place → ForksUpTo most ms → UpTo most (place_from place ms)
  upto_all most place [] upto h = upto
  upto_all most place (m ∷ ms) upto h = upto_all most (place_after place m) ms (upto_once most place m upto (forks_front most (m ∷ []) ms h)) (rest m ms h)
    where
      rest : (m : Msg V) (ms : List (Msg V)) → ForksUpTo most (m ∷ ms) → ForksUpTo most ms
      rest (msg.Fork u old bytes forward reverse) ms h = h.1
      rest (msg.Heard item) ms h = h
      rest (msg.Hand n) ms h = h
      rest (msg.Stand s) ms h = h

  pub place_upto : (most : ℕ) (ms : List (Msg V)) (p : Place V) → ForksUpTo most ms → place_of ms ≡ Some p → p.update ≤ most
  place_upto most ms p h is = upto_all most None ms (λ q bad. no_place _ q bad) h p is

  same_hand : (q p : Place V) (m : ℕ) → Some q ≡ Some p → p.hand ≡ Some m → q.hand ≡ Some m
  same_hand q p m is hand = let same : q ≡ p = (let e : Some q ≡ Some p = is in cc) in ap (λ (x : Place V). x.hand) same ∙ hand

  hands_once : (number : ℕ) (place : Option (Place V)) (m : Msg V) → HandsPast number place → HandsBelow number (m ∷ []) → HandsPast number (place_after place m)
  hands_once number place (msg.Fork u old bytes forward reverse) past h = λ p m is hand. no_hand _ m (same_hand (forked_place u old bytes forward reverse) p m is hand)
  hands_once number None (msg.Heard item) past h = λ p m is hand. no_place _ p is
  hands_once number None (msg.Hand n) past h = λ p m is hand. no_place _ p is
  hands_once number None (msg.Stand s) past h = λ p m is hand. no_place _ p is
  hands_once number (Some q) (msg.Heard item) past h = λ p m is hand. past q m refl (same_hand _ p m is hand)
  hands_once number (Some q) (msg.Hand n) past h = λ p m is hand. hand_is number m n (same_hand _ p m is hand) h.0
  hands_once number (Some q) (msg.Stand s) past h = λ p m is hand. no_hand _ m (same_hand _ p m is hand)

  hands_all : (number : ℕ) (place : Option (Place V)) (ms : List (Msg V)) → HandsPast number place → HandsBelow number ms → HandsPast number (place_from place ms)
  hands_all number place [] past h = past
  hands_all number place (m ∷ ms) past h = hands_all number (place_after place m) ms (hands_once number place m past (hands_front number (m ∷ []) ms h)) (rest m ms h)
    where
      rest : (m : Msg V) (ms : List (Msg V)) → HandsBelow number (m ∷ ms) → HandsBelow number ms
      rest (msg.Fork u old bytes forward reverse) ms h = h
      rest (msg.Heard item) ms h = h
      rest (msg.Hand n) ms h = h.1
      rest (msg.Stand s) ms h = h

  pub hands_past : (number : ℕ) (ms : List (Msg V)) → HandsBelow number ms → HandsPast number (place_of ms)
  hands_past number ms h = hands_all number None ms (λ p m bad hand. no_place _ p bad) h

  -- ## A base

  pub base_ties : (w : World V) (before : List (Msg V)) → IsBase w before → Ties w (place_of before)
  base_ties w before base = record {
    known = λ alive. absurd (let none = base.nobody in omega (arith, none, alive));
    nobody = λ _. (base.alone, base.unasked);
    old = λ p is. place_upto w.status.updates before p base.forks is;
    some = λ u h. none_wanted _ u (sym base.unwanted ∙ h);
    older = λ p u is h. none_wanted _ u (sym base.unwanted ∙ h);
  }

  pub first_base : (first : V) → IsBase (begun first) []
  first_base first = record { nobody = refl; alone = refl; unasked = refl; unwanted = refl; forks = tt; hands = tt; few = omega arith }

  -- a prefix of two lists ends in the second or in the first
  pub splits : (xs ys prefix rest : List (Msg V)) → xs ++ ys ≡ prefix ++ rest →
      ((short : List (Msg V)) × (prefix ≡ xs ++ short) × (ys ≡ short ++ rest)) ⊎ ((more : List (Msg V)) × (xs ≡ prefix ++ more))
  splits [] ys prefix rest same = inl (prefix, refl, same)
  splits (x ∷ xs) ys [] rest same = inr (x ∷ xs, refl)
  splits (x ∷ xs) ys (p ∷ prefix) rest same =
      let head : p ≡ x = (let e : x ∷ (xs ++ ys) ≡ p ∷ (prefix ++ rest) = same in cc) in
      let tail : xs ++ ys ≡ prefix ++ rest = (let e : x ∷ (xs ++ ys) ≡ p ∷ (prefix ++ rest) = same in cc) in
      elim (splits xs ys prefix rest tail) [
        | inl s ↦ inl (s.0, ap (λ (l : List (Msg V)). p ∷ l) s.1 ∙ ap (λ (q : Msg V). q ∷ (xs ++ s.0)) head, s.2)
        | inr s ↦ inr (s.0, ap (λ (l : List (Msg V)). x ∷ l) s.1 ∙ ap (λ (q : Msg V). q ∷ (prefix ++ s.0)) (sym head))
      ]

-- ## What is gone at a base stays gone

-- the follower of this update is gone
record Gone {V : Type 0} (early : ℕ) (w : World V) : Type 0 where
  pub counted : early ≤ w.status.updates
  pub wanted : (u : ℕ) → update_wanted w.status.wanted ≡ Some u → early < u
  pub follower : (w.status.follower ≡ 0) ⊎ (early < w.status.follower)

-- the hand-over of this entry is answered
record Answered {V : Type 0} (n : ℕ) (w : World V) : Type 0 where
  pub counted : n < w.status.number
  pub asked : (m : ℕ) → hand_of w.status.asked ≡ Some m → n < m

module _ {V : Type 0} (b : Behaviour V) (updates : List Update) where
  order_gone : (early : ℕ) (w : World V) (text : List ℕ) (r : OrderReply) → MayEnter b updates w (entry.Order text r) → Gone early w → Gone early (after_entry b updates w (entry.Order text r))
  order_gone early w text r may gone =
      let keeps = order_keeps w.status r in record {
        counted = (let h = gone.counted in let k = keeps.updates in omega (arith, h, k));
        wanted = λ u h. elim (order_wants w.status updates text r u may.1 h) [
          | inl new ↦ (let k = gone.counted in omega (arith, k, new.0))
          | inr old ↦ gone.wanted u old.0
        ];
        follower = subst (λ (f : ℕ). (f ≡ 0) ⊎ (early < f)) (sym keeps.follower) gone.follower;
      }

  gone_once : (early : ℕ) (w : World V) (e : Entry) → MayEnter b updates w e → Gone early w → Gone early (after_entry b updates w e)
  gone_once early w (entry.Call item) may gone = record { counted = gone.counted; wanted = gone.wanted; follower = gone.follower }
  gone_once early w entry.Point may gone = record { counted = gone.counted; wanted = gone.wanted; follower = gone.follower }
  gone_once early w (entry.Order text r) may gone = order_gone early w text r may gone
  gone_once early w (entry.Mark (mark.Fork u)) may gone =
      record { counted = gone.counted; wanted = λ n bad. none_wanted _ n bad; follower = inr (gone.wanted u (forks_wants w.status.wanted w.status.stage u may.1)) }
  gone_once early w (entry.Mark (mark.NoCopy u)) may gone = record { counted = gone.counted; wanted = λ n bad. none_wanted _ n bad; follower = gone.follower }
  gone_once early w (entry.Mark (mark.Hand x)) may gone = record { counted = gone.counted; wanted = gone.wanted; follower = gone.follower }
  gone_once early w (entry.Mark mark.Promote) may gone = record { counted = gone.counted; wanted = λ n bad. none_wanted _ n bad; follower = gone.follower }
  gone_once early w (entry.Mark mark.Over) may gone = record { counted = gone.counted; wanted = λ n bad. none_wanted _ n bad; follower = inl refl }
  gone_once early w (entry.Mark mark.Back) may gone = record { counted = gone.counted; wanted = λ n bad. none_wanted _ n bad; follower = inl refl }
  gone_once early w (entry.Mark mark.Finish) may gone = record { counted = gone.counted; wanted = λ n bad. none_wanted _ n bad; follower = inl refl }
  gone_once early w (entry.Mark (mark.Discard x)) may gone = record { counted = gone.counted; wanted = λ n bad. none_wanted _ n bad; follower = inl refl }
  gone_once early w (entry.Mark (mark.Dropped x)) may gone = record { counted = gone.counted; wanted = λ n bad. none_wanted _ n bad; follower = inl refl }
  gone_once early w (entry.Mark (mark.End x)) may gone = record { counted = gone.counted; wanted = gone.wanted; follower = inl refl }

  gone_all : (early : ℕ) (w : World V) (es : List Entry) → AreLegal b updates w es → Gone early w → Gone early (after_entries b updates w es)
  gone_all early w [] legal gone = gone
  gone_all early w (e ∷ es) legal gone = gone_all early (after_entry b updates w e) es legal.1 (gone_once early w e legal.0 gone)

  answered_once : (n : ℕ) (w : World V) (e : Entry) → Answered n w → Answered n (after_entry b updates w e)
  answered_once n w (entry.Call item) h = record { counted = omega (arith, h.counted); asked = h.asked }
  answered_once n w entry.Point h = record { counted = omega (arith, h.counted); asked = h.asked }
  answered_once n w (entry.Order text r) h =
      record { counted = omega (arith, h.counted); asked = λ m is. h.asked m (ap hand_of (sym (order_keeps w.status r).asked) ∙ is) }
  answered_once n w (entry.Mark (mark.Fork u)) h = record { counted = omega (arith, h.counted); asked = λ m bad. no_hand _ m bad }
  answered_once n w (entry.Mark (mark.NoCopy u)) h = record { counted = omega (arith, h.counted); asked = λ m bad. no_hand _ m bad }
  answered_once n w (entry.Mark (mark.Hand x)) h =
      record { counted = omega (arith, h.counted); asked = λ m is. let same : w.status.number ≡ m = (let e : Some w.status.number ≡ Some m = is in cc) in omega (arith, h.counted, same) }
  answered_once n w (entry.Mark mark.Promote) h = record { counted = omega (arith, h.counted); asked = λ m bad. no_hand _ m bad }
  answered_once n w (entry.Mark mark.Over) h = record { counted = omega (arith, h.counted); asked = λ m bad. no_hand _ m bad }
  answered_once n w (entry.Mark mark.Back) h = record { counted = omega (arith, h.counted); asked = λ m bad. no_hand _ m bad }
  answered_once n w (entry.Mark mark.Finish) h = record { counted = omega (arith, h.counted); asked = λ m bad. no_hand _ m bad }
  answered_once n w (entry.Mark (mark.Discard x)) h = record { counted = omega (arith, h.counted); asked = λ m bad. no_hand _ m bad }
  answered_once n w (entry.Mark (mark.Dropped x)) h = record { counted = omega (arith, h.counted); asked = λ m bad. no_hand _ m bad }
  answered_once n w (entry.Mark (mark.End x)) h = record { counted = omega (arith, h.counted); asked = λ m bad. no_hand _ m bad }

  answered_all : (n : ℕ) (w : World V) (es : List Entry) → Answered n w → Answered n (after_entries b updates w es)
  answered_all n w [] h = h
  answered_all n w (e ∷ es) h = answered_all n (after_entry b updates w e) es (answered_once n w e h)

  -- a place that messages before the base made is of no follower from then on
  pub not_before : (base : World V) (before : List (Msg V)) (es : List Entry) (prefix more : List (Msg V)) (p : Place V) → IsBase base before → AreLegal b updates base es →
      before ≡ prefix ++ more → place_of prefix ≡ Some p → 0 < p.update → p.update ≡ (after_entries b updates base es).status.follower → ⊥
  not_before base before es prefix more p is_base legal split is alive same =
      let forks = forks_front base.status.updates prefix more (subst (λ (l : List (Msg V)). ForksUpTo base.status.updates l) split is_base.forks) in
      let gone : Gone p.update base = record {
        counted = place_upto base.status.updates prefix p forks is;
        wanted = λ u h. none_wanted _ u (sym is_base.unwanted ∙ h);
        follower = inl is_base.nobody;
      } in
      elim (gone_all p.update base es legal gone).follower [
        | inl none ↦ omega (arith, none, alive, same)
        | inr later ↦ omega (arith, later, same)
      ]

  -- nor is the hand-over that they told of asked
  pub not_asked_before : (base : World V) (before : List (Msg V)) (es : List Entry) (prefix more : List (Msg V)) (p : Place V) (n : ℕ) → IsBase base before →
      before ≡ prefix ++ more → place_of prefix ≡ Some p → p.hand ≡ Some n → hand_of (after_entries b updates base es).status.asked ≡ Some n → ⊥
  not_asked_before base before es prefix more p n is_base split is handed asked =
      let hands = hands_front base.status.number prefix more (subst (λ (l : List (Msg V)). HandsBelow base.status.number l) split is_base.hands) in
      let first : Answered n base = record {
        counted = hands_past base.status.number prefix hands p n is handed;
        asked = λ m h. no_hand _ m (sym (ap hand_of is_base.unasked) ∙ h);
      } in
      let later = (answered_all n base es first).asked n asked in omega (arith, later)

  -- ## A later base

  call_forks : (most f : ℕ) (item : Call × Reply) → ForksUpTo {V = V} most (heard_by f item)
  call_forks most zero item = tt
  call_forks most (suc f) item = tt

  sends_forks : (w : World V) (place : Option (Place V)) (e : Entry) → MayEnter b updates w e → Ties w place → ForksUpTo (after_entry b updates w e).status.updates (sends updates w e)
  sends_forks w place (entry.Call item) may ties = call_forks w.status.updates w.status.follower item
  sends_forks w place entry.Point may ties = tt
  sends_forks w place (entry.Order text r) may ties = tt
  sends_forks w place (entry.Mark (mark.Fork u)) may ties = (let is = (ties.some u (forks_wants w.status.wanted w.status.stage u may.1)).1 in omega (arith, is), tt)
  sends_forks w place (entry.Mark (mark.NoCopy u)) may ties = tt
  sends_forks w place (entry.Mark (mark.Hand x)) may ties = tt
  sends_forks w place (entry.Mark mark.Promote) may ties = tt
  sends_forks w place (entry.Mark mark.Over) may ties = tt
  sends_forks w place (entry.Mark mark.Back) may ties = tt
  sends_forks w place (entry.Mark mark.Finish) may ties = tt
  sends_forks w place (entry.Mark (mark.Discard x)) may ties = tt
  sends_forks w place (entry.Mark (mark.Dropped x)) may ties = tt
  sends_forks w place (entry.Mark (mark.End x)) may ties = tt

  pub sent_forks : (w : World V) (place : Option (Place V)) (es : List Entry) → AreLegal b updates w es → Ties w place → ForksUpTo (after_entries b updates w es).status.updates (sent b updates w es)
  sent_forks w place [] legal ties = tt
  sent_forks w place (e ∷ es) legal ties =
      forks_both (after_entries b updates (after_entry b updates w e) es).status.updates (sends updates w e) (sent b updates (after_entry b updates w e) es)
      (forks_more (after_entry b updates w e).status.updates (after_entries b updates (after_entry b updates w e) es).status.updates (sends updates w e) (updates_more b updates (after_entry b updates w e) es) (sends_forks w place e legal.0 ties))
      (sent_forks (after_entry b updates w e) (place_from place (sends updates w e)) es legal.1 (ties_once b updates w place e legal.0 ties))

  call_hands : (number f : ℕ) (item : Call × Reply) → HandsBelow {V = V} number (heard_by f item)
  call_hands number zero item = tt
  call_hands number (suc f) item = tt

  sends_hands : (w : World V) (e : Entry) → HandsBelow (w.status.number + 1) (sends updates w e)
  sends_hands w (entry.Call item) = call_hands (w.status.number + 1) w.status.follower item
  sends_hands w entry.Point = tt
  sends_hands w (entry.Order text r) = tt
  sends_hands w (entry.Mark (mark.Fork u)) = tt
  sends_hands w (entry.Mark (mark.NoCopy u)) = tt
  sends_hands w (entry.Mark (mark.Hand x)) = (omega arith, tt)
  sends_hands w (entry.Mark mark.Promote) = tt
  sends_hands w (entry.Mark mark.Over) = tt
  sends_hands w (entry.Mark mark.Back) = tt
  sends_hands w (entry.Mark mark.Finish) = tt
  sends_hands w (entry.Mark (mark.Discard x)) = tt
  sends_hands w (entry.Mark (mark.Dropped x)) = tt
  sends_hands w (entry.Mark (mark.End x)) = tt

  pub sent_hands : (w : World V) (es : List Entry) → HandsBelow (after_entries b updates w es).status.number (sent b updates w es)
  sent_hands w [] = tt
  sent_hands w (e ∷ es) =
      let last = (after_entries b updates (after_entry b updates w e) es).status.number in
      hands_both last (sends updates w e) (sent b updates (after_entry b updates w e) es)
      (hands_more (w.status.number + 1) last (sends updates w e) (let n = number-length b updates (after_entry b updates w e) es in omega (arith, n)) (sends_hands w e))
      (sent_hands (after_entry b updates w e) es)

  pub sent_few : (w : World V) (es : List Entry) → length (sent b updates w es) ≤ length es
  sent_few w [] = omega arith
  sent_few w (e ∷ es) =
      let one = sends_few b updates w e in let more = sent_few (after_entry b updates w e) es in
      let all = length-append (sends updates w e) (sent b updates (after_entry b updates w e) es) in omega (arith, one, more, all)

  -- a base, and a log to where nobody follows and no update is wanted, is a base
  pub base_after : (base : World V) (before : List (Msg V)) (es : List Entry) → IsBase base before → AreLegal b updates base es → (after_entries b updates base es).status.follower ≡ 0 →
      update_wanted (after_entries b updates base es).status.wanted ≡ None → IsBase (after_entries b updates base es) (before ++ sent b updates base es)
  base_after base before es is_base legal nobody unwanted =
      let last = after_entries b updates base es in
      let ties = base_ties base before is_base in
      let none = (ties_all b updates base es (place_of before) legal ties).nobody nobody in
      let count = number-length b updates base es in record {
        nobody = nobody;
        alone = none.0;
        unasked = none.1;
        unwanted = unwanted;
        forks = forks_both last.status.updates before (sent b updates base es) (forks_more base.status.updates last.status.updates before (updates_more b updates base es) is_base.forks)
            (sent_forks base (place_of before) es legal ties);
        hands = hands_both last.status.number before (sent b updates base es) (hands_more base.status.number last.status.number before (omega (arith, count)) is_base.hands) (sent_hands base es);
        few = (let one = is_base.few in let more = sent_few base es in let all = length-append before (sent b updates base es) in omega (arith, one, more, all, count));
      }

  -- what the messages say at a base and at the end of a log from it
  pub ties_on : (w : World V) (before : List (Msg V)) (es : List Entry) → AreLegal b updates w es → Ties w (place_of before) → Ties (after_entries b updates w es) (place_of (before ++ sent b updates w es))
  ties_on w before es legal ties =
      subst (λ (p : Option (Place V)). Ties (after_entries b updates w es) p) (sym (place_from-append None before (sent b updates w es))) (ties_all b updates w es (place_of before) legal ties)
