-- What is shown over a prefix of what was sent is shown over the whole.
use Rattle.std.specs.Prelude.{◌≡◌, ℕ, zero, suc, ◌≤◌, ◌<◌, ◌⊎◌, true, Option, Some, None, is_some, List, [], ◌∷◌, ◌++◌, refl}
use Rattle.std.proofs.Common.{ap, arith, sym, subst, ◌∙◌, inl, inr, append_assoc, append-nil, length}
use Rattle.mv_calls.specs.declared.calls.Call.{Call}
use Rattle.mv_calls.specs.declared.calls.Reply.{Reply}
use Rattle.mv_feed.specs.declared.msg.Msg.{Msg}
use Rattle.mv_feed.specs.declared.msg.Msg.TheVariants as msg
use Rattle.mv_version.specs.Behaviour.{Behaviour}
use Rattle.mv_history.specs.Followers.{Following, Forked, hears, Reaches, FollowerShows}
use Rattle.mv_history.specs.Places.{Place, place_after, place_from, is_handed}
use Rattle.mv_history.specs.Ties.{hand_of, update_wanted, IsAt, Ties, with_more, GoesOn, WasWell, Extends}
use Rattle.mv_history.specs.World.{World, files_of, stand, after_entry, MayEnter, AreLegal, AsksFor, IsReady, OfFollower, Shows, is_asked, sends, heard_by, sent}
use Rattle.mv_history.specs.declared.log.Cause.{Cause}
use Rattle.mv_history.specs.declared.log.Cause.TheVariants as cause
use Rattle.mv_history.specs.declared.log.Side.TheVariants as side
use Rattle.mv_history.specs.declared.log.Entry.{Entry}
use Rattle.mv_history.specs.declared.log.Entry.TheVariants as entry
use Rattle.mv_history.specs.declared.log.Mark.TheVariants as mark
use Rattle.mv_history.specs.declared.log.Why.{Why}
use Rattle.mv_history.specs.declared.log.Why.TheVariants as why
use Rattle.mv_history.specs.declared.updates.Update.{Update}
use Rattle.mv_history.proofs.FollowerLaws.{IsEarlier, more_stands, more_shows, stands_shows}
use Rattle.mv_history.proofs.TiesLaws.{forks_wants, handed_at, ready_known, ties_once, place_from-append}

-- a place at which no hand-over was taken
abbrev Unhanded : {V : Type 0} → Option (Place V) → Type 0
Unhanded {V} place = (p : Place V) → place ≡ Some p → p.hand ≡ None

-- the earlier place had none either
early_unhanded : {V : Type 0} (early : Place V) (place : Option (Place V)) → Unhanded place → GoesOn early place → early.hand ≡ None
early_unhanded early place none g = elim g.unhanded [ inl e ↦ e | inr same ↦ sym same.1 ∙ none g.at g.is_at ]

pub one_more : {V : Type 0} (f : Following V) (more : List (Call × Reply)) (item : Call × Reply) → hears (with_more f more) item ≡ with_more f (more ++ item ∷ [])
one_more {V} f more item = ap (λ l. let k : Following V = record { files = f.files; base = f.base; heard = l } in k) (append_assoc f.heard more (item ∷ []))

pub none_more : {V : Type 0} (f : Following V) → f ≡ with_more f []
none_more {V} f = ap (λ l. let k : Following V = record { files = f.files; base = f.base; heard = l } in k) (sym (append-nil f.heard))

-- the earlier place, and what the later one adds
earlier_of : {V : Type 0} (early : Place V) (place : Option (Place V)) (g : GoesOn early place) → IsEarlier (is_handed early) (is_handed g.at) g.more
earlier_of early place g = elim g.unhanded [ inl e ↦ inl (ap (λ h. is_some h) e) | inr same ↦ inr (same.0, ap (λ h. is_some h) same.1) ]

module _ {V : Type 0} (b : Behaviour V) (updates : List Update) where
  heard_extends : (early : Place V) (place : Option (Place V)) (item : Call × Reply) → Unhanded place → Extends b early place → Extends b early (place_after place (msg.Heard item))
  heard_extends early place item none (inl g) =
      subst (λ p. Extends b early (place_after p (msg.Heard item))) (sym g.is_at)
      (inl (record {
        at = record { update = g.at.update; follows = hears g.at.follows item; hand = g.at.hand };
        is_at = refl;
        update = g.update;
        more = g.more ++ item ∷ [];
        follows = ap (λ f. hears f item) g.follows ∙ one_more early.follows g.more item;
        unhanded = inl (early_unhanded early place none g);
      }))
  heard_extends early place item none (inr (inl l)) =
      subst (λ p. Extends b early (place_after p (msg.Heard item))) (sym l.is_at)
      (inr (inl (record { at = record { update = l.at.update; follows = hears l.at.follows item; hand = l.at.hand }; is_at = refl; update = l.update })))
  heard_extends early place item none (inr (inr well)) = inr (inr well)

  hand_extends : (early : Place V) (place : Option (Place V)) (n : ℕ) → Unhanded place → Extends b early place → Extends b early (place_after place (msg.Hand n))
  hand_extends early place n none (inl g) =
      subst (λ p. Extends b early (place_after p (msg.Hand n))) (sym g.is_at)
      (inl (record {
        at = record { update = g.at.update; follows = g.at.follows; hand = Some n };
        is_at = refl;
        update = g.update;
        more = g.more;
        follows = g.follows;
        unhanded = inl (early_unhanded early place none g);
      }))
  hand_extends early place n none (inr (inl l)) =
      subst (λ p. Extends b early (place_after p (msg.Hand n))) (sym l.is_at)
      (inr (inl (record { at = record { update = l.at.update; follows = l.at.follows; hand = Some n }; is_at = refl; update = l.update })))
  hand_extends early place n none (inr (inr well)) = inr (inr well)

  fork_extends : (early : Place V) (w : World V) (place : Option (Place V)) (u : ℕ) (f : Following V) → Ties w place → update_wanted w.status.wanted ≡ Some u →
      Extends b early place → Extends b early (Some (record { update = u; follows = f; hand = None }))
  fork_extends early w place u f ties wants (inl g) =
      let h = ties.older g.at u g.is_at wants in
      inr (inl (record { at = record { update = u; follows = f; hand = None }; is_at = refl; update = omega (arith, h, g.update) }))
  fork_extends early w place u f ties wants (inr (inl l)) =
      let h = ties.older l.at u l.is_at wants in
      inr (inl (record { at = record { update = u; follows = f; hand = None }; is_at = refl; update = omega (arith, h, l.update) }))
  fork_extends early w place u f ties wants (inr (inr well)) = inr (inr well)

  -- a hand-over is asked, so the earlier place took it where it is the same
  asked_earlier : (early : Place V) (w : World V) (place : Option (Place V)) (x : Why) (at : IsAt w place) (g : GoesOn early place) → AsksFor w.status x → IsEarlier (is_handed early) true g.more
  asked_earlier early w place x at g asks =
      let one : at.at ≡ g.at = (let e : Some at.at ≡ Some g.at = sym at.is_at ∙ g.is_at in cc) in
      let h : is_handed g.at ≡ true = sym (ap (λ p. is_handed p) one) ∙ sym (handed_at w place at) ∙ ap (λ a. is_some a) asks.1 in
      subst (λ t. IsEarlier (is_handed early) t g.more) h (earlier_of early place g)

  of_follower : (following : Option (Following V)) (f : Following V) (P : Following V → Type 0) → following ≡ Some f → OfFollower b following P → P f
  of_follower following f P is h = subst (λ o. OfFollower b o P) is h

  was_well : (early : Place V) (w : World V) (place : Option (Place V)) (x : Why) (g : GoesOn early place) → IsAt w place → AsksFor w.status x → IsReady b w → WasWell b early
  was_well early w place x g at asks ready =
      let one : at.at ≡ g.at = (let e : Some at.at ≡ Some g.at = sym at.is_at ∙ g.is_at in cc) in
      let follows : w.following ≡ Some (with_more early.follows g.more) = at.following ∙ ap (λ p. let o : Option (Following V) = Some p.follows in o) one ∙ ap (λ f. let o : Option (Following V) = Some f in o) g.follows in
      let reaches = of_follower w.following (with_more early.follows g.more) (λ f. (s : V) × Reaches b f s) follows ready in
      let stood = more_stands b early.follows (is_handed early) true g.more reaches.0 reaches.1.accepted (asked_earlier early w place x at g asks) reaches.1.stands in
      record { accepted = reaches.1.accepted; at = stood.0; stands = stood.1 }

  stand_extends : (early : Place V) (w : World V) (place : Option (Place V)) (x : Why) → Ties w place → AsksFor w.status x → IsReady b w → Extends b early place → Extends b early (place_after place (msg.Stand w.lead))
  stand_extends early w place x ties asks ready (inl g) = inr (inr (was_well early w place x g (ties.known (ready_known b updates w place ties ready)) asks ready))
  stand_extends early w place x ties asks ready (inr (inl l)) =
      subst (λ p. Extends b early (place_after p (msg.Stand w.lead))) (sym l.is_at)
      (inr (inl (record { at = record { update = l.at.update; follows = stand w.lead l.at.follows; hand = None }; is_at = refl; update = l.update })))
  stand_extends early w place x ties asks ready (inr (inr well)) = inr (inr well)

  unhanded_here : (w : World V) (place : Option (Place V)) → Ties w place → 0 < w.status.follower → w.status.asked ≡ None → Unhanded place
  unhanded_here w place ties alive unasked p is =
      let at = ties.known alive in
      let one : at.at ≡ p = (let e : Some at.at ≡ Some p = sym at.is_at ∙ is in cc) in
      sym (ap (λ q. q.hand) one) ∙ sym at.hand ∙ ap hand_of unasked

  call_extends : (early : Place V) (w : World V) (place : Option (Place V)) (item : Call × Reply) (f : ℕ) → w.status.follower ≡ f → Ties w place → w.status.asked ≡ None → Extends b early place → Extends b early (place_from place (heard_by f item))
  call_extends early w place item zero is ties unasked ext = ext
  call_extends early w place item (suc n) is ties unasked ext = heard_extends early place item (unhanded_here w place ties (omega (arith, is)) unasked) ext

  pub extends_once : (early : Place V) (w : World V) (place : Option (Place V)) (e : Entry) → MayEnter b updates w e → Ties w place → Extends b early place → Extends b early (place_from place (sends updates w e))
  extends_once early w place (entry.Call item) may ties ext = call_extends early w place item w.status.follower refl ties may.0.is_open.unasked ext
  extends_once early w place entry.Point may ties ext = ext
  extends_once early w place (entry.Order text r) may ties ext = ext
  extends_once early w place (entry.Mark (mark.Fork u)) may ties ext =
      fork_extends early w place u (record { files = files_of updates w.status u; base = Forked w.lead; heard = [] }) ties (forks_wants w.status.wanted w.status.stage u may.1) ext
  extends_once early w place (entry.Mark (mark.NoCopy u)) may ties ext = ext
  extends_once early w place (entry.Mark (mark.Hand x)) may ties ext = hand_extends early place w.status.number (unhanded_here w place ties may.1 may.0.is_open.unasked) ext
  extends_once early w place (entry.Mark mark.Promote) may ties ext = stand_extends early w place why.Promote ties may.2 may.3 ext
  extends_once early w place (entry.Mark mark.Over) may ties ext = ext
  extends_once early w place (entry.Mark mark.Back) may ties ext = ext
  extends_once early w place (entry.Mark mark.Finish) may ties ext = ext
  extends_once early w place (entry.Mark (mark.Discard x)) may ties ext = ext
  extends_once early w place (entry.Mark (mark.Dropped x)) may ties ext = ext
  extends_once early w place (entry.Mark (mark.End x)) may ties ext = ext

  pub extends_all : (early : Place V) (w : World V) (es : List Entry) (place : Option (Place V)) → AreLegal b updates w es → Ties w place → Extends b early place → Extends b early (place_from place (sent b updates w es))
  extends_all early w [] place legal ties ext = ext
  extends_all early w (e ∷ es) place legal ties ext =
      rw (place_from-append place (sends updates w e) (sent b updates (after_entry b updates w e) es)) (extends_all early (after_entry b updates w e) es (place_from place (sends updates w e)) legal.1 (ties_once b updates w place e legal.0 ties) (extends_once early w place e legal.0 ties ext))

  begins_here : (early : Place V) (place : Option (Place V)) → place ≡ Some early → Extends b early place
  begins_here early place is = inl (record { at = early; is_at = is; update = refl; more = []; follows = none_more early.follows; unhanded = inr (refl, refl) })

  calls_few : (f : ℕ) (item : Call × Reply) → length (heard_by {V = V} f item) ≤ 1
  calls_few zero item = omega arith
  calls_few (suc n) item = omega arith

  -- an entry sends one message at most
  pub sends_few : (w : World V) (e : Entry) → length (sends updates w e) ≤ 1
  sends_few w (entry.Call item) = calls_few w.status.follower item
  sends_few w entry.Point = omega arith
  sends_few w (entry.Order text r) = omega arith
  sends_few w (entry.Mark (mark.Fork u)) = omega arith
  sends_few w (entry.Mark (mark.NoCopy u)) = omega arith
  sends_few w (entry.Mark (mark.Hand x)) = omega arith
  sends_few w (entry.Mark mark.Promote) = omega arith
  sends_few w (entry.Mark mark.Over) = omega arith
  sends_few w (entry.Mark mark.Back) = omega arith
  sends_few w (entry.Mark mark.Finish) = omega arith
  sends_few w (entry.Mark (mark.Discard x)) = omega arith
  sends_few w (entry.Mark (mark.Dropped x)) = omega arith
  sends_few w (entry.Mark (mark.End x)) = omega arith

  -- a prefix of what goes with an entry and those after it
  pub cut : (early : Place V) (place : Option (Place V)) (goes more prefix rest : List (Msg V)) → length goes ≤ 1 → goes ++ more ≡ prefix ++ rest → place_from place prefix ≡ Some early →
      ((short : List (Msg V)) × (more ≡ short ++ rest) × (place_from (place_from place goes) short ≡ Some early)) ⊎ ((place ≡ Some early) × (prefix ≡ []))
  cut early place [] more prefix rest few same is = inl (prefix, same, is)
  cut early place (m ∷ []) more [] rest few same is = inr (is, refl)
  cut early place (m ∷ []) more (p ∷ ps) rest few same is =
      let head : m ≡ p = (let e : m ∷ more ≡ p ∷ (ps ++ rest) = same in cc) in
      let tail : more ≡ ps ++ rest = (let e : m ∷ more ≡ p ∷ (ps ++ rest) = same in cc) in
      inl (ps, tail, subst (λ x. place_from (place_after place x) ps ≡ Some early) (sym head) is)
  cut early place (m ∷ n ∷ goes) more prefix rest few same is = absurd (omega (arith, few))

  -- from a prefix of what was sent to the whole
  pub prefix_extends : (early : Place V) (w : World V) (es : List Entry) (place : Option (Place V)) (prefix rest : List (Msg V)) → AreLegal b updates w es → Ties w place →
      sent b updates w es ≡ prefix ++ rest → place_from place prefix ≡ Some early → Extends b early (place_from place (sent b updates w es))
  prefix_extends early w [] place [] rest legal ties same is = begins_here early place is
  prefix_extends early w [] place (p ∷ ps) rest legal ties same is = absurd (let e : [] ≡ p ∷ (ps ++ rest) = same in cc)
  prefix_extends early w (e ∷ es) place prefix rest legal ties same is =
      elim (cut early place (sends updates w e) (sent b updates (after_entry b updates w e) es) prefix rest (sends_few w e) same is) [
        | inl c ↦ rw (place_from-append place (sends updates w e) (sent b updates (after_entry b updates w e) es)) (prefix_extends early (after_entry b updates w e) es (place_from place (sends updates w e)) c.0 rest legal.1 (ties_once b updates w place e legal.0 ties) c.1 c.2)
        | inr h ↦ extends_all early w (e ∷ es) place legal ties (begins_here early place h.0)
      ]

  shows_of : (w : World V) (f : Following V) (c : Cause) → w.following ≡ Some f → FollowerShows b (is_asked w.status) f c → Shows b w c
  shows_of w f (cause.Rules side.Forward fault) is h = subst (λ o. OfFollower b o (λ g. FollowerShows b (is_asked w.status) g (cause.Rules side.Forward fault))) (sym is) h
  shows_of w f (cause.Rules side.Reverse fault) is h = subst (λ o. OfFollower b o (λ g. FollowerShows b (is_asked w.status) g (cause.Rules side.Reverse fault))) (sym is) h
  shows_of w f (cause.Refused fault) is h = subst (λ o. OfFollower b o (λ g. FollowerShows b (is_asked w.status) g (cause.Refused fault))) (sym is) h
  shows_of w f (cause.Trap k trap) is h = subst (λ o. OfFollower b o (λ g. FollowerShows b (is_asked w.status) g (cause.Trap k trap))) (sym is) h
  shows_of w f (cause.Mismatch k want got) is h = subst (λ o. OfFollower b o (λ g. FollowerShows b (is_asked w.status) g (cause.Mismatch k want got))) (sym is) h
  shows_of w f (cause.Order n) is h = absurd h
  shows_of w f cause.Memory is h = subst (λ o. OfFollower b o (λ g. FollowerShows b (is_asked w.status) g cause.Memory)) (sym is) h

  -- what is shown over a prefix is shown over the whole, of the same update
  pub shows_whole : (early : Place V) (w : World V) (place : Option (Place V)) (c : Cause) → Ties w place → Extends b early place → 0 < early.update → early.update ≡ w.status.follower →
      FollowerShows b (is_handed early) early.follows c → Shows b w c
  shows_whole early w place c ties (inl g) alive same h =
      let at = ties.known (omega (arith, alive, same)) in
      let one : at.at ≡ g.at = (let e : Some at.at ≡ Some g.at = sym at.is_at ∙ g.is_at in cc) in
      let more = more_shows b early.follows (is_handed early) (is_handed g.at) g.more c (earlier_of early place g) h in
      let here = subst (λ f. FollowerShows b (is_handed g.at) f c) (sym g.follows) more in
      shows_of w at.at.follows c at.following
      (subst (λ p. FollowerShows b (is_asked w.status) p.follows c) (sym one)
      (subst (λ t. FollowerShows b t g.at.follows c) (ap (λ p. is_handed p) (sym one) ∙ sym (handed_at w place at)) here))
  shows_whole early w place c ties (inr (inl l)) alive same h =
      let at = ties.known (omega (arith, alive, same)) in
      let one : at.at ≡ l.at = (let e : Some at.at ≡ Some l.at = sym at.is_at ∙ l.is_at in cc) in
      absurd (omega (arith, l.update, same, at.update, ap (λ p. p.update) one))
  shows_whole early w place c ties (inr (inr well)) alive same h =
      let at = ties.known (omega (arith, alive, same)) in
      let memory = stands_shows b early.follows (is_handed early) well.at c well.accepted well.stands h in
      subst (λ x. Shows b w x) (sym memory) (shows_of w at.at.follows cause.Memory at.following tt)
