-- Each entry that may come leaves a legal world in its shape.
use Rattle.std.specs.Prelude.{◌≡◌, ◌≢◌, ℕ, ◌<◌, Bool, true, false, cond, Option, Some, None, List, [], ◌∷◌, refl, Result, Ok, Err}
use Rattle.std.proofs.Common.{ap, arith, sym, subst, ◌∙◌, inl, inr}
use Rattle.mv_calls.specs.declared.calls.Call.{Call}
use Rattle.mv_calls.specs.declared.calls.Reply.{Reply}
use Rattle.mv_orders.specs.declared.order.Order.{Order}
use Rattle.mv_orders.specs.declared.order.Order.TheVariants as order
use Rattle.mv_orders.specs.declared.order.OrderFault.{OrderFault}
use Rattle.mv_orders.specs.declared.order.OrderFault.TheVariants as faults
use Rattle.mv_orders.specs.declared.reply.OrderReply.{OrderReply}
use Rattle.mv_orders.specs.declared.reply.OrderReply.TheVariants as reply
use Rattle.mv_orders.specs.declared.stage.Stage.{Stage}
use Rattle.mv_orders.specs.declared.stage.Stage.TheVariants.{OldAlone, OldLeads, NewLeads, NewAlone}
use Rattle.mv_orders.specs.declared.stage.Word.{Word}
use Rattle.mv_orders.specs.declared.stage.Word.TheVariants as word
use Rattle.mv_version.specs.Behaviour.{Behaviour}
use Rattle.mv_history.specs.Answers.{Answers, IsReplyTo, IsReplyBy}
use Rattle.mv_history.specs.Followers.{Base, Forked, Standing, Following, Reaches}
use Rattle.mv_history.specs.Shapes.{WordFits, WantedFits, WhyFits, AskedFits, BaseFits, FollowerFits, IsOver, Shaped}
use Rattle.mv_history.specs.Statuses.{accepted, answered, early_reply, update_refusal, only_in, is_alone, is_old_leads, is_new_leads, word_leads, wanted_leads}
use Rattle.mv_history.specs.World.{World, begun, also_hears, also_stands, after_entry, after_entries, MayEnter, AreLegal, OfFollower}
use Rattle.mv_history.specs.declared.log.Entry.{Entry}
use Rattle.mv_history.specs.declared.log.Entry.TheVariants as entry
use Rattle.mv_history.specs.declared.log.How.{How}
use Rattle.mv_history.specs.declared.log.Mark.TheVariants as mark
use Rattle.mv_history.specs.declared.log.Why.{Why}
use Rattle.mv_history.specs.declared.log.Why.TheVariants as why
use Rattle.mv_history.specs.declared.status.AtPoint.TheVariants as at
use Rattle.mv_history.specs.declared.status.Status.{Status}
use Rattle.mv_history.specs.declared.status.Wanted.{Wanted}
use Rattle.mv_history.specs.declared.updates.Update.{Update}
use Rattle.mv_history.specs.Ties.{update_wanted}
use Rattle.mv_history.proofs.OrderLaws.{OfSome, refuses, goes_on, order_keeps, order_wants}
use Rattle.mv_history.proofs.TiesLaws.{forks_wants, none_wanted}

-- ## An order is accepted in its stage

only_fits : (here : Bool) (w v : Word) (stage : Stage) (n : ℕ) → reply.Accepted w n ≡ only_in here v stage → (w ≡ v) × (here ≡ true)
only_fits true w v stage n h = (let e : reply.Accepted w n ≡ reply.Accepted v 0 = h in cc, refl)
only_fits false w v stage n h = absurd (let e : reply.Accepted w n ≡ reply.Stage stage = h in cc)

files_fit : (st : Status) (updates : List Update) (o : Order) (w : Word) (n : ℕ) (alone : is_alone st.stage ≡ true) → IsReplyBy None st updates o (reply.Accepted w n) → WordFits st.stage w
files_fit st updates o word.Update n alone h = alone
files_fit st updates o word.Promote n alone h = absurd h
files_fit st updates o word.Discard n alone h = absurd h
files_fit st updates o word.Finish n alone h = absurd h
files_fit st updates o word.Back n alone h = absurd h
files_fit st updates o word.Halt n alone h = absurd h

update_fits : (st : Status) (updates : List Update) (o : Order) (w : Word) (n : ℕ) (early : Option OrderReply) → OfSome early → (early ≡ None → is_alone st.stage ≡ true) → IsReplyBy early st updates o (reply.Accepted w n) → WordFits st.stage w
update_fits st updates o w n None refusal alone h = files_fit st updates o w n (alone refl) h
update_fits st updates o w n (Some r) refusal alone h = absurd (subst OfSome (ap (λ x. let o : Option OrderReply = Some x in o) (sym h)) refusal)

order_fits : (st : Status) (updates : List Update) (o : Order) (w : Word) (n : ℕ) → IsReplyBy (early_reply st o) st updates o (reply.Accepted w n) → WordFits st.stage w
order_fits st updates (order.Update m f r) w n h = update_fits st updates (order.Update m f r) w n (update_refusal st) (refuses st) (λ e. (goes_on st e).alone) h
order_fits st updates order.Promote w n h = let t = only_fits (is_old_leads st.stage) w word.Promote st.stage n h in subst (λ x. WordFits st.stage x) (sym t.0) t.1
order_fits st updates order.Discard w n h = let t = only_fits (is_old_leads st.stage) w word.Discard st.stage n h in subst (λ x. WordFits st.stage x) (sym t.0) t.1
order_fits st updates order.Finish w n h = let t = only_fits (is_new_leads st.stage) w word.Finish st.stage n h in subst (λ x. WordFits st.stage x) (sym t.0) t.1
order_fits st updates order.Back w n h = let t = only_fits (is_new_leads st.stage) w word.Back st.stage n h in subst (λ x. WordFits st.stage x) (sym t.0) t.1
order_fits st updates order.Halt w n h = let e : w ≡ word.Halt = (let e : reply.Accepted w n ≡ reply.Accepted word.Halt 0 = h in cc) in subst (λ x. WordFits st.stage x) (sym e) tt
order_fits st updates order.Status w n h = absurd (let e : reply.Accepted w n ≡ reply.Told st.stage st.follower st.last = h in cc)

reading_fits : (st : Status) (updates : List Update) (text : List ℕ) (reading : Result Order OrderFault) (w : Word) (n : ℕ) → IsReplyTo st updates text reading (reply.Accepted w n) → WordFits st.stage w
reading_fits st updates text (Err faults.Long) w n h = absurd (let e : reply.Accepted w n ≡ reply.Long = h in cc)
reading_fits st updates text (Err faults.Utf8) w n h = absurd (let e : reply.Accepted w n ≡ reply.Utf8 = h in cc)
reading_fits st updates text (Err faults.Unknown) w n h = absurd (let e : reply.Accepted w n ≡ reply.Unknown text = h in cc)
reading_fits st updates text (Ok o) w n h = order_fits st updates o w n h

accepted_fits : (st : Status) (w : Word) (n : ℕ) → WordFits st.stage w → WantedFits st.stage (accepted st w n).wanted
accepted_fits st word.Update n fits = fits
accepted_fits st word.Promote n fits = fits
accepted_fits st word.Discard n fits = fits
accepted_fits st word.Finish n fits = fits
accepted_fits st word.Back n fits = fits
accepted_fits st word.Halt n fits = fits

answered_fits : (st : Status) (updates : List Update) (text : List ℕ) (r : OrderReply) → Answers st updates text r → WantedFits st.stage st.wanted → WantedFits st.stage (answered st r).wanted
answered_fits st updates text (reply.Accepted w n) answers fits = accepted_fits st w n (reading_fits st updates text answers.0 w n answers.2)
answered_fits st updates text (reply.Told stage n last) answers fits = fits
answered_fits st updates text reply.Long answers fits = fits
answered_fits st updates text reply.Utf8 answers fits = fits
answered_fits st updates text (reply.Unknown line) answers fits = fits
answered_fits st updates text (reply.Stage stage) answers fits = fits
answered_fits st updates text (reply.Busy n) answers fits = fits
answered_fits st updates text reply.Many answers fits = fits
answered_fits st updates text (reply.Missing path) answers fits = fits
answered_fits st updates text (reply.Failed path) answers fits = fits

-- ## A hand-over is asked in its stage

word_hands : (wd : Word) (stage : Stage) (n : ℕ) (x : Why) → word_leads wd stage n ≡ at.Hands x → WordFits stage wd → WhyFits stage x
word_hands word.Update stage n x h fits =
    absurd ((elim (is_alone stage) as (λ t. cond t (at.Forks n) at.Passes ≡ at.Hands x → ⊥)
    [ true ↦ λ g. (let bad : at.Forks n ≡ at.Hands x = g in cc) | false ↦ λ g. (let bad : at.Passes ≡ at.Hands x = g in cc) ]) h)
word_hands word.Promote stage n x h fits = let e : why.Promote ≡ x = (let e : at.Hands why.Promote ≡ at.Hands x = h in cc) in subst (λ y. WhyFits stage y) e fits
word_hands word.Discard stage n x h fits = absurd (let bad : at.Passes ≡ at.Hands x = h in cc)
word_hands word.Finish stage n x h fits = absurd (let bad : at.Passes ≡ at.Hands x = h in cc)
word_hands word.Back stage n x h fits = let e : why.Back ≡ x = (let e : at.Hands why.Back ≡ at.Hands x = h in cc) in subst (λ y. WhyFits stage y) e fits
word_hands word.Halt stage n x h fits = absurd (let bad : at.Passes ≡ at.Hands x = h in cc)

pub wanted_hands : (wanted : Option Wanted) (stage : Stage) (x : Why) → wanted_leads wanted stage ≡ at.Hands x → WantedFits stage wanted → WhyFits stage x
wanted_hands None stage x h fits = absurd (let bad : at.Passes ≡ at.Hands x = h in cc)
wanted_hands (Some wanted) stage x h fits = word_hands wanted.word stage wanted.update x h fits

base_leads : {V : Type 0} (stage : Stage) (base : Base V) → BaseFits stage base → is_alone stage ≡ false
base_leads OldLeads (Forked s) fits = refl
base_leads OldLeads (Standing s) fits = absurd fits
base_leads NewLeads (Forked s) fits = absurd fits
base_leads NewLeads (Standing s) fits = refl
base_leads OldAlone (Forked s) fits = absurd fits
base_leads OldAlone (Standing s) fits = absurd fits
base_leads NewAlone (Forked s) fits = absurd fits
base_leads NewAlone (Standing s) fits = absurd fits

-- where a follower is there, no version is alone
follower_leads : {V : Type 0} (stage : Stage) (n : ℕ) (following : Option (Following V)) → 0 < n → FollowerFits stage n following → is_alone stage ≡ false
follower_leads stage n None some fits = absurd (omega (arith, some, fits.0))
follower_leads stage n (Some f) some fits = base_leads stage f.base fits.1

pub heard_fits : {V : Type 0} (stage : Stage) (n : ℕ) (following : Option (Following V)) (item : Call × Reply) → FollowerFits stage n following → FollowerFits stage n (also_hears following item)
heard_fits stage n None item fits = fits
heard_fits stage n (Some f) item fits = fits

module _ {V : Type 0} (b : Behaviour V) (updates : List Update) where
  hand_fits : (w : World V) (x : Why) → MayEnter b updates w (entry.Mark (mark.Hand x)) → Shaped w → WhyFits w.status.stage x
  hand_fits w why.Promote may shaped = wanted_hands w.status.wanted w.status.stage why.Promote may.2.0 (shaped.wanted may.0.is_open.runs)
  hand_fits w why.Back may shaped = wanted_hands w.status.wanted w.status.stage why.Back may.2.0 (shaped.wanted may.0.is_open.runs)
  hand_fits w (why.Trap t) may shaped = follower_leads w.status.stage w.status.follower w.following may.1 (shaped.follower may.0.is_open.runs)

  stands_fits : (n : ℕ) (lead : V) (following : Option (Following V)) → OfFollower b following (λ f. (s : V) × Reaches b f s) → FollowerFits OldLeads n following → FollowerFits NewLeads n (also_stands lead following)
  stands_fits n lead None ready fits = absurd ready
  stands_fits n lead (Some f) ready fits = (fits.0, tt)

  over_alone : (A : Type 0) (x : How) → Some x ≡ None → A
  over_alone A x bad = absurd (let h : Some x ≡ None = bad in cc)

  -- the log goes on
  still : (w : World V) → w.status.ended ≡ None → w.status.ended ≢ None → IsOver w
  still w runs over = absurd (over runs)

  follower_same : (s t : Stage) (n m : ℕ) (f : Option (Following V)) → t ≡ s → m ≡ n → FollowerFits s n f → FollowerFits t m f
  follower_same s t n m f stage number fits = subst (λ x. FollowerFits x m f) (sym stage) (subst (λ x. FollowerFits s x f) (sym number) fits)

  order_numbered : (w : World V) (text : List ℕ) (r : OrderReply) → MayEnter b updates w (entry.Order text r) → Shaped w → (u : ℕ) → update_wanted (answered w.status r).wanted ≡ Some u → (0 < u) × (u ≡ (answered w.status r).updates)
  order_numbered w text r may shaped u h =
      elim (order_wants w.status updates text r u may.1 h) [
        | inl new ↦ (omega (arith, new.0), new.0 ∙ sym new.1)
        | inr old ↦ ((shaped.numbered u old.0).0, (shaped.numbered u old.0).1 ∙ sym old.1)
      ]

  order_shaped : (w : World V) (text : List ℕ) (r : OrderReply) → MayEnter b updates w (entry.Order text r) → Shaped w → Shaped (after_entry b updates w (entry.Order text r))
  order_shaped w text r may shaped =
      let keeps = order_keeps w.status r in
      let runs = may.0.is_open.runs in
      record {
        follower = λ _. follower_same w.status.stage (answered w.status r).stage w.status.follower (answered w.status r).follower w.following keeps.stage keeps.follower (shaped.follower runs);
        wanted = λ _. subst (λ s. WantedFits s (answered w.status r).wanted) (sym keeps.stage) (answered_fits w.status updates text r may.1 (shaped.wanted runs));
        asked = λ _. subst (λ s. AskedFits s (answered w.status r).asked) (sym keeps.stage) (subst (λ a. AskedFits w.status.stage a) (sym keeps.asked) (shaped.asked runs));
        numbered = order_numbered w text r may shaped;
        over = still (after_entry b updates w (entry.Order text r)) (keeps.ended ∙ runs);
      }

  promote_shaped : (w : World V) → MayEnter b updates w (entry.Mark mark.Promote) → Shaped w → Shaped (after_entry b updates w (entry.Mark mark.Promote))
  promote_shaped w may shaped = record {
    follower = λ _. stands_fits w.status.follower w.lead w.following may.3 (subst (λ s. FollowerFits s w.status.follower w.following) may.1 (shaped.follower may.0));
    wanted = λ _. tt;
    asked = λ _. tt;
    numbered = λ u bad. none_wanted _ u bad;
    over = still (after_entry b updates w (entry.Mark mark.Promote)) may.0;
  }

  pub shaped_once : (w : World V) (e : Entry) → MayEnter b updates w e → Shaped w → Shaped (after_entry b updates w e)
  shaped_once w (entry.Call item) may shaped = record {
    follower = λ h. heard_fits w.status.stage w.status.follower w.following item (shaped.follower h);
    wanted = shaped.wanted;
    asked = shaped.asked;
    numbered = shaped.numbered;
    over = still (after_entry b updates w (entry.Call item)) may.0.is_open.runs;
  }
  shaped_once w entry.Point may shaped = record { follower = shaped.follower; wanted = shaped.wanted; asked = shaped.asked; numbered = shaped.numbered; over = still (after_entry b updates w entry.Point) may.0.is_open.runs }
  shaped_once w (entry.Order text r) may shaped = order_shaped w text r may shaped
  shaped_once w (entry.Mark (mark.Fork u)) may shaped =
      let some = shaped.numbered u (forks_wants w.status.wanted w.status.stage u may.1) in
      record { follower = λ _. (some.0, tt); wanted = λ _. tt; asked = λ _. tt; numbered = λ n bad. none_wanted _ n bad; over = still (after_entry b updates w (entry.Mark (mark.Fork u))) may.0.is_open.runs }
  shaped_once w (entry.Mark (mark.NoCopy u)) may shaped =
      record { follower = shaped.follower; wanted = λ _. tt; asked = λ _. tt; numbered = λ n bad. none_wanted _ n bad; over = still (after_entry b updates w (entry.Mark (mark.NoCopy u))) may.0.is_open.runs }
  shaped_once w (entry.Mark (mark.Hand x)) may shaped =
      record { follower = shaped.follower; wanted = shaped.wanted; asked = λ _. hand_fits w x may shaped; numbered = shaped.numbered; over = still (after_entry b updates w (entry.Mark (mark.Hand x))) may.0.is_open.runs }
  shaped_once w (entry.Mark mark.Promote) may shaped = promote_shaped w may shaped
  shaped_once w (entry.Mark mark.Over) may shaped =
      record { follower = λ _. (refl, refl); wanted = λ _. tt; asked = λ _. tt; numbered = λ n bad. none_wanted _ n bad; over = still (after_entry b updates w (entry.Mark mark.Over)) may.0 }
  shaped_once w (entry.Mark mark.Back) may shaped =
      record { follower = λ _. (refl, refl); wanted = λ _. tt; asked = λ _. tt; numbered = λ n bad. none_wanted _ n bad; over = still (after_entry b updates w (entry.Mark mark.Back)) may.0 }
  shaped_once w (entry.Mark mark.Finish) may shaped =
      record { follower = λ _. (refl, refl); wanted = λ _. tt; asked = λ _. tt; numbered = λ n bad. none_wanted _ n bad; over = still (after_entry b updates w (entry.Mark mark.Finish)) may.0.runs }
  shaped_once w (entry.Mark (mark.Discard x)) may shaped =
      record { follower = λ _. (refl, refl); wanted = λ _. tt; asked = λ _. tt; numbered = λ n bad. none_wanted _ n bad; over = still (after_entry b updates w (entry.Mark (mark.Discard x))) may.0 }
  shaped_once w (entry.Mark (mark.Dropped x)) may shaped =
      record { follower = λ _. (refl, refl); wanted = λ _. tt; asked = λ _. tt; numbered = λ n bad. none_wanted _ n bad; over = still (after_entry b updates w (entry.Mark (mark.Dropped x))) may.0 }
  shaped_once w (entry.Mark (mark.End x)) may shaped = record {
    follower = λ bad. over_alone _ x bad;
    wanted = λ bad. over_alone _ x bad;
    asked = λ bad. over_alone _ x bad;
    numbered = shaped.numbered;
    over = λ _. record { nobody = refl; alone = refl; unasked = refl };
  }

  pub legal_shaped : (w : World V) (es : List Entry) → AreLegal b updates w es → Shaped w → Shaped (after_entries b updates w es)
  legal_shaped w [] legal shaped = shaped
  legal_shaped w (e ∷ es) legal shaped = legal_shaped (after_entry b updates w e) es legal.1 (shaped_once w e legal.0 shaped)

pub first_shaped : {V : Type 0} (first : V) → Shaped (begun first)
first_shaped first = record { follower = λ _. (refl, refl); wanted = λ _. tt; asked = λ _. tt; numbered = λ u bad. none_wanted _ u bad; over = λ bad. absurd (bad refl) }

is_over : (x : How) → Some x ≡ None → ⊥
is_over x bad = let h : Some x ≡ None = bad in cc

over_runs : {V : Type 0} (w : World V) (x : Option How) → w.status.ended ≡ x → Shaped w → 0 < w.status.follower → w.status.ended ≡ None
over_runs w None is shaped alive = is
over_runs w (Some x) is shaped alive = absurd (let none = (shaped.over (λ runs. is_over x (sym is ∙ runs))).nobody in omega (arith, none, alive))

-- a follower is there only while the log goes on
pub follower_runs : {V : Type 0} (w : World V) → Shaped w → 0 < w.status.follower → w.status.ended ≡ None
follower_runs w shaped alive = over_runs w w.status.ended refl shaped alive
