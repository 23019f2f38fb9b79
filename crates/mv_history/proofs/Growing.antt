-- Updates past the last one that was accepted aren't looked at.
use Rattle.std.specs.Prelude.{◌≡◌, ℕ, zero, suc, ◌-◌, ◌≤◌, ◌<◌, Option, Some, None, unwrap_or, List, [], ◌∷◌, ◌++◌, slice_get, length, Result, Ok, Err, refl}
use Rattle.std.proofs.Common.{ap, arith, sym, subst, ◌∙◌, inl, inr}
use Rattle.std.proofs.lemmas.Option.{slice_get_within}
use Rattle.mv_feed.specs.declared.msg.Msg.{Msg}
use Rattle.mv_orders.specs.declared.order.Order.{Order}
use Rattle.mv_orders.specs.declared.order.OrderFault.{OrderFault}
use Rattle.mv_orders.specs.declared.order.OrderFault.TheVariants as faults
use Rattle.mv_orders.specs.declared.reply.OrderReply.{OrderReply}
use Rattle.mv_orders.specs.declared.reply.OrderReply.TheVariants as reply
use Rattle.mv_orders.specs.declared.stage.Word.{Word}
use Rattle.mv_orders.specs.declared.stage.Word.TheVariants as word
use Rattle.mv_version.specs.Behaviour.{Behaviour}
use Rattle.mv_history.specs.Answers.{Answers, IsFilesReply, IsReplyBy, IsReplyTo}
use Rattle.mv_history.specs.Files.{HasFiles}
use Rattle.mv_history.specs.Followers.{Forked}
use Rattle.mv_history.specs.Statuses.{accepted, answered, early_reply, first_status, status_after}
use Rattle.mv_history.specs.Ties.{update_wanted}
use Rattle.mv_history.specs.World.{World, files_of, fork_msg, no_files, after_entry, after_entries, MayEnter, AreLegal, sends, sent}
use Rattle.mv_history.specs.declared.log.Entry.{Entry}
use Rattle.mv_history.specs.declared.log.Entry.TheVariants as entry
use Rattle.mv_history.specs.declared.log.Mark.TheVariants as mark
use Rattle.mv_history.specs.declared.status.Status.{Status}
use Rattle.mv_history.specs.declared.updates.Update.{Update}
use Rattle.mv_history.proofs.OrderLaws.{accepts_update, order_keeps, order_wants}
use Rattle.mv_history.proofs.TiesLaws.{forks_wants}

-- ## Longer lists

get_more : {A : Type 0} (xs ys : List A) (i : ℕ) → i < length xs → slice_get (xs ++ ys) i ≡ slice_get xs i
get_more [] ys i h = absurd (omega (arith, h))
get_more (x ∷ xs) ys zero h = refl
get_more (x ∷ xs) ys (suc i) h = get_more xs ys i (omega (arith, h))

get_some : {A : Type 0} (xs ys : List A) (i : ℕ) (x : A) → slice_get xs i ≡ Some x → slice_get (xs ++ ys) i ≡ Some x
get_some xs ys i x is = get_more xs ys i (slice_get_within xs i x is) ∙ is

get_there : {A : Type 0} (xs : List A) (i : ℕ) (d : A) → i < length xs → slice_get xs i ≡ Some (unwrap_or (slice_get xs i) d)
get_there [] i d h = absurd (omega (arith, h))
get_there (x ∷ xs) zero d h = refl
get_there (x ∷ xs) (suc i) d h = get_there xs i d (omega (arith, h))

-- ## The log has the files of its updates

pub first_files : (us : List Update) → HasFiles 0 us first_status
first_files us = record { count = refl; held = omega arith; wanted = λ u bad. absurd (let h : None ≡ Some u = bad in cc) }

accepted_held : (us : List Update) (st : Status) (text : List ℕ) (w : Word) (n : ℕ) → Answers st us text (reply.Accepted w n) → st.fresh ≤ length us → (accepted st w n).fresh ≤ length us
accepted_held us st text word.Update n answers held =
    let a = accepts_update st us text n answers in let h = slice_get_within us st.fresh a.files a.held in omega (arith, h)
accepted_held us st text word.Promote n answers held = held
accepted_held us st text word.Discard n answers held = held
accepted_held us st text word.Finish n answers held = held
accepted_held us st text word.Back n answers held = held
accepted_held us st text word.Halt n answers held = held

answered_held : (us : List Update) (st : Status) (text : List ℕ) (r : OrderReply) → Answers st us text r → st.fresh ≤ length us → (answered st r).fresh ≤ length us
answered_held us st text (reply.Accepted w n) answers held = accepted_held us st text w n answers held
answered_held us st text (reply.Told stage n last) answers held = held
answered_held us st text reply.Long answers held = held
answered_held us st text reply.Utf8 answers held = held
answered_held us st text (reply.Unknown line) answers held = held
answered_held us st text (reply.Stage stage) answers held = held
answered_held us st text (reply.Busy n) answers held = held
answered_held us st text reply.Many answers held = held
answered_held us st text (reply.Missing path) answers held = held
answered_held us st text (reply.Failed path) answers held = held

answered_files : (past : ℕ) (us : List Update) (st : Status) (text : List ℕ) (r : OrderReply) → Answers st us text r → HasFiles past us st → HasFiles past us (answered st r)
answered_files past us st text r answers has =
    let rises = (order_keeps st r).rises in
    let count = has.count in
    record {
      count = omega (arith, rises, count);
      held = answered_held us st text r answers has.held;
      wanted = λ u is. elim (order_wants st us text r u answers is) [
        | inl new ↦ (let h = new.1 in let e = new.0 in (omega (arith, h, e), omega (arith, rises, h)))
        | inr old ↦ (let h = has.wanted u old.0 in let same = old.1 in let e = h.0 in let some = h.1 in (omega (arith, e, same), omega (arith, rises, some, same)))
      ];
    }

none_wanted : (A : Type 0) (u : ℕ) → None ≡ Some u → A
none_wanted A u bad = absurd (let h : None ≡ Some u = bad in cc)

module _ {V : Type 0} (b : Behaviour V) (past : ℕ) (us : List Update) where
  files_once : (w : World V) (e : Entry) → MayEnter b us w e → HasFiles past us w.status → HasFiles past us (status_after w.status e)
  files_once w (entry.Call item) may has = record { count = has.count; held = has.held; wanted = has.wanted }
  files_once w entry.Point may has = record { count = has.count; held = has.held; wanted = has.wanted }
  files_once w (entry.Order text r) may has = let all = answered_files past us w.status text r may.1 has in record { count = all.count; held = all.held; wanted = all.wanted }
  files_once w (entry.Mark (mark.Fork u)) may has = record { count = has.count; held = has.held; wanted = λ n bad. none_wanted _ n bad }
  files_once w (entry.Mark (mark.NoCopy u)) may has = record { count = has.count; held = has.held; wanted = λ n bad. none_wanted _ n bad }
  files_once w (entry.Mark (mark.Hand x)) may has = record { count = has.count; held = has.held; wanted = has.wanted }
  files_once w (entry.Mark mark.Promote) may has = record { count = has.count; held = has.held; wanted = λ n bad. none_wanted _ n bad }
  files_once w (entry.Mark mark.Over) may has = record { count = has.count; held = has.held; wanted = λ n bad. none_wanted _ n bad }
  files_once w (entry.Mark mark.Back) may has = record { count = has.count; held = has.held; wanted = λ n bad. none_wanted _ n bad }
  files_once w (entry.Mark mark.Finish) may has = record { count = has.count; held = has.held; wanted = λ n bad. none_wanted _ n bad }
  files_once w (entry.Mark (mark.Discard x)) may has = record { count = has.count; held = has.held; wanted = λ n bad. none_wanted _ n bad }
  files_once w (entry.Mark (mark.Dropped x)) may has = record { count = has.count; held = has.held; wanted = λ n bad. none_wanted _ n bad }
  files_once w (entry.Mark (mark.End x)) may has = record { count = has.count; held = has.held; wanted = has.wanted }

  -- a log keeps the files of its updates
  pub files_all : (w : World V) (es : List Entry) → AreLegal b us w es → HasFiles past us w.status → HasFiles past us (after_entries b us w es).status
  files_all w [] legal has = has
  files_all w (e ∷ es) legal has = files_all (after_entry b us w e) es legal.1 (files_once w e legal.0 has)

  -- the update of a copy is the last one that was accepted, and the log has its files
  pub fork_is_last : (w : World V) (u : ℕ) → MayEnter b us w (entry.Mark (mark.Fork u)) → HasFiles past us w.status → (u ≡ w.status.updates) × (0 < w.status.fresh) × (slice_get us (w.status.fresh - 1) ≡ Some (files_of us w.status u))
  fork_is_last w u may has =
      let wants = has.wanted u (forks_wants w.status.wanted w.status.stage u may.1) in
      let e = wants.0 in let some = wants.1 in let count = has.count in let held = has.held in
      let at : w.status.fresh - 1 ≡ u - 1 - (w.status.updates - w.status.fresh) = omega (arith, e, some, count) in
      (e, some, ap (slice_get us) at ∙ get_there us (u - 1 - (w.status.updates - w.status.fresh)) no_files (omega (arith, e, some, count, held)))

-- ## More updates change nothing

files_more : (past : ℕ) (us more : List Update) (st : Status) (u : ℕ) → HasFiles past us st → update_wanted st.wanted ≡ Some u → files_of (us ++ more) st u ≡ files_of us st u
files_more past us more st u has is =
    let wants = has.wanted u is in
    let e = wants.0 in let some = wants.1 in let count = has.count in let held = has.held in
    ap (λ o. unwrap_or o no_files) (get_more us more (u - 1 - (st.updates - st.fresh)) (omega (arith, e, some, count, held)))

files_reply_more : (st : Status) (us more : List Update) (o : Order) (r : OrderReply) → IsFilesReply st us o r → IsFilesReply st (us ++ more) o r
files_reply_more st us more o (reply.Accepted word.Update n) h = (h.0, (h.1.0, get_some us more st.fresh h.1.0 h.1.1, h.1.2))
files_reply_more st us more o (reply.Accepted word.Promote n) h = h
files_reply_more st us more o (reply.Accepted word.Discard n) h = h
files_reply_more st us more o (reply.Accepted word.Finish n) h = h
files_reply_more st us more o (reply.Accepted word.Back n) h = h
files_reply_more st us more o (reply.Accepted word.Halt n) h = h
files_reply_more st us more o (reply.Told stage n last) h = h
files_reply_more st us more o reply.Long h = h
files_reply_more st us more o reply.Utf8 h = h
files_reply_more st us more o (reply.Unknown line) h = h
files_reply_more st us more o (reply.Stage stage) h = h
files_reply_more st us more o (reply.Busy n) h = h
files_reply_more st us more o reply.Many h = h
files_reply_more st us more o (reply.Missing path) h = h
files_reply_more st us more o (reply.Failed path) h = h

reply_more : (st : Status) (us more : List Update) (o : Order) (r : OrderReply) (early : Option OrderReply) → IsReplyBy early st us o r → IsReplyBy early st (us ++ more) o r
reply_more st us more o r None h = files_reply_more st us more o r h
reply_more st us more o r (Some x) h = h

reading_more : (st : Status) (us more : List Update) (text : List ℕ) (reading : Result Order OrderFault) (r : OrderReply) → IsReplyTo st us text reading r → IsReplyTo st (us ++ more) text reading r
reading_more st us more text (Err faults.Long) r h = h
reading_more st us more text (Err faults.Utf8) r h = h
reading_more st us more text (Err faults.Unknown) r h = h
reading_more st us more text (Ok o) r h = reply_more st us more o r (early_reply st o) h

answers_more : (st : Status) (us more : List Update) (text : List ℕ) (r : OrderReply) → Answers st us text r → Answers st (us ++ more) text r
answers_more st us more text r h = (h.0, h.1, reading_more st us more text h.0 r h.2)

module _ {V : Type 0} (b : Behaviour V) (past : ℕ) (us more : List Update) where
  record SameFrom (w : World V) (e : Entry) : Type 0 where
    pub next : after_entry b (us ++ more) w e ≡ after_entry b us w e
    pub sends_is : sends (us ++ more) w e ≡ sends us w e
    pub may : MayEnter b (us ++ more) w e

  same_once : (w : World V) (e : Entry) → MayEnter b us w e → HasFiles past us w.status → SameFrom w e
  same_once w (entry.Call item) may has = record { next = refl; sends_is = refl; may = may }
  same_once w entry.Point may has = record { next = refl; sends_is = refl; may = may }
  same_once w (entry.Order text r) may has = record { next = refl; sends_is = refl; may = (may.0, answers_more w.status us more text r may.1) }
  same_once w (entry.Mark (mark.Fork u)) may has =
      let e = files_more past us more w.status u has (forks_wants w.status.wanted w.status.stage u may.1) in
      record {
        next = ap (λ (f : Update). let v : World V = record { lead = w.lead; following = Some (record { files = f; base = Forked w.lead; heard = [] }); status = (after_entry b us w (entry.Mark (mark.Fork u))).status } in v) e;
        sends_is = ap (λ (f : Update). let l : List (Msg V) = fork_msg u w.lead f ∷ [] in l) e;
        may = may;
      }
  same_once w (entry.Mark (mark.NoCopy u)) may has = record { next = refl; sends_is = refl; may = may }
  same_once w (entry.Mark (mark.Hand x)) may has = record { next = refl; sends_is = refl; may = may }
  same_once w (entry.Mark mark.Promote) may has = record { next = refl; sends_is = refl; may = may }
  same_once w (entry.Mark mark.Over) may has = record { next = refl; sends_is = refl; may = may }
  same_once w (entry.Mark mark.Back) may has = record { next = refl; sends_is = refl; may = may }
  same_once w (entry.Mark mark.Finish) may has = record { next = refl; sends_is = refl; may = may }
  same_once w (entry.Mark (mark.Discard x)) may has = record { next = refl; sends_is = refl; may = may }
  same_once w (entry.Mark (mark.Dropped x)) may has = record { next = refl; sends_is = refl; may = may }
  same_once w (entry.Mark (mark.End x)) may has = record { next = refl; sends_is = refl; may = may }

  -- the log is legal with more updates, and leads to the same world by the same messages
  pub record SameWith (w : World V) (es : List Entry) : Type 0 where
    pub legal : AreLegal b (us ++ more) w es
    pub world_is : after_entries b (us ++ more) w es ≡ after_entries b us w es
    pub sent_is : sent b (us ++ more) w es ≡ sent b us w es

  pub same_all : (w : World V) (es : List Entry) → AreLegal b us w es → HasFiles past us w.status → SameWith w es
  same_all w [] legal has = record { legal = tt; world_is = refl; sent_is = refl }
  same_all w (e ∷ es) legal has =
      let one = same_once w e legal.0 has in
      let rest = same_all (after_entry b us w e) es legal.1 (files_once b past us w e legal.0 has) in
      record {
        legal = (one.may, subst (λ v. AreLegal b (us ++ more) v es) (sym one.next) rest.legal);
        world_is = ap (λ v. after_entries b (us ++ more) v es) one.next ∙ rest.world_is;
        sent_is = ap (λ l. l ++ sent b (us ++ more) (after_entry b (us ++ more) w e) es) one.sends_is ∙ ap (λ v. sends us w e ++ sent b (us ++ more) v es) one.next ∙ ap (λ l. sends us w e ++ l) rest.sent_is;
      }
