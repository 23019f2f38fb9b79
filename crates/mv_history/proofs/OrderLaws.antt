-- What an answered order changes.
use Rattle.std.specs.Prelude.{◌≡◌, ◌≢◌, ℕ, ◌+◌, ◌≤◌, ◌<◌, ◌⊎◌, nat_lt, slice_get, Bool, true, false, cond, Option, Some, None, List, refl, Result, Ok, Err}
use Rattle.std.proofs.Common.{ap, arith, sym, subst, ◌∙◌, inl, inr}
use Rattle.std.proofs.lemmas.Bool.Decides.{nat_tests}
use Rattle.mv_orders.specs.declared.order.Order.{Order}
use Rattle.mv_orders.specs.declared.order.Order.TheVariants as order
use Rattle.mv_orders.specs.declared.order.OrderFault.{OrderFault}
use Rattle.mv_orders.specs.declared.order.OrderFault.TheVariants as faults
use Rattle.mv_orders.specs.declared.reply.OrderReply.{OrderReply}
use Rattle.mv_orders.specs.declared.reply.OrderReply.TheVariants as reply
use Rattle.mv_orders.specs.declared.stage.Stage.{Stage}
use Rattle.mv_orders.specs.declared.stage.Word.{Word}
use Rattle.mv_orders.specs.declared.stage.Word.TheVariants as word
use Rattle.mv_history.specs.Answers.{Answers, IsReplyTo, IsReplyBy}
use Rattle.mv_history.specs.Statuses.{accepted, answered, early_reply, update_refusal, only_in, busy_by, busy_word, many_by, or_else, is_alone, is_old_leads, is_new_leads, update_limit}
use Rattle.mv_history.specs.Ties.{update_by, update_wanted}
use Rattle.mv_history.specs.declared.status.Status.{Status}
use Rattle.mv_history.specs.declared.status.Wanted.{Wanted}
use Rattle.mv_history.specs.declared.updates.Update.{Update}

-- what no order changes
pub record OrderKeeps (st after : Status) : Type 0 where
  pub stage : after.stage ≡ st.stage
  pub follower : after.follower ≡ st.follower
  pub asked : after.asked ≡ st.asked
  pub ended : after.ended ≡ st.ended
  pub last : after.last ≡ st.last
  pub updates : st.updates ≤ after.updates
  pub rises : after.updates + st.fresh ≡ st.updates + after.fresh

same_rest : (st : Status) → OrderKeeps st st
same_rest st = record { stage = refl; follower = refl; asked = refl; ended = refl; last = refl; updates = omega arith; rises = omega arith }

accepted_keeps : (st : Status) (w : Word) (n : ℕ) → OrderKeeps st (accepted st w n)
accepted_keeps st word.Update n = record { stage = refl; follower = refl; asked = refl; ended = refl; last = refl; updates = omega arith; rises = omega arith }
accepted_keeps st word.Promote n = record { stage = refl; follower = refl; asked = refl; ended = refl; last = refl; updates = omega arith; rises = omega arith }
accepted_keeps st word.Discard n = record { stage = refl; follower = refl; asked = refl; ended = refl; last = refl; updates = omega arith; rises = omega arith }
accepted_keeps st word.Finish n = record { stage = refl; follower = refl; asked = refl; ended = refl; last = refl; updates = omega arith; rises = omega arith }
accepted_keeps st word.Back n = record { stage = refl; follower = refl; asked = refl; ended = refl; last = refl; updates = omega arith; rises = omega arith }
accepted_keeps st word.Halt n = record { stage = refl; follower = refl; asked = refl; ended = refl; last = refl; updates = omega arith; rises = omega arith }

pub order_keeps : (st : Status) (r : OrderReply) → OrderKeeps st (answered st r)
order_keeps st (reply.Accepted w n) = accepted_keeps st w n
order_keeps st (reply.Told stage n last) = same_rest st
order_keeps st reply.Long = same_rest st
order_keeps st reply.Utf8 = same_rest st
order_keeps st (reply.Unknown text) = same_rest st
order_keeps st (reply.Stage stage) = same_rest st
order_keeps st (reply.Busy n) = same_rest st
order_keeps st reply.Many = same_rest st
order_keeps st (reply.Missing path) = same_rest st
order_keeps st (reply.Failed path) = same_rest st

-- ## An accepted update

-- no order is accepted by this reply
abbrev pub IsRefusal : OrderReply → Type 0
IsRefusal (reply.Accepted w n) = ⊥
IsRefusal r = Unit {0}

abbrev pub OfSome : Option OrderReply → Type 0
OfSome None = Unit {0}
OfSome (Some r) = IsRefusal r

busy_refuses : (w : Word) (n : ℕ) → OfSome (busy_word w n)
busy_refuses word.Update n = tt
busy_refuses word.Promote n = tt
busy_refuses word.Discard n = tt
busy_refuses word.Finish n = tt
busy_refuses word.Back n = tt
busy_refuses word.Halt n = tt

wanted_refuses : (wanted : Option Wanted) → OfSome (busy_by wanted)
wanted_refuses None = tt
wanted_refuses (Some wanted) = busy_refuses wanted.word wanted.update

many_refuses : (few : Bool) → OfSome (cond few None (Some reply.Many))
many_refuses true = tt
many_refuses false = tt

else_refuses : (a b : Option OrderReply) → OfSome a → OfSome b → OfSome (or_else a b)
else_refuses None b first second = second
else_refuses (Some r) b first second = first

stage_refuses : (alone : Bool) (o : Option OrderReply) (stage : Stage) → OfSome o → OfSome (cond alone o (Some (reply.Stage stage)))
stage_refuses true o stage h = h
stage_refuses false o stage h = tt

pub refuses : (st : Status) → OfSome (update_refusal st)
refuses st =
    stage_refuses (is_alone st.stage) (or_else (busy_by st.wanted) (many_by st.fresh)) st.stage
    (else_refuses (busy_by st.wanted) (many_by st.fresh) (wanted_refuses st.wanted) (many_refuses (nat_lt st.fresh update_limit)))

-- where an update isn't refused, one version is alone, no update is wanted, and few were accepted
pub record GoesToFiles (st : Status) : Type 0 where
  pub alone : is_alone st.stage ≡ true
  pub unwanted : update_wanted st.wanted ≡ None
  pub few : st.fresh < update_limit

goes_by : (alone : Bool) (busy many : Option OrderReply) (r : OrderReply) → cond alone (or_else busy many) (Some r) ≡ None → (alone ≡ true) × (busy ≡ None) × (many ≡ None)
goes_by true None None r h = (refl, refl, refl)
goes_by true None (Some x) r h = absurd (let bad : Some x ≡ None = h in cc)
goes_by true (Some x) many r h = absurd (let bad : Some x ≡ None = h in cc)
goes_by false busy many r h = absurd (let bad : Some r ≡ None = h in cc)

word_unwanted : (w : Word) (n : ℕ) → busy_word w n ≡ None → update_by w n ≡ None
word_unwanted word.Update n h = absurd (let bad : Some (reply.Busy n) ≡ None = h in cc)
word_unwanted word.Promote n h = refl
word_unwanted word.Discard n h = refl
word_unwanted word.Finish n h = refl
word_unwanted word.Back n h = refl
word_unwanted word.Halt n h = refl

not_wanted : (wanted : Option Wanted) → busy_by wanted ≡ None → update_wanted wanted ≡ None
not_wanted None h = refl
not_wanted (Some wanted) h = word_unwanted wanted.word wanted.update h

few_by : (fresh : ℕ) (few : Bool) → nat_lt fresh update_limit ≡ few → cond few None (Some reply.Many) ≡ None → fresh < update_limit
few_by fresh true is h = grind (arith, nat_tests, is)
few_by fresh false is h = absurd (let bad : Some reply.Many ≡ None = h in cc)

pub goes_on : (st : Status) → update_refusal st ≡ None → GoesToFiles st
goes_on st h =
    let t = goes_by (is_alone st.stage) (busy_by st.wanted) (many_by st.fresh) (reply.Stage st.stage) h in
    record { alone = t.0; unwanted = not_wanted st.wanted t.1; few = few_by st.fresh (nat_lt st.fresh update_limit) refl t.2 }

-- an update that is accepted
pub record AcceptsUpdate (st : Status) (updates : List Update) (n : ℕ) : Type 0 where
  pub number : n ≡ st.updates + 1
  pub goes : GoesToFiles st
  pub files : Update
  pub held : slice_get updates st.fresh ≡ Some files

not_other : (here : Bool) (w : Word) (stage : Stage) (n : ℕ) → w ≢ word.Update → reply.Accepted word.Update n ≡ only_in here w stage → ⊥
not_other true w stage n other h = other (let e : reply.Accepted word.Update n ≡ reply.Accepted w 0 = h in cc)
not_other false w stage n other h = let e : reply.Accepted word.Update n ≡ reply.Stage stage = h in cc

by_files : (st : Status) (updates : List Update) (o : Order) (early : Option OrderReply) (n : ℕ) → OfSome early → (early ≡ None → GoesToFiles st) → IsReplyBy early st updates o (reply.Accepted word.Update n) → AcceptsUpdate st updates n
by_files st updates o None n refusal goes h = record { number = h.0; goes = goes refl; files = h.1.0; held = h.1.1 }
by_files st updates o (Some r) n refusal goes h = absurd (subst OfSome (ap Some (sym h)) refusal)

by_order : (st : Status) (updates : List Update) (o : Order) (n : ℕ) → IsReplyBy (early_reply st o) st updates o (reply.Accepted word.Update n) → AcceptsUpdate st updates n
by_order st updates (order.Update m f r) n h = by_files st updates (order.Update m f r) (update_refusal st) n (refuses st) (goes_on st) h
by_order st updates order.Promote n h = absurd (not_other (is_old_leads st.stage) word.Promote st.stage n (λ e. cc) h)
by_order st updates order.Discard n h = absurd (not_other (is_old_leads st.stage) word.Discard st.stage n (λ e. cc) h)
by_order st updates order.Finish n h = absurd (not_other (is_new_leads st.stage) word.Finish st.stage n (λ e. cc) h)
by_order st updates order.Back n h = absurd (not_other (is_new_leads st.stage) word.Back st.stage n (λ e. cc) h)
by_order st updates order.Halt n h = absurd (let e : reply.Accepted word.Update n ≡ reply.Accepted word.Halt 0 = h in cc)
by_order st updates order.Status n h = absurd (let e : reply.Accepted word.Update n ≡ reply.Told st.stage st.follower st.last = h in cc)

by_reading : (st : Status) (updates : List Update) (text : List ℕ) (reading : Result Order OrderFault) (n : ℕ) → IsReplyTo st updates text reading (reply.Accepted word.Update n) → AcceptsUpdate st updates n
by_reading st updates text (Err faults.Long) n h = absurd (let e : reply.Accepted word.Update n ≡ reply.Long = h in cc)
by_reading st updates text (Err faults.Utf8) n h = absurd (let e : reply.Accepted word.Update n ≡ reply.Utf8 = h in cc)
by_reading st updates text (Err faults.Unknown) n h = absurd (let e : reply.Accepted word.Update n ≡ reply.Unknown text = h in cc)
by_reading st updates text (Ok o) n h = by_order st updates o n h

pub accepts_update : (st : Status) (updates : List Update) (text : List ℕ) (n : ℕ) → Answers st updates text (reply.Accepted word.Update n) → AcceptsUpdate st updates n
accepts_update st updates text n answers = by_reading st updates text answers.0 n answers.2

-- the update that is wanted after an order: the one that was accepted, or the one that was wanted
word_wants : (st : Status) (updates : List Update) (text : List ℕ) (w : Word) (n u : ℕ) → Answers st updates text (reply.Accepted w n) → update_wanted (accepted st w n).wanted ≡ Some u
    → (u ≡ st.updates + 1) × ((accepted st w n).updates ≡ st.updates + 1)
word_wants st updates text word.Update n u answers h =
    let a = accepts_update st updates text n answers in
    let e : n ≡ u = (let e : Some n ≡ Some u = h in cc) in
    (sym e ∙ a.number, refl)
word_wants st updates text word.Promote n u answers h = absurd (let bad : None ≡ Some u = h in cc)
word_wants st updates text word.Discard n u answers h = absurd (let bad : None ≡ Some u = h in cc)
word_wants st updates text word.Finish n u answers h = absurd (let bad : None ≡ Some u = h in cc)
word_wants st updates text word.Back n u answers h = absurd (let bad : None ≡ Some u = h in cc)
word_wants st updates text word.Halt n u answers h = absurd (let bad : None ≡ Some u = h in cc)

abbrev pub WantsAfter : Status → Status → ℕ → Type 0
WantsAfter st after u = ((u ≡ st.updates + 1) × (after.updates ≡ st.updates + 1)) ⊎ ((update_wanted st.wanted ≡ Some u) × (after.updates ≡ st.updates))

pub order_wants : (st : Status) (updates : List Update) (text : List ℕ) (r : OrderReply) (u : ℕ) → Answers st updates text r → update_wanted (answered st r).wanted ≡ Some u → WantsAfter st (answered st r) u
order_wants st updates text (reply.Accepted w n) u answers h = inl (word_wants st updates text w n u answers h)
order_wants st updates text (reply.Told stage n last) u answers h = inr (h, refl)
order_wants st updates text reply.Long u answers h = inr (h, refl)
order_wants st updates text reply.Utf8 u answers h = inr (h, refl)
order_wants st updates text (reply.Unknown line) u answers h = inr (h, refl)
order_wants st updates text (reply.Stage stage) u answers h = inr (h, refl)
order_wants st updates text (reply.Busy n) u answers h = inr (h, refl)
order_wants st updates text reply.Many u answers h = inr (h, refl)
order_wants st updates text (reply.Missing path) u answers h = inr (h, refl)
order_wants st updates text (reply.Failed path) u answers h = inr (h, refl)

-- as many updates as the limit says, and no more
word_few : (st : Status) (updates : List Update) (text : List ℕ) (w : Word) (n : ℕ) → Answers st updates text (reply.Accepted w n) → st.fresh ≤ update_limit → (accepted st w n).fresh ≤ update_limit
word_few st updates text word.Update n answers h = let a = accepts_update st updates text n answers in omega (arith, a.goes.few)
word_few st updates text word.Promote n answers h = h
word_few st updates text word.Discard n answers h = h
word_few st updates text word.Finish n answers h = h
word_few st updates text word.Back n answers h = h
word_few st updates text word.Halt n answers h = h

pub order_few : (st : Status) (updates : List Update) (text : List ℕ) (r : OrderReply) → Answers st updates text r → st.fresh ≤ update_limit → (answered st r).fresh ≤ update_limit
order_few st updates text (reply.Accepted w n) answers h = word_few st updates text w n answers h
order_few st updates text (reply.Told stage n last) answers h = h
order_few st updates text reply.Long answers h = h
order_few st updates text reply.Utf8 answers h = h
order_few st updates text (reply.Unknown line) answers h = h
order_few st updates text (reply.Stage stage) answers h = h
order_few st updates text (reply.Busy n) answers h = h
order_few st updates text reply.Many answers h = h
order_few st updates text (reply.Missing path) answers h = h
order_few st updates text (reply.Failed path) answers h = h
