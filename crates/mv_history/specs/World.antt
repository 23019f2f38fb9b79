-- What a log leads to, and which logs are legal.
use Rattle.std.specs.Prelude.{◌≡◌, ◌⊎◌, ℕ, zero, suc, ◌-◌, ◌<◌, Bool, true, false, Option, Some, None, is_some, unwrap_or, length, List, [], ◌∷◌, ◌++◌, slice_get}
use Rattle.mv_calls.specs.declared.calls.Call.{Call}
use Rattle.mv_calls.specs.declared.calls.Reply.{Reply}
use Rattle.mv_feed.specs.declared.msg.Msg.{Msg}
use Rattle.mv_feed.specs.declared.msg.Msg.TheVariants as msg
use Rattle.mv_orders.specs.Reply.{reply_text}
use Rattle.mv_orders.specs.declared.stage.Stage.TheVariants.{OldLeads, NewLeads}
use Rattle.mv_version.specs.Behaviour.{Behaviour}
use Rattle.mv_version.specs.declared.event.Event.TheVariants as event
use Rattle.mv_history.specs.Answers.{Answers}
use Rattle.mv_history.specs.Followers.{Forked, Standing, Following, hears, replayed, Reaches, FollowerShows, is_forked}
use Rattle.mv_history.specs.Replay.{Replayed, Stands, Fails, Unborn}
use Rattle.mv_history.specs.Statuses.{status_after, first_status, point_leads, urgent_of, is_within, is_alone}
use Rattle.mv_history.specs.declared.log.Cause.{Cause}
use Rattle.mv_history.specs.declared.log.Cause.TheVariants as cause
use Rattle.mv_history.specs.declared.log.Entry.{Entry}
use Rattle.mv_history.specs.declared.log.Entry.TheVariants as entry
use Rattle.mv_history.specs.declared.log.How.{How}
use Rattle.mv_history.specs.declared.log.How.TheVariants as how
use Rattle.mv_history.specs.declared.log.Mark.{Mark}
use Rattle.mv_history.specs.declared.log.Mark.TheVariants as mark
use Rattle.mv_history.specs.declared.log.Why.{Why}
use Rattle.mv_history.specs.declared.log.Why.TheVariants as why
use Rattle.mv_history.specs.declared.status.AtPoint.TheVariants as at
use Rattle.mv_history.specs.declared.status.Status.{Status}
use Rattle.mv_history.specs.declared.status.Urgent.TheVariants as urgent
use Rattle.mv_history.specs.declared.updates.Update.{Update}

-- ## Worlds

pub record World (V : Type 0) : Type 0 where
  -- the leader's state
  pub lead : V
  pub following : Option (Following V)
  pub status : Status

-- the world of a run without an entry
abbrev pub begun : {V : Type 0} → V → World V
begun lead = record { lead = lead; following = None; status = first_status }

abbrev pub no_files : Update
no_files = record { «module» = []; forward = []; reverse = [] }

-- the files of an update, by its number; the log has those that were accepted since its base
abbrev pub files_of : List Update → Status → ℕ → Update
files_of updates st u = unwrap_or (slice_get updates (u - 1 - (st.updates - st.fresh))) no_files

abbrev pub fork : {V : Type 0} → List Update → World V → ℕ → Following V
fork updates w u = record { files = files_of updates w.status u; base = Forked w.lead; heard = [] }

-- the old leader follows as it stands, by the files of the same update
abbrev pub stand : {V : Type 0} → V → Following V → Following V
stand lead f = record { files = f.files; base = Standing lead; heard = [] }

abbrev pub also_hears : {V : Type 0} → Option (Following V) → Call × Reply → Option (Following V)
also_hears None item = None
also_hears (Some f) item = Some (hears f item)

abbrev pub also_stands : {V : Type 0} → V → Option (Following V) → Option (Following V)
also_stands lead None = None
also_stands lead (Some f) = Some (stand lead f)

abbrev pub stood_or : {V : Type 0} → V → Replayed V → V
stood_or lead (Stands s) = s
stood_or lead (Fails k want met) = lead
stood_or lead (Unborn fault) = lead

-- a hand-over is asked
abbrev pub is_asked : Status → Bool
is_asked st = is_some st.asked

-- ## What an entry leads to, whether or not it may come

module _ {V : Type 0} (b : Behaviour V) where
  -- the state that the follower reached
  abbrev pub reached_or : V → Option (Following V) → V
  reached_or lead None = lead
  reached_or lead (Some f) = stood_or lead (replayed b true f)

  abbrev pub lead_marked : World V → Mark → V
  lead_marked w mark.Promote = reached_or w.lead w.following
  lead_marked w mark.Over = reached_or w.lead w.following
  lead_marked w mark.Back = reached_or w.lead w.following
  lead_marked w m = w.lead

  abbrev pub lead_after : World V → Entry → V
  lead_after w (entry.Call item) = b.after w.lead item.1
  lead_after w entry.Point = b.passed w.lead
  lead_after w (entry.Order text answer) = w.lead
  lead_after w (entry.Mark m) = lead_marked w m

  abbrev pub following_marked : List Update → World V → Mark → Option (Following V)
  following_marked updates w (mark.Fork u) = Some (fork updates w u)
  following_marked updates w (mark.NoCopy u) = w.following
  following_marked updates w (mark.Hand x) = w.following
  following_marked updates w mark.Promote = also_stands w.lead w.following
  following_marked updates w m = None

  abbrev pub following_after : List Update → World V → Entry → Option (Following V)
  following_after updates w (entry.Call item) = also_hears w.following item
  following_after updates w entry.Point = w.following
  following_after updates w (entry.Order text answer) = w.following
  following_after updates w (entry.Mark m) = following_marked updates w m

  -- the world after an entry
  abbrev pub after_entry : List Update → World V → Entry → World V
  after_entry updates w e = record { lead = lead_after w e; following = following_after updates w e; status = status_after w.status e }

-- ## Where an entry may come

-- not ended, nothing asked, and within the log's limits
pub record IsOpen (st : Status) : Type 0 where
  pub runs : st.ended ≡ None
  pub unasked : st.asked ≡ None
  pub within : is_within st ≡ true

-- open, and nothing is wanted at once
pub record IsFree (st : Status) : Type 0 where
  pub is_open : IsOpen st
  pub calm : urgent_of st ≡ urgent.Nothing

-- the hand-over is asked for this reason
abbrev pub AsksFor : Status → Why → Type 0
AsksFor st x = (n : ℕ) × (st.asked ≡ Some (record { why = x; n = n }))

abbrev pub AsksForTrap : Status → Type 0
AsksForTrap st = (t : _) × AsksFor st (why.Trap t)

module _ {V : Type 0} (b : Behaviour V) where
  -- the world's follower is one of which P holds
  abbrev pub OfFollower : Option (Following V) → (Following V → Type 0) → Type 0
  OfFollower None P = ⊥
  OfFollower (Some f) P = P f

  -- the cause is shown
  abbrev pub Shows : World V → Cause → Type 0
  Shows w (cause.Order n) = OfFollower w.following (λ f. is_forked f.base) × (urgent_of w.status ≡ urgent.Discard n)
  Shows w c = OfFollower w.following (λ f. FollowerShows b (is_asked w.status) f c)

  -- the follower reached a state in which it may lead
  abbrev pub IsReady : World V → Type 0
  IsReady w = OfFollower w.following (λ f. (s : V) × Reaches b f s)

  abbrev pub MayEnd : World V → How → Type 0
  MayEnd w (how.Ended code) = IsFree w.status × (b.go w.lead ≡ event.Ends code)
  MayEnd w (how.Trapped trap) = IsFree w.status × (is_alone w.status.stage ≡ true) × (b.go w.lead ≡ event.Traps trap)
  MayEnd w how.Halted = IsOpen w.status × (urgent_of w.status ≡ urgent.Halt)
  MayEnd w how.KernelFault = IsFree w.status × ((c : _) × (b.go w.lead ≡ event.Calls c))
  MayEnd w how.LogLimit = (w.status.ended ≡ None) × (w.status.asked ≡ None) × (is_within w.status ≡ false)
  MayEnd w how.Memory = w.status.ended ≡ None
  MayEnd w how.Cut = w.status.ended ≡ None

  abbrev pub MayHand : World V → Why → Type 0
  MayHand w (why.Trap trap) = b.go w.lead ≡ event.Traps trap
  MayHand w x = (point_leads w.status ≡ at.Hands x) × (b.go w.lead ≡ event.Point)

  -- a copy for this update is wanted here
  abbrev pub MayFork : World V → ℕ → Type 0
  MayFork w u = IsFree w.status × (point_leads w.status ≡ at.Forks u) × (b.go w.lead ≡ event.Point)

  abbrev pub MayMark : World V → Mark → Type 0
  MayMark w (mark.Fork u) = MayFork w u
  MayMark w (mark.NoCopy u) = MayFork w u
  MayMark w (mark.Hand x) = IsFree w.status × (0 < w.status.follower) × MayHand w x
  MayMark w mark.Promote = (w.status.ended ≡ None) × (w.status.stage ≡ OldLeads) × AsksFor w.status why.Promote × IsReady w
  MayMark w mark.Over = (w.status.ended ≡ None) × (w.status.stage ≡ OldLeads) × AsksForTrap w.status × IsReady w
  MayMark w mark.Back = (w.status.ended ≡ None) × (w.status.stage ≡ NewLeads) × (AsksFor w.status why.Back ⊎ AsksForTrap w.status) × IsReady w
  MayMark w mark.Finish = IsOpen w.status × (w.status.stage ≡ NewLeads) × (urgent_of w.status ≡ urgent.Finish)
  MayMark w (mark.Discard x) = (w.status.ended ≡ None) × (w.status.stage ≡ OldLeads) × Shows w x
  MayMark w (mark.Dropped x) = (w.status.ended ≡ None) × (w.status.stage ≡ NewLeads) × Shows w x
  MayMark w (mark.End x) = MayEnd w x

  -- the entry may come, in the log with these updates
  abbrev pub MayEnter : List Update → World V → Entry → Type 0
  MayEnter updates w (entry.Call item) = IsFree w.status × (b.go w.lead ≡ event.Calls item.0)
  MayEnter updates w entry.Point = IsFree w.status × (b.go w.lead ≡ event.Point) × (point_leads w.status ≡ at.Passes)
  MayEnter updates w (entry.Order text answer) = IsFree w.status × Answers w.status updates text answer
  MayEnter updates w (entry.Mark m) = MayMark w m

  -- ## Logs

  -- the world after some entries
  abbrev pub after_entries : List Update → World V → List Entry → World V
  after_entries updates w [] = w
  after_entries updates w (e ∷ es) = after_entries updates (after_entry b updates w e) es

  -- each entry may come where it comes
  abbrev pub AreLegal : List Update → World V → List Entry → Type 0
  AreLegal updates w [] = Unit {0}
  AreLegal updates w (e ∷ es) = MayEnter updates w e × AreLegal updates (after_entry b updates w e) es

  -- entry number i, counted from 0, is the first that may not come
  pub record IsFirstIllegal (updates : List Update) (w : World V) (es : List Entry) (i : ℕ) : Type 0 where
    pub before : List Entry
    pub bad : Entry
    pub behind : List Entry
    pub split : es ≡ before ++ bad ∷ behind
    pub count : length before ≡ i
    pub legal : AreLegal updates w before
    pub refused : MayEnter updates (after_entries updates w before) bad → ⊥

-- ## What a log says

-- the messages that go with an entry
abbrev pub heard_by : {V : Type 0} → ℕ → Call × Reply → List (Msg V)
heard_by zero item = []
heard_by (suc u) item = msg.Heard item ∷ []

abbrev pub fork_msg : {V : Type 0} → ℕ → V → Update → Msg V
fork_msg u lead files = msg.Fork u lead files.«module» files.forward files.reverse

abbrev pub mark_sends : {V : Type 0} → List Update → World V → Mark → List (Msg V)
mark_sends updates w (mark.Fork u) = fork_msg u w.lead (files_of updates w.status u) ∷ []
mark_sends updates w (mark.Hand x) = msg.Hand w.status.number ∷ []
mark_sends updates w mark.Promote = msg.Stand w.lead ∷ []
mark_sends updates w m = []

abbrev pub sends : {V : Type 0} → List Update → World V → Entry → List (Msg V)
sends updates w (entry.Call item) = heard_by w.status.follower item
sends updates w entry.Point = []
sends updates w (entry.Order text answer) = []
sends updates w (entry.Mark m) = mark_sends updates w m

-- the messages of some entries, in order
abbrev pub sent : {V : Type 0} → Behaviour V → List Update → World V → List Entry → List (Msg V)
sent b updates w [] = []
sent b updates w (e ∷ es) = sends updates w e ++ sent b updates (after_entry b updates w e) es

-- the calls to the outside, with their replies
abbrev pub outside : List Entry → List (Call × Reply)
outside [] = []
outside (entry.Call item ∷ es) = item ∷ outside es
outside (e ∷ es) = outside es

-- what the operator was told: the reply lines, joined
abbrev pub said : List Entry → List ℕ
said [] = []
said (entry.Order text answer ∷ es) = reply_text answer ++ said es
said (e ∷ es) = said es

-- the lines that came from the operator
abbrev pub texts : List Entry → List (List ℕ)
texts [] = []
texts (entry.Order text answer ∷ es) = text ∷ texts es
texts (e ∷ es) = texts es
