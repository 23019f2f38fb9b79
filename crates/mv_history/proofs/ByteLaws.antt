-- What a version was given in its replay is what was read: no byte lost or read twice.
use Rattle.std.specs.Prelude.{◌≡◌, ℕ, ◌+◌, ◌==◌, Bool, true, false, cond, ◌&&◌, ◌||◌, if◌then◌else◌, List, [], ◌∷◌, ◌++◌, refl, Result, Ok, Err}
use Rattle.std.proofs.Common.{ap, ◌∙◌}
use Rattle.std.proofs.lemmas.Bool.{eqb-true}
use Rattle.mv_calls.specs.Fits.{fits_of, is_same_call, reads_enough, is_within}
use Rattle.mv_calls.specs.Items.{eaten, eaten_by, accepted, accepted_by}
use Rattle.mv_calls.specs.declared.calls.Call.{Call}
use Rattle.mv_calls.specs.declared.calls.Call.TheVariants as call
use Rattle.mv_calls.specs.declared.calls.Reply.{Reply}
use Rattle.mv_calls.specs.declared.calls.Reply.TheVariants as reply
use Rattle.mv_syntax.specs.declared.fault.BornFault.{BornFault}
use Rattle.mv_rewrite.specs.Rewriting.{turned}
use Rattle.mv_rewrite.proofs.KeptLaws.{turned_keeps_reads, turned_keeps_accepts}
use Rattle.mv_rulecheck.specs.Atoms.{AreKept}
use Rattle.mv_version.specs.Behaviour.{Behaviour}
use Rattle.mv_version.specs.declared.event.Event.{Event}
use Rattle.mv_version.specs.declared.event.Event.TheVariants as event
use Rattle.mv_history.specs.Followers.{Base, Forked, Standing, Following, file_by, hears_by, begin, given_from, given_to, replayed_from, Reaches}
use Rattle.mv_history.specs.Replay.{Replayed, Stands, Fails, Unborn, replay, given, past, event_fits, own_item}
use Rattle.mv_history.specs.Rules.{AreAccepted, rules_of}
use Rattle.mv_history.specs.declared.updates.Update.{Update}
use Rattle.mv_history.proofs.RulesLaws.{accepted_kept}
use Rattle.mv_history.proofs.FollowerLaws.{hears_shaped}

both_true : (x y : Bool) → (x && y) ≡ true → (x ≡ true) × (y ≡ true)
both_true true y h = (refl, h)
both_true false y h = absurd (let bad : false ≡ true = h in cc)

-- the same bytes and descriptors come of both calls by the reply
abbrev Brings : Call → Call → Reply → ℕ → Type 0
Brings mine want r fd = (eaten_by mine r fd ≡ eaten_by want r fd) × (accepted_by mine r ≡ accepted_by want r)

same_read : (a c x d : ℕ) (r : Reply) (fd : ℕ) → ((a == x) && (c == d)) ≡ true → Brings (call.Read a c) (call.Read x d) r fd
same_read a c x d r fd h =
    let t = both_true (a == x) (c == d) h in
    (ap (λ k. eaten_by (call.Read k c) r fd) (eqb-true a x t.0) ∙ ap (λ k. eaten_by (call.Read x k) r fd) (eqb-true c d t.1), refl)

same_accept : (a c x d : ℕ) (r : Reply) → ((a == x) && (c == d)) ≡ true → accepted_by (call.Accept a c) r ≡ accepted_by (call.Accept x d) r
same_accept a c x d r h =
    let t = both_true (a == x) (c == d) h in
    ap (λ k. accepted_by (call.Accept k c) r) (eqb-true a x t.0) ∙ ap (λ k. accepted_by (call.Accept x k) r) (eqb-true c d t.1)

same_brings : (mine want : Call) (r : Reply) (fd : ℕ) → is_same_call mine want ≡ true → Brings mine want r fd
same_brings (call.Clock m0) (call.Clock n0) r fd h = (refl, refl)
same_brings (call.Clock m0) (call.Random n0) r fd h = (refl, refl)
same_brings (call.Clock m0) (call.Read n0 n1) r fd h = absurd (let bad : false ≡ true = h in cc)
same_brings (call.Clock m0) (call.Write n0 n1) r fd h = (refl, refl)
same_brings (call.Clock m0) (call.Close n0) r fd h = (refl, refl)
same_brings (call.Clock m0) (call.FdStat n0) r fd h = (refl, refl)
same_brings (call.Clock m0) call.Yield r fd h = (refl, refl)
same_brings (call.Clock m0) (call.Poll n0) r fd h = (refl, refl)
same_brings (call.Clock m0) (call.Accept n0 n1) r fd h = absurd (let bad : false ≡ true = h in cc)
same_brings (call.Clock m0) (call.Shutdown n0 n1) r fd h = (refl, refl)
same_brings (call.Random m0) (call.Clock n0) r fd h = (refl, refl)
same_brings (call.Random m0) (call.Random n0) r fd h = (refl, refl)
same_brings (call.Random m0) (call.Read n0 n1) r fd h = absurd (let bad : false ≡ true = h in cc)
same_brings (call.Random m0) (call.Write n0 n1) r fd h = (refl, refl)
same_brings (call.Random m0) (call.Close n0) r fd h = (refl, refl)
same_brings (call.Random m0) (call.FdStat n0) r fd h = (refl, refl)
same_brings (call.Random m0) call.Yield r fd h = (refl, refl)
same_brings (call.Random m0) (call.Poll n0) r fd h = (refl, refl)
same_brings (call.Random m0) (call.Accept n0 n1) r fd h = absurd (let bad : false ≡ true = h in cc)
same_brings (call.Random m0) (call.Shutdown n0 n1) r fd h = (refl, refl)
same_brings (call.Read m0 m1) (call.Clock n0) r fd h = absurd (let bad : false ≡ true = h in cc)
same_brings (call.Read m0 m1) (call.Random n0) r fd h = absurd (let bad : false ≡ true = h in cc)
same_brings (call.Read m0 m1) (call.Read n0 n1) r fd h = same_read m0 m1 n0 n1 r fd h
same_brings (call.Read m0 m1) (call.Write n0 n1) r fd h = absurd (let bad : false ≡ true = h in cc)
same_brings (call.Read m0 m1) (call.Close n0) r fd h = absurd (let bad : false ≡ true = h in cc)
same_brings (call.Read m0 m1) (call.FdStat n0) r fd h = absurd (let bad : false ≡ true = h in cc)
same_brings (call.Read m0 m1) call.Yield r fd h = absurd (let bad : false ≡ true = h in cc)
same_brings (call.Read m0 m1) (call.Poll n0) r fd h = absurd (let bad : false ≡ true = h in cc)
same_brings (call.Read m0 m1) (call.Accept n0 n1) r fd h = absurd (let bad : false ≡ true = h in cc)
same_brings (call.Read m0 m1) (call.Shutdown n0 n1) r fd h = absurd (let bad : false ≡ true = h in cc)
same_brings (call.Write m0 m1) (call.Clock n0) r fd h = (refl, refl)
same_brings (call.Write m0 m1) (call.Random n0) r fd h = (refl, refl)
same_brings (call.Write m0 m1) (call.Read n0 n1) r fd h = absurd (let bad : false ≡ true = h in cc)
same_brings (call.Write m0 m1) (call.Write n0 n1) r fd h = (refl, refl)
same_brings (call.Write m0 m1) (call.Close n0) r fd h = (refl, refl)
same_brings (call.Write m0 m1) (call.FdStat n0) r fd h = (refl, refl)
same_brings (call.Write m0 m1) call.Yield r fd h = (refl, refl)
same_brings (call.Write m0 m1) (call.Poll n0) r fd h = (refl, refl)
same_brings (call.Write m0 m1) (call.Accept n0 n1) r fd h = absurd (let bad : false ≡ true = h in cc)
same_brings (call.Write m0 m1) (call.Shutdown n0 n1) r fd h = (refl, refl)
same_brings (call.Close m0) (call.Clock n0) r fd h = (refl, refl)
same_brings (call.Close m0) (call.Random n0) r fd h = (refl, refl)
same_brings (call.Close m0) (call.Read n0 n1) r fd h = absurd (let bad : false ≡ true = h in cc)
same_brings (call.Close m0) (call.Write n0 n1) r fd h = (refl, refl)
same_brings (call.Close m0) (call.Close n0) r fd h = (refl, refl)
same_brings (call.Close m0) (call.FdStat n0) r fd h = (refl, refl)
same_brings (call.Close m0) call.Yield r fd h = (refl, refl)
same_brings (call.Close m0) (call.Poll n0) r fd h = (refl, refl)
same_brings (call.Close m0) (call.Accept n0 n1) r fd h = absurd (let bad : false ≡ true = h in cc)
same_brings (call.Close m0) (call.Shutdown n0 n1) r fd h = (refl, refl)
same_brings (call.FdStat m0) (call.Clock n0) r fd h = (refl, refl)
same_brings (call.FdStat m0) (call.Random n0) r fd h = (refl, refl)
same_brings (call.FdStat m0) (call.Read n0 n1) r fd h = absurd (let bad : false ≡ true = h in cc)
same_brings (call.FdStat m0) (call.Write n0 n1) r fd h = (refl, refl)
same_brings (call.FdStat m0) (call.Close n0) r fd h = (refl, refl)
same_brings (call.FdStat m0) (call.FdStat n0) r fd h = (refl, refl)
same_brings (call.FdStat m0) call.Yield r fd h = (refl, refl)
same_brings (call.FdStat m0) (call.Poll n0) r fd h = (refl, refl)
same_brings (call.FdStat m0) (call.Accept n0 n1) r fd h = absurd (let bad : false ≡ true = h in cc)
same_brings (call.FdStat m0) (call.Shutdown n0 n1) r fd h = (refl, refl)
same_brings call.Yield (call.Clock n0) r fd h = (refl, refl)
same_brings call.Yield (call.Random n0) r fd h = (refl, refl)
same_brings call.Yield (call.Read n0 n1) r fd h = absurd (let bad : false ≡ true = h in cc)
same_brings call.Yield (call.Write n0 n1) r fd h = (refl, refl)
same_brings call.Yield (call.Close n0) r fd h = (refl, refl)
same_brings call.Yield (call.FdStat n0) r fd h = (refl, refl)
same_brings call.Yield call.Yield r fd h = (refl, refl)
same_brings call.Yield (call.Poll n0) r fd h = (refl, refl)
same_brings call.Yield (call.Accept n0 n1) r fd h = absurd (let bad : false ≡ true = h in cc)
same_brings call.Yield (call.Shutdown n0 n1) r fd h = (refl, refl)
same_brings (call.Poll m0) (call.Clock n0) r fd h = (refl, refl)
same_brings (call.Poll m0) (call.Random n0) r fd h = (refl, refl)
same_brings (call.Poll m0) (call.Read n0 n1) r fd h = absurd (let bad : false ≡ true = h in cc)
same_brings (call.Poll m0) (call.Write n0 n1) r fd h = (refl, refl)
same_brings (call.Poll m0) (call.Close n0) r fd h = (refl, refl)
same_brings (call.Poll m0) (call.FdStat n0) r fd h = (refl, refl)
same_brings (call.Poll m0) call.Yield r fd h = (refl, refl)
same_brings (call.Poll m0) (call.Poll n0) r fd h = (refl, refl)
same_brings (call.Poll m0) (call.Accept n0 n1) r fd h = absurd (let bad : false ≡ true = h in cc)
same_brings (call.Poll m0) (call.Shutdown n0 n1) r fd h = (refl, refl)
same_brings (call.Accept m0 m1) (call.Clock n0) r fd h = absurd (let bad : false ≡ true = h in cc)
same_brings (call.Accept m0 m1) (call.Random n0) r fd h = absurd (let bad : false ≡ true = h in cc)
same_brings (call.Accept m0 m1) (call.Read n0 n1) r fd h = absurd (let bad : false ≡ true = h in cc)
same_brings (call.Accept m0 m1) (call.Write n0 n1) r fd h = absurd (let bad : false ≡ true = h in cc)
same_brings (call.Accept m0 m1) (call.Close n0) r fd h = absurd (let bad : false ≡ true = h in cc)
same_brings (call.Accept m0 m1) (call.FdStat n0) r fd h = absurd (let bad : false ≡ true = h in cc)
same_brings (call.Accept m0 m1) call.Yield r fd h = absurd (let bad : false ≡ true = h in cc)
same_brings (call.Accept m0 m1) (call.Poll n0) r fd h = absurd (let bad : false ≡ true = h in cc)
same_brings (call.Accept m0 m1) (call.Accept n0 n1) r fd h = (refl, same_accept m0 m1 n0 n1 r h)
same_brings (call.Accept m0 m1) (call.Shutdown n0 n1) r fd h = absurd (let bad : false ≡ true = h in cc)
same_brings (call.Shutdown m0 m1) (call.Clock n0) r fd h = (refl, refl)
same_brings (call.Shutdown m0 m1) (call.Random n0) r fd h = (refl, refl)
same_brings (call.Shutdown m0 m1) (call.Read n0 n1) r fd h = absurd (let bad : false ≡ true = h in cc)
same_brings (call.Shutdown m0 m1) (call.Write n0 n1) r fd h = (refl, refl)
same_brings (call.Shutdown m0 m1) (call.Close n0) r fd h = (refl, refl)
same_brings (call.Shutdown m0 m1) (call.FdStat n0) r fd h = (refl, refl)
same_brings (call.Shutdown m0 m1) call.Yield r fd h = (refl, refl)
same_brings (call.Shutdown m0 m1) (call.Poll n0) r fd h = (refl, refl)
same_brings (call.Shutdown m0 m1) (call.Accept n0 n1) r fd h = absurd (let bad : false ≡ true = h in cc)
same_brings (call.Shutdown m0 m1) (call.Shutdown n0 n1) r fd h = (refl, refl)

-- a read of the same descriptor, which the reply fits
read_within : (a c x d : ℕ) (r : Reply) (fd : ℕ) → a ≡ x → is_within c r ≡ true → Brings (call.Read a c) (call.Read x d) r fd
read_within a c x d (reply.Bytes bytes) fd same h = (ap (λ k. if k == fd then bytes else []) same, refl)
read_within a c x d (reply.Errno n) fd same h = (refl, refl)
read_within a c x d reply.Done fd same h = (refl, refl)
read_within a c x d (reply.Count n) fd same h = (refl, refl)
read_within a c x d (reply.Fd n) fd same h = (refl, refl)
read_within a c x d (reply.Time n) fd same h = (refl, refl)
read_within a c x d (reply.Stat p q s t) fd same h = (refl, refl)
read_within a c x d (reply.Ready l) fd same h = (refl, refl)

reads_brings : (mine want : Call) (r : Reply) (fd : ℕ) → reads_enough mine want r ≡ true → Brings mine want r fd
reads_brings (call.Clock m0) want r fd h = absurd (let bad : false ≡ true = h in cc)
reads_brings (call.Random m0) want r fd h = absurd (let bad : false ≡ true = h in cc)
reads_brings (call.Read m0 m1) (call.Clock n0) r fd h = absurd (let bad : false ≡ true = h in cc)
reads_brings (call.Read m0 m1) (call.Random n0) r fd h = absurd (let bad : false ≡ true = h in cc)
reads_brings (call.Read m0 m1) (call.Read n0 n1) r fd h = let t = both_true (m0 == n0) (is_within m1 r) h in read_within m0 m1 n0 n1 r fd (eqb-true m0 n0 t.0) t.1
reads_brings (call.Read m0 m1) (call.Write n0 n1) r fd h = absurd (let bad : false ≡ true = h in cc)
reads_brings (call.Read m0 m1) (call.Close n0) r fd h = absurd (let bad : false ≡ true = h in cc)
reads_brings (call.Read m0 m1) (call.FdStat n0) r fd h = absurd (let bad : false ≡ true = h in cc)
reads_brings (call.Read m0 m1) call.Yield r fd h = absurd (let bad : false ≡ true = h in cc)
reads_brings (call.Read m0 m1) (call.Poll n0) r fd h = absurd (let bad : false ≡ true = h in cc)
reads_brings (call.Read m0 m1) (call.Accept n0 n1) r fd h = absurd (let bad : false ≡ true = h in cc)
reads_brings (call.Read m0 m1) (call.Shutdown n0 n1) r fd h = absurd (let bad : false ≡ true = h in cc)
reads_brings (call.Write m0 m1) want r fd h = absurd (let bad : false ≡ true = h in cc)
reads_brings (call.Close m0) want r fd h = absurd (let bad : false ≡ true = h in cc)
reads_brings (call.FdStat m0) want r fd h = absurd (let bad : false ≡ true = h in cc)
reads_brings call.Yield want r fd h = absurd (let bad : false ≡ true = h in cc)
reads_brings (call.Poll m0) want r fd h = absurd (let bad : false ≡ true = h in cc)
reads_brings (call.Accept m0 m1) want r fd h = absurd (let bad : false ≡ true = h in cc)
reads_brings (call.Shutdown m0 m1) want r fd h = absurd (let bad : false ≡ true = h in cc)

either_brings : (same : Bool) (enough : Bool) (mine want : Call) (r : Reply) (fd : ℕ) → is_same_call mine want ≡ same → reads_enough mine want r ≡ enough → (same || enough) ≡ true → Brings mine want r fd
either_brings true enough mine want r fd is reads h = same_brings mine want r fd is
either_brings false true mine want r fd is reads h = reads_brings mine want r fd reads
either_brings false false mine want r fd is reads h = absurd (let bad : false ≡ true = h in cc)

pub fits_brings : (mine want : Call) (r : Reply) (fd : ℕ) → fits_of mine want r ≡ true → Brings mine want r fd
fits_brings mine want r fd h = either_brings (is_same_call mine want) (reads_enough mine want r) mine want r fd refl refl h

-- the same bytes of this descriptor and the same connections
pub record BringsSame (items others : List (Call × Reply)) (fd : ℕ) : Type 0 where
  pub reads : eaten items fd ≡ eaten others fd
  pub accepts : accepted items ≡ accepted others

module _ {V : Type 0} (b : Behaviour V) (fd : ℕ) where
  one_given : (e : Event) (item : Call × Reply) (mine items : List (Call × Reply)) → event_fits e item ≡ true → BringsSame mine items fd → BringsSame (own_item e item.1 ++ mine) (item ∷ items) fd
  one_given (event.Calls c) item mine items fits rest =
      let brings = fits_brings c item.0 item.1 fd fits in
      record {
        reads = ap (λ l. l ++ eaten mine fd) brings.0 ∙ ap (λ l. eaten_by item.0 item.1 fd ++ l) rest.reads;
        accepts = ap (λ l. l ++ accepted mine) brings.1 ∙ ap (λ l. accepted_by item.0 item.1 ++ l) rest.accepts;
      }
  one_given event.Point item mine items fits rest = absurd (let bad : false ≡ true = fits in cc)
  one_given (event.Ends n) item mine items fits rest = absurd (let bad : false ≡ true = fits in cc)
  one_given (event.Traps t) item mine items fits rest = absurd (let bad : false ≡ true = fits in cc)

  step_given : (fits : Bool) (e : Event) (item : Call × Reply) (mine items : List (Call × Reply)) (next failed : Replayed V) (t : V) → event_fits e item ≡ fits → cond fits next failed ≡ Stands t
      → (failed ≡ Stands t → ⊥) → (next ≡ Stands t → BringsSame mine items fd) → BringsSame (own_item e item.1 ++ mine) (item ∷ items) fd
  step_given true e item mine items next failed t is stands never rest = one_given e item mine items is (rest stands)
  step_given false e item mine items next failed t is stands never rest = absurd (never stands)

  pub replay_brings : (k : ℕ) (s t : V) (items : List (Call × Reply)) → replay b k s items ≡ Stands t → BringsSame (given b s items) items fd
  replay_brings k s t [] h = record { reads = refl; accepts = refl }
  replay_brings k s t (item ∷ items) h =
      step_given (event_fits (b.go (past b s)) item) (b.go (past b s)) item (given b (b.after (past b s) item.1) items) items (replay b (k + 1) (b.after (past b s) item.1) items) (Fails k item.0 (b.go (past b s))) t refl h
      (λ bad. let no_way : Fails k item.0 (b.go (past b s)) ≡ Stands t = bad in cc) (λ next. replay_brings (k + 1) (b.after (past b s) item.1) t items next)

  from_brings : (begins : Result V BornFault) (t : V) (items : List (Call × Reply)) → replayed_from b begins items ≡ Stands t → BringsSame (given_from b begins items) items fd
  from_brings (Ok s) t items h = replay_brings 0 s t items h
  from_brings (Err f) t items h = absurd (let bad : Unborn f ≡ Stands t = h in cc)

  side_kept : (base : Base V) (files : Update) → AreAccepted files → AreKept (rules_of (file_by base files))
  side_kept (Forked s) files accepted = accepted_kept files.forward accepted.forward
  side_kept (Standing s) files accepted = accepted_kept files.reverse accepted.reverse

  -- what a follower that may lead was given is what it heard
  pub reaches_brings : (f : Following V) (s : V) → Reaches b f s → BringsSame (given_to b f) f.heard fd
  reaches_brings f s reaches =
      let brings = from_brings (begin b f) s (turned (hears_by f) f.heard) reaches.stands in
      let shaped = hears_shaped f reaches.accepted in
      let kept = side_kept f.base f.files reaches.accepted in
      record {
        reads = brings.reads ∙ turned_keeps_reads (hears_by f) f.heard fd shaped kept;
        accepts = brings.accepts ∙ turned_keeps_accepts (hears_by f) f.heard shaped kept;
      }
