-- What the calls of a running guest do to where it stands.
use Rattle.std.proofs.Common.{false, Bool, ◌≡◌, ℕ, ◌-◌, List, [], ◌∷◌, Option, Some, None, refl, sym, ap, ◌∙◌, subst}
use Rattle.mv_calls.specs.declared.calls.Call.{Call}
use Rattle.mv_calls.specs.declared.calls.Reply.{Reply}
use Rattle.mv_calls.specs.declared.trap.Trap.{Trap}
use Rattle.mv_syntax.specs.Sections.{Parts}
use Rattle.mv_execution.specs.Config.{Config}
use Rattle.mv_execution.specs.Instance.{program_of}
use Rattle.mv_execution.specs.Run.{answered, with_new_gap}
use Rattle.mv_machine.specs.Executions.{Execution}
use Rattle.mv_wasi.specs.Answers.{errno_of}
use Rattle.mv_wasi.specs.Machines.{clean, made_at, with_bytes, left_at}
use Rattle.mv_version.specs.declared.event.Event.{Event}
use Rattle.mv_version.specs.declared.event.Event.TheVariants.{Calls, Point, Ends, Traps}
use Rattle.mv_guest.specs.Events.{next_event}
use Rattle.mv_guest.specs.Standing.{Standing, standing, stands_from, passed, replied, unready, after}
use Rattle.mv_guest.specs.Advances.{IsMetAgain}
use Rattle.mv_wasi.specs.declared.made.Made.TheVariants.{Outside}
use Rattle.mv_wasi.specs.Known.{AreKnown, IsWaitingFor, IsMadeThere}
use Rattle.mv_wasi.specs.Readies.{IsReadyFor, function_called}
use Rattle.mv_wasi.proofs.Bounds.{made-kept}
use Rattle.mv_wasi.proofs.Callers.{calls-from}
use Rattle.mv_guest.specs.Running.{passed_times, stands_trapped, trap_of, ArePoints, IsPrepared}
use Rattle.mv_guest.proofs.Reaches.{made_for, at-call}
use Rattle.mv_guest.proofs.EventLaws.{answered-clean, stands-same}
use Rattle.mv_guest.proofs.Pendings.{stands-next, none-trapped}

-- a configuration where an event was met
pub standing-is : (p : Parts) (args : List (List ℕ)) (c : Config) (event : Event) (r : Config × Event) → clean c ≡ clean r.0 → r.1 ≡ event → standing p args (c, event) ≡ standing p args r
standing-is p args c event r k e =
    ap (λ z. let s : Standing = record { parts = p; args = args; config = z; event = event; ready = false } in s) k
    ∙ ap (λ z. let s : Standing = record { parts = p; args = args; config = clean r.0; event = z; ready = false } in s) (sym e)

-- behind a run to the next event
pub gone-stands : (p : Parts) (args : List (List ℕ)) (old new : Config) (event : Event) → (next_event p args old).1 ≡ event → clean new ≡ clean (next_event p args old).0 → IsMetAgain p args new old event →
    stands_trapped (record { parts = p; config = new }) args (trap_of event) ≡ stands_from p args old
gone-stands p args old new (Traps t) e k again = standing-is p args new (Traps t) (next_event p args old) k e
gone-stands p args old new (Calls call) e k again = stands-next p args new old again
gone-stands p args old new Point e k again = stands-next p args new old again
gone-stands p args old new (Ends code) e k again = stands-next p args new old again

-- a copy stands alike
pub trapped-same : (p : Parts) (args : List (List ℕ)) (c d : Config) (t : Option Trap) → clean c ≡ clean d → stands_trapped (record { parts = p; config = c }) args t ≡ stands_trapped (record { parts = p; config = d }) args t
trapped-same p args c d None k = stands-same p args c d k
trapped-same p args c d (Some t) k = ap (λ z. let s : Standing = record { parts = p; args = args; config = z; event = Traps t; ready = false } in s) k

-- an answer
replied-clean : (p : Parts) (reply : Reply) (c : Config) → clean (replied p reply c) ≡ with_new_gap (answered (program_of p) (errno_of reply ∷ []) (with_bytes (left_at p reply (clean c)) (clean c)))
replied-clean p reply c = ap with_new_gap (answered-clean (program_of p) (errno_of reply ∷ []) (with_bytes (left_at p reply c) c))

pub replied-same : (p : Parts) (reply : Reply) (c d : Config) → clean c ≡ clean d → clean (replied p reply c) ≡ clean (replied p reply d)
replied-same p reply c d k =
    replied-clean p reply c ∙ ap (λ z. with_new_gap (answered (program_of p) (errno_of reply ∷ []) (with_bytes (left_at p reply z) z))) k ∙ sym (replied-clean p reply d)

pub answered-stands : (p : Parts) (args : List (List ℕ)) (reply : Reply) (c : Config) → clean c ≡ (stands_from p args c).config → stands_from p args (replied p reply c) ≡ after (stands_from p args c) reply
answered-stands p args reply c k =
    stands-same p args (replied p reply c) (replied p reply (stands_from p args c).config) (replied-same p reply c (stands_from p args c).config k)

-- at a trap nothing is to be passed
pub trapped-event : (m : Execution) (args : List (List ℕ)) (t : Trap) (n : ℕ) → ArePoints n (stands_trapped m args (Some t)) → (passed_times n (stands_trapped m args (Some t))).event ≡ Traps t
trapped-event m args t n h = ap (λ k. (passed_times k (stands_trapped m args (Some t))).event) (none-trapped m args t n h)

-- ---- a call that is prepared

-- a guest at a call has met no trap
pub not-trapped : (m : Execution) (args : List (List ℕ)) (t : Option Trap) (n : ℕ) (b : Bool) (s : Standing) (c : Call) → n ≡ 0 → record (passed_times n (stands_trapped m args t)) { ready = b } ≡ unready s → s.event ≡ Calls c → t ≡ None
not-trapped m args None n b s c z k e = refl
not-trapped m args (Some t) n b s c z k e =
    let at : Standing = passed_times n (stands_trapped m args (Some t)) in
    let first : at.event ≡ Traps t = ap (λ i. (passed_times i (stands_trapped m args (Some t))).event) z in
    let event : at.event ≡ s.event = ap (λ (r : Standing). r.event) k in
    let bad : Traps t ≡ Calls c = sym first ∙ event ∙ e in
    absurd (cc)

-- where it stands, then
pub at-stand : (m : Execution) (args : List (List ℕ)) (t : Option Trap) (n : ℕ) (b : Bool) (s : Standing) → n ≡ 0 → t ≡ None → record (passed_times n (stands_trapped m args t)) { ready = b } ≡ unready s → ((stands_from m.parts args m.config).event ≡ s.event) × ((stands_from m.parts args m.config).config ≡ s.config)
at-stand m args t n b s z w k =
    let here : passed_times n (stands_trapped m args t) ≡ stands_from m.parts args m.config = ap (λ i. passed_times i (stands_trapped m args t)) z ∙ ap (λ o. stands_trapped m args o) w in
    (sym (ap (λ (r : Standing). r.event) here) ∙ ap (λ (r : Standing). r.event) k, sym (ap (λ (r : Standing). r.config) here) ∙ ap (λ (r : Standing). r.config) k)

-- the machine waits for the function that makes the call
pub stands-waiting : (m : Execution) (args : List (List ℕ)) (c : Call) → AreKnown m.parts → (stands_from m.parts args m.config).event ≡ Calls c → clean m.config ≡ (stands_from m.parts args m.config).config → IsWaitingFor m (function_called c)
stands-waiting m args c known e k =
    let at = at-call m.parts args m.config (Outside c) (ap made_for e) in
    let w : m.config.waiting ≡ Some at.import = ap (λ (z : Config). z.waiting) k ∙ ap (λ (z : Config). z.waiting) at.there ∙ at.waits in
    calls-from m args at.import at.before c known w at.becomes

-- and the call is made there
pub stands-made : (m : Execution) (args : List (List ℕ)) (c : Call) → (stands_from m.parts args m.config).event ≡ Calls c → clean m.config ≡ (stands_from m.parts args m.config).config → IsMadeThere m c
stands-made m args c e k =
    let at = at-call m.parts args m.config (Outside c) (ap made_for e) in
    let left : (made_at m.parts args at.import at.before).1 ≡ at.before.store.memory.bytes = made-kept m.parts args at.import at.before c at.becomes in
    let there : clean m.config ≡ clean at.before = k ∙ ap (λ (z : Config). clean z) at.there ∙ ap (λ z. clean (with_bytes z at.before)) left in
    record {
      args = args;
      import = at.import;
      waits = ap (λ (z : Config). z.waiting) there ∙ at.waits;
      becomes = ap (λ z. (made_at m.parts args at.import z).0) there ∙ at.becomes;
    }

-- all of it once the outputs are owned
pub prepared-by : (m n : Execution) (args : List (List ℕ)) (t : Option Trap) (pending : ℕ) (c : Call) → t ≡ None → pending ≡ 0 → n.parts ≡ m.parts → clean n.config ≡ clean m.config → AreKnown m.parts → (stands_from m.parts args m.config).event ≡ Calls c → clean m.config ≡ (stands_from m.parts args m.config).config → IsReadyFor n c → IsPrepared n args t pending c
prepared-by m n args t pending c w z q k known e there ready =
    let same : stands_from n.parts args n.config ≡ stands_from m.parts args m.config = ap (λ p. stands_from p args n.config) q ∙ stands-same m.parts args n.config m.config k in
    let event : (stands_from n.parts args n.config).event ≡ Calls c = ap (λ (s : Standing). s.event) same ∙ e in
    let at : clean n.config ≡ (stands_from n.parts args n.config).config = k ∙ there ∙ sym (ap (λ (s : Standing). s.config) same) in
    record {
      goes_on = w;
      none_pending = z;
      there = at;
      waits = stands-waiting n args c (subst AreKnown (sym q) known) event at;
      ready = ready;
      calls = event;
    }

-- the answer to a call that was prepared
pub answer-stands : (m : Execution) (args : List (List ℕ)) (t : Option Trap) (pending : ℕ) (b : Bool) (reply : Reply) (new : Config) → t ≡ None → pending ≡ 0 → clean m.config ≡ (stands_from m.parts args m.config).config → new ≡ replied m.parts reply m.config →
    record (passed_times pending (stands_trapped (record { parts = m.parts; config = new }) args t)) { ready = false } ≡ after (record (passed_times pending (stands_trapped m args t)) { ready = b }) reply
answer-stands m args t pending b reply new w z k e =
    let left : passed_times pending (stands_trapped (record { parts = m.parts; config = new }) args t) ≡ stands_from m.parts args (replied m.parts reply m.config) =
    ap (λ i. passed_times i (stands_trapped (record { parts = m.parts; config = new }) args t)) z ∙ ap (λ o. stands_trapped (record { parts = m.parts; config = new }) args o) w ∙ ap (λ d. stands_from m.parts args d) e in
    let right : passed_times pending (stands_trapped m args t) ≡ stands_from m.parts args m.config = ap (λ i. passed_times i (stands_trapped m args t)) z ∙ ap (λ o. stands_trapped m args o) w in
    ap (λ (s : Standing). let r : Standing = record s { ready = false } in r) left ∙ answered-stands m.parts args reply m.config k ∙ sym (ap (λ (s : Standing). after (record s { ready = b }) reply) right)
