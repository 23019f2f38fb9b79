-- A run over trees goes on by one instruction, or stops.
use Rattle.std.proofs.Common.{false, cond, ◌≡◌, ℕ, zero, suc, ◌+◌, ◌<◌, ◌≤◌, List, [], ◌∷◌, take, Some, None, refl, ap, ◌∙◌, sym, arith}
use Rattle.std.proofs.lemmas.Bool.{le-leb, lt-leb}
use Rattle.std.specs.Prelude.{nat_le}
use Rattle.mv_calls.specs.declared.trap.Trap.{Trap}
use Rattle.mv_calls.specs.declared.trap.Trap.TheVariants as trap
use Rattle.mv_execution.specs.Config.{Program, OpenBlock, Frame, Config, gap_limit}
use Rattle.mv_execution.specs.Rows.{Out, Goes, Traps, Stuck}
use Rattle.mv_execution.specs.Step.{counted, step}
use Rattle.mv_execution.specs.Run.{is_done, open_blocks, is_none, settled_frames, with_frames, settled, Stop, Trapped, Fuel, IsStuck, stop_at, stop_of, run_settled, run}
use Rattle.mv_machine.specs.Turns.{AreReady, IsReady}

-- ---- a configuration that stands at an instruction is settled

ready-open : (b : OpenBlock) (outer bs : List OpenBlock) → bs ≡ b ∷ outer → is_done b.rest ≡ false → open_blocks bs ≡ bs
ready-open b outer bs e d = ap open_blocks e ∙ ap (λ t. cond t (open_blocks outer) (b ∷ outer)) d ∙ sym e

ready-frames : (frames : List Frame) → AreReady frames → ◌≡◌ {A = List ℕ × List Frame} (settled_frames [] frames) ([], frames)
ready-frames [] r = absurd r
ready-frames (f ∷ fs) (b, outer, e, d) =
    ap (λ bs. cond (is_none bs) (settled_frames (take f.results f.operands) fs) ([], record f { blocks = bs } ∷ fs)) (ready-open b outer f.blocks e d) ∙ ap (λ t. cond t (settled_frames (take f.results f.operands) fs) ([], f ∷ fs)) (ap is_none e)

pub ready-settled : (c : Config) → IsReady c → settled c ≡ c
ready-settled c r =
    ap (λ o. elim o as (λ z. Config) [ Some x ↦ c | None ↦ with_frames c (settled_frames c.given c.frames) ]) r.waiting ∙ ap (λ g. with_frames c (settled_frames g c.frames)) r.given ∙ ap (with_frames c) (ready-frames c.frames r.calls) ∙ ap (λ g. record c { given = g }) (sym r.given)

pub ready-stop : (c : Config) → IsReady c → stop_of c ≡ None
ready-stop c r = ap (λ o. stop_at o c.frames c.given) r.waiting ∙ by c.frames r.calls
  where
    by : (frames : List Frame) → AreReady frames → stop_at None frames c.given ≡ None
    by [] h = absurd h
    by (f ∷ fs) h = refl

-- ---- runs

pub run-same : (program : Program) (m : ℕ) (c d : Config) → settled c ≡ settled d → run program m c ≡ run program m d
run-same program m c d e = ap (run_settled program m) e

-- where it stops
pub run-stops : (program : Program) (m : ℕ) (c : Config) (stop : Stop) → settled c ≡ c → stop_of c ≡ Some stop → ◌≡◌ {A = Config × Stop} (run program m c) (c, stop)
run-stops program m c stop s e = ap (run_settled program m) s ∙ by m
  where
    by : (m : ℕ) → ◌≡◌ {A = Config × Stop} (run_settled program m c) (c, stop)
    by zero = ap (λ o. elim o as (λ z. Config × Stop) [ Some x ↦ (c, x) | None ↦ (c, Fuel) ]) e
    by (suc n) = ap (λ o. elim o as (λ z. Config × Stop) [ Some x ↦ (c, x) | None ↦ cond (nat_le gap_limit c.gap) (c, Trapped trap.Spent) (elim (step program c) as (λ z. Config × Stop) [ Goes next ↦ run_settled program n (settled next) | Traps t ↦ (counted c, Trapped t) | Stuck ↦ (c, IsStuck) ]) ]) e

-- where no fuel is left
pub run-fuel : (program : Program) (m : ℕ) (c : Config) → m ≡ 0 → IsReady c → ◌≡◌ {A = Config × Stop} (run program m c) (c, Fuel)
run-fuel program m c e r =
    ap (λ n. run program n c) e ∙ ap (run_settled program 0) (ready-settled c r) ∙ ap (λ o. elim o as (λ z. Config × Stop) [ Some x ↦ (c, x) | None ↦ (c, Fuel) ]) (ready-stop c r)

-- what an instruction comes to in a run
abbrev after : Program → ℕ → Config → Out Config → Config × Stop
after program n c o = elim o [ Goes next ↦ run_settled program n (settled next) | Traps t ↦ (counted c, Trapped t) | Stuck ↦ (c, IsStuck) ]

run-row : (program : Program) (n : ℕ) (c : Config) → IsReady c → run program (suc n) c ≡ cond (nat_le gap_limit c.gap) (c, Trapped trap.Spent) (after program n c (step program c))
run-row program n c r =
    ap (run_settled program (suc n)) (ready-settled c r) ∙ ap (λ o. elim o as (λ z. Config × Stop) [ Some x ↦ (c, x) | None ↦ cond (nat_le gap_limit c.gap) (c, Trapped trap.Spent) (after program n c (step program c)) ]) (ready-stop c r)

pub run-spent : (program : Program) (m : ℕ) (c : Config) → 0 < m → IsReady c → gap_limit ≤ c.gap → ◌≡◌ {A = Config × Stop} (run program m c) (c, Trapped trap.Spent)
run-spent program zero c some r le = absurd (omega arith)
run-spent program (suc n) c some r le =
    run-row program n c r ∙ ap (λ b. cond b (c, Trapped trap.Spent) (after program n c (step program c))) (le-leb gap_limit c.gap le)

run-next : (program : Program) (n : ℕ) (c : Config) (o : Out Config) → IsReady c → c.gap < gap_limit → step program c ≡ o → run program (suc n) c ≡ after program n c o
run-next program n c o r lt e =
    run-row program n c r ∙ ap (λ b. cond b (c, Trapped trap.Spent) (after program n c (step program c))) (lt-leb gap_limit c.gap lt) ∙ ap (after program n c) e

pub run-goes : (program : Program) (m k : ℕ) (c next : Config) → m ≡ k + 1 → IsReady c → c.gap < gap_limit → step program c ≡ Goes next → run program m c ≡ run program k next
run-goes program m k c next e r lt s =
    let e' : m ≡ suc k = omega (arith, e) in
    ap (λ z. run program z c) e' ∙ run-next program k c (Goes next) r lt s

pub run-traps : (program : Program) (m : ℕ) (c : Config) (t : Trap) → 0 < m → IsReady c → c.gap < gap_limit → step program c ≡ Traps t → ◌≡◌ {A = Config × Stop} (run program m c) (counted c, Trapped t)
run-traps program zero c t some r lt s = absurd (omega arith)
run-traps program (suc n) c t some r lt s = run-next program n c (Traps t) r lt s
