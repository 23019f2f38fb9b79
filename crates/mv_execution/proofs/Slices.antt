-- A run in slices of fuel is one run with all of it.
use Rattle.std.proofs.Common.{true, false, cond, Bool, ◌≡◌, ℕ, zero, suc, ◌+◌, List, [], ◌∷◌, ◌++◌, take, Option, Some, None, refl, sym, ap, subst, arith}
use Rattle.std.specs.Prelude.{nat_le}
use Rattle.mv_calls.specs.declared.trap.Trap.TheVariants as trap
use Rattle.mv_execution.specs.Config.{Program, OpenBlock, Frame, Config, gap_limit}
use Rattle.mv_execution.specs.Rows.{Out, Goes, Traps, Stuck}
use Rattle.mv_execution.specs.Step.{counted, step_of}
use Rattle.mv_execution.specs.Run.{is_done, open_blocks, is_none, settled_frames, settled, Stop, Import, Ended, Trapped, Fuel, IsStuck, stop_at, stop_of, run_settled, run, gone_on}

-- ---- a settled configuration is settled again to itself

open-twice : (bs : List OpenBlock) → open_blocks (open_blocks bs) ≡ open_blocks bs
open-twice [] = refl
open-twice (b ∷ bs) = by (is_done b.rest) refl (open-twice bs)
  where
    by : (d : Bool) → is_done b.rest ≡ d → open_blocks (open_blocks bs) ≡ open_blocks bs → open_blocks (cond d (open_blocks bs) (b ∷ bs)) ≡ cond d (open_blocks bs) (b ∷ bs)
    by true e k = k
    by false e k = ap (λ d. cond d (open_blocks bs) (b ∷ bs)) e

abbrev FramesTwice : List ℕ × List Frame → Type 0
FramesTwice next = ◌≡◌ {A = List ℕ × List Frame} (settled_frames next.0 next.1) next

frames-twice : (given : List ℕ) (frames : List Frame) → FramesTwice (settled_frames given frames)
frames-twice given [] = refl
frames-twice given (f ∷ fs) = by (is_none (open_blocks f.blocks)) refl (frames-twice (take f.results (given ++ f.operands)) fs)
  where
    by : (d : Bool) → is_none (open_blocks f.blocks) ≡ d → FramesTwice (settled_frames (take f.results (given ++ f.operands)) fs) → FramesTwice (cond d (settled_frames (take f.results (given ++ f.operands)) fs) ([], record f { operands = given ++ f.operands; blocks = open_blocks f.blocks } ∷ fs))
    by true e k = k
    by false e k =
        subst (λ bs. ◌≡◌ {A = List ℕ × List Frame} (cond (is_none bs) (settled_frames (take f.results (given ++ f.operands)) fs) ([], record f { operands = given ++ f.operands; blocks = bs } ∷ fs)) ([], record f { operands = given ++ f.operands; blocks = open_blocks f.blocks } ∷ fs)) (sym (open-twice f.blocks))
        (ap (λ d. cond d (settled_frames (take f.results (given ++ f.operands)) fs) ([], record f { operands = given ++ f.operands; blocks = open_blocks f.blocks } ∷ fs)) e)

pub settled-twice : (c : Config) → settled (settled c) ≡ settled c
settled-twice c = by c.waiting
  where
    by : (w : Option ℕ) → settled (elim w as (λ z. Config) [ Some x ↦ record c { waiting = w } | None ↦ record c { waiting = w; given = (settled_frames c.given c.frames).0; frames = (settled_frames c.given c.frames).1 } ]) ≡ elim w as (λ z. Config) [ Some x ↦ record c { waiting = w } | None ↦ record c { waiting = w; given = (settled_frames c.given c.frames).0; frames = (settled_frames c.given c.frames).1 } ]
    by (Some x) = refl
    by None = ap (λ (next : List ℕ × List Frame). let d : Config = record c { waiting = None; given = next.0; frames = next.1 } in d) (frames-twice c.given c.frames)

-- ---- slices

-- where no instruction stands in front, no fuel moves the configuration
stays-there : (program : Program) (fuel : ℕ) (c : Config) (stop : Stop) → stop_of c ≡ Some stop → ◌≡◌ {A = Config × Stop} (run_settled program fuel c) (c, stop)
stays-there program zero c stop e = ap (λ o. elim o as (λ z. Config × Stop) [ Some s ↦ (c, s) | None ↦ (c, Fuel) ]) e
stays-there program (suc n) c stop e =
    ap (λ o. elim o as (λ z. Config × Stop) [ Some s ↦ (c, s) | None ↦ cond (nat_le gap_limit c.gap) (c, Trapped trap.Spent) (elim (step_of program (counted c) c.frames) as (λ z. Config × Stop) [ Goes next ↦ run_settled program n (settled next) | Traps t ↦ (counted c, Trapped t) | Stuck ↦ (c, IsStuck) ]) ]) e

settled-goes-on : (program : Program) (a b : ℕ) (c : Config) → settled c ≡ c → run_settled program (a + b) c ≡ gone_on program b (run_settled program a c)
settled-goes-on program zero b c s = subst (λ n. run_settled program n c ≡ gone_on program b (run_settled program zero c)) (let e : b ≡ zero + b = omega arith in e) (by (stop_of c) refl)
  where
    at-stop : (stop : Stop) → stop_of c ≡ Some stop → run_settled program b c ≡ gone_on program b (c, stop)
    at-stop (Import x) e = stays-there program b c (Import x) e
    at-stop (Ended results) e = stays-there program b c (Ended results) e
    at-stop (Trapped t) e = stays-there program b c (Trapped t) e
    at-stop Fuel e = sym (ap (λ d. run_settled program b d) s)
    at-stop IsStuck e = stays-there program b c IsStuck e

    by : (o : Option Stop) → stop_of c ≡ o → run_settled program b c ≡ gone_on program b (elim o as (λ z. Config × Stop) [ Some stop ↦ (c, stop) | None ↦ (c, Fuel) ])
    by (Some stop) e = at-stop stop e
    by None e = sym (ap (λ d. run_settled program b d) s)
settled-goes-on program (suc n) b c s = subst (λ k. run_settled program k c ≡ gone_on program b (run_settled program (suc n) c)) (let e : suc (n + b) ≡ suc n + b = omega arith in e) (by (λ next. settled-goes-on program n b (settled next) (settled-twice next)) c.waiting c.frames)
  where
    step-run : ((next : Config) → run_settled program (n + b) (settled next) ≡ gone_on program b (run_settled program n (settled next))) → (o : Out Config) → elim o as (λ z. Config × Stop) [ Goes next ↦ run_settled program (n + b) (settled next) | Traps t ↦ (counted c, Trapped t) | Stuck ↦ (c, IsStuck) ] ≡ gone_on program b (elim o as (λ z. Config × Stop) [ Goes next ↦ run_settled program n (settled next) | Traps t ↦ (counted c, Trapped t) | Stuck ↦ (c, IsStuck) ])
    step-run more (Goes next) = more next
    step-run more (Traps t) = refl
    step-run more Stuck = refl

    spent : (d : Bool) (whole first : Config × Stop) → whole ≡ gone_on program b first → cond d (c, Trapped trap.Spent) whole ≡ gone_on program b (cond d (c, Trapped trap.Spent) first)
    spent true whole first k = refl
    spent false whole first k = k

    by : ((next : Config) → run_settled program (n + b) (settled next) ≡ gone_on program b (run_settled program n (settled next))) → (w : Option ℕ) (fs : List Frame) → elim (stop_at w fs c.given) as (λ z. Config × Stop) [ Some stop ↦ (c, stop) | None ↦ cond (nat_le gap_limit c.gap) (c, Trapped trap.Spent) (elim (step_of program (counted c) fs) as (λ z. Config × Stop) [ Goes next ↦ run_settled program (n + b) (settled next) | Traps t ↦ (counted c, Trapped t) | Stuck ↦ (c, IsStuck) ]) ] ≡ gone_on program b (elim (stop_at w fs c.given) as (λ z. Config × Stop) [ Some stop ↦ (c, stop) | None ↦ cond (nat_le gap_limit c.gap) (c, Trapped trap.Spent) (elim (step_of program (counted c) fs) as (λ z. Config × Stop) [ Goes next ↦ run_settled program n (settled next) | Traps t ↦ (counted c, Trapped t) | Stuck ↦ (c, IsStuck) ]) ])
    by more (Some x) fs = refl
    by more None [] = refl
    by more None (f ∷ fs) = spent (nat_le gap_limit c.gap) (elim (step_of program (counted c) (f ∷ fs)) as (λ z. Config × Stop) [ Goes next ↦ run_settled program (n + b) (settled next) | Traps t ↦ (counted c, Trapped t) | Stuck ↦ (c, IsStuck) ]) (elim (step_of program (counted c) (f ∷ fs)) as (λ z. Config × Stop) [ Goes next ↦ run_settled program n (settled next) | Traps t ↦ (counted c, Trapped t) | Stuck ↦ (c, IsStuck) ]) (step-run more (step_of program (counted c) (f ∷ fs)))

-- A run goes on.
pub run-goes-on : (program : Program) (a b : ℕ) (c : Config) → run program (a + b) c ≡ gone_on program b (run program a c)
run-goes-on program a b c = settled-goes-on program a b (settled c) (settled-twice c)
