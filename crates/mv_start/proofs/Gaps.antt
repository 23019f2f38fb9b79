-- How far the gap rises in a run that stops at an import, and that a run with ample fuel doesn't stop for want of it.
use Rattle.std.proofs.Common.{true, false, cond, Bool, ◌≡◌, ℕ, zero, suc, ◌+◌, ◌-◌, ◌<◌, ◌≤◌, List, [], ◌∷◌, length, Option, Some, None, refl, sym, ap, ◌∙◌, subst, arith}
use Rattle.mv_syntax.specs.Types.{same_function_type}
use Rattle.std.specs.Prelude.{nat_le, nat_lt, slice_get}
use Rattle.std.proofs.lemmas.Bool.{leb-false}
use Rattle.mv_calls.specs.declared.trap.Trap.TheVariants as trap
use Rattle.mv_syntax.specs.declared.ops.ValType.TheVariants.{I32}
use Rattle.mv_syntax.specs.declared.types.FuncType.{FuncType}
use Rattle.mv_syntax.specs.declared.instr.Instr.TheVariants as instr
use Rattle.mv_syntax.specs.Tree.{Tree, plain}
use Rattle.mv_execution.specs.Values.{is_of}
use Rattle.mv_execution.specs.Config.{Body, Function, Program, OpenBlock, Frame, Config, frame_limit, operand_limit, gap_limit}
use Rattle.mv_execution.specs.Rows.{Out, Goes, Traps, Stuck, Next, advanced}
use Rattle.mv_execution.specs.Step.{within_limit, went, begun, invoked, called, called_as, called_entry, called_indirect, row, counted, step_of, step}
use Rattle.mv_execution.specs.Run.{settled_frames, settled, Stop, Import, Ended, Trapped, Fuel, IsStuck, stop_at, run_settled, run, CountsAt, gone_on}
use Rattle.mv_execution.proofs.Counts.{run-counts}
use Rattle.mv_execution.proofs.Slices.{run-goes-on}
use Rattle.mv_start.specs.Instances.{ample}

-- ---- an instruction leaves the gap

abbrev Leaves : ℕ → Out Config → Type 0
Leaves n (Goes d) = d.gap ≡ n
Leaves n (Traps t) = Unit {0}
Leaves n Stuck = Unit {0}

within-leaves : (count : ℕ) (d : Config) → Leaves d.gap (within_limit count d)
within-leaves count d = by (nat_lt operand_limit count)
  where
    by : (b : Bool) → Leaves d.gap (cond b (Traps trap.Operands) (Goes d))
    by true = tt
    by false = refl

went-leaves : (c : Config) (fs : List Frame) (next : Next) → Leaves c.gap (went c fs next)
went-leaves c fs (Goes next) = within-leaves _ (record c { store = next.0; frames = next.1 ∷ fs })
went-leaves c fs (Traps t) = tt
went-leaves c fs Stuck = tt

begun-leaves : (x : ℕ) (t : FuncType) (c : Config) (fs : List Frame) (f : Frame) (body : Option Body) → Leaves c.gap (begun x t c fs f body)
begun-leaves x t c fs f None = within-leaves _ (record c { frames = f ∷ fs; waiting = Some x })
begun-leaves x t c fs f (Some body) = refl

invoked-leaves : (x : ℕ) (function : Function) (c : Config) (fs : List Frame) (f : Frame) → Leaves c.gap (invoked x function c fs f)
invoked-leaves x function c fs f = by (nat_lt (length f.operands) (length function.ftype.params)) (nat_le frame_limit (length (f ∷ fs)))
  where
    by : (missing full : Bool) → Leaves c.gap (cond missing Stuck (cond full (Traps trap.Frames) (begun x function.ftype c fs f function.body)))
    by true full = tt
    by false true = tt
    by false false = begun-leaves x function.ftype c fs f function.body

called-leaves : (program : Program) (x : ℕ) (c : Config) (fs : List Frame) (f : Frame) → Leaves c.gap (called program x c fs f)
called-leaves program x c fs f = by (slice_get program.functions x)
  where
    by : (o : Option Function) → Leaves c.gap (elim o as (λ z. Out Config) [ None ↦ Stuck | Some function ↦ invoked x function c fs f ])
    by None = tt
    by (Some function) = invoked-leaves x function c fs f

as-leaves : (program : Program) (t : FuncType) (x : ℕ) (c : Config) (fs : List Frame) (f : Frame) → Leaves c.gap (called_as program t x c fs f)
as-leaves program t x c fs f = by (slice_get program.functions x)
  where
    test : (function : Function) (b : Bool) → Leaves c.gap (cond b (invoked x function c fs f) (Traps trap.IndirectType))
    test function true = invoked-leaves x function c fs f
    test function false = tt

    by : (o : Option Function) → Leaves c.gap (elim o as (λ z. Out Config) [ None ↦ Stuck | Some function ↦ cond (same_function_type function.ftype t) (invoked x function c fs f) (Traps trap.IndirectType) ])
    by None = tt
    by (Some function) = test function (same_function_type function.ftype t)

entry-leaves : (program : Program) (t : FuncType) (o : Option (Option ℕ)) (c : Config) (fs : List Frame) (f : Frame) → Leaves c.gap (called_entry program t o c fs f)
entry-leaves program t None c fs f = tt
entry-leaves program t (Some None) c fs f = tt
entry-leaves program t (Some (Some x)) c fs f = as-leaves program t x c fs f

indirect-leaves : (program : Program) (y : ℕ) (c : Config) (fs : List Frame) (f : Frame) → Leaves c.gap (called_indirect program y c fs f)
indirect-leaves program y c fs f = by (slice_get program.types y)
  where
    test : (t : FuncType) (i : ℕ) (g : Frame) (b : Bool) → Leaves c.gap (cond b (called_entry program t (slice_get c.store.table i) c fs g) Stuck)
    test t i g true = entry-leaves program t (slice_get c.store.table i) c fs g
    test t i g false = tt

    taken : (t : FuncType) (operands : List ℕ) → Leaves c.gap (elim operands as (λ z. Out Config) [ [] ↦ Stuck | i ∷ below ↦ cond (is_of I32 i) (called_entry program t (slice_get c.store.table i) c fs (record f { operands = below })) Stuck ])
    taken t [] = tt
    taken t (i ∷ below) = test t i (record f { operands = below }) (is_of I32 i)

    by : (o : Option FuncType) → Leaves c.gap (elim o as (λ z. Out Config) [ None ↦ Stuck | Some t ↦ elim f.operands as (λ z. Out Config) [ [] ↦ Stuck | i ∷ below ↦ cond (is_of I32 i) (called_entry program t (slice_get c.store.table i) c fs (record f { operands = below })) Stuck ] ])
    by None = tt
    by (Some t) = taken t f.operands

row-leaves : (program : Program) (t : Tree) (b : OpenBlock) (outer : List OpenBlock) (c : Config) (fs : List Frame) (f : Frame) → Leaves c.gap (row program t b outer c fs f)
row-leaves program (plain (instr.Call x) rest) b outer c fs f = called-leaves program x c fs (record f { blocks = record b { rest = rest } ∷ outer })
row-leaves program (plain (instr.CallIndirect y) rest) b outer c fs f = indirect-leaves program y c fs (record f { blocks = record b { rest = rest } ∷ outer })
row-leaves program t b outer c fs f = went-leaves c fs (advanced t b outer c.store f)

step-leaves : (program : Program) (c : Config) (frames : List Frame) → Leaves c.gap (step_of program c frames)
step-leaves program c [] = tt
step-leaves program c (f ∷ fs) = by f.blocks
  where
    by : (bs : List OpenBlock) → Leaves c.gap (elim bs as (λ z. Out Config) [ [] ↦ Stuck | b ∷ outer ↦ row program b.rest b outer c fs f ])
    by [] = tt
    by (b ∷ outer) = row-leaves program b.rest b outer c fs f

-- ---- a run

settled-gap : (c : Config) → (settled c).gap ≡ c.gap
settled-gap c = by c.waiting
  where
    by : (w : Option ℕ) → (elim w as (λ z. Config) [ Some x ↦ c | None ↦ record c { given = (settled_frames c.given c.frames).0; frames = (settled_frames c.given c.frames).1 } ]).gap ≡ c.gap
    by (Some x) = refl
    by None = refl

settled-waiting : (c : Config) → (settled c).waiting ≡ c.waiting
settled-waiting c = by c.waiting refl
  where
    by : (w : Option ℕ) → c.waiting ≡ w → (elim w as (λ z. Config) [ Some x ↦ c | None ↦ record c { given = (settled_frames c.given c.frames).0; frames = (settled_frames c.given c.frames).1 } ]).waiting ≡ c.waiting
    by (Some x) e = refl
    by None e = refl

-- where a call waited at the beginning nothing has counted; else an instruction has, and the gap isn't past its limit
abbrev pub RisesFrom : Option ℕ → ℕ → ℕ → Type 0
RisesFrom None before after = (before < after) × (after ≤ gap_limit)
RisesFrom (Some x) before after = after ≡ before

abbrev pub RisesAt : Option ℕ → ℕ → Stop → ℕ → Type 0
RisesAt w before (Import x) after = RisesFrom w before after
RisesAt w before stop after = Unit {0}

abbrev Rises : Option ℕ → ℕ → Config × Stop → Type 0
Rises w before r = RisesAt w before r.1 r.0.gap

risen : (w : Option ℕ) (before after : ℕ) → before + 1 ≤ gap_limit → RisesFrom w (before + 1) after → RisesFrom None before after
risen None before after le h = (omega (arith, h.0), h.1)
risen (Some x) before after le h = (omega (arith, h), omega (arith, h))

one-more : (w : Option ℕ) (before : ℕ) (stop : Stop) (after : ℕ) → before + 1 ≤ gap_limit → RisesAt w (before + 1) stop after → RisesAt None before stop after
one-more w before (Import x) after le h = risen w before after le h
one-more w before (Ended results) after le h = tt
one-more w before (Trapped t) after le h = tt
one-more w before Fuel after le h = tt
one-more w before IsStuck after le h = tt

settled-rises : (program : Program) (fuel : ℕ) (c : Config) → Rises c.waiting c.gap (run_settled program fuel c)
settled-rises program zero c = by c.waiting c.frames
  where
    by : (w : Option ℕ) (fs : List Frame) → Rises w c.gap (elim (stop_at w fs c.given) as (λ z. Config × Stop) [ Some stop ↦ (c, stop) | None ↦ (c, Fuel) ])
    by (Some x) fs = refl
    by None [] = tt
    by None (f ∷ fs) = tt
settled-rises program (suc n) c = by (λ next. settled-rises program n next) c.waiting c.frames
  where
    stepped : c.gap < gap_limit → ((next : Config) → Rises next.waiting next.gap (run_settled program n next)) → (out : Out Config) → Leaves (c.gap + 1) out → Rises None c.gap (elim out as (λ z. Config × Stop) [ Goes next ↦ run_settled program n (settled next) | Traps t ↦ (counted c, Trapped t) | Stuck ↦ (c, IsStuck) ])
    stepped lt more (Goes next) h =
        let r = run_settled program n (settled next) in
        one-more (settled next).waiting c.gap r.1 r.0.gap (omega arith) (subst (λ g. RisesAt (settled next).waiting g r.1 r.0.gap) (settled-gap next ∙ h) (more (settled next)))
    stepped lt more (Traps t) h = tt
    stepped lt more Stuck h = tt

    spent : (b : Bool) → nat_le gap_limit c.gap ≡ b → ((next : Config) → Rises next.waiting next.gap (run_settled program n next)) → Rises None c.gap (cond b (c, Trapped trap.Spent) (elim (step program c) as (λ z. Config × Stop) [ Goes next ↦ run_settled program n (settled next) | Traps t ↦ (counted c, Trapped t) | Stuck ↦ (c, IsStuck) ]))
    spent true e more = tt
    spent false e more = stepped (leb-false gap_limit c.gap e) more (step program c) (step-leaves program (counted c) c.frames)

    by : ((next : Config) → Rises next.waiting next.gap (run_settled program n next)) → (w : Option ℕ) (fs : List Frame) → Rises w c.gap (elim (stop_at w fs c.given) as (λ z. Config × Stop) [ Some stop ↦ (c, stop) | None ↦ cond (nat_le gap_limit c.gap) (c, Trapped trap.Spent) (elim (step program c) as (λ z. Config × Stop) [ Goes next ↦ run_settled program n (settled next) | Traps t ↦ (counted c, Trapped t) | Stuck ↦ (c, IsStuck) ]) ])
    by more (Some x) fs = refl
    by more None [] = tt
    by more None (f ∷ fs) = spent (nat_le gap_limit c.gap) refl more

pub run-rises : (program : Program) (fuel : ℕ) (c : Config) → RisesAt c.waiting c.gap (run program fuel c).1 (run program fuel c).0.gap
run-rises program fuel c =
    let r = run_settled program fuel (settled c) in
    subst (λ w. RisesAt w c.gap r.1 r.0.gap) (settled-waiting c) (subst (λ g. RisesAt (settled c).waiting g r.1 r.0.gap) (settled-gap c) (settled-rises program fuel (settled c)))

-- ---- no gap passes its limit

settled-stays : (program : Program) (fuel : ℕ) (c : Config) → c.gap ≤ gap_limit → (run_settled program fuel c).0.gap ≤ gap_limit
settled-stays program zero c le = by c.waiting c.frames
  where
    by : (w : Option ℕ) (fs : List Frame) → (elim (stop_at w fs c.given) as (λ z. Config × Stop) [ Some stop ↦ (c, stop) | None ↦ (c, Fuel) ]).0.gap ≤ gap_limit
    by (Some x) fs = le
    by None [] = le
    by None (f ∷ fs) = le
settled-stays program (suc n) c le = by (λ next h. settled-stays program n next h) c.waiting c.frames
  where
    stepped : c.gap < gap_limit → ((next : Config) → next.gap ≤ gap_limit → (run_settled program n next).0.gap ≤ gap_limit) → (out : Out Config) → Leaves (c.gap + 1) out → (elim out as (λ z. Config × Stop) [ Goes next ↦ run_settled program n (settled next) | Traps t ↦ (counted c, Trapped t) | Stuck ↦ (c, IsStuck) ]).0.gap ≤ gap_limit
    stepped lt more (Goes next) h = more (settled next) (omega (arith, settled-gap next, h))
    stepped lt more (Traps t) h = omega arith
    stepped lt more Stuck h = le

    spent : (b : Bool) → nat_le gap_limit c.gap ≡ b → ((next : Config) → next.gap ≤ gap_limit → (run_settled program n next).0.gap ≤ gap_limit) → (cond b (c, Trapped trap.Spent) (elim (step program c) as (λ z. Config × Stop) [ Goes next ↦ run_settled program n (settled next) | Traps t ↦ (counted c, Trapped t) | Stuck ↦ (c, IsStuck) ])).0.gap ≤ gap_limit
    spent true e more = le
    spent false e more = stepped (leb-false gap_limit c.gap e) more (step program c) (step-leaves program (counted c) c.frames)

    by : ((next : Config) → next.gap ≤ gap_limit → (run_settled program n next).0.gap ≤ gap_limit) → (w : Option ℕ) (fs : List Frame) → (elim (stop_at w fs c.given) as (λ z. Config × Stop) [ Some stop ↦ (c, stop) | None ↦ cond (nat_le gap_limit c.gap) (c, Trapped trap.Spent) (elim (step program c) as (λ z. Config × Stop) [ Goes next ↦ run_settled program n (settled next) | Traps t ↦ (counted c, Trapped t) | Stuck ↦ (c, IsStuck) ]) ]).0.gap ≤ gap_limit
    by more (Some x) fs = le
    by more None [] = le
    by more None (f ∷ fs) = spent (nat_le gap_limit c.gap) refl more

pub run-stays : (program : Program) (fuel : ℕ) (c : Config) → c.gap ≤ gap_limit → (run program fuel c).0.gap ≤ gap_limit
run-stays program fuel c le = settled-stays program fuel (settled c) (omega (arith, settled-gap c))

-- ---- ample fuel

-- a run with more fuel than the gap has left doesn't stop for want of it
pub never-fuel : (program : Program) (fuel : ℕ) (c : Config) → c.gap ≤ gap_limit → gap_limit < c.gap + fuel → (run program fuel c).1 ≡ Fuel → ⊥
never-fuel program fuel c le lt e =
    let r = run program fuel c in
    let k : CountsAt Fuel c.gap fuel r.0.gap = subst (λ s. CountsAt s c.gap fuel r.0.gap) e (run-counts program fuel c) in
    let n = run-stays program fuel c le in
    absurd (omega (arith, k, n))

-- more fuel changes nothing where a run didn't stop for want of it
gone-same : (program : Program) (more : ℕ) (r : Config × Stop) → ((r.1 ≡ Fuel) → ⊥) → gone_on program more r ≡ r
gone-same program more (c, Import x) h = refl
gone-same program more (c, Ended results) h = refl
gone-same program more (c, Trapped t) h = refl
gone-same program more (c, Fuel) h = absurd (h refl)
gone-same program more (c, IsStuck) h = refl

-- any fuel is ample where it is more than the gap has left
pub ample-same : (program : Program) (fuel : ℕ) (c : Config) → c.gap ≤ gap_limit → gap_limit < c.gap + fuel → fuel ≤ ample → run program fuel c ≡ run program ample c
ample-same program fuel c le lt few =
    let more : fuel + (ample - fuel) ≡ ample = omega arith in
    sym (ap (λ n. run program n c) (sym more) ∙ run-goes-on program fuel (ample - fuel) c ∙ gone-same program (ample - fuel) (run program fuel c) (never-fuel program fuel c le lt))
