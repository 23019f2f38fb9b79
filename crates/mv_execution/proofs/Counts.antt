-- How far the gap rises in a run.
use Rattle.std.proofs.Common.{true, false, cond, Bool, ◌≡◌, ℕ, zero, suc, ◌+◌, List, [], ◌∷◌, length, Option, Some, None, refl, ◌∙◌, subst, arith}
use Rattle.mv_syntax.specs.Types.{same_function_type}
use Rattle.std.specs.Prelude.{nat_le, nat_lt, slice_get}
use Rattle.mv_calls.specs.declared.trap.Trap.TheVariants as trap
use Rattle.mv_syntax.specs.declared.ops.ValType.TheVariants.{I32}
use Rattle.mv_syntax.specs.declared.types.FuncType.{FuncType}
use Rattle.mv_syntax.specs.declared.instr.Instr.TheVariants as instr
use Rattle.mv_syntax.specs.Tree.{Tree, plain}
use Rattle.mv_execution.specs.Values.{is_of}
use Rattle.mv_execution.specs.Config.{Body, Function, Program, OpenBlock, Frame, Config, frame_limit, operand_limit, gap_limit}
use Rattle.mv_execution.specs.Rows.{Out, Goes, Traps, Stuck, Next, advanced}
use Rattle.mv_execution.specs.Step.{within_limit, went, begun, invoked, called, called_as, called_entry, called_indirect, row, counted, step_of, step}
use Rattle.mv_execution.specs.Run.{settled_frames, settled, Stop, Import, Ended, Trapped, Fuel, IsStuck, stop_at, run_settled, run, CountsAt}

-- ---- an instruction leaves the gap

abbrev Leaves : ℕ → Out Config → Type 0
Leaves n (Goes d) = d.gap ≡ n
Leaves n (Traps t) = Unit {0}
Leaves n Stuck = Unit {0}

within-leaves : (count : ℕ) (d : Config) → Leaves d.gap (within_limit count d)
within-leaves count d = by (nat_lt operand_limit count)
  where
    by : (b : Bool) → Leaves d.gap (cond b (Traps trap.Operands) (Goes d))
    by true = tt
    by false = refl

went-leaves : (c : Config) (fs : List Frame) (next : Next) → Leaves c.gap (went c fs next)
went-leaves c fs (Goes next) = within-leaves _ (record c { store = next.0; frames = next.1 ∷ fs })
went-leaves c fs (Traps t) = tt
went-leaves c fs Stuck = tt

begun-leaves : (x : ℕ) (t : FuncType) (c : Config) (fs : List Frame) (f : Frame) (body : Option Body) → Leaves c.gap (begun x t c fs f body)
begun-leaves x t c fs f None = within-leaves _ (record c { frames = f ∷ fs; waiting = Some x })
begun-leaves x t c fs f (Some body) = refl

invoked-leaves : (x : ℕ) (function : Function) (c : Config) (fs : List Frame) (f : Frame) → Leaves c.gap (invoked x function c fs f)
invoked-leaves x function c fs f = by (nat_lt (length f.operands) (length function.ftype.params)) (nat_le frame_limit (length (f ∷ fs)))
  where
    by : (missing full : Bool) → Leaves c.gap (cond missing Stuck (cond full (Traps trap.Frames) (begun x function.ftype c fs f function.body)))
    by true full = tt
    by false true = tt
    by false false = begun-leaves x function.ftype c fs f function.body

called-leaves : (program : Program) (x : ℕ) (c : Config) (fs : List Frame) (f : Frame) → Leaves c.gap (called program x c fs f)
called-leaves program x c fs f = by (slice_get program.functions x)
  where
    by : (o : Option Function) → Leaves c.gap (elim o as (λ z. Out Config) [ None ↦ Stuck | Some function ↦ invoked x function c fs f ])
    by None = tt
    by (Some function) = invoked-leaves x function c fs f

as-leaves : (program : Program) (t : FuncType) (x : ℕ) (c : Config) (fs : List Frame) (f : Frame) → Leaves c.gap (called_as program t x c fs f)
as-leaves program t x c fs f = by (slice_get program.functions x)
  where
    test : (function : Function) (b : Bool) → Leaves c.gap (cond b (invoked x function c fs f) (Traps trap.IndirectType))
    test function true = invoked-leaves x function c fs f
    test function false = tt

    by : (o : Option Function) → Leaves c.gap (elim o as (λ z. Out Config) [ None ↦ Stuck | Some function ↦ cond (same_function_type function.ftype t) (invoked x function c fs f) (Traps trap.IndirectType) ])
    by None = tt
    by (Some function) = test function (same_function_type function.ftype t)

entry-leaves : (program : Program) (t : FuncType) (o : Option (Option ℕ)) (c : Config) (fs : List Frame) (f : Frame) → Leaves c.gap (called_entry program t o c fs f)
entry-leaves program t None c fs f = tt
entry-leaves program t (Some None) c fs f = tt
entry-leaves program t (Some (Some x)) c fs f = as-leaves program t x c fs f

indirect-leaves : (program : Program) (y : ℕ) (c : Config) (fs : List Frame) (f : Frame) → Leaves c.gap (called_indirect program y c fs f)
indirect-leaves program y c fs f = by (slice_get program.types y)
  where
    test : (t : FuncType) (i : ℕ) (g : Frame) (b : Bool) → Leaves c.gap (cond b (called_entry program t (slice_get c.store.table i) c fs g) Stuck)
    test t i g true = entry-leaves program t (slice_get c.store.table i) c fs g
    test t i g false = tt

    taken : (t : FuncType) (operands : List ℕ) → Leaves c.gap (elim operands as (λ z. Out Config) [ [] ↦ Stuck | i ∷ below ↦ cond (is_of I32 i) (called_entry program t (slice_get c.store.table i) c fs (record f { operands = below })) Stuck ])
    taken t [] = tt
    taken t (i ∷ below) = test t i (record f { operands = below }) (is_of I32 i)

    by : (o : Option FuncType) → Leaves c.gap (elim o as (λ z. Out Config) [ None ↦ Stuck | Some t ↦ elim f.operands as (λ z. Out Config) [ [] ↦ Stuck | i ∷ below ↦ cond (is_of I32 i) (called_entry program t (slice_get c.store.table i) c fs (record f { operands = below })) Stuck ] ])
    by None = tt
    by (Some t) = taken t f.operands

row-leaves : (program : Program) (t : Tree) (b : OpenBlock) (outer : List OpenBlock) (c : Config) (fs : List Frame) (f : Frame) → Leaves c.gap (row program t b outer c fs f)
row-leaves program (plain (instr.Call x) rest) b outer c fs f = called-leaves program x c fs (record f { blocks = record b { rest = rest } ∷ outer })
row-leaves program (plain (instr.CallIndirect y) rest) b outer c fs f = indirect-leaves program y c fs (record f { blocks = record b { rest = rest } ∷ outer })
row-leaves program t b outer c fs f = went-leaves c fs (advanced t b outer c.store f)

step-leaves : (program : Program) (c : Config) (frames : List Frame) → Leaves c.gap (step_of program c frames)
step-leaves program c [] = tt
step-leaves program c (f ∷ fs) = by f.blocks
  where
    by : (bs : List OpenBlock) → Leaves c.gap (elim bs as (λ z. Out Config) [ [] ↦ Stuck | b ∷ outer ↦ row program b.rest b outer c fs f ])
    by [] = tt
    by (b ∷ outer) = row-leaves program b.rest b outer c fs f

-- ---- a run

settled-gap : (c : Config) → (settled c).gap ≡ c.gap
settled-gap c = by c.waiting
  where
    by : (w : Option ℕ) → (elim w as (λ z. Config) [ Some x ↦ c | None ↦ record c { given = (settled_frames c.given c.frames).0; frames = (settled_frames c.given c.frames).1 } ]).gap ≡ c.gap
    by (Some x) = refl
    by None = refl

abbrev Counts : ℕ → ℕ → Config × Stop → Type 0
Counts before fuel r = CountsAt r.1 before fuel r.0.gap

-- one instruction more
one-more : (stop : Stop) (before fuel after : ℕ) → CountsAt stop (before + 1) fuel after → CountsAt stop before (suc fuel) after
one-more (Import x) before fuel after h = (omega (arith, h.0), omega (arith, h.1))
one-more (Ended results) before fuel after h = (omega (arith, h.0), omega (arith, h.1))
one-more (Trapped t) before fuel after h = (omega (arith, h.0), omega (arith, h.1))
one-more Fuel before fuel after h = omega (arith, h)
one-more IsStuck before fuel after h = (omega (arith, h.0), omega (arith, h.1))

in-front : (c : Config) (fuel : ℕ) (w : Option ℕ) (fs : List Frame) (rest : Config × Stop) → Counts c.gap fuel rest → Counts c.gap fuel (elim (stop_at w fs c.given) as (λ z. Config × Stop) [ Some stop ↦ (c, stop) | None ↦ rest ])
in-front c fuel (Some x) fs rest h = (omega arith, omega arith)
in-front c fuel None [] rest h = (omega arith, omega arith)
in-front c fuel None (f ∷ fs) rest h = h

settled-counts : (program : Program) (fuel : ℕ) (c : Config) → Counts c.gap fuel (run_settled program fuel c)
settled-counts program zero c = in-front c zero c.waiting c.frames (c, Fuel) (omega arith)
settled-counts program (suc n) c = in-front c (suc n) c.waiting c.frames _ (spent (nat_le gap_limit c.gap) (λ next. settled-counts program n next))
  where
    stepped : ((next : Config) → Counts next.gap n (run_settled program n next)) → (out : Out Config) → Leaves (c.gap + 1) out → Counts c.gap (suc n) (elim out as (λ z. Config × Stop) [ Goes next ↦ run_settled program n (settled next) | Traps t ↦ (counted c, Trapped t) | Stuck ↦ (c, IsStuck) ])
    stepped more (Goes next) h =
        let r = run_settled program n (settled next) in
        one-more r.1 c.gap n r.0.gap (subst (λ g. CountsAt r.1 g n r.0.gap) (settled-gap next ∙ h) (more (settled next)))
    stepped more (Traps t) h = (omega arith, omega arith)
    stepped more Stuck h = (omega arith, omega arith)

    spent : (b : Bool) → ((next : Config) → Counts next.gap n (run_settled program n next)) → Counts c.gap (suc n) (cond b (c, Trapped trap.Spent) (elim (step program c) as (λ z. Config × Stop) [ Goes next ↦ run_settled program n (settled next) | Traps t ↦ (counted c, Trapped t) | Stuck ↦ (c, IsStuck) ]))
    spent true more = (omega arith, omega arith)
    spent false more = stepped more (step program c) (step-leaves program (counted c) c.frames)

pub run-counts : (program : Program) (fuel : ℕ) (c : Config) → Counts c.gap fuel (run program fuel c)
run-counts program fuel c =
    let r = run_settled program fuel (settled c) in
    subst (λ g. CountsAt r.1 g fuel r.0.gap) (settled-gap c) (settled-counts program fuel (settled c))
