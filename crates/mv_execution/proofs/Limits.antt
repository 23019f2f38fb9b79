-- Runs keep the limits of this host.
use Rattle.std.proofs.Common.{true, false, cond, Bool, ◌≡◌, ℕ, zero, suc, ◌+◌, ◌≤◌, List, [], ◌∷◌, ◌++◌, length, take, drop, Option, Some, None, refl, sym, ap, subst, arith, length-append, length-drop}
use Rattle.mv_syntax.specs.Types.{same_function_type}
use Rattle.std.proofs.lemmas.List.{length-take}
use Rattle.std.proofs.lemmas.Bool.{leb-false, ltb-false}
use Rattle.std.specs.Prelude.{nat_le, nat_lt, slice_get, reverse}
use Rattle.mv_calls.specs.declared.trap.Trap.TheVariants as trap
use Rattle.mv_syntax.specs.declared.ops.ValType.{ValType}
use Rattle.mv_syntax.specs.declared.ops.ValType.TheVariants.{I32}
use Rattle.mv_syntax.specs.declared.types.FuncType.{FuncType}
use Rattle.mv_syntax.specs.declared.instr.Instr.{Instr}
use Rattle.mv_syntax.specs.declared.instr.Instr.TheVariants as instr
use Rattle.mv_syntax.specs.Sections.{Parts}
use Rattle.mv_syntax.specs.Tree.{Tree, done, plain, block, loop, choice}
use Rattle.mv_memory.specs.Memory.{Contents}
use Rattle.mv_execution.specs.Values.{arity_of, is_of}
use Rattle.mv_execution.specs.Config.{Body, Function, Program, OpenBlock, Frame, Config, frame_limit, operand_limit, gap_limit, operand_count}
use Rattle.mv_execution.specs.Rows.{Out, Goes, Traps, Stuck, Next, popping, advanced}
use Rattle.mv_execution.specs.Step.{within_limit, went, entry_frame, without_operands, begun, invoked, called, called_as, called_entry, called_indirect, row, counted, step_of}
use Rattle.mv_execution.specs.Run.{open_blocks, is_none, settled_frames, settled, Stop, Trapped, Fuel, IsStuck, stop_at, run_settled, run, entered, entered_as, param_count, answered, answered_in, with_new_gap}
use Rattle.mv_execution.specs.Instance.{new_config, with_element, with_memory}
use Rattle.mv_execution.specs.Limits.{result_count, without_newest, HasPlace, GivesLast, IsWithinLimits}

-- ---- ends of blocks and calls

-- what a settled configuration gives and has, beside what it was given and had
record Settles (had : List ℕ) (calls : List Frame) (next : List ℕ × List Frame) : Type 0 where
  frames : length next.1 ≤ length calls
  operands : length next.0 + operand_count next.1 ≤ length had + operand_count calls
  given : GivesLast None next.1 next.0

settles : (given : List ℕ) (frames : List Frame) → Settles given frames (settled_frames given frames)
settles given [] = record { frames = omega arith; operands = omega arith; given = tt }
settles given (f ∷ fs) = by (is_none (open_blocks f.blocks)) (settles (take f.results (given ++ f.operands)) fs)
  where
    by : (d : Bool) → Settles (take f.results (given ++ f.operands)) fs (settled_frames (take f.results (given ++ f.operands)) fs) → Settles given (f ∷ fs) (cond d (settled_frames (take f.results (given ++ f.operands)) fs) ([], record f { operands = given ++ f.operands; blocks = open_blocks f.blocks } ∷ fs))
    by true k = record { frames = omega (arith, k.frames); operands = omega (arith, k.operands, length-take f.results (given ++ f.operands), length-append given f.operands); given = k.given }
    by false k = record { frames = omega arith; operands = omega (arith, length-append given f.operands); given = refl }

-- what was given counts nothing where a call is left
count-given : (frames : List Frame) (given : List ℕ) → GivesLast None frames given → (next : List ℕ × List Frame) → Settles given frames next → (frames ≡ [] → next.1 ≡ []) → operand_count next.1 ≤ operand_count frames
count-given [] given h next k none = omega (arith, ap operand_count (none refl))
count-given (f ∷ fs) given h next k none = omega (arith, k.operands, ap (λ (x : List ℕ). length x) h)

settled-none : (given : List ℕ) (frames : List Frame) → frames ≡ [] → (settled_frames given frames).1 ≡ []
settled-none given [] e = refl
settled-none given (f ∷ fs) e = absurd (cc)

settled-within : (program : Program) (c : Config) → IsWithinLimits program c → IsWithinLimits program (settled c)
settled-within program c h = by c.waiting h.place h.given
  where
    by : (w : Option ℕ) → HasPlace program w c.frames → GivesLast w c.frames c.given → IsWithinLimits program (elim w as (λ z. Config) [ Some x ↦ record c { waiting = w } | None ↦ record c { waiting = w; given = (settled_frames c.given c.frames).0; frames = (settled_frames c.given c.frames).1 } ])
    by (Some x) p g = record { frames = h.frames; operands = h.operands; gap = h.gap; place = p; given = g }
    by None p g =
        let k = settles c.given c.frames in
        record { frames = omega (arith, k.frames, h.frames); operands = omega (arith, h.operands, count-given c.frames c.given g (settled_frames c.given c.frames) k (settled-none c.given c.frames)); gap = h.gap; place = tt; given = k.given }

-- ---- an instruction

-- what one instruction leads to is within the limits
abbrev StepWithin : Program → Out Config → Type 0
StepWithin program (Goes next) = IsWithinLimits program next
StepWithin program (Traps t) = Unit {0}
StepWithin program Stuck = Unit {0}

limit-within : (program : Program) (count : ℕ) (next : Config) → (count ≤ operand_limit → IsWithinLimits program next) → StepWithin program (within_limit count next)
limit-within program count next h = by (nat_lt operand_limit count) refl
  where
    by : (b : Bool) → nat_lt operand_limit count ≡ b → StepWithin program (cond b (Traps trap.Operands) (Goes next))
    by true e = tt
    by false e = h (ltb-false operand_limit count e)

-- a configuration that stands at an instruction of its newest call, which counts
record Stands (program : Program) (c : Config) (fs : List Frame) (f : Frame) : Type 0 where
  frames : length fs + 1 ≤ frame_limit
  operands : length f.operands + operand_count fs ≤ operand_limit
  gap : c.gap ≤ gap_limit
  waiting : c.waiting ≡ None
  given : c.given ≡ []

-- a configuration in which no call waits
open-within : (program : Program) (c : Config) (frames : List Frame) → length frames ≤ frame_limit → operand_count frames ≤ operand_limit → c.gap ≤ gap_limit → c.waiting ≡ None → c.given ≡ [] → IsWithinLimits program (record c { frames = frames })
open-within program c frames fl ol gl w g =
    record { frames = fl; operands = ol; gap = gl; place = subst (λ z. HasPlace program z frames) (sym w) tt; given = subst (λ z. GivesLast z frames c.given) (sym w) (nothing frames) }
  where
    nothing : (frames : List Frame) → GivesLast None frames c.given
    nothing [] = tt
    nothing (f ∷ fs) = g

went-within : (program : Program) (c : Config) (fs : List Frame) (f : Frame) (o : Next) → Stands program c fs f → StepWithin program (went c fs o)
went-within program c fs f (Goes next) h =
    limit-within program (operand_count (next.1 ∷ fs)) (record c { store = next.0; frames = next.1 ∷ fs })
    (λ count. open-within program (record c { store = next.0 }) (next.1 ∷ fs) (omega (arith, h.frames)) count h.gap h.waiting h.given)
went-within program c fs f (Traps t) h = tt
went-within program c fs f Stuck h = tt

-- ---- calls

-- how many results and parameters a function has, by its index
params-are : (program : Program) (x : ℕ) (function : Function) → slice_get program.functions x ≡ Some function → param_count program x ≡ length function.ftype.params
params-are program x function e = ap (λ o. elim o as (λ z. ℕ) [ None ↦ 0 | Some function ↦ length function.ftype.params ]) e

results-are : (program : Program) (x : ℕ) (function : Function) → slice_get program.functions x ≡ Some function → result_count program x ≡ arity_of function.ftype.result
results-are program x function e = ap (λ o. elim o as (λ z. ℕ) [ None ↦ 0 | Some function ↦ arity_of function.ftype.result ]) e

waits-within : (program : Program) (x : ℕ) (function : Function) (c : Config) (fs : List Frame) (f : Frame) → slice_get program.functions x ≡ Some function → Stands program c fs f → operand_count (without_operands (length function.ftype.params) f ∷ fs) + arity_of function.ftype.result ≤ operand_limit → IsWithinLimits program (record c { frames = f ∷ fs; waiting = Some x })
waits-within program x function c fs f e h count =
    record {
      frames = omega (arith, h.frames);
      operands = omega (arith, h.operands);
      gap = h.gap;
      place = subst (λ n. operand_count (without_operands n f ∷ fs) + result_count program x ≤ operand_limit) (sym (params-are program x function e)) (subst (λ n. operand_count (without_operands (length function.ftype.params) f ∷ fs) + n ≤ operand_limit) (sym (results-are program x function e)) count);
      given = h.given;
    }

begun-within : (program : Program) (x : ℕ) (function : Function) (c : Config) (fs : List Frame) (f : Frame) (o : Option Body) → slice_get program.functions x ≡ Some function → Stands program c fs f → nat_le frame_limit (length (f ∷ fs)) ≡ false → StepWithin program (begun x function.ftype c fs f o)
begun-within program x function c fs f None e h room =
    limit-within program (operand_count (without_operands (length function.ftype.params) f ∷ fs) + arity_of function.ftype.result) (record c { frames = f ∷ fs; waiting = Some x })
    (waits-within program x function c fs f e h)
begun-within program x function c fs f (Some body) e h room =
    let n = length function.ftype.params in
    open-within program c (entry_frame function.ftype body (reverse (take n f.operands)) ∷ without_operands n f ∷ fs) (omega (arith, leb-false frame_limit (length (f ∷ fs)) room)) (omega (arith, h.operands, length-drop n f.operands)) h.gap h.waiting h.given

invoked-within : (program : Program) (x : ℕ) (function : Function) (c : Config) (fs : List Frame) (f : Frame) → slice_get program.functions x ≡ Some function → Stands program c fs f → StepWithin program (invoked x function c fs f)
invoked-within program x function c fs f e h = by (nat_lt (length f.operands) (length function.ftype.params)) (nat_le frame_limit (length (f ∷ fs))) refl
  where
    by : (few full : Bool) → nat_le frame_limit (length (f ∷ fs)) ≡ full → StepWithin program (cond few Stuck (cond full (Traps trap.Frames) (begun x function.ftype c fs f function.body)))
    by true full k = tt
    by false true k = tt
    by false false k = begun-within program x function c fs f function.body e h k

called-within : (program : Program) (x : ℕ) (c : Config) (fs : List Frame) (f : Frame) → Stands program c fs f → StepWithin program (called program x c fs f)
called-within program x c fs f h = by (slice_get program.functions x) refl
  where
    by : (o : Option Function) → slice_get program.functions x ≡ o → StepWithin program (elim o as (λ z. Out Config) [ None ↦ Stuck | Some function ↦ invoked x function c fs f ])
    by None e = tt
    by (Some function) e = invoked-within program x function c fs f e h

as-within : (program : Program) (t : FuncType) (x : ℕ) (c : Config) (fs : List Frame) (f : Frame) → Stands program c fs f → StepWithin program (called_as program t x c fs f)
as-within program t x c fs f h = by (slice_get program.functions x) refl
  where
    same : (function : Function) (b : Bool) → slice_get program.functions x ≡ Some function → StepWithin program (cond b (invoked x function c fs f) (Traps trap.IndirectType))
    same function true e = invoked-within program x function c fs f e h
    same function false e = tt

    by : (o : Option Function) → slice_get program.functions x ≡ o → StepWithin program (elim o as (λ z. Out Config) [ None ↦ Stuck | Some function ↦ cond (same_function_type function.ftype t) (invoked x function c fs f) (Traps trap.IndirectType) ])
    by None e = tt
    by (Some function) e = same function (same_function_type function.ftype t) e

entry-within : (program : Program) (t : FuncType) (o : Option (Option ℕ)) (c : Config) (fs : List Frame) (f : Frame) → Stands program c fs f → StepWithin program (called_entry program t o c fs f)
entry-within program t None c fs f h = tt
entry-within program t (Some None) c fs f h = tt
entry-within program t (Some (Some x)) c fs f h = as-within program t x c fs f h

-- the operand that says which entry
popped-within : (program : Program) (t : FuncType) (c : Config) (fs : List Frame) (f : Frame) → Stands program c fs f → StepWithin program (popping I32 f (λ i g. called_entry program t (slice_get c.store.table i) c fs g))
popped-within program t c fs f h = by f.operands h.operands
  where
    test : (i : ℕ) (below : List ℕ) (is : Bool) → length below + operand_count fs ≤ operand_limit → StepWithin program (cond is (called_entry program t (slice_get c.store.table i) c fs (record f { operands = below })) Stuck)
    test i below true k = entry-within program t (slice_get c.store.table i) c fs (record f { operands = below }) (record { frames = h.frames; operands = k; gap = h.gap; waiting = h.waiting; given = h.given })
    test i below false k = tt

    by : (os : List ℕ) → length os + operand_count fs ≤ operand_limit → StepWithin program (elim os as (λ z. Out Config) [ [] ↦ Stuck | i ∷ below ↦ cond (is_of I32 i) (called_entry program t (slice_get c.store.table i) c fs (record f { operands = below })) Stuck ])
    by [] k = tt
    by (i ∷ below) k = test i below (is_of I32 i) (omega (arith, k))

indirect-within : (program : Program) (y : ℕ) (c : Config) (fs : List Frame) (f : Frame) → Stands program c fs f → StepWithin program (called_indirect program y c fs f)
indirect-within program y c fs f h = by (slice_get program.types y)
  where
    by : (o : Option FuncType) → StepWithin program (elim o as (λ z. Out Config) [ None ↦ Stuck | Some t ↦ popping I32 f (λ i g. called_entry program t (slice_get c.store.table i) c fs g) ])
    by None = tt
    by (Some t) = popped-within program t c fs f h

-- ---- the step

behind : (program : Program) (c : Config) (fs : List Frame) (f : Frame) (blocks : List OpenBlock) → Stands program c fs f → Stands program c fs (record f { blocks = blocks })
behind program c fs f blocks h = record { frames = h.frames; operands = h.operands; gap = h.gap; waiting = h.waiting; given = h.given }

plain-within : (program : Program) (i : Instr) (rest : Tree) (b : OpenBlock) (outer : List OpenBlock) (c : Config) (fs : List Frame) (f : Frame) → Stands program c fs f → StepWithin program (row program (plain i rest) b outer c fs f)
plain-within program (instr.Call x) rest b outer c fs f h =
    called-within program x c fs (record f { blocks = record b { rest = rest } ∷ outer }) (behind program c fs f (record b { rest = rest } ∷ outer) h)
plain-within program (instr.CallIndirect y) rest b outer c fs f h =
    indirect-within program y c fs (record f { blocks = record b { rest = rest } ∷ outer }) (behind program c fs f (record b { rest = rest } ∷ outer) h)
plain-within program i rest b outer c fs f h = went-within program c fs f (advanced (plain i rest) b outer c.store f) h

row-within : (program : Program) (t : Tree) (b : OpenBlock) (outer : List OpenBlock) (c : Config) (fs : List Frame) (f : Frame) → Stands program c fs f → StepWithin program (row program t b outer c fs f)
row-within program done b outer c fs f h = went-within program c fs f (advanced done b outer c.store f) h
row-within program (plain i rest) b outer c fs f h = plain-within program i rest b outer c fs f h
row-within program (block t body rest) b outer c fs f h = went-within program c fs f (advanced (block t body rest) b outer c.store f) h
row-within program (loop t body rest) b outer c fs f h = went-within program c fs f (advanced (loop t body rest) b outer c.store f) h
row-within program (choice t first second rest) b outer c fs f h = went-within program c fs f (advanced (choice t first second rest) b outer c.store f) h

step-within : (program : Program) (c : Config) (f : Frame) (fs : List Frame) → Stands program c fs f → StepWithin program (step_of program c (f ∷ fs))
step-within program c f fs h = by f.blocks
  where
    by : (bs : List OpenBlock) → StepWithin program (elim bs as (λ z. Out Config) [ [] ↦ Stuck | b ∷ outer ↦ row program b.rest b outer c fs f ])
    by [] = tt
    by (b ∷ outer) = row-within program b.rest b outer c fs f h

-- ---- runs

counted-within : (program : Program) (c : Config) → IsWithinLimits program c → nat_le gap_limit c.gap ≡ false → IsWithinLimits program (counted c)
counted-within program c h e =
    record { frames = h.frames; operands = h.operands; gap = omega (arith, leb-false gap_limit c.gap e); place = h.place; given = h.given }

-- a configuration within the limits in which no call waits and one is left
stands : (program : Program) (c : Config) (f : Frame) (fs : List Frame) → IsWithinLimits program c → nat_le gap_limit c.gap ≡ false → c.waiting ≡ None → c.frames ≡ f ∷ fs → Stands program (counted c) fs f
stands program c f fs h e w is =
    record {
      frames = omega (arith, h.frames, ap (λ (x : List Frame). length x) is);
      operands = omega (arith, h.operands, ap operand_count is);
      gap = omega (arith, leb-false gap_limit c.gap e);
      waiting = w;
      given = subst (λ z. GivesLast None z c.given) is (subst (λ z. GivesLast z c.frames c.given) w h.given);
    }

run-within : (program : Program) (fuel : ℕ) (c : Config) → IsWithinLimits program c → IsWithinLimits program (run_settled program fuel c).0
run-within program zero c h = by c.waiting c.frames
  where
    by : (w : Option ℕ) (fs : List Frame) → IsWithinLimits program (elim (stop_at w fs c.given) as (λ z. Config × Stop) [ Some stop ↦ (c, stop) | None ↦ (c, Fuel) ]).0
    by (Some x) fs = h
    by None [] = h
    by None (f ∷ fs) = h
run-within program (suc n) c h = by (λ next k. run-within program n (settled next) (settled-within program next k)) c.waiting c.frames refl refl
  where
    step-run : ((next : Config) → IsWithinLimits program next → IsWithinLimits program (run_settled program n (settled next)).0) → nat_le gap_limit c.gap ≡ false → (o : Out Config) → StepWithin program o → IsWithinLimits program (elim o as (λ z. Config × Stop) [ Goes next ↦ run_settled program n (settled next) | Traps t ↦ (counted c, Trapped t) | Stuck ↦ (c, IsStuck) ]).0
    step-run more e (Goes next) k = more next k
    step-run more e (Traps t) k = counted-within program c h e
    step-run more e Stuck k = h

    spent : (b : Bool) (r : Config × Stop) → nat_le gap_limit c.gap ≡ b → (nat_le gap_limit c.gap ≡ false → IsWithinLimits program r.0) → IsWithinLimits program (cond b (c, Trapped trap.Spent) r).0
    spent true r e k = h
    spent false r e k = k e

    by : ((next : Config) → IsWithinLimits program next → IsWithinLimits program (run_settled program n (settled next)).0) → (w : Option ℕ) (fs : List Frame) → c.waiting ≡ w → c.frames ≡ fs → IsWithinLimits program (elim (stop_at w fs c.given) as (λ z. Config × Stop) [ Some stop ↦ (c, stop) | None ↦ cond (nat_le gap_limit c.gap) (c, Trapped trap.Spent) (elim (step_of program (counted c) fs) as (λ z. Config × Stop) [ Goes next ↦ run_settled program n (settled next) | Traps t ↦ (counted c, Trapped t) | Stuck ↦ (c, IsStuck) ]) ]).0
    by more (Some x) fs w e = h
    by more None [] w e = h
    by more None (f ∷ fs) w e = spent (nat_le gap_limit c.gap) _ refl (λ room. step-run more room (step_of program (counted c) (f ∷ fs)) (step-within program (counted c) f fs (stands program c f fs h room w e)))

-- A run keeps the limits.
pub run-keeps : (program : Program) (fuel : ℕ) (c : Config) → IsWithinLimits program c → IsWithinLimits program (run program fuel c).0
run-keeps program fuel c h = run-within program fuel (settled c) (settled-within program c h)

-- ---- from outside

pub new-within : (program : Program) (p : Parts) → IsWithinLimits program (new_config p)
new-within program p = record { frames = omega arith; operands = omega arith; gap = omega arith; place = tt; given = tt }

arity-small : (t : Option ValType) → arity_of t ≤ 1
arity-small None = omega arith
arity-small (Some t) = omega arith

pub entered-keeps : (program : Program) (c : Config) (x : ℕ) → IsWithinLimits program c → c.frames ≡ [] → IsWithinLimits program (entered program x c)
entered-keeps program c x h none = by (slice_get program.functions x) refl
  where
    inside : (function : Function) (o : Option Body) → slice_get program.functions x ≡ Some function → IsWithinLimits program (elim o as (λ z. Config) [ None ↦ record c { waiting = Some x; given = [] } | Some body ↦ record c { frames = entry_frame function.ftype body [] ∷ []; waiting = None; given = [] } ])
    inside function None e =
        let empty : operand_count (without_newest (param_count program x) c.frames) ≡ 0 = subst (λ z. operand_count (without_newest (param_count program x) z) ≡ 0) (sym none) refl in
        record { frames = h.frames; operands = h.operands; gap = h.gap; place = omega (arith, empty, results-are program x function e, arity-small function.ftype.result); given = refl }
    inside function (Some body) e = open-within program (record c { waiting = None; given = [] }) (entry_frame function.ftype body [] ∷ []) (omega arith) (omega arith) h.gap refl refl

    by : (o : Option Function) → slice_get program.functions x ≡ o → IsWithinLimits program (elim o as (λ z. Config) [ None ↦ c | Some function ↦ entered_as c x function ])
    by None e = h
    by (Some function) e = inside function function.body e

pub answered-keeps : (program : Program) (c : Config) (x : ℕ) (results : List ℕ) → IsWithinLimits program c → c.waiting ≡ Some x → length results ≡ result_count program x → IsWithinLimits program (answered program results c)
answered-keeps program c x results h w count =
    subst (λ o. IsWithinLimits program (elim o as (λ z. Config) [ None ↦ c | Some y ↦ answered_in (param_count program y) results c c.frames ])) (sym w)
    (by c.frames h.frames (subst (λ z. HasPlace program z c.frames) w h.place) (subst (λ z. GivesLast z c.frames c.given) w h.given))
  where
    by : (frames : List Frame) → length frames ≤ frame_limit → HasPlace program (Some x) frames → GivesLast (Some x) frames c.given → IsWithinLimits program (answered_in (param_count program x) results c frames)
    by [] fl p g = record { frames = omega arith; operands = omega arith; gap = h.gap; place = tt; given = tt }
    by (f ∷ fs) fl p g = record { frames = fl; operands = omega (arith, p, count, length-append results (drop (param_count program x) f.operands)); gap = h.gap; place = tt; given = g }

pub element-keeps : (program : Program) (c : Config) (at x : ℕ) → IsWithinLimits program c → IsWithinLimits program (with_element at x c)
element-keeps program c at x h = record { frames = h.frames; operands = h.operands; gap = h.gap; place = h.place; given = h.given }

pub memory-keeps : (program : Program) (c : Config) (memory : Contents) → IsWithinLimits program c → IsWithinLimits program (with_memory memory c)
memory-keeps program c memory h = record { frames = h.frames; operands = h.operands; gap = h.gap; place = h.place; given = h.given }

pub gap-keeps : (program : Program) (c : Config) → IsWithinLimits program c → IsWithinLimits program (with_new_gap c)
gap-keeps program c h = record { frames = h.frames; operands = h.operands; gap = omega arith; place = h.place; given = h.given }
