-- Each instruction leaves one operand more, or no more than it finds.
use Rattle.std.proofs.Common.{true, false, cond, Bool, ◌≡◌, ℕ, ◌+◌, ◌-◌, ◌≤◌, List, [], ◌∷◌, length, take, drop, Option, Some, None, Result, Ok, Err, refl, ap, subst, arith, length-append, length-drop}
use Rattle.std.proofs.lemmas.List.{length-take}
use Rattle.std.proofs.lemmas.Bool.{leb-true}
use Rattle.std.specs.Prelude.{nat_le, nat_lt, ◌==◌, slice_get, slice_set, slice_range, unwrap_or}
use Rattle.mv_calls.specs.declared.trap.Trap.TheVariants as trap
use Rattle.mv_syntax.specs.declared.ops.ValType.{ValType}
use Rattle.mv_syntax.specs.declared.ops.ValType.TheVariants.{I32}
use Rattle.mv_syntax.specs.declared.instr.Instr.{Instr}
use Rattle.mv_syntax.specs.declared.instr.Instr.TheVariants as instr
use Rattle.mv_syntax.specs.Types.{bit_width, operand_type, tested_type}
use Rattle.mv_syntax.specs.Tree.{Tree, done, plain, block, loop, choice}
use Rattle.mv_arith.specs.declared.ArithTrap.{ArithTrap}
use Rattle.mv_arith.specs.declared.ArithTrap.TheVariants.{DivideByZero, Overflow}
use Rattle.mv_arith.specs.Integers.{unary_result, binary_result, compares}
use Rattle.mv_memory.specs.Bytes.{most_pages, little_endian, low_bytes, written}
use Rattle.mv_memory.specs.Memory.{page_count, grown}
use Rattle.mv_execution.specs.Values.{is_of, truth, is_width, arity_of}
use Rattle.mv_execution.specs.Config.{Store, OpenBlock, Frame}
use Rattle.mv_execution.specs.Rows.{Goes, Traps, Stuck, Next, kept, pushed, taking, popping, carried, begun_again, branched_to, branched, returned, local_set, global_set, extended, loaded, stored, memory_grown, computed, acted, entered, advanced}
use Rattle.mv_execution.specs.Rises.{leaves_more, Leaves, LeavesFirst}

-- ---- what an instruction came to

-- what holds of the frame where the instruction goes on
abbrev pub WhereGoes : (Frame → Type 0) → Next → Type 0
WhereGoes P (Goes next) = P next.1
WhereGoes P (Traps t) = Unit {0}
WhereGoes P Stuck = Unit {0}

pub goes-holds : (P : Frame → Type 0) (o : Next) (next : Store × Frame) → o ≡ Goes next → WhereGoes P o → P next.1
goes-holds P o next e h = let k : WhereGoes P (Goes next) = subst (WhereGoes P) e h in k

-- no more operands than so many
abbrev Below : ℕ → Next → Type 0
Below n = WhereGoes (λ g. length g.operands ≤ n)

taking-holds : (P : Frame → Type 0) (f : Frame) (next : ℕ → Frame → Next) → ((v : ℕ) (below : List ℕ) → f.operands ≡ v ∷ below → WhereGoes P (next v (record f { operands = below }))) → WhereGoes P (taking f next)
taking-holds P f next h = by f.operands (λ v below e. h v below e)
  where
    by : (os : List ℕ) → ((v : ℕ) (below : List ℕ) → os ≡ v ∷ below → WhereGoes P (next v (record f { operands = below }))) → WhereGoes P (elim os as (λ z. Next) [ [] ↦ Stuck | w ∷ ws ↦ next w (record f { operands = ws }) ])
    by [] k = tt
    by (v ∷ below) k = k v below refl

if-holds : (P : Next → Type 0) (b : Bool) (x y : Next) → P x → P y → P (cond b x y)
if-holds P true x y p q = p
if-holds P false x y p q = q

popping-holds : (P : Frame → Type 0) (t : ValType) (f : Frame) (next : ℕ → Frame → Next) → ((v : ℕ) (below : List ℕ) → f.operands ≡ v ∷ below → WhereGoes P (next v (record f { operands = below }))) → WhereGoes P (popping t f next)
popping-holds P t f next h =
    taking-holds P f (λ v g. cond (is_of t v) (next v g) Stuck) (λ v below e. if-holds (WhereGoes P) (is_of t v) (next v (record f { operands = below })) Stuck (h v below e) tt)

-- one operand less
less : (os : List ℕ) (v : ℕ) (below : List ℕ) → os ≡ v ∷ below → length below + 1 ≡ length os
less os v below e = omega (arith, ap (λ (x : List ℕ). length x) e)

-- ---- branches and returns

carried-length : (b : OpenBlock) (os : List ℕ) → nat_le (b.height + b.arity) (length os) ≡ true → length (carried b os) ≤ length os
carried-length b os e =
    omega (arith, leb-true (b.height + b.arity) (length os) e, length-append (take b.arity os) (drop (length os - b.height) os), length-take b.arity os, length-drop (length os - b.height) os)

branch-leaves : (s : Store) (f : Frame) (n : ℕ) → Below (length f.operands) (kept s (branched n f))
branch-leaves s f n = by (drop n f.blocks)
  where
    test : (b : OpenBlock) (outer : List OpenBlock) (can : Bool) → nat_le (b.height + b.arity) (length f.operands) ≡ can → Below (length f.operands) (kept s (cond can (Some (record f { operands = carried b f.operands; blocks = begun_again b outer })) None))
    test b outer true e = carried-length b f.operands e
    test b outer false e = tt

    by : (bs : List OpenBlock) → Below (length f.operands) (kept s (branched_to bs f))
    by [] = tt
    by (b ∷ outer) = test b outer (nat_le (b.height + b.arity) (length f.operands)) refl

return-leaves : (s : Store) (f : Frame) → Below (length f.operands) (kept s (returned f))
return-leaves s f = by (nat_le f.results (length f.operands))
  where
    by : (can : Bool) → Below (length f.operands) (kept s (cond can (Some (record f { operands = take f.results f.operands; blocks = [] })) None))
    by true = omega (arith, length-take f.results f.operands)
    by false = tt

-- ---- variables, memory and numbers

local-leaves : (s : Store) (f : Frame) (x v : ℕ) → Below (length f.operands) (kept s (local_set x v f))
local-leaves s f x v = by (nat_lt x (length f.locals))
  where
    by : (can : Bool) → Below (length f.operands) (kept s (cond can (Some (record f { locals = slice_set f.locals x v })) None))
    by true = omega arith
    by false = tt

global-leaves : (s : Store) (f : Frame) (x v : ℕ) → Below (length f.operands) (global_set x v s f)
global-leaves s f x v =
    if-holds (Below (length f.operands)) (nat_lt x (length s.globals)) (Goes (record s { globals = slice_set s.globals x v }, f)) Stuck (omega arith) tt

load-leaves : (s : Store) (f : Frame) (t : ValType) (n : ℕ) (as_signed : Bool) (ea : ℕ) → Below (length f.operands + 1) (loaded t n as_signed ea s f)
load-leaves s f t n as_signed ea =
    let v = extended t n as_signed (little_endian (slice_range s.memory.bytes ea (ea + n))) in
    let P = Below (length f.operands + 1) in
    if-holds P (is_width t n) (cond (nat_lt (length s.memory.bytes) (ea + n)) (Traps trap.Bounds) (Goes (s, pushed v f))) Stuck
    (if-holds P (nat_lt (length s.memory.bytes) (ea + n)) (Traps trap.Bounds) (Goes (s, pushed v f)) tt (omega arith)) tt

store-leaves : (s : Store) (f : Frame) (t : ValType) (n v ea : ℕ) → Below (length f.operands) (stored t n v ea s f)
store-leaves s f t n v ea =
    let next : Store = record s { memory = record s.memory { bytes = written s.memory.bytes ea (low_bytes n v) } } in
    let P = Below (length f.operands) in
    if-holds P (is_width t n) (cond (nat_lt (length s.memory.bytes) (ea + n)) (Traps trap.Bounds) (Goes (next, f))) Stuck
    (if-holds P (nat_lt (length s.memory.bytes) (ea + n)) (Traps trap.Bounds) (Goes (next, f)) tt (omega arith)) tt

grow-leaves : (s : Store) (f : Frame) (n : ℕ) → Below (length f.operands + 1) (memory_grown n s f)
grow-leaves s f n =
    if-holds (Below (length f.operands + 1)) (nat_lt (most_pages s.memory.max) (page_count s.memory + n)) (Goes (s, pushed (4294967295) f)) (Goes (record s { memory = grown s.memory n }, pushed (page_count s.memory) f)) (omega arith) (omega arith)

computed-leaves : (s : Store) (f : Frame) (r : Result ℕ ArithTrap) → Below (length f.operands + 1) (computed s f r)
computed-leaves s f (Ok v) = omega arith
computed-leaves s f (Err DivideByZero) = tt
computed-leaves s f (Err Overflow) = tt

-- a bound that another one is under
under : (m n : ℕ) (o : Next) → m ≤ n → Below m o → Below n o
under m n (Goes next) h k = omega (arith, h, k)
under m n (Traps t) h k = tt
under m n Stuck h k = tt

-- ---- instructions

pub acted-leaves : (i : Instr) (s : Store) (f : Frame) → WhereGoes (Leaves (leaves_more i) f) (acted i s f)
acted-leaves instr.Unreachable s f = tt
acted-leaves instr.Nop s f = omega arith
acted-leaves (instr.Br n) s f = branch-leaves s f n
acted-leaves (instr.BrIf n) s f =
    popping-holds (Leaves false f) I32 f (λ c g. cond (c == 0) (Goes (s, g)) (kept s (branched n g)))
    (λ c below e. if-holds (Below (length f.operands)) (c == 0) (Goes (s, record f { operands = below })) (kept s (branched n (record f { operands = below }))) (omega (arith, less f.operands c below e)) (under (length below) (length f.operands) (kept s (branched n (record f { operands = below }))) (omega (arith, less f.operands c below e)) (branch-leaves s (record f { operands = below }) n)))
acted-leaves (instr.BrTable ls last) s f =
    popping-holds (Leaves false f) I32 f (λ c g. kept s (branched (unwrap_or (slice_get ls c) last) g))
    (λ c below e. under (length below) (length f.operands) (kept s (branched (unwrap_or (slice_get ls c) last) (record f { operands = below }))) (omega (arith, less f.operands c below e)) (branch-leaves s (record f { operands = below }) (unwrap_or (slice_get ls c) last)))
acted-leaves instr.Return s f = return-leaves s f
acted-leaves instr.Drop s f = taking-holds (Leaves false f) f (λ v g. Goes (s, g)) (λ v below e. omega (arith, less f.operands v below e))
acted-leaves instr.Select s f =
    popping-holds (Leaves false f) I32 f (λ c g. taking g (λ b h. taking h (λ a k. Goes (s, pushed (cond (c == 0) b a) k))))
    (λ c below e. taking-holds (Leaves false f) (record f { operands = below }) (λ b h. taking h (λ a k. Goes (s, pushed (cond (c == 0) b a) k)))
    (λ b below2 e2. taking-holds (Leaves false f) (record f { operands = below2 }) (λ a k. Goes (s, pushed (cond (c == 0) b a) k))
    (λ a below3 e3. omega (arith, less f.operands c below e, less below b below2 e2, less below2 a below3 e3))))
acted-leaves (instr.LocalGet x) s f = by (slice_get f.locals x)
  where
    by : (o : Option ℕ) → WhereGoes (Leaves true f) (elim o as (λ z. Next) [ None ↦ Stuck | Some v ↦ Goes (s, pushed v f) ])
    by None = tt
    by (Some v) = omega arith
acted-leaves (instr.LocalSet x) s f =
    taking-holds (Leaves false f) f (λ v g. kept s (local_set x v g))
    (λ v below e. under (length below) (length f.operands) (kept s (local_set x v (record f { operands = below }))) (omega (arith, less f.operands v below e)) (local-leaves s (record f { operands = below }) x v))
acted-leaves (instr.LocalTee x) s f =
    taking-holds (Leaves false f) f (λ v g. kept s (local_set x v f)) (λ v below e. local-leaves s f x v)
acted-leaves (instr.GlobalGet x) s f = by (slice_get s.globals x)
  where
    by : (o : Option ℕ) → WhereGoes (Leaves true f) (elim o as (λ z. Next) [ None ↦ Stuck | Some v ↦ Goes (s, pushed v f) ])
    by None = tt
    by (Some v) = omega arith
acted-leaves (instr.GlobalSet x) s f =
    taking-holds (Leaves false f) f (λ v g. global_set x v s g)
    (λ v below e. under (length below) (length f.operands) (global_set x v s (record f { operands = below })) (omega (arith, less f.operands v below e)) (global-leaves s (record f { operands = below }) x v))
acted-leaves (instr.Load t n as_signed align offset) s f =
    popping-holds (Leaves false f) I32 f (λ base g. loaded t n as_signed (base + offset) s g)
    (λ base below e. under (length below + 1) (length f.operands) (loaded t n as_signed (base + offset) s (record f { operands = below })) (omega (arith, less f.operands base below e)) (load-leaves s (record f { operands = below }) t n as_signed (base + offset)))
acted-leaves (instr.Store t n align offset) s f =
    popping-holds (Leaves false f) t f (λ v g. popping I32 g (λ base h. stored t n v (base + offset) s h))
    (λ v below e. popping-holds (Leaves false f) I32 (record f { operands = below }) (λ base h. stored t n v (base + offset) s h)
    (λ base below2 e2. under (length below2) (length f.operands) (stored t n v (base + offset) s (record f { operands = below2 })) (omega (arith, less f.operands v below e, less below base below2 e2)) (store-leaves s (record f { operands = below2 }) t n v (base + offset))))
acted-leaves instr.MemorySize s f = omega arith
acted-leaves instr.MemoryGrow s f =
    popping-holds (Leaves false f) I32 f (λ n g. memory_grown n s g)
    (λ n below e. under (length below + 1) (length f.operands) (memory_grown n s (record f { operands = below })) (omega (arith, less f.operands n below e)) (grow-leaves s (record f { operands = below }) n))
acted-leaves (instr.Const t v) s f = omega arith
acted-leaves (instr.Un op) s f =
    popping-holds (Leaves false f) (operand_type op) f (λ a g. Goes (s, pushed (unary_result op a) g)) (λ a below e. omega (arith, less f.operands a below e))
acted-leaves (instr.Test op) s f =
    popping-holds (Leaves false f) (tested_type op) f (λ a g. Goes (s, pushed (truth (a == 0)) g)) (λ a below e. omega (arith, less f.operands a below e))
acted-leaves (instr.Rel op) s f =
    popping-holds (Leaves false f) op.width f (λ b g. popping op.width g (λ a h. Goes (s, pushed (truth (compares (bit_width op.width) op.op a b)) h)))
    (λ b below e. popping-holds (Leaves false f) op.width (record f { operands = below }) (λ a h. Goes (s, pushed (truth (compares (bit_width op.width) op.op a b)) h))
    (λ a below2 e2. omega (arith, less f.operands b below e, less below a below2 e2)))
acted-leaves (instr.Bin op) s f =
    popping-holds (Leaves false f) op.width f (λ b g. popping op.width g (λ a h. computed s h (binary_result (bit_width op.width) op.op a b)))
    (λ b below e. popping-holds (Leaves false f) op.width (record f { operands = below }) (λ a h. computed s h (binary_result (bit_width op.width) op.op a b))
    (λ a below2 e2. under (length below2 + 1) (length f.operands) (computed s (record f { operands = below2 }) (binary_result (bit_width op.width) op.op a b)) (omega (arith, less f.operands b below e, less below a below2 e2)) (computed-leaves s (record f { operands = below2 }) (binary_result (bit_width op.width) op.op a b))))
acted-leaves i s f = tt

-- ---- blocks

-- the open blocks don't count
behind-leaves : (more : Bool) (f : Frame) (blocks : List OpenBlock) (o : Next) → WhereGoes (Leaves more (record f { blocks = blocks })) o → WhereGoes (Leaves more f) o
behind-leaves true f blocks o h = h
behind-leaves false f blocks o h = h

pub advanced-leaves : (t : Tree) (b : OpenBlock) (outer : List OpenBlock) (s : Store) (f : Frame) → WhereGoes (LeavesFirst t f) (advanced t b outer s f)
advanced-leaves done b outer s f = tt
advanced-leaves (plain i rest) b outer s f =
    let blocks : List OpenBlock = record b { rest = rest } ∷ outer in
    behind-leaves (leaves_more i) f blocks (acted i s (record f { blocks = blocks })) (acted-leaves i s (record f { blocks = blocks }))
advanced-leaves (block t body rest) b outer s f = refl
advanced-leaves (loop t body rest) b outer s f = refl
advanced-leaves (choice t first second rest) b outer s f = by f.operands refl
  where
    test : (c : ℕ) (below : List ℕ) (is : Bool) → f.operands ≡ c ∷ below → WhereGoes (LeavesFirst (choice t first second rest) f) (kept s (cond is (Some (entered None (arity_of t) (cond (c == 0) second first) rest b outer (record f { operands = below }))) None))
    test c below true e = less f.operands c below e
    test c below false e = tt

    by : (os : List ℕ) → f.operands ≡ os → WhereGoes (LeavesFirst (choice t first second rest) f) (kept s (elim os as (λ z. Option Frame) [ [] ↦ None | c ∷ below ↦ cond (is_of I32 c) (Some (entered None (arity_of t) (cond (c == 0) second first) rest b outer (record f { operands = below }))) None ]))
    by [] e = tt
    by (c ∷ below) e = test c below (is_of I32 c) e

-- ---- the law

pub instruction-leaves : (i : Instr) (s : Store) (f : Frame) (next : Store × Frame) → acted i s f ≡ Goes next → Leaves (leaves_more i) f next.1
instruction-leaves i s f next e = goes-holds (Leaves (leaves_more i) f) (acted i s f) next e (acted-leaves i s f)

pub first-leaves : (t : Tree) (b : OpenBlock) (outer : List OpenBlock) (s : Store) (f : Frame) (next : Store × Frame) → advanced t b outer s f ≡ Goes next → LeavesFirst t f next.1
first-leaves t b outer s f next e = goes-holds (LeavesFirst t f) (advanced t b outer s f) next e (advanced-leaves t b outer s f)
