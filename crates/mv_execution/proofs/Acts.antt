-- Each instruction that begins no block and calls nothing goes on or traps in a typed frame, and what it leaves is typed.
use Rattle.std.proofs.Common.{true, false, cond, Bool, ◌≡◌, ℕ, zero, suc, ◌+◌, ◌-◌, ◌*◌, ◌/◌, ◌^◌, ◌<◌, ◌≤◌, List, [], ◌∷◌, ◌++◌, length, take, map, Option, Some, None, Result, Ok, Err, refl, sym, ap, ◌∙◌, subst, arith, append_assoc, length-append, lit<}
use Rattle.std.proofs.lemmas.List.{take_at}
use Rattle.std.proofs.lemmas.Bool.{le-leb, lt-ltb, ltb-false}
use Rattle.std.specs.Prelude.{nat_le, nat_lt, ◌==◌, ◌&&◌, slice_get, slice_set, slice_range, unwrap_or, IfOk}
use Rattle.std.proofs.Math.Nat.{lt_of_le_of_lt}
use Rattle.mv_calls.specs.declared.trap.Trap.TheVariants as trap
use Rattle.mv_syntax.specs.declared.ops.ValType.{ValType}
use Rattle.mv_syntax.specs.declared.ops.ValType.TheVariants.{I32}
use Rattle.mv_syntax.specs.declared.ops.UnOp.{UnOp}
use Rattle.mv_syntax.specs.declared.ops.UnOp.TheVariants.{Clz32, Ctz32, Popcnt32, Clz64, Ctz64, Popcnt64, Wrap, ExtendS, ExtendU}
use Rattle.mv_syntax.specs.declared.ops.TestOp.{TestOp}
use Rattle.mv_syntax.specs.declared.ops.TestOp.TheVariants.{Eqz32, Eqz64}
use Rattle.mv_syntax.specs.declared.module.Global.{Global}
use Rattle.mv_syntax.specs.declared.instr.Instr.{Instr}
use Rattle.mv_syntax.specs.declared.instr.Instr.TheVariants as instr
use Rattle.mv_syntax.specs.Types.{bit_width, operand_type, result_type, tested_type}
use Rattle.mv_validator.specs.Types.{operands_of, taken_by_un, given_by_un, taken_by_test, is_natural}
use Rattle.mv_validator.specs.Typing.{Context, HasType, Take, Types, only_if}
use Rattle.mv_arith.specs.declared.ArithTrap.{ArithTrap}
use Rattle.mv_arith.specs.declared.ArithTrap.TheVariants.{DivideByZero, Overflow}
use Rattle.mv_arith.specs.Integers.{signed, unary_result, binary_result, compares}
use Rattle.mv_arith.proofs.Laws.{wrapped-lt, unary_result-lt, binary_result-lt}
use Rattle.mv_memory.specs.Bytes.{page_limit, most_pages, zeros, little_endian, low_bytes, written, IsByte}
use Rattle.mv_memory.specs.Memory.{page_count, grown}
use Rattle.mv_memory.proofs.BytesLemmas.{bytes-zeros, bytes-written, length-written}
use Rattle.mv_memory.proofs.Laws.{length-low_bytes}
use Rattle.std.proofs.lemmas.List.Elements.{All-append}
use Rattle.mv_execution.specs.Values.{truth, is_width}
use Rattle.mv_execution.specs.Config.{Store, Frame}
use Rattle.mv_execution.specs.Rows.{Goes, Traps, Stuck, Next, kept, pushed, branched, returned, local_set, global_set, extended, loaded, stored, memory_grown, computed, acted, taking, popping}
use Rattle.mv_execution.specs.Fits.{IsOf, AreOf, IsSound, AreSound, in_function, Fits, FitsStore}
use Rattle.mv_execution.proofs.Stores.{bytes-low, grown-count, most-limit, read-lt}
use Rattle.mv_execution.proofs.Operands.{are-length, are-split, one, are-get, are-set, map-some, then-some, only-some, get-map, taken, popped, truth-of, width-some}
use Rattle.mv_execution.proofs.Branches.{Front, inside, front-fits, OutFits, branch-fits, with_own, set-own}

-- neither begins a block nor calls
abbrev pub stays : Instr → Bool
stays (instr.Block t) = false
stays (instr.Loop t) = false
stays (instr.If t) = false
stays instr.Else = false
stays instr.End = false
stays (instr.Call x) = false
stays (instr.CallIndirect x) = false
stays i = true

-- the types of what is there, where the instruction takes p and gives q
at-types : (c : Context) (f : Frame) (h : Front c f) (u p q x y : List ValType) → ◌≡◌ {A = List ValType × List ValType} (p, q) (x, y) → AreOf (x ++ u) h.own → Types (inside c f h) h.block.rest (y ++ u) (operands_of h.result) → AreOf (p ++ u) h.own × Types (inside c f h) h.block.rest (q ++ u) (operands_of h.result)
at-types c f h u p q x y e are typed =
    let xe : p ≡ x = ap (λ (z : List ValType × List ValType). z.0) e in
    let ye : q ≡ y = ap (λ (z : List ValType × List ValType). z.1) e in
    (subst (λ z. AreOf (z ++ u) h.own) (sym xe) are, subst (λ z. Types (inside c f h) h.block.rest (z ++ u) (operands_of h.result)) (sym ye) typed)

-- the frame with these operands of the innermost block
stay-fits : (c : Context) (f : Frame) (h : Front c f) (own : List ℕ) (types : List ValType) → AreOf types own → Types (inside c f h) h.block.rest types (operands_of h.result) → AreSound h.block.rest → Fits c (with_own c f h own)
stay-fits c f h own types are typed sound = front-fits c (with_own c f h own) (set-own c f h own) types are typed sound

-- a branch of a frame with these operands
branch-goes : (m c : Context) (s : Store) → FitsStore m s → (f : Frame) (h : Front c f) (own : List ℕ) (n : ℕ) (t : Option ValType) (u : List ValType) → slice_get (h.label ∷ h.labels) n ≡ Some t → AreOf (operands_of t ++ u) own → OutFits m c (kept s (branched n (with_own c f h own)))
branch-goes m c s store f h own n t u e are =
    let p = are-split (operands_of t) u own are in
    branch-fits m c s store (with_own c f h own) (set-own c f h own) n t p.0 p.1 e p.2 p.3

take-any : (c : Context) (ls : List ℕ) (last v : ℕ) (t : Option ValType) → slice_get c.labels last ≡ Some t → Take c ls t → slice_get c.labels (unwrap_or (slice_get ls v) last) ≡ Some t
take-any c [] last v t e h = e
take-any c (l ∷ ls) last zero t e h = h.0
take-any c (l ∷ ls) last (suc v) t e h = take-any c ls last v t e h.1

-- one of two
either : (P : Next → Type 0) (test : Bool) (a b : Next) → P a → P b → P (cond test a b)
either P true a b p q = p
either P false a b p q = q

-- the first of two, by a test that holds, and the second by one that doesn't
by-test : (P : Next → Type 0) (test : Bool) (a b : Next) → test ≡ true → P a → P (cond test a b)
by-test P test a b e p = subst (λ z. P (cond z a b)) (sym e) p

by-some : (P : Option Frame → Type 0) (test : Bool) (f : Frame) → test ≡ true → P (Some f) → P (cond test (Some f) None)
by-some P test f e p = subst (λ z. P (cond z (Some f) None)) (sym e) p

split-test : (P : Next → Type 0) (test : Bool) (a b : Next) → (test ≡ true → P a) → (test ≡ false → P b) → P (cond test a b)
split-test P true a b p q = p refl
split-test P false a b p q = q refl

-- the return of a frame that has its results on top
return-goes : (m c : Context) (s : Store) → FitsStore m s → (f : Frame) (h : Front c f) (u : List ValType) → AreOf (operands_of c.result ++ u) h.own → OutFits m c (kept s (returned f))
return-goes m c s store f h u are =
    let p = are-split (operands_of c.result) u h.own are in
    let ops : f.operands ≡ p.0 ++ (p.1 ++ h.below) = h.split ∙ ap (λ z. z ++ h.below) p.2 ∙ append_assoc p.0 p.1 h.below in
    let len : f.results ≡ length p.0 = h.gives ∙ are-length (operands_of c.result) p.0 p.3 in
    let top : take f.results f.operands ≡ p.0 = ap (take f.results) ops ∙ take_at p.0 (p.1 ++ h.below) f.results (sym len) in
    let enough : nat_le f.results (length f.operands) ≡ true = le-leb f.results (length f.operands) (omega (arith, len, ap (λ (z : List ℕ). length z) ops, length-append p.0 (p.1 ++ h.below))) in
    by-some (λ o. OutFits m c (kept s o)) (nat_le f.results (length f.operands)) (record f { operands = take f.results f.operands; blocks = [] }) enough
    (store, record { labels = []; results = []; blocks = (operands_of c.result, subst (λ z. AreOf (operands_of c.result) z) (sym top) p.3, refl); locals = h.locals; gives = h.gives })

-- a local that is set
abbrev set-locals : (c : Context) (f : Frame) (h : Front c f) (locals : List ℕ) → AreOf c.locals locals → Front c (record f { locals = locals })
set-locals c f h locals are =
    record { label = h.label; result = h.result; labels = h.labels; results = h.results; block = h.block; outer = h.outer; own = h.own; below = h.below; blocks = h.blocks; split = h.split; height = h.height; arity = h.arity; again = h.again; around = h.around; locals = are; gives = h.gives }

local-goes : (m c : Context) (s : Store) → FitsStore m s → (f : Frame) (h : Front c f) (n : ℕ) (t : ValType) (v : ℕ) (types : List ValType) → slice_get c.locals n ≡ Some t → IsOf t v → AreOf types h.own → Types (inside c f h) h.block.rest types (operands_of h.result) → AreSound h.block.rest → OutFits m c (kept s (local_set n v f))
local-goes m c s store f h n t v types e k are typed sound =
    let p = are-set c.locals f.locals n t v h.locals e k in
    by-some (λ o. OutFits m c (kept s o)) (nat_lt n (length f.locals)) (record f { locals = slice_set f.locals n v }) (lt-ltb n (length f.locals) p.1)
    (store, front-fits c (record f { locals = slice_set f.locals n v }) (set-locals c f h (slice_set f.locals n v) p.0) types are typed sound)

-- a global that is set
global-goes : (m c : Context) (s : Store) → FitsStore m s → (f : Frame) → Fits c f → (n : ℕ) (g : Global) (v : ℕ) → slice_get m.globals n ≡ Some g → IsOf g.vtype v → OutFits m c (global_set n v s f)
global-goes m c s store f fits n g v e k =
    let p = are-set (map (λ (x : Global). x.vtype) m.globals) s.globals n g.vtype v store.globals (get-map (λ (x : Global). x.vtype) m.globals n g e) k in
    by-test (OutFits m c) (nat_lt n (length s.globals)) (Goes (record s { globals = slice_set s.globals n v }, f)) Stuck (lt-ltb n (length s.globals) p.1)
    (record { bytes = store.bytes; pages = store.pages; globals = p.0; table = store.table }, fits)

-- a load
extended-lt : (t : ValType) (n : ℕ) (as_signed : Bool) (v : ℕ) → v < 2 ^ bit_width t → extended t n as_signed v < 2 ^ bit_width t
extended-lt t n true v h = wrapped-lt (bit_width t) (signed (8 * n) v)
extended-lt t n false v h = h

load-goes : (m c : Context) (s : Store) → FitsStore m s → (f : Frame) (t : ValType) (n : ℕ) (as_signed : Bool) (ea : ℕ) → is_width t n ≡ true → ((v : ℕ) → IsOf t v → Fits c (pushed v f)) → OutFits m c (loaded t n as_signed ea s f)
load-goes m c s store f t n as_signed ea w fits =
    let v = extended t n as_signed (little_endian (slice_range s.memory.bytes ea (ea + n))) in
    by-test (OutFits m c) (is_width t n) (cond (nat_lt (length s.memory.bytes) (ea + n)) (Traps trap.Bounds) (Goes (s, pushed v f))) Stuck w
    (split-test (OutFits m c) (nat_lt (length s.memory.bytes) (ea + n)) (Traps trap.Bounds) (Goes (s, pushed v f)) (λ e. tt)
    (λ e. (store, fits v (extended-lt t n as_signed (little_endian (slice_range s.memory.bytes ea (ea + n))) (read-lt t s.memory.bytes ea n store.bytes (ltb-false (length s.memory.bytes) (ea + n) e) w)))))

-- a store of bytes
store-goes : (m c : Context) (s : Store) → FitsStore m s → (f : Frame) (t : ValType) (n v ea : ℕ) → is_width t n ≡ true → Fits c f → OutFits m c (stored t n v ea s f)
store-goes m c s store f t n v ea w fits =
    let next : Store = record s { memory = record s.memory { bytes = written s.memory.bytes ea (low_bytes n v) } } in
    by-test (OutFits m c) (is_width t n) (cond (nat_lt (length s.memory.bytes) (ea + n)) (Traps trap.Bounds) (Goes (next, f))) Stuck w
    (split-test (OutFits m c) (nat_lt (length s.memory.bytes) (ea + n)) (Traps trap.Bounds) (Goes (next, f)) (λ e. tt)
    (λ e. (let same : length (written s.memory.bytes ea (low_bytes n v)) ≡ length s.memory.bytes = length-written s.memory.bytes ea (low_bytes n v) (omega (arith, length-low_bytes n v, ltb-false (length s.memory.bytes) (ea + n) e)) in
    (record { bytes = bytes-written s.memory.bytes ea (low_bytes n v) store.bytes (bytes-low n v); pages = subst (λ l. l / 65536 ≤ page_limit) (sym same) store.pages; globals = store.globals; table = store.table }, fits))))

-- pages that are added
grow-goes : (m c : Context) (s : Store) → FitsStore m s → (f : Frame) (n : ℕ) → ((v : ℕ) → IsOf I32 v → Fits c (pushed v f)) → OutFits m c (memory_grown n s f)
grow-goes m c s store f n fits =
    split-test (OutFits m c) (nat_lt (most_pages s.memory.max) (page_count s.memory + n)) (Goes (s, pushed (2 ^ 32 - 1) f)) (Goes (record s { memory = grown s.memory n }, pushed (page_count s.memory) f))
    (λ e. (store, fits (2 ^ 32 - 1) (lit< tt)))
    (λ e. (record { bytes = All-append IsByte s.memory.bytes (zeros (n * 65536)) store.bytes (bytes-zeros (n * 65536)); pages = rw (grown-count) (omega (arith, ltb-false (most_pages s.memory.max) (page_count s.memory + n) e, most-limit s.memory.max)); globals = store.globals; table = store.table }, fits (page_count s.memory) (lt_of_le_of_lt store.pages (lit< tt))))

-- a result of arithmetic, or its trap
computed-goes : (m c : Context) (s : Store) → FitsStore m s → (f : Frame) (t : ValType) (r : Result ℕ ArithTrap) → IfOk r (λ v. IsOf t v) → ((v : ℕ) → IsOf t v → Fits c (pushed v f)) → OutFits m c (computed s f r)
computed-goes m c s store f t (Ok v) k fits = (store, fits v k)
computed-goes m c s store f t (Err DivideByZero) k fits = tt
computed-goes m c s store f t (Err Overflow) k fits = tt

un-taken : (op : UnOp) → taken_by_un op ≡ operand_type op
un-taken Clz32 = refl
un-taken Ctz32 = refl
un-taken Popcnt32 = refl
un-taken Clz64 = refl
un-taken Ctz64 = refl
un-taken Popcnt64 = refl
un-taken Wrap = refl
un-taken ExtendS = refl
un-taken ExtendU = refl

un-given : (op : UnOp) → given_by_un op ≡ result_type op
un-given Clz32 = refl
un-given Ctz32 = refl
un-given Popcnt32 = refl
un-given Clz64 = refl
un-given Ctz64 = refl
un-given Popcnt64 = refl
un-given Wrap = refl
un-given ExtendS = refl
un-given ExtendU = refl

test-taken : (op : TestOp) → taken_by_test op ≡ tested_type op
test-taken Eqz32 = refl
test-taken Eqz64 = refl

-- a value on top of what is there
push-front : (c : Context) (f : Frame) (h : Front c f) (v : ℕ) (t : ValType) (u : List ValType) → IsOf t v → AreOf u h.own → Types (inside c f h) h.block.rest (t ∷ u) (operands_of h.result) → AreSound h.block.rest → Fits c (pushed v f)
push-front c f h v t u k are typed sound =
    subst (λ os. Fits c (record f { operands = v ∷ os })) (sym h.split) (stay-fits c f h (v ∷ h.own) (t ∷ u) (k, are) typed sound)

pub acted-goes : (m : Context) (ls : List ValType) (r : Option ValType) (s : Store) (f : Frame) (h : Front (in_function m ls r) f) (i : Instr) (x y u : List ValType) → FitsStore m s → AreOf (x ++ u) h.own → HasType (inside (in_function m ls r) f h) i x y → Types (inside (in_function m ls r) f h) h.block.rest (y ++ u) (operands_of h.result) → AreSound h.block.rest → IsSound i → stays i ≡ true → OutFits m (in_function m ls r) (acted i s f)
acted-goes m ls r s f h instr.Unreachable x y u store are ty typed sound k st = tt
acted-goes m ls r s f h instr.Nop x y u store are ty typed sound k st =
    let c = in_function m ls r in
    let a = at-types c f h u [] [] x y (cc) are typed in
    (store, front-fits c f h u a.0 a.1 sound)
acted-goes m ls r s f h (instr.Br n) x y u store are (t, e, (b, xe)) typed sound k st =
    let c = in_function m ls r in
    let are' : AreOf (operands_of t ++ (b ++ u)) h.own = subst (λ z. AreOf z h.own) (ap (λ z. z ++ u) xe ∙ append_assoc (operands_of t) b u) are in
    let p = are-split (operands_of t) (b ++ u) h.own are' in
    branch-fits m c s store f h n t p.0 p.1 e p.2 p.3
acted-goes m ls r s f h (instr.BrIf n) x y u store are ty typed sound k st =
    let c = in_function m ls r in
    let t = map-some (λ (t : Option ValType). (I32 ∷ operands_of t, operands_of t)) (slice_get (h.label ∷ h.labels) n) (x, y) ty in
    let a = at-types c f h u (I32 ∷ operands_of t.0) (operands_of t.0) x y t.2 are typed in
    let o = one I32 (operands_of t.0 ++ u) h.own a.0 in
    let g = with_own c f h o.1 in
    popped (OutFits m c) I32 f (λ v g. cond (v == 0) (Goes (s, g)) (kept s (branched n g))) o.0 (o.1 ++ h.below) (h.split ∙ ap (λ z. z ++ h.below) o.2) o.3
    (either (OutFits m c) (o.0 == 0) (Goes (s, g)) (kept s (branched n g)) (store, stay-fits c f h o.1 (operands_of t.0 ++ u) o.4 a.1 sound) (branch-goes m c s store f h o.1 n t.0 u t.1 o.4))
acted-goes m ls r s f h (instr.BrTable ns n) x y u store are (t, (e, es), (b, xe)) typed sound k st =
    let c = in_function m ls r in
    let are' : AreOf (I32 ∷ (operands_of t ++ (b ++ u))) h.own = subst (λ z. AreOf z h.own) (ap (λ z. z ++ u) xe ∙ append_assoc (I32 ∷ operands_of t) b u) are in
    let o = one I32 (operands_of t ++ (b ++ u)) h.own are' in
    popped (OutFits m c) I32 f (λ v g. kept s (branched (unwrap_or (slice_get ns v) n) g)) o.0 (o.1 ++ h.below) (h.split ∙ ap (λ z. z ++ h.below) o.2) o.3
    (branch-goes m c s store f h o.1 (unwrap_or (slice_get ns o.0) n) t (b ++ u) (take-any (inside c f h) ns n o.0 t e es) o.4)
acted-goes m ls r s f h instr.Return x y u store are (under, xe) typed sound k st =
    return-goes m (in_function m ls r) s store f h (under ++ u) (subst (λ z. AreOf z h.own) (ap (λ z. z ++ u) xe ∙ append_assoc (operands_of r) under u) are)
acted-goes m ls r s f h instr.Drop x y u store are (t, xe, ye) typed sound k st =
    let c = in_function m ls r in
    let o = one t u h.own (subst (λ z. AreOf (z ++ u) h.own) xe are) in
    taken (OutFits m c) f (λ v g. Goes (s, g)) o.0 (o.1 ++ h.below) (h.split ∙ ap (λ z. z ++ h.below) o.2)
    (store, stay-fits c f h o.1 u o.4 (subst (λ z. Types (inside c f h) h.block.rest (z ++ u) (operands_of h.result)) ye typed) sound)
acted-goes m ls r s f h instr.Select x y u store are (t, xe, ye) typed sound k st =
    let c = in_function m ls r in
    let o = one I32 (t ∷ t ∷ u) h.own (subst (λ z. AreOf (z ++ u) h.own) xe are) in
    let p = one t (t ∷ u) o.1 o.4 in
    let q = one t u p.1 p.4 in
    let typed' : Types (inside c f h) h.block.rest (t ∷ u) (operands_of h.result) = subst (λ z. Types (inside c f h) h.block.rest (z ++ u) (operands_of h.result)) ye typed in
    let kept : IsOf t (cond (o.0 == 0) p.0 q.0) = chosen t (o.0 == 0) p.0 q.0 p.3 q.3 in
    popped (OutFits m c) I32 f (λ v g. taking g (λ b g2. taking g2 (λ a g3. Goes (s, pushed (cond (v == 0) b a) g3)))) o.0 (o.1 ++ h.below) (h.split ∙ ap (λ z. z ++ h.below) o.2) o.3
    (taken (OutFits m c) (with_own c f h o.1) (λ b g2. taking g2 (λ a g3. Goes (s, pushed (cond (o.0 == 0) b a) g3))) p.0 (p.1 ++ h.below) (ap (λ z. z ++ h.below) p.2)
    (taken (OutFits m c) (with_own c f h p.1) (λ a g3. Goes (s, pushed (cond (o.0 == 0) p.0 a) g3)) q.0 (q.1 ++ h.below) (ap (λ z. z ++ h.below) q.2)
    (store, stay-fits c f h (cond (o.0 == 0) p.0 q.0 ∷ q.1) (t ∷ u) (kept, q.4) typed' sound)))
  where
    chosen : (t : ValType) (test : Bool) (a b : ℕ) → IsOf t a → IsOf t b → IsOf t (cond test a b)
    chosen t true a b h k = h
    chosen t false a b h k = k
acted-goes m ls r s f h (instr.LocalGet n) x y u store are ty typed sound k st =
    let c = in_function m ls r in
    let t = map-some (λ (t : ValType). ([], t ∷ [])) (slice_get ls n) (x, y) ty in
    let a = at-types c f h u [] (t.0 ∷ []) x y t.2 are typed in
    let v = are-get ls f.locals n t.0 h.locals t.1 in
    subst (λ o. OutFits m c (elim o as (λ z. Next) [ None ↦ Stuck | Some w ↦ Goes (s, pushed w f) ])) (sym v.1)
    (store, push-front c f h v.0 t.0 u v.2 a.0 a.1 sound)
acted-goes m ls r s f h (instr.LocalSet n) x y u store are ty typed sound k st =
    let c = in_function m ls r in
    let t = map-some (λ (t : ValType). (t ∷ [], [])) (slice_get ls n) (x, y) ty in
    let a = at-types c f h u (t.0 ∷ []) [] x y t.2 are typed in
    let o = one t.0 u h.own a.0 in
    taken (OutFits m c) f (λ v g. kept s (local_set n v g)) o.0 (o.1 ++ h.below) (h.split ∙ ap (λ z. z ++ h.below) o.2)
    (local-goes m c s store (with_own c f h o.1) (set-own c f h o.1) n t.0 o.0 u t.1 o.3 o.4 a.1 sound)
acted-goes m ls r s f h (instr.LocalTee n) x y u store are ty typed sound k st =
    let c = in_function m ls r in
    let t = map-some (λ (t : ValType). (t ∷ [], t ∷ [])) (slice_get ls n) (x, y) ty in
    let a = at-types c f h u (t.0 ∷ []) (t.0 ∷ []) x y t.2 are typed in
    let o = one t.0 u h.own a.0 in
    taken (OutFits m c) f (λ v g. kept s (local_set n v f)) o.0 (o.1 ++ h.below) (h.split ∙ ap (λ z. z ++ h.below) o.2)
    (local-goes m c s store f h n t.0 o.0 (t.0 ∷ u) t.1 o.3 a.0 a.1 sound)
acted-goes m ls r s f h (instr.GlobalGet n) x y u store are ty typed sound k st =
    let c = in_function m ls r in
    let t = map-some (λ (g : Global). ([], g.vtype ∷ [])) (slice_get m.globals n) (x, y) ty in
    let a = at-types c f h u [] (t.0.vtype ∷ []) x y t.2 are typed in
    let v = are-get (map (λ (g : Global). g.vtype) m.globals) s.globals n t.0.vtype store.globals (get-map (λ (g : Global). g.vtype) m.globals n t.0 t.1) in
    subst (λ o. OutFits m c (elim o as (λ z. Next) [ None ↦ Stuck | Some w ↦ Goes (s, pushed w f) ])) (sym v.1)
    (store, push-front c f h v.0 t.0.vtype u v.2 a.0 a.1 sound)
acted-goes m ls r s f h (instr.GlobalSet n) x y u store are ty typed sound k st =
    let c = in_function m ls r in
    let t = then-some (λ (g : Global). let o : Option (List ValType × List ValType) = only_if g.mutable (g.vtype ∷ [], []) in o) (slice_get m.globals n) (x, y) ty in
    let w = only-some {A = List ValType × List ValType} t.0.mutable (t.0.vtype ∷ [], []) (x, y) t.2 in
    let a = at-types c f h u (t.0.vtype ∷ []) [] x y w.1 are typed in
    let o = one t.0.vtype u h.own a.0 in
    taken (OutFits m c) f (λ v g. global_set n v s g) o.0 (o.1 ++ h.below) (h.split ∙ ap (λ z. z ++ h.below) o.2)
    (global-goes m c s store (with_own c f h o.1) (stay-fits c f h o.1 u o.4 a.1 sound) n t.0 o.0 t.1 o.3)
acted-goes m ls r s f h (instr.Load t n as_signed align offset) x y u store are ty typed sound k st =
    let c = in_function m ls r in
    let w = only-some {A = List ValType × List ValType} (m.memory && is_natural align n) (I32 ∷ [], t ∷ []) (x, y) ty in
    let a = at-types c f h u (I32 ∷ []) (t ∷ []) x y w.1 are typed in
    let o = one I32 u h.own a.0 in
    popped (OutFits m c) I32 f (λ base g. loaded t n as_signed (base + offset) s g) o.0 (o.1 ++ h.below) (h.split ∙ ap (λ z. z ++ h.below) o.2) o.3
    (load-goes m c s store (with_own c f h o.1) t n as_signed (o.0 + offset) k (λ v i. stay-fits c f h (v ∷ o.1) (t ∷ u) (i, o.4) a.1 sound))
acted-goes m ls r s f h (instr.Store t n align offset) x y u store are ty typed sound k st =
    let c = in_function m ls r in
    let w = only-some {A = List ValType × List ValType} (m.memory && is_natural align n) (t ∷ I32 ∷ [], []) (x, y) ty in
    let a = at-types c f h u (t ∷ I32 ∷ []) [] x y w.1 are typed in
    let o = one t (I32 ∷ u) h.own a.0 in
    let p = one I32 u o.1 o.4 in
    popped (OutFits m c) t f (λ v g. popping I32 g (λ base g2. stored t n v (base + offset) s g2)) o.0 (o.1 ++ h.below) (h.split ∙ ap (λ z. z ++ h.below) o.2) o.3
    (popped (OutFits m c) I32 (with_own c f h o.1) (λ base g2. stored t n o.0 (base + offset) s g2) p.0 (p.1 ++ h.below) (ap (λ z. z ++ h.below) p.2) p.3
    (store-goes m c s store (with_own c f h p.1) t n o.0 (p.0 + offset) k (stay-fits c f h p.1 u p.4 a.1 sound)))
acted-goes m ls r s f h instr.MemorySize x y u store are ty typed sound k st =
    let c = in_function m ls r in
    let w = only-some {A = List ValType × List ValType} m.memory ([], I32 ∷ []) (x, y) ty in
    let a = at-types c f h u [] (I32 ∷ []) x y w.1 are typed in
    (store, push-front c f h (page_count s.memory) I32 u (lt_of_le_of_lt store.pages (lit< tt)) a.0 a.1 sound)
acted-goes m ls r s f h instr.MemoryGrow x y u store are ty typed sound k st =
    let c = in_function m ls r in
    let w = only-some {A = List ValType × List ValType} m.memory (I32 ∷ [], I32 ∷ []) (x, y) ty in
    let a = at-types c f h u (I32 ∷ []) (I32 ∷ []) x y w.1 are typed in
    let o = one I32 u h.own a.0 in
    popped (OutFits m c) I32 f (λ n g. memory_grown n s g) o.0 (o.1 ++ h.below) (h.split ∙ ap (λ z. z ++ h.below) o.2) o.3
    (grow-goes m c s store (with_own c f h o.1) o.0 (λ v i. stay-fits c f h (v ∷ o.1) (I32 ∷ u) (i, o.4) a.1 sound))
acted-goes m ls r s f h (instr.Const t v) x y u store are ty typed sound k st =
    let c = in_function m ls r in
    let a = at-types c f h u [] (t ∷ []) x y (cc) are typed in
    (store, push-front c f h v t u k a.0 a.1 sound)
acted-goes m ls r s f h (instr.Un op) x y u store are ty typed sound k st =
    let c = in_function m ls r in
    let a = at-types c f h u (taken_by_un op ∷ []) (given_by_un op ∷ []) x y (cc) are typed in
    let o = one (taken_by_un op) u h.own a.0 in
    let v : IsOf (operand_type op) o.0 = subst (λ t. IsOf t o.0) (un-taken op) o.3 in
    let w : IsOf (given_by_un op) (unary_result op o.0) = subst (λ t. IsOf t (unary_result op o.0)) (sym (un-given op)) (unary_result-lt op o.0 v) in
    popped (OutFits m c) (operand_type op) f (λ b g. Goes (s, pushed (unary_result op b) g)) o.0 (o.1 ++ h.below) (h.split ∙ ap (λ z. z ++ h.below) o.2) v
    (store, stay-fits c f h (unary_result op o.0 ∷ o.1) (given_by_un op ∷ u) (w, o.4) a.1 sound)
acted-goes m ls r s f h (instr.Test op) x y u store are ty typed sound k st =
    let c = in_function m ls r in
    let a = at-types c f h u (taken_by_test op ∷ []) (I32 ∷ []) x y (cc) are typed in
    let o = one (taken_by_test op) u h.own a.0 in
    popped (OutFits m c) (tested_type op) f (λ b g. Goes (s, pushed (truth (b == 0)) g)) o.0 (o.1 ++ h.below) (h.split ∙ ap (λ z. z ++ h.below) o.2) (subst (λ t. IsOf t o.0) (test-taken op) o.3)
    (store, stay-fits c f h (truth (o.0 == 0) ∷ o.1) (I32 ∷ u) (truth-of (o.0 == 0), o.4) a.1 sound)
acted-goes m ls r s f h (instr.Rel op) x y u store are ty typed sound k st =
    let c = in_function m ls r in
    let a = at-types c f h u (op.width ∷ op.width ∷ []) (I32 ∷ []) x y (cc) are typed in
    let o = one op.width (op.width ∷ u) h.own a.0 in
    let p = one op.width u o.1 o.4 in
    popped (OutFits m c) op.width f (λ b g. popping op.width g (λ a g2. Goes (s, pushed (truth (compares (bit_width op.width) op.op a b)) g2))) o.0 (o.1 ++ h.below) (h.split ∙ ap (λ z. z ++ h.below) o.2) o.3
    (popped (OutFits m c) op.width (with_own c f h o.1) (λ a g2. Goes (s, pushed (truth (compares (bit_width op.width) op.op a o.0)) g2)) p.0 (p.1 ++ h.below) (ap (λ z. z ++ h.below) p.2) p.3
    (store, stay-fits c f h (truth (compares (bit_width op.width) op.op p.0 o.0) ∷ p.1) (I32 ∷ u) (truth-of (compares (bit_width op.width) op.op p.0 o.0), p.4) a.1 sound))
acted-goes m ls r s f h (instr.Bin op) x y u store are ty typed sound k st =
    let c = in_function m ls r in
    let a = at-types c f h u (op.width ∷ op.width ∷ []) (op.width ∷ []) x y (cc) are typed in
    let o = one op.width (op.width ∷ u) h.own a.0 in
    let p = one op.width u o.1 o.4 in
    popped (OutFits m c) op.width f (λ b g. popping op.width g (λ a g2. computed s g2 (binary_result (bit_width op.width) op.op a b))) o.0 (o.1 ++ h.below) (h.split ∙ ap (λ z. z ++ h.below) o.2) o.3
    (popped (OutFits m c) op.width (with_own c f h o.1) (λ a g2. computed s g2 (binary_result (bit_width op.width) op.op a o.0)) p.0 (p.1 ++ h.below) (ap (λ z. z ++ h.below) p.2) p.3
    (computed-goes m c s store (with_own c f h p.1) op.width (binary_result (bit_width op.width) op.op p.0 o.0) (binary_result-lt (bit_width op.width) op.op p.0 o.0 (width-some op.width) p.3 o.3) (λ v i. stay-fits c f h (v ∷ p.1) (op.width ∷ u) (i, p.4) a.1 sound)))
acted-goes m ls r s f h i x y u store are ty typed sound k st = absurd (cc)
