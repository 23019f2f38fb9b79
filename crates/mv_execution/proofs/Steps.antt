-- A typed configuration is never stuck, and what it comes to is typed.
use Rattle.std.proofs.Common.{true, false, cond, Bool, ◌≡◌, ℕ, ◌+◌, List, [], ◌∷◌, ◌++◌, length, take, drop, replicate, Option, Some, None, refl, sym, ap, ◌∙◌, subst, arith, append_assoc, length-append, lit<, append-nil}
use Rattle.mv_syntax.specs.Types.{same_type, same_types, same_result, same_function_type}
use Rattle.std.proofs.lemmas.List.{take_at, drop_at, take_all, reverse-append, reverse-reverse, length-reverse}
use Rattle.std.proofs.lemmas.Bool.{le-ltb}
use Rattle.std.specs.Prelude.{nat_le, nat_lt, slice_get, reverse, ◌&&◌}
use Rattle.std.specs.Option.{option_map}
use Rattle.mv_calls.specs.declared.trap.Trap.TheVariants as trap
use Rattle.mv_syntax.specs.declared.ops.ValType.{ValType}
use Rattle.mv_syntax.specs.declared.ops.ValType.TheVariants.{I32, I64}
use Rattle.mv_syntax.specs.declared.types.FuncType.{FuncType}
use Rattle.mv_syntax.specs.declared.instr.Instr.{Instr}
use Rattle.mv_syntax.specs.declared.instr.Instr.TheVariants as instr
use Rattle.mv_syntax.specs.Tree.{Tree, done, plain, block, loop, choice}
use Rattle.mv_validator.specs.Types.{operands_of}
use Rattle.mv_validator.specs.Typing.{Context, Types, func_type, called, called_by_entry}
use Rattle.mv_execution.specs.Values.{arity_of}
use Rattle.mv_execution.specs.Config.{Body, Function, Program, OpenBlock, Frame, Config, frame_limit, operand_limit, operand_count}
use Rattle.mv_execution.specs.Rows.{Out, Goes, Traps, Stuck, Next, popping, advanced}
use Rattle.mv_execution.specs.Step.{within_limit, went, entry_frame, without_operands, begun, invoked, called as called_now, called_as, called_entry, row, step_of}
use Rattle.mv_execution.specs.Run.{is_done, open_blocks, is_none, settled_frames}
use Rattle.mv_execution.specs.Fits.{IsOf, AreOf, AreSound, in_function, FitBlocks, FitsUnder, FitFrames, FitsBody, FitsProgram, FitsStore, FitsWaiting, FitsCalls, FitsConfig}
use Rattle.mv_execution.proofs.Operands.{are-length, are-append, are-split, one, map-some, popped}
use Rattle.mv_execution.proofs.Branches.{absorb, OutFits}
use Rattle.mv_execution.proofs.Advances.{Inner, inner, advanced-goes}

-- ---- ends of blocks and calls

done-is : (t : Tree) → is_done t ≡ true → t ≡ done
done-is done h = refl
done-is (plain i t) h = absurd (cc)
done-is (block ty b t) h = absurd (cc)
done-is (loop ty b t) h = absurd (cc)
done-is (choice ty a b t) h = absurd (cc)

-- blocks at their ends are left
abbrev SomeFit : Context → List OpenBlock → List ℕ → Type 0
SomeFit c bs operands = (labels ts : List (Option ValType)) × FitBlocks c labels ts bs [] operands

open-fits : (c : Context) (labels ts : List (Option ValType)) (bs : List OpenBlock) (operands : List ℕ) → FitBlocks c labels ts bs [] operands → SomeFit c (open_blocks bs) operands
open-fits c [] [] [] operands h = ([], [], h)
open-fits c [] (t ∷ ts) [] operands h = absurd h
open-fits c (l ∷ labels) [] [] operands h = absurd h
open-fits c (l ∷ labels) (t ∷ ts) [] operands h = absurd h
open-fits c [] [] (b ∷ bs) operands h = absurd h
open-fits c [] (t ∷ ts) (b ∷ bs) operands h = absurd h
open-fits c (l ∷ labels) [] (b ∷ bs) operands h = absurd h
open-fits c (l ∷ labels) (t ∷ ts) (b ∷ bs) operands h =
    by (is_done b.rest) refl (λ e. (let typed : h.4.types ≡ operands_of t = subst (λ x. Types (record c { labels = l ∷ labels }) x h.4.types (operands_of t)) (done-is b.rest e) h.4.typed in
    let are : AreOf (operands_of t) h.0 = subst (λ x. AreOf x h.0) typed h.4.are in
    open-fits c labels ts bs operands (subst (λ os. FitBlocks c labels ts bs [] os) (sym h.2) (absorb c labels ts bs (operands_of t) h.0 h.1 h.5 are))))
  where
    by : (d : Bool) → is_done b.rest ≡ d → (is_done b.rest ≡ true → SomeFit c (open_blocks bs) operands) → SomeFit c (cond d (open_blocks bs) (b ∷ bs)) operands
    by true e more = more e
    by false e more = (l ∷ labels, t ∷ ts, h)

none-fits : (c : Context) (bs : List OpenBlock) (operands : List ℕ) → SomeFit c bs operands → is_none bs ≡ true → AreOf (operands_of c.result) operands
none-fits c [] operands ([], [], h) e = subst (λ x. AreOf x operands) h.2 h.1
none-fits c [] operands ([], t ∷ ts, h) e = absurd h
none-fits c [] operands (l ∷ labels, [], h) e = absurd h
none-fits c [] operands (l ∷ labels, t ∷ ts, h) e = absurd h
none-fits c (b ∷ bs) operands s e = absurd (cc)

open-ready : (bs : List OpenBlock) → is_none (open_blocks bs) ≡ false → (b : OpenBlock) × (outer : List OpenBlock) × (open_blocks bs ≡ b ∷ outer) × (is_done b.rest ≡ false)
open-ready [] h = absurd (cc)
open-ready (b ∷ bs) h = by (is_done b.rest) refl h (λ k. open-ready bs k)
  where
    by : (d : Bool) → is_done b.rest ≡ d → is_none (cond d (open_blocks bs) (b ∷ bs)) ≡ false → (is_none (open_blocks bs) ≡ false → (c : OpenBlock) × (outer : List OpenBlock) × (open_blocks bs ≡ c ∷ outer) × (is_done c.rest ≡ false)) → (c : OpenBlock) × (outer : List OpenBlock) × (cond d (open_blocks bs) (b ∷ bs) ≡ c ∷ outer) × (is_done c.rest ≡ false)
    by true e h more = more h
    by false e h more = (b, bs, refl, e)

-- A call that waits, no call, or one that stands at an instruction.
abbrev pub FitsReady : Context → List ValType → Option ℕ → List Frame → List ℕ → Type 0
FitsReady m gs (Some x) frames given = FitsCalls m gs (Some x) frames given
FitsReady m gs None [] given = AreOf gs given
FitsReady m gs None (f ∷ fs) given = (given ≡ []) × FitFrames m gs [] (f ∷ fs) × ((b : OpenBlock) × (outer : List OpenBlock) × (f.blocks ≡ b ∷ outer) × (is_done b.rest ≡ false))

abbrev Ends : Context → List ValType → List ℕ × List Frame → Type 0
Ends m gs next = FitsReady m gs None next.1 next.0

pub settled-fits : (m : Context) (gs : List ValType) (pushed : List ValType) (given : List ℕ) (frames : List Frame) → FitFrames m gs pushed frames → AreOf pushed given → FitsReady m gs None (settled_frames given frames).1 (settled_frames given frames).0
settled-fits m gs pushed given [] h are = subst (λ ts. AreOf ts given) h are
settled-fits m gs pushed given (f ∷ fs) (ls, r, fit, more) are =
    let c = in_function m ls r in
    let ops = given ++ f.operands in
    let s = open-fits c fit.labels fit.results f.blocks ops (absorb c fit.labels fit.results f.blocks pushed given f.operands fit.blocks are) in
    by s (is_none (open_blocks f.blocks)) refl (λ e. (let full = none-fits c (open_blocks f.blocks) ops s e in
    let all : take f.results ops ≡ ops = take_all f.results ops (omega (arith, fit.gives, are-length (operands_of r) ops full)) in
    settled-fits m gs (operands_of r) (take f.results ops) fs more (subst (λ x. AreOf (operands_of r) x) (sym all) full)))
  where
    by : SomeFit (in_function m ls r) (open_blocks f.blocks) (given ++ f.operands) → (d : Bool) → is_none (open_blocks f.blocks) ≡ d → (is_none (open_blocks f.blocks) ≡ true → Ends m gs (settled_frames (take f.results (given ++ f.operands)) fs)) → Ends m gs (cond d (settled_frames (take f.results (given ++ f.operands)) fs) ([], record f { operands = given ++ f.operands; blocks = open_blocks f.blocks } ∷ fs))
    by s true e next = next e
    by s false e next = (refl, (ls, r, record { labels = s.0; results = s.1; blocks = s.2; locals = fit.locals; gives = fit.gives }, more), open-ready f.blocks e)

-- ---- an instruction

-- what one instruction leads to is typed
abbrev pub StepFits : Context → List ValType → Out Config → Type 0
StepFits m gs (Goes next) = FitsConfig m gs next
StepFits m gs (Traps t) = Unit {0}
StepFits m gs Stuck = ⊥

limit-fits : (m : Context) (gs : List ValType) (count : ℕ) (next : Config) → FitsConfig m gs next → StepFits m gs (within_limit count next)
limit-fits m gs count next h = by (nat_lt operand_limit count)
  where
    by : (b : Bool) → StepFits m gs (cond b (Traps trap.Operands) (Goes next))
    by true = tt
    by false = h

went-fits : (m : Context) (gs : List ValType) (ls : List ValType) (r : Option ValType) (c : Config) (fs : List Frame) (o : Next) → c.waiting ≡ None → c.given ≡ [] → FitFrames m gs (operands_of r) fs → OutFits m (in_function m ls r) o → StepFits m gs (went c fs o)
went-fits m gs ls r c fs (Goes next) w g more (store, fit) =
    limit-fits m gs (operand_count (next.1 ∷ fs)) (record c { store = next.0; frames = next.1 ∷ fs }) (record { store = store; calls = subst (λ x. FitsCalls m gs x (next.1 ∷ fs) c.given) (sym w) (subst (λ x. FitsCalls m gs None (next.1 ∷ fs) x) (sym g) ([], tt, (ls, r, fit, more))) })
went-fits m gs ls r c fs (Traps t) w g more h = tt
went-fits m gs ls r c fs Stuck w g more h = h

-- ---- calls

pub are-reverse : (ts : List ValType) (vs : List ℕ) → AreOf ts vs → AreOf (reverse ts) (reverse vs)
are-reverse [] [] h = tt
are-reverse [] (v ∷ vs) h = absurd h
are-reverse (t ∷ ts) [] h = absurd h
are-reverse (t ∷ ts) (v ∷ vs) h =
    let a : AreOf (reverse ts ++ t ∷ []) (reverse vs ++ v ∷ []) = are-append (reverse ts) (t ∷ []) (reverse vs) (v ∷ []) (are-reverse ts vs h.1) (h.0, tt) in
    subst (λ x. AreOf x (reverse (v ∷ vs))) (sym (reverse-append (t ∷ []) ts)) (subst (λ x. AreOf (reverse ts ++ t ∷ []) x) (sym (reverse-append (v ∷ []) vs)) a)

zero-of : (t : ValType) → IsOf t 0
zero-of I32 = lit< tt
zero-of I64 = lit< tt

are-zeros : (ts : List ValType) → AreOf ts (replicate (length ts) 0)
are-zeros [] = tt
are-zeros (t ∷ ts) = (zero-of t, are-zeros ts)

arity-length : (t : Option ValType) → arity_of t ≡ length (operands_of t)
arity-length None = refl
arity-length (Some u) = refl

-- the frame of a call
pub entry-fits : (m : Context) (t : FuncType) (body : Body) (args : List ℕ) (k : FitsBody m t (Some body)) → AreOf (reverse t.params) args → FitsUnder (in_function m (t.params ++ k.0) t.result) [] (entry_frame t body (reverse args))
entry-fits m t body args k are =
    let params : AreOf t.params (reverse args) = subst (λ x. AreOf x (reverse args)) (reverse-reverse t.params) (are-reverse (reverse t.params) args are) in
    let zeros : AreOf k.0 (replicate body.locals 0) = subst (λ n. AreOf k.0 (replicate n 0)) (sym k.1) (are-zeros k.0) in
    record { labels = t.result ∷ []; results = t.result ∷ []; blocks = ([], [], refl, refl, record { types = []; are = tt; typed = k.2; sound = k.3; arity = arity-length t.result; again = refl }, ([], tt, append-nil (operands_of t.result))); locals = are-append t.params k.0 (reverse args) (replicate body.locals 0) params zeros; gives = arity-length t.result }

-- the newest frame waits for a call's result, with these arguments on top
abbrev Calling : Context → List ValType → Config → List Frame → Frame → FuncType → Type 0
Calling m gs c fs f t = FitsStore m c.store × (c.waiting ≡ None) × (c.given ≡ []) × FitsWaiting m gs t (f ∷ fs)

begun-fits : (m : Context) (gs : List ValType) (x : ℕ) (t : FuncType) (c : Config) (fs : List Frame) (f : Frame) (o : Option Body) → func_type m x ≡ Some t → FitsBody m t o → Calling m gs c fs f t → StepFits m gs (begun x t c fs f o)
begun-fits m gs x t c fs f None e k (store, w, g, wait) =
    limit-fits m gs (operand_count (without_operands (length t.params) f ∷ fs) + arity_of t.result) (record c { frames = f ∷ fs; waiting = Some x }) (record { store = store; calls = (t, e, g, wait) })
begun-fits m gs x t c fs f (Some body) e k (store, w, g, (args, below, ops, are, more)) =
    let len : length args ≡ length t.params = omega (arith, are-length (reverse t.params) args are, length-reverse t.params) in
    let front : take (length t.params) f.operands ≡ args = ap (take (length t.params)) ops ∙ take_at args below (length t.params) len in
    let back : drop (length t.params) f.operands ≡ below = ap (drop (length t.params)) ops ∙ drop_at args below (length t.params) len in
    let frames : FitFrames m gs [] (entry_frame t body (reverse args) ∷ record f { operands = below } ∷ fs) = (t.params ++ k.0, t.result, entry-fits m t body args k are, more) in
    let there : FitFrames m gs [] (entry_frame t body (reverse (take (length t.params) f.operands)) ∷ without_operands (length t.params) f ∷ fs) = subst (λ z. FitFrames m gs [] (entry_frame t body (reverse z) ∷ without_operands (length t.params) f ∷ fs)) (sym front) (subst (λ z. FitFrames m gs [] (entry_frame t body (reverse args) ∷ record f { operands = z } ∷ fs)) (sym back) frames) in
    record { store = store; calls = subst (λ z. FitsCalls m gs z (entry_frame t body (reverse (take (length t.params) f.operands)) ∷ without_operands (length t.params) f ∷ fs) c.given) (sym w) (subst (λ z. FitsCalls m gs None (entry_frame t body (reverse (take (length t.params) f.operands)) ∷ without_operands (length t.params) f ∷ fs) z) (sym g) ([], tt, there)) }

invoked-fits : (m : Context) (gs : List ValType) (x : ℕ) (function : Function) (c : Config) (fs : List Frame) (f : Frame) → func_type m x ≡ Some function.ftype → FitsBody m function.ftype function.body → Calling m gs c fs f function.ftype → StepFits m gs (invoked x function c fs f)
invoked-fits m gs x function c fs f e k h =
    let wait = h.3 in
    let enough : nat_lt (length f.operands) (length function.ftype.params) ≡ false = le-ltb (length f.operands) (length function.ftype.params) (omega (arith, ap (λ (z : List ℕ). length z) wait.2, length-append wait.0 wait.1, are-length (reverse function.ftype.params) wait.0 wait.3, length-reverse function.ftype.params)) in
    subst (λ b. StepFits m gs (cond b Stuck (cond (nat_le frame_limit (length (f ∷ fs))) (Traps trap.Frames) (begun x function.ftype c fs f function.body)))) (sym enough) (by (nat_le frame_limit (length (f ∷ fs))) (begun x function.ftype c fs f function.body) (begun-fits m gs x function.ftype c fs f function.body e k h))
  where
    by : (b : Bool) (o : Out Config) → StepFits m gs o → StepFits m gs (cond b (Traps trap.Frames) o)
    by true o h = tt
    by false o h = h

called-fits : (m : Context) (gs : List ValType) (program : Program) → FitsProgram m program → (x : ℕ) (t : FuncType) (c : Config) (fs : List Frame) (f : Frame) → func_type m x ≡ Some t → Calling m gs c fs f t → StepFits m gs (called_now program x c fs f)
called-fits m gs program p x t c fs f e h =
    let k = p.each x t e in
    subst (λ o. StepFits m gs (elim o as (λ z. Out Config) [ None ↦ Stuck | Some function ↦ invoked x function c fs f ])) (sym k.1)
    (invoked-fits m gs x k.0 c fs f (e ∙ ap Some (sym k.2)) (subst (λ z. FitsBody m z k.0.body) (sym k.2) k.3) (subst (Calling m gs c fs f) (sym k.2) h))

-- types that are the same
type-same : (a b : ValType) → same_type a b ≡ true → a ≡ b
type-same I32 I32 h = refl
type-same I64 I64 h = refl
type-same I32 I64 h = absurd (cc)
type-same I64 I32 h = absurd (cc)

and-both : (a b : Bool) → (a && b) ≡ true → (a ≡ true) × (b ≡ true)
and-both true b h = (refl, h)
and-both false b h = absurd (cc)

types-same : (xs ys : List ValType) → same_types xs ys ≡ true → xs ≡ ys
types-same [] [] h = refl
types-same [] (y ∷ ys) h = absurd (cc)
types-same (x ∷ xs) [] h = absurd (cc)
types-same (x ∷ xs) (y ∷ ys) h =
    let b = and-both (same_type x y) (same_types xs ys) h in
    ap (λ z. z ∷ xs) (type-same x y b.0) ∙ ap (λ zs. y ∷ zs) (types-same xs ys b.1)

result-same : (x y : Option ValType) → same_result x y ≡ true → x ≡ y
result-same None None h = refl
result-same None (Some y) h = absurd (cc)
result-same (Some x) None h = absurd (cc)
result-same (Some x) (Some y) h = ap Some (type-same x y h)

pub function-same : (x y : FuncType) → same_function_type x y ≡ true → x ≡ y
function-same x y h =
    let b = and-both (same_types x.params y.params) (same_result x.result y.result) h in
    ap (λ p. let t : FuncType = record { params = p; result = x.result } in t) (types-same x.params y.params b.0) ∙ ap (λ r. let t : FuncType = record { params = y.params; result = r } in t) (result-same x.result y.result b.1)

-- through the table
as-fits : (m : Context) (gs : List ValType) (program : Program) → FitsProgram m program → (x : ℕ) (t u : FuncType) (c : Config) (fs : List Frame) (f : Frame) → func_type m x ≡ Some u → Calling m gs c fs f t → StepFits m gs (called_as program t x c fs f)
as-fits m gs program p x t u c fs f e h =
    let k = p.each x u e in
    subst (λ o. StepFits m gs (elim o as (λ z. Out Config) [ None ↦ Stuck | Some function ↦ cond (same_function_type function.ftype t) (invoked x function c fs f) (Traps trap.IndirectType) ])) (sym k.1)
    (by (same_function_type k.0.ftype t) (invoked x k.0 c fs f) (λ same. invoked-fits m gs x k.0 c fs f (e ∙ ap Some (sym k.2)) (subst (λ z. FitsBody m z k.0.body) (sym k.2) k.3) (subst (Calling m gs c fs f) (sym (function-same k.0.ftype t same)) h)))
  where
    by : (b : Bool) (o : Out Config) → (b ≡ true → StepFits m gs o) → StepFits m gs (cond b o (Traps trap.IndirectType))
    by true o h = h refl
    by false o h = tt

entry-goes : (m : Context) (gs : List ValType) (program : Program) → FitsProgram m program → (i : ℕ) (t : FuncType) (c : Config) (fs : List Frame) (f : Frame) (o : Option (Option ℕ)) → slice_get c.store.table i ≡ o → Calling m gs c fs f t → StepFits m gs (called_entry program t o c fs f)
entry-goes m gs program p i t c fs f None e h = tt
entry-goes m gs program p i t c fs f (Some None) e h = tt
entry-goes m gs program p i t c fs f (Some (Some x)) e h =
    let u = h.0.table i x e in
    as-fits m gs program p x t u.0 c fs f u.1 h

-- the newest frame, behind a call with these operands of its innermost block, waits for the result
waits-for : (m : Context) (gs : List ValType) (ls : List ValType) (r : Option ValType) (f : Frame) (fs : List Frame) (b : OpenBlock) (outer : List OpenBlock) (n : Inner (in_function m ls r) f b outer) (t : FuncType) (rest : Tree) (u : List ValType) (own : List ℕ) → AreOf (reverse t.params ++ u) own → Types (record (in_function m ls r) { labels = n.label ∷ n.labels }) rest (operands_of t.result ++ u) (operands_of n.result) → AreSound rest → AreOf ls f.locals → f.results ≡ length (operands_of r) → FitFrames m gs (operands_of r) fs → FitsWaiting m gs t (record f { operands = own ++ n.below; blocks = record b { rest = rest } ∷ outer } ∷ fs)
waits-for m gs ls r f fs b outer n t rest u own are typed sound locals gives more =
    let s = are-split (reverse t.params) u own are in
    (s.0, s.1 ++ n.below, ap (λ z. z ++ n.below) s.2 ∙ append_assoc s.0 s.1 n.below, s.3, (ls, r, record { labels = n.label ∷ n.labels; results = n.result ∷ n.results; blocks = (s.1, n.below, refl, n.height, record { types = u; are = s.4; typed = typed; sound = sound; arity = n.fits.arity; again = n.fits.again }, n.around); locals = locals; gives = gives }, more))

-- one instruction in front of the rest of a list
plain-fits : (m : Context) (gs : List ValType) (program : Program) → FitsProgram m program → (ls : List ValType) (r : Option ValType) (c : Config) (f : Frame) (fs : List Frame) (b : OpenBlock) (outer : List OpenBlock) (n : Inner (in_function m ls r) f b outer) (i : Instr) (rest : Tree) → FitsStore m c.store → c.waiting ≡ None → c.given ≡ [] → AreOf ls f.locals → f.results ≡ length (operands_of r) → FitFrames m gs (operands_of r) fs → Types (record (in_function m ls r) { labels = n.label ∷ n.labels }) (plain i rest) n.fits.types (operands_of n.result) → AreSound (plain i rest) → StepFits m gs (row program (plain i rest) b outer c fs f)
plain-fits m gs program p ls r c f fs b outer n (instr.Call x) rest store w g locals gives more (q, y, u, ty, xe, typed) sound =
    let t = map-some called (func_type m x) (q, y) ty in
    let qe : reverse t.0.params ≡ q = ap (λ (z : List ValType × List ValType). z.0) t.2 in
    let ye : operands_of t.0.result ≡ y = ap (λ (z : List ValType × List ValType). z.1) t.2 in
    let are : AreOf (reverse t.0.params ++ u) n.own = subst (λ z. AreOf (z ++ u) n.own) (sym qe) (subst (λ z. AreOf z n.own) xe n.fits.are) in
    let typed' : Types (record (in_function m ls r) { labels = n.label ∷ n.labels }) rest (operands_of t.0.result ++ u) (operands_of n.result) = subst (λ z. Types (record (in_function m ls r) { labels = n.label ∷ n.labels }) rest (z ++ u) (operands_of n.result)) (sym ye) typed in
    let wait : FitsWaiting m gs t.0 (record f { blocks = record b { rest = rest } ∷ outer } ∷ fs) = subst (λ os. FitsWaiting m gs t.0 (record f { operands = os; blocks = record b { rest = rest } ∷ outer } ∷ fs)) (sym n.split) (waits-for m gs ls r f fs b outer n t.0 rest u n.own are typed' sound.1 locals gives more) in
    called-fits m gs program p x t.0 c fs (record f { blocks = record b { rest = rest } ∷ outer }) t.1 (store, w, g, wait)
plain-fits m gs program p ls r c f fs b outer n (instr.CallIndirect k) rest store w g locals gives more (q, y, u, ty, xe, typed) sound =
    by m.table ty
  where
    by : (there : Bool) → cond there (option_map called_by_entry (slice_get m.types k)) None ≡ Some (q, y) → StepFits m gs (row program (plain (instr.CallIndirect k) rest) b outer c fs f)
    by false e = absurd (cc)
    by true e =
        let t = map-some called_by_entry (slice_get m.types k) (q, y) e in
        let qe : I32 ∷ reverse t.0.params ≡ q = ap (λ (z : List ValType × List ValType). z.0) t.2 in
        let ye : operands_of t.0.result ≡ y = ap (λ (z : List ValType × List ValType). z.1) t.2 in
        let o = one I32 (reverse t.0.params ++ u) n.own (subst (λ z. AreOf (z ++ u) n.own) (sym qe) (subst (λ z. AreOf z n.own) xe n.fits.are)) in
        let typed' : Types (record (in_function m ls r) { labels = n.label ∷ n.labels }) rest (operands_of t.0.result ++ u) (operands_of n.result) = subst (λ z. Types (record (in_function m ls r) { labels = n.label ∷ n.labels }) rest (z ++ u) (operands_of n.result)) (sym ye) typed in
        let wait = waits-for m gs ls r f fs b outer n t.0 rest u o.1 o.4 typed' sound.1 locals gives more in
        let f' : Frame = record f { blocks = record b { rest = rest } ∷ outer } in
        let f2 : Frame = record f { operands = o.1 ++ n.below; blocks = record b { rest = rest } ∷ outer } in
        let goes : StepFits m gs (called_entry program t.0 (slice_get c.store.table o.0) c fs f2) = entry-goes m gs program p o.0 t.0 c fs f2 (slice_get c.store.table o.0) refl (store, w, g, wait) in
        let is : slice_get program.types k ≡ Some t.0 = ap (λ (z : List FuncType). slice_get z k) p.types ∙ t.1 in
        subst (λ z. StepFits m gs (elim z as (λ v. Out Config) [ None ↦ Stuck | Some t' ↦ popping I32 f' (λ i h. called_entry program t' (slice_get c.store.table i) c fs h) ])) (sym is)
        (popped (StepFits m gs) I32 f' (λ i h. called_entry program t.0 (slice_get c.store.table i) c fs h) o.0 (o.1 ++ n.below) (n.split ∙ ap (λ z. z ++ n.below) o.2) o.3 goes)
plain-fits m gs program p ls r c f fs b outer n (instr.Block d) rest store w g locals gives more (q, y, u, ty, xe, typed) sound = absurd (cc)
plain-fits m gs program p ls r c f fs b outer n (instr.Loop d) rest store w g locals gives more (q, y, u, ty, xe, typed) sound = absurd (cc)
plain-fits m gs program p ls r c f fs b outer n (instr.If d) rest store w g locals gives more (q, y, u, ty, xe, typed) sound = absurd (cc)
plain-fits m gs program p ls r c f fs b outer n instr.Else rest store w g locals gives more (q, y, u, ty, xe, typed) sound = absurd (cc)
plain-fits m gs program p ls r c f fs b outer n instr.End rest store w g locals gives more (q, y, u, ty, xe, typed) sound = absurd (cc)
plain-fits m gs program p ls r c f fs b outer n i rest store w g locals gives more typed sound =
    went-fits m gs ls r c fs (advanced (plain i rest) b outer c.store f) w g more (advanced-goes m ls r c.store f b outer n (plain i rest) store locals gives typed sound refl)

row-fits : (m : Context) (gs : List ValType) (program : Program) → FitsProgram m program → (ls : List ValType) (r : Option ValType) (c : Config) (f : Frame) (fs : List Frame) (b : OpenBlock) (outer : List OpenBlock) (n : Inner (in_function m ls r) f b outer) (tree : Tree) → FitsStore m c.store → c.waiting ≡ None → c.given ≡ [] → AreOf ls f.locals → f.results ≡ length (operands_of r) → FitFrames m gs (operands_of r) fs → is_done tree ≡ false → Types (record (in_function m ls r) { labels = n.label ∷ n.labels }) tree n.fits.types (operands_of n.result) → AreSound tree → StepFits m gs (row program tree b outer c fs f)
row-fits m gs program p ls r c f fs b outer n done store w g locals gives more d typed sound = absurd (cc)
row-fits m gs program p ls r c f fs b outer n (plain i rest) store w g locals gives more d typed sound =
    plain-fits m gs program p ls r c f fs b outer n i rest store w g locals gives more typed sound
row-fits m gs program p ls r c f fs b outer n (block t body rest) store w g locals gives more d typed sound =
    went-fits m gs ls r c fs (advanced (block t body rest) b outer c.store f) w g more (advanced-goes m ls r c.store f b outer n (block t body rest) store locals gives typed sound tt)
row-fits m gs program p ls r c f fs b outer n (loop t body rest) store w g locals gives more d typed sound =
    went-fits m gs ls r c fs (advanced (loop t body rest) b outer c.store f) w g more (advanced-goes m ls r c.store f b outer n (loop t body rest) store locals gives typed sound tt)
row-fits m gs program p ls r c f fs b outer n (choice t first second rest) store w g locals gives more d typed sound =
    went-fits m gs ls r c fs (advanced (choice t first second rest) b outer c.store f) w g more (advanced-goes m ls r c.store f b outer n (choice t first second rest) store locals gives typed sound tt)

-- No instruction is stuck, and what it leads to fits.
pub step-fits : (m : Context) (gs : List ValType) (program : Program) → FitsProgram m program → (c : Config) (f : Frame) (fs : List Frame) → FitsStore m c.store → c.waiting ≡ None → FitsReady m gs None (f ∷ fs) c.given → StepFits m gs (step_of program c (f ∷ fs))
step-fits m gs program p c f fs store w (g, (ls, r, fit, more), (b, outer, e, d)) =
    let n = inner (in_function m ls r) f b outer fit e in
    subst (λ bs. StepFits m gs (elim bs as (λ z. Out Config) [ [] ↦ Stuck | x ∷ xs ↦ row program x.rest x xs c fs f ])) (sym e)
    (row-fits m gs program p ls r c f fs b outer n b.rest store w g fit.locals fit.gives more d n.fits.typed n.fits.sound)
