-- A prefix has a type, closed, exactly where its instructions leave frames.
use Rattle.std.proofs.Common.{true, false, cond, Bool, ◌≡◌, ℕ, zero, suc, ◌+◌, ◌<◌, ◌≤◌, List, [], ◌∷◌, ◌++◌, length, get_or, take, drop, Option, Some, None, refl, sym, ap, ◌∙◌, subst, arith}
use Rattle.std.specs.Prelude.{◌&&◌, option_and_then, is_some, slice_get}
use Rattle.mv_syntax.specs.declared.fault.ValidKind.{ValidKind}
use Rattle.mv_syntax.specs.declared.ops.ValType.{ValType}
use Rattle.mv_syntax.specs.declared.ops.ValType.TheVariants.{I32}
use Rattle.mv_syntax.specs.declared.instr.Instr.{Instr}
use Rattle.mv_syntax.specs.declared.instr.Instr.TheVariants.{Unreachable, Block, Loop, If, Else, End}
use Rattle.std.proofs.lemmas.List.{take-append-drop, take_more}
use Rattle.mv_syntax.specs.Tree.{Tree, done, plain, block, loop, choice, Rest, rest_of, other_of, joined, rests, in_front, IsBody}
use Rattle.mv_validator.specs.declared.control_frame.Kind.{Kind}
use Rattle.mv_validator.specs.declared.control_frame.Kind.TheVariants.{Body, Block as BlockKind, Loop as LoopKind, If as IfKind, Else as ElseKind}
use Rattle.mv_syntax.proofs.TreeLaws.{rests-behind, without-some}
use Rattle.mv_validator.specs.Types.{operands_of}
use Rattle.mv_validator.specs.Typing.{Context, IsTyped}
use Rattle.mv_validator.specs.OperandStack.{taken, all_taken}
use Rattle.mv_validator.specs.ControlFrames.{ControlFrame, context_at, behind, is_empty, is_complete, new_frame, is_if, may_end, ended, next, frames_after, accepts}
use Rattle.mv_validator.specs.Faults.{open_behind, open_after, closing, closed_front, kind_of, context_before, IsFirstFault}
use Rattle.mv_validator.proofs.Stacks.{append-none, map-some, bind-some, cond-some}
use Rattle.mv_validator.proofs.Rows.{same-block}
use Rattle.mv_validator.proofs.Claims.{start_of, accepts-typed, typed-accepts}

-- whether a block wants an `else` before it ends
abbrev pub not_b : Bool → Bool
not_b true = false
not_b false = true

abbrev pub wants_else : ControlFrame → Bool
wants_else l = not_b (may_end l.kind l.result)

abbrev pub wanting : List ControlFrame → List Bool
wanting [] = []
wanting (l ∷ ls) = wants_else l ∷ wanting ls

wanting-ended : (t : Option ValType) (ls : List ControlFrame) → wanting (ended t ls) ≡ wanting ls
wanting-ended t [] = refl
wanting-ended t (m ∷ ls) = refl

-- unreachable code has any result
unreachable-complete : (t : Option ValType) → elim (all_taken (operands_of t) [] true) as (λ x. Bool) [ None ↦ false | Some os ↦ is_empty os ] ≡ true
unreachable-complete None = refl
unreachable-complete (Some t) = refl

not-true : (b : Bool) → not_b b ≡ false → b ≡ true
not-true true h = refl
not-true false h = absurd (cc)

lacking : (k : Kind) (t : Option ValType) → not_b (may_end k t) ≡ true → k ≡ IfKind
lacking IfKind t h = refl
lacking Body t h = absurd (cc)
lacking BlockKind t h = absurd (cc)
lacking LoopKind t h = absurd (cc)
lacking ElseKind t h = absurd (cc)

accepts-step : (c : Context) (i : Instr) (code : List Instr) (ls m : List ControlFrame) → next c i ls ≡ Some m → accepts c (i ∷ code) ls ≡ accepts c code m
accepts-step c i code ls m e = ap (λ o. elim o as (λ x. Bool) [ None ↦ false | Some x ↦ accepts c code x ]) e

abbrev unreachable_frame : ControlFrame → ControlFrame
unreachable_frame l = record l { operands = []; unreachable = true }

unreachable-next : (c : Context) (l : ControlFrame) (ls : List ControlFrame) → next c Unreachable (l ∷ ls) ≡ Some (unreachable_frame l ∷ ls)
unreachable-next c l ls = refl

end-next : (c : Context) (l : ControlFrame) (ls : List ControlFrame) → may_end l.kind l.result ≡ true → next c End (unreachable_frame l ∷ ls) ≡ Some (ended l.result ls)
end-next c l ls may = ap (λ b. cond (b && is_complete (unreachable_frame l)) (Some (ended l.result ls)) None) may ∙ ap (λ b. cond b (Some (ended l.result ls)) None) (unreachable-complete l.result)

else-next : (c : Context) (l : ControlFrame) (ls : List ControlFrame) → l.kind ≡ IfKind → next c Else (unreachable_frame l ∷ ls) ≡ Some (new_frame ElseKind l.result ∷ ls)
else-next c l ls k = ap (λ b. cond (is_if b && is_complete (unreachable_frame l)) (Some (new_frame ElseKind l.result ∷ ls)) None) k ∙ ap (λ b. cond b (Some (new_frame ElseKind l.result ∷ ls)) None) (unreachable-complete l.result)

-- what closes the open lists is accepted
pub closing-accepted : (c : Context) (bs : List Bool) (ls : List ControlFrame) → wanting ls ≡ bs → accepts c (closing bs) ls ≡ true
closing-accepted c [] [] h = refl
closing-accepted c [] (l ∷ ls) h = absurd (cc)
closing-accepted c (b ∷ bs) [] h = absurd (cc)
closing-accepted c (false ∷ bs) (l ∷ ls) h =
    let here : wants_else l ≡ false = cc in
    let more : wanting ls ≡ bs = cc in
    let may = not-true (may_end l.kind l.result) here in
    let rest = closing-accepted c bs (ended l.result ls) (wanting-ended l.result ls ∙ more) in
    accepts-step c Unreachable (End ∷ closing bs) (l ∷ ls) (unreachable_frame l ∷ ls) (unreachable-next c l ls) ∙ accepts-step c End (closing bs) (unreachable_frame l ∷ ls) (ended l.result ls) (end-next c l ls may) ∙ rest
closing-accepted c (true ∷ bs) (l ∷ ls) h =
    let here : wants_else l ≡ true = cc in
    let more : wanting ls ≡ bs = cc in
    let k = lacking l.kind l.result here in
    let rest = closing-accepted c bs (ended l.result ls) (wanting-ended l.result ls ∙ more) in
    let n = new_frame ElseKind l.result in
    accepts-step c Unreachable (Else ∷ Unreachable ∷ End ∷ closing bs) (l ∷ ls) (unreachable_frame l ∷ ls) (unreachable-next c l ls) ∙ accepts-step c Else (Unreachable ∷ End ∷ closing bs) (unreachable_frame l ∷ ls) (n ∷ ls) (else-next c l ls k) ∙ accepts-step c Unreachable (End ∷ closing bs) (n ∷ ls) (unreachable_frame n ∷ ls) (unreachable-next c n ls) ∙ accepts-step c End (closing bs) (unreachable_frame n ∷ ls) (ended l.result ls) (end-next c n ls refl) ∙ rest

-- which lists are open behind an instruction
may-some : (t : Option ValType) → not_b (may_end IfKind t) ≡ is_some t
may-some None = refl
may-some (Some t) = refl

wanting-next : (c : Context) (i : Instr) (ls ls' : List ControlFrame) → next c i ls ≡ Some ls' → wanting ls' ≡ open_behind (wanting ls) i
wanting-next c i [] ls' h = absurd (cc)
wanting-next c (Block t) (l ∷ ls) ls' h = let e : new_frame BlockKind t ∷ l ∷ ls ≡ ls' = cc in sym (ap wanting e)
wanting-next c (Loop t) (l ∷ ls) ls' h = let e : new_frame LoopKind t ∷ l ∷ ls ≡ ls' = cc in sym (ap wanting e)
wanting-next c (If t) (l ∷ ls) ls' h =
    let m = map-some (λ os. new_frame IfKind t ∷ record l { operands = os } ∷ ls) (taken I32 l.operands l.unreachable) ls' h in
    sym (ap wanting m.2) ∙ ap (λ b. b ∷ wants_else l ∷ wanting ls) (may-some t)
wanting-next c Else (l ∷ ls) ls' h =
    let d = cond-some (is_if l.kind && is_complete l) (new_frame ElseKind l.result ∷ ls) ls' h in
    sym (ap wanting d.1)
wanting-next c End (l ∷ ls) ls' h =
    let d = cond-some (may_end l.kind l.result && is_complete l) (ended l.result ls) ls' h in
    sym (ap wanting d.1) ∙ wanting-ended l.result ls
wanting-next c i (l ∷ ls) ls' h =
    let m = map-some (λ x. x ∷ ls) (behind (context_at c (l ∷ ls)) i l) ls' h in
    let b = same-block (context_at c (l ∷ ls)) i l m.0 m.1 in
    let e : wants_else m.0 ≡ wants_else l = rw (b.kind, b.result) refl in
    sym (ap wanting m.2) ∙ ap (λ x. x ∷ wanting ls) e

pub wanting-after : (c : Context) (code : List Instr) (ls ls' : List ControlFrame) → frames_after c code ls ≡ Some ls' → wanting ls' ≡ open_after (wanting ls) code
wanting-after c [] ls ls' h = let e : ls ≡ ls' = cc in sym (ap wanting e)
wanting-after c (i ∷ code) ls ls' h =
    let b = bind-some (frames_after c code) (next c i ls) ls' h in
    wanting-after c code b.0 ls' b.2 ∙ ap (λ x. open_after x code) (wanting-next c i ls b.0 b.1)

-- a list of instructions in two parts
pub accepts-append : (c : Context) (p q : List Instr) (ls : List ControlFrame) → accepts c (p ++ q) ls ≡ elim (frames_after c p ls) as (λ x. Bool) [ None ↦ false | Some m ↦ accepts c q m ]
accepts-append c [] q ls = refl
accepts-append c (i ∷ p) q ls = by (next c i ls) (λ m. accepts-append c p q m)
  where
    by : (o : Option (List ControlFrame)) → ((m : List ControlFrame) → accepts c (p ++ q) m ≡ elim (frames_after c p m) as (λ x. Bool) [ None ↦ false | Some m ↦ accepts c q m ]) → elim o as (λ x. Bool) [ None ↦ false | Some m ↦ accepts c (p ++ q) m ] ≡ elim (option_and_then (frames_after c p) o) as (λ x. Bool) [ None ↦ false | Some m ↦ accepts c q m ]
    by None more = refl
    by (Some m) more = more m

-- a prefix that leaves frames is typed, closed
pub front-typed : (c : Context) (code : List Instr) (n : ℕ) (m : List ControlFrame) → frames_after c (take n code) (start_of c) ≡ Some m → IsTyped c (closed_front code n)
front-typed c code n m h =
    let bs = open_after (false ∷ []) (take n code) in
    accepts-typed c (closed_front code n) (accepts-append c (take n code) (closing bs) (start_of c) ∙ ap (λ o. elim o as (λ x. Bool) [ None ↦ false | Some m ↦ accepts c (closing bs) m ]) h ∙ closing-accepted c bs m (wanting-after c (take n code) (start_of c) m h))

-- and one that leaves none isn't
pub front-untyped : (c : Context) (code : List Instr) (n : ℕ) → frames_after c (take n code) (start_of c) ≡ None → IsTyped c (closed_front code n) → ⊥
front-untyped c code n h t =
    let bs = open_after (false ∷ []) (take n code) in
    let a = typed-accepts c (closed_front code n) t in
    let b : false ≡ true = sym (accepts-append c (take n code) (closing bs) (start_of c) ∙ ap (λ o. elim o as (λ x. Bool) [ None ↦ false | Some m ↦ accepts c (closing bs) m ]) h) ∙ a in
    absurd (cc)

-- a prefix of one that leaves frames leaves frames
pub frames-shorter : (c : Context) (code : List Instr) (n k : ℕ) (ls m : List ControlFrame) → n ≤ k → frames_after c (take k code) ls ≡ Some m → (x : List ControlFrame) × (frames_after c (take n code) ls ≡ Some x)
frames-shorter c code zero k ls m le h = (ls, refl)
frames-shorter c [] (suc n) k ls m le h = (ls, refl)
frames-shorter c (i ∷ code) (suc n) zero ls m le h = absurd (omega arith)
frames-shorter c (i ∷ code) (suc n) (suc k) ls m le h =
    let b = bind-some (frames_after c (take k code)) (next c i ls) m h in
    let s = frames-shorter c code n k b.0 m (omega arith) b.2 in
    (s.0, ap (option_and_then (frames_after c (take n code))) b.1 ∙ s.1)

-- the first instruction that leaves no frames is the first faulty one
pub first-fault : (c : Context) (code : List Instr) (at : ℕ) (i : Instr) (kind : ValidKind) (m : List ControlFrame) → slice_get code at ≡ Some i → frames_after c (take at code) (start_of c) ≡ Some m → frames_after c (take (at + 1) code) (start_of c) ≡ None → kind ≡ kind_of (context_before c code at) i → IsFirstFault c code at kind
first-fault c code at i kind m there some none is =
    record { instr = i; there = there; before = λ n le. (let s = frames-shorter c code n at (start_of c) m le some in front-typed c code n s.0 s.1); faulty = front-untyped c code (at + 1) none; kind_is = is }

-- how many blocks are open
joined-count : (make : Tree → Tree) (behind rs : List Rest) → joined make behind ≡ Some rs → length rs ≡ length behind
joined-count make [] rs h = absurd (cc)
joined-count make (after ∷ outer) rs h =
    let e : record { tree = make after.tree; other = after.other } ∷ outer ≡ rs = cc in sym (ap (λ (x : List Rest). length x) e)

ended-length : (t : Option ValType) (ls : List ControlFrame) → length (ended t ls) ≡ length ls
ended-length t [] = refl
ended-length t (m ∷ ls) = refl

next-length : (c : Context) (i : Instr) (ls ls' : List ControlFrame) (rs' rs : List Rest) → next c i ls ≡ Some ls' → in_front i rs' ≡ Some rs → length rs + length ls' ≡ length rs' + length ls
next-length c i [] ls' rs' rs n f = absurd (cc)
next-length c (Block t) (l ∷ ls) ls' [] rs n f = absurd (cc)
next-length c (Block t) (l ∷ ls) ls' (body ∷ outer) rs n f =
    let e : new_frame BlockKind t ∷ l ∷ ls ≡ ls' = cc in
    let w = without-some body.other (joined (block t body.tree) outer) rs f in
    omega (arith, joined-count (block t body.tree) outer rs w.1, ap (λ (x : List ControlFrame). length x) e)
next-length c (Loop t) (l ∷ ls) ls' [] rs n f = absurd (cc)
next-length c (Loop t) (l ∷ ls) ls' (body ∷ outer) rs n f =
    let e : new_frame LoopKind t ∷ l ∷ ls ≡ ls' = cc in
    let w = without-some body.other (joined (loop t body.tree) outer) rs f in
    omega (arith, joined-count (loop t body.tree) outer rs w.1, ap (λ (x : List ControlFrame). length x) e)
next-length c (If t) (l ∷ ls) ls' [] rs n f = absurd (cc)
next-length c (If t) (l ∷ ls) ls' (body ∷ outer) rs n f =
    let m = map-some (λ os. new_frame IfKind t ∷ record l { operands = os } ∷ ls) (taken I32 l.operands l.unreachable) ls' n in
    omega (arith, joined-count (choice t body.tree (other_of body.other)) outer rs f, ap (λ (x : List ControlFrame). length x) m.2)
next-length c Else (l ∷ ls) ls' [] rs n f = absurd (cc)
next-length c Else (l ∷ ls) ls' (r ∷ outer) rs n f =
    let d = cond-some (is_if l.kind && is_complete l) (new_frame ElseKind l.result ∷ ls) ls' n in
    let w = without-some r.other (Some (record { tree = done; other = Some r.tree } ∷ outer)) rs f in
    let e : record { tree = done; other = Some r.tree } ∷ outer ≡ rs = cc in
    omega (arith, ap (λ (x : List ControlFrame). length x) d.1, ap (λ (x : List Rest). length x) e)
next-length c End (l ∷ ls) ls' rs' rs n f =
    let d = cond-some (may_end l.kind l.result && is_complete l) (ended l.result ls) ls' n in
    let e : rest_of done ∷ rs' ≡ rs = cc in
    omega (arith, ap (λ (x : List ControlFrame). length x) d.1, ended-length l.result ls, ap (λ (x : List Rest). length x) e)
next-length c i (l ∷ ls) ls' [] rs n f = absurd (cc)
next-length c i (l ∷ ls) ls' (r ∷ outer) rs n f =
    let m = map-some (λ x. x ∷ ls) (behind (context_at c (l ∷ ls)) i l) ls' n in
    let e : record { tree = plain i r.tree; other = r.other } ∷ outer ≡ rs = cc in
    omega (arith, ap (λ (x : List ControlFrame). length x) m.2, ap (λ (x : List Rest). length x) e)

after-length : (c : Context) (code : List Instr) (ls m : List ControlFrame) (rs : List Rest) → frames_after c code ls ≡ Some m → rests code ≡ Some rs → length rs + length m ≡ length ls
after-length c [] ls m rs h e =
    let a : ls ≡ m = cc in
    let b : [] ≡ rs = cc in
    omega (arith, ap (λ (x : List ControlFrame). length x) a, ap (λ (x : List Rest). length x) b)
after-length c (i ∷ code) ls m rs h e =
    let b = bind-some (frames_after c code) (next c i ls) m h in
    let r = rests-behind i code rs e in
    omega (arith, after-length c code b.0 m r.0 b.2 r.1, next-length c i ls b.0 r.0 rs b.1 r.2)

-- the frames behind one more instruction
pub after-more : (c : Context) (p : List Instr) (i : Instr) (ls : List ControlFrame) → frames_after c (p ++ i ∷ []) ls ≡ option_and_then (next c i) (frames_after c p ls)
after-more c [] i ls = by (next c i ls)
  where
    by : (o : Option (List ControlFrame)) → option_and_then (frames_after c []) o ≡ o
    by None = refl
    by (Some m) = refl
after-more c (j ∷ p) i ls = by (next c j ls) (λ m. after-more c p i m)
  where
    by : (o : Option (List ControlFrame)) → ((m : List ControlFrame) → frames_after c (p ++ i ∷ []) m ≡ option_and_then (next c i) (frames_after c p m)) → option_and_then (frames_after c (p ++ i ∷ [])) o ≡ option_and_then (next c i) (option_and_then (frames_after c p) o)
    by None more = refl
    by (Some m) more = more m

-- a closed body whose instructions all leave frames is typed
pub whole-typed : (c : Context) (code : List Instr) (t : Tree) (m : List ControlFrame) → IsBody code t → frames_after c code (start_of c) ≡ Some m → IsTyped c code
whole-typed c code t m body h =
    let n = after-length c code (start_of c) m (rest_of t ∷ []) h body in
    let none : m ≡ [] = by m (omega (arith, n)) in
    accepts-typed c code (subst (λ x. accepts c x (start_of c) ≡ true) (append-none code) (accepts-append c code [] (start_of c) ∙ ap (λ o. elim o as (λ x. Bool) [ None ↦ false | Some m ↦ is_empty m ]) h ∙ ap is_empty none))
  where
    by : (x : List ControlFrame) → length x ≡ 0 → x ≡ []
    by [] e = refl
    by (y ∷ x) e = absurd (omega (arith, e))

-- a faulty instruction leaves a body untyped
pub fault-untyped : (c : Context) (code : List Instr) (at : ℕ) → frames_after c (take at code) (start_of c) ≡ None → IsTyped c code → ⊥
fault-untyped c code at none t =
    let a = typed-accepts c code t in
    let s : take at code ++ drop at code ≡ code = take-append-drop at code in
    let b : false ≡ true = sym (ap (λ x. accepts c x (start_of c)) (sym s) ∙ accepts-append c (take at code) (drop at code) (start_of c) ∙ ap (λ o. elim o as (λ x. Bool) [ None ↦ false | Some m ↦ accepts c (drop at code) m ]) none) ∙ a in
    absurd (cc)

-- the frames one instruction further on
pub after-at : (c : Context) (code : List Instr) (at : ℕ) (i : Instr) (ls m : List ControlFrame) → at < length code → i ≡ get_or code at i → frames_after c (take at code) ls ≡ Some m → frames_after c (take (at + 1) code) ls ≡ next c i m
after-at c code at i ls m lt is h =
    ap (λ x. frames_after c x ls) (take_more code at i lt) ∙ ap (λ x. frames_after c (take at code ++ x ∷ []) ls) (sym is) ∙ after-more c (take at code) i ls ∙ ap (option_and_then (next c i)) h
