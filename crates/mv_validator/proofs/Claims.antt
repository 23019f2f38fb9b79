-- What the frames say of the rest of the code: they accept it exactly where it has a type from operands for which they stand.
use Rattle.std.proofs.Common.{true, false, Bool, ◌≡◌, List, [], ◌∷◌, ◌++◌, Option, Some, None, refl, sym, ap, ◌∙◌, subst}
use Rattle.std.specs.Prelude.{◌&&◌, option_and_then}
use Rattle.std.specs.Option.{option_map}
use Rattle.mv_syntax.specs.declared.ops.ValType.{ValType}
use Rattle.mv_syntax.specs.declared.ops.ValType.TheVariants.{I32}
use Rattle.mv_syntax.specs.declared.instr.Instr.{Instr}
use Rattle.mv_syntax.specs.declared.instr.Instr.TheVariants.{Block, Loop, If, Else, End}
use Rattle.mv_syntax.specs.Tree.{Tree, done, plain, block, loop, choice, Rest, rest_of, other_of, without, opened, chosen, followed, elsed, in_front, rests}
use Rattle.mv_validator.specs.declared.control_frame.Kind.{Kind}
use Rattle.mv_validator.specs.declared.control_frame.Kind.TheVariants.{Body, Block as BlockKind, Loop as LoopKind, If as IfKind, Else as ElseKind}
use Rattle.mv_syntax.proofs.TreeLaws.{rests-behind, without-some, front-some}
use Rattle.mv_validator.specs.Types.{operands_of}
use Rattle.mv_validator.specs.Typing.{Context, in_block, Types, IsTyped}
use Rattle.mv_validator.specs.OperandStack.{all_taken, taken}
use Rattle.mv_validator.specs.ControlFrames.{ControlFrame, label_of, context_at, behind, is_empty, is_complete, new_frame, is_if, may_end, ended, next, accepts}
use Rattle.mv_validator.proofs.Stacks.{OperandStack, Stands, map-some, cond-some, taken-from, taken-to, pushed-from, pushed-to, exactly-from, exactly-to}
use Rattle.mv_validator.proofs.Rows.{Leads, from-behind, to-behind, same-block}

-- the other list of an `if` has its type; nothing else has another list
abbrev pub Other : Context → Kind → Option ValType → Option Tree → Type 0
Other c IfKind t o = Types c (other_of o) [] (operands_of t)
Other c k t o = o ≡ None

-- what is left of a block leads from some operands, under those that were pushed, to what it gives
pub record Here (c : Context) (pushed : List ValType) (l : ControlFrame) (r : Rest) : Type 0 where
  pub operands : List ValType
  pub stands : Stands l.operands l.unreachable operands
  pub typed : Types c r.tree (pushed ++ operands) (operands_of l.result)
  pub other : Other c l.kind l.result r.other

abbrev pub Claim : Context → List ValType → List ControlFrame → List Rest → Type 0
Claim c pushed [] [] = Unit {0}
Claim c pushed [] (r ∷ rs) = ⊥
Claim c pushed (l ∷ ls) [] = ⊥
Claim c pushed (l ∷ ls) (r ∷ rs) = Here (context_at c (l ∷ ls)) pushed l r × Claim c (operands_of l.result) ls rs

and-true : (a b : Bool) → (a && b) ≡ true → (a ≡ true) × (b ≡ true)
and-true true b h = (refl, h)
and-true false b h = absurd (cc)

if-is : (k : Kind) → is_if k ≡ true → k ≡ IfKind
if-is IfKind h = refl
if-is Body h = absurd (cc)
if-is BlockKind h = absurd (cc)
if-is LoopKind h = absurd (cc)
if-is ElseKind h = absurd (cc)

complete-from : (l : ControlFrame) → is_complete l ≡ true → Stands l.operands l.unreachable (operands_of l.result)
complete-from l h = by (all_taken (operands_of l.result) l.operands l.unreachable) refl h
  where
    by : (o : Option OperandStack) → all_taken (operands_of l.result) l.operands l.unreachable ≡ o → elim o as (λ x. Bool) [ None ↦ false | Some os ↦ is_empty os ] ≡ true → Stands l.operands l.unreachable (operands_of l.result)
    by None e h' = absurd (cc)
    by (Some os) e h' = exactly-from (operands_of l.result) l.operands os l.unreachable e h'

complete-to : (l : ControlFrame) → Stands l.operands l.unreachable (operands_of l.result) → is_complete l ≡ true
complete-to l s =
    let e = exactly-to (operands_of l.result) l.operands l.unreachable s in
    ap (λ o. elim o as (λ x. Bool) [ None ↦ false | Some os ↦ is_empty os ]) e.1 ∙ e.2

-- an instruction of the list itself
claim-plain : (c : Context) (i : Instr) (l l' : ControlFrame) (ls : List ControlFrame) (rs' : List Rest) → behind (context_at c (l ∷ ls)) i l ≡ Some l' → Claim c [] (l' ∷ ls) rs' → (rs : List Rest) × (followed i rs' ≡ Some rs) × Claim c [] (l ∷ ls) rs
claim-plain c i l l' ls [] h k = absurd k
claim-plain c i l l' ls (r ∷ rs) h k =
    let b = same-block (context_at c (l ∷ ls)) i l l' h in
    let here = k.0 in
    let a = from-behind (context_at c (l ∷ ls)) i l l' here.operands h here.stands in
    let same : context_at c (l' ∷ ls) ≡ context_at c (l ∷ ls) = rw (b.kind, b.result) refl in
    let t0 : Types (context_at c (l ∷ ls)) r.tree here.operands (operands_of l'.result) = subst (λ x. Types x r.tree here.operands (operands_of l'.result)) same here.typed in
    let t1 : Types (context_at c (l ∷ ls)) r.tree (a.y ++ a.below) (operands_of l.result) = subst (λ u. Types (context_at c (l ∷ ls)) r.tree (a.y ++ a.below) (operands_of u)) b.result (subst (λ m. Types (context_at c (l ∷ ls)) r.tree m (operands_of l'.result)) a.to t0) in
    let o0 : Other (context_at c (l ∷ ls)) l'.kind l'.result r.other = subst (λ x. Other x l'.kind l'.result r.other) same here.other in
    let o1 : Other (context_at c (l ∷ ls)) l.kind l.result r.other = subst (λ u. Other (context_at c (l ∷ ls)) l.kind u r.other) b.result (subst (λ u. Other (context_at c (l ∷ ls)) u l'.result r.other) b.kind o0) in
    (record { tree = plain i r.tree; other = r.other } ∷ rs, refl, (record { operands = a.x ++ a.below; stands = a.from; typed = (a.x, a.y, a.below, a.typed, refl, t1); other = o1 }, subst (λ t. Claim c (operands_of t) ls rs) b.result k.1))

plain-claim : (c : Context) (i : Instr) (l : ControlFrame) (ls : List ControlFrame) (rs' rs : List Rest) → followed i rs' ≡ Some rs → Claim c [] (l ∷ ls) rs → (l' : ControlFrame) × (behind (context_at c (l ∷ ls)) i l ≡ Some l') × Claim c [] (l' ∷ ls) rs'
plain-claim c i l ls [] rs h k = absurd (cc)
plain-claim c i l ls (r ∷ rs) all h k =
    let e : record { tree = plain i r.tree; other = r.other } ∷ rs ≡ all = cc in
    let k' : Claim c [] (l ∷ ls) (record { tree = plain i r.tree; other = r.other } ∷ rs) = subst (λ x. Claim c [] (l ∷ ls) x) (sym e) k in
    let here = k'.0 in
    let t = here.typed in
    let a : Leads (context_at c (l ∷ ls)) i l (t.1 ++ t.2) = record { x = t.0; y = t.1; below = t.2; typed = t.3; from = subst (λ x. Stands l.operands l.unreachable x) t.4 here.stands; to = refl } in
    let d = to-behind (context_at c (l ∷ ls)) i l (t.1 ++ t.2) a in
    let b = same-block (context_at c (l ∷ ls)) i l d.frame d.is in
    let same : context_at c (l ∷ ls) ≡ context_at c (d.frame ∷ ls) = rw (b.kind, b.result) refl in
    let t1 : Types (context_at c (d.frame ∷ ls)) r.tree (t.1 ++ t.2) (operands_of d.frame.result) = subst (λ x. Types x r.tree (t.1 ++ t.2) (operands_of d.frame.result)) same (rw b.result t.5) in
    let o1 : Other (context_at c (d.frame ∷ ls)) d.frame.kind d.frame.result r.other = subst (λ x. Other x d.frame.kind d.frame.result r.other) same (rw (b.kind, b.result) here.other) in
    (d.frame, d.is, (record { operands = t.1 ++ t.2; stands = d.stands; typed = t1; other = o1 }, subst (λ x. Claim c (operands_of x) ls rs) (sym b.result) k'.1))

-- a block begins
joined-claim : (c : Context) (make : Tree → Tree) (new : ControlFrame) (body : Rest) (rs' : List Rest) (l : ControlFrame) (ls : List ControlFrame) → Claim c (operands_of new.result) (l ∷ ls) rs' → (after : Rest) × (outer : List Rest) × (rs' ≡ after ∷ outer)
joined-claim c make new body [] l ls k = absurd k
joined-claim c make new body (after ∷ outer) l ls k = (after, outer, refl)

stands-nothing : (m : List ValType) → Stands [] false m → m ≡ []
stands-nothing m h = h

open-claim : (c : Context) (k : Kind) (t : Option ValType) (make : Tree → Tree → Tree) (l : ControlFrame) (ls : List ControlFrame) (rs' : List Rest)
    → ((d : Context) (o : Option Tree) → Other d k t o → o ≡ None)
    → ((d : Context) (body after : Tree) (a b : List ValType) → Types (in_block d (label_of k t)) body [] (operands_of t) → Types d after (operands_of t ++ a) b → Types d (make body after) a b)
    → Claim c [] (new_frame k t ∷ l ∷ ls) rs' → (rs : List Rest) × (opened make rs' ≡ Some rs) × Claim c [] (l ∷ ls) rs
open-claim c k t make l ls [] only build h = absurd h
open-claim c k t make l ls (body ∷ []) only build h = absurd h.1
open-claim c k t make l ls (body ∷ after ∷ outer) only build h =
    let here = h.0 in
    let there = h.1.0 in
    let none = only (context_at c (new_frame k t ∷ l ∷ ls)) body.other here.other in
    let b : Types (in_block (context_at c (l ∷ ls)) (label_of k t)) body.tree [] (operands_of t) = subst (λ m. Types (in_block (context_at c (l ∷ ls)) (label_of k t)) body.tree m (operands_of t)) here.stands here.typed in
    (record { tree = make body.tree after.tree; other = after.other } ∷ outer, ap (λ o. without o (Some (record { tree = make body.tree after.tree; other = after.other } ∷ outer))) none, (record { operands = there.operands; stands = there.stands; typed = build (context_at c (l ∷ ls)) body.tree after.tree there.operands (operands_of l.result) b there.typed; other = there.other }, h.1.1))

claim-open : (c : Context) (k : Kind) (t : Option ValType) (make : Tree → Tree → Tree) (l : ControlFrame) (ls : List ControlFrame) (rs' rs : List Rest)
    → ((d : Context) → Other d k t None)
    → ((d : Context) (body after : Tree) (a b : List ValType) → Types d (make body after) a b → Types (in_block d (label_of k t)) body [] (operands_of t) × Types d after (operands_of t ++ a) b)
    → opened make rs' ≡ Some rs → Claim c [] (l ∷ ls) rs → Claim c [] (new_frame k t ∷ l ∷ ls) rs'
claim-open c k t make l ls [] rs other split e h = absurd (cc)
claim-open c k t make l ls (body ∷ []) rs other split e h = let w = without-some body.other None rs e in absurd (cc)
claim-open c k t make l ls (body ∷ after ∷ outer) rs other split e h =
    let w = without-some body.other (Some (record { tree = make body.tree after.tree; other = after.other } ∷ outer)) rs e in
    let same : record { tree = make body.tree after.tree; other = after.other } ∷ outer ≡ rs = cc in
    let h' : Claim c [] (l ∷ ls) (record { tree = make body.tree after.tree; other = after.other } ∷ outer) = subst (λ x. Claim c [] (l ∷ ls) x) (sym same) h in
    let there = h'.0 in
    let t2 = split (context_at c (l ∷ ls)) body.tree after.tree there.operands (operands_of l.result) there.typed in
    (record { operands = []; stands = refl; typed = t2.0; other = subst (λ o. Other (context_at c (new_frame k t ∷ l ∷ ls)) k t o) (sym w.0) (other (context_at c (new_frame k t ∷ l ∷ ls))) }, (record { operands = there.operands; stands = there.stands; typed = t2.1; other = there.other }, h'.1))

-- an `if` begins
if-claim : (c : Context) (t : Option ValType) (l : ControlFrame) (os : OperandStack) (ls : List ControlFrame) (rs' : List Rest) → taken I32 l.operands l.unreachable ≡ Some os → Claim c [] (new_frame IfKind t ∷ record l { operands = os } ∷ ls) rs' → (rs : List Rest) × (chosen t rs' ≡ Some rs) × Claim c [] (l ∷ ls) rs
if-claim c t l os ls [] tk h = absurd h
if-claim c t l os ls (body ∷ []) tk h = absurd h.1
if-claim c t l os ls (body ∷ after ∷ outer) tk h =
    let here = h.0 in
    let there = h.1.0 in
    let b : Types (in_block (context_at c (l ∷ ls)) t) body.tree [] (operands_of t) = subst (λ m. Types (in_block (context_at c (l ∷ ls)) t) body.tree m (operands_of t)) here.stands here.typed in
    (record { tree = choice t body.tree (other_of body.other) after.tree; other = after.other } ∷ outer, refl, (record { operands = I32 ∷ there.operands; stands = taken-from I32 l.operands os l.unreachable there.operands tk there.stands; typed = (there.operands, refl, b, here.other, there.typed); other = there.other }, h.1.1))

claim-if : (c : Context) (t : Option ValType) (l : ControlFrame) (ls : List ControlFrame) (rs' rs : List Rest) → chosen t rs' ≡ Some rs → Claim c [] (l ∷ ls) rs → (os : OperandStack) × (taken I32 l.operands l.unreachable ≡ Some os) × Claim c [] (new_frame IfKind t ∷ record l { operands = os } ∷ ls) rs'
claim-if c t l ls [] rs e h = absurd (cc)
claim-if c t l ls (body ∷ []) rs e h = absurd (cc)
claim-if c t l ls (body ∷ after ∷ outer) rs e h =
    let same : record { tree = choice t body.tree (other_of body.other) after.tree; other = after.other } ∷ outer ≡ rs = cc in
    let h' : Claim c [] (l ∷ ls) (record { tree = choice t body.tree (other_of body.other) after.tree; other = after.other } ∷ outer) = subst (λ x. Claim c [] (l ∷ ls) x) (sym same) h in
    let there = h'.0 in
    let ty = there.typed in
    let k = taken-to I32 l.operands l.unreachable ty.0 (subst (λ m. Stands l.operands l.unreachable m) ty.1 there.stands) in
    (k.0, k.1, (record { operands = []; stands = refl; typed = ty.2; other = ty.3 }, (record { operands = ty.0; stands = k.2; typed = ty.4; other = there.other }, h'.1)))

-- an `else`
else-claim : (c : Context) (l : ControlFrame) (ls : List ControlFrame) (rs' : List Rest) → l.kind ≡ IfKind → is_complete l ≡ true → Claim c [] (new_frame ElseKind l.result ∷ ls) rs' → (rs : List Rest) × (elsed rs' ≡ Some rs) × Claim c [] (l ∷ ls) rs
else-claim c l ls [] k done' h = absurd h
else-claim c l ls (r ∷ outer) k done' h =
    let here = h.0 in
    let none : r.other ≡ None = here.other in
    let b : Types (in_block (context_at c ls) l.result) r.tree [] (operands_of l.result) = subst (λ m. Types (in_block (context_at c ls) l.result) r.tree m (operands_of l.result)) here.stands here.typed in
    let o : Other (context_at c (l ∷ ls)) l.kind l.result (Some r.tree) = rw k b in
    (record { tree = done; other = Some r.tree } ∷ outer, ap (λ x. without x (Some (record { tree = done; other = Some r.tree } ∷ outer))) none, (record { operands = operands_of l.result; stands = complete-from l done'; typed = refl; other = o }, h.1))

other-some : (c : Context) (k : Kind) (t : Option ValType) (tree : Tree) → Other c k t (Some tree) → k ≡ IfKind
other-some c IfKind t tree h = refl
other-some c Body t tree h = absurd (cc)
other-some c BlockKind t tree h = absurd (cc)
other-some c LoopKind t tree h = absurd (cc)
other-some c ElseKind t tree h = absurd (cc)

claim-else : (c : Context) (l : ControlFrame) (ls : List ControlFrame) (rs' rs : List Rest) → elsed rs' ≡ Some rs → Claim c [] (l ∷ ls) rs → (l.kind ≡ IfKind) × (is_complete l ≡ true) × Claim c [] (new_frame ElseKind l.result ∷ ls) rs'
claim-else c l ls [] rs e h = absurd (cc)
claim-else c l ls (r ∷ outer) rs e h =
    let w = without-some r.other (Some (record { tree = done; other = Some r.tree } ∷ outer)) rs e in
    let same : record { tree = done; other = Some r.tree } ∷ outer ≡ rs = cc in
    let h' : Claim c [] (l ∷ ls) (record { tree = done; other = Some r.tree } ∷ outer) = subst (λ x. Claim c [] (l ∷ ls) x) (sym same) h in
    let here = h'.0 in
    let k = other-some (context_at c (l ∷ ls)) l.kind l.result r.tree here.other in
    let o : Types (in_block (context_at c ls) l.result) r.tree [] (operands_of l.result) = rw k at here.other in
    (k, complete-to l (subst (λ m. Stands l.operands l.unreachable m) here.typed here.stands), (record { operands = []; stands = refl; typed = o; other = w.0 }, h'.1))

-- an `end`
ended-claim : (c : Context) (t : Option ValType) (ls : List ControlFrame) (rs : List Rest) → Claim c [] (ended t ls) rs → Claim c (operands_of t) ls rs
ended-claim c t [] [] h = h
ended-claim c t [] (r ∷ rs) h = h
ended-claim c t (m ∷ ls) [] h = h
ended-claim c t (m ∷ ls) (r ∷ rs) h =
    let here = h.0 in
    let p = pushed-from (operands_of t) m.operands m.unreachable here.operands here.stands in
    (record { operands = p.0; stands = p.2; typed = subst (λ x. Types (context_at c (m ∷ ls)) r.tree x (operands_of m.result)) p.1 here.typed; other = here.other }, h.1)

claim-ended : (c : Context) (t : Option ValType) (ls : List ControlFrame) (rs : List Rest) → Claim c (operands_of t) ls rs → Claim c [] (ended t ls) rs
claim-ended c t [] [] h = h
claim-ended c t [] (r ∷ rs) h = h
claim-ended c t (m ∷ ls) [] h = h
claim-ended c t (m ∷ ls) (r ∷ rs) h =
    let here = h.0 in
    (record { operands = operands_of t ++ here.operands; stands = pushed-to (operands_of t) m.operands m.unreachable here.operands here.stands; typed = here.typed; other = here.other }, h.1)

may-other : (c : Context) (k : Kind) (t : Option ValType) → may_end k t ≡ true → Other c k t None
may-other c IfKind None h = refl
may-other c IfKind (Some t) h = absurd (cc)
may-other c Body t h = refl
may-other c BlockKind t h = refl
may-other c LoopKind t h = refl
may-other c ElseKind t h = refl

other-may : (c : Context) (k : Kind) (t : Option ValType) → Other c k t None → may_end k t ≡ true
other-may c IfKind None h = refl
other-may c IfKind (Some t) h = absurd (cc)
other-may c Body t h = refl
other-may c BlockKind t h = refl
other-may c LoopKind t h = refl
other-may c ElseKind t h = refl

-- from behind an instruction to in front of it
pub forward : (c : Context) (i : Instr) (ls ls' : List ControlFrame) (rs' : List Rest) → next c i ls ≡ Some ls' → Claim c [] ls' rs' → (rs : List Rest) × (in_front i rs' ≡ Some rs) × Claim c [] ls rs
forward c i [] ls' rs' n k = absurd (cc)
forward c (Block t) (l ∷ ls) ls' rs' n k =
    let e : new_frame BlockKind t ∷ l ∷ ls ≡ ls' = cc in
    open-claim c BlockKind t (block t) l ls rs' (λ d o h. h) (λ d body after a b x y. (x, y)) (subst (λ x. Claim c [] x rs') (sym e) k)
forward c (Loop t) (l ∷ ls) ls' rs' n k =
    let e : new_frame LoopKind t ∷ l ∷ ls ≡ ls' = cc in
    open-claim c LoopKind t (loop t) l ls rs' (λ d o h. h) (λ d body after a b x y. (x, y)) (subst (λ x. Claim c [] x rs') (sym e) k)
forward c (If t) (l ∷ ls) ls' rs' n k =
    let m = map-some (λ os. new_frame IfKind t ∷ record l { operands = os } ∷ ls) (taken I32 l.operands l.unreachable) ls' n in
    if-claim c t l m.0 ls rs' m.1 (subst (λ x. Claim c [] x rs') (sym m.2) k)
forward c Else (l ∷ ls) ls' rs' n k =
    let d = cond-some (is_if l.kind && is_complete l) (new_frame ElseKind l.result ∷ ls) ls' n in
    let a = and-true (is_if l.kind) (is_complete l) d.0 in
    else-claim c l ls rs' (if-is l.kind a.0) a.1 (subst (λ x. Claim c [] x rs') (sym d.1) k)
forward c End (l ∷ ls) ls' rs' n k =
    let d = cond-some (may_end l.kind l.result && is_complete l) (ended l.result ls) ls' n in
    let a = and-true (may_end l.kind l.result) (is_complete l) d.0 in
    let k' = ended-claim c l.result ls rs' (subst (λ x. Claim c [] x rs') (sym d.1) k) in
    (rest_of done ∷ rs', refl, (record { operands = operands_of l.result; stands = complete-from l a.1; typed = refl; other = may-other (context_at c (l ∷ ls)) l.kind l.result a.0 }, k'))
forward c i (l ∷ ls) ls' rs' n k =
    let m = map-some (λ x. x ∷ ls) (behind (context_at c (l ∷ ls)) i l) ls' n in
    claim-plain c i l m.0 ls rs' m.1 (subst (λ x. Claim c [] x rs') (sym m.2) k)

no-claim : (c : Context) (rs : List Rest) → Claim c [] [] rs → rs ≡ []
no-claim c [] k = refl
no-claim c (r ∷ rs) k = absurd k

-- and back
pub backward : (c : Context) (i : Instr) (ls : List ControlFrame) (rs' rs : List Rest) → in_front i rs' ≡ Some rs → Claim c [] ls rs → (ls' : List ControlFrame) × (next c i ls ≡ Some ls') × Claim c [] ls' rs'
backward c (Block t) (l ∷ ls) rs' rs e k =
    (new_frame BlockKind t ∷ l ∷ ls, refl, claim-open c BlockKind t (block t) l ls rs' rs (λ d. refl) (λ d body after a b h. h) e k)
backward c (Loop t) (l ∷ ls) rs' rs e k =
    (new_frame LoopKind t ∷ l ∷ ls, refl, claim-open c LoopKind t (loop t) l ls rs' rs (λ d. refl) (λ d body after a b h. h) e k)
backward c (If t) (l ∷ ls) rs' rs e k =
    let m = claim-if c t l ls rs' rs e k in
    (new_frame IfKind t ∷ record l { operands = m.0 } ∷ ls, ap (option_map (λ os. new_frame IfKind t ∷ record l { operands = os } ∷ ls)) m.1, m.2)
backward c Else (l ∷ ls) rs' rs e k =
    let m = claim-else c l ls rs' rs e k in
    (new_frame ElseKind l.result ∷ ls, rw (m.0, m.1) refl, m.2)
backward c End (l ∷ ls) rs' rs e k =
    let same : rest_of done ∷ rs' ≡ rs = cc in
    let k' : Claim c [] (l ∷ ls) (rest_of done ∷ rs') = subst (λ x. Claim c [] (l ∷ ls) x) (sym same) k in
    let here = k'.0 in
    let full = complete-to l (subst (λ m. Stands l.operands l.unreachable m) here.typed here.stands) in
    (ended l.result ls, rw (other-may (context_at c (l ∷ ls)) l.kind l.result here.other, full) refl, claim-ended c l.result ls rs' k'.1)
backward c i (l ∷ ls) rs' rs e k =
    let m = plain-claim c i l ls rs' rs e k in
    (m.0 ∷ ls, ap (option_map (λ x. x ∷ ls)) m.1, m.2)
backward c i [] rs' rs e k = absurd (front-some i rs' rs e (no-claim c rs k))

empty-is : {A : Type 0} (xs : List A) → is_empty xs ≡ true → xs ≡ []
empty-is [] h = refl
empty-is (x ∷ xs) h = absurd (cc)

accepts-some : (c : Context) (code : List Instr) (o : Option (List ControlFrame)) → elim o as (λ x. Bool) [ None ↦ false | Some m ↦ accepts c code m ] ≡ true → (m : List ControlFrame) × (o ≡ Some m) × (accepts c code m ≡ true)
accepts-some c code None h = absurd (cc)
accepts-some c code (Some m) h = (m, refl, h)

-- what is accepted has its types
pub accepts-claim : (c : Context) (code : List Instr) (ls : List ControlFrame) → accepts c code ls ≡ true → (rs : List Rest) × (rests code ≡ Some rs) × Claim c [] ls rs
accepts-claim c [] ls h = ([], refl, subst (λ x. Claim c [] x []) (sym (empty-is ls h)) tt)
accepts-claim c (i ∷ code) ls h =
    let a = accepts-some c code (next c i ls) h in
    let k = accepts-claim c code a.0 a.2 in
    let f = forward c i ls a.0 k.0 a.1 k.2 in
    (f.0, ap (option_and_then (in_front i)) k.1 ∙ f.1, f.2)

-- and what has its types is accepted
pub claim-accepts : (c : Context) (code : List Instr) (ls : List ControlFrame) (rs : List Rest) → rests code ≡ Some rs → Claim c [] ls rs → accepts c code ls ≡ true
claim-accepts c [] ls rs e k =
    let none : [] ≡ rs = cc in
    by ls (subst (λ x. Claim c [] ls x) (sym none) k)
  where
    by : (ls : List ControlFrame) → Claim c [] ls [] → is_empty ls ≡ true
    by [] k' = refl
    by (l ∷ ls') k' = absurd k'
claim-accepts c (i ∷ code) ls rs e k =
    let b = rests-behind i code rs e in
    let f = backward c i ls b.0 rs b.2 k in
    ap (λ o. elim o as (λ x. Bool) [ None ↦ false | Some m ↦ accepts c code m ]) f.1 ∙ claim-accepts c code f.0 b.0 b.1 f.2

abbrev pub start_of : Context → List ControlFrame
start_of c = new_frame Body c.result ∷ []

-- A body is accepted exactly where it has its type.
pub accepts-typed : (c : Context) (code : List Instr) → accepts c code (start_of c) ≡ true → IsTyped c code
accepts-typed c code h = let a = accepts-claim c code (start_of c) h in by a.0 a.1 a.2
  where
    by : (rs : List Rest) → rests code ≡ Some rs → Claim c [] (start_of c) rs → IsTyped c code
    by [] e k = absurd k
    by (r ∷ s ∷ rs) e k = absurd k.1
    by (r ∷ []) e k =
        let here = k.0 in
        let none : r.other ≡ None = here.other in
        let eta : r ≡ rest_of r.tree = ap (λ o. let x : Rest = record { tree = r.tree; other = o } in x) none in
        (r.tree, e ∙ ap (λ x. Some (x ∷ [])) eta, subst (λ m. Types (record c { labels = c.result ∷ [] }) r.tree m (operands_of c.result)) here.stands here.typed)

pub typed-accepts : (c : Context) (code : List Instr) → IsTyped c code → accepts c code (start_of c) ≡ true
typed-accepts c code (body, e, t) =
    claim-accepts c code (start_of c) (rest_of body ∷ []) e (record { operands = []; stands = refl; typed = t; other = refl }, tt)
