-- One instruction that begins and ends no list: the operands behind it are exactly those that its type leads to.
use Rattle.std.proofs.Common.{true, false, cond, Bool, ◌≡◌, ℕ, List, [], ◌∷◌, ◌++◌, Option, Some, None, refl, sym, ap, ◌∙◌, subst, append_assoc}
use Rattle.mv_syntax.specs.Types.{same_result}
use Rattle.std.specs.Prelude.{map, ◌&&◌, slice_get, option_and_then}
use Rattle.std.specs.Option.{option_map}
use Rattle.mv_syntax.specs.declared.ops.ValType.{ValType}
use Rattle.mv_syntax.specs.declared.ops.ValType.TheVariants.{I32}
use Rattle.mv_syntax.specs.declared.instr.Instr.{Instr}
use Rattle.mv_syntax.specs.declared.instr.Instr.TheVariants.{Unreachable, Br, BrTable, Return, Drop, Select}
use Rattle.mv_validator.specs.Types.{operands_of}
use Rattle.mv_validator.specs.Typing.{Context, type_of, HasType, Take}
use Rattle.mv_validator.specs.OperandStack.{all_taken, any_taken, selected}
use Rattle.mv_validator.specs.ControlFrames.{ControlFrame, all_take, needs, behind, behind_end, behind_type}
use Rattle.mv_validator.proofs.Stacks.{Stands, map-some, bind-some, cond-some, all-from, all-to, any-from, any-to, selected-from, selected-to, pushed-from, pushed-to, stands-some, same-refl, same-is}

-- an instruction leads from operands of a frame to these
pub record Leads (c : Context) (i : Instr) (l : ControlFrame) (m' : List ValType) : Type 0 where
  pub x : List ValType
  pub y : List ValType
  pub below : List ValType
  pub typed : HasType c i x y
  pub from : Stands l.operands l.unreachable (x ++ below)
  pub to : m' ≡ y ++ below

-- the frame behind, and what it keeps
pub record Behind (c : Context) (i : Instr) (l : ControlFrame) (m' : List ValType) : Type 0 where
  pub frame : ControlFrame
  pub is : behind c i l ≡ Some frame
  pub stands : Stands frame.operands frame.unreachable m'

-- A frame behind an instruction has the same block.
pub record SameBlock (l m : ControlFrame) : Type 0 where
  pub kind : m.kind ≡ l.kind
  pub result : m.result ≡ l.result

-- instructions of a known type
type-from : (o : Option (List ValType × List ValType)) (l l' : ControlFrame) (m' : List ValType) → behind_type l o ≡ Some l' → Stands l'.operands l'.unreachable m' → (t : List ValType × List ValType) × (o ≡ Some t) × (below : List ValType) × (Stands l.operands l.unreachable (t.0 ++ below)) × (m' ≡ t.1 ++ below)
type-from None l l' m' h s = absurd (cc)
type-from (Some t) l l' m' h s =
    let a = map-some (λ os. record l { operands = map Some t.1 ++ os }) (all_taken t.0 l.operands l.unreachable) l' h in
    let s' : Stands (map Some t.1 ++ a.0) l.unreachable m' = subst (λ (x : ControlFrame). Stands x.operands x.unreachable m') (sym a.2) s in
    let p = pushed-from t.1 a.0 l.unreachable m' s' in
    (t, refl, p.0, all-from t.0 l.operands a.0 l.unreachable p.0 a.1 p.2, p.1)

type-to : (o : Option (List ValType × List ValType)) (l : ControlFrame) (t : List ValType × List ValType) (below : List ValType) → o ≡ Some t → Stands l.operands l.unreachable (t.0 ++ below) → (l' : ControlFrame) × (behind_type l o ≡ Some l') × Stands l'.operands l'.unreachable (t.1 ++ below)
type-to o l t below h s =
    let a = all-to t.0 l.operands l.unreachable below s in
    (record l { operands = map Some t.1 ++ a.0 }, ap (behind_type l) h ∙ ap (option_map (λ os. record l { operands = map Some t.1 ++ os })) a.1, pushed-to t.1 a.0 l.unreachable below a.2)

-- instructions that never go on
end-from : (o : Option (List ValType)) (l l' : ControlFrame) → behind_end l o ≡ Some l' → (ts : List ValType) × (o ≡ Some ts) × (below : List ValType) × (Stands l.operands l.unreachable (ts ++ below))
end-from None l l' h = absurd (cc)
end-from (Some ts) l l' h =
    let a = map-some (λ os. record l { operands = []; unreachable = true }) (all_taken ts l.operands l.unreachable) l' h in
    let some = stands-some a.0 l.unreachable in
    (ts, refl, some.0, all-from ts l.operands a.0 l.unreachable some.0 a.1 some.1)

end-to : (o : Option (List ValType)) (l : ControlFrame) (ts below m' : List ValType) → o ≡ Some ts → Stands l.operands l.unreachable (ts ++ below) → (l' : ControlFrame) × (behind_end l o ≡ Some l') × Stands l'.operands l'.unreachable m'
end-to o l ts below m' h s =
    let a = all-to ts l.operands l.unreachable below s in
    (record l { operands = []; unreachable = true }, ap (behind_end l) h ∙ ap (option_map (λ os. record l { operands = []; unreachable = true })) a.1, tt)

append-none : {A : Type 0} (xs : List A) → xs ++ [] ≡ xs
append-none [] = refl
append-none (x ∷ xs) = ap (λ l. x ∷ l) (append-none xs)

-- labels of one type
result-is : (a b : Option ValType) → same_result a b ≡ true → a ≡ b
result-is None None h = refl
result-is (Some a) (Some b) h = ap Some (same-is a b h)
result-is None (Some b) h = absurd (cc)
result-is (Some a) None h = absurd (cc)

result-refl : (a : Option ValType) → same_result a a ≡ true
result-refl None = refl
result-refl (Some a) = same-refl a

and-true : (a b : Bool) → (a && b) ≡ true → (a ≡ true) × (b ≡ true)
and-true true b h = (refl, h)
and-true false b h = absurd (cc)

take-from : (c : Context) (ls : List ℕ) (t : Option ValType) → all_take c ls t ≡ true → Take c ls t
take-from c [] t h = tt
take-from c (l ∷ ls) t h = by (slice_get c.labels l) refl h (λ r. take-from c ls t r)
  where
    by : (o : Option (Option ValType)) → slice_get c.labels l ≡ o → elim o as (λ x. Bool) [ None ↦ false | Some u ↦ same_result u t && all_take c ls t ] ≡ true → (all_take c ls t ≡ true → Take c ls t) → Take c (l ∷ ls) t
    by None e h' more = absurd (cc)
    by (Some u) e h' more =
        let a = and-true (same_result u t) (all_take c ls t) h' in
        (e ∙ ap Some (result-is u t a.0), more a.1)

take-to : (c : Context) (ls : List ℕ) (t : Option ValType) → Take c ls t → all_take c ls t ≡ true
take-to c [] t h = refl
take-to c (l ∷ ls) t h =
    ap (λ o. elim o as (λ x. Bool) [ None ↦ false | Some u ↦ same_result u t && all_take c ls t ]) h.0 ∙ rw (result-refl t) (take-to c ls t h.1)

-- what stands behind an instruction comes from operands in front of it
pub from-behind : (c : Context) (i : Instr) (l l' : ControlFrame) (m' : List ValType) → behind c i l ≡ Some l' → Stands l'.operands l'.unreachable m' → Leads c i l m'
from-behind c Drop l l' m' h s =
    let a = map-some (λ os. record l { operands = os }) (any_taken l.operands l.unreachable) l' h in
    let s' : Stands a.0 l.unreachable m' = subst (λ (x : ControlFrame). Stands x.operands x.unreachable m') (sym a.2) s in
    let t = any-from l.operands a.0 l.unreachable m' a.1 s' in
    record { x = t.0 ∷ []; y = []; below = m'; typed = (t.0, refl, refl); from = t.1; to = refl }
from-behind c Select l l' m' h s =
    let a = map-some (λ os. record l { operands = os }) (selected l.operands l.unreachable) l' h in
    let s' : Stands a.0 l.unreachable m' = subst (λ (x : ControlFrame). Stands x.operands x.unreachable m') (sym a.2) s in
    let t = selected-from l.operands a.0 l.unreachable m' a.1 s' in
    record { x = I32 ∷ t.0 ∷ t.0 ∷ []; y = t.0 ∷ []; below = t.1; typed = (t.0, refl, refl); from = t.3; to = t.2 }
from-behind c Unreachable l l' m' h s =
    let e = end-from (needs c Unreachable) l l' h in
    let none : [] ≡ e.0 = cc in
    record { x = e.0 ++ e.2; y = m'; below = []; typed = tt; from = subst (λ x. Stands l.operands l.unreachable x) (sym (append-none (e.0 ++ e.2))) e.3; to = sym (append-none m') }
from-behind c (Br n) l l' m' h s =
    let e = end-from (needs c (Br n)) l l' h in
    let b = map-some operands_of (slice_get c.labels n) e.0 e.1 in
    record { x = e.0 ++ e.2; y = m'; below = []; typed = (b.0, b.1, (e.2, ap (λ x. x ++ e.2) (sym b.2))); from = subst (λ x. Stands l.operands l.unreachable x) (sym (append-none (e.0 ++ e.2))) e.3; to = sym (append-none m') }
from-behind c (BrTable ns n) l l' m' h s =
    let e = end-from (needs c (BrTable ns n)) l l' h in
    let b = bind-some (λ t. cond (all_take c ns t) (Some (I32 ∷ operands_of t)) None) (slice_get c.labels n) e.0 e.1 in
    let d = cond-some (all_take c ns b.0) (I32 ∷ operands_of b.0) e.0 b.2 in
    record { x = e.0 ++ e.2; y = m'; below = []; typed = (b.0, (b.1, take-from c ns b.0 d.0), (e.2, ap (λ x. x ++ e.2) (sym d.1))); from = subst (λ x. Stands l.operands l.unreachable x) (sym (append-none (e.0 ++ e.2))) e.3; to = sym (append-none m') }
from-behind c Return l l' m' h s =
    let e = end-from (needs c Return) l l' h in
    let q : operands_of c.result ≡ e.0 = cc in
    record { x = e.0 ++ e.2; y = m'; below = []; typed = (e.2, ap (λ x. x ++ e.2) (sym q)); from = subst (λ x. Stands l.operands l.unreachable x) (sym (append-none (e.0 ++ e.2))) e.3; to = sym (append-none m') }
from-behind c i l l' m' h s =
    let e = type-from (type_of c i) l l' m' h s in
    record { x = e.0.0; y = e.0.1; below = e.2; typed = e.1; from = e.3; to = e.4 }

-- what an instruction leads to stands behind it
pub to-behind : (c : Context) (i : Instr) (l : ControlFrame) (m' : List ValType) → Leads c i l m' → Behind c i l m'
to-behind c Drop l m' a =
    let s : Stands l.operands l.unreachable (a.typed.0 ∷ a.below) = subst (λ x. Stands l.operands l.unreachable (x ++ a.below)) a.typed.1 a.from in
    let t = any-to a.typed.0 l.operands l.unreachable a.below s in
    let same : a.below ≡ m' = sym (a.to ∙ ap (λ y. y ++ a.below) a.typed.2) in
    record { frame = record l { operands = t.0 }; is = ap (option_map (λ os. record l { operands = os })) t.1; stands = subst (λ x. Stands t.0 l.unreachable x) same t.2 }
to-behind c Select l m' a =
    let s : Stands l.operands l.unreachable (I32 ∷ a.typed.0 ∷ a.typed.0 ∷ a.below) = subst (λ x. Stands l.operands l.unreachable (x ++ a.below)) a.typed.1 a.from in
    let t = selected-to a.typed.0 l.operands l.unreachable a.below s in
    let same : a.typed.0 ∷ a.below ≡ m' = sym (a.to ∙ ap (λ y. y ++ a.below) a.typed.2) in
    record { frame = record l { operands = t.0 }; is = ap (option_map (λ os. record l { operands = os })) t.1; stands = subst (λ x. Stands t.0 l.unreachable x) same t.2 }
to-behind c Unreachable l m' a =
    let e = end-to (needs c Unreachable) l [] (a.x ++ a.below) m' refl a.from in
    record { frame = e.0; is = e.1; stands = e.2 }
to-behind c (Br n) l m' a =
    let t = a.typed in
    let s : Stands l.operands l.unreachable (operands_of t.0 ++ (t.2.0 ++ a.below)) = subst (λ x. Stands l.operands l.unreachable x) (ap (λ x. x ++ a.below) t.2.1 ∙ append_assoc (operands_of t.0) t.2.0 a.below) a.from in
    let e = end-to (needs c (Br n)) l (operands_of t.0) (t.2.0 ++ a.below) m' (ap (option_map operands_of) t.1) s in
    record { frame = e.0; is = e.1; stands = e.2 }
to-behind c (BrTable ns n) l m' a =
    let t = a.typed in
    let ts = I32 ∷ operands_of t.0 in
    let s : Stands l.operands l.unreachable (ts ++ (t.2.0 ++ a.below)) = subst (λ x. Stands l.operands l.unreachable x) (ap (λ x. x ++ a.below) t.2.1 ∙ append_assoc ts t.2.0 a.below) a.from in
    let need : needs c (BrTable ns n) ≡ Some ts = ap (option_and_then (λ u. cond (all_take c ns u) (Some (I32 ∷ operands_of u)) None)) t.1.0 ∙ ap (λ b. cond b (Some ts) None) (take-to c ns t.0 t.1.1) in
    let e = end-to (needs c (BrTable ns n)) l ts (t.2.0 ++ a.below) m' need s in
    record { frame = e.0; is = e.1; stands = e.2 }
to-behind c Return l m' a =
    let t = a.typed in
    let s : Stands l.operands l.unreachable (operands_of c.result ++ (t.0 ++ a.below)) = subst (λ x. Stands l.operands l.unreachable x) (ap (λ x. x ++ a.below) t.1 ∙ append_assoc (operands_of c.result) t.0 a.below) a.from in
    let e = end-to (needs c Return) l (operands_of c.result) (t.0 ++ a.below) m' refl s in
    record { frame = e.0; is = e.1; stands = e.2 }
to-behind c i l m' a =
    let e = type-to (type_of c i) l (a.x, a.y) a.below a.typed a.from in
    record { frame = e.0; is = e.1; stands = subst (λ x. Stands e.0.operands e.0.unreachable x) (sym a.to) e.2 }

-- the block stays
type-block : (l l' : ControlFrame) (o : Option (List ValType × List ValType)) → behind_type l o ≡ Some l' → SameBlock l l'
type-block l l' None h = absurd (cc)
type-block l l' (Some t) h =
    let a = map-some (λ os. record l { operands = map Some t.1 ++ os }) (all_taken t.0 l.operands l.unreachable) l' h in
    record { kind = sym (ap (λ (x : ControlFrame). x.kind) a.2); result = sym (ap (λ (x : ControlFrame). x.result) a.2) }

end-block : (l l' : ControlFrame) (o : Option (List ValType)) → behind_end l o ≡ Some l' → SameBlock l l'
end-block l l' None h = absurd (cc)
end-block l l' (Some ts) h =
    let a = map-some (λ os. record l { operands = []; unreachable = true }) (all_taken ts l.operands l.unreachable) l' h in
    record { kind = sym (ap (λ (x : ControlFrame). x.kind) a.2); result = sym (ap (λ (x : ControlFrame). x.result) a.2) }

pub same-block : (c : Context) (i : Instr) (l l' : ControlFrame) → behind c i l ≡ Some l' → SameBlock l l'
same-block c Drop l l' h =
    let a = map-some (λ os. record l { operands = os }) (any_taken l.operands l.unreachable) l' h in
    record { kind = sym (ap (λ (x : ControlFrame). x.kind) a.2); result = sym (ap (λ (x : ControlFrame). x.result) a.2) }
same-block c Select l l' h =
    let a = map-some (λ os. record l { operands = os }) (selected l.operands l.unreachable) l' h in
    record { kind = sym (ap (λ (x : ControlFrame). x.kind) a.2); result = sym (ap (λ (x : ControlFrame). x.result) a.2) }
same-block c Unreachable l l' h = end-block l l' (needs c Unreachable) h
same-block c (Br n) l l' h = end-block l l' (needs c (Br n)) h
same-block c (BrTable ns n) l l' h = end-block l l' (needs c (BrTable ns n)) h
same-block c Return l l' h = end-block l l' (needs c Return) h
same-block c i l l' h = type-block l l' (type_of c i) h
