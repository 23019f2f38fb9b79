-- A list of instructions closes its blocks exactly where it is a body.
use Rattle.std.proofs.Common.{◌≡◌, Bool, true, false, List, [], ◌∷◌, Result, Ok, Err, Option, Some, None, refl, sym, ap, subst, ◌∙◌}
use Rattle.mv_syntax.specs.declared.fault.ReadKind.{ReadKind}
use Rattle.mv_syntax.specs.declared.ops.ValType.{ValType}
use Rattle.mv_syntax.specs.declared.instr.Instr.{Instr}
use Rattle.mv_syntax.specs.declared.instr.Instr.TheVariants.{Block, Loop, If, Else, End}
use Rattle.mv_syntax.specs.Tree.{Tree, done, plain, block, loop, choice, Rest, rest_of, other_of, joined, without, opened, chosen, followed, elsed, in_front, rests, IsClosedCode}
use Rattle.mv_syntax.proofs.TreeLaws.{rests-behind, without-some, front-some}
use Rattle.mv_syntax.specs.Nesting.{parts, ends, nest}

-- what holds after an instruction: of the open blocks, or where none is left
abbrev pub Onward : Result (Option (List Bool)) ReadKind → Type 0 → (List Bool → Type 0) → Type 0
Onward (Ok None) closed open_ = closed
Onward (Ok (Some opens)) closed open_ = open_ opens
Onward (Err k) closed open_ = ⊥

-- the code closes these blocks, and the body with its last instruction
abbrev pub Closes : List Bool → List Instr → Type 0
Closes opens [] = ⊥
Closes opens (i ∷ code) = Onward (nest opens i) (code ≡ []) (λ o. Closes o code)

-- What is left of each of these blocks and of the body; only the list of an `if` ends with an `else`.
abbrev pub Fit : List Bool → List Rest → Type 0
Fit opens [] = ⊥
Fit [] (r ∷ rs) = (r.other ≡ None) × (rs ≡ [])
Fit (true ∷ opens) (r ∷ rs) = Fit opens rs
Fit (false ∷ opens) (r ∷ rs) = (r.other ≡ None) × Fit opens rs

-- the code is what is left of these blocks
abbrev pub Leaves : List Bool → List Instr → Type 0
Leaves opens code = (rs : List Rest) × (rests code ≡ Some rs) × Fit opens rs

-- one instruction in front of what is left
abbrev Put : Instr → List Bool → List Rest → Type 0
Put i opens behind = (rs : List Rest) × (in_front i behind ≡ Some rs) × Fit opens rs

-- only the other lists count
fit_same : (opens : List Bool) (t : Tree) (r : Rest) (rs : List Rest) → Fit opens (r ∷ rs) → Fit opens (record { tree = t; other = r.other } ∷ rs)
fit_same [] t r rs h = h
fit_same (true ∷ opens) t r rs h = h
fit_same (false ∷ opens) t r rs h = h

fit_back : (opens : List Bool) (t : Tree) (r : Rest) (rs : List Rest) → Fit opens (record { tree = t; other = r.other } ∷ rs) → Fit opens (r ∷ rs)
fit_back [] t r rs h = h
fit_back (true ∷ opens) t r rs h = h
fit_back (false ∷ opens) t r rs h = h

-- ---- what closes leaves a rest of each block

join_put : (make : Tree → Tree) (opens : List Bool) (outer : List Rest) → Fit opens outer → (rs : List Rest) × (joined make outer ≡ Some rs) × Fit opens rs
join_put make opens [] h = absurd h
join_put make opens (after ∷ outer) h = (record { tree = make after.tree; other = after.other } ∷ outer, refl, fit_same opens (make after.tree) after outer h)

open_put : (make : Tree → Tree → Tree) (opens : List Bool) (behind : List Rest) → Fit (false ∷ opens) behind → (rs : List Rest) × (opened make behind ≡ Some rs) × Fit opens rs
open_put make opens [] h = absurd h
open_put make opens (body ∷ outer) h =
    let j = join_put (make body.tree) opens outer h.1 in
    (j.0, ap (λ (o : Option Tree). without o (joined (make body.tree) outer)) h.0 ∙ j.1, j.2)

choice_put : (t : Option ValType) (opens : List Bool) (behind : List Rest) → Fit (true ∷ opens) behind → (rs : List Rest) × (chosen t behind ≡ Some rs) × Fit opens rs
choice_put t opens [] h = absurd h
choice_put t opens (body ∷ outer) h = join_put (choice t body.tree (other_of body.other)) opens outer h

follow_put : (i : Instr) (opens : List Bool) (behind : List Rest) → Fit opens behind → (rs : List Rest) × (followed i behind ≡ Some rs) × Fit opens rs
follow_put i opens [] h = absurd h
follow_put i opens (r ∷ outer) h = (record { tree = plain i r.tree; other = r.other } ∷ outer, refl, fit_same opens (plain i r.tree) r outer h)

else_put : (opens : List Bool) (behind : List Rest) → Fit (false ∷ opens) behind → (rs : List Rest) × (elsed behind ≡ Some rs) × Fit (true ∷ opens) rs
else_put opens [] h = absurd h
else_put opens (r ∷ outer) h =
    let front : List Rest = record { tree = done; other = Some r.tree } ∷ outer in
    (front, ap (λ (o : Option Tree). without o (Some front)) h.0, h.1)

-- the rests behind an instruction, where it is one of those that are told apart
abbrev Behind : Result (Option (List Bool)) ReadKind → List Rest → Type 0
Behind step behind = Onward step (behind ≡ []) (λ o. Fit o behind)

end_put : (opens : List Bool) (behind : List Rest) → Behind (Ok (ends opens)) behind → Fit opens (rest_of done ∷ behind)
end_put [] behind h = (refl, h)
end_put (true ∷ opens) behind h = h
end_put (false ∷ opens) behind h = (refl, h)

parted_put : (opens : List Bool) (behind : List Rest) → Behind (parts opens) behind → (rs : List Rest) × (elsed behind ≡ Some rs) × Fit opens rs
parted_put [] behind h = absurd h
parted_put (false ∷ opens) behind h = absurd h
parted_put (true ∷ opens) behind h = else_put opens behind h

put : (i : Instr) (opens : List Bool) (behind : List Rest) → Behind (nest opens i) behind → Put i opens behind
put (Block t) opens behind h = open_put (block t) opens behind h
put (Loop t) opens behind h = open_put (loop t) opens behind h
put (If t) opens behind h = choice_put t opens behind h
put Else opens behind h = parted_put opens behind h
put End opens behind h = (rest_of done ∷ behind, refl, end_put opens behind h)
put i opens behind h = follow_put i opens behind h

-- what is left in front of some code, by what is left behind
put_leaves : (i : Instr) (opens : List Bool) (code : List Instr) (behind : List Rest) → rests code ≡ Some behind → Behind (nest opens i) behind → Leaves opens (i ∷ code)
put_leaves i opens code behind e h =
    let p = put i opens behind h in
    (p.0, ap (λ (o : Option (List Rest)). elim o as (λ x. Option (List Rest)) [ None ↦ None | Some rs ↦ in_front i rs ]) e ∙ p.1, p.2)

step_leaves : (i : Instr) (opens : List Bool) (code : List Instr) (step : Result (Option (List Bool)) ReadKind) → nest opens i ≡ step → Onward step (code ≡ []) (λ o. Leaves o code) → Leaves opens (i ∷ code)
step_leaves i opens code (Ok None) e h = put_leaves i opens code [] (ap rests h) (subst (λ (s : Result (Option (List Bool)) ReadKind). Behind s []) (sym e) refl)
step_leaves i opens code (Ok (Some o)) e h = put_leaves i opens code h.0 h.1 (subst (λ (s : Result (Option (List Bool)) ReadKind). Behind s h.0) (sym e) h.2)
step_leaves i opens code (Err k) e h = absurd h

onward : (step : Result (Option (List Bool)) ReadKind) (code : List Instr) (F G : List Bool → Type 0) → ((o : List Bool) → F o → G o) → Onward step (code ≡ []) F → Onward step (code ≡ []) G
onward (Ok None) code F G f h = h
onward (Ok (Some opens)) code F G f h = f opens h
onward (Err k) code F G f h = h

pub closes_leaves : (code : List Instr) (opens : List Bool) → Closes opens code → Leaves opens code
closes_leaves [] opens h = absurd h
closes_leaves (i ∷ code) opens h = step_leaves i opens code (nest opens i) refl (onward (nest opens i) code (λ o. Closes o code) (λ o. Leaves o code) (closes_leaves code) h)

-- ---- what leaves a rest of each block closes

join_take : (make : Tree → Tree) (opens : List Bool) (outer rs : List Rest) → joined make outer ≡ Some rs → Fit opens rs → Fit opens outer
join_take make opens [] rs e h = absurd cc
join_take make opens (after ∷ outer) rs e h =
    let is : rs ≡ record { tree = make after.tree; other = after.other } ∷ outer = cc in
    fit_back opens (make after.tree) after outer (subst (Fit opens) is h)

open_take : (make : Tree → Tree → Tree) (opens : List Bool) (behind rs : List Rest) → opened make behind ≡ Some rs → Fit opens rs → Fit (false ∷ opens) behind
open_take make opens [] rs e h = absurd cc
open_take make opens (body ∷ outer) rs e h =
    let w = without-some body.other (joined (make body.tree) outer) rs e in
    (w.0, join_take (make body.tree) opens outer rs w.1 h)

choice_take : (t : Option ValType) (opens : List Bool) (behind rs : List Rest) → chosen t behind ≡ Some rs → Fit opens rs → Fit (true ∷ opens) behind
choice_take t opens [] rs e h = absurd cc
choice_take t opens (body ∷ outer) rs e h = join_take (choice t body.tree (other_of body.other)) opens outer rs e h

follow_take : (i : Instr) (opens : List Bool) (behind rs : List Rest) → followed i behind ≡ Some rs → Fit opens rs → Fit opens behind
follow_take i opens [] rs e h = absurd cc
follow_take i opens (r ∷ outer) rs e h =
    let is : rs ≡ record { tree = plain i r.tree; other = r.other } ∷ outer = cc in
    fit_back opens (plain i r.tree) r outer (subst (Fit opens) is h)

some_no : {A : Type 0} (t : Tree) → Some t ≡ None → A
some_no t e = absurd cc

parted_take : (opens : List Bool) (r : Rest) (outer : List Rest) → r.other ≡ None → Fit opens (record { tree = done; other = Some r.tree } ∷ outer) → Behind (parts opens) (r ∷ outer)
parted_take [] r outer e h = some_no r.tree h.0
parted_take (false ∷ opens) r outer e h = some_no r.tree h.0
parted_take (true ∷ opens) r outer e h = (e, h)

else_take : (opens : List Bool) (behind rs : List Rest) → elsed behind ≡ Some rs → Fit opens rs → Behind (parts opens) behind
else_take opens [] rs e h = absurd cc
else_take opens (r ∷ outer) rs e h =
    let front : List Rest = record { tree = done; other = Some r.tree } ∷ outer in
    let w = without-some r.other (Some front) rs e in
    let is : rs ≡ front = cc in
    parted_take opens r outer w.0 (subst (Fit opens) is h)

end_take : (opens : List Bool) (behind : List Rest) → Fit opens (rest_of done ∷ behind) → Behind (Ok (ends opens)) behind
end_take [] behind h = h.1
end_take (true ∷ opens) behind h = h
end_take (false ∷ opens) behind h = h.1

put_back : (i : Instr) (opens : List Bool) (behind rs : List Rest) → in_front i behind ≡ Some rs → Fit opens rs → Behind (nest opens i) behind
put_back (Block t) opens behind rs e h = open_take (block t) opens behind rs e h
put_back (Loop t) opens behind rs e h = open_take (loop t) opens behind rs e h
put_back (If t) opens behind rs e h = choice_take t opens behind rs e h
put_back Else opens behind rs e h = else_take opens behind rs e h
put_back End opens behind rs e h =
    let is : rs ≡ rest_of done ∷ behind = cc in
    end_take opens behind (subst (Fit opens) is h)
put_back i opens behind rs e h = follow_take i opens behind rs e h

-- nothing is left of no code alone
pub no_rests : (code : List Instr) → rests code ≡ Some [] → code ≡ []
no_rests [] e = refl
no_rests (i ∷ code) e =
    let b = rests-behind i code [] e in
    absurd (front-some i b.0 [] b.2 refl)

onward_back : (step : Result (Option (List Bool)) ReadKind) (code : List Instr) (behind : List Rest) → rests code ≡ Some behind → Behind step behind → ((o : List Bool) → Fit o behind → Closes o code) → Onward step (code ≡ []) (λ o. Closes o code)
onward_back (Ok None) code behind e h f = no_rests code (e ∙ ap (λ (rs : List Rest). Some rs) h)
onward_back (Ok (Some o)) code behind e h f = f o h
onward_back (Err k) code behind e h f = h

no_fit : (opens : List Bool) (rs : List Rest) → Some [] ≡ Some rs → Fit opens rs → ⊥
no_fit opens [] e h = h
no_fit opens (r ∷ rs) e h = cc

pub leaves_closes : (code : List Instr) (opens : List Bool) (rs : List Rest) → rests code ≡ Some rs → Fit opens rs → Closes opens code
leaves_closes [] opens rs e h = absurd (no_fit opens rs e h)
leaves_closes (i ∷ code) opens rs e h =
    let b = rests-behind i code rs e in
    onward_back (nest opens i) code b.0 b.1 (put_back i opens b.0 rs b.2 h) (λ o k. leaves_closes code o b.0 b.1 k)

-- ---- a body is what is left of itself

pub closes_body : (code : List Instr) → Closes [] code → IsClosedCode code
closes_body code h = only (closes_leaves code [] h)
  where
    only : Leaves [] code → IsClosedCode code
    only ([], e, h) = absurd h
    only (r ∷ rs, e, h) =
        let is : r ∷ rs ≡ rest_of r.tree ∷ [] = ap (λ (o : Option Tree). record { tree = r.tree; other = o } ∷ rs) h.0 ∙ ap (λ (l : List Rest). rest_of r.tree ∷ l) h.1 in
        (r.tree, e ∙ ap (λ (l : List Rest). Some l) is)

pub body_closes : (code : List Instr) → IsClosedCode code → Closes [] code
body_closes code b = leaves_closes code [] (rest_of b.0 ∷ []) b.1 (refl, refl)
