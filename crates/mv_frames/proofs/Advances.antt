-- One instruction over flat code is one instruction over trees.
use Rattle.std.proofs.Common.{true, false, cond, Bool, ◌≡◌, ℕ, ◌+◌, ◌-◌, ◌<◌, List, [], ◌∷◌, ◌++◌, length, take, drop, get_or, Option, Some, None, refl, sym, ap, ◌∙◌, arith, subst, ⊎_elim, inl, inr}
use Rattle.mv_syntax.specs.Expressions.{is_plain}
use Rattle.std.proofs.lemmas.List.{length-reverse, reverse-append}
use Rattle.std.specs.Prelude.{slice_get, ◌⊎◌, ◌==◌, reverse, is_some, IsSome, OnOk, OnErr, Result, Ok, Err, is_err}
use Rattle.std.specs.declared.alloc.AllocError.{AllocError}
use Rattle.std.specs.Option.{option_map}
use Rattle.std.proofs.lemmas.Bool.{cases_lt}
use Rattle.std.proofs.lemmas.Option.{slice_get_past, slice_get-get_or}
use Rattle.mv_frames.specs.Arity.{arity_if}
use Rattle.mv_syntax.specs.declared.ops.ValType.{ValType}
use Rattle.mv_syntax.specs.declared.ops.ValType.TheVariants.{I32}
use Rattle.mv_syntax.specs.declared.instr.Instr.{Instr}
use Rattle.mv_syntax.specs.declared.instr.Instr.TheVariants.{Block, Loop, If, Else, End}
use Rattle.mv_syntax.specs.Tree.{Tree, done, plain, block, loop, choice, Rest, rest_of, rests_at, in_front, followed, opened, chosen, joined, elsed, with_other, other_of, IsOpen}
use Rattle.mv_syntax.proofs.TreeLaws.{behind-at, without-some, within-code}
use Rattle.mv_frames.proofs.Lists.{reverse-last}
use Rattle.mv_frames.specs.declared.frame.Label.{Label}
use Rattle.mv_frames.specs.declared.frame.Frame.{Frame as FlatFrame}
use Rattle.mv_execution.specs.Config.{OpenBlock, Frame}
use Rattle.mv_execution.specs.Rows.{began}
use Rattle.mv_execution.specs.Values.{is_of, arity_of}
use Rattle.mv_frames.specs.Blocks.{began_block, closed, closed_in}
use Rattle.mv_execution.specs.Instance.{first_tree}
use Rattle.mv_frames.specs.Frames.{left_at, block_of, blocks_of, frame_of, IsStart, ArePlaced, IsPlaced}
use Rattle.mv_frames.proofs.Branches.{left-is, frame-is}

-- The innermost label of a placed frame, and what is left of its block.
pub record Top (code : List Instr) (f : FlatFrame) : Type 0 where
  pub label : Label
  pub labels : List Label
  pub rest : Rest
  pub rests : List Rest
  pub listed : reverse f.labels.items ≡ label ∷ labels
  pub left : rests_at code f.at ≡ Some (rest ∷ rests)
  pub start : IsStart code label.start rests
  pub placed : ArePlaced code labels rests
  pub blocks : (frame_of code f).blocks ≡ block_of code label rest ∷ blocks_of code labels rests

top-of : (code : List Instr) (f : FlatFrame) (ls : List Label) (rs : List Rest) → reverse f.labels.items ≡ ls → rests_at code f.at ≡ Some rs → ArePlaced code ls rs → 0 < length ls → Top code f
top-of code f [] rs e h p some = absurd (omega arith)
top-of code f (l ∷ ls) [] e h p some = absurd p
top-of code f (l ∷ ls) (r ∷ rs) e h p some =
    record { label = l; labels = ls; rest = r; rests = rs; listed = e; left = h; start = p.0; placed = p.1; blocks = frame-is code f (r ∷ rs) h ∙ ap (λ x. blocks_of code x (r ∷ rs)) e }

pub top : (code : List Instr) (f : FlatFrame) → IsPlaced code f → 0 < length f.labels.items → Top code f
top code f p some = top-of code f (reverse f.labels.items) p.0 refl p.1 p.2 (omega (arith, length-reverse f.labels.items, some))

pub advanced-at : (f : Frame) (b : OpenBlock) (outer : List OpenBlock) → f.blocks ≡ b ∷ outer → began_block f ≡ began b.rest b outer f
advanced-at f b outer e = ap (λ bs. elim bs as (λ x. Option Frame) [ [] ↦ None | c ∷ cs ↦ began c.rest c cs f ]) e

-- what can go on has an open block
pub advanced-some : (code : List Instr) (f : FlatFrame) → IsSome (began_block (frame_of code f)) → 0 < length f.labels.items
advanced-some code f h = by f.labels.items refl
  where
    by : (ls : List Label) → f.labels.items ≡ ls → 0 < length f.labels.items
    by [] e = let bad : false ≡ true = subst (λ ls. IsSome (began_block (record (frame_of code f) { blocks = blocks_of code (reverse ls) (left_at code f.at) }))) e h in absurd (cc)
    by (l ∷ ls) e = omega (arith, ap length e)

-- a frame with these operands, labels and place
abbrev pub moved : FlatFrame → ℕ → FlatFrame
moved f at = record f { at = at }

-- in front of a block
front-joined : (make : Tree → Tree) (behind : List Rest) (r : Rest) (rs : List Rest) → joined make behind ≡ Some (r ∷ rs) → (after : Rest) × (behind ≡ after ∷ rs) × (r.tree ≡ make after.tree)
front-joined make [] r rs h = absurd (cc)
front-joined make (after ∷ outer) r rs h =
    let here : record { tree = make after.tree; other = after.other } ≡ r = cc in
    let same : outer ≡ rs = cc in
    (after, ap (λ l. after ∷ l) same, sym (ap (λ (x : Rest). x.tree) here))

pub front-opened : (make : Tree → Tree → Tree) (behind : List Rest) (r : Rest) (rs : List Rest) → opened make behind ≡ Some (r ∷ rs) → (body : Tree) × (after : Rest) × (behind ≡ rest_of body ∷ after ∷ rs) × (r.tree ≡ make body after.tree)
front-opened make [] r rs h = absurd (cc)
front-opened make (body ∷ outer) r rs h =
    let w = without-some body.other (joined (make body.tree) outer) (r ∷ rs) h in
    let j = front-joined (make body.tree) outer r rs w.1 in
    let eta : body ≡ rest_of body.tree = ap (λ o. let x : Rest = record { tree = body.tree; other = o } in x) w.0 in
    (body.tree, j.0, ap (λ x. x ∷ outer) eta ∙ ap (λ l. rest_of body.tree ∷ l) j.1, j.2)

pub front-chosen : (ty : Option ValType) (behind : List Rest) (r : Rest) (rs : List Rest) → chosen ty behind ≡ Some (r ∷ rs) → (body : Rest) × (after : Rest) × (behind ≡ body ∷ after ∷ rs) × (r.tree ≡ choice ty body.tree (other_of body.other) after.tree)
front-chosen ty [] r rs h = absurd (cc)
front-chosen ty (body ∷ outer) r rs h =
    let j = front-joined (choice ty body.tree (other_of body.other)) outer r rs h in
    (body, j.0, ap (λ l. body ∷ l) j.1, j.2)

-- the blocks of a frame that enters a block, at a place in it
enters : (code : List Instr) (f : FlatFrame) (t : Top code f) (at : ℕ) (l : Label) (first after : Rest) → rests_at code at ≡ Some (first ∷ after ∷ t.rests) → IsStart code l.start (after ∷ t.rests) → ArePlaced code (l ∷ reverse f.labels.items) (first ∷ after ∷ t.rests) × (blocks_of code (l ∷ reverse f.labels.items) (left_at code at) ≡ block_of code l first ∷ record (block_of code t.label t.rest) { rest = after.tree } ∷ blocks_of code t.labels t.rests)
enters code f t at l first after h s =
    (subst (λ ls. ArePlaced code (l ∷ ls) (first ∷ after ∷ t.rests)) (sym t.listed) (s, (t.start, t.placed)), ap (blocks_of code (l ∷ reverse f.labels.items)) (left-is code at (first ∷ after ∷ t.rests) h) ∙ ap (λ ls. blocks_of code (l ∷ ls) (first ∷ after ∷ t.rests)) t.listed)

count-arity : (ty : Option ValType) → arity_of ty ≡ arity_if (is_some ty)
count-arity None = refl
count-arity (Some v) = refl

-- what a frame becomes as it enters a block
abbrev pub Enters : List Instr → FlatFrame → ℕ → Label → List ℕ → Type 0
Enters code f at l operands = ((rs : List Rest) × (rests_at code at ≡ Some rs) × ArePlaced code (l ∷ reverse f.labels.items) rs) × (began_block (frame_of code f) ≡ Some (record { results = arity_if f.gives; locals = f.locals.items; operands = operands; blocks = blocks_of code (l ∷ reverse f.labels.items) (left_at code at) }))

-- the frame with these operands and blocks
abbrev made : FlatFrame → List ℕ → List OpenBlock → Option Frame
made f operands blocks = Some (record { results = arity_if f.gives; locals = f.locals.items; operands = operands; blocks = blocks })

abbrev new_block : ℕ → ℕ → Tree → Option Tree → OpenBlock
new_block arity height rest again = record { arity = arity; height = height; rest = rest; again = again }

made-new : (f : FlatFrame) (operands : List ℕ) (a a' h h' : ℕ) (rest : Tree) (again again' : Option Tree) (outer : List OpenBlock) → a ≡ a' → h ≡ h' → again ≡ again' → made f operands (new_block a h rest again ∷ outer) ≡ made f operands (new_block a' h' rest again' ∷ outer)
made-new f operands a a' h h' rest again again' outer p q r = rw (p, q, r) refl

-- the row of the instruction in front of the innermost block's rest
row-at : (code : List Instr) (f : FlatFrame) (t : Top code f) (tree : Tree) → t.rest.tree ≡ tree → began_block (frame_of code f) ≡ began tree (block_of code t.label t.rest) (blocks_of code t.labels t.rests) (frame_of code f)
row-at code f t tree e =
    advanced-at (frame_of code f) (block_of code t.label t.rest) (blocks_of code t.labels t.rests) t.blocks ∙ ap (λ x. began x (block_of code t.label t.rest) (blocks_of code t.labels t.rests) (frame_of code f)) e

pub enter-block : (code : List Instr) (f : FlatFrame) (ty : Option ValType) (t : Top code f) → Block ty ≡ get_or code f.at (Block ty) → Enters code f (f.at + 1) (record { carries = is_some ty; height = length f.operands.items; start = None }) (reverse f.operands.items)
enter-block code f ty t is =
    let b = behind-at code f.at (Block ty) (t.rest ∷ t.rests) is t.left (omega arith) in
    by (front-opened (block ty) b.0 t.rest t.rests b.2) b.1
  where
    by : {behind : List Rest} → (body : Tree) × (after : Rest) × (behind ≡ rest_of body ∷ after ∷ t.rests) × (t.rest.tree ≡ block ty body after.tree) → rests_at code (f.at + 1) ≡ Some behind → Enters code f (f.at + 1) (record { carries = is_some ty; height = length f.operands.items; start = None }) (reverse f.operands.items)
    by (body, after, same, tree) left =
        let h = left ∙ ap Some same in
        let l : Label = record { carries = is_some ty; height = length f.operands.items; start = None } in
        let e = enters code f t (f.at + 1) l (rest_of body) after h tt in
        ((rest_of body ∷ after ∷ t.rests, h, e.0), row-at code f t (block ty body after.tree) tree ∙ made-new f (reverse f.operands.items) (arity_of ty) (arity_if (is_some ty)) (length (reverse f.operands.items)) (length f.operands.items) body None None _ (count-arity ty) (length-reverse f.operands.items) refl ∙ ap (made f (reverse f.operands.items)) (sym e.1))

pub enter-loop : (code : List Instr) (f : FlatFrame) (ty : Option ValType) (t : Top code f) → Loop ty ≡ get_or code f.at (Loop ty) → Enters code f (f.at + 1) (record { carries = false; height = length f.operands.items; start = Some (f.at + 1) }) (reverse f.operands.items)
enter-loop code f ty t is =
    let b = behind-at code f.at (Loop ty) (t.rest ∷ t.rests) is t.left (omega arith) in
    by (front-opened (loop ty) b.0 t.rest t.rests b.2) b.1
  where
    by : {behind : List Rest} → (body : Tree) × (after : Rest) × (behind ≡ rest_of body ∷ after ∷ t.rests) × (t.rest.tree ≡ loop ty body after.tree) → rests_at code (f.at + 1) ≡ Some behind → Enters code f (f.at + 1) (record { carries = false; height = length f.operands.items; start = Some (f.at + 1) }) (reverse f.operands.items)
    by (body, after, same, tree) left =
        let h = left ∙ ap Some same in
        let l : Label = record { carries = false; height = length f.operands.items; start = Some (f.at + 1) } in
        let e = enters code f t (f.at + 1) l (rest_of body) after h (body, h) in
        let again : body ≡ first_tree (left_at code (f.at + 1)) = sym (ap first_tree (left-is code (f.at + 1) (rest_of body ∷ after ∷ t.rests) h)) in
        ((rest_of body ∷ after ∷ t.rests, h, e.0), row-at code f t (loop ty body after.tree) tree ∙ made-new f (reverse f.operands.items) 0 0 (length (reverse f.operands.items)) (length f.operands.items) body (Some body) (Some (first_tree (left_at code (f.at + 1)))) _ refl (length-reverse f.operands.items) (ap Some again) ∙ ap (made f (reverse f.operands.items)) (sym e.1))

-- the row of an `if`, where the operand is known
choice-row : (f : FlatFrame) (ty : Option ValType) (v : ℕ) (below : List ℕ) (first second after : Tree) (b : OpenBlock) (outer : List OpenBlock) (code : List Instr) (chosen' : Tree) → reverse f.operands.items ≡ v ∷ below → is_of I32 v ≡ true → cond ((v == 0)) second first ≡ chosen' → began (choice ty first second after) b outer (frame_of code f) ≡ made f below (new_block (arity_if (is_some ty)) (length below) chosen' None ∷ record b { rest = after } ∷ outer)
choice-row f ty v below first second after b outer code chosen' ops i32 e =
    ap (λ os. began (choice ty first second after) b outer (record (frame_of code f) { operands = os })) ops ∙ ap (λ z. cond z (made f below (new_block (arity_of ty) (length below) (cond (v == 0) second first) None ∷ record b { rest = after } ∷ outer)) None) i32 ∙ ap (λ x. made f below (new_block (arity_of ty) (length below) x None ∷ record b { rest = after } ∷ outer)) e ∙ ap (λ n. made f below (new_block n (length below) chosen' None ∷ record b { rest = after } ∷ outer)) (count-arity ty)

abbrev pub choice-label : Option ValType → List ℕ → Label
choice-label ty below = record { carries = is_some ty; height = length below; start = None }

pub enter-first : (code : List Instr) (f : FlatFrame) (ty : Option ValType) (t : Top code f) (v : ℕ) (below : List ℕ) → If ty ≡ get_or code f.at (If ty) → reverse f.operands.items ≡ v ∷ below → is_of I32 v ≡ true → (v == 0) ≡ false → Enters code f (f.at + 1) (choice-label ty below) below
enter-first code f ty t v below is ops i32 test =
    let b = behind-at code f.at (If ty) (t.rest ∷ t.rests) is t.left (omega arith) in
    by (front-chosen ty b.0 t.rest t.rests b.2) b.1
  where
    by : {behind : List Rest} → (body after : Rest) × (behind ≡ body ∷ after ∷ t.rests) × (t.rest.tree ≡ choice ty body.tree (other_of body.other) after.tree) → rests_at code (f.at + 1) ≡ Some behind → Enters code f (f.at + 1) (choice-label ty below) below
    by (body, after, same, tree) left =
        let h = left ∙ ap Some same in
        let e = enters code f t (f.at + 1) (choice-label ty below) body after h tt in
        ((body ∷ after ∷ t.rests, h, e.0), row-at code f t (choice ty body.tree (other_of body.other) after.tree) tree ∙ choice-row f ty v below body.tree (other_of body.other) after.tree (block_of code t.label t.rest) (blocks_of code t.labels t.rests) code body.tree ops i32 (ap (λ x. cond x (other_of body.other) body.tree) test) ∙ ap (made f below) (sym e.1))

pub enter-second : (code : List Instr) (f : FlatFrame) (ty : Option ValType) (t : Top code f) (v : ℕ) (below : List ℕ) (at : ℕ) → If ty ≡ get_or code f.at (If ty) → reverse f.operands.items ≡ v ∷ below → is_of I32 v ≡ true → (v == 0) ≡ true → rests_at code at ≡ option_map with_other (rests_at code (f.at + 1)) → Enters code f at (choice-label ty below) below
enter-second code f ty t v below at is ops i32 test there =
    let b = behind-at code f.at (If ty) (t.rest ∷ t.rests) is t.left (omega arith) in
    by (front-chosen ty b.0 t.rest t.rests b.2) b.1
  where
    by : {behind : List Rest} → (body after : Rest) × (behind ≡ body ∷ after ∷ t.rests) × (t.rest.tree ≡ choice ty body.tree (other_of body.other) after.tree) → rests_at code (f.at + 1) ≡ Some behind → Enters code f at (choice-label ty below) below
    by (body, after, same, tree) left =
        let h = there ∙ ap (option_map with_other) (left ∙ ap Some same) in
        let e = enters code f t at (choice-label ty below) (rest_of (other_of body.other)) after h tt in
        ((rest_of (other_of body.other) ∷ after ∷ t.rests, h, e.0), row-at code f t (choice ty body.tree (other_of body.other) after.tree) tree ∙ choice-row f ty v below body.tree (other_of body.other) after.tree (block_of code t.label t.rest) (blocks_of code t.labels t.rests) code (other_of body.other) ops i32 (ap (λ x. cond x (other_of body.other) body.tree) test) ∙ ap (made f below) (sym e.1))

-- the frame that leaves its innermost block
abbrev pub Closes : List Instr → FlatFrame → ℕ → List Label → Type 0
Closes code f at labels = ((rs : List Rest) × (rests_at code at ≡ Some rs) × ArePlaced code labels rs) × (closed (frame_of code f) ≡ made f (reverse f.operands.items) (blocks_of code labels (left_at code at)))

closes : (code : List Instr) (f : FlatFrame) (t : Top code f) (at : ℕ) → t.rest.tree ≡ done → rests_at code at ≡ Some t.rests → Closes code f at t.labels
closes code f t at tree h =
    let now : closed (frame_of code f) ≡ closed_in t.rest.tree (blocks_of code t.labels t.rests) (frame_of code f) = ap (λ bs. elim bs as (λ x. Option Frame) [ [] ↦ None | b ∷ outer ↦ closed_in b.rest outer (frame_of code f) ]) t.blocks in
    ((t.rests, h, t.placed), now ∙ ap (λ x. closed_in x (blocks_of code t.labels t.rests) (frame_of code f)) tree ∙ ap (λ rs. made f (reverse f.operands.items) (blocks_of code t.labels rs)) (sym (left-is code at t.rests h)))

pub close-end : (code : List Instr) (f : FlatFrame) (t : Top code f) → End ≡ get_or code f.at End → Closes code f (f.at + 1) t.labels
close-end code f t is =
    let b = behind-at code f.at End (t.rest ∷ t.rests) is t.left (omega arith) in
    let e : Some (rest_of done ∷ b.0) ≡ Some (t.rest ∷ t.rests) = b.2 in
    let here : rest_of done ≡ t.rest = cc in
    let same : b.0 ≡ t.rests = cc in
    closes code f t (f.at + 1) (sym (ap (λ (x : Rest). x.tree) here)) (b.1 ∙ ap Some same)

pub close-else : (code : List Instr) (f : FlatFrame) (t : Top code f) (at : ℕ) → Else ≡ get_or code f.at Else → rests_at code at ≡ option_map (drop 1) (rests_at code f.at) → Closes code f at t.labels
close-else code f t at is there =
    let b = behind-at code f.at Else (t.rest ∷ t.rests) is t.left (omega arith) in
    closes code f t at (by b.0 b.2) (there ∙ ap (option_map (drop 1)) t.left)
  where
    by : (behind : List Rest) → elsed behind ≡ Some (t.rest ∷ t.rests) → t.rest.tree ≡ done
    by [] e = absurd (cc)
    by (r ∷ outer) e =
        let w = without-some r.other (Some (record { tree = done; other = Some r.tree } ∷ outer)) (t.rest ∷ t.rests) e in
        let same : record { tree = done; other = Some r.tree } ≡ t.rest = cc in
        sym (ap (λ (x : Rest). x.tree) same)

-- what can close has an open block, whose list is at its end
pub closed-some : (code : List Instr) (f : FlatFrame) → IsSome (closed (frame_of code f)) → 0 < length f.labels.items
closed-some code f h = by f.labels.items refl
  where
    by : (ls : List Label) → f.labels.items ≡ ls → 0 < length f.labels.items
    by [] e = let bad : false ≡ true = subst (λ ls. IsSome (closed (record (frame_of code f) { blocks = blocks_of code (reverse ls) (left_at code f.at) }))) e h in absurd (cc)
    by (l ∷ ls) e = omega (arith, ap length e)

closed_in-done : (tree : Tree) (outer : List OpenBlock) (f : Frame) → IsSome (closed_in tree outer f) → tree ≡ done
closed_in-done done outer f h = refl
closed_in-done (plain i t) outer f h = absurd (cc)
closed_in-done (block ty b t) outer f h = absurd (cc)
closed_in-done (loop ty b t) outer f h = absurd (cc)
closed_in-done (choice ty a b t) outer f h = absurd (cc)

pub closed-done : (code : List Instr) (f : FlatFrame) (t : Top code f) → IsSome (closed (frame_of code f)) → t.rest.tree ≡ done
closed-done code f t h =
    closed_in-done t.rest.tree (blocks_of code t.labels t.rests) (frame_of code f) (subst (λ bs. IsSome (elim bs as (λ x. Option Frame) [ [] ↦ None | b ∷ outer ↦ closed_in b.rest outer (frame_of code f) ])) t.blocks h)

-- where the rest is done, the list ends
front-done : (i : Instr) (behind : List Rest) (r : Rest) (rs : List Rest) → in_front i behind ≡ Some (r ∷ rs) → r.tree ≡ done → (i ≡ Else → ⊥) → i ≡ End
front-done (Block ty) behind r rs h d not = let o = front-opened (block ty) behind r rs h in let e : block ty o.0 o.1.tree ≡ done = sym o.3 ∙ d in absurd (cc)
front-done (Loop ty) behind r rs h d not = let o = front-opened (loop ty) behind r rs h in let e : loop ty o.0 o.1.tree ≡ done = sym o.3 ∙ d in absurd (cc)
front-done (If ty) behind r rs h d not = let o = front-chosen ty behind r rs h in let e : choice ty o.0.tree (other_of o.0.other) o.1.tree ≡ done = sym o.3 ∙ d in absurd (cc)
front-done Else behind r rs h d not = absurd (not refl)
front-done End behind r rs h d not = refl
front-done i [] r rs h d not = absurd (cc)
front-done i (x ∷ xs) r rs h d not =
    let same : record { tree = plain i x.tree; other = x.other } ≡ r = cc in
    let e : plain i x.tree ≡ done = ap (λ (y : Rest). y.tree) same ∙ d in absurd (cc)

pub end-at : (code : List Instr) (f : FlatFrame) (i : Instr) (t : Top code f) → i ≡ get_or code f.at i → t.rest.tree ≡ done → (i ≡ Else → ⊥) → i ≡ End
end-at code f i t is d not =
    let b = behind-at code f.at i (t.rest ∷ t.rests) is t.left (omega arith) in
    front-done i b.0 t.rest t.rests b.2 d not

pub at-within : (code : List Instr) (f : FlatFrame) (t : Top code f) → f.at < length code
at-within code f t = within-code code f.at (t.rest ∷ t.rests) t.left (omega arith)

-- the labels under the newest
pub labels-under : (code : List Instr) (f : FlatFrame) (t : Top code f) → reverse (take (length f.labels.items - 1) f.labels.items) ≡ t.labels
labels-under code f t =
    let n : 0 < length f.labels.items = omega (arith, ap length t.listed, length-reverse f.labels.items) in
    let e : get_or f.labels.items (length f.labels.items - 1) t.label ∷ reverse (take (length f.labels.items - 1) f.labels.items) ≡ t.label ∷ t.labels = sym (reverse-last f.labels.items t.label n) ∙ t.listed in
    cc

-- as `Closes`, with other labels that are equal
pub closes-with : (code : List Instr) (f : FlatFrame) (at : ℕ) (labels labels' : List Label) → labels ≡ labels' → Closes code f at labels' → Closes code f at labels
closes-with code f at labels labels' same h = subst (λ ls. Closes code f at ls) (sym same) h

-- what was read is this instruction
pub reads-as : (code : List Instr) (at : ℕ) (i j : Instr) → i ≡ get_or code at i → i ≡ j → j ≡ get_or code at j
reads-as code at i j is e = subst (λ x. x ≡ get_or code at x) e is

-- a frame that went into a block
pub entered : (code : List Instr) (f g : FlatFrame) (at : ℕ) (l : Label) (operands : List ℕ) → Enters code f at l operands → g.at ≡ at → g.gives ≡ f.gives → g.locals ≡ f.locals → g.labels.items ≡ f.labels.items ++ l ∷ [] → reverse g.operands.items ≡ operands → (began_block (frame_of code f) ≡ Some (frame_of code g)) × IsPlaced code g
entered code f g at l operands (p, e) at-is gives-is locals-is labels ops =
    let ls : reverse g.labels.items ≡ l ∷ reverse f.labels.items = ap reverse labels ∙ reverse-append f.labels.items (l ∷ []) in
    (e ∙ rw (ls, at-is, gives-is, locals-is, ops) refl, rw (ls, at-is) p)

pub enter-done : (code : List Instr) (f g : FlatFrame) (at : ℕ) (l : Label) (r : Result (Unit {0}) AllocError) → IsPlaced code f → Enters code f at l (reverse f.operands.items) → OnOk r ((g ≡ record f { at = at; labels = g.labels }) × (g.labels.items ≡ f.labels.items ++ l ∷ [])) → OnErr r ((g ≡ record f { labels = g.labels }) × (g.labels.items ≡ f.labels.items)) → OnOk r (began_block (frame_of code f) ≡ Some (frame_of code g)) × IsPlaced code g
enter-done code f g at l (Ok x) p e ok err =
    entered code f g at l (reverse f.operands.items) e (ap (λ (y : FlatFrame). y.at) ok.0) (ap (λ (y : FlatFrame). y.gives) ok.0) (ap (λ (y : FlatFrame). y.locals) ok.0) ok.1 (ap (λ (y : FlatFrame). reverse y.operands.items) ok.0)
enter-done code f g at l (Err x) p e ok err =
    let at-is : g.at ≡ f.at = ap (λ (y : FlatFrame). y.at) err.0 in
    (tt, rw (ap reverse err.1, at-is) p)

-- a frame that went into a block and took an operand
pub entered-popped : (code : List Instr) (f g h : FlatFrame) (at : ℕ) (l : Label) (v v' : ℕ) (below : List ℕ) → Enters code f at l below → (g ≡ record f { at = at; labels = g.labels }) × (g.labels.items ≡ f.labels.items ++ l ∷ []) → h ≡ record g { operands = h.operands } → reverse g.operands.items ≡ v' ∷ reverse h.operands.items → reverse f.operands.items ≡ v ∷ below → (began_block (frame_of code f) ≡ Some (frame_of code h)) × IsPlaced code h
entered-popped code f g h at l v v' below e ok rest top ops =
    entered code f h at l below e (ap (λ (y : FlatFrame). y.at) rest ∙ ap (λ (y : FlatFrame). y.at) ok.0) (ap (λ (y : FlatFrame). y.gives) rest ∙ ap (λ (y : FlatFrame). y.gives) ok.0) (ap (λ (y : FlatFrame). y.locals) rest ∙ ap (λ (y : FlatFrame). y.locals) ok.0) (ap (λ (y : FlatFrame). y.labels.items) rest ∙ ok.1) (ap (drop 1) (sym top ∙ ap (λ (y : FlatFrame). reverse y.operands.items) ok.0 ∙ ops))

-- what can go on is no end of a list
pub advanced-top : (code : List Instr) (f : FlatFrame) → IsPlaced code f → IsSome (began_block (frame_of code f)) → Top code f
advanced-top code f p h = top code f p (advanced-some code f h)

-- what stands at the place, by the tree
choice-some : (ty : Option ValType) (a b c : Tree) (o : OpenBlock) (outer : List OpenBlock) (f : Frame) → IsSome (began (choice ty a b c) o outer f) → 0 < length f.operands
choice-some ty a b c o outer f h = by f.operands refl
  where
    by : (os : List ℕ) → f.operands ≡ os → 0 < length f.operands
    by [] e = let bad : false ≡ true = subst (λ x. IsSome (began (choice ty a b c) o outer (record f { operands = x }))) e h in absurd (cc)
    by (v ∷ os) e = omega (arith, ap length e)

pub if-operand : (code : List Instr) (f : FlatFrame) (ty : Option ValType) → IsPlaced code f → IsSome (began_block (frame_of code f)) → If ty ≡ get_or code f.at (If ty) → 0 < length f.operands.items
if-operand code f ty p h is =
    let t = advanced-top code f p h in
    let b = behind-at code f.at (If ty) (t.rest ∷ t.rests) is t.left (omega arith) in
    let o = front-chosen ty b.0 t.rest t.rests b.2 in
    let some = choice-some ty o.0.tree (other_of o.0.other) o.1.tree (block_of code t.label t.rest) (blocks_of code t.labels t.rests) (frame_of code f) (subst (λ x. IsSome x) (row-at code f t (choice ty o.0.tree (other_of o.0.other) o.1.tree) o.3) h) in
    rw length-reverse at some

choice-i32 : (ty : Option ValType) (a b c : Tree) (o : OpenBlock) (outer : List OpenBlock) (f : Frame) (v : ℕ) (below : List ℕ) → f.operands ≡ v ∷ below → IsSome (began (choice ty a b c) o outer f) → is_of I32 v ≡ true
choice-i32 ty a b c o outer f v below e h = by (is_of I32 v) refl (subst (λ x. IsSome (began (choice ty a b c) o outer (record f { operands = x }))) e h)
  where
    by : (d : Bool) → is_of I32 v ≡ d → IsSome (cond d (Some (record f { operands = below; blocks = record { arity = arity_of ty; height = length below; rest = cond (v == 0) b a; again = None } ∷ record o { rest = c } ∷ outer })) None) → is_of I32 v ≡ true
    by true i h = i
    by false i h = absurd (cc)

pub if-value : (code : List Instr) (f : FlatFrame) (ty : Option ValType) (v : ℕ) (below : List ℕ) → IsPlaced code f → IsSome (began_block (frame_of code f)) → If ty ≡ get_or code f.at (If ty) → reverse f.operands.items ≡ v ∷ below → is_of I32 v ≡ true
if-value code f ty v below p h is ops =
    let t = advanced-top code f p h in
    let b = behind-at code f.at (If ty) (t.rest ∷ t.rests) is t.left (omega arith) in
    let o = front-chosen ty b.0 t.rest t.rests b.2 in
    choice-i32 ty o.0.tree (other_of o.0.other) o.1.tree (block_of code t.label t.rest) (blocks_of code t.labels t.rests) (frame_of code f) v below ops (subst (λ x. IsSome x) (row-at code f t (choice ty o.0.tree (other_of o.0.other) o.1.tree) o.3) h)

-- a list is open behind an `if`
pub if-open : (code : List Instr) (f : FlatFrame) (ty : Option ValType) → IsPlaced code f → IsSome (began_block (frame_of code f)) → If ty ≡ get_or code f.at (If ty) → IsOpen code (f.at + 1) 1
if-open code f ty p h is =
    let t = advanced-top code f p h in
    let b = behind-at code f.at (If ty) (t.rest ∷ t.rests) is t.left (omega arith) in
    let o = front-chosen ty b.0 t.rest t.rests b.2 in
    (b.0, b.1, omega (arith, ap length o.2))

pub if-is : (code : List Instr) (at : ℕ) (ty : Option ValType) → slice_get code at ≡ Some (If ty) → If ty ≡ get_or code at (If ty)
if-is code at ty e =
    ⊎_elim (λ lt. let s = sym (slice_get-get_or code at (If ty) lt) ∙ e in let q : get_or code at (If ty) ≡ If ty = cc in sym q) (λ ge. let bad = sym (slice_get_past code at ge) ∙ e in absurd (cc)) (cases_lt at (length code))

-- the tree at an `end` and at an `else`
pub tree-end : (code : List Instr) (f : FlatFrame) (t : Top code f) → End ≡ get_or code f.at End → t.rest.tree ≡ done
tree-end code f t is =
    let b = behind-at code f.at End (t.rest ∷ t.rests) is t.left (omega arith) in
    let e : Some (rest_of done ∷ b.0) ≡ Some (t.rest ∷ t.rests) = b.2 in
    let here : rest_of done ≡ t.rest = cc in
    sym (ap (λ (x : Rest). x.tree) here)

pub tree-else : (code : List Instr) (f : FlatFrame) (t : Top code f) → Else ≡ get_or code f.at Else → t.rest.tree ≡ done
tree-else code f t is = let b = behind-at code f.at Else (t.rest ∷ t.rests) is t.left (omega arith) in by b.0 b.2
  where
    by : (behind : List Rest) → elsed behind ≡ Some (t.rest ∷ t.rests) → t.rest.tree ≡ done
    by [] e = absurd (cc)
    by (r ∷ outer) e =
        let w = without-some r.other (Some (record { tree = done; other = Some r.tree } ∷ outer)) (t.rest ∷ t.rests) e in
        let same : record { tree = done; other = Some r.tree } ≡ t.rest = cc in
        sym (ap (λ (x : Rest). x.tree) same)

pub on_ok-from : {A B : Type 0} (r : Result (Unit {0}) AllocError) → (A → B) → OnOk r A → OnOk r B
on_ok-from (Ok x) f h = f h
on_ok-from (Err e) f h = h

pub on_err-none : (B : Type 0) (r : Result (Unit {0}) AllocError) → is_err r ≡ false → OnErr r B
on_err-none B (Ok x) h = tt
on_err-none B (Err e) h = absurd (cc)

-- what stands at a place that begins no block: an instruction that stays in its list, or the end of the list
front-others : (i : Instr) (behind : List Rest) (r : Rest) (rs : List Rest) → in_front i behind ≡ Some (r ∷ rs) → ((ty : Option ValType) → i ≡ Block ty → ⊥) → ((ty : Option ValType) → i ≡ Loop ty → ⊥) → ((ty : Option ValType) → i ≡ If ty → ⊥) → (r.tree ≡ done) ⊎ ((rest : Tree) × (r.tree ≡ plain i rest))
front-others (Block ty) behind r rs h a b c = absurd (a ty refl)
front-others (Loop ty) behind r rs h a b c = absurd (b ty refl)
front-others (If ty) behind r rs h a b c = absurd (c ty refl)
front-others Else [] r rs h a b c = absurd (cc)
front-others Else (x ∷ xs) r rs h a b c =
    let w = without-some x.other (Some (record { tree = done; other = Some x.tree } ∷ xs)) (r ∷ rs) h in
    let same : record { tree = done; other = Some x.tree } ≡ r = cc in
    inl (sym (ap (λ (y : Rest). y.tree) same))
front-others End behind r rs h a b c = let same : rest_of done ≡ r = cc in inl (sym (ap (λ (y : Rest). y.tree) same))
front-others i [] r rs h a b c = absurd (cc)
front-others i (x ∷ xs) r rs h a b c =
    let same : record { tree = plain i x.tree; other = x.other } ≡ r = cc in
    inr (x.tree, sym (ap (λ (y : Rest). y.tree) same))

-- what begins a block is one of the three instructions that do
pub begins-none : (code : List Instr) (f : FlatFrame) (i : Instr) (t : Top code f) → i ≡ get_or code f.at i → IsSome (began_block (frame_of code f)) → ((ty : Option ValType) → i ≡ Block ty → ⊥) → ((ty : Option ValType) → i ≡ Loop ty → ⊥) → ((ty : Option ValType) → i ≡ If ty → ⊥) → ⊥
begins-none code f i t is h a b c =
    let k = behind-at code f.at i (t.rest ∷ t.rests) is t.left (omega arith) in
    ⊎_elim (λ d. let bad : false ≡ true = subst (λ x. IsSome x) (row-at code f t done d) h in absurd (cc)) (λ p. let bad : false ≡ true = subst (λ x. IsSome x) (row-at code f t (plain i p.0) p.1) h in absurd (cc)) (front-others i k.0 t.rest t.rests k.2 a b c)

pub front-plain : (i : Instr) (behind : List Rest) → is_plain i ≡ true → in_front i behind ≡ followed i behind
front-plain (Block t) behind p = absurd (cc)
front-plain (Loop t) behind p = absurd (cc)
front-plain (If t) behind p = absurd (cc)
front-plain Else behind p = absurd (cc)
front-plain End behind p = absurd (cc)
front-plain i behind p = refl

-- past an instruction that begins and ends no list: the innermost block is behind it, and the others are the same
pub skip : (code : List Instr) (f : FlatFrame) (i : Instr) (t : Top code f) → i ≡ get_or code f.at i → is_plain i ≡ true → IsPlaced code (moved f (f.at + 1)) × ((rest : Tree) × (t.rest.tree ≡ plain i rest) × (record (frame_of code f) { blocks = record (block_of code t.label t.rest) { rest = rest } ∷ blocks_of code t.labels t.rests } ≡ frame_of code (moved f (f.at + 1))))
skip code f i t is p =
    let b = behind-at code f.at i (t.rest ∷ t.rests) is t.left (omega arith) in
    by b.0 b.1 (sym (front-plain i b.0 p) ∙ b.2)
  where
    by : (behind : List Rest) → rests_at code (f.at + 1) ≡ Some behind → followed i behind ≡ Some (t.rest ∷ t.rests) → IsPlaced code (moved f (f.at + 1)) × ((rest : Tree) × (t.rest.tree ≡ plain i rest) × (record (frame_of code f) { blocks = record (block_of code t.label t.rest) { rest = rest } ∷ blocks_of code t.labels t.rests } ≡ frame_of code (moved f (f.at + 1))))
    by [] h e = absurd (cc)
    by (r ∷ rs) h e =
        let here : record { tree = plain i r.tree; other = r.other } ≡ t.rest = cc in
        let outer : rs ≡ t.rests = cc in
        let tree : t.rest.tree ≡ plain i r.tree = sym (ap (λ (x : Rest). x.tree) here) in
        let placed : ArePlaced code (t.label ∷ t.labels) (r ∷ rs) = rw outer (t.start, t.placed) in
        let blocks : (frame_of code (moved f (f.at + 1))).blocks ≡ block_of code t.label r ∷ blocks_of code t.labels t.rests = frame-is code (moved f (f.at + 1)) (r ∷ rs) h ∙ ap (λ x. blocks_of code x (r ∷ rs)) t.listed ∙ ap (λ x. block_of code t.label r ∷ blocks_of code t.labels x) outer in
        ((r ∷ rs, h, subst (λ ls. ArePlaced code ls (r ∷ rs)) (sym t.listed) placed), (r.tree, tree, ap (λ bs. record (frame_of code f) { blocks = bs }) (sym blocks)))
