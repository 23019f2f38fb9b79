-- Branches over flat code are branches over trees.
use Rattle.std.proofs.Common.{◌≡◌, ℕ, zero, suc, ◌+◌, ◌-◌, ◌<◌, ◌≤◌, List, [], ◌∷◌, ◌++◌, length, take, drop, get_or, Some, None, refl, sym, ap, ◌∙◌, arith, subst, ⊎_elim}
use Rattle.std.proofs.lemmas.List.{drop_all, drop_more, length-reverse}
use Rattle.std.proofs.lemmas.Bool.{cases_lt, le-leb, leb-true}
use Rattle.mv_frames.specs.Arity.{arity_if}
use Rattle.mv_frames.proofs.Lists.{drop-reverse}
use Rattle.std.specs.Prelude.{reverse, unwrap_or, IsSome, nat_le, Bool, true, false, cond}
use Rattle.mv_syntax.specs.declared.instr.Instr.{Instr}
use Rattle.mv_syntax.specs.Tree.{Tree, done, Rest, rest_of, rests_at}
use Rattle.mv_frames.specs.declared.frame.Label.{Label}
use Rattle.mv_frames.specs.declared.frame.Frame.{Frame as FlatFrame}
use Rattle.mv_execution.specs.Config.{OpenBlock, Frame}
use Rattle.mv_execution.specs.Rows.{carried, begun_again, branched_to, branched}
use Rattle.mv_execution.specs.Instance.{first_tree}
use Rattle.mv_frames.specs.Frames.{left_at, block_of, blocks_of, frame_of, IsStart, ArePlaced, IsPlaced}

pub left-is : (code : List Instr) (at : ℕ) (rs : List Rest) → rests_at code at ≡ Some rs → left_at code at ≡ rs
left-is code at rs h = ap (λ o. unwrap_or o []) h

pub placed-length : (code : List Instr) (ls : List Label) (rs : List Rest) → ArePlaced code ls rs → length ls ≡ length rs
placed-length code [] [] p = refl
placed-length code [] (r ∷ rs) p = absurd p
placed-length code (l ∷ ls) [] p = absurd p
placed-length code (l ∷ ls) (r ∷ rs) p = ap suc (placed-length code ls rs p.1)

pub placed-drop : (code : List Instr) (n : ℕ) (ls : List Label) (rs : List Rest) → ArePlaced code ls rs → ArePlaced code (drop n ls) (drop n rs)
placed-drop code zero ls rs p = p
placed-drop code (suc n) [] [] p = p
placed-drop code (suc n) [] (r ∷ rs) p = absurd p
placed-drop code (suc n) (l ∷ ls) [] p = absurd p
placed-drop code (suc n) (l ∷ ls) (r ∷ rs) p = placed-drop code n ls rs p.1

pub blocks-drop : (code : List Instr) (n : ℕ) (ls : List Label) (rs : List Rest) → drop n (blocks_of code ls rs) ≡ blocks_of code (drop n ls) (drop n rs)
blocks-drop code zero ls rs = refl
blocks-drop code (suc n) [] rs = refl
blocks-drop code (suc n) (l ∷ ls) [] = sym (none (drop n ls))
  where
    none : (ls : List Label) → blocks_of code ls [] ≡ []
    none [] = refl
    none (l ∷ ls) = refl
blocks-drop code (suc n) (l ∷ ls) (r ∷ rs) = blocks-drop code n ls rs

begun-none : (code : List Instr) (l : Label) (r : Rest) (outer : List OpenBlock) → l.start ≡ None → begun_again (block_of code l r) outer ≡ outer
begun-none code l r outer h = rw h refl

begun-some : (code : List Instr) (l : Label) (r : Rest) (outer : List OpenBlock) (at : ℕ) (body : Tree) (rs : List Rest) → l.start ≡ Some at → rests_at code at ≡ Some (rest_of body ∷ rs) → begun_again (block_of code l r) outer ≡ block_of code l (rest_of body) ∷ outer
begun-some code l r outer at body rs h e =
    let t : first_tree (left_at code at) ≡ body = ap first_tree (left-is code at (rest_of body ∷ rs) e) in
    rw h (rw t refl)

pub frame-is : (code : List Instr) (f : FlatFrame) (rs : List Rest) → rests_at code f.at ≡ Some rs → (frame_of code f).blocks ≡ blocks_of code (reverse f.labels.items) rs
frame-is code f rs h = ap (blocks_of code (reverse f.labels.items)) (left-is code f.at rs h)

abbrev pub CanCarry : List OpenBlock → ℕ → Type 0
CanCarry [] count = ⊥
CanCarry (b ∷ outer) count = b.height + b.arity ≤ count

cond-some : {A : Type 0} (b : Bool) (x : A) → IsSome (cond b (Some x) None) → b ≡ true
cond-some true x h = refl
cond-some false x h = absurd (cc)

-- what a branch that isn't stuck finds
pub can-carry : (bs : List OpenBlock) (f : Frame) → IsSome (branched_to bs f) → CanCarry bs (length f.operands)
can-carry [] f h = absurd (cc)
can-carry (b ∷ outer) f h = leb-true (b.height + b.arity) (length f.operands) (cond-some (nat_le (b.height + b.arity) (length f.operands)) (record f { operands = carried b f.operands; blocks = begun_again b outer }) h)

can-branch-within : (code : List Instr) (ls : List Label) (rs : List Rest) (n count : ℕ) → CanCarry (drop n (blocks_of code ls rs)) count → n < length ls
can-branch-within code ls rs n count can = ⊎_elim (λ lt. lt) (λ ge. absurd (subst (λ bs. CanCarry bs count) (blocks-drop code n ls rs ∙ ap (λ l. blocks_of code l (drop n rs)) (drop_all n ls ge)) can)) (cases_lt n (length ls))

pub branch-within : (code : List Instr) (f : FlatFrame) (n : ℕ) → IsPlaced code f → IsSome (branched n (frame_of code f)) → n < length f.labels.items
branch-within code f n p some =
    let can = can-carry (drop n (frame_of code f).blocks) (frame_of code f) some in
    let can' : CanCarry (drop n (blocks_of code (reverse f.labels.items) p.0)) (length (reverse f.operands.items)) = subst (λ bs. CanCarry (drop n bs) (length (reverse f.operands.items))) (frame-is code f p.0 p.1) can in
    rw length-reverse at (can-branch-within code (reverse f.labels.items) p.0 n (length (reverse f.operands.items)) can')

-- Where a branch of a placed frame leads.
pub record Target (code : List Instr) (f : FlatFrame) (n : ℕ) (l : Label) (ls : List Label) : Type 0 where
  pub rs : List Rest
  pub left : rests_at code f.at ≡ Some rs
  pub within : n < length rs
  pub listed : n < length f.labels.items
  pub labels : drop n (reverse f.labels.items) ≡ l ∷ ls
  pub rest : Rest
  pub blocks : drop n (frame_of code f).blocks ≡ block_of code l rest ∷ blocks_of code ls (drop (n + 1) rs)
  pub start : IsStart code l.start (drop (n + 1) rs)
  pub placed : ArePlaced code ls (drop (n + 1) rs)
  pub fits : l.height + arity_if l.carries ≤ length f.operands.items

pub target : (code : List Instr) (f : FlatFrame) (n below : ℕ) (l : Label) → IsPlaced code f → IsSome (branched n (frame_of code f)) → below ≡ length f.labels.items - 1 - n → l ≡ get_or f.labels.items below l → Target code f n l (reverse (take below f.labels.items))
target code f n below l p some b is =
    record { rs = p.0; left = p.1; within = lt'; listed = lt; labels = split; rest = get_or p.0 n (rest_of done); blocks = blocks; start = placed.0; placed = placed.1; fits = fits }
  where
    lt : n < length f.labels.items
    lt = branch-within code f n p some

    lt' : n < length p.0
    lt' = omega (arith, placed-length code (reverse f.labels.items) p.0 p.2, length-reverse f.labels.items, lt)

    split : drop n (reverse f.labels.items) ≡ l ∷ reverse (take below f.labels.items)
    split = drop-reverse f.labels.items n l lt ∙ ap (λ k. get_or f.labels.items k l ∷ reverse (take k f.labels.items)) (sym b) ∙ ap (λ x. x ∷ reverse (take below f.labels.items)) (sym is)

    rest-split : drop n p.0 ≡ get_or p.0 n (rest_of done) ∷ drop (n + 1) p.0
    rest-split = drop_more p.0 n (rest_of done) lt'

    placed : IsStart code l.start (drop (n + 1) p.0) × ArePlaced code (reverse (take below f.labels.items)) (drop (n + 1) p.0)
    placed = subst (λ r. ArePlaced code (l ∷ reverse (take below f.labels.items)) r) rest-split (subst (λ ls. ArePlaced code ls (drop n p.0)) split (placed-drop code n (reverse f.labels.items) p.0 p.2))

    blocks : drop n (frame_of code f).blocks ≡ block_of code l (get_or p.0 n (rest_of done)) ∷ blocks_of code (reverse (take below f.labels.items)) (drop (n + 1) p.0)
    blocks = ap (drop n) (frame-is code f p.0 p.1) ∙ blocks-drop code n (reverse f.labels.items) p.0 ∙ ap (λ ls. blocks_of code ls (drop n p.0)) split ∙ ap (blocks_of code (l ∷ reverse (take below f.labels.items))) rest-split

    fits : l.height + arity_if l.carries ≤ length f.operands.items
    fits = rw length-reverse at (subst (λ bs. CanCarry bs (length (reverse f.operands.items))) blocks (can-carry (drop n (frame_of code f).blocks) (frame_of code f) some))

-- the frame with these operands and blocks
abbrev changed : FlatFrame → List ℕ → List OpenBlock → Frame
changed f operands blocks = record { results = arity_if f.gives; locals = f.locals.items; operands = operands; blocks = blocks }

branch-is : (code : List Instr) (f : FlatFrame) (n : ℕ) (l : Label) (ls : List Label) (t : Target code f n l ls) (operands : List ℕ) (blocks : List OpenBlock) → operands ≡ take (arity_if l.carries) (reverse f.operands.items) ++ drop (length f.operands.items - l.height) (reverse f.operands.items) → begun_again (block_of code l t.rest) (blocks_of code ls (drop (n + 1) t.rs)) ≡ blocks → branched n (frame_of code f) ≡ Some (changed f operands blocks)
branch-is code f n l ls t operands blocks o b =
    let len : length (reverse f.operands.items) ≡ length f.operands.items = length-reverse f.operands.items in
    let kept : carried (block_of code l t.rest) (reverse f.operands.items) ≡ operands = ap (λ m. take (arity_if l.carries) (reverse f.operands.items) ++ drop (m - l.height) (reverse f.operands.items)) len ∙ sym o in
    let fits : nat_le (l.height + arity_if l.carries) (length (reverse f.operands.items)) ≡ true = le-leb (l.height + arity_if l.carries) (length (reverse f.operands.items)) (omega (arith, len, t.fits)) in
    ap (λ bs. branched_to bs (frame_of code f)) t.blocks ∙ ap (λ c. cond c (Some (changed f (carried (block_of code l t.rest) (reverse f.operands.items)) (begun_again (block_of code l t.rest) (blocks_of code ls (drop (n + 1) t.rs))))) None) fits ∙ ap (λ os. Some (changed f os (begun_again (block_of code l t.rest) (blocks_of code ls (drop (n + 1) t.rs))))) kept ∙ ap (λ bs. Some (changed f operands bs)) b

-- a branch leaves a block that is no loop
pub leaves : (code : List Instr) (f : FlatFrame) (n : ℕ) (l : Label) (ls : List Label) (t : Target code f n l ls) (at : ℕ) (operands : List ℕ) (labels : List Label) → l.start ≡ None → operands ≡ take (arity_if l.carries) (reverse f.operands.items) ++ drop (length f.operands.items - l.height) (reverse f.operands.items) → labels ≡ ls → rests_at code at ≡ Some (drop (n + 1) t.rs) → (branched n (frame_of code f) ≡ Some (changed f operands (blocks_of code labels (left_at code at)))) × (rests_at code at ≡ Some (drop (n + 1) t.rs)) × ArePlaced code labels (drop (n + 1) t.rs)
leaves code f n l ls t at operands labels none o same h =
    (branch-is code f n l ls t operands _ o (begun-none code l t.rest (blocks_of code ls (drop (n + 1) t.rs)) none ∙ ap (λ x. blocks_of code x (drop (n + 1) t.rs)) (sym same) ∙ ap (blocks_of code labels) (sym (left-is code at (drop (n + 1) t.rs) h))), h, subst (λ x. ArePlaced code x (drop (n + 1) t.rs)) (sym same) t.placed)

-- a branch begins a loop again
pub begins : (code : List Instr) (f : FlatFrame) (n : ℕ) (l : Label) (ls : List Label) (t : Target code f n l ls) (at : ℕ) (operands : List ℕ) (labels : List Label) → l.start ≡ Some at → operands ≡ take (arity_if l.carries) (reverse f.operands.items) ++ drop (length f.operands.items - l.height) (reverse f.operands.items) → labels ≡ l ∷ ls → (branched n (frame_of code f) ≡ Some (changed f operands (blocks_of code labels (left_at code at)))) × ((rs : List Rest) × (rests_at code at ≡ Some rs) × ArePlaced code labels rs)
begins code f n l ls t at operands labels some o same =
    let s : (body : Tree) × (rests_at code at ≡ Some (rest_of body ∷ drop (n + 1) t.rs)) = subst (λ x. IsStart code x (drop (n + 1) t.rs)) some t.start in
    let rs = rest_of s.0 ∷ drop (n + 1) t.rs in
    (branch-is code f n l ls t operands _ o (begun-some code l t.rest (blocks_of code ls (drop (n + 1) t.rs)) at s.0 (drop (n + 1) t.rs) some s.1 ∙ ap (λ x. blocks_of code x rs) (sym same) ∙ ap (blocks_of code labels) (sym (left-is code at rs s.1))), (rs, s.1, subst (λ x. ArePlaced code x rs) (sym same) (t.start, t.placed)))
