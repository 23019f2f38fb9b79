-- Instructions over flat code: those that begin a block, and those that begin none.
use Rattle.std.proofs.Common.{true, false, ◌≡◌, ◌+◌, ◌<◌, List, [], ◌∷◌, length, get_or, Option, Some, None, refl, sym, ap, ◌∙◌, arith, subst}
use Rattle.std.specs.Prelude.{reverse, IsSome}
use Rattle.mv_syntax.proofs.TreeLaws.{behind-at}
use Rattle.mv_syntax.specs.declared.ops.ValType.{ValType}
use Rattle.mv_syntax.specs.declared.instr.Instr.{Instr}
use Rattle.mv_syntax.specs.declared.instr.Instr.TheVariants.{Block, Loop, If, Else, End, Call, CallIndirect, Load, Store}
use Rattle.mv_syntax.specs.Tree.{Tree, done, plain, block, loop, choice, other_of}
use Rattle.mv_execution.specs.Config.{Store as TreeStore, OpenBlock, Frame}
use Rattle.mv_execution.specs.Rows.{Goes, Stuck, Next, kept, acted, began, advanced, IsGoing}
use Rattle.mv_frames.specs.declared.frame.Frame.{Frame as FlatFrame}
use Rattle.mv_frames.specs.Blocks.{acts, is_access, starts_block, began_block, advanced_frame}
use Rattle.mv_frames.specs.Frames.{left_at, block_of, blocks_of, frame_of, IsPlaced}
use Rattle.mv_syntax.specs.Expressions.{is_plain}
use Rattle.mv_frames.proofs.Advances.{Top, top, moved, skip, reads-as, tree-end, tree-else, advanced-at, front-opened, front-chosen}

frame-at : (s : TreeStore) (f : Frame) (b : OpenBlock) (outer : List OpenBlock) → f.blocks ≡ b ∷ outer → advanced_frame s f ≡ advanced b.rest b outer s f
frame-at s f b outer e = ap (λ bs. elim bs as (λ x. Next) [ [] ↦ Stuck | c ∷ cs ↦ advanced c.rest c cs s f ]) e

going-some : (code : List Instr) (f : FlatFrame) (s : TreeStore) → IsGoing (advanced_frame s (frame_of code f)) → 0 < length f.labels.items
going-some code f s h = by f.labels.items refl
  where
    by : (ls : List _) → f.labels.items ≡ ls → 0 < length f.labels.items
    by [] e = absurd (subst (λ ls. IsGoing (advanced_frame s (record (frame_of code f) { blocks = blocks_of code (reverse ls) (left_at code f.at) }))) e h)
    by (l ∷ ls) e = omega (arith, ap length e)

-- what can go on has an innermost block
pub going-top : (code : List Instr) (f : FlatFrame) (s : TreeStore) → IsPlaced code f → IsGoing (advanced_frame s (frame_of code f)) → Top code f
going-top code f s p h = top code f p (going-some code f s h)

row-at : (code : List Instr) (f : FlatFrame) (s : TreeStore) (t : Top code f) (tree : Tree) → t.rest.tree ≡ tree → advanced_frame s (frame_of code f) ≡ advanced tree (block_of code t.label t.rest) (blocks_of code t.labels t.rests) s (frame_of code f)
row-at code f s t tree e =
    frame-at s (frame_of code f) (block_of code t.label t.rest) (blocks_of code t.labels t.rests) t.blocks ∙ ap (λ x. advanced x (block_of code t.label t.rest) (blocks_of code t.labels t.rests) s (frame_of code f)) e

done-stuck : (code : List Instr) (f : FlatFrame) (s : TreeStore) (t : Top code f) → IsGoing (advanced_frame s (frame_of code f)) → t.rest.tree ≡ done → ⊥
done-stuck code f s t h d = subst IsGoing (row-at code f s t done d) h

plain-left : (i : Instr) → ((ty : Option ValType) → i ≡ Block ty → ⊥) → ((ty : Option ValType) → i ≡ Loop ty → ⊥) → ((ty : Option ValType) → i ≡ If ty → ⊥) → (i ≡ Else → ⊥) → (i ≡ End → ⊥) → is_plain i ≡ true
plain-left (Block ty) a b c d e = absurd (a ty refl)
plain-left (Loop ty) a b c d e = absurd (b ty refl)
plain-left (If ty) a b c d e = absurd (c ty refl)
plain-left Else a b c d e = absurd (d refl)
plain-left End a b c d e = absurd (e refl)
plain-left i a b c d e = refl

-- Where the instruction is behind the frame.
pub record Behind (code : List Instr) (f : FlatFrame) (i : Instr) (s : TreeStore) : Type 0 where
  pub placed : IsPlaced code (moved f (f.at + 1))
  pub row : advanced_frame s (frame_of code f) ≡ acted i s (frame_of code (moved f (f.at + 1)))
  pub runs : IsGoing (acted i s (frame_of code (moved f (f.at + 1))))
  pub is_plain : is_plain i ≡ true

pub behind : (code : List Instr) (f : FlatFrame) (i : Instr) (s : TreeStore) → IsPlaced code f → i ≡ get_or code f.at i → IsGoing (advanced_frame s (frame_of code f)) → ((ty : Option ValType) → i ≡ Block ty → ⊥) → ((ty : Option ValType) → i ≡ Loop ty → ⊥) → ((ty : Option ValType) → i ≡ If ty → ⊥) → Behind code f i s
behind code f i s p is h a b c =
    let t = going-top code f s p h in
    let k : is_plain i ≡ true = plain-left i a b c (λ e. done-stuck code f s t h (tree-else code f t (reads-as code f.at i Else is e))) (λ e. done-stuck code f s t h (tree-end code f t (reads-as code f.at i End is e))) in
    let m = skip code f i t is k in
    let r = row-at code f s t (plain i m.1.0) m.1.1 ∙ ap (acted i s) m.1.2 in
    record { placed = m.0; row = r; runs = subst IsGoing r h; is_plain = k }

pub acts-of : (i : Instr) (s : TreeStore) (f : Frame) → is_plain i ≡ true → IsGoing (acted i s f) → is_access i ≡ false → acts i ≡ true
acts-of (Call x) s f p h n = absurd h
acts-of (CallIndirect x) s f p h n = absurd h
acts-of (Load t n' signed align offset) s f p h n = absurd (cc)
acts-of (Store t n' align offset) s f p h n = absurd (cc)
acts-of i s f p h n = p

-- ---- instructions that begin a block

block-row : (tree : Tree) (b : OpenBlock) (outer : List OpenBlock) (s : TreeStore) (f : Frame) → ((i : Instr) (rest : Tree) → tree ≡ plain i rest → ⊥) → advanced tree b outer s f ≡ kept s (began tree b outer f)
block-row done b outer s f n = refl
block-row (plain i rest) b outer s f n = absurd (n i rest refl)
block-row (block t body rest) b outer s f n = refl
block-row (loop t body rest) b outer s f n = refl
block-row (choice t x y rest) b outer s f n = refl

not-plain : (code : List Instr) (f : FlatFrame) (i : Instr) (t : Top code f) → i ≡ get_or code f.at i → starts_block i ≡ true → (j : Instr) (rest : Tree) → t.rest.tree ≡ plain j rest → ⊥
not-plain code f (Block ty) t is h j rest e =
    let b = behind-at code f.at (Block ty) (t.rest ∷ t.rests) is t.left (omega arith) in
    let o = front-opened (block ty) b.0 t.rest t.rests b.2 in
    let bad : block ty o.0 o.1.tree ≡ plain j rest = sym o.3 ∙ e in absurd (cc)
not-plain code f (Loop ty) t is h j rest e =
    let b = behind-at code f.at (Loop ty) (t.rest ∷ t.rests) is t.left (omega arith) in
    let o = front-opened (loop ty) b.0 t.rest t.rests b.2 in
    let bad : loop ty o.0 o.1.tree ≡ plain j rest = sym o.3 ∙ e in absurd (cc)
not-plain code f (If ty) t is h j rest e =
    let b = behind-at code f.at (If ty) (t.rest ∷ t.rests) is t.left (omega arith) in
    let o = front-chosen ty b.0 t.rest t.rests b.2 in
    let bad : choice ty o.0.tree (other_of o.0.other) o.1.tree ≡ plain j rest = sym o.3 ∙ e in absurd (cc)
not-plain code f i t is h j rest e = absurd (cc)

pub begins-row : (code : List Instr) (f : FlatFrame) (i : Instr) (s : TreeStore) (t : Top code f) → i ≡ get_or code f.at i → starts_block i ≡ true → advanced_frame s (frame_of code f) ≡ kept s (began_block (frame_of code f))
begins-row code f i s t is h =
    frame-at s (frame_of code f) (block_of code t.label t.rest) (blocks_of code t.labels t.rests) t.blocks ∙ block-row t.rest.tree (block_of code t.label t.rest) (blocks_of code t.labels t.rests) s (frame_of code f) (not-plain code f i t is h) ∙ ap (kept s) (sym (advanced-at (frame_of code f) (block_of code t.label t.rest) (blocks_of code t.labels t.rests) t.blocks))

kept-some : (s : TreeStore) (o : Option Frame) → IsGoing (kept s o) → IsSome o
kept-some s None h = absurd h
kept-some s (Some f) h = refl

pub begins-some : (code : List Instr) (f : FlatFrame) (i : Instr) (s : TreeStore) → IsPlaced code f → i ≡ get_or code f.at i → starts_block i ≡ true → IsGoing (advanced_frame s (frame_of code f)) → IsSome (began_block (frame_of code f))
begins-some code f i s p is b h = kept-some s (began_block (frame_of code f)) (subst IsGoing (begins-row code f i s (going-top code f s p h) is b) h)

pub begins-goes : (code : List Instr) (f : FlatFrame) (i : Instr) (s : TreeStore) (g : Frame) → IsPlaced code f → i ≡ get_or code f.at i → starts_block i ≡ true → IsGoing (advanced_frame s (frame_of code f)) → began_block (frame_of code f) ≡ Some g → advanced_frame s (frame_of code f) ≡ Goes (s, g)
begins-goes code f i s g p is b h e = begins-row code f i s (going-top code f s p h) is b ∙ ap (kept s) e

-- an instruction that begins none is behind the frame
pub behind-plain : (code : List Instr) (f : FlatFrame) (i : Instr) (s : TreeStore) → IsPlaced code f → i ≡ get_or code f.at i → starts_block i ≡ false → IsGoing (advanced_frame s (frame_of code f)) → Behind code f i s
behind-plain code f i s p is n h =
    behind code f i s p is h (λ ty e. (let bad = sym n ∙ ap starts_block e in absurd (cc))) (λ ty e. (let bad = sym n ∙ ap starts_block e in absurd (cc))) (λ ty e. (let bad = sym n ∙ ap starts_block e in absurd (cc)))
