-- The labels of the open blocks, and why an instruction is faulty.
use Rattle.std.proofs.Common.{true, false, Bool, ◌≡◌, ℕ, suc, ltb, length, take, ⊎_elim, List, [], ◌∷◌, Option, Some, refl, sym, ap, ◌∙◌}
use Rattle.std.specs.Prelude.{◌&&◌, slice_get}
use Rattle.std.proofs.lemmas.Option.{slice_get_cases}
use Rattle.std.proofs.lemmas.Bool.{lt-ltb, le-ltb}
use Rattle.mv_syntax.specs.declared.fault.ValidKind.{ValidKind}
use Rattle.mv_syntax.specs.declared.fault.ValidKind.TheVariants.{LabelIndex}
use Rattle.mv_syntax.specs.declared.ops.ValType.{ValType}
use Rattle.mv_syntax.specs.declared.ops.ValType.TheVariants.{I32}
use Rattle.mv_syntax.specs.declared.instr.Instr.{Instr}
use Rattle.mv_syntax.specs.declared.instr.Instr.TheVariants.{Unreachable, Block, Loop, If, Else, End, Br, BrIf, BrTable, Return, Drop, Select}
use Rattle.mv_validator.specs.declared.control_frame.Kind.{Kind}
use Rattle.mv_validator.specs.declared.control_frame.Kind.TheVariants.{Body, Block as BlockKind, Loop as LoopKind, If as IfKind, Else as ElseKind}
use Rattle.mv_validator.specs.Typing.{Context, type_of}
use Rattle.mv_validator.specs.OperandStack.{taken}
use Rattle.mv_validator.specs.Faults.{labels_behind, labels_after, lacking, unless, first_of, any_lacking, index_fault, use_fault, or_operand, kind_of, context_before}
use Rattle.mv_validator.specs.ControlFrames.{ControlFrame, label_of, labels_of, context_at, behind, is_complete, new_frame, is_if, may_end, ended, next, frames_after, behind_type, all_open, index_fault_among, kind_among, is_simple}
use Rattle.mv_validator.proofs.Stacks.{map-some, bind-some, cond-some}
use Rattle.mv_validator.proofs.Rows.{same-block}
use Rattle.mv_validator.proofs.Claims.{start_of}

labels-ended : (t : Option ValType) (ls : List ControlFrame) → labels_of (ended t ls) ≡ labels_of ls
labels-ended t [] = refl
labels-ended t (m ∷ ls) = refl

if-label : (k : Kind) (t : Option ValType) → is_if k ≡ true → label_of ElseKind t ≡ label_of k t
if-label IfKind t h = refl
if-label Body t h = absurd (cc)
if-label BlockKind t h = absurd (cc)
if-label LoopKind t h = absurd (cc)
if-label ElseKind t h = absurd (cc)

and-first : (a b : Bool) → (a && b) ≡ true → a ≡ true
and-first true b h = refl
and-first false b h = absurd (cc)

labels-next : (c : Context) (i : Instr) (ls ls' : List ControlFrame) → next c i ls ≡ Some ls' → labels_of ls' ≡ labels_behind (labels_of ls) i
labels-next c i [] ls' h = absurd (cc)
labels-next c (Block t) (l ∷ ls) ls' h = let e : new_frame BlockKind t ∷ l ∷ ls ≡ ls' = cc in sym (ap labels_of e)
labels-next c (Loop t) (l ∷ ls) ls' h = let e : new_frame LoopKind t ∷ l ∷ ls ≡ ls' = cc in sym (ap labels_of e)
labels-next c (If t) (l ∷ ls) ls' h =
    let m = map-some (λ os. new_frame IfKind t ∷ record l { operands = os } ∷ ls) (taken I32 l.operands l.unreachable) ls' h in
    sym (ap labels_of m.2)
labels-next c Else (l ∷ ls) ls' h =
    let d = cond-some (is_if l.kind && is_complete l) (new_frame ElseKind l.result ∷ ls) ls' h in
    sym (ap labels_of d.1) ∙ ap (λ x. x ∷ labels_of ls) (if-label l.kind l.result (and-first (is_if l.kind) (is_complete l) d.0))
labels-next c End (l ∷ ls) ls' h =
    let d = cond-some (may_end l.kind l.result && is_complete l) (ended l.result ls) ls' h in
    sym (ap labels_of d.1) ∙ labels-ended l.result ls
labels-next c i (l ∷ ls) ls' h =
    let m = map-some (λ x. x ∷ ls) (behind (context_at c (l ∷ ls)) i l) ls' h in
    let b = same-block (context_at c (l ∷ ls)) i l m.0 m.1 in
    let e : label_of m.0.kind m.0.result ≡ label_of l.kind l.result = rw (b.kind, b.result) refl in
    sym (ap labels_of m.2) ∙ ap (λ x. x ∷ labels_of ls) e

-- the labels of the frames are those of the blocks that are open
pub labels-after : (c : Context) (code : List Instr) (ls ls' : List ControlFrame) → frames_after c code ls ≡ Some ls' → labels_of ls' ≡ labels_after (labels_of ls) code
labels-after c [] ls ls' h = let e : ls ≡ ls' = cc in sym (ap labels_of e)
labels-after c (i ∷ code) ls ls' h =
    let b = bind-some (frames_after c code) (next c i ls) ls' h in
    labels-after c code b.0 ls' b.2 ∙ ap (λ x. labels_after x code) (labels-next c i ls b.0 b.1)

-- ---- why an instruction is faulty

one-lacking : {A : Type 0} (k : ValidKind) (xs : List A) (n : ℕ) → lacking k (slice_get xs n) ≡ unless k (ltb n (length xs))
one-lacking k xs n = ⊎_elim (λ a. ap (lacking k) a.2 ∙ sym (ap (unless k) (lt-ltb n (length xs) a.1))) (λ b. ap (lacking k) b.1 ∙ sym (ap (unless k) (le-ltb n (length xs) b.0))) (slice_get_cases xs n).1

both-there : (k : ValidKind) (a b : Bool) → first_of (unless k a) (unless k b) ≡ unless k (a && b)
both-there k true b = refl
both-there k false b = refl

all-lacking : {A : Type 0} (k : ValidKind) (xs : List A) (ls : List ℕ) → any_lacking k xs ls ≡ unless k (all_open ls (length xs))
all-lacking k xs [] = refl
all-lacking k xs (l ∷ ls) =
    ap (λ o. first_of o (any_lacking k xs ls)) (one-lacking k xs l) ∙ ap (first_of (unless k (ltb l (length xs)))) (all-lacking k xs ls) ∙ both-there k (ltb l (length xs)) (all_open ls (length xs))

index-among : (c : Context) (labels : List (Option ValType)) (i : Instr) → index_fault (record c { labels = labels }) i ≡ index_fault_among c (length labels) i
index-among c labels (Br l) = one-lacking LabelIndex labels l
index-among c labels (BrIf l) = one-lacking LabelIndex labels l
index-among c labels (BrTable ls last) =
    ap (λ o. first_of o (lacking LabelIndex (slice_get labels last))) (all-lacking LabelIndex labels ls) ∙ ap (first_of (unless LabelIndex (all_open ls (length labels)))) (one-lacking LabelIndex labels last) ∙ both-there LabelIndex (all_open ls (length labels)) (ltb last (length labels))
index-among c labels i = refl

use-among : (c : Context) (labels : List (Option ValType)) (i : Instr) → use_fault (record c { labels = labels }) i ≡ use_fault c i
use-among c labels i = refl

pub kind-among : (c : Context) (labels : List (Option ValType)) (i : Instr) → kind_among c (length labels) i ≡ kind_of (record c { labels = labels }) i
kind-among c labels i = ap (λ o. or_operand (first_of o (use_fault c i))) (sym (index-among c labels i))

labels-length : (ls : List ControlFrame) → length (labels_of ls) ≡ length ls
labels-length [] = refl
labels-length (l ∷ ls) = ap suc (labels-length ls)

-- the kind among the frames is that of the instruction where it stands
pub kind-there : (c : Context) (code : List Instr) (at : ℕ) (i : Instr) (ls : List ControlFrame) (n : ℕ) → frames_after c (take at code) (start_of c) ≡ Some ls → length ls ≡ n → kind_among c n i ≡ kind_of (context_before c code at) i
kind-there c code at i ls n some count =
    let same : labels_of ls ≡ labels_after (c.result ∷ []) (take at code) = labels-after c (take at code) (start_of c) ls some in
    ap (λ m. kind_among c m i) (sym count ∙ sym (labels-length ls)) ∙ kind-among c (labels_of ls) i ∙ ap (λ x. kind_of (record c { labels = x }) i) same

-- ---- instructions of a known type

type-simple : (c : Context) (ls : List (Option ValType)) (i : Instr) → is_simple i ≡ true → type_of (record c { labels = ls }) i ≡ type_of c i
type-simple c ls (BrIf l) h = absurd (cc)
type-simple c ls i h = refl

pub behind-simple : (c : Context) (ls : List ControlFrame) (i : Instr) (l : ControlFrame) → is_simple i ≡ true → behind (context_at c ls) i l ≡ behind_type l (type_of c i)
behind-simple c ls Select l h = absurd (cc)
behind-simple c ls Drop l h = absurd (cc)
behind-simple c ls Unreachable l h = absurd (cc)
behind-simple c ls (Br n) l h = absurd (cc)
behind-simple c ls (BrTable ns n) l h = absurd (cc)
behind-simple c ls Return l h = absurd (cc)
behind-simple c ls (BrIf n) l h = absurd (cc)
behind-simple c ls i l h = refl
