-- The frame over trees for which a frame over flat code stands.
use Rattle.std.specs.Prelude.{Bool, ◌≡◌, ℕ, List, [], ◌∷◌, Option, Some, None, reverse, unwrap_or, slice_get, is_some}
use Rattle.std.specs.Option.{option_map}
use Rattle.mv_syntax.specs.declared.instr.Instr.{Instr}
use Rattle.mv_syntax.specs.declared.ops.ValType.{ValType}
use Rattle.mv_syntax.specs.declared.instr.Instr.TheVariants.{If}
use Rattle.mv_syntax.specs.Tree.{Tree, Rest, rest_of, rests_at}
use Rattle.mv_frames.specs.declared.frame.Label.{Label}
use Rattle.mv_frames.specs.declared.frame.Frame.{Frame as FlatFrame}
use Rattle.mv_execution.specs.Instance.{first_tree}
use Rattle.mv_frames.specs.Arity.{arity_if}
use Rattle.mv_execution.specs.Config.{OpenBlock, Frame}

-- what is left of each open block at a place
abbrev pub left_at : List Instr → ℕ → List Rest
left_at code at = unwrap_or (rests_at code at) []

-- the open block of a label, of which this is left
abbrev pub block_of : List Instr → Label → Rest → OpenBlock
block_of code l r = record { arity = arity_if l.carries; height = l.height; rest = r.tree; again = option_map (λ at. first_tree (left_at code at)) l.start }

-- the open blocks of labels, the innermost first
abbrev pub blocks_of : List Instr → List Label → List Rest → List OpenBlock
blocks_of code [] rs = []
blocks_of code (l ∷ ls) [] = []
blocks_of code (l ∷ ls) (r ∷ rs) = block_of code l r ∷ blocks_of code ls rs

-- the frame over trees
abbrev pub frame_of : List Instr → FlatFrame → Frame
frame_of code f = record { results = arity_if f.gives; locals = f.locals.items; operands = reverse f.operands.items; blocks = blocks_of code (reverse f.labels.items) (left_at code f.at) }

-- A loop's start lies before its body, in the same blocks.
abbrev pub IsStart : List Instr → Option ℕ → List Rest → Type 0
IsStart code None outer = Unit {0}
IsStart code (Some at) outer = (body : Tree) × (rests_at code at ≡ Some (rest_of body ∷ outer))

-- Each label has its block in the code.
abbrev pub ArePlaced : List Instr → List Label → List Rest → Type 0
ArePlaced code [] [] = Unit {0}
ArePlaced code [] (r ∷ rs) = ⊥
ArePlaced code (l ∷ ls) [] = ⊥
ArePlaced code (l ∷ ls) (r ∷ rs) = IsStart code l.start rs × ArePlaced code ls rs

-- The frame's labels are those of its place in the code.
abbrev pub IsPlaced : List Instr → FlatFrame → Type 0
IsPlaced code f = (rs : List Rest) × (rests_at code f.at ≡ Some rs) × ArePlaced code (reverse f.labels.items) rs

-- an `if` stands at the place, with a result or without
abbrev pub IsIf : Bool → List Instr → ℕ → Type 0
IsIf carries code at = (ty : Option ValType) × (slice_get code at ≡ Some (If ty)) × (carries ≡ is_some ty)
