-- Bodies as trees, as the standard has them (WebAssembly Core 1.0, 2.4.5), and the trees that stand in the flat code of a
-- module. The code is read from its end: what is left of each open block is a tree.
use Rattle.std.specs.Prelude.{Bool, true, false, ◌≡◌, ℕ, ◌+◌, ◌-◌, List, [], ◌∷◌, Option, Some, None, drop, option_and_then, ◌≤◌, length}
use Rattle.mv_syntax.specs.declared.ops.ValType.{ValType}
use Rattle.mv_syntax.specs.declared.instr.Instr.{Instr}
use Rattle.mv_syntax.specs.declared.instr.Instr.TheVariants.{Block, Loop, If, Else, End}

-- A list of instructions in which each block holds its own list. Each constructor but `done` has
-- the rest of the list as its last argument.
pub data Tree : Type 0 where
  done : Tree
  plain : (instr : Instr) (rest : Tree) → Tree
  block : (result : Option ValType) (body rest : Tree) → Tree
  loop : (result : Option ValType) (body rest : Tree) → Tree
  choice : (result : Option ValType) (then else rest : Tree) → Tree

-- What is left of one open block at a place in the code: the rest of its list. Where that list ends
-- with an `else` in place of an `end`, the other list is there too.
pub record Rest : Type 0 where
  pub tree : Tree
  pub other : Option Tree

-- a rest that ends with an `end`
abbrev pub rest_of : Tree → Rest
rest_of t = record { tree = t; other = None }

-- the other list of an `if`, which is empty where there is no `else`
abbrev pub other_of : Option Tree → Tree
other_of None = done
other_of (Some t) = t

-- A block takes what is left of its body and of what follows it, and leaves one rest in their place.
abbrev pub joined : (Tree → Tree) → List Rest → Option (List Rest)
joined make [] = None
joined make (after ∷ outer) = Some (record { tree = make after.tree; other = after.other } ∷ outer)

-- only where no other list waits
abbrev pub without : {A : Type 0} → Option Tree → Option A → Option A
without None x = x
without (Some t) x = None

-- only the list of an `if` may end with an `else`
abbrev pub opened : (Tree → Tree → Tree) → List Rest → Option (List Rest)
opened make [] = None
opened make (body ∷ outer) = without body.other (joined (make body.tree) outer)

abbrev pub chosen : (Option ValType) → List Rest → Option (List Rest)
chosen t [] = None
chosen t (body ∷ outer) = joined (choice t body.tree (other_of body.other)) outer

abbrev pub followed : Instr → List Rest → Option (List Rest)
followed i [] = None
followed i (r ∷ outer) = Some (record { tree = plain i r.tree; other = r.other } ∷ outer)

-- the list before an `else` ends here; a second `else` is none
abbrev pub elsed : List Rest → Option (List Rest)
elsed [] = None
elsed (r ∷ outer) = without r.other (Some (record { tree = done; other = Some r.tree } ∷ outer))

-- One more instruction in front of what is left of each open block, the innermost first; none where
-- an `end` is missing, or an `else` is out of place.
abbrev pub in_front : Instr → List Rest → Option (List Rest)
in_front (Block t) rs = opened (block t) rs
in_front (Loop t) rs = opened (loop t) rs
in_front (If t) rs = chosen t rs
in_front Else rs = elsed rs
in_front End rs = Some (rest_of done ∷ rs)
in_front i rs = followed i rs

-- What is left at the front of the code of each open block, the innermost first.
abbrev pub rests : List Instr → Option (List Rest)
rests [] = Some []
rests (i ∷ code) = option_and_then (in_front i) (rests code)

-- the code is one whole body, the last End included
abbrev pub IsBody : List Instr → Tree → Type 0
IsBody code t = rests code ≡ Some (rest_of t ∷ [])

-- the code is a body of some tree
abbrev pub IsClosedCode : List Instr → Type 0
IsClosedCode code = (t : Tree) × IsBody code t

-- how many blocks are open behind an instruction, where so many are open in front of it
abbrev pub open_after : Instr → ℕ → ℕ
open_after (Block t) n = n + 1
open_after (Loop t) n = n + 1
open_after (If t) n = n + 1
open_after End n = n - 1
open_after i n = n

-- what is left of the open blocks at a place of the code
abbrev pub rests_at : List Instr → ℕ → Option (List Rest)
rests_at code at = rests (drop at code)

-- so many blocks at least are open at a place of the code
abbrev pub IsOpen : List Instr → ℕ → ℕ → Type 0
IsOpen code at count = (rs : List Rest) × (rests_at code at ≡ Some rs) × (count ≤ length rs)

-- whether a list of instructions ends here
abbrev pub ends_list : Instr → Bool
ends_list Else = true
ends_list End = true
ends_list i = false

-- The place of the other list of an `if`, from a place in its first list: the blocks around it stay.
abbrev pub with_other : List Rest → List Rest
with_other [] = []
with_other (r ∷ outer) = rest_of (other_of r.other) ∷ outer
