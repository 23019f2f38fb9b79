-- Which code spells a list of instructions (WebAssembly Core 1.0, 5.4.1), and which an expression (5.4.6).
use Rattle.std.specs.Prelude.{◌≡◌, Bool, true, false, List, [], ◌∷◌, ◌++◌, IsTrue, ◌⊎◌}
use Rattle.mv_syntax.specs.declared.instr.Instr.{Instr}
use Rattle.mv_syntax.specs.declared.instr.Instr.TheVariants.{Block, Loop, If, Else, End}
use Rattle.mv_syntax.specs.Tree.{Tree, done, plain, block, loop, choice}

-- an instruction that neither begins, parts nor ends a block
abbrev pub is_plain : Instr → Bool
is_plain (Block t) = false
is_plain (Loop t) = false
is_plain (If t) = false
is_plain Else = false
is_plain End = false
is_plain _ = true

-- a head, a list up to its `end`, and what follows
pub record Enclosed (head : Instr) (inner rest : List Instr → Type 0) (code : List Instr) : Type 0 where
  pub inside : List Instr
  pub behind : List Instr
  pub code_is : code ≡ head ∷ (inside ++ End ∷ behind)
  pub inner_is : inner inside
  pub rest_is : rest behind

-- a head, a list up to its `else`, another up to its `end`, and what follows
pub record Parted (head : Instr) (first second rest : List Instr → Type 0) (code : List Instr) : Type 0 where
  pub inside : List Instr
  pub others : List Instr
  pub behind : List Instr
  pub code_is : code ≡ head ∷ (inside ++ Else ∷ (others ++ End ∷ behind))
  pub first_is : first inside
  pub second_is : second others
  pub rest_is : rest behind

-- The code spells the list. The `else` of an empty list may be left out.
abbrev pub Lists : Tree → List Instr → Type 0
Lists done code = code ≡ []
Lists (plain i rest) code = IsTrue (is_plain i) × ((behind : List Instr) × (code ≡ i ∷ behind) × Lists rest behind)
Lists (block t body rest) code = Enclosed (Block t) (λ c. Lists body c) (λ c. Lists rest c) code
Lists (loop t body rest) code = Enclosed (Loop t) (λ c. Lists body c) (λ c. Lists rest c) code
Lists (choice t first second rest) code =
    ((second ≡ done) × Enclosed (If t) (λ c. Lists first c) (λ c. Lists rest c) code)
    ⊎ Parted (If t) (λ c. Lists first c) (λ c. Lists second c) (λ c. Lists rest c) code

-- a list and its `end`
pub record IsExpression (code : List Instr) (t : Tree) : Type 0 where
  pub inside : List Instr
  pub code_is : code ≡ inside ++ End ∷ []
  pub listed : Lists t inside
