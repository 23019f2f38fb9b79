-- WebAssembly Core 1.0, 5.4.6: the code of a body or of a constant.
use Rattle.std.specs.Prelude.{ℕ, List, [], length}
use Rattle.mv_syntax.specs.declared.instr.Instr.{Instr}
use Rattle.mv_syntax.specs.Form.{Form}
use Rattle.mv_syntax.specs.Forms.{many}
use Rattle.mv_syntax.specs.Instructions.{instruction}
use Rattle.mv_syntax.specs.Tree.{IsClosedCode}
use Rattle.mv_syntax.specs.Bodies.{closing}

-- one instruction behind another
abbrev pub EachSpelled : List ℕ → List Instr → Type 0
EachSpelled text code = (many instruction (length code)).spells text code

-- a tree of blocks and its `end`, each instruction spelled behind the other
pub record Spelled (text : List ℕ) (code : List Instr) : Type 0 where
  pub body : IsClosedCode code
  pub each : EachSpelled text code

unfoldable pub code : Form (List Instr)
code = record { spells = Spelled; reads = λ at. (closing (length at.rest) []).reads at }
