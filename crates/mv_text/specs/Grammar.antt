-- The grammar of an assembler text: which texts spell these parts (docs/FORMATS.md, "Assembler text"). A text is a list of
-- directives and functions; a function is a block of lines. No line is judged by itself: nothing here says what is wrong with
-- one. `assemble` is proved to find exactly the parts that a text spells.
use Rattle.std.specs.Prelude.{◌≡◌, ◌⊎◌, ◌+◌, ◌<◌, ◌≤◌, ◌^◌, ℕ, false, List, [], ◌∷◌, ◌++◌, length}
use Rattle.mv_syntax.specs.declared.instr.Instr.{Instr}
use Rattle.mv_syntax.specs.declared.instr.Instr.TheVariants.{End}
use Rattle.mv_syntax.specs.declared.module.Func.{Func as Function}
use Rattle.mv_syntax.specs.Tree.{IsClosedCode}
use Rattle.mv_syntax.specs.Sections.{Parts, nothing_yet}
use Rattle.mv_scan.specs.declared.token.Token.{Token}
use Rattle.mv_scan.specs.Lines.{lines_of}
use Rattle.mv_statements.specs.declared.statement.Statement.{Statement}
use Rattle.mv_statements.specs.declared.statement.Statement.TheVariants.{Func, EndFunc, Instr as Instruction}
use Rattle.mv_statements.specs.Statements.{Spells as SpellsStatement}
use Rattle.mv_text.specs.Comments.{words_on}
use Rattle.mv_text.specs.Assembly.{added, with_function, is_misplaced_outside}

-- ## Lines that count

abbrev pub if_words : List Token → List (List Token) → List (List Token)
if_words [] rest = rest
if_words (token ∷ tokens) rest = (token ∷ tokens) ∷ rest

-- the words of the lines that have any; the others may stand anywhere
abbrev pub sentences : List (List ℕ) → List (List Token)
sentences [] = []
sentences (line ∷ lines) = if_words (words_on line) (sentences lines)

-- ## Functions

-- instruction by instruction
abbrev pub SpellsCode : List Instr → List (List Token) → Type 0
SpellsCode [] lines = lines ≡ []
SpellsCode (i ∷ code) lines = (words : List Token) × (rest : List (List Token)) × (lines ≡ words ∷ rest) × SpellsStatement (Instruction i) words × SpellsCode code rest

-- `func`, the instructions, and `endfunc`, which gives the last `end`; the code is one whole body
pub record SpellsFunction (f : Function) (lines : List (List Token)) : Type 0 where
  pub first : List Token
  pub inner : List (List Token)
  pub last : List Token
  pub whole : lines ≡ first ∷ (inner ++ last ∷ [])
  pub begins : SpellsStatement (Func f.ftype f.locals) first
  pub code : List Instr
  pub code_is : f.code ≡ code ++ End ∷ []
  pub each : SpellsCode code inner
  pub ends : SpellsStatement EndFunc last
  pub closed : IsClosedCode f.code

-- ## The text

-- one directive, or one function
pub data Item : Type 0 where
  Directive : Statement → Item
  Defines : Function → Item

-- a directive adds a part and begins no function
abbrev pub IsPart : Statement → Type 0
IsPart (Func t locals) = ⊥
IsPart statement = Unit {0}

pub record SpellsDirective (s : Statement) (before : Parts) (lines : List (List Token)) : Type 0 where
  pub words : List Token
  pub whole : lines ≡ words ∷ []
  pub spelled : SpellsStatement s words
  pub part : IsPart s
  -- no instruction, no `endfunc`, and no second table, memory or start
  pub placed : is_misplaced_outside before s ≡ false

abbrev pub SpellsItem : Item → Parts → List (List Token) → Type 0
SpellsItem (Directive s) before lines = SpellsDirective s before lines
SpellsItem (Defines f) before lines = SpellsFunction f lines

abbrev pub with_item : Item → Parts → Parts
with_item (Directive s) p = added s p
with_item (Defines f) p = with_function f p

-- item by item, from these parts to those
abbrev pub SpellsItems : List Item → Parts → Parts → List (List Token) → Type 0
SpellsItems [] before after lines = (lines ≡ []) × (after ≡ before)
SpellsItems (item ∷ items) before after lines =
    (front : List (List Token)) × (rest : List (List Token)) × (lines ≡ front ++ rest) × SpellsItem item before front × SpellsItems items (with_item item before) after rest

-- the text spells the parts
pub record Spells (text : List ℕ) (parts : Parts) : Type 0 where
  pub small : length text ≤ 2 ^ 24
  pub items : List Item
  pub spelled : SpellsItems items nothing_yet.parts parts (sentences (lines_of text))

-- ## Its first faulty line

-- some lines behind these make a text of them, its size aside
pub record CanGoOn (lines : List (List ℕ)) : Type 0 where
  pub more : List (List ℕ)
  pub parts : Parts
  pub items : List Item
  pub spelled : SpellsItems items nothing_yet.parts parts (sentences (lines ++ more))

-- no lines behind these do
abbrev pub CannotGoOn : List (List ℕ) → Type 0
CannotGoOn lines = (more : List (List ℕ)) (items : List Item) (parts : Parts) → SpellsItems items nothing_yet.parts parts (sentences (lines ++ more)) → ⊥

-- the lines before this one can go on, and no longer with it
pub record StopsAt (lines : List (List ℕ)) (at : ℕ) : Type 0 where
  pub before : List (List ℕ)
  pub line : List ℕ
  pub after : List (List ℕ)
  pub whole : lines ≡ before ++ (line ∷ after)
  pub place : at ≡ length before + 1
  pub goes_on : CanGoOn before
  pub stops : CannotGoOn (before ++ (line ∷ []))

-- all lines can go on, but end too early; the place is behind the last
pub record EndsEarly (lines : List (List ℕ)) (at : ℕ) : Type 0 where
  pub place : at ≡ length lines + 1
  pub goes_on : CanGoOn lines
  pub stops : (items : List Item) (parts : Parts) → SpellsItems items nothing_yet.parts parts (sentences lines) → ⊥

-- line 1 where the text is too large, else the line where it stops
abbrev pub IsFirstFaultyLine : List ℕ → ℕ → Type 0
IsFirstFaultyLine text at = ((at ≡ 1) × (2 ^ 24 < length text)) ⊎ ((length text ≤ 2 ^ 24) × (StopsAt (lines_of text) at ⊎ EndsEarly (lines_of text) at))
