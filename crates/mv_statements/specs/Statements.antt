-- Lines of an assembler text: a line begins with the word of a directive or the name of an instruction, and behind it stand
-- the words of its form (docs/FORMATS.md, "Assembler text").
use Rattle.std.specs.Prelude.{◌≡◌, ℕ, ◌-◌, nat_le, List, [], ◌∷◌, length, Option, Some, None, codes}
use Rattle.std.specs.Option.{option_map}
use Rattle.mv_syntax.specs.declared.ops.ValType.{ValType}
use Rattle.mv_syntax.specs.declared.ops.ValType.TheVariants.{I32}
use Rattle.mv_syntax.specs.declared.instr.Instr.{Instr}
use Rattle.mv_syntax.specs.declared.instr.Instr.TheVariants as instr
use Rattle.mv_syntax.specs.declared.types.Limits.{Limits}
use Rattle.mv_syntax.specs.Kept.{IsSpellable}
use Rattle.mv_scan.specs.declared.token.Token.{Token}
use Rattle.mv_scan.specs.declared.token.Token.TheVariants.{Plain}
use Rattle.mv_statements.specs.declared.fault.TextKind.TheVariants.{Count}
use Rattle.mv_statements.specs.declared.head.Head.{Head}
use Rattle.mv_statements.specs.declared.head.Head.TheVariants as heads
use Rattle.mv_statements.specs.declared.statement.Statement.{Statement}
use Rattle.mv_statements.specs.declared.statement.Statement.TheVariants.{Signature, Import, Func, EndFunc, Table, Memory, Global, Export, Start, Element, Segment, Instr as Instruction}
use Rattle.mv_statements.specs.declared.statement.Reading.{Reading}
use Rattle.mv_statements.specs.declared.statement.Reading.TheVariants.{Unknown, Known}
use Rattle.mv_statements.specs.Form.{At, clean, Form}
use Rattle.mv_statements.specs.Forms.{give, ◌>>=◌, seen, left, provided, many, all, maybe, last}
use Rattle.mv_statements.specs.Words.{number, index, constant_word, val_type, mutable, kind, arrow, before_arrow, text, name}
use Rattle.mv_statements.specs.Mnemonics.{instr_name, instr_named, lookup, or_else}

-- ## Instructions

-- the immediates behind the name of this instruction, in place of those that it has
unfoldable pub immediates : Instr → Form Instr
immediates (instr.Block result) = do
  t ← maybe val_type
  give (instr.Block t)
immediates (instr.Loop result) = do
  t ← maybe val_type
  give (instr.Loop t)
immediates (instr.If result) = do
  t ← maybe val_type
  give (instr.If t)
immediates (instr.Br label) = do
  n ← index
  give (instr.Br n)
immediates (instr.BrIf label) = do
  n ← index
  give (instr.BrIf n)
immediates (instr.BrTable labels last) = do
  n ← left
  ls ← many index (n - 1)
  l ← index
  give (instr.BrTable ls l)
immediates (instr.Call f) = do
  n ← index
  give (instr.Call n)
immediates (instr.CallIndirect t) = do
  n ← index
  give (instr.CallIndirect n)
immediates (instr.LocalGet x) = do
  n ← index
  give (instr.LocalGet n)
immediates (instr.LocalSet x) = do
  n ← index
  give (instr.LocalSet n)
immediates (instr.LocalTee x) = do
  n ← index
  give (instr.LocalTee n)
immediates (instr.GlobalGet x) = do
  n ← index
  give (instr.GlobalGet n)
immediates (instr.GlobalSet x) = do
  n ← index
  give (instr.GlobalSet n)
immediates (instr.Load t bytes signed align offset) = do
  a ← index
  o ← index
  give (instr.Load t bytes signed a o)
immediates (instr.Store t bytes align offset) = do
  a ← index
  o ← index
  give (instr.Store t bytes a o)
immediates (instr.Const t value) = do
  v ← constant_word t
  give (instr.Const t v)
immediates i = give i

-- ## Directives

-- parameters, the arrow, at most one result
unfoldable pub signature : Form Statement
signature = do
  n ← seen before_arrow
  params ← many val_type n
  _ ← arrow
  result ← maybe val_type
  provided (nat_le n 1000) Count (Signature (record { params = params; result = result }))

unfoldable pub import_ : Form Statement
import_ = do
  m ← name
  n ← name
  t ← index
  give (Import (record { «module» = m; name = n; ftype = t }))

-- a type, and the types of the locals
unfoldable pub func : Form Statement
func = do
  t ← index
  locals ← all val_type
  provided (nat_le (length locals) 10000) Count (Func t locals)

-- the least, at most this, and the most if it is there
unfoldable pub limits : ℕ → (Limits → Statement) → Form Statement
limits least make = do
  min ← number least
  max ← maybe index
  give (make (record { min = min; max = max }))

-- the code of a constant
abbrev pub constant_code : ValType → ℕ → List Instr
constant_code t v = instr.Const t v ∷ instr.End ∷ []

unfoldable pub global : Form Statement
global = do
  t ← val_type
  m ← mutable
  v ← constant_word t
  give (Global (record { vtype = t; mutable = m; init = constant_code t v }))

unfoldable pub export : Form Statement
export = do
  n ← name
  k ← kind
  i ← index
  give (Export (record { name = n; kind = k; index = i }))

unfoldable pub start : Form Statement
start = do
  i ← index
  give (Start i)

-- an offset, and functions
unfoldable pub element : Form Statement
element = do
  o ← constant_word I32
  fs ← all index
  give (Element (record { offset = constant_code I32 o; funcs = fs }))

-- an offset, and bytes
unfoldable pub segment : Form Statement
segment = do
  o ← constant_word I32
  bs ← text
  give (Segment (record { offset = constant_code I32 o; bytes = bs }))

unfoldable pub instruction : Instr → Form Statement
instruction i = do
  j ← immediates i
  give (Instruction j)

-- ## Lines

-- what stands behind the first word
unfoldable pub behind : Head → Form Statement
behind heads.Signature = signature
behind heads.Import = import_
behind heads.Func = func
behind heads.EndFunc = give EndFunc
behind heads.Table = limits 65536 Table
behind heads.Memory = limits 1024 Memory
behind heads.Global = global
behind heads.Export = export
behind heads.Start = start
behind heads.Element = element
behind heads.Segment = segment
behind (heads.Instr i) = instruction i

-- all of it
unfoldable pub statement : Head → Form Statement
statement head = do
  s ← behind head
  last s

-- the first word
abbrev pub head_word : Head → List ℕ
head_word heads.Signature = codes "type"
head_word heads.Import = codes "import"
head_word heads.Func = codes "func"
head_word heads.EndFunc = codes "endfunc"
head_word heads.Table = codes "table"
head_word heads.Memory = codes "memory"
head_word heads.Global = codes "global"
head_word heads.Export = codes "export"
head_word heads.Start = codes "start"
head_word heads.Element = codes "elem"
head_word heads.Segment = codes "data"
head_word (heads.Instr i) = instr_name i

-- only an instruction of the standard has a name
abbrev pub IsHead : Head → Type 0
IsHead (heads.Instr i) = IsSpellable i
IsHead head = Unit {0}

-- the words of a line are those of the statement
pub record Spells (s : Statement) (words : List Token) : Type 0 where
  pub head : Head
  pub good : IsHead head
  pub rest : List Token
  pub written : words ≡ Plain (head_word head) ∷ rest
  pub form : (statement head).spells s rest []

-- ## Reading

abbrev pub directive_words : List (List ℕ × Head)
directive_words =
    (codes "type", heads.Signature) ∷
    (codes "import", heads.Import) ∷
    (codes "func", heads.Func) ∷
    (codes "endfunc", heads.EndFunc) ∷
    (codes "table", heads.Table) ∷
    (codes "memory", heads.Memory) ∷
    (codes "global", heads.Global) ∷
    (codes "export", heads.Export) ∷
    (codes "start", heads.Start) ∷
    (codes "elem", heads.Element) ∷
    (codes "data", heads.Segment) ∷
    []

abbrev pub head_named : List ℕ → Option Head
head_named word = or_else (lookup word directive_words) (option_map heads.Instr (instr_named word))

abbrev pub known : Statement × At → Reading
known r = Known r.0 r.1.fault

abbrev pub read_behind : Option Head → List Token → Reading
read_behind None rest = Unknown
read_behind (Some head) rest = known ((statement head).reads (clean rest))

-- the statement of a line with its first kind of fault, if it has one
abbrev pub reading_of : List Token → Reading
reading_of [] = Unknown
reading_of (Plain word ∷ rest) = read_behind (head_named word) rest
reading_of (token ∷ rest) = Unknown
