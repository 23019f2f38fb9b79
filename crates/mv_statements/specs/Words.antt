-- What one word of a line stands for in its place, or its kind of fault there (docs/FORMATS.md, "Assembler text").
use Rattle.std.specs.Prelude.{ℕ, suc, Bool, true, false, List, [], ◌∷◌, Option, Some, None, Result, Ok, Err, if◌then◌else◌, codes}
use Rattle.std.specs.Option.{ok_or}
use Rattle.std.specs.Str.{is_utf8}
use Rattle.mv_syntax.specs.declared.ops.ValType.{ValType}
use Rattle.mv_syntax.specs.declared.ops.ValType.TheVariants.{I32, I64}
use Rattle.mv_scan.specs.declared.token.Token.{Token}
use Rattle.mv_scan.specs.declared.token.Token.TheVariants.{Plain, Quoted, Glued}
use Rattle.mv_scan.specs.Words.{is_word}
use Rattle.mv_statements.specs.declared.fault.TextKind.{TextKind}
use Rattle.mv_statements.specs.declared.fault.TextKind.TheVariants.{Word, Quote, Number}
use Rattle.mv_statements.specs.Form.{Form}
use Rattle.mv_statements.specs.Forms.{word}
use Rattle.mv_statements.specs.Numerals.{numeral, at_most, constant}

-- a text with a fault of its own is Quote in a number's place too
abbrev pub number_in : (List ℕ → Option ℕ) → Token → Result ℕ TextKind
number_in value (Plain bytes) = ok_or (value bytes) Number
number_in value (Quoted (Some text)) = Err Number
number_in value (Quoted None) = Err Quote
number_in value Glued = Err Number

abbrev pub number_up_to : ℕ → List ℕ → Option ℕ
number_up_to most bytes = at_most most (numeral bytes)

-- a number of at most this
unfoldable pub number : ℕ → Form ℕ
number most = word 0 (number_in (number_up_to most))

-- an index, an offset or an alignment
abbrev pub index : Form ℕ
index = number 4294967295

unfoldable pub constant_word : ValType → Form ℕ
constant_word t = word 0 (number_in (constant t))

abbrev pub val_type_in : Token → Result ValType TextKind
val_type_in token = if is_word (codes "i32") token then Ok I32 else if is_word (codes "i64") token then Ok I64 else Err Word

unfoldable pub val_type : Form ValType
val_type = word I32 val_type_in

-- whether a global is a variable
abbrev pub mutable_in : Token → Result Bool TextKind
mutable_in token = if is_word (codes "const") token then Ok false else if is_word (codes "var") token then Ok true else Err Word

unfoldable pub mutable : Form Bool
mutable = word false mutable_in

-- what is exported, by its number in the binary form (WebAssembly Core 1.0, 5.5.10)
abbrev pub kind_in : Token → Result ℕ TextKind
kind_in token =
    if is_word (codes "func") token then Ok 0 else if is_word (codes "table") token then Ok 1
    else if is_word (codes "memory") token then Ok 2 else if is_word (codes "global") token then Ok 3 else Err Word

unfoldable pub kind : Form ℕ
kind = word 0 kind_in

abbrev pub is_arrow : Token → Bool
is_arrow token = is_word (codes "->") token

abbrev pub arrow_in : Token → Result Bool TextKind
arrow_in token = if is_arrow token then Ok true else Err Word

unfoldable pub arrow : Form Bool
arrow = word true arrow_in

-- how many words stand before the first arrow, or how many there are
abbrev pub before_arrow : List Token → ℕ
before_arrow [] = 0
before_arrow (token ∷ tokens) = if is_arrow token then 0 else suc (before_arrow tokens)

abbrev pub text_in : Token → Result (List ℕ) TextKind
text_in (Quoted (Some text)) = Ok text
text_in token = Err Quote

-- the bytes of a text in quotes
unfoldable pub text : Form (List ℕ)
text = word [] text_in

abbrev pub name_of : List ℕ → Result (List ℕ) TextKind
name_of bytes = if is_utf8 bytes then Ok bytes else Err Quote

abbrev pub name_in : Token → Result (List ℕ) TextKind
name_in (Quoted (Some bytes)) = name_of bytes
name_in token = Err Quote

-- a text that is UTF-8
unfoldable pub name : Form (List ℕ)
name = word [] name_in
