-- The words of a line, and the bytes that spell them (docs/FORMATS.md, "Words of a text"). Nothing here reads a line.
use Rattle.std.specs.Prelude.{◌≡◌, ◌≢◌, ◌⊎◌, ◌≤◌, ◌+◌, ◌*◌, ◌==◌, ℕ, true, false, List, [], ◌∷◌, ◌++◌, Some, None}
use Rattle.std.specs.List.{list_all, list_any}
use Rattle.mv_scan.specs.declared.token.Token.{Token}
use Rattle.mv_scan.specs.declared.token.Token.TheVariants.{Plain, Quoted, Glued}
use Rattle.mv_scan.specs.Words.{hex_value, escaped}
use Rattle.mv_scan.specs.Numbers.{decimal}
use Rattle.mv_scan.specs.Names.{is_name}

-- ## Texts

-- a printable byte, neither `"` nor `\`, stands for itself
pub record IsItself (byte : ℕ) (bytes : List ℕ) : Type 0 where
  pub written : bytes ≡ byte ∷ []
  pub from : 32 ≤ byte
  pub to : byte ≤ 126
  pub no_quote : byte ≢ 34
  pub no_backslash : byte ≢ 92

-- `\` and a letter of the table
pub record IsEscape (byte : ℕ) (bytes : List ℕ) : Type 0 where
  pub letter : ℕ
  pub written : bytes ≡ 92 ∷ letter ∷ []
  pub value : escaped letter ≡ Some byte

-- `\x` and two hexadecimal digits
pub record IsHexadecimal (byte : ℕ) (bytes : List ℕ) : Type 0 where
  pub first : ℕ
  pub second : ℕ
  pub high : ℕ
  pub low : ℕ
  pub written : bytes ≡ 92 ∷ 120 ∷ first ∷ second ∷ []
  pub first_value : hex_value first ≡ Some high
  pub second_value : hex_value second ≡ Some low
  pub value : byte ≡ 16 * high + low

-- what stands in a text for a byte
abbrev pub SpellsByte : ℕ → List ℕ → Type 0
SpellsByte byte bytes = IsItself byte bytes ⊎ (IsEscape byte bytes ⊎ IsHexadecimal byte bytes)

-- byte by byte
abbrev pub SpellsText : List ℕ → List ℕ → Type 0
SpellsText [] bytes = bytes ≡ []
SpellsText (byte ∷ text) bytes = (first : List ℕ) × (others : List ℕ) × (bytes ≡ first ++ others) × SpellsByte byte first × SpellsText text others

-- ## Words

-- bytes other than a space, at least one, of which the first is no `"`
abbrev pub IsPlainWord : List ℕ → Type 0
IsPlainWord [] = ⊥
IsPlainWord (byte ∷ bytes) = (byte ≢ 34) × (list_any (λ b. b == 32) (byte ∷ bytes) ≡ false)

-- what may stand between two quotes: bytes other than `"` and `\`, and `\` with the byte that it takes along
abbrev pub IsInner : List ℕ → Type 0
IsInner [] = Unit {0}
IsInner (byte ∷ []) = (byte ≢ 34) × (byte ≢ 92)
IsInner (byte ∷ next ∷ bytes) = ((byte ≢ 34) × (byte ≢ 92) × IsInner (next ∷ bytes)) ⊎ ((byte ≡ 92) × IsInner bytes)

-- what may stand behind a quote that nothing closes; a backslash may be its last byte
abbrev pub StaysOpen : List ℕ → Type 0
StaysOpen bytes = IsInner bytes ⊎ ((before : List ℕ) × (bytes ≡ before ++ (92 ∷ [])) × IsInner before)

-- a word ends at a space or at the line's end
abbrev pub EndsWord : List ℕ → Type 0
EndsWord [] = Unit {0}
EndsWord (byte ∷ bytes) = byte ≡ 32

-- between `"` and `"` stands what spells no text
pub record IsSpoilt (bytes rest : List ℕ) : Type 0 where
  pub inner : List ℕ
  pub written : bytes ≡ 34 ∷ (inner ++ (34 ∷ []))
  pub inside : IsInner inner
  pub no_text : (text : List ℕ) → SpellsText text inner → ⊥
  pub ends : EndsWord rest

-- a text that is open at the line's end
pub record IsUnended (bytes rest : List ℕ) : Type 0 where
  pub inner : List ℕ
  pub written : bytes ≡ 34 ∷ inner
  pub inside : StaysOpen inner
  pub last : rest ≡ []

-- behind the closing quote stands another byte than a space
pub record IsGlued (bytes rest : List ℕ) : Type 0 where
  pub inner : List ℕ
  pub first : ℕ
  pub others : List ℕ
  pub written : bytes ≡ 34 ∷ (inner ++ (34 ∷ first ∷ others))
  pub inside : IsInner inner
  pub no_space : list_any (λ b. b == 32) (first ∷ others) ≡ false
  pub ends : EndsWord rest

-- the bytes of a word, before the rest of the line: a plain word, a text between `"` and `"`, a broken text, or a text that
-- bytes follow without a space
abbrev pub SpellsToken : Token → List ℕ → List ℕ → Type 0
SpellsToken (Plain word) bytes rest = (bytes ≡ word) × IsPlainWord word × EndsWord rest
SpellsToken (Quoted (Some text)) bytes rest = (inner : List ℕ) × (bytes ≡ 34 ∷ (inner ++ (34 ∷ []))) × SpellsText text inner × EndsWord rest
SpellsToken (Quoted None) bytes rest = IsSpoilt bytes rest ⊎ IsUnended bytes rest
SpellsToken Glued bytes rest = IsGlued bytes rest

-- ## Numbers and names

-- a number from low to high, in decimal digits
pub record SpellsNumber (low high n : ℕ) (token : Token) : Type 0 where
  pub digits : List ℕ
  pub written : token ≡ Plain digits
  pub value : decimal digits ≡ Some n
  pub from : low ≤ n
  pub to : n ≤ high

-- a name behind its sign
pub record SpellsName (sign : ℕ) (name : List ℕ) (token : Token) : Type 0 where
  pub written : token ≡ Plain (sign ∷ name)
  pub good : is_name name ≡ true

-- ## Lines

abbrev pub AreSpaces : List ℕ → Type 0
AreSpaces bytes = list_all (λ b. b == 32) bytes ≡ true

-- word by word, with spaces in front and behind, and between two at least one
abbrev pub SpellsWords : List Token → List ℕ → Type 0
SpellsWords [] bytes = AreSpaces bytes
SpellsWords (token ∷ tokens) bytes =
    (spaces : List ℕ) × (word : List ℕ) × (rest : List ℕ) × (bytes ≡ spaces ++ (word ++ rest)) × AreSpaces spaces × SpellsToken token word rest × SpellsWords tokens rest

-- `;` behind spaces, then anything
abbrev pub IsComment : List ℕ → Type 0
IsComment line = (spaces : List ℕ) × (rest : List ℕ) × (line ≡ spaces ++ (59 ∷ rest)) × AreSpaces spaces

-- the words of a line, of which the first doesn't begin with `;`; a comment has none. Each line has exactly one list of words
abbrev pub SpellsLine : List Token → List ℕ → Type 0
SpellsLine [] line = AreSpaces line ⊎ IsComment line
SpellsLine (token ∷ tokens) line = ((bytes : List ℕ) → token ≢ Plain (59 ∷ bytes)) × SpellsWords (token ∷ tokens) line
