-- The words of a line, read from its front (docs/FORMATS.md, "Words of a text"). That they are those of `WordGrammar` is a law.
use Rattle.std.specs.Prelude.{◌<◌, ℕ, zero, suc, ◌+◌, ◌-◌, ◌*◌, ◌==◌, nat_le, Bool, true, false, ◌&&◌, List, [], ◌∷◌, length, take, drop, Option, Some, None, if◌then◌else◌}
use Rattle.std.specs.Option.{option_map}
use Rattle.std.specs.Str.{bytes_eq}
use Rattle.mv_scan.specs.declared.token.Token.{Token}
use Rattle.mv_scan.specs.declared.token.Token.TheVariants.{Plain, Quoted, Glued}
use Rattle.mv_scan.specs.declared.scan.Place.{Place}
use Rattle.mv_scan.specs.declared.scan.Place.TheVariants.{Among, Backslash, High, Low}
use Rattle.mv_scan.specs.declared.scan.Effect.{Effect}
use Rattle.mv_scan.specs.declared.scan.Effect.TheVariants.{Closes, Leads, Gives, Spoils, Breaks}

-- ## Texts

abbrev pub hex_value : ℕ → Option ℕ
hex_value b =
    if nat_le 48 b && nat_le b 57 then Some (b - 48)
    else if nat_le 97 b && nat_le b 102 then Some (b - 87)
    else if nat_le 65 b && nat_le b 70 then Some (b - 55)
    else None

-- the byte that a backslash and this byte stand for
abbrev pub escaped : ℕ → Option ℕ
escaped b =
    if b == 110 then Some 10 else if b == 114 then Some 13 else if b == 116 then Some 9
    else if b == 34 then Some 34 else if b == 92 then Some 92 else None

-- a text and the bytes behind it
abbrev pub Scanned : Type 0
Scanned = Option (List ℕ) × List ℕ

abbrev pub with_byte : ℕ → Scanned → Scanned
with_byte b s = (option_map (λ text. b ∷ text) s.0, s.1)

abbrev pub given_by : Option ℕ → Effect
given_by None = Spoils Among
given_by (Some b) = Gives b

-- where a digit must stand, another byte is read as one among the others; there is no text
abbrev pub no_digit : ℕ → Effect
no_digit b = if b == 34 then Breaks else if b == 92 then Spoils Backslash else Spoils Among

abbrev pub high_digit : Option ℕ → ℕ → Effect
high_digit None b = no_digit b
high_digit (Some high) b = Leads (Low high)

abbrev pub low_digit : ℕ → Option ℕ → ℕ → Effect
low_digit high None b = no_digit b
low_digit high (Some low) b = Gives (16 * high + low)

abbrev pub step_of : Place → ℕ → Effect
step_of Among b =
    if b == 34 then Closes else if b == 92 then Leads Backslash
    else if nat_le 32 b && nat_le b 126 then Gives b else Spoils Among
step_of Backslash b = if b == 120 then Leads High else given_by (escaped b)
step_of High b = high_digit (hex_value b) b
step_of (Low high) b = low_digit high (hex_value b) b

-- a first digit is one
abbrev pub IsPlace : Place → Type 0
IsPlace (Low high) = high < 16
IsPlace place = Unit {0}

abbrev pub LeadsToPlace : Effect → Type 0
LeadsToPlace (Leads place) = IsPlace place
LeadsToPlace (Spoils place) = IsPlace place
LeadsToPlace effect = Unit {0}

abbrev pub scan_on : Effect → List ℕ → (Place → Scanned) → Scanned
scan_on Closes bytes rest = (Some [], bytes)
scan_on (Leads place) bytes rest = rest place
scan_on (Gives byte) bytes rest = with_byte byte (rest Among)
scan_on (Spoils place) bytes rest = (None, (rest place).1)
scan_on Breaks bytes rest = (None, bytes)

-- the text after its opening quote, up to its closing one, and the bytes behind that
abbrev pub scan : Place → List ℕ → Scanned
scan place [] = (None, [])
scan place (b ∷ bytes) = scan_on (step_of place b) bytes (λ next. scan next bytes)

-- ## Words

abbrev pub drop_spaces : List ℕ → List ℕ
drop_spaces [] = []
drop_spaces (b ∷ bytes) = if b == 32 then drop_spaces bytes else b ∷ bytes

-- how many bytes stand before the first space
abbrev pub word_len : List ℕ → ℕ
word_len [] = 0
word_len (b ∷ bytes) = if b == 32 then 0 else suc (word_len bytes)

-- a text ends at a space or at the line's end
abbrev pub quoted : Scanned → Token × List ℕ
quoted s = if word_len s.1 == 0 then (Quoted s.0, s.1) else (Glued, drop (word_len s.1) s.1)

-- the first word of bytes that begin with none, and the bytes behind it
abbrev pub word_at : ℕ → List ℕ → Token × List ℕ
word_at b bytes = if b == 34 then quoted (scan Among bytes) else (Plain (take (word_len (b ∷ bytes)) (b ∷ bytes)), drop (word_len (b ∷ bytes)) (b ∷ bytes))

abbrev pub first_word : List ℕ → Option (Token × List ℕ)
first_word [] = None
first_word (b ∷ bytes) = Some (word_at b bytes)

abbrev pub words_then : Option (Token × List ℕ) → (List ℕ → List Token) → List Token
words_then None rest = []
words_then (Some t) rest = t.0 ∷ rest t.1

-- the words of at most so many bytes
abbrev pub words_within : ℕ → List ℕ → List Token
words_within zero bytes = []
words_within (suc n) bytes = words_then (first_word (drop_spaces bytes)) (λ rest. words_within n rest)

-- a line whose first other byte is `;` has no words
abbrev pub is_comment : List ℕ → Bool
is_comment [] = false
is_comment (b ∷ bytes) = b == 59

abbrev pub words_of : List ℕ → List Token
words_of line = if is_comment (drop_spaces line) then [] else words_within (length line) line

-- ## Words that are looked for

abbrev pub is_word : List ℕ → Token → Bool
is_word word (Plain bytes) = bytes_eq bytes word
is_word word (Quoted text) = false
is_word word Glued = false

abbrev pub is_lone_word : List ℕ → List Token → Bool
is_lone_word word [] = false
is_lone_word word (token ∷ []) = is_word word token
is_lone_word word (token ∷ other ∷ tokens) = false

-- a text that doesn't end or has another byte or escape
abbrev pub is_bad_text : Token → Bool
is_bad_text (Quoted None) = true
is_bad_text token = false
