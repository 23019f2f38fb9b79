-- Comments: `;;` outside quotes, and all behind it (docs/FORMATS.md, "Assembler text").
use Rattle.std.specs.Prelude.{ℕ, Bool, true, false, ◌&&◌, List, [], ◌∷◌, length, ◌==◌, if◌then◌else◌}
use Rattle.mv_scan.specs.declared.token.Token.{Token}
use Rattle.mv_scan.specs.Words.{words_within}
use Rattle.mv_text.specs.declared.comments.Quoting.{Quoting}
use Rattle.mv_text.specs.declared.comments.Quoting.TheVariants.{Gap, InWord, InText, Escaped}

-- where the bytes have got to behind this one: a text begins with the quote that a word begins with, and a backslash in it
-- takes the next byte along
abbrev pub after_byte : Quoting → ℕ → Quoting
after_byte Gap b = if b == 32 then Gap else if b == 34 then InText else InWord
after_byte InWord b = if b == 32 then Gap else InWord
after_byte InText b = if b == 34 then InWord else if b == 92 then Escaped else InText
after_byte Escaped b = InText

abbrev pub is_outside : Quoting → Bool
is_outside Gap = true
is_outside InWord = true
is_outside InText = false
is_outside Escaped = false

abbrev pub begins_comment : List ℕ → Bool
begins_comment [] = false
begins_comment (a ∷ []) = false
begins_comment (a ∷ b ∷ bytes) = (a == 59) && (b == 59)

-- the bytes before the first `;;` outside quotes
abbrev pub before_comment : Quoting → List ℕ → List ℕ
before_comment place [] = []
before_comment place (b ∷ bytes) = if is_outside place && begins_comment (b ∷ bytes) then [] else b ∷ before_comment (after_byte place b) bytes

abbrev pub content_of : List ℕ → List ℕ
content_of line = before_comment Gap line

-- the words of a line
abbrev pub words_on : List ℕ → List Token
words_on line = words_within (length (content_of line)) (content_of line)
