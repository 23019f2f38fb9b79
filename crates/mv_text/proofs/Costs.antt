-- The words of a text cost no more than it has bytes, and their texts are bytes.
use Rattle.std.proofs.Common.{◌≡◌, ℕ, suc, ◌+◌, ◌-◌, ◌≤◌, ◌<◌, Bool, true, false, cond, eqb, leb, ◌&&◌, List, [], ◌∷◌, ◌++◌, length, Some, None, inl, inr, refl, ap, arith}
use Rattle.std.specs.List.{AllByRecursion}
use Rattle.std.proofs.lemmas.Bool.{leb-true}
use Rattle.std.proofs.lemmas.List.{length-append}
use Rattle.mv_scan.specs.declared.token.Token.{Token}
use Rattle.mv_scan.specs.declared.token.Token.TheVariants.{Plain, Quoted, Glued}
use Rattle.mv_scan.specs.Words.{hex_value, escaped}
use Rattle.mv_scan.specs.Lines.{lines_of, onto_line}
use Rattle.mv_scan.specs.WordGrammar.{SpellsByte, SpellsText, IsPlainWord, SpellsToken, SpellsWords}
use Rattle.mv_scan.proofs.WordFound.{words_found}
use Rattle.mv_text.specs.declared.comments.Quoting.{Quoting}
use Rattle.mv_text.specs.declared.comments.Quoting.TheVariants.{Gap}
use Rattle.mv_text.specs.Comments.{after_byte, is_outside, begins_comment, before_comment, content_of, words_on}
use Rattle.mv_text.specs.Grammar.{sentences, if_words}
use Rattle.mv_writer.proofs.Small.{Small}
use Rattle.mv_text.proofs.Facts.{weight, cost, IsGood, AreGood}

escaped_at : (a b c d e : Bool) (byte : ℕ) → cond a (Some 10) (cond b (Some 13) (cond c (Some 9) (cond d (Some 34) (cond e (Some 92) None)))) ≡ Some byte → byte < 256
escaped_at true b c d e byte h = (let same : 10 ≡ byte = cc in omega arith)
escaped_at false true c d e byte h = (let same : 13 ≡ byte = cc in omega arith)
escaped_at false false true d e byte h = (let same : 9 ≡ byte = cc in omega arith)
escaped_at false false false true e byte h = (let same : 34 ≡ byte = cc in omega arith)
escaped_at false false false false true byte h = (let same : 92 ≡ byte = cc in omega arith)
escaped_at false false false false false byte h = absurd cc

escaped_below : (letter byte : ℕ) → escaped letter ≡ Some byte → byte < 256
escaped_below letter byte h = escaped_at (eqb letter 110) (eqb letter 114) (eqb letter 116) (eqb letter 34) (eqb letter 92) byte h

both : (a b : Bool) → (a && b) ≡ true → (a ≡ true) × (b ≡ true)
both true true h = (refl, refl)
both true false h = absurd cc
both false b h = absurd cc

hex_at : (b : ℕ) (x y z : Bool) (v : ℕ) → (leb 48 b && leb b 57) ≡ x → (leb 97 b && leb b 102) ≡ y → (leb 65 b && leb b 70) ≡ z → cond x (Some (b - 48)) (cond y (Some (b - 87)) (cond z (Some (b - 55)) None)) ≡ Some v → v < 16
hex_at b true y z v p q r h = (let same : b - 48 ≡ v = cc in let t = both (leb 48 b) (leb b 57) p in omega (arith, leb-true _ _ t.0, leb-true _ _ t.1))
hex_at b false true z v p q r h = (let same : b - 87 ≡ v = cc in let t = both (leb 97 b) (leb b 102) q in omega (arith, leb-true _ _ t.0, leb-true _ _ t.1))
hex_at b false false true v p q r h = (let same : b - 55 ≡ v = cc in let t = both (leb 65 b) (leb b 70) r in omega (arith, leb-true _ _ t.0, leb-true _ _ t.1))
hex_at b false false false v p q r h = absurd cc

hex_below : (b v : ℕ) → hex_value b ≡ Some v → v < 16
hex_below b v h = hex_at b (leb 48 b && leb b 57) (leb 97 b && leb b 102) (leb 65 b && leb b 70) v refl refl refl h

byte_cost : (byte : ℕ) (bytes : List ℕ) → SpellsByte byte bytes → (byte < 256) × (1 ≤ length bytes)
byte_cost byte bytes (inl h) = (let le = h.to in omega arith, omega (arith, ap length h.written))
byte_cost byte bytes (inr (inl h)) = (escaped_below h.letter byte h.value, omega (arith, ap length h.written))
byte_cost byte bytes (inr (inr h)) = (omega (arith, h.value, hex_below h.first h.high h.first_value, hex_below h.second h.low h.second_value), omega (arith, ap length h.written))

text_cost : (text bytes : List ℕ) → SpellsText text bytes → Small text × (length text ≤ length bytes)
text_cost [] bytes h = (tt, omega arith)
text_cost (byte ∷ text) bytes h =
    let one = byte_cost byte h.0 h.3 in
    let rest = text_cost text h.1 h.4 in
    ((one.0, rest.0), omega (arith, ap length h.2, length-append h.0 h.1, one.1, rest.1))

plain_some : (word : List ℕ) → IsPlainWord word → 1 ≤ length word
plain_some [] h = absurd h
plain_some (b ∷ bytes) h = omega arith

token_cost : (token : Token) (bytes rest : List ℕ) → SpellsToken token bytes rest → IsGood token × (weight token ≤ length bytes)
token_cost (Plain word) bytes rest h = (tt, omega (arith, ap length h.0, plain_some word h.1))
token_cost (Quoted (Some text)) bytes rest h = (let t = text_cost text h.0 h.2 in (t.0, omega (arith, ap length h.1, length-append h.0 (34 ∷ []), t.1)))
token_cost (Quoted None) bytes rest (inl h) = (tt, omega (arith, ap length h.written))
token_cost (Quoted None) bytes rest (inr h) = (tt, omega (arith, ap length h.written))
token_cost Glued bytes rest h = (tt, omega (arith, ap length h.written))

words_cost : (tokens : List Token) (bytes : List ℕ) → SpellsWords tokens bytes → AreGood tokens × (cost tokens ≤ length bytes)
words_cost [] bytes h = (tt, omega arith)
words_cost (token ∷ tokens) bytes h =
    let one = token_cost token h.1 h.2 h.5 in
    let rest = words_cost tokens h.2 h.6 in
    ((one.0, rest.0), omega (arith, ap length h.3, length-append h.0 (h.1 ++ h.2), length-append h.1 h.2, one.1, rest.1))

content_at : (b : ℕ) (bytes more : List ℕ) (t : Bool) → length more ≤ length bytes → length (cond t [] (b ∷ more)) ≤ length (b ∷ bytes)
content_at b bytes more true le = omega arith
content_at b bytes more false le = omega arith

content_short : (place : Quoting) (line : List ℕ) → length (before_comment place line) ≤ length line
content_short place [] = omega arith
content_short place (b ∷ bytes) = content_at b bytes (before_comment (after_byte place b) bytes) (is_outside place && begins_comment (b ∷ bytes)) (content_short (after_byte place b) bytes)

line_cost : (line : List ℕ) → AreGood (words_on line) × (cost (words_on line) ≤ length line)
line_cost line =
    let w = words_cost (words_on line) (content_of line) (words_found (length (content_of line)) (content_of line) (omega arith)) in
    (w.0, omega (arith, w.1, content_short Gap line))

-- ## Lines

abbrev pub AllGood : List (List Token) → Type 0
AllGood lines = AllByRecursion AreGood lines

abbrev pub total_cost : List (List Token) → ℕ
total_cost [] = 0
total_cost (words ∷ lines) = cost words + total_cost lines

abbrev total : List (List ℕ) → ℕ
total [] = 0
total (line ∷ lines) = length line + total lines

onto_total : (b : ℕ) (lines : List (List ℕ)) → total (onto_line b lines) ≡ 1 + total lines
onto_total b [] = refl
onto_total b (line ∷ lines) = omega arith

lines_at : (b n : ℕ) (lines : List (List ℕ)) (t : Bool) → total lines ≤ n → total (cond t ([] ∷ lines) (onto_line b lines)) ≤ suc n
lines_at b n lines true le = omega arith
lines_at b n lines false le = omega (arith, onto_total b lines)

lines_total : (text : List ℕ) → total (lines_of text) ≤ length text
lines_total [] = omega arith
lines_total (b ∷ bytes) = lines_at b (length bytes) (lines_of bytes) (eqb b 10) (lines_total bytes)

sentence_cost : (words : List Token) (lines : List (List Token)) (n m : ℕ) → AreGood words → cost words ≤ n → AllGood lines → total_cost lines ≤ m → AllGood (if_words words lines) × (total_cost (if_words words lines) ≤ n + m)
sentence_cost [] lines n m g le h lt = (h, omega arith)
sentence_cost (word ∷ words) lines n m g le h lt = ((g, h), omega arith)

sentences_total : (lines : List (List ℕ)) → AllGood (sentences lines) × (total_cost (sentences lines) ≤ total lines)
sentences_total [] = (tt, omega arith)
sentences_total (line ∷ lines) =
    let one = line_cost line in
    let rest = sentences_total lines in
    sentence_cost (words_on line) (sentences lines) (length line) (total lines) one.0 one.1 rest.0 rest.1

pub text_total : (text : List ℕ) → AllGood (sentences (lines_of text)) × (total_cost (sentences (lines_of text)) ≤ length text)
text_total text = (let s = sentences_total (lines_of text) in (s.0, omega (arith, s.1, lines_total text)))
