-- The words that are found spell the line.
use Rattle.std.proofs.Common.{◌≡◌, inl, inr, ℕ, zero, suc, ◌+◌, ◌≤◌, ◌&&◌, ◌||◌, ◌==◌, Bool, true, false, List, [], ◌∷◌, ◌++◌, length, take, drop, refl, ap, sym, ◌∙◌, subst, arith, append_assoc, append-nil, length-append, Option, Some, None, eqb-true}
use Rattle.std.proofs.lemmas.Bool.{eqb-false}
use Rattle.std.proofs.lemmas.List.{take-append-drop}
use Rattle.std.specs.List.{list_all, list_any}
use Rattle.mv_scan.specs.declared.token.Token.{Token}
use Rattle.mv_scan.specs.declared.token.Token.TheVariants.{Plain, Quoted, Glued}
use Rattle.mv_scan.specs.declared.scan.Place.TheVariants.{Among}
use Rattle.mv_scan.specs.Words.{Scanned, scan, drop_spaces, word_len, quoted, word_at, first_word, words_then, words_within, is_comment, words_of}
use Rattle.mv_scan.specs.WordGrammar.{SpellsText, IsPlainWord, SpellsToken, AreSpaces, EndsWord, SpellsWords, IsComment, SpellsLine}
use Rattle.mv_scan.proofs.GrammarFinds.{by_test}
use Rattle.mv_scan.proofs.TextGiven.{text_scanned}
use Rattle.mv_scan.proofs.TextFound.{ScanIs, scan_is, longer}
use Rattle.mv_scan.proofs.TextEnds.{Splits, splits}
use Rattle.mv_scan.proofs.WordGiven.{starts, is_comment_line}

-- ## Words

ends_at_zero : (bytes : List ℕ) → word_len bytes ≡ 0 → EndsWord bytes
ends_at_zero [] h = tt
ends_at_zero (b ∷ bytes) h =
    by_test (λ (n : ℕ). n ≡ 0 → b ≡ 32) (b == 32) 0 (suc (word_len bytes)) (λ e z. eqb-true b 32 e) (λ e z. absurd (omega arith)) h

word_free : (bytes : List ℕ) → list_any (λ c. c == 32) (take (word_len bytes) bytes) ≡ false
word_free [] = refl
word_free (b ∷ bytes) =
    by_test (λ (n : ℕ). list_any (λ c. c == 32) (take n (b ∷ bytes)) ≡ false) (b == 32) 0 (suc (word_len bytes)) (λ e. refl)
    (λ e. ap (λ (k : Bool). k || list_any (λ c. c == 32) (take (word_len bytes) bytes)) e ∙ word_free bytes)

word_ends : (bytes : List ℕ) → EndsWord (drop (word_len bytes) bytes)
word_ends [] = tt
word_ends (b ∷ bytes) =
    by_test (λ (n : ℕ). EndsWord (drop n (b ∷ bytes))) (b == 32) 0 (suc (word_len bytes)) (λ e. eqb-true b 32 e) (λ e. word_ends bytes)

-- a word, and the bytes behind it
record Word (token : Token) (bytes rest : List ℕ) : Type 0 where
  pub word : List ℕ
  pub split : bytes ≡ word ++ rest
  pub spelled : SpellsToken token word rest

abbrev IsWord : List ℕ → Token × List ℕ → Type 0
IsWord bytes t = Word t.0 bytes t.1

-- bytes behind a quote, with the quote that closes them
closed_word : (bytes inner rest : List ℕ) → bytes ≡ inner ++ (34 ∷ rest) → 34 ∷ bytes ≡ (34 ∷ (inner ++ (34 ∷ []))) ++ rest
closed_word bytes inner rest h = ap (λ (k : List ℕ). 34 ∷ k) (h ∙ sym (append_assoc inner (34 ∷ []) rest))

none_spelled : (inner rest : List ℕ) → (scan Among (inner ++ (34 ∷ rest))).0 ≡ None → (text : List ℕ) → SpellsText text inner → ⊥
none_spelled inner rest none text s =
    let e : (scan Among (inner ++ (34 ∷ rest))).0 ≡ Some text = ap (λ (k : Scanned). k.0) (text_scanned text inner rest s) in
    cc

spoilt_is : (bytes rest : List ℕ) → (scan Among bytes).0 ≡ None → Splits bytes (None, rest) → EndsWord rest → Word (Quoted None) (34 ∷ bytes) rest
spoilt_is bytes rest none (inl h) ends =
    let gone : (scan Among (h.0 ++ (34 ∷ rest))).0 ≡ None = subst (λ (k : List ℕ). (scan Among k).0 ≡ None) h.1 none in
    record {
      word = 34 ∷ (h.0 ++ (34 ∷ []));
      split = closed_word bytes h.0 rest h.1;
      spelled = inl (record { inner = h.0; written = refl; inside = h.2; no_text = none_spelled h.0 rest gone; ends = ends });
    }
spoilt_is bytes rest none (inr h) ends =
    record {
      word = 34 ∷ bytes;
      split = sym (append-nil (34 ∷ bytes)) ∙ ap (λ (k : List ℕ). (34 ∷ bytes) ++ k) (sym h.1);
      spelled = inr (record { inner = bytes; written = refl; inside = h.0; last = h.1 });
    }

text_is : (bytes : List ℕ) (o : Option (List ℕ)) (rest : List ℕ) → (scan Among bytes).0 ≡ o → ScanIs Among bytes (o, rest) → Splits bytes (o, rest)
    → word_len rest ≡ 0 → IsWord (34 ∷ bytes) (Quoted o, rest)
text_is bytes None rest none is s z = spoilt_is bytes rest none s (ends_at_zero rest z)
text_is bytes (Some text) rest some is s z =
    let t = is text refl in
    record {
      word = 34 ∷ (t.0 ++ (34 ∷ []));
      split = closed_word bytes t.0 rest t.1;
      spelled = (t.0, refl, t.2, ends_at_zero rest z);
    }

glued_is : (bytes : List ℕ) (o : Option (List ℕ)) (rest : List ℕ) → Splits bytes (o, rest) → (word_len rest == 0) ≡ false → IsWord (34 ∷ bytes) (Glued, drop (word_len rest) rest)
glued_is bytes o [] s n = cc
glued_is bytes o (b ∷ rest) (inr h) n = let e : b ∷ rest ≡ [] = h.1 in cc
glued_is bytes o (b ∷ rest) (inl h) n =
    let w = word_len (b ∷ rest) in
    by_test
    (λ (k : ℕ). (k == 0) ≡ false → list_any (λ c. c == 32) (take k (b ∷ rest)) ≡ false → EndsWord (drop k (b ∷ rest)) → Word Glued (34 ∷ bytes) (drop k (b ∷ rest)))
    (b == 32) 0 (suc (word_len rest)) (λ e m free ends. cc)
    (λ e m free ends.
    record {
      word = 34 ∷ (h.0 ++ (34 ∷ b ∷ take (word_len rest) rest));
      split = ap (λ (k : List ℕ). 34 ∷ k)
          (h.1 ∙ ap (λ (k : List ℕ). h.0 ++ (34 ∷ b ∷ k)) (sym (take-append-drop (word_len rest) rest))
          ∙ sym (append_assoc h.0 (34 ∷ b ∷ take (word_len rest) rest) (drop (word_len rest) rest)));
      spelled = record { inner = h.0; first = b; others = take (word_len rest) rest; written = refl; inside = h.2; no_space = free; ends = ends };
    })
    n (word_free (b ∷ rest)) (word_ends (b ∷ rest))

quoted_is : (bytes : List ℕ) (o : Option (List ℕ)) (rest : List ℕ) → (scan Among bytes).0 ≡ o → ScanIs Among bytes (o, rest) → Splits bytes (o, rest) → IsWord (34 ∷ bytes) (quoted (o, rest))
quoted_is bytes o rest e is s =
    by_test (λ (t : Token × List ℕ). IsWord (34 ∷ bytes) t) (word_len rest == 0) _ _
    (λ z. text_is bytes o rest e is s (eqb-true (word_len rest) 0 z))
    (λ z. glued_is bytes o rest s z)

plain_by : (b n : ℕ) (bytes : List ℕ) → (b ≡ 34 → ⊥) → list_any (λ c. c == 32) (take (suc n) (b ∷ bytes)) ≡ false → IsPlainWord (take (suc n) (b ∷ bytes))
plain_by b n bytes q h = (q, h)

plain_is : (b : ℕ) (bytes : List ℕ) → (b == 32) ≡ false → (b ≡ 34 → ⊥)
    → IsWord (b ∷ bytes) (Plain (take (word_len (b ∷ bytes)) (b ∷ bytes)), drop (word_len (b ∷ bytes)) (b ∷ bytes))
plain_is b bytes s q =
    let n : suc (word_len bytes) ≡ word_len (b ∷ bytes) = by_test (λ (k : ℕ). suc (word_len bytes) ≡ k) (b == 32) 0 (suc (word_len bytes)) (λ e. cc) (λ e. refl) in
    let free = word_free (b ∷ bytes) in
    let plain : list_any (λ c. c == 32) (take (word_len (b ∷ bytes)) (b ∷ bytes)) ≡ false → IsPlainWord (take (word_len (b ∷ bytes)) (b ∷ bytes)) =
    subst (λ (k : ℕ). list_any (λ c. c == 32) (take k (b ∷ bytes)) ≡ false → IsPlainWord (take k (b ∷ bytes))) n (plain_by b (word_len bytes) bytes q) in
    record {
      word = take (word_len (b ∷ bytes)) (b ∷ bytes);
      split = sym (take-append-drop (word_len (b ∷ bytes)) (b ∷ bytes));
      spelled = (refl, plain free, word_ends (b ∷ bytes));
    }

word_is : (b : ℕ) (bytes : List ℕ) → (b == 32) ≡ false → IsWord (b ∷ bytes) (word_at b bytes)
word_is b bytes s =
    by_test (λ (t : Token × List ℕ). IsWord (b ∷ bytes) t) (b == 34) _ _
    (λ q. subst (λ (k : ℕ). IsWord (k ∷ bytes) (quoted (scan Among bytes))) (sym (eqb-true b 34 q))
    (quoted_is bytes (scan Among bytes).0 (scan Among bytes).1 refl (scan_is bytes Among) (splits bytes)))
    (λ q. plain_is b bytes s (eqb-false b 34 q))

-- ## Lines

abbrev BeginsWord : List ℕ → Type 0
BeginsWord [] = Unit {0}
BeginsWord (b ∷ bytes) = (b == 32) ≡ false

-- the spaces in front, and what stands behind them
record Front (bytes behind : List ℕ) : Type 0 where
  pub spaces : List ℕ
  pub split : bytes ≡ spaces ++ behind
  pub all : AreSpaces spaces
  pub begins : BeginsWord behind

front : (bytes : List ℕ) → Front bytes (drop_spaces bytes)
front [] = record { spaces = []; split = refl; all = refl; begins = tt }
front (b ∷ bytes) =
    by_test (λ (k : List ℕ). Front (b ∷ bytes) k) (b == 32) (drop_spaces bytes) (b ∷ bytes)
    (λ e.
    let f = front bytes in
    record { spaces = b ∷ f.spaces; split = longer b bytes f.spaces _ f.split; all = ap (λ (k : Bool). k && list_all (λ c. c == 32) f.spaces) e ∙ f.all; begins = f.begins })
    (λ e. record { spaces = []; split = refl; all = refl; begins = e })

words_by : (n : ℕ) (bytes behind : List ℕ) → Front bytes behind → length bytes ≤ suc n
    → ((rest : List ℕ) → length rest ≤ n → SpellsWords (words_within n rest) rest)
    → SpellsWords (words_then (first_word behind) (λ rest. words_within n rest)) bytes
words_by n bytes [] f few ih =
    subst (λ (k : List ℕ). AreSpaces k) (sym (f.split ∙ append-nil f.spaces)) f.all
words_by n bytes (b ∷ behind) f few ih =
    let t = word_at b behind in
    let w = word_is b behind f.begins in
    let some : 1 ≤ length w.word = (starts t.0 w.word t.1 w.spelled).some in
    let split : bytes ≡ f.spaces ++ (w.word ++ t.1) = f.split ∙ ap (λ (k : List ℕ). f.spaces ++ k) w.split in
    let size : length bytes ≡ length f.spaces + (length w.word + length t.1) = ap (λ (k : List ℕ). length k) split ∙ length-append f.spaces (w.word ++ t.1) ∙ ap (λ (k : ℕ). length f.spaces + k) (length-append w.word t.1) in
    (f.spaces, w.word, t.1, split, f.all, w.spelled, ih t.1 (omega arith))

pub words_found : (n : ℕ) (bytes : List ℕ) → length bytes ≤ n → SpellsWords (words_within n bytes) bytes
words_found zero [] few = refl
words_found zero (b ∷ bytes) few = absurd (omega arith)
words_found (suc n) bytes few = words_by n bytes (drop_spaces bytes) (front bytes) few (λ rest less. words_found n rest less)

comment_by : (line behind : List ℕ) → Front line behind → is_comment behind ≡ true → IsComment line
comment_by line [] f h = cc
comment_by line (b ∷ behind) f h =
    (f.spaces, behind, f.split ∙ ap (λ (k : ℕ). f.spaces ++ (k ∷ behind)) (eqb-true b 59 h), f.all)

no_comment : (line : List ℕ) (words : List Token) → is_comment (drop_spaces line) ≡ false → SpellsWords words line → SpellsLine words line
no_comment line [] h s = inl s
no_comment line (token ∷ tokens) h s = (
  λ bytes e.
      let p : SpellsToken (Plain (59 ∷ bytes)) s.1 s.2 = subst (λ (k : Token). SpellsToken k s.1 s.2) e s.5 in
      let q : is_comment (drop_spaces line) ≡ true =
      is_comment_line line s.0 (bytes ++ s.2) (s.3 ∙ ap (λ (k : List ℕ). s.0 ++ (k ++ s.2)) p.0) s.4 in
      cc,
  s,
)

pub line_found : (line : List ℕ) → SpellsLine (words_of line) line
line_found line =
    by_test (λ (k : List Token). SpellsLine k line) (is_comment (drop_spaces line)) _ _
    (λ e. inr (comment_by line (drop_spaces line) (front line) e))
    (λ e. no_comment line (words_within (length line) line) e (words_found (length line) line (omega arith)))
