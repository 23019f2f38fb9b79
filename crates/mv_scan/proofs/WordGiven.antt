-- The words that spell a line are found.
use Rattle.std.proofs.Common.{◌≡◌, ◌≢◌, inl, inr, ℕ, zero, suc, ◌+◌, ◌≤◌, ◌==◌, true, false, List, [], ◌∷◌, ◌++◌, length, take, drop, refl, ap, sym, ◌∙◌, subst, arith, append_assoc, append-nil, length-append, Option, Some, None, ne_eqb}
use Rattle.std.proofs.lemmas.List.{append_cancel_right}
use Rattle.std.proofs.Math.Seq.{take-append_seam, drop-append_seam}
use Rattle.std.specs.Prelude.{if◌then◌else◌}
use Rattle.std.specs.List.{list_all, list_any}
use Rattle.mv_scan.specs.declared.token.Token.{Token}
use Rattle.mv_scan.specs.declared.token.Token.TheVariants.{Plain, Quoted, Glued}
use Rattle.mv_scan.specs.declared.scan.Place.TheVariants.{Among}
use Rattle.mv_scan.specs.Words.{Scanned, scan, drop_spaces, word_len, quoted, word_at, first_word, words_within, is_comment, words_of}
use Rattle.mv_scan.specs.WordGrammar.{SpellsText, IsInner, IsSpoilt, IsUnended, IsGlued, SpellsToken, AreSpaces, EndsWord, SpellsWords, SpellsLine}
use Rattle.mv_scan.proofs.GrammarFinds.{both_true, both_false}
use Rattle.mv_scan.proofs.TextGiven.{if_true, if_false, text_scanned}
use Rattle.mv_scan.proofs.TextFound.{scan_is}
use Rattle.mv_scan.proofs.TextEnds.{closed_end, open_end}
use Rattle.mv_scan.proofs.WordSteps.{step_by, stop_by}

-- ## Words

spaces_dropped : (spaces rest : List ℕ) → AreSpaces spaces → drop_spaces (spaces ++ rest) ≡ drop_spaces rest
spaces_dropped [] rest h = refl
spaces_dropped (b ∷ spaces) rest h =
    let t = both_true (b == 32) (list_all (λ c. c == 32) spaces) h in
    if_true (b == 32) _ _ t.0 ∙ spaces_dropped spaces rest t.1

all_dropped : (spaces : List ℕ) → AreSpaces spaces → drop_spaces spaces ≡ []
all_dropped [] h = refl
all_dropped (b ∷ spaces) h =
    let t = both_true (b == 32) (list_all (λ c. c == 32) spaces) h in
    if_true (b == 32) _ _ t.0 ∙ all_dropped spaces t.1

word_length : (word rest : List ℕ) → list_any (λ b. b == 32) word ≡ false → EndsWord rest → word_len (word ++ rest) ≡ length word
word_length [] [] h e = refl
word_length [] (b ∷ rest) h e = ap (λ (k : ℕ). word_len (k ∷ rest)) e
word_length (b ∷ word) rest h e =
    let t = both_false (b == 32) (list_any (λ c. c == 32) word) h in
    if_false (b == 32) _ _ t.0 ∙ ap (λ (n : ℕ). suc n) (word_length word rest t.1 e)

plain_pair : (w x r s : List ℕ) → w ≡ x → r ≡ s → ◌≡◌ {A = Token × List ℕ} (Plain w, r) (Plain x, s)
plain_pair w x r s h k = cc

plain_first : (b : ℕ) (word rest : List ℕ) → b ≢ 34 → list_any (λ c. c == 32) (b ∷ word) ≡ false → EndsWord rest → ◌≡◌ {A = Token × List ℕ} (word_at b (word ++ rest)) (Plain (b ∷ word), rest)
plain_first b word rest q h e =
    let l : word_len (b ∷ (word ++ rest)) ≡ length (b ∷ word) = word_length (b ∷ word) rest h e in
    if_false (b == 34) _ _ (ne_eqb b 34 q)
    ∙ plain_pair _ (b ∷ word) _ rest
    (ap (λ (n : ℕ). take n (b ∷ (word ++ rest))) l ∙ take-append_seam (b ∷ word) rest)
    (ap (λ (n : ℕ). drop n (b ∷ (word ++ rest))) l ∙ drop-append_seam (b ∷ word) rest)

quoted_end : (o : Option (List ℕ)) (rest : List ℕ) → EndsWord rest → ◌≡◌ {A = Token × List ℕ} (quoted (o, rest)) (Quoted o, rest)
quoted_end o [] e = refl
quoted_end o (b ∷ rest) e = subst (λ (k : ℕ). ◌≡◌ {A = Token × List ℕ} (quoted (o, k ∷ rest)) (Quoted o, k ∷ rest)) (sym e) refl

quoted_first : (o : Option (List ℕ)) (inner rest : List ℕ) → ◌≡◌ {A = Scanned} (scan Among (inner ++ (34 ∷ rest))) (o, rest) → EndsWord rest
    → ◌≡◌ {A = Token × List ℕ} (word_at 34 ((inner ++ (34 ∷ [])) ++ rest)) (Quoted o, rest)
quoted_first o inner rest s e =
    ap (λ (k : List ℕ). quoted (scan Among k)) (append_assoc inner (34 ∷ []) rest)
    ∙ ap (λ (k : Scanned). quoted k) s
    ∙ quoted_end o rest e

-- the word stands in front of the rest
pub record Starts (token : Token) (word rest : List ℕ) : Type 0 where
  pub found : first_word (drop_spaces (word ++ rest)) ≡ Some (token, rest)
  pub some : 1 ≤ length word
  pub no_comment : ((bytes : List ℕ) → token ≢ Plain (59 ∷ bytes)) → is_comment (drop_spaces (word ++ rest)) ≡ false

plain_starts : (b : ℕ) (word rest : List ℕ) → b ≢ 34 → list_any (λ c. c == 32) (b ∷ word) ≡ false → EndsWord rest → Starts (Plain (b ∷ word)) (b ∷ word) rest
plain_starts b word rest q h e =
    let t = both_false (b == 32) (list_any (λ c. c == 32) word) h in
    let stays : drop_spaces (b ∷ (word ++ rest)) ≡ b ∷ (word ++ rest) = if_false (b == 32) _ _ t.0 in
    record {
      found = ap (λ (k : List ℕ). first_word k) stays ∙ ap (λ (k : Token × List ℕ). Some k) (plain_first b word rest q h e);
      some = omega arith;
      no_comment = λ n. ap (λ (k : List ℕ). is_comment k) stays ∙ ne_eqb b 59 (λ same. n word (ap (λ (k : ℕ). Plain (k ∷ word)) same));
    }

-- a word that begins with a quote
quote_starts : (token : Token) (word rest : List ℕ) → ◌≡◌ {A = Token × List ℕ} (word_at 34 (word ++ rest)) (token, rest) → Starts token (34 ∷ word) rest
quote_starts token word rest h = record { found = ap (λ (k : Token × List ℕ). Some k) h; some = omega arith; no_comment = λ n. refl }

none_of : (o : Option (List ℕ)) → ((text : List ℕ) → o ≡ Some text → ⊥) → o ≡ None
none_of None h = refl
none_of (Some text) h = absurd (h text refl)

scanned_by : (s : Scanned) (o : Option (List ℕ)) (rest : List ℕ) → s.0 ≡ o → s.1 ≡ rest → ◌≡◌ {A = Scanned} s (o, rest)
scanned_by (p, more) o rest h k = cc

spoilt_scanned : (inner rest : List ℕ) → IsInner inner → ((text : List ℕ) → SpellsText text inner → ⊥) → ◌≡◌ {A = Scanned} (scan Among (inner ++ (34 ∷ rest))) (None, rest)
spoilt_scanned inner rest h none =
    let s = scan Among (inner ++ (34 ∷ rest)) in
    let end : s.1 ≡ rest = closed_end inner rest h in
    scanned_by s None rest
    (none_of s.0
    (λ text e.
    let t = scan_is (inner ++ (34 ∷ rest)) Among text e in
    let same : inner ≡ t.0 = append_cancel_right inner t.0 (34 ∷ rest) (t.1 ∙ ap (λ (k : List ℕ). t.0 ++ (34 ∷ k)) end) in
    none text (subst (λ (k : List ℕ). SpellsText text k) (sym same) t.2)))
    end

spoilt_starts : (word rest : List ℕ) → IsSpoilt word rest → Starts (Quoted None) word rest
spoilt_starts word rest s =
    subst (λ (k : List ℕ). Starts (Quoted None) k rest) (sym s.written)
    (quote_starts (Quoted None) (s.inner ++ (34 ∷ [])) rest (quoted_first None s.inner rest (spoilt_scanned s.inner rest s.inside s.no_text) s.ends))

unended_starts : (word rest : List ℕ) → IsUnended word rest → Starts (Quoted None) word rest
unended_starts word rest s =
    let e : ◌≡◌ {A = Token × List ℕ} (word_at 34 (s.inner ++ [])) (Quoted None, []) =
    ap (λ (k : List ℕ). quoted (scan Among k)) (append-nil s.inner) ∙ ap (λ (k : Scanned). quoted k) (open_end s.inner s.inside) in
    subst (λ (k : List ℕ). Starts (Quoted None) word k) (sym s.last)
    (subst (λ (k : List ℕ). Starts (Quoted None) k []) (sym s.written) (quote_starts (Quoted None) s.inner [] e))

glued_pair : (n m : ℕ) (o : Option (List ℕ)) (more rest : List ℕ) → n ≡ suc m → drop (suc m) more ≡ rest
    → ◌≡◌ {A = Token × List ℕ} (if n == 0 then (Quoted o, more) else (Glued, drop n more)) (Glued, rest)
glued_pair n m o more rest h k =
    if_false (n == 0) _ _ (ne_eqb n 0 (λ z. let e : suc m ≡ 0 = sym h ∙ z in cc))
    ∙ ap (λ (d : List ℕ). let t : Token × List ℕ = (Glued, d) in t) (ap (λ (i : ℕ). drop i more) h ∙ k)

-- bytes behind a text
glued_quoted : (s : Scanned) (first : ℕ) (others rest : List ℕ) → s.1 ≡ (first ∷ others) ++ rest → list_any (λ c. c == 32) (first ∷ others) ≡ false → EndsWord rest
    → ◌≡◌ {A = Token × List ℕ} (quoted s) (Glued, rest)
glued_quoted s first others rest h free e =
    let n : word_len s.1 ≡ suc (length others) = ap (λ (k : List ℕ). word_len k) h ∙ word_length (first ∷ others) rest free e in
    glued_pair (word_len s.1) (length others) s.0 s.1 rest n
    (ap (λ (k : List ℕ). drop (suc (length others)) k) h ∙ drop-append_seam (first ∷ others) rest)

glued_starts : (word rest : List ℕ) → IsGlued word rest → Starts Glued word rest
glued_starts word rest s =
    let e : ◌≡◌ {A = Token × List ℕ} (word_at 34 ((s.inner ++ (34 ∷ s.first ∷ s.others)) ++ rest)) (Glued, rest) =
    ap (λ (k : List ℕ). quoted (scan Among k)) (append_assoc s.inner (34 ∷ s.first ∷ s.others) rest)
    ∙ glued_quoted (scan Among (s.inner ++ (34 ∷ (s.first ∷ (s.others ++ rest))))) s.first s.others rest
    (closed_end s.inner (s.first ∷ (s.others ++ rest)) s.inside) s.no_space s.ends in
    subst (λ (k : List ℕ). Starts Glued k rest) (sym s.written) (quote_starts Glued (s.inner ++ (34 ∷ s.first ∷ s.others)) rest e)

pub starts : (token : Token) (word rest : List ℕ) → SpellsToken token word rest → Starts token word rest
starts (Plain []) word rest s = absurd s.1
starts (Plain (b ∷ bytes)) word rest s =
    subst (λ (k : List ℕ). Starts (Plain (b ∷ bytes)) k rest) (sym s.0) (plain_starts b bytes rest s.1.0 s.1.1 s.2)
starts (Quoted (Some text)) word rest s =
    subst (λ (k : List ℕ). Starts (Quoted (Some text)) k rest) (sym s.1)
    (quote_starts (Quoted (Some text)) (s.0 ++ (34 ∷ [])) rest (quoted_first (Some text) s.0 rest (text_scanned text s.0 rest s.2) s.3))
starts (Quoted None) word rest (inl s) = spoilt_starts word rest s
starts (Quoted None) word rest (inr s) = unended_starts word rest s
starts Glued word rest s = glued_starts word rest s

-- ## Lines

pub words_given : (tokens : List Token) (n : ℕ) (bytes : List ℕ) → length bytes ≤ n → SpellsWords tokens bytes → words_within n bytes ≡ tokens
words_given [] n bytes few s = stop_by n bytes (ap (λ (k : List ℕ). first_word k) (all_dropped bytes s))
words_given (token ∷ tokens) zero bytes few s =
    let t = starts token s.1 s.2 s.5 in
    let some : 1 ≤ length s.1 = t.some in
    let size : length bytes ≡ length s.0 + (length s.1 + length s.2) = ap (λ (k : List ℕ). length k) s.3 ∙ length-append s.0 (s.1 ++ s.2) ∙ ap (λ (k : ℕ). length s.0 + k) (length-append s.1 s.2) in
    absurd (omega arith)
words_given (token ∷ tokens) (suc n) bytes few s =
    let t = starts token s.1 s.2 s.5 in
    let some : 1 ≤ length s.1 = t.some in
    let size : length bytes ≡ length s.0 + (length s.1 + length s.2) = ap (λ (k : List ℕ). length k) s.3 ∙ length-append s.0 (s.1 ++ s.2) ∙ ap (λ (k : ℕ). length s.0 + k) (length-append s.1 s.2) in
    step_by n bytes (token, s.2) (ap (λ (k : List ℕ). first_word (drop_spaces k)) s.3 ∙ ap (λ (k : List ℕ). first_word k) (spaces_dropped s.0 (s.1 ++ s.2) s.4) ∙ t.found)
    ∙ ap (λ (k : List Token). token ∷ k) (words_given tokens n s.2 (omega arith) s.6)

-- where a word begins behind the spaces
front_dropped : (line spaces rest : List ℕ) → line ≡ spaces ++ rest → AreSpaces spaces → drop_spaces line ≡ drop_spaces rest
front_dropped line spaces rest e all = ap (λ (k : List ℕ). drop_spaces k) e ∙ spaces_dropped spaces rest all

pub is_comment_line : (line spaces rest : List ℕ) → line ≡ spaces ++ (59 ∷ rest) → AreSpaces spaces → is_comment (drop_spaces line) ≡ true
is_comment_line line spaces rest e all = ap (λ (k : List ℕ). is_comment k) (front_dropped line spaces (59 ∷ rest) e all)

pub line_given : (words : List Token) (line : List ℕ) → SpellsLine words line → words_of line ≡ words
line_given [] line (inl s) =
    if_false (is_comment (drop_spaces line)) _ _ (ap (λ (k : List ℕ). is_comment k) (all_dropped line s)) ∙ words_given [] (length line) line (omega arith) s
line_given [] line (inr s) = if_true (is_comment (drop_spaces line)) _ _ (is_comment_line line s.0 s.1 s.2 s.3)
line_given (token ∷ tokens) line s =
    let t = starts token s.1.1 s.1.2 s.1.5 in
    if_false (is_comment (drop_spaces line)) _ _ (ap (λ (k : List ℕ). is_comment k) (front_dropped line s.1.0 (s.1.1 ++ s.1.2) s.1.3 s.1.4) ∙ t.no_comment s.0)
    ∙ words_given (token ∷ tokens) (length line) line (omega arith) s.1
