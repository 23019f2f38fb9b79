-- Words, one after another.
use Rattle.std.proofs.Common.{◌≡◌, ℕ, zero, suc, ◌+◌, ◌-◌, ◌<◌, ◌++◌, List, [], ◌∷◌, refl, ap, ◌∙◌, sym, append_assoc, arith, Some, None}
use Rattle.std.proofs.lemmas.List.{append-nil}
use Rattle.mv_scan.specs.declared.token.Token.{Token}
use Rattle.mv_scan.specs.Words.{drop_spaces, first_word, words_within}

pub step_by : (n : ℕ) (rest : List ℕ) (t : Token × List ℕ) → first_word (drop_spaces rest) ≡ Some t → words_within (suc n) rest ≡ t.0 ∷ words_within n t.1
step_by n rest t found = rw found refl

-- one more word
pub words_step : (size counter : ℕ) (rest : List ℕ) (t : Token × List ℕ) (words all : List Token)
    → counter < size → first_word (drop_spaces rest) ≡ Some t
    → words ++ words_within (size - counter) rest ≡ all
    → (words ++ t.0 ∷ []) ++ words_within (size - (counter + 1)) t.1 ≡ all
words_step size counter rest t words all lt found h =
    let n : size - counter ≡ suc (size - (counter + 1)) = omega arith in
    append_assoc words (t.0 ∷ []) (words_within (size - (counter + 1)) t.1)
    ∙ ap (λ (k : List Token). words ++ k) (sym (ap (λ (k : ℕ). words_within k rest) n ∙ step_by (size - (counter + 1)) rest t found))
    ∙ h

pub stop_by : (n : ℕ) (rest : List ℕ) → first_word (drop_spaces rest) ≡ None → words_within n rest ≡ []
stop_by zero rest none = refl
stop_by (suc n) rest none = rw none refl

-- no more words
pub words_stop : (n : ℕ) (rest : List ℕ) (words all : List Token) → first_word (drop_spaces rest) ≡ None → words ++ words_within n rest ≡ all → words ≡ all
words_stop n rest words all none h = sym (append-nil words) ∙ ap (λ (k : List Token). words ++ k) (sym (stop_by n rest none)) ∙ h
