-- The word that is looked for.
use Rattle.std.proofs.Common.{◌≡◌, ℕ, true, List, [], ◌∷◌, ap, refl}
use Rattle.std.proofs.lemmas.Slice.Eq.{bytes_eq-Decides}
use Rattle.mv_scan.specs.declared.token.Token.{Token}
use Rattle.mv_scan.specs.declared.token.Token.TheVariants.{Plain, Quoted, Glued}
use Rattle.mv_scan.specs.Words.{is_word, is_lone_word}

pub is_word_is : (word : List ℕ) (token : Token) → is_word word token ≡ true → token ≡ Plain word
is_word_is word (Plain bytes) h = ap (λ (k : List ℕ). Plain k) ((bytes_eq-Decides bytes word).0 h)
is_word_is word (Quoted text) h = cc
is_word_is word Glued h = cc

pub word_is_found : (word : List ℕ) (token : Token) → token ≡ Plain word → is_word word token ≡ true
word_is_found word token e = rw e ((bytes_eq-Decides word word).1 refl)

pub lone_is : (word : List ℕ) (tokens : List Token) → is_lone_word word tokens ≡ true → tokens ≡ Plain word ∷ []
lone_is word [] h = cc
lone_is word (token ∷ []) h = ap (λ (t : Token). t ∷ []) (is_word_is word token h)
lone_is word (token ∷ other ∷ tokens) h = cc
