-- What the words of a line are read as is what they spell.
use Rattle.std.proofs.Common.{◌≡◌, ℕ, List, [], ◌∷◌, ◌++◌, length, Option, Some, None, Result, Ok, Err, IfOk, ◌↔◌, refl, sym, ap, subst, ◌∙◌}
use Rattle.std.proofs.lemmas.Bool.{eqb-true}
use Rattle.std.proofs.lemmas.List.{append-nil, nil_from_length}
use Rattle.mv_calls.specs.declared.fault.OutOfMemory.{OutOfMemory}
use Rattle.mv_scan.specs.declared.token.Token.{Token}
use Rattle.mv_scan.specs.declared.token.Token.TheVariants.{Plain, Quoted, Glued}
use Rattle.mv_statements.specs.declared.head.Head.{Head}
use Rattle.mv_statements.specs.declared.statement.Statement.{Statement}
use Rattle.mv_statements.specs.declared.statement.Reading.{Reading}
use Rattle.mv_statements.specs.declared.statement.Reading.TheVariants.{Known}
use Rattle.mv_statements.specs.Form.{At, clean}
use Rattle.mv_statements.specs.Forms.{last}
use Rattle.mv_statements.specs.Statements.{Spells, statement, head_word, head_named, known, read_behind, reading_of}
use Rattle.mv_statements.proofs.Named.{head_is}
use Rattle.mv_statements.proofs.FoundNames.{blank_head, head_found, statement_same}

-- nothing stands behind a statement
nothing_behind : (head : Head) (s : Statement) (words more : List Token) → (statement head).spells s words more → more ≡ []
unfolding statement last
nothing_behind head s words more h =
    let l = h.back_spells in
    let none : l.first ≡ 0 = eqb-true l.first 0 l.back_spells.2 in
    let count : length more ≡ 0 = sym (ap (λ (b : List Token). length (b ++ more)) l.back_spells.0) ∙ sym l.front_spells.1 ∙ none in
    nil_from_length more count

known_value : (r : Statement × At) (s : Statement) → known r ≡ Known s None → (r.0 ≡ s) × (r.1.fault ≡ None)
known_value r s e = (cc, cc)

behind_spells : (word : List ℕ) (rest : List Token) (s : Statement) (o : Option Head) → head_named word ≡ o → read_behind o rest ≡ Known s None → Spells s (Plain word ∷ rest)
behind_spells word rest s None is e = absurd cc
behind_spells word rest s (Some head) is e =
    let r = (statement head).reads (clean rest) in
    let k = known_value r s e in
    let named = head_is word head is in
    let same : r ≡ (s, r.1) = ap (λ (x : Statement). (x, r.1)) k.0 in
    let t = (statement head).sound (clean rest) s r.1 same k.1 in
    let end = nothing_behind head s t.words r.1.rest t.spelled in
    let all : rest ≡ t.words = t.parts ∙ ap (λ (x : List Token). t.words ++ x) end ∙ append-nil t.words in
    record {
      head = head;
      good = named.1;
      rest = rest;
      written = ap (λ (w : List ℕ). Plain w ∷ rest) (sym named.0);
      form = subst (λ (x : List Token). (statement head).spells s x []) (sym all) (subst (λ (x : List Token). (statement head).spells s t.words x) end t.spelled);
    }

pub reading_spells : (words : List Token) (s : Statement) → reading_of words ≡ Known s None → Spells s words
reading_spells [] s e = absurd cc
reading_spells (Plain word ∷ rest) s e = behind_spells word rest s (head_named word) refl e
reading_spells (Quoted text ∷ rest) s e = absurd cc
reading_spells (Glued ∷ rest) s e = absurd cc

pub spells_reading : (words : List Token) (s : Statement) → Spells s words → reading_of words ≡ Known s None
spells_reading words s h =
    let found : head_named (head_word h.head) ≡ Some (blank_head h.head) = head_found h.head h.good in
    let read : (statement h.head).reads (clean (h.rest ++ [])) ≡ (s, clean []) = (statement h.head).complete s h.rest [] h.form in
    let whole : (statement h.head).reads (clean h.rest) ≡ (s, clean []) = ap (λ (x : List Token). (statement h.head).reads (clean x)) (sym (append-nil h.rest)) ∙ read in
    let same : (statement (blank_head h.head)).reads (clean h.rest) ≡ (s, clean []) = statement_same h.head (clean h.rest) ∙ whole in
    ap reading_of h.written ∙ ap (λ (o : Option Head). read_behind o h.rest) found ∙ ap known same

pub if_spelled : (words : List Token) (r : Result Reading OutOfMemory) → IfOk r (λ reading. reading ≡ reading_of words) → IfOk r (λ reading. (s : Statement) → Spells s words ↔ (reading ≡ Known s None))
if_spelled words (Ok reading) h = λ s. (λ (p : Spells s words). h ∙ spells_reading words s p, λ (e : reading ≡ Known s None). reading_spells words s (sym h ∙ e))
if_spelled words (Err e) h = h
