-- The text that bytes spell is found.
use Rattle.std.proofs.Common.{◌≡◌, ◌≢◌, inl, inr, ℕ, ◌&&◌, ◌==◌, Bool, true, false, List, [], ◌∷◌, ◌++◌, refl, ap, sym, ◌∙◌, subst, append_assoc, Option, Some, ne_eqb, le-leb}
use Rattle.std.specs.Prelude.{if◌then◌else◌, nat_le}
use Rattle.mv_scan.specs.declared.scan.Place.TheVariants.{Among, Backslash}
use Rattle.mv_scan.specs.declared.scan.Effect.{Effect}
use Rattle.mv_scan.specs.declared.scan.Effect.TheVariants.{Gives}
use Rattle.mv_scan.specs.Words.{escaped, given_by, high_digit, low_digit, Scanned, with_byte, step_of, scan_on, scan}
use Rattle.mv_scan.specs.WordGrammar.{IsItself, SpellsByte, SpellsText}

-- ## Tests

pub if_true : {A : Type 0} (b : Bool) (x y : A) → b ≡ true → (if b then x else y) ≡ x
if_true true x y h = refl
if_true false x y h = cc

pub if_false : {A : Type 0} (b : Bool) (x y : A) → b ≡ false → (if b then x else y) ≡ y
if_false true x y h = cc
if_false false x y h = refl

-- ## Texts

itself_steps : (byte : ℕ) (bytes : List ℕ) → IsItself byte bytes → step_of Among byte ≡ Gives byte
itself_steps byte bytes s =
    let low : nat_le 32 byte ≡ true = le-leb 32 byte s.from in
    let high : nat_le byte 126 ≡ true = le-leb byte 126 s.to in
    if_false (byte == 34) _ _ (ne_eqb byte 34 s.no_quote)
    ∙ if_false (byte == 92) _ _ (ne_eqb byte 92 s.no_backslash)
    ∙ if_true (nat_le 32 byte && nat_le byte 126) _ _ (ap (λ (b : Bool). b && nat_le byte 126) low ∙ high)

is_no_x : (letter byte : ℕ) → escaped letter ≡ Some byte → letter ≢ 120
is_no_x letter byte h e = let k : escaped 120 ≡ Some byte = subst (λ (c : ℕ). escaped c ≡ Some byte) e h in cc

escape_steps : (letter byte : ℕ) → escaped letter ≡ Some byte → step_of Backslash letter ≡ Gives byte
escape_steps letter byte h = if_false (letter == 120) _ _ (ne_eqb letter 120 (is_no_x letter byte h)) ∙ ap (λ (o : Option ℕ). given_by o) h

byte_scanned : (byte : ℕ) (first rest : List ℕ) → SpellsByte byte first → scan Among (first ++ rest) ≡ with_byte byte (scan Among rest)
byte_scanned byte first rest (inl s) =
    ap (λ (k : List ℕ). scan Among (k ++ rest)) s.written
    ∙ ap (λ (e : Effect). scan_on e rest (λ next. scan next rest)) (itself_steps byte first s)
byte_scanned byte first rest (inr (inl s)) =
    ap (λ (k : List ℕ). scan Among (k ++ rest)) s.written
    ∙ ap (λ (e : Effect). scan_on e rest (λ next. scan next rest)) (escape_steps s.letter byte s.value)
byte_scanned byte first rest (inr (inr s)) =
    ap (λ (k : List ℕ). scan Among (k ++ rest)) s.written
    ∙ ap (λ (o : Option ℕ). scan_on (high_digit o s.first) (s.second ∷ rest) (λ next. scan next (s.second ∷ rest))) s.first_value
    ∙ ap (λ (o : Option ℕ). scan_on (low_digit s.high o s.second) rest (λ next. scan next rest)) s.second_value
    ∙ ap (λ (k : ℕ). with_byte k (scan Among rest)) (sym s.value)

pub text_scanned : (text bytes rest : List ℕ) → SpellsText text bytes → ◌≡◌ {A = Scanned} (scan Among (bytes ++ (34 ∷ rest))) (Some text, rest)
text_scanned [] bytes rest s = ap (λ (k : List ℕ). scan Among (k ++ (34 ∷ rest))) s
text_scanned (byte ∷ text) bytes rest s =
    ap (λ (k : List ℕ). scan Among (k ++ (34 ∷ rest))) s.2
    ∙ ap (λ (k : List ℕ). scan Among k) (append_assoc s.0 s.1 (34 ∷ rest))
    ∙ byte_scanned byte s.0 (s.1 ++ (34 ∷ rest)) s.3
    ∙ ap (λ (k : Scanned). with_byte byte k) (text_scanned text s.1 rest s.4)
