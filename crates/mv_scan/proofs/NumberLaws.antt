-- The numbers that are found are those that their words spell.
use Rattle.std.proofs.Common.{◌≡◌, ℕ, ◌<◌, Bool, true, false, List, ◌∷◌, refl, arith, Some, None}
use Rattle.std.proofs.lemmas.Bool.Decides.{nat_tests}
use Rattle.std.specs.Prelude.{nat_le, if◌then◌else◌, ◌==◌}
use Rattle.std.specs.List.{list_all}
use Rattle.mv_scan.specs.declared.token.Token.{Token}
use Rattle.mv_scan.specs.declared.token.Token.TheVariants.{Plain, Quoted, Glued}
use Rattle.mv_scan.specs.declared.found.Found.TheVariants.{Is}
use Rattle.mv_scan.specs.Numbers.{is_digit, decimal, decimal_from, number_of}
use Rattle.mv_scan.specs.WordGrammar.{SpellsNumber}
use Rattle.mv_scan.proofs.GrammarFinds.{both_true, range_is, range_of}

pub number_is : (low high n : ℕ) (token : Token) → number_of low high token ≡ Is n → SpellsNumber low high n token
number_is low high n (Plain word) is =
    let t = range_is low high n (decimal word) is in
    record { digits = word; written = refl; value = t.0; from = t.1.0; to = t.1.1 }
number_is low high n (Quoted text) is = cc
number_is low high n Glued is = cc

pub number_found : (low high n : ℕ) (token : Token) → SpellsNumber low high n token → number_of low high token ≡ Is n
number_found low high n token s = rw s.written (range_of low high n (decimal s.digits) s.value s.from s.to)

some_by : (b : Bool) (m n : ℕ) → (if b then Some m else None) ≡ Some n → b ≡ true
some_by true m n h = refl
some_by false m n h = cc

pub first_digit : (b n : ℕ) (bytes : List ℕ) → decimal (b ∷ bytes) ≡ Some n → is_digit b ≡ true
first_digit b n bytes h =
    let all : list_all is_digit (b ∷ bytes) ≡ true = some_by (list_all is_digit (b ∷ bytes)) (decimal_from 0 (b ∷ bytes)) n h in
    (both_true (is_digit b) (list_all is_digit bytes) all).0

pub below_digits : (b c : ℕ) → is_digit b ≡ true → c < 48 → (b == c) ≡ false
below_digits b c h lt = let t = both_true (nat_le 48 b) (nat_le b 57) h in grind (arith, nat_tests, t.0, t.1)

pub above_digits : (b c : ℕ) → is_digit b ≡ true → 57 < c → (b == c) ≡ false
above_digits b c h lt = let t = both_true (nat_le 48 b) (nat_le b 57) h in grind (arith, nat_tests, t.0, t.1)
