-- The events of a poll, as they are added one after another.
use Rattle.std.specs.Prelude.{◌≡◌, ℕ, ◌+◌, ◌<◌, ◌≤◌, ◌++◌, Bool, true, false, ◌&&◌, nat_lt, List, [], ◌∷◌, refl}
use Rattle.std.proofs.Common.{arith}
use Rattle.std.proofs.lemmas.Bool.Decides.{nat_tests}
use Rattle.mv_calls.specs.Suits.{are_rising, are_below}
use Rattle.mv_calls.specs.declared.happenings.Happened.{Happened}

first_of_two : (a b : Bool) → a && b ≡ true → a ≡ true
first_of_two true b h = refl
first_of_two false b h = absurd (let bad : false ≡ true = h in cc)

second_of_two : (a b : Bool) → a && b ≡ true → b ≡ true
second_of_two true b h = h
second_of_two false b h = absurd (let bad : false ≡ true = h in cc)

both : (a b : Bool) → a ≡ true → b ≡ true → a && b ≡ true
both true true h k = refl
both true false h k = k
both false b h k = h

below_from_test : (a b : ℕ) → nat_lt a b ≡ true → a < b
below_from_test a b h = grind (arith, nat_tests)

test_from_below : (a b : ℕ) → a < b → nat_lt a b ≡ true
test_from_below a b h = grind (arith, nat_tests)

-- what is below a count is below each greater one
pub below_more : (few many : ℕ) (events : List Happened) → few ≤ many → are_below few events ≡ true → are_below many events ≡ true
below_more few many [] more below = refl
below_more few many (first ∷ rest) more below =
    let head : first.sub < few = below_from_test first.sub few (first_of_two (nat_lt first.sub few) (are_below few rest) below) in
    both (nat_lt first.sub many) (are_below many rest) (test_from_below first.sub many (omega arith))
    (below_more few many rest more (second_of_two (nat_lt first.sub few) (are_below few rest) below))

-- after the event of the next subscription all are below the count that includes it
pub below_push : (count : ℕ) (events : List Happened) (last : Happened) → last.sub ≡ count → are_below count events ≡ true → are_below (count + 1) (events ++ last ∷ []) ≡ true
below_push count [] last is below = both (nat_lt last.sub (count + 1)) true (test_from_below last.sub (count + 1) (omega arith)) refl
below_push count (first ∷ rest) last is below =
    let head : first.sub < count = below_from_test first.sub count (first_of_two (nat_lt first.sub count) (are_below count rest) below) in
    both (nat_lt first.sub (count + 1)) (are_below (count + 1) (rest ++ last ∷ [])) (test_from_below first.sub (count + 1) (omega arith))
    (below_push count rest last is (second_of_two (nat_lt first.sub count) (are_below count rest) below))

-- events stay in order where that of the next subscription comes behind them
pub rising_push : (count : ℕ) (events : List Happened) (last : Happened) → last.sub ≡ count → are_rising events ≡ true → are_below count events ≡ true → are_rising (events ++ last ∷ []) ≡ true
rising_push count [] last is rising below = refl
rising_push count (first ∷ []) last is rising below =
    let head : first.sub < count = below_from_test first.sub count (first_of_two (nat_lt first.sub count) true below) in
    both (nat_lt first.sub last.sub) true (test_from_below first.sub last.sub (omega arith)) refl
rising_push count (first ∷ second ∷ rest) last is rising below =
    both (nat_lt first.sub second.sub) (are_rising ((second ∷ rest) ++ last ∷ [])) (first_of_two (nat_lt first.sub second.sub) (are_rising (second ∷ rest)) rising)
    (rising_push count (second ∷ rest) last is (second_of_two (nat_lt first.sub second.sub) (are_rising (second ∷ rest)) rising) (second_of_two (nat_lt first.sub count) (are_below count (second ∷ rest)) below))
