-- A reply that suits has place in what is made for its call.
use Rattle.std.specs.Prelude.{◌≡◌, ℕ, ◌+◌, ◌<◌, ◌≤◌, Bool, true, false, ◌&&◌, nat_lt, List, [], ◌∷◌, length, drop, IsTrue, refl}
use Rattle.std.proofs.Common.{arith}
use Rattle.std.proofs.lemmas.Bool.Decides.{nat_tests}
use Rattle.std.proofs.lemmas.List.{length-drop}
use Rattle.mv_calls.specs.Places.{Holds, places_of, places_in}
use Rattle.mv_calls.specs.Suits.{suits_of, are_rising, are_below}
use Rattle.mv_calls.specs.declared.happenings.Happened.{Happened}
use Rattle.mv_calls.specs.declared.calls.Call.{Call}
use Rattle.mv_calls.specs.declared.calls.Call.TheVariants.{Random, Read, Poll}
use Rattle.mv_calls.specs.declared.calls.Reply.{Reply}
use Rattle.mv_calls.specs.declared.calls.Reply.TheVariants.{Errno, Done, Bytes, Count, Fd, Time, Stat, Ready}

first_of_two : (a b : Bool) → a && b ≡ true → a ≡ true
first_of_two true b h = refl
first_of_two false b h = absurd (let bad : false ≡ true = h in cc)

second_of_two : (a b : Bool) → a && b ≡ true → b ≡ true
second_of_two true b h = h
second_of_two false b h = absurd (let bad : false ≡ true = h in cc)

below_from_test : (a b : ℕ) → nat_lt a b ≡ true → a < b
below_from_test a b h = grind (arith, nat_tests)

-- from the first event's subscription on there is a subscription for each event
rising_fits : (count : ℕ) (first : Happened) (rest : List Happened) →
    are_rising (first ∷ rest) ≡ true → are_below count (first ∷ rest) ≡ true → first.sub + length (first ∷ rest) ≤ count
rising_fits count first [] rising below =
    let least : first.sub < count = below_from_test first.sub count (first_of_two (nat_lt first.sub count) true below) in omega arith
rising_fits count first (second ∷ rest) rising below =
    let later : second.sub + length (second ∷ rest) ≤ count = rising_fits count second rest (second_of_two (nat_lt first.sub second.sub) (are_rising (second ∷ rest)) rising) (second_of_two (nat_lt first.sub count) (are_below count (second ∷ rest)) below) in
    let rises : first.sub < second.sub = below_from_test first.sub second.sub (first_of_two (nat_lt first.sub second.sub) (are_rising (second ∷ rest)) rising) in
    omega arith

-- no more events than subscriptions
pub rising_length : (count : ℕ) (happenings : List Happened) → are_rising happenings ≡ true → are_below count happenings ≡ true → length happenings ≤ count
rising_length count [] rising below = omega arith
rising_length count (first ∷ rest) rising below = let fits : first.sub + length (first ∷ rest) ≤ count = rising_fits count first rest rising below in omega arith

-- a place for neither is large enough for none, whatever the call
none_held : (call : Call) → Holds (places_of call) (record { bytes = 0; events = 0 })
none_held call = record { enough_bytes = omega arith; enough_events = omega arith }

-- what a reply to the call takes at most is large enough for a reply that suits
pub suits_room : (call : Call) (reply : Reply) → IsTrue (suits_of call reply) → Holds (places_of call) (places_in reply)
suits_room call (Errno errno) h = none_held call
suits_room (Random len) (Bytes bytes) h = record { enough_bytes = grind (arith, nat_tests); enough_events = omega arith }
suits_room (Read fd cap) (Bytes bytes) h = record { enough_bytes = grind (arith, nat_tests); enough_events = omega arith }
suits_room (Poll subs) (Ready happenings) h = record {
  enough_bytes = omega arith;
  enough_events = rising_length (length subs) happenings (first_of_two (are_rising happenings) (are_below (length subs) happenings) h) (second_of_two (are_rising happenings) (are_below (length subs) happenings) h);
}
suits_room call Done h = none_held call
suits_room call (Count count) h = none_held call
suits_room call (Fd fd) h = none_held call
suits_room call (Time time) h = none_held call
suits_room call (Stat filetype flags rights heirs) h = none_held call
suits_room call (Bytes bytes) h = absurd (let bad : false ≡ true = h in cc)
suits_room call (Ready happenings) h = absurd (let bad : false ≡ true = h in cc)

short_rising : (happenings : List Happened) → length happenings ≤ 1 → are_rising happenings ≡ true
short_rising [] h = refl
short_rising (first ∷ []) h = refl
short_rising (first ∷ second ∷ rest) h = absurd (omega arith)

-- the last event, or none, is in order
pub last_rising : (happenings : List Happened) (i : ℕ) → length happenings ≤ i + 1 → are_rising (drop i happenings) ≡ true
last_rising happenings i h = short_rising (drop i happenings) (omega (arith, length-drop i happenings))
