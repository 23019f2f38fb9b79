-- What the scripted kernel answers suits the call.
use Rattle.std.specs.Prelude.{◌≡◌, ℕ, ◌+◌, ◌^◌, ◌<◌, ◌≤◌, Bool, true, false, ◌&&◌, ◌||◌, ◌==◌, nat_lt, nat_le, List, [], ◌∷◌, length, Option, Some, None, if◌then◌else◌, IsTrue, refl}
use Rattle.std.proofs.Common.{arith, ap, sym, subst, ◌∙◌}
use Rattle.std.specs.List.{filter_map, enumerate_from, cons_option}
use Rattle.std.specs.Option.{option_map_or}
use Rattle.std.proofs.lemmas.Bool.Decides.{nat_tests, Decides-eqb}
use Rattle.std.proofs.lemmas.List.{length-take}
use Rattle.std.proofs.lemmas.List.FromFn.{length-map-range_with_len}
use Rattle.mv_calls.specs.Places.{Places, Holds, places_of, places_in}
use Rattle.mv_calls.specs.Suits.{suits_of, are_rising, are_below}
use Rattle.mv_calls.proofs.RoomLaws.{suits_room}
use Rattle.mv_calls.specs.declared.happenings.Happened.{Happened}
use Rattle.mv_calls.specs.declared.subs.Sub.{Sub}
use Rattle.mv_calls.specs.declared.subs.Sub.TheVariants as sub
use Rattle.mv_calls.specs.declared.calls.Call.{Call}
use Rattle.mv_calls.specs.declared.calls.Call.TheVariants as call
use Rattle.mv_calls.specs.declared.calls.Reply.{Reply}
use Rattle.mv_calls.specs.declared.calls.Reply.TheVariants.{Errno, Done, Bytes, Count, Fd, Ready}
use Rattle.mv_kernmem.specs.declared.mem_kernel.Saved.{Saved}
use Rattle.mv_kernmem.specs.States.{ScriptState, Connection, again, badf, listener, first_fd, connection_at, is_connection, is_output, is_known, waits}
use Rattle.mv_kernmem.specs.Replies.{reply_of, at_connection, first_bytes, read_of, count_of, stat_of, random_at, random_bytes}
use Rattle.mv_kernmem.specs.Polls.{can_read, can_write, happened, event_at, event_of, told_event, events_of}

-- what holds of both choices holds of the choice
either : {A : Type 0} (P : A → Type 0) (b : Bool) (x y : A) → P x → P y → P (if b then x else y)
either P true x y p q = p
either P false x y p q = q

-- what a connection answers suits, if each connection's answer does
suits_at : (asked : Call) (s : ScriptState) (fd : ℕ) (reply : Connection → Reply) → ((c : Connection) → IsTrue (suits_of asked (reply c))) →
    IsTrue (suits_of asked (at_connection s fd reply))
suits_at asked s fd reply all = of_found (connection_at s fd)
  where
    of_found : (found : Option Connection) → IsTrue (suits_of asked (option_map_or reply found (Errno badf)))
    of_found None = refl
    of_found (Some c) = all c

no_bytes : (fd cap : ℕ) → IsTrue (suits_of (call.Read fd cap) (Bytes []))
no_bytes fd cap = grind (arith, nat_tests)

first_suits : (fd cap : ℕ) (pieces : List (List ℕ)) (ends : Bool) → IsTrue (suits_of (call.Read fd cap) (first_bytes cap pieces ends))
first_suits fd cap [] ends = either (λ r. IsTrue (suits_of (call.Read fd cap) r)) ends (Bytes []) (Errno again) (no_bytes fd cap) refl
first_suits fd cap (piece ∷ rest) ends = let short = length-take cap piece in grind (arith, nat_tests)

read_suits : (fd cap : ℕ) (c : Connection) → IsTrue (suits_of (call.Read fd cap) (read_of cap c))
read_suits fd cap c = either (λ r. IsTrue (suits_of (call.Read fd cap) r)) (cap == 0) (Bytes []) (first_bytes cap c.pieces c.ends) (no_bytes fd cap) (first_suits fd cap c.pieces c.ends)

count_suits : (fd : ℕ) (bytes : List ℕ) → IsTrue (suits_of (call.Write fd bytes) (Count (count_of bytes)))
count_suits fd bytes = grind (arith, nat_tests)

random_suits : (random : List ℕ) (place len : ℕ) → IsTrue (suits_of (call.Random len) (Bytes (random_bytes random place len)))
random_suits random place len =
    (Decides-eqb (length (random_bytes random place len)) len).1 (length-map-range_with_len (λ k. random_at random (place + k)) 0 len)

-- the event, if there is one, is of this subscription
abbrev HasNumber : ℕ → Option Happened → Type 0
HasNumber number None = Unit {0}
HasNumber number (Some event) = event.sub ≡ number

at_number : (s : ScriptState) (number fd : ℕ) (ready : Bool) (nbytes : ℕ) → HasNumber number (event_at s number fd ready nbytes)
at_number s number fd ready nbytes =
    either (HasNumber number) (is_known s fd) (if ready then Some (happened number 0 nbytes) else None) (Some (happened number badf 0))
    (either (HasNumber number) ready (Some (happened number 0 nbytes)) None refl tt) refl

event_number : (s : ScriptState) (number : ℕ) (asked : Sub) → HasNumber number (event_of s number asked)
event_number s number (sub.Clock id timeout flags) = refl
event_number s number (sub.Read fd) = at_number s number fd (can_read s fd) 1
event_number s number (sub.Write fd) = at_number s number fd (can_write s fd) 0

told_number : (s : ScriptState) (number : ℕ) (asked : Sub) → HasNumber number (told_event s (number, asked))
told_number s number asked = either (HasNumber number) (nat_lt number (2 ^ 32)) (event_of s number asked) None (event_number s number asked) tt

-- the events are of rising subscriptions, from this one on
abbrev rises_from : ℕ → List Happened → Bool
rises_from first [] = true
rises_from first (event ∷ rest) = nat_le first event.sub && rises_from (event.sub + 1) rest

first_of_two : (a b : Bool) → a && b ≡ true → a ≡ true
first_of_two true b h = refl
first_of_two false b h = absurd (let bad : false ≡ true = h in cc)

second_of_two : (a b : Bool) → a && b ≡ true → b ≡ true
second_of_two true b h = h
second_of_two false b h = absurd (let bad : false ≡ true = h in cc)

both : (a b : Bool) → a ≡ true → b ≡ true → a && b ≡ true
both true b p q = q
both false b p q = absurd (let bad : false ≡ true = p in cc)

test_le : (a b : ℕ) → a ≤ b → nat_le a b ≡ true
test_le a b h = grind (arith, nat_tests)

test_lt : (a b : ℕ) → a < b → nat_lt a b ≡ true
test_lt a b h = grind (arith, nat_tests)

le_test : (a b : ℕ) → nat_le a b ≡ true → a ≤ b
le_test a b h = grind (arith, nat_tests)

-- from an earlier one on too
rises_earlier : (first : ℕ) (events : List Happened) → rises_from (first + 1) events ≡ true → rises_from first events ≡ true
rises_earlier first [] h = refl
rises_earlier first (event ∷ rest) h =
    let later : first + 1 ≤ event.sub = le_test (first + 1) event.sub (first_of_two (nat_le (first + 1) event.sub) (rises_from (event.sub + 1) rest) h) in
    both (nat_le first event.sub) (rises_from (event.sub + 1) rest) (test_le first event.sub (omega arith)) (second_of_two (nat_le (first + 1) event.sub) (rises_from (event.sub + 1) rest) h)

rises : (first : ℕ) (events : List Happened) → rises_from first events ≡ true → are_rising events ≡ true
rises first [] h = refl
rises first (event ∷ []) h = refl
rises first (event ∷ second ∷ rest) h =
    let tail : rises_from (event.sub + 1) (second ∷ rest) ≡ true = second_of_two (nat_le first event.sub) (rises_from (event.sub + 1) (second ∷ rest)) h in
    let later : event.sub + 1 ≤ second.sub = le_test (event.sub + 1) second.sub (first_of_two (nat_le (event.sub + 1) second.sub) (rises_from (second.sub + 1) rest) tail) in
    both (nat_lt event.sub second.sub) (are_rising (second ∷ rest)) (test_lt event.sub second.sub (omega arith)) (rises (event.sub + 1) (second ∷ rest) tail)

-- one event more in front, if there is one
rises_with : (number : ℕ) (event : Option Happened) (rest : List Happened) → HasNumber number event → rises_from (number + 1) rest ≡ true →
    rises_from number (cons_option event rest) ≡ true
rises_with number None rest same h = rises_earlier number rest h
rises_with number (Some event) rest same h =
    both (nat_le number event.sub) (rises_from (event.sub + 1) rest) (test_le number event.sub (omega arith)) (ap (λ (n : ℕ). rises_from (n + 1) rest) same ∙ h)

events_rise : (s : ScriptState) (number : ℕ) (subs : List Sub) → rises_from number (filter_map (told_event s) (enumerate_from number subs)) ≡ true
events_rise s number [] = refl
events_rise s number (asked ∷ subs) =
    rises_with number (told_event s (number, asked)) (filter_map (told_event s) (enumerate_from (number + 1) subs)) (told_number s number asked) (events_rise s (number + 1) subs)

below_with : (number count : ℕ) (event : Option Happened) (rest : List Happened) → HasNumber number event → number < count → are_below count rest ≡ true →
    are_below count (cons_option event rest) ≡ true
below_with number count None rest same least h = h
below_with number count (Some event) rest same least h = both (nat_lt event.sub count) (are_below count rest) (test_lt event.sub count (omega arith)) h

events_below : (s : ScriptState) (number count : ℕ) (subs : List Sub) → number + length subs ≤ count →
    are_below count (filter_map (told_event s) (enumerate_from number subs)) ≡ true
events_below s number count [] h = refl
events_below s number count (asked ∷ subs) h =
    below_with number count (told_event s (number, asked)) (filter_map (told_event s) (enumerate_from (number + 1) subs)) (told_number s number asked) (omega arith)
    (events_below s (number + 1) count subs (omega arith))

poll_suits : (s : ScriptState) (subs : List Sub) → IsTrue (suits_of (call.Poll subs) (Ready (events_of s subs)))
poll_suits s subs = both (are_rising (events_of s subs)) (are_below (length subs) (events_of s subs)) (rises 0 (events_of s subs) (events_rise s 0 subs)) (events_below s 0 (length subs) subs (omega arith))

-- each row suits its call
pub replies_suit : (s : ScriptState) (asked : Call) → IsTrue (suits_of asked (reply_of s asked))
replies_suit s (call.Accept fd flags) =
    let P : Reply → Type 0 = λ r. IsTrue (suits_of (call.Accept fd flags) r) in
    either P (fd == listener) (if waits s then Fd (first_fd + s.accepted) else Errno again) (Errno badf)
    (either P (waits s) (Fd (first_fd + s.accepted)) (Errno again) refl refl) refl
replies_suit s (call.Read fd cap) =
    either (λ r. IsTrue (suits_of (call.Read fd cap) r)) (fd == 0) (Bytes []) (at_connection s fd (read_of cap)) (no_bytes fd cap)
    (suits_at (call.Read fd cap) s fd (read_of cap) (read_suits fd cap))
replies_suit s (call.Write fd bytes) =
    either (λ r. IsTrue (suits_of (call.Write fd bytes) r)) (is_output fd || is_connection s fd) (Count (count_of bytes)) (Errno badf) (count_suits fd bytes) refl
replies_suit s (call.Close fd) = suits_at (call.Close fd) s fd (λ c. Done) (λ c. refl)
replies_suit s (call.Shutdown fd how) = suits_at (call.Shutdown fd how) s fd (λ c. Done) (λ c. refl)
replies_suit s (call.FdStat fd) =
    let P : Reply → Type 0 = λ r. IsTrue (suits_of (call.FdStat fd) r) in
    either P (nat_le fd 2) (stat_of 2) (if is_known s fd then stat_of 6 else Errno badf) refl (either P (is_known s fd) (stat_of 6) (Errno badf) refl refl)
replies_suit s (call.Clock id) = refl
replies_suit s (call.Random len) = random_suits s.random s.place len
replies_suit s call.Yield = refl
replies_suit s (call.Poll subs) = poll_suits s subs

-- what was taken is what was made ready
pub taken_is_ready : (ready taken : Option Saved) (copy saved : Saved) → ready ≡ Some copy → taken ≡ Some saved → taken ≡ ready → copy ≡ saved
taken_is_ready ready taken copy saved is_ready is_taken same = let both_ways : Some copy ≡ Some saved = sym is_ready ∙ (sym same ∙ is_taken) in cc

-- so does what is kept of it, for a copy of the call
pub kept_suits : (s : ScriptState) (asked copy : Call) (reply : Reply) → copy ≡ asked → reply ≡ reply_of s asked → IsTrue (suits_of copy reply)
kept_suits s asked copy reply same answered =
    let P : Call → Type 0 = λ c. IsTrue (suits_of c reply) in
    let Q : Reply → Type 0 = λ r. IsTrue (suits_of asked r) in
    subst P (sym same) (subst Q (sym answered) (replies_suit s asked))

-- a place that is large enough for each reply to the call is large enough for this one
place_enough : (room : Places) (s : ScriptState) (asked : Call) → Holds room (places_of asked) → Holds room (places_in (reply_of s asked))
place_enough room s asked enough =
    let short = suits_room asked (reply_of s asked) (replies_suit s asked) in
    record { enough_bytes = omega arith; enough_events = omega arith }

-- also the place that was made ready
pub kept_place : (copy saved : Saved) (s : ScriptState) (asked : Call) (reply : Reply) → copy ≡ saved → Holds copy.room (places_of asked) →
    reply ≡ reply_of s asked → Holds saved.room (places_in reply)
kept_place copy saved s asked reply same enough answered =
    let P : Reply → Type 0 = λ r. Holds saved.room (places_in r) in
    let Q : Saved → Type 0 = λ it. Holds it.room (places_of asked) in
    subst P (sym answered) (place_enough saved.room s asked (subst Q same enough))
