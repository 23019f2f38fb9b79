-- The bytes of an fdstat and of events, put together part by part.
use Rattle.std.proofs.Common.{◌≡◌, ℕ, ◌+◌, ◌*◌, ◌<◌, ◌≤◌, List, [], ◌∷◌, ◌++◌, length, drop, get_or, refl, sym, ap, ◌∙◌, subst, arith, append_assoc, append-nil, inr}
use Rattle.std.specs.Prelude.{slice_range}
use Rattle.std.specs.Int.{w16, w64, to_le_bytes}
use Rattle.std.proofs.lemmas.List.{drop_more, drop_all, take_all}
use Rattle.mv_memory.specs.Bytes.{low_bytes, zeros}
use Rattle.mv_memory.proofs.BytesLemmas.{low_bytes_is}
use Rattle.mv_calls.specs.declared.happenings.Happened.{Happened}
use Rattle.mv_wasi.specs.Answers.{stat_bytes}
use Rattle.mv_wasi.specs.Polls.{event_bytes, events_bytes}
use Rattle.mv_wasi.specs.Readies.{HaveSubs}

-- ---- the bytes of a number

pub two-bytes : (n : ℕ) → to_le_bytes w16 n ≡ low_bytes 2 n
unfolding low_bytes
two-bytes n = refl

pub eight-bytes : (n : ℕ) → to_le_bytes w64 n ≡ low_bytes 8 n
eight-bytes n = sym (take_all 8 (to_le_bytes w64 n) (omega arith)) ∙ low_bytes_is 8 n (inr (inr (inr refl)))

zeros-four : 0 ∷ 0 ∷ 0 ∷ 0 ∷ [] ≡ zeros 4
unfolding zeros
zeros-four = refl

zeros-five : 0 ∷ 0 ∷ 0 ∷ 0 ∷ 0 ∷ [] ≡ zeros 5
unfolding zeros
zeros-five = refl

zeros-six : 0 ∷ 0 ∷ 0 ∷ 0 ∷ 0 ∷ 0 ∷ [] ≡ zeros 6
unfolding zeros
zeros-six = refl

-- one part was added in front of what is still to come
part : (o a b more all : List ℕ) → b ≡ o ++ a → o ++ (a ++ more) ≡ all → b ++ more ≡ all
part o a b more all e h = ap (λ z. z ++ more) e ∙ append_assoc o a more ∙ h

pub stat-made : (filetype flags rights heirs : ℕ) (a b c d e : List ℕ) → a ≡ filetype ∷ 0 ∷ [] → b ≡ a ++ to_le_bytes w16 flags → c ≡ b ++ (0 ∷ 0 ∷ 0 ∷ 0 ∷ []) → d ≡ c ++ to_le_bytes w64 rights → e ≡ d ++ to_le_bytes w64 heirs → e ≡ stat_bytes filetype flags rights heirs
stat-made filetype flags rights heirs a b c d e ea eb ec ed ee =
    let two : b ≡ a ++ low_bytes 2 flags = eb ∙ ap (λ z. a ++ z) (two-bytes flags) in
    let four : c ≡ b ++ zeros 4 = ec ∙ ap (λ z. b ++ z) zeros-four in
    let own : d ≡ c ++ low_bytes 8 rights = ed ∙ ap (λ z. c ++ z) (eight-bytes rights) in
    let heir : e ≡ d ++ low_bytes 8 heirs = ee ∙ ap (λ z. d ++ z) (eight-bytes heirs) in
    let all : List ℕ = stat_bytes filetype flags rights heirs in
    heir ∙ part c (low_bytes 8 rights) d (low_bytes 8 heirs) all own
    (part b (zeros 4) c (low_bytes 8 rights ++ low_bytes 8 heirs) all four
    (part a (low_bytes 2 flags) b (zeros 4 ++ (low_bytes 8 rights ++ low_bytes 8 heirs)) all two
    (ap (λ z. z ++ (low_bytes 2 flags ++ (zeros 4 ++ (low_bytes 8 rights ++ low_bytes 8 heirs)))) ea)))

-- an event from its parts
pub event-made : (m : List ℕ) (subs place : ℕ) (happened : Happened) (o a b c d e f g : List ℕ) → place ≡ subs + 48 * happened.sub →
    a ≡ o ++ slice_range m place (place + 8) → b ≡ a ++ to_le_bytes w16 happened.error → c ≡ b ++ slice_range m (place + 8) (place + 8 + 1) → d ≡ c ++ (0 ∷ 0 ∷ 0 ∷ 0 ∷ 0 ∷ []) →
    e ≡ d ++ to_le_bytes w64 happened.nbytes → f ≡ e ++ to_le_bytes w16 happened.flags → g ≡ f ++ (0 ∷ 0 ∷ 0 ∷ 0 ∷ 0 ∷ 0 ∷ []) → g ≡ o ++ event_bytes m subs happened
event-made m subs place happened o a b c d e f g at ea eb ec ed ee ef eg =
    let end : place + 8 + 1 ≡ place + 9 = omega arith in
    let user : a ≡ o ++ slice_range m (subs + 48 * happened.sub) (subs + 48 * happened.sub + 8) = ea ∙ ap (λ (p : ℕ). o ++ slice_range m p (p + 8)) at in
    let error : b ≡ a ++ low_bytes 2 happened.error = eb ∙ ap (λ z. a ++ z) (two-bytes happened.error) in
    let tag : c ≡ b ++ slice_range m (subs + 48 * happened.sub + 8) (subs + 48 * happened.sub + 9) =
    ec ∙ ap (λ (q : ℕ). b ++ slice_range m (place + 8) q) end ∙ ap (λ (p : ℕ). b ++ slice_range m (p + 8) (p + 9)) at in
    let five : d ≡ c ++ zeros 5 = ed ∙ ap (λ z. c ++ z) zeros-five in
    let count : e ≡ d ++ low_bytes 8 happened.nbytes = ee ∙ ap (λ z. d ++ z) (eight-bytes happened.nbytes) in
    let flags : f ≡ e ++ low_bytes 2 happened.flags = ef ∙ ap (λ z. e ++ z) (two-bytes happened.flags) in
    let six : g ≡ f ++ zeros 6 = eg ∙ ap (λ z. f ++ z) zeros-six in
    let all : List ℕ = o ++ event_bytes m subs happened in
    six ∙ part e (low_bytes 2 happened.flags) f (zeros 6) all flags (
    part d (low_bytes 8 happened.nbytes) e (low_bytes 2 happened.flags ++ zeros 6) all count (
    part c (zeros 5) d (low_bytes 8 happened.nbytes ++ (low_bytes 2 happened.flags ++ zeros 6)) all five (
    part b (slice_range m (subs + 48 * happened.sub + 8) (subs + 48 * happened.sub + 9)) c (zeros 5 ++ (low_bytes 8 happened.nbytes ++ (low_bytes 2 happened.flags ++ zeros 6))) all tag (
    part a (low_bytes 2 happened.error) b (slice_range m (subs + 48 * happened.sub + 8) (subs + 48 * happened.sub + 9) ++ (zeros 5 ++ (low_bytes 8 happened.nbytes ++ (low_bytes 2 happened.flags ++ zeros 6)))) all error (
    part o (slice_range m (subs + 48 * happened.sub) (subs + 48 * happened.sub + 8)) a (low_bytes 2 happened.error ++ (slice_range m (subs + 48 * happened.sub + 8) (subs + 48 * happened.sub + 9) ++ (zeros 5 ++ (low_bytes 8 happened.nbytes ++ (low_bytes 2 happened.flags ++ zeros 6))))) all user refl)))))

-- ---- the events, one by one

pub events-more : (m : List ℕ) (subs i : ℕ) (events : List Happened) (event : Happened) (before now all : List ℕ) → i < length events → now ≡ before ++ event_bytes m subs (get_or events i event) →
    before ++ events_bytes m subs (drop i events) ≡ all → now ++ events_bytes m subs (drop (i + 1) events) ≡ all
unfolding events_bytes
events-more m subs i events event before now all lt e whole =
    ap (λ z. z ++ events_bytes m subs (drop (i + 1) events)) e
    ∙ append_assoc before (event_bytes m subs (get_or events i event)) (events_bytes m subs (drop (i + 1) events))
    ∙ ap (λ (ys : List Happened). before ++ events_bytes m subs ys) (sym (drop_more events i event lt))
    ∙ whole

pub events-all : (m : List ℕ) (subs i : ℕ) (events : List Happened) (now all : List ℕ) → length events ≤ i → now ++ events_bytes m subs (drop i events) ≡ all → now ≡ all
unfolding events_bytes
events-all m subs i events now all le whole =
    sym (ap (λ (ys : List Happened). now ++ events_bytes m subs ys) (drop_all i events le) ∙ append-nil now) ∙ whole

-- the first subscription of those that are left, and the others
pub subs-first : (m : List ℕ) (subs i : ℕ) (events : List Happened) (event : Happened) → i < length events → HaveSubs m subs (drop i events) → (subs + 48 * (get_or events i event).sub + 48 ≤ length m) × HaveSubs m subs (drop (i + 1) events)
subs-first m subs i events event lt h = subst (HaveSubs m subs) (drop_more events i event lt) h
