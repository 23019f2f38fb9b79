-- From a parse of `clap` to what the words give.
use Rattle.std.proofs.Common.{◌≡◌, ◌≤◌, ◌<◌, [], ◌∷◌, ℕ, List, Bool, true, false, length, codes, refl, ap, sym, ◌∙◌, subst, Option, Some, None, not, arith, ◌&&◌, drop, map, take, eqb, Bor, ◌-◌}
use Rattle.std.specs.Prelude.{if◌then◌else◌, option_map, option_and_then, option_to_list, find, slice_get}
use Rattle.std.specs.Str.{bytes_eq}
use Rattle.std.proofs.lemmas.List.{take_all}
use Rattle.clap.specs.Words.{App, first_value, found_of, first_of, matched_of, raw_values, rows_of, Row, is_simple, matches_of}
use Rattle.clap.specs.Faults.{fault_of, is_simple_and_free}
use Rattle.clap.specs.declared.parser.matches.ArgMatches.{ArgMatches}
use Rattle.clap.proofs.WalkLemmas.{first_value-rows, raw_values-rows}
use Rattle.mv_words.specs.Words.{Text, Part, free, wants, ended, parts, places, values_of, is_plain, option_of, option_step, with_part, place, is_name, is_full}
use Rattle.mv_words.specs.Hyphens.{has_short, is_short, list_or_none}
use Rattle.mv_words.specs.Commands.{option_names, AreSingle, Gives, Values}
use Rattle.mv_words.specs.App.{words_app}
use Rattle.mv_words.proofs.Lemmas.{by_name}
use Rattle.mv_words.proofs.Rows.{look}
use Rattle.mv_words.proofs.Holding.{Holds, some_if}
use Rattle.mv_words.proofs.Taken.{Taken, taken, is_taken}

-- ---- words with one hyphen at the front say nothing

abbrev none_at : Option (List Part)
none_at = None

abbrev SaysNothing : List Text → Type 0
SaysNothing ws = (parts option_names ws free ≡ None) × ((n : Text) → parts option_names ws (wants n) ≡ None)

same_none : (b : Bool) → (if b then none_at else none_at) ≡ none_at
same_none true = refl
same_none false = refl

option_none : (o : Option (Text × Option Text)) (ws : List Text) → SaysNothing ws → option_step option_names o (parts option_names ws) ≡ None
option_none None ws h = refl
option_none (Some (n, None)) ws h = rw (h.1 n) (same_none (is_name option_names n))
option_none (Some (n, Some v)) ws h = rw h.0 (same_none (is_name option_names n && is_full v))

later_none : (w : Text) (ws : List Text) → bytes_eq w (45 ∷ 45 ∷ []) ≡ false → SaysNothing ws → SaysNothing (w ∷ ws)
unfolding parts
later_none w ws e h = (at (is_plain w), λ n. rw h.0 (same_none (is_plain w)))
  where
    at : (b : Bool) → (if b then with_part (place w) (parts option_names ws free) else (if bytes_eq w (45 ∷ 45 ∷ []) then parts option_names ws ended else option_step option_names (option_of w) (parts option_names ws))) ≡ None
    at true = rw h.0 refl
    at false = rw e (option_none (option_of w) ws h)

here_none : (w : Text) (ws : List Text) → bytes_eq w (45 ∷ 45 ∷ []) ≡ false → is_short w ≡ true → SaysNothing (w ∷ ws)
unfolding parts
here_none [] ws e s = absurd cc
here_none (x ∷ []) ws e s = (rw s refl, λ n. rw s refl)
here_none (x ∷ y ∷ ys) ws e s = at (eqb x 45) (eqb y 45) refl refl s
  where
    at : (a b : Bool) → eqb x 45 ≡ a → eqb y 45 ≡ b → (a && not b) ≡ true → SaysNothing ((x ∷ y ∷ ys) ∷ ws)
    at true false p q s = (rw (p, q) refl, λ n. rw p refl)
    at true true p q s = absurd cc
    at false b p q s = absurd cc

short_none : (ws : List Text) → has_short ws ≡ true → SaysNothing ws
short_none [] e = absurd cc
short_none (w ∷ ws) e = at (bytes_eq w (45 ∷ 45 ∷ [])) (is_short w) refl refl e (short_none ws)
  where
    at : (a b : Bool) → bytes_eq w (45 ∷ 45 ∷ []) ≡ a → is_short w ≡ b → (if a then false else (if b then true else has_short ws)) ≡ true → (has_short ws ≡ true → SaysNothing ws) → SaysNothing (w ∷ ws)
    at true b p q e ih = absurd cc
    at false true p q e ih = here_none w ws p q
    at false false p q e ih = later_none w ws p (ih e)

pub short_gives : (ws : List Text) (values : Values) (placed : List Text) → true ≡ has_short ws → Gives ws values placed → ⊥
short_gives ws values placed e gives = let f : none_at ≡ Some gives.said = sym (short_none ws (sym e)).0 ∙ gives.read in absurd cc

-- ---- a parse that is taken

first_look : (id : Text) (rows : List Row) → first_of id rows ≡ option_and_then (λ vs. slice_get vs 0) (look id rows)
first_look id rows = at (find (λ r. bytes_eq r.id id) rows)
  where
    at : (o : Option Row) → option_and_then (λ (r : Row). slice_get r.values 0) o ≡ option_and_then (λ vs. slice_get vs 0) (option_map (λ (r : Row). r.values) o)
    at None = refl
    at (Some r) = refl

abbrev head : List Text → Option Text
head [] = None
head (v ∷ vs) = Some v

head_of : (vs : List Text) → option_and_then (λ ws. slice_get ws 0) (some_if vs) ≡ head vs
head_of [] = refl
head_of (v ∷ vs) = refl

value_is : (m : ArgMatches) (id : Text) (vs : List Text) → look id (rows_of (found_of m)) ≡ some_if vs → first_value (found_of m) id ≡ head vs
value_is m id vs e = first_value-rows (found_of m) id ∙ first_look id (rows_of (found_of m)) ∙ ap (option_and_then (λ ws. slice_get ws 0)) e ∙ head_of vs

one_value : (vs : List Text) (o : Option Text) → length vs ≤ 1 → o ≡ head vs → vs ≡ option_to_list o
one_value [] o le e = rw e refl
one_value (v ∷ []) o le e = rw e refl
one_value (v ∷ w ∷ vs) o le e = absurd (omega arith)

list_is : (vs : List Text) → list_or_none (some_if vs) ≡ vs
list_is [] = refl
list_is (v ∷ vs) = refl

-- the values of options that are each given once at most
abbrev pub values_by : (ring log listen console : Option Text) → Values
values_by ring log listen console =
    record { rings = option_to_list ring; logs = option_to_list log; listens = option_to_list listen; consoles = option_to_list console }

at_most_one : (o : Option Text) → length (option_to_list o) ≤ 1
at_most_one None = omega arith
at_most_one (Some v) = omega arith

pub single_by : (ring log listen console : Option Text) → AreSingle (values_by ring log listen console)
single_by ring log listen console = record { ring = at_most_one ring; log = at_most_one log; listen = at_most_one listen; console = at_most_one console }

abbrev these : (rings logs listens consoles : List Text) → Values
these rings logs listens consoles = record { rings = rings; logs = logs; listens = listens; consoles = consoles }

values_are_by : (rings logs listens consoles : List Text) (ring log listen console : Option Text) → rings ≡ option_to_list ring → logs ≡ option_to_list log → listens ≡ option_to_list listen → consoles ≡ option_to_list console
    → these rings logs listens consoles ≡ values_by ring log listen console
values_are_by rings logs listens consoles ring log listen console a b c d = rw (a, b, c, d) refl

pub gives_by : (c : App) (words : List Text) (m : ArgMatches) (ring log listen console : Option Text) (placed : List Text) → c ≡ words_app → 0 < length words → has_short (drop 1 words) ≡ false
    → (is_simple_and_free c ≡ true → fault_of c words ≡ []) → (is_simple c ≡ true → rows_of (found_of m) ≡ matches_of c words)
    → ring ≡ first_value (found_of m) (codes "ring") → log ≡ first_value (found_of m) (codes "log") → listen ≡ first_value (found_of m) (codes "listen") → console ≡ first_value (found_of m) (codes "console")
    → placed ≡ list_or_none (option_map raw_values (matched_of (found_of m) (codes "places")))
    → Gives (drop 1 words) (values_by ring log listen console) placed
gives_by c [] m ring log listen console placed e some short kinds matches ring_is log_is listen_is console_is placed_is = absurd (omega arith)
gives_by c (word ∷ ws) m ring log listen console placed e some short kinds matches ring_is log_is listen_is console_is placed_is =
    let fault : fault_of words_app (word ∷ ws) ≡ [] = subst (λ (a : App). fault_of a (word ∷ ws) ≡ []) e (kinds (ap is_simple_and_free e)) in
    let rows : rows_of (found_of m) ≡ matches_of words_app (word ∷ ws) = matches (ap is_simple e) ∙ ap (λ (a : App). matches_of a (word ∷ ws)) e in
    let t : Taken word ws = taken word ws short fault in
    let holds : Holds (rows_of (found_of m)) (λ n. values_of n t.said) (places t.said) = subst (λ (q : List Row). Holds q (λ n. values_of n t.said) (places t.said)) (sym rows) t.holds in
    let found : (n : Text) (o : Option Text) → is_name option_names n ≡ true → o ≡ first_value (found_of m) n → values_of n t.said ≡ option_to_list o
    = λ n o k is. one_value (values_of n t.said) o (t.single n k) (is ∙ value_is m n _ (holds.named n k)) in
    record {
      said = t.said;
      read = t.read;
      values_are = values_are_by _ _ _ _ ring log listen console (found (codes "ring") ring refl ring_is) (found (codes "log") log refl log_is) (found (codes "listen") listen refl listen_is) (found (codes "console") console refl console_is);
      placed_is = sym (placed_is ∙ ap list_or_none (raw_values-rows (found_of m) (codes "places") ∙ holds.others) ∙ list_is (places t.said));
    }

few : (vs ws : List Text) → vs ≡ ws → length ws ≤ 1 → length vs ≤ 1
few vs ws e le = rw e le

-- words that give something have no fault
pub no_fault : (c : App) (words : List Text) (values : Values) (placed : List Text) → c ≡ words_app → 0 < length words → has_short (drop 1 words) ≡ false → AreSingle values → Gives (drop 1 words) values placed → fault_of c words ≡ []
no_fault c [] values placed e some short one gives = absurd (omega arith)
no_fault c (word ∷ ws) values placed e some short one gives =
    let are = gives.values_are in
    ap (λ (a : App). fault_of a (word ∷ ws)) e ∙ is_taken word ws gives.said short gives.read (by_name (λ n. length (values_of n gives.said) ≤ 1)
    (few _ values.rings (ap (λ (v : Values). v.rings) are) one.ring)
    (few _ values.logs (ap (λ (v : Values). v.logs) are) one.log)
    (few _ values.listens (ap (λ (v : Values). v.listens) are) one.listen)
    (few _ values.consoles (ap (λ (v : Values). v.consoles) are) one.console))

whole : (xs : List (Bor Text)) (n : ℕ) → length xs ≤ n → take n xs ≡ xs
whole xs n le = take_all n xs le

pub tail_map : (xs : List (Bor Text)) → map (λ w. w.now) (take (length xs - 1) (drop 1 xs)) ≡ drop 1 (map (λ w. w.now) xs)
tail_map [] = ap (map (λ w. w.now)) (whole [] (0 - 1) (omega arith))
tail_map (x ∷ xs) = ap (map (λ w. w.now)) (whole xs (length (x ∷ xs) - 1) (omega arith))

pub some_words : (xs : List (Bor Text)) → 0 < length xs → 0 < length (map (λ w. w.now) xs)
some_words [] le = absurd (omega arith)
some_words (x ∷ xs) le = omega arith
