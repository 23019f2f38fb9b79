-- What `clap` knows of the options and places.
use Rattle.std.proofs.Common.{◌≡◌, [], ◌∷◌, ℕ, List, Bool, true, false, eqb, codes, refl, subst, Option, Some, None, ◌||◌}
use Rattle.std.proofs.lemmas.Slice.Eq.{bytes_eq-Decides}
use Rattle.std.specs.Str.{bytes_eq}
use Rattle.clap.specs.Kinds.{Kinds, or_else}
use Rattle.clap.specs.Walk.{Rule, Row, arg_by_id, arg_by_long, arg_by_index, nothing_held}
use Rattle.clap.specs.Faults.{repeat_fault, fault_of, level_fault, check_fault, is_simple_and_free}
use Rattle.clap.proofs.FaultLemmas.{leaf_fault}
use Rattle.clap.specs.declared.error.kind.ErrorKind.{ErrorKind}
use Rattle.clap.specs.Simple.{Shape, built, filled, with_index}
use Rattle.mv_words.specs.Words.{Text, is_name}
use Rattle.mv_words.specs.Commands.{option_names}
use Rattle.mv_words.specs.App.{words_app, option_rule, rest_rule}
use Rattle.mv_words.proofs.Walks.{Knows, none, IsSingle, takes_one}

abbrev pub top : Shape
top = (built words_app).top

abbrev pub opt : Text → Rule
opt name = filled (option_rule name)

-- what holds of each option
pub by_name : (P : Text → Type 0) → P (codes "ring") → P (codes "log") → P (codes "listen") → P (codes "console") → (n : Text) → is_name option_names n ≡ true → P n
by_name P ring log listen console n e = at (bytes_eq (codes "ring") n) (bytes_eq (codes "log") n) (bytes_eq (codes "listen") n) (bytes_eq (codes "console") n) refl refl refl refl e
  where
    at : (a b c d : Bool) → bytes_eq (codes "ring") n ≡ a → bytes_eq (codes "log") n ≡ b → bytes_eq (codes "listen") n ≡ c → bytes_eq (codes "console") n ≡ d → (a || (b || (c || (d || false)))) ≡ true → P n
    at true b c d p q r s e = subst P ((bytes_eq-Decides (codes "ring") n).0 p) ring
    at false true c d p q r s e = subst P ((bytes_eq-Decides (codes "log") n).0 q) log
    at false false true d p q r s e = subst P ((bytes_eq-Decides (codes "listen") n).0 r) listen
    at false false false true p q r s e = subst P ((bytes_eq-Decides (codes "console") n).0 s) console
    at false false false false p q r s e = absurd cc

no_name : (n : Text) → is_name option_names n ≡ false → arg_by_long top.rules n ≡ None
no_name n e = at (bytes_eq (codes "ring") n) (bytes_eq (codes "log") n) (bytes_eq (codes "listen") n) (bytes_eq (codes "console") n) refl refl refl refl e
  where
    at : (a b c d : Bool) → bytes_eq (codes "ring") n ≡ a → bytes_eq (codes "log") n ≡ b → bytes_eq (codes "listen") n ≡ c → bytes_eq (codes "console") n ≡ d → (a || (b || (c || (d || false)))) ≡ false → arg_by_long top.rules n ≡ None
    at true b c d p q r s e = absurd cc
    at false true c d p q r s e = absurd cc
    at false false true d p q r s e = absurd cc
    at false false false true p q r s e = absurd cc
    at false false false false p q r s e = rw (p, q, r, s) refl

abbrev pub places_id : Text
places_id = codes "places"

pub not_places : (n : Text) → is_name option_names n ≡ true → bytes_eq n places_id ≡ false
not_places = by_name (λ n. bytes_eq n places_id ≡ false) refl refl refl refl

pub places_not : (n : Text) → is_name option_names n ≡ true → bytes_eq places_id n ≡ false
places_not = by_name (λ n. bytes_eq places_id n ≡ false) refl refl refl refl

abbrev pub rest : Rule
rest = with_index 1 (filled (rest_rule places_id))

abbrev no_rule : Option Rule
no_rule = None

by_place : (P : Rule → Type 0) → P rest → (i : ℕ) (a : Rule) → arg_by_index top.rules i ≡ Some a → P a
by_place P r i a e = at (eqb 1 i) refl
  where
    at : (x : Bool) → eqb 1 i ≡ x → P a
    at true ex = let f : Some rest ≡ Some a = rw ex at e in let g : rest ≡ a = cc in subst P g r
    at false ex = let f : no_rule ≡ Some a = rw ex at e in absurd cc

stays : (a : Kinds) (k : ErrorKind) → none (or_else a (k ∷ [])) ≡ false
stays [] k = refl
stays (x ∷ xs) k = refl

pub knows : Knows top option_names opt
knows = record {
  long_yes = by_name (λ n. arg_by_long top.rules n ≡ Some (opt n)) refl refl refl refl;
  long_no = no_name;
  opt_found = by_name (λ n. arg_by_id top.rules (opt n).id ≡ Some (opt n)) refl refl refl refl;
  opt_single = λ n. record { range = refl };
  place_found = by_place (λ a. arg_by_id top.rules a.id ≡ Some a) refl;
  place_single = by_place IsSingle (record { range = refl });
  place_var = by_place (λ a. a.trailing_var_arg ≡ false) refl;
  empty_option = λ n rows. stays (repeat_fault false (opt n).id rows) _;
  empty_place = λ i a rows e. by_place (λ a. takes_one false a [] rows ≡ false) refl i a e;
}

-- the faults of a parse are those of the walk, of its last use, and of what is required
pub fault_is : (word : Text) (ws : List Text) → fault_of words_app (word ∷ ws) ≡ level_fault top [] nothing_held ws false []
fault_is word ws = leaf_fault (built words_app) nothing_held ws refl

-- nothing is required
pub no_check : (rows : List Row) → none (check_fault top rows false) ≡ true
no_check rows = refl

pub simple : is_simple_and_free words_app ≡ true
simple = refl
