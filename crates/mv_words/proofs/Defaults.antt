-- The two addresses where the words give none.
use Rattle.std.proofs.Common.{◌≡◌, [], ◌∷◌, List, true, length, map, drop, ap, sym, ◌∙◌, Option, Some, arith}
use Rattle.std.specs.Prelude.{◌==◌, IfOk, Result, Ok, Err}
use Rattle.std.proofs.lemmas.Bool.{eqb-true}
use Rattle.mv_words.specs.Words.{Text, Part, parts}
use Rattle.mv_words.specs.Commands.{AreSingle, ArePlaces, Gives, Values, default_console, default_listen, first_or, values_in}
use Rattle.mv_words.specs.declared.addresses.Addresses.{Addresses}

abbrev some_parts : List Part → Option (List Part)
some_parts ps = Some ps

no_said : (said : List Part) → some_parts [] ≡ some_parts said → [] ≡ said
no_said said e = cc

-- no words give no values
empty_values : (values : Values) (placed : List Text) → Gives [] values placed → values_in [] ≡ values
unfolding parts
empty_values values placed gives = ap values_in (no_said gives.said gives.read) ∙ gives.values_are

empty_places : (a : Addresses) → a.listen ≡ default_listen → a.console ≡ default_console → ArePlaces [] a
empty_places a listen console = record {
  listen = λ values placed single gives. listen ∙ ap (λ (v : Values). first_or default_listen v.listens) (empty_values values placed gives);
  console = λ values placed single gives. console ∙ ap (λ (v : Values). first_or default_console v.consoles) (empty_values values placed gives);
  else_listen = λ none. listen;
  else_console = λ none. console;
}

-- there is no word
pub places_of_none : {A E : Type 0} (f : A → Text) (xs : List A) (r : Result Addresses E) → true ≡ (length xs == 0) → IfOk r (λ a. a.listen ≡ default_listen) → IfOk r (λ a. a.console ≡ default_console) → IfOk r (λ a. ArePlaces (map f xs) a)
places_of_none f (x ∷ xs) r e listen console = let none : length (x ∷ xs) ≡ 0 = eqb-true _ 0 (sym e) in absurd (omega arith)
places_of_none f [] (Ok a) e listen console = empty_places a listen console
places_of_none f [] (Err fault) e listen console = tt

-- the words behind the first give nothing
pub places_of_bad : {E : Type 0} (words : List Text) (r : Result Addresses E) → ((values : Values) (placed : List Text) → AreSingle values → Gives (drop 1 words) values placed → ⊥)
    → IfOk r (λ a. a.listen ≡ default_listen) → IfOk r (λ a. a.console ≡ default_console) → IfOk r (λ a. ArePlaces words a)
places_of_bad words (Ok a) bad listen console = record {
  listen = λ values placed single gives. absurd (bad values placed single gives);
  console = λ values placed single gives. absurd (bad values placed single gives);
  else_listen = λ none. listen;
  else_console = λ none. console;
}
places_of_bad words (Err fault) bad listen console = tt
