-- `clap` takes the words exactly where they say something.
use Rattle.std.proofs.Common.{◌≡◌, ◌≤◌, [], ◌∷◌, List, Bool, true, false, length, refl, ap, sym, ◌∙◌, subst, Option, Some, None, arith, inl, inr, ◌&&◌, ◌||◌}
use Rattle.std.specs.Prelude.{if◌then◌else◌, fold}
use Rattle.std.specs.List.{AllByRecursion}
use Rattle.clap.specs.Kinds.{Kinds, or_else}
use Rattle.clap.specs.Walk.{Row, Rule, Walk, Held, idle, has_row, with_default, finished, settled, walked, nothing_held}
use Rattle.clap.specs.Simple.{matches_of}
use Rattle.clap.specs.Faults.{fault_of, walk_fault, settle_fault, defaults_fault, check_fault}
use Rattle.mv_words.specs.Words.{Text, Part, parts, free, values_of, places, is_name}
use Rattle.mv_words.specs.Hyphens.{has_short}
use Rattle.mv_words.specs.Commands.{option_names}
use Rattle.mv_words.specs.App.{words_app}
use Rattle.mv_words.proofs.Walks.{none, run, run_is, after, apply, state, chosen}
use Rattle.mv_words.proofs.Lemmas.{top, opt, knows, fault_is, no_check}
use Rattle.mv_words.proofs.Holding.{Holds, OutcomeOf, outcome, all_known}

-- ---- no argument has a default

abbrev HasNoDefault : Rule → Type 0
HasNoDefault a = a.defaults ≡ []

same_rows : (b : Bool) (rows : List Row) → (if b then rows else rows) ≡ rows
same_rows true rows = refl
same_rows false rows = refl

no_default : (c : List Rule) (rows : List Row) → AllByRecursion HasNoDefault c → fold with_default rows c ≡ rows
no_default [] rows all = refl
no_default (a ∷ c) rows all =
    let one : with_default rows a ≡ rows = rw all.0 (same_rows (has_row a.id rows) rows) in
    ap (λ (q : List Row). fold with_default q c) one ∙ no_default c rows all.1

no_default_fault : (c : List Rule) (rows : List Row) → AllByRecursion HasNoDefault c → defaults_fault rows c ≡ []
unfolding defaults_fault
no_default_fault [] rows all = refl
no_default_fault (a ∷ c) rows all =
    let one : with_default rows a ≡ rows = rw all.0 (same_rows (has_row a.id rows) rows) in
    rw (one, all.0, or_true (has_row a.id rows)) (no_default_fault c rows all.1)
  where
    or_true : (b : Bool) → (b || true) ≡ true
    or_true true = refl
    or_true false = refl

-- ---- the whole parse

abbrev start : Walk
start = state nothing_held idle 1 false

abbrev end_of : List Text → Held
end_of ws = (fold (walked top.rules []) start ws).held

abbrev rows_of_walk : List Text → List Row
rows_of_walk ws = (settled top.rules (end_of ws)).rows

all_plain : AllByRecursion HasNoDefault top.rules
all_plain = (refl, (refl, (refl, (refl, (refl, tt)))))

split_none : (w s d c : Kinds) → d ≡ [] → none (or_else w (or_else [] (or_else s (or_else d c)))) ≡ (none (or_else w s) && none c)
split_none [] [] d c e = rw e refl
split_none [] (k ∷ ks) d c e = refl
split_none (k ∷ ks) s d c e = refl

fault_none : (word : Text) (ws : List Text) → none (fault_of words_app (word ∷ ws)) ≡ (none (or_else (walk_fault top [] start ws) (settle_fault top.rules false (end_of ws))) && none (check_fault top (rows_of_walk ws) false))
fault_none word ws =
    let rows = rows_of_walk ws in
    ap none (fault_is word ws) ∙ split_none (walk_fault top [] start ws) (settle_fault top.rules false (end_of ws)) (defaults_fault rows top.rules) (check_fault top (finished top.rules (end_of ws)) false) (no_default_fault top.rules rows all_plain)
    ∙ ap (λ (q : List Row). none (or_else (walk_fault top [] start ws) (settle_fault top.rules false (end_of ws))) && none (check_fault top q false)) (no_default top.rules rows all_plain)

matches_are : (word : Text) (ws : List Text) → matches_of words_app (word ∷ ws) ≡ rows_of_walk ws
matches_are word ws = no_default top.rules (rows_of_walk ws) all_plain

-- what is taken
pub record Taken (word : Text) (ws : List Text) : Type 0 where
  pub said : List Part
  pub read : parts option_names ws free ≡ Some said
  pub holds : Holds (matches_of words_app (word ∷ ws)) (λ n. values_of n said) (places said)
  pub single : (n : Text) → is_name option_names n ≡ true → length (values_of n said) ≤ 1

both_true : (a b : Bool) → (a && b) ≡ true → (a ≡ true) × (b ≡ true)
both_true true true e = (refl, refl)
both_true true false e = absurd cc
both_true false b e = absurd cc

begun : Holds [] (λ n. []) []
begun = record { named = λ n k. refl; others = refl }

abbrev the_rows : List Row → Option (List Row)
the_rows rows = Some rows

same_end : (a b : List Row) → the_rows a ≡ the_rows b → a ≡ b
same_end a b e = cc

take_parts : (word : Text) (ws : List Text) (o : Option (List Part)) → parts option_names ws free ≡ o → after top opt o 1 [] ≡ Some (rows_of_walk ws) → Taken word ws
take_parts word ws None p e = absurd cc
take_parts word ws (Some ps) p e =
    let came : OutcomeOf (apply top opt ps 1 []) (λ n. values_of n ps) (places ps) = outcome ps [] (λ n. []) [] (all_known ws free ps tt p) begun (λ n k. omega arith) in
    elim came [
      | inl r ↦
          let same : r.0 ≡ rows_of_walk ws = same_end r.0 (rows_of_walk ws) (sym r.1 ∙ e) in
          let holds : Holds (rows_of_walk ws) (λ n. values_of n ps) (places ps) = subst (λ (q : List Row). Holds q (λ n. values_of n ps) (places ps)) same r.2 in
          record { said = ps; read = p; holds = subst (λ (q : List Row). Holds q (λ n. values_of n ps) (places ps)) (sym (matches_are word ws)) holds; single = r.3 }
      | inr q ↦ absurd (no_end (apply top opt ps 1 []) (rows_of_walk ws) q.0 e)
    ]
  where
    no_end : (o : Option (List Row)) (rows : List Row) → o ≡ None → o ≡ Some rows → ⊥
    no_end None rows p e = absurd cc
    no_end (Some x) rows p e = absurd cc

pub taken : (word : Text) (ws : List Text) → has_short ws ≡ false → fault_of words_app (word ∷ ws) ≡ [] → Taken word ws
taken word ws ok e =
    let b = both_true _ _ (sym (fault_none word ws) ∙ ap none e) in
    let ran : run top start ws ≡ Some (rows_of_walk ws) = ap (λ (t : Bool). chosen t (rows_of_walk ws)) b.0 in
    take_parts word ws (parts option_names ws free) refl (sym (run_is top option_names opt knows ws ok) ∙ ran)

to_nil : (a : Kinds) → none a ≡ true → a ≡ []
to_nil [] e = refl
to_nil (k ∷ ks) e = absurd cc

chosen_some : (b : Bool) (rows end : List Row) → chosen b rows ≡ Some end → (b ≡ true) × (rows ≡ end)
chosen_some true rows end e = (refl, cc)
chosen_some false rows end e = absurd cc

-- words that say something, with no option twice, are taken
pub is_taken : (word : Text) (ws : List Text) (ps : List Part) → has_short ws ≡ false → parts option_names ws free ≡ Some ps → ((n : Text) → is_name option_names n ≡ true → length (values_of n ps) ≤ 1)
    → fault_of words_app (word ∷ ws) ≡ []
is_taken word ws ps ok p single =
    let came : OutcomeOf (apply top opt ps 1 []) (λ n. values_of n ps) (places ps) = outcome ps [] (λ n. []) [] (all_known ws free ps tt p) begun (λ n k. omega arith) in
    elim came [
      | inl r ↦
          let ran : run top start ws ≡ Some r.0 = run_is top option_names opt knows ws ok ∙ ap (λ (o : Option (List Part)). after top opt o 1 []) p ∙ r.1 in
          let c = chosen_some _ (rows_of_walk ws) r.0 ran in
          to_nil (fault_of words_app (word ∷ ws)) (fault_none word ws ∙ rw (c.0, no_check (rows_of_walk ws)) refl)
      | inr q ↦ absurd (let one = single q.1.0 q.1.1 in let two = q.1.2 in omega (arith, one, two))
    ]
