-- The rows of a parse hold what the words say.
use Rattle.std.proofs.Common.{◌≡◌, ◌≤◌, ◌<◌, [], ◌∷◌, ◌++◌, ℕ, List, Bool, true, false, length, refl, ap, sym, ◌∙◌, subst, Option, Some, None, not, arith, inl, inr, ◌⊎◌, append_assoc, ltb}
use Rattle.std.specs.Prelude.{if◌then◌else◌, is_some, nat_lt}
use Rattle.std.proofs.lemmas.Bool.{lt-ltb}
use Rattle.std.proofs.lemmas.Slice.Eq.{bytes_eq-Decides}
use Rattle.std.proofs.lemmas.List.{append-nil, length-append}
use Rattle.std.specs.Str.{bytes_eq}
use Rattle.clap.specs.Kinds.{or_else}
use Rattle.clap.specs.Walk.{Row, has_row, used}
use Rattle.clap.specs.Faults.{repeat_fault}
use Rattle.clap.specs.declared.error.kind.ErrorKind.TheVariants as kind
use Rattle.mv_words.specs.Words.{Text, Part, value, place, Mode, free, wants, ended, is_name, is_full, is_plain, values_of, places, parts, with_part, option_step, option_of, word_step, at_end}
use Rattle.mv_words.specs.Commands.{option_names}
use Rattle.mv_words.proofs.Walks.{none, takes_one, apply}
use Rattle.mv_words.proofs.Rows.{look, or_nothing, look-set, look-added, has_row-look}
use Rattle.mv_words.proofs.Lemmas.{top, opt, rest, places_id, not_places, places_not}

abbrev pub some_if : List Text → Option (List Text)
some_if [] = None
some_if (v ∷ vs) = Some (v ∷ vs)

some_more : (o : Option (List Text)) (vs : List Text) (v : Text) → o ≡ some_if vs → Some (or_nothing o ++ v ∷ []) ≡ some_if (vs ++ v ∷ [])
some_more o [] v e = rw e refl
some_more o (x ∷ xs) v e = rw e refl

-- these are the values of each option, and these the words by place
pub record Holds (rows : List Row) (values : Text → List Text) (placed : List Text) : Type 0 where
  pub named : (n : Text) → is_name option_names n ≡ true → look n rows ≡ some_if (values n)
  pub others : look places_id rows ≡ some_if placed

abbrev with_value : Text → Text → (Text → List Text) → Text → List Text
with_value n v values m = values m ++ (if bytes_eq n m then v ∷ [] else [])

abbrev pub KnownPart : Part → Type 0
KnownPart (value n v) = (is_name option_names n ≡ true) × (is_full v ≡ true)
KnownPart (place w) = is_full w ≡ true

abbrev pub Known : List Part → Type 0
Known [] = Unit {0}
Known (p ∷ ps) = KnownPart p × Known ps

long : (x : ℕ) (xs : Text) → ltb 0 (length (x ∷ xs)) ≡ true
long x xs = lt-ltb 0 (length (x ∷ xs)) (omega arith)

set_takes : (id : Text) (v : Text) (rows : List Row) (b : Bool) → is_full v ≡ true → has_row id rows ≡ b → none (or_else (repeat_fault false id rows) (or_else (if nat_lt 0 (length v) then [] else kind.InvalidValue ∷ []) [])) ≡ not b
set_takes id [] rows b full e = absurd cc
set_takes id (x ∷ xs) rows true full e = rw e refl
set_takes id (x ∷ xs) rows false full e = rw (e, long x xs) refl

rest_takes : (v : Text) (rows : List Row) → is_full v ≡ true → takes_one false rest v rows ≡ true
rest_takes [] rows full = absurd cc
rest_takes (x ∷ xs) rows full = rw (long x xs) refl

-- ---- one more use

row_there : (rows : List Row) (id : Text) (vs : List Text) → look id rows ≡ some_if vs → has_row id rows ≡ is_some (some_if vs)
row_there rows id vs e = has_row-look id rows ∙ ap is_some e

use_value : (rows : List Row) (values : Text → List Text) (placed : List Text) (n v : Text) → is_name option_names n ≡ true → values n ≡ [] → Holds rows values placed
    → Holds (used (opt n) (v ∷ []) rows) (with_value n v values) placed
use_value rows values placed n v known empty h = record { named = λ m k. at m k (bytes_eq n m) refl; others = look-set n places_id v _ rows free_row ∙ other (bytes_eq n places_id) (not_places n known) }
  where
    free_row : has_row n rows ≡ false
    free_row = row_there rows n (values n) (h.named n known) ∙ ap (λ (vs : List Text). is_some (some_if vs)) empty

    other : (b : Bool) → b ≡ false → (if b then Some (or_nothing (look n rows) ++ v ∷ []) else look places_id rows) ≡ some_if placed
    other true e = absurd cc
    other false e = h.others

    at : (m : Text) → is_name option_names m ≡ true → (b : Bool) → bytes_eq n m ≡ b → look m (used (opt n) (v ∷ []) rows) ≡ some_if (values m ++ (if bytes_eq n m then v ∷ [] else []))
    at m k true e =
        let same : n ≡ m = (bytes_eq-Decides n m).0 e in
        let there : look n rows ≡ some_if (values m) = h.named n known ∙ ap (λ (q : Text). some_if (values q)) same in
        look-set n m v _ rows free_row ∙ rw e (some_more (look n rows) (values m) v there)
    at m k false e = look-set n m v _ rows free_row ∙ rw (e, append-nil (values m)) (h.named m k)

use_place : (rows : List Row) (values : Text → List Text) (placed : List Text) (w : Text) → Holds rows values placed → Holds (used rest (w ∷ []) rows) values (placed ++ w ∷ [])
use_place rows values placed w h = record { named = λ m k. look-added places_id m w _ rows ∙ rw (places_not m k) (h.named m k); others = look-added places_id places_id w _ rows ∙ some_more _ placed w h.others }

-- ---- all parts

-- the parts are taken, and the rows hold them; or an option stands twice
abbrev pub OutcomeOf : Option (List Row) → (Text → List Text) → List Text → Type 0
OutcomeOf end values placed =
    ((rows : List Row) × (end ≡ Some rows) × Holds rows values placed × ((n : Text) → is_name option_names n ≡ true → length (values n) ≤ 1))
    ⊎ ((end ≡ None) × ((n : Text) × (is_name option_names n ≡ true) × (1 < length (values n))))

abbrev pub Outcome : List Part → List Row → (Text → List Text) → List Text → Type 0
Outcome ps rows values placed = OutcomeOf (apply top opt ps 1 rows) (λ n. values n ++ values_of n ps) (placed ++ places ps)

abbrev AreSingle : (Text → List Text) → Type 0
AreSingle values = (n : Text) → is_name option_names n ≡ true → length (values n) ≤ 1

outcome_by : (end : Option (List Row)) (V W : Text → List Text) (P : List Text) → ((n : Text) → V n ≡ W n) → OutcomeOf end V P → OutcomeOf end W P
outcome_by end V W P same (inl r) = inl (r.0, r.1, record { named = λ n k. r.2.named n k ∙ ap some_if (same n); others = r.2.others }, λ n k. subst (λ (vs : List Text). length vs ≤ 1) (same n) (r.3 n k))
outcome_by end V W P same (inr q) = inr (q.0, (q.1.0, q.1.1, subst (λ (vs : List Text). 1 < length vs) (same q.1.0) q.1.2))

value_more : (n v m : Text) (values : Text → List Text) (ps : List Part) → with_value n v values m ++ values_of m ps ≡ values m ++ values_of m (value n v ∷ ps)
value_more n v m values ps = at (bytes_eq n m) refl
  where
    at : (b : Bool) → bytes_eq n m ≡ b → with_value n v values m ++ values_of m ps ≡ values m ++ values_of m (value n v ∷ ps)
    at true e = rw e (append_assoc (values m) (v ∷ []) (values_of m ps))
    at false e = rw (e, append-nil (values m)) refl

single_more : (n v : Text) (values : Text → List Text) → values n ≡ [] → AreSingle values → AreSingle (with_value n v values)
single_more n v values empty single m k = at (bytes_eq n m) refl
  where
    at : (b : Bool) → bytes_eq n m ≡ b → length (with_value n v values m) ≤ 1
    at true e = let none_there : values m ≡ [] = ap values (sym ((bytes_eq-Decides n m).0 e)) ∙ empty in rw (e, none_there) (omega arith)
    at false e = rw (e, append-nil (values m)) (single m k)

abbrev Each : List Part → Type 0
Each ps = (rows : List Row) (values : Text → List Text) (placed : List Text) → Known ps → Holds rows values placed → AreSingle values → Outcome ps rows values placed

value_step : (n v : Text) (ps : List Part) (rows : List Row) (values : Text → List Text) (placed : List Text) → is_name option_names n ≡ true → is_full v ≡ true → Known ps → Holds rows values placed → AreSingle values → Each ps
    → (vs : List Text) → values n ≡ vs → Outcome (value n v ∷ ps) rows values placed
unfolding apply
value_step n v ps rows values placed known full more h single ih [] e =
    let free_row : has_row n rows ≡ false = row_there rows n (values n) (h.named n known) ∙ ap (λ (vs : List Text). is_some (some_if vs)) e in
    rw (set_takes n v rows false full free_row) (outcome_by _ _ _ _ (λ m. value_more n v m values ps) (ih (used (opt n) (v ∷ []) rows) (with_value n v values) placed more (use_value rows values placed n v known e h) (single_more n v values e single)))
value_step n v ps rows values placed known full more h single ih (x ∷ xs) e =
    let row : has_row n rows ≡ true = row_there rows n (values n) (h.named n known) ∙ ap (λ (vs : List Text). is_some (some_if vs)) e in
    let twice : 1 < length (values n ++ values_of n (value n v ∷ ps)) = twice_there in
    rw (set_takes n v rows true full row) (inr (refl, (n, known, twice)))
  where
    twice_there : 1 < length (values n ++ values_of n (value n v ∷ ps))
    twice_there = rw (e, (bytes_eq-Decides n n).1 refl) (omega (arith, length-append xs (v ∷ values_of n ps)))

pub outcome : (ps : List Part) → Each ps
unfolding apply
outcome [] rows values placed known h single = outcome_by _ values _ _ (λ n. sym (append-nil (values n))) (inl (rows, refl, subst (λ (P : List Text). Holds rows values P) (sym (append-nil placed)) h, single))
outcome (value n v ∷ ps) rows values placed known h single = value_step n v ps rows values placed known.0.0 known.0.1 known.1 h single (outcome ps) (values n) refl
outcome (place w ∷ ps) rows values placed known h single =
    rw (rest_takes w rows known.0, ← append_assoc placed (w ∷ []) (places ps)) (outcome ps (used rest (w ∷ []) rows) values (placed ++ w ∷ []) known.1 (use_place rows values placed w h) single)

-- ---- what is said is known

with_known : (p : Part) (o : Option (List Part)) (ps : List Part) → KnownPart p → with_part p o ≡ Some ps → ((qs : List Part) → o ≡ Some qs → Known qs) → Known ps
with_known p None ps k e more = absurd cc
with_known p (Some qs) ps k e more = let g : p ∷ qs ≡ ps = cc in subst Known g (k, more qs refl)

abbrev no_parts : Option (List Part)
no_parts = None

abbrev KnownMode : Mode → Type 0
KnownMode (wants n) = is_name option_names n ≡ true
KnownMode mode = Unit {0}

abbrev AllKnown : List Text → Type 0
AllKnown ws = (mode : Mode) (ps : List Part) → KnownMode mode → parts option_names ws mode ≡ Some ps → Known ps

plain_full : (w : Text) → is_plain w ≡ true → is_full w ≡ true
plain_full [] e = absurd cc
plain_full (x ∷ xs) e = refl

option_known : (known : Bool) (n : Text) (v : Option Text) (ws : List Text) (ps : List Part) → is_name option_names n ≡ known → AllKnown ws → option_step option_names (Some (n, v)) (parts option_names ws) ≡ Some ps → Known ps
option_known false n None ws ps k all e = let g : no_parts ≡ Some ps = rw k at e in absurd cc
option_known false n (Some v) ws ps k all e = let g : no_parts ≡ Some ps = rw k at e in absurd cc
option_known true n None ws ps k all e = all (wants n) ps k (rw k at e)
option_known true n (Some []) ws ps k all e = let g : no_parts ≡ Some ps = rw k at e in absurd cc
option_known true n (Some (x ∷ xs)) ws ps k all e = with_known (value n (x ∷ xs)) (parts option_names ws free) ps (k, refl) (rw k at e) (λ qs f. all free qs tt f)

step_known : (mode : Mode) (w : Text) (ws : List Text) (ps : List Part) → AllKnown ws → KnownMode mode → word_step option_names mode w (parts option_names ws) ≡ Some ps → Known ps
step_known ended [] ws ps all ok e = absurd cc
step_known ended (x ∷ xs) ws ps all ok e = with_known (place (x ∷ xs)) (parts option_names ws ended) ps refl e (λ qs f. all ended qs tt f)
step_known (wants n) w ws ps all ok e = at (is_plain w) refl e
  where
    at : (b : Bool) → is_plain w ≡ b → (if b then with_part (value n w) (parts option_names ws free) else None) ≡ Some ps → Known ps
    at true p e = with_known (value n w) (parts option_names ws free) ps (ok, plain_full w p) e (λ qs f. all free qs tt f)
    at false p e = absurd cc
step_known free w ws ps all ok e = at (is_plain w) (bytes_eq w (45 ∷ 45 ∷ [])) (option_of w) refl e
  where
    at : (b c : Bool) (o : Option (Text × Option Text)) → is_plain w ≡ b
        → (if b then with_part (place w) (parts option_names ws free) else (if c then parts option_names ws ended else option_step option_names o (parts option_names ws))) ≡ Some ps → Known ps
    at true c o p e = with_known (place w) (parts option_names ws free) ps (plain_full w p) e (λ qs f. all free qs tt f)
    at false true o p e = all ended ps tt e
    at false false None p e = absurd cc
    at false false (Some (n, v)) p e = option_known (is_name option_names n) n v ws ps refl all e

end_known : (mode : Mode) (ps : List Part) → at_end mode ≡ Some ps → Known ps
end_known free ps e = let g : [] ≡ ps = cc in subst Known g tt
end_known ended ps e = let g : [] ≡ ps = cc in subst Known g tt
end_known (wants n) ps e = absurd cc

pub all_known : (ws : List Text) → AllKnown ws
unfolding parts
all_known [] mode ps ok e = end_known mode ps e
all_known (w ∷ ws) mode ps ok e = step_known mode w ws ps (all_known ws) ok e
