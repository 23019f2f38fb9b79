-- What `clap` makes of the words is what they say.
use Rattle.std.proofs.Common.{◌≡◌, ◌∷◌, [], ℕ, List, Bool, true, false, not, refl, ap, sym, ◌∙◌, subst, eqb, Option, Some, None, ◌&&◌, ◌||◌}
use Rattle.std.specs.Prelude.{fold, if◌then◌else◌, nat_lt}
use Rattle.std.specs.List.{list_any, before_first, after_first}
use Rattle.std.proofs.lemmas.Bool.{eqb-true}
use Rattle.std.proofs.lemmas.Slice.Eq.{bytes_eq-Decides}
use Rattle.std.specs.Option.{option_map_or}
use Rattle.std.specs.Str.{bytes_eq}
use Rattle.clap.specs.Lexer.{long_of, short_of}
use Rattle.clap.specs.Kinds.{Kinds, or_else, range_kinds}
use Rattle.clap.specs.Facts.{unwrap_or_range}
use Rattle.clap.specs.Walk.{Row, Rule, Held, Walk, Waiting, idle, option, positional, walked, settled, used, pushed, arg_by_id, arg_by_long, arg_by_index, takes_values, most_values, takes_several, subcommand_met, next_position, reacted, is_multiple, to_positional, plain_word, positional_held, is_pending, value as step_value}
use Rattle.clap.specs.Simple.{Shape}
use Rattle.clap.specs.Faults.{walk_fault, turn_fault, settle_fault, use_fault, positional_fault, stray_fault}
use Rattle.clap.specs.declared.error.kind.ErrorKind.TheVariants as kind
use Rattle.clap.specs.declared.builder.range.ValueRange.{ValueRange}
use Rattle.mv_words.specs.Words.{Text, Part, value, place, Mode, free, wants, ended, parts, option_step, is_plain, is_full, is_name, option_of, with_part}
use Rattle.mv_words.specs.Hyphens.{has_short}

-- our words on an option are those of clap
option_of_is : (w : Text) → option_of w ≡ long_of w
option_of_is w = refl

abbrev pub none : Kinds → Bool
none [] = true
none (k ∷ ks) = false

none_or_else : (a b : Kinds) → none (or_else a b) ≡ (none a && none b)
none_or_else [] b = refl
none_or_else (k ∷ ks) b = refl

-- one use takes one value
abbrev one_each : ValueRange
one_each = record { start_inclusive = 1; end_inclusive = 1 }

pub record IsSingle (a : Rule) : Type 0 where
  pub range : a.range ≡ Some one_each

single_takes : (a : Rule) → IsSingle a → takes_values a ≡ true
single_takes a h = ap (λ (r : Option ValueRange). not (eqb (unwrap_or_range r).end_inclusive 0)) h.range

single_several : (a : Rule) → IsSingle a → takes_several a ≡ false
single_several a h = ap (λ (r : Option ValueRange). not (eqb (unwrap_or_range r).start_inclusive (unwrap_or_range r).end_inclusive) || nat_lt 1 (unwrap_or_range r).start_inclusive) h.range

single_most : (a : Rule) → IsSingle a → most_values a ≡ 1
single_most a h = ap (λ (r : Option ValueRange). (unwrap_or_range r).end_inclusive) h.range

no_subcommand : (wt : Waiting) (w : Text) → subcommand_met [] wt w ≡ None
no_subcommand idle w = refl
no_subcommand (option id) w = refl
no_subcommand positional w = refl

same_is_true : (x : Text) → true ≡ bytes_eq x x
same_is_true x = sym ((bytes_eq-Decides x x).1 refl)

-- ---- the run, as one value

abbrev pub chosen : Bool → List Row → Option (List Row)
chosen b rows = if b then Some rows else None

abbrev pub run : Shape → Walk → List Text → Option (List Row)
run s w ws =
    let end = (fold (walked s.rules []) w ws).held in
    chosen (none (or_else (walk_fault s [] w ws) (settle_fault s.rules s.args_override_self end))) (settled s.rules end).rows

step_lemma : (t more last : Kinds) (rows : List Row) → chosen (none (or_else (or_else t more) last)) rows ≡ (if none t then chosen (none (or_else more last)) rows else None)
step_lemma [] more last rows = refl
step_lemma (k ∷ ks) more last rows = refl

pub run_more : (s : Shape) (w : Walk) (word : Text) (ws : List Text) → run s w (word ∷ ws) ≡ (if none (turn_fault s [] w word) then run s (walked s.rules [] w word) ws else None)
unfolding walk_fault
run_more s w word ws =
    let end = (fold (walked s.rules []) (walked s.rules [] w word) ws).held in
    step_lemma (turn_fault s [] w word) (walk_fault s [] (walked s.rules [] w word) ws) (settle_fault s.rules s.args_override_self end) (settled s.rules end).rows

-- ---- the same run, over what the words say

abbrev pub takes_one : Bool → Rule → Text → List Row → Bool
takes_one again a v rows = none (use_fault again a (v ∷ []) rows)

abbrev pub Next : Type 0
Next = ℕ → List Row → Option (List Row)

abbrev pub place_step : Bool → Option Rule → Text → ℕ → List Row → Next → Option (List Row)
place_step again None w i rows next = None
place_step again (Some a) w i rows next = if takes_one again a w rows then next (next_position a i) (used a (w ∷ []) rows) else None

abbrev pub part_step : Shape → (Text → Rule) → Part → ℕ → List Row → Next → Option (List Row)
part_step s opt (value n v) i rows next = if takes_one s.args_override_self (opt n) v rows then next i (used (opt n) (v ∷ []) rows) else None
part_step s opt (place w) i rows next = place_step s.args_override_self (arg_by_index s.rules i) w i rows next

-- the rows after these parts, from the place i on
unfoldable pub apply : Shape → (Text → Rule) → List Part → ℕ → List Row → Option (List Row)
apply s opt [] i rows = Some rows
apply s opt (p ∷ ps) i rows = part_step s opt p i rows (apply s opt ps)

abbrev pub after : Shape → (Text → Rule) → Option (List Part) → ℕ → List Row → Option (List Row)
after s opt None i rows = None
after s opt (Some ps) i rows = apply s opt ps i rows

-- what the walk reads of the command
pub record Knows (s : Shape) (names : List Text) (opt : Text → Rule) : Type 0 where
  pub long_yes : (n : Text) → is_name names n ≡ true → arg_by_long s.rules n ≡ Some (opt n)
  pub long_no : (n : Text) → is_name names n ≡ false → arg_by_long s.rules n ≡ None
  pub opt_found : (n : Text) → is_name names n ≡ true → arg_by_id s.rules (opt n).id ≡ Some (opt n)
  pub opt_single : (n : Text) → IsSingle (opt n)
  pub place_found : (i : ℕ) (a : Rule) → arg_by_index s.rules i ≡ Some a → arg_by_id s.rules a.id ≡ Some a
  pub place_single : (i : ℕ) (a : Rule) → arg_by_index s.rules i ≡ Some a → IsSingle a
  pub place_var : (i : ℕ) (a : Rule) → arg_by_index s.rules i ≡ Some a → a.trailing_var_arg ≡ false
  pub empty_option : (n : Text) (rows : List Row) → takes_one s.args_override_self (opt n) [] rows ≡ false
  pub empty_place : (i : ℕ) (a : Rule) (rows : List Row) → arg_by_index s.rules i ≡ Some a → takes_one s.args_override_self a [] rows ≡ false

abbrev pub state : Held → Waiting → ℕ → Bool → Walk
state h wt i trailing = record { held = h; waiting = wt; position = i; is_trailing = trailing; stopped = None }

abbrev pub settles : Shape → Held → Bool
settles s h = none (settle_fault s.rules s.args_override_self h)

-- where the pending use passes, the rows after the parts
abbrev pub settled_after : Shape → (Text → Rule) → Held → Option (List Part) → ℕ → Option (List Row)
settled_after s opt h ps i = if settles s h then after s opt ps i (settled s.rules h).rows else None

abbrev pub IsFree : Waiting → Type 0
IsFree (option id) = ⊥
IsFree _ = Unit {0}

abbrev pub held_with : List Row → Text → Text → ℕ → Held
held_with rows id v k = record { rows = rows; pending = Some (id, v ∷ []); skip = k }

module _ (s : Shape) (names : List Text) (opt : Text → Rule) (knows : Knows s names opt) where
  -- a pending use of one value
  settled_one : (a : Rule) (rows : List Row) (v : Text) (k : ℕ) (ps : Option (List Part)) (i : ℕ) → arg_by_id s.rules a.id ≡ Some a
      → settled_after s opt (held_with rows a.id v k) ps i ≡ (if takes_one s.args_override_self a v rows then after s opt ps i (used a (v ∷ []) rows) else None)
  settled_one a rows v k ps i e = rw e refl

  stray_some : none (stray_fault s) ≡ false
  stray_some = at s.is_leaf
    where
      at : (b : Bool) → none (if b then kind.UnknownArgument ∷ [] else kind.UnknownArgument ∷ kind.InvalidSubcommand ∷ []) ≡ false
      at true = refl
      at false = refl

  abbrev no_rows : Option (List Row)
  no_rows = None

  never : (b : Bool) → no_rows ≡ (if b then no_rows else no_rows)
  never true = refl
  never false = refl

  both_never : (b : Bool) (x : Option (List Row)) → x ≡ None → None ≡ (if b then x else None)
  both_never b x e = rw e (never b)

  -- the parts from one more on
  after_with : (p : Part) (ps : Option (List Part)) (i : ℕ) (rows : List Row) → after s opt (with_part p ps) i rows ≡ part_step s opt p i rows (after s opt ps)
  unfolding apply
  after_with p (Some qs) i rows = refl
  after_with (value n v) None i rows = never (takes_one s.args_override_self (opt n) v rows)
  after_with (place w) None i rows = at (arg_by_index s.rules i)
    where
      at : (found : Option Rule) → None ≡ place_step s.args_override_self found w i rows (λ j r. None)
      at None = refl
      at (Some a) = never (takes_one s.args_override_self a w rows)

  -- an empty word is refused by its parser, and not full
  full_place : (w : Text) (ps : Option (List Part)) (i : ℕ) (a : Rule) (rows : List Row) → arg_by_index s.rules i ≡ Some a
      → (if takes_one s.args_override_self a w rows then after s opt ps (next_position a i) (used a (w ∷ []) rows) else None)
      ≡ after s opt (if is_full w then with_part (place w) ps else None) i rows
  full_place [] ps i a rows e = rw (knows.empty_place i a rows e) refl
  full_place (x ∷ xs) ps i a rows e = sym (after_with (place (x ∷ xs)) ps i rows ∙ rw e refl)

  no_place : (w : Text) (ps : Option (List Part)) (i : ℕ) (rows : List Row) → arg_by_index s.rules i ≡ None
      → after s opt (if is_full w then with_part (place w) ps else None) i rows ≡ None
  no_place [] ps i rows e = refl
  no_place (x ∷ xs) ps i rows e = after_with (place (x ∷ xs)) ps i rows ∙ rw e refl

  under : (b : Bool) (x y : Option (List Row)) → x ≡ y → (if b then x else None) ≡ (if b then y else None)
  under b x y e = ap (λ (z : Option (List Row)). if b then z else None) e

  free_choice : (b : Bool) → IsFree (if b then positional else idle)
  free_choice true = tt
  free_choice false = tt

  and_false : (b : Bool) → (b && false) ≡ false
  and_false true = refl
  and_false false = refl

  choose_right : {X : Type 0} (b c : Bool) (x y : X) → c ≡ false → (if (b && c) then x else y) ≡ y
  choose_right true c x y e = rw e refl
  choose_right false c x y e = refl

  or_false : (b : Bool) → (b || false) ≡ b
  or_false true = refl
  or_false false = refl

  place_tail : (t : Bool) (mode : Mode) (found : Option Rule) (w : Text) (ws : List Text) (h : Held) (wt : Waiting) (i : ℕ) → h.skip ≡ 0 → arg_by_index s.rules i ≡ found
      → ((h' : Held) (wt' : Waiting) (j : ℕ) → h'.skip ≡ 0 → IsFree wt' → run s (state h' wt' j t) ws ≡ settled_after s opt h' (parts names ws mode) j)
      → (if none (option_map_or (λ a. positional_fault s.rules s.args_override_self a h) found (stray_fault s)) then run s (to_positional s.rules found w (state h wt i t) h) ws else None)
      ≡ settled_after s opt h (if is_full w then with_part (place w) (parts names ws mode) else None) i
  place_tail t mode None w ws h wt i skip e ih =
      rw stray_some (both_never (settles s h) _ (no_place w (parts names ws mode) i (settled s.rules h).rows e))
  place_tail t mode (Some a) w ws h wt i skip e ih =
      let several = single_several a (knows.place_single i a e) in
      let rows = (settled s.rules h).rows in
      let E : Kinds → Held → Bool → Option (List Row) = λ f g tr. if none f then run s (state g (if is_multiple a then positional else idle) (next_position a i) tr) ws else None in
      let fault : positional_fault s.rules s.args_override_self a h ≡ settle_fault s.rules s.args_override_self h = choose_right (is_pending a h.pending) (takes_several a) [] (settle_fault s.rules s.args_override_self h) several in
      let held : positional_held s.rules a w h ≡ held_with rows a.id w h.skip = ap (pushed a.id w) (choose_right (is_pending a h.pending) (takes_several a) h (settled s.rules h) several) in
      let trailing : (t || a.trailing_var_arg) ≡ t = ap (λ (b : Bool). t || b) (knows.place_var i a e) ∙ or_false t in
      ap (λ (f : Kinds). E f (positional_held s.rules a w h) (t || a.trailing_var_arg)) fault
      ∙ ap (λ (g : Held). E (settle_fault s.rules s.args_override_self h) g (t || a.trailing_var_arg)) held
      ∙ ap (E (settle_fault s.rules s.args_override_self h) (held_with rows a.id w h.skip)) trailing
      ∙ under (settles s h) _ _ (ih (held_with rows a.id w h.skip) (if is_multiple a then positional else idle) (next_position a i) skip (free_choice (is_multiple a))
      ∙ settled_one a rows w h.skip (parts names ws mode) (next_position a i) (knows.place_found i a e) ∙ full_place w (parts names ws mode) i a rows e)

  -- a word after `--`
  trail : (w : Text) (ws : List Text) (h : Held) (wt : Waiting) (i : ℕ) → h.skip ≡ 0
      → ((h' : Held) (wt' : Waiting) (j : ℕ) → h'.skip ≡ 0 → run s (state h' wt' j true) ws ≡ settled_after s opt h' (parts names ws ended) j)
      → run s (state h wt i true) (w ∷ ws) ≡ settled_after s opt h (parts names (w ∷ ws) ended) i
  unfolding walked parts
  trail w ws h wt i skip ih =
      run_more s (state h wt i true) w ws ∙ place_tail true ended (arg_by_index s.rules i) w ws h wt i skip refl (λ h' wt' j e f. ih h' wt' j e)

  plain_free : (wt : Waiting) (w : Text) (h : Held) → IsFree wt → plain_word s.rules wt w h ≡ (h, step_value)
  plain_free idle w h f = refl
  plain_free (option id) w h f = absurd f
  plain_free positional w h f = refl

  -- a word by place
  free_place : (w : Text) (ws : List Text) (h : Held) (wt : Waiting) (i : ℕ) → h.skip ≡ 0 → IsFree wt
      → bytes_eq w (45 ∷ 45 ∷ []) ≡ false → long_of w ≡ None → short_of w ≡ None
      → ((h' : Held) (wt' : Waiting) (j : ℕ) → h'.skip ≡ 0 → IsFree wt' → run s (state h' wt' j false) ws ≡ settled_after s opt h' (parts names ws free) j)
      → run s (state h wt i false) (w ∷ ws) ≡ settled_after s opt h (if is_full w then with_part (place w) (parts names ws free) else None) i
  unfolding walked
  free_place w ws h wt i skip f ends long short ih =
      run_more s (state h wt i false) w ws
      ∙ rw (no_subcommand wt w, ends, long, short, plain_free wt w h f)
      (place_tail false free (arg_by_index s.rules i) w ws h wt i skip refl ih)

  -- ---- options

  -- an option that wants its value
  abbrev hungry : Text → List Row → ℕ → Held
  hungry n rows k = record { rows = rows; pending = Some ((opt n).id, []); skip = k }

  single_range : (a : Rule) → IsSingle a → range_kinds (unwrap_or_range a.range).start_inclusive (most_values a) 0 ≡ kind.InvalidValue ∷ []
  single_range a h = ap (λ (r : Option ValueRange). range_kinds (unwrap_or_range r).start_inclusive (unwrap_or_range r).end_inclusive 0) h.range

  starved : (n : Text) (rows : List Row) (k : ℕ) → is_name names n ≡ true → settles s (hungry n rows k) ≡ false
  starved n rows k e = rw (knows.opt_found n e, single_range (opt n) (knows.opt_single n)) refl

  -- `--name=value`
  full_value : (n v : Text) (ps : Option (List Part)) (i : ℕ) (rows : List Row)
      → (if takes_one s.args_override_self (opt n) v rows then after s opt ps i (used (opt n) (v ∷ []) rows) else None)
      ≡ after s opt (if is_full v then with_part (value n v) ps else None) i rows
  full_value n [] ps i rows = rw (knows.empty_option n rows) refl
  full_value n (x ∷ xs) ps i rows = sym (after_with (value n (x ∷ xs)) ps i rows)

  nothing_after : (b : Bool) (i : ℕ) (rows : List Row) → no_rows ≡ (if b then after s opt None i rows else None)
  nothing_after b i rows = never b

  and_choice : (a b : Kinds) (x : Option (List Row)) → (if none (or_else (or_else a b) []) then x else None) ≡ (if none a then (if none b then x else None) else None)
  and_choice [] [] x = refl
  and_choice [] (k ∷ ks) x = refl
  and_choice (k ∷ ks) b x = refl

  alone : (a : Kinds) (x : Option (List Row)) → (if none (or_else a []) then x else None) ≡ (if none a then x else None)
  alone [] x = refl
  alone (k ∷ ks) x = refl

  free_option : (known : Bool) (w n : Text) (v : Option Text) (ws : List Text) (h : Held) (wt : Waiting) (i : ℕ) → h.skip ≡ 0 → IsFree wt
      → bytes_eq w (45 ∷ 45 ∷ []) ≡ false → long_of w ≡ Some (n, v) → is_name names n ≡ known
      → ((h' : Held) (wt' : Waiting) (j : ℕ) → h'.skip ≡ 0 → IsFree wt' → run s (state h' wt' j false) ws ≡ settled_after s opt h' (parts names ws free) j)
      → ((m : Text) (rows : List Row) (k j : ℕ) → k ≡ 0 → is_name names m ≡ true → run s (state (hungry m rows k) (option (opt m).id) j false) ws ≡ after s opt (parts names ws (wants m)) j rows)
      → run s (state h wt i false) (w ∷ ws) ≡ settled_after s opt h (option_step names (Some (n, v)) (parts names ws)) i
  unfolding walked
  free_option false w n None ws h wt i skip f ends long name ih ih_wants =
      run_more s (state h wt i false) w ws ∙ rw (no_subcommand wt w, ends, long, knows.long_no n name, name) (nothing_after (settles s h) i (settled s.rules h).rows)
  free_option false w n (Some v) ws h wt i skip f ends long name ih ih_wants =
      run_more s (state h wt i false) w ws ∙ rw (no_subcommand wt w, ends, long, knows.long_no n name, name) (nothing_after (settles s h) i (settled s.rules h).rows)
  free_option true w n None ws h wt i skip f ends long name ih ih_wants =
      let rows = (settled s.rules h).rows in
      run_more s (state h wt i false) w ws ∙ rw (no_subcommand wt w, ends, long, knows.long_yes n name, single_takes (opt n) (knows.opt_single n), name)
      (alone (settle_fault s.rules s.args_override_self h) (run s (state (hungry n rows h.skip) (option (opt n).id) i false) ws) ∙ under (settles s h) _ _ (ih_wants n rows h.skip i skip name))
  free_option true w n (Some v) ws h wt i skip f ends long name ih ih_wants =
      let rows = (settled s.rules h).rows in
      let met = reacted s.rules (opt n) (v ∷ []) h in
      run_more s (state h wt i false) w ws ∙ rw (no_subcommand wt w, ends, long, knows.long_yes n name, single_takes (opt n) (knows.opt_single n), name)
      (and_choice (settle_fault s.rules s.args_override_self h) (use_fault s.args_override_self (opt n) (v ∷ []) rows) (run s (state met idle i false) ws)
      ∙ under (settles s h) _ _ (under (takes_one s.args_override_self (opt n) v rows) _ _ (ih met idle i skip tt) ∙ full_value n v (parts names ws free) i rows))

  -- ---- the word after an option that wants its value

  starved_then : (a : Kinds) (x : Option (List Row)) → none a ≡ false → (if none a then x else None) ≡ no_rows
  starved_then a x e = rw e refl

  -- `--`
  wants_ends : (n : Text) (rows : List Row) (k : ℕ) (ws : List Text) (i : ℕ) → k ≡ 0 → is_name names n ≡ true
      → ((h' : Held) (wt' : Waiting) (j : ℕ) → h'.skip ≡ 0 → run s (state h' wt' j true) ws ≡ settled_after s opt h' (parts names ws ended) j)
      → run s (state (hungry n rows k) (option (opt n).id) i false) ((45 ∷ 45 ∷ []) ∷ ws) ≡ no_rows
  unfolding walked
  wants_ends n rows k ws i skip name ih =
      run_more s (state (hungry n rows k) (option (opt n).id) i false) (45 ∷ 45 ∷ []) ws
      ∙ ih (hungry n rows k) (option (opt n).id) i skip ∙ rw (starved n rows k name) refl

  -- another option
  wants_option : (known : Bool) (w m : Text) (v : Option Text) (n : Text) (rows : List Row) (k : ℕ) (ws : List Text) (i : ℕ) → is_name names n ≡ true
      → bytes_eq w (45 ∷ 45 ∷ []) ≡ false → long_of w ≡ Some (m, v) → is_name names m ≡ known
      → run s (state (hungry n rows k) (option (opt n).id) i false) (w ∷ ws) ≡ no_rows
  unfolding walked
  wants_option false w m v n rows k ws i name ends long other =
      run_more s (state (hungry n rows k) (option (opt n).id) i false) w ws ∙ rw (ends, long, knows.long_no m other) refl
  wants_option true w m None n rows k ws i name ends long other =
      run_more s (state (hungry n rows k) (option (opt n).id) i false) w ws ∙ rw (ends, long, knows.long_yes m other, single_takes (opt m) (knows.opt_single m))
      (alone (settle_fault s.rules s.args_override_self (hungry n rows k)) _ ∙ starved_then (settle_fault s.rules s.args_override_self (hungry n rows k)) _ (starved n rows k name))
  wants_option true w m (Some v) n rows k ws i name ends long other =
      run_more s (state (hungry n rows k) (option (opt n).id) i false) w ws ∙ rw (ends, long, knows.long_yes m other, single_takes (opt m) (knows.opt_single m))
      (and_choice (settle_fault s.rules s.args_override_self (hungry n rows k)) _ _ ∙ starved_then (settle_fault s.rules s.args_override_self (hungry n rows k)) _ (starved n rows k name))

  -- one value is enough
  has_enough : (n : Text) → (if nat_lt (if bytes_eq (opt n).id (opt n).id then 1 else 0) (most_values (opt n)) then option (opt n).id else idle) ≡ idle
  has_enough n = rw (single_most (opt n) (knows.opt_single n), sym (same_is_true (opt n).id)) refl

  -- a value
  wants_value : (w n : Text) (rows : List Row) (k : ℕ) (ws : List Text) (i : ℕ) → k ≡ 0 → is_name names n ≡ true
      → bytes_eq w (45 ∷ 45 ∷ []) ≡ false → long_of w ≡ None → short_of w ≡ None
      → ((h' : Held) (wt' : Waiting) (j : ℕ) → h'.skip ≡ 0 → IsFree wt' → run s (state h' wt' j false) ws ≡ settled_after s opt h' (parts names ws free) j)
      → run s (state (hungry n rows k) (option (opt n).id) i false) (w ∷ ws) ≡ after s opt (if is_full w then with_part (value n w) (parts names ws free) else None) i rows
  unfolding walked
  wants_value w n rows k ws i skip name ends long short ih =
      run_more s (state (hungry n rows k) (option (opt n).id) i false) w ws
      ∙ rw (ends, long, short, knows.opt_found n name) (ap (λ (wt : Waiting). run s (state (pushed (opt n).id w (hungry n rows k)) wt i false) ws) (has_enough n)
      ∙ ih (pushed (opt n).id w (hungry n rows k)) idle i skip tt ∙ settled_one (opt n) rows w k (parts names ws free) i (knows.opt_found n name) ∙ full_value n w (parts names ws free) i rows)

  -- ---- all words

  abbrev FreeTold : List Text → Type 0
  FreeTold ws = (h : Held) (wt : Waiting) (i : ℕ) → h.skip ≡ 0 → IsFree wt → run s (state h wt i false) ws ≡ settled_after s opt h (parts names ws free) i

  abbrev EndedTold : List Text → Type 0
  EndedTold ws = (h : Held) (wt : Waiting) (i : ℕ) → h.skip ≡ 0 → run s (state h wt i true) ws ≡ settled_after s opt h (parts names ws ended) i

  abbrev WantsTold : List Text → Type 0
  WantsTold ws = (n : Text) (rows : List Row) (k i : ℕ) → k ≡ 0 → is_name names n ≡ true → run s (state (hungry n rows k) (option (opt n).id) i false) ws ≡ after s opt (parts names ws (wants n)) i rows

  ended_told : (ws : List Text) → EndedTold ws
  unfolding parts walk_fault apply
  ended_told [] h wt i skip = refl
  ended_told (w ∷ ws) h wt i skip = trail w ws h wt i skip (ended_told ws)

  abbrev BothTold : List Text → Type 0
  BothTold ws = FreeTold ws × WantsTold ws

  told_plain : (w : Text) (ws : List Text) → bytes_eq w (45 ∷ 45 ∷ []) ≡ false → long_of w ≡ None → short_of w ≡ None → is_plain w ≡ is_full w → FreeTold ws → BothTold (w ∷ ws)
  unfolding parts
  told_plain w ws ends long short plain ih = (
    λ h wt i skip f. free_place w ws h wt i skip f ends long short ih ∙ ap (λ (ps : Option (List Part)). settled_after s opt h ps i) (free_parts (is_plain w) plain),
    λ n rows k i skip name. wants_value w n rows k ws i skip name ends long short ih ∙ ap (λ (b : Bool). after s opt (if b then with_part (value n w) (parts names ws free) else None) i rows) (sym plain),
  )
    where
      free_parts : (b : Bool) → b ≡ is_full w → (if is_full w then with_part (place w) (parts names ws free) else None)
          ≡ (if b then with_part (place w) (parts names ws free) else (if bytes_eq w (45 ∷ 45 ∷ []) then parts names ws ended else option_step names (option_of w) (parts names ws)))
      free_parts true e = rw (← e) refl
      free_parts false e = rw (← e, ends, option_of_is w ∙ long) refl

  free_ends : (ws : List Text) (h : Held) (wt : Waiting) (i : ℕ) → h.skip ≡ 0 → run s (state h wt i false) ((45 ∷ 45 ∷ []) ∷ ws) ≡ settled_after s opt h (parts names ws ended) i
  unfolding walked
  free_ends ws h wt i skip = run_more s (state h wt i false) (45 ∷ 45 ∷ []) ws ∙ rw (no_subcommand wt (45 ∷ 45 ∷ [])) (ended_told ws h wt i skip)

  told_ends : (ws : List Text) → BothTold ((45 ∷ 45 ∷ []) ∷ ws)
  unfolding parts
  told_ends ws = (λ h wt i skip f. free_ends ws h wt i skip, λ n rows k i skip name. wants_ends n rows k ws i skip name (ended_told ws))

  abbrev name : ℕ → Text → Text
  name z zs = before_first (λ b. eqb b 61) (z ∷ zs)

  abbrev given : ℕ → Text → Option Text
  given z zs = if list_any (λ b. eqb b 61) (z ∷ zs) then Some (after_first (λ b. eqb b 61) (z ∷ zs)) else None

  told_option : (z : ℕ) (zs : Text) (ws : List Text) → BothTold ws → BothTold ((45 ∷ 45 ∷ z ∷ zs) ∷ ws)
  unfolding parts
  told_option z zs ws ih = (
    λ h wt i skip f. free_option (is_name names (name z zs)) (45 ∷ 45 ∷ z ∷ zs) (name z zs) (given z zs) ws h wt i skip f refl refl refl ih.0 ih.1,
    λ n rows k i skip known. wants_option (is_name names (name z zs)) (45 ∷ 45 ∷ z ∷ zs) (name z zs) (given z zs) n rows k ws i known refl refl refl,
  )

  plain_rest : (x : ℕ) (xs : Text) (ws : List Text) → eqb x 45 ≡ false → has_short ((x ∷ xs) ∷ ws) ≡ has_short ws
  plain_rest x [] ws e = rw e refl
  plain_rest x (y ∷ ys) ws e = rw e refl

  told_hyphens : (ys : Text) (ws : List Text) → (has_short ws ≡ false → BothTold ws) → has_short ((45 ∷ 45 ∷ ys) ∷ ws) ≡ false → BothTold ((45 ∷ 45 ∷ ys) ∷ ws)
  told_hyphens [] ws ih ok = told_ends ws
  told_hyphens (z ∷ zs) ws ih ok = told_option z zs ws (ih ok)

  told_hyphen : (xs : Text) (ws : List Text) → (has_short ws ≡ false → BothTold ws) → has_short ((45 ∷ xs) ∷ ws) ≡ false → BothTold ((45 ∷ xs) ∷ ws)
  told_hyphen [] ws ih ok = absurd cc
  told_hyphen (y ∷ ys) ws ih ok = at (eqb y 45) refl
    where
      no_short : eqb y 45 ≡ false → has_short ((45 ∷ y ∷ ys) ∷ ws) ≡ false → ⊥
      no_short e ok = let bad : true ≡ false = rw e at ok in absurd cc

      at : (b : Bool) → eqb y 45 ≡ b → BothTold ((45 ∷ y ∷ ys) ∷ ws)
      at true e = subst (λ (q : ℕ). BothTold ((45 ∷ q ∷ ys) ∷ ws)) (sym (eqb-true y 45 e)) (told_hyphens ys ws ih (subst (λ (q : ℕ). has_short ((45 ∷ q ∷ ys) ∷ ws) ≡ false) (eqb-true y 45 e) ok))
      at false e = absurd (no_short e ok)

  told_word : (x : ℕ) (xs : Text) (ws : List Text) → (has_short ws ≡ false → BothTold ws) → has_short ((x ∷ xs) ∷ ws) ≡ false → BothTold ((x ∷ xs) ∷ ws)
  told_word x xs ws ih ok = at (eqb x 45) refl
    where
      at : (b : Bool) → eqb x 45 ≡ b → BothTold ((x ∷ xs) ∷ ws)
      at true e = subst (λ (q : ℕ). BothTold ((q ∷ xs) ∷ ws)) (sym (eqb-true x 45 e)) (told_hyphen xs ws ih (subst (λ (q : ℕ). has_short ((q ∷ xs) ∷ ws) ≡ false) (eqb-true x 45 e) ok))
      at false e = told_plain (x ∷ xs) ws (rw e refl) (rw e refl) (rw e refl) (rw e refl) (ih (sym (plain_rest x xs ws e) ∙ ok)).0

  -- where no word before `--` has one hyphen alone at its front
  told : (ws : List Text) → has_short ws ≡ false → BothTold ws
  unfolding parts walk_fault apply
  told [] ok = ((λ h wt i skip f. refl), λ n rows k i skip name. rw (starved n rows k name) refl)
  told ([] ∷ ws) ok = told_plain [] ws refl refl refl refl (told ws ok).0
  told ((x ∷ xs) ∷ ws) ok = told_word x xs ws (told ws) ok

  -- the rows that the words give
  pub run_is : (ws : List Text) → has_short ws ≡ false → run s (state (record { rows = []; pending = None; skip = 0 }) idle 1 false) ws ≡ after s opt (parts names ws free) 1 []
  run_is ws ok = (told ws ok).0 (record { rows = []; pending = None; skip = 0 }) idle 1 refl tt
