-- Lines of the grammar have no fault.
use Rattle.std.proofs.Common.{◌≡◌, inl, inr, ℕ, ◌<◌, ◌≤◌, ◌&&◌, Bool, true, false, not, List, [], ◌∷◌, length, refl, ap, sym, ◌∙◌, subst, arith, zero-add}
use Rattle.std.proofs.lemmas.Grind.{common_steps}
use Rattle.std.specs.Prelude.{nat_le, nat_lt}
use Rattle.std.specs.List.{list_any}
use Rattle.mv_rules.specs.declared.rule.Pattern.{Pattern}
use Rattle.mv_rules.specs.declared.rule.Guard.{Guard}
use Rattle.mv_rules.specs.declared.rule.Rule.{Rule}
use Rattle.mv_rules.specs.declared.rule.Comparison.{Comparison}
use Rattle.mv_rules.specs.declared.rule.Comparison.TheVariants.{Equal, Less, Greater}
use Rattle.mv_scan.specs.declared.found.Found.{Found}
use Rattle.mv_scan.specs.declared.found.Found.TheVariants.{Is}
use Rattle.mv_rules.specs.declared.line.Line.{Line}
use Rattle.mv_rules.specs.declared.line.Line.TheVariants as lines
use Rattle.mv_rules.specs.declared.reading.Version.{Version}
use Rattle.mv_rules.specs.declared.reading.Version.TheVariants.{First, Second}
use Rattle.mv_rules.specs.declared.reading.Phase.{Phase}
use Rattle.mv_rules.specs.declared.reading.Phase.TheVariants.{Outside, InLeft, InRight}
use Rattle.mv_rules.specs.declared.reading.Reading.{Reading}
use Rattle.mv_scan.specs.declared.token.Token.{Token}
use Rattle.mv_scan.specs.declared.token.Token.TheVariants.{Plain}
use Rattle.mv_rules.specs.declared.verb.Verb.{Verb}
use Rattle.mv_rules.specs.declared.verb.Verb.TheVariants as verbs
use Rattle.mv_scan.specs.Found.{found_map, pair, is_other}
use Rattle.mv_rules.specs.Forms.{item_of, guard_of, guard_made, byte_name_of, comparison_of, part_of}
use Rattle.mv_scan.specs.Numbers.{number_of}
use Rattle.mv_rules.specs.Names.{has_good_names, rest_is_last, parts_in, is_sized, is_all_bound, bytes_are_bound}
use Rattle.mv_scan.specs.Names.{is_name}
use Rattle.mv_rules.specs.RulesText.{line_of, part_count, lengths_stand}
use Rattle.mv_scan.specs.Words.{is_bad_text}
use Rattle.mv_rules.specs.ItemGrammar.{Side, Left, Right, SpellsGuard, sign_of}
use Rattle.mv_rules.proofs.GrammarTerms.{lengths_on}
use Rattle.mv_scan.proofs.NumberLaws.{number_found}
use Rattle.mv_rules.proofs.GrammarItems.{word_of}
use Rattle.mv_rules.proofs.GrammarGiven.{IsGiven, item_given, pair_found, and_true, or_false}
use Rattle.mv_rules.proofs.GrammarSteps.{Leaves}
use Rattle.mv_rules.proofs.GrammarPhases.{reading_of, BeginsRule, TurnsRule, AddsLeft, AddsGuard, EndsRule, AddsRight, Step}

-- ## Pieces

above : (m n : ℕ) → n < m → nat_le m n ≡ false
above m n h = grind (arith, common_steps)

within : (m n : ℕ) → n ≤ m → nat_lt m n ≡ false
within m n h = grind (arith, common_steps)

not_true : (b : Bool) → b ≡ true → not b ≡ false
not_true b h = rw h refl

line_word : (version : Version) (lengths : Bool) (verb : Verb) (tokens : List Token) → line_of version lengths (Plain (word_of verb) ∷ tokens) ≡ lines.Item (item_of verb lengths tokens)
line_word version lengths verbs.Read tokens = refl
line_word version lengths verbs.Write tokens = refl
line_word version lengths verbs.Accept tokens = refl
line_word version lengths verbs.Close tokens = refl
line_word version lengths verbs.Shutdown tokens = refl
line_word version lengths verbs.Yield tokens = refl
line_word version lengths verbs.Clock tokens = refl
line_word version lengths verbs.Random tokens = refl

verb_is_no_part : (lengths : Bool) (verb : Verb) → is_other (part_of lengths (Plain (word_of verb))) ≡ true
verb_is_no_part lengths verbs.Read = refl
verb_is_no_part lengths verbs.Write = refl
verb_is_no_part lengths verbs.Accept = refl
verb_is_no_part lengths verbs.Close = refl
verb_is_no_part lengths verbs.Shutdown = refl
verb_is_no_part lengths verbs.Yield = refl
verb_is_no_part lengths verbs.Clock = refl
verb_is_no_part lengths verbs.Random = refl

item_line_is : (version : Version) (side : Side) (item : Pattern) (words : List Token) → IsGiven side item words → line_of version (lengths_on side) words ≡ lines.Item (Is item)
item_line_is version side item words g =
    ap (λ (k : List Token). line_of version (lengths_on side) k) g.written
    ∙ line_word version (lengths_on side) g.verb g.tokens
    ∙ ap (λ (f : Found Pattern). lines.Item f) g.found

few_parts : (side : Side) (item : Pattern) (words : List Token) → IsGiven side item words → part_count (lengths_on side) words ≤ 16
few_parts side item words g =
    let few : part_count (lengths_on side) g.tokens ≤ 16 = g.clean.few in
    let e : part_count (lengths_on side) (Plain (word_of g.verb) ∷ g.tokens) ≡ part_count (lengths_on side) g.tokens =
    rw (verb_is_no_part (lengths_on side) g.verb) (zero-add (part_count (lengths_on side) g.tokens)) in
    subst (λ (k : List Token). part_count (lengths_on side) k ≤ 16) (sym g.written) (subst (λ (n : ℕ). n ≤ 16) (sym e) few)

good_texts : (side : Side) (item : Pattern) (words : List Token) → IsGiven side item words → list_any is_bad_text words ≡ false
good_texts side item words g = ap (λ (k : List Token). list_any is_bad_text k) g.written ∙ g.clean.clean

-- ## Lines

begins_given : (version : Version) (lengths : Bool) (rules : List Rule) (at : ℕ) (words : List Token) (next : Reading) → BeginsRule rules at words next
    → Leaves (reading_of rules Outside) at lengths words (line_of version lengths words) next
begins_given version lengths rules at words next s =
    subst (λ (k : List Token). Leaves (reading_of rules Outside) at lengths k (line_of version lengths k) next) (sym s.written)
    (record {
      faultless = record { misplaced = refl; excess = above 64 (length rules) s.room; empty = refl; formless = refl; unfit = refl; text = refl; misnamed = refl; twice = refl; unbound = refl; guard = refl };
      after = s.after;
    })

turns_given : (version : Version) (lengths : Bool) (rules : List Rule) (rule : Rule) (at : ℕ) (words : List Token) (next : Reading) → TurnsRule rules rule words next
    → Leaves (reading_of rules (InLeft rule)) at lengths words (line_of version lengths words) next
turns_given version lengths rules rule at words next s =
    subst (λ (k : List Token). Leaves (reading_of rules (InLeft rule)) at lengths k (line_of version lengths k) next) (sym s.written)
    (record {
      faultless = record { misplaced = refl; excess = refl; empty = above (length rule.left) 0 s.some; formless = refl; unfit = refl; text = refl; misnamed = refl; twice = refl; unbound = refl; guard = refl };
      after = s.after;
    })

ends_given : (version : Version) (lengths : Bool) (rules : List Rule) (rule : Rule) (at : ℕ) (words : List Token) (next : Reading) → EndsRule rules rule words next
    → Leaves (reading_of rules (InRight rule)) at lengths words (line_of version lengths words) next
ends_given version lengths rules rule at words next s =
    subst (λ (k : List Token). Leaves (reading_of rules (InRight rule)) at lengths k (line_of version lengths k) next) (sym s.written)
    (record {
      faultless = record { misplaced = refl; excess = refl; empty = refl; formless = refl; unfit = refl; text = refl; misnamed = refl; twice = refl; unbound = refl; guard = refl };
      after = s.after;
    })

left_given : (version : Version) (rules : List Rule) (rule : Rule) (at : ℕ) (words : List Token) (next : Reading) → AddsLeft rules rule words next
    → Leaves (reading_of rules (InLeft rule)) at (lengths_on Left) words (line_of version (lengths_on Left) words) next
left_given version rules rule at words next s =
    let g : IsGiven Left s.item words = item_given Left s.item words s.spelled.spelled in
    subst (λ (line : Line). Leaves (reading_of rules (InLeft rule)) at (lengths_on Left) words line next) (sym (item_line_is version Left s.item words g))
    (record {
      faultless = record {
        misplaced = refl;
        excess = or_false (nat_lt 16 (part_count (lengths_on Left) words)) (nat_le 8 (length rule.left)) (within 16 (part_count (lengths_on Left) words) (few_parts Left s.item words g)) (above 8 (length rule.left) s.room);
        empty = refl;
        formless = refl;
        unfit = refl;
        text = good_texts Left s.item words g;
        misnamed = not_true (has_good_names s.item && rest_is_last (parts_in s.item)) (and_true (has_good_names s.item) (rest_is_last (parts_in s.item)) g.good.names g.good.order);
        twice = s.spelled.once;
        unbound = refl;
        guard = refl;
      };
      after = s.after;
    })

right_given : (version : Version) (rules : List Rule) (rule : Rule) (at : ℕ) (words : List Token) (next : Reading) → AddsRight version rules rule words next
    → Leaves (reading_of rules (InRight rule)) at (lengths_on (Right version)) words (line_of version (lengths_on (Right version)) words) next
right_given version rules rule at words next s =
    let l = lengths_on (Right version) in
    let g : IsGiven (Right version) s.item words = item_given (Right version) s.item words s.spelled.spelled in
    subst (λ (line : Line). Leaves (reading_of rules (InRight rule)) at (lengths_on (Right version)) words line next) (sym (item_line_is version (Right version) s.item words g))
    (record {
      faultless = record {
        misplaced = refl;
        excess = or_false (nat_lt 16 (part_count l words)) (nat_le 16 (length rule.right)) (within 16 (part_count l words) (few_parts (Right version) s.item words g)) (above 16 (length rule.right) s.room);
        empty = refl;
        formless = refl;
        unfit = refl;
        text = good_texts (Right version) s.item words g;
        misnamed = or_false (not (has_good_names s.item)) (list_any is_sized (parts_in s.item)) (not_true (has_good_names s.item) g.good.names) (g.good.unsized version refl);
        twice = refl;
        unbound = not_true (is_all_bound rule.left s.item) s.spelled.bound;
        guard = refl;
      };
      after = s.after;
    })

-- ## Guards

comparison_given : (c : Comparison) → comparison_of (Plain (sign_of c)) ≡ Is c
comparison_given Equal = refl
comparison_given Less = refl
comparison_given Greater = refl

guard_given : (guard : Guard) (words : List Token) (s : SpellsGuard guard words) → guard_of (s.name ∷ Plain (sign_of guard.comparison) ∷ s.number ∷ []) ≡ Is guard
guard_given guard words s =
    let name : byte_name_of s.name ≡ Is guard.name = rw s.named.written refl in
    ap (found_map (λ t. guard_made t.0.0 t.0.1 t.1))
    (pair_found (pair (byte_name_of s.name) (comparison_of (Plain (sign_of guard.comparison)))) (number_of 0 65536 s.number) (guard.name, guard.comparison) guard.length
    (pair_found (byte_name_of s.name) (comparison_of (Plain (sign_of guard.comparison))) guard.name guard.comparison name (comparison_given guard.comparison))
    (number_found 0 65536 guard.length s.number s.length))

guard_line_is : (version : Version) (lengths : Bool) (guard : Guard) (words : List Token) → version ≡ Second → SpellsGuard guard words → line_of version lengths words ≡ lines.When (Is guard)
guard_line_is version lengths guard words second s =
    ap (λ (v : Version). line_of v lengths words) second
    ∙ ap (λ (k : List Token). line_of Second lengths k) s.written
    ∙ ap (λ (f : Found Guard). lines.When f) (guard_given guard words s)

guard_texts : (guard : Guard) (words : List Token) → SpellsGuard guard words → list_any is_bad_text words ≡ false
guard_texts guard words s = rw (s.written, s.named.written, s.length.written) refl

guards_given : (version : Version) (lengths : Bool) (rules : List Rule) (rule : Rule) (at : ℕ) (words : List Token) (next : Reading) → AddsGuard version rules rule words next
    → Leaves (reading_of rules (InLeft rule)) at lengths words (line_of version lengths words) next
guards_given version lengths rules rule at words next s =
    subst (λ (line : Line). Leaves (reading_of rules (InLeft rule)) at lengths words line next) (sym (guard_line_is version lengths s.guard words s.spelled.second s.spelled.spelled))
    (record {
      faultless = record {
        misplaced = refl;
        excess = refl;
        empty = refl;
        formless = refl;
        unfit = refl;
        text = guard_texts s.guard words s.spelled.spelled;
        misnamed = not_true (is_name s.guard.name) s.spelled.spelled.named.good;
        twice = refl;
        unbound = refl;
        guard = or_false (not (bytes_are_bound rule.left s.guard.name)) (nat_le 8 (length rule.guards)) (not_true (bytes_are_bound rule.left s.guard.name) s.spelled.bound) (above 8 (length rule.guards) s.room);
      };
      after = s.after;
    })

left_side_given : (version : Version) (rules : List Rule) (rule : Rule) (at : ℕ) (words : List Token) (next : Reading) → Step version rules (InLeft rule) at words next
    → Leaves (reading_of rules (InLeft rule)) at (lengths_on Left) words (line_of version (lengths_on Left) words) next
left_side_given version rules rule at words next (inl s) = turns_given version (lengths_on Left) rules rule at words next s
left_side_given version rules rule at words next (inr (inl s)) = left_given version rules rule at words next s
left_side_given version rules rule at words next (inr (inr s)) = guards_given version (lengths_on Left) rules rule at words next s

right_side_given : (version : Version) (rules : List Rule) (rule : Rule) (at : ℕ) (words : List Token) (next : Reading) → Step version rules (InRight rule) at words next
    → Leaves (reading_of rules (InRight rule)) at (lengths_on (Right version)) words (line_of version (lengths_on (Right version)) words) next
right_side_given version rules rule at words next (inl s) = ends_given version (lengths_on (Right version)) rules rule at words next s
right_side_given version rules rule at words next (inr s) = right_given version rules rule at words next s

-- each of these lines leaves what it says
pub step_given : (version : Version) (rules : List Rule) (phase : Phase) (at : ℕ) (words : List Token) (next : Reading) → Step version rules phase at words next
    → Leaves (reading_of rules phase) at (lengths_stand version phase) words (line_of version (lengths_stand version phase) words) next
step_given version rules Outside at words next s = begins_given version (lengths_stand version Outside) rules at words next s
step_given First rules (InLeft rule) at words next s = left_side_given First rules rule at words next s
step_given Second rules (InLeft rule) at words next s = left_side_given Second rules rule at words next s
step_given First rules (InRight rule) at words next s = right_side_given First rules rule at words next s
step_given Second rules (InRight rule) at words next s = right_side_given Second rules rule at words next s

-- a line without words leaves all as it is
pub blank_given : (rules : List Rule) (phase : Phase) (at : ℕ) (lengths : Bool) → Leaves (reading_of rules phase) at lengths [] lines.Blank (reading_of rules phase)
blank_given rules Outside at lengths = record {
  faultless = record { misplaced = refl; excess = refl; empty = refl; formless = refl; unfit = refl; text = refl; misnamed = refl; twice = refl; unbound = refl; guard = refl };
  after = refl;
}
blank_given rules (InLeft rule) at lengths = record {
  faultless = record { misplaced = refl; excess = refl; empty = refl; formless = refl; unfit = refl; text = refl; misnamed = refl; twice = refl; unbound = refl; guard = refl };
  after = refl;
}
blank_given rules (InRight rule) at lengths = record {
  faultless = record { misplaced = refl; excess = refl; empty = refl; formless = refl; unfit = refl; text = refl; misnamed = refl; twice = refl; unbound = refl; guard = refl };
  after = refl;
}
