-- What a line without a fault is, by where it stands.
use Rattle.std.proofs.Common.{◌≡◌, ◌⊎◌, inl, inr, ℕ, ◌<◌, ◌≤◌, ◌&&◌, Bool, true, false, not, List, [], ◌∷◌, ◌++◌, length, refl, ap, sym, ◌∙◌, subst, arith, codes}
use Rattle.std.proofs.lemmas.Grind.{common_steps}
use Rattle.std.specs.Prelude.{nat_le, nat_lt}
use Rattle.std.specs.List.{list_any}
use Rattle.mv_rules.specs.declared.rule.Pattern.{Pattern}
use Rattle.mv_rules.specs.declared.rule.Guard.{Guard}
use Rattle.mv_rules.specs.declared.rule.Rule.{Rule}
use Rattle.mv_scan.specs.declared.found.Found.{Found}
use Rattle.mv_scan.specs.declared.found.Found.TheVariants.{Other, OutOfRange, Is}
use Rattle.mv_rules.specs.declared.line.Line.TheVariants as lines
use Rattle.mv_rules.specs.declared.reading.Version.{Version}
use Rattle.mv_rules.specs.declared.reading.Version.TheVariants.{First, Second}
use Rattle.mv_rules.specs.declared.reading.Phase.{Phase}
use Rattle.mv_rules.specs.declared.reading.Phase.TheVariants.{Outside, InLeft, InRight}
use Rattle.mv_rules.specs.declared.reading.Reading.{Reading}
use Rattle.mv_scan.specs.declared.token.Token.{Token}
use Rattle.mv_scan.specs.declared.token.Token.TheVariants.{Plain}
use Rattle.mv_rules.specs.declared.verb.Verb.{Verb}
use Rattle.mv_scan.specs.Found.{is_other, is_out_of_range}
use Rattle.mv_rules.specs.Forms.{item_of, guard_of}
use Rattle.mv_rules.specs.Names.{has_good_names, rest_is_last, parts_in, is_sized, is_all_bound, bytes_are_bound}
use Rattle.mv_scan.specs.Names.{is_name}
use Rattle.mv_rules.specs.RulesText.{new_rule, line_of, has_words, part_count, lengths_stand, is_full}
use Rattle.mv_rules.specs.ItemGrammar.{Side, Left, Right, SpellsItem, SpellsGuard}
use Rattle.mv_rules.specs.Grammar.{SpellsLeftItem, SpellsLeftGuard, SpellsRightItem}
use Rattle.mv_rules.proofs.DraftSteps.{below}
use Rattle.mv_scan.proofs.GrammarFinds.{both_true, both_false}
use Rattle.mv_rules.proofs.GrammarTerms.{lengths_on}
use Rattle.mv_rules.proofs.GrammarWords.{IsClean, clean_tail}
use Rattle.mv_rules.proofs.GrammarItems.{IsGood, word_of, item_is}
use Rattle.mv_rules.proofs.GrammarSteps.{IsFaultless, Leaves, line_cases, guard_is}

-- ## Steps

abbrev pub reading_of : List Rule → Phase → Reading
reading_of rules phase = record { rules = rules; phase = phase }

-- the line `rule`
pub record BeginsRule (rules : List Rule) (at : ℕ) (words : List Token) (next : Reading) : Type 0 where
  pub written : words ≡ Plain (codes "rule") ∷ []
  pub room : length rules < 64
  pub after : reading_of rules (InLeft (new_rule at)) ≡ next

-- the line `to`
pub record TurnsRule (rules : List Rule) (rule : Rule) (words : List Token) (next : Reading) : Type 0 where
  pub written : words ≡ Plain (codes "to") ∷ []
  pub some : 1 ≤ length rule.left
  pub after : reading_of rules (InRight rule) ≡ next

-- a left item
pub record AddsLeft (rules : List Rule) (rule : Rule) (words : List Token) (next : Reading) : Type 0 where
  pub item : Pattern
  pub spelled : SpellsLeftItem rule.left item words
  pub room : length rule.left < 8
  pub after : reading_of rules (InLeft (record rule { left = rule.left ++ item ∷ [] })) ≡ next

-- a guard
pub record AddsGuard (version : Version) (rules : List Rule) (rule : Rule) (words : List Token) (next : Reading) : Type 0 where
  pub guard : Guard
  pub spelled : SpellsLeftGuard version rule.left guard words
  pub room : length rule.guards < 8
  pub after : reading_of rules (InLeft (record rule { guards = rule.guards ++ guard ∷ [] })) ≡ next

-- the line `end`
pub record EndsRule (rules : List Rule) (rule : Rule) (words : List Token) (next : Reading) : Type 0 where
  pub written : words ≡ Plain (codes "end") ∷ []
  pub after : reading_of (rules ++ rule ∷ []) Outside ≡ next

-- a right item
pub record AddsRight (version : Version) (rules : List Rule) (rule : Rule) (words : List Token) (next : Reading) : Type 0 where
  pub item : Pattern
  pub spelled : SpellsRightItem version rule.left item words
  pub room : length rule.right < 16
  pub after : reading_of rules (InRight (record rule { right = rule.right ++ item ∷ [] })) ≡ next

abbrev pub Step : Version → List Rule → Phase → ℕ → List Token → Reading → Type 0
Step version rules Outside at words next = BeginsRule rules at words next
Step version rules (InLeft rule) at words next = TurnsRule rules rule words next ⊎ (AddsLeft rules rule words next ⊎ AddsGuard version rules rule words next)
Step version rules (InRight rule) at words next = EndsRule rules rule words next ⊎ AddsRight version rules rule words next

-- ## Pieces

no_words : (rest : List Token) → has_words rest ≡ false → rest ≡ []
no_words [] h = refl
no_words (token ∷ rest) h = cc

not_false : (b : Bool) → not b ≡ false → b ≡ true
not_false true h = refl
not_false false h = cc

-- it is this
record IsThis {A : Type 0} (found : Found A) : Type 0 where
  pub one : A
  pub is : found ≡ Is one

is_this : {A : Type 0} (found : Found A) → is_other found ≡ false → is_out_of_range found ≡ false → IsThis found
is_this Other h k = cc
is_this OutOfRange h k = cc
is_this (Is a) h k = record { one = a; is = refl }

at_most : (m n : ℕ) → nat_lt m n ≡ false → n ≤ m
at_most m n h = grind (arith, common_steps, h)

lone_word : (word : List ℕ) (words rest : List Token) → words ≡ Plain word ∷ rest → has_words rest ≡ false → words ≡ Plain word ∷ []
lone_word word words rest e h = e ∙ ap (λ (k : List Token). Plain word ∷ k) (no_words rest h)

-- ## Outside

outside_is : (version : Version) (lengths : Bool) (rules : List Rule) (at : ℕ) (token : Token) (rest : List Token) (next : Reading)
    → Leaves (reading_of rules Outside) at lengths (token ∷ rest) (line_of version lengths (token ∷ rest)) next → BeginsRule rules at (token ∷ rest) next
outside_is version lengths rules at token rest next =
    let r = reading_of rules Outside in
    let words = token ∷ rest in
    line_cases version lengths token rest (λ line. Leaves r at lengths words line next → BeginsRule rules at words next)
    (record {
      rule = λ more e l. record { written = lone_word (codes "rule") words more e l.faultless.formless; room = below 64 (length rules) l.faultless.excess; after = l.after };
      to = λ more e l. let c = l.faultless.misplaced in cc;
      ends = λ more e l. let c = l.faultless.misplaced in cc;
      when = λ more e second l. let c = l.faultless.formless in cc;
      item = λ verb more e l. let c = l.faultless.misplaced in cc;
      other = λ l. let c = l.faultless.formless in cc;
    })

-- ## Left

-- an item line has few parts, good texts, and an item that is found
clean_is : (side : Side) (reading : Reading) (token : Token) (rest : List Token) (found : Found Pattern)
    → IsFaultless reading (lengths_on side) (token ∷ rest) (lines.Item found) → IsClean (lengths_on side) (token ∷ rest)
clean_is side reading token rest found f =
    record { few = at_most 16 (part_count (lengths_on side) (token ∷ rest)) (both_false (nat_lt 16 (part_count (lengths_on side) (token ∷ rest))) (is_full reading.phase) f.excess).0; clean = f.text }

tail_is : (token other : Token) (rest more : List Token) → token ∷ rest ≡ other ∷ more → rest ≡ more
tail_is token other rest more e = cc

left_item_is : (rules : List Rule) (rule : Rule) (at : ℕ) (token : Token) (rest : List Token) (next : Reading) (verb : Verb) (more : List Token) → token ∷ rest ≡ Plain (word_of verb) ∷ more
    → (found : Found Pattern) → item_of verb (lengths_on Left) more ≡ found
    → Leaves (reading_of rules (InLeft rule)) at (lengths_on Left) (token ∷ rest) (lines.Item found) next → AddsLeft rules rule (token ∷ rest) next
left_item_is rules rule at token rest next verb more e Other same l = let c = l.faultless.formless in cc
left_item_is rules rule at token rest next verb more e OutOfRange same l = let c = l.faultless.unfit in cc
left_item_is rules rule at token rest next verb more e (Is item) same l =
    let f = l.faultless in
    let clean : IsClean (lengths_on Left) (token ∷ rest) = clean_is Left (reading_of rules (InLeft rule)) token rest (Is item) f in
    let shape = both_true (has_good_names item) (rest_is_last (parts_in item)) (not_false (has_good_names item && rest_is_last (parts_in item)) f.misnamed) in
    let good : IsGood Left item = record { names = shape.0; order = shape.1; unsized = λ version apart. cc } in
    record {
      item = item;
      spelled = record {
        spelled = subst (λ (k : List Token). SpellsItem Left item k) (sym e) (item_is Left verb item more same
            (subst (λ (k : List Token). IsClean (lengths_on Left) k) (tail_is token (Plain (word_of verb)) rest more e) (clean_tail (lengths_on Left) token rest clean)) good);
        once = f.twice;
      };
      room = below 8 (length rule.left) (both_false (nat_lt 16 (part_count (lengths_on Left) (token ∷ rest))) (nat_le 8 (length rule.left)) f.excess).1;
      after = l.after;
    }

left_guard_is : (version : Version) (rules : List Rule) (rule : Rule) (at : ℕ) (token : Token) (rest : List Token) (next : Reading) (more : List Token) → token ∷ rest ≡ Plain (codes "when") ∷ more
    → version ≡ Second → (found : Found Guard) → guard_of more ≡ found
    → Leaves (reading_of rules (InLeft rule)) at (lengths_on Left) (token ∷ rest) (lines.When found) next → AddsGuard version rules rule (token ∷ rest) next
left_guard_is version rules rule at token rest next more e second Other same l = let c = l.faultless.formless in cc
left_guard_is version rules rule at token rest next more e second OutOfRange same l = let c = l.faultless.unfit in cc
left_guard_is version rules rule at token rest next more e second (Is guard) same l =
    let f = l.faultless in
    let bad = both_false (not (bytes_are_bound rule.left guard.name)) (nat_le 8 (length rule.guards)) f.guard in
    record {
      guard = guard;
      spelled = record {
        second = second;
        spelled = subst (λ (k : List Token). SpellsGuard guard k) (sym e) (guard_is guard more same (not_false (is_name guard.name) f.misnamed));
        bound = not_false (bytes_are_bound rule.left guard.name) bad.0;
      };
      room = below 8 (length rule.guards) bad.1;
      after = l.after;
    }

left_is : (version : Version) (rules : List Rule) (rule : Rule) (at : ℕ) (token : Token) (rest : List Token) (next : Reading)
    → Leaves (reading_of rules (InLeft rule)) at (lengths_on Left) (token ∷ rest) (line_of version (lengths_on Left) (token ∷ rest)) next
    → Step version rules (InLeft rule) at (token ∷ rest) next
left_is version rules rule at token rest next =
    let r = reading_of rules (InLeft rule) in
    let words = token ∷ rest in
    line_cases version (lengths_on Left) token rest (λ line. Leaves r at (lengths_on Left) words line next → Step version rules (InLeft rule) at words next)
    (record {
      rule = λ more e l. let c = l.faultless.misplaced in cc;
      to = λ more e l. inl (record { written = lone_word (codes "to") words more e l.faultless.formless; some = below (length rule.left) 0 l.faultless.empty; after = l.after });
      ends = λ more e l. let c = l.faultless.misplaced in cc;
      when = λ more e second l. inr (inr (left_guard_is version rules rule at token rest next more e second (guard_of more) refl l));
      item = λ verb more e l. inr (inl (left_item_is rules rule at token rest next verb more e (item_of verb (lengths_on Left) more) refl l));
      other = λ l. let c = l.faultless.formless in cc;
    })

-- ## Right

right_item_is : (version : Version) (rules : List Rule) (rule : Rule) (at : ℕ) (token : Token) (rest : List Token) (next : Reading) (verb : Verb) (more : List Token) → token ∷ rest ≡ Plain (word_of verb) ∷ more
    → (found : Found Pattern) → item_of verb (lengths_on (Right version)) more ≡ found
    → Leaves (reading_of rules (InRight rule)) at (lengths_on (Right version)) (token ∷ rest) (lines.Item found) next → AddsRight version rules rule (token ∷ rest) next
right_item_is version rules rule at token rest next verb more e Other same l = let c = l.faultless.formless in cc
right_item_is version rules rule at token rest next verb more e OutOfRange same l = let c = l.faultless.unfit in cc
right_item_is version rules rule at token rest next verb more e (Is item) same l =
    let f = l.faultless in
    let side : Side = Right version in
    let clean : IsClean (lengths_on (Right version)) (token ∷ rest) = clean_is (Right version) (reading_of rules (InRight rule)) token rest (Is item) f in
    let shape = both_false (not (has_good_names item)) (list_any is_sized (parts_in item)) f.misnamed in
    let good : IsGood (Right version) item = record { names = not_false (has_good_names item) shape.0; order = tt; unsized = λ other same. shape.1 } in
    record {
      item = item;
      spelled = record {
        spelled = subst (λ (k : List Token). SpellsItem (Right version) item k) (sym e) (item_is (Right version) verb item more same
            (subst (λ (k : List Token). IsClean (lengths_on (Right version)) k) (tail_is token (Plain (word_of verb)) rest more e) (clean_tail (lengths_on (Right version)) token rest clean)) good);
        bound = not_false (is_all_bound rule.left item) f.unbound;
      };
      room = below 16 (length rule.right) (both_false (nat_lt 16 (part_count (lengths_on (Right version)) (token ∷ rest))) (nat_le 16 (length rule.right)) f.excess).1;
      after = l.after;
    }

right_is : (version : Version) (rules : List Rule) (rule : Rule) (at : ℕ) (token : Token) (rest : List Token) (next : Reading)
    → Leaves (reading_of rules (InRight rule)) at (lengths_on (Right version)) (token ∷ rest) (line_of version (lengths_on (Right version)) (token ∷ rest)) next
    → Step version rules (InRight rule) at (token ∷ rest) next
right_is version rules rule at token rest next =
    let r = reading_of rules (InRight rule) in
    let words = token ∷ rest in
    line_cases version (lengths_on (Right version)) token rest (λ line. Leaves r at (lengths_on (Right version)) words line next → Step version rules (InRight rule) at words next)
    (record {
      rule = λ more e l. let c = l.faultless.misplaced in cc;
      to = λ more e l. let c = l.faultless.misplaced in cc;
      ends = λ more e l. inl (record { written = lone_word (codes "end") words more e l.faultless.formless; after = l.after });
      when = λ more e second l. let c = l.faultless.formless in cc;
      item = λ verb more e l. inr (right_item_is version rules rule at token rest next verb more e (item_of verb (lengths_on (Right version)) more) refl l);
      other = λ l. let c = l.faultless.formless in cc;
    })

-- a line with words that leaves something is one of these
pub step_is : (version : Version) (rules : List Rule) (phase : Phase) (at : ℕ) (token : Token) (rest : List Token) (next : Reading)
    → Leaves (reading_of rules phase) at (lengths_stand version phase) (token ∷ rest) (line_of version (lengths_stand version phase) (token ∷ rest)) next
    → Step version rules phase at (token ∷ rest) next
step_is First rules Outside at token rest next l = outside_is First false rules at token rest next l
step_is Second rules Outside at token rest next l = outside_is Second false rules at token rest next l
step_is First rules (InLeft rule) at token rest next l = left_is First rules rule at token rest next l
step_is Second rules (InLeft rule) at token rest next l = left_is Second rules rule at token rest next l
step_is First rules (InRight rule) at token rest next l = right_is First rules rule at token rest next l
step_is Second rules (InRight rule) at token rest next l = right_is Second rules rule at token rest next l
