-- The lines of the grammar are read: what is left of them, line by line, the other way.
use Rattle.std.proofs.Common.{◌≡◌, inl, inr, ℕ, ◌+◌, ◌<◌, ◌≤◌, List, [], ◌∷◌, ◌++◌, length, refl, ap, sym, ◌∙◌, subst, arith, append_assoc, append-nil, length-append, codes}
use Rattle.std.specs.Prelude.{Result, Ok}
use Rattle.mv_rules.specs.declared.rule.Pattern.{Pattern}
use Rattle.mv_rules.specs.declared.rule.Guard.{Guard}
use Rattle.mv_rules.specs.declared.rule.Rule.{Rule}
use Rattle.mv_rules.specs.declared.fault.RuleFault.{RuleFault}
use Rattle.mv_rules.specs.declared.reading.Version.{Version}
use Rattle.mv_rules.specs.declared.reading.Phase.{Phase}
use Rattle.mv_rules.specs.declared.reading.Phase.TheVariants.{Outside, InLeft, InRight}
use Rattle.mv_rules.specs.declared.reading.Reading.{Reading}
use Rattle.mv_scan.specs.declared.token.Token.{Token}
use Rattle.mv_rules.specs.Drafts.{IsDraft}
use Rattle.mv_scan.specs.Words.{words_of}
use Rattle.mv_rules.specs.RulesText.{and_then, at_end, new_rule, line_of, lengths_stand, read_line, read_lines, read_words, unread}
use Rattle.mv_rules.specs.Grammar.{Sentence, if_words, sentences, lone, SpellsLeft, SpellsLeftItem, SpellsLeftGuard, SpellsRight, SpellsRightItem, SpellsEach, SpellsBody}
use Rattle.mv_rules.proofs.DraftSteps.{draft_read}
use Rattle.mv_rules.proofs.GrammarSteps.{leaves_given}
use Rattle.mv_rules.proofs.GrammarPhases.{reading_of, Step}
use Rattle.mv_rules.proofs.GrammarBack.{step_given, blank_given}
use Rattle.mv_rules.proofs.GrammarText.{IsSized, LeftRest, RightRest, with_rights, RestOf, RestAfter, sentence, joined, unchanged, IsRest, lines_are}

-- the first sentence is a step, and the others are left behind it
record Back (version : Version) (rules : List Rule) (phase : Phase) (s : Sentence) (ss : List Sentence) (all : List Rule) : Type 0 where
  pub next : Reading
  pub step : Step version rules phase s.at s.words next
  pub rest : RestAfter version next ss all

record Heads (s t : Sentence) (ss ts : List Sentence) : Type 0 where
  pub head : s ≡ t
  pub tail : ss ≡ ts

heads : (s t : Sentence) (ss ts : List Sentence) → s ∷ ss ≡ t ∷ ts → Heads s t ss ts
heads s t ss ts e = record { head = cc; tail = cc }

room_for : (rules more all : List Rule) (made : Rule) → all ≡ rules ++ (made ∷ more) → length all ≤ 64 → length rules < 64
room_for rules more all made e few =
    let h : length (rules ++ (made ∷ more)) ≤ 64 = subst (λ (k : List Rule). length k ≤ 64) e few in
    let g : length (rules ++ (made ∷ more)) ≡ length rules + length (made ∷ more) = length-append rules (made ∷ more) in
    omega arith

out_by : (version : Version) (rules : List Rule) (s : Sentence) (ss : List Sentence) (all more : List Rule) → SpellsEach version more (s ∷ ss) → all ≡ rules ++ more → length all ≤ 64
    → Back version rules Outside s ss all
out_by version rules s ss all [] each whole few = cc
out_by version rules s ss all (made ∷ more) each whole few =
    let r = each.3 in
    let to = lone r.to_at (codes "to") in
    let ends = lone r.end_at (codes "end") in
    let split : s ∷ ss ≡ lone made.line (codes "rule") ∷ (r.left_lines ++ (to ∷ (r.right_lines ++ (ends ∷ each.1)))) =
    each.2 ∙ ap (λ (k : List Sentence). k ++ each.1) r.lines ∙ ap (λ (k : List Sentence). lone made.line (codes "rule") ∷ k) (joined r.left_lines r.right_lines each.1 to ends) in
    let h : Heads s (lone made.line (codes "rule")) ss (r.left_lines ++ (to ∷ (r.right_lines ++ (ends ∷ each.1)))) = heads s (lone made.line (codes "rule")) ss _ split in
    record {
      next = reading_of rules (InLeft (new_rule s.at));
      step = record { written = ap (λ (k : Sentence). k.words) h.head; room = room_for rules more all made whole few; after = refl };
      rest = record {
        left_lines = r.left_lines;
        right_lines = r.right_lines;
        more_lines = each.1;
        to_at = r.to_at;
        end_at = r.end_at;
        made = made;
        items = made.left;
        guards = made.guards;
        more = more;
        lines = h.tail;
        line = sym (ap (λ (k : Sentence). k.at) h.head);
        left = refl;
        guarded = refl;
        spelled_left = r.left;
        spelled_right = r.right;
        sized = record { some = r.some; left_few = r.left_few; guards_few = r.guards_few; right_few = r.right_few };
        each = each.4;
        whole = whole;
      };
    }

same_rule : (a b : Rule) → a.line ≡ b.line → a.left ≡ b.left → a.guards ≡ b.guards → a.right ≡ b.right → a ≡ b
same_rule a b line left guards right =
    ap (λ (k : ℕ). record a { line = k }) line
    ∙ ap (λ (k : List Pattern). record a { line = b.line; left = k }) left
    ∙ ap (λ (k : List Guard). record a { line = b.line; left = b.left; guards = k }) guards
    ∙ ap (λ (k : List Pattern). record b { right = k }) right

turn_back : (version : Version) (rules : List Rule) (rule : Rule) (s : Sentence) (ss : List Sentence) (all : List Rule) → rule.right ≡ []
    → (r : LeftRest version rules rule (s ∷ ss) all) → r.left_lines ≡ [] → Back version rules (InLeft rule) s ss all
turn_back version rules rule s ss all none r e =
    let spelled : SpellsLeft version rule.left r.items r.guards [] = subst (λ (k : List Sentence). SpellsLeft version rule.left r.items r.guards k) e r.spelled_left in
    let behind = r.right_lines ++ (lone r.end_at (codes "end") ∷ r.more_lines) in
    let split : s ∷ ss ≡ lone r.to_at (codes "to") ∷ behind = r.lines ∙ ap (λ (k : List Sentence). k ++ (lone r.to_at (codes "to") ∷ behind)) e in
    let h : Heads s (lone r.to_at (codes "to")) ss behind = heads s (lone r.to_at (codes "to")) ss behind split in
    let left : r.made.left ≡ rule.left = r.left ∙ ap (λ (k : List Pattern). rule.left ++ k) spelled.0 ∙ append-nil rule.left in
    let guards : r.made.guards ≡ rule.guards = r.guarded ∙ ap (λ (k : List Guard). rule.guards ++ k) spelled.1 ∙ append-nil rule.guards in
    let right : r.made.right ≡ rule.right ++ r.made.right = ap (λ (k : List Pattern). k ++ r.made.right) (sym none) in
    let same : r.made ≡ with_rights rule r.made.right = same_rule r.made (with_rights rule r.made.right) r.line left guards right in
    let some : 1 ≤ length rule.left = subst (λ (k : List Pattern). 1 ≤ length k) left r.sized.some in
    record {
      next = reading_of rules (InRight rule);
      step = inl (record { written = ap (λ (k : Sentence). k.words) h.head; some = some; after = refl });
      rest = record {
        right_lines = r.right_lines;
        more_lines = r.more_lines;
        end_at = r.end_at;
        items = r.made.right;
        more = r.more;
        lines = h.tail;
        spelled = subst (λ (k : List Pattern). SpellsRight version k r.made.right r.right_lines) left r.spelled_right;
        sized = subst (λ (k : Rule). IsSized k) same r.sized;
        each = r.each;
        whole = r.whole ∙ ap (λ (k : Rule). rules ++ (k ∷ r.more)) same;
      };
    }

-- one more, where all are few
one_less : {X : Type 0} (xs ys more : List X) (x : X) (all : List X) (n : ℕ) → all ≡ xs ++ ys → ys ≡ x ∷ more → length all ≤ n → length xs < n
one_less xs ys more x all n e f few =
    let h : length (xs ++ (x ∷ more)) ≤ n = subst (λ k. length k ≤ n) (e ∙ ap (λ k. xs ++ k) f) few in
    let g : length (xs ++ (x ∷ more)) ≡ length xs + length (x ∷ more) = length-append xs (x ∷ more) in
    omega arith

shifted : {X : Type 0} (xs ys more : List X) (x : X) (all : List X) → all ≡ xs ++ ys → ys ≡ x ∷ more → all ≡ (xs ++ x ∷ []) ++ more
shifted xs ys more x all e f = e ∙ ap (λ k. xs ++ k) f ∙ sym (append_assoc xs (x ∷ []) more)

left_back : (version : Version) (rules : List Rule) (rule : Rule) (s : Sentence) (ss : List Sentence) (all : List Rule)
    → (r : LeftRest version rules rule (s ∷ ss) all) (l : Sentence) (ls : List Sentence) → r.left_lines ≡ l ∷ ls
    → SpellsLeft version rule.left r.items r.guards (l ∷ ls) → Back version rules (InLeft rule) s ss all
left_back version rules rule s ss all r l ls e (inl t) =
    let behind = ls ++ (lone r.to_at (codes "to") ∷ (r.right_lines ++ (lone r.end_at (codes "end") ∷ r.more_lines))) in
    let split : s ∷ ss ≡ l ∷ behind = r.lines ∙ ap (λ (k : List Sentence). k ++ (lone r.to_at (codes "to") ∷ (r.right_lines ++ (lone r.end_at (codes "end") ∷ r.more_lines)))) e in
    let h : Heads s l ss behind = heads s l ss behind split in
    record {
      next = reading_of rules (InLeft (record rule { left = rule.left ++ t.0 ∷ [] }));
      step = inr (inl (record {
        item = t.0;
        spelled = subst (λ (k : List Token). SpellsLeftItem rule.left t.0 k) (sym (ap (λ (k : Sentence). k.words) h.head)) t.3;
        room = one_less rule.left r.items t.1 t.0 r.made.left 8 r.left t.2 r.sized.left_few;
        after = refl;
      }));
      rest = record {
        left_lines = ls;
        right_lines = r.right_lines;
        more_lines = r.more_lines;
        to_at = r.to_at;
        end_at = r.end_at;
        made = r.made;
        items = t.1;
        guards = r.guards;
        more = r.more;
        lines = h.tail;
        line = r.line;
        left = shifted rule.left r.items t.1 t.0 r.made.left r.left t.2;
        guarded = r.guarded;
        spelled_left = t.4;
        spelled_right = r.spelled_right;
        sized = r.sized;
        each = r.each;
        whole = r.whole;
      };
    }
left_back version rules rule s ss all r l ls e (inr t) =
    let behind = ls ++ (lone r.to_at (codes "to") ∷ (r.right_lines ++ (lone r.end_at (codes "end") ∷ r.more_lines))) in
    let split : s ∷ ss ≡ l ∷ behind = r.lines ∙ ap (λ (k : List Sentence). k ++ (lone r.to_at (codes "to") ∷ (r.right_lines ++ (lone r.end_at (codes "end") ∷ r.more_lines)))) e in
    let h : Heads s l ss behind = heads s l ss behind split in
    record {
      next = reading_of rules (InLeft (record rule { guards = rule.guards ++ t.0 ∷ [] }));
      step = inr (inr (record {
        guard = t.0;
        spelled = subst (λ (k : List Token). SpellsLeftGuard version rule.left t.0 k) (sym (ap (λ (k : Sentence). k.words) h.head)) t.3;
        room = one_less rule.guards r.guards t.1 t.0 r.made.guards 8 r.guarded t.2 r.sized.guards_few;
        after = refl;
      }));
      rest = record {
        left_lines = ls;
        right_lines = r.right_lines;
        more_lines = r.more_lines;
        to_at = r.to_at;
        end_at = r.end_at;
        made = r.made;
        items = r.items;
        guards = t.1;
        more = r.more;
        lines = h.tail;
        line = r.line;
        left = r.left;
        guarded = shifted rule.guards r.guards t.1 t.0 r.made.guards r.guarded t.2;
        spelled_left = t.4;
        spelled_right = r.spelled_right;
        sized = r.sized;
        each = r.each;
        whole = r.whole;
      };
    }

left_by : (version : Version) (rules : List Rule) (rule : Rule) (s : Sentence) (ss : List Sentence) (all : List Rule) → rule.right ≡ []
    → (r : LeftRest version rules rule (s ∷ ss) all) (ls : List Sentence) → r.left_lines ≡ ls → Back version rules (InLeft rule) s ss all
left_by version rules rule s ss all none r [] e = turn_back version rules rule s ss all none r e
left_by version rules rule s ss all none r (l ∷ ls) e =
    left_back version rules rule s ss all r l ls e (subst (λ (k : List Sentence). SpellsLeft version rule.left r.items r.guards k) e r.spelled_left)

right_by : (version : Version) (rules : List Rule) (rule : Rule) (s : Sentence) (ss : List Sentence) (all : List Rule)
    → (r : RightRest version rules rule (s ∷ ss) all) (items : List Pattern) (ls : List Sentence) → r.items ≡ items → r.right_lines ≡ ls → SpellsRight version rule.left items ls
    → Back version rules (InRight rule) s ss all
right_by version rules rule s ss all r [] [] i e spelled =
    let split : s ∷ ss ≡ lone r.end_at (codes "end") ∷ r.more_lines = r.lines ∙ ap (λ (k : List Sentence). k ++ (lone r.end_at (codes "end") ∷ r.more_lines)) e in
    let h : Heads s (lone r.end_at (codes "end")) ss r.more_lines = heads s (lone r.end_at (codes "end")) ss r.more_lines split in
    let same : with_rights rule r.items ≡ rule = ap (λ (k : List Pattern). with_rights rule k) i ∙ unchanged rule in
    record {
      next = reading_of (rules ++ rule ∷ []) Outside;
      step = inl (record { written = ap (λ (k : Sentence). k.words) h.head; after = refl });
      rest = record {
        more = r.more;
        each = subst (λ (k : List Sentence). SpellsEach version r.more k) (sym h.tail) r.each;
        whole = r.whole ∙ ap (λ (k : Rule). rules ++ (k ∷ r.more)) same ∙ sym (append_assoc rules (rule ∷ []) r.more);
      };
    }
right_by version rules rule s ss all r [] (l ∷ ls) i e spelled = absurd spelled
right_by version rules rule s ss all r (item ∷ items) [] i e spelled = absurd spelled
right_by version rules rule s ss all r (item ∷ items) (l ∷ ls) i e spelled =
    let behind = ls ++ (lone r.end_at (codes "end") ∷ r.more_lines) in
    let split : s ∷ ss ≡ l ∷ behind = r.lines ∙ ap (λ (k : List Sentence). k ++ (lone r.end_at (codes "end") ∷ r.more_lines)) e in
    let h : Heads s l ss behind = heads s l ss behind split in
    let same : with_rights rule r.items ≡ record rule { right = (rule.right ++ item ∷ []) ++ items } =
    ap (λ (k : List Pattern). record rule { right = k }) (ap (λ (k : List Pattern). rule.right ++ k) i ∙ sym (append_assoc rule.right (item ∷ []) items)) in
    record {
      next = reading_of rules (InRight (record rule { right = rule.right ++ item ∷ [] }));
      step = inr (record {
        item = item;
        spelled = subst (λ (k : List Token). SpellsRightItem version rule.left item k) (sym (ap (λ (k : Sentence). k.words) h.head)) spelled.0;
        room = one_less rule.right r.items items item (rule.right ++ r.items) 16 refl i r.sized.right_few;
        after = refl;
      });
      rest = record {
        right_lines = ls;
        more_lines = r.more_lines;
        end_at = r.end_at;
        items = items;
        more = r.more;
        lines = h.tail;
        spelled = spelled.1;
        sized = subst (λ (k : Rule). IsSized k) same r.sized;
        each = r.each;
        whole = r.whole ∙ ap (λ (k : Rule). rules ++ (k ∷ r.more)) same;
      };
    }

right_back : (version : Version) (rules : List Rule) (rule : Rule) (s : Sentence) (ss : List Sentence) (all : List Rule) → RightRest version rules rule (s ∷ ss) all → Back version rules (InRight rule) s ss all
right_back version rules rule s ss all r = right_by version rules rule s ss all r r.items r.right_lines refl refl r.spelled

rest_back : (version : Version) (rules : List Rule) (phase : Phase) (s : Sentence) (ss : List Sentence) (all : List Rule) → IsDraft phase → length all ≤ 64
    → RestOf version rules phase (s ∷ ss) all → Back version rules phase s ss all
rest_back version rules Outside s ss all draft few r = out_by version rules s ss all r.more r.each r.whole few
rest_back version rules (InLeft rule) s ss all draft few r = left_by version rules rule s ss all draft.right r r.left_lines refl
rest_back version rules (InRight rule) s ss all draft few r = right_back version rules rule s ss all r

-- ## Line by line

record LineReads (version : Version) (reading : Reading) (at : ℕ) (words : List Token) (ss : List Sentence) (all : List Rule) : Type 0 where
  pub next : Reading
  pub is : read_words reading at (lengths_stand version reading.phase) words (line_of version (lengths_stand version reading.phase) words) ≡ Ok next
  pub rest : RestAfter version next ss all

line_reads : (version : Version) (reading : Reading) (at : ℕ) (words : List Token) (ss : List Sentence) (all : List Rule) → IsDraft reading.phase → length all ≤ 64
    → RestAfter version reading (if_words at words ss) all → LineReads version reading at words ss all
line_reads version reading at [] ss all draft few r =
    let l = lengths_stand version reading.phase in
    record { next = reading; is = leaves_given reading at l [] (line_of version l []) reading (blank_given reading.rules reading.phase at l); rest = r }
line_reads version reading at (token ∷ tokens) ss all draft few r =
    let l = lengths_stand version reading.phase in
    let words = token ∷ tokens in
    let b : Back version reading.rules reading.phase (sentence at words) ss all = rest_back version reading.rules reading.phase (sentence at words) ss all draft few r in
    record { next = b.next; is = leaves_given reading at l words (line_of version l words) b.next (step_given version reading.rules reading.phase at words b.next b.step); rest = b.rest }

cons_nil : (xs ys : List Sentence) (s : Sentence) → [] ≡ xs ++ (s ∷ ys) → ⊥
cons_nil [] ys s e = cc
cons_nil (x ∷ xs) ys s e = cc

no_more : (version : Version) (more : List Rule) → SpellsEach version more [] → more ≡ []
no_more version [] each = refl
no_more version (made ∷ more) each =
    let r = each.3 in
    let behind = r.left_lines ++ (lone r.to_at (codes "to") ∷ (r.right_lines ++ (lone r.end_at (codes "end") ∷ []))) in
    let e : [] ≡ lone made.line (codes "rule") ∷ (behind ++ each.1) = each.2 ∙ ap (λ (k : List Sentence). k ++ each.1) r.lines in
    absurd (cons_nil [] (behind ++ each.1) (lone made.line (codes "rule")) e)

end_given : (version : Version) (rules : List Rule) (phase : Phase) (at : ℕ) (all : List Rule) → RestOf version rules phase [] all → at_end (reading_of rules phase) at ≡ Ok all
end_given version rules Outside at all r =
    ap (λ (k : List Rule). Ok k) (sym (r.whole ∙ ap (λ (k : List Rule). rules ++ k) (no_more version r.more r.each) ∙ append-nil rules))
end_given version rules (InLeft rule) at all r = absurd (cons_nil r.left_lines (r.right_lines ++ (lone r.end_at (codes "end") ∷ r.more_lines)) (lone r.to_at (codes "to")) r.lines)
end_given version rules (InRight rule) at all r = absurd (cons_nil r.right_lines r.more_lines (lone r.end_at (codes "end")) r.lines)

lines_given : (version : Version) (lines : List (List ℕ)) (reading : Reading) (at : ℕ) (all : List Rule) → IsDraft reading.phase → length all ≤ 64
    → RestAfter version reading (sentences at lines) all → read_lines version reading at lines ≡ Ok all
lines_given version [] reading at all draft few r = end_given version reading.rules reading.phase at all r
lines_given version (line ∷ lines) reading at all draft few r =
    let l : LineReads version reading at (words_of line) (sentences (at + 1) lines) all = line_reads version reading at (words_of line) (sentences (at + 1) lines) all draft few r in
    let next : read_line version reading at line ≡ Ok l.next = l.is in
    ap (λ (k : Result Reading RuleFault). and_then k (λ n. read_lines version n (at + 1) lines)) next
    ∙ lines_given version lines l.next (at + 1) all (draft_read version reading at line l.next next draft) few l.rest

-- ## The lines behind the first

pub body_is : (version : Version) (lines : List (List ℕ)) (rules : List Rule) → read_lines version unread 2 lines ≡ Ok rules → SpellsBody version lines rules
body_is version lines rules is =
    let r : IsRest version unread (sentences 2 lines) rules = lines_are version lines unread 2 rules is tt (omega arith) in
    record { each = subst (λ (k : List Rule). SpellsEach version k (sentences 2 lines)) (sym r.rest.whole) r.rest.each; few = r.few }

pub body_given : (version : Version) (lines : List (List ℕ)) (rules : List Rule) → SpellsBody version lines rules → read_lines version unread 2 lines ≡ Ok rules
body_given version lines rules s = lines_given version lines unread 2 rules tt s.few (record { more = rules; each = s.each; whole = refl })
