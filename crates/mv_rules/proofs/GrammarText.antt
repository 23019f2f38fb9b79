-- The lines that are read are those of the grammar: what is left of them, line by line.
use Rattle.std.proofs.Common.{◌≡◌, inl, inr, ℕ, ◌+◌, ◌<◌, ◌≤◌, List, [], ◌∷◌, ◌++◌, length, refl, ap, sym, ◌∙◌, subst, arith, append_assoc, append-nil, length-append, codes}
use Rattle.std.specs.Prelude.{Result, Ok, Err}
use Rattle.mv_rules.specs.declared.rule.Pattern.{Pattern}
use Rattle.mv_rules.specs.declared.rule.Guard.{Guard}
use Rattle.mv_rules.specs.declared.rule.Rule.{Rule}
use Rattle.mv_rules.specs.declared.fault.RuleFault.{RuleFault}
use Rattle.mv_rules.specs.declared.reading.Version.{Version}
use Rattle.mv_rules.specs.declared.reading.Phase.{Phase}
use Rattle.mv_rules.specs.declared.reading.Phase.TheVariants.{Outside, InLeft, InRight}
use Rattle.mv_rules.specs.declared.reading.Reading.{Reading}
use Rattle.mv_scan.specs.declared.token.Token.{Token}
use Rattle.mv_rules.specs.Shape.{IsShaped}
use Rattle.mv_rules.specs.Drafts.{IsDraft}
use Rattle.mv_scan.specs.Words.{words_of}
use Rattle.mv_rules.specs.RulesText.{and_then, at_end, new_rule, line_of, lengths_stand, read_line, read_lines, read_words}
use Rattle.mv_rules.specs.Grammar.{Sentence, if_words, sentences, lone, SpellsLeft, SpellsRight, SpellsEach}
use Rattle.mv_rules.proofs.DraftSteps.{draft_read}
use Rattle.mv_rules.proofs.GrammarSteps.{leaves_is, leaves_given}
use Rattle.mv_rules.proofs.GrammarPhases.{reading_of, BeginsRule, TurnsRule, AddsLeft, AddsGuard, EndsRule, AddsRight, Step, step_is}
use Rattle.mv_rules.proofs.GrammarBack.{blank_given}

abbrev pub sentence : ℕ → List Token → Sentence
sentence at words = record { at = at; words = words }

pub record IsSized (rule : Rule) : Type 0 where
  pub some : 1 ≤ length rule.left
  pub left_few : length rule.left ≤ 8
  pub guards_few : length rule.guards ≤ 8
  pub right_few : length rule.right ≤ 16

-- ## What is left

-- outside a rule: more rules
pub record OutRest (version : Version) (rules : List Rule) (ss : List Sentence) (all : List Rule) : Type 0 where
  pub more : List Rule
  pub each : SpellsEach version more ss
  pub whole : all ≡ rules ++ more

-- in a left side: more items and guards, the right side, and more rules
pub record LeftRest (version : Version) (rules : List Rule) (rule : Rule) (ss : List Sentence) (all : List Rule) : Type 0 where
  pub left_lines : List Sentence
  pub right_lines : List Sentence
  pub more_lines : List Sentence
  pub to_at : ℕ
  pub end_at : ℕ
  pub made : Rule
  pub items : List Pattern
  pub guards : List Guard
  pub more : List Rule
  pub lines : ss ≡ left_lines ++ (lone to_at (codes "to") ∷ (right_lines ++ (lone end_at (codes "end") ∷ more_lines)))
  pub line : made.line ≡ rule.line
  pub left : made.left ≡ rule.left ++ items
  pub guarded : made.guards ≡ rule.guards ++ guards
  pub spelled_left : SpellsLeft version rule.left items guards left_lines
  pub spelled_right : SpellsRight version made.left made.right right_lines
  pub sized : IsSized made
  pub each : SpellsEach version more more_lines
  pub whole : all ≡ rules ++ (made ∷ more)

abbrev pub with_rights : Rule → List Pattern → Rule
with_rights rule items = record rule { right = rule.right ++ items }

-- in a right side: more items, and more rules
pub record RightRest (version : Version) (rules : List Rule) (rule : Rule) (ss : List Sentence) (all : List Rule) : Type 0 where
  pub right_lines : List Sentence
  pub more_lines : List Sentence
  pub end_at : ℕ
  pub items : List Pattern
  pub more : List Rule
  pub lines : ss ≡ right_lines ++ (lone end_at (codes "end") ∷ more_lines)
  pub spelled : SpellsRight version rule.left items right_lines
  pub sized : IsSized (with_rights rule items)
  pub each : SpellsEach version more more_lines
  pub whole : all ≡ rules ++ (with_rights rule items ∷ more)

abbrev pub RestOf : Version → List Rule → Phase → List Sentence → List Rule → Type 0
RestOf version rules Outside ss all = OutRest version rules ss all
RestOf version rules (InLeft rule) ss all = LeftRest version rules rule ss all
RestOf version rules (InRight rule) ss all = RightRest version rules rule ss all

abbrev pub RestAfter : Version → Reading → List Sentence → List Rule → Type 0
RestAfter version reading ss all = RestOf version reading.rules reading.phase ss all

-- ## One sentence more

pub joined : (l r m : List Sentence) (t e : Sentence) → (l ++ (t ∷ (r ++ (e ∷ [])))) ++ m ≡ l ++ (t ∷ (r ++ (e ∷ m)))
joined l r m t e = simp append_assoc

begins_more : (version : Version) (rules : List Rule) (at : ℕ) (words : List Token) (next : Reading) (ss : List Sentence) (all : List Rule) → BeginsRule rules at words next
    → RestAfter version next ss all → OutRest version rules (sentence at words ∷ ss) all
begins_more version rules at words next ss all s rest =
    let r : LeftRest version rules (new_rule at) ss all = subst (λ (n : Reading). RestAfter version n ss all) (sym s.after) rest in
    let block = lone r.made.line (codes "rule") ∷ (r.left_lines ++ (lone r.to_at (codes "to") ∷ (r.right_lines ++ (lone r.end_at (codes "end") ∷ [])))) in
    let left : SpellsLeft version [] r.made.left r.made.guards r.left_lines =
    subst (λ (k : List Pattern). SpellsLeft version [] k r.made.guards r.left_lines) (sym r.left)
    (subst (λ (k : List Guard). SpellsLeft version [] r.items k r.left_lines) (sym r.guarded) r.spelled_left) in
    let lines : sentence at words ∷ ss ≡ block ++ r.more_lines =
    ap (λ (k : List Token). sentence at k ∷ ss) s.written
    ∙ ap (λ (n : ℕ). lone n (codes "rule") ∷ ss) (sym r.line)
    ∙ ap (λ (k : List Sentence). lone r.made.line (codes "rule") ∷ k) (r.lines ∙ sym (joined r.left_lines r.right_lines r.more_lines (lone r.to_at (codes "to")) (lone r.end_at (codes "end")))) in
    record {
      more = r.made ∷ r.more;
      each = (
        block,
        r.more_lines,
        lines,
        record {
          left_lines = r.left_lines;
          right_lines = r.right_lines;
          to_at = r.to_at;
          end_at = r.end_at;
          lines = refl;
          left = left;
          right = r.spelled_right;
          some = r.sized.some;
          left_few = r.sized.left_few;
          guards_few = r.sized.guards_few;
          right_few = r.sized.right_few;
        },
        r.each,
      );
      whole = r.whole;
    }

turns_more : (version : Version) (rules : List Rule) (rule : Rule) (at : ℕ) (words : List Token) (next : Reading) (ss : List Sentence) (all : List Rule) → rule.right ≡ [] → TurnsRule rules rule words next
    → RestAfter version next ss all → LeftRest version rules rule (sentence at words ∷ ss) all
turns_more version rules rule at words next ss all none s rest =
    let r : RightRest version rules rule ss all = subst (λ (n : Reading). RestAfter version n ss all) (sym s.after) rest in
    let right : SpellsRight version rule.left (rule.right ++ r.items) r.right_lines =
    subst (λ (k : List Pattern). SpellsRight version rule.left (k ++ r.items) r.right_lines) (sym none) r.spelled in
    record {
      left_lines = [];
      right_lines = r.right_lines;
      more_lines = r.more_lines;
      to_at = at;
      end_at = r.end_at;
      made = with_rights rule r.items;
      items = [];
      guards = [];
      more = r.more;
      lines = ap (λ (k : List Token). sentence at k ∷ ss) s.written ∙ ap (λ (k : List Sentence). lone at (codes "to") ∷ k) r.lines;
      line = refl;
      left = sym (append-nil rule.left);
      guarded = sym (append-nil rule.guards);
      spelled_left = (refl, refl);
      spelled_right = right;
      sized = r.sized;
      each = r.each;
      whole = r.whole;
    }

left_more : (version : Version) (rules : List Rule) (rule : Rule) (at : ℕ) (words : List Token) (next : Reading) (ss : List Sentence) (all : List Rule) → AddsLeft rules rule words next
    → RestAfter version next ss all → LeftRest version rules rule (sentence at words ∷ ss) all
left_more version rules rule at words next ss all s rest =
    let r : LeftRest version rules (record rule { left = rule.left ++ s.item ∷ [] }) ss all = subst (λ (n : Reading). RestAfter version n ss all) (sym s.after) rest in
    record {
      left_lines = sentence at words ∷ r.left_lines;
      right_lines = r.right_lines;
      more_lines = r.more_lines;
      to_at = r.to_at;
      end_at = r.end_at;
      made = r.made;
      items = s.item ∷ r.items;
      guards = r.guards;
      more = r.more;
      lines = ap (λ (k : List Sentence). sentence at words ∷ k) r.lines;
      line = r.line;
      left = r.left ∙ append_assoc rule.left (s.item ∷ []) r.items;
      guarded = r.guarded;
      spelled_left = inl (s.item, r.items, refl, s.spelled, r.spelled_left);
      spelled_right = r.spelled_right;
      sized = r.sized;
      each = r.each;
      whole = r.whole;
    }

guard_more : (version : Version) (rules : List Rule) (rule : Rule) (at : ℕ) (words : List Token) (next : Reading) (ss : List Sentence) (all : List Rule) → AddsGuard version rules rule words next
    → RestAfter version next ss all → LeftRest version rules rule (sentence at words ∷ ss) all
guard_more version rules rule at words next ss all s rest =
    let r : LeftRest version rules (record rule { guards = rule.guards ++ s.guard ∷ [] }) ss all = subst (λ (n : Reading). RestAfter version n ss all) (sym s.after) rest in
    record {
      left_lines = sentence at words ∷ r.left_lines;
      right_lines = r.right_lines;
      more_lines = r.more_lines;
      to_at = r.to_at;
      end_at = r.end_at;
      made = r.made;
      items = r.items;
      guards = s.guard ∷ r.guards;
      more = r.more;
      lines = ap (λ (k : List Sentence). sentence at words ∷ k) r.lines;
      line = r.line;
      left = r.left;
      guarded = r.guarded ∙ append_assoc rule.guards (s.guard ∷ []) r.guards;
      spelled_left = inr (s.guard, r.guards, refl, s.spelled, r.spelled_left);
      spelled_right = r.spelled_right;
      sized = r.sized;
      each = r.each;
      whole = r.whole;
    }

pub unchanged : (rule : Rule) → with_rights rule [] ≡ rule
unchanged rule = ap (λ (k : List Pattern). record rule { right = k }) (append-nil rule.right)

ends_more : (version : Version) (rules : List Rule) (rule : Rule) (at : ℕ) (words : List Token) (next : Reading) (ss : List Sentence) (all : List Rule) → IsShaped rule → EndsRule rules rule words next
    → RestAfter version next ss all → RightRest version rules rule (sentence at words ∷ ss) all
ends_more version rules rule at words next ss all shaped s rest =
    let r : OutRest version (rules ++ rule ∷ []) ss all = subst (λ (n : Reading). RestAfter version n ss all) (sym s.after) rest in
    let sized : IsSized rule = record { some = shaped.some; left_few = shaped.left; guards_few = shaped.guards; right_few = shaped.right } in
    record {
      right_lines = [];
      more_lines = ss;
      end_at = at;
      items = [];
      more = r.more;
      lines = ap (λ (k : List Token). sentence at k ∷ ss) s.written;
      spelled = tt;
      sized = subst (λ (k : Rule). IsSized k) (sym (unchanged rule)) sized;
      each = r.each;
      whole = r.whole ∙ append_assoc rules (rule ∷ []) r.more ∙ ap (λ (k : Rule). rules ++ (k ∷ r.more)) (sym (unchanged rule));
    }

right_more : (version : Version) (rules : List Rule) (rule : Rule) (at : ℕ) (words : List Token) (next : Reading) (ss : List Sentence) (all : List Rule) → AddsRight version rules rule words next
    → RestAfter version next ss all → RightRest version rules rule (sentence at words ∷ ss) all
right_more version rules rule at words next ss all s rest =
    let r : RightRest version rules (record rule { right = rule.right ++ s.item ∷ [] }) ss all = subst (λ (n : Reading). RestAfter version n ss all) (sym s.after) rest in
    let same : record rule { right = (rule.right ++ s.item ∷ []) ++ r.items } ≡ with_rights rule (s.item ∷ r.items) =
    ap (λ (k : List Pattern). record rule { right = k }) (append_assoc rule.right (s.item ∷ []) r.items) in
    record {
      right_lines = sentence at words ∷ r.right_lines;
      more_lines = r.more_lines;
      end_at = r.end_at;
      items = s.item ∷ r.items;
      more = r.more;
      lines = ap (λ (k : List Sentence). sentence at words ∷ k) r.lines;
      spelled = (s.spelled, r.spelled);
      sized = subst (λ (k : Rule). IsSized k) same r.sized;
      each = r.each;
      whole = r.whole ∙ ap (λ (k : Rule). rules ++ (k ∷ r.more)) same;
    }

rest_more : (version : Version) (rules : List Rule) (phase : Phase) (at : ℕ) (words : List Token) (next : Reading) (ss : List Sentence) (all : List Rule) → IsDraft phase → Step version rules phase at words next
    → RestAfter version next ss all → RestOf version rules phase (sentence at words ∷ ss) all
rest_more version rules Outside at words next ss all draft s rest = begins_more version rules at words next ss all s rest
rest_more version rules (InLeft rule) at words next ss all draft (inl s) rest = turns_more version rules rule at words next ss all draft.right s rest
rest_more version rules (InLeft rule) at words next ss all draft (inr (inl s)) rest = left_more version rules rule at words next ss all s rest
rest_more version rules (InLeft rule) at words next ss all draft (inr (inr s)) rest = guard_more version rules rule at words next ss all s rest
rest_more version rules (InRight rule) at words next ss all draft (inl s) rest = ends_more version rules rule at words next ss all draft s rest
rest_more version rules (InRight rule) at words next ss all draft (inr s) rest = right_more version rules rule at words next ss all s rest

-- ## Room for the rules

abbrev pub HasRoom : List Rule → Phase → Type 0
HasRoom rules Outside = length rules ≤ 64
HasRoom rules (InLeft rule) = length rules < 64
HasRoom rules (InRight rule) = length rules < 64

abbrev pub RoomAfter : Reading → Type 0
RoomAfter reading = HasRoom reading.rules reading.phase

room_more : (version : Version) (rules : List Rule) (phase : Phase) (at : ℕ) (words : List Token) (next : Reading) → HasRoom rules phase → Step version rules phase at words next → RoomAfter next
room_more version rules Outside at words next room s = let P : Reading → Type 0 = RoomAfter in subst P s.after s.room
room_more version rules (InLeft rule) at words next room (inl s) = let P : Reading → Type 0 = RoomAfter in subst P s.after room
room_more version rules (InLeft rule) at words next room (inr (inl s)) = let P : Reading → Type 0 = RoomAfter in subst P s.after room
room_more version rules (InLeft rule) at words next room (inr (inr s)) = let P : Reading → Type 0 = RoomAfter in subst P s.after room
room_more version rules (InRight rule) at words next room (inl s) =
    let P : Reading → Type 0 = RoomAfter in
    let more : length (rules ++ rule ∷ []) ≤ 64 = rw length-append (omega arith) in
    subst P s.after more
room_more version rules (InRight rule) at words next room (inr s) = let P : Reading → Type 0 = RoomAfter in subst P s.after room

-- ## Reading gives what is spelled

-- what one line does
record LineIs (version : Version) (reading : Reading) (at : ℕ) (words : List Token) (next : Reading) : Type 0 where
  pub room : RoomAfter next
  pub rest : (ss : List Sentence) (all : List Rule) → RestAfter version next ss all → RestAfter version reading (if_words at words ss) all

same_by : (r : Result Reading RuleFault) (x y : Reading) → r ≡ Ok x → r ≡ Ok y → x ≡ y
same_by r x y h k = cc

words_are : (version : Version) (reading : Reading) (at : ℕ) (words : List Token) (next : Reading)
    → read_words reading at (lengths_stand version reading.phase) words (line_of version (lengths_stand version reading.phase) words) ≡ Ok next
    → IsDraft reading.phase → RoomAfter reading → LineIs version reading at words next
words_are version reading at [] next is draft room =
    let l = lengths_stand version reading.phase in
    let stays = leaves_given reading at l [] (line_of version l []) reading (blank_given reading.rules reading.phase at l) in
    let e : reading ≡ next = same_by (read_words reading at l [] (line_of version l [])) reading next stays is in
    record {
      room = subst (λ (n : Reading). RoomAfter n) e room;
      rest = λ ss all r. subst (λ (n : Reading). RestAfter version n ss all) (sym e) r;
    }
words_are version reading at (token ∷ rest) next is draft room =
    let l = lengths_stand version reading.phase in
    let s = step_is version reading.rules reading.phase at token rest next (leaves_is reading at l (token ∷ rest) (line_of version l (token ∷ rest)) next is) in
    record {
      room = room_more version reading.rules reading.phase at (token ∷ rest) next room s;
      rest = λ ss all r. rest_more version reading.rules reading.phase at (token ∷ rest) next ss all draft s r;
    }

-- a value, and what is made of it
record ThenIs {A B : Type 0} (r : Result A RuleFault) (f : A → Result B RuleFault) (b : B) : Type 0 where
  pub one : A
  pub is : r ≡ Ok one
  pub after : f one ≡ Ok b

then_is : {A B : Type 0} (r : Result A RuleFault) (f : A → Result B RuleFault) (b : B) → and_then r f ≡ Ok b → ThenIs r f b
then_is (Ok a) f b h = record { one = a; is = refl; after = h }
then_is (Err fault) f b h = cc

pub record IsRest (version : Version) (reading : Reading) (ss : List Sentence) (all : List Rule) : Type 0 where
  pub rest : RestOf version reading.rules reading.phase ss all
  pub few : length all ≤ 64

at_end_is : (version : Version) (rules : List Rule) (phase : Phase) (at : ℕ) (all : List Rule) → at_end (reading_of rules phase) at ≡ Ok all → HasRoom rules phase → IsRest version (reading_of rules phase) [] all
at_end_is version rules Outside at all is room =
    let e : rules ≡ all = cc in
    record { rest = record { more = []; each = refl; whole = sym e ∙ sym (append-nil rules) }; few = subst (λ (k : List Rule). length k ≤ 64) e room }
at_end_is version rules (InLeft rule) at all is room = cc
at_end_is version rules (InRight rule) at all is room = cc

pub lines_are : (version : Version) (lines : List (List ℕ)) (reading : Reading) (at : ℕ) (all : List Rule) → read_lines version reading at lines ≡ Ok all
    → IsDraft reading.phase → HasRoom reading.rules reading.phase → IsRest version reading (sentences at lines) all
lines_are version [] reading at all is draft room = at_end_is version reading.rules reading.phase at all is room
lines_are version (line ∷ lines) reading at all is draft room =
    let t = then_is (read_line version reading at line) (λ next. read_lines version next (at + 1) lines) all is in
    let w : LineIs version reading at (words_of line) t.one = words_are version reading at (words_of line) t.one t.is draft room in
    let r : IsRest version t.one (sentences (at + 1) lines) all =
    lines_are version lines t.one (at + 1) all t.after (draft_read version reading at line t.one t.is draft) w.room in
    record { rest = w.rest (sentences (at + 1) lines) all r.rest; few = r.few }
