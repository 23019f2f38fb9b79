-- A line without a fault, and what it leaves.
use Rattle.std.proofs.Common.{◌≡◌, ℕ, Bool, true, false, List, [], ◌∷◌, refl, ap, ◌∙◌, subst, Some, None, codes}
use Rattle.std.proofs.lemmas.Slice.Eq.{bytes_eq-Decides}
use Rattle.std.proofs.lemmas.Bool.{eqb-true}
use Rattle.std.specs.Prelude.{Option, Ok, if◌then◌else◌, ◌==◌}
use Rattle.std.specs.List.{list_any}
use Rattle.std.specs.Str.{bytes_eq}
use Rattle.mv_rules.specs.declared.rule.Guard.{Guard}
use Rattle.mv_rules.specs.declared.rule.Comparison.{Comparison}
use Rattle.mv_rules.specs.declared.rule.Comparison.TheVariants.{Equal, Less, Greater}
use Rattle.mv_rules.specs.declared.fault.RuleKind.{RuleKind}
use Rattle.mv_scan.specs.declared.found.Found.TheVariants.{Other, Is}
use Rattle.mv_rules.specs.declared.line.Line.{Line}
use Rattle.mv_rules.specs.declared.line.Line.TheVariants as lines
use Rattle.mv_rules.specs.declared.reading.Version.{Version}
use Rattle.mv_rules.specs.declared.reading.Version.TheVariants.{First, Second}
use Rattle.mv_rules.specs.declared.reading.Reading.{Reading}
use Rattle.mv_scan.specs.declared.token.Token.{Token}
use Rattle.mv_scan.specs.declared.token.Token.TheVariants.{Plain, Quoted, Glued}
use Rattle.mv_rules.specs.declared.verb.Verb.{Verb}
use Rattle.mv_scan.specs.Found.{pair}
use Rattle.mv_rules.specs.Forms.{verb_of, item_of, guard_of, guard_made, byte_name_of, comparison_of}
use Rattle.mv_scan.specs.Words.{is_word, is_bad_text}
use Rattle.mv_scan.specs.Numbers.{number_of}
use Rattle.mv_scan.specs.Names.{is_name}
use Rattle.mv_rules.specs.RulesText.{is_misplaced, is_excess, is_empty_left, is_formless, is_unfit, is_misnamed, is_twice, is_unbound, is_bad_guard, faults_on, first_fault, unless, read_words, after_line, line_of, line_under, item_line, guard_line, has_words}
use Rattle.mv_rules.specs.ItemGrammar.{SpellsGuard, sign_of}
use Rattle.mv_scan.specs.WordGrammar.{SpellsName}
use Rattle.mv_rules.proofs.DraftSteps.{AllFalse, clean_all}
use Rattle.mv_scan.proofs.GrammarFinds.{by_if, by_map, pair_is}
use Rattle.mv_scan.proofs.NumberLaws.{number_is}
use Rattle.mv_scan.proofs.TokenLaws.{is_word_is}
use Rattle.mv_rules.proofs.GrammarItems.{word_of}

-- ## No fault of the table

pub record IsFaultless (reading : Reading) (lengths : Bool) (tokens : List Token) (line : Line) : Type 0 where
  pub misplaced : is_misplaced reading.phase line ≡ false
  pub excess : is_excess reading lengths tokens line ≡ false
  pub empty : is_empty_left reading.phase line ≡ false
  pub formless : is_formless reading.phase line ≡ false
  pub unfit : is_unfit line ≡ false
  pub text : list_any is_bad_text tokens ≡ false
  pub misnamed : is_misnamed reading.phase line ≡ false
  pub twice : is_twice reading.phase line ≡ false
  pub unbound : is_unbound reading.phase line ≡ false
  pub guard : is_bad_guard reading.phase line ≡ false

faultless_is : (reading : Reading) (lengths : Bool) (tokens : List Token) (line : Line) → first_fault (faults_on reading lengths tokens line) ≡ None → IsFaultless reading lengths tokens line
faultless_is reading lengths tokens line none =
    let c : AllFalse (faults_on reading lengths tokens line) = clean_all (faults_on reading lengths tokens line) none in
    record {
      misplaced = c.0;
      excess = c.1.0;
      empty = c.1.1.0;
      formless = c.1.1.1.0;
      unfit = c.1.1.1.1.0;
      text = c.1.1.1.1.1.0;
      misnamed = c.1.1.1.1.1.1.0;
      twice = c.1.1.1.1.1.1.1.0;
      unbound = c.1.1.1.1.1.1.1.1.0;
      guard = c.1.1.1.1.1.1.1.1.1.0;
    }

none_of : (tests : List (Bool × RuleKind)) → AllFalse tests → first_fault tests ≡ None
none_of [] h = refl
none_of (test ∷ tests) h = rw h.0 (none_of tests h.1)

faultless_given : (reading : Reading) (lengths : Bool) (tokens : List Token) (line : Line) → IsFaultless reading lengths tokens line → first_fault (faults_on reading lengths tokens line) ≡ None
faultless_given reading lengths tokens line f =
    none_of (faults_on reading lengths tokens line)
    (f.misplaced, (f.excess, (f.empty, (f.formless, (f.unfit, (f.text, (f.misnamed, (f.twice, (f.unbound, (f.guard, tt))))))))))

unless_is : (at : ℕ) (fault : Option RuleKind) (after next : Reading) → unless at fault after ≡ Ok next → (fault ≡ None) × (after ≡ next)
unless_is at None after next h = let e : after ≡ next = cc in (refl, e)
unless_is at (Some kind) after next h = cc

-- the line has no fault, and leaves this
pub record Leaves (reading : Reading) (at : ℕ) (lengths : Bool) (tokens : List Token) (line : Line) (next : Reading) : Type 0 where
  pub faultless : IsFaultless reading lengths tokens line
  pub after : after_line reading at line ≡ next

pub leaves_is : (reading : Reading) (at : ℕ) (lengths : Bool) (tokens : List Token) (line : Line) (next : Reading)
    → read_words reading at lengths tokens line ≡ Ok next → Leaves reading at lengths tokens line next
leaves_is reading at lengths tokens line next is =
    let t = unless_is at (first_fault (faults_on reading lengths tokens line)) (after_line reading at line) next is in
    record { faultless = faultless_is reading lengths tokens line t.0; after = t.1 }

pub leaves_given : (reading : Reading) (at : ℕ) (lengths : Bool) (tokens : List Token) (line : Line) (next : Reading)
    → Leaves reading at lengths tokens line next → read_words reading at lengths tokens line ≡ Ok next
leaves_given reading at lengths tokens line next l =
    ap (λ (o : Option RuleKind). unless at o (after_line reading at line)) (faultless_given reading lengths tokens line l.faultless)
    ∙ ap (λ (r : Reading). Ok r) l.after

-- ## Guards

comparison_is : (c : Comparison) (token : Token) → comparison_of token ≡ Is c → token ≡ Plain (sign_of c)
comparison_is c token is =
    by_if (is_word (codes "=") token) (Is Equal) (if is_word (codes "<") token then Is Less else if is_word (codes ">") token then Is Greater else Other) c (token ≡ Plain (sign_of c))
    (λ e is. let q : Equal ≡ c = cc in subst (λ (k : Comparison). token ≡ Plain (sign_of k)) q (is_word_is (codes "=") token e))
    (λ e is. by_if (is_word (codes "<") token) (Is Less) (if is_word (codes ">") token then Is Greater else Other) c (token ≡ Plain (sign_of c))
    (λ e is. let q : Less ≡ c = cc in subst (λ (k : Comparison). token ≡ Plain (sign_of k)) q (is_word_is (codes "<") token e))
    (λ e is. by_if (is_word (codes ">") token) (Is Greater) Other c (token ≡ Plain (sign_of c))
    (λ e is. let q : Greater ≡ c = cc in subst (λ (k : Comparison). token ≡ Plain (sign_of k)) q (is_word_is (codes ">") token e))
    (λ e is. cc) is) is) is

byte_name_is : (name : List ℕ) (token : Token) → byte_name_of token ≡ Is name → is_name name ≡ true → SpellsName 64 name token
byte_name_is name (Plain []) is good = cc
byte_name_is name (Plain (b ∷ bytes)) is good =
    by_if (b == 64) (Is bytes) Other name (SpellsName 64 name (Plain (b ∷ bytes)))
    (λ e is. let q : bytes ≡ name = cc in record { written = ap (λ (k : ℕ). Plain (k ∷ bytes)) (eqb-true b 64 e) ∙ ap (λ (k : List ℕ). Plain (64 ∷ k)) q; good = good })
    (λ e is. cc) is
byte_name_is name (Quoted text) is good = cc
byte_name_is name Glued is good = cc

abbrev GuardIs : List Token → Guard → Type 0
GuardIs tokens guard = is_name guard.name ≡ true → SpellsGuard guard (Plain (codes "when") ∷ tokens)

pub guard_is : (guard : Guard) (tokens : List Token) → guard_of tokens ≡ Is guard → GuardIs tokens guard
guard_is guard [] is good = cc
guard_is guard (name ∷ []) is good = cc
guard_is guard (name ∷ op ∷ []) is good = cc
guard_is guard (name ∷ op ∷ number ∷ []) is good =
    by_map (λ (t : (List ℕ × Comparison) × ℕ). guard_made t.0.0 t.0.1 t.1) (pair (pair (byte_name_of name) (comparison_of op)) (number_of 0 65536 number)) guard (GuardIs (name ∷ op ∷ number ∷ []))
    (λ t found good.
    let p = pair_is (pair (byte_name_of name) (comparison_of op)) (number_of 0 65536 number) t found in
    let q = pair_is (byte_name_of name) (comparison_of op) t.0 p.0 in
    record {
      name = name;
      number = number;
      written = ap (λ (k : Token). Plain (codes "when") ∷ name ∷ k ∷ number ∷ []) (comparison_is t.0.1 op q.1);
      named = byte_name_is t.0.0 name q.0 good;
      length = number_is 0 65536 t.1 number p.1;
    })
    is good
guard_is guard (name ∷ op ∷ number ∷ other ∷ tokens) is good = cc

-- ## What a line is

by_line : (b : Bool) (x y : Line) (P : Line → Type 0) → (b ≡ true → P x) → (b ≡ false → P y) → P (if b then x else y)
by_line true x y P h k = h refl
by_line false x y P h k = k refl

by_bytes : (word : List ℕ) (other : List ℕ) → bytes_eq word other ≡ true → word ≡ other
by_bytes word other h = (bytes_eq-Decides word other).0 h

by_verb : (b : Bool) (x y : Option Verb) (P : Option Verb → Type 0) → (b ≡ true → P x) → P y → P (if b then x else y)
by_verb true x y P h k = h refl
by_verb false x y P h k = k

abbrev VerbIs : List ℕ → Option Verb → Type 0
VerbIs word None = Unit {0}
VerbIs word (Some verb) = word ≡ word_of verb

verb_is : (word : List ℕ) → VerbIs word (verb_of word)
verb_is word =
    let P : Option Verb → Type 0 = VerbIs word in
    by_verb (bytes_eq word (codes "read")) _ _ P (λ e. by_bytes word (codes "read") e)
    (by_verb (bytes_eq word (codes "write")) _ _ P (λ e. by_bytes word (codes "write") e)
    (by_verb (bytes_eq word (codes "accept")) _ _ P (λ e. by_bytes word (codes "accept") e)
    (by_verb (bytes_eq word (codes "close")) _ _ P (λ e. by_bytes word (codes "close") e)
    (by_verb (bytes_eq word (codes "shutdown")) _ _ P (λ e. by_bytes word (codes "shutdown") e)
    (by_verb (bytes_eq word (codes "yield")) _ _ P (λ e. by_bytes word (codes "yield") e)
    (by_verb (bytes_eq word (codes "clock")) _ _ P (λ e. by_bytes word (codes "clock") e)
    (by_verb (bytes_eq word (codes "random")) _ _ P (λ e. by_bytes word (codes "random") e) tt)))))))

-- what is to be shown of each kind of line that has these words
pub record Cases (version : Version) (lengths : Bool) (tokens : List Token) (P : Line → Type 0) : Type 0 where
  pub rule : (rest : List Token) → tokens ≡ Plain (codes "rule") ∷ rest → P (lines.Begins (has_words rest))
  pub to : (rest : List Token) → tokens ≡ Plain (codes "to") ∷ rest → P (lines.Turns (has_words rest))
  pub ends : (rest : List Token) → tokens ≡ Plain (codes "end") ∷ rest → P (lines.Ends (has_words rest))
  pub when : (rest : List Token) → tokens ≡ Plain (codes "when") ∷ rest → version ≡ Second → P (lines.When (guard_of rest))
  pub item : (verb : Verb) (rest : List Token) → tokens ≡ Plain (word_of verb) ∷ rest → P (lines.Item (item_of verb lengths rest))
  pub other : P lines.Other

when_cases : (version : Version) (lengths : Bool) (word : List ℕ) (rest : List Token) (P : Line → Type 0) → Cases version lengths (Plain word ∷ rest) P
    → word ≡ codes "when" → P (guard_line version rest)
when_cases First lengths word rest P c e = c.other
when_cases Second lengths word rest P c e = c.when rest (ap (λ (k : List ℕ). Plain k ∷ rest) e) refl

item_cases : (version : Version) (lengths : Bool) (word : List ℕ) (rest : List Token) (verb : Option Verb) (P : Line → Type 0) → Cases version lengths (Plain word ∷ rest) P
    → VerbIs word verb → P (item_line lengths rest verb)
item_cases version lengths word rest None P c e = c.other
item_cases version lengths word rest (Some verb) P c e = c.item verb rest (ap (λ (k : List ℕ). Plain k ∷ rest) e)

under_cases : (version : Version) (lengths : Bool) (word : List ℕ) (rest : List Token) (P : Line → Type 0) → Cases version lengths (Plain word ∷ rest) P → P (line_under version lengths word rest)
under_cases version lengths word rest P c =
    by_line (bytes_eq word (codes "rule")) _ _ P (λ e. c.rule rest (ap (λ (k : List ℕ). Plain k ∷ rest) (by_bytes word (codes "rule") e))) (λ other.
    by_line (bytes_eq word (codes "to")) _ _ P (λ e. c.to rest (ap (λ (k : List ℕ). Plain k ∷ rest) (by_bytes word (codes "to") e))) (λ other.
    by_line (bytes_eq word (codes "end")) _ _ P (λ e. c.ends rest (ap (λ (k : List ℕ). Plain k ∷ rest) (by_bytes word (codes "end") e))) (λ other.
    by_line (bytes_eq word (codes "when")) _ _ P (λ e. when_cases version lengths word rest P c (by_bytes word (codes "when") e)) (λ other.
    item_cases version lengths word rest (verb_of word) P c (verb_is word)))))

pub line_cases : (version : Version) (lengths : Bool) (token : Token) (rest : List Token) (P : Line → Type 0) → Cases version lengths (token ∷ rest) P → P (line_of version lengths (token ∷ rest))
line_cases version lengths (Plain word) rest P c = under_cases version lengths word rest P c
line_cases version lengths (Quoted text) rest P c = c.other
line_cases version lengths Glued rest P c = c.other
