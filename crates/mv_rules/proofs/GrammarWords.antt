-- Words that are no parts, lists of parts, and how many parts a line has.
use Rattle.std.proofs.Common.{◌≡◌, ℕ, suc, ◌+◌, ◌≤◌, Bool, true, false, List, [], ◌∷◌, ◌++◌, length, refl, ap, sym, ◌∙◌, subst, arith, Some, zero-add, one-add, codes, suc-add}
use Rattle.std.specs.Prelude.{if◌then◌else◌, ◌==◌}
use Rattle.std.specs.List.{list_any, list_all}
use Rattle.mv_rules.specs.declared.rule.FdTerm.{FdTerm}
use Rattle.mv_rules.specs.declared.rule.FdTerm.TheVariants as fds
use Rattle.mv_rules.specs.declared.rule.TimeTerm.{TimeTerm}
use Rattle.mv_rules.specs.declared.rule.TimeTerm.TheVariants as times
use Rattle.mv_rules.specs.declared.rule.Part.{Part}
use Rattle.mv_rules.specs.declared.rule.Part.TheVariants.{Text, Sized, Named, Length}
use Rattle.mv_rules.specs.declared.reading.Version.{Version}
use Rattle.mv_rules.specs.declared.reading.Version.TheVariants.{First, Second}
use Rattle.mv_scan.specs.declared.token.Token.{Token}
use Rattle.mv_scan.specs.declared.token.Token.TheVariants.{Plain}
use Rattle.mv_scan.specs.declared.found.Found.TheVariants.{Is}
use Rattle.mv_scan.specs.Found.{pair, is_other}
use Rattle.mv_rules.specs.Forms.{is_errno, errno_in, part_of, all_parts, parts_of}
use Rattle.mv_scan.specs.Numbers.{decimal}
use Rattle.mv_scan.specs.Words.{is_word, is_bad_text}
use Rattle.mv_rules.specs.Names.{part_name_passes, is_sized}
use Rattle.mv_scan.specs.Names.{is_name}
use Rattle.mv_rules.specs.RulesText.{part_count}
use Rattle.mv_rules.specs.ItemGrammar.{Side, Left, Right, SpellsFd, SpellsTime, SpellsPart, SpellsParts, SpellsBytes, SpellsErrno, MayStand}
use Rattle.mv_scan.specs.WordGrammar.{SpellsNumber}
use Rattle.mv_scan.proofs.GrammarFinds.{both_true, both_false, by_map, pair_is}
use Rattle.mv_scan.proofs.TokenLaws.{is_word_is}
use Rattle.mv_rules.proofs.GrammarTerms.{lengths_on, StandsOn, part_is, part_found, part_clean, part_stands}
use Rattle.mv_scan.proofs.NumberLaws.{number_is, number_found, first_digit, below_digits, above_digits}

-- ## Words

-- neither a part nor an arrow nor the word `errno`
pub record IsNeutral (lengths : Bool) (token : Token) : Type 0 where
  pub part : is_other (part_of lengths token) ≡ true
  pub clean : is_bad_text token ≡ false
  pub arrow : is_word (codes "->") token ≡ false

digits_neutral : (lengths : Bool) (n : ℕ) (digits : List ℕ) → decimal digits ≡ Some n → IsNeutral lengths (Plain digits)
digits_neutral lengths n [] value = cc
digits_neutral lengths n (b ∷ bytes) value =
    let d = first_digit b n bytes value in
    let e : (b == 64) ≡ false = above_digits b 64 d (omega arith) in
    let f : (b == 35) ≡ false = below_digits b 35 d (omega arith) in
    let g : (b == 45) ≡ false = below_digits b 45 d (omega arith) in
    record { part = rw (e, f) refl; clean = refl; arrow = rw g refl }

pub number_neutral : (lengths : Bool) (low high n : ℕ) (token : Token) → SpellsNumber low high n token → IsNeutral lengths token
number_neutral lengths low high n token s = subst (λ (t : Token). IsNeutral lengths t) (sym s.written) (digits_neutral lengths n s.digits s.value)

pub fd_neutral : (lengths : Bool) (fd : FdTerm) (token : Token) → SpellsFd fd token → IsNeutral lengths token
fd_neutral lengths (fds.Number n) token s = number_neutral lengths 0 4294967295 n token s
fd_neutral lengths (fds.Name name) token s = rw s.written (record { part = refl; clean = refl; arrow = refl })

pub time_neutral : (lengths : Bool) (time : TimeTerm) (token : Token) → SpellsTime time token → IsNeutral lengths token
time_neutral lengths (times.Number n) token s = number_neutral lengths 0 18446744073709551615 n token s
time_neutral lengths (times.Name name) token s = rw s.written (record { part = refl; clean = refl; arrow = refl })

digits_no_errno : (n : ℕ) (digits : List ℕ) → decimal digits ≡ Some n → is_word (codes "errno") (Plain digits) ≡ false
digits_no_errno n [] value = cc
digits_no_errno n (b ∷ bytes) value = let e : (b == 101) ≡ false = above_digits b 101 (first_digit b n bytes value) (omega arith) in rw e refl

pub fd_no_errno : (fd : FdTerm) (token : Token) → SpellsFd fd token → is_word (codes "errno") token ≡ false
fd_no_errno (fds.Number n) token s = rw s.written (digits_no_errno n s.digits s.value)
fd_no_errno (fds.Name name) token s = rw s.written refl

-- ## Error numbers

pub errno_is : (n : ℕ) (tokens : List Token) → is_errno tokens ≡ true → errno_in tokens ≡ Is n → SpellsErrno n tokens
errno_is n [] h is = cc
errno_is n (token ∷ []) h is = cc
errno_is n (token ∷ number ∷ []) h is =
    record { number = number; written = ap (λ (t : Token). t ∷ number ∷ []) (is_word_is (codes "errno") token h); value = number_is 1 65535 n number is }
errno_is n (token ∷ number ∷ other ∷ tokens) h is = cc

pub errno_word : (n : ℕ) (tokens : List Token) → SpellsErrno n tokens → is_errno tokens ≡ true
errno_word n tokens s = rw s.written refl

pub errno_found : (n : ℕ) (tokens : List Token) → SpellsErrno n tokens → errno_in tokens ≡ Is n
errno_found n tokens s = rw s.written (number_found 1 65535 n s.number s.value)

-- ## How many parts

-- as many parts as this, and no bad text
pub record Weighs (lengths : Bool) (tokens : List Token) (n : ℕ) : Type 0 where
  pub count : part_count lengths tokens ≡ n
  pub clean : list_any is_bad_text tokens ≡ false

pub weighs_nothing : (lengths : Bool) → Weighs lengths [] 0
weighs_nothing lengths = record { count = refl; clean = refl }

pub weighs_neutral : (lengths : Bool) (token : Token) (tokens : List Token) (n : ℕ) → IsNeutral lengths token → Weighs lengths tokens n → Weighs lengths (token ∷ tokens) n
weighs_neutral lengths token tokens n t w = record { count = rw t.part (zero-add (part_count lengths tokens) ∙ w.count); clean = rw t.clean w.clean }

weighs_part : (side : Side) (part : Part) (token : Token) (tokens : List Token) (n : ℕ) → SpellsPart side part token → Weighs (lengths_on side) tokens n
    → Weighs (lengths_on side) (token ∷ tokens) (suc n)
weighs_part side part token tokens n s w =
    record {
      count = rw (part_found side part token s) (one-add (part_count (lengths_on side) tokens) ∙ ap (λ (k : ℕ). suc k) w.count);
      clean = rw (part_clean side part token s) w.clean;
    }

pub weighs_parts : (side : Side) (parts : List Part) (tokens more : List Token) (n : ℕ) → SpellsParts side parts tokens → Weighs (lengths_on side) more n
    → Weighs (lengths_on side) (tokens ++ more) (length parts + n)
weighs_parts side [] [] more n s w = subst (λ (k : ℕ). Weighs (lengths_on side) more k) (sym (zero-add n)) w
weighs_parts side [] (token ∷ tokens) more n s w = absurd s
weighs_parts side (part ∷ parts) [] more n s w = absurd s
weighs_parts side (part ∷ parts) (token ∷ tokens) more n s w =
    subst (λ (k : ℕ). Weighs (lengths_on side) (token ∷ (tokens ++ more)) k) (sym (suc-add (length parts) n))
    (weighs_part side part token (tokens ++ more) (length parts + n) s.0 (weighs_parts side parts tokens more n s.1 w))

pub parts_count : (side : Side) (parts : List Part) (tokens : List Token) → SpellsParts side parts tokens → part_count (lengths_on side) tokens ≡ length parts
parts_count side [] [] s = refl
parts_count side [] (token ∷ tokens) s = absurd s
parts_count side (part ∷ parts) [] s = absurd s
parts_count side (part ∷ parts) (token ∷ tokens) s =
    rw (part_found side part token s.0) (one-add (part_count (lengths_on side) tokens) ∙ ap (λ (k : ℕ). suc k) (parts_count side parts tokens s.1))

-- no more parts than fit, and no bad text
pub record IsClean (lengths : Bool) (tokens : List Token) : Type 0 where
  pub few : part_count lengths tokens ≤ 16
  pub clean : list_any is_bad_text tokens ≡ false

pub clean_tail : (lengths : Bool) (token : Token) (tokens : List Token) → IsClean lengths (token ∷ tokens) → IsClean lengths tokens
clean_tail lengths token tokens c =
    let few : (if is_other (part_of lengths token) then 0 else 1) + part_count lengths tokens ≤ 16 = c.few in
    record { few = omega arith; clean = (both_false (is_bad_text token) (list_any is_bad_text tokens) c.clean).1 }

front_count : (lengths : Bool) (tokens more : List Token) → part_count lengths tokens ≤ part_count lengths (tokens ++ more)
front_count lengths [] more = omega arith
front_count lengths (token ∷ tokens) more = let h : part_count lengths tokens ≤ part_count lengths (tokens ++ more) = front_count lengths tokens more in omega arith

front_clean : (tokens more : List Token) → list_any is_bad_text (tokens ++ more) ≡ false → list_any is_bad_text tokens ≡ false
front_clean [] more h = refl
front_clean (token ∷ tokens) more h = let t = both_false (is_bad_text token) (list_any is_bad_text (tokens ++ more)) h in rw t.0 (front_clean tokens more t.1)

pub clean_front : (lengths : Bool) (tokens more : List Token) → IsClean lengths (tokens ++ more) → IsClean lengths tokens
clean_front lengths tokens more c =
    let h : part_count lengths tokens ≤ part_count lengths (tokens ++ more) = front_count lengths tokens more in
    let few : part_count lengths (tokens ++ more) ≤ 16 = c.few in
    record { few = omega arith; clean = front_clean tokens more c.clean }

pub clean_back : (lengths : Bool) (tokens more : List Token) → IsClean lengths (tokens ++ more) → IsClean lengths more
clean_back lengths [] more c = c
clean_back lengths (token ∷ tokens) more c = clean_back lengths tokens more (clean_tail lengths token (tokens ++ more) c)

-- ## Lists of parts

abbrev pub AreUnsized : Side → List Part → Type 0
AreUnsized side parts = (version : Version) → side ≡ Right version → list_any is_sized parts ≡ false

abbrev PartsAre : Side → List Token → List Part → Type 0
PartsAre side tokens parts = list_all (part_name_passes is_name) parts ≡ true → AreUnsized side parts → SpellsParts side parts tokens

pub parts_are : (side : Side) (parts : List Part) (tokens : List Token) → all_parts (lengths_on side) tokens ≡ Is parts → list_any is_bad_text tokens ≡ false
    → list_all (part_name_passes is_name) parts ≡ true → AreUnsized side parts → SpellsParts side parts tokens
parts_are side parts [] is clean =
    let e : [] ≡ parts = cc in subst (λ (p : List Part). PartsAre side [] p) e (λ good unsized. tt)
parts_are side parts (token ∷ tokens) is clean =
    let c = both_false (is_bad_text token) (list_any is_bad_text tokens) clean in
    by_map (λ (t : Part × List Part). t.0 ∷ t.1) (pair (part_of (lengths_on side) token) (all_parts (lengths_on side) tokens)) parts (PartsAre side (token ∷ tokens))
    (λ t found good unsized.
    let p = pair_is (part_of (lengths_on side) token) (all_parts (lengths_on side) tokens) t found in
    let g = both_true (part_name_passes is_name t.0) (list_all (part_name_passes is_name) t.1) good in
    let stands : StandsOn side t.0 = record { good = g.0; unsized = λ version e. (both_false (is_sized t.0) (list_any is_sized t.1) (unsized version e)).0 } in (
      part_is side t.0 token p.0 c.0 stands,
      parts_are side t.1 tokens p.1 c.1 g.1 (λ version e. (both_false (is_sized t.0) (list_any is_sized t.1) (unsized version e)).1),
    ))
    is

parts_some : (side : Side) (parts : List Part) (token : Token) (tokens : List Token) → SpellsParts side parts (token ∷ tokens) → 1 ≤ length parts
parts_some side [] token tokens s = absurd s
parts_some side (part ∷ parts) token tokens s = omega arith

pub bytes_is : (side : Side) (parts : List Part) (tokens : List Token) → parts_of (lengths_on side) tokens ≡ Is parts → IsClean (lengths_on side) tokens
    → list_all (part_name_passes is_name) parts ≡ true → AreUnsized side parts → MayStand side parts → SpellsBytes side parts tokens
bytes_is side parts [] is clean good unsized order = cc
bytes_is side parts (token ∷ tokens) is clean good unsized order =
    let each : SpellsParts side parts (token ∷ tokens) = parts_are side parts (token ∷ tokens) is clean.clean good unsized in
    record {
      some = parts_some side parts token tokens each;
      few = subst (λ (k : ℕ). k ≤ 16) (parts_count side parts (token ∷ tokens) each) clean.few;
      each = each;
      order = order;
    }

-- ## Lists of parts that are spelled

all_found : (side : Side) (parts : List Part) (tokens : List Token) → SpellsParts side parts tokens → all_parts (lengths_on side) tokens ≡ Is parts
all_found side [] [] s = refl
all_found side [] (token ∷ tokens) s = absurd s
all_found side (part ∷ parts) [] s = absurd s
all_found side (part ∷ parts) (token ∷ tokens) s = rw (part_found side part token s.0, all_found side parts tokens s.1) refl

parts_given : (side : Side) (parts : List Part) (tokens : List Token) → 1 ≤ length parts → SpellsParts side parts tokens → parts_of (lengths_on side) tokens ≡ Is parts
parts_given side [] tokens some s = absurd (omega arith)
parts_given side (part ∷ parts) [] some s = absurd s
parts_given side (part ∷ parts) (token ∷ tokens) some s = all_found side (part ∷ parts) (token ∷ tokens) s

pub bytes_found : (side : Side) (parts : List Part) (tokens : List Token) → SpellsBytes side parts tokens → parts_of (lengths_on side) tokens ≡ Is parts
bytes_found side parts tokens s = parts_given side parts tokens s.some s.each

pub bytes_good : (side : Side) (parts : List Part) (tokens : List Token) → SpellsParts side parts tokens → list_all (part_name_passes is_name) parts ≡ true
bytes_good side [] [] s = refl
bytes_good side [] (token ∷ tokens) s = absurd s
bytes_good side (part ∷ parts) [] s = absurd s
bytes_good side (part ∷ parts) (token ∷ tokens) s = rw ((part_stands side part token s.0).good) (bytes_good side parts tokens s.1)

pub bytes_unsized : (side : Side) (parts : List Part) (tokens : List Token) → SpellsParts side parts tokens → AreUnsized side parts
bytes_unsized side [] [] s = λ version e. refl
bytes_unsized side [] (token ∷ tokens) s = absurd s
bytes_unsized side (part ∷ parts) [] s = absurd s
bytes_unsized side (part ∷ parts) (token ∷ tokens) s = λ version e. rw ((part_stands side part token s.0).unsized version e) (bytes_unsized side parts tokens s.1 version e)

-- the word of a part is neither an arrow nor `errno`
pub record IsPartWord (token : Token) : Type 0 where
  pub arrow : is_word (codes "->") token ≡ false
  pub errno : is_word (codes "errno") token ≡ false

part_word : (side : Side) (part : Part) (token : Token) → SpellsPart side part token → IsPartWord token
part_word Left (Text text) token s = rw s (record { arrow = refl; errno = refl })
part_word (Right version) (Text text) token s = rw s (record { arrow = refl; errno = refl })
part_word Left (Sized name n) token s = rw s.written (record { arrow = refl; errno = refl })
part_word (Right version) (Sized name n) token s = absurd s
part_word Left (Named name) token s = rw s.written (record { arrow = refl; errno = refl })
part_word (Right version) (Named name) token s = rw s.written (record { arrow = refl; errno = refl })
part_word Left (Length name) token s = absurd s
part_word (Right First) (Length name) token s = absurd s
part_word (Right Second) (Length name) token s = rw s.written (record { arrow = refl; errno = refl })

pub parts_no_arrow : (side : Side) (parts : List Part) (tokens : List Token) → SpellsParts side parts tokens → list_any (is_word (codes "->")) tokens ≡ false
parts_no_arrow side [] [] s = refl
parts_no_arrow side [] (token ∷ tokens) s = absurd s
parts_no_arrow side (part ∷ parts) [] s = absurd s
parts_no_arrow side (part ∷ parts) (token ∷ tokens) s = rw ((part_word side part token s.0).arrow) (parts_no_arrow side parts tokens s.1)

no_errno : (side : Side) (parts : List Part) (tokens : List Token) → 1 ≤ length parts → SpellsParts side parts tokens → is_errno tokens ≡ false
no_errno side [] tokens some s = absurd (omega arith)
no_errno side (part ∷ parts) [] some s = absurd s
no_errno side (part ∷ parts) (token ∷ tokens) some s = (part_word side part token s.0).errno

pub bytes_no_errno : (side : Side) (parts : List Part) (tokens : List Token) → SpellsBytes side parts tokens → is_errno tokens ≡ false
bytes_no_errno side parts tokens s = no_errno side parts tokens s.some s.each
