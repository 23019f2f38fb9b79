-- The terms and parts that are found are those that their words spell.
use Rattle.std.proofs.Common.{◌≡◌, ℕ, ◌+◌, ◌≤◌, ◌&&◌, Bool, true, false, List, [], ◌∷◌, ◌++◌, length, refl, ap, ◌∙◌, subst, take, drop, arith, Some, None}
use Rattle.std.proofs.lemmas.Bool.{eqb-true}
use Rattle.std.proofs.lemmas.Bool.Decides.{nat_tests}
use Rattle.std.proofs.Math.Seq.{take-append_seam, drop-append-add}
use Rattle.std.specs.Prelude.{Option, nat_le, if◌then◌else◌, ◌==◌}
use Rattle.std.specs.List.{position, list_any, list_all}
use Rattle.mv_rules.specs.declared.rule.FdTerm.{FdTerm}
use Rattle.mv_rules.specs.declared.rule.FdTerm.TheVariants as fds
use Rattle.mv_rules.specs.declared.rule.TimeTerm.{TimeTerm}
use Rattle.mv_rules.specs.declared.rule.TimeTerm.TheVariants as times
use Rattle.mv_rules.specs.declared.rule.Part.{Part}
use Rattle.mv_rules.specs.declared.rule.Part.TheVariants.{Text, Sized, Named, Length}
use Rattle.mv_rules.specs.declared.reading.Version.{Version}
use Rattle.mv_rules.specs.declared.reading.Version.TheVariants.{First, Second}
use Rattle.mv_scan.specs.declared.token.Token.{Token}
use Rattle.mv_scan.specs.declared.token.Token.TheVariants.{Plain, Quoted, Glued}
use Rattle.mv_scan.specs.declared.found.Found.{Found}
use Rattle.mv_scan.specs.declared.found.Found.TheVariants.{Other, OutOfRange, Is}
use Rattle.mv_scan.specs.Found.{found_map}
use Rattle.mv_rules.specs.Forms.{fd_of, fd_in_word, time_of, time_in_word, sized_as, named_at, part_in_word, part_of}
use Rattle.mv_scan.specs.Numbers.{decimal, in_range}
use Rattle.mv_rules.specs.Names.{fd_name_passes, time_name_passes, part_name_passes, is_sized}
use Rattle.mv_scan.specs.Names.{is_name, is_name_byte, is_lower}
use Rattle.mv_scan.specs.Words.{is_bad_text}
use Rattle.mv_rules.specs.ItemGrammar.{Side, Left, Right, SpellsFd, SpellsTime, SpellsSized, SpellsPart}
use Rattle.mv_scan.specs.WordGrammar.{SpellsName}
use Rattle.mv_scan.proofs.GrammarFinds.{both_true, by_if, by_map, range_is, range_of, position_is, position_at, position_none}
use Rattle.mv_scan.proofs.NumberLaws.{number_is, first_digit, below_digits}

-- whether a `#name` is a part on this side
abbrev pub lengths_on : Side → Bool
lengths_on Left = false
lengths_on (Right First) = false
lengths_on (Right Second) = true

-- ## Terms

named_is : (sign b : ℕ) (bytes : List ℕ) → (b == sign) ≡ true → is_name bytes ≡ true → SpellsName sign bytes (Plain (b ∷ bytes))
named_is sign b bytes e good = record { written = ap (λ (k : ℕ). Plain (k ∷ bytes)) (eqb-true b sign e); good = good }

abbrev FdIs : Token → FdTerm → Type 0
FdIs token fd = fd_name_passes is_name (Some fd) ≡ true → SpellsFd fd token

pub fd_is : (fd : FdTerm) (token : Token) → fd_of token ≡ Is fd → fd_name_passes is_name (Some fd) ≡ true → SpellsFd fd token
fd_is fd (Plain []) is good = cc
fd_is fd (Plain (b ∷ bytes)) is good =
    by_if (b == 36) (Is (fds.Name bytes)) (found_map fds.Number (in_range 0 4294967295 (decimal (b ∷ bytes)))) fd (SpellsFd fd (Plain (b ∷ bytes)))
    (λ e is. let same : fds.Name bytes ≡ fd = cc in subst (λ (f : FdTerm). FdIs (Plain (b ∷ bytes)) f) same (named_is 36 b bytes e) good)
    (λ e is. by_map fds.Number (in_range 0 4294967295 (decimal (b ∷ bytes))) fd (FdIs (Plain (b ∷ bytes)))
    (λ n found unused. number_is 0 4294967295 n (Plain (b ∷ bytes)) found) is good)
    is
fd_is fd (Quoted text) is good = cc
fd_is fd Glued is good = cc

abbrev TimeIs : Token → TimeTerm → Type 0
TimeIs token time = time_name_passes is_name (Some time) ≡ true → SpellsTime time token

pub time_is : (time : TimeTerm) (token : Token) → time_of token ≡ Is time → time_name_passes is_name (Some time) ≡ true → SpellsTime time token
time_is time (Plain []) is good = cc
time_is time (Plain (b ∷ bytes)) is good =
    by_if (b == 37) (Is (times.Name bytes)) (found_map times.Number (in_range 0 18446744073709551615 (decimal (b ∷ bytes)))) time (SpellsTime time (Plain (b ∷ bytes)))
    (λ e is. let same : times.Name bytes ≡ time = cc in subst (λ (f : TimeTerm). TimeIs (Plain (b ∷ bytes)) f) same (named_is 37 b bytes e) good)
    (λ e is. by_map times.Number (in_range 0 18446744073709551615 (decimal (b ∷ bytes))) time (TimeIs (Plain (b ∷ bytes)))
    (λ n found unused. number_is 0 18446744073709551615 n (Plain (b ∷ bytes)) found) is good)
    is
time_is time (Quoted text) is good = cc
time_is time Glued is good = cc

fd_number : (n : ℕ) (digits : List ℕ) → decimal digits ≡ Some n → n ≤ 4294967295 → fd_in_word digits ≡ Is (fds.Number n)
fd_number n [] value to = cc
fd_number n (b ∷ bytes) value to =
    let e = below_digits b 36 (first_digit b n bytes value) (omega arith) in
    rw e (ap (λ (x : Found ℕ). found_map fds.Number x) (range_of 0 4294967295 n (decimal (b ∷ bytes)) value (omega arith) to))

pub fd_found : (fd : FdTerm) (token : Token) → SpellsFd fd token → fd_of token ≡ Is fd
fd_found (fds.Number n) token s = rw s.written (fd_number n s.digits s.value s.to)
fd_found (fds.Name name) token s = rw s.written refl

pub fd_good : (fd : FdTerm) (token : Token) → SpellsFd fd token → fd_name_passes is_name (Some fd) ≡ true
fd_good (fds.Number n) token s = refl
fd_good (fds.Name name) token s = s.good

time_number : (n : ℕ) (digits : List ℕ) → decimal digits ≡ Some n → n ≤ 18446744073709551615 → time_in_word digits ≡ Is (times.Number n)
time_number n [] value to = cc
time_number n (b ∷ bytes) value to =
    let e = below_digits b 37 (first_digit b n bytes value) (omega arith) in
    rw e (ap (λ (x : Found ℕ). found_map times.Number x) (range_of 0 18446744073709551615 n (decimal (b ∷ bytes)) value (omega arith) to))

pub time_found : (time : TimeTerm) (token : Token) → SpellsTime time token → time_of token ≡ Is time
time_found (times.Number n) token s = rw s.written (time_number n s.digits s.value s.to)
time_found (times.Name name) token s = rw s.written refl

pub time_good : (time : TimeTerm) (token : Token) → SpellsTime time token → time_name_passes is_name (Some time) ≡ true
time_good (times.Number n) token s = refl
time_good (times.Name name) token s = s.good

-- ## Parts

-- this part may stand on the side, and has a name
pub record StandsOn (side : Side) (part : Part) : Type 0 where
  pub good : part_name_passes is_name part ≡ true
  pub unsized : (version : Version) → side ≡ Right version → is_sized part ≡ false

abbrev PartIs : Side → Token → Part → Type 0
PartIs side token part = StandsOn side part → SpellsPart side part token

spells_named : (side : Side) (name : List ℕ) (token : Token) → SpellsName 64 name token → SpellsPart side (Named name) token
spells_named Left name token s = s
spells_named (Right version) name token s = s

spells_sized : (side : Side) (name : List ℕ) (n : ℕ) (token : Token) → SpellsSized name n token → StandsOn side (Sized name n) → SpellsPart side (Sized name n) token
spells_sized Left name n token s stands = s
spells_sized (Right version) name n token s stands = let e : true ≡ false = stands.unsized version refl in cc

spells_length : (side : Side) (name : List ℕ) (token : Token) → lengths_on side ≡ true → SpellsName 35 name token → SpellsPart side (Length name) token
spells_length Left name token on s = cc
spells_length (Right First) name token on s = cc
spells_length (Right Second) name token on s = s

sized_is : (side : Side) (b : ℕ) (whole name digits : List ℕ) (found : Found ℕ) (part : Part) → (b == 64) ≡ true
    → in_range 1 65536 (decimal digits) ≡ found → whole ≡ name ++ (58 ∷ digits) → sized_as whole name found ≡ Is part → PartIs side (Plain (b ∷ whole)) part
sized_is side b whole name digits Other part e same split is =
    let q : Named whole ≡ part = cc in
    subst (λ (p : Part). PartIs side (Plain (b ∷ whole)) p) q (λ stands. spells_named side whole (Plain (b ∷ whole)) (named_is 64 b whole e stands.good))
sized_is side b whole name digits OutOfRange part e same split is = cc
sized_is side b whole name digits (Is n) part e same split is =
    let q : Sized name n ≡ part = cc in
    let t = range_is 1 65536 n (decimal digits) same in
    subst (λ (p : Part). PartIs side (Plain (b ∷ whole)) p) q (λ stands. spells_sized side name n (Plain (b ∷ whole))
    (record { digits = digits; written = ap (λ (k : ℕ). Plain (k ∷ whole)) (eqb-true b 64 e) ∙ ap (λ (k : List ℕ). Plain (64 ∷ k)) split; good = stands.good; value = t.0; from = t.1.0; to = t.1.1 })
    stands)

named_at_is : (side : Side) (b : ℕ) (whole : List ℕ) (colon : Option ℕ) (part : Part) → (b == 64) ≡ true → position (λ c. c == 58) whole ≡ colon
    → named_at whole colon ≡ Is part → PartIs side (Plain (b ∷ whole)) part
named_at_is side b whole None part e at is =
    let q : Named whole ≡ part = cc in
    subst (λ (p : Part). PartIs side (Plain (b ∷ whole)) p) q (λ stands. spells_named side whole (Plain (b ∷ whole)) (named_is 64 b whole e stands.good))
named_at_is side b whole (Some colon) part e at is =
    let s = position_is (λ c. c == 58) whole colon at in
    let c : s.one ≡ 58 = eqb-true s.one 58 s.passes in
    let split : whole ≡ take colon whole ++ (58 ∷ drop (colon + 1) whole) = s.parts ∙ ap (λ (k : ℕ). take colon whole ++ (k ∷ drop (colon + 1) whole)) c in
    sized_is side b whole (take colon whole) (drop (colon + 1) whole) (in_range 1 65536 (decimal (drop (colon + 1) whole))) part e refl split is

length_is : (side : Side) (b : ℕ) (bytes : List ℕ) (part : Part) → ((b == 35) && lengths_on side) ≡ true → Is (Length bytes) ≡ Is part → PartIs side (Plain (b ∷ bytes)) part
length_is side b bytes part e is =
    let q : Length bytes ≡ part = cc in
    let t = both_true (b == 35) (lengths_on side) e in
    subst (λ (p : Part). PartIs side (Plain (b ∷ bytes)) p) q (λ stands. spells_length side bytes (Plain (b ∷ bytes)) t.1 (named_is 35 b bytes t.0 stands.good))

spells_text : (side : Side) (text : List ℕ) → SpellsPart side (Text text) (Quoted (Some text))
spells_text Left text = refl
spells_text (Right version) text = refl

pub part_is : (side : Side) (part : Part) (token : Token) → part_of (lengths_on side) token ≡ Is part → is_bad_text token ≡ false → StandsOn side part → SpellsPart side part token
part_is side part (Plain []) is clean stands = cc
part_is side part (Plain (b ∷ bytes)) is clean stands =
    by_if (b == 64) (named_at bytes (position (λ c. c == 58) bytes)) (if (b == 35) && lengths_on side then Is (Length bytes) else Other) part (SpellsPart side part (Plain (b ∷ bytes)))
    (λ e is. named_at_is side b bytes (position (λ c. c == 58) bytes) part e refl is stands)
    (λ e is. by_if ((b == 35) && lengths_on side) (Is (Length bytes)) Other part (SpellsPart side part (Plain (b ∷ bytes)))
    (λ e is. length_is side b bytes part e is stands) (λ e is. cc) is)
    is
part_is side part (Quoted None) is clean stands = cc
part_is side part (Quoted (Some text)) is clean stands =
    let q : Text text ≡ part = cc in subst (λ (p : Part). SpellsPart side p (Quoted (Some text))) q (spells_text side text)
part_is side part Glued is clean stands = cc

-- ## Parts that are spelled

byte_no_colon : (c : ℕ) → is_name_byte c ≡ true → (c == 58) ≡ false
byte_no_colon c h = grind (arith, nat_tests, h)

no_colon : (bytes : List ℕ) → list_all is_name_byte bytes ≡ true → list_any (λ c. c == 58) bytes ≡ false
no_colon [] h = refl
no_colon (c ∷ bytes) h =
    let t = both_true (is_name_byte c) (list_all is_name_byte bytes) h in
    rw (byte_no_colon c t.0) (no_colon bytes t.1)

lower_no_colon : (c : ℕ) → is_lower c ≡ true → (c == 58) ≡ false
lower_no_colon c h = let t = both_true (nat_le 97 c) (nat_le c 122) h in grind (arith, nat_tests, t.0, t.1)

name_no_colon : (name : List ℕ) → is_name name ≡ true → list_any (λ c. c == 58) name ≡ false
name_no_colon [] h = cc
name_no_colon (c ∷ bytes) h =
    let t = both_true (is_lower c) (nat_le (length bytes) 15 && list_all is_name_byte bytes) h in
    let u = both_true (nat_le (length bytes) 15) (list_all is_name_byte bytes) t.1 in
    rw (lower_no_colon c t.0) (no_colon bytes u.1)

named_found : (lengths : Bool) (name : List ℕ) → is_name name ≡ true → part_in_word lengths (64 ∷ name) ≡ Is (Named name)
named_found lengths name good = ap (λ o. named_at name o) (position_none (λ c. c == 58) name (name_no_colon name good))

sized_found : (lengths : Bool) (name digits : List ℕ) (n : ℕ) → is_name name ≡ true → decimal digits ≡ Some n → 1 ≤ n → n ≤ 65536
    → part_in_word lengths (64 ∷ (name ++ (58 ∷ digits))) ≡ Is (Sized name n)
sized_found lengths name digits n good value from to =
    let whole = name ++ (58 ∷ digits) in
    let at = position_at (λ c. c == 58) name digits 58 (name_no_colon name good) refl in
    let front : take (length name) (name ++ (58 ∷ digits)) ≡ name = take-append_seam name (58 ∷ digits) in
    let back : drop (length name + 1) (name ++ (58 ∷ digits)) ≡ digits = drop-append-add name (58 ∷ digits) 1 in
    ap (λ o. named_at whole o) at
    ∙ ap (λ (k : List ℕ). sized_as whole k (in_range 1 65536 (decimal (drop (length name + 1) whole)))) front
    ∙ ap (λ (k : List ℕ). sized_as whole name (in_range 1 65536 (decimal k))) back
    ∙ ap (λ (f : Found ℕ). sized_as whole name f) (range_of 1 65536 n (decimal digits) value from to)

pub part_found : (side : Side) (part : Part) (token : Token) → SpellsPart side part token → part_of (lengths_on side) token ≡ Is part
part_found Left (Text text) token s = rw s refl
part_found (Right version) (Text text) token s = rw s refl
part_found Left (Sized name n) token s = rw s.written (sized_found false name s.digits n s.good s.value s.from s.to)
part_found (Right version) (Sized name n) token s = absurd s
part_found Left (Named name) token s = rw s.written (named_found false name s.good)
part_found (Right version) (Named name) token s = rw s.written (named_found (lengths_on (Right version)) name s.good)
part_found Left (Length name) token s = absurd s
part_found (Right First) (Length name) token s = absurd s
part_found (Right Second) (Length name) token s = rw s.written refl

pub part_clean : (side : Side) (part : Part) (token : Token) → SpellsPart side part token → is_bad_text token ≡ false
part_clean Left (Text text) token s = rw s refl
part_clean (Right version) (Text text) token s = rw s refl
part_clean Left (Sized name n) token s = rw s.written refl
part_clean (Right version) (Sized name n) token s = absurd s
part_clean Left (Named name) token s = rw s.written refl
part_clean (Right version) (Named name) token s = rw s.written refl
part_clean Left (Length name) token s = absurd s
part_clean (Right First) (Length name) token s = absurd s
part_clean (Right Second) (Length name) token s = rw s.written refl

right_apart : (version : Version) → Left ≡ Right version → true ≡ false
right_apart version h = cc

pub part_stands : (side : Side) (part : Part) (token : Token) → SpellsPart side part token → StandsOn side part
part_stands side (Text text) token s = record { good = refl; unsized = λ version e. refl }
part_stands Left (Sized name n) token s = record { good = s.good; unsized = λ version e. right_apart version e }
part_stands (Right version) (Sized name n) token s = absurd s
part_stands Left (Named name) token s = record { good = s.good; unsized = λ version e. refl }
part_stands (Right version) (Named name) token s = record { good = s.good; unsized = λ version e. refl }
part_stands Left (Length name) token s = absurd s
part_stands (Right First) (Length name) token s = absurd s
part_stands (Right Second) (Length name) token s = record { good = s.good; unsized = λ version e. refl }
