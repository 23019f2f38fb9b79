-- A field that is read is the field that was written, and what was written is read again.
use Rattle.std.proofs.Common.{◌≡◌, ℕ, zero, suc, ◌+◌, ◌^◌, ◌<◌, ◌≤◌, Bool, true, false, cond, eqb, ltb, List, [], ◌∷◌, ◌++◌, length, get_or, take, drop, Result, Ok, Err, refl, sym, ap, subst, ◌∙◌, append_assoc, arith, inl, inr, ◌⊎◌, ◌%◌}
use Rattle.std.proofs.lemmas.Bool.{cases_lt, ltb-false, le-ltb, eqb-true}
use Rattle.std.proofs.lemmas.List.{take_at, drop_at, take-append-drop, length-append, length-take, get_or-drop, get_or-take, get_or_past}
use Rattle.std.proofs.lemmas.Nat.{le_bytes_2, le_bytes_4, le_bytes_8}
use Rattle.std.proofs.lemmas.List.Concat.{flat_map-cons}
use Rattle.std.specs.List.{flat_map, AllByRecursion}
use Rattle.byteorder.specs.Endian.{little_bytes, little_number}
use Rattle.byteorder.specs.Numbers.{little_number-reads_back, little_from-lt, length-bytes_low_first}
use Rattle.mv_record.specs.declared.fault.BodyFault.{BodyFault}
use Rattle.mv_record.specs.declared.fault.BodyFault.TheVariants.{Passes}
use Rattle.mv_record.specs.Spelling.{byte, byte_list, list_text}
use Rattle.mv_record.specs.Fitting.{IsU8, IsU16, IsU32, IsU64, IsSmall, FitsList}
use Rattle.mv_record.specs.Reading.{◌>>=◌, ◌⟫◌, Reader, plain_at, number_at, byte_list_at, many_at, list_at, Table, by_code, tagged_at}

-- holds of each value
abbrev pub Any : {A : Type 0} → A → Type 0
Any x = Unit {0}

abbrev pub IsBytes : List ℕ → Type 0
IsBytes bytes = (i : ℕ) → get_or bytes i 0 < 256

pub rest_bytes : (a b : List ℕ) → IsBytes (a ++ b) → IsBytes b
rest_bytes [] b h = h
rest_bytes (x ∷ a) b h = rest_bytes a b (λ i. h (suc i))

-- the value of a step that did not fail
pub bind_ok : {A B : Type 0} (r : Result A BodyFault) (f : A → Result B BodyFault) (y : B) → (r >>= f) ≡ Ok y → (x : A) × (r ≡ Ok x) × (f x ≡ Ok y)
bind_ok (Ok x) f y e = (x, refl, e)
bind_ok (Err d) f y e = absurd cc

pub bind_again : {A B : Type 0} (r : Result A BodyFault) (f : A → Result B BodyFault) (x : A) → r ≡ Ok x → (r >>= f) ≡ f x
bind_again r f x e = ap (λ (q : Result _ BodyFault). q >>= f) e

-- a test that did not fail
pub guard_ok : {A : Type 0} (b : Bool) (d : BodyFault) (x y : A) → cond b (Err d) (Ok x) ≡ Ok y → (b ≡ false) × (x ≡ y)
guard_ok true d x y e = absurd cc
guard_ok false d x y e = (refl, cc)

pub chosen : {A : Type 0} (b : Bool) (x y z : A) → cond b x y ≡ z → ((b ≡ true) × (x ≡ z)) ⊎ ((b ≡ false) × (y ≡ z))
chosen true x y z e = inl (refl, e)
chosen false x y z e = inr (refl, e)

abbrev done : {A : Type 0} → A → Result A BodyFault
done x = Ok x

pub ok_is : {A : Type 0} (x y : A) → done x ≡ done y → x ≡ y
ok_is x y e = cc

-- ---- what a reader and a spelling owe each other

-- what stands before the field, the field and its rest are the bytes
pub record Takes {A : Type 0} (front bytes : List ℕ) (text : A → List ℕ) (Fits : A → Type 0) (x : A) (rest : List ℕ) : Type 0 where
  pub parts : front ++ bytes ≡ text x ++ rest
  pub fits : Fits x
  pub rest_fits : IsBytes rest

-- a reader of what follows `front` in the text of such values
pub record IsRow {A : Type 0} (front : List ℕ) (text : A → List ℕ) (Fits : A → Type 0) (read : Reader A) : Type 0 where
  pub takes : (bytes : List ℕ) (x : A) (rest : List ℕ) → IsBytes bytes → read bytes ≡ Ok (x, rest) → Takes front bytes text Fits x rest

abbrev pub IsAgain : {A : Type 0} → (A → List ℕ) → (A → Type 0) → Reader A → Type 0
IsAgain {A} text Fits read = (x : A) (rest : List ℕ) → Fits x → read (text x ++ rest) ≡ Ok (x, rest)

-- ---- numbers

abbrev IsBack : ℕ → Type 0
IsBack n = (bytes : List ℕ) → n ≤ length bytes → IsBytes bytes → little_bytes n (little_number n bytes) ≡ take n bytes

take_bytes : (n : ℕ) (bytes : List ℕ) → IsBytes bytes → IsBytes (take n bytes)
take_bytes n bytes h i =
    elim (cases_lt i n) [
      | inl lt ↦ rw (get_or-take n bytes i 0 lt) (h i)
      | inr le ↦ rw (get_or_past (take n bytes) i 0 (omega (arith, length-take n bytes))) (omega arith)
    ]

drop_bytes : (n : ℕ) (bytes : List ℕ) → IsBytes bytes → IsBytes (drop n bytes)
drop_bytes n bytes h i = rw get_or-drop (h (n + i))

back1 : IsBack 1
back1 [] long fits = absurd (omega arith)
back1 (a ∷ rest) long fits = let e : (a + 0) % 256 ≡ a = omega (arith, fits 0) in ap (λ (x : ℕ). x ∷ []) e

back2 : IsBack 2
back2 [] long fits = absurd (omega arith)
back2 (a ∷ []) long fits = absurd (omega arith)
back2 (a ∷ b ∷ rest) long fits = le_bytes_2 (a ∷ b ∷ []) _ refl (take_bytes 2 (a ∷ b ∷ rest) fits) (omega arith)

back4 : IsBack 4
back4 [] long fits = absurd (omega arith)
back4 (a ∷ []) long fits = absurd (omega arith)
back4 (a ∷ b ∷ []) long fits = absurd (omega arith)
back4 (a ∷ b ∷ c ∷ []) long fits = absurd (omega arith)
back4 (a ∷ b ∷ c ∷ d ∷ rest) long fits = le_bytes_4 (a ∷ b ∷ c ∷ d ∷ []) _ refl (take_bytes 4 (a ∷ b ∷ c ∷ d ∷ rest) fits) (omega arith)

back8 : IsBack 8
back8 [] long fits = absurd (omega arith)
back8 (a ∷ []) long fits = absurd (omega arith)
back8 (a ∷ b ∷ []) long fits = absurd (omega arith)
back8 (a ∷ b ∷ c ∷ []) long fits = absurd (omega arith)
back8 (a ∷ b ∷ c ∷ d ∷ []) long fits = absurd (omega arith)
back8 (a ∷ b ∷ c ∷ d ∷ e ∷ []) long fits = absurd (omega arith)
back8 (a ∷ b ∷ c ∷ d ∷ e ∷ f ∷ []) long fits = absurd (omega arith)
back8 (a ∷ b ∷ c ∷ d ∷ e ∷ f ∷ g ∷ []) long fits = absurd (omega arith)
back8 (a ∷ b ∷ c ∷ d ∷ e ∷ f ∷ g ∷ h ∷ rest) long fits = le_bytes_8 (a ∷ b ∷ c ∷ d ∷ e ∷ f ∷ g ∷ h ∷ []) _ refl (take_bytes 8 (a ∷ b ∷ c ∷ d ∷ e ∷ f ∷ g ∷ h ∷ rest) fits) (omega arith)

-- a number of n bytes
number_row : (n : ℕ) → IsBack n → IsRow [] (little_bytes n) (λ x. x < 256 ^ n) (number_at n)
number_row n back = record {
  takes = λ bytes x rest fits e.
      let g = guard_ok (ltb (length bytes) n) Passes (little_number n bytes, drop n bytes) (x, rest) e in
      let long : n ≤ length bytes = ltb-false _ _ g.0 in
      let made : ℕ × List ℕ = (little_number n bytes, drop n bytes) in
      subst (λ (p : ℕ × List ℕ). Takes [] bytes (little_bytes n) (λ y. y < 256 ^ n) p.0 p.1) g.1
      (record { parts = rw (back bytes long fits) (sym (take-append-drop n bytes)); fits = little_from-lt 0 n bytes fits; rest_fits = drop_bytes n bytes fits });
}

pub row1 : IsRow [] (little_bytes 1) (λ x. x < 256) (number_at 1)
row1 = number_row 1 back1

pub row2 : IsRow [] (little_bytes 2) IsU16 (number_at 2)
row2 = number_row 2 back2

pub row4 : IsRow [] (little_bytes 4) IsU32 (number_at 4)
row4 = number_row 4 back4

pub row8 : IsRow [] (little_bytes 8) IsU64 (number_at 8)
row8 = number_row 8 back8

pub byte_row : IsRow [] byte IsU8 (number_at 1)
byte_row = record {
  takes = λ bytes x rest fits e.
      let t = row1.takes bytes x rest fits e in
      let same : x % 256 ≡ x = omega (arith, t.fits) in
      record { parts = t.parts ∙ ap (λ (k : ℕ). k ∷ rest) same; fits = t.fits; rest_fits = t.rest_fits };
}

pub number_again : (n x : ℕ) (rest : List ℕ) → x < 256 ^ n → number_at n (little_bytes n x ++ rest) ≡ Ok (x, rest)
number_again n x rest lt =
    let len : length (little_bytes n x) ≡ n = length-bytes_low_first 0 n x in
    let long : ltb (length (little_bytes n x ++ rest)) n ≡ false = le-ltb _ _ (omega (arith, length-append (little_bytes n x) rest)) in
    rw (long, little_number-reads_back n x rest lt, drop_at (little_bytes n x) rest n len) refl

pub u16_again : IsAgain (little_bytes 2) IsU16 (number_at 2)
u16_again x rest lt = number_again 2 x rest lt

pub u32_again : IsAgain (little_bytes 4) IsU32 (number_at 4)
u32_again x rest lt = number_again 4 x rest lt

pub u64_again : IsAgain (little_bytes 8) IsU64 (number_at 8)
u64_again x rest lt = number_again 8 x rest lt

pub byte_again : IsAgain byte IsU8 (number_at 1)
byte_again x rest lt =
    let same : x % 256 ≡ x = omega (arith, lt) in
    ap (λ (k : ℕ). number_at 1 (k ∷ rest)) (sym same) ∙ number_again 1 x rest (omega (arith, lt))

-- ---- byte lists

pub byte_list_row : IsRow [] byte_list IsSmall byte_list_at
unfolding byte_list_at
byte_list_row = record {
  takes = λ bytes text rest fits e.
      let b = bind_ok (number_at 4 bytes) (λ n. cond (ltb (length n.1) n.0) (Err Passes) (Ok (take n.0 n.1, drop n.0 n.1))) (text, rest) e in
      let n = b.0 in
      let t = row4.takes bytes n.0 n.1 fits b.1 in
      let g = guard_ok (ltb (length n.1) n.0) Passes (take n.0 n.1, drop n.0 n.1) (text, rest) b.2 in
      let long : n.0 ≤ length n.1 = ltb-false _ _ g.0 in
      let len : length (take n.0 n.1) ≡ n.0 = omega (arith, length-take n.0 n.1) in
      let whole : bytes ≡ byte_list (take n.0 n.1) ++ drop n.0 n.1 =
      t.parts ∙ ap (λ (r : List ℕ). little_bytes 4 n.0 ++ r) (sym (take-append-drop n.0 n.1)) ∙ sym (append_assoc (little_bytes 4 n.0) (take n.0 n.1) (drop n.0 n.1))
      ∙ ap (λ (k : ℕ). (little_bytes 4 k ++ take n.0 n.1) ++ drop n.0 n.1) (sym len) in
      subst (λ (p : List ℕ × List ℕ). Takes [] bytes byte_list IsSmall p.0 p.1) g.1 (record { parts = whole; fits = omega (arith, t.fits); rest_fits = drop_bytes n.0 n.1 t.rest_fits });
}

pub byte_list_again : IsAgain byte_list IsSmall byte_list_at
unfolding byte_list_at
byte_list_again text rest lt =
    let long : ltb (length (text ++ rest)) (length text) ≡ false = le-ltb _ _ (omega (arith, length-append text rest)) in
    let first : number_at 4 (byte_list text ++ rest) ≡ Ok (length text, text ++ rest) = ap (number_at 4) (append_assoc (little_bytes 4 (length text)) text rest) ∙ number_again 4 (length text) (text ++ rest) lt in
    bind_again (number_at 4 (byte_list text ++ rest)) _ (length text, text ++ rest) first ∙ rw (long, take_at text rest (length text) refl, drop_at text rest (length text) refl) refl

-- two parts one after another
pub joined : (bytes first second tail rest : List ℕ) → bytes ≡ first ++ tail → tail ≡ second ++ rest → bytes ≡ (first ++ second) ++ rest
joined bytes first second tail rest e f = e ∙ ap (λ (r : List ℕ). first ++ r) f ∙ sym (append_assoc first second rest)

-- ---- one field, and then what is read after it

module _ {A C : Type 0} (ta : A → List ℕ) (Fa : A → Type 0) (ra : Reader A) (next : A → Reader C) where
  pub field_row : (front : List ℕ) (text : C → List ℕ) (Fits : C → Type 0) → IsRow [] ta Fa ra → ((a : A) → Fa a → IsRow (front ++ ta a) text Fits (next a)) → IsRow front text Fits (ra ⟫ next)
  field_row front text Fits pa after = record {
    takes = λ bytes x rest fits e.
        let a = bind_ok (ra bytes) (λ a. next a.0 a.1) (x, rest) e in
        let t = pa.takes bytes a.0.0 a.0.1 fits a.1 in
        let row : IsRow (front ++ ta a.0.0) text Fits (next a.0.0) = after a.0.0 t.fits in
        let u = row.takes a.0.1 x rest t.rest_fits a.2 in
        let whole : front ++ bytes ≡ text x ++ rest = ap (λ (r : List ℕ). front ++ r) t.parts ∙ sym (append_assoc front (ta a.0.0) a.0.1) ∙ u.parts in
        record { parts = whole; fits = u.fits; rest_fits = u.rest_fits };
  }

  pub then_again : IsAgain ta Fa ra → (a : A) (tail rest : List ℕ) → Fa a → (ra ⟫ next) ((ta a ++ tail) ++ rest) ≡ next a (tail ++ rest)
  then_again pa a tail rest fit =
      let first : ra ((ta a ++ tail) ++ rest) ≡ Ok (a, tail ++ rest) = ap ra (append_assoc (ta a) tail rest) ∙ pa a (tail ++ rest) fit in
      bind_again (ra ((ta a ++ tail) ++ rest)) (λ f. next f.0 f.1) (a, tail ++ rest) first

  pub ends_again : IsAgain ta Fa ra → (a : A) (rest : List ℕ) → Fa a → (ra ⟫ next) (ta a ++ rest) ≡ next a rest
  ends_again pa a rest fit = bind_again (ra (ta a ++ rest)) (λ f. next f.0 f.1) (a, rest) (pa a rest fit)

pub plain_row : {A : Type 0} (front : List ℕ) (text : A → List ℕ) (Fits : A → Type 0) (v : A) → front ≡ text v → Fits v → IsRow front text Fits (plain_at v)
plain_row front text Fits v spelled fit = record {
  takes = λ bytes x rest fits e.
      subst (λ (p : _ × List ℕ). Takes front bytes text Fits p.0 p.1) (ok_is (v, bytes) (x, rest) e) (record { parts = ap (λ (f : List ℕ). f ++ bytes) spelled; fits = fit; rest_fits = fits });
}

-- ---- lists

module _ {A : Type 0} (text : A → List ℕ) (Fits : A → Type 0) (read : Reader A) where
  abbrev AreTaken : ℕ → List ℕ → List A × List ℕ → Type 0
  AreTaken n bytes x = (bytes ≡ flat_map text x.0 ++ x.1) × (length x.0 ≡ n) × AllByRecursion Fits x.0 × IsBytes x.1

  many_take : IsRow [] text Fits read → (n : ℕ) (bytes : List ℕ) (x : List A × List ℕ) → IsBytes bytes → many_at read n bytes ≡ Ok x → AreTaken n bytes x
  unfolding many_at
  many_take row zero bytes x fits e = subst (AreTaken 0 bytes) (ok_is ([], bytes) x e) (refl, refl, tt, fits)
  many_take row (suc n) bytes x fits e =
      let a = bind_ok (read bytes) (λ first. many_at read n first.1 >>= λ others. Ok (first.0 ∷ others.0, others.1)) x e in
      let b = bind_ok (many_at read n a.0.1) (λ others. Ok (a.0.0 ∷ others.0, others.1)) x a.2 in
      let t = row.takes bytes a.0.0 a.0.1 fits a.1 in
      let u = many_take row n a.0.1 b.0 t.rest_fits b.1 in
      let made : List A × List ℕ = (a.0.0 ∷ b.0.0, b.0.1) in
      let whole : bytes ≡ flat_map text (a.0.0 ∷ b.0.0) ++ b.0.1 =
      t.parts ∙ ap (λ (r : List ℕ). text a.0.0 ++ r) u.0 ∙ sym (append_assoc (text a.0.0) (flat_map text b.0.0) b.0.1) ∙ ap (λ (r : List ℕ). r ++ b.0.1) (sym (flat_map-cons text a.0.0 b.0.0)) in
      subst (AreTaken (suc n) bytes) (ok_is made x b.2) (whole, ap suc u.1, (t.fits, u.2), u.3)

  many_again : IsAgain text Fits read → (xs : List A) (rest : List ℕ) → AllByRecursion Fits xs → many_at read (length xs) (flat_map text xs ++ rest) ≡ Ok (xs, rest)
  unfolding many_at
  many_again again [] rest fits = refl
  many_again again (x ∷ xs) rest fits =
      let regrouped : flat_map text (x ∷ xs) ++ rest ≡ text x ++ (flat_map text xs ++ rest) = ap (λ (y : List ℕ). y ++ rest) (flat_map-cons text x xs) ∙ append_assoc (text x) (flat_map text xs) rest in
      ap (many_at read (suc (length xs))) regrouped ∙ rw (again x (flat_map text xs ++ rest) fits.0, many_again again xs rest fits.1) refl

  pub list_row : IsRow [] text Fits read → IsRow [] (list_text text) (FitsList Fits) (list_at read)
  list_row row = record {
    takes = λ bytes x rest fits e.
        let n = bind_ok (number_at 4 bytes) (λ n. many_at read n.0 n.1) (x, rest) e in
        let t = row4.takes bytes n.0.0 n.0.1 fits n.1 in
        let u = many_take row n.0.0 n.0.1 (x, rest) t.rest_fits n.2 in
        let whole : bytes ≡ list_text text x ++ rest =
        t.parts ∙ ap (λ (r : List ℕ). little_bytes 4 n.0.0 ++ r) u.0 ∙ sym (append_assoc (little_bytes 4 n.0.0) (flat_map text x) rest)
        ∙ ap (λ (k : ℕ). (little_bytes 4 k ++ flat_map text x) ++ rest) (sym u.1) in
        record { parts = whole; fits = (omega (arith, t.fits, u.1), u.2); rest_fits = u.3 };
  }

  pub list_again : IsAgain text Fits read → IsAgain (list_text text) (FitsList Fits) (list_at read)
  list_again again xs rest fits =
      then_again (little_bytes 4) IsU32 (number_at 4) (λ n. many_at read n) u32_again (length xs) (flat_map text xs) rest fits.0 ∙ many_again again xs rest fits.1

-- ---- tables

module _ {A : Type 0} (front : List ℕ) (text : A → List ℕ) (Fits : A → Type 0) where
  -- each row reads what follows its code in the text of a value
  abbrev pub AreRows : Table A → Type 0
  AreRows [] = Unit {0}
  AreRows (row ∷ rows) = IsRow (front ++ row.0 ∷ []) text Fits row.1 × AreRows rows

  code_takes : (table : Table A) → AreRows table → (code : ℕ) (rest bytes : List ℕ) (x : A) (after : List ℕ) → IsBytes rest → by_code table code rest bytes ≡ Ok (x, after) → Takes (front ++ code ∷ []) rest text Fits x after
  code_takes [] each code rest bytes x after fits e = absurd cc
  code_takes (row ∷ rows) each code rest bytes x after fits e =
      elim (chosen (eqb code row.0) (row.1 rest) (by_code rows code rest bytes) (Ok (x, after)) e) [
        | inl p ↦ subst (λ (k : ℕ). Takes (front ++ k ∷ []) rest text Fits x after) (sym (eqb-true code row.0 p.0)) (each.0.takes rest x after fits p.1)
        | inr q ↦ code_takes rows each.1 code rest bytes x after fits q.1
      ]

  pub tagged_row : (table : Table A) → AreRows table → IsRow front text Fits (tagged_at table)
  tagged_row table each = record {
    takes = λ bytes x rest fits e.
        let c = bind_ok (number_at 1 bytes) (λ code. by_code table code.0 code.1 bytes) (x, rest) e in
        let t = row1.takes bytes c.0.0 c.0.1 fits c.1 in
        let u = code_takes table each c.0.0 c.0.1 bytes x rest t.rest_fits c.2 in
        let byte : c.0.0 % 256 ≡ c.0.0 = omega (arith, t.fits) in
        let whole : front ++ bytes ≡ text x ++ rest =
        ap (λ (r : List ℕ). front ++ r) (t.parts ∙ ap (λ (k : ℕ). k ∷ c.0.1) byte) ∙ sym (append_assoc front (c.0.0 ∷ []) c.0.1) ∙ u.parts in
        record { parts = whole; fits = u.fits; rest_fits = u.rest_fits };
  }

-- the code of a table's row is met again
pub tagged_again : {A : Type 0} (table : Table A) (code : ℕ) (rest : List ℕ) → code < 256 → tagged_at table (code ∷ rest) ≡ by_code table code rest (code ∷ rest)
tagged_again table code rest lt =
    let byte : code % 256 ≡ code = omega (arith, lt) in
    let first : number_at 1 (code ∷ rest) ≡ Ok (code, rest) = ap (λ (k : ℕ). number_at 1 (k ∷ rest)) (sym byte) ∙ number_again 1 code rest (omega (arith, lt)) in
    bind_again (number_at 1 (code ∷ rest)) _ (code, rest) first
