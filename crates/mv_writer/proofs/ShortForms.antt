-- How a spelling is put together, form by form, and the shortest one: no longer than any other of the same value.
use Rattle.std.proofs.Common.{◌≡◌, ℕ, zero, suc, ◌+◌, ◌*◌, ◌-◌, ◌/◌, ◌%◌, ◌^◌, ◌≤◌, ◌<◌, Bool, true, false, cond, eqb, ltb, leb, ◌||◌, List, [], ◌∷◌, ◌++◌, length, Result, Ok, Err, Option, Some, None, refl, sym, ap, subst, ◌∙◌, append_assoc, arith, ◌⊎◌, inl, inr}
use Rattle.std.proofs.lemmas.Bool.{eqb-true, eqb-false, leb-true, cases_lt, lt-ltb, le-ltb, ltb-true, ltb-false}
use Rattle.std.proofs.lemmas.List.{append-nil, length-append}
use Rattle.std.proofs.Math.Pow.{pow_mono}
use Rattle.std.specs.Option.{option_map}
use Rattle.mv_syntax.specs.declared.fault.ReadKind.{ReadKind}
use Rattle.mv_syntax.specs.declared.fault.ReadKind.TheVariants.{Float, LaterFeature, Kind, Limit}
use Rattle.mv_syntax.specs.declared.ops.ValType.{ValType}
use Rattle.mv_syntax.specs.declared.ops.ValType.TheVariants.{I32, I64}
use Rattle.mv_syntax.specs.declared.types.FuncType.{FuncType}
use Rattle.mv_syntax.specs.Form.{Form}
use Rattle.mv_syntax.specs.Forms.{Joined, give, ◌>>=◌, byte, means, choose, sized, many, at_most_one}
use Rattle.mv_syntax.specs.Numbers.{groups, last_group, number_of, u32}
use Rattle.mv_syntax.proofs.NumberParts.{groups_parts, groups_last, groups_more}
use Rattle.std.specs.Prelude.{flat_map}
use Rattle.mv_syntax.specs.Types.{vector, up_to, only, val_type_of, val_type, func_type}
use Rattle.mv_syntax.proofs.Powers.{seven_more}
use Rattle.mv_syntax.proofs.NumberBounds.{u32_below}
use Rattle.mv_writer.specs.Written.{short_groups, short_u32, written_vector, behind_size, type_code, written_type, count_of, written_option, written_func_type}

-- a spelling by w, which is no longer than any other
pub record Shortens {A : Type 0} (f : Form A) (w : A → List ℕ) : Type 0 where
  pub again : (text : List ℕ) (a : A) → f.spells text a → f.spells (w a) a
  pub shorter : (text : List ℕ) (a : A) → f.spells text a → length (w a) ≤ length text

pub shortens_give : {A : Type 0} (a : A) → Shortens (give a) (λ _. [])
shortens_give a = record { again = λ text b s. (refl, s.1); shorter = λ text b s. omega arith }

-- One form behind another, where the value of the first is told by that of the whole, or is always the same.
pub shortens_then : {A B : Type 0} (f : Form A) (g : A → Form B) (v : A → List ℕ) (w : B → List ℕ) (first : B → A)
    → ((a : A) (front back : List ℕ) (b : B) → f.spells front a → (g a).spells back b → first b ≡ a) → Shortens f v → ((a : A) → Shortens (g a) w) → Shortens (f >>= g) (λ b. v (first b) ++ w b)
shortens_then {A} {B} f g v w first is sf sg = record {
  again = λ text b s.
      let at_first : (a : A) → first b ≡ a → f.spells (v a) a → (g a).spells (w b) b → Joined f.spells (λ a. (g a).spells) (v (first b) ++ w b) b =
      λ a e p q. record { first = a; front = v (first b); back = w b; whole = refl; front_spells = subst (λ (x : A). f.spells (v x) a) (sym e) p; back_spells = q } in
      at_first s.first (is s.first s.front s.back b s.front_spells s.back_spells) (sf.again s.front s.first s.front_spells) ((sg s.first).again s.back b s.back_spells);
  shorter = λ text b s.
      let e : v (first b) ≡ v s.first = ap v (is s.first s.front s.back b s.front_spells s.back_spells) in
      omega (arith, length-append (v (first b)) (w b), ap length e, ap length s.whole, length-append s.front s.back, sf.shorter s.front s.first s.front_spells, (sg s.first).shorter s.back b s.back_spells);
}

-- the same spelling, written in another way
pub shortens_as : {A : Type 0} (f : Form A) (v w : A → List ℕ) → ((a : A) → w a ≡ v a) → Shortens f v → Shortens f w
shortens_as {A} f v w is sf = record {
  again = λ text a s. subst (λ (x : List ℕ). f.spells x a) (sym (is a)) (sf.again text a s);
  shorter = λ text a s. omega (arith, ap length (is a), sf.shorter text a s);
}

pub shortens_byte : Shortens byte (λ b. b ∷ [])
unfolding byte
shortens_byte = record { again = λ text b s. refl; shorter = λ text b s. omega (arith, ap length s) }

-- a meaning that has one sign
pub shortens_means : {A B : Type 0} (f : Form A) (meaning : A → Result B ReadKind) (v : A → List ℕ) (sign : B → A) → ((a : A) (b : B) → meaning a ≡ Ok b → sign b ≡ a) → Shortens f v → Shortens (means f meaning) (λ b. v (sign b))
shortens_means {A} {B} f meaning v sign is sf = record {
  again = λ text b s.
      let e = is s.sign b s.meant in
      record { sign = sign b; spelled = subst (λ (x : A). f.spells (v x) x) (sym e) (sf.again text s.sign s.spelled); meant = ap meaning e ∙ s.meant };
  shorter = λ text b s. omega (arith, ap length (ap v (is s.sign b s.meant)), sf.shorter text s.sign s.spelled);
}

pub many_again : {A : Type 0} (f : Form A) (w : A → List ℕ) → Shortens f w → (n : ℕ) (text : List ℕ) (items : List A) → (many f n).spells text items → (many f n).spells (flat_map w items) items × (length (flat_map w items) ≤ length text) × (length items ≡ n)
unfolding many
many_again {A} f w sf zero text items s =
    subst (λ (x : List A). (many f zero).spells (flat_map w x) x × (length (flat_map w x) ≤ length text) × (length x ≡ 0)) (sym s.1) ((refl, refl), omega arith, refl)
many_again {A} f w sf (suc n) text items s =
    let r = s.back_spells in
    let rest = many_again f w sf n r.front r.first r.front_spells in
    let made : (many f (suc n)).spells (w s.first ++ flat_map w r.first) (s.first ∷ r.first) = record {
      first = s.first;
      front = w s.first;
      back = flat_map w r.first;
      whole = refl;
      front_spells = sf.again s.front s.first s.front_spells;
      back_spells = record { first = r.first; front = flat_map w r.first; back = []; whole = sym (append-nil (flat_map w r.first)); front_spells = rest.0; back_spells = (refl, refl) };
    } in
    let len : length (w s.first ++ flat_map w r.first) ≤ length text = omega (arith, length-append (w s.first) (flat_map w r.first), ap length s.whole, length-append s.front s.back, ap length r.whole, length-append r.front r.back, sf.shorter s.front s.first s.front_spells, rest.1) in
    subst (λ (x : List A). (many f (suc n)).spells (flat_map w x) x × (length (flat_map w x) ≤ length text) × (length x ≡ suc n)) (sym r.back_spells.1) (made, len, ap suc rest.2)

pub shortens_many : {A : Type 0} (f : Form A) (w : A → List ℕ) (n : ℕ) → Shortens f w → Shortens (many f n) (flat_map w)
shortens_many f w n sf = record { again = λ text items s. (many_again f w sf n text items s).0; shorter = λ text items s. (many_again f w sf n text items s).1 }

pub length_many : {A : Type 0} (f : Form A) (w : A → List ℕ) → Shortens f w → (n : ℕ) (text : List ℕ) (items : List A) → (many f n).spells text items → length items ≡ n
length_many f w sf n text items s = (many_again f w sf n text items s).2

last_is : (w b : ℕ) (t : Bool) (v : ℕ) → ltb b (2 ^ w) ≡ t → Some v ≡ cond t (Some b) None → (b < 2 ^ w) × (v ≡ b)
last_is w b true v test e = (ltb-true _ _ test, cc)
last_is w b false v test e = absurd cc

map_is : (f : ℕ → ℕ) (o : Option ℕ) (v : ℕ) → Some v ≡ option_map f o → (h : ℕ) × (o ≡ Some h) × (v ≡ f h)
map_is f (Some h) v e = (h, refl, cc)
map_is f None v e = absurd cc

no_groups : (w : ℕ) (text : List ℕ) (v : ℕ) → (groups false zero w).spells text (Some v) → ⊥
unfolding groups
no_groups w text v s = let e : Some v ≡ None = s.1 in cc

-- the higher groups of a number, as a number
pub record Higher (n w : ℕ) (text : List ℕ) (v : ℕ) : Type 0 where
  pub byte : ℕ
  pub above : 128 ≤ byte
  pub rest : List ℕ
  pub text_is : text ≡ byte ∷ rest
  pub high : ℕ
  pub spelled : (groups false n (w - 7)).spells rest (Some high)
  pub value : v ≡ byte % 128 + 128 * high

number_parts : (n w : ℕ) (text : List ℕ) (v : ℕ) → (groups false (suc n) w).spells text (Some v) → ((v < 128) × (v < 2 ^ w) × (text ≡ v ∷ [])) ⊎ Higher n w text v
number_parts n w text v s = elim (groups_parts false n w text (Some v) s) [
  | inl p ↦ (let e = last_is w p.byte (ltb p.byte (2 ^ w)) v refl p.value in inl (omega (arith, p.below, e.1), omega (arith, e.0, e.1), p.text_is ∙ ap (λ (b : ℕ). b ∷ []) (sym e.1)))
  | inr p ↦ (let e = map_is (λ h. p.byte % 128 + 128 * h) p.high v p.value in inr (record { byte = p.byte; above = p.above; rest = p.rest; text_is = p.text_is; high = e.0; spelled = subst (λ (o : Option ℕ). (groups false n (w - 7)).spells p.rest o) e.1 p.spelled; value = e.2 }))
]

-- a number that is spelled has its width, and its shortest form is no longer
pub number_short : (n w : ℕ) (text : List ℕ) (v : ℕ) → 7 * n < w + 7 → (groups false n w).spells text (Some v) → (v < 2 ^ w) × (length (short_groups n v) ≤ length text)
number_short zero w text v wide s = absurd (no_groups w text v s)
number_short (suc zero) w text v wide s = elim (number_parts zero w text v s) [
  | inl p ↦ (p.1, subst (λ (t : Bool). length (cond t (v ∷ []) ((128 + v % 128) ∷ short_groups zero (v / 128))) ≤ length text) (sym (lt-ltb v 128 p.0)) (omega (arith, ap length p.2)))
  | inr p ↦ absurd (no_groups (w - 7) p.rest p.high p.spelled)
]
number_short (suc (suc n)) w text v wide s = elim (number_parts (suc n) w text v s) [
  | inl p ↦ (p.1, subst (λ (t : Bool). length (cond t (v ∷ []) ((128 + v % 128) ∷ short_groups (suc n) (v / 128))) ≤ length text) (sym (lt-ltb v 128 p.0)) (omega (arith, ap length p.2)))
  | inr p ↦ (
      let le : 7 ≤ w = omega arith in
      let r = number_short (suc n) (w - 7) p.rest p.high (omega arith) p.spelled in
      let high-is : v / 128 ≡ p.high = omega (arith, p.value) in
      let len : length ((128 + v % 128) ∷ short_groups (suc n) (v / 128)) ≤ length text = omega (arith, ap length p.text_is, ap length (ap (short_groups (suc n)) high-is), r.1) in
      let one : length (v ∷ []) ≤ length text = omega (arith, ap length p.text_is) in
      (omega (arith, p.value, r.0, seven_more w le), either (ltb v 128) one len))
] where
  either : (t : Bool) → length (v ∷ []) ≤ length text → length ((128 + v % 128) ∷ short_groups (suc n) (v / 128)) ≤ length text → length (cond t (v ∷ []) ((128 + v % 128) ∷ short_groups (suc n) (v / 128))) ≤ length text
  either true a b = a
  either false a b = b

number_made : (n w v : ℕ) → 1 ≤ w → w ≤ 7 * n → v < 2 ^ w → (groups false n w).spells (short_groups n v) (Some v)
number_made zero w v some le lt = absurd (omega arith)
number_made (suc n) w v some le lt = elim (cases_lt v 128) [
  | inl small ↦ (
      let value : last_group false w v ≡ Some v = rw (lt-ltb v (2 ^ w) lt) refl in
      let made : (groups false (suc n) w).spells (v ∷ []) (Some v) = subst (λ (o : Option ℕ). (groups false (suc n) w).spells (v ∷ []) o) value (groups_last false n w v small) in
      subst (λ (t : Bool). (groups false (suc n) w).spells (cond t (v ∷ []) ((128 + v % 128) ∷ short_groups n (v / 128))) (Some v)) (sym (lt-ltb v 128 small)) made)
  | inr large ↦ (
      let wide : 7 < w = wider w v lt large in
      let high : v / 128 < 2 ^ (w - 7) = omega (arith, seven_more w (omega arith)) in
      let sum : (128 + v % 128) % 128 + 128 * (v / 128) ≡ v = omega arith in
      let made = groups_more false n w (128 + v % 128) (short_groups n (v / 128)) (Some (v / 128)) (omega arith) (number_made n (w - 7) (v / 128) (omega arith) (omega arith) high) in
      let all : (groups false (suc n) w).spells ((128 + v % 128) ∷ short_groups n (v / 128)) (Some v) = subst (λ (x : ℕ). (groups false (suc n) w).spells ((128 + v % 128) ∷ short_groups n (v / 128)) (Some x)) sum made in
      subst (λ (t : Bool). (groups false (suc n) w).spells (cond t (v ∷ []) ((128 + v % 128) ∷ short_groups n (v / 128))) (Some v)) (sym (le-ltb v 128 large)) all)
] where
  wider : (w v : ℕ) → v < 2 ^ w → 128 ≤ v → 7 < w
  wider w v lt large = elim (cases_lt 7 w) [
    | inl h ↦ h
    | inr le ↦ absurd (let top : 2 ^ w ≤ 2 ^ 7 = pow_mono le in omega arith)
  ]

some_number : (o : Option ℕ) (v : ℕ) → number_of o ≡ Ok v → o ≡ Some v
some_number (Some n) v e = cc
some_number None v e = absurd cc

-- any spelling of a number of 32 bits, and the shortest
pub u32_short : Shortens u32 short_u32
unfolding u32 short_u32
u32_short = record {
  again = λ text v s.
      let r = number_short 5 32 text v (omega arith) (subst (λ (o : Option ℕ). (groups false 5 32).spells text o) (some_number s.sign v s.meant) s.spelled) in
      record { sign = Some v; spelled = number_made 5 32 v (omega arith) (omega arith) r.0; meant = refl };
  shorter = λ text v s. (number_short 5 32 text v (omega arith) (subst (λ (o : Option ℕ). (groups false 5 32).spells text o) (some_number s.sign v s.meant) s.spelled)).1;
}

pub u32_made : (v : ℕ) → v < 2 ^ 32 → u32.spells (short_u32 v) v
unfolding u32 short_u32
u32_made v lt = record { sign = Some v; spelled = number_made 5 32 v (omega arith) (omega arith) lt; meant = refl }

-- a smaller number has no longer a form
short_grows_from : (n v w : ℕ) (s t : Bool) → ltb v 128 ≡ s → ltb w 128 ≡ t → v ≤ w → length (short_groups n (v / 128)) ≤ length (short_groups n (w / 128))
    → length (cond s (v ∷ []) ((128 + v % 128) ∷ short_groups n (v / 128))) ≤ length (cond t (w ∷ []) ((128 + w % 128) ∷ short_groups n (w / 128)))
short_grows_from n v w true true sv sw le h = omega arith
short_grows_from n v w true false sv sw le h = omega arith
short_grows_from n v w false true sv sw le h = absurd (omega (arith, ltb-false _ _ sv, ltb-true _ _ sw))
short_grows_from n v w false false sv sw le h = omega arith

pub short_grows : (n v w : ℕ) → v ≤ w → length (short_groups n v) ≤ length (short_groups n w)
short_grows zero v w le = omega arith
short_grows (suc n) v w le = short_grows_from n v w (ltb v 128) (ltb w 128) refl refl le (short_grows n (v / 128) (w / 128) (omega arith))

-- ---- types

pub shortens_vector : {A : Type 0} (f : Form A) (w : A → List ℕ) → Shortens f w → Shortens (vector f) (written_vector w)
unfolding vector
shortens_vector f w sf = shortens_then u32 (many f) short_u32 (flat_map w) length (λ n front back items _ s. length_many f w sf n back items s) u32_short (λ n. shortens_many f w n sf)

abbrev no_val_type : ℕ → Result ValType ReadKind
no_val_type b = cond (eqb b 125 || eqb b 124) (Err Float) (cond (eqb b 123 || eqb b 112 || eqb b 111) (Err LaterFeature) (Err Kind))

abbrev val_type_of_rest : ℕ → Result ValType ReadKind
val_type_of_rest b = cond (eqb b 126) (Ok I64) (no_val_type b)

if_ok : {B : Type 0} (t : Bool) (x : B) (r : Result B ReadKind) (b : B) → cond t (Ok x) r ≡ Ok b → ((t ≡ true) × (x ≡ b)) ⊎ (r ≡ Ok b)
if_ok true x r b e = inl (refl, cc)
if_ok false x r b e = inr e

type_sign : (b : ℕ) (t : ValType) → val_type_of b ≡ Ok t → type_code t ≡ b
type_sign b t e = elim (if_ok (eqb b 127) I32 (val_type_of_rest b) t e) [
  | inl p ↦ ap type_code (sym p.1) ∙ sym (eqb-true _ _ p.0)
  | inr q ↦ elim (if_ok (eqb b 126) I64 (no_val_type b) t q) [
    | inl p ↦ ap type_code (sym p.1) ∙ sym (eqb-true _ _ p.0)
    | inr r ↦ absurd (no_type (eqb b 125 || eqb b 124) (eqb b 123 || eqb b 112 || eqb b 111) t r)
  ]
] where
  no_type : (x y : Bool) (t : ValType) → cond x (Err Float) (cond y (Err LaterFeature) (Err Kind)) ≡ Ok t → ⊥
  no_type true y t e = cc
  no_type false true t e = cc
  no_type false false t e = cc

pub val_type_short : Shortens val_type written_type
unfolding val_type
val_type_short = shortens_means byte val_type_of (λ b. b ∷ []) type_code type_sign shortens_byte

-- a byte or a number that is always the same, or is limited
pub only_is : (k : ℕ) (kind : ReadKind) (a b : ℕ) → only k kind a ≡ Ok b → (a ≡ k) × (b ≡ a)
only_is k kind a b e = elim (if_ok (eqb a k) a (Err kind) b e) [
  | inl p ↦ (eqb-true _ _ p.0, sym p.1)
  | inr q ↦ absurd cc
]

pub up_to_is : (most : ℕ) (kind : ReadKind) (a b : ℕ) → up_to most kind a ≡ Ok b → b ≡ a
up_to_is most kind a b e = elim (if_ok (leb a most) a (Err kind) b e) [
  | inl p ↦ sym p.1
  | inr q ↦ absurd cc
]

pub only_short : (k : ℕ) (kind : ReadKind) → Shortens (means byte (only k kind)) (λ b. b ∷ [])
only_short k kind = shortens_means byte (only k kind) (λ b. b ∷ []) (λ b. b) (λ a b e. (only_is k kind a b e).1) shortens_byte

pub up_to_short : (most : ℕ) (kind : ReadKind) → Shortens (means u32 (up_to most kind)) short_u32
up_to_short most kind = shortens_means u32 (up_to most kind) short_u32 (λ b. b) (λ a b e. up_to_is most kind a b e) u32_short

-- none or one, behind a count that says so
one_short : {A : Type 0} (f : Form A) (w : A → List ℕ) → Shortens f w → (t : Bool) (text : List ℕ) (o : Option A) → (choose t (give None) (f >>= λ a. give (Some a))).spells text o
    → (choose t (give None) (f >>= λ a. give (Some a))).spells (written_option w o) o × (length (written_option w o) ≤ length text)
one_short {A} f w sf true text o s =
    subst (λ (x : Option A). (choose true (give None) (f >>= λ a. give (Some a))).spells (written_option w x) x × (length (written_option w x) ≤ length text)) (sym s.1) ((refl, refl), omega arith)
one_short {A} f w sf false text o s =
    let made : (choose false (give None) (f >>= λ a. give (Some a))).spells (w s.first) (Some s.first) = record { first = s.first; front = w s.first; back = []; whole = sym (append-nil (w s.first)); front_spells = sf.again s.front s.first s.front_spells; back_spells = (refl, refl) } in
    let len : length (w s.first) ≤ length text = omega (arith, ap length s.whole, length-append s.front s.back, sf.shorter s.front s.first s.front_spells) in
    subst (λ (x : Option A). (choose false (give None) (f >>= λ a. give (Some a))).spells (written_option w x) x × (length (written_option w x) ≤ length text)) (sym s.back_spells.1) (made, len)

pub at_most_one_short : {A : Type 0} (f : Form A) (w : A → List ℕ) (n : ℕ) → Shortens f w → Shortens (at_most_one f n) (written_option w)
unfolding at_most_one
at_most_one_short f w n sf = record { again = λ text o s. (one_short f w sf (eqb n 0) text o s).0; shorter = λ text o s. (one_short f w sf (eqb n 0) text o s).1 }

count_is : {A : Type 0} (f : Form A) (n : ℕ) (t : Bool) (text : List ℕ) (o : Option A) → eqb n 0 ≡ t → n ≤ 1 → (choose t (give None) (f >>= λ a. give (Some a))).spells text o → count_of o ≡ n
count_is {A} f n true text o test le s = ap (count_of {A = A}) s.1 ∙ sym (eqb-true _ _ test)
count_is {A} f n false text o test le s =
    let not_zero = eqb-false _ _ test in
    let one : n ≡ 1 = omega arith in
    ap (count_of {A = A}) s.back_spells.1 ∙ sym one

pub count_of_one : {A : Type 0} (f : Form A) (n : ℕ) (text : List ℕ) (o : Option A) → n ≤ 1 → (at_most_one f n).spells text o → count_of o ≡ n
unfolding at_most_one
count_of_one f n text o le s = count_is f n (eqb n 0) text o refl le s

pub up_to_below : (most : ℕ) (kind : ReadKind) (a b : ℕ) → up_to most kind a ≡ Ok b → b ≤ most
up_to_below most kind a b e = elim (if_ok (leb a most) a (Err kind) b e) [
  | inl p ↦ omega (arith, leb-true _ _ p.0, p.1)
  | inr q ↦ absurd cc
]

func_type_parts : Shortens func_type (λ t. (96 ∷ []) ++ (short_u32 (length t.params) ++ (flat_map written_type t.params ++ (short_u32 (count_of t.result) ++ (written_option written_type t.result ++ [])))))
unfolding func_type
func_type_parts =
    shortens_then (means byte (only 96 Kind)) _ (λ b. b ∷ []) _ (λ (t : FuncType). 96) (λ a front back t p q. sym ((only_is 96 Kind p.sign a p.meant).1 ∙ (only_is 96 Kind p.sign a p.meant).0)) (only_short 96 Kind) (λ _.
    shortens_then (means u32 (up_to 1000 Limit)) _ short_u32 _ (λ (t : FuncType). length t.params) (λ n front back t p q. ap (λ (t : FuncType). length t.params) q.back_spells.back_spells.back_spells.1 ∙ length_many val_type written_type val_type_short n q.front q.first q.front_spells) (up_to_short 1000 Limit) (λ n.
    shortens_then (many val_type n) _ (flat_map written_type) _ (λ (t : FuncType). t.params) (λ ps front back t p q. ap (λ (t : FuncType). t.params) q.back_spells.back_spells.1) (shortens_many val_type written_type n val_type_short) (λ ps.
    shortens_then (means u32 (up_to 1 LaterFeature)) _ short_u32 _ (λ (t : FuncType). count_of t.result) (λ m front back t p q. ap (λ (t : FuncType). count_of t.result) q.back_spells.1 ∙ count_of_one val_type m q.front q.first (up_to_below 1 LaterFeature p.sign m p.meant) q.front_spells) (up_to_short 1 LaterFeature) (λ m.
    shortens_then (at_most_one val_type m) _ (written_option written_type) _ (λ (t : FuncType). t.result) (λ r front back t p q. ap (λ (t : FuncType). t.result) q.1) (at_most_one_short val_type written_type m val_type_short) (λ r.
    shortens_give (record { params = ps; result = r }))))))

pub func_type_short : Shortens func_type written_func_type
func_type_short = shortens_as func_type _ written_func_type (λ t. simp (append_assoc, append-nil) refl) func_type_parts

-- ---- contents behind their size

-- a number has one group at least, and five at most
pub some_group : (v : ℕ) → 1 ≤ length (short_u32 v)
unfolding short_u32
some_group v = at_least (ltb v 128)
  where
    at_least : (t : Bool) → 1 ≤ length (cond t (v ∷ []) ((128 + v % 128) ∷ short_groups 4 (v / 128)))
    at_least true = omega arith
    at_least false = omega arith

groups_few : (n v : ℕ) → length (short_groups n v) ≤ n
groups_few zero v = omega arith
groups_few (suc n) v = at_most (ltb v 128) (groups_few n (v / 128))
  where
    at_most : (t : Bool) → length (short_groups n (v / 128)) ≤ n → length (cond t (v ∷ []) ((128 + v % 128) ∷ short_groups n (v / 128))) ≤ suc n
    at_most true le = omega arith
    at_most false le = omega arith

pub u32_few : (v : ℕ) → length (short_u32 v) ≤ 5
unfolding short_u32
u32_few v = groups_few 5 v

-- a smaller number has no longer a spelling
pub u32_grows : (v w : ℕ) → v ≤ w → length (short_u32 v) ≤ length (short_u32 w)
unfolding short_u32
u32_grows v w le = short_grows 5 v w le

pub sized_short : {A : Type 0} (f : Form A) (w : A → List ℕ) → Shortens f w → Shortens (u32 >>= λ n. sized n f) (λ a. behind_size (w a))
sized_short {A} f w sf = record {
  again = λ text a s.
      let small : length (w a) < 2 ^ 32 = omega (arith, sf.shorter s.back a s.back_spells.0, s.back_spells.1, u32_below s.front s.first s.front_spells) in
      record { first = length (w a); front = short_u32 (length (w a)); back = w a; whole = refl; front_spells = u32_made (length (w a)) small; back_spells = (sf.again s.back a s.back_spells.0, refl) };
  shorter = λ text a s.
      omega (
        arith,
        length-append (short_u32 (length (w a))) (w a),
        ap length s.whole,
        length-append s.front s.back,
        sf.shorter s.back a s.back_spells.0,
        s.back_spells.1,
        u32_grows (length (w a)) s.first (omega (arith, sf.shorter s.back a s.back_spells.0, s.back_spells.1)),
        u32_short.shorter s.front s.first s.front_spells,
      );
}
