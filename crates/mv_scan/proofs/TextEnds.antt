-- Where a text ends: at the first quote that no backslash takes along.
use Rattle.std.proofs.Common.{◌≡◌, ◌≢◌, ◌⊎◌, inl, inr, ℕ, ◌+◌, ◌*◌, ◌&&◌, ◌==◌, Bool, true, false, List, [], ◌∷◌, ◌++◌, refl, ap, sym, ◌∙◌, subst, append-nil, Option, Some, None, eqb-true}
use Rattle.std.proofs.lemmas.Bool.{eqb-false}
use Rattle.std.specs.Option.{option_map}
use Rattle.std.specs.Prelude.{nat_le}
use Rattle.mv_scan.specs.declared.scan.Place.{Place}
use Rattle.mv_scan.specs.declared.scan.Place.TheVariants.{Among, Backslash, High, Low}
use Rattle.mv_scan.specs.declared.scan.Effect.{Effect}
use Rattle.mv_scan.specs.declared.scan.Effect.TheVariants.{Gives, Spoils}
use Rattle.mv_scan.specs.Words.{hex_value, escaped, given_by, no_digit, high_digit, low_digit, Scanned, with_byte, step_of, scan_on, scan}
use Rattle.mv_scan.specs.WordGrammar.{IsInner, StaysOpen}
use Rattle.mv_scan.proofs.GrammarFinds.{by_test}

-- not behind a backslash
abbrev IsOpen : Place → Type 0
IsOpen Backslash = ⊥
IsOpen place = Unit {0}

-- the same end, and no text where the other has none
record Follows (s t : Scanned) : Type 0 where
  pub same : s.1 ≡ t.1
  pub none : t.0 ≡ None → s.0 ≡ None

itself : (s : Scanned) → Follows s s
itself s = record { same = refl; none = λ h. h }

with_more : (b : ℕ) (s : Scanned) → Follows (with_byte b s) s
with_more b s = record { same = refl; none = λ h. ap (λ (o : Option (List ℕ)). option_map (λ text. b ∷ text) o) h }

without : (s : Scanned) → Follows (None, s.1) s
without s = record { same = refl; none = λ h. refl }

follows_on : (s t u : Scanned) → Follows s t → Follows t u → Follows s u
follows_on s t u f g = record { same = f.same ∙ g.same; none = λ h. f.none (g.none h) }

-- ## One byte

-- the byte leads to a place that isn't behind a backslash
abbrev GoesBy : Effect → List ℕ → Type 0
GoesBy effect bytes = (next : Place) × IsOpen next × Follows (scan_on effect bytes (λ place. scan place bytes)) (scan next bytes)

gives_goes : (b : ℕ) (bytes : List ℕ) → GoesBy (Gives b) bytes
gives_goes b bytes = (Among, tt, with_more b (scan Among bytes))

spoils_goes : (bytes : List ℕ) → GoesBy (Spoils Among) bytes
spoils_goes bytes = (Among, tt, without (scan Among bytes))

no_digit_goes : (b : ℕ) (bytes : List ℕ) → b ≢ 34 → b ≢ 92 → GoesBy (no_digit b) bytes
no_digit_goes b bytes q s =
    let P : Effect → Type 0 = λ e. GoesBy e bytes in
    by_test P (b == 34) _ _ (λ e. absurd (q (eqb-true b 34 e))) (λ e. by_test P (b == 92) _ _ (λ f. absurd (s (eqb-true b 92 f))) (λ f. spoils_goes bytes))

high_goes : (b : ℕ) (bytes : List ℕ) (high : Option ℕ) → b ≢ 34 → b ≢ 92 → GoesBy (high_digit high b) bytes
high_goes b bytes None q s = no_digit_goes b bytes q s
high_goes b bytes (Some high) q s = (Low high, tt, itself (scan (Low high) bytes))

low_goes : (b : ℕ) (bytes : List ℕ) (high : ℕ) (low : Option ℕ) → b ≢ 34 → b ≢ 92 → GoesBy (low_digit high low b) bytes
low_goes b bytes high None q s = no_digit_goes b bytes q s
low_goes b bytes high (Some low) q s = gives_goes (16 * high + low) bytes

plain_goes : (place : Place) (b : ℕ) (bytes : List ℕ) → IsOpen place → b ≢ 34 → b ≢ 92 → GoesBy (step_of place b) bytes
plain_goes Among b bytes o q s =
    let P : Effect → Type 0 = λ e. GoesBy e bytes in
    by_test P (b == 34) _ _ (λ e. absurd (q (eqb-true b 34 e)))
    (λ e. by_test P (b == 92) _ _ (λ f. absurd (s (eqb-true b 92 f)))
    (λ f. by_test P (nat_le 32 b && nat_le b 126) _ _ (λ r. gives_goes b bytes) (λ r. spoils_goes bytes)))
plain_goes Backslash b bytes o q s = absurd o
plain_goes High b bytes o q s = high_goes b bytes (hex_value b) q s
plain_goes (Low high) b bytes o q s = low_goes b bytes high (hex_value b) q s

given_goes : (byte : Option ℕ) (bytes : List ℕ) → GoesBy (given_by byte) bytes
given_goes None bytes = spoils_goes bytes
given_goes (Some b) bytes = gives_goes b bytes

taken_goes : (b : ℕ) (bytes : List ℕ) → GoesBy (step_of Backslash b) bytes
taken_goes b bytes =
    by_test (λ (e : Effect). GoesBy e bytes) (b == 120) _ _ (λ e. (High, tt, itself (scan High bytes))) (λ e. given_goes (escaped b) bytes)

slash_goes : (place : Place) (bytes : List ℕ) → IsOpen place → Follows (scan place (92 ∷ bytes)) (scan Backslash bytes)
slash_goes Among bytes o = itself (scan Backslash bytes)
slash_goes Backslash bytes o = absurd o
slash_goes High bytes o = without (scan Backslash bytes)
slash_goes (Low high) bytes o = without (scan Backslash bytes)

closes : (place : Place) (bytes : List ℕ) → IsOpen place → (scan place (34 ∷ bytes)).1 ≡ bytes
closes Among bytes o = refl
closes Backslash bytes o = absurd o
closes High bytes o = refl
closes (Low high) bytes o = refl

-- ## The end that is spelled is found

abbrev LeadsBy : Place → List ℕ → List ℕ → Type 0
LeadsBy place inner more = (next : Place) × IsOpen next × Follows (scan place (inner ++ more)) (scan next more)

inner_leads : (inner more : List ℕ) (place : Place) → IsOpen place → IsInner inner → LeadsBy place inner more
inner_leads [] more place o h = (place, o, itself (scan place more))
inner_leads (b ∷ []) more place o h = plain_goes place b more o h.0 h.1
inner_leads (b ∷ c ∷ inner) more place o (inl h) =
    let t = plain_goes place b (c ∷ (inner ++ more)) o h.0 h.1 in
    let u = inner_leads (c ∷ inner) more t.0 t.1 h.2 in
    (u.0, u.1, follows_on _ _ _ t.2 u.2)
inner_leads (b ∷ c ∷ inner) more place o (inr h) =
    let s : Follows (scan place (b ∷ c ∷ (inner ++ more))) (scan Backslash (c ∷ (inner ++ more))) =
    subst (λ (k : ℕ). Follows (scan place (k ∷ c ∷ (inner ++ more))) (scan Backslash (c ∷ (inner ++ more)))) (sym h.0) (slash_goes place (c ∷ (inner ++ more)) o) in
    let t = taken_goes c (inner ++ more) in
    let u = inner_leads inner more t.0 t.1 h.1 in
    (u.0, u.1, follows_on _ _ _ s (follows_on _ _ _ t.2 u.2))

pub closed_end : (inner rest : List ℕ) → IsInner inner → (scan Among (inner ++ (34 ∷ rest))).1 ≡ rest
closed_end inner rest h = let t = inner_leads inner (34 ∷ rest) Among tt h in t.2.same ∙ closes t.0 rest t.1

none_left : (s t : Scanned) → Follows s t → ◌≡◌ {A = Scanned} t (None, []) → ◌≡◌ {A = Scanned} s (None, [])
none_left (o, rest) t f h =
    let same : rest ≡ [] = f.same ∙ ap (λ (k : Scanned). k.1) h in
    let none : o ≡ None = f.none (ap (λ (k : Scanned). k.0) h) in
    cc

pub open_end : (bytes : List ℕ) → StaysOpen bytes → ◌≡◌ {A = Scanned} (scan Among bytes) (None, [])
open_end bytes (inl h) =
    let t = inner_leads bytes [] Among tt h in
    ap (λ (k : List ℕ). scan Among k) (sym (append-nil bytes)) ∙ none_left (scan Among (bytes ++ [])) (scan t.0 []) t.2 refl
open_end bytes (inr h) =
    let t = inner_leads h.0 (92 ∷ []) Among tt h.2 in
    ap (λ (k : List ℕ). scan Among k) h.1
    ∙ none_left (scan Among (h.0 ++ (92 ∷ []))) (scan Backslash []) (follows_on _ _ _ t.2 (slash_goes t.0 [] t.1)) refl

-- ## The end that is found is spelled

-- the bytes up to their closing quote, or all of them
abbrev pub Splits : List ℕ → Scanned → Type 0
Splits bytes s = ((inner : List ℕ) × (bytes ≡ inner ++ (34 ∷ s.1)) × IsInner inner) ⊎ (StaysOpen bytes × (s.1 ≡ []) × (s.0 ≡ None))

-- the same behind a backslash
abbrev Taken : List ℕ → Scanned → Type 0
Taken bytes s = ((inner : List ℕ) × (bytes ≡ inner ++ (34 ∷ s.1)) × IsInner (92 ∷ inner)) ⊎ (StaysOpen (92 ∷ bytes) × (s.1 ≡ []) × (s.0 ≡ None))

inner_on : (b : ℕ) (inner : List ℕ) → b ≢ 34 → b ≢ 92 → IsInner inner → IsInner (b ∷ inner)
inner_on b [] q s h = (q, s)
inner_on b (c ∷ inner) q s h = inl (q, s, h)

open_on : (b : ℕ) (bytes : List ℕ) → b ≢ 34 → b ≢ 92 → StaysOpen bytes → StaysOpen (b ∷ bytes)
open_on b bytes q s (inl h) = inl (inner_on b bytes q s h)
open_on b bytes q s (inr h) = inr (b ∷ h.0, ap (λ (k : List ℕ). b ∷ k) h.1, inner_on b h.0 q s h.2)

open_taken : (b : ℕ) (bytes : List ℕ) → StaysOpen bytes → StaysOpen (92 ∷ b ∷ bytes)
open_taken b bytes (inl h) = inl (inr (refl, h))
open_taken b bytes (inr h) = inr (92 ∷ b ∷ h.0, ap (λ (k : List ℕ). 92 ∷ b ∷ k) h.1, inr (refl, h.2))

-- one byte more in front
split_on : (b : ℕ) (bytes inner : List ℕ) (s t : Scanned) → Follows s t → bytes ≡ inner ++ (34 ∷ t.1) → b ∷ bytes ≡ (b ∷ inner) ++ (34 ∷ s.1)
split_on b bytes inner s t f h = ap (λ (k : List ℕ). b ∷ k) (h ∙ ap (λ (k : List ℕ). inner ++ (34 ∷ k)) (sym f.same))

plain_splits : (b : ℕ) (bytes : List ℕ) (s t : Scanned) → b ≢ 34 → b ≢ 92 → Follows s t → Splits bytes t → Splits (b ∷ bytes) s
plain_splits b bytes s t q k f (inl h) = inl (b ∷ h.0, split_on b bytes h.0 s t f h.1, inner_on b h.0 q k h.2)
plain_splits b bytes s t q k f (inr h) = inr (open_on b bytes q k h.0, f.same ∙ h.1, f.none h.2)

slash_splits : (bytes : List ℕ) (s t : Scanned) → Follows s t → Taken bytes t → Splits (92 ∷ bytes) s
slash_splits bytes s t f (inl h) = inl (92 ∷ h.0, split_on 92 bytes h.0 s t f h.1, h.2)
slash_splits bytes s t f (inr h) = inr (h.0, f.same ∙ h.1, f.none h.2)

taken_splits : (b : ℕ) (bytes : List ℕ) (s t : Scanned) → Follows s t → Splits bytes t → Taken (b ∷ bytes) s
taken_splits b bytes s t f (inl h) = inl (b ∷ h.0, split_on b bytes h.0 s t f h.1, inr (refl, h.2))
taken_splits b bytes s t f (inr h) = inr (open_taken b bytes h.0, f.same ∙ h.1, f.none h.2)

is_or_not : (b c : ℕ) (d : Bool) → (b == c) ≡ d → (b ≡ c) ⊎ (b ≢ c)
is_or_not b c true e = inl (eqb-true b c e)
is_or_not b c false e = inr (eqb-false b c e)

record Split (bytes : List ℕ) : Type 0 where
  pub among : (place : Place) → IsOpen place → Splits bytes (scan place bytes)
  pub taken : Taken bytes (scan Backslash bytes)

byte_splits : (place : Place) (b : ℕ) (bytes : List ℕ) → IsOpen place → Split bytes → (b ≡ 34) ⊎ (b ≢ 34) → (b ≡ 92) ⊎ (b ≢ 92) → Splits (b ∷ bytes) (scan place (b ∷ bytes))
byte_splits place b bytes o ih (inl q) s =
    subst (λ (k : ℕ). Splits (k ∷ bytes) (scan place (k ∷ bytes))) (sym q) (inl ([], ap (λ (k : List ℕ). 34 ∷ k) (sym (closes place bytes o)), tt))
byte_splits place b bytes o ih (inr q) (inl s) =
    subst (λ (k : ℕ). Splits (k ∷ bytes) (scan place (k ∷ bytes))) (sym s) (slash_splits bytes (scan place (92 ∷ bytes)) (scan Backslash bytes) (slash_goes place bytes o) ih.taken)
byte_splits place b bytes o ih (inr q) (inr s) =
    let t = plain_goes place b bytes o q s in
    plain_splits b bytes (scan place (b ∷ bytes)) (scan t.0 bytes) q s t.2 (ih.among t.0 t.1)

taken_by : (b : ℕ) (bytes : List ℕ) → Split bytes → Taken (b ∷ bytes) (scan Backslash (b ∷ bytes))
taken_by b bytes ih =
    let t = taken_goes b bytes in
    taken_splits b bytes (scan Backslash (b ∷ bytes)) (scan t.0 bytes) t.2 (ih.among t.0 t.1)

split : (bytes : List ℕ) → Split bytes
split [] = record { among = λ place o. inr (inl tt, refl, refl); taken = inr (inr ([], refl, tt), refl, refl) }
split (b ∷ bytes) =
    let ih = split bytes in
    record {
      among = λ place o. byte_splits place b bytes o ih (is_or_not b 34 (b == 34) refl) (is_or_not b 92 (b == 92) refl);
      taken = taken_by b bytes ih;
    }

pub splits : (bytes : List ℕ) → Splits bytes (scan Among bytes)
splits bytes = (split bytes).among Among tt
