-- The text that is found is the one that its bytes spell.
use Rattle.std.proofs.Common.{◌≡◌, inl, inr, ℕ, ◌+◌, ◌*◌, ◌&&◌, ◌==◌, true, List, [], ◌∷◌, ◌++◌, refl, ap, sym, subst, Option, Some, None, leb-true, eqb-true}
use Rattle.std.proofs.lemmas.Bool.{eqb-false}
use Rattle.std.specs.Option.{option_map}
use Rattle.std.specs.Prelude.{nat_le}
use Rattle.mv_scan.specs.declared.scan.Place.{Place}
use Rattle.mv_scan.specs.declared.scan.Place.TheVariants.{Among, Backslash, High, Low}
use Rattle.mv_scan.specs.declared.scan.Effect.{Effect}
use Rattle.mv_scan.specs.Words.{hex_value, escaped, given_by, no_digit, high_digit, low_digit, Scanned, with_byte, scan_on, scan}
use Rattle.mv_scan.specs.WordGrammar.{IsItself, SpellsText}
use Rattle.mv_scan.proofs.GrammarFinds.{both_true, by_test}

-- ## Texts

-- what spells the text, where the bytes before these have led to a place
abbrev pub SpellsFrom : Place → List ℕ → List ℕ → Type 0
SpellsFrom Among text bytes = SpellsText text bytes
SpellsFrom Backslash text bytes = SpellsText text (92 ∷ bytes)
SpellsFrom High text bytes = SpellsText text (92 ∷ 120 ∷ bytes)
SpellsFrom (Low high) text bytes = (first : ℕ) → hex_value first ≡ Some high → SpellsText text (92 ∷ 120 ∷ first ∷ bytes)

abbrev pub ScanIs : Place → List ℕ → Scanned → Type 0
ScanIs place bytes s = (text : List ℕ) → s.0 ≡ Some text → (inner : List ℕ) × (bytes ≡ inner ++ (34 ∷ s.1)) × SpellsFrom place text inner

-- a text that begins with the byte
record Begins (byte : ℕ) (more : Option (List ℕ)) (text : List ℕ) : Type 0 where
  pub others : List ℕ
  pub rest : more ≡ Some others
  pub is : text ≡ byte ∷ others

begins : (byte : ℕ) (more : Option (List ℕ)) (text : List ℕ) → option_map (λ k. byte ∷ k) more ≡ Some text → Begins byte more text
begins byte None text h = cc
begins byte (Some others) text h = record { others = others; rest = refl; is = let e : byte ∷ others ≡ text = cc in sym e }

-- one byte more in front
pub longer : (b : ℕ) (bytes inner end : List ℕ) → bytes ≡ inner ++ end → b ∷ bytes ≡ (b ∷ inner) ++ end
longer b bytes inner end h = ap (λ (k : List ℕ). b ∷ k) h

-- a byte is given, and the rest is scanned among its bytes
given_is : (place : Place) (b : ℕ) (bytes : List ℕ) (byte : ℕ) → ScanIs Among bytes (scan Among bytes)
    → ((others inner : List ℕ) → SpellsText others inner → SpellsFrom place (byte ∷ others) (b ∷ inner))
    → ScanIs place (b ∷ bytes) (with_byte byte (scan Among bytes))
given_is place b bytes byte ih spell text h =
    let t = begins byte (scan Among bytes).0 text h in
    let s = ih t.others t.rest in (
      b ∷ s.0,
      longer b bytes s.0 _ s.1,
      subst (λ (k : List ℕ). SpellsFrom place k (b ∷ s.0)) (sym t.is) (spell t.others s.0 s.2),
    )

itself : (b : ℕ) → (b ≡ 34 → ⊥) → (b ≡ 92 → ⊥) → (nat_le 32 b && nat_le b 126) ≡ true → IsItself b (b ∷ [])
itself b q s h =
    let t = both_true (nat_le 32 b) (nat_le b 126) h in
    record { written = refl; from = leb-true 32 b t.0; to = leb-true b 126 t.1; no_quote = q; no_backslash = s }

on_among : (b : ℕ) (bytes : List ℕ) (ih : (place : Place) → ScanIs place bytes (scan place bytes)) → ScanIs Among (b ∷ bytes) (scan Among (b ∷ bytes))
on_among b bytes ih =
    let P : Effect → Type 0 = λ e. ScanIs Among (b ∷ bytes) (scan_on e bytes (λ next. scan next bytes)) in
    by_test P (b == 34) _ _
    (λ q text h. let e : [] ≡ text = cc in ([], ap (λ (k : ℕ). k ∷ bytes) (eqb-true b 34 q), subst (λ (k : List ℕ). SpellsText k []) e refl))
    (λ q. by_test P (b == 92) _ _
    (λ s text h. let t = ih Backslash text h in
    (b ∷ t.0, longer b bytes t.0 _ t.1, subst (λ (k : ℕ). SpellsText text (k ∷ t.0)) (sym (eqb-true b 92 s)) t.2))
    (λ s. by_test P (nat_le 32 b && nat_le b 126) _ _
    (λ r. given_is Among b bytes b (ih Among)
    (λ others inner more. (b ∷ [], inner, refl, inl (itself b (eqb-false b 34 q) (eqb-false b 92 s) r), more)))
    (λ r text h. cc)))

-- what the byte of an escape gives
on_given : (b : ℕ) (bytes : List ℕ) (ih : (place : Place) → ScanIs place bytes (scan place bytes)) (o : Option ℕ) → escaped b ≡ o
    → ScanIs Backslash (b ∷ bytes) (scan_on (given_by o) bytes (λ next. scan next bytes))
on_given b bytes ih None e = λ text h. cc
on_given b bytes ih (Some byte) e =
    given_is Backslash b bytes byte (ih Among) (λ others inner more. (92 ∷ b ∷ [], inner, refl, inr (inl (record { letter = b; written = refl; value = e })), more))

on_backslash : (b : ℕ) (bytes : List ℕ) (ih : (place : Place) → ScanIs place bytes (scan place bytes)) → ScanIs Backslash (b ∷ bytes) (scan Backslash (b ∷ bytes))
on_backslash b bytes ih =
    let P : Effect → Type 0 = λ e. ScanIs Backslash (b ∷ bytes) (scan_on e bytes (λ next. scan next bytes)) in
    by_test P (b == 120) _ _
    (λ q text h. let t = ih High text h in
    (b ∷ t.0, longer b bytes t.0 _ t.1, subst (λ (k : ℕ). SpellsText text (92 ∷ k ∷ t.0)) (sym (eqb-true b 120 q)) t.2))
    (λ q. on_given b bytes ih (escaped b) refl)

-- where a digit must stand, another byte leaves no text
on_none : (place : Place) (b : ℕ) (bytes : List ℕ) (rest : Place → Scanned) → ScanIs place (b ∷ bytes) (scan_on (no_digit b) bytes rest)
on_none place b bytes rest =
    let P : Effect → Type 0 = λ e. ScanIs place (b ∷ bytes) (scan_on e bytes rest) in
    by_test P (b == 34) _ _ (λ q text h. cc) (λ q. by_test P (b == 92) _ _ (λ s text h. cc) (λ s text h. cc))

on_high : (b : ℕ) (bytes : List ℕ) (ih : (place : Place) → ScanIs place bytes (scan place bytes)) (high : Option ℕ) → hex_value b ≡ high
    → ScanIs High (b ∷ bytes) (scan_on (high_digit high b) bytes (λ next. scan next bytes))
on_high b bytes ih None e = on_none High b bytes (λ next. scan next bytes)
on_high b bytes ih (Some high) e =
    λ text h. let t = ih (Low high) text h in
    (b ∷ t.0, longer b bytes t.0 _ t.1, t.2 b e)

on_low : (high b : ℕ) (bytes : List ℕ) (ih : (place : Place) → ScanIs place bytes (scan place bytes)) (low : Option ℕ) → hex_value b ≡ low
    → ScanIs (Low high) (b ∷ bytes) (scan_on (low_digit high low b) bytes (λ next. scan next bytes))
on_low high b bytes ih None e = on_none (Low high) b bytes (λ next. scan next bytes)
on_low high b bytes ih (Some low) e =
    given_is (Low high) b bytes (16 * high + low) (ih Among)
    (λ others inner more first f. (
      92 ∷ 120 ∷ first ∷ b ∷ [],
      inner,
      refl,
      inr (inr (record { first = first; second = b; high = high; low = low; written = refl; first_value = f; second_value = e; value = refl })),
      more,
    ))

on_byte : (place : Place) (b : ℕ) (bytes : List ℕ) (ih : (place : Place) → ScanIs place bytes (scan place bytes)) → ScanIs place (b ∷ bytes) (scan place (b ∷ bytes))
on_byte Among b bytes ih = on_among b bytes ih
on_byte Backslash b bytes ih = on_backslash b bytes ih
on_byte High b bytes ih = on_high b bytes ih (hex_value b) refl
on_byte (Low high) b bytes ih = on_low high b bytes ih (hex_value b) refl

pub scan_is : (bytes : List ℕ) (place : Place) → ScanIs place bytes (scan place bytes)
scan_is [] place = λ text h. cc
scan_is (b ∷ bytes) place = on_byte place b bytes (λ next. scan_is bytes next)
