-- A text that is scanned byte by byte.
use Rattle.std.proofs.Common.{◌≡◌, ℕ, Bool, true, false, List, [], ◌∷◌, ◌++◌, refl, ap, sym, append_assoc, Some, None}
use Rattle.std.specs.Prelude.{Option}
use Rattle.std.specs.Option.{option_map}
use Rattle.mv_scan.specs.Words.{Scanned, with_byte}

-- the bytes so far, before what is scanned of the rest; there is no text where one of them may not stand
abbrev pub before : Bool → List ℕ → Scanned → Scanned
before true text s = (option_map (λ more. text ++ more) s.0, s.1)
before false text s = (None, s.1)

one_more : (text : List ℕ) (v : ℕ) (o : Option (List ℕ)) (rest : List ℕ)
    → ◌≡◌ {A = Scanned} (option_map (λ more. text ++ more) (option_map (λ more. v ∷ more) o), rest) (option_map (λ more. (text ++ v ∷ []) ++ more) o, rest)
one_more text v None rest = refl
one_more text v (Some more) rest = ap (λ (k : List ℕ). let s : Scanned = (Some k, rest) in s) (sym (append_assoc text (v ∷ []) more))

-- one more byte
pub before_byte : (good : Bool) (text : List ℕ) (v : ℕ) (s : Scanned) → before good text (with_byte v s) ≡ before good (text ++ v ∷ []) s
before_byte true text v s = one_more text v s.0 s.1
before_byte false text v s = refl

-- a byte that may not stand
pub before_none : (good : Bool) (text : List ℕ) (s : Scanned) → ◌≡◌ {A = Scanned} (before good text (None, s.1)) (before false text s)
before_none true text s = refl
before_none false text s = refl

-- nothing is left
pub before_end : (good : Bool) (text : List ℕ) → ◌≡◌ {A = Scanned} (before good text (None, [])) (None, [])
before_end true text = refl
before_end false text = refl
