-- The ways in which a form is made of others: of each, what it spells and what it reads.
use Rattle.std.specs.Prelude.{◌≡◌, ℕ, zero, suc, ◌+◌, Bool, List, [], ◌∷◌, ◌++◌, length, take, drop, Result, Ok, Err, Option, Some, None, nat_lt, ◌==◌, if◌then◌else◌}
use Rattle.std.specs.Bool.{MatchBool}
use Rattle.mv_syntax.specs.declared.fault.ReadFault.{ReadFault}
use Rattle.mv_syntax.specs.declared.fault.ReadKind.{ReadKind}
use Rattle.mv_syntax.specs.declared.fault.ReadKind.TheVariants.{Size}
use Rattle.mv_syntax.specs.Form.{At, past, fault, runs_out, after, Form}

-- ---- no bytes, for this value

abbrev pub Nothing : {A : Type 0} → A → List ℕ → A → Type 0
Nothing a text b = (text ≡ []) × (b ≡ a)

abbrev pub give : {A : Type 0} → A → Form A
give {A} a = record { spells = Nothing a; reads = λ at. Ok (a, at) }

-- ---- one form, and behind it another, which may depend on the value of the first

pub record Joined {A B : Type 0} (f : List ℕ → A → Type 0) (g : A → List ℕ → B → Type 0) (text : List ℕ) (b : B) : Type 0 where
  pub first : A
  pub front : List ℕ
  pub back : List ℕ
  pub whole : text ≡ front ++ back
  pub front_spells : f front first
  pub back_spells : g first back b

infixl 10 ◌>>=◌
abbrev pub ◌>>=◌ : {A B : Type 0} → Form A → (A → Form B) → Form B
f >>= g = record { spells = Joined f.spells (λ a. (g a).spells); reads = λ at. after (f.reads at) (λ r. (g r.0).reads r.1) }

-- ---- any byte

abbrev pub OneByte : List ℕ → ℕ → Type 0
OneByte text b = text ≡ b ∷ []

abbrev pub byte_from : ℕ → ReadKind → List ℕ → Result (ℕ × At) ReadFault
byte_from place short [] = fault place short
byte_from place short (b ∷ rest) = Ok (b, record { place = place + 1; rest = rest; short = short })

unfoldable pub byte : Form ℕ
byte = record { spells = OneByte; reads = λ at. byte_from at.place at.short at.rest }

-- ---- a form whose value has a meaning; where it has none, the fault is at its first byte

pub record Means {A B : Type 0} (f : List ℕ → A → Type 0) (meaning : A → Result B ReadKind) (text : List ℕ) (b : B) : Type 0 where
  pub sign : A
  pub spelled : f text sign
  pub meant : meaning sign ≡ Ok b

abbrev pub judged : {B : Type 0} → ℕ → At → Result B ReadKind → Result (B × At) ReadFault
judged start next (Ok b) = Ok (b, next)
judged start next (Err k) = fault start k

abbrev pub means : {A B : Type 0} → Form A → (A → Result B ReadKind) → Form B
means f meaning = record { spells = Means f.spells meaning; reads = λ at. after (f.reads at) (λ r. judged at.place r.1 (meaning r.0)) }

-- ---- one form or the other, by a test

abbrev pub Chosen : {A : Type 0} → Bool → (List ℕ → A → Type 0) → (List ℕ → A → Type 0) → List ℕ → A → Type 0
Chosen b f g text a = MatchBool b (f text a) (g text a)

abbrev pub choose : {A : Type 0} → Bool → Form A → Form A → Form A
choose b f g = record { spells = Chosen b f.spells g.spells; reads = λ at. if b then f.reads at else g.reads at }

-- ---- so many bytes

abbrev pub Bytes : ℕ → List ℕ → List ℕ → Type 0
Bytes n text bytes = (bytes ≡ text) × (length text ≡ n)

abbrev pub bytes_from : ℕ → At → Result (List ℕ × At) ReadFault
bytes_from n at = if nat_lt (length at.rest) n then runs_out at else Ok (take n at.rest, past at (take n at.rest) (drop n at.rest))

unfoldable pub bytes : ℕ → Form (List ℕ)
bytes n = record { spells = Bytes n; reads = bytes_from n }

-- ---- a form that takes exactly so many bytes

abbrev pub Sized : {A : Type 0} → (List ℕ → A → Type 0) → ℕ → List ℕ → A → Type 0
Sized f n text a = f text a × (length text ≡ n)

-- what stands unread before the end
abbrev pub ended : {A : Type 0} → At → A → At → Result (A × At) ReadFault
ended next a inner = if length inner.rest == 0 then Ok (a, next) else fault inner.place inner.short

abbrev pub window : ℕ → At → At
window n at = record { place = at.place; rest = take n at.rest; short = Size }

-- a window of so many bytes, and where the reader stands behind it
abbrev pub split_from : ℕ → At → Result (At × At) ReadFault
split_from n at = if nat_lt (length at.rest) n then runs_out at else Ok (window n at, past at (take n at.rest) (drop n at.rest))

abbrev pub sized_from : {A : Type 0} → (At → Result (A × At) ReadFault) → ℕ → At → Result (A × At) ReadFault
sized_from f n at = after (split_from n at) (λ w. after (f w.0) (λ r. ended w.1 r.0 r.1))

abbrev pub sized : {A : Type 0} → ℕ → Form A → Form A
sized n f = record { spells = Sized f.spells n; reads = sized_from f.reads n }

-- ---- the same, read from left to right as far as there are bytes: a fault inside comes before that of the missing bytes

-- the value, unless the end came before so many bytes
abbrev pub unless_short : {A : Type 0} → ℕ → At → A × At → Result (A × At) ReadFault
unless_short n at x = if nat_lt (length at.rest) n then runs_out at else Ok x

-- a window of so many bytes, or of those that are left
abbrev pub clipped_from : {A : Type 0} → (At → Result (A × At) ReadFault) → ℕ → At → Result (A × At) ReadFault
clipped_from f n at = after (f (window n at)) (λ r. after (ended (past at (take n at.rest) (drop n at.rest)) r.0 r.1) (unless_short n at))

abbrev pub clipped : {A : Type 0} → ℕ → Form A → Form A
clipped n f = record { spells = Sized f.spells n; reads = clipped_from f.reads n }

-- ---- a form with which exactly so many bytes begin

pub record Headed {A : Type 0} (f : List ℕ → A → Type 0) (n : ℕ) (text : List ℕ) (a : A) : Type 0 where
  pub front : List ℕ
  pub back : List ℕ
  pub whole : text ≡ front ++ back
  pub spelled : f front a
  pub size : length text ≡ n

-- what a window begins with, whatever stands behind it there
abbrev pub headed_from : {A : Type 0} → (At → Result (A × At) ReadFault) → ℕ → At → Result (A × At) ReadFault
headed_from f n at = after (split_from n at) (λ w. after (f w.0) (λ r. Ok (r.0, w.1)))

abbrev pub headed : {A : Type 0} → ℕ → Form A → Form A
headed n f = record { spells = Headed f.spells n; reads = headed_from f.reads n }

-- ---- a form so many times

unfoldable pub many : {A : Type 0} → Form A → ℕ → Form (List A)
many f zero = give []
many f (suc n) = do
  first ← f
  others ← many f n
  give (first ∷ others)

-- a form for each of these
unfoldable pub each_of : {A B : Type 0} → (B → Form A) → List B → Form (List A)
each_of f [] = give []
each_of f (b ∷ bs) = do
  first ← f b
  others ← each_of f bs
  give (first ∷ others)

-- a form, or nothing where the count is 0
unfoldable pub at_most_one : {A : Type 0} → Form A → ℕ → Form (Option A)
at_most_one f n = choose (n == 0) (give None) do
  a ← f
  give (Some a)
