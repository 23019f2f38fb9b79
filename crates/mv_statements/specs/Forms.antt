-- The ways in which a form of a line is made of others.
use Rattle.std.specs.Prelude.{ℕ, zero, suc, Bool, List, [], ◌∷◌, length, Result, Option, Some, None, ◌==◌, if◌then◌else◌}
use Rattle.mv_scan.specs.declared.token.Token.{Token}
use Rattle.mv_statements.specs.declared.fault.TextKind.{TextKind}
use Rattle.mv_statements.specs.declared.fault.TextKind.TheVariants.{Count}
use Rattle.mv_statements.specs.Form.{Form}
use Rattle.mv_statements.specs.FormLaws.{Nothing, give_sound, give_complete, Joined, then_sound, then_complete, OneWord, word_from, word_sound, word_complete, Shows, seen_sound, seen_complete, Holds, unless, provided_sound, provided_complete, Chosen, chosen_sound, chosen_complete}

-- no word, for this value
abbrev pub give : {A : Type 0} → A → Form A
give {A} a = record { spells = Nothing a; reads = λ at. (a, at); sound = give_sound a; complete = give_complete a }

-- one form, and behind it another, which may depend on the value of the first
infixl 10 ◌>>=◌
abbrev pub ◌>>=◌ : {A B : Type 0} → Form A → (A → Form B) → Form B
f >>= g = record {
  spells = Joined f.spells (λ a. (g a).spells);
  reads = λ at. let r = f.reads at in (g r.0).reads r.1;
  sound = then_sound f g;
  complete = then_complete f g;
}

-- one word, which has a meaning or a fault; where the words have ended, that is Count. The other value stands for a fault
abbrev pub word : {A : Type 0} → A → (Token → Result A TextKind) → Form A
word other meaning = record {
  spells = OneWord meaning;
  reads = λ at. word_from other meaning at.fault at.rest;
  sound = word_sound other meaning;
  complete = word_complete other meaning;
}

-- no word, for what the words that are left show
abbrev pub seen : (List Token → ℕ) → Form ℕ
seen show = record { spells = Shows show; reads = λ at. (show at.rest, at); sound = seen_sound show; complete = seen_complete show }

-- how many words are left
abbrev pub left : Form ℕ
left = seen length

-- no word, for this value; a fault where the test fails
abbrev pub provided : {A : Type 0} → Bool → TextKind → A → Form A
provided test kind a = record { spells = Holds test a; reads = λ at. (a, unless test kind at); sound = provided_sound test kind a; complete = provided_complete test kind a }

-- one form or the other
abbrev pub choose : {A : Type 0} → Bool → Form A → Form A → Form A
choose b f g = record {
  spells = Chosen b f.spells g.spells;
  reads = λ at. if b then f.reads at else g.reads at;
  sound = chosen_sound b f g;
  complete = chosen_complete b f g;
}

-- a form so many times
unfoldable pub many : {A : Type 0} → Form A → ℕ → Form (List A)
many f zero = give []
many f (suc n) = do
  first ← f
  others ← many f n
  give (first ∷ others)

-- a form up to the end of the line
abbrev pub all : {A : Type 0} → Form A → Form (List A)
all f = do
  n ← left
  many f n

-- a form, or nothing where the line has ended
unfoldable pub maybe : {A : Type 0} → Form A → Form (Option A)
maybe f = do
  n ← left
  choose (n == 0) (give None) do
    a ← f
    give (Some a)

-- no word stands behind
unfoldable pub last : {A : Type 0} → A → Form A
last a = do
  n ← left
  provided (n == 0) Count a
