-- What a look at the console takes and tells.
use Rattle.std.specs.Prelude.{◌≡◌, ℕ, List, Option, Some, None, Bool, true}
use Rattle.mv_outside.specs.Told.{told_first, IsAtEnd}
use Rattle.mv_outside.specs.declared.console.Line.{Line}
use Rattle.mv_outside.specs.declared.console.Line.TheVariants as line

-- how many bytes of a line are handed on
abbrev pub line_limit : ℕ
line_limit = 8192

-- P holds of the line, if one came
abbrev pub IfLine : Line → (List ℕ → Type 0) → Type 0
IfLine (line.Line bytes) P = P bytes
IfLine line.Idle P = Unit {0}
IfLine line.Closed P = Unit {0}
IfLine line.Failed P = Unit {0}
IfLine line.Memory P = Unit {0}

-- a line and an idle turn are the first of what was coming; nothing else is taken
abbrev pub Takes : Option (List (Option (List ℕ))) → Line → Option (List (Option (List ℕ))) → Type 0
Takes before (line.Line bytes) now = before ≡ told_first (Some bytes) now
Takes before line.Idle now = before ≡ told_first None now
Takes before line.Closed now = (now ≡ before) × IsAtEnd before
Takes before line.Failed now = now ≡ before
Takes before line.Memory now = now ≡ before

-- after Closed or Failed no line comes
abbrev pub EndsLines : Bool → Line → Bool → Type 0
EndsLines before (line.Line bytes) now = (before ≡ true) → ⊥
EndsLines before line.Idle now = before ≡ true → now ≡ true
EndsLines before line.Closed now = now ≡ true
EndsLines before line.Failed now = now ≡ true
EndsLines before line.Memory now = before ≡ true → now ≡ true
