-- Forms of lines: each says at once with which words a value is written, and how it is read from the first word on, with the
-- first kind of fault. The two agree, whichever form it is: a form is made of other forms only in ways that keep this.
use Rattle.std.specs.Prelude.{◌≡◌, ℕ, nat_le, List, ◌++◌, Option, Some, None, if◌then◌else◌}
use Rattle.mv_scan.specs.declared.token.Token.{Token}
use Rattle.mv_statements.specs.declared.fault.TextKind.{TextKind}
use Rattle.mv_statements.specs.declared.fault.TextKind.TheVariants.{Size, Word, Place, Count, Quote, Number, Nest, Unended}

-- the order of the kinds
abbrev pub rank : TextKind → ℕ
rank Size = 0
rank Word = 1
rank Place = 2
rank Count = 3
rank Quote = 4
rank Number = 5
rank Nest = 6
rank Unended = 7

-- the kind that counts, once another was met before, or none
abbrev pub sooner : Option TextKind → TextKind → TextKind
sooner None kind = kind
sooner (Some first) kind = if nat_le (rank first) (rank kind) then first else kind

-- where a reader of a line stands: the words that are left, and the first kind of fault that it has met
pub record At : Type 0 where
  pub rest : List Token
  pub fault : Option TextKind

-- no fault was met
abbrev pub clean : List Token → At
clean rest = record { rest = rest; fault = None }

abbrev pub with_fault : TextKind → At → At
with_fault kind at = record { rest = at.rest; fault = Some (sooner at.fault kind) }

-- what was read without a fault: the words with which it is written, before those behind it
pub record Took {A : Type 0} (spells : A → List Token → List Token → Type 0) (at : At) (a : A) (next : At) : Type 0 where
  pub clean : at.fault ≡ None
  pub words : List Token
  pub spelled : spells a words next.rest
  pub parts : at.rest ≡ words ++ next.rest

pub record Form (A : Type 0) : Type 1 where
  -- the value is written with these words, before those
  pub spells : A → List Token → List Token → Type 0
  -- the value at the front; another in its place where there is a fault
  pub reads : At → A × At
  -- what is read without a fault is written so
  pub sound : (at : At) (a : A) (next : At) → reads at ≡ (a, next) → next.fault ≡ None → Took spells at a next
  -- what is written so is read
  pub complete : (a : A) (words more : List Token) → spells a words more → reads (clean (words ++ more)) ≡ (a, clean more)
