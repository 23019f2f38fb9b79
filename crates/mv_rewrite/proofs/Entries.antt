-- Entries of names, one after another.
use Rattle.std.proofs.Common.{◌≡◌, ℕ, ◌+◌, ◌<◌, Bool, List, length, get_or, drop, refl, Some}
use Rattle.std.specs.Prelude.{if◌then◌else◌}
use Rattle.std.specs.Str.{bytes_eq}
use Rattle.std.proofs.lemmas.List.{drop_more}
use Rattle.mv_rewrite.specs.Matching.{value_of}

-- the entry at a place has the value, or those behind it
pub value_at : {V : Type 0} (name : List ℕ) (entries : List (List ℕ × V)) (i : ℕ) (entry : List ℕ × V) (b : Bool)
    → i < length entries → entry ≡ get_or entries i entry → bytes_eq entry.0 name ≡ b
    → value_of name (drop i entries) ≡ (if b then Some entry.1 else value_of name (drop (i + 1) entries))
value_at name entries i entry b lt here test = rw (drop_more entries i entry lt, ← here, test) refl
