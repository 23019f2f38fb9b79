-- For private clauses: words with one hyphen alone at their front, which no command takes.
use Rattle.std.specs.Prelude.{Bool, true, false, not, ◌&&◌, ◌==◌, List, [], ◌∷◌, Option, Some, None, if◌then◌else◌}
use Rattle.std.specs.Str.{bytes_eq}
use Rattle.mv_words.specs.Words.{Text}

-- one hyphen alone stands at the front
abbrev pub is_short : Text → Bool
is_short [] = false
is_short (x ∷ []) = x == 45
is_short (x ∷ y ∷ ys) = x == 45 && not (y == 45)

-- a word before `--` has one hyphen alone at its front
abbrev pub has_short : List Text → Bool
has_short [] = false
has_short (word ∷ words) = if bytes_eq word (45 ∷ 45 ∷ []) then false else (if is_short word then true else has_short words)

-- the list, or nothing
abbrev pub list_or_none : Option (List Text) → List Text
list_or_none None = []
list_or_none (Some xs) = xs
