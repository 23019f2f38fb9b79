-- What the words behind a command word say: values of options, and words by their place (docs/GUIDE.md, "Words").
use Rattle.std.specs.Prelude.{ℕ, Bool, true, false, not, ◌&&◌, ◌==◌, List, [], ◌∷◌, Option, Some, None, option_map, option_and_then, if◌then◌else◌}
use Rattle.std.specs.List.{list_any, before_first, after_first}
use Rattle.std.specs.Str.{bytes_eq}

abbrev pub Text : Type 0
Text = List ℕ

-- what follows a hyphen
abbrev pub after_hyphen : Text → Option Text
after_hyphen [] = None
after_hyphen (x ∷ xs) = if x == 45 then Some xs else None

-- a name, and what stands after the first `=` if there is one
abbrev pub at_equals : Text → Option (Text × Option Text)
at_equals [] = None
at_equals (x ∷ xs) = Some (
  before_first (λ b. b == 61) (x ∷ xs),
  if list_any (λ b. b == 61) (x ∷ xs) then Some (after_first (λ b. b == 61) (x ∷ xs)) else None,
)

-- `--name` or `--name=value`; `--` alone is none
abbrev pub option_of : Text → Option (Text × Option Text)
option_of word = option_and_then at_equals (option_and_then after_hyphen (after_hyphen word))

-- the word isn't empty and doesn't begin with a hyphen
abbrev pub is_plain : Text → Bool
is_plain [] = false
is_plain (x ∷ xs) = not (x == 45)

abbrev pub is_full : Text → Bool
is_full [] = false
is_full (x ∷ xs) = true

-- the value of an option, or a word that has its meaning by its place
pub data Part : Type 0 where
  value : Text → Text → Part
  place : Text → Part

-- before `--`, after an option that wants its value, and after `--`
pub data Mode : Type 0 where
  free : Mode
  wants : Text → Mode
  ended : Mode

abbrev pub with_part : Part → Option (List Part) → Option (List Part)
with_part p = option_map (λ ps. p ∷ ps)

abbrev pub is_name : List Text → Text → Bool
is_name names name = list_any (λ n. bytes_eq n name) names

-- an option, with the value that is joined to it
abbrev pub option_step : List Text → Option (Text × Option Text) → (Mode → Option (List Part)) → Option (List Part)
option_step names None next = None
option_step names (Some (name, None)) next = if is_name names name then next (wants name) else None
option_step names (Some (name, Some v)) next = if is_name names name && is_full v then with_part (value name v) (next free) else None

abbrev pub word_step : List Text → Mode → Text → (Mode → Option (List Part)) → Option (List Part)
word_step names ended word next = if is_full word then with_part (place word) (next ended) else None
word_step names (wants name) word next = if is_plain word then with_part (value name word) (next free) else None
word_step names free word next =
    if is_plain word then with_part (place word) (next free)
    else (if bytes_eq word (45 ∷ 45 ∷ []) then next ended else option_step names (option_of word) next)

-- no value is missing
abbrev pub at_end : Mode → Option (List Part)
at_end (wants name) = None
at_end _ = Some []

-- what the words say, where they are well formed over options of these names
unfoldable pub parts : List Text → List Text → Mode → Option (List Part)
parts names [] mode = at_end mode
parts names (word ∷ words) mode = word_step names mode word (parts names words)

-- the values of an option
abbrev pub values_of : Text → List Part → List Text
values_of name [] = []
values_of name (value n v ∷ ps) = if bytes_eq n name then v ∷ values_of name ps else values_of name ps
values_of name (place w ∷ ps) = values_of name ps

-- the words by place
abbrev pub places : List Part → List Text
places [] = []
places (value n v ∷ ps) = places ps
places (place w ∷ ps) = w ∷ places ps
