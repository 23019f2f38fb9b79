-- The connections of a load (docs/FORMATS.md, "Load").
use Rattle.std.specs.Prelude.{ℕ, zero, suc, ◌+◌, ◌*◌, ◌%◌, true, List, [], ◌∷◌, ◌++◌, replicate}
use Rattle.mv_kernmem.specs.declared.script.Conn.{Conn}
use Rattle.mv_kernmem.specs.declared.script.Script.{Script}

-- the number that is drawn as the k-th, from 1 on; before the first it is 1
abbrev pub drawn : ℕ → ℕ
drawn zero = 1
drawn (suc k) = (75 * drawn k + 74) % 65537

-- from 1 to 64 times the letter `a`, as a number says
abbrev pub letters : ℕ → List ℕ
letters x = replicate (1 + x % 64) 97

-- the piece with this number, from 0, over all connections
abbrev pub piece : ℕ → List ℕ
piece k = letters (drawn (k + 1))

-- the connection with this number, from 0: it sends its four pieces, and ends
abbrev pub connection : ℕ → Conn
connection k = record { pieces = piece (4 * k) ∷ piece (4 * k + 1) ∷ piece (4 * k + 2) ∷ piece (4 * k + 3) ∷ []; ends = true }

-- the first n connections, in order
abbrev pub connections : ℕ → List Conn
connections zero = []
connections (suc k) = connections k ++ connection k ∷ []

-- what the kernel plays: n connections, a clock that stands at 0, random bytes that are zeros, and no failure
abbrev pub load_script : ℕ → Script
load_script n = record { conns = connections n; clock = []; random = []; fail = [] }
