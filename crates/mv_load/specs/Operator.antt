-- What the operator orders in a load: an update at once, then that the new version leads, then that it is alone; then the console
-- is closed (docs/FORMATS.md, "Load").
use Rattle.std.specs.Prelude.{ℕ, List, [], ◌∷◌, ◌++◌, Option, Some, None, false, codes, replicate}
use Rattle.mv_outside.specs.MemConsole.{ConsoleState}

-- a line that comes at once, behind so many looks at which nothing has come
abbrev pub behind_looks : ℕ → List ℕ → List (Option (List ℕ))
behind_looks n line = replicate n None ++ Some line ∷ []

abbrev pub load_lines : List (Option (List ℕ))
load_lines = behind_looks 0 (codes "update new fwd rev") ++ (behind_looks 5 (codes "promote") ++ behind_looks 5 (codes "finish"))

-- a console that hands on these lines and fails at no call
abbrev pub load_console : ConsoleState
load_console = record { coming = load_lines; said = []; nexts = 0; says = 0; fail_next = []; fail_say = []; failed = false; closed = false; faults = 0 }
