-- The schedule of a load (docs/FORMATS.md, "Load").
use Rattle.std.specs.Prelude.{ℕ, zero, suc, ◌+◌, ◌*◌, List, [], ◌++◌, codes}

-- a text, so many times
abbrev pub times : ℕ → List ℕ → List ℕ
times zero text = []
times (suc n) text = times n text ++ text

-- a turn of the leader, a message taken, three steps of the follower, a judgement; 24 times for each connection, and 200 times more
abbrev pub load_beats : ℕ → List ℕ
load_beats n = times (24 * n + 200) (codes "LCFFFJ")
