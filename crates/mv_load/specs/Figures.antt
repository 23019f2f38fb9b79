-- The figures of a log (docs/FORMATS.md, "Load").
use Rattle.std.specs.Prelude.{ℕ, ◌+◌, ◌-◌, ◌^◌, min, List, [], ◌∷◌, length}
use Rattle.mv_calls.specs.declared.calls.Call.{Call}
use Rattle.mv_calls.specs.declared.calls.Call.TheVariants as call
use Rattle.mv_calls.specs.declared.calls.Reply.{Reply}
use Rattle.mv_calls.specs.declared.calls.Reply.TheVariants as reply
use Rattle.mv_history.specs.Statuses.{first_status, status_after}
use Rattle.mv_history.specs.declared.log.Entry.{Entry}
use Rattle.mv_history.specs.declared.log.Entry.TheVariants as entry
use Rattle.mv_history.specs.declared.log.Mark.TheVariants as mark
use Rattle.mv_history.specs.declared.status.Status.{Status}
use Rattle.mv_load.specs.declared.figures.Figures.{Figures}

-- ## What an entry counts

abbrev pub calls_in : Entry → ℕ
calls_in (entry.Call item) = 1
calls_in e = 0

-- the bytes that a read was given
abbrev pub read_bytes : Call → Reply → ℕ
read_bytes (call.Read fd cap) (reply.Bytes bytes) = length bytes
read_bytes c r = 0

abbrev pub bytes_in : Entry → ℕ
bytes_in (entry.Call item) = read_bytes item.0 item.1
bytes_in e = 0

abbrev pub forks_in : Entry → ℕ
forks_in (entry.Mark (mark.Fork update)) = 1
forks_in e = 0

abbrev pub promotes_in : Entry → ℕ
promotes_in (entry.Mark mark.Promote) = 1
promotes_in e = 0

-- ## Over a log

-- the sum over some entries, which stands still at the greatest number of 64 bits
abbrev pub capped : ℕ → ℕ
capped n = min n (2 ^ 64 - 1)

abbrev pub sum_of : (Entry → ℕ) → List Entry → ℕ
sum_of count [] = 0
sum_of count (e ∷ es) = count e + sum_of count es

-- the status behind some entries
abbrev pub status_behind : Status → List Entry → Status
status_behind st [] = st
status_behind st (e ∷ es) = status_behind (status_after st e) es

-- the calls, the bytes that reads were given, the forks and the promotions, and the stage behind the last entry
abbrev pub figures_of : List Entry → Figures
figures_of es = record {
  calls = capped (sum_of calls_in es);
  bytes = capped (sum_of bytes_in es);
  forks = capped (sum_of forks_in es);
  promotes = capped (sum_of promotes_in es);
  stage = (status_behind first_status es).stage;
}
