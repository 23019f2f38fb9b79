-- What the guest's calls meet: the connections of the script, its clock and its random bytes (docs/FORMATS.md, "The scripted
-- kernel").
use Rattle.std.specs.Prelude.{ℕ, ◌-◌, Bool, false, ◌&&◌, ◌||◌, ◌==◌, nat_lt, nat_le, List, length, map, Option, Some, None, is_some, if◌then◌else◌}
use Rattle.std.specs.List.{slice_get}
use Rattle.mv_kernmem.specs.declared.script.Conn.{Conn}
use Rattle.mv_kernmem.specs.declared.script.Script.{Script}

-- one connection
pub record Connection : Type 0 where
  -- what is still to be read, in pieces
  pub pieces : List (List ℕ)
  -- whether the other side ends its sending behind them
  pub ends : Bool
  -- whether the guest closed it
  pub closed : Bool

pub record ScriptState : Type 0 where
  -- all connections of the script, in order, and how many of them were accepted: the first ones
  pub conns : List Connection
  pub accepted : ℕ
  -- the clock's values, and how often it was asked
  pub clock : List ℕ
  pub clocks : ℕ
  -- the random bytes, and at which of them the next call begins
  pub random : List ℕ
  pub place : ℕ

-- a connection of which nothing was read
abbrev pub fresh : Conn → Connection
fresh conn = record { pieces = conn.pieces; ends = conn.ends; closed = false }

-- how a script begins
abbrev pub first_state : Script → ScriptState
first_state script = record {
  conns = map fresh script.conns;
  accepted = 0;
  clock = script.clock;
  clocks = 0;
  random = script.random;
  place = 0;
}

-- errno of WASI preview 1: try again, no such descriptor
abbrev pub again : ℕ
again = 6

abbrev pub badf : ℕ
badf = 8

-- the listener's descriptor, and that of the connection accepted first
abbrev pub listener : ℕ
listener = 3

abbrev pub first_fd : ℕ
first_fd = 4

-- the connection, unless it was closed
abbrev pub unless_closed : Option Connection → Option Connection
unless_closed None = None
unless_closed (Some c) = if c.closed then None else Some c

-- The connection with this descriptor: the k-th that was accepted has first_fd + k. A closed one isn't known any more, and its
-- number isn't given again.
abbrev pub connection_at : ScriptState → ℕ → Option Connection
connection_at s fd = if nat_le first_fd fd && nat_lt (fd - first_fd) s.accepted
    then unless_closed (slice_get s.conns (fd - first_fd))
    else None

-- whether the descriptor is that of a connection
abbrev pub is_connection : ScriptState → ℕ → Bool
is_connection s fd = is_some (connection_at s fd)

-- whether the descriptor is one of the two that take output
abbrev pub is_output : ℕ → Bool
is_output fd = (fd == 1) || (fd == 2)

-- whether there is a descriptor of this number
abbrev pub is_known : ScriptState → ℕ → Bool
is_known s fd = nat_le fd listener || is_connection s fd

-- whether a connection waits to be accepted
abbrev pub waits : ScriptState → Bool
waits s = nat_lt s.accepted (length s.conns)
