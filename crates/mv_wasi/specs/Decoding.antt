-- What a call of an imported function becomes, one row an import (docs/FORMATS.md, "WASI calls" and "Live updates"), and what
-- an errno that is answered at once leaves in memory.
use Rattle.std.specs.Prelude.{ℕ, ◌*◌, ◌^◌, ◌%◌, ◌==◌, Bool, true, false, ◌&&◌, ◌||◌, nat_lt, if◌then◌else◌, List, [], Option, Some, None, length, take, min}
use Rattle.mv_memory.specs.Bytes.{written}
use Rattle.mv_calls.specs.declared.subs.Sub.{Sub}
use Rattle.mv_calls.specs.declared.calls.Call.TheVariants as call
use Rattle.mv_imports.specs.declared.function.HostFunction.{HostFunction}
use Rattle.mv_imports.specs.declared.function.HostFunction.TheVariants.{FdRead, FdWrite, FdClose, FdFdstatGet, SchedYield, ClockTimeGet, RandomGet, PollOneoff, SockAccept, SockShutdown, ArgsSizesGet, ArgsGet, EnvironSizesGet, EnvironGet, FdSeek, FdPrestatGet, FdPrestatDirName, ProcExit, Point as PointCall, OldPages, OldRead, OldGlobal}
use Rattle.mv_wasi.specs.declared.made.LiveOp.TheVariants.{Pages, Read, Global}
use Rattle.mv_wasi.specs.declared.made.Made.{Made}
use Rattle.mv_wasi.specs.declared.made.Made.TheVariants.{Outside, Local, Point, Exit, Live}
use Rattle.mv_wasi.specs.Ranges.{is_within, with_number, vector_limit, transfer_limit, pieces, pieces_are_within, total, joined, text_size, text_bytes, place_bytes}
use Rattle.mv_wasi.specs.Polls.{subs_at}

-- Errno 28 comes before errno 21, and a call that is refused writes nothing.
abbrev pub checked : List ℕ → Bool → Bool → Made × List ℕ → Made × List ℕ
checked m refused within made = if refused then (Local 28, m) else if within then made else (Local 21, m)

-- a subscription of another form is refused last
abbrev pub polled : Option (List Sub) → Made
polled None = Local 28
polled (Some subs) = Outside (call.Poll subs)

-- how many texts there are, and what they take
abbrev pub sizes_answered : ℕ → ℕ → List (List ℕ) → List ℕ → Made × List ℕ
sizes_answered count_at size_at texts m =
    checked m false (is_within m count_at 4 && is_within m size_at 4)
    (Local 0, with_number size_at 4 (text_size texts % 2 ^ 32) (with_number count_at 4 (length texts % 2 ^ 32) m))

-- the places of the texts, and then the texts
abbrev pub texts_answered : ℕ → ℕ → List (List ℕ) → List ℕ → Made × List ℕ
texts_answered list buf texts m =
    checked m false (is_within m list (4 * length texts) && is_within m buf (text_size texts))
    (Local 0, written (written m list (place_bytes buf texts)) buf (text_bytes texts))

-- the function, its arguments (as many as it has), the texts that are the guest's arguments, and the memory
abbrev pub decoded : HostFunction → ℕ → ℕ → ℕ → ℕ → List (List ℕ) → List ℕ → Made × List ℕ
decoded FdRead fd iovs count result_at texts m = checked m (nat_lt vector_limit count) (pieces_are_within m iovs count result_at) (Outside (call.Read fd (min (total (pieces m iovs count)) transfer_limit)), m)
decoded FdWrite fd iovs count result_at texts m = checked m (nat_lt vector_limit count) (pieces_are_within m iovs count result_at) (Outside (call.Write fd (take transfer_limit (joined m (pieces m iovs count)))), m)
decoded FdClose fd b c d texts m = (Outside (call.Close fd), m)
decoded FdFdstatGet fd buf c d texts m = checked m false (is_within m buf 24) (Outside (call.FdStat fd), m)
decoded SchedYield a b c d texts m = (Outside call.Yield, m)
decoded ClockTimeGet id precision out d texts m = checked m (nat_lt 1 id) (is_within m out 8) (Outside (call.Clock id), m)
decoded RandomGet buf len c d texts m = checked m (nat_lt transfer_limit len) (is_within m buf len) (Outside (call.Random len), m)
decoded PollOneoff subs events n result_at texts m = checked m (n == 0 || nat_lt vector_limit n) (is_within m result_at 4 && (is_within m subs (48 * n) && is_within m events (32 * n))) (polled (subs_at m subs n), m)
decoded SockAccept fd flags out d texts m = checked m false (is_within m out 4) (Outside (call.Accept fd (flags % 2 ^ 16)), m)
decoded SockShutdown fd how c d texts m = checked m (how == 0 || nat_lt 3 how) true (Outside (call.Shutdown fd how), m)
decoded ArgsSizesGet count_at size_at c d texts m = sizes_answered count_at size_at texts m
decoded ArgsGet list buf c d texts m = texts_answered list buf texts m
decoded EnvironSizesGet count_at size_at c d texts m = sizes_answered count_at size_at [] m
decoded EnvironGet list buf c d texts m = texts_answered list buf [] m
decoded FdSeek a b c d texts m = (Local 70, m)
decoded FdPrestatGet a b c d texts m = (Local 8, m)
decoded FdPrestatDirName a b c d texts m = (Local 8, m)
decoded ProcExit code b c d texts m = (Exit code, m)
decoded PointCall a b c d texts m = (Point, m)
decoded OldPages a b c d texts m = (Live Pages, m)
decoded OldRead src dst len d texts m = (Live (Read src dst len), m)
decoded OldGlobal n b c d texts m = (Live (Global n), m)
