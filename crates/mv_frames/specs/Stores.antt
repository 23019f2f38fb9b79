-- The store over trees for which the machine's store stands, and what an instruction comes to.
use Rattle.std.specs.Prelude.{◌≡◌, Option, Some, None}
use Rattle.mv_calls.specs.declared.trap.Trap.{Trap}
use Rattle.mv_frames.specs.declared.store.Store.{Store as FlatStore}
use Rattle.mv_execution.specs.Config.{Store, Frame}
use Rattle.mv_execution.specs.Rows.{Goes, Traps, Stuck, Next}

abbrev pub store_of : FlatStore → Store
store_of s = record { memory = s.memory; globals = s.globals.items; table = s.table.items }
