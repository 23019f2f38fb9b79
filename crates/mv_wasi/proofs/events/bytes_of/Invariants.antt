use Rattle.std.proofs.Common.{◌≡◌, ◌*◌, ◌++◌, drop, length}
use Rattle.mv_wasi.specs.Polls.{events_bytes}
use Rattle.mv_wasi.specs.Readies.{HaveSubs}
use Rattle.mv_wasi.proofs.events.bytes_of.Given as goal

abbrev pub invariant-loop-event : goal.invariant-loop-event
invariant-loop-event l = record {
  len : length l.bytes.items ≡ 32 * l.event-index;
  within : HaveSubs l.memory.bytes l.subs (drop l.event-index l.happened);
  whole : l.bytes.items ++ events_bytes l.memory.bytes l.subs (drop l.event-index l.happened) ≡ events_bytes l.memory.bytes l.subs l.happened;
}
