use Rattle.mv_wasi.specs.Readies.{function_called}
use Rattle.mv_wasi.proofs.Bounds.{waits-still, room-still}
use Rattle.mv_wasi.proofs.encoding.own_answer.Goals as goal

pub own_outputs-requires : goal.own_outputs-requires
own_outputs-requires c = record {
  waits = waits-still c.args.machine.now c.disown.new.machine c.disown.ensures (function_called c.args.call.now) c.requires.waits;
  room = room-still c.args.machine.now c.disown.new.machine c.disown.ensures c.args.call.now c.requires.made;
}
