use Rattle.std.proofs.Common.{◌≡◌, ◌≤◌, ◌*◌}
use Rattle.mv_load.specs.Connections.{connections, drawn}
use Rattle.mv_load.proofs.script.load_script.Given as goal

abbrev pub invariant-loop-number : goal.invariant-loop-number
invariant-loop-number l = record {
  so_far : l.conns.items ≡ connections l.number;
  last : l.last ≡ drawn (4 * l.number);
  small : l.last ≤ 65536;
}
