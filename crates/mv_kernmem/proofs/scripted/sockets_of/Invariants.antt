-- The sockets so far are those of the connections so far.
use Rattle.std.proofs.Common.{◌≡◌, map}
use Rattle.mv_kernmem.specs.States.{fresh}
use Rattle.mv_kernmem.proofs.scripted.sockets_of.Given as goal

abbrev pub invariant-loop-conn : goal.invariant-loop-conn
invariant-loop-conn l = l.sockets.items ≡ map fresh l.yielded
