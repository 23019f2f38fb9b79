-- No look so far has found anything.
use Rattle.std.proofs.Common.{◌≡◌, [], vec_capacity}
use Rattle.mv_kernnet.proofs.poll.poll_reply.Given as goal

abbrev pub invariant-loop : goal.invariant-loop
invariant-loop g l = (l.events.items ≡ []) × (vec_capacity l.events ≡ vec_capacity l.fn.place) × (l.sockets.connections.next ≡ l.fn.sockets.connections.next)
