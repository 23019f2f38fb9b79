-- The events so far are in order, and those of subscriptions that were looked at.
use Rattle.std.proofs.Common.{◌≡◌, ◌≤◌, length, true, vec_len, vec_capacity}
use Rattle.mv_calls.specs.Suits.{are_rising, are_below}
use Rattle.mv_kernnet.proofs.poll.look.Given as goal

abbrev pub invariant-loop-index : goal.invariant-loop-index
invariant-loop-index g l = (l.index ≤ length l.subs) × (are_rising l.events.items ≡ true) × (are_below l.index l.events.items ≡ true) × (vec_len l.events ≤ l.index) × (vec_capacity l.events ≡ vec_capacity l.fn.events) × (l.sockets.connections.next ≡ l.fn.sockets.connections.next)
