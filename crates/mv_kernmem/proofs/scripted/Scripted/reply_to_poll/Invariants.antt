-- The events so far are those of the subscriptions so far.
use Rattle.std.proofs.Common.{◌≡◌, ◌≤◌, take, vec_len, vec_capacity}
use Rattle.mv_kernmem.specs.Polls.{events_of}
use Rattle.mv_kernmem.proofs.scripted.Scripted.reply_to_poll.Given as goal

abbrev pub invariant-loop-number : goal.invariant-loop-number
invariant-loop-number l =
    (l.events.items ≡ events_of l.self (take l.number l.subs))
    × (vec_len l.events ≤ l.number)
    × (vec_capacity l.events ≡ vec_capacity l.initial.events)
