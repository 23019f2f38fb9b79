-- The bytes so far are the first ones.
use Rattle.std.proofs.Common.{◌-◌, ◌≡◌, ◌≤◌, vec_capacity}
use Rattle.mv_kernmem.specs.Replies.{random_bytes}
use Rattle.mv_kernmem.proofs.scripted.Scripted.reply_to_random.Given as goal

abbrev pub invariant-loop-random : goal.invariant-loop-random
invariant-loop-random l =
    (l.bytes.len ≤ l.len)
    × (l.bytes.items ≡ random_bytes l.random l.self-inside.place l.bytes.len)
    × (vec_capacity l.bytes ≡ vec_capacity l.initial.bytes)

abbrev pub decreases-loop-random : goal.decreases-loop-random
decreases-loop-random l = l.len - l.bytes.len
