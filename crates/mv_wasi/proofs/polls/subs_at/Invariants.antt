use Rattle.std.proofs.Common.{◌≡◌}
use Rattle.mv_wasi.specs.Polls.{subs_at}
use Rattle.mv_wasi.proofs.Subscriptions.{behind, rest_of}
use Rattle.mv_wasi.proofs.polls.subs_at.Given as goal

abbrev pub invariant-loop-index : goal.invariant-loop-index
invariant-loop-index l = behind l.found.items (rest_of l.memory.bytes l.subs l.count l.index) ≡ subs_at l.memory.bytes l.subs l.count
