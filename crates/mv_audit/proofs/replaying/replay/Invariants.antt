use Rattle.std.proofs.Common.{◌≡◌, drop}
use Rattle.mv_history.specs.Replay.{replay}
use Rattle.mv_audit.proofs.replaying.replay.Given as goal

-- the replay of what is left goes on from the guest
abbrev pub invariant-loop-k : goal.invariant-loop-k
invariant-loop-k g l =
    replay g.V.Version.behaviour l.k (g.V.Version.behaviour.state l.guest) (drop l.k l.items)
    ≡ replay g.V.Version.behaviour 0 (g.V.Version.behaviour.state l.initial.guest) l.items
