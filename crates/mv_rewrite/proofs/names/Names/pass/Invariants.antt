use Rattle.std.proofs.Common.{◌≡◌, drop}
use Rattle.mv_rewrite.specs.Matching.{guards_pass}
use Rattle.mv_rewrite.proofs.names.Names.pass.Given as goal

-- the guards that are left pass as all of them
abbrev pub invariant-loop-guard : goal.invariant-loop-guard
invariant-loop-guard l = guards_pass l.self (drop l.guard-index l.guards) ≡ guards_pass l.self l.guards
