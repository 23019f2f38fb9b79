use Rattle.std.proofs.Common.{◌≡◌, length, ap, ◌∙◌, arith}
use Rattle.mv_kernmem.specs.declared.script.Script.{Script}
use Rattle.mv_load.proofs.Rehearsing.{connections_length}
use Rattle.mv_load.proofs.rehearsal.player_of.Goals as goal

pub new-requires : goal.new-requires
new-requires g c =
    let few = c.requires.few in
    let long : length c.in_ok-script.script.conns ≡ c.args.n = ap (λ (s : Script). length s.conns) c.in_ok-script.ensures.script ∙ connections_length c.args.n in
    omega (arith, few, long)
