use Rattle.std.proofs.Common.{subst}
use Rattle.mv_kernmem.specs.declared.script.Script.{Script}
use Rattle.mv_load.specs.Connections.{load_script}
use Rattle.mv_load.specs.Played.{IsPlayed}
use Rattle.mv_load.proofs.Rehearsing.{begins, run_of}
use Rattle.mv_load.proofs.rehearsal.rehearsed_by.Goals as goal

pub returns : goal.returns
returns g c =
    let ran = c.by_beats-outcome.ensures in
    let end = c.by_beats-outcome.result in
    run_of g.V.Version.behaviour (load_script c.args.n) c.args.beats.now end.log _ end.kernel end.console.state c.in_ok-files.files end.files end.status
    (begins _ _ g.N.Plan.script c.in_ok-kernel.kernel c.in_ok-console.console.state c.in_ok-files.files c.requires.start.0 c.requires.start.1 c.in_ok-kernel.ensures c.in_ok-console.ensures c.in_ok-files.ensures.files)
    c.in_ok-files.ensures.files ran.beats ran.legal ran.done (subst (λ (s : Script). IsPlayed s end.kernel) c.requires.plan c.has_played.ensures) ran.orders ran.files ran.ended
