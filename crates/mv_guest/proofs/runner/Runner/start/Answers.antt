use Rattle.mv_guest.proofs.Imports.{started-known}
use Rattle.mv_guest.proofs.runner.Runner.start.Goals as goal

pub resume-requires : goal.resume-requires
resume-requires c = record {
  known = started-known c.args.«module» c.in_ok-machine.machine.parts _ c.in_ok-machine.machine.config c.in_ok-machine.ensures.same c.keeps.ensures.valid c.in_ok-machine.ensures.made;
}
