use Rattle.std.proofs.Common.{◌∙◌, sym}
use Rattle.mv_start.proofs.Begins.{still-idle}
use Rattle.mv_start.proofs.Takes.{new-takes, takes-segments}
use Rattle.mv_start.proofs.instance.fill.Goals as goal

pub write_elements-requires : goal.write_elements-requires
write_elements-requires c = new-takes c.args.machine.now c.keeps.ensures.valid c.requires.fresh (sym c.fault_of_bounds.ensures ∙ c.in_default.is)

pub write_segments-requires : goal.write_segments-requires
write_segments-requires c =
    takes-segments c.args.machine.now.parts c.write_elements.new.machine.parts c.args.machine.now.config c.write_elements.new.machine.config c.requires.fresh c.write_elements.ensures.parts c.write_elements.ensures.written (sym c.fault_of_bounds.ensures ∙ c.in_default.is)

pub begin-requires : goal.begin-requires
begin-requires c = record {
  idle = still-idle c.args.machine.now.parts c.args.machine.now.parts.elements c.write_elements.new.machine.parts.segments c.args.machine.now.config c.write_elements.new.machine.config c.write_segments.new.machine.config c.requires.fresh c.write_elements.ensures.written c.in_ok-write_segments.ensures.ok;
}
