use Rattle.std.proofs.Common.{◌∙◌}
use Rattle.mv_start.specs.Instances.{with_elements}
use Rattle.mv_start.proofs.Begins.{element-step}
use Rattle.mv_start.proofs.Takes.{filled-takes}
use Rattle.mv_start.proofs.filling.write_elements.Goals as goal

pub loop-number-preserved : goal.loop-number-preserved
loop-number-preserved c = record {
  parts = c.write_element.ensures.parts ∙ c.loop-number.invariant.parts;
  takes = filled-takes c.loop-number.machine c.write_element.new.machine c.loop-number.number c.write_element.ensures.parts c.write_element.ensures.filled c.loop-number.invariant.takes;
  whole = element-step c.args.machine.now.parts c.loop-number.number c.loop-number.machine c.write_element.new.machine (with_elements c.args.machine.now.parts.elements c.args.machine.now.config) c.loop-number.invariant.parts c.write_element.ensures.filled c.loop-number.invariant.whole;
}
