use Rattle.std.proofs.Common.{◌∙◌, length}
use Rattle.mv_start.specs.Instances.{with_segments}
use Rattle.mv_start.proofs.Begins.{segment-step}
use Rattle.mv_start.proofs.Takes.{segments-still}
use Rattle.mv_start.proofs.filling.write_segments.Goals as goal

pub write_segment-requires-clause-within : goal.write_segment-requires-clause-within
write_segment-requires-clause-within c =
    segments-still c.args.machine.now.parts c.loop-number.machine.parts (length c.args.machine.now.config.store.memory.bytes) (length c.loop-number.machine.config.store.memory.bytes) c.loop-number.invariant.parts c.loop-number.invariant.size c.requires

pub loop-number-preserved : goal.loop-number-preserved
loop-number-preserved c = record {
  parts = c.in_ok-write_segment.ensures.parts ∙ c.loop-number.invariant.parts;
  size = c.in_ok-write_segment.ensures.size ∙ c.loop-number.invariant.size;
  whole = segment-step c.args.machine.now.parts c.loop-number.number c.loop-number.machine c.write_segment.new.machine (with_segments c.args.machine.now.parts.segments c.args.machine.now.config) c.loop-number.invariant.parts c.in_ok-write_segment.ensures.ok c.loop-number.invariant.whole;
}
