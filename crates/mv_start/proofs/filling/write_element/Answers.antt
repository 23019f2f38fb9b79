use Rattle.std.proofs.Common.{◌∙◌, arith}
use Rattle.mv_execution.specs.Instance.{constant_of}
use Rattle.mv_start.specs.Instances.{with_functions}
use Rattle.mv_start.proofs.Begins.{entry-step, entries-done, entries-begin}
use Rattle.mv_start.proofs.Takes.{has-entry, entered-takes}
use Rattle.mv_start.proofs.filling.write_element.Goals as goal

pub loop-index-init : goal.loop-index-init
loop-index-init c = record {
  parts = λ i. c.args.machine.now.parts;
  takes = c.requires.takes;
  whole = λ e there. entries-begin e c.args.machine.now.config;
}

pub write_entry-requires-clause-entry : goal.write_entry-requires-clause-entry
write_entry-requires-clause-entry c =
    has-entry c.args.machine.now c.loop-index.machine c.args.number c.entry_count-count.result c.loop-index.index c.loop-index.invariant.parts c.entry_count-count.ensures (omega arith)

pub loop-index-preserved : goal.loop-index-preserved
loop-index-preserved c = record {
  parts = c.write_entry.ensures.parts ∙ c.loop-index.invariant.parts;
  takes = entered-takes c.loop-index.machine c.write_entry.new.machine c.args.number c.loop-index.index c.write_entry.ensures.parts c.write_entry.ensures.entered c.loop-index.invariant.takes;
  whole = λ e there. entry-step c.args.machine.now.parts c.args.number c.loop-index.index e c.loop-index.machine c.write_entry.new.machine (with_functions (constant_of e.offset) e.funcs c.args.machine.now.config) c.loop-index.invariant.parts there c.write_entry.ensures.entered (c.loop-index.invariant.whole e there);
}

pub returns-clause-filled : goal.returns-clause-filled
returns-clause-filled c =
    let h = c.entry_count-count.ensures in
    (h.0, h.1, entries-done h.0 c.loop-index.index c.loop-index.machine.config (with_functions (constant_of h.0.offset) h.0.funcs c.args.machine.now.config) (omega (arith, h.2, c.loop-index-test.false)) (c.loop-index.invariant.whole h.0 h.1))
