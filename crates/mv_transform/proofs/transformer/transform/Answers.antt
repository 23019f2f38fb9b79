use Rattle.std.proofs.Common.{◌∙◌, ap, sym, subst, arith}
use Rattle.std.specs.Prelude.{Err}
use Rattle.mv_syntax.specs.declared.fault.BornFault.TheVariants.{Transform}
use Rattle.mv_wasi.specs.Known.{AreKnown}
use Rattle.mv_transform.specs.Transforms.{finished}
use Rattle.mv_transform.specs.Shown.{shown}
use Rattle.mv_transform.proofs.TransformRuns.{run-fewer, run-answered, loop-goes, loop-finishes, loop-fails, other-code}
use Rattle.mv_transform.proofs.Waits.{none-waits}
use Rattle.mv_transform.proofs.transformer.transform.Goals as goal

pub loop-code-smaller : goal.loop-code-smaller
loop-code-smaller c =
    let h = run-fewer c.loop-code.machine.parts (shown c.args.old.now) c.loop-code.machine.config c.advance.new.machine.config c.in-Ok-None.field-0 c.in-Ok-None.ensures.met c.in-Ok-None.field-0-is in
    omega (arith, h)

pub loop-code-preserved : goal.loop-code-preserved
loop-code-preserved c = record {
  same = loop-goes c.args.machine.now.parts c.loop-code.machine.parts (shown c.args.old.now) c.loop-code.invariant.parts c.args.machine.now.config c.loop-code.machine.config c.loop-code.invariant.same c.advance.new.machine.config c.in-Ok-None.field-0 c.in-Ok-None.ensures.met c.in-Ok-None.field-0-is;
  parts = c.in-Ok-None.ensures.parts ∙ c.loop-code.invariant.parts;
  known = subst AreKnown (sym c.in-Ok-None.ensures.parts) c.loop-code.invariant.known;
  waits = none-waits c.advance.new.machine.parts c.advance.new.machine.config.waiting (run-answered c.loop-code.machine.parts (shown c.args.old.now) c.loop-code.machine.config c.advance.new.machine.config c.in-Ok-None.field-0 c.in-Ok-None.ensures.met c.in-Ok-None.field-0-is);
}

pub returns-in-Err-Fault-clause-fault : goal.returns-in-Err-Fault-clause-fault
returns-in-Err-Fault-clause-fault c =
    loop-fails c.args.machine.now.parts c.loop-code.machine.parts (shown c.args.old.now) c.loop-code.invariant.parts c.args.machine.now.config c.loop-code.machine.config c.loop-code.invariant.same c.in-Err-Fault.field-0 c.in-Err-Fault.trap c.in-Err-Fault.ensures.fault c.in-Err-Fault.field-0-is
    ∙ ap (λ t. Err (Transform t)) (sym c.in-Err-Fault.trap-is)

pub returns-in-Ok-clause-ok : goal.returns-in-Ok-clause-ok
returns-in-Ok-clause-ok c =
    loop-finishes c.args.machine.now.parts c.loop-code.machine.parts (shown c.args.old.now) c.loop-code.invariant.parts c.args.machine.now.config c.loop-code.machine.config c.loop-code.invariant.same c.advance.new.machine.config c.in-Ok-Some.field-0 c.in-Ok-Some.code c.in-Ok-Some.ensures.met c.in-Ok-Some.field-0-is
    ∙ ap (finished c.advance.new.machine.config) c.in-Ok.ensures.done

pub returns-in-Err-clause-fault : goal.returns-in-Err-clause-fault
returns-in-Err-clause-fault c =
    loop-finishes c.args.machine.now.parts c.loop-code.machine.parts (shown c.args.old.now) c.loop-code.invariant.parts c.args.machine.now.config c.loop-code.machine.config c.loop-code.invariant.same c.advance.new.machine.config c.in-Ok-Some.field-0 c.in-Ok-Some.code c.in-Ok-Some.ensures.met c.in-Ok-Some.field-0-is
    ∙ other-code c.advance.new.machine.config c.in-Ok-Some.code c.in-Err.ensures.other ∙ ap (λ f. Err f) (sym c.in-Err.ensures.fault)
