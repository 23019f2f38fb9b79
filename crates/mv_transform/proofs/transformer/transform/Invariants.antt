use Rattle.std.proofs.Common.{◌≡◌}
use Rattle.mv_wasi.specs.Known.{AreKnown}
use Rattle.mv_guest.proofs.EventLaws.{needs}
use Rattle.mv_transform.specs.Shown.{shown, WaitsForImport}
use Rattle.mv_transform.specs.Transforms.{transformed}
use Rattle.mv_transform.proofs.transformer.transform.Given as goal

abbrev pub invariant-loop-code : goal.invariant-loop-code
invariant-loop-code l = record {
  same : transformed l.initial.machine.parts (shown l.old) l.initial.machine.config ≡ transformed l.initial.machine.parts (shown l.old) l.machine.config;
  parts : l.machine.parts ≡ l.initial.machine.parts;
  known : AreKnown l.machine.parts;
  waits : WaitsForImport l.machine.parts l.machine.config.waiting;
}

abbrev pub decreases-loop-code : goal.decreases-loop-code
decreases-loop-code l = needs l.machine.config
