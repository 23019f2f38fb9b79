-- What was found and what is still to come are the records behind the mark.
use Rattle.std.proofs.Common.{◌≡◌, ◌-◌, ◌≤◌, ◌++◌, drop}
use Rattle.mv_disk.specs.Disk.{HasLength, IfTold, IsSameDisk}
use Rattle.mv_disk.specs.Records.{records_from}
use Rattle.mv_disk.proofs.recovery.records_behind.Given as goal

abbrev pub invariant-records : goal.invariant-records
invariant-records g l = record {
  same : IsSameDisk g.D.Disk.reads g.D.Disk.may_leave g.D.Disk.moment g.D.Disk.left_since l.initial.disk l.disk;
  long : HasLength (g.D.Disk.reads l.disk) l.len;
  within : l.at ≤ l.len;
  found : IfTold (g.D.Disk.reads l.disk) (λ content. l.found.items ++ records_from (drop l.at content) ≡ records_from (drop 8 content));
  later : g.D.Disk.faults l.initial.disk ≤ g.D.Disk.faults l.disk;
}

abbrev pub decreases-records : goal.decreases-records
decreases-records g l = l.len - l.at
