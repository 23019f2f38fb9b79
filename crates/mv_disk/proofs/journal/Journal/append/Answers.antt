-- The story goes on.
use Rattle.std.proofs.Common.{Result, sym, ◌∙◌, ap, subst}
use Rattle.std.proofs.lemmas.Result.{err_from_is_err_and}
use Rattle.mv_calls.specs.declared.fault.Or.{Or}
use Rattle.mv_outside.specs.declared.fault.Failed.{Failed}
use Rattle.mv_disk.specs.Disk.{LeavesOnly}
use Rattle.mv_disk.specs.Kept.{IsKept, told_on}
use Rattle.mv_disk.specs.Records.{records}
use Rattle.mv_disk.proofs.AppendRuns.{BeforeOrWith}
use Rattle.mv_disk.proofs.StoryLaws.{kept_ok, kept_err}
use Rattle.mv_disk.proofs.journal.Journal.append.Goals as goal

pub returns-in_err-self-inside-clause-kept : goal.returns-in_err-self-inside-clause-kept
returns-in_err-self-inside-clause-kept g c = λ content told s whole kept.
    let same = ap (λ v. v.disk) c.self.view_is in
    let run = subst (λ d. LeavesOnly g.D.Disk.moment g.D.Disk.left_since d c.append_at.new.disk (BeforeOrWith content c.args.bytes.now)) same
    (c.append_at.ensures.any_moment content (ap g.D.Disk.reads same ∙ told)) in
    let failed = err_from_is_err_and c.from_residual.result c.from_residual.ensures.1 in
    subst (λ (r : Result Unit (Or Failed)). IsKept g.D.Disk.moment g.D.Disk.left_since c.append_at.new.disk (told_on s c.args.bytes.now r (g.D.Disk.moment c.append_at.new.disk))) (sym failed.1)
    (kept_err g.D.Disk.reads g.D.Disk.may_leave g.D.Disk.moment g.D.Disk.left_since g.met.D.Disk.leaves_read g.met.D.Disk.counts_now g.met.D.Disk.only_now
    c.args.self.now.disk c.append_at.new.disk content c.args.bytes.now s told whole kept run)

pub returns-clause-kept : goal.returns-clause-kept
returns-clause-kept g c = λ content told s whole kept.
    let same = ap (λ v. v.disk) c.self.view_is in
    let told_inside = ap g.D.Disk.reads same ∙ told in
    let run = subst (λ d. LeavesOnly g.D.Disk.moment g.D.Disk.left_since d c.append_at.new.disk (BeforeOrWith content c.args.bytes.now)) same
    (c.append_at.ensures.any_moment content told_inside) in
    let has = c.in_ok-self-inside.ensures.appended content told_inside in
    kept_ok g.D.Disk.reads g.D.Disk.may_leave g.D.Disk.moment g.D.Disk.left_since g.met.D.Disk.leaves_read g.met.D.Disk.counts_now g.met.D.Disk.only_now
    c.args.self.now.disk c.append_at.new.disk content c.args.bytes.now s told whole kept run
    (λ f left. ap records (has.lasts f left) ∙ has.records_are)
