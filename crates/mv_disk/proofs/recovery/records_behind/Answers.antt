-- Each turn reads one record.
use Rattle.std.proofs.Common.{◌≡◌, ◌+◌, ◌++◌, ℕ, length, drop, sym, ◌∙◌, ap, arith, subst}
use Rattle.mv_disk.specs.Records.{records_from}
use Rattle.mv_disk.proofs.ReadLaws.{found_more, found_all}
use Rattle.mv_disk.proofs.SameLaws.{same_twice}
use Rattle.mv_disk.proofs.recovery.records_behind.Goals as goal

pub records-preserved : goal.records-preserved
records-preserved g c =
    let so_far = c.records.invariant in
    let same = c.next_record.ensures.same in
    let body_is : length c.slice.result.now ≡ length c.in-Some.body = ap length c.slice.ensures in
    let inside = rw c.in-Some.is at c.in_ok-body.ensures.inside in
    record {
      same = same_twice g.D.Disk.reads g.D.Disk.may_leave g.D.Disk.moment g.D.Disk.left_since c.args.disk.now c.records.disk c.next_record.new.disk so_far.same same;
      long = λ content told. so_far.long content (sym same.reads_same ∙ told);
      within = omega (arith, inside, body_is);
      found = λ content told.
          let was = sym same.reads_same ∙ told in
          let more = found_more content c.records.at c.records.found.items c.push.new.self.items c.in-Some.body (sym c.in-Some.is ∙ c.in_ok-body.ensures.record content was) (so_far.found content was) c.in_ok-push.ensures.items in
          subst (λ (n : ℕ). c.push.new.self.items ++ records_from (drop (c.records.at + (5 + n)) content) ≡ records_from (drop 8 content)) (sym body_is) more;
      later = omega (arith, so_far.later, c.next_record.ensures.later);
    }

pub returns-clause-records : goal.returns-clause-records
returns-clause-records g c = λ content told.
    let was = c.records.invariant.same.reads_same ∙ told in
    found_all content c.records.at c.records.found.items (sym c.in_default.is ∙ c.in_ok-body.ensures.record content was) (c.records.invariant.found content was)
