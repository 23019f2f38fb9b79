-- The first gate is closed on the disk before the mark is there.
use Rattle.std.proofs.Common.{◌≡◌, [], Some, refl, sym, ◌∙◌, ap}
use Rattle.mv_disk.specs.Journal.{at_rest}
use Rattle.mv_disk.proofs.Moments.{told_back}
use Rattle.mv_disk.proofs.PrepareLaws.{zeros, first_run, second_run, empty_told, zeros_told, marked_told, rests_empty, holds_none}
use Rattle.mv_disk.proofs.writing.prepare.Goals as goal

pub returns-in_err-write_to_last-clause-any_moment : goal.returns-in_err-write_to_last-clause-any_moment
returns-in_err-write_to_last-clause-any_moment g c = λ blank.
    first_run g.D.Disk.reads g.D.Disk.may_leave g.D.Disk.moment g.D.Disk.left_since g.met.D.Disk.only_now c.args.disk.now c.len.new.self c.write_to_last.new.disk blank c.in-Ok.ensures.same
    c.write_to_last.ensures.any_moment

pub returns-in_err-write_to_last-2-clause-any_moment : goal.returns-in_err-write_to_last-2-clause-any_moment
returns-in_err-write_to_last-2-clause-any_moment g c = λ blank.
    let one = first_run g.D.Disk.reads g.D.Disk.may_leave g.D.Disk.moment g.D.Disk.left_since g.met.D.Disk.only_now c.args.disk.now c.len.new.self c.write_to_last.new.disk blank c.in-Ok.ensures.same
    c.write_to_last.ensures.any_moment in
    let is = zeros_told _ _ (c.in-Ok.ensures.same.reads_same ∙ blank.0) c.in_ok-write_to_last.ensures.written in
    second_run g.D.Disk.moment g.D.Disk.left_since c.args.disk.now c.write_to_last.new.disk c.write_to_last-2.new.disk one
    (c.write_to_last-2.ensures.any_moment zeros is (c.in_ok-write_to_last.ensures.lasts zeros is))

pub returns-clause-any_moment : goal.returns-clause-any_moment
returns-clause-any_moment g c = λ blank.
    let one = first_run g.D.Disk.reads g.D.Disk.may_leave g.D.Disk.moment g.D.Disk.left_since g.met.D.Disk.only_now c.args.disk.now c.len.new.self c.write_to_last.new.disk blank c.in-Ok.ensures.same
    c.write_to_last.ensures.any_moment in
    let is = zeros_told _ _ (c.in-Ok.ensures.same.reads_same ∙ blank.0) c.in_ok-write_to_last.ensures.written in
    second_run g.D.Disk.moment g.D.Disk.left_since c.args.disk.now c.write_to_last.new.disk c.write_to_last-2.new.disk one
    (c.write_to_last-2.ensures.any_moment zeros is (c.in_ok-write_to_last.ensures.lasts zeros is))

pub returns-clause-at_rest : goal.returns-clause-at_rest
returns-clause-at_rest g c = λ new told.
    let mid = told_back _ _ _ new c.in_ok-write_to_last-2.ensures.written told in
    let back = told_back _ _ _ mid.0 c.in_ok-write_to_last.ensures.written mid.1 in
    let was = sym c.in-Ok.ensures.same.reads_same ∙ back.1 in
    let none = empty_told back.0 (sym (c.in-Ok.ensures.length back.0 was) ∙ c.if-len-ne0.false) in
    let is = zeros_told _ _ (back.1 ∙ ap Some none) c.in_ok-write_to_last.ensures.written in
    let done = marked_told _ _ is c.in_ok-write_to_last-2.ensures.written in
    let both : Some new ≡ Some (at_rest []) = sym told ∙ done in
    let new_is : new ≡ at_rest [] = cc in
    rests_empty _ new new_is (c.in_ok-write_to_last-2.ensures.lasts new told)

pub returns-clause-ready : goal.returns-clause-ready
returns-clause-ready g c = λ content told.
    let none = empty_told content (sym (c.in-Ok.ensures.length content told) ∙ c.if-len-ne0.false) in
    let is = zeros_told _ _ (c.in-Ok.ensures.same.reads_same ∙ (told ∙ ap Some none)) c.in_ok-write_to_last.ensures.written in
    let done = marked_told _ _ is c.in_ok-write_to_last-2.ensures.written in
    record {
      content = at_rest [];
      told_is = done;
      records_are = holds_none (at_rest []) refl;
      lasts = c.in_ok-write_to_last-2.ensures.lasts (at_rest []) done;
    }
