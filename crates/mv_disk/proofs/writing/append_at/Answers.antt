-- The record is whole on the disk before its gate is opened.
use Rattle.std.proofs.Common.{◌≡◌, ◌+◌, ◌^◌, ◌≤◌, ℕ, List, [], ◌∷◌, ◌++◌, length, Some, sym, ◌∙◌, ap, arith, inl, length-append}
use Rattle.mv_disk.specs.Records.{records}
use Rattle.mv_disk.specs.Journal.{sized, at_rest}
use Rattle.mv_disk.proofs.Moments.{no_call, told_back}
use Rattle.mv_disk.proofs.AppendLaws.{rests, holds_more}
use Rattle.mv_disk.proofs.AppendRuns.{BeforeOrWith, staged_told, opened_told, gate_inside, first_run, second_run}
use Rattle.mv_disk.proofs.writing.append_at.Given.{Over}
use Rattle.mv_disk.proofs.writing.append_at.Goals as goal
use Rattle.mv_disk.proofs.writing.append_at.Goals.{In-Some}

pub returns-in_err-shut-clause-any_moment : goal.returns-in_err-shut-clause-any_moment
returns-in_err-shut-clause-any_moment g c = λ content told.
    let rest = c.requires.at_rest content told in
    no_call g.D.Disk.moment g.D.Disk.left_since c.args.disk.now (BeforeOrWith content c.args.body.now)
    (λ f left. inl (ap records (rest.lasts f (g.met.D.Disk.only_now c.args.disk.now f left))))

pub returns-in-None-clause-any_moment : goal.returns-in-None-clause-any_moment
returns-in-None-clause-any_moment g c = λ content told.
    let rest = c.requires.at_rest content told in
    no_call g.D.Disk.moment g.D.Disk.left_since c.args.disk.now (BeforeOrWith content c.args.body.now)
    (λ f left. inl (ap records (rest.lasts f (g.met.D.Disk.only_now c.args.disk.now f left))))

pub write_to_last-requires : goal.write_to_last-requires
write_to_last-requires g c = λ content told. omega (arith, (c.requires.at_rest content told).end_is)

pub returns-in_err-write_to_last-clause-any_moment : goal.returns-in_err-write_to_last-clause-any_moment
returns-in_err-write_to_last-clause-any_moment g c = λ content told.
    let rest = c.requires.at_rest content told in
    let bytes_are = c.as_slice-bytes.ensures.value ∙ c.in_ok-shut.ensures.bytes in
    first_run c.args.end _ c.args.body.now c.as_slice-bytes.result.now content rest bytes_are g.D.Disk.moment g.D.Disk.left_since c.args.disk.now c.write_to_last.new.disk c.write_to_last.new.disk
    (c.write_to_last.ensures.any_moment content told rest.lasts)

pub write_to_last-requires-2 : goal.write_to_last-requires-2
write_to_last-requires-2 g c = λ new told.
    let back = told_back _ _ _ new c.in_ok-write_to_last.ensures.written told in
    let rest = c.requires.at_rest back.0 back.1 in
    let bytes_are = c.as_slice-bytes.ensures.value ∙ c.in_ok-shut.ensures.bytes in
    gate_inside c.args.end _ c.args.body.now c.as_slice-bytes.result.now back.0 rest bytes_are _ _ new back.1 c.in_ok-write_to_last.ensures.written told

pub returns-in_err-write_to_last-2-clause-any_moment : goal.returns-in_err-write_to_last-2-clause-any_moment
returns-in_err-write_to_last-2-clause-any_moment g c = λ content told.
    let rest = c.requires.at_rest content told in
    let bytes_are = c.as_slice-bytes.ensures.value ∙ c.in_ok-shut.ensures.bytes in
    let one = first_run c.args.end _ c.args.body.now c.as_slice-bytes.result.now content rest bytes_are g.D.Disk.moment g.D.Disk.left_since c.args.disk.now c.write_to_last.new.disk c.write_to_last-2.new.disk
    (c.write_to_last.ensures.any_moment content told rest.lasts) in
    let is = staged_told c.args.end _ c.args.body.now c.as_slice-bytes.result.now content rest bytes_are _ _ told c.in_ok-write_to_last.ensures.written in
    second_run c.args.end _ c.args.body.now c.as_slice-bytes.result.now content rest bytes_are g.D.Disk.moment g.D.Disk.left_since c.args.disk.now c.write_to_last.new.disk c.write_to_last-2.new.disk
    c.in_ok-shut.ensures.short one (c.write_to_last-2.ensures.any_moment _ is (c.in_ok-write_to_last.ensures.lasts _ is))

pub returns-clause-any_moment : goal.returns-clause-any_moment
returns-clause-any_moment g c = λ content told.
    let rest = c.requires.at_rest content told in
    let bytes_are = c.as_slice-bytes.ensures.value ∙ c.in_ok-shut.ensures.bytes in
    let one = first_run c.args.end _ c.args.body.now c.as_slice-bytes.result.now content rest bytes_are g.D.Disk.moment g.D.Disk.left_since c.args.disk.now c.write_to_last.new.disk c.write_to_last-2.new.disk
    (c.write_to_last.ensures.any_moment content told rest.lasts) in
    let is = staged_told c.args.end _ c.args.body.now c.as_slice-bytes.result.now content rest bytes_are _ _ told c.in_ok-write_to_last.ensures.written in
    second_run c.args.end _ c.args.body.now c.as_slice-bytes.result.now content rest bytes_are g.D.Disk.moment g.D.Disk.left_since c.args.disk.now c.write_to_last.new.disk c.write_to_last-2.new.disk
    c.in_ok-shut.ensures.short one (c.write_to_last-2.ensures.any_moment _ is (c.in_ok-write_to_last.ensures.lasts _ is))

pub returns-clause-at_rest : goal.returns-clause-at_rest
returns-clause-at_rest g c =
    let bytes_are = c.as_slice-bytes.ensures.value ∙ c.in_ok-shut.ensures.bytes in
    let long : c.in-Some.next ≡ c.args.end + (length (sized c.args.body.now) + 1) =
    omega (arith, c.in-Some.ensures, c.len.ensures, c.in_ok-shut.shut.ok.0, ap length c.in_ok-shut.ensures.bytes, length-append (sized c.args.body.now) (0 ∷ [])) in (
      omega arith,
      λ new told.
          let mid = told_back _ _ _ new c.in_ok-write_to_last-2.ensures.written told in
          let back = told_back _ _ _ mid.0 c.in_ok-write_to_last.ensures.written mid.1 in
          let rest = c.requires.at_rest back.0 back.1 in
          let is = staged_told c.args.end _ c.args.body.now c.as_slice-bytes.result.now back.0 rest bytes_are _ _ back.1 c.in_ok-write_to_last.ensures.written in
          let done = opened_told c.args.end _ c.args.body.now c.as_slice-bytes.result.now back.0 rest bytes_are _ _ is c.in_ok-write_to_last-2.ensures.written in
          let both : Some new ≡ Some (at_rest (rest.bodies ++ c.args.body.now ∷ [])) = sym told ∙ done in
          let new_is : new ≡ at_rest (rest.bodies ++ c.args.body.now ∷ []) = cc in
          rests c.args.end _ back.0 rest c.args.body.now c.in-Some.next _ new c.in_ok-shut.ensures.short long new_is (c.in_ok-write_to_last-2.ensures.lasts new told),
    )

pub returns-clause-appended : goal.returns-clause-appended
returns-clause-appended g c = λ content told.
    let rest = c.requires.at_rest content told in
    let bytes_are = c.as_slice-bytes.ensures.value ∙ c.in_ok-shut.ensures.bytes in
    let is = staged_told c.args.end _ c.args.body.now c.as_slice-bytes.result.now content rest bytes_are _ _ told c.in_ok-write_to_last.ensures.written in
    let done = opened_told c.args.end _ c.args.body.now c.as_slice-bytes.result.now content rest bytes_are _ _ is c.in_ok-write_to_last-2.ensures.written in
    record {
      content = at_rest (rest.bodies ++ c.args.body.now ∷ []);
      told_is = done;
      records_are = holds_more c.args.end _ content rest c.args.body.now (at_rest (rest.bodies ++ c.args.body.now ∷ [])) c.in_ok-shut.ensures.short (λ _. at_rest (rest.bodies ++ c.args.body.now ∷ []));
      lasts = c.in_ok-write_to_last-2.ensures.lasts _ done;
    }

-- where the next end fits, the content's end does
no_place : (g : Over) (c : In-Some g) (content : List ℕ) → c.args.end ≡ length content → 2 ^ 64 ≤ length content + (5 + length c.args.body.now) → ⊥
no_place g c content end_is past =
    omega (arith, c.in-Some.ensures.0, c.len.ensures, c.in_ok-shut.shut.ok.0, ap length c.in_ok-shut.ensures.bytes, length-append (sized c.args.body.now) (0 ∷ []))

pub returns-in_err-write_to_last-clause-far : goal.returns-in_err-write_to_last-clause-far
returns-in_err-write_to_last-clause-far g c = λ content told past.
    absurd (no_place g (goal.at.returns-in_err-write_to_last-clause-far g c).In-Some content (c.requires.at_rest content told).end_is past)

pub returns-in_err-write_to_last-2-clause-far : goal.returns-in_err-write_to_last-2-clause-far
returns-in_err-write_to_last-2-clause-far g c = λ content told past.
    absurd (no_place g (goal.at.returns-in_err-write_to_last-2-clause-far g c).In-Some content (c.requires.at_rest content told).end_is past)

pub returns-clause-far : goal.returns-clause-far
returns-clause-far g c = λ content told past.
    absurd (no_place g (goal.at.returns-clause-far g c).In-Some content (c.requires.at_rest content told).end_is past)
