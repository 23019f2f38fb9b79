use Rattle.std.proofs.Common.{◌≡◌, not, take, refl, sym, subst, ◌∙◌}
use Rattle.mv_validator.specs.Checks.{ExportedAs, has_name}
use Rattle.mv_validator.proofs.Names.{names-more, is-new}
use Rattle.mv_validator.proofs.Scans.{PassesAt, before-more, found, all-found}
use Rattle.mv_validator.proofs.declarations.check_exports.Goals as goal

pub returns-in-Some : goal.returns-in-Some
returns-in-Some c =
    let p = c.args.«module».now in
    let xs = c.slice-export-items.result.now in
    let m = c.loop-item.item in
    let x = c.export-item.result in
    let new : c.in_ok-is_new.is_new ≡ not (has_name x.name (take m p.exports)) =
    subst (λ zs. c.in_ok-is_new.is_new ≡ not (has_name x.name (take m zs))) c.loop-item.invariant.0 (is-new c.loop-item.names c.slice.result (take m xs) x c.in_ok-is_new.is_new c.slice.ensures c.loop-item.invariant.1 c.in_ok-is_new.ensures.added) in
    found p 7 (λ n y. ExportedAs n y) xs p.exports m x c.fault.result c.in-Some.kind c.loop-item.invariant.0 c.loop-item.invariant.2 c.loop-item-test.true c.export-item.is c.fault.ensures (refl, sym (c.in-Some.ensures m new))

pub loop-item-preserved : goal.loop-item-preserved
loop-item-preserved c =
    let p = c.args.«module».now in
    let xs = c.slice-export-items.result.now in
    let m = c.loop-item.item in
    let x = c.export-item.result in
    let new : c.in_ok-is_new.is_new ≡ not (has_name x.name (take m p.exports)) =
    subst (λ zs. c.in_ok-is_new.is_new ≡ not (has_name x.name (take m zs))) c.loop-item.invariant.0 (is-new c.loop-item.names c.slice.result (take m xs) x c.in_ok-is_new.is_new c.slice.ensures c.loop-item.invariant.1 c.in_ok-is_new.ensures.added) in (
      c.loop-item.invariant.0,
      names-more c.loop-item.names c.insert.new.self c.slice.result xs m x c.loop-item-test.true c.export-item.is c.slice.ensures c.loop-item.invariant.1 c.in_ok-is_new.ensures.updates,
      before-more (PassesAt p (λ n y. ExportedAs n y)) xs m x c.loop-item-test.true c.export-item.is c.loop-item.invariant.2 (sym (c.export_fault.ensures m new) ∙ c.in_default.is),
    )

pub returns : goal.returns
returns c =
    let p = c.args.«module».now in
    all-found p 7 (λ n y. ExportedAs n y) c.slice-export-items.result.now p.exports c.loop-item.item c.loop-item.invariant.0 c.loop-item-test.false c.loop-item.invariant.2
