use Rattle.std.proofs.Common.{subst}
use Rattle.mv_validator.specs.Checks.{Tells, import_checks, function_checks, size_checks, global_checks, export_checks, start_checks}
use Rattle.mv_validator.proofs.Scans.{fails-left, fails-right, tells-right, passed}
use Rattle.mv_validator.proofs.declarations.check_declarations.Goals as goal

pub returns-in-Some : goal.returns-in-Some
returns-in-Some c =
    let p = c.args.«module».now in
    fails-left p (import_checks p) _ c.in-Some.fault c.in-Some.ensures

pub returns-in-Some-check_functions : goal.returns-in-Some-check_functions
returns-in-Some-check_functions c =
    let p = c.args.«module».now in
    fails-right p (import_checks p) _ c.in-Some-check_functions.fault c.in_default.ensures (fails-left p (function_checks p) _ c.in-Some-check_functions.fault c.in-Some-check_functions.ensures)

pub returns-in-Some-check_sizes : goal.returns-in-Some-check_sizes
returns-in-Some-check_sizes c =
    let p = c.args.«module».now in
    fails-right p (import_checks p) _ c.in-Some-check_sizes.fault c.in_default.ensures (fails-right p (function_checks p) _ c.in-Some-check_sizes.fault c.in_default-check_functions.ensures (fails-left p (size_checks p) _ c.in-Some-check_sizes.fault c.in-Some-check_sizes.ensures))

pub returns-in-Some-check_globals : goal.returns-in-Some-check_globals
returns-in-Some-check_globals c =
    let p = c.args.«module».now in
    fails-right p (import_checks p) _ c.in-Some-check_globals.fault c.in_default.ensures (fails-right p (function_checks p) _ c.in-Some-check_globals.fault c.in_default-check_functions.ensures (fails-right p (size_checks p) _ c.in-Some-check_globals.fault c.in_default-check_sizes.ensures (fails-left p (global_checks p) _ c.in-Some-check_globals.fault c.in-Some-check_globals.ensures)))

pub returns-in-Some-2 : goal.returns-in-Some-2
returns-in-Some-2 c =
    let p = c.args.«module».now in
    fails-right p (import_checks p) _ c.in-Some-2.fault c.in_default.ensures (fails-right p (function_checks p) _ c.in-Some-2.fault c.in_default-check_functions.ensures (fails-right p (size_checks p) _ c.in-Some-2.fault c.in_default-check_sizes.ensures (fails-right p (global_checks p) _ c.in-Some-2.fault c.in_default-check_globals.ensures (fails-left p (export_checks p) _ c.in-Some-2.fault (subst (Tells p (export_checks p)) c.in-Some-2.is c.in_ok-fault.ensures)))))

pub returns-in-Some-check_start : goal.returns-in-Some-check_start
returns-in-Some-check_start c =
    let p = c.args.«module».now in
    fails-right p (import_checks p) _ c.in-Some-check_start.fault c.in_default.ensures (fails-right p (function_checks p) _ c.in-Some-check_start.fault c.in_default-check_functions.ensures (fails-right p (size_checks p) _ c.in-Some-check_start.fault c.in_default-check_sizes.ensures (fails-right p (global_checks p) _ c.in-Some-check_start.fault c.in_default-check_globals.ensures (fails-right p (export_checks p) _ c.in-Some-check_start.fault (passed p (export_checks p) c.in_ok-fault.field-0 c.in_ok-fault.ensures c.in_default-2.is) (fails-left p (start_checks p) _ c.in-Some-check_start.fault c.in-Some-check_start.ensures)))))

pub returns : goal.returns
returns c =
    let p = c.args.«module».now in
    tells-right p (import_checks p) _ c.check_elements.result c.in_default.ensures (tells-right p (function_checks p) _ c.check_elements.result c.in_default-check_functions.ensures (tells-right p (size_checks p) _ c.check_elements.result c.in_default-check_sizes.ensures (tells-right p (global_checks p) _ c.check_elements.result c.in_default-check_globals.ensures (tells-right p (export_checks p) _ c.check_elements.result (passed p (export_checks p) c.in_ok-fault.field-0 c.in_ok-fault.ensures c.in_default-2.is) (tells-right p (start_checks p) _ c.check_elements.result c.in_default-check_start.ensures (c.check_elements.ensures))))))
