use Rattle.std.proofs.Common.{◌≤◌, ◌∙◌, subst, arith}
use Rattle.std.proofs.lemmas.Result.{err_from_is_err_and}
use Rattle.mv_core.specs.Found.{HasRules}
use Rattle.mv_inspect.proofs.Threes.{are_read, unread_forward, unread_reverse}
use Rattle.mv_inspect.proofs.naming.update_at.Goals as goal

pub returns-in_err-forward-clause-unread : goal.returns-in_err-forward-clause-unread
returns-in_err-forward-clause-unread g c =
    let p = err_from_is_err_and c.from_residual-in_err-forward.result c.from_residual-in_err-forward.ensures.1 in
    rw (p.1, p.2) (unread_forward _ c.args.«module».now c.args.forward.now c.args.reverse.now _ _ _ _ _ c.in_ok-module.«module» c.in_ok-module.ensures.read c.file_at.ensures.same c.file_at.ensures.later c.in_err-forward.ensures.unread)

pub returns-in_err-reverse-clause-unread : goal.returns-in_err-reverse-clause-unread
returns-in_err-reverse-clause-unread g c =
    let p = err_from_is_err_and c.from_residual-in_err-reverse.result c.from_residual-in_err-reverse.ensures.1 in
    let same = c.rules_at.ensures.same ∙ c.file_at.ensures.same in
    let later : g.F.Files.faults c.args.files.now ≤ g.F.Files.faults c.rules_at.new.files = omega (arith, c.file_at.ensures.later, c.rules_at.ensures.later) in
    let rules = subst (λ t. HasRules t c.args.forward.now c.in_ok-forward.forward) c.file_at.ensures.same c.in_ok-forward.ensures.read in
    rw (p.1, p.2) (unread_reverse _ c.args.«module».now c.args.forward.now c.args.reverse.now _ _ _ _ _ c.in_ok-module.«module» c.in_ok-forward.forward c.in_ok-module.ensures.read rules same later c.in_err-reverse.ensures.unread)

pub returns-clause-read : goal.returns-clause-read
returns-clause-read g c = are_read _ _ _ c.args.«module».now c.args.forward.now c.args.reverse.now _ c.file_at.ensures.same c.rules_at.ensures.same c.in_ok-module.ensures.read c.in_ok-forward.ensures.read c.in_ok-reverse.ensures.read
