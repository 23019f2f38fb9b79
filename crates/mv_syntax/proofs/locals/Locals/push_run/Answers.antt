use Rattle.std.proofs.Common.{arith, ◌≡◌, ◌+◌, ◌-◌, true, refl}
use denote.Enum.Bare.{sameb}
use Rattle.mv_syntax.specs.contracts.ops.ValType.{the_type}
use Rattle.mv_syntax.specs.declared.ops.ValType.{ValType}
use Rattle.mv_syntax.specs.declared.ops.ValType.TheVariants.{I32, I64}
use Rattle.mv_syntax.proofs.LocalRuns.{joined, pushed}
use Rattle.mv_syntax.proofs.locals.Locals.push_run.Goals as goal

same_types : (t u : ValType) → true ≡ sameb the_type t u → t ≡ u
same_types I32 I32 e = refl
same_types I64 I64 e = refl
same_types I32 I64 e = absurd cc
same_types I64 I32 e = absurd cc

pub invariant_of-self : goal.invariant_of-self
invariant_of-self c = (joined c.self.inside.runs.items c.args.self.now (c.len-kept.result - 1) c.args.count (c.len.result + c.args.count) c.args.vtype c.index.result.now c.self.invariant c.self.view_is (omega (arith, c.len-kept.ensures, c.self.inside.runs.ok.0, c.if-kept-gt0.true)) c.index.ensures (same_types _ _ c.if-eq.ensures) (omega (arith, c.len.ensures))).0

pub returns-then-eq-clause-ok : goal.returns-then-eq-clause-ok
returns-then-eq-clause-ok c = (joined c.self.inside.runs.items c.args.self.now (c.len-kept.result - 1) c.args.count (c.len.result + c.args.count) c.args.vtype c.index.result.now c.self.invariant c.self.view_is (omega (arith, c.len-kept.ensures, c.self.inside.runs.ok.0, c.if-kept-gt0.true)) c.index.ensures (same_types _ _ c.if-eq.ensures) (omega (arith, c.len.ensures))).1

pub invariant_of-self-2 : goal.invariant_of-self-2
invariant_of-self-2 c = rw c.in_ok-push.ensures.items (pushed c.self.inside.runs.items c.args.self.now c.args.count (c.len.result + c.args.count) c.args.vtype c.self.invariant c.self.view_is (omega (arith, c.if-count-eq0.false)) (omega (arith, c.len.ensures))).0

pub returns-clause-ok : goal.returns-clause-ok
returns-clause-ok c = rw c.in_ok-push.ensures.items (pushed c.self.inside.runs.items c.args.self.now c.args.count (c.len.result + c.args.count) c.args.vtype c.self.invariant c.self.view_is (omega (arith, c.if-count-eq0.false)) (omega (arith, c.len.ensures))).1
