use Rattle.std.proofs.Common.{◌≡◌, ◌≤◌, length, reverse, take}
use Rattle.mv_validator.specs.OperandStack.{all_taken}
use Rattle.mv_validator.proofs.body.take_params.Given as goal

abbrev pub invariant-loop-left : goal.invariant-loop-left
invariant-loop-left l = (l.left ≤ length l.params) × (l.frame ≡ record l.fn.frame { operands = l.frame.operands }) × (all_taken (reverse l.params) (reverse l.fn.frame.operands.items) l.fn.frame.unreachable ≡ all_taken (reverse (take l.left l.params)) (reverse l.frame.operands.items) l.fn.frame.unreachable)

abbrev pub decreases-loop-left : goal.decreases-loop-left
decreases-loop-left l = l.left
