use Rattle.std.proofs.Common.{sym, ◌∙◌, arith}
use Rattle.mv_validator.proofs.Naturals.{never_natural, not_below}
use Rattle.mv_validator.proofs.instr_type.is_natural.Goals as goal

pub returns-else-align-lt8 : goal.returns-else-align-lt8
returns-else-align-lt8 c = not_below c.args.align c.if-align-lt8.false ∙ sym (never_natural c.args.align c.args.bytes c.if-align-lt8.false (omega arith))
