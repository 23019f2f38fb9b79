use Rattle.std.proofs.Common.{arith}
use Rattle.mv_syntax.specs.declared.ops.ValType.TheVariants.{I32}
use Rattle.mv_imports.specs.Functions.{type_of}
use Rattle.mv_transform.proofs.questions.word.Goals as goal

pub overflow_cast-result : goal.overflow_cast-result
overflow_cast-result c =
    let h = c.arg-value.ensures.fits c.requires.waits.import (type_of c.args.function) I32 c.requires.waits.waits c.requires.waits.typed c.requires.word in
    omega (arith, h)
