-- One random byte more.
use Rattle.std.proofs.Common.{arith, rules}
use Rattle.mv_kernmem.proofs.ScriptLaws.{random_step}
use Rattle.mv_kernmem.proofs.scripted.Scripted.reply_to_random.Goals as goal

pub loop-random-preserved : goal.loop-random-preserved
loop-random-preserved c = (
  omega arith,
  random_step c.slice-random.result.now c.self.inside.place c.loop-random.bytes.len c.push_reserved.new.self.len c.random_byte.result c.loop-random.bytes.items c.push_reserved.new.self.items
      (search rules) (search rules) (search rules) (search rules),
  search rules,
)
