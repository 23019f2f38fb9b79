use Rattle.std.proofs.Common.{◌≡◌, ◌∙◌, length, arith}
use Rattle.mv_memory.proofs.BytesLemmas.{little_endian-single, little_endian-two, little_endian-four, little_endian-eight}
use Rattle.mv_memory.proofs.page.number.Goals as goal

pub returns-in-1-clause-value : goal.returns-in-1-clause-value
returns-in-1-clause-value c = c.from.ensures ∙ little_endian-single c.args.bytes.now c.in-1.is

pub returns-in-2-clause-value : goal.returns-in-2-clause-value
returns-in-2-clause-value c = c.from-in-2.ensures ∙ c.from_le_bytes.ensures ∙ little_endian-two c.args.bytes.now c.in-2.is

pub returns-in-4-clause-value : goal.returns-in-4-clause-value
returns-in-4-clause-value c = c.from-in-4.ensures ∙ c.from_le_bytes-in-4.ensures ∙ little_endian-four c.args.bytes.now c.in-4.is

pub returns-in_default-clause-value : goal.returns-in_default-clause-value
returns-in_default-clause-value c =
    let eight : length c.args.bytes.now ≡ 8 = omega arith in
    c.from_le_bytes-in_default.ensures ∙ little_endian-eight c.args.bytes.now eight
