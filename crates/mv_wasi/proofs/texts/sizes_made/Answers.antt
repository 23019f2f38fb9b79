use Rattle.std.proofs.Common.{◌∙◌, ◌%◌, ◌^◌, ℕ, ap, sym}
use Rattle.mv_memory.specs.Bytes.{low_bytes}
use Rattle.mv_wasi.proofs.TextLaws.{word-bytes, sizes-written}
use Rattle.mv_wasi.proofs.texts.sizes_made.Goals as goal

pub returns-clause-left : goal.returns-clause-left
returns-clause-left c = sizes-written c.args.memory.now c.write_both.new.memory c.args.count_at c.args.size_at c.args.texts.now c.to_le_bytes.result c.to_le_bytes-2.result (sym c.if-not-words_lie_within.ensures) (c.to_le_bytes.ensures ∙ word-bytes _) (c.to_le_bytes-2.ensures ∙ word-bytes _ ∙ ap (λ (n : ℕ). low_bytes 4 (n % 2 ^ 32)) c.size_of_texts.ensures.size) c.in_ok-write_both.ensures.ok
