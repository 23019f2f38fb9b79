use Rattle.std.proofs.Common.{◌≡◌, ◌+◌, arith, ap, ◌∙◌, slice_range}
use Rattle.std.proofs.Math.ListN.{set}
use Rattle.mv_memory.specs.Bytes.{little_endian}
use Rattle.mv_memory.specs.Pages.{bytes_of}
use Rattle.mv_memory.proofs.BytesLemmas.{buffer-more, buffer-value, buffer-fits, set-small}
use Rattle.mv_memory.proofs.PagesLemmas.{length-bytes_of}
use Rattle.mv_memory.proofs.pages.read_across.Goals as goal

pub loop-i-preserved : goal.loop-i-preserved
loop-i-preserved c = record {
  buffer =
      ap (λ b. set b c.loop-i.i c.byte_at.result) c.loop-i.invariant.buffer
      ∙ buffer-more (bytes_of c.args.pages.now.items) c.args.at c.loop-i.i c.byte_at.result (omega arith) (omega (arith, length-bytes_of c.args.pages.now.items c.requires.whole)) c.byte_at.ensures;
  small = set-small c.loop-i.bytes c.loop-i.i c.byte_at.result c.byte_at.type_inv c.loop-i.invariant.small;
}

pub returns-clause-value : goal.returns-clause-value
returns-clause-value c =
    let all : c.loop-i.i ≡ c.args.width = omega arith in
    c.from_le_bytes.ensures
    ∙ buffer-value (bytes_of c.args.pages.now.items) c.args.at c.loop-i.i c.loop-i.bytes (omega arith) (omega (arith, length-bytes_of c.args.pages.now.items c.requires.whole)) c.loop-i.invariant.buffer
    ∙ ap (λ i. little_endian (slice_range (bytes_of c.args.pages.now.items) c.args.at (c.args.at + i))) all

pub returns-clause-fits : goal.returns-clause-fits
returns-clause-fits c =
    let all : c.loop-i.i ≡ c.args.width = omega arith in
    let is : c.from_le_bytes.result ≡ little_endian (slice_range (bytes_of c.args.pages.now.items) c.args.at (c.args.at + c.loop-i.i)) =
    c.from_le_bytes.ensures
    ∙ buffer-value (bytes_of c.args.pages.now.items) c.args.at c.loop-i.i c.loop-i.bytes (omega arith) (omega (arith, length-bytes_of c.args.pages.now.items c.requires.whole)) c.loop-i.invariant.buffer in
    rw (is, ← all) (buffer-fits (bytes_of c.args.pages.now.items) c.args.at c.loop-i.i c.loop-i.bytes (omega (arith, length-bytes_of c.args.pages.now.items c.requires.whole)) c.loop-i.invariant.buffer c.loop-i.invariant.small)
