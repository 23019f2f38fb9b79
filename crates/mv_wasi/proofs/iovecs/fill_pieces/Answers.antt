use Rattle.std.proofs.Common.{arith, sym, ap, subst, ◌∙◌, ◌+◌, drop, get_or, ℕ, List}
use Rattle.std.specs.Prelude.{slice_range}
use Rattle.mv_memory.specs.Bytes.{written}
use Rattle.mv_memory.specs.Memory.{Contents}
use Rattle.mv_memory.proofs.BytesLemmas.{length-written}
use Rattle.mv_wasi.specs.Ranges.{scattered}
use Rattle.mv_wasi.specs.Readies.{HasRanges}
use Rattle.mv_wasi.proofs.Owning.{ranges-written, same-written}
use Rattle.mv_wasi.proofs.Fillings.{chunk-length, filled-more, filled-all, ranges-first}
use Rattle.mv_wasi.proofs.iovecs.fill_pieces.Goals as goal

pub loop-place-preserved : goal.loop-place-preserved
loop-place-preserved c =
    let chunk : List ℕ = slice_range c.args.bytes.now c.loop-place.done (c.loop-place.done + c.min-some.result) in
    let piece : ℕ × ℕ = get_or c.args.pieces.now c.loop-place.place-index (0, 0) in
    let parts = ranges-first c.loop-place.memory c.args.pieces.now c.loop-place.place-index (0, 0) (omega arith) c.loop-place.invariant.ready in
    let left : List ℕ = written c.loop-place.memory.bytes piece.0 chunk in
    let size = chunk-length c.args.bytes.now c.loop-place.done piece.1 c.min-some.result c.loop-place.invariant.part c.min-some.ensures in
    let same = length-written c.loop-place.memory.bytes piece.0 chunk (omega (arith, size, parts.0.within)) in
    record {
      part = omega (arith, c.min-some.ensures);
      ready = subst (λ memory. HasRanges memory (drop (c.loop-place.place-index + 1) c.args.pieces.now)) (sym c.write_bytes.ensures) (ranges-written c.loop-place.memory left _ same parts.1);
      same = same-written c.args.memory.now c.loop-place.memory c.write_bytes.new.memory left c.loop-place.invariant.same c.write_bytes.ensures;
      whole =
          ap (λ (memory : Contents). scattered (drop (c.loop-place.place-index + 1) c.args.pieces.now) (drop (c.loop-place.done + c.min-some.result) c.args.bytes.now) memory.bytes) c.write_bytes.ensures
          ∙ filled-more c.args.pieces.now c.loop-place.place-index c.loop-place.done c.min-some.result (0, 0) c.args.bytes.now c.loop-place.memory.bytes _ (omega arith) c.loop-place.invariant.part c.min-some.ensures c.loop-place.invariant.whole;
    }

pub returns : goal.returns
returns c =
    c.loop-place.invariant.same
    ∙ ap (λ z. let r : Contents = record c.args.memory.now { bytes = z } in r)
    (filled-all c.args.pieces.now c.loop-place.place-index (drop c.loop-place.done c.args.bytes.now) c.loop-place.memory.bytes _ (omega arith) c.loop-place.invariant.whole)
