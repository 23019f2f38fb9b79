use Rattle.std.proofs.Common.{◌+◌, ◌++◌, ap, ◌∙◌, length, ℕ, List, arith}
use Rattle.mv_wasi.specs.Ranges.{place_bytes}
use Rattle.mv_wasi.proofs.TextLaws.{size-more, places-more, places-past, word-bytes}
use Rattle.mv_wasi.proofs.texts.places_of.Goals as goal

pub overflow_cast-place : goal.overflow_cast-place
overflow_cast-place c =
    let more = size-more c.args.texts.now c.loop-text.text-index c.text-item.result c.loop-text-test.true c.text-item.is in
    omega (arith, more, ap length c.slice.ensures, c.loop-text.invariant.place)

pub overflow_add-place : goal.overflow_add-place
overflow_add-place c =
    let more = size-more c.args.texts.now c.loop-text.text-index c.text-item.result c.loop-text-test.true c.text-item.is in
    omega (arith, more, ap length c.slice.ensures, c.loop-text.invariant.place)

pub overflow_add-place-in-loop-text : goal.overflow_add-place-in-loop-text
overflow_add-place-in-loop-text c =
    let more = size-more c.args.texts.now c.loop-text.text-index c.text-item.result c.loop-text-test.true c.text-item.is in
    omega (arith, more, ap length c.slice.ensures, c.loop-text.invariant.place)

pub loop-text-preserved : goal.loop-text-preserved
loop-text-preserved c =
    let more = size-more c.args.texts.now c.loop-text.text-index c.text-item.result c.loop-text-test.true c.text-item.is in
    record {
      place = omega (arith, more, ap length c.slice.ensures, c.loop-text.invariant.place);
      whole = places-more c.args.texts.now c.loop-text.text-index c.loop-text.place (c.loop-text.place + (length c.slice.result.now + 1)) c.text-item.result c.loop-text.places.items c.extend_from_slice.new.self.items (place_bytes c.args.buf c.args.texts.now) c.loop-text-test.true c.text-item.is (ap (λ (t : List ℕ). c.loop-text.place + (length t + 1)) c.slice.ensures) (c.in_ok-extend_from_slice.ensures.items ∙ ap (λ b. c.loop-text.places.items ++ b) (c.to_le_bytes.ensures ∙ word-bytes c.loop-text.place)) c.loop-text.invariant.whole;
    }

pub returns : goal.returns
returns c = places-past c.args.texts.now c.loop-text.text-index c.loop-text.place c.loop-text.places.items (place_bytes c.args.buf c.args.texts.now) (omega arith) c.loop-text.invariant.whole
