use Rattle.std.proofs.Common.{[], ◌∷◌, ◌++◌, ap, ◌∙◌, ℕ, List, arith}
use Rattle.mv_wasi.specs.Ranges.{text_bytes}
use Rattle.mv_wasi.proofs.TextLaws.{bytes-more, bytes-past}
use Rattle.mv_wasi.proofs.texts.joined_texts.Goals as goal

pub loop-text-preserved : goal.loop-text-preserved
loop-text-preserved c = bytes-more c.args.texts.now c.loop-text.text-index c.text-item.result c.loop-text.bytes.items c.push.new.self.items (text_bytes c.args.texts.now) c.loop-text-test.true c.text-item.is (c.in_ok-push.ensures.items ∙ ap (λ (b : List ℕ). b ++ 0 ∷ []) (c.in_ok-extend_from_slice.ensures.items ∙ ap (λ (t : List ℕ). c.loop-text.bytes.items ++ t) c.slice.ensures)) c.loop-text.invariant

pub returns : goal.returns
returns c = bytes-past c.args.texts.now c.loop-text.text-index c.loop-text.bytes.items (text_bytes c.args.texts.now) (omega arith) c.loop-text.invariant
