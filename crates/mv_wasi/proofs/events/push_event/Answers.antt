use Rattle.std.proofs.Common.{◌++◌, ap, ◌∙◌, arith}
use Rattle.mv_wasi.proofs.EventBytes.{event-made}
use Rattle.mv_wasi.proofs.events.push_event.Goals as goal

pub returns-clause-bytes : goal.returns-clause-bytes
returns-clause-bytes c =
    event-made c.args.memory.now.bytes c.args.subs _ c.args.happened c.args.bytes.now.items c.push_range.new.bytes.items c.push_all.new.bytes.items c.push_range-2.new.bytes.items c.push_all-2.new.bytes.items c.push_all-3.new.bytes.items c.push_all-4.new.bytes.items c.push_all-5.new.bytes.items
    (omega arith)
    c.push_range.ensures
    (c.push_all.ensures ∙ ap (λ z. c.push_range.new.bytes.items ++ z) c.to_le_bytes.ensures)
    c.push_range-2.ensures
    c.push_all-2.ensures
    (c.push_all-3.ensures ∙ ap (λ z. c.push_all-2.new.bytes.items ++ z) c.to_le_bytes-2.ensures)
    (c.push_all-4.ensures ∙ ap (λ z. c.push_all-3.new.bytes.items ++ z) c.to_le_bytes-3.ensures)
    c.push_all-5.ensures
