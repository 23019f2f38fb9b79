use Rattle.std.proofs.Common.{◌++◌, ◌∷◌, [], ap, ◌∙◌}
use Rattle.mv_wasi.proofs.EventBytes.{stat-made}
use Rattle.mv_wasi.proofs.fdstat.bytes_of_stat.Goals as goal

pub returns : goal.returns
returns c =
    stat-made c.args.filetype c.args.flags c.args.rights c.args.heirs c.push_all.new.bytes.items c.push_all-2.new.bytes.items c.push_all-3.new.bytes.items c.push_all-4.new.bytes.items c.push_all-5.new.bytes.items
    (c.push_all.ensures ∙ ap (λ z. z ++ c.args.filetype ∷ 0 ∷ []) c.new-bytes.ensures)
    (c.push_all-2.ensures ∙ ap (λ z. c.push_all.new.bytes.items ++ z) c.to_le_bytes.ensures)
    c.push_all-3.ensures
    (c.push_all-4.ensures ∙ ap (λ z. c.push_all-3.new.bytes.items ++ z) c.to_le_bytes-2.ensures)
    (c.push_all-5.ensures ∙ ap (λ z. c.push_all-4.new.bytes.items ++ z) c.to_le_bytes-3.ensures)
