use Rattle.std.proofs.Common.{◌≡◌, ℕ, List, [], ◌∷◌, ◌++◌, ap, ◌∙◌, append_assoc, false}
use Rattle.serde_json.specs.View.{view}
use Rattle.serde_json.specs.Written.{has_float, compact_text}
use Rattle.mv_show.specs.Lines.{entry_data}
use Rattle.mv_show.proofs.FloatFree.{entry_free}
use Rattle.mv_show.proofs.lines.add_line.Goals as goal

pub returns : goal.returns
returns c =
    let before = c.args.lines.now.items in
    let entry = entry_data c.args.number c.args.entry.now in
    let free : has_float (view c.in_ok-value.value) ≡ false = ap has_float c.in_ok-value.ensures ∙ entry_free c.args.number c.args.entry.now in
    let text : c.in_ok-line.line.items ≡ compact_text entry = c.in_ok-line.ensures.text free ∙ ap compact_text c.in_ok-value.ensures in
    let added : c.extend_from_slice.new.self.items ≡ before ++ compact_text entry = c.in_ok-extend_from_slice.ensures.items ∙ ap (λ (x : List ℕ). before ++ x) (c.deref.ensures.value ∙ text) in
    c.in_ok-push.ensures.items ∙ ap (λ (x : List ℕ). x ++ 10 ∷ []) added ∙ append_assoc before (compact_text entry) (10 ∷ [])
