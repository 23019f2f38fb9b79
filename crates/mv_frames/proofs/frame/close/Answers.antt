use Rattle.std.proofs.Common.{◌∙◌, ◌-◌, ap, sym, arith, reverse, take, subst, ◌∷◌}
use Rattle.mv_syntax.specs.declared.instr.Instr.TheVariants.{Else, End}
use Rattle.mv_frames.proofs.Advances.{top, closed-some, closed-done, end-at, at-within, labels-under, close-end, close-else, Closes, closes-with, reads-as}
use Rattle.mv_frames.proofs.frame.close.Goals as goal
use Rattle.mv_frames.proofs.frame.close.Goals.{Start, After-truncate, in-Else, in_default}

pub offset_bounds-code-frame : goal.offset_bounds-code-frame
offset_bounds-code-frame c =
    omega (arith, at-within c.args.code.now c.args.frame.now (top c.args.code.now c.args.frame.now c.requires.placed (closed-some c.args.code.now c.args.frame.now c.requires.ends)))

pub bounds-code-frame : goal.bounds-code-frame
bounds-code-frame c = at-within c.args.code.now c.args.frame.now (top c.args.code.now c.args.frame.now c.requires.placed (closed-some c.args.code.now c.args.frame.now c.requires.ends))

pub past_ends-at-requires : goal.past_ends-at-requires
past_ends-at-requires c =
    let t = top c.args.code.now c.args.frame.now c.requires.placed (closed-some c.args.code.now c.args.frame.now c.requires.ends) in
    (t.rest ∷ t.rests, t.left, omega arith)

leaves : (c : After-truncate) → Closes c.args.code.now c.args.frame.now c.match-code-frame.at (reverse c.truncate.new.self.items)
leaves c =
    let t = top c.args.code.now c.args.frame.now c.requires.placed (closed-some c.args.code.now c.args.frame.now c.requires.ends) in
    let n = c.len.ensures ∙ c.args.frame.now.labels.ok.0 in
    let ls = ap reverse (c.truncate.ensures.items ∙ ap (λ m. take (m - 1) c.args.frame.now.labels.items) n) ∙ labels-under c.args.code.now c.args.frame.now t in
    closes-with c.args.code.now c.args.frame.now c.match-code-frame.at (reverse c.truncate.new.self.items) t.labels ls
    (elim c.match-code-frame.branch [
      | in-Else w ↦
          let is = reads-as c.args.code.now c.args.frame.now.at c.index-code-frame.result Else c.index-code-frame.is w.in-Else.is in
          subst (λ m. Closes c.args.code.now c.args.frame.now m t.labels) (sym w.at-is) (close-else c.args.code.now c.args.frame.now t w.past_ends-at.result is w.past_ends-at.ensures.behind)
      | in_default w ↦
          let d = closed-done c.args.code.now c.args.frame.now t c.requires.ends in
          let e = end-at c.args.code.now c.args.frame.now c.index-code-frame.result t c.index-code-frame.is d w.in_default.not-Else in
          let is = reads-as c.args.code.now c.args.frame.now.at c.index-code-frame.result End c.index-code-frame.is e in
          subst (λ m. Closes c.args.code.now c.args.frame.now m t.labels) (sym w.at-is) (close-end c.args.code.now c.args.frame.now t is)
    ])

pub returns-clause-closes : goal.returns-clause-closes
returns-clause-closes c = (leaves c).1

pub returns-clause-placed : goal.returns-clause-placed
returns-clause-placed c = (leaves c).0

pub overflow_add-at : goal.overflow_add-at
overflow_add-at c =
    omega (arith, at-within c.args.code.now c.args.frame.now (top c.args.code.now c.args.frame.now c.requires.placed (closed-some c.args.code.now c.args.frame.now c.requires.ends)))
