use Rattle.std.proofs.Common.{◌∙◌, map, refl, ap}
use Rattle.mv_syntax.specs.Sections.{Parts}
use Rattle.mv_execution.specs.Instance.{constant_of, table_of}
use Rattle.mv_machine.proofs.Instances.{store-new, new-fine}
use Rattle.mv_machine.proofs.instance.new_state.Goals as goal

pub returns-clause-fine : goal.returns-clause-fine
returns-clause-fine c =
    let p = c.args.module.now in
    let globals = c.in_ok-new_globals.ensures ∙ ap (map (λ g. constant_of g.init)) (c.slice.ensures ∙ ap (λ (q : Parts). q.globals) c.module.view_is) in
    let table = c.in_ok-new_table.ensures ∙ ap (λ (q : Parts). table_of q.table) c.module.view_is in
    new-fine p _ c.keeps.ensures c.requires.valid (record { store = store-new p _ _ _ c.in_ok-new_memory.ensures globals table; frames = c.new.ensures.items; operands = refl; waiting = refl; given = refl; gap = refl })
