use Rattle.std.proofs.lemmas.List.{drop_more}
use Rattle.std.proofs.Common.{rules, get_or, sym, ap, ◌∙◌, ◌≡◌, ◌+◌, ◌∷◌, List, drop, subst, IfNone, IfSome}
use Rattle.mv_audit.specs.Audit.{world_of}
use Rattle.mv_history.specs.World.{MayEnter, after_entry}
use Rattle.mv_history.specs.declared.log.Entry.{Entry}
use Rattle.mv_audit.proofs.FoldLaws.{IsFolded, at_none, at_some, folded_bad, folded_more}
use Rattle.mv_audit.proofs.fold.first_illegal_from.Goals as goal

pub returns-in-None-clause-illegal : goal.returns-in-None-clause-illegal
returns-in-None-clause-illegal g c =
    let b = g.V.Version.behaviour in
    let e = c.index-entries-i.result in
    let first = world_of b c.args.audit in
    let w = world_of b c.loop-i.audit in
    let updates = c.args.updates.now.list in
    let got : get_or c.args.entries.now c.loop-i.i e ≡ e = sym c.index-entries-i.is in
    let here : drop c.loop-i.i c.args.entries.now ≡ e ∷ drop (c.loop-i.i + 1) c.args.entries.now = drop_more c.args.entries.now c.loop-i.i e (search rules) ∙ ap (λ x. x ∷ drop (c.loop-i.i + 1) c.args.entries.now) got in
    let P : List Entry → Type 0 = λ rest. IsFolded b updates first c.args.entries.now c.loop-i.i rest w in
    let refused : IfNone c.in_ok-next.field-0 (MayEnter b updates w e → ⊥) = search rules in
    folded_bad b updates first c.args.entries.now c.loop-i.i e (drop (c.loop-i.i + 1) c.args.entries.now) w (subst P here c.loop-i.invariant)
    (at_none c.in_ok-next.field-0 (MayEnter b updates w e → ⊥) c.in-None.is refused)

pub loop-i-preserved : goal.loop-i-preserved
loop-i-preserved g c =
    let b = g.V.Version.behaviour in
    let e = c.index-entries-i.result in
    let first = world_of b c.args.audit in
    let w = world_of b c.loop-i.audit in
    let updates = c.args.updates.now.list in
    let got : get_or c.args.entries.now c.loop-i.i e ≡ e = sym c.index-entries-i.is in
    let here : drop c.loop-i.i c.args.entries.now ≡ e ∷ drop (c.loop-i.i + 1) c.args.entries.now = drop_more c.args.entries.now c.loop-i.i e (search rules) ∙ ap (λ x. x ∷ drop (c.loop-i.i + 1) c.args.entries.now) got in
    let P : List Entry → Type 0 = λ rest. IsFolded b updates first c.args.entries.now c.loop-i.i rest w in
    let may : IfSome c.in_ok-next.field-0 (λ next. MayEnter b updates w e) = search rules in
    let entered : IfSome c.in_ok-next.field-0 (λ next. world_of b next ≡ after_entry b updates w e) = search rules in
    folded_more b updates first c.args.entries.now c.loop-i.i e (drop (c.loop-i.i + 1) c.args.entries.now) w (world_of b c.in-Some.next) (subst P here c.loop-i.invariant)
    (at_some c.in_ok-next.field-0 c.in-Some.next (λ next. MayEnter b updates w e) c.in-Some.is may)
    (at_some c.in_ok-next.field-0 c.in-Some.next (λ next. world_of b next ≡ after_entry b updates w e) c.in-Some.is entered)
