use Rattle.std.proofs.Common.{◌≡◌, sym, ap, ◌∙◌, refl}
use Rattle.mv_history.specs.declared.log.Start.{Start}
use Rattle.mv_core.specs.declared.core_value.Turn.{Turn}
use Rattle.mv_core.specs.declared.core_value.Turn.TheVariants.{Did, Full, Handing, Ended, Memory}
use Rattle.mv_core.proofs.tests.turned.Goals as goal

by_turn : {A : Type 0} (r : Turn) (x y : A) → (r ≡ Did → x ≡ y) → ((r ≡ Did → ⊥) → x ≡ y) → x ≡ y
by_turn Did x y did other = did refl
by_turn (Full n) x y did other = other (λ bad. let h : Full n ≡ Did = bad in cc)
by_turn Handing x y did other = other (λ bad. let h : Handing ≡ Did = bad in cc)
by_turn (Ended how) x y did other = other (λ bad. let h : Ended how ≡ Did = bad in cc)
by_turn Memory x y did other = other (λ bad. let h : Memory ≡ Did = bad in cc)

pub loop-preserved : goal.loop-preserved
loop-preserved g c first starts =
    let same = by_turn c.turn.result _ _ (λ did. (c.turn.ensures.did did).start_is) (λ other. (c.turn.ensures.did_not other).start_is) in
    let began = ap (λ (s : Start). g.V.Version.behaviour.started s.«module» s.args) (sym same) ∙ starts in
    let put = c.loop.invariant first began in
    let more = c.turn.ensures.feed first put.0 began put.1 in
    (more.0, more.2)
