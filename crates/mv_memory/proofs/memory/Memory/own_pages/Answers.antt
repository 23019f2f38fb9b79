use Rattle.std.proofs.Common.{◌≡◌, ◌+◌, arith, ap, length, subst, sym, true, false}
use Rattle.std.specs.Prelude.{IsOk}
use Rattle.mv_calls.specs.Or.{WantsMemory}
use Rattle.mv_memory.specs.Memory.{AreOwnedPlaces, Contents}
use Rattle.mv_memory.specs.Pages.{flags_of}
use Rattle.mv_memory.proofs.PagesLemmas.{length-bytes_of, owned-pages, sound-owned}
use Rattle.mv_memory.proofs.memory.Memory.own_pages.Goals as goal
use Rattle.mv_memory.proofs.memory.Memory.own_pages.Goals.{in-Ok, in-Err}

pub invariant_of-self : goal.invariant_of-self
invariant_of-self c =
    let own = c.own.ensures in
    sound-owned _ _ _ _ _ _ _ _ _ c.self.invariant own.whole (omega (arith, own.len)) own.bytes own.only (omega arith) (omega arith) (omega arith) (omega arith) (omega (arith, c.self.invariant.inside, length-bytes_of c.self.inside.pages.items c.self.invariant.whole, ap (λ (m : Contents). length m.bytes) c.self.view_is))

pub returns-clause-owned : goal.returns-clause-owned
returns-clause-owned c = λ owned wants.
    let within : AreOwnedPlaces (flags_of c.self.inside.pages.items) c.args.ea c.args.len = subst (λ (m : Contents). AreOwnedPlaces m.owned c.args.ea c.args.len) (sym c.self.view_is) owned in
    let ready : IsOk c.own.result = c.own.ensures.succeeds (owned-pages _ c.args.ea c.args.len _ _ within (omega arith) (omega arith) (omega arith)) in
    elim c.match-own.branch [
      | in-Ok w ↦ absurd (subst WantsMemory w.result-is wants)
      | in-Err w ↦ (let bad : false ≡ true = subst IsOk w.in-Err.is ready in cc)
    ]
