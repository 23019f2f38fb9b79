use Rattle.std.proofs.Common.{All, arith, subst, sym}
use Rattle.std.proofs.lemmas.List.Elements.{All-from_get_or}
use Rattle.mv_memory.specs.Bytes.{IsByte}
use Rattle.mv_memory.specs.Memory.{OwnsWithin}
use Rattle.mv_memory.proofs.BytesLemmas.{bytes-written}
use Rattle.mv_memory.proofs.memory.Memory.fill_from.Goals as goal

pub invariant_of-self-2 : goal.invariant_of-self-2
invariant_of-self-2 c =
    let given : All IsByte c.args.bytes.now = All-from_get_or IsByte c.args.bytes.now 0 (λ i within. omega (arith, c.type_inv.bytes i)) in
    record {
      whole = c.in_ok-write.ensures.whole;
      few = omega (arith, c.in_ok-write.ensures.len, c.self.invariant.few);
      bytes = subst (All IsByte) (sym c.in_ok-write.ensures.ok) (bytes-written _ _ _ c.self.invariant.bytes given);
      owned = subst (λ flags. OwnsWithin flags c.self.inside.first_owned c.self.inside.end_owned) (sym c.in_ok-write.ensures.owned) c.self.invariant.owned;
      inside = omega (arith, c.in_ok-write.ensures.len, c.self.invariant.inside);
    }
