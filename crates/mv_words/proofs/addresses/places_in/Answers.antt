use Rattle.std.proofs.Common.{refl}
use Rattle.mv_words.proofs.Defaults.{places_of_bad, places_of_none}
use Rattle.mv_words.proofs.addresses.places_in.Goals as goal

pub returns-then-is_empty : goal.returns-then-is_empty
returns-then-is_empty c = places_of_none (λ w. w.now) c.args.words.now _ c.if-is_empty.ensures c.named_or_default.ensures.listen c.named_or_default.ensures.console

pub returns-in-Err-Fault : goal.returns-in-Err-Fault
returns-in-Err-Fault c = places_of_bad _ _ ((rw c.in-Err-Fault.field-0-is at c.in-Err-Fault.ensures.bad) refl) c.named_or_default-in-Err-Fault.ensures.listen c.named_or_default-in-Err-Fault.ensures.console
