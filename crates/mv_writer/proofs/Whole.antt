-- What is written spells the module, and nothing that spells it is shorter.
use Rattle.std.proofs.Common.{◌≡◌, ap, arith, ◌^◌, ◌≤◌, ℕ, List, length, Result, Ok, Err, sym, subst, IfOk}
use Rattle.std.specs.Global.{Vec}
use Rattle.mv_calls.specs.declared.fault.OutOfMemory.{OutOfMemory}
use Rattle.mv_syntax.specs.Sections.{Parts}
use Rattle.mv_syntax.specs.Modules.{IsSpelled, Spells, HasSpelling}
use Rattle.mv_writer.specs.Written.{written}
use Rattle.mv_writer.proofs.Placing.{written_spells}
use Rattle.mv_writer.proofs.Shortest.{written_shortest}

pub spelled_where_ok : (r : Result (Vec ℕ) OutOfMemory) (p : Parts) → IfOk r (λ v. v.items ≡ written p) → IfOk r (λ v. HasSpelling p) → IfOk r (λ v. length v.items ≤ 2 ^ 24 → Spells v.items p)
spelled_where_ok (Ok v) p e h = λ small. record { small = small; spelled = subst (λ (x : List ℕ). IsSpelled x p) (sym e) (written_spells p h) }
spelled_where_ok (Err x) p e h = tt

pub shortest_where_ok : (r : Result (Vec ℕ) OutOfMemory) (p : Parts) → IfOk r (λ v. v.items ≡ written p) → IfOk r (λ v. (bytes : List ℕ) → IsSpelled bytes p → length v.items ≤ length bytes)
shortest_where_ok (Ok v) p e = λ bytes s. omega (arith, ap length e, written_shortest p bytes s)
shortest_where_ok (Err x) p e = tt
