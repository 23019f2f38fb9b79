-- What a run leaves, by the way it stops.
use Rattle.std.proofs.Common.{true, false, cond, Bool, ◌≡◌, ℕ, zero, suc, List, [], ◌∷◌, Option, Some, None, refl}
use Rattle.std.specs.Prelude.{nat_le}
use Rattle.mv_calls.specs.declared.trap.Trap.TheVariants as trap
use Rattle.mv_execution.specs.Config.{Program, Frame, Config, gap_limit}
use Rattle.mv_execution.specs.Rows.{Out, Goes, Traps, Stuck}
use Rattle.mv_execution.specs.Step.{counted, step}
use Rattle.mv_execution.specs.Run.{settled, Stop, Trapped, Fuel, IsStuck, stop_at, run_settled, run, IsOpen, StandsAt}

abbrev Stands : Config × Stop → Type 0
Stands r = StandsAt r.1 r.0

in-front : (c : Config) (w : Option ℕ) (fs : List Frame) (rest : Config × Stop) → c.waiting ≡ w → c.frames ≡ fs → (IsOpen c → Stands rest) → Stands (elim (stop_at w fs c.given) as (λ z. Config × Stop) [ Some stop ↦ (c, stop) | None ↦ rest ])
in-front c (Some x) fs rest e k h = e
in-front c None [] rest e k h = (e, k, refl)
in-front c None (f ∷ fs) rest e k h = h (f, fs, e, k)

pub settled-stands : (program : Program) (fuel : ℕ) (c : Config) → Stands (run_settled program fuel c)
settled-stands program zero c = in-front c c.waiting c.frames (c, Fuel) refl refl (λ o. o)
settled-stands program (suc n) c = in-front c c.waiting c.frames _ refl refl (λ o. spent o (nat_le gap_limit c.gap) (λ next. settled-stands program n next))
  where
    stepped : IsOpen c → ((next : Config) → Stands (run_settled program n next)) → (out : Out Config) → Stands (elim out as (λ z. Config × Stop) [ Goes next ↦ run_settled program n (settled next) | Traps t ↦ (counted c, Trapped t) | Stuck ↦ (c, IsStuck) ])
    stepped o more (Goes next) = more (settled next)
    stepped o more (Traps t) = o
    stepped o more Stuck = o

    spent : IsOpen c → (b : Bool) → ((next : Config) → Stands (run_settled program n next)) → Stands (cond b (c, Trapped trap.Spent) (elim (step program c) as (λ z. Config × Stop) [ Goes next ↦ run_settled program n (settled next) | Traps t ↦ (counted c, Trapped t) | Stuck ↦ (c, IsStuck) ]))
    spent o true more = o
    spent o false more = stepped o more (step program c)

pub run-stands : (program : Program) (fuel : ℕ) (c : Config) → Stands (run program fuel c)
run-stands program fuel c = settled-stands program fuel (settled c)
