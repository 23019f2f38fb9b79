-- Reading sections up to the end of the file, as a loop does.
use Rattle.std.proofs.Common.{◌≡◌, ℕ, zero, suc, ◌≤◌, ◌<◌, true, false, cond, eqb, length, Result, Ok, Err, refl, sym, ap, eq-eqb, ne_eqb, ◌∙◌, arith}
use Rattle.mv_calls.specs.declared.fault.Or.{Or}
use Rattle.mv_calls.specs.declared.fault.Or.TheVariants as or
use Rattle.mv_syntax.specs.declared.fault.ReadFault.{ReadFault}
use Rattle.mv_syntax.specs.Form.{At, after}
use Rattle.mv_syntax.specs.Sections.{Parts, Sections, section}
use Rattle.mv_syntax.specs.Modules.{finished, sections_from}
use Rattle.mv_syntax.proofs.ModuleLaws.{section_shorter}
use Rattle.mv_syntax.specs.Reading.{Fails}

abbrev go_on : (Sections → At → ℕ) → Result (Sections × At) ReadFault → Result Parts ReadFault
go_on count r = after r (λ x. sections_from (count x.0 x.1) x.0 x.1)

same_after : (m n : Sections → At → ℕ) (r : Result (Sections × At) ReadFault) → ((s : Sections) (next : At) → r ≡ Ok (s, next) → sections_from (m s next) s next ≡ sections_from (n s next) s next) → go_on m r ≡ go_on n r
same_after m n (Ok x) h = h x.0 x.1 refl
same_after m n (Err d) h = refl

-- the bound is no bound: as many sections as there are bytes
pub enough : (m n : ℕ) (s : Sections) (at : At) → length at.rest ≤ m → length at.rest ≤ n → sections_from m s at ≡ sections_from n s at
unfolding sections_from
enough zero zero s at lm ln = refl
enough zero (suc n) s at lm ln = let none : eqb (length at.rest) 0 ≡ true = eq-eqb (length at.rest) 0 (omega arith) in rw none refl
enough (suc m) zero s at lm ln = let none : eqb (length at.rest) 0 ≡ true = eq-eqb (length at.rest) 0 (omega arith) in rw none refl
enough (suc m) (suc n) s at lm ln =
    ap (λ (r : Result Parts ReadFault). cond (eqb (length at.rest) 0) (finished at.place s) r)
    (same_after (λ _ _. m) (λ _ _. n) ((section s).reads at) (λ more next e. enough m n more next (omega (arith, section_shorter s at more next e)) (omega (arith, section_shorter s at more next e))))

from_count : (n : ℕ) (s : Sections) (at : At) → length at.rest ≡ n → 0 < n → sections_from n s at ≡ go_on (λ _ next. length next.rest) ((section s).reads at)
unfolding sections_from
from_count zero s at e some = absurd (omega arith)
from_count (suc n) s at e some =
    let not_none : eqb (length at.rest) 0 ≡ false = ne_eqb (length at.rest) 0 (λ z. omega arith) in
    rw not_none (same_after (λ _ _. n) (λ _ next. length next.rest) ((section s).reads at) (λ more next h. enough n (length next.rest) more next (omega (arith, section_shorter s at more next h)) (omega arith)))

pub sections_go_on : (s more : Sections) (at next : At) (total : Result Parts ReadFault) → 0 < length at.rest → (section s).reads at ≡ Ok (more, next) → sections_from (length at.rest) s at ≡ total → sections_from (length next.rest) more next ≡ total
sections_go_on s more at next total some h so_far =
    let one : sections_from (length at.rest) s at ≡ sections_from (length next.rest) more next = from_count (length at.rest) s at refl some ∙ ap (go_on (λ _ next. length next.rest)) h in
    sym one ∙ so_far

pub sections_fail : (e : Or ReadFault) (s : Sections) (at : At) (total : Result Parts ReadFault) → 0 < length at.rest → Fails e ((section s).reads at) → sections_from (length at.rest) s at ≡ total → Fails e total
sections_fail or.OutOfMemory s at total some h so_far = tt
sections_fail (or.Fault d) s at total some h so_far =
    let one : sections_from (length at.rest) s at ≡ Err d = from_count (length at.rest) s at refl some ∙ ap (go_on (λ _ next. length next.rest)) h in
    sym so_far ∙ one

pub sections_finish : (s : Sections) (at : At) (total : Result Parts ReadFault) → length at.rest ≡ 0 → sections_from (length at.rest) s at ≡ total → total ≡ finished at.place s
unfolding sections_from
sections_finish s at total none so_far =
    let one : sections_from (length at.rest) s at ≡ finished at.place s = rw none refl in
    sym so_far ∙ one

pub not_empty : (n : ℕ) → false ≡ eqb n 0 → 0 < n
not_empty zero e = absurd cc
not_empty (suc n) e = omega arith
