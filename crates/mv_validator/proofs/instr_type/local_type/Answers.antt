use Rattle.std.proofs.Common.{◌≡◌, ℕ, zero, suc, ◌-◌, ◌≤◌, List, [], ◌∷◌, ◌++◌, length, ap, ◌∙◌, arith}
use Rattle.std.specs.Prelude.{slice_get}
use Rattle.mv_syntax.specs.declared.ops.ValType.{ValType}
use Rattle.mv_validator.proofs.instr_type.local_type.Goals as goal

behind : {A : Type 0} (xs ys : List A) (n : ℕ) → length xs ≤ n → slice_get ys (n - length xs) ≡ slice_get (xs ++ ys) n
behind [] ys n le = ap (slice_get ys) {x = n - 0} {y = n} (omega arith)
behind (x ∷ xs) ys zero le = absurd (omega arith)
behind (x ∷ xs) ys (suc n) le = ap (slice_get ys) {x = suc n - length (x ∷ xs)} {y = n - length xs} (omega arith) ∙ behind xs ys n (omega arith)

pub returns : goal.returns
returns c =
    c.get.ensures ∙ behind c.slice-params.result.now c.args.locals.now c.args.x c.if-x-params.false
    ∙ ap (λ (params : List ValType). slice_get (params ++ c.args.locals.now) c.args.x) c.slice-params.ensures
