-- An alignment above every width of an access.
use Rattle.std.proofs.Common.{◌≡◌, ℕ, ◌^◌, ◌<◌, ◌≤◌, Bool, true, false, refl, arith, leb, ltb}
use Rattle.std.proofs.lemmas.Bool.{leb-true, ltb-true}
use Rattle.std.proofs.Math.Pow.{pow_mono}
use Rattle.mv_validator.specs.Types.{is_natural}

above : (align bytes : ℕ) → 8 ≤ align → bytes < 256 → 2 ^ align ≤ bytes → ⊥
above align bytes big small le =
    let least : 2 ^ 8 ≤ 2 ^ align = pow_mono big in
    omega (arith, least)

pub never_natural : (align bytes : ℕ) → 8 ≤ align → bytes < 256 → is_natural align bytes ≡ false
never_natural align bytes big small = by (leb (2 ^ align) bytes) refl
  where
    by : (b : Bool) → leb (2 ^ align) bytes ≡ b → b ≡ false
    by false e = refl
    by true e = absurd (above align bytes big small (leb-true _ _ e))

pub not_below : (align : ℕ) → 8 ≤ align → ltb align 8 ≡ false
not_below align big = by (ltb align 8) refl
  where
    by : (b : Bool) → ltb align 8 ≡ b → b ≡ false
    by false e = refl
    by true e = let less = ltb-true _ _ e in absurd (omega (arith, less))
