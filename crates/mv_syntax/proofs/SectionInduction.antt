-- What holds before any section, and stays with the contents of each, holds when all sections are read.
use Rattle.std.proofs.Common.{◌≡◌, ℕ, zero, suc, ◌^◌, ◌≤◌, ◌<◌, Bool, true, false, cond, eqb, ltb, leb, List, length, Ok, Err, refl, sym, subst, arith, ◌⊎◌, inl, inr}
use Rattle.std.proofs.lemmas.Bool.{eqb-false, leb-false, ltb-false}
use Rattle.mv_syntax.specs.declared.fault.ReadKind.TheVariants.{Kind, LaterFeature, Order}
use Rattle.mv_syntax.specs.Forms.{give, ◌>>=◌, choose, sized, headed}
use Rattle.mv_syntax.specs.Numbers.{name}
use Rattle.mv_syntax.specs.Sections.{Sections, next_id, Holding, Types, Imports, Functions, Tables, Memories, Globals, Exports, Start, Elements, Bodies, Data, holding, contents, section, sections}
use Rattle.mv_syntax.proofs.NumberBounds.{u32_below}

-- ---- the numbers of the sections

abbrev pub number : Holding → ℕ
number Types = 1
number Imports = 2
number Functions = 3
number Tables = 4
number Memories = 5
number Globals = 6
number Exports = 7
number Start = 8
number Elements = 9
number Bodies = 10
number Data = 11

number_of : (id : ℕ) → 1 ≤ id → id ≤ 11 → number (holding id) ≡ id
number_of zero some few = absurd (omega arith)
number_of (suc zero) some few = refl
number_of (suc (suc zero)) some few = refl
number_of (suc (suc (suc zero))) some few = refl
number_of (suc (suc (suc (suc zero)))) some few = refl
number_of (suc (suc (suc (suc (suc zero))))) some few = refl
number_of (suc (suc (suc (suc (suc (suc zero)))))) some few = refl
number_of (suc (suc (suc (suc (suc (suc (suc zero))))))) some few = refl
number_of (suc (suc (suc (suc (suc (suc (suc (suc zero)))))))) some few = refl
number_of (suc (suc (suc (suc (suc (suc (suc (suc (suc zero))))))))) some few = refl
number_of (suc (suc (suc (suc (suc (suc (suc (suc (suc (suc zero)))))))))) some few = refl
number_of (suc (suc (suc (suc (suc (suc (suc (suc (suc (suc (suc zero))))))))))) some few = refl
number_of (suc (suc (suc (suc (suc (suc (suc (suc (suc (suc (suc (suc n)))))))))))) some few = absurd (omega arith)

-- an id that may come is that of a custom section, or a larger one than the last
record IsNext (last id : ℕ) : Type 0 where
  pub some : 1 ≤ id
  pub few : id ≤ 11
  pub order : last < id

next_from : (s t u v : Bool) (b id : ℕ) → cond s (Err Kind) (cond t (Err LaterFeature) (cond u (Ok 0) (cond v (Err Order) (Ok b)))) ≡ Ok id → (id ≡ 0) ⊎ ((t ≡ false) × (u ≡ false) × (v ≡ false) × (id ≡ b))
next_from true t u v b id e = absurd cc
next_from false true u v b id e = absurd cc
next_from false false true v b id e = inl cc
next_from false false false true b id e = absurd cc
next_from false false false false b id e = inr (refl, refl, refl, cc)

next_is : (last b id : ℕ) → next_id last b ≡ Ok id → (id ≡ 0) ⊎ IsNext last id
next_is last b id e = elim (next_from (ltb 13 b) (ltb 11 b) (eqb b 0) (leb b last) b id e) [
  | inl p ↦ inl p
  | inr p ↦ (let not_zero = eqb-false _ _ p.1 in inr (record { some = omega (arith, p.3); few = omega (arith, p.3, ltb-false _ _ p.0); order = omega (arith, p.3, leb-false _ _ p.2) }))
]

-- ---- section by section

-- the contents of a section that isn't custom
pub record IsFilled (id n : ℕ) (s : Sections) (text : List ℕ) (held : Sections) : Type 0 where
  pub not_custom : eqb id 0 ≡ false
  pub filled : (contents (holding id) s).spells text held
  pub size : length text ≡ n

pub filled_or_custom : (t : Bool) (id n : ℕ) (s : Sections) (text : List ℕ) (held : Sections) → eqb id 0 ≡ t → (choose t (headed n name >>= λ _. give s) (sized n (contents (holding id) s))).spells text held → (held ≡ s) ⊎ IsFilled id n s text held
filled_or_custom true id n s text held e p = inl p.back_spells.1
filled_or_custom false id n s text held e p = inr (record { not_custom = e; filled = p.0; size = p.1 })

-- what the contents of a section, behind those of lower numbers, leave as it is
abbrev pub StaysWith : (Sections → Type 0) → Type 0
StaysWith P = (k : Holding) (s : Sections) → P s → s.last < number k → (text : List ℕ) (held : Sections) → (contents k s).spells text held → length text < 2 ^ 32 → P held

section_holds : (P : Sections → Type 0) → StaysWith P → (s : Sections) → P s → (text : List ℕ) (held : Sections) → (section s).spells text held → P held
unfolding section
section_holds P stays s h text held c =
    let id : ℕ = c.first in
    let r = c.back_spells in
    elim (filled_or_custom (eqb id 0) id r.first s r.back held refl r.back_spells) [
      | inl same ↦ subst P (sym same) h
      | inr p ↦ elim (next_is s.last c.front_spells.sign id c.front_spells.meant) [
        | inl none ↦ absurd (let not_zero = eqb-false _ _ p.not_custom in omega arith)
        | inr next ↦ stays (holding id) s h (omega (arith, number_of id next.some next.few, next.order)) r.back held p.filled (omega (arith, p.size, u32_below r.front r.first r.front_spells))
      ]
    ]

pub sections_hold : (P : Sections → Type 0) → StaysWith P → (n : ℕ) (s : Sections) → P s → (text : List ℕ) (held : Sections) → (sections n s).spells text held → P held
unfolding sections
sections_hold P stays zero s h text held c = subst P (sym c.1) h
sections_hold P stays (suc n) s h text held c = sections_hold P stays n c.first (section_holds P stays s h c.front c.first c.front_spells) c.back held c.back_spells
