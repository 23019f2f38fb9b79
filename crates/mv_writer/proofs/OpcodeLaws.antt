-- A decoded opcode is the opcode of the instruction.
use Rattle.std.proofs.Common.{◌≡◌, ℕ, zero, suc, ◌+◌, ◌-◌, leb, ◌&&◌, arith, Bool, true, false, cond, eqb, List, [], ◌∷◌, Option, Some, None, refl, sym, ap, subst, ◌∙◌, ◌⊎◌, inl, inr}
use Rattle.std.specs.Prelude.{slice_get}
use Rattle.std.specs.Option.{option_map}
use Rattle.std.specs.List.{AllByRecursion}
use Rattle.std.proofs.lemmas.Bool.{eqb-true, leb-true}
use Rattle.mv_syntax.specs.declared.ops.ValType.{ValType}
use Rattle.mv_syntax.specs.declared.ops.ValType.TheVariants.{I32, I64}
use Rattle.mv_syntax.specs.declared.instr.Instr.{Instr}
use Rattle.mv_syntax.specs.declared.instr.Instr.TheVariants as instr
use Rattle.mv_syntax.specs.declared.ops.UnOp.TheVariants as un
use Rattle.mv_syntax.specs.declared.ops.TestOp.TheVariants as test
use Rattle.mv_syntax.specs.declared.ops.Compare.{Compare}
use Rattle.mv_syntax.specs.declared.ops.Compare.TheVariants.{Eq, Ne, LtS, LtU, GtS, GtU, LeS, LeU, GeS, GeU}
use Rattle.mv_syntax.specs.declared.ops.Binary.{Binary}
use Rattle.mv_syntax.specs.declared.ops.Binary.TheVariants.{Add, Sub, Mul, DivS, DivU, RemS, RemU, And, Or, Xor, Shl, ShrS, ShrU, Rotl, Rotr}
use Rattle.mv_syntax.specs.Instructions.{Shape, Alone, Blocks, Indexed, Labels, Indirect, Access, Reserved, Const32, Const64, immediates, shape_at, accesses, others, access_of, other_of, comparisons, operations, compares, computes, operator_of}
use Rattle.mv_syntax.specs.Opcodes.{compare_base, compare_number, operation_base, operation_number, opcode}

-- a row of a table has the opcode of each instruction that its shape spells
abbrev pub IsRow : ℕ × Shape → Type 0
IsRow row = (text : List ℕ) (i : Instr) → (immediates row.1).spells text i → opcode i ≡ row.0

alone : (i : Instr) → IsRow (opcode i, Alone i)
unfolding immediates
alone i text j s = ap opcode s.1

blocks : (k : ℕ) (make : Option ValType → Instr) → ((t : Option ValType) → opcode (make t) ≡ k) → IsRow (k, Blocks make)
unfolding immediates
blocks k make h text j s = ap opcode s.back_spells.1 ∙ h s.first

indexed : (k : ℕ) (make : ℕ → Instr) → ((n : ℕ) → opcode (make n) ≡ k) → IsRow (k, Indexed make)
unfolding immediates
indexed k make h text j s = ap opcode s.back_spells.1 ∙ h s.first

labels : IsRow (14, Labels)
unfolding immediates
labels text j s = ap opcode s.back_spells.back_spells.1

indirect : IsRow (17, Indirect)
unfolding immediates
indirect text j s = ap opcode s.back_spells.back_spells.1

access : (k : ℕ) (make : ℕ → ℕ → Instr) → ((a o : ℕ) → opcode (make a o) ≡ k) → IsRow (k, Access make)
unfolding immediates
access k make h text j s = ap opcode s.back_spells.back_spells.1 ∙ h s.first s.back_spells.first

reserved : (i : Instr) → IsRow (opcode i, Reserved i)
unfolding immediates
reserved i text j s = ap opcode s.back_spells.1

const32 : IsRow (65, Const32)
unfolding immediates
const32 text j s = ap opcode s.back_spells.1

const64 : IsRow (66, Const64)
unfolding immediates
const64 text j s = ap opcode s.back_spells.1

accesses_are_rows : AllByRecursion IsRow accesses
accesses_are_rows = (
  access 40 (instr.Load I32 4 false) (λ a o. refl),
  (
    access 41 (instr.Load I64 8 false) (λ a o. refl),
    (
      access 44 (instr.Load I32 1 true) (λ a o. refl),
      (
        access 45 (instr.Load I32 1 false) (λ a o. refl),
        (
          access 46 (instr.Load I32 2 true) (λ a o. refl),
          (
            access 47 (instr.Load I32 2 false) (λ a o. refl),
            (
              access 48 (instr.Load I64 1 true) (λ a o. refl),
              (
                access 49 (instr.Load I64 1 false) (λ a o. refl),
                (
                  access 50 (instr.Load I64 2 true) (λ a o. refl),
                  (
                    access 51 (instr.Load I64 2 false) (λ a o. refl),
                    (
                      access 52 (instr.Load I64 4 true) (λ a o. refl),
                      (
                        access 53 (instr.Load I64 4 false) (λ a o. refl),
                        (
                          access 54 (instr.Store I32 4) (λ a o. refl),
                          (
                            access 55 (instr.Store I64 8) (λ a o. refl),
                            (
                              access 58 (instr.Store I32 1) (λ a o. refl),
                              (
                                access 59 (instr.Store I32 2) (λ a o. refl),
                                (
                                  access 60 (instr.Store I64 1) (λ a o. refl),
                                  (
                                    access 61 (instr.Store I64 2) (λ a o. refl),
                                    (
                                      access 62 (instr.Store I64 4) (λ a o. refl),
                                      tt,
                                    ),
                                  ),
                                ),
                              ),
                            ),
                          ),
                        ),
                      ),
                    ),
                  ),
                ),
              ),
            ),
          ),
        ),
      ),
    ),
  ),
)

others_are_rows : AllByRecursion IsRow others
others_are_rows = (
  alone instr.Unreachable,
  (
    alone instr.Nop,
    (
      blocks 2 instr.Block (λ t. refl),
      (
        blocks 3 instr.Loop (λ t. refl),
        (
          blocks 4 instr.If (λ t. refl),
          (
            alone instr.Else,
            (
              alone instr.End,
              (
                indexed 12 instr.Br (λ n. refl),
                (
                  indexed 13 instr.BrIf (λ n. refl),
                  (
                    labels,
                    (
                      alone instr.Return,
                      (
                        indexed 16 instr.Call (λ n. refl),
                        (
                          indirect,
                          (
                            alone instr.Drop,
                            (
                              alone instr.Select,
                              (
                                indexed 32 instr.LocalGet (λ n. refl),
                                (
                                  indexed 33 instr.LocalSet (λ n. refl),
                                  (
                                    indexed 34 instr.LocalTee (λ n. refl),
                                    (
                                      indexed 35 instr.GlobalGet (λ n. refl),
                                      (
                                        indexed 36 instr.GlobalSet (λ n. refl),
                                        (
                                          reserved instr.MemorySize,
                                          (
                                            reserved instr.MemoryGrow,
                                            (
                                              const32,
                                              (
                                                const64,
                                                tt,
                                              ),
                                            ),
                                          ),
                                        ),
                                      ),
                                    ),
                                  ),
                                ),
                              ),
                            ),
                          ),
                        ),
                      ),
                    ),
                  ),
                ),
              ),
            ),
          ),
        ),
      ),
    ),
  ),
)

found_row : (b : ℕ) (k : ℕ) (x : Shape) (t : Bool) (r : Option Shape) (shape : Shape) → eqb b k ≡ t → IsRow (k, x) → (r ≡ Some shape → IsRow (b, shape)) → cond t (Some x) r ≡ Some shape → IsRow (b, shape)
found_row b k x true r shape test row rest e =
    let same : x ≡ shape = cc in
    subst (λ (y : Shape). IsRow (b, y)) same (subst (λ (n : ℕ). IsRow (n, x)) (sym (eqb-true _ _ test)) row)
found_row b k x false r shape test row rest e = rest e

pub table_is : (rows : List (ℕ × Shape)) (b : ℕ) (shape : Shape) → AllByRecursion IsRow rows → shape_at b rows ≡ Some shape → IsRow (b, shape)
table_is [] b shape all e = absurd cc
table_is (row ∷ rows) b shape all e = found_row b row.0 row.1 (eqb b row.0) (shape_at b rows) shape refl all.0 (table_is rows b shape all.1) e

pub access_opcode : (b : ℕ) (shape : Shape) → access_of b ≡ Some shape → IsRow (b, shape)
unfolding access_of
access_opcode b shape e = table_is accesses b shape accesses_are_rows e

pub other_opcode : (b : ℕ) (shape : Shape) → other_of b ≡ Some shape → IsRow (b, shape)
unfolding other_of
other_opcode b shape e = table_is others b shape others_are_rows e

-- ---- the operators

pub if_some : (t : Bool) (x : Instr) (r : Option Instr) (i : Instr) → cond t (Some x) r ≡ Some i → ((t ≡ true) × (x ≡ i)) ⊎ (r ≡ Some i)
if_some true x r i e = inl (refl, cc)
if_some false x r i e = inr e

pub if_range : (t : Bool) (q r : Option Instr) (i : Instr) → cond t q r ≡ Some i → ((t ≡ true) × (q ≡ Some i)) ⊎ (r ≡ Some i)
if_range true q r i e = inl (refl, e)
if_range false q r i e = inr e

pub mapped : {A : Type 0} (f : A → Instr) (o : Option A) (i : Instr) → option_map f o ≡ Some i → (a : A) × (o ≡ Some a) × (i ≡ f a)
mapped f (Some a) i e = (a, refl, cc)
mapped f None i e = absurd cc

compare_at : (n : ℕ) (op : Compare) → slice_get comparisons n ≡ Some op → compare_number op ≡ n
compare_at zero op e = let same : Eq ≡ op = cc in ap compare_number (sym same)
compare_at (suc zero) op e = let same : Ne ≡ op = cc in ap compare_number (sym same)
compare_at (suc (suc zero)) op e = let same : LtS ≡ op = cc in ap compare_number (sym same)
compare_at (suc (suc (suc zero))) op e = let same : LtU ≡ op = cc in ap compare_number (sym same)
compare_at (suc (suc (suc (suc zero)))) op e = let same : GtS ≡ op = cc in ap compare_number (sym same)
compare_at (suc (suc (suc (suc (suc zero))))) op e = let same : GtU ≡ op = cc in ap compare_number (sym same)
compare_at (suc (suc (suc (suc (suc (suc zero)))))) op e = let same : LeS ≡ op = cc in ap compare_number (sym same)
compare_at (suc (suc (suc (suc (suc (suc (suc zero))))))) op e = let same : LeU ≡ op = cc in ap compare_number (sym same)
compare_at (suc (suc (suc (suc (suc (suc (suc (suc zero)))))))) op e = let same : GeS ≡ op = cc in ap compare_number (sym same)
compare_at (suc (suc (suc (suc (suc (suc (suc (suc (suc zero))))))))) op e = let same : GeU ≡ op = cc in ap compare_number (sym same)
compare_at (suc (suc (suc (suc (suc (suc (suc (suc (suc (suc n)))))))))) op e = absurd cc

operation_at : (n : ℕ) (op : Binary) → slice_get operations n ≡ Some op → operation_number op ≡ n
operation_at zero op e = let same : Add ≡ op = cc in ap operation_number (sym same)
operation_at (suc zero) op e = let same : Sub ≡ op = cc in ap operation_number (sym same)
operation_at (suc (suc zero)) op e = let same : Mul ≡ op = cc in ap operation_number (sym same)
operation_at (suc (suc (suc zero))) op e = let same : DivS ≡ op = cc in ap operation_number (sym same)
operation_at (suc (suc (suc (suc zero)))) op e = let same : DivU ≡ op = cc in ap operation_number (sym same)
operation_at (suc (suc (suc (suc (suc zero))))) op e = let same : RemS ≡ op = cc in ap operation_number (sym same)
operation_at (suc (suc (suc (suc (suc (suc zero)))))) op e = let same : RemU ≡ op = cc in ap operation_number (sym same)
operation_at (suc (suc (suc (suc (suc (suc (suc zero))))))) op e = let same : And ≡ op = cc in ap operation_number (sym same)
operation_at (suc (suc (suc (suc (suc (suc (suc (suc zero)))))))) op e = let same : Or ≡ op = cc in ap operation_number (sym same)
operation_at (suc (suc (suc (suc (suc (suc (suc (suc (suc zero))))))))) op e = let same : Xor ≡ op = cc in ap operation_number (sym same)
operation_at (suc (suc (suc (suc (suc (suc (suc (suc (suc (suc zero)))))))))) op e = let same : Shl ≡ op = cc in ap operation_number (sym same)
operation_at (suc (suc (suc (suc (suc (suc (suc (suc (suc (suc (suc zero))))))))))) op e = let same : ShrS ≡ op = cc in ap operation_number (sym same)
operation_at (suc (suc (suc (suc (suc (suc (suc (suc (suc (suc (suc (suc zero)))))))))))) op e = let same : ShrU ≡ op = cc in ap operation_number (sym same)
operation_at (suc (suc (suc (suc (suc (suc (suc (suc (suc (suc (suc (suc (suc zero))))))))))))) op e = let same : Rotl ≡ op = cc in ap operation_number (sym same)
operation_at (suc (suc (suc (suc (suc (suc (suc (suc (suc (suc (suc (suc (suc (suc zero)))))))))))))) op e = let same : Rotr ≡ op = cc in ap operation_number (sym same)
operation_at (suc (suc (suc (suc (suc (suc (suc (suc (suc (suc (suc (suc (suc (suc (suc n))))))))))))))) op e = absurd cc

compares_code : (w : ValType) (n : ℕ) (i : Instr) → compares w n ≡ Some i → opcode i ≡ compare_base w + n
compares_code w n i e =
    let m = mapped (λ op. instr.Rel (record { width = w; op = op })) (slice_get comparisons n) i e in
    ap opcode m.2 ∙ ap (λ (k : ℕ). compare_base w + k) (compare_at n m.0 m.1)

computes_code : (w : ValType) (n : ℕ) (i : Instr) → computes w n ≡ Some i → opcode i ≡ operation_base w + n
computes_code w n i e =
    let m = mapped (λ op. instr.Bin (record { width = w; op = op })) (slice_get operations n) i e in
    ap opcode m.2 ∙ ap (λ (k : ℕ). operation_base w + k) (operation_at n m.0 m.1)

one_of : (b k : ℕ) (x i : Instr) → opcode x ≡ k → (eqb b k ≡ true) × (x ≡ i) → opcode i ≡ b
one_of b k x i code p = ap opcode (sym p.1) ∙ code ∙ sym (eqb-true _ _ p.0)

both_true : (x y : Bool) → (x && y) ≡ true → (x ≡ true) × (y ≡ true)
both_true true y e = (refl, e)
both_true false y e = absurd cc

range_of : (b low high base : ℕ) (q : Option Instr) (i : Instr) → base ≡ low → (q ≡ Some i → opcode i ≡ base + (b - low)) → ((leb low b && leb b high) ≡ true) × (q ≡ Some i) → opcode i ≡ b
range_of b low high base q i same code p =
    let le = leb-true _ _ (both_true (leb low b) (leb b high) p.0).0 in
    code p.1 ∙ omega arith

pub operator_opcode : (b : ℕ) (i : Instr) → operator_of b ≡ Some i → opcode i ≡ b
unfolding operator_of
operator_opcode b i e =
    elim (if_some (eqb b 69) (instr.Test test.Eqz32) _ i e) [
      | inl p ↦ one_of b 69 (instr.Test test.Eqz32) i refl p
      | inr e ↦
          elim (if_range (leb 70 b && leb b 79) (compares I32 (b - 70)) _ i e) [
            | inl p ↦ range_of b 70 79 70 (compares I32 (b - 70)) i refl (compares_code I32 (b - 70) i) p
            | inr e ↦
                elim (if_some (eqb b 80) (instr.Test test.Eqz64) _ i e) [
                  | inl p ↦ one_of b 80 (instr.Test test.Eqz64) i refl p
                  | inr e ↦
                      elim (if_range (leb 81 b && leb b 90) (compares I64 (b - 81)) _ i e) [
                        | inl p ↦ range_of b 81 90 81 (compares I64 (b - 81)) i refl (compares_code I64 (b - 81) i) p
                        | inr e ↦
                            elim (if_some (eqb b 103) (instr.Un un.Clz32) _ i e) [
                              | inl p ↦ one_of b 103 (instr.Un un.Clz32) i refl p
                              | inr e ↦
                                  elim (if_some (eqb b 104) (instr.Un un.Ctz32) _ i e) [
                                    | inl p ↦ one_of b 104 (instr.Un un.Ctz32) i refl p
                                    | inr e ↦
                                        elim (if_some (eqb b 105) (instr.Un un.Popcnt32) _ i e) [
                                          | inl p ↦ one_of b 105 (instr.Un un.Popcnt32) i refl p
                                          | inr e ↦
                                              elim (if_range (leb 106 b && leb b 120) (computes I32 (b - 106)) _ i e) [
                                                | inl p ↦ range_of b 106 120 106 (computes I32 (b - 106)) i refl (computes_code I32 (b - 106) i) p
                                                | inr e ↦
                                                    elim (if_some (eqb b 121) (instr.Un un.Clz64) _ i e) [
                                                      | inl p ↦ one_of b 121 (instr.Un un.Clz64) i refl p
                                                      | inr e ↦
                                                          elim (if_some (eqb b 122) (instr.Un un.Ctz64) _ i e) [
                                                            | inl p ↦ one_of b 122 (instr.Un un.Ctz64) i refl p
                                                            | inr e ↦
                                                                elim (if_some (eqb b 123) (instr.Un un.Popcnt64) _ i e) [
                                                                  | inl p ↦ one_of b 123 (instr.Un un.Popcnt64) i refl p
                                                                  | inr e ↦
                                                                      elim (if_range (leb 124 b && leb b 138) (computes I64 (b - 124)) _ i e) [
                                                                        | inl p ↦ range_of b 124 138 124 (computes I64 (b - 124)) i refl (computes_code I64 (b - 124) i) p
                                                                        | inr e ↦
                                                                            elim (if_some (eqb b 167) (instr.Un un.Wrap) _ i e) [
                                                                              | inl p ↦ one_of b 167 (instr.Un un.Wrap) i refl p
                                                                              | inr e ↦
                                                                                  elim (if_some (eqb b 172) (instr.Un un.ExtendS) _ i e) [
                                                                                    | inl p ↦ one_of b 172 (instr.Un un.ExtendS) i refl p
                                                                                    | inr e ↦
                                                                                        elim (if_some (eqb b 173) (instr.Un un.ExtendU) _ i e) [
                                                                                          | inl p ↦ one_of b 173 (instr.Un un.ExtendU) i refl p
                                                                                          | inr e ↦
                                                                                              absurd (nothing i e)
                                                                                        ]
                                                                                  ]
                                                                            ]
                                                                      ]
                                                                ]
                                                          ]
                                                    ]
                                              ]
                                        ]
                                  ]
                            ]
                      ]
                ]
          ]
    ]
  where
    nothing : (i : Instr) → None ≡ Some i → ⊥
    nothing i e = cc
