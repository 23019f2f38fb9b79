-- An instruction and a body in their shortest form.
use Rattle.std.proofs.Common.{◌≡◌, ℕ, ◌-◌, eqb, leb, ◌&&◌, List, [], ◌∷◌, length, Ok, Option, Some, None, refl, sym, ap, subst, ◌∙◌, arith, ◌⊎◌, inl, inr}
use Rattle.std.specs.Prelude.{slice_get}
use Rattle.std.specs.Option.{option_map, ok_or}
use Rattle.std.proofs.lemmas.List.{length-append}
use Rattle.mv_syntax.specs.declared.fault.ReadKind.{ReadKind}
use Rattle.mv_syntax.specs.declared.ops.ValType.{ValType}
use Rattle.mv_syntax.specs.declared.ops.ValType.TheVariants.{I32, I64}
use Rattle.mv_syntax.specs.declared.instr.Instr.{Instr}
use Rattle.mv_syntax.specs.declared.instr.Instr.TheVariants as instr
use Rattle.mv_syntax.specs.declared.ops.UnOp.TheVariants as un
use Rattle.mv_syntax.specs.declared.ops.TestOp.TheVariants as test
use Rattle.mv_syntax.specs.Forms.{byte}
use Rattle.mv_syntax.specs.Instructions.{Shape, Alone, immediates, access_of, other_of, operator_of, comparisons, operations, compares, computes, or_else, shape_of, instruction}
use Rattle.mv_syntax.specs.Code.{code}
use Rattle.mv_syntax.specs.Opcodes.{opcode}
use Rattle.mv_writer.proofs.OpcodeLaws.{access_opcode, other_opcode, operator_opcode, if_some, if_range, mapped}
use Rattle.mv_writer.specs.Written.{written_immediates, written_instruction, written_code}
use Rattle.mv_writer.proofs.ShortForms.{Shortens, many_again}
use Rattle.mv_writer.proofs.ShortImmediates.{IsShort, access_short, other_short}

compares_bare : (w : ValType) (n : ℕ) (i : Instr) → compares w n ≡ Some i → written_immediates i ≡ []
compares_bare w n i e = let m = mapped (λ op. instr.Rel (record { width = w; op = op })) (slice_get comparisons n) i e in ap written_immediates m.2

computes_bare : (w : ValType) (n : ℕ) (i : Instr) → computes w n ≡ Some i → written_immediates i ≡ []
computes_bare w n i e = let m = mapped (λ op. instr.Bin (record { width = w; op = op })) (slice_get operations n) i e in ap written_immediates m.2

-- an operator has no immediates
operator_bare : (b : ℕ) (i : Instr) → operator_of b ≡ Some i → written_immediates i ≡ []
unfolding operator_of
operator_bare b i e =
    elim (if_some (eqb b 69) (instr.Test test.Eqz32) _ i e) [
      | inl p ↦ ap written_immediates (sym p.1)
      | inr e ↦
          elim (if_range (leb 70 b && leb b 79) (compares I32 (b - 70)) _ i e) [
            | inl p ↦ compares_bare I32 (b - 70) i p.1
            | inr e ↦
                elim (if_some (eqb b 80) (instr.Test test.Eqz64) _ i e) [
                  | inl p ↦ ap written_immediates (sym p.1)
                  | inr e ↦
                      elim (if_range (leb 81 b && leb b 90) (compares I64 (b - 81)) _ i e) [
                        | inl p ↦ compares_bare I64 (b - 81) i p.1
                        | inr e ↦
                            elim (if_some (eqb b 103) (instr.Un un.Clz32) _ i e) [
                              | inl p ↦ ap written_immediates (sym p.1)
                              | inr e ↦
                                  elim (if_some (eqb b 104) (instr.Un un.Ctz32) _ i e) [
                                    | inl p ↦ ap written_immediates (sym p.1)
                                    | inr e ↦
                                        elim (if_some (eqb b 105) (instr.Un un.Popcnt32) _ i e) [
                                          | inl p ↦ ap written_immediates (sym p.1)
                                          | inr e ↦
                                              elim (if_range (leb 106 b && leb b 120) (computes I32 (b - 106)) _ i e) [
                                                | inl p ↦ computes_bare I32 (b - 106) i p.1
                                                | inr e ↦
                                                    elim (if_some (eqb b 121) (instr.Un un.Clz64) _ i e) [
                                                      | inl p ↦ ap written_immediates (sym p.1)
                                                      | inr e ↦
                                                          elim (if_some (eqb b 122) (instr.Un un.Ctz64) _ i e) [
                                                            | inl p ↦ ap written_immediates (sym p.1)
                                                            | inr e ↦
                                                                elim (if_some (eqb b 123) (instr.Un un.Popcnt64) _ i e) [
                                                                  | inl p ↦ ap written_immediates (sym p.1)
                                                                  | inr e ↦
                                                                      elim (if_range (leb 124 b && leb b 138) (computes I64 (b - 124)) _ i e) [
                                                                        | inl p ↦ computes_bare I64 (b - 124) i p.1
                                                                        | inr e ↦
                                                                            elim (if_some (eqb b 167) (instr.Un un.Wrap) _ i e) [
                                                                              | inl p ↦ ap written_immediates (sym p.1)
                                                                              | inr e ↦
                                                                                  elim (if_some (eqb b 172) (instr.Un un.ExtendS) _ i e) [
                                                                                    | inl p ↦ ap written_immediates (sym p.1)
                                                                                    | inr e ↦
                                                                                        elim (if_some (eqb b 173) (instr.Un un.ExtendU) _ i e) [
                                                                                          | inl p ↦ ap written_immediates (sym p.1)
                                                                                          | inr e ↦
                                                                                              absurd (nothing i e)
                                                                                        ]
                                                                                  ]
                                                                            ]
                                                                      ]
                                                                ]
                                                          ]
                                                    ]
                                              ]
                                        ]
                                  ]
                            ]
                      ]
                ]
          ]
    ]
  where
    nothing : (i : Instr) → None ≡ Some i → ⊥
    nothing i e = cc

-- which table has the shape
pub record OfOperator (b : ℕ) (shape : Shape) : Type 0 where
  pub operator : Instr
  pub found : operator_of b ≡ Some operator
  pub shape_is : shape ≡ Alone operator

shape_from : (b : ℕ) (shape : Shape) (k : ReadKind) (o : Option Instr) (p q : Option Shape) → operator_of b ≡ o → ok_or (or_else (option_map Alone o) (or_else p q)) k ≡ Ok shape → OfOperator b shape ⊎ ((p ≡ Some shape) ⊎ (q ≡ Some shape))
shape_from b shape k (Some i) p q here e = inl (record { operator = i; found = here; shape_is = (let same : Alone i ≡ shape = cc in sym same) })
shape_from b shape k None (Some x) q here e = inr (inl cc)
shape_from b shape k None None (Some x) here e = inr (inr cc)
shape_from b shape k None None None here e = absurd cc

pub record IsCoded (b : ℕ) (shape : Shape) (text : List ℕ) (i : Instr) : Type 0 where
  pub code : opcode i ≡ b
  pub short : IsShort shape text i

operator_coded : (b : ℕ) (shape : Shape) (text : List ℕ) (i : Instr) → OfOperator b shape → (immediates shape).spells text i → IsCoded b shape text i
unfolding immediates
operator_coded b shape text i o s =
    let at : (immediates (Alone o.operator)).spells text i = subst (λ (x : Shape). (immediates x).spells text i) o.shape_is s in
    let bare : written_immediates i ≡ [] = ap written_immediates at.1 ∙ operator_bare b o.operator o.found in
    let made : (immediates (Alone o.operator)).spells (written_immediates i) i = (bare, at.1) in
    record {
      code = ap opcode at.1 ∙ operator_opcode b o.operator o.found;
      short = record { again = subst (λ (x : Shape). (immediates x).spells (written_immediates i) i) (sym o.shape_is) made; shorter = omega (arith, ap length bare) };
    }

coded : (b : ℕ) (shape : Shape) (text : List ℕ) (i : Instr) → shape_of b ≡ Ok shape → (immediates shape).spells text i → IsCoded b shape text i
coded b shape text i e s = elim (shape_from b shape _ (operator_of b) (access_of b) (other_of b) refl e) [
  | inl o ↦ operator_coded b shape text i o s
  | inr r ↦ elim r [
    | inl p ↦ record { code = access_opcode b shape p text i s; short = access_short b shape p text i s }
    | inr q ↦ record { code = other_opcode b shape q text i s; short = other_short b shape q text i s }
  ]
]

pub instruction_short : Shortens instruction written_instruction
unfolding instruction byte
instruction_short = record {
  again = λ text i s.
      let c = coded s.front_spells.sign s.first s.back i s.front_spells.meant s.back_spells in
      record {
        first = s.first;
        front = opcode i ∷ [];
        back = written_immediates i;
        whole = refl;
        front_spells = record { sign = opcode i; spelled = refl; meant = subst (λ (n : ℕ). shape_of n ≡ Ok s.first) (sym c.code) s.front_spells.meant };
        back_spells = c.short.again;
      };
  shorter = λ text i s.
      let c = coded s.front_spells.sign s.first s.back i s.front_spells.meant s.back_spells in
      omega (arith, ap length s.whole, length-append s.front s.back, ap length s.front_spells.spelled, c.short.shorter);
}

pub code_short : Shortens code written_code
unfolding code
code_short = record {
  again = λ text c s. record { body = s.body; each = (many_again instruction written_instruction instruction_short (length c) text c s.each).0 };
  shorter = λ text c s. (many_again instruction written_instruction instruction_short (length c) text c s.each).1;
}
