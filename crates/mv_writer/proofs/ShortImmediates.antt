-- The shortest form of what follows an opcode.
use Rattle.std.proofs.Common.{◌≡◌, ℕ, ◌%◌, ◌^◌, ◌≤◌, Bool, true, false, cond, eqb, ◌||◌, List, [], ◌∷◌, ◌++◌, length, Result, Ok, Err, Option, Some, None, refl, sym, ap, subst, ◌∙◌, arith, ◌⊎◌, inl, inr}
use Rattle.std.specs.List.{AllByRecursion}
use Rattle.std.proofs.lemmas.Bool.{eqb-true}
use Rattle.std.proofs.lemmas.List.{append-nil, length-append}
use Rattle.mv_syntax.specs.declared.fault.ReadKind.{ReadKind}
use Rattle.mv_syntax.specs.declared.fault.ReadKind.TheVariants.{Float, LaterFeature}
use Rattle.mv_syntax.specs.declared.ops.ValType.{ValType}
use Rattle.mv_syntax.specs.declared.ops.ValType.TheVariants.{I32, I64}
use Rattle.mv_syntax.specs.declared.instr.Instr.{Instr}
use Rattle.mv_syntax.specs.declared.instr.Instr.TheVariants as instr
use Rattle.mv_syntax.specs.Form.{Form}
use Rattle.mv_syntax.specs.Forms.{give, ◌>>=◌, byte}
use Rattle.mv_syntax.specs.Numbers.{u32, s32, s64}
use Rattle.mv_syntax.specs.Types.{vector, only}
use Rattle.mv_syntax.specs.Instructions.{block_type_of, block_type, zero_byte, Shape, Alone, Blocks, Indexed, Labels, Indirect, Access, Reserved, Const32, Const64, immediates, shape_at, accesses, others, access_of, other_of}
use Rattle.mv_writer.specs.Written.{short_u32, short_s32, short_s64, written_vector, block_code, written_block, written_immediates}
use Rattle.mv_writer.proofs.ShortForms.{Shortens, shortens_means, shortens_byte, shortens_vector, u32_short, only_is}
use Rattle.mv_writer.proofs.ShortSigned.{s32_short, s32_below, s64_short}

if_ok : {B : Type 0} (t : Bool) (x : B) (r : Result B ReadKind) (b : B) → cond t (Ok x) r ≡ Ok b → ((t ≡ true) × (x ≡ b)) ⊎ (r ≡ Ok b)
if_ok true x r b e = inl (refl, cc)
if_ok false x r b e = inr e

block_sign : (b : ℕ) (t : Option ValType) → block_type_of b ≡ Ok t → block_code t ≡ b
block_sign b t e =
    elim (if_ok (eqb b 64) None _ t e) [
      | inl p ↦ ap block_code (sym p.1) ∙ sym (eqb-true _ _ p.0)
      | inr e ↦
          elim (if_ok (eqb b 127) (Some I32) _ t e) [
            | inl p ↦ ap block_code (sym p.1) ∙ sym (eqb-true _ _ p.0)
            | inr e ↦
                elim (if_ok (eqb b 126) (Some I64) _ t e) [
                  | inl p ↦ ap block_code (sym p.1) ∙ sym (eqb-true _ _ p.0)
                  | inr e ↦
                      absurd (none (eqb b 125 || eqb b 124) t e)
                ]
          ]
    ]
  where
    none : (x : Bool) (t : Option ValType) → cond x (Err Float) (Err LaterFeature) ≡ Ok t → ⊥
    none true t e = cc
    none false t e = cc

pub block_type_short : Shortens block_type written_block
unfolding block_type
block_type_short = shortens_means byte block_type_of (λ b. b ∷ []) block_code block_sign shortens_byte

-- one form, and a value made of its value
pub one_made : {A B : Type 0} (f : Form A) (v : A → List ℕ) (make : A → B) → Shortens f v → (text : List ℕ) (b : B) → (f >>= λ a. give (make a)).spells text b
    → (a : A) × (b ≡ make a) × (f >>= λ a. give (make a)).spells (v a) b × (length (v a) ≤ length text)
one_made f v make sf text b s = (
  s.first,
  s.back_spells.1,
  record { first = s.first; front = v s.first; back = []; whole = sym (append-nil (v s.first)); front_spells = sf.again s.front s.first s.front_spells; back_spells = (refl, s.back_spells.1) },
  omega (arith, ap length s.whole, length-append s.front s.back, sf.shorter s.front s.first s.front_spells),
)

-- two forms, and a value made of theirs
pub two_made : {A C B : Type 0} (f : Form A) (g : Form C) (v : A → List ℕ) (w : C → List ℕ) (make : A → C → B) → Shortens f v → Shortens g w → (text : List ℕ) (b : B) → (f >>= λ a. g >>= λ c. give (make a c)).spells text b
    → (a : A) × (c : C) × (b ≡ make a c) × (f >>= λ a. g >>= λ c. give (make a c)).spells (v a ++ w c) b × (length (v a ++ w c) ≤ length text)
two_made f g v w make sf sg text b s =
    let r = s.back_spells in (
      s.first,
      r.first,
      r.back_spells.1,
      record {
        first = s.first;
        front = v s.first;
        back = w r.first;
        whole = refl;
        front_spells = sf.again s.front s.first s.front_spells;
        back_spells = record { first = r.first; front = w r.first; back = []; whole = sym (append-nil (w r.first)); front_spells = sg.again r.front r.first r.front_spells; back_spells = (refl, r.back_spells.1) };
      },
      omega (arith, length-append (v s.first) (w r.first), ap length s.whole, length-append s.front s.back, ap length r.whole, length-append r.front r.back, sf.shorter s.front s.first s.front_spells, sg.shorter r.front r.first r.front_spells),
    )

pub zero_short : Shortens zero_byte (λ _. 0 ∷ [])
zero_short = shortens_means byte (only 0 LaterFeature) (λ b. b ∷ []) (λ _. 0) (λ a b e. sym (only_is 0 LaterFeature a b e).0) shortens_byte

-- the immediates of a shape are spelled by their shortest form, which is no longer
pub record IsShort (shape : Shape) (text : List ℕ) (i : Instr) : Type 0 where
  pub again : (immediates shape).spells (written_immediates i) i
  pub shorter : length (written_immediates i) ≤ length text

abbrev pub ShortRow : ℕ × Shape → Type 0
ShortRow row = (text : List ℕ) (i : Instr) → (immediates row.1).spells text i → IsShort row.1 text i

short_by : (shape : Shape) (text w : List ℕ) (i : Instr) → written_immediates i ≡ w → (immediates shape).spells w i → length w ≤ length text → IsShort shape text i
short_by shape text w i e again le = record { again = subst (λ (t : List ℕ). (immediates shape).spells t i) (sym e) again; shorter = omega (arith, ap length e) }

alone : (k : ℕ) (i : Instr) → written_immediates i ≡ [] → ShortRow (k, Alone i)
unfolding immediates
alone k i h text j s = short_by (Alone i) text [] j (ap written_immediates s.1 ∙ h) (refl, s.1) (omega arith)

blocks : (k : ℕ) (make : Option ValType → Instr) → ((t : Option ValType) → written_immediates (make t) ≡ written_block t) → ShortRow (k, Blocks make)
unfolding immediates
blocks k make h text j s = let m = one_made block_type written_block make block_type_short text j s in short_by (Blocks make) text (written_block m.0) j (ap written_immediates m.1 ∙ h m.0) m.2 m.3

indexed : (k : ℕ) (make : ℕ → Instr) → ((n : ℕ) → written_immediates (make n) ≡ short_u32 n) → ShortRow (k, Indexed make)
unfolding immediates
indexed k make h text j s = let m = one_made u32 short_u32 make u32_short text j s in short_by (Indexed make) text (short_u32 m.0) j (ap written_immediates m.1 ∙ h m.0) m.2 m.3

labels : (k : ℕ) → ShortRow (k, Labels)
unfolding immediates
labels k text j s = let m = two_made (vector u32) u32 (written_vector short_u32) short_u32 (λ ls l. instr.BrTable ls l) (shortens_vector u32 short_u32 u32_short) u32_short text j s in short_by Labels text (written_vector short_u32 m.0 ++ short_u32 m.1) j (ap written_immediates m.2) m.3 m.4

indirect : (k : ℕ) → ShortRow (k, Indirect)
unfolding immediates
indirect k text j s = let m = two_made u32 zero_byte short_u32 (λ _. 0 ∷ []) (λ n _. instr.CallIndirect n) u32_short zero_short text j s in short_by Indirect text (short_u32 m.0 ++ (0 ∷ [])) j (ap written_immediates m.2) m.3 m.4

access : (k : ℕ) (make : ℕ → ℕ → Instr) → ((a o : ℕ) → written_immediates (make a o) ≡ short_u32 a ++ short_u32 o) → ShortRow (k, Access make)
unfolding immediates
access k make h text j s = let m = two_made u32 u32 short_u32 short_u32 make u32_short u32_short text j s in short_by (Access make) text (short_u32 m.0 ++ short_u32 m.1) j (ap written_immediates m.2 ∙ h m.0 m.1) m.3 m.4

reserved : (k : ℕ) (i : Instr) → written_immediates i ≡ 0 ∷ [] → ShortRow (k, Reserved i)
unfolding immediates
reserved k i h text j s = let m = one_made zero_byte (λ _. 0 ∷ []) (λ _. i) zero_short text j s in short_by (Reserved i) text (0 ∷ []) j (ap written_immediates m.1 ∙ h) m.2 m.3

const32 : (k : ℕ) → ShortRow (k, Const32)
unfolding immediates one_made
const32 k text j s =
    let m = one_made s32 short_s32 (λ v. instr.Const I32 v) s32_short text j s in
    let low : s.first % 2 ^ 32 ≡ s.first = omega (arith, s32_below s.front s.first s.front_spells) in
    short_by Const32 text (short_s32 m.0) j (ap written_immediates m.1 ∙ ap short_s32 low) m.2 m.3

const64 : (k : ℕ) → ShortRow (k, Const64)
unfolding immediates
const64 k text j s = let m = one_made s64 short_s64 (λ v. instr.Const I64 v) s64_short text j s in short_by Const64 text (short_s64 m.0) j (ap written_immediates m.1) m.2 m.3

accesses_are_short : AllByRecursion ShortRow accesses
accesses_are_short = (
  access 40 (instr.Load I32 4 false) (λ a o. refl),
  (
    access 41 (instr.Load I64 8 false) (λ a o. refl),
    (
      access 44 (instr.Load I32 1 true) (λ a o. refl),
      (
        access 45 (instr.Load I32 1 false) (λ a o. refl),
        (
          access 46 (instr.Load I32 2 true) (λ a o. refl),
          (
            access 47 (instr.Load I32 2 false) (λ a o. refl),
            (
              access 48 (instr.Load I64 1 true) (λ a o. refl),
              (
                access 49 (instr.Load I64 1 false) (λ a o. refl),
                (
                  access 50 (instr.Load I64 2 true) (λ a o. refl),
                  (
                    access 51 (instr.Load I64 2 false) (λ a o. refl),
                    (
                      access 52 (instr.Load I64 4 true) (λ a o. refl),
                      (
                        access 53 (instr.Load I64 4 false) (λ a o. refl),
                        (
                          access 54 (instr.Store I32 4) (λ a o. refl),
                          (
                            access 55 (instr.Store I64 8) (λ a o. refl),
                            (
                              access 58 (instr.Store I32 1) (λ a o. refl),
                              (
                                access 59 (instr.Store I32 2) (λ a o. refl),
                                (
                                  access 60 (instr.Store I64 1) (λ a o. refl),
                                  (
                                    access 61 (instr.Store I64 2) (λ a o. refl),
                                    (
                                      access 62 (instr.Store I64 4) (λ a o. refl),
                                      tt,
                                    ),
                                  ),
                                ),
                              ),
                            ),
                          ),
                        ),
                      ),
                    ),
                  ),
                ),
              ),
            ),
          ),
        ),
      ),
    ),
  ),
)

others_are_short : AllByRecursion ShortRow others
others_are_short = (
  alone 0 instr.Unreachable refl,
  (
    alone 1 instr.Nop refl,
    (
      blocks 2 instr.Block (λ t. refl),
      (
        blocks 3 instr.Loop (λ t. refl),
        (
          blocks 4 instr.If (λ t. refl),
          (
            alone 5 instr.Else refl,
            (
              alone 11 instr.End refl,
              (
                indexed 12 instr.Br (λ n. refl),
                (
                  indexed 13 instr.BrIf (λ n. refl),
                  (
                    labels 14,
                    (
                      alone 15 instr.Return refl,
                      (
                        indexed 16 instr.Call (λ n. refl),
                        (
                          indirect 17,
                          (
                            alone 26 instr.Drop refl,
                            (
                              alone 27 instr.Select refl,
                              (
                                indexed 32 instr.LocalGet (λ n. refl),
                                (
                                  indexed 33 instr.LocalSet (λ n. refl),
                                  (
                                    indexed 34 instr.LocalTee (λ n. refl),
                                    (
                                      indexed 35 instr.GlobalGet (λ n. refl),
                                      (
                                        indexed 36 instr.GlobalSet (λ n. refl),
                                        (
                                          reserved 63 instr.MemorySize refl,
                                          (
                                            reserved 64 instr.MemoryGrow refl,
                                            (
                                              const32 65,
                                              (
                                                const64 66,
                                                tt,
                                              ),
                                            ),
                                          ),
                                        ),
                                      ),
                                    ),
                                  ),
                                ),
                              ),
                            ),
                          ),
                        ),
                      ),
                    ),
                  ),
                ),
              ),
            ),
          ),
        ),
      ),
    ),
  ),
)

found_short : (b k : ℕ) (x : Shape) (t : Bool) (r : Option Shape) (shape : Shape) → ShortRow (k, x) → (r ≡ Some shape → ShortRow (b, shape)) → cond t (Some x) r ≡ Some shape → ShortRow (b, shape)
found_short b k x true r shape row rest e = let same : x ≡ shape = cc in subst (λ (y : Shape). ShortRow (b, y)) same row
found_short b k x false r shape row rest e = rest e

pub table_short : (rows : List (ℕ × Shape)) (b : ℕ) (shape : Shape) → AllByRecursion ShortRow rows → shape_at b rows ≡ Some shape → ShortRow (b, shape)
table_short [] b shape all e = absurd cc
table_short (row ∷ rows) b shape all e = found_short b row.0 row.1 (eqb b row.0) (shape_at b rows) shape all.0 (table_short rows b shape all.1) e

pub access_short : (b : ℕ) (shape : Shape) → access_of b ≡ Some shape → ShortRow (b, shape)
unfolding access_of
access_short b shape e = table_short accesses b shape accesses_are_short e

pub other_short : (b : ℕ) (shape : Shape) → other_of b ≡ Some shape → ShortRow (b, shape)
unfolding other_of
other_short b shape e = table_short others b shape others_are_short e
