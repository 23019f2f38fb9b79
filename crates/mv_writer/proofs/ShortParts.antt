-- The parts of a module in their shortest form.
use Rattle.std.proofs.Common.{◌≡◌, ℕ, Bool, true, false, cond, eqb, ◌||◌, List, [], ◌∷◌, ◌++◌, length, Result, Ok, Err, Some, refl, sym, ap, subst, ◌∙◌, append_assoc, arith, ◌⊎◌, inl, inr}
use Rattle.std.specs.Option.{is_some}
use Rattle.std.proofs.lemmas.Bool.{eqb-true}
use Rattle.std.proofs.lemmas.List.{append-nil, length-append}
use Rattle.mv_syntax.specs.declared.fault.ReadKind.{ReadKind}
use Rattle.mv_syntax.specs.declared.fault.ReadKind.TheVariants.{Utf8, Float, Kind, LaterFeature, Limit}
use Rattle.mv_syntax.specs.declared.types.Limits.{Limits}
use Rattle.mv_syntax.specs.declared.module.Import.{Import}
use Rattle.mv_syntax.specs.declared.module.Global.{Global}
use Rattle.mv_syntax.specs.declared.module.Export.{Export}
use Rattle.mv_syntax.specs.declared.module.Element.{Element}
use Rattle.mv_syntax.specs.declared.module.Segment.{Segment}
use Rattle.std.specs.Str.{is_utf8}
use Rattle.mv_syntax.specs.Forms.{byte, bytes, means}
use Rattle.mv_syntax.specs.Numbers.{u32, text_of, name}
use Rattle.mv_syntax.specs.Types.{vector, up_to, only, val_type, limits_mark, limits_from, limits}
use Rattle.mv_syntax.specs.Code.{code}
use Rattle.mv_syntax.specs.Parts.{import_, elem_type_of, table, memory, is_mutable, global, export, element, segment}
use Rattle.mv_writer.specs.Written.{short_u32, written_vector, behind_size, written_option, written_type, flag, written_limits, written_table, written_code, written_import, written_global, written_export, written_element, written_segment}
use Rattle.mv_writer.proofs.ShortForms.{Shortens, shortens_give, shortens_then, shortens_means, shortens_byte, shortens_as, shortens_vector, val_type_short, u32_short, only_is, only_short, up_to_is, up_to_short}
use Rattle.mv_writer.proofs.ShortInstructions.{code_short}

pub bytes_short : (n : ℕ) → Shortens (bytes n) (λ t. t)
unfolding bytes
bytes_short n = record { again = λ text t s. (refl, ap length s.0 ∙ s.1); shorter = λ text t s. omega (arith, ap length s.0) }

pub length_bytes : (n : ℕ) (text t : List ℕ) → (bytes n).spells text t → length t ≡ n
unfolding bytes
length_bytes n text t s = ap length s.0 ∙ s.1

text_is : (x : Bool) (text t : List ℕ) → cond x (Ok text) (Err Utf8) ≡ Ok t → t ≡ text
text_is true text t e = cc
text_is false text t e = absurd cc

pub name_short : Shortens name behind_size
unfolding name
name_short = shortens_then u32 (λ n. means (bytes n) text_of) short_u32 (λ t. t) length
    (λ n front back t p q. ap length (text_is (is_utf8 q.sign) q.sign t q.meant) ∙ length_bytes n back q.sign q.spelled) u32_short
    (λ n. shortens_means (bytes n) text_of (λ t. t) (λ t. t) (λ a b e. text_is (is_utf8 a) a b e) (bytes_short n))

import_parts : Shortens import_ (λ x. behind_size x.«module» ++ (behind_size x.name ++ ((0 ∷ []) ++ (short_u32 x.ftype ++ []))))
unfolding import_
import_parts =
    shortens_then name _ behind_size _ (λ (x : Import). x.«module») (λ m front back x p q. ap (λ (x : Import). x.«module») q.back_spells.back_spells.back_spells.1) name_short (λ m.
    shortens_then name _ behind_size _ (λ (x : Import). x.name) (λ n front back x p q. ap (λ (x : Import). x.name) q.back_spells.back_spells.1) name_short (λ n.
    shortens_then (means byte (only 0 Kind)) _ (λ b. b ∷ []) _ (λ (x : Import). 0) (λ b front back x p q. sym ((only_is 0 Kind p.sign b p.meant).1 ∙ (only_is 0 Kind p.sign b p.meant).0)) (only_short 0 Kind) (λ b.
    shortens_then u32 _ short_u32 _ (λ (x : Import). x.ftype) (λ t front back x p q. ap (λ (x : Import). x.ftype) q.1) u32_short (λ t.
    shortens_give (record { «module» = m; name = n; ftype = t })))))

pub import_short : Shortens import_ written_import
import_short = shortens_as import_ _ written_import (λ x. simp (append_assoc, append-nil) refl) import_parts

if_ok : {B : Type 0} (t : Bool) (x : B) (r : Result B ReadKind) (b : B) → cond t (Ok x) r ≡ Ok b → ((t ≡ true) × (x ≡ b)) ⊎ (r ≡ Ok b)
if_ok true x r b e = inl (refl, cc)
if_ok false x r b e = inr e

zero_or_one : (kind_ : ReadKind) (b : ℕ) (t : Bool) → cond (eqb b 0) (Ok false) (cond (eqb b 1) (Ok true) (Err kind_)) ≡ Ok t → flag t ≡ b
zero_or_one k b t e =
    elim (if_ok (eqb b 0) false _ t e) [
      | inl p ↦ ap flag (sym p.1) ∙ sym (eqb-true _ _ p.0)
      | inr e ↦
          elim (if_ok (eqb b 1) true _ t e) [ inl p ↦ ap flag (sym p.1) ∙ sym (eqb-true _ _ p.0) | inr e ↦ absurd (none t e) ]
    ]
  where
    none : (t : Bool) → Err k ≡ Ok t → ⊥
    none t e = cc

global_parts : Shortens global (λ g. written_type g.vtype ++ ((flag g.mutable ∷ []) ++ (written_code g.init ++ [])))
unfolding global
global_parts =
    shortens_then val_type _ written_type _ (λ (g : Global). g.vtype) (λ t front back g p q. ap (λ (g : Global). g.vtype) q.back_spells.back_spells.1) val_type_short (λ t.
    shortens_then (means byte is_mutable) _ (λ m. flag m ∷ []) _ (λ (g : Global). g.mutable) (λ m front back g p q. ap (λ (g : Global). g.mutable) q.back_spells.1) (shortens_means byte is_mutable (λ b. b ∷ []) flag (λ b m e. zero_or_one Kind b m e) shortens_byte) (λ m.
    shortens_then code _ written_code _ (λ (g : Global). g.init) (λ c front back g p q. ap (λ (g : Global). g.init) q.1) code_short (λ c.
    shortens_give (record { vtype = t; mutable = m; init = c }))))

pub global_short : Shortens global written_global
global_short = shortens_as global _ written_global (λ x. simp append-nil refl) global_parts

export_parts : Shortens export (λ x. behind_size x.name ++ ((x.kind ∷ []) ++ (short_u32 x.index ++ [])))
unfolding export
export_parts =
    shortens_then name _ behind_size _ (λ (x : Export). x.name) (λ n front back x p q. ap (λ (x : Export). x.name) q.back_spells.back_spells.1) name_short (λ n.
    shortens_then (means byte (up_to 3 Kind)) _ (λ b. b ∷ []) _ (λ (x : Export). x.kind) (λ k front back x p q. ap (λ (x : Export). x.kind) q.back_spells.1) (shortens_means byte (up_to 3 Kind) (λ b. b ∷ []) (λ b. b) (λ a b e. up_to_is 3 Kind a b e) shortens_byte) (λ k.
    shortens_then u32 _ short_u32 _ (λ (x : Export). x.index) (λ i front back x p q. ap (λ (x : Export). x.index) q.1) u32_short (λ i.
    shortens_give (record { name = n; kind = k; index = i }))))

pub export_short : Shortens export written_export
export_short = shortens_as export _ written_export (λ x. simp (append_assoc, append-nil) refl) export_parts

zero_is : short_u32 0 ≡ 0 ∷ []
unfolding short_u32
zero_is = refl

zero_number : Shortens (means u32 (only 0 LaterFeature)) short_u32
zero_number = shortens_means u32 (only 0 LaterFeature) short_u32 (λ b. b) (λ a b e. (only_is 0 LaterFeature a b e).1) u32_short

element_parts : Shortens element (λ x. short_u32 0 ++ (written_code x.offset ++ (written_vector short_u32 x.funcs ++ [])))
unfolding element
element_parts =
    shortens_then (means u32 (only 0 LaterFeature)) _ short_u32 _ (λ (x : Element). 0) (λ b front back x p q. sym ((only_is 0 LaterFeature p.sign b p.meant).1 ∙ (only_is 0 LaterFeature p.sign b p.meant).0)) zero_number (λ b.
    shortens_then code _ written_code _ (λ (x : Element). x.offset) (λ c front back x p q. ap (λ (x : Element). x.offset) q.back_spells.1) code_short (λ c.
    shortens_then (vector u32) _ (written_vector short_u32) _ (λ (x : Element). x.funcs) (λ fs front back x p q. ap (λ (x : Element). x.funcs) q.1) (shortens_vector u32 short_u32 u32_short) (λ fs.
    shortens_give (record { offset = c; funcs = fs }))))

pub element_short : Shortens element written_element
element_short = shortens_as element _ written_element (λ x. simp (zero_is, append_assoc, append-nil) refl) element_parts

segment_parts : Shortens segment (λ x. short_u32 0 ++ (written_code x.offset ++ (short_u32 (length x.bytes) ++ (x.bytes ++ []))))
unfolding segment
segment_parts =
    shortens_then (means u32 (only 0 LaterFeature)) _ short_u32 _ (λ (x : Segment). 0) (λ b front back x p q. sym ((only_is 0 LaterFeature p.sign b p.meant).1 ∙ (only_is 0 LaterFeature p.sign b p.meant).0)) zero_number (λ b.
    shortens_then code _ written_code _ (λ (x : Segment). x.offset) (λ c front back x p q. ap (λ (x : Segment). x.offset) q.back_spells.back_spells.1) code_short (λ c.
    shortens_then u32 _ short_u32 _ (λ (x : Segment). length x.bytes) (λ n front back x p q. ap (λ (x : Segment). length x.bytes) q.back_spells.1 ∙ length_bytes n q.front q.first q.front_spells) u32_short (λ n.
    shortens_then (bytes n) _ (λ t. t) _ (λ (x : Segment). x.bytes) (λ t front back x p q. ap (λ (x : Segment). x.bytes) q.1) (bytes_short n) (λ t.
    shortens_give (record { offset = c; bytes = t })))))

pub segment_short : Shortens segment written_segment
segment_short = shortens_as segment _ written_segment (λ x. simp (zero_is, append-nil) refl) segment_parts

-- ---- limits

abbrev most_of : Limits → List ℕ
most_of l = written_option short_u32 l.max

limits_from_short : (bounded : Bool) (min : ℕ) → Shortens (limits_from bounded min) most_of
unfolding limits_from
limits_from_short false min = record {
  again = λ text l s. (ap most_of s.1, s.1);
  shorter = λ text l s. omega (arith, ap length (ap most_of s.1));
}
limits_from_short true min = record {
  again = λ text l s.
      let made : (limits_from true min).spells (short_u32 s.first) (record { min = min; max = Some s.first }) =
      record { first = s.first; front = short_u32 s.first; back = []; whole = sym (append-nil (short_u32 s.first)); front_spells = u32_short.again s.front s.first s.front_spells; back_spells = (refl, refl) } in
      subst (λ (x : Limits). (limits_from true min).spells (most_of x) x) (sym s.back_spells.1) made;
  shorter = λ text l s. omega (arith, ap length (ap most_of s.back_spells.1), ap length s.whole, length-append s.front s.back, u32_short.shorter s.front s.first s.front_spells);
}

limits_from_is : (bounded : Bool) (min : ℕ) (text : List ℕ) (l : Limits) → (limits_from bounded min).spells text l → (is_some l.max ≡ bounded) × (l.min ≡ min)
unfolding limits_from
limits_from_is false min text l s = (ap (λ (x : Limits). is_some x.max) s.1, ap (λ (x : Limits). x.min) s.1)
limits_from_is true min text l s = (ap (λ (x : Limits). is_some x.max) s.back_spells.1, ap (λ (x : Limits). x.min) s.back_spells.1)

pub limits_short : (most : ℕ) → Shortens (limits most) written_limits
unfolding limits
limits_short most =
    shortens_then (means byte limits_mark) _ (λ b. flag b ∷ []) (λ (l : Limits). short_u32 l.min ++ most_of l) (λ (l : Limits). is_some l.max)
    (λ b front back l p q. (limits_from_is b q.first q.back l q.back_spells).0) (shortens_means byte limits_mark (λ b. b ∷ []) flag (λ b t e. zero_or_one LaterFeature b t e) shortens_byte) (λ bounded.
    shortens_then (means u32 (up_to most Limit)) _ short_u32 most_of (λ (l : Limits). l.min)
    (λ min front back l p q. (limits_from_is bounded min back l q).1) (up_to_short most Limit) (λ min.
    limits_from_short bounded min))

elem_type_sign : (b t : ℕ) → elem_type_of b ≡ Ok t → (112 ≡ b) × (t ≡ b)
elem_type_sign b t e = elim (if_ok (eqb b 112) b _ t e) [
  | inl p ↦ (sym (eqb-true _ _ p.0), sym p.1)
  | inr e ↦ absurd (none (eqb b 125 || eqb b 124) t e)
]
  where
    none : (x : Bool) (t : ℕ) → cond x (Err Float) (Err LaterFeature) ≡ Ok t → ⊥
    none true t e = cc
    none false t e = cc

pub table_short : Shortens table written_table
unfolding table
table_short =
    shortens_then (means byte elem_type_of) _ (λ _. 112 ∷ []) written_limits (λ (l : Limits). 112) (λ b front back l p q. (elem_type_sign p.sign b p.meant).0 ∙ sym (elem_type_sign p.sign b p.meant).1)
    (shortens_means byte elem_type_of (λ b. b ∷ []) (λ _. 112) (λ b t e. (elem_type_sign b t e).0) shortens_byte) (λ _.
    limits_short 65536)

pub memory_short : Shortens memory written_limits
unfolding memory
memory_short = limits_short 1024
