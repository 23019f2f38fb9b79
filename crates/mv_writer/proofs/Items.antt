-- Each part of a module that keeps what it has to, and has its numbers and bytes in range, is spelled by a writer.
use Rattle.std.proofs.Common.{◌≡◌, ℕ, ◌+◌, ◌-◌, ◌^◌, ◌≤◌, ◌<◌, Bool, true, false, List, [], ◌∷◌, ◌++◌, length, Option, Some, None, refl, sym, subst, append_assoc, arith}
use Rattle.std.specs.Prelude.{flat_map, IfSome}
use Rattle.std.specs.List.{AllByRecursion}
use Rattle.std.specs.Str.{is_utf8}
use Rattle.std.proofs.lemmas.Bool.{le-leb}
use Rattle.std.proofs.lemmas.List.{append-nil, length-append}
use Rattle.mv_syntax.specs.declared.fault.ReadKind.TheVariants.{LaterFeature}
use Rattle.mv_syntax.specs.declared.ops.ValType.{ValType}
use Rattle.mv_syntax.specs.declared.ops.ValType.TheVariants.{I32, I64}
use Rattle.mv_syntax.specs.declared.types.FuncType.{FuncType}
use Rattle.mv_syntax.specs.declared.types.Limits.{Limits}
use Rattle.mv_syntax.specs.declared.instr.Instr.{Instr}
use Rattle.mv_syntax.specs.declared.module.Import.{Import}
use Rattle.mv_syntax.specs.declared.module.Func.{Func}
use Rattle.mv_syntax.specs.declared.module.Global.{Global}
use Rattle.mv_syntax.specs.declared.module.Export.{Export}
use Rattle.mv_syntax.specs.declared.module.Element.{Element}
use Rattle.mv_syntax.specs.declared.module.Segment.{Segment}
use Rattle.mv_syntax.specs.Types.{only, val_type, func_type, limits, limits_from}
use Rattle.mv_syntax.specs.Form.{Form}
use Rattle.mv_syntax.specs.Forms.{byte, bytes, means, at_most_one}
use Rattle.mv_syntax.specs.Numbers.{u32, name}
use Rattle.mv_syntax.specs.Instructions.{instruction}
use Rattle.mv_syntax.specs.Code.{code}
use Rattle.mv_syntax.specs.Modules.{AreBytes}
use Rattle.mv_syntax.specs.Kept.{IsSpellable, IsSoundCode, IsText, IsSoundType, IsSoundImport, IsSoundFunc, IsSoundExport}
use Rattle.mv_syntax.specs.Parts.{is_mutable, import_, table, memory, global, export, element, segment, run, runs, body, func}
use Rattle.mv_writer.specs.Written.{short_u32, written_vector, behind_size, written_option, count_of, written_type, written_func_type, flag, written_limits, written_table, written_instruction, written_code, written_import, written_global, written_export, written_element, written_segment, runs_of, written_run, written_body, written_func}
use Rattle.mv_writer.specs.Writable.{InstrInRange, CodeInRange, ImportInRange, FuncInRange, LimitsInRange, ExportInRange, ElementInRange, SegmentInRange}
use Rattle.mv_writer.proofs.ShortForms.{Shortens, u32_made, u32_few, some_group, func_type_short}
use Rattle.mv_writer.proofs.ShortParts.{import_short, global_short, export_short, element_short, segment_short}
use Rattle.mv_writer.proofs.ShortRuns.{body_short}
use Rattle.mv_writer.proofs.Small.{Small, small_append, bytes_small, small_u32, small_sized}
use Rattle.mv_writer.proofs.Encoded.{Encodes, AllEncode, many_made, many_small, vector_encoded, count_few, each_encoded, numbers_encoded, instr_written}

abbrev no_bytes : List ℕ
no_bytes = []

by_text : {A : Type 0} (f : Form A) (w : A → List ℕ) → Shortens f w → (text : List ℕ) (a : A) → f.spells text a → Small (w a) → Encodes f w a
by_text f w sf text a s h = record { spelled = sf.again text a s; small = h }

-- ## Code

each_written : (c : List Instr) → AllByRecursion IsSpellable c → CodeInRange c → length (written_code c) < 2 ^ 32 → AllEncode instruction written_instruction c
each_written c s h lt = each_encoded instruction written_instruction IsSpellable InstrInRange instr_written c s h lt

pub code_written : (c : List Instr) → IsSoundCode c → CodeInRange c → length (written_code c) < 2 ^ 32 → Encodes code written_code c
unfolding code
code_written c s h lt =
    let each = each_written c s.spellable h lt in
    record { spelled = record { body = s.closed; each = many_made instruction written_instruction c each }; small = many_small instruction written_instruction c each }

-- ## Types

small_type : (t : ValType) → Small (written_type t)
small_type I32 = (omega arith, tt)
small_type I64 = (omega arith, tt)

type_made : (t : ValType) → val_type.spells (written_type t) t
unfolding val_type byte
type_made I32 = record { sign = 127; spelled = refl; meant = refl }
type_made I64 = record { sign = 126; spelled = refl; meant = refl }

types_encoded : (ts : List ValType) → AllEncode val_type written_type ts
types_encoded [] = tt
types_encoded (t ∷ ts) = (record { spelled = type_made t; small = small_type t }, types_encoded ts)

result_made : (r : Option ValType) → (at_most_one val_type (count_of r)).spells (written_option written_type r) r
unfolding at_most_one
result_made None = (refl, refl)
result_made (Some t) = record { first = t; front = written_type t; back = []; whole = sym (append-nil (written_type t)); front_spells = type_made t; back_spells = (refl, refl) }

one_result : (r : Option ValType) → count_of r ≤ 1
one_result None = omega arith
one_result (Some t) = omega arith

result_small : (r : Option ValType) → Small (written_option written_type r)
result_small None = tt
result_small (Some t) = small_type t

abbrev signature_text : List ValType → Option ValType → List ℕ
signature_text ps r = (96 ∷ []) ++ (short_u32 (length ps) ++ (flat_map written_type ps ++ (short_u32 (count_of r) ++ (written_option written_type r ++ []))))

signature_made : (ps : List ValType) (r : Option ValType) → length ps ≤ 1000 → func_type.spells (signature_text ps r) (record { params = ps; result = r })
unfolding func_type byte
signature_made ps r le = record {
  first = 96;
  front = 96 ∷ [];
  back = short_u32 (length ps) ++ (flat_map written_type ps ++ (short_u32 (count_of r) ++ (written_option written_type r ++ [])));
  whole = refl;
  front_spells = record { sign = 96; spelled = refl; meant = refl };
  back_spells = record {
    first = length ps;
    front = short_u32 (length ps);
    back = flat_map written_type ps ++ (short_u32 (count_of r) ++ (written_option written_type r ++ []));
    whole = refl;
    front_spells = record { sign = length ps; spelled = u32_made (length ps) (omega arith); meant = rw (le-leb (length ps) 1000 le) refl };
    back_spells = record {
      first = ps;
      front = flat_map written_type ps;
      back = short_u32 (count_of r) ++ (written_option written_type r ++ []);
      whole = refl;
      front_spells = many_made val_type written_type ps (types_encoded ps);
      back_spells = record {
        first = count_of r;
        front = short_u32 (count_of r);
        back = written_option written_type r ++ [];
        whole = refl;
        front_spells = record { sign = count_of r; spelled = u32_made (count_of r) (omega (arith, one_result r)); meant = rw (le-leb (count_of r) 1 (one_result r)) refl };
        back_spells = record { first = r; front = written_option written_type r; back = []; whole = refl; front_spells = result_made r; back_spells = (refl, refl) };
      };
    };
  };
}

pub signature_written : (t : FuncType) → IsSoundType t → Encodes func_type written_func_type t
signature_written t le = by_text func_type written_func_type func_type_short (signature_text t.params t.result) t (signature_made t.params t.result le)
    (small_append (96 ∷ written_vector written_type t.params ++ short_u32 (count_of t.result)) (written_option written_type t.result)
    (small_append (96 ∷ written_vector written_type t.params) (short_u32 (count_of t.result)) (omega arith, small_append (short_u32 (length t.params)) (flat_map written_type t.params) (small_u32 (length t.params)) (many_small val_type written_type t.params (types_encoded t.params))) (small_u32 (count_of t.result)))
    (result_small t.result))

-- ## Names, imports, exports

name_made : (t : List ℕ) → is_utf8 t ≡ true → length t < 2 ^ 32 → name.spells (behind_size t) t
unfolding name bytes
name_made t utf8 lt = record { first = length t; front = short_u32 (length t); back = t; whole = refl; front_spells = u32_made (length t) lt; back_spells = record { sign = t; spelled = (refl, refl); meant = rw utf8 refl } }

name_written : (t : List ℕ) → IsText t → AreBytes t → length (behind_size t) < 2 ^ 32 → Encodes name behind_size t
name_written t utf8 h lt = record { spelled = name_made t utf8 (omega (arith, lt, length-append (short_u32 (length t)) t)); small = small_sized t (bytes_small t h) }

pub import_written : (i : Import) → IsSoundImport i → ImportInRange i → length (written_import i) < 2 ^ 32 → Encodes import_ written_import i
unfolding import_ byte
import_written i k h lt =
    let size : length (behind_size i.«module») + length (behind_size i.name) < 2 ^ 32 = omega (arith, lt, length-append (behind_size i.«module» ++ behind_size i.name) (0 ∷ short_u32 i.ftype), length-append (behind_size i.«module») (behind_size i.name)) in
    let m = name_written i.«module» k.module_is h.module_is (omega (arith, size)) in
    let n = name_written i.name k.name_is h.name_is (omega (arith, size)) in
    by_text import_ written_import import_short (behind_size i.«module» ++ (behind_size i.name ++ ((0 ∷ []) ++ (short_u32 i.ftype ++ [])))) i
    (record {
      first = i.«module»;
      front = behind_size i.«module»;
      back = behind_size i.name ++ ((0 ∷ []) ++ (short_u32 i.ftype ++ []));
      whole = refl;
      front_spells = m.spelled;
      back_spells = record {
        first = i.name;
        front = behind_size i.name;
        back = (0 ∷ []) ++ (short_u32 i.ftype ++ []);
        whole = refl;
        front_spells = n.spelled;
        back_spells = record {
          first = 0;
          front = 0 ∷ [];
          back = short_u32 i.ftype ++ [];
          whole = refl;
          front_spells = record { sign = 0; spelled = refl; meant = refl };
          back_spells = record { first = i.ftype; front = short_u32 i.ftype; back = []; whole = refl; front_spells = u32_made i.ftype h.type_is; back_spells = (refl, refl) };
        };
      };
    })
    (small_append (behind_size i.«module» ++ behind_size i.name) (0 ∷ short_u32 i.ftype) (small_append (behind_size i.«module») (behind_size i.name) m.small n.small) (omega arith, small_u32 i.ftype))

pub export_written : (x : Export) → IsSoundExport x → ExportInRange x → length (written_export x) < 2 ^ 32 → Encodes export written_export x
unfolding export byte
export_written x k h lt =
    let n = name_written x.name k.name_is h.name_is (omega (arith, lt, length-append (behind_size x.name) (x.kind ∷ short_u32 x.index))) in
    let le : x.kind ≤ 3 = k.kind_is in
    by_text export written_export export_short (behind_size x.name ++ ((x.kind ∷ []) ++ (short_u32 x.index ++ []))) x
    (record {
      first = x.name;
      front = behind_size x.name;
      back = (x.kind ∷ []) ++ (short_u32 x.index ++ []);
      whole = refl;
      front_spells = n.spelled;
      back_spells = record {
        first = x.kind;
        front = x.kind ∷ [];
        back = short_u32 x.index ++ [];
        whole = refl;
        front_spells = record { sign = x.kind; spelled = refl; meant = rw (le-leb x.kind 3 le) refl };
        back_spells = record { first = x.index; front = short_u32 x.index; back = []; whole = refl; front_spells = u32_made x.index h.index_is; back_spells = (refl, refl) };
      };
    })
    (small_append (behind_size x.name) (x.kind ∷ short_u32 x.index) n.small (omega arith, small_u32 x.index))

-- ## Globals, elements, data

flag_small : (b : Bool) → flag b < 256
flag_small true = omega arith
flag_small false = omega arith

mutable_made : (b : Bool) → (means byte is_mutable).spells (flag b ∷ []) b
unfolding byte
mutable_made true = record { sign = 1; spelled = refl; meant = refl }
mutable_made false = record { sign = 0; spelled = refl; meant = refl }

pub global_written : (g : Global) → IsSoundCode g.init → CodeInRange g.init → length (written_global g) < 2 ^ 32 → Encodes global written_global g
unfolding global
global_written g k h lt =
    let c = code_written g.init k h (omega (arith, lt)) in
    by_text global written_global global_short (written_type g.vtype ++ ((flag g.mutable ∷ []) ++ (written_code g.init ++ []))) g
    (record {
      first = g.vtype;
      front = written_type g.vtype;
      back = (flag g.mutable ∷ []) ++ (written_code g.init ++ []);
      whole = refl;
      front_spells = type_made g.vtype;
      back_spells = record {
        first = g.mutable;
        front = flag g.mutable ∷ [];
        back = written_code g.init ++ [];
        whole = refl;
        front_spells = mutable_made g.mutable;
        back_spells = record { first = g.init; front = written_code g.init; back = []; whole = refl; front_spells = c.spelled; back_spells = (refl, refl) };
      };
    })
    ((small_type g.vtype).0, (flag_small g.mutable, c.small))

zero_number : (means u32 (only 0 LaterFeature)).spells (short_u32 0) 0
zero_number = record { sign = 0; spelled = u32_made 0 (omega arith); meant = refl }

pub element_written : (e : Element) → IsSoundCode e.offset → ElementInRange e → length (written_element e) < 2 ^ 32 → Encodes element written_element e
unfolding element
element_written e k h lt =
    let t : List ℕ = written_code e.offset in
    let size : length t + length (written_vector short_u32 e.funcs) < 2 ^ 32 = omega (arith, lt, length-append t (written_vector short_u32 e.funcs)) in
    let c = code_written e.offset k h.offset_is (omega (arith, size)) in
    let few : length e.funcs < 2 ^ 32 = omega (arith, size, length-append (short_u32 (length e.funcs)) (flat_map short_u32 e.funcs), count_few short_u32 some_group e.funcs) in
    let v = vector_encoded u32 short_u32 e.funcs few (numbers_encoded e.funcs h.funcs_are) in
    by_text element written_element element_short (short_u32 0 ++ (t ++ (written_vector short_u32 e.funcs ++ []))) e
    (record {
      first = 0;
      front = short_u32 0;
      back = t ++ (written_vector short_u32 e.funcs ++ []);
      whole = refl;
      front_spells = zero_number;
      back_spells = record {
        first = e.offset;
        front = t;
        back = written_vector short_u32 e.funcs ++ [];
        whole = refl;
        front_spells = c.spelled;
        back_spells = record { first = e.funcs; front = written_vector short_u32 e.funcs; back = []; whole = refl; front_spells = v.spelled; back_spells = (refl, refl) };
      };
    })
    (small_append (0 ∷ t) (written_vector short_u32 e.funcs) (omega arith, c.small) v.small)

pub segment_written : (s : Segment) → IsSoundCode s.offset → SegmentInRange s → length (written_segment s) < 2 ^ 32 → Encodes segment written_segment s
unfolding segment bytes
segment_written s k h lt =
    let t : List ℕ = written_code s.offset in
    let size : length t + length s.bytes < 2 ^ 32 = omega (arith, lt, length-append t (behind_size s.bytes), length-append (short_u32 (length s.bytes)) s.bytes) in
    let c = code_written s.offset k h.offset_is (omega (arith, size)) in
    by_text segment written_segment segment_short (short_u32 0 ++ (t ++ (short_u32 (length s.bytes) ++ (s.bytes ++ [])))) s
    (record {
      first = 0;
      front = short_u32 0;
      back = t ++ (short_u32 (length s.bytes) ++ (s.bytes ++ []));
      whole = refl;
      front_spells = zero_number;
      back_spells = record {
        first = s.offset;
        front = t;
        back = short_u32 (length s.bytes) ++ (s.bytes ++ []);
        whole = refl;
        front_spells = c.spelled;
        back_spells = record {
          first = length s.bytes;
          front = short_u32 (length s.bytes);
          back = s.bytes ++ [];
          whole = refl;
          front_spells = u32_made (length s.bytes) (omega (arith, size));
          back_spells = record { first = s.bytes; front = s.bytes; back = []; whole = refl; front_spells = (refl, refl); back_spells = (refl, refl) };
        };
      };
    })
    (small_append (0 ∷ t) (behind_size s.bytes) (omega arith, c.small) (small_sized s.bytes (bytes_small s.bytes h.bytes_are)))

-- ## Limits

limits_made : (most min : ℕ) (max : Option ℕ) → most < 2 ^ 32 → min ≤ most → IfSome max (λ n. n < 2 ^ 32) → (limits most).spells (written_limits (record { min = min; max = max })) (record { min = min; max = max })
unfolding limits limits_from byte
limits_made most min None small le lt = record {
  first = false;
  front = 0 ∷ [];
  back = short_u32 min ++ [];
  whole = refl;
  front_spells = record { sign = 0; spelled = refl; meant = refl };
  back_spells = record { first = min; front = short_u32 min; back = []; whole = refl; front_spells = record { sign = min; spelled = u32_made min (omega arith); meant = rw (le-leb min most le) refl }; back_spells = (refl, refl) };
}
limits_made most min (Some n) small le lt = record {
  first = true;
  front = 1 ∷ [];
  back = short_u32 min ++ short_u32 n;
  whole = refl;
  front_spells = record { sign = 1; spelled = refl; meant = refl };
  back_spells = record {
    first = min;
    front = short_u32 min;
    back = short_u32 n;
    whole = refl;
    front_spells = record { sign = min; spelled = u32_made min (omega arith); meant = rw (le-leb min most le) refl };
    back_spells = record { first = n; front = short_u32 n; back = []; whole = sym (append-nil (short_u32 n)); front_spells = u32_made n lt; back_spells = (refl, refl) };
  };
}

pub table_written : (l : Limits) → l.min ≤ 65536 → LimitsInRange l → table.spells (written_table l) l
unfolding table byte
table_written l le lt = record { first = 112; front = 112 ∷ []; back = written_limits l; whole = refl; front_spells = record { sign = 112; spelled = refl; meant = refl }; back_spells = limits_made 65536 l.min l.max (omega arith) le lt }

pub memory_written : (l : Limits) → l.min ≤ 1024 → LimitsInRange l → memory.spells (written_limits l) l
unfolding memory
memory_written l le lt = limits_made 1024 l.min l.max (omega arith) le lt

limits_of : (min : ℕ) (max : Option ℕ) → (length (written_limits (record { min = min; max = max })) ≤ 11) × Small (written_limits (record { min = min; max = max }))
limits_of min None = (omega (arith, length-append (short_u32 min) no_bytes, u32_few min), small_append (0 ∷ short_u32 min) [] (omega arith, small_u32 min) tt)
limits_of min (Some n) = (omega (arith, length-append (short_u32 min) (short_u32 n), u32_few min, u32_few n), small_append (1 ∷ short_u32 min) (short_u32 n) (omega arith, small_u32 min) (small_u32 n))

pub limits_few : (l : Limits) → length (written_limits l) ≤ 11
limits_few l = (limits_of l.min l.max).0

pub limits_small : (l : Limits) → Small (written_limits l)
limits_small l = (limits_of l.min l.max).1

-- ## Functions

-- each local in a run of its own
abbrev one_local : ValType → List ℕ
one_local t = short_u32 1 ++ written_type t

locals_made : (ls before : List ValType) → length before + length ls ≤ 10000 → (runs (length ls) before).spells (flat_map one_local ls) (before ++ ls)
unfolding runs run
locals_made [] before le = (refl, append-nil before)
locals_made (t ∷ ls) before le =
    let rest = locals_made ls (before ++ t ∷ []) (omega (arith, length-append before (t ∷ []))) in
    let same : (before ++ t ∷ []) ++ ls ≡ before ++ (t ∷ ls) = append_assoc before (t ∷ []) ls in
    let room : 1 ≤ 10000 - length before = omega arith in
    record {
      first = before ++ t ∷ [];
      front = one_local t;
      back = flat_map one_local ls;
      whole = refl;
      front_spells = record {
        first = 1;
        front = short_u32 1;
        back = written_type t;
        whole = refl;
        front_spells = record { sign = 1; spelled = u32_made 1 (omega arith); meant = rw (le-leb 1 (10000 - length before) room) refl };
        back_spells = record { first = t; front = written_type t; back = []; whole = refl; front_spells = type_made t; back_spells = (refl, refl) };
      };
      back_spells = subst (λ (x : List ValType). (runs (length ls) (before ++ t ∷ [])).spells (flat_map one_local ls) x) same rest;
    }

runs_small : (rs : List (ℕ × ValType)) → Small (flat_map written_run rs)
runs_small [] = tt
runs_small (r ∷ rs) = small_append (written_run r) (flat_map written_run rs) (small_append (short_u32 r.0) (written_type r.1) (small_u32 r.0) (small_type r.1)) (runs_small rs)

abbrev body_text : Func → List ℕ
body_text f = short_u32 (length f.locals) ++ (flat_map one_local f.locals ++ (written_code f.code ++ []))

body_made : (f : Func) → length f.locals ≤ 10000 → code.spells (written_code f.code) f.code → (body f.ftype).spells (body_text f) f
unfolding body
body_made f le c = record {
  first = length f.locals;
  front = short_u32 (length f.locals);
  back = flat_map one_local f.locals ++ (written_code f.code ++ []);
  whole = refl;
  front_spells = u32_made (length f.locals) (omega arith);
  back_spells = record {
    first = f.locals;
    front = flat_map one_local f.locals;
    back = written_code f.code ++ [];
    whole = refl;
    front_spells = locals_made f.locals [] (omega arith);
    back_spells = record { first = f.code; front = written_code f.code; back = []; whole = refl; front_spells = c; back_spells = (refl, refl) };
  };
}

locals_small : (f : Func) → Small (written_vector written_run (runs_of f.locals))
locals_small f = small_append (short_u32 (length (runs_of f.locals))) (flat_map written_run (runs_of f.locals)) (small_u32 (length (runs_of f.locals))) (runs_small (runs_of f.locals))

pub func_written : (f : Func) → IsSoundFunc f → FuncInRange f → length (written_func f) < 2 ^ 32 → Encodes (func f.ftype) written_func f
unfolding func
func_written f k h lt =
    let t : List ℕ = written_body f in
    let few : length t < 2 ^ 32 = omega (arith, lt, length-append (short_u32 (length t)) t) in
    let c = code_written f.code k.code_is h.code_is (omega (arith, few, length-append (written_vector written_run (runs_of f.locals)) (written_code f.code))) in
    record {
      spelled = record { first = length t; front = short_u32 (length t); back = t; whole = refl; front_spells = u32_made (length t) few; back_spells = ((body_short f.ftype).again (body_text f) f (body_made f k.locals_are c.spelled), refl) };
      small = small_sized t (small_append (written_vector written_run (runs_of f.locals)) (written_code f.code) (locals_small f) c.small);
    }
