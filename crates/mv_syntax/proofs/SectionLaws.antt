-- What is read as a section is spelled so, and what is spelled so is read.
use Rattle.std.proofs.Common.{ℕ, zero, suc, ◌-◌, ◌++◌, eqb, List, [], length, replicate}
use Rattle.mv_syntax.specs.declared.ops.ValType.{ValType}
use Rattle.mv_syntax.specs.declared.fault.ReadKind.TheVariants.{Magic, Kind, LaterFeature, Limit, Count}
use Rattle.mv_syntax.specs.Types.{up_to, only}
use Rattle.mv_syntax.specs.Parts.{import_, elem_type_of, table, memory, is_mutable, global, export, element, segment, run, runs, body, func}
use Rattle.mv_syntax.specs.Sections.{Sections, next_id, Holding, Types, Imports, Functions, Tables, Memories, Globals, Exports, Start, Elements, Bodies, Data, holding, contents, section, magic, preamble}
use Rattle.mv_syntax.proofs.FormLaws.{Agrees, give_agrees, then_agrees, byte_agrees, means_agrees, choose_agrees, bytes_agrees, sized_agrees, clipped_agrees, headed_agrees, each_agrees, at_most_one_agrees}
use Rattle.mv_syntax.proofs.InstructionLaws.{u32_agrees, name_agrees, vector_agrees, val_type_agrees, func_type_agrees, limits_agrees}
use Rattle.mv_syntax.proofs.CodeLaws.{code_agrees}

-- ---- what the sections hold

import_agrees : Agrees import_
unfolding import_
import_agrees =
    then_agrees name_agrees (λ m.
    then_agrees name_agrees (λ n.
    then_agrees (means_agrees byte_agrees (only 0 Kind)) (λ mark.
    then_agrees u32_agrees (λ t.
    give_agrees (record { «module» = m; name = n; ftype = t })))))

table_agrees : Agrees table
unfolding table
table_agrees = then_agrees (means_agrees byte_agrees elem_type_of) (λ mark. limits_agrees 65536)

memory_agrees : Agrees memory
unfolding memory
memory_agrees = limits_agrees 1024

global_agrees : Agrees global
unfolding global
global_agrees =
    then_agrees val_type_agrees (λ t.
    then_agrees (means_agrees byte_agrees is_mutable) (λ m.
    then_agrees code_agrees (λ c.
    give_agrees (record { vtype = t; mutable = m; init = c }))))

export_agrees : Agrees export
unfolding export
export_agrees =
    then_agrees name_agrees (λ n.
    then_agrees (means_agrees byte_agrees (up_to 3 Kind)) (λ k.
    then_agrees u32_agrees (λ i.
    give_agrees (record { name = n; kind = k; index = i }))))

element_agrees : Agrees element
unfolding element
element_agrees =
    then_agrees (means_agrees u32_agrees (only 0 LaterFeature)) (λ mark.
    then_agrees code_agrees (λ c.
    then_agrees (vector_agrees u32_agrees) (λ fs.
    give_agrees (record { offset = c; funcs = fs }))))

segment_agrees : Agrees segment
unfolding segment
segment_agrees =
    then_agrees (means_agrees u32_agrees (only 0 LaterFeature)) (λ mark.
    then_agrees code_agrees (λ c.
    then_agrees u32_agrees (λ n.
    then_agrees (bytes_agrees n) (λ bs.
    give_agrees (record { offset = c; bytes = bs })))))

run_agrees : (before : List ValType) → Agrees (run before)
unfolding run
run_agrees before =
    then_agrees (means_agrees u32_agrees (up_to (10000 - length before) Limit)) (λ n.
    then_agrees val_type_agrees (λ t.
    give_agrees (before ++ replicate n t)))

runs_agrees : (k : ℕ) (before : List ValType) → Agrees (runs k before)
unfolding runs
runs_agrees zero before = give_agrees before
runs_agrees (suc k) before = then_agrees (run_agrees before) (λ locals. runs_agrees k locals)

body_agrees : (t : ℕ) → Agrees (body t)
unfolding body
body_agrees t =
    then_agrees u32_agrees (λ k.
    then_agrees (runs_agrees k []) (λ ls.
    then_agrees code_agrees (λ c.
    give_agrees (record { ftype = t; locals = ls; code = c }))))

func_agrees : (t : ℕ) → Agrees (func t)
unfolding func
func_agrees t = then_agrees u32_agrees (λ n. clipped_agrees n (body_agrees t))

-- ---- sections

contents_agrees : (k : Holding) (s : Sections) → Agrees (contents k s)
contents_agrees Types s = then_agrees (vector_agrees func_type_agrees) (λ xs. give_agrees _)
contents_agrees Imports s = then_agrees (vector_agrees import_agrees) (λ xs. give_agrees _)
contents_agrees Functions s = then_agrees (vector_agrees u32_agrees) (λ xs. give_agrees _)
contents_agrees Tables s = then_agrees (means_agrees u32_agrees (up_to 1 LaterFeature)) (λ n. then_agrees (at_most_one_agrees table_agrees n) (λ x. give_agrees _))
contents_agrees Memories s = then_agrees (means_agrees u32_agrees (up_to 1 LaterFeature)) (λ n. then_agrees (at_most_one_agrees memory_agrees n) (λ x. give_agrees _))
contents_agrees Globals s = then_agrees (vector_agrees global_agrees) (λ xs. give_agrees _)
contents_agrees Exports s = then_agrees (vector_agrees export_agrees) (λ xs. give_agrees _)
contents_agrees Start s = then_agrees u32_agrees (λ x. give_agrees _)
contents_agrees Elements s = then_agrees (vector_agrees element_agrees) (λ xs. give_agrees _)
contents_agrees Bodies s = then_agrees (means_agrees u32_agrees (only (length s.declared) Count)) (λ n. then_agrees (each_agrees func_agrees s.declared) (λ xs. give_agrees _))
contents_agrees Data s = then_agrees (vector_agrees segment_agrees) (λ xs. give_agrees _)

pub section_agrees : (s : Sections) → Agrees (section s)
unfolding section
section_agrees s =
    then_agrees (means_agrees byte_agrees (next_id s.last)) (λ id.
    then_agrees u32_agrees (λ n.
    choose_agrees (eqb id 0) (then_agrees (headed_agrees n name_agrees) (λ name. give_agrees s)) (sized_agrees n (contents_agrees (holding id) s))))

magic_agrees : (b : ℕ) → Agrees (magic b)
magic_agrees b = means_agrees byte_agrees (only b Magic)

pub preamble_agrees : Agrees preamble
unfolding preamble
preamble_agrees =
    then_agrees (magic_agrees 0) (λ a.
    then_agrees (magic_agrees 97) (λ b.
    then_agrees (magic_agrees 115) (λ c.
    then_agrees (magic_agrees 109) (λ d.
    then_agrees (magic_agrees 1) (λ e.
    then_agrees (magic_agrees 0) (λ f.
    then_agrees (magic_agrees 0) (λ g.
    then_agrees (magic_agrees 0) (λ h.
    give_agrees 0))))))))
