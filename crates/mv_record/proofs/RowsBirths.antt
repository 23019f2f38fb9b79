-- Why no guest came to be: each row is read as it is spelled, and read again.
use Rattle.std.proofs.Common.{[], ◌∷◌, ◌++◌, refl, ◌∙◌, append_assoc, arith}
use Rattle.byteorder.specs.Endian.{little_bytes}
use Rattle.mv_calls.specs.declared.trap.Trap.TheVariants as trap
use Rattle.mv_syntax.specs.declared.fault.ReadKind.TheVariants as read_kind
use Rattle.mv_syntax.specs.declared.fault.ValidKind.TheVariants as valid_kind
use Rattle.mv_syntax.specs.declared.fault.StartFault.TheVariants as start
use Rattle.mv_syntax.specs.declared.fault.BornFault.TheVariants as born
use Rattle.mv_record.specs.Spelling.{born_fault_text, byte, read_fault_text, read_kind_text, start_fault_text, trap_text, valid_fault_text, valid_kind_text}
use Rattle.mv_record.specs.Fitting.{FitsBornFault, FitsReadFault, FitsStartFault, FitsValidFault, IsU32, IsU64, IsU8}
use Rattle.mv_record.specs.Reading.{◌⟫◌, born_fault_at, born_fault_table, code_born_fault_at, data_bounds_start_fault_at, element_bounds_start_fault_at, import_type_start_fault_at, made_read_fault, made_valid_fault, number_at, plain_at, read_born_fault_at, read_fault_at, read_kind_at, read_kind_table, start_born_fault_at, start_fault_at, start_fault_table, transform_born_fault_at, trap_at, trap_start_fault_at, trap_table, unknown_import_start_fault_at, valid_born_fault_at, valid_fault_at, valid_kind_at, valid_kind_table}
use Rattle.mv_record.proofs.Rows.{Any, IsRow, IsAgain, row4, row8, byte_row, u32_again, u64_again, byte_again, field_row, plain_row, then_again, ends_again, tagged_row, tagged_again}

-- ---- a trap

pub trap_row : IsRow [] trap_text Any trap_at
unfolding trap_at
trap_row = tagged_row [] trap_text Any trap_table
    (plain_row (0 ∷ []) trap_text Any trap.Unreachable refl tt, (plain_row (1 ∷ []) trap_text Any trap.DivideByZero refl tt, (plain_row (2 ∷ []) trap_text Any trap.Overflow refl tt, (plain_row (3 ∷ []) trap_text Any trap.Bounds refl tt, (plain_row (4 ∷ []) trap_text Any trap.TableIndex refl tt, (plain_row (5 ∷ []) trap_text Any trap.EmptyElement refl tt, (plain_row (6 ∷ []) trap_text Any trap.IndirectType refl tt, (plain_row (7 ∷ []) trap_text Any trap.Frames refl tt, (plain_row (8 ∷ []) trap_text Any trap.Operands refl tt, (plain_row (9 ∷ []) trap_text Any trap.Spent refl tt, (plain_row (10 ∷ []) trap_text Any trap.OldGlobal refl tt, (plain_row (11 ∷ []) trap_text Any trap.NotNow refl tt, (plain_row (12 ∷ []) trap_text Any trap.CallInTransform refl tt, tt)))))))))))))

pub trap_again : IsAgain trap_text Any trap_at
unfolding trap_at
trap_again trap.Unreachable rest fits = tagged_again trap_table 0 rest (omega arith)
trap_again trap.DivideByZero rest fits = tagged_again trap_table 1 rest (omega arith)
trap_again trap.Overflow rest fits = tagged_again trap_table 2 rest (omega arith)
trap_again trap.Bounds rest fits = tagged_again trap_table 3 rest (omega arith)
trap_again trap.TableIndex rest fits = tagged_again trap_table 4 rest (omega arith)
trap_again trap.EmptyElement rest fits = tagged_again trap_table 5 rest (omega arith)
trap_again trap.IndirectType rest fits = tagged_again trap_table 6 rest (omega arith)
trap_again trap.Frames rest fits = tagged_again trap_table 7 rest (omega arith)
trap_again trap.Operands rest fits = tagged_again trap_table 8 rest (omega arith)
trap_again trap.Spent rest fits = tagged_again trap_table 9 rest (omega arith)
trap_again trap.OldGlobal rest fits = tagged_again trap_table 10 rest (omega arith)
trap_again trap.NotNow rest fits = tagged_again trap_table 11 rest (omega arith)
trap_again trap.CallInTransform rest fits = tagged_again trap_table 12 rest (omega arith)

-- ---- what is wrong with the bytes of a module

pub read_kind_row : IsRow [] read_kind_text Any read_kind_at
unfolding read_kind_at
read_kind_row = tagged_row [] read_kind_text Any read_kind_table
    (plain_row (0 ∷ []) read_kind_text Any read_kind.Magic refl tt, (plain_row (1 ∷ []) read_kind_text Any read_kind.Cut refl tt, (plain_row (2 ∷ []) read_kind_text Any read_kind.Order refl tt, (plain_row (3 ∷ []) read_kind_text Any read_kind.Size refl tt, (plain_row (4 ∷ []) read_kind_text Any read_kind.Leb refl tt, (plain_row (5 ∷ []) read_kind_text Any read_kind.Utf8 refl tt, (plain_row (6 ∷ []) read_kind_text Any read_kind.Kind refl tt, (plain_row (7 ∷ []) read_kind_text Any read_kind.Float refl tt, (plain_row (8 ∷ []) read_kind_text Any read_kind.LaterFeature refl tt, (plain_row (9 ∷ []) read_kind_text Any read_kind.Count refl tt, (plain_row (10 ∷ []) read_kind_text Any read_kind.Limit refl tt, tt)))))))))))

pub read_kind_again : IsAgain read_kind_text Any read_kind_at
unfolding read_kind_at
read_kind_again read_kind.Magic rest fits = tagged_again read_kind_table 0 rest (omega arith)
read_kind_again read_kind.Cut rest fits = tagged_again read_kind_table 1 rest (omega arith)
read_kind_again read_kind.Order rest fits = tagged_again read_kind_table 2 rest (omega arith)
read_kind_again read_kind.Size rest fits = tagged_again read_kind_table 3 rest (omega arith)
read_kind_again read_kind.Leb rest fits = tagged_again read_kind_table 4 rest (omega arith)
read_kind_again read_kind.Utf8 rest fits = tagged_again read_kind_table 5 rest (omega arith)
read_kind_again read_kind.Kind rest fits = tagged_again read_kind_table 6 rest (omega arith)
read_kind_again read_kind.Float rest fits = tagged_again read_kind_table 7 rest (omega arith)
read_kind_again read_kind.LaterFeature rest fits = tagged_again read_kind_table 8 rest (omega arith)
read_kind_again read_kind.Count rest fits = tagged_again read_kind_table 9 rest (omega arith)
read_kind_again read_kind.Limit rest fits = tagged_again read_kind_table 10 rest (omega arith)

-- ---- why a module is not valid

pub valid_kind_row : IsRow [] valid_kind_text Any valid_kind_at
unfolding valid_kind_at
valid_kind_row = tagged_row [] valid_kind_text Any valid_kind_table
    (plain_row (0 ∷ []) valid_kind_text Any valid_kind.TypeIndex refl tt, (plain_row (1 ∷ []) valid_kind_text Any valid_kind.FuncIndex refl tt, (plain_row (2 ∷ []) valid_kind_text Any valid_kind.NoTable refl tt, (plain_row (3 ∷ []) valid_kind_text Any valid_kind.NoMemory refl tt, (plain_row (4 ∷ []) valid_kind_text Any valid_kind.GlobalIndex refl tt, (plain_row (5 ∷ []) valid_kind_text Any valid_kind.LocalIndex refl tt, (plain_row (6 ∷ []) valid_kind_text Any valid_kind.LabelIndex refl tt, (plain_row (7 ∷ []) valid_kind_text Any valid_kind.Operand refl tt, (plain_row (8 ∷ []) valid_kind_text Any valid_kind.Immutable refl tt, (plain_row (9 ∷ []) valid_kind_text Any valid_kind.Align refl tt, (plain_row (10 ∷ []) valid_kind_text Any valid_kind.Constant refl tt, (plain_row (11 ∷ []) valid_kind_text Any valid_kind.Limits refl tt, (plain_row (12 ∷ []) valid_kind_text Any valid_kind.ExportName refl tt, (plain_row (13 ∷ []) valid_kind_text Any valid_kind.StartType refl tt, tt))))))))))))))

pub valid_kind_again : IsAgain valid_kind_text Any valid_kind_at
unfolding valid_kind_at
valid_kind_again valid_kind.TypeIndex rest fits = tagged_again valid_kind_table 0 rest (omega arith)
valid_kind_again valid_kind.FuncIndex rest fits = tagged_again valid_kind_table 1 rest (omega arith)
valid_kind_again valid_kind.NoTable rest fits = tagged_again valid_kind_table 2 rest (omega arith)
valid_kind_again valid_kind.NoMemory rest fits = tagged_again valid_kind_table 3 rest (omega arith)
valid_kind_again valid_kind.GlobalIndex rest fits = tagged_again valid_kind_table 4 rest (omega arith)
valid_kind_again valid_kind.LocalIndex rest fits = tagged_again valid_kind_table 5 rest (omega arith)
valid_kind_again valid_kind.LabelIndex rest fits = tagged_again valid_kind_table 6 rest (omega arith)
valid_kind_again valid_kind.Operand rest fits = tagged_again valid_kind_table 7 rest (omega arith)
valid_kind_again valid_kind.Immutable rest fits = tagged_again valid_kind_table 8 rest (omega arith)
valid_kind_again valid_kind.Align rest fits = tagged_again valid_kind_table 9 rest (omega arith)
valid_kind_again valid_kind.Constant rest fits = tagged_again valid_kind_table 10 rest (omega arith)
valid_kind_again valid_kind.Limits rest fits = tagged_again valid_kind_table 11 rest (omega arith)
valid_kind_again valid_kind.ExportName rest fits = tagged_again valid_kind_table 12 rest (omega arith)
valid_kind_again valid_kind.StartType rest fits = tagged_again valid_kind_table 13 rest (omega arith)

-- ---- the first fault of the bytes of a module

pub read_fault_row : IsRow [] read_fault_text FitsReadFault read_fault_at
unfolding read_fault_at
read_fault_row = field_row read_kind_text Any read_kind_at (λ kind. number_at 8 ⟫ λ place. plain_at (made_read_fault kind place)) ([]) read_fault_text FitsReadFault read_kind_row (λ kind kind_fits. field_row (little_bytes 8) IsU64 (number_at 8) (λ place. plain_at (made_read_fault kind place)) ([] ++ read_kind_text kind) read_fault_text FitsReadFault row8 (λ place place_fits. plain_row (([] ++ read_kind_text kind) ++ little_bytes 8 place) read_fault_text FitsReadFault (made_read_fault kind place) refl place_fits))

pub read_fault_again : IsAgain read_fault_text FitsReadFault read_fault_at
unfolding read_fault_at
read_fault_again x rest fits =
    then_again read_kind_text Any read_kind_at (λ kind. number_at 8 ⟫ λ place. plain_at (made_read_fault kind place)) read_kind_again x.kind (little_bytes 8 x.place) rest tt
    ∙ ends_again (little_bytes 8) IsU64 (number_at 8) (λ place. plain_at (made_read_fault x.kind place)) u64_again x.place rest fits

-- ---- the first fault of a module that can be read

pub valid_fault_row : IsRow [] valid_fault_text FitsValidFault valid_fault_at
unfolding valid_fault_at
valid_fault_row = field_row byte IsU8 (number_at 1) (λ part. number_at 4 ⟫ λ item. number_at 4 ⟫ λ at. valid_kind_at ⟫ λ kind. plain_at (made_valid_fault part item at kind)) ([]) valid_fault_text FitsValidFault byte_row (λ part part_fits. field_row (little_bytes 4) IsU32 (number_at 4) (λ item. number_at 4 ⟫ λ at. valid_kind_at ⟫ λ kind. plain_at (made_valid_fault part item at kind)) ([] ++ byte part) valid_fault_text FitsValidFault row4 (λ item item_fits. field_row (little_bytes 4) IsU32 (number_at 4) (λ at. valid_kind_at ⟫ λ kind. plain_at (made_valid_fault part item at kind)) (([] ++ byte part) ++ little_bytes 4 item) valid_fault_text FitsValidFault row4 (λ at at_fits. field_row valid_kind_text Any valid_kind_at (λ kind. plain_at (made_valid_fault part item at kind)) ((([] ++ byte part) ++ little_bytes 4 item) ++ little_bytes 4 at) valid_fault_text FitsValidFault valid_kind_row (λ kind kind_fits. plain_row (((([] ++ byte part) ++ little_bytes 4 item) ++ little_bytes 4 at) ++ valid_kind_text kind) valid_fault_text FitsValidFault (made_valid_fault part item at kind) (simp append_assoc) (part_fits, item_fits, at_fits)))))

pub valid_fault_again : IsAgain valid_fault_text FitsValidFault valid_fault_at
unfolding valid_fault_at
valid_fault_again x rest fits =
    then_again byte IsU8 (number_at 1) (λ part. number_at 4 ⟫ λ item. number_at 4 ⟫ λ at. valid_kind_at ⟫ λ kind. plain_at (made_valid_fault part item at kind)) byte_again x.part (little_bytes 4 x.item ++ (little_bytes 4 x.at ++ valid_kind_text x.kind)) rest fits.0
    ∙ then_again (little_bytes 4) IsU32 (number_at 4) (λ item. number_at 4 ⟫ λ at. valid_kind_at ⟫ λ kind. plain_at (made_valid_fault x.part item at kind)) u32_again x.item (little_bytes 4 x.at ++ valid_kind_text x.kind) rest fits.1
    ∙ then_again (little_bytes 4) IsU32 (number_at 4) (λ at. valid_kind_at ⟫ λ kind. plain_at (made_valid_fault x.part x.item at kind)) u32_again x.at (valid_kind_text x.kind) rest fits.2
    ∙ ends_again valid_kind_text Any valid_kind_at (λ kind. plain_at (made_valid_fault x.part x.item x.at kind)) valid_kind_again x.kind rest tt

-- ---- why a module cannot be started

unknown_import_start_fault_row : IsRow (1 ∷ []) start_fault_text FitsStartFault unknown_import_start_fault_at
unfolding unknown_import_start_fault_at
unknown_import_start_fault_row = field_row (little_bytes 4) IsU32 (number_at 4) (λ import. plain_at (start.UnknownImport import)) (1 ∷ []) start_fault_text FitsStartFault row4 (λ import import_fits. plain_row ((1 ∷ []) ++ little_bytes 4 import) start_fault_text FitsStartFault (start.UnknownImport import) refl import_fits)

import_type_start_fault_row : IsRow (2 ∷ []) start_fault_text FitsStartFault import_type_start_fault_at
unfolding import_type_start_fault_at
import_type_start_fault_row = field_row (little_bytes 4) IsU32 (number_at 4) (λ import. plain_at (start.ImportType import)) (2 ∷ []) start_fault_text FitsStartFault row4 (λ import import_fits. plain_row ((2 ∷ []) ++ little_bytes 4 import) start_fault_text FitsStartFault (start.ImportType import) refl import_fits)

element_bounds_start_fault_row : IsRow (3 ∷ []) start_fault_text FitsStartFault element_bounds_start_fault_at
unfolding element_bounds_start_fault_at
element_bounds_start_fault_row = field_row (little_bytes 4) IsU32 (number_at 4) (λ segment. plain_at (start.ElementBounds segment)) (3 ∷ []) start_fault_text FitsStartFault row4 (λ segment segment_fits. plain_row ((3 ∷ []) ++ little_bytes 4 segment) start_fault_text FitsStartFault (start.ElementBounds segment) refl segment_fits)

data_bounds_start_fault_row : IsRow (4 ∷ []) start_fault_text FitsStartFault data_bounds_start_fault_at
unfolding data_bounds_start_fault_at
data_bounds_start_fault_row = field_row (little_bytes 4) IsU32 (number_at 4) (λ segment. plain_at (start.DataBounds segment)) (4 ∷ []) start_fault_text FitsStartFault row4 (λ segment segment_fits. plain_row ((4 ∷ []) ++ little_bytes 4 segment) start_fault_text FitsStartFault (start.DataBounds segment) refl segment_fits)

trap_start_fault_row : IsRow (5 ∷ []) start_fault_text FitsStartFault trap_start_fault_at
unfolding trap_start_fault_at
trap_start_fault_row = field_row trap_text Any trap_at (λ trap. plain_at (start.Trap trap)) (5 ∷ []) start_fault_text FitsStartFault trap_row (λ trap trap_fits. plain_row ((5 ∷ []) ++ trap_text trap) start_fault_text FitsStartFault (start.Trap trap) refl tt)

pub start_fault_row : IsRow [] start_fault_text FitsStartFault start_fault_at
unfolding start_fault_at
start_fault_row = tagged_row [] start_fault_text FitsStartFault start_fault_table
    (plain_row (0 ∷ []) start_fault_text FitsStartFault start.NoEntry refl tt, (unknown_import_start_fault_row, (import_type_start_fault_row, (element_bounds_start_fault_row, (data_bounds_start_fault_row, (trap_start_fault_row, tt))))))

pub start_fault_again : IsAgain start_fault_text FitsStartFault start_fault_at
unfolding start_fault_at unknown_import_start_fault_at import_type_start_fault_at element_bounds_start_fault_at data_bounds_start_fault_at trap_start_fault_at
start_fault_again start.NoEntry rest fits = tagged_again start_fault_table 0 rest (omega arith)
start_fault_again (start.UnknownImport import) rest fits = tagged_again start_fault_table 1 ((little_bytes 4 import) ++ rest) (omega arith)
    ∙ ends_again (little_bytes 4) IsU32 (number_at 4) (λ import. plain_at (start.UnknownImport import)) u32_again import rest fits
start_fault_again (start.ImportType import) rest fits = tagged_again start_fault_table 2 ((little_bytes 4 import) ++ rest) (omega arith)
    ∙ ends_again (little_bytes 4) IsU32 (number_at 4) (λ import. plain_at (start.ImportType import)) u32_again import rest fits
start_fault_again (start.ElementBounds segment) rest fits = tagged_again start_fault_table 3 ((little_bytes 4 segment) ++ rest) (omega arith)
    ∙ ends_again (little_bytes 4) IsU32 (number_at 4) (λ segment. plain_at (start.ElementBounds segment)) u32_again segment rest fits
start_fault_again (start.DataBounds segment) rest fits = tagged_again start_fault_table 4 ((little_bytes 4 segment) ++ rest) (omega arith)
    ∙ ends_again (little_bytes 4) IsU32 (number_at 4) (λ segment. plain_at (start.DataBounds segment)) u32_again segment rest fits
start_fault_again (start.Trap trap) rest fits = tagged_again start_fault_table 5 ((trap_text trap) ++ rest) (omega arith)
    ∙ ends_again trap_text Any trap_at (λ trap. plain_at (start.Trap trap)) trap_again trap rest tt

-- ---- why no guest came to be

read_born_fault_row : IsRow (0 ∷ []) born_fault_text FitsBornFault read_born_fault_at
unfolding read_born_fault_at
read_born_fault_row = field_row read_fault_text FitsReadFault read_fault_at (λ fault. plain_at (born.Read fault)) (0 ∷ []) born_fault_text FitsBornFault read_fault_row (λ fault fault_fits. plain_row ((0 ∷ []) ++ read_fault_text fault) born_fault_text FitsBornFault (born.Read fault) refl fault_fits)

valid_born_fault_row : IsRow (1 ∷ []) born_fault_text FitsBornFault valid_born_fault_at
unfolding valid_born_fault_at
valid_born_fault_row = field_row valid_fault_text FitsValidFault valid_fault_at (λ fault. plain_at (born.Valid fault)) (1 ∷ []) born_fault_text FitsBornFault valid_fault_row (λ fault fault_fits. plain_row ((1 ∷ []) ++ valid_fault_text fault) born_fault_text FitsBornFault (born.Valid fault) refl fault_fits)

start_born_fault_row : IsRow (2 ∷ []) born_fault_text FitsBornFault start_born_fault_at
unfolding start_born_fault_at
start_born_fault_row = field_row start_fault_text FitsStartFault start_fault_at (λ fault. plain_at (born.Start fault)) (2 ∷ []) born_fault_text FitsBornFault start_fault_row (λ fault fault_fits. plain_row ((2 ∷ []) ++ start_fault_text fault) born_fault_text FitsBornFault (born.Start fault) refl fault_fits)

transform_born_fault_row : IsRow (5 ∷ []) born_fault_text FitsBornFault transform_born_fault_at
unfolding transform_born_fault_at
transform_born_fault_row = field_row trap_text Any trap_at (λ trap. plain_at (born.Transform trap)) (5 ∷ []) born_fault_text FitsBornFault trap_row (λ trap trap_fits. plain_row ((5 ∷ []) ++ trap_text trap) born_fault_text FitsBornFault (born.Transform trap) refl tt)

code_born_fault_row : IsRow (6 ∷ []) born_fault_text FitsBornFault code_born_fault_at
unfolding code_born_fault_at
code_born_fault_row = field_row (little_bytes 4) IsU32 (number_at 4) (λ code. plain_at (born.Code code)) (6 ∷ []) born_fault_text FitsBornFault row4 (λ code code_fits. plain_row ((6 ∷ []) ++ little_bytes 4 code) born_fault_text FitsBornFault (born.Code code) refl code_fits)

pub born_fault_row : IsRow [] born_fault_text FitsBornFault born_fault_at
unfolding born_fault_at
born_fault_row = tagged_row [] born_fault_text FitsBornFault born_fault_table
    (read_born_fault_row, (valid_born_fault_row, (start_born_fault_row, (plain_row (3 ∷ []) born_fault_text FitsBornFault born.NoTransform refl tt, (plain_row (4 ∷ []) born_fault_text FitsBornFault born.NoResume refl tt, (transform_born_fault_row, (code_born_fault_row, tt)))))))

pub born_fault_again : IsAgain born_fault_text FitsBornFault born_fault_at
unfolding born_fault_at read_born_fault_at valid_born_fault_at start_born_fault_at transform_born_fault_at code_born_fault_at
born_fault_again (born.Read fault) rest fits = tagged_again born_fault_table 0 ((read_fault_text fault) ++ rest) (omega arith)
    ∙ ends_again read_fault_text FitsReadFault read_fault_at (λ fault. plain_at (born.Read fault)) read_fault_again fault rest fits
born_fault_again (born.Valid fault) rest fits = tagged_again born_fault_table 1 ((valid_fault_text fault) ++ rest) (omega arith)
    ∙ ends_again valid_fault_text FitsValidFault valid_fault_at (λ fault. plain_at (born.Valid fault)) valid_fault_again fault rest fits
born_fault_again (born.Start fault) rest fits = tagged_again born_fault_table 2 ((start_fault_text fault) ++ rest) (omega arith)
    ∙ ends_again start_fault_text FitsStartFault start_fault_at (λ fault. plain_at (born.Start fault)) start_fault_again fault rest fits
born_fault_again born.NoTransform rest fits = tagged_again born_fault_table 3 rest (omega arith)
born_fault_again born.NoResume rest fits = tagged_again born_fault_table 4 rest (omega arith)
born_fault_again (born.Transform trap) rest fits = tagged_again born_fault_table 5 ((trap_text trap) ++ rest) (omega arith)
    ∙ ends_again trap_text Any trap_at (λ trap. plain_at (born.Transform trap)) trap_again trap rest tt
born_fault_again (born.Code code) rest fits = tagged_again born_fault_table 6 ((little_bytes 4 code) ++ rest) (omega arith)
    ∙ ends_again (little_bytes 4) IsU32 (number_at 4) (λ code. plain_at (born.Code code)) u32_again code rest fits
