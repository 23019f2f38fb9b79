-- The names of traps and of kinds of faults, as fault lines print them (docs/FORMATS.md, "Fault lines").
use Rattle.std.specs.Prelude.{ℕ, List, codes}
use Rattle.mv_calls.specs.declared.trap.Trap.{Trap}
use Rattle.mv_calls.specs.declared.trap.Trap.TheVariants as trap
use Rattle.mv_syntax.specs.declared.fault.ReadKind.{ReadKind}
use Rattle.mv_syntax.specs.declared.fault.ReadKind.TheVariants as read
use Rattle.mv_syntax.specs.declared.fault.ValidKind.{ValidKind}
use Rattle.mv_syntax.specs.declared.fault.ValidKind.TheVariants as valid
use Rattle.mv_rules.specs.declared.fault.RuleKind.{RuleKind}
use Rattle.mv_rules.specs.declared.fault.RuleKind.TheVariants as rule
use Rattle.mv_history.specs.declared.log.Side.{Side}
use Rattle.mv_history.specs.declared.log.Side.TheVariants as side

abbrev pub trap_text : Trap → List ℕ
trap_text trap.Unreachable = codes "Unreachable"
trap_text trap.DivideByZero = codes "DivideByZero"
trap_text trap.Overflow = codes "Overflow"
trap_text trap.Bounds = codes "Bounds"
trap_text trap.TableIndex = codes "TableIndex"
trap_text trap.EmptyElement = codes "EmptyElement"
trap_text trap.IndirectType = codes "IndirectType"
trap_text trap.Frames = codes "Frames"
trap_text trap.Operands = codes "Operands"
trap_text trap.Spent = codes "Spent"
trap_text trap.OldGlobal = codes "OldGlobal"
trap_text trap.NotNow = codes "NotNow"
trap_text trap.CallInTransform = codes "CallInTransform"

abbrev pub read_kind_text : ReadKind → List ℕ
read_kind_text read.Magic = codes "Magic"
read_kind_text read.Cut = codes "Cut"
read_kind_text read.Order = codes "Order"
read_kind_text read.Size = codes "Size"
read_kind_text read.Leb = codes "Leb"
read_kind_text read.Utf8 = codes "Utf8"
read_kind_text read.Kind = codes "Kind"
read_kind_text read.Float = codes "Float"
read_kind_text read.LaterFeature = codes "LaterFeature"
read_kind_text read.Count = codes "Count"
read_kind_text read.Limit = codes "Limit"

abbrev pub valid_kind_text : ValidKind → List ℕ
valid_kind_text valid.TypeIndex = codes "TypeIndex"
valid_kind_text valid.FuncIndex = codes "FuncIndex"
valid_kind_text valid.NoTable = codes "NoTable"
valid_kind_text valid.NoMemory = codes "NoMemory"
valid_kind_text valid.GlobalIndex = codes "GlobalIndex"
valid_kind_text valid.LocalIndex = codes "LocalIndex"
valid_kind_text valid.LabelIndex = codes "LabelIndex"
valid_kind_text valid.Operand = codes "Operand"
valid_kind_text valid.Immutable = codes "Immutable"
valid_kind_text valid.Align = codes "Align"
valid_kind_text valid.Constant = codes "Constant"
valid_kind_text valid.Limits = codes "Limits"
valid_kind_text valid.ExportName = codes "ExportName"
valid_kind_text valid.StartType = codes "StartType"

abbrev pub rule_kind_text : RuleKind → List ℕ
rule_kind_text rule.Size = codes "Size"
rule_kind_text rule.Header = codes "Header"
rule_kind_text rule.Shape = codes "Shape"
rule_kind_text rule.Many = codes "Many"
rule_kind_text rule.Empty = codes "Empty"
rule_kind_text rule.Word = codes "Word"
rule_kind_text rule.Number = codes "Number"
rule_kind_text rule.Quote = codes "Quote"
rule_kind_text rule.Name = codes "Name"
rule_kind_text rule.Twice = codes "Twice"
rule_kind_text rule.Unbound = codes "Unbound"
rule_kind_text rule.Reads = codes "Reads"
rule_kind_text rule.Accepts = codes "Accepts"
rule_kind_text rule.Guard = codes "Guard"

abbrev pub side_text : Side → List ℕ
side_text side.Forward = codes "forward"
side_text side.Reverse = codes "reverse"
