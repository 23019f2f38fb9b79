-- Why a follower is given up, as a JSON value (docs/FORMATS.md, "Shown log").
use Rattle.std.specs.Prelude.{codes}
use Rattle.serde_json.specs.Data.{Data, object, member, no_members}
use Rattle.mv_syntax.specs.declared.fault.StartFault.{StartFault}
use Rattle.mv_syntax.specs.declared.fault.StartFault.TheVariants as start
use Rattle.mv_syntax.specs.declared.fault.BornFault.{BornFault}
use Rattle.mv_syntax.specs.declared.fault.BornFault.TheVariants as born
use Rattle.mv_version.specs.declared.event.Event.{Event}
use Rattle.mv_version.specs.declared.event.Event.TheVariants as event
use Rattle.mv_history.specs.declared.log.Cause.{Cause}
use Rattle.mv_history.specs.declared.log.Cause.TheVariants as cause
use Rattle.mv_show.specs.Calls.{text_at, number_at, call_data}
use Rattle.mv_show.specs.Names.{trap_text, read_kind_text, valid_kind_text, rule_kind_text, side_text}

-- ## Why no guest came to be

abbrev pub start_data : StartFault → Data
start_data start.NoEntry = object (text_at (codes "birth") (codes "start") (text_at (codes "kind") (codes "NoEntry") no_members))
start_data (start.UnknownImport import) = object (text_at (codes "birth") (codes "start") (number_at (codes "import") import (text_at (codes "kind") (codes "UnknownImport") no_members)))
start_data (start.ImportType import) = object (text_at (codes "birth") (codes "start") (number_at (codes "import") import (text_at (codes "kind") (codes "ImportType") no_members)))
start_data (start.ElementBounds segment) = object (text_at (codes "birth") (codes "start") (text_at (codes "kind") (codes "ElementBounds") (number_at (codes "segment") segment no_members)))
start_data (start.DataBounds segment) = object (text_at (codes "birth") (codes "start") (text_at (codes "kind") (codes "DataBounds") (number_at (codes "segment") segment no_members)))
start_data (start.Trap t) = object (text_at (codes "birth") (codes "start") (text_at (codes "kind") (codes "Trap") (text_at (codes "trap") (trap_text t) no_members)))

abbrev pub birth_data : BornFault → Data
birth_data (born.Read fault) = object (text_at (codes "birth") (codes "read") (text_at (codes "kind") (read_kind_text fault.kind) (number_at (codes "place") fault.place no_members)))
birth_data (born.Valid fault) = object (number_at (codes "at") fault.at (text_at (codes "birth") (codes "valid") (number_at (codes "item") fault.item (text_at (codes "kind") (valid_kind_text fault.kind) (number_at (codes "part") fault.part no_members)))))
birth_data (born.Start fault) = start_data fault
birth_data born.NoTransform = object (text_at (codes "birth") (codes "no transform") no_members)
birth_data born.NoResume = object (text_at (codes "birth") (codes "no resume") no_members)
birth_data (born.Transform t) = object (text_at (codes "birth") (codes "transform") (text_at (codes "trap") (trap_text t) no_members))
birth_data (born.Code code) = object (text_at (codes "birth") (codes "code") (number_at (codes "code") code no_members))

-- ## Why a follower is given up

abbrev pub event_data : Event → Data
event_data (event.Calls call) = object (member (codes "call") (call_data call) (text_at (codes "event") (codes "calls") no_members))
event_data event.Point = object (text_at (codes "event") (codes "point") no_members)
event_data (event.Ends code) = object (number_at (codes "code") code (text_at (codes "event") (codes "ends") no_members))
event_data (event.Traps t) = object (text_at (codes "event") (codes "traps") (text_at (codes "trap") (trap_text t) no_members))

abbrev pub cause_data : Cause → Data
cause_data (cause.Trap k t) = object (text_at (codes "cause") (codes "trap") (number_at (codes "item") k (text_at (codes "trap") (trap_text t) no_members)))
cause_data (cause.Mismatch k want got) = object (text_at (codes "cause") (codes "mismatch") (member (codes "got") (event_data got) (number_at (codes "item") k (member (codes "want") (call_data want) no_members))))
cause_data (cause.Refused fault) = object (member (codes "birth") (birth_data fault) (text_at (codes "cause") (codes "refused") no_members))
cause_data (cause.Rules side fault) = object (text_at (codes "cause") (codes "rules") (text_at (codes "kind") (rule_kind_text fault.kind) (number_at (codes "line") fault.line (text_at (codes "side") (side_text side) no_members))))
cause_data (cause.Order n) = object (text_at (codes "cause") (codes "order") (number_at (codes "entry") n no_members))
cause_data cause.Memory = object (text_at (codes "cause") (codes "memory") no_members)
