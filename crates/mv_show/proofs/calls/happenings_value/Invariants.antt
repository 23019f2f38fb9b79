use Rattle.std.proofs.Common.{◌≡◌, map, take}
use Rattle.serde_json.specs.View.{view}
use Rattle.mv_show.specs.Calls.{happened_data}
use Rattle.mv_show.proofs.calls.happenings_value.Given as goal

abbrev pub invariant-loop-happened : goal.invariant-loop-happened
invariant-loop-happened l = map view l.values.items ≡ map happened_data (take l.happened-index l.happenings)
