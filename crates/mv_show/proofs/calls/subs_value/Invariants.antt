use Rattle.std.proofs.Common.{◌≡◌, map, take}
use Rattle.serde_json.specs.View.{view}
use Rattle.mv_show.specs.Calls.{sub_data}
use Rattle.mv_show.proofs.calls.subs_value.Given as goal

abbrev pub invariant-loop-sub : goal.invariant-loop-sub
invariant-loop-sub l = map view l.values.items ≡ map sub_data (take l.sub-index l.subs)
