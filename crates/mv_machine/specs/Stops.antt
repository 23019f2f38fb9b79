-- What the machine's runs leave, by the way they stop.
use Rattle.mv_machine.specs.declared.run.Stop.{Stop}
use Rattle.mv_machine.specs.declared.run.Stop.TheVariants as stops
use Rattle.std.specs.Prelude.{List}
use Rattle.mv_syntax.specs.declared.ops.ValType.{ValType}
use Rattle.mv_validator.specs.Typing.{Context}
use Rattle.mv_execution.specs.Config.{Config}
use Rattle.mv_execution.specs.Fits.{AreOf, FitsConfig}
use Rattle.mv_execution.specs.Run.{Import, Ended, Trapped, Fuel, StandsAt}
use Rattle.mv_machine.specs.States.{values_of}

abbrev pub StopStands : Stop → Config → Type 0
StopStands (stops.Import x) c = StandsAt (Import x) c
StopStands (stops.Ended v) c = StandsAt (Ended (values_of v)) c
StopStands (stops.Trap t) c = StandsAt (Trapped t) c
StopStands stops.Fuel c = StandsAt Fuel c
StopStands stops.Memory c = Unit {0}

-- A run leaves a typed configuration, of which the function that was entered gives the same types; what it has ended with is of
-- them.
abbrev pub StopFits : Context → List ValType → Stop → Config → Type 0
StopFits m gs (stops.Ended v) c = FitsConfig m gs c × AreOf gs (values_of v)
StopFits m gs stops.Memory c = Unit {0}
StopFits m gs stop c = FitsConfig m gs c
