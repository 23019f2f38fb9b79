-- A module that is executed.
use Rattle.mv_syntax.specs.Sections.{Parts}
use Rattle.mv_execution.specs.Config.{Config}

pub record Execution : Type 0 where
  pub parts : Parts
  pub config : Config
