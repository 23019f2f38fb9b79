-- The end of a log.
use Rattle.std.specs.Prelude.{◌≡◌, List, [], ◌∷◌, ◌++◌}
use Rattle.mv_history.specs.declared.log.Entry.{Entry}
use Rattle.mv_history.specs.declared.log.Entry.TheVariants as entry
use Rattle.mv_history.specs.declared.log.How.{How}
use Rattle.mv_history.specs.declared.log.Mark.TheVariants as mark

-- the last entry is this end
abbrev pub EndsBy : List Entry → How → Type 0
EndsBy entries h = (before : List Entry) × (entries ≡ before ++ entry.Mark (mark.End h) ∷ [])
