-- Each ending has a line.
use Rattle.std.proofs.Common.{[], List, ℕ, refl}
use Rattle.mv_commands.specs.Lines.{IsLine}
use Rattle.mv_commands.specs.declared.ending.Ending.{Ending}
use Rattle.mv_commands.specs.declared.ending.Ending.TheVariants.{BadWords, NoMemory, Told, NoFile, Found, Ran, LogFailed, LogNotMade, Audited, Shown, Assembled, NotWritten, Loaded}

pub some_line : (ending : Ending) → (line : List ℕ) × IsLine ending line
some_line BadWords = (_, refl)
some_line NoMemory = (_, refl)
some_line Told = ([], tt)
some_line (NoFile path) = (_, refl)
some_line (Found path finding) = (_, refl)
some_line (Ran h) = (_, refl)
some_line (LogFailed path h) = (_, refl)
some_line (LogNotMade h) = (_, refl)
some_line (Audited illegal) = (_, refl)
some_line (Shown entries) = (_, refl)
some_line (Assembled bytes) = (_, refl)
some_line (NotWritten path) = (_, refl)
some_line (Loaded loaded) = (_, refl)
