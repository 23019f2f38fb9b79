-- The texts of the demonstration guests (docs/FORMATS.md, "Demonstration guests").
use Rattle.std.specs.Prelude.{ℕ, List}
use Rattle.mv_load.specs.declared.guests.Demo.{Demo}
use Rattle.mv_load.specs.declared.guests.Demo.TheVariants as demo
use Rattle.mv_load.specs.declared.guests.old.TheConstants.{TEXT as old_text}
use Rattle.mv_load.specs.declared.guests.«new».TheConstants.{TEXT as new_text}
use Rattle.mv_load.specs.declared.guests.bang.TheConstants.{TEXT as bang_text}
use Rattle.mv_load.specs.declared.guests.old_bang.TheConstants.{TEXT as old_bang_text}

abbrev pub text_of : Demo → List ℕ
text_of demo.Old = old_text.now
text_of demo.New = new_text.now
text_of demo.Bang = bang_text.now
text_of demo.OldBang = old_bang_text.now
