-- The files of a load (docs/FORMATS.md, "Demonstration guests").
use Rattle.std.specs.Prelude.{ℕ, List, [], ◌∷◌, Result, Ok, Err, codes}
use Rattle.mv_syntax.specs.Sections.{Parts}
use Rattle.mv_statements.specs.declared.fault.TextFault.{TextFault}
use Rattle.mv_text.specs.Assembly.{assembled}
use Rattle.mv_writer.specs.Written.{written}
use Rattle.mv_outside.specs.MemFiles.{FilesState}
use Rattle.mv_outside.specs.declared.mem_files.FileAt.{FileAt}
use Rattle.mv_load.specs.declared.files.TheConstants.{FORWARD, REVERSE}
use Rattle.mv_load.specs.declared.guests.Demo.{Demo}
use Rattle.mv_load.specs.declared.guests.Demo.TheVariants as demo
use Rattle.mv_load.specs.Guests.{text_of}

-- the shortest spelling of the module that a text was assembled to; nothing for a text that is none
abbrev pub file_of : Result Parts TextFault → List ℕ
file_of (Ok parts) = written parts
file_of (Err fault) = []

-- the file of a guest's module
unfoldable pub guest_file : Demo → List ℕ
guest_file which = file_of (assembled (text_of which))

abbrev pub at : List ℕ → List ℕ → FileAt
at path bytes = record { path = path; bytes = bytes }

-- three modules, and the rules from OK to +OK and back; no call on them fails
abbrev pub load_files : FilesState
load_files = record {
  files = at (codes "old") (guest_file demo.Old) ∷ at (codes "new") (guest_file demo.New) ∷ at (codes "bang") (guest_file demo.Bang) ∷ at (codes "fwd") FORWARD.now ∷ at (codes "rev") REVERSE.now ∷ [];
  reads = 0;
  writes = 0;
  fail_read = [];
  fail_write = [];
  faults = 0;
}
