use Rattle.std.proofs.Common.{◌≡◌, length}
use Rattle.mv_scan.specs.declared.scan.Place.TheVariants.{Among}
use Rattle.mv_scan.specs.Words.{scan, IsPlace}
use Rattle.mv_scan.proofs.Texts.{before}
use Rattle.mv_scan.proofs.scan.scan_text.Given as goal

-- the whole is the bytes so far and what is scanned of the rest
abbrev pub invariant-loop-rest : goal.invariant-loop-rest
invariant-loop-rest l = record {
  place : IsPlace l.place;
  whole : before l.good l.text.items (scan l.place l.rest) ≡ scan Among l.bytes;
}

abbrev pub decreases-loop-rest : goal.decreases-loop-rest
decreases-loop-rest l = length l.rest
