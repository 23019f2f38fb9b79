-- What is left of a side that is read piece by piece.
use Rattle.std.specs.Prelude.{List, [], ◌++◌, map, Option, Some, None}
use Rattle.mv_rules.specs.declared.rule.FdTerm.{FdTerm}
use Rattle.mv_rulecheck.specs.Atoms.{Piece, Byte, Name, LengthOf, pieces_of, read_atoms}
use Rattle.mv_rulecheck.specs.declared.cursor.PieceRef.{PieceRef}
use Rattle.mv_rulecheck.specs.declared.cursor.PieceRef.TheVariants as refs
use Rattle.mv_rulecheck.specs.declared.cursor.Reading.{Reading}
use Rattle.mv_rulecheck.specs.declared.cursor.Cursor.{Cursor}
use Rattle.mv_rulecheck.specs.declared.cursor.AtomRef.{AtomRef}

abbrev pub piece_seen : PieceRef → Piece
piece_seen (refs.Byte byte) = Byte byte
piece_seen (refs.Name name) = Name name.now
piece_seen (refs.LengthOf name) = LengthOf name.now

abbrev pub atom_seen : AtomRef → FdTerm × Piece
atom_seen atom = (atom.fd.now, piece_seen atom.piece)

-- the pieces of the text that is begun, and those of the parts after it
abbrev pub reading_left : Reading → List (FdTerm × Piece)
reading_left r = map (λ piece. (r.fd.now, piece)) (map Byte r.text.now ++ pieces_of r.parts.now)

abbrev pub begun_pieces : Option Reading → List (FdTerm × Piece)
begun_pieces None = []
begun_pieces (Some r) = reading_left r

abbrev pub atoms_left : Cursor → List (FdTerm × Piece)
atoms_left c = begun_pieces c.reading ++ read_atoms c.patterns.now
