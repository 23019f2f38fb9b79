-- The empty module has a spelling.
use Rattle.std.proofs.Common.{zero, suc, [], refl, arith}
use Rattle.mv_syntax.specs.Sections.{nothing_yet, sections}
use Rattle.mv_syntax.specs.Modules.{AreBytes, HasSpelling}
use Rattle.mv_writer.specs.Written.{written_preamble}
use Rattle.mv_writer.proofs.Placing.{preamble_made}

preamble_bytes : AreBytes written_preamble
preamble_bytes zero = omega arith
preamble_bytes (suc zero) = omega arith
preamble_bytes (suc (suc zero)) = omega arith
preamble_bytes (suc (suc (suc zero))) = omega arith
preamble_bytes (suc (suc (suc (suc zero)))) = omega arith
preamble_bytes (suc (suc (suc (suc (suc zero))))) = omega arith
preamble_bytes (suc (suc (suc (suc (suc (suc zero)))))) = omega arith
preamble_bytes (suc (suc (suc (suc (suc (suc (suc zero))))))) = omega arith
preamble_bytes (suc (suc (suc (suc (suc (suc (suc (suc i)))))))) = omega arith

pub empty_has_spelling : HasSpelling nothing_yet.parts
unfolding sections
empty_has_spelling = (
  written_preamble,
  preamble_bytes,
  record { front = written_preamble; back = []; whole = refl; begins = preamble_made; count = 0; held = nothing_yet; goes_on = (refl, refl); bodies = refl; parts_is = refl },
)
