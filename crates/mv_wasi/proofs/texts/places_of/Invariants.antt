use Rattle.std.proofs.Common.{◌≡◌, ◌+◌, ◌++◌, drop}
use Rattle.mv_wasi.specs.Ranges.{text_size, place_bytes}
use Rattle.mv_wasi.proofs.texts.places_of.Given as goal

abbrev pub invariant-loop-text : goal.invariant-loop-text
invariant-loop-text l = record {
  place : l.place + text_size (drop l.text-index l.texts) ≡ l.buf + text_size l.texts;
  whole : l.places.items ++ place_bytes l.place (drop l.text-index l.texts) ≡ place_bytes l.buf l.texts;
}
