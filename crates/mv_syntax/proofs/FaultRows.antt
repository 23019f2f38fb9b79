-- Worked examples, computed: the first faults of four files, by the standard's own bytes of the preamble (5.5.16).
use Rattle.std.proofs.Common.{ℕ, List, [], ◌∷◌, refl}
use Rattle.mv_syntax.specs.declared.fault.ReadKind.TheVariants.{Magic, Cut, Kind, Size}
use Rattle.mv_syntax.specs.Forms.{byte, many}
use Rattle.mv_syntax.specs.Numbers.{groups, u32}
use Rattle.mv_syntax.specs.Types.{vector}
use Rattle.mv_syntax.specs.Sections.{section, preamble}
use Rattle.mv_syntax.specs.Modules.{sections_from, module_at}
use Rattle.mv_syntax.specs.FirstFaults.{HasFault}

abbrev begins : List ℕ → List ℕ
begins more = 0 ∷ 97 ∷ 115 ∷ 109 ∷ 1 ∷ 0 ∷ 0 ∷ 0 ∷ more

other_magic : HasFault (0 ∷ 97 ∷ 115 ∷ 110 ∷ []) (record { place = 3; kind = Magic })
unfolding module_at preamble byte
other_magic = refl

-- a section of an unknown kind
other_section : HasFault (begins (14 ∷ 0 ∷ [])) (record { place = 8; kind = Kind })
unfolding module_at preamble byte sections_from section
other_section = refl

-- a section of five bytes, of which one is there
cut_section : HasFault (begins (1 ∷ 5 ∷ 1 ∷ [])) (record { place = 11; kind = Cut })
unfolding module_at preamble byte sections_from section groups u32
cut_section = refl

-- a section of two bytes, of which one is left over
left_over : HasFault (begins (1 ∷ 2 ∷ 0 ∷ 7 ∷ [])) (record { place = 11; kind = Size })
unfolding module_at preamble byte sections_from section groups u32 vector many
left_over = refl
