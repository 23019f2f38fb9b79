-- The lists of a module that has a spelling are counted by numbers of 32 bits.
use Rattle.std.proofs.Common.{◌≡◌, ℕ, ◌≤◌, ◌<◌, ◌^◌, List, length, sym, ap, subst, arith}
use Rattle.std.proofs.lemmas.List.{length-append}
use Rattle.std.specs.List.{AllByRecursion}
use Rattle.mv_syntax.specs.Form.{Form}
use Rattle.mv_syntax.specs.Numbers.{u32}
use Rattle.mv_syntax.specs.Types.{vector, func_type}
use Rattle.mv_syntax.specs.Code.{code}
use Rattle.mv_syntax.specs.Parts.{import_, global, export, element, segment, body, func}
use Rattle.mv_syntax.specs.Sections.{Parts, Sections, nothing_yet, Types, Imports, Functions, Tables, Memories, Globals, Exports, Start, Elements, Bodies, Data}
use Rattle.mv_syntax.specs.Modules.{HasSpelling}
use Rattle.mv_syntax.specs.Counted.{IsShort, AreCounted}
use Rattle.mv_syntax.proofs.NumberBounds.{u32_below}
use Rattle.mv_syntax.proofs.BodyLaws.{each_long}
use Rattle.mv_syntax.proofs.KeptLaws.{Holds, many_length, each_hold}
use Rattle.mv_syntax.proofs.SectionInduction.{StaysWith, sections_hold}

vector_count : {A : Type 0} (f : Form A) (text : List ℕ) (items : List A) → (vector f).spells text items → length items < 2 ^ 32
unfolding vector
vector_count f text items s = omega (arith, many_length f s.first s.back items s.back_spells, u32_below s.front s.first s.front_spells)

-- a body has a byte at least for each instruction
func_short : (t : ℕ) → Holds (func t) IsShort
unfolding func body code
func_short t text f s =
    let size : s.first < 2 ^ 32 = u32_below s.front s.first s.front_spells in
    let inner = s.back_spells.0 in
    let locals = inner.back_spells in
    let rest = locals.back_spells in
    let long : length rest.first ≤ length rest.front = each_long rest.first rest.front rest.front_spells.each in
    let short : length rest.first < 2 ^ 32 = omega (arith, long, s.back_spells.1, size, ap length inner.whole, length-append inner.front inner.back, ap length locals.whole, length-append locals.front locals.back, ap length rest.whole, length-append rest.front rest.back) in
    subst IsShort (sym rest.back_spells.1) short

-- so far
record Counts (s : Sections) : Type 0 where
  pub types : length s.parts.types < 2 ^ 32
  pub declared : length s.declared < 2 ^ 32
  pub imports : length s.parts.imports < 2 ^ 32
  pub globals : length s.parts.globals < 2 ^ 32
  pub exports : length s.parts.exports < 2 ^ 32
  pub elements : length s.parts.elements < 2 ^ 32
  pub segments : length s.parts.segments < 2 ^ 32
  pub bodies : AllByRecursion IsShort s.parts.funcs

so : (more held : Sections) → held ≡ more → Counts more → Counts held
so more held e h = subst Counts (sym e) h

contents_counted : StaysWith Counts
contents_counted Types s h order text held p size = so _ held p.back_spells.1 (record { types = vector_count func_type p.front p.first p.front_spells; declared = h.declared; imports = h.imports; globals = h.globals; exports = h.exports; elements = h.elements; segments = h.segments; bodies = h.bodies })
contents_counted Imports s h order text held p size = so _ held p.back_spells.1 (record { types = h.types; declared = h.declared; imports = vector_count import_ p.front p.first p.front_spells; globals = h.globals; exports = h.exports; elements = h.elements; segments = h.segments; bodies = h.bodies })
contents_counted Functions s h order text held p size = so _ held p.back_spells.1 (record { types = h.types; declared = vector_count u32 p.front p.first p.front_spells; imports = h.imports; globals = h.globals; exports = h.exports; elements = h.elements; segments = h.segments; bodies = h.bodies })
contents_counted Tables s h order text held p size = so _ held p.back_spells.back_spells.1 (record { types = h.types; declared = h.declared; imports = h.imports; globals = h.globals; exports = h.exports; elements = h.elements; segments = h.segments; bodies = h.bodies })
contents_counted Memories s h order text held p size = so _ held p.back_spells.back_spells.1 (record { types = h.types; declared = h.declared; imports = h.imports; globals = h.globals; exports = h.exports; elements = h.elements; segments = h.segments; bodies = h.bodies })
contents_counted Globals s h order text held p size = so _ held p.back_spells.1 (record { types = h.types; declared = h.declared; imports = h.imports; globals = vector_count global p.front p.first p.front_spells; exports = h.exports; elements = h.elements; segments = h.segments; bodies = h.bodies })
contents_counted Exports s h order text held p size = so _ held p.back_spells.1 (record { types = h.types; declared = h.declared; imports = h.imports; globals = h.globals; exports = vector_count export p.front p.first p.front_spells; elements = h.elements; segments = h.segments; bodies = h.bodies })
contents_counted Start s h order text held p size = so _ held p.back_spells.1 (record { types = h.types; declared = h.declared; imports = h.imports; globals = h.globals; exports = h.exports; elements = h.elements; segments = h.segments; bodies = h.bodies })
contents_counted Elements s h order text held p size = so _ held p.back_spells.1 (record { types = h.types; declared = h.declared; imports = h.imports; globals = h.globals; exports = h.exports; elements = vector_count element p.front p.first p.front_spells; segments = h.segments; bodies = h.bodies })
contents_counted Bodies s h order text held p size = so _ held p.back_spells.back_spells.1 (record { types = h.types; declared = h.declared; imports = h.imports; globals = h.globals; exports = h.exports; elements = h.elements; segments = h.segments; bodies = each_hold func IsShort func_short s.declared p.back_spells.front p.back_spells.first p.back_spells.front_spells })
contents_counted Data s h order text held p size = so _ held p.back_spells.1 (record { types = h.types; declared = h.declared; imports = h.imports; globals = h.globals; exports = h.exports; elements = h.elements; segments = vector_count segment p.front p.first p.front_spells; bodies = h.bodies })

none_counted : Counts nothing_yet
none_counted = record { types = omega arith; declared = omega arith; imports = omega arith; globals = omega arith; exports = omega arith; elements = omega arith; segments = omega arith; bodies = tt }

pub spelled_counted : (p : Parts) → HasSpelling p → AreCounted p
spelled_counted p h =
    let s = h.2 in
    let k = sections_hold Counts contents_counted s.count nothing_yet none_counted s.back s.held s.goes_on in
    subst AreCounted s.parts_is (record { types = k.types; imports = k.imports; funcs = omega (arith, s.bodies, k.declared); globals = k.globals; exports = k.exports; elements = k.elements; segments = k.segments; bodies = k.bodies })
