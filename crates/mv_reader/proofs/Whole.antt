-- The two directions, from the module that is at the front or the first fault.
use Rattle.std.proofs.Common.{◌≡◌, ℕ, List, Result, Ok, Err, subst}
use Rattle.std.specs.Prelude.{IfOk}
use Rattle.mv_calls.specs.declared.fault.Or.{Or}
use Rattle.mv_calls.specs.declared.fault.Or.TheVariants as or
use Rattle.mv_calls.specs.Or.{IsFault}
use Rattle.mv_syntax.specs.declared.fault.ReadFault.{ReadFault}
use Rattle.mv_syntax.specs.Sections.{Parts}
use Rattle.mv_syntax.specs.Modules.{Spells, HasSpelling, AreBytes, module_at}
use Rattle.mv_syntax.proofs.ModuleLaws.{module_sound, module_complete}
use Rattle.mv_syntax.specs.Reading.{Gives}

pub has_spelling : (file : List ℕ) (p : Parts) → AreBytes file → module_at file ≡ Ok p → HasSpelling p
has_spelling file p are e = (file, are, (module_sound file p e).spelled)

pub is_found : (file : List ℕ) (r : Result Parts (Or ReadFault)) → Gives (λ m. m) r (module_at file) → IfOk r (λ m. Spells file m)
is_found file (Ok m) given = module_sound file m given
is_found file (Err e) given = tt

pub only : (file : List ℕ) (r : Result Parts (Or ReadFault)) (m : Parts) → Spells file m → Gives (λ m. m) r (module_at file) → Gives (λ m. m) r (Ok m)
only file r m s given = subst (λ (x : Result Parts ReadFault). Gives (λ m. m) r x) (module_complete file m s) given

pub none_spelled : (file : List ℕ) (r : Result Parts (Or ReadFault)) → Gives (λ m. m) r (module_at file) → IsFault r → (m : Parts) → Spells file m → ⊥
none_spelled file (Ok p) given fault m s = fault
none_spelled file (Err or.OutOfMemory) given fault m s = fault
none_spelled file (Err (or.Fault f)) given fault m s =
    let both : Ok m ≡ Err f = only file (Err (or.Fault f)) m s given in
    cc
