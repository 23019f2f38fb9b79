-- The first fault of a file that spells no module: what stands at its place, and which bytes it hangs on.
use Rattle.std.specs.Prelude.{◌≡◌, ℕ, ◌≤◌, ◌<◌, ◌^◌, true, false, List, [], ◌∷◌, ◌++◌, length, Err, None, ◌⊎◌}
use Rattle.std.specs.Str.{is_utf8}
use Rattle.mv_syntax.specs.declared.fault.ReadFault.{ReadFault}
use Rattle.mv_syntax.specs.declared.fault.ReadKind.{ReadKind}
use Rattle.mv_syntax.specs.declared.fault.ReadKind.TheVariants.{Magic, Cut, Order, Size, Leb, Utf8, Kind, Float, LaterFeature, Count, Limit}
use Rattle.mv_syntax.specs.declared.instr.Instr.TheVariants.{Else}
use Rattle.mv_syntax.specs.Numbers.{groups, u32}
use Rattle.mv_syntax.specs.Instructions.{instruction}
use Rattle.mv_syntax.specs.Modules.{module_at}

-- the bytes have this first fault
abbrev pub HasFault : List ℕ → ReadFault → Type 0
HasFault bytes f = module_at bytes ≡ Err f

abbrev pub IsByte : List ℕ → Type 0
IsByte text = (b : ℕ) × (text ≡ b ∷ [])

-- a number, which is no good where it stands
abbrev pub IsRefused : List ℕ → Type 0
IsRefused text = (n : ℕ) × u32.spells text n

-- groups of a number that make none
abbrev pub IsNoNumber : List ℕ → Type 0
IsNoNumber text = (groups false 5 32).spells text None ⊎ ((groups true 5 32).spells text None ⊎ (groups true 10 64).spells text None)

-- What stands at the place of a fault of each kind. Nothing does where the file, a section or a body ends.
abbrev pub Stands : ReadKind → List ℕ → Type 0
Stands Magic text = IsByte text
Stands Cut text = text ≡ []
Stands Order text = IsByte text
Stands Size text = text ≡ []
Stands Leb text = IsNoNumber text
Stands Utf8 text = is_utf8 text ≡ false
Stands Kind text = IsByte text ⊎ instruction.spells text Else
Stands Float text = IsByte text
Stands LaterFeature text = IsByte text ⊎ IsRefused text
Stands Count text = (text ≡ []) ⊎ IsRefused text
Stands Limit text = (text ≡ []) ⊎ IsRefused text

-- it isn't where the file ends that the fault is
abbrev pub IsInside : List ℕ → ReadFault → Type 0
IsInside bytes f = (f.place < length bytes) ⊎ (f.kind ≡ Size)

-- A fault hangs on the bytes in front of its place, on what stands there, and on how many bytes follow. One inside
-- stays if there are more, within the limit of a file.
pub record Settled (bytes : List ℕ) (f : ReadFault) : Type 0 where
  pub front : List ℕ
  pub text : List ℕ
  pub back : List ℕ
  pub bytes_are : bytes ≡ front ++ (text ++ back)
  pub place_is : f.place ≡ length front
  pub stands : Stands f.kind text
  pub as_long : (others : List ℕ) → length others ≡ length back → HasFault (front ++ (text ++ others)) f
  pub longer : IsInside bytes f → (others : List ℕ) → length back ≤ length others → length (front ++ (text ++ others)) ≤ 2 ^ 24 → HasFault (front ++ (text ++ others)) f
