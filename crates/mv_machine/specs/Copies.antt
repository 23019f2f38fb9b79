-- Copies of calls.
use Rattle.std.specs.Prelude.{◌≡◌, ◌<◌, List, [], ◌∷◌, vec_len, vec_capacity}
use Rattle.mv_frames.specs.declared.frame.Frame.{Frame}

-- the same call, with place for one operand more
pub record IsSameFrame (f copy : Frame) : Type 0 where
  pub func : copy.func ≡ f.func
  pub gives : copy.gives ≡ f.gives
  pub at : copy.at ≡ f.at
  pub locals : copy.locals.items ≡ f.locals.items
  pub operands : copy.operands.items ≡ f.operands.items
  pub labels : copy.labels.items ≡ f.labels.items
  pub place : vec_len copy.operands < vec_capacity copy.operands

abbrev pub AreSameFrames : List Frame → List Frame → Type 0
AreSameFrames [] [] = Unit {0}
AreSameFrames [] (g ∷ gs) = ⊥
AreSameFrames (f ∷ fs) [] = ⊥
AreSameFrames (f ∷ fs) (g ∷ gs) = IsSameFrame f g × AreSameFrames fs gs
