use Rattle.std.proofs.Common.{◌≡◌, ◌∷◌, drop}
use Rattle.mv_validator.specs.Typing.{Context}
use Rattle.mv_validator.specs.ControlFrames.{all_take, context_at}
use Rattle.mv_validator.specs.Views.{frame_of, frames_of}
use Rattle.mv_validator.proofs.body.all_carry.Given as goal

abbrev pub invariant-loop-n : goal.invariant-loop-n
invariant-loop-n l = (c : Context) → all_take (context_at c (frame_of l.frame ∷ frames_of l.outer)) l.labels l.wanted ≡ all_take (context_at c (frame_of l.frame ∷ frames_of l.outer)) (drop l.n-index l.labels) l.wanted
