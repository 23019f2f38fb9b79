use Rattle.std.proofs.Common.{◌≡◌, take, Some}
use Rattle.mv_validator.specs.ControlFrames.{frames_after}
use Rattle.mv_validator.specs.Valid.{context_in}
use Rattle.mv_validator.specs.Views.{frames_of}
use Rattle.mv_validator.proofs.Claims.{start_of}
use Rattle.mv_validator.proofs.body.check_body.Given as goal

abbrev pub invariant-loop-at : goal.invariant-loop-at
invariant-loop-at l = frames_after (context_in l.module l.ftype l.locals) (take l.at l.code) (start_of (context_in l.module l.ftype l.locals)) ≡ Some (frames_of l.frames.items)
