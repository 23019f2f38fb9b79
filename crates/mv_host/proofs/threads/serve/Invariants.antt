use Rattle.mv_rehearse.specs.Runs.{began_with}
use Rattle.mv_host.proofs.threads.serve.Given as goal

abbrev pub ghosts-serve_within : goal.ghosts-serve_within
ghosts-serve_within g a = record { began = began_with g.K.Kernel.done g.K.Kernel.faults g.C.Console.coming g.C.Console.said g.C.Console.faults g.F.Files.content g.F.Files.faults a.log a.kernel a.console a.files }
