use Rattle.mv_core.proofs.tests.turns.Given as goal

abbrev pub ghosts-turned : goal.ghosts-turned
ghosts-turned g a = record {
  began = record {
    start = a.log.start.«module»;
    args = a.log.start.args;
    done = g.K.Kernel.done a.kernel;
    coming = g.C.Console.coming a.console;
    said = g.C.Console.said a.console;
    files = g.F.Files.content a.files;
    kernel_faults = g.K.Kernel.faults a.kernel;
    console_faults = g.C.Console.faults a.console;
    files_faults = g.F.Files.faults a.files;
  };
}
