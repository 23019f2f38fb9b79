use Rattle.mv_writer.proofs.Empty.{empty_has_spelling}
use Rattle.mv_writer.proofs.tests.the_empty_module_has_no_section.Goals as goal

pub invariant_of-module : goal.invariant_of-module
invariant_of-module g c = rw (c.from_vec.ensures, c.new.ensures.items, c.from_vec-2.ensures, c.new-2.ensures.items, c.from_vec-3.ensures, c.new-3.ensures.items, c.from_vec-4.ensures, c.new-4.ensures.items, c.from_vec-5.ensures, c.new-5.ensures.items, c.from_vec-6.ensures, c.new-6.ensures.items, c.from_vec-7.ensures, c.new-7.ensures.items) empty_has_spelling
