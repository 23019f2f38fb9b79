use Rattle.std.proofs.Common.{◌≡◌, All, vec_len}
use Rattle.mv_memory.specs.Pages.{bytes_of, flags_of, IsWhole}
use Rattle.mv_memory.specs.Memory.{OwnsLess}
use Rattle.mv_memory.proofs.pages.disown_pages.Given as goal

abbrev pub invariant-loop-page : goal.invariant-loop-page
invariant-loop-page l = record {
  whole : All IsWhole l.pages.items;
  len : vec_len l.pages ≡ vec_len l.initial.pages;
  bytes : bytes_of l.pages.items ≡ bytes_of l.initial.pages.items;
  less : OwnsLess (flags_of l.initial.pages.items) (flags_of l.pages.items) l.first l.page;
}
