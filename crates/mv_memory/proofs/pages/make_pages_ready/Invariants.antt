use Rattle.std.proofs.Common.{◌≡◌, All, vec_len, true, false}
use Rattle.mv_memory.specs.Pages.{bytes_of, flags_of, ready_of, IsWhole}
use Rattle.mv_memory.specs.Memory.{AreOwned, KeepsPages, OwnsOnly}
use Rattle.mv_memory.proofs.pages.make_pages_ready.Given as goal

abbrev pub invariant-loop-page : goal.invariant-loop-page
invariant-loop-page l = record {
  whole : All IsWhole l.pages.items;
  len : vec_len l.pages ≡ vec_len l.initial.pages;
  bytes : bytes_of l.pages.items ≡ bytes_of l.initial.pages.items;
  kept : KeepsPages (flags_of l.initial.pages.items) (flags_of l.pages.items);
  kept_ready : KeepsPages (ready_of l.initial.pages.items) (ready_of l.pages.items);
  same : l.own ≡ false → flags_of l.pages.items ≡ flags_of l.initial.pages.items;
  only : OwnsOnly (flags_of l.initial.pages.items) (flags_of l.pages.items) l.first l.page;
  ready : AreOwned (ready_of l.pages.items) l.first l.page;
  owned : l.own ≡ true → AreOwned (flags_of l.pages.items) l.first l.page;
}
