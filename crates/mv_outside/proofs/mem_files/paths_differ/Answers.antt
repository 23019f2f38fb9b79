-- The file looked at has a twin after it, or none.
use Rattle.std.proofs.Common.{rules, arith, sym, ◌∙◌, ◌≡◌, ◌+◌}
use Rattle.std.specs.Prelude.{drop}
use Rattle.std.specs.List.{position_or_len}
use Rattle.mv_outside.specs.MemFiles.{is_at}
use Rattle.mv_outside.proofs.FilesLaws.{differ_more, differ_not}
use Rattle.mv_outside.proofs.mem_files.paths_differ.Goals as goal

pub returns-then-place_of-rest : goal.returns-then-place_of-rest
returns-then-place_of-rest c =
    let place : c.place_of.result ≡ position_or_len (is_at c.index-files-next.result.path) (drop (c.loop-next.next + 1) c.args.files.now) = search rules in
    sym (differ_not c.args.files.now c.loop-next.next c.index-files-next.result (search rules) (search rules) (search rules))
    ∙ c.loop-next.invariant.1

pub loop-next-preserved : goal.loop-next-preserved
loop-next-preserved c =
    let place : c.place_of.result ≡ position_or_len (is_at c.index-files-next.result.path) (drop (c.loop-next.next + 1) c.args.files.now) = search rules in (
      omega arith,
      sym (differ_more c.args.files.now c.loop-next.next c.index-files-next.result (search rules) (search rules) (search rules))
          ∙ c.loop-next.invariant.1,
    )
