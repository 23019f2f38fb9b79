use Rattle.std.proofs.Common.{sym, ◌∙◌}
use Rattle.mv_wasi.proofs.Decodes.{waiting-for}
use Rattle.mv_wasi.proofs.GroupLaws.{asks-none}
use Rattle.mv_wasi.proofs.decoding.decode.Goals as goal

pub decode_call-requires : goal.decode_call-requires
decode_call-requires c = record {
  waits = waiting-for c.args.machine.now c.args.import c.in-Some.function c.requires.known c.requires.waits (sym c.function_of.ensures ∙ c.in-Some.is);
  texts = asks-none c.in-Some.function c.in_default.not-ArgsSizesGet c.in_default.not-ArgsGet c.in_default.not-EnvironSizesGet c.in_default.not-EnvironGet;
}
