-- Calls and replies as JSON values (docs/FORMATS.md, "Shown log"). The members of an object stand in the order of their keys.
use Rattle.std.specs.Prelude.{ℕ, List, codes, map, if◌then◌else◌}
use Rattle.std.specs.Str.{is_utf8}
use Rattle.hex.specs.Hex.{encode_lower}
use Rattle.serde_json.specs.Data.{Data, number, unsigned, string, array, object, member, no_members, Members}
use Rattle.serde_json.specs.View.{items_of}
use Rattle.mv_calls.specs.declared.subs.Sub.{Sub}
use Rattle.mv_calls.specs.declared.subs.Sub.TheVariants as sub
use Rattle.mv_calls.specs.declared.happenings.Happened.{Happened}
use Rattle.mv_calls.specs.declared.calls.Call.{Call}
use Rattle.mv_calls.specs.declared.calls.Call.TheVariants as call
use Rattle.mv_calls.specs.declared.calls.Reply.{Reply}
use Rattle.mv_calls.specs.declared.calls.Reply.TheVariants as reply

-- ## Members

abbrev pub text_at : List ℕ → List ℕ → Members → Members
text_at key text more = member key (string text) more

abbrev pub number_at : List ℕ → ℕ → Members → Members
number_at key n more = member key (number (unsigned n)) more

abbrev pub hex_at : List ℕ → Members → Members
hex_at bytes more = text_at (codes "hex") (encode_lower bytes) more

-- ## Calls

abbrev pub sub_data : Sub → Data
sub_data (sub.Clock id timeout flags) = object (number_at (codes "flags") flags (number_at (codes "id") id (text_at (codes "sub") (codes "clock") (number_at (codes "timeout") timeout no_members))))
sub_data (sub.Read fd) = object (number_at (codes "fd") fd (text_at (codes "sub") (codes "read") no_members))
sub_data (sub.Write fd) = object (number_at (codes "fd") fd (text_at (codes "sub") (codes "write") no_members))

-- the bytes as text where they are UTF-8, and else in hexadecimal
abbrev pub write_data : ℕ → List ℕ → Data
write_data fd bytes =
    if is_utf8 bytes
    then object (text_at (codes "bytes") bytes (text_at (codes "call") (codes "write") (number_at (codes "fd") fd no_members)))
    else object (text_at (codes "call") (codes "write") (number_at (codes "fd") fd (hex_at bytes no_members)))

abbrev pub call_data : Call → Data
call_data (call.Clock id) = object (text_at (codes "call") (codes "clock") (number_at (codes "id") id no_members))
call_data (call.Random len) = object (text_at (codes "call") (codes "random") (number_at (codes "len") len no_members))
call_data (call.Read fd cap) = object (text_at (codes "call") (codes "read") (number_at (codes "cap") cap (number_at (codes "fd") fd no_members)))
call_data (call.Write fd bytes) = write_data fd bytes
call_data (call.Close fd) = object (text_at (codes "call") (codes "close") (number_at (codes "fd") fd no_members))
call_data (call.FdStat fd) = object (text_at (codes "call") (codes "fdstat") (number_at (codes "fd") fd no_members))
call_data call.Yield = object (text_at (codes "call") (codes "yield") no_members)
call_data (call.Poll subs) = object (text_at (codes "call") (codes "poll") (member (codes "subs") (array (items_of (map sub_data subs))) no_members))
call_data (call.Accept fd flags) = object (text_at (codes "call") (codes "accept") (number_at (codes "fd") fd (number_at (codes "flags") flags no_members)))
call_data (call.Shutdown fd how) = object (text_at (codes "call") (codes "shutdown") (number_at (codes "fd") fd (number_at (codes "how") how no_members)))

-- ## Replies

abbrev pub happened_data : Happened → Data
happened_data x = object (number_at (codes "error") x.error (number_at (codes "flags") x.flags (number_at (codes "nbytes") x.nbytes (number_at (codes "sub") x.sub no_members))))

abbrev pub bytes_data : List ℕ → Data
bytes_data bytes =
    if is_utf8 bytes
    then object (text_at (codes "bytes") bytes (text_at (codes "reply") (codes "bytes") no_members))
    else object (hex_at bytes (text_at (codes "reply") (codes "bytes") no_members))

abbrev pub reply_data : Reply → Data
reply_data (reply.Errno errno) = object (number_at (codes "errno") errno (text_at (codes "reply") (codes "errno") no_members))
reply_data reply.Done = object (text_at (codes "reply") (codes "done") no_members)
reply_data (reply.Bytes bytes) = bytes_data bytes
reply_data (reply.Count count) = object (number_at (codes "count") count (text_at (codes "reply") (codes "count") no_members))
reply_data (reply.Fd fd) = object (number_at (codes "fd") fd (text_at (codes "reply") (codes "fd") no_members))
reply_data (reply.Time time) = object (text_at (codes "reply") (codes "time") (number_at (codes "time") time no_members))
reply_data (reply.Stat filetype flags rights heirs) = object (number_at (codes "filetype") filetype (number_at (codes "flags") flags (number_at (codes "heirs") heirs (text_at (codes "reply") (codes "stat") (number_at (codes "rights") rights no_members)))))
reply_data (reply.Ready happenings) = object (member (codes "events") (array (items_of (map happened_data happenings))) (text_at (codes "reply") (codes "ready") no_members))
