-- A log's entries, one JSON object a line (docs/FORMATS.md, "Shown log").
use Rattle.std.specs.Prelude.{ℕ, ◌+◌, List, [], ◌∷◌, ◌++◌, codes, if◌then◌else◌}
use Rattle.std.specs.Str.{is_utf8}
use Rattle.serde_json.specs.Data.{Data, object, member, no_members, Members}
use Rattle.serde_json.specs.Written.{compact_text}
use Rattle.mv_orders.specs.declared.reply.OrderReply.{OrderReply}
use Rattle.mv_history.specs.declared.log.Why.{Why}
use Rattle.mv_history.specs.declared.log.Why.TheVariants as why
use Rattle.mv_history.specs.declared.log.How.{How}
use Rattle.mv_history.specs.declared.log.How.TheVariants as how
use Rattle.mv_history.specs.declared.log.Mark.{Mark}
use Rattle.mv_history.specs.declared.log.Mark.TheVariants as mark
use Rattle.mv_history.specs.declared.log.Entry.{Entry}
use Rattle.mv_history.specs.declared.log.Entry.TheVariants as entry
use Rattle.mv_show.specs.Calls.{text_at, number_at, hex_at, call_data, reply_data}
use Rattle.mv_show.specs.Causes.{cause_data}
use Rattle.mv_show.specs.Names.{trap_text}
use Rattle.mv_show.specs.Orders.{order_reply_data}

-- ## Marks

-- what each mark has, its number among it, and what stands behind
abbrev pub marked : List ℕ → ℕ → Members → Members
marked name n more = text_at (codes "kind") (codes "mark") (text_at (codes "mark") name (number_at (codes "number") n more))

abbrev pub hand_data : ℕ → Why → Data
hand_data n why.Promote = object (marked (codes "hand") n (text_at (codes "why") (codes "promote") no_members))
hand_data n why.Back = object (marked (codes "hand") n (text_at (codes "why") (codes "back") no_members))
hand_data n (why.Trap t) = object (marked (codes "hand") n (text_at (codes "trap") (trap_text t) (text_at (codes "why") (codes "trap") no_members)))

abbrev pub end_data : ℕ → How → Data
end_data n (how.Ended code) = object (number_at (codes "code") code (text_at (codes "how") (codes "ended") (marked (codes "end") n no_members)))
end_data n (how.Trapped t) = object (text_at (codes "how") (codes "trapped") (marked (codes "end") n (text_at (codes "trap") (trap_text t) no_members)))
end_data n how.Halted = object (text_at (codes "how") (codes "halted") (marked (codes "end") n no_members))
end_data n how.Cut = object (text_at (codes "how") (codes "cut") (marked (codes "end") n no_members))
end_data n how.KernelFault = object (text_at (codes "how") (codes "kernel fault") (marked (codes "end") n no_members))
end_data n how.LogLimit = object (text_at (codes "how") (codes "log limit") (marked (codes "end") n no_members))
end_data n how.Memory = object (text_at (codes "how") (codes "memory") (marked (codes "end") n no_members))

abbrev pub mark_data : ℕ → Mark → Data
mark_data n (mark.Fork update) = object (marked (codes "fork") n (number_at (codes "update") update no_members))
mark_data n (mark.NoCopy update) = object (marked (codes "nocopy") n (number_at (codes "update") update no_members))
mark_data n (mark.Hand reason) = hand_data n reason
mark_data n mark.Promote = object (marked (codes "promote") n no_members)
mark_data n mark.Over = object (marked (codes "over") n no_members)
mark_data n mark.Back = object (marked (codes "back") n no_members)
mark_data n mark.Finish = object (marked (codes "finish") n no_members)
mark_data n (mark.Discard cause) = object (member (codes "cause") (cause_data cause) (marked (codes "discard") n no_members))
mark_data n (mark.Dropped cause) = object (member (codes "cause") (cause_data cause) (marked (codes "dropped") n no_members))
mark_data n (mark.End ending) = end_data n ending

-- ## Entries

-- the line as text where it is UTF-8, and else in hexadecimal
abbrev pub order_data : ℕ → List ℕ → OrderReply → Data
order_data n text reply =
    if is_utf8 text
    then object (text_at (codes "kind") (codes "order") (number_at (codes "number") n (member (codes "reply") (order_reply_data reply) (text_at (codes "text") text no_members))))
    else object (hex_at text (text_at (codes "kind") (codes "order") (number_at (codes "number") n (member (codes "reply") (order_reply_data reply) no_members))))

abbrev pub entry_data : ℕ → Entry → Data
entry_data n (entry.Call item) = object (member (codes "call") (call_data item.0) (text_at (codes "kind") (codes "call") (number_at (codes "number") n (member (codes "reply") (reply_data item.1) no_members))))
entry_data n entry.Point = object (text_at (codes "kind") (codes "point") (number_at (codes "number") n no_members))
entry_data n (entry.Order text reply) = order_data n text reply
entry_data n (entry.Mark mark) = mark_data n mark

-- ## Lines

-- the value as `serde_json` prints it, and a line feed
abbrev pub entry_line : ℕ → Entry → List ℕ
entry_line n e = compact_text (entry_data n e) ++ 10 ∷ []

-- each entry's line, the first of them with the number n
abbrev pub lines_from : ℕ → List Entry → List ℕ
lines_from n [] = []
lines_from n (e ∷ rest) = entry_line n e ++ lines_from (n + 1) rest

abbrev pub log_text : List Entry → List ℕ
log_text entries = lines_from 0 entries
