-- How a rule's left side is found to match the items at the front, and what its right side makes (docs/FORMATS.md,
-- "Rewrite rules"). `Matches` says in the words of the rules what is found here.
use Rattle.std.specs.Prelude.{ℕ, ◌<◌, ◌^◌, ◌==◌, nat_eq, nat_le, nat_lt, decimal, Bool, true, false, List, [], ◌∷◌, ◌++◌, length, take, drop, map, Option, Some, None, option_and_then, unwrap_or, if◌then◌else◌}
use Rattle.std.specs.Option.{option_map}
use Rattle.std.specs.List.{flat_map, list_all}
use Rattle.std.specs.Str.{bytes_eq}
use Rattle.mv_calls.specs.declared.calls.Call.{Call}
use Rattle.mv_calls.specs.declared.calls.Call.TheVariants as calls
use Rattle.mv_calls.specs.declared.calls.Reply.{Reply}
use Rattle.mv_calls.specs.declared.calls.Reply.TheVariants as replies
use Rattle.mv_rules.specs.declared.rule.FdTerm.{FdTerm}
use Rattle.mv_rules.specs.declared.rule.FdTerm.TheVariants as fds
use Rattle.mv_rules.specs.declared.rule.TimeTerm.{TimeTerm}
use Rattle.mv_rules.specs.declared.rule.TimeTerm.TheVariants as times
use Rattle.mv_rules.specs.declared.rule.Part.{Part}
use Rattle.mv_rules.specs.declared.rule.Part.TheVariants.{Text, Sized, Named, Length}
use Rattle.mv_rules.specs.declared.rule.Comparison.{Comparison}
use Rattle.mv_rules.specs.declared.rule.Comparison.TheVariants.{Equal, Less, Greater}
use Rattle.mv_rules.specs.declared.rule.Guard.{Guard}
use Rattle.mv_rules.specs.declared.rule.Pattern.{Pattern}
use Rattle.mv_rules.specs.declared.rule.Pattern.TheVariants as patterns
use Rattle.mv_rules.specs.declared.rule.Rule.{Rule}
use Rattle.mv_rewrite.specs.Bound.{Bound, unbound}
use Rattle.mv_rewrite.specs.declared.fit.Fit.{Fit}
use Rattle.mv_rewrite.specs.declared.fit.Fit.TheVariants.{Whole, Short, Not}

abbrev pub value_of : {V : Type 0} → List ℕ → List (List ℕ × V) → Option V
value_of name [] = None
value_of name (entry ∷ entries) = if bytes_eq entry.0 name then Some entry.1 else value_of name entries

-- a name without a value gets this one; a name with a value must have this one
abbrev pub bind_found : {V : Type 0} → (V → V → Bool) → List ℕ → V → List (List ℕ × V) → Option V → Option (List (List ℕ × V))
bind_found same name value entries None = Some (entries ++ (name, value) ∷ [])
bind_found same name value entries (Some bound) = if same bound value then Some entries else None

abbrev pub bind : {V : Type 0} → (V → V → Bool) → List ℕ → V → List (List ℕ × V) → Option (List (List ℕ × V))
bind same name value entries = bind_found same name value entries (value_of name entries)

abbrev pub bind_fd : FdTerm → ℕ → Bound → Option Bound
bind_fd (fds.Number number) fd b = if number == fd then Some b else None
bind_fd (fds.Name name) fd b = option_map (λ entries. record b { fds = entries }) (bind nat_eq name fd b.fds)

abbrev pub bind_time : TimeTerm → ℕ → Bound → Option Bound
bind_time (times.Number number) time b = if number == time then Some b else None
bind_time (times.Name name) time b = option_map (λ entries. record b { times = entries }) (bind nat_eq name time b.times)

abbrev pub bind_bytes : List ℕ → List ℕ → Bound → Option Bound
bind_bytes name value b = option_map (λ entries. record b { bytes = entries }) (bind bytes_eq name value b.bytes)

-- a part takes its bytes off the front, and leaves those behind them
abbrev pub bind_part : Part → List ℕ → Bound → Option (Bound × List ℕ)
bind_part (Text text) bytes b = if bytes_eq (take (length text) bytes) text then Some (b, drop (length text) bytes) else None
bind_part (Sized name count) bytes b =
    if nat_le count (length bytes) then option_map (λ c. (c, drop count bytes)) (bind_bytes name (take count bytes) b) else None
bind_part (Named name) bytes b = option_map (λ c. (c, [])) (bind_bytes name bytes b)
bind_part (Length name) bytes b = None

-- the parts, one after another, are all of the bytes
abbrev pub bind_parts : List Part → List ℕ → Bound → Option Bound
bind_parts [] bytes b = if length bytes == 0 then Some b else None
bind_parts (part ∷ parts) bytes b = option_and_then (λ t. bind_parts parts t.1 t.0) (bind_part part bytes b)

abbrev pub only_if : Bool → Option Bound → Option Bound
only_if true b = b
only_if false b = None

-- a pattern matches a call with its reply
abbrev pub bind_item : Pattern → Call → Reply → Bound → Option Bound
bind_item (patterns.Read fd parts) (calls.Read f cap) (replies.Bytes bytes) b = option_and_then (bind_parts parts bytes) (bind_fd fd f b)
bind_item (patterns.ReadErrno fd errno) (calls.Read f cap) (replies.Errno e) b = only_if (errno == e) (bind_fd fd f b)
bind_item (patterns.Write fd parts) (calls.Write f bytes) (replies.Count count) b =
    only_if (count == length bytes) (option_and_then (bind_parts parts bytes) (bind_fd fd f b))
bind_item (patterns.WriteErrno fd parts errno) (calls.Write f bytes) (replies.Errno e) b =
    only_if (errno == e) (option_and_then (bind_parts parts bytes) (bind_fd fd f b))
bind_item (patterns.Accept listener flags made) (calls.Accept f k) (replies.Fd n) b =
    only_if (flags == k) (option_and_then (bind_fd made n) (bind_fd listener f b))
bind_item (patterns.AcceptErrno listener flags errno) (calls.Accept f k) (replies.Errno e) b =
    only_if (flags == k) (only_if (errno == e) (bind_fd listener f b))
bind_item (patterns.Close fd) (calls.Close f) replies.Done b = bind_fd fd f b
bind_item (patterns.CloseErrno fd errno) (calls.Close f) (replies.Errno e) b = only_if (errno == e) (bind_fd fd f b)
bind_item (patterns.Shutdown fd how) (calls.Shutdown f h) replies.Done b = only_if (how == h) (bind_fd fd f b)
bind_item (patterns.ShutdownErrno fd how errno) (calls.Shutdown f h) (replies.Errno e) b =
    only_if (how == h) (only_if (errno == e) (bind_fd fd f b))
bind_item patterns.Yield calls.Yield replies.Done b = Some b
bind_item (patterns.Clock id time) (calls.Clock i) (replies.Time t) b = only_if (id == i) (bind_time time t b)
bind_item (patterns.Random parts) (calls.Random len) (replies.Bytes bytes) b = bind_parts parts bytes b
bind_item pattern call reply b = None

-- ## Guards

-- whether a length stands so to a number
abbrev pub stands_to : Comparison → ℕ → ℕ → Bool
stands_to Equal size number = size == number
stands_to Less size number = nat_lt size number
stands_to Greater size number = nat_lt number size

-- a guard passes while its name has no value
abbrev pub guard_passes : Guard → Option (List ℕ) → Bool
guard_passes guard None = true
guard_passes guard (Some bytes) = stands_to guard.comparison (length bytes) guard.length

abbrev pub guards_pass : Bound → List Guard → Bool
guards_pass b guards = list_all (λ guard. guard_passes guard (value_of guard.name b.bytes)) guards

-- a pattern matches, and each guard on a name that is bound by then passes
abbrev pub bind_guarded : List Guard → Pattern → Call → Reply → Bound → Option Bound
bind_guarded guards pattern call reply b = option_and_then (λ c. only_if (guards_pass c guards) (Some c)) (bind_item pattern call reply b)

-- The left side against the items: it matches as many as it has, or it matches them all and wants more, or it doesn't match.
abbrev pub fit_after : Option Bound → (Bound → Fit) → Fit
fit_after None rest = Not
fit_after (Some b) rest = rest b

abbrev pub fit_of : List Guard → List Pattern → List (Call × Reply) → Bound → Fit
fit_of guards [] items b = Whole b
fit_of guards (pattern ∷ patterns) [] b = Short
fit_of guards (pattern ∷ patterns) (item ∷ items) b = fit_after (bind_guarded guards pattern item.0 item.1 b) (fit_of guards patterns items)

-- how a rule stands to the items at the front
abbrev pub rule_fit : Rule → List (Call × Reply) → Fit
rule_fit rule items = fit_of rule.guards rule.left items unbound

-- ## What is made

abbrev pub fd_value : FdTerm → Bound → ℕ
fd_value (fds.Number number) b = number
fd_value (fds.Name name) b = unwrap_or (value_of name b.fds) 0

abbrev pub time_value : TimeTerm → Bound → ℕ
time_value (times.Number number) b = number
time_value (times.Name name) b = unwrap_or (value_of name b.times) 0

-- the bytes that a name is bound to
abbrev pub bytes_named : Bound → List ℕ → List ℕ
bytes_named b name = unwrap_or (value_of name b.bytes) []

abbrev pub part_value : Bound → Part → List ℕ
part_value b (Text text) = text
part_value b (Sized name count) = bytes_named b name
part_value b (Named name) = bytes_named b name
part_value b (Length name) = decimal (length (bytes_named b name))

abbrev pub bytes_value : List Part → Bound → List ℕ
bytes_value parts b = flat_map (part_value b) parts

-- the call and the reply that a pattern makes
abbrev pub made_of : Bound → Pattern → Call × Reply
made_of b (patterns.Read fd parts) = (calls.Read (fd_value fd b) (length (bytes_value parts b)), replies.Bytes (bytes_value parts b))
made_of b (patterns.ReadErrno fd errno) = (calls.Read (fd_value fd b) 0, replies.Errno errno)
made_of b (patterns.Write fd parts) = (calls.Write (fd_value fd b) (bytes_value parts b), replies.Count (length (bytes_value parts b)))
made_of b (patterns.WriteErrno fd parts errno) = (calls.Write (fd_value fd b) (bytes_value parts b), replies.Errno errno)
made_of b (patterns.Accept listener flags made) = (calls.Accept (fd_value listener b) flags, replies.Fd (fd_value made b))
made_of b (patterns.AcceptErrno listener flags errno) = (calls.Accept (fd_value listener b) flags, replies.Errno errno)
made_of b (patterns.Close fd) = (calls.Close (fd_value fd b), replies.Done)
made_of b (patterns.CloseErrno fd errno) = (calls.Close (fd_value fd b), replies.Errno errno)
made_of b (patterns.Shutdown fd how) = (calls.Shutdown (fd_value fd b) how, replies.Done)
made_of b (patterns.ShutdownErrno fd how errno) = (calls.Shutdown (fd_value fd b) how, replies.Errno errno)
made_of b patterns.Yield = (calls.Yield, replies.Done)
made_of b (patterns.Clock id time) = (calls.Clock id, replies.Time (time_value time b))
made_of b (patterns.Random parts) = (calls.Random (length (bytes_value parts b)), replies.Bytes (bytes_value parts b))

-- the bytes that a call writes
abbrev pub written_by : Call → List ℕ
written_by (calls.Write fd bytes) = bytes
written_by call = []

-- a count, which has 32 bits, can say how many bytes the item writes
abbrev pub IsCounted : Call × Reply → Type 0
IsCounted item = length (written_by item.0) < 2 ^ 32

-- the cap or length that a reply needs
abbrev pub needed : ℕ → Reply → ℕ
needed cap (replies.Bytes bytes) = length bytes
needed cap (replies.Errno errno) = 0
needed cap reply = cap

-- an item with the cap or the length that its reply needs
abbrev pub trimmed : Call → Reply → Call × Reply
trimmed (calls.Read fd cap) reply = (calls.Read fd (needed cap reply), reply)
trimmed (calls.Random len) reply = (calls.Random (needed len reply), reply)
trimmed call reply = (call, reply)

-- ## A rule at the front of a list

abbrev pub made_by : Rule → Fit → Option (List (Call × Reply) × ℕ)
made_by rule (Whole b) = Some (map (made_of b) rule.right, length rule.left)
made_by rule Short = None
made_by rule Not = None

abbrev pub is_short : Fit → Bool
is_short (Whole b) = false
is_short Short = true
is_short Not = false

-- what a rule makes of the items at the front, and how many it takes
abbrev pub front_of : Rule → List (Call × Reply) → Option (List (Call × Reply) × ℕ)
front_of rule items = made_by rule (rule_fit rule items)

-- whether a rule could match with more items behind these
abbrev pub could_match : Rule → List (Call × Reply) → Bool
could_match rule items = is_short (rule_fit rule items)
