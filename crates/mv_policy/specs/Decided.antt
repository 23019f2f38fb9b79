-- What a policy says of a console line.
use Rattle.std.specs.Prelude.{ℕ, ◌+◌, ◌==◌, Bool, true, false, ◌&&◌, if◌then◌else◌, List, length, take, drop, Option, Some, None, position, slice_get}
use Rattle.std.specs.Option.{option_map}
use Rattle.std.specs.List.{before_first, list_any}
use Rattle.std.specs.Str.{bytes_eq}
use Rattle.mv_policy.specs.declared.line.Who.{Who}
use Rattle.mv_policy.specs.declared.line.Who.TheVariants.{Anyone, Named}
use Rattle.mv_policy.specs.declared.line.Which.{Which}
use Rattle.mv_policy.specs.declared.line.Which.TheVariants as which
use Rattle.mv_policy.specs.declared.line.PolicyLine.{PolicyLine}
use Rattle.mv_policy.specs.declared.line.PolicyLine.TheVariants.{Empty, User, Allow, Deny}
use Rattle.mv_policy.specs.declared.decision.Decision.{Decision}
use Rattle.mv_policy.specs.declared.decision.Decision.TheVariants.{Allowed, Denied}
use Rattle.mv_policy.specs.PolicyText.{which_text}

-- ## A console line: NAME TOKEN ORDER

-- what stands before the first space, and what behind it, if there is one
abbrev pub at_space : List ℕ → Option (List ℕ × List ℕ)
at_space bytes = option_map (λ n. (take n bytes, drop (n + 1) bytes)) (position (λ b. b == 32) bytes)

abbrev pub first_word : List ℕ → List ℕ
first_word order = before_first (λ b. b == 32) order

-- ## Rules

-- the line names this user with this token
abbrev pub knows : List ℕ → List ℕ → PolicyLine → Bool
knows name token Empty = false
knows name token (User other key) = bytes_eq other name && bytes_eq key token
knows name token (Allow who which) = false
knows name token (Deny who which) = false

abbrev pub is_for : List ℕ → Who → Bool
is_for name Anyone = true
is_for name (Named other) = bytes_eq other name

-- the rule is on orders of this first word
abbrev pub covers : Which → List ℕ → Bool
covers which.Any word = true
covers w word = bytes_eq (which_text w) word

-- the line is a rule on this user's orders of this word
abbrev pub applies : List ℕ → List ℕ → PolicyLine → Bool
applies name word Empty = false
applies name word (User other token) = false
applies name word (Allow who w) = is_for name who && covers w word
applies name word (Deny who w) = is_for name who && covers w word

abbrev pub allows : PolicyLine → Bool
allows Empty = false
allows (User other token) = false
allows (Allow who which) = true
allows (Deny who which) = false

-- what the rule at this line says of the order that begins at this place
abbrev pub ruled : ℕ → ℕ → Option PolicyLine → Decision
ruled from number None = Denied 0
ruled from number (Some line) = if allows line then Allowed from number else Denied number

-- the first rule that applies decides; without one the order is denied. The first line of these has the number 2
abbrev pub by_rule : List PolicyLine → ℕ → Option ℕ → Decision
by_rule policy from None = Denied 0
by_rule policy from (Some place) = ruled from (place + 2) (slice_get policy place)

abbrev pub by_token : List PolicyLine → List ℕ → Option (List ℕ × List ℕ) → Decision
by_token policy name None = Denied 0
by_token policy name (Some said) =
    if list_any (knows name said.0) policy
    then by_rule policy (length name + length said.0 + 2) (position (applies name (first_word said.1)) policy)
    else Denied 0

abbrev pub by_name : List PolicyLine → Option (List ℕ × List ℕ) → Decision
by_name policy None = Denied 0
by_name policy (Some said) = by_token policy said.0 (at_space said.1)

-- what the policy says of the console line NAME TOKEN ORDER: of a user with his token, by the first rule on him and ORDER's
-- first word; of any other line, that it is denied by no rule
abbrev pub decided : List PolicyLine → List ℕ → Decision
decided policy line = by_name policy (at_space line)
