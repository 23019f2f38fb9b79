-- Matching in the words of the rules (docs/FORMATS.md, "Rewrite rules"): one binding of a rule's names makes each item line
-- its item, and every guard holds under it. The cap of a read doesn't count.
use Rattle.std.specs.Prelude.{◌≡◌, ◌⊎◌, ℕ, ◌<◌, Bool, true, false, ◌||◌, List, [], ◌∷◌, Some, length, take, unwrap_or}
use Rattle.std.specs.List.{flat_map}
use Rattle.std.specs.Str.{bytes_eq}
use Rattle.mv_calls.specs.declared.calls.Call.{Call}
use Rattle.mv_calls.specs.declared.calls.Reply.{Reply}
use Rattle.mv_rules.specs.declared.rule.Part.{Part}
use Rattle.mv_rules.specs.declared.rule.Part.TheVariants.{Text, Sized, Named, Length}
use Rattle.mv_rules.specs.declared.rule.Pattern.{Pattern}
use Rattle.mv_rules.specs.declared.rule.Comparison.{Comparison}
use Rattle.mv_rules.specs.declared.rule.Comparison.TheVariants.{Equal, Less, Greater}
use Rattle.mv_rules.specs.declared.rule.Guard.{Guard}
use Rattle.mv_rules.specs.declared.rule.Rule.{Rule}
use Rattle.mv_rules.specs.Names.{parts_in}
use Rattle.mv_rewrite.specs.Bound.{Bound}
use Rattle.mv_rewrite.specs.Matching.{bytes_named, bytes_value, made_of, trimmed, value_of}

-- ## Items

-- What is asked of a part on the left, before the bytes that the parts behind it make: a part with a length has a value of
-- that length, behind all the rest stands nothing, and `#name` stands on the right alone.
abbrev pub PartHolds : Bound → Part → List ℕ → Type 0
PartHolds d (Text text) behind = Unit {0}
PartHolds d (Sized name count) behind = length (bytes_named d name) ≡ count
PartHolds d (Named name) behind = behind ≡ []
PartHolds d (Length name) behind = ⊥

abbrev pub PartsHold : Bound → List Part → Type 0
PartsHold d [] = Unit {0}
PartsHold d (part ∷ parts) = PartHolds d part (bytes_value parts d) × PartsHold d parts

-- the binding makes the item line this item
abbrev pub ItemUnder : Bound → Pattern → Call × Reply → Type 0
ItemUnder d pattern item = (made_of d pattern ≡ trimmed item.0 item.1) × PartsHold d (parts_in pattern)

-- item by item, over lists of one length
abbrev pub ItemsUnder : Bound → List Pattern → List (Call × Reply) → Type 0
ItemsUnder d [] [] = Unit {0}
ItemsUnder d [] (item ∷ items) = ⊥
ItemsUnder d (pattern ∷ side) [] = ⊥
ItemsUnder d (pattern ∷ side) (item ∷ items) = ItemUnder d pattern item × ItemsUnder d side items

-- ## Guards

abbrev pub StandsTo : Comparison → ℕ → ℕ → Type 0
StandsTo Equal size number = size ≡ number
StandsTo Less size number = size < number
StandsTo Greater size number = number < size

-- the length of the bytes that the name is bound to stands so to the guard's number
abbrev pub GuardHolds : Bound → Guard → Type 0
GuardHolds d guard = StandsTo guard.comparison (length (bytes_named d guard.name)) guard.length

-- the byte names that patterns bind
abbrev pub names_of_part : Part → List (List ℕ)
names_of_part (Sized name count) = name ∷ []
names_of_part (Named name) = name ∷ []
names_of_part part = []

abbrev pub byte_names : List Pattern → List (List ℕ)
byte_names side = flat_map (λ pattern. flat_map names_of_part (parts_in pattern)) side

abbrev pub is_among : List ℕ → List (List ℕ) → Bool
is_among name [] = false
is_among name (other ∷ names) = bytes_eq other name || is_among name names

-- every guard on one of these names holds
abbrev pub GuardsHold : Bound → List Guard → List (List ℕ) → Type 0
GuardsHold d [] names = Unit {0}
GuardsHold d (guard ∷ guards) names = (is_among guard.name names ≡ true → GuardHolds d guard) × GuardsHold d guards names

-- ## Rules

-- The rule matches the items: there are as many as item lines on its left, the binding makes each line its item, and every
-- guard on a name of the left holds. In the rules of a file each guard is on such a name.
pub record MatchesUnder (d : Bound) (rule : Rule) (items : List (Call × Reply)) : Type 0 where
  pub lines : ItemsUnder d rule.left items
  pub guards : GuardsHold d rule.guards (byte_names rule.left)

-- The rule could match a list that begins with the items: they are fewer than its left side has, the binding makes its
-- first lines these items, and every guard on a name that these lines bind holds.
pub record CouldMatchUnder (d : Bound) (rule : Rule) (items : List (Call × Reply)) : Type 0 where
  pub fewer : length items < length rule.left
  pub lines : ItemsUnder d (take (length items) rule.left) items
  pub guards : GuardsHold d rule.guards (byte_names (take (length items) rule.left))

-- the rule matches the first of the items, as many as it has on its left
abbrev pub MatchesFront : Rule → List (Call × Reply) → Type 0
MatchesFront rule items = (d : Bound) × MatchesUnder d rule (take (length rule.left) items)

abbrev pub CouldMatch : Rule → List (Call × Reply) → Type 0
CouldMatch rule items = (d : Bound) × CouldMatchUnder d rule items

-- a rule that could match stands before each that matches
abbrev pub WaitsOn : List Rule → List (Call × Reply) → Type 0
WaitsOn [] items = ⊥
WaitsOn (rule ∷ rules) items = CouldMatch rule items ⊎ ((MatchesFront rule items → ⊥) × WaitsOn rules items)

-- ## Bindings

-- each of these names has the value that is asked of it
abbrev pub HaveValues : {V : Type 0} → List (List ℕ × V) → (List ℕ → V) → Type 0
HaveValues {V} entries value = (name : List ℕ) (v : V) → value_of name entries ≡ Some v → value name ≡ v

-- where the first binding has a value the second has the same
pub record Agrees (b d : Bound) : Type 0 where
  pub fds : HaveValues b.fds (λ name. unwrap_or (value_of name d.fds) 0)
  pub times : HaveValues b.times (λ name. unwrap_or (value_of name d.times) 0)
  pub bytes : HaveValues b.bytes (λ name. unwrap_or (value_of name d.bytes) [])
