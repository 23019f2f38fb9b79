-- What is said over a console that keeps to a policy.
use Rattle.std.specs.Prelude.{ℕ, List, [], ◌∷◌, ◌++◌, codes, decimal}
use Rattle.std.specs.List.{flat_map}
use Rattle.mv_policy.specs.declared.spoken.Spoken.{Spoken}
use Rattle.mv_policy.specs.declared.spoken.Spoken.TheVariants.{Reply, Denial}

-- the line that denies an order by the rule of this number, with its line feed
abbrev pub denial_text : ℕ → List ℕ
denial_text rule = codes "{\"no\":\"denied\",\"rule\":" ++ (decimal rule ++ codes "}\n")

abbrev pub text_of : Spoken → List ℕ
text_of (Reply line) = line
text_of (Denial rule) = denial_text rule

abbrev pub reply_of : Spoken → List ℕ
reply_of (Reply line) = line
reply_of (Denial rule) = []

abbrev pub rule_of : Spoken → List ℕ
rule_of (Reply line) = []
rule_of (Denial rule) = rule ∷ []

-- all that was said, the replies alone, and the rules of the denials, each in order
abbrev pub texts : List Spoken → List ℕ
texts spoken = flat_map text_of spoken

abbrev pub replies : List Spoken → List ℕ
replies spoken = flat_map reply_of spoken

abbrev pub denials : List Spoken → List ℕ
denials spoken = flat_map rule_of spoken
