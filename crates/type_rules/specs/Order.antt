-- Breaches in text order: by their places, and at one place by their rules.
use Rattle.std.specs.Prelude.{◌≡◌, Bool, List, [], ◌∷◌, if◌then◌else◌, Option, Some, None}
use Rattle.std.specs.declared.cmp.Ordering.{Ordering}
use Rattle.std.specs.Ordering.{nat_cmp, on, then_cmp, is_lt}
use Rattle.link_rules.specs.Rules.{first}
use Rattle.type_rules.specs.Rules.{Breach}

abbrev pub breach_cmp : Breach → Breach → Ordering
breach_cmp = then_cmp (on (λ b. b.at.line) nat_cmp) (then_cmp (on (λ b. b.at.column) nat_cmp) (on (λ b. b.rule) nat_cmp))

-- a breach comes before another: at an earlier place, or at the same by a lower rule
abbrev pub comes_before : Breach → Breach → Bool
comes_before b c = is_lt (breach_cmp b c)

abbrev pub put : Breach → List Breach → List Breach
put b [] = b ∷ []
put b (c ∷ cs) = if comes_before c b then c ∷ put b cs else b ∷ c ∷ cs

abbrev pub in_text_order : List Breach → List Breach
in_text_order [] = []
in_text_order (b ∷ bs) = put b (in_text_order bs)

-- ---- the first in text order, whatever order they are listed in

abbrev pub lesser_of : Breach → Breach → Breach
lesser_of b c = if comes_before c b then c else b

abbrev pub lesser : Option Breach → Option Breach → Option Breach
lesser None c = c
lesser (Some b) None = Some b
lesser (Some b) (Some c) = Some (lesser_of b c)

abbrev pub least : List Breach → Option Breach
least [] = None
least (b ∷ bs) = lesser (Some b) (least bs)

abbrev pub IsFirstInText : List Breach → Type 0
IsFirstInText bs = first (in_text_order bs) ≡ least bs
