use Rattle.std.proofs.Common.{◌≡◌, ℕ, List, [], drop}
use Rattle.type_rules.specs.Order.{least, lesser}
use Rattle.type_rules.specs.Rules.{each_new, is_among}
use Rattle.type_forms.specs.Seen.{has, lent}
use Rattle.type_forms.proofs.repeats.each_new.Given as goal

-- the texts of those that were gone through, and the first breach among them and those that are left
abbrev pub invariant-names : goal.invariant-names
invariant-names l = (b : List (List ℕ)) × ((n : List ℕ) → has l.before n ≡ is_among b n)
    × (lesser l.first (least (each_new l.rule b (lent (drop l.name-index l.names)))) ≡ least (each_new l.rule [] (lent l.names)))
