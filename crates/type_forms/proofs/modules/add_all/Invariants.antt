use Rattle.std.proofs.Common.{◌≡◌, ℕ, ◌||◌, List, drop}
use Rattle.std.specs.List.{list_any}
use Rattle.std.specs.Prelude.{bytes_eq}
use Rattle.type_forms.specs.Seen.{has}
use Rattle.type_forms.proofs.modules.add_all.Given as goal

abbrev pub invariant-names : goal.invariant-names
invariant-names l = (n : List ℕ) →
    (has l.names n || list_any (λ i. bytes_eq i.text n) (drop l.name-index l.all))
    ≡ (has l.initial.names n || list_any (λ i. bytes_eq i.text n) l.all)
