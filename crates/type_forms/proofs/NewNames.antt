-- Names that are declared twice, one name further.
use Rattle.std.proofs.Common.{◌≡◌, ℕ, not, List, ◌∷◌, Option, sym, ap, ◌∙◌}
use Rattle.orca_tree.specs.declared.tree.Name.{Name}
use Rattle.type_rules.specs.declared.breach.Breach.{Breach}
use Rattle.type_rules.specs.Order.{least, lesser}
use Rattle.type_rules.specs.Rules.{asks, each_new, is_among}
use Rattle.type_rules.proofs.Least.{least_of_both, lesser_assoc}

pub new_step : (rule : ℕ) (b : List (List ℕ)) (x : Name) (r front : List Name) (first asked new all : Option Breach) → front ≡ x ∷ r →
    asked ≡ least (asks rule x.at (not (is_among b x.text))) → new ≡ lesser first asked → lesser first (least (each_new rule b front)) ≡ all →
    lesser new (least (each_new rule (x.text ∷ b) r)) ≡ all
new_step rule b x r front first asked new all is ask more h =
    let own = asks rule x.at (not (is_among b x.text)) in
    let left = each_new rule (x.text ∷ b) r in
    ap (λ (o : Option Breach). lesser o (least left)) (more ∙ ap (lesser first) ask)
    ∙ lesser_assoc first (least own) (least left)
    ∙ ap (lesser first) (sym (least_of_both own left))
    ∙ ap (λ (l : List Name). lesser first (least (each_new rule b l))) (sym is)
    ∙ h
