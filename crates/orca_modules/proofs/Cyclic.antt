-- Whether an import lies on a cycle, by the modules that lead to its importer.
use Rattle.std.proofs.Common.{◌≡◌, ℕ, Bool, true, false, List, refl, sym, subst}
use Rattle.std.specs.Borrow.{Bor}
use Rattle.std.specs.BTreeMap.{BTreeMap}
use Rattle.link_rules.specs.Units.{Source, Import, imports}
use Rattle.link_rules.specs.Rules.{is_on_cycle}
use Rattle.link_rules.specs.Cycles.{Leads}
use Rattle.link_rules.proofs.Ways.{reaches_all}
use Rattle.orca_modules.specs.Seen.{has}
use Rattle.orca_modules.specs.Leading.{IsLeading}

same_truth : (a b : Bool) → (a ≡ true → b ≡ true) → (b ≡ true → a ≡ true) → a ≡ b
same_truth true true f g = refl
same_truth true false f g = sym (f refl)
same_truth false true f g = g refl
same_truth false false f g = refl

pub on_cycle : {X : Type 0} (us : List Source) (is : List Import) (names : BTreeMap (Bor (List ℕ)) X) (i : Import) → imports us ≡ is → IsLeading is i.by names →
    is_on_cycle us i ≡ has names i.name.text
on_cycle us is names i same leading =
    same_truth (is_on_cycle us i) (has names i.name.text)
    (λ h. (leading i.name.text).1 (subst (λ (l : List Import). Leads l i.name.text i.by) same ((reaches_all us i.name.text i.by).0 h)))
    (λ h. (reaches_all us i.name.text i.by).1 (subst (λ (l : List Import). Leads l i.name.text i.by) (sym same) ((leading i.name.text).0 h)))
