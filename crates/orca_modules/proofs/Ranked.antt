-- Where imports lead to lower ranks, none lies on a cycle.
use Rattle.std.proofs.Common.{◌≡◌, ℕ, ◌<◌, ◌≤◌, ◌+◌, Bool, true, false, List, [], ◌∷◌, length, get_or, take, map, inl, inr, refl, sym, ap, ◌∙◌, subst, arith}
use Rattle.std.specs.List.{Contains}
use Rattle.std.specs.Borrow.{Bor}
use Rattle.std.specs.BTreeMap.{BTreeMap}
use Rattle.std.proofs.lemmas.List.{take_more, map-append}
use Rattle.std.proofs.lemmas.List.Elements.{Contains-push_cases}
use Rattle.link_rules.specs.Units.{Source, Import, imports}
use Rattle.link_rules.specs.Rules.{at_import, import_cycles, is_on_cycle}
use Rattle.link_rules.specs.Cycles.{Leads, itself, by_import}
use Rattle.link_rules.proofs.Elements.{none_left}
use Rattle.link_rules.proofs.Ways.{reaches_all}
use Rattle.orca_modules.specs.Ranks.{Falls, rank}

-- one import more
pub falls_more : {A : Type 0} (view : A → Import) (ranks : BTreeMap (Bor (List ℕ)) ℕ) (xs : List A) (k : ℕ) (d : A) → k < length xs →
    rank ranks (view (get_or xs k d)).name.text < rank ranks (view (get_or xs k d)).by →
    Falls ranks (map view (take k xs)) → Falls ranks (map view (take (k + 1) xs))
falls_more view ranks xs k d lt less falls i in_ =
    let front = ap (map view) (take_more xs k d lt) ∙ map-append view (take k xs) (get_or xs k d ∷ []) in
    elim (Contains-push_cases (map view (take k xs)) (view (get_or xs k d)) i (subst (λ (l : List Import). Contains l i) front in_)) [
      | inl c ↦ falls i c
      | inr e ↦ subst (λ (v : Import). rank ranks v.name.text < rank ranks v.by) e less
    ]

-- whatever a module leads to has at most its rank
lower : (ranks : BTreeMap (Bor (List ℕ)) ℕ) (is : List Import) (a b : List ℕ) → Falls ranks is → Leads is a b → rank ranks b ≤ rank ranks a
lower ranks is a b falls (itself _ _ e) = subst (λ (v : List ℕ). rank ranks v ≤ rank ranks a) e (omega arith)
lower ranks is a b falls (by_import _ _ i in_ by rest) =
    let on = lower ranks is i.name.text b falls rest in
    let less = falls i in_ in
    subst (λ (v : List ℕ). rank ranks b ≤ rank ranks v) by (omega (arith, on, less))

no_cycle : (ranks : BTreeMap (Bor (List ℕ)) ℕ) (us : List Source) (i : Import) → Falls ranks (imports us) → Contains (imports us) i → is_on_cycle us i ≡ false
no_cycle ranks us i falls in_ = by_test (is_on_cycle us i) refl
  where
    by_test : (b : Bool) → is_on_cycle us i ≡ b → is_on_cycle us i ≡ false
    by_test false is = is
    by_test true is =
        let back = lower ranks (imports us) i.name.text i.by falls ((reaches_all us i.name.text i.by).0 is) in
        let less = falls i in_ in
        absurd (omega (arith, back, less))

pub no_cycles : (ranks : BTreeMap (Bor (List ℕ)) ℕ) (us : List Source) (is : List Import) → Falls ranks is → imports us ≡ is → import_cycles us ≡ []
no_cycles ranks us is falls same =
    let all = subst (Falls ranks) (sym same) falls in
    ap (map (at_import 3)) (none_left (is_on_cycle us) (imports us) (λ i c. no_cycle ranks us i all c))
