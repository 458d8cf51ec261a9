use Rattle.std.proofs.Common.{◌≡◌, ℕ, List, map, refl, sym, ap, ◌∙◌}
use Rattle.std.specs.List.{position, position_from}
use Rattle.std.proofs.lemmas.Iterator.Adapters.{position_from-zero}
use Rattle.link_rules.specs.declared.role.Role.{Role}
use Rattle.link_rules.specs.declared.role.Role.TheVariants.{Specification, Implementation, Other}
use Rattle.link_rules.specs.Units.{source}
use Rattle.type_rules.specs.TopLevel.{TopName, is_as, top_names}
use Rattle.type_forms.specs.declared.tops.Top.{Top}
use Rattle.type_forms.specs.Seen.{top}
use Rattle.type_forms.proofs.index.Index.new.Goals as goal

-- a number among the names by reference is that among the names
among : (r : Role) (n : List ℕ) (lent tops : List Top) (names : List TopName) → lent ≡ tops → map top tops ≡ names →
    position_from (is_as r n) 0 (map top lent) ≡ position (is_as r n) names
among r n lent tops names is are =
    ap (λ (l : List Top). position_from (is_as r n) 0 (map top l)) is ∙ ap (position_from (is_as r n) 0) are ∙ sym (position_from-zero (is_as r n) names)

pub returns : goal.returns
returns c =
    let tops = c.in_ok-tops.ensures {u = tt} in
    record {
      units = refl;
      tops = tops;
      specifications = λ n. (c.in_ok-specifications.ensures {u = tt}) n ∙ among Specification n _ _ (top_names (map source c.args.units.now)) c.deref.ensures.value tops;
      implementations = λ n. (c.in_ok-implementations.ensures {u = tt}) n ∙ among Implementation n _ _ (top_names (map source c.args.units.now)) c.deref-2.ensures.value tops;
      others = λ n. (c.in_ok-others.ensures {u = tt}) n ∙ among Other n _ _ (top_names (map source c.args.units.now)) c.deref-3.ensures.value tops;
      imports_of = c.in_ok-imports.ensures {u = tt};
    }
