use Rattle.std.proofs.Common.{List, Bool, map, subst, ap, ◌∙◌, rules}
use Rattle.std.specs.Prelude.{flat_map}
use Rattle.link_rules.specs.declared.named_unit.NamedUnit.{NamedUnit}
use Rattle.link_rules.specs.Units.{source}
use Rattle.type_rules.specs.Breaches.{type_error, unit_breaches}
use Rattle.type_cycles.specs.Leading.{is_marked}
use Rattle.type_decls.specs.Judged.{Judges}
use Rattle.type_decls.proofs.checking.judged.Goals as goal

pub returns : goal.returns
returns c = λ s.
    let us = map source c.args.program.now.units.items in
    subst (λ (l : List NamedUnit). Judges c.units_judged.result (flat_map (λ u. map (type_error u) (unit_breaches us u)) (map source l))) c.deref-3.ensures.value
    (c.units_judged.ensures us
    (record {
      tables = c.tables.ensures us s;
      rounds = λ i. ap (λ (l : List Bool). is_marked l i) c.deref-2.ensures.value
          ∙ (c.in_ok-rounds.ensures {u = tt}) us (c.deref.ensures.value ∙ (c.in_ok-parts.ensures {u = tt}) us s.names) i;
      none = λ n. search rules;
      counter = c.loop_variable-counter.ensures;
    }))
