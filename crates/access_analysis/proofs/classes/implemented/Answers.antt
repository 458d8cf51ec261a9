use Rattle.std.proofs.Common.{ℕ, List, Option, None, map, filter, sym, ap, ◌∙◌}
use Rattle.std.specs.Prelude.{option_and_then, option_map, slice_get}
use Rattle.std.specs.Borrow.{Bor}
use Rattle.link_rules.specs.declared.named_unit.NamedUnit.{NamedUnit}
use Rattle.link_rules.specs.Units.{source}
use Rattle.type_rules.specs.TopLevel.{TopName}
use Rattle.type_forms.specs.declared.tops.Top.{Top}
use Rattle.type_forms.specs.Seen.{top}
use Rattle.meaning_rules.specs.Programs.{ObjectType, implementation, is_specification, specifications, specified, type_at}
use Rattle.program_bodies.specs.Codes.{sources}
use Rattle.access_analysis.proofs.Specified.{numbered}
use Rattle.access_analysis.proofs.classes.implemented.Goals as goal

abbrev none_typed : Option ObjectType
none_typed = None

pub returns-then-kind-eq0 : goal.returns-then-kind-eq0
returns-then-kind-eq0 c = λ names. ap (λ (k : ℕ). type_at (sources c.args.checked.now) k) (sym c.if-kind-eq0.true)

pub returns-in-None : goal.returns-in-None
returns-in-None c = λ names.
    let us = sources c.args.checked.now in
    ap (λ (o : Option TopName). option_and_then (specified us) o) (ap (λ (o : Option (Bor Top)). option_map (λ t. top t.now) o) (sym c.in-None.is))
    ∙ numbered us c.args.kind.0 (option_map (λ t. top t.now) c.specification_at.result) c.if-kind-eq0.false
    (c.specification_at.ensures
    ∙ ap (λ (l : List TopName). slice_get (filter is_specification l) c.from.result) (c.tops.ensures us names)
    ∙ ap (slice_get (specifications us)) c.from.ensures)

pub returns-in-Some : goal.returns-in-Some
returns-in-Some c = λ names.
    let us = sources c.args.checked.now in
    c.implementation.ensures
    ∙ ap (λ (l : List NamedUnit). implementation (map source l) c.in-Some.item.now.name.now) c.deref.ensures.value
    ∙ ap (λ (o : Option TopName). option_and_then (specified us) o) (ap (λ (o : Option (Bor Top)). option_map (λ t. top t.now) o) (sym c.in-Some.is))
    ∙ numbered us c.args.kind.0 (option_map (λ t. top t.now) c.specification_at.result) c.if-kind-eq0.false
    (c.specification_at.ensures
    ∙ ap (λ (l : List TopName). slice_get (filter is_specification l) c.from.result) (c.tops.ensures us names)
    ∙ ap (slice_get (specifications us)) c.from.ensures)
