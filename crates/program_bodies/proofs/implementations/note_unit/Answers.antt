use Rattle.std.proofs.Common.{◌≡◌, ℕ, ◌<◌, ◌≤◌, List, length, get_or, map, take, Option, subst, sym, ap, ◌∙◌, arith}
use Rattle.std.specs.Prelude.{option_map}
use Rattle.std.proofs.lemmas.List.{take_all}
use Rattle.orca_tree.specs.declared.tree.Declaration.{Declaration}
use Rattle.orca_syntax.specs.Shown.{decl}
use Rattle.link_rules.specs.Declarations.{Declared}
use Rattle.type_tables.specs.Entries.{entry, or_other}
use Rattle.meaning_rules.specs.Programs.{ObjectType, implements}
use Rattle.program_bodies.specs.Objects.{object_type_seen}
use Rattle.program_bodies.proofs.FirstGiven.{declared_as, first_given, given_more}
use Rattle.program_bodies.proofs.OneMore.{shown_more}
use Rattle.program_bodies.proofs.implementations.note_unit.Goals as goal

pub declarations-preserved : goal.declarations-preserved
declarations-preserved c = λ n.
    let f : Declared → Option ObjectType = λ y. implements n y.by y.decl in
    let at = declared_as c.module_of-home.result.now c.args.unit.now.file in
    let items = c.args.unit.now.unit.declarations.items in
    let i = c.declarations.part-index in
    let x = c.part-item.result in
    let same = c.deref-part-items.ensures.value in
    given_more f (map at (map decl (take i items))) (at (decl x)) (option_map object_type_seen (entry c.args.table.now n)) _ _ (c.declarations.invariant n) ((c.in_ok-note_declaration.ensures {u = tt}) n)
    ∙ ap (λ (l : List Declared). or_other (option_map object_type_seen (entry c.args.table.now n)) (first_given f l))
    (sym (shown_more decl at items i x (subst (λ (l : List Declaration). i < length l) same c.declarations-test.true)
    (subst (λ (l : List Declaration). x ≡ get_or l i x) same c.part-item.is)))

pub returns : goal.returns
returns c = λ n.
    let f : Declared → Option ObjectType = λ y. implements n y.by y.decl in
    let old = option_map object_type_seen (entry c.args.table.now n) in
    let file = c.args.unit.now.file in
    let items = c.args.unit.now.unit.declarations.items in
    let same = c.deref-part-items.ensures.value in
    c.declarations.invariant n
    ∙ ap (λ (l : List Declaration). or_other old (first_given f (map (declared_as c.module_of-home.result.now file) (map decl l))))
    (take_all c.declarations.part-index items (subst (λ (l : List Declaration). length l ≤ c.declarations.part-index) same (omega (arith, c.declarations-test.false))))
    ∙ ap (λ (m : List ℕ). or_other old (first_given f (map (declared_as m file) (map decl items)))) c.module_of-home.ensures
