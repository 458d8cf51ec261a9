use Rattle.std.proofs.Common.{◌≡◌, ℕ, ◌<◌, ◌≤◌, ◌+◌, List, length, get_or, drop, map, Option, subst, sym, ap, ◌∙◌, arith}
use Rattle.std.proofs.Math.ListN.{drop_of_length-le}
use Rattle.orca_tree.specs.declared.tree.Declaration.{Declaration}
use Rattle.orca_syntax.specs.Shown.{decl}
use Rattle.link_rules.specs.Declarations.{Declared}
use Rattle.type_forms.proofs.Loops.{rest_is}
use Rattle.meaning_rules.specs.Programs.{ObjectType, implements}
use Rattle.program_bodies.specs.Objects.{object_type_seen}
use Rattle.program_bodies.proofs.FirstGiven.{declared_as, first_given}
use Rattle.access_analysis.proofs.FirstHere.{gives_none, gives_one}
use Rattle.access_analysis.proofs.implementations.in_unit.Goals as goal

pub declarations-preserved : goal.declarations-preserved
declarations-preserved c =
    let f : Declared → Option ObjectType = λ y. implements c.args.sought.now y.by y.decl in
    let at = declared_as c.module_of-home.result.now c.args.unit.now.file in
    let items = c.args.unit.now.unit.declarations.items in
    let i = c.declarations.part-index in
    let x = c.part-item.result in
    let same = c.deref-part-items.ensures.value in
    let rest = rest_is items i x (subst (λ (l : List Declaration). i < length l) same c.declarations-test.true)
    (subst (λ (l : List Declaration). x ≡ get_or l i x) same c.part-item.is) in
    gives_none object_type_seen f (at (decl x)) (map at (map decl (drop (i + 1) items))) c.implemented-own.result (first_given f (map at (map decl items)))
    (sym c.is_some.ensures ∙ c.if-is_some.false) c.implemented-own.ensures
    (ap (λ (l : List Declaration). first_given f (map at (map decl l))) (sym rest) ∙ c.declarations.invariant)

pub returns-then-is_some : goal.returns-then-is_some
returns-then-is_some c =
    let f : Declared → Option ObjectType = λ y. implements c.args.sought.now y.by y.decl in
    let at = declared_as c.module_of-home.result.now c.args.unit.now.file in
    let items = c.args.unit.now.unit.declarations.items in
    let i = c.declarations.part-index in
    let x = c.part-item.result in
    let same = c.deref-part-items.ensures.value in
    let rest = rest_is items i x (subst (λ (l : List Declaration). i < length l) same c.declarations-test.true)
    (subst (λ (l : List Declaration). x ≡ get_or l i x) same c.part-item.is) in
    gives_one object_type_seen f (at (decl x)) (map at (map decl (drop (i + 1) items))) c.implemented-own.result (first_given f (map at (map decl items)))
    (sym c.is_some.ensures ∙ c.if-is_some.true) c.implemented-own.ensures
    (ap (λ (l : List Declaration). first_given f (map at (map decl l))) (sym rest) ∙ c.declarations.invariant)
    ∙ ap (λ (m : List ℕ). first_given f (map (declared_as m c.args.unit.now.file) (map decl items))) c.module_of-home.ensures

pub returns : goal.returns
returns c =
    let f : Declared → Option ObjectType = λ y. implements c.args.sought.now y.by y.decl in
    let at = declared_as c.module_of-home.result.now c.args.unit.now.file in
    let items = c.args.unit.now.unit.declarations.items in
    let same = c.deref-part-items.ensures.value in
    ap (λ (l : List Declaration). first_given f (map at (map decl l)))
    (sym (drop_of_length-le items (subst (λ (l : List Declaration). length l ≤ c.declarations.part-index) same (omega (arith, c.declarations-test.false)))))
    ∙ c.declarations.invariant
    ∙ ap (λ (m : List ℕ). first_given f (map (declared_as m c.args.unit.now.file) (map decl items))) c.module_of-home.ensures
