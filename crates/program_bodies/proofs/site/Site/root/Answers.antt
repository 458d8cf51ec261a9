use Rattle.std.proofs.Common.{ℕ, List, Option, None, sym, ap, ◌∙◌}
use Rattle.std.specs.Option.{option_map_or}
use Rattle.std.specs.Borrow.{Bor}
use Rattle.type_rules.specs.Scopes.{Local, local}
use Rattle.type_exprs.specs.declared.scope.Local as tree
use Rattle.type_exprs.specs.Scoped.{lent_local}
use Rattle.program_bodies.proofs.site.Site.root.Goals as goal

pub returns-in-None : goal.returns-in-None
returns-in-None c = λ w s.
    let n = c.as_str.result.now in
    ap (λ (o : Option Local). option_map_or (λ l. l.type) o None)
    (ap (λ (o : Option (Bor tree.Local)). lent_local n o) (sym c.in-None.is) ∙ c.local.ensures ∙ (c.scope.ensures w s).locals n)
    ∙ ap (λ (k : List ℕ). option_map_or (λ l. l.type) (local w k) None) c.as_str.ensures

pub returns-in-Some : goal.returns-in-Some
returns-in-Some c = λ w s.
    let n = c.as_str.result.now in
    c.of_known.ensures
    ∙ ap (λ (o : Option Local). option_map_or (λ l. l.type) o None)
    (ap (λ (o : Option (Bor tree.Local)). lent_local n o) (sym c.in-Some.is) ∙ c.local.ensures ∙ (c.scope.ensures w s).locals n)
    ∙ ap (λ (k : List ℕ). option_map_or (λ l. l.type) (local w k) None) c.as_str.ensures
