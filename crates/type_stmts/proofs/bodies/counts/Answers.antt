use Rattle.std.proofs.Common.{◌≡◌, ℕ, Bool, not, ◌&&◌, List, Option, sym, ap, ◌∙◌}
use Rattle.type_rules.specs.Order.{least}
use Rattle.type_rules.specs.TopLevel.{sees}
use Rattle.type_rules.specs.Rules.{asks}
use Rattle.type_rules.specs.Scopes.{Local, local}
use Rattle.type_exprs.specs.Scoped.{lent_local, local_in}
use Rattle.type_stmts.specs.Bodies.{is_field_local, is_own_local}
use Rattle.type_stmts.proofs.FirstNames.{counts_found}
use Rattle.type_stmts.proofs.bodies.counts.Goals as goal

pub returns : goal.returns
returns c = λ w s last.
    let n = c.args.name.now in
    let found = c.local-local.result in
    let located : lent_local n.text found ≡ local w n.text =
    ap (λ (k : List ℕ). lent_local k found) (sym c.as_str.ensures) ∙ c.local-local.ensures ∙ ap (λ (k : List ℕ). local_in c.args.scope k) c.as_str.ensures
    ∙ s.locals n.text in
    counts_found w n c.asks.result c.asks-2.result c.lesser.result last c.lesser.ensures
    (c.asks.ensures ∙ ap (λ (b : Bool). least (asks 3 n.at (not b))) (c.is_own.ensures n.text ∙ ap is_own_local located))
    (c.asks-2.ensures
    ∙ ap (λ (b : Bool). least (asks 4 n.at b))
    (c.is_free.ensures w s
    ∙ ap (λ (k : List ℕ). not (sees w.program w.home k) && not (is_field_local (lent_local k found))) c.as_str-2.ensures
    ∙ ap (λ (o : Option Local). not (sees w.program w.home n.text) && not (is_field_local o)) located))
