use Rattle.std.proofs.Common.{List, map, ap, ◌∙◌, arith}
use Rattle.std.specs.Borrow.{Bor}
use Rattle.std.proofs.lemmas.List.{take_all, map-append}
use Rattle.orca_tree.specs.declared.tree.Name.{Name}
use Rattle.type_forms.specs.Seen.{lent}
use Rattle.access_estimates.specs.Locals.{local_seen}
use Rattle.access_estimates.specs.Collected.{named_in}
use Rattle.program_bodies.proofs.Matched.{seen_more}
use Rattle.access_estimates.proofs.Listing.{pushed}
use Rattle.access_estimates.proofs.locals.locals_by.Goals as goal

pub names-preserved : goal.names-preserved
names-preserved c = λ ls are.
    let x = c.name-item.result in
    pushed local_seen c.names.all.items _ c.local_of.result _ _ (named_in ls x.now) c.in_ok-push.ensures.items (c.names.invariant ls are) (c.local_of.ensures ls are)
    (ap (map (named_in ls)) (seen_more (λ (b : Bor Name). b.now) c.args.names.now c.names.name-index x c.names-test.true c.name-item.is) ∙ map-append (named_in ls) _ _)

pub returns : goal.returns
returns c = λ ls are.
    c.names.invariant ls are
    ∙ ap (λ (l : List (Bor Name)). map (named_in ls) (lent l)) (take_all c.names.name-index c.args.names.now (omega (arith, c.names-test.false)))
