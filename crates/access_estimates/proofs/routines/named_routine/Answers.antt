use Rattle.std.proofs.Common.{◌≡◌, ℕ, List, map, refl, sym, ap, ◌∙◌}
use Rattle.orca_tree.specs.declared.tree.Statement.{Statement}
use Rattle.orca_syntax.specs.Shown.{block, stmts}
use Rattle.type_forms.specs.Seen.{lent}
use Rattle.access_estimates.specs.declared.uses.Use.{Use as SeenUse}
use Rattle.access_estimates.specs.Seen.{all_seen}
use Rattle.estimate_rules.specs.Uses.{stmts_uses}
use Rattle.access_estimates.specs.declared.locals.Local.{Local}
use Rattle.access_estimates.specs.Resolved.{all_resolved}
use Rattle.access_estimates.specs.Locals.{PlainLocal, locals_seen, named}
use Rattle.access_estimates.proofs.routines.named_routine.Goals as goal

pub returns : goal.returns
returns c = λ us are w program home locals.
    let names : locals_seen c.in_ok-own_locals.own_locals.items ≡ map (named w) (lent c.args.names.now) = (c.in_ok-own_locals.ensures {u = tt}) w.locals locals in
    let uses : all_seen c.in_ok-uses.uses.items ≡ stmts_uses 1 (block c.args.body.now).statements =
    c.in_ok-uses.ensures {u = tt} ∙ ap (λ (l : List Statement). stmts_uses 1 (stmts l)) c.deref.ensures.value in
    record {
      program = program;
      parameters = refl;
      names = names;
      resolved = (c.in_ok-resolved.ensures {u = tt}) us are
          ∙ ap (λ (l : List Local). all_resolved us c.args.home.now (locals_seen l) (all_seen c.deref-3.result.now)) c.deref-2.ensures.value
          ∙ ap (λ (l : List SeenUse). all_resolved us c.args.home.now (locals_seen c.in_ok-own_locals.own_locals.items) (all_seen l)) c.deref-3.ensures.value
          ∙ ap (λ (m : List ℕ). all_resolved us m (locals_seen c.in_ok-own_locals.own_locals.items) (all_seen c.in_ok-uses.uses.items)) (sym home)
          ∙ ap (λ (l : List PlainLocal). all_resolved us w.home l (all_seen c.in_ok-uses.uses.items)) names
          ∙ ap (all_resolved us w.home (map (named w) (lent c.args.names.now))) uses;
    }
