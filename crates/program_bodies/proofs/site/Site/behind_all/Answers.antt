use Rattle.std.proofs.Common.{◌+◌, List, Option, drop, sym, ap, ◌∙◌}
use Rattle.std.specs.Prelude.{option_map}
use Rattle.std.proofs.Math.ListN.{drop_of_length-le}
use Rattle.orca_tree.specs.declared.tree.Selector.{Selector}
use Rattle.orca_syntax.specs.Shown.{path}
use Rattle.type_rules.specs.declared.types.DataType.{DataType}
use Rattle.type_forms.proofs.Loops.{rest_is}
use Rattle.meaning_rules.specs.Designators.{path_type}
use Rattle.program_tables.specs.Layers.{type_seen}
use Rattle.program_bodies.proofs.site.Site.behind_all.Goals as goal

pub path-preserved : goal.path-preserved
path-preserved c = λ w s.
    let i = c.path.step-index in
    let x = c.step-item.result in
    ap (λ (t : Option DataType). path_type w t (path (drop (i + 1) c.args.path.now))) (c.behind-seen.ensures w s)
    ∙ ap (λ (l : List Selector). path_type w (option_map type_seen c.path.seen) (path l)) (sym (rest_is c.args.path.now i x c.path-test.true c.step-item.is))
    ∙ c.path.invariant w s

pub returns : goal.returns
returns c = λ w s.
    ap (λ (l : List Selector). path_type w (option_map type_seen c.path.seen) (path l)) (sym (drop_of_length-le c.args.path.now c.path-test.false)) ∙ c.path.invariant w s
