use Rattle.std.proofs.Common.{◌||◌, List, map, ap, ◌∙◌}
use Rattle.std.specs.Prelude.{bytes_eq}
use Rattle.std.specs.List.{list_any}
use Rattle.orca_tree.specs.declared.tree.TypedName.{TypedName}
use Rattle.orca_tree.specs.declared.tree.Variables.{Variables}
use Rattle.orca_syntax.specs.Shown.{typed_name, variables}
use Rattle.access_analysis.specs.Loops.{variables_of}
use Rattle.access_analysis.specs.Sites.{are_given, declare}
use Rattle.access_analysis.proofs.Changing.{or_behind, or_own}
use Rattle.access_analysis.proofs.site.Site.hides.Goals as goal

pub returns-then-counting : goal.returns-then-counting
returns-then-counting c =
    let n = c.args.text.now in
    let o = c.args.self.operation.now in
    or_own c.counts-counting.result (list_any (λ m. bytes_eq m n) (variables_of c.args.self.loops.now))
    (are_given (map typed_name o.head.parameters.items) n || declare (map variables o.variables.items) n) c.if-counting.true c.counts-counting.ensures

pub returns-then-given : goal.returns-then-given
returns-then-given c =
    let n = c.args.text.now in
    let o = c.args.self.operation.now in
    let given = are_given (map typed_name o.head.parameters.items) n in
    let own = declare (map variables o.variables.items) n in
    or_behind c.counts-counting.result c.takes-given.result (list_any (λ m. bytes_eq m n) (variables_of c.args.self.loops.now)) (given || own)
    c.if-counting.false c.counts-counting.ensures
    (or_own c.takes-given.result given own c.if-given.true
    (c.takes-given.ensures ∙ ap (λ (l : List TypedName). are_given (map typed_name l) n) c.deref.ensures.value))

pub returns-else-given : goal.returns-else-given
returns-else-given c =
    let n = c.args.text.now in
    let o = c.args.self.operation.now in
    let given = are_given (map typed_name o.head.parameters.items) n in
    let own = declare (map variables o.variables.items) n in
    or_behind c.counts-counting.result c.declares-own.result (list_any (λ m. bytes_eq m n) (variables_of c.args.self.loops.now)) (given || own)
    c.if-counting.false c.counts-counting.ensures
    (or_behind c.takes-given.result c.declares-own.result given own c.if-given.false
    (c.takes-given.ensures ∙ ap (λ (l : List TypedName). are_given (map typed_name l) n) c.deref.ensures.value)
    (c.declares-own.ensures ∙ ap (λ (l : List Variables). declare (map variables l) n) c.deref-2.ensures.value))
