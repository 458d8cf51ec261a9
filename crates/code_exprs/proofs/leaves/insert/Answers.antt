use Rattle.std.proofs.Common.{◌≡◌, ℕ, List, Option, refl, ap, ◌∙◌}
use Rattle.orca_tree.specs.declared.tree.Selector.{Selector}
use Rattle.orca_syntax.specs.Shown.{expr, path}
use Rattle.type_rules.specs.declared.types.DataType.{DataType}
use Rattle.meaning_rules.specs.Designators.{root_type}
use Rattle.code_rules.specs.Instructions.{Mark, Insert}
use Rattle.code_rules.specs.Phrases as rules
use Rattle.code_rules.specs.Pieces.{one, seq}
use Rattle.code_rules.specs.Phrases.{at_slot, expr_code, path_code}
use Rattle.emitted_code.specs.Views.{code_of, marks_of}
use Rattle.code_exprs.proofs.Pieces.{then_ok}
use Rattle.code_exprs.proofs.leaves.insert.Goals as goal

pub returns : goal.returns
returns c = λ w l d.
    let into = c.args.into.now in
    let ms = rules.marks w (root_type w into.name) (path into.path.items) in
    let mine = marks_of c.in_ok-path.path.items in
    let value = expr_code w l (expr c.args.element.now) in
    let indices = path_code w l (path c.deref.result.now) in
    let last = one (Insert c.slot.result mine) in
    let found : mine ≡ ms =
    (c.in_ok-path.ensures {u = tt}) w d.site
    ∙ ap (λ (k : Option DataType). rules.marks w k (path c.deref-2.result.now)) (c.root.ensures w d.site)
    ∙ ap (λ (ps : List Selector). rules.marks w (root_type w into.name) (path ps)) c.deref-2.ensures.value in
    then_ok c.put.result value (seq indices last) _ (code_of c.args.out.now) (code_of c.emit_expression.new.out) (code_of c.put.new.self)
    (ap (λ (ps : List Selector). seq value (seq (path_code w l (path ps)) last)) c.deref.ensures.value
    ∙ ap (λ (k : ℕ). seq value (seq (path_code w l (path into.path.items)) (one (Insert k mine)))) (c.slot.ensures w l d)
    ∙ ap (λ (k : List Mark). seq value (seq (path_code w l (path into.path.items)) (one (Insert (at_slot w l into.name) k)))) found)
    ((c.in_ok-emit_expression.ensures {u = tt}) w l d)
    (then_ok c.put.result indices last (seq indices last) (code_of c.emit_expression.new.out) (code_of c.emit_path.new.out) (code_of c.put.new.self)
    refl ((c.in_ok-emit_path.ensures {u = tt}) w l d) c.put.ensures.code)
