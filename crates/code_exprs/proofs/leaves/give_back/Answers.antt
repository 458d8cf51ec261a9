use Rattle.std.proofs.Common.{Option, sym, ap}
use Rattle.std.specs.Prelude.{option_map}
use Rattle.orca_tree.specs.declared.tree.Expression.{Expression}
use Rattle.orca_syntax.specs.Shown.{expr}
use Rattle.code_rules.specs.Instructions.{Result}
use Rattle.code_rules.specs.Pieces.{one}
use Rattle.code_rules.specs.Phrases.{expr_code, return_code}
use Rattle.emitted_code.specs.Views.{code_of}
use Rattle.code_exprs.proofs.Pieces.{same, then_ok}
use Rattle.code_exprs.proofs.leaves.give_back.Goals as goal

pub returns-in-None : goal.returns-in-None
returns-in-None c = λ w l d.
    same c.put.result _ (return_code w l (option_map expr c.args.value.now)) _ _
    (sym (ap (λ (o : Option Expression). return_code w l (option_map expr o)) c.in-None.is)) c.put.ensures.code

pub returns-in_ok-emit_expression-in-Some : goal.returns-in_ok-emit_expression-in-Some
returns-in_ok-emit_expression-in-Some c = λ w l d.
    then_ok c.put-in-Some.result (expr_code w l (expr c.in-Some.e)) (one Result) _
    (code_of c.args.out.now) (code_of c.emit_expression.new.out) (code_of c.put-in-Some.new.self)
    (sym (ap (λ (o : Option Expression). return_code w l (option_map expr o)) c.in-Some.is))
    ((c.in_ok-emit_expression-in-Some.ensures {u = tt}) w l d) c.put-in-Some.ensures.code
