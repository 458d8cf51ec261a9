use Rattle.std.proofs.Common.{refl}
use Rattle.orca_syntax.specs.Shown.{expr}
use Rattle.code_rules.specs.Instructions.{Pop, ForkOn}
use Rattle.code_rules.specs.Pieces.{one, seq}
use Rattle.code_rules.specs.Phrases.{expr_code}
use Rattle.emitted_code.specs.Views.{code_of}
use Rattle.code_exprs.proofs.Pieces.{then_ok}
use Rattle.code_exprs.proofs.leaves.fork_there.Goals as goal

pub returns : goal.returns
returns c = λ w l d.
    let on = expr_code w l (expr c.args.on.now) in
    let first = one (ForkOn c.args.text c.args.count) in
    then_ok c.put-2.result on (seq first (one Pop)) (seq on (seq first (one Pop))) (code_of c.args.out.now) (code_of c.emit_expression.new.out) (code_of c.put-2.new.self)
    refl ((c.in_ok-emit_expression.ensures {u = tt}) w l d)
    (then_ok c.put-2.result first (one Pop) (seq first (one Pop)) (code_of c.emit_expression.new.out) (code_of c.put.new.self) (code_of c.put-2.new.self)
    refl c.in_ok-put.ensures.code c.put-2.ensures.code)
