use Rattle.std.proofs.Common.{refl}
use Rattle.orca_syntax.specs.Shown.{exprs}
use Rattle.code_rules.specs.Instructions.{Pop}
use Rattle.code_rules.specs.Pieces.{one}
use Rattle.code_rules.specs.Phrases.{all_code, count_all, invoking}
use Rattle.emitted_code.specs.Views.{code_of}
use Rattle.code_exprs.proofs.Pieces.{turned_ok}
use Rattle.code_exprs.proofs.leaves.call_operation.Goals as goal

pub returns : goal.returns
returns c = λ w l d.
    let es = exprs c.args.given.now in
    turned_ok c.put.result (all_code w l es) (one (invoking w l c.args.object.now c.args.operation.now (count_all es))) (one Pop) _
    (code_of c.args.out.now) (code_of c.emit_request.new.out) (code_of c.put.new.self)
    refl ((c.in_ok-emit_request.ensures {u = tt}) w l d) c.put.ensures.code
