use Rattle.std.proofs.Common.{refl}
use Rattle.orca_syntax.specs.Shown.{exprs}
use Rattle.meaning_rules.specs.Calls.{callee, modes_of}
use Rattle.code_rules.specs.Instructions.{Pop}
use Rattle.code_rules.specs.Pieces.{one}
use Rattle.code_rules.specs.Phrases.{calling, passed_code}
use Rattle.emitted_code.specs.Views.{code_of}
use Rattle.code_exprs.proofs.Pieces.{turned_ok}
use Rattle.code_exprs.proofs.leaves.call_function.Goals as goal

pub returns : goal.returns
returns c = λ w l d.
    let n = c.args.function.now in
    let es = exprs c.args.given.now in
    turned_ok c.put.result (passed_code w l (modes_of (callee w n)) es) (one (calling w l n es)) (one Pop) _
    (code_of c.args.out.now) (code_of c.emit_call.new.out) (code_of c.put.new.self)
    refl ((c.in_ok-emit_call.ensures {u = tt}) w l d) c.put.ensures.code
