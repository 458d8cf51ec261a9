use Rattle.std.proofs.Common.{List, refl, subst}
use Rattle.code_rules.specs.Instructions.{Instr, Make, Pop}
use Rattle.code_rules.specs.Pieces.{one, seq}
use Rattle.emitted_code.specs.Appends.{Appends}
use Rattle.emitted_code.specs.Views.{code_of}
use Rattle.code_exprs.proofs.Pieces.{then_ok}
use Rattle.code_units.proofs.processes.emit_make.Goals as goal

pub returns : goal.returns
returns c =
    let first = one (Make c.args.kind c.args.count c.args.slot) in
    then_ok c.put-2.result first (one Pop) (seq first (one Pop)) (code_of c.args.out.now) (code_of c.put.new.self) (code_of c.put-2.new.self)
    refl (subst (λ (o : List Instr). Appends first o (code_of c.put.new.self)) c.in_ok-comes_from_variable.ensures c.in_ok-put.ensures.code) c.put-2.ensures.code
