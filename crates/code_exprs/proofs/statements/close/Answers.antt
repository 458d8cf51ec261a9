use Rattle.code_rules.specs.Instructions.{Unless}
use Rattle.emitted_code.specs.Views.{code_of}
use Rattle.code_exprs.proofs.Pieces.{closed}
use Rattle.code_exprs.proofs.statements.close.Goals as goal

pub returns : goal.returns
returns c =
    closed (Unless 0) (code_of c.args.out.now) (code_of c.put.new.self) (code_of c.put-2.new.self) (code_of c.fix.new.self) c.args.back c.len-at.result c.len-to.result
    c.in_ok-put.ensures.code c.in_ok-put-2.ensures.code c.len-at.ensures c.len-to.ensures c.fix.ensures.code
