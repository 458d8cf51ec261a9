use Rattle.std.proofs.Common.{refl}
use Rattle.code_rules.specs.Instructions.{Pop, Fork}
use Rattle.code_rules.specs.Pieces.{one, seq}
use Rattle.emitted_code.specs.Views.{code_of}
use Rattle.code_exprs.proofs.Pieces.{then_ok}
use Rattle.code_exprs.proofs.leaves.fork_here.Goals as goal

pub returns : goal.returns
returns c =
    let first = one (Fork c.args.text c.args.count) in
    then_ok c.put-2.result first (one Pop) (seq first (one Pop)) (code_of c.args.out.now) (code_of c.put.new.self) (code_of c.put-2.new.self)
    refl c.in_ok-put.ensures.code c.put-2.ensures.code
