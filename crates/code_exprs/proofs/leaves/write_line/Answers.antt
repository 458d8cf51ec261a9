use Rattle.std.proofs.Common.{ℕ, List, refl, ap}
use Rattle.orca_syntax.specs.Shown.{exprs}
use Rattle.code_rules.specs.Instructions.{Pop, Line}
use Rattle.code_rules.specs.Pieces.{one, seq}
use Rattle.code_rules.specs.Phrases.{all_code, writing}
use Rattle.emitted_code.specs.Views.{code_of, texts_of}
use Rattle.code_exprs.proofs.Pieces.{then_ok}
use Rattle.code_exprs.proofs.leaves.write_line.Goals as goal

pub returns : goal.returns
returns c = λ w l d.
    let es = all_code w l (exprs c.args.given.now) in
    let first = one (Line (texts_of c.in_ok-names.names.items)) in
    let rest = seq (one writing) (one Pop) in
    let done = code_of c.put-3.new.self in
    then_ok c.put-3.result es (seq first rest) _ (code_of c.args.out.now) (code_of c.emit_all.new.out) done
    (ap (λ (ns : List (List (List ℕ))). seq es (seq (one (Line ns)) rest)) ((c.in_ok-names.ensures {u = tt}) w d.site))
    ((c.in_ok-emit_all.ensures {u = tt}) w l d)
    (then_ok c.put-3.result first rest (seq first rest) (code_of c.emit_all.new.out) (code_of c.put.new.self) done
    refl c.in_ok-put.ensures.code
    (then_ok c.put-3.result (one writing) (one Pop) rest (code_of c.put.new.self) (code_of c.put-2.new.self) done
    refl c.in_ok-put-2.ensures.code c.put-3.ensures.code))
