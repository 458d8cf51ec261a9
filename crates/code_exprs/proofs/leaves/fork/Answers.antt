use Rattle.std.proofs.Common.{ℕ, sym, ap}
use Rattle.std.specs.Prelude.{option_map, length}
use Rattle.orca_syntax.specs.Shown.{expr, exprs}
use Rattle.code_rules.specs.Pieces.{seq}
use Rattle.code_rules.specs.Phrases.{all_code, fork_code}
use Rattle.emitted_code.specs.Views.{code_of}
use Rattle.code_exprs.proofs.Pieces.{then_ok}
use Rattle.code_exprs.proofs.Rows.{count_is}
use Rattle.code_exprs.proofs.leaves.fork.Goals as goal

pub returns : goal.returns
returns c = λ w l d.
    let es = exprs c.args.given.now in
    let p = c.args.process.now in
    let on = option_map expr c.args.on.now in
    then_ok c.fork_with.result (all_code w l es) (fork_code w l p (length c.args.given.now) on) _
    (code_of c.args.out.now) (code_of c.emit_all.new.out) (code_of c.fork_with.new.out)
    (ap (λ (k : ℕ). seq (all_code w l es) (fork_code w l p k on)) (sym (count_is c.args.given.now)))
    ((c.in_ok-emit_all.ensures {u = tt}) w l d) (c.fork_with.ensures w l d)
