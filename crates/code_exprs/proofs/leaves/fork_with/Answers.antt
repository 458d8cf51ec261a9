use Rattle.std.proofs.Common.{Option, sym, ap, ◌∙◌}
use Rattle.std.specs.Prelude.{option_map}
use Rattle.orca_base.specs.declared.ids.TextNo.{TextNo}
use Rattle.orca_tree.specs.declared.tree.Expression.{Expression}
use Rattle.orca_syntax.specs.Shown.{expr}
use Rattle.code_rules.specs.Instructions.{Pop, Fork, ForkOn}
use Rattle.code_rules.specs.Pieces.{one, seq}
use Rattle.code_rules.specs.Phrases.{expr_code, fork_code}
use Rattle.code_exprs.proofs.Pieces.{same}
use Rattle.code_exprs.proofs.leaves.fork_with.Goals as goal

pub returns-in-None : goal.returns-in-None
returns-in-None c = λ w l d.
    let n = c.args.count in
    same c.fork_here.result _ (fork_code w l c.args.process.now n (option_map expr c.args.on.now)) _ _
    (ap (λ (t : TextNo). seq (one (Fork t n)) (one Pop)) (c.text-text.ensures w d.site)
    ∙ sym (ap (λ (o : Option Expression). fork_code w l c.args.process.now n (option_map expr o)) c.in-None.is)) c.fork_here.ensures

pub returns-in-Some : goal.returns-in-Some
returns-in-Some c = λ w l d.
    let n = c.args.count in
    same c.fork_there.result _ (fork_code w l c.args.process.now n (option_map expr c.args.on.now)) _ _
    (ap (λ (t : TextNo). seq (expr_code w l (expr c.in-Some.e)) (seq (one (ForkOn t n)) (one Pop))) (c.text-text.ensures w d.site)
    ∙ sym (ap (λ (o : Option Expression). fork_code w l c.args.process.now n (option_map expr o)) c.in-Some.is)) (c.fork_there.ensures w l d)
