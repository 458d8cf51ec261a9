use Rattle.type_rules.specs.Rules.{are_new}
use Rattle.type_rules.specs.Declarations.{are_free}
use Rattle.type_forms.specs.Seen.{lent}
use Rattle.type_decls.proofs.FirstOnes.{first_of_two}
use Rattle.type_decls.proofs.names.named_well.Goals as goal

pub returns : goal.returns
returns c = λ us ix fs h.
    first_of_two c.in_ok-again.again c.are_free.result c.lesser.result (are_new (lent c.args.names.now)) (are_free us c.args.home.now fs (lent c.args.names.now)) c.lesser.ensures (c.in_ok-again.ensures {u = tt}) (c.are_free.ensures us ix fs h)
