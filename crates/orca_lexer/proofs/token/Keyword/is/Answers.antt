use Rattle.std.proofs.Common.{sym, ◌∙◌, rules}
use denote.Enum.Bare.{same_true}
use Rattle.orca_lexer.specs.contracts.token.Keyword.{the_type}
use Rattle.orca_lexer.proofs.token.Keyword.is.Goals as goal

pub returns : goal.returns
returns c =
    let e = c.eq.ensures in
    (λ t. same_true the_type (search rules) _ _ (sym e ∙ t), λ same. rw (e, same) (search rules))
