use Rattle.std.proofs.Common.{false, sym, ◌∙◌}
use Rattle.parse_exprs.proofs.TokenLemmas.{key_found}
use Rattle.parse_exprs.proofs.token_readers.key.Goals as goal

pub returns-in-len1-up-clause-gives : goal.returns-in-len1-up-clause-gives
returns-in-len1-up-clause-gives c = key_found false c.args.word c.args.tokens.now c.first-item.result c.in-len1-up.len_at_least c.first-item.is (sym c.is_key.ensures ∙ c.if-is_key.true)
