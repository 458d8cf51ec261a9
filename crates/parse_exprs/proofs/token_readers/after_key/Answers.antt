use Rattle.std.proofs.Common.{false, sym, ◌∙◌}
use Rattle.parse_exprs.proofs.TokenLemmas.{key_comes, key_found}
use Rattle.parse_exprs.proofs.token_readers.after_key.Goals as goal

pub returns-in-len1-up : goal.returns-in-len1-up
returns-in-len1-up c =
    let found = sym c.is_key.ensures ∙ c.if-is_key.true in (
      key_comes c.args.word c.args.tokens.now c.first-item.result c.in-len1-up.len_at_least c.first-item.is found,
      key_found false c.args.word c.args.tokens.now c.first-item.result c.in-len1-up.len_at_least c.first-item.is found,
    )
