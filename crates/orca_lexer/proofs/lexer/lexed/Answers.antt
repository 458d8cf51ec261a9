use Rattle.std.proofs.Common.{arith}
use Rattle.orca_lexer.proofs.Following.{read_more, further}
use Rattle.orca_lexer.proofs.lexer.lexed.Goals as goal

pub tokens-smaller : goal.tokens-smaller
tokens-smaller c =
    let on = further c.args.text.now _ _ _ c.in_ok-token.ensures in
    let onward = c.past_gap-cursor-in-tokens.ensures.onward in
    let more = c.tokens-test.true in
    omega arith

pub tokens-preserved : goal.tokens-preserved
tokens-preserved c =
    let left = c.past_gap-cursor-in-tokens.ensures in
    rw c.in_ok-push.ensures.items (read_more c.args.text.now _ _ _ _ _ c.tokens.invariant c.in_ok-token.ensures left.at left.gap)
