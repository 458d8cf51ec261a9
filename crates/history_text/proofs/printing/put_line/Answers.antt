use Rattle.std.proofs.Common.{◌∙◌, ◌++◌, ◌∷◌, [], ℕ, ap}
use Rattle.std.specs.Fmt.{decimal}
use Rattle.history_text.specs.Spelling.{action_text, line_text, reply_text}
use Rattle.history_text.proofs.Grown.{eight}
use Rattle.history_text.proofs.printing.put_line.Goals as goal

pub returns-clause-put : goal.returns-clause-put
unfolding line_text
returns-clause-put c =
    let line = c.args.line.now in
    let process = c.in_ok-push_number.ensures.ok ∙ ap (λ (n : ℕ). c.args.out.now.items ++ decimal n) c.from.ensures in
    eight c.args.out.now.items c.push_number.new.out.items c.push.new.self.items c.push_number-2.new.out.items c.push-2.new.self.items c.put_action.new.out.items c.push-3.new.self.items c.put_reply.new.out.items c.push-4.new.self.items
    (decimal line.process.0) (32 ∷ []) (decimal line.call.0) (32 ∷ []) (action_text c.args.names.now line.action line.guard) (32 ∷ []) (reply_text line.reply) (10 ∷ [])
    process c.in_ok-push.ensures.items c.in_ok-push_number-2.ensures.ok c.in_ok-push-2.ensures.items c.in_ok-put_action.ensures.put c.in_ok-push-3.ensures.items c.in_ok-put_reply.ensures c.in_ok-push-4.ensures.items
