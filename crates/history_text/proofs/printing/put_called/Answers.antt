use Rattle.std.proofs.Common.{◌∙◌, ◌++◌, ◌∷◌, [], ℕ, ap}
use Rattle.std.specs.Prelude.{codes}
use Rattle.std.specs.Fmt.{decimal}
use Rattle.history_text.specs.Spelling.{arguments_text, object_text}
use Rattle.history_text.proofs.Grown.{six}
use Rattle.history_text.proofs.printing.put_called.Goals as goal

pub returns-clause-put : goal.returns-clause-put
returns-clause-put c =
    let guard = c.in_ok-push_number.ensures.ok ∙ ap (λ (n : ℕ). c.extend_from_slice.new.self.items ++ decimal n) c.from.ensures in
    six c.args.out.now.items c.push.new.self.items c.put_object.new.out.items c.push-2.new.self.items c.push_values.new.out.items c.extend_from_slice.new.self.items c.push_number.new.out.items
    (32 ∷ []) (object_text c.args.object) (32 ∷ []) (arguments_text c.args.args.now) (codes " guard ") (decimal c.args.guard)
    c.in_ok-push.ensures.items c.in_ok-put_object.ensures.put c.in_ok-push-2.ensures.items c.in_ok-push_values.ensures.ok c.in_ok-extend_from_slice.ensures.items guard
