use Rattle.std.proofs.Common.{◌≡◌, ◌++◌, subst, sym}
use Rattle.std.specs.Prelude.{OnOk, option_map}
use Rattle.stack_code.specs.Bodies.{body_shown}
use Rattle.stack_code.specs.Printed.{notes_of, written}
use Rattle.stack_code.specs.Text.{function_bodies}
use Rattle.stack_code.proofs.print.put_function.Goals as goal

pub returns-in-Some-clause-text : goal.returns-in-Some-clause-text
returns-in-Some-clause-text c = λ rest.
    subst (λ o. OnOk c.put_body.result (written (notes_of c.args.notes.now) c.put_body.new.p rest ≡ written (notes_of c.args.notes.now) c.args.p.now (function_bodies (option_map body_shown o) ++ rest)))
    (sym c.in-Some.is) (c.put_body.ensures.text rest)
