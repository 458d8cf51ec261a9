use Rattle.std.proofs.Common.{◌≡◌, ◌++◌, subst}
use Rattle.std.specs.Prelude.{string_bytes, OnOk}
use Rattle.stack_code.specs.Text.{shape_text}
use Rattle.emitted_code.specs.Views.{shape_of}
use Rattle.stack_code.proofs.Printing.{flat_map_map}
use Rattle.stack_code.proofs.print.put_shapes.Goals as goal

pub returns : goal.returns
returns c = subst (λ t. OnOk c.put_passed.result (string_bytes c.put_passed.new.out ≡ string_bytes c.args.out.now ++ t)) (flat_map_map shape_text shape_of c.args.shapes.now) c.put_passed.ensures
