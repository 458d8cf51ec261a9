use Rattle.std.proofs.Common.{◌≡◌, ◌++◌, subst}
use Rattle.std.specs.Prelude.{string_bytes, OnOk}
use Rattle.stack_code.specs.Text.{mark_text}
use Rattle.emitted_code.specs.Views.{mark_of}
use Rattle.stack_code.proofs.Printing.{flat_map_map}
use Rattle.stack_code.proofs.print.put_path.Goals as goal

pub returns : goal.returns
returns c = subst (λ t. OnOk c.put_marks.result (string_bytes c.put_marks.new.out ≡ string_bytes c.args.out.now ++ t)) (flat_map_map mark_text mark_of c.args.path.now) c.put_marks.ensures
