use Rattle.std.proofs.Common.{◌∙◌, ◌++◌, ap}
use Rattle.std.specs.Prelude.{string_bytes}
use Rattle.std.specs.List.{flat_map}
use Rattle.stack_code.specs.declared.bodies.PackedOperation.{PackedOperation}
use Rattle.stack_code.specs.Bodies.{operation_shown}
use Rattle.stack_code.specs.Printed.{notes_of, written}
use Rattle.stack_code.specs.Text.{operation_bodies}
use Rattle.stack_code.proofs.Printing.{one_more}
use Rattle.stack_code.proofs.print.put_operations.Goals as goal

pub operations-preserved : goal.operations-preserved
operations-preserved c =
    let p = c.operations.p in
    let q = c.put_body.new.p in
    let a = c.args.p.now in (
      λ rest.
          one_more (notes_of c.args.notes.now) (λ (x : PackedOperation). operation_bodies (operation_shown x)) c.args.operations.now c.operations.operation-index c.operation-item.result rest (string_bytes p.out) (string_bytes q.out)
          (written (notes_of c.args.notes.now) a (flat_map (λ (x : PackedOperation). operation_bodies (operation_shown x)) c.args.operations.now ++ rest)) p.first q.first p.texts q.texts c.operations-test.true
          (λ r. c.in_ok-put_body.ensures.text r ∙ ap (λ (x : PackedOperation). written (notes_of c.args.notes.now) p (operation_bodies (operation_shown x) ++ r)) c.operation-item.is)
          (c.operations.invariant.0 rest),
      c.in_ok-put_body.ensures.counted,
    )
