use Rattle.std.proofs.Common.{◌∙◌, ◌++◌, ap}
use Rattle.std.specs.Prelude.{string_bytes}
use Rattle.std.specs.List.{flat_map}
use Rattle.stack_code.specs.declared.bodies.PackedBody.{PackedBody}
use Rattle.stack_code.specs.Bodies.{body_shown}
use Rattle.stack_code.specs.Printed.{notes_of, written}
use Rattle.stack_code.specs.Text.{body_bodies}
use Rattle.stack_code.proofs.Printing.{one_more}
use Rattle.stack_code.proofs.print.put_texts.Goals as goal

pub texts-preserved : goal.texts-preserved
texts-preserved c =
    let p = c.texts.p in
    let q = c.put_body.new.p in
    let a = c.args.p.now in (
      λ rest.
          one_more (notes_of c.args.notes.now) (λ (x : PackedBody). body_bodies (body_shown x)) c.args.texts.now c.texts.text-index c.text-item.result rest (string_bytes p.out) (string_bytes q.out)
          (written (notes_of c.args.notes.now) a (flat_map (λ (x : PackedBody). body_bodies (body_shown x)) c.args.texts.now ++ rest)) p.first q.first p.texts q.texts c.texts-test.true
          (λ r. c.in_ok-put_body.ensures.text r ∙ ap (λ (x : PackedBody). written (notes_of c.args.notes.now) p (body_bodies (body_shown x) ++ r)) c.text-item.is)
          (c.texts.invariant.0 rest),
      c.in_ok-put_body.ensures.counted,
    )
