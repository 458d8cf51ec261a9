use Rattle.std.proofs.Common.{ℤ, ap, ◌∙◌}
use Rattle.std.specs.Int.{w64}
use Rattle.std.proofs.lemmas.Int.{to_z-of_z}
use Rattle.world_tests.specs.Cells.{with_number}
use Rattle.world_tests.proofs.Playing.{one_of}
use Rattle.world_tests.proofs.cells.one.Goals as goal

pub returns : goal.returns
returns c =
    one_of c.new-values.result c.push.new.self _ c.new-values.ensures c.in_ok-push.ensures.ok ∙ ap (λ (z : ℤ). with_number z) (to_z-of_z w64 c.args.number c.ranges.number)
