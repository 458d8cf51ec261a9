use Rattle.std.proofs.Common.{◌≤◌, arith, length, subst, sym}
use Rattle.frame_variables.specs.Bounded.{AreWithin}
use Rattle.frame_variables.proofs.Bounding.{forgot, forgot_past}
use Rattle.frame_variables.proofs.bounds.Bounds.forget.Goals as goal

pub returns-then-slot-len : goal.returns-then-slot-len
returns-then-slot-len c values v h =
    forgot c.self.inside.known.items values c.args.slot 10001 v (omega arith) (subst (λ ns. AreWithin ns values) (sym c.self.view_is) h)

pub returns-else-slot-len : goal.returns-else-slot-len
returns-else-slot-len c values v h =
    let past : length c.self.inside.known.items ≤ c.args.slot = omega arith in
    forgot_past c.args.self.now values c.args.slot v (subst (λ ns. length ns ≤ c.args.slot) c.self.view_is past) h
