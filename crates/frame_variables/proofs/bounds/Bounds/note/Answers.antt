use Rattle.std.proofs.Common.{subst, sym}
use Rattle.frame_variables.specs.Bounded.{AreWithin}
use Rattle.frame_variables.proofs.Bounding.{noted}
use Rattle.frame_variables.proofs.bounds.Bounds.note.Goals as goal

pub returns-then-is_ok : goal.returns-then-is_ok
returns-then-is_ok c values h here =
    noted c.reach.new.known.items values c.args.slot c.args.bound (c.reach.ensures.same values (subst (λ ns. AreWithin ns values) (sym c.self.view_is) h)) here
