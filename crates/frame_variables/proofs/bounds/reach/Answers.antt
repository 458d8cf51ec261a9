use Rattle.std.proofs.Common.{arith, subst, sym}
use Rattle.frame_variables.specs.Bounded.{AreWithin}
use Rattle.frame_variables.proofs.Bounding.{longer}
use Rattle.frame_variables.proofs.bounds.reach.Goals as goal

pub places-preserved : goal.places-preserved
places-preserved c values h =
    subst (λ ns. AreWithin ns values) (sym (c.in_ok-push.ensures {u = tt}).items) (longer c.places.known.items values 10001 (omega arith) (c.places.invariant values h))
