use Rattle.std.proofs.Common.{ap, sym}
use Rattle.value_core.specs.View.{datum_of}
use Rattle.frame_variables.specs.Gives.{path_of}
use Rattle.frame_variables.proofs.Staying.{firm_there}
use Rattle.frame_variables.proofs.Keeping.{got}
use Rattle.frame_variables.proofs.frame.Frame.stays_in_order.Goals as goal

pub is_firm-requires : goal.is_firm-requires
is_firm-requires c t = got c.args.self.now c.args.to.now.slot (datum_of c.in-Some.whole.now) (c.is_in_order.ensures c.if-not-is_in_order.false) (sym (c.in-Some.ensures {u = tt}))

pub returns-in-Some-clause-firm : goal.returns-in-Some-clause-firm
returns-in-Some-clause-firm c t whole stands =
    firm_there (path_of c.deref.result.now) (path_of c.args.to.now.path.items) c.args.self.now c.args.to.now.slot (datum_of c.in-Some.whole.now) whole (ap path_of c.deref.ensures.value) (sym (c.in-Some.ensures {u = tt})) stands (c.is_firm.ensures t)
