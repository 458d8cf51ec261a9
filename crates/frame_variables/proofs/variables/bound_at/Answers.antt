use Rattle.std.proofs.Common.{ap, sym}
use Rattle.value_core.specs.View.{datum_of}
use Rattle.frame_variables.specs.Gives.{path_of}
use Rattle.frame_variables.proofs.Growing.{firm_adds}
use Rattle.frame_variables.proofs.Keeping.{got}
use Rattle.frame_variables.proofs.Staying.{firm_there}
use Rattle.frame_variables.proofs.variables.bound_at.Goals as goal

pub is_firm-requires : goal.is_firm-requires
is_firm-requires c t = got c.args.run.now.frame c.args.to.now.slot (datum_of c.in-Some.whole.now) (c.is_in_order.ensures t) (sym (c.in-Some.ensures {u = tt}))

pub returns-in-Some : goal.returns-in-Some
returns-in-Some c whole is few = (
  c.bound.ensures whole is few,
  firm_adds (path_of c.args.to.now.path.items) whole
      (firm_there (path_of c.deref.result.now) (path_of c.args.to.now.path.items) c.args.run.now.frame c.args.to.now.slot (datum_of c.in-Some.whole.now) whole
      (ap path_of c.deref.ensures.value) (sym (c.in-Some.ensures {u = tt})) is (c.is_firm.ensures c.if-is_firm.true)),
)
