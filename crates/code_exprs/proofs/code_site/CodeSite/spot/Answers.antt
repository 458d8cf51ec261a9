use Rattle.std.proofs.Common.{length, ◌∙◌}
use Rattle.code_exprs.proofs.Slots.{spot_there}
use Rattle.code_exprs.proofs.code_site.CodeSite.spot.Goals as goal

pub returns : goal.returns
returns c = λ w l d.
    c.spot_of.ensures
    ∙ spot_there l (length c.args.self.site.body.now.names.types.items) (length c.args.self.site.loops.now) c.args.self.beyond c.args.place d.names d.depth d.beyond
