use Rattle.std.proofs.Common.{arith}
use Rattle.code_exprs.proofs.code_site.CodeSite.free.Goals as goal

pub returns : goal.returns
returns c = λ w l d.
    let names = d.names in
    let depth = d.depth in
    let is = c.free_of.ensures in
    omega (arith, names, depth, is)
