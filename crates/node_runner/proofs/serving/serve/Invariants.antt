use Rattle.std.proofs.Common.{◌≡◌, Ok}
use Rattle.node_runner.specs.declared.desk.Offer.TheVariants as offer
use Rattle.node_runner.proofs.serving.serve.Given as goal

-- a worker that was told so last
abbrev pub invariant-works : goal.invariant-works
invariant-works g l = l.offered ≡ Ok offer.Over → g.D.Desk.is_over l.desk l.home
