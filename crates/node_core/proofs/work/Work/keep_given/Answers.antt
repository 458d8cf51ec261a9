use Rattle.std.proofs.Common.{refl}
use Rattle.node_core.proofs.Working.{has_kept, ok_map}
use Rattle.node_core.proofs.work.Work.keep_given.Goals as goal

pub returns : goal.returns
returns g c = ok_map c.put_at.result _ _ (λ kept. has_kept c.args.process.0 c.args.given c.args.self.now _ refl kept) c.put_at.ensures
