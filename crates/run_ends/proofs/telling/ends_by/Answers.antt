use Rattle.std.proofs.Common.{List, map, subst}
use Rattle.value_core.specs.declared.action.Line.{Line}
use Rattle.run_ends.specs.Telling.{HasHeard}
use Rattle.run_ends.proofs.telling.ends_by.Goals as goal

pub ends_with-requires-clause-heard : goal.ends_with-requires-clause-heard
ends_with-requires-clause-heard g c w is =
    subst (λ (l : List Line). HasHeard g.P.OneRun.run.frame w l (map (λ v. v.items) c.in_ok-replies.replies.items)) (c.requires.book w is) ((c.in_ok-replies.ensures {u = tt}) w is)
