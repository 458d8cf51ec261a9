use Rattle.std.proofs.Common.{subst, sym}
use Rattle.object_manager.specs.State.{IsState}
use Rattle.object_manager.specs.Whole.{IsWhole}
use Rattle.object_manager.proofs.Sending.{state_as, state_fits}
use Rattle.object_manager.proofs.copies.Copies.state.Goals as goal

pub returns-clause-fits : goal.returns-clause-fits
returns-clause-fits c =
    let now = c.args.self.now in
    let whole = subst IsWhole c.self.view_is c.self.invariant in
    let same = state_as _ now _ _ c.self.view_is (c.in_ok-entries_of.ensures {u = tt}) (c.in_ok-messages_of.ensures {u = tt}) in
    subst IsState (sym same) (state_fits now whole c.requires)
