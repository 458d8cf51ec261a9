-- More of what members keep, in every run.
use Rattle.std.proofs.Common.{arith}
use Rattle.group_rules.specs.World.{run, opening}
use Rattle.group_law.proofs.Law.{reached}
use Rattle.group_law.proofs.Opening.{opened}
use Rattle.group_law.proofs.Walk.{gathering_if}
use Rattle.group_law.proofs.Gathering.{own_runs, own_opened}
use Rattle.group_law.proofs.Waiting.{room_runs, room_opened}
use Rattle.group_law.proofs.AtOnce.{whole_runs, whole_opened}
use Rattle.group_law.specs.Members.{MembersLaw}

pub members_law : (M : Type 0) → MembersLaw M
members_law M g small events = record {
  gathers = λ m e. let o = gathering_if g m ((run g opening events).members m) e in (own_runs opening events small (opened g small) (own_opened g) m o.above o.here, (reached g small events).few m o.alive);
  room = room_runs opening events small (opened g small) (room_opened g);
  at_once = λ sure m.
      let f = ((reached g small events).holds m).fits in
      let t = (whole_runs opening events small sure (opened g small) whole_opened).whole m in
      omega arith;
}
