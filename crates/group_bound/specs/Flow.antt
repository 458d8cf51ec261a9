-- A faultless run: letters are delivered once each, in the order in which they were sent; no tick, no crash, no suspicion.
use Rattle.std.specs.Prelude.{ℕ, suc, List, [], ◌∷◌, ◌++◌, ◌&&◌, nat_lt, nat_le, if◌then◌else◌}
use Rattle.group_rules.specs.Messages.{Group}
use Rattle.group_rules.specs.Member.{Letter}
use Rattle.group_rules.specs.Work.{Act}
use Rattle.group_rules.specs.World.{GroupWorld, opening, put, submitted_past, may_submit}
use Rattle.group_rules.specs.Steps.{submit, deliver, note}

-- a world of the group, the letters on their way in the order of sending, how many were delivered, and how many messages were submitted
pub record Flow (M : Type 0) : Type 0 where
  pub world : GroupWorld M
  pub queue : List (Letter M)
  pub delivered : ℕ
  pub asked : ℕ

-- the beginning
abbrev pub opening_flow : {M : Type 0} → Flow M
opening_flow = record { world = opening; queue = []; delivered = 0; asked = 0 }

-- what may happen: a message is submitted at a member, the first letter is delivered, a member notes that it applied up to a number
pub data Move (M : Type 0) : Type 0 where
  Submits : (member : ℕ) (message : M) → Move M
  Delivers : Move M
  Notes : (member number : ℕ) → Move M

-- the letters on their way after a step's acts: what it sent goes to the end. A step's acts have the latest first
abbrev pub onto : {M : Type 0} → List (Letter M) → List (Act M) → List (Letter M)
onto q [] = q
onto q (Act.Sends letter ∷ acts) = onto q acts ++ letter ∷ []
onto q (Act.Keeps packet ∷ acts) = onto q acts
onto q (Act.Orders k x ∷ acts) = onto q acts
onto q (Act.Begins k log answers ∷ acts) = onto q acts

abbrev pub delivers : {M : Type 0} → Group M → Flow M → List (Letter M) → Flow M
delivers g f [] = f
delivers g f (l ∷ q) =
    let v = deliver g l.to l.packet (f.world.members l.to) in
    record { world = put f.world l.to f.world.past v; queue = onto q v.acts; delivered = suc f.delivered; asked = f.asked }

abbrev pub submits : {M : Type 0} → Group M → Flow M → ℕ → M → Flow M
submits g f m x =
    let v = submit g m x (f.world.members m) in
    record {
      world = put f.world m (submitted_past g m x f.world.past) v;
      queue = onto f.queue v.acts;
      delivered = f.delivered;
      asked = suc f.asked;
    }

abbrev pub notes : {M : Type 0} → Group M → Flow M → ℕ → ℕ → Flow M
notes g f m n =
    let v = note g m n (f.world.members m) in
    record { world = put f.world m f.world.past v; queue = onto f.queue v.acts; delivered = f.delivered; asked = f.asked }

-- a submission or note that isn't possible changes nothing
abbrev pub moves : {M : Type 0} → Group M → Flow M → Move M → Flow M
moves g f (Move.Submits m x) = if nat_lt m g.nodes && may_submit g f.world m x then submits g f m x else f
moves g f Move.Delivers = delivers g f f.queue
moves g f (Move.Notes m n) =
    if nat_lt m g.nodes && (nat_le (f.world.members m).applied n && nat_le n (f.world.members m).accepted) then notes g f m n else f

abbrev pub flow : {M : Type 0} → Group M → Flow M → List (Move M) → Flow M
flow g f [] = f
flow g f (move ∷ more) = flow g (moves g f move) more
