-- The kind and the incarnation of a packet of the rules, as it travels.
use Rattle.std.proofs.Common.{refl}
use Rattle.group_rules.specs.Member.Kind.{Request, Body, Order, Entry, Ack, Accept, Nack, Status, Invite, Join, News}
use Rattle.group_rows.specs.Kinds.{KindsLaw, IncarnationsLaw}

pub kinds : (M R : Type 0) → KindsLaw M R
kinds M R N k (Request a x) = refl
kinds M R N k (Body a x) = refl
kinds M R N k (Order n i c a b) = refl
kinds M R N k (Entry n a b x) = refl
kinds M R N k (Ack n a) = refl
kinds M R N k (Accept a b) = refl
kinds M R N k (Nack n a whole) = refl
kinds M R N k (Status n a) = refl
kinds M R N k Invite = refl
kinds M R N k (Join j) = refl
kinds M R N k (News a b members log) = refl

pub incarnations : (M R : Type 0) → IncarnationsLaw M R
incarnations M R N k (Request a x) = refl
incarnations M R N k (Body a x) = refl
incarnations M R N k (Order n i c a b) = refl
incarnations M R N k (Entry n a b x) = refl
incarnations M R N k (Ack n a) = refl
incarnations M R N k (Accept a b) = refl
incarnations M R N k (Nack n a whole) = refl
incarnations M R N k (Status n a) = refl
incarnations M R N k Invite = refl
incarnations M R N k (Join j) = refl
incarnations M R N k (News a b members log) = refl
