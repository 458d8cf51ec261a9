use Rattle.std.proofs.Common.{ℕ, All, List, subst, arith}
use Rattle.group_packets.specs.declared.packet.Join.{Join}
use Rattle.member_rows.specs.declared.plain.Plain.{Plain}
use Rattle.member_rows.specs.Tested.{IsFirst}
use Rattle.member_rows.proofs.conditions.can_join.Goals as goal

pub returns : goal.returns
returns c = λ e. record {
  applied = let a = c.applied.ensures in let f = c.if-applied-ne0.false in omega arith;
  accepted = let a = c.accepted.ensures in let f = c.if-accepted-ne0.false in omega arith;
  first = c.is_first.ensures c.if-not-is_first.false;
  firsts = subst (λ (xs : List (ℕ × Join Plain ℕ)). All (λ answer. IsFirst answer.1) xs) c.answers.ensures (c.are_first.ensures e);
}
