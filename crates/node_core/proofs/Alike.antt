-- Nodes with the same parts stand alike.
use Rattle.std.proofs.Common.{◌≡◌, ℕ, List, Option, None, sym, ap, ◌∙◌, subst, map, slice_index_or}
use Rattle.group_member.specs.StandsFor.{StandsFor}
use Rattle.group_rules.specs.Member.{Member as RulesMember}
use Rattle.value_core.specs.declared.message.Message.{Message}
use Rattle.world_rules.specs.Frame.{Frame, group}
use Rattle.node_parts.specs.Shown.{IsPlayedIf, Left, Stood, on_errand, on_given}
use Rattle.node_core.specs.Stands.{StandsAlike}
use Rattle.node_parts.specs.declared.errand.Errand.{Errand}
use Rattle.node_parts.specs.declared.errand.Given.{Given}
use Rattle.node_core.specs.declared.node.Node.{Node}
use Rattle.node_parts.specs.declared.resident.Resident.{Resident}

pub alike : {P S : Type 0} (stood : Stood S) (left : Left S) (s t : Node P S)
    → ((f : Frame) (m : ℕ) (v : RulesMember Message) → StandsFor (group f) m s.member v → StandsFor (group f) m t.member v)
    → t.copies ≡ s.copies → t.known.items ≡ s.known.items → t.residents.items ≡ s.residents.items → t.held.items ≡ s.held.items → t.given.items ≡ s.given.items → t.choices ≡ s.choices
    → StandsAlike stood left s t
alike {P} {S} stood left s t member copies known residents held given choices f m v h = record {
  member = member f m v.member h.member;
  copies = copies ∙ h.copies;
  known = known ∙ h.known;
  residents = λ i. subst (λ (l : List (Option (Resident S))). IsPlayedIf stood left i (slice_index_or l i None) (v.played i)) (sym residents) (h.residents i);
  held = ap (λ (l : List Errand). map on_errand l) held ∙ h.held;
  given = λ i. ap (λ (l : List (Option Given)). on_given (slice_index_or l i None)) given ∙ h.given i;
  choices = choices ∙ h.choices;
}
