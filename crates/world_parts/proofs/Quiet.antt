-- Whether a moment is quiet, and whether anything is left with a member.
use Rattle.std.proofs.Common.{◌≡◌, ◌∙◌, ◌&&◌, ◌||◌, not, ℕ, Bool, true, false, Option, None, Some, is_some, option_map, ap, sym, subst, refl}
use Rattle.value_core.specs.declared.action.Reply.{Reply}
use Rattle.value_core.specs.declared.message.Message.{Message}
use Rattle.group_member.specs.StandsFor.{StandsFor}
use Rattle.group_member.specs.declared.member.Member.{Member}
use Rattle.group_rules.specs.Member.{Member as RulesMember, leads}
use Rattle.group_rules.specs.Steps.{is_empty}
use Rattle.net_rules.specs.Flights.{first_ready}
use Rattle.world_rules.specs.Frame.{Frame, group}
use Rattle.world_rules.specs.Nodes as nodes
use Rattle.world_rules.specs.Played.{is_ready}
use Rattle.world_rules.specs.Standings.{is_quiet, some_process, stands}
use Rattle.world_rules.specs.Worlds.{World}
use Rattle.node_parts.specs.Shown.{Left, Stood}
use Rattle.node_core.specs.Stands.{StandsAs}
use Rattle.node_core.specs.declared.node.Node.{Node}
use Rattle.world_parts.proofs.Worlds.{first_due}
use Rattle.world_parts.specs.Rows.{has_nothing_left}
use Rattle.world_parts.specs.Standing.{IsWorld}
use Rattle.world_parts.specs.declared.parts.Parts.{Parts}

-- ---- quiet moments

some_seen : {A B : Type 0} (see : A → B) (o : Option A) → is_some (option_map see o) ≡ is_some o
some_seen see None = refl
some_seen see (Some x) = refl

-- whether a packet is due, by its code
due_seen : {P S A : Type 0} (stood : Stood S) (left : Left S) (f : Frame) (s : Parts P S) (w : World) → IsWorld stood left f s w → (see : A → ℕ × ℕ) (o : Option A) (b : Bool)
    → option_map see o ≡ first_ready s.net.flights → b ≡ is_some o → b ≡ is_some (first_ready w.flights)
due_seen stood left f s w is see o b first some = some ∙ sym (some_seen see o) ∙ ap is_some (first ∙ first_due stood left f s w is)

pub quiet_busy : {P S A : Type 0} (stood : Stood S) (left : Left S) (f : Frame) (s : Parts P S) (w : World) → IsWorld stood left f s w → (see : A → ℕ × ℕ) (o : Option A) (b busy : Bool)
    → option_map see o ≡ first_ready s.net.flights → b ≡ is_some o → not b ≡ true → busy ≡ some_process f w (λ i r. stands is_ready r) → not busy ≡ is_quiet f w
quiet_busy stood left f s w is see o b busy first some none works =
    ap not works ∙ ap (λ (c : Bool). c && not (some_process f w (λ i r. stands is_ready r))) (sym none ∙ ap not (due_seen stood left f s w is see o b first some))

pub quiet_due : {P S A : Type 0} (stood : Stood S) (left : Left S) (f : Frame) (s : Parts P S) (w : World) → IsWorld stood left f s w → (see : A → ℕ × ℕ) (o : Option A) (b : Bool)
    → option_map see o ≡ first_ready s.net.flights → b ≡ is_some o → not b ≡ false → not b ≡ is_quiet f w
quiet_due stood left f s w is see o b first some there =
    there ∙ ap (λ (c : Bool). c && not (some_process f w (λ i r. stands is_ready r))) (sym there ∙ ap not (due_seen stood left f s w is see o b first some))

-- ---- what is left with a member

turned : (l z : Bool) → not (l && not z) ≡ (not l || z)
turned true true = refl
turned true false = refl
turned false z = refl

left_then : (pend waits e l z : Bool) → pend ≡ not e → waits ≡ (l && not z) → not pend ≡ true → not waits ≡ (e && (not l || z))
left_then pend waits true l z p q none = ap not q ∙ turned l z
left_then pend waits false l z p q none = absurd (cc (sym none ∙ ap not p))

left_else : (pend e l z : Bool) → pend ≡ not e → not pend ≡ false → not pend ≡ (e && (not l || z))
left_else pend false l z p some = some
left_else pend true l z p some = absurd (cc (sym some ∙ ap not p))

-- so it says of each member of the world for which the state stands
abbrev pub Says : Member Message Reply → (Frame → ℕ → RulesMember Message → Type 0) → Type 0
Says s says = (f : Frame) (m : ℕ) (v : RulesMember Message) → StandsFor (group f) m s v → says f m v

pub nothing_left : {P S : Type 0} (stood : Stood S) (left : Left S) (f : Frame) (m : ℕ) (node : Node P S) (v : nodes.Node) (s : Member Message Reply) (pend waits : Bool) → s ≡ node.member
    → Says s (λ f m v. pend ≡ not (is_empty v.pending)) → Says s (λ f m v. waits ≡ (leads (group f) m v && not (is_empty v.waiting))) → not pend ≡ true → StandsAs stood left f m node v → not waits ≡ has_nothing_left f m v
nothing_left stood left f m node v s pend waits same p q none stands =
    let there = subst (λ (t : Member Message Reply). StandsFor (group f) m t v.member) (sym same) stands.member in
    left_then pend waits (is_empty v.member.pending) (leads (group f) m v.member) (is_empty v.member.waiting) (p f m v.member there) (q f m v.member there) none

pub something_left : {P S : Type 0} (stood : Stood S) (left : Left S) (f : Frame) (m : ℕ) (node : Node P S) (v : nodes.Node) (s : Member Message Reply) (pend : Bool) → s ≡ node.member
    → Says s (λ f m v. pend ≡ not (is_empty v.pending)) → not pend ≡ false → StandsAs stood left f m node v → not pend ≡ has_nothing_left f m v
something_left stood left f m node v s pend same p some stands =
    let there = subst (λ (t : Member Message Reply). StandsFor (group f) m t v.member) (sym same) stands.member in
    left_else pend (is_empty v.member.pending) (leads (group f) m v.member) (is_empty v.member.waiting) (p f m v.member there) some
