-- So many packets are delivered at most: letters of the group by its count, Asks and Answers by the calls.
use Rattle.std.proofs.Common.{◌≡◌, ◌≤◌, ◌<◌, ◌*◌, ◌+◌, inl, inr, ℕ, length, sym, subst, arith}
use Rattle.value_core.specs.declared.message.Message.{Message}
use Rattle.group_rules.specs.World.{GroupWorld}
use Rattle.group_bound.specs.Flow.{Flow, flow, opening_flow}
use Rattle.world_rules.specs.Frame.{Frame, group}
use Rattle.world_rules.specs.Worlds.{World, group_world}
use Rattle.world_enough.proofs.Flowing.{AreOfFew, FlowLaw}
use Rattle.world_enough.specs.Bound.{AsksCost, calls_of, most_deliveries, most_packets}
use Rattle.world_enough.specs.Paid.{calls_in}
use Rattle.world_enough.specs.Tie.{HasDelivered, Tied}

pub delivers : (f : Frame) (w : World) (d : ℕ) → FlowLaw (group f) → Tied f w d → AreOfFew (group f) (group_world w) →
    d ≤ 6 * (f.settings.nodes * (length (w.nodes 0).member.log + 1))
delivers f w d enough tied few =
    let fl : Flow Message = flow (group f) opening_flow tied.moves in
    let n = (enough tied.moves).count (subst (λ (z : GroupWorld Message). AreOfFew (group f) z) (sym tied.world) few) in
    subst (λ (k : ℕ). k ≤ 6 * (f.settings.nodes * (length (w.nodes 0).member.log + 1))) tied.delivered
    (subst (λ (z : GroupWorld Message). fl.delivered ≤ 6 * (f.settings.nodes * (length (z.members 0).log + 1))) tied.world n)

-- no log is longer than the sequencer's
pub short_logs : (f : Frame) (w : World) (d : ℕ) → FlowLaw (group f) → Tied f w d → (m : ℕ) → m < f.settings.nodes → length (w.nodes m).member.log ≤ length (w.nodes 0).member.log
short_logs f w d enough tied m low =
    subst (λ (z : GroupWorld Message). length (z.members m).log ≤ length (z.members 0).log) tied.world ((enough tied.moves).smooth.logs m low)

pub all_packets : (f : Frame) (w : World) (n each : ℕ) → (h : HasDelivered f w n) → h.letters ≤ most_deliveries f w → calls_in f w ≤ calls_of f w → AsksCost f each → n ≤ most_packets each f w
all_packets f w n each h letters calls (inl e) = subst (λ (k : ℕ). n ≤ most_packets k f w) (sym e) (two n h.letters h.errands (most_deliveries f w) (calls_in f w) (calls_of f w) h.all letters h.asked calls)
  where
    two : (n l e d a c : ℕ) → n ≡ l + e → l ≤ d → e ≤ 2 * a → a ≤ c → n ≤ d + 2 * c
    two n l e d a c all letters asked calls = omega (arith, all, letters, asked, calls)
all_packets f w n each h letters calls (inr e) = subst (λ (k : ℕ). n ≤ most_packets k f w) (sym e.1) (none n h.letters h.errands (most_deliveries f w) (calls_of f w) h.all letters (h.none e.0))
  where
    none : (n l e d c : ℕ) → n ≡ l + e → l ≤ d → e ≡ 0 → n ≤ d + 0 * c
    none n l e d c all letters zeroth = omega (arith, all, letters, zeroth)
