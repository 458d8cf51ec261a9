-- The member that applied most entries has the list of the run.
use Rattle.std.proofs.Common.{◌≡◌, ◌≤◌, ◌<◌, ◌+◌, ◌∙◌, ℕ, suc, zero, max, Bool, List, [], ◌∷◌, Some, get_or, slice_get, ap, sym, subst, refl, arith, map, length, take, if◌then◌else◌}
use Rattle.std.proofs.lemmas.Bool.{le-ltb, lt-ltb}
use Rattle.std.proofs.lemmas.Option.{slice_get_read}
use Rattle.std.proofs.lemmas.List.{length-drop, length-take, length-take-le, take_all}
use Rattle.group_rules.specs.Messages.{Group}
use Rattle.group_rules.specs.Member.{Member as RulesMember}
use Rattle.group_member.specs.StandsFor.{StandsFor}
use Rattle.group_member.specs.declared.member.Member.{Member}
use Rattle.history_buffer.specs.Window.{last_number}
use Rattle.world_law.specs.Lists.{OneList}
use Rattle.value_core.specs.declared.message.Message.{Message}
use Rattle.object_manager.specs.After.{Copied, opening_copies}
use Rattle.book_law.specs.Passes.{after_all}
use Rattle.world_book.specs.Promise.{IsKept}
use Rattle.world_facts.specs.Processes.{AllBegin}
use Rattle.world_rules.specs.Frame.{Frame, group}
use Rattle.world_rules.specs.Processes.{processes_in}
use Rattle.world_rules.specs.Standings.{process_count}
use Rattle.world_rules.specs.Worlds.{World, agreed, applied_at, longest, processes_of, singles_in}
use Rattle.node_parts.specs.Shown.{Left, Stood}
use Rattle.node_core.specs.Stands.{on_known}
use Rattle.node_core.specs.declared.node.Node.{Node}
use Rattle.world_facts.specs.Logs.{longest_below}
use Rattle.world_parts.specs.Standing.{IsWorld}
use Rattle.world_parts.specs.declared.parts.Parts.{Parts}

-- a member's log ends with its window
pub log_length : {B R : Type 0} (g : Group B) (which : ℕ) (s : Member B R) (m : RulesMember B) → StandsFor g which s m → length m.log ≡ last_number s.window
log_length g which s m h = omega (arith, length-drop m.base m.log, ap length h.log, h.base, h.whole)

-- and has all that it applied
pub applied_length : {B R : Type 0} (g : Group B) (which : ℕ) (s : Member B R) (m : RulesMember B) → StandsFor g which s m → length (take m.applied m.log) ≡ s.applied
applied_length g which s m h =
    length-take-le m.applied m.log (omega (arith, h.applied, h.member.applies, h.member.accepts, log_length g which s m h)) ∙ h.applied

-- of the members below k the leader applied most entries, which is so many
pub record IsLeader (w : World) (k leader most : ℕ) : Type 0 where
  pub most_is : most ≡ length (longest k w)
  pub led : 0 < most → applied_at w leader ≡ longest k w

pub leads_first : (w : World) → IsLeader w 0 0 0
leads_first w = record { most_is = refl; led = λ some. absurd (omega (arith, some)) }

pub leads_on : (w : World) (k leader most applied : ℕ) → length (applied_at w k) ≡ applied → most < applied → IsLeader w k leader most → IsLeader w (suc k) k applied
leads_on w k leader most applied is more h =
    let goes = lt-ltb (length (longest k w)) (length (applied_at w k)) (omega (arith, is, more, h.most_is)) in
    let same : longest (suc k) w ≡ applied_at w k = ap (λ (b : Bool). if b then applied_at w k else longest k w) goes in
    record { most_is = sym is ∙ ap length (sym same); led = λ some. sym same }

pub leads_still : (w : World) (k leader most applied : ℕ) → length (applied_at w k) ≡ applied → applied ≤ most → IsLeader w k leader most → IsLeader w (suc k) leader most
leads_still w k leader most applied is less h =
    let stays = le-ltb (length (longest k w)) (length (applied_at w k)) (omega (arith, is, less, h.most_is)) in
    let same : longest (suc k) w ≡ longest k w = ap (λ (b : Bool). if b then applied_at w k else longest k w) stays in
    record { most_is = h.most_is ∙ ap length (sym same); led = λ some. h.led some ∙ sym same }

empty : {A : Type 0} (xs : List A) → length xs ≡ 0 → xs ≡ []
empty [] is = refl
empty (x ∷ xs) is = absurd (omega (arith, is))

-- so it has the list
pub leads_all : (f : Frame) (w : World) (leader most : ℕ) → OneList f w → leader < f.settings.nodes → IsLeader w f.settings.nodes leader most → applied_at w leader ≡ agreed f w
leads_all f w leader zero one lt h =
    let none : length (agreed f w) ≡ 0 = sym h.most_is in
    let shorter = (one.begin leader lt).right in
    empty (applied_at w leader) (omega (arith, none, shorter)) ∙ sym (empty (agreed f w) none)
leads_all f w leader (suc most) one lt h = h.led (omega arith)

-- ---- of a run in code

-- what a member applied, by its code
pub member_applied : {P S : Type 0} (stood : Stood S) (left : Left S) (f : Frame) (s : Parts P S) (w : World) → IsWorld stood left f s w → (k : ℕ) (node : Node P S)
    → slice_get s.nodes.items k ≡ Some node → length (applied_at w k) ≡ node.member.applied
member_applied stood left f s w is k node at = applied_length (group f) k node.member (w.nodes k).member (is.nodes k node at).member

-- the member that has the list knows all processes
pub leader_knows : {P S : Type 0} (stood : Stood S) (left : Left S) (f : Frame) (s : Parts P S) (w : World) → IsWorld stood left f s w → OneList f w → (k : ℕ) (node : Node P S)
    → k < f.settings.nodes → slice_get s.nodes.items k ≡ Some node → applied_at w k ≡ agreed f w → node.known.items ≡ map on_known (processes_of f w)
leader_knows stood left f s w is one k node lt at leads =
    (is.nodes k node at).known ∙ ap (λ (xs : List Message). map on_known (processes_in f xs)) (one.copies k lt ∙ leads)

-- and its copies count them
pub leader_counts : {P S : Type 0} (stood : Stood S) (left : Left S) (f : Frame) (s : Parts P S) (w : World) → IsWorld stood left f s w → IsKept f w → AllBegin → (k : ℕ) (node : Node P S)
    → slice_get s.nodes.items k ≡ Some node → applied_at w k ≡ agreed f w → node.copies.processes ≡ process_count f w
leader_counts stood left f s w is kept begin k node at leads =
    let shorter : length (agreed f w) ≤ (w.nodes k).member.applied =
    omega (arith, ap length leads, length-take (w.nodes k).member.applied (w.nodes k).member.log) in
    ap (λ (c : Copied). c.processes) ((is.nodes k node at).copies ∙ kept.shared k)
    ∙ ap (λ (xs : List Message). (after_all (singles_in f w) f.performs opening_copies xs).processes) (take_all (w.nodes k).member.applied (agreed f w) shorter)
    ∙ sym ((begin f (agreed f w)).counted (singles_in f w))

-- what the search for the leader knows before it looks at member k
abbrev pub Led : {P S : Type 0} → Stood S → Left S → Frame → Parts P S → ℕ → ℕ → ℕ → Type 0
Led stood left f s k leader most =
    (leader ≤ k) × (0 < k → leader < k) × ((w : World) → IsWorld stood left f s w → IsLeader w k leader most)

-- member k applied more, or no more, than those before it
pub leader_on : {P S : Type 0} (stood : Stood S) (left : Left S) (f : Frame) (s : Parts P S) (k leader most now so applied : ℕ) (node : Node P S) → k < length s.nodes.items
    → node ≡ get_or s.nodes.items k node → applied ≡ node.member.applied → Led stood left f s k leader most → most < applied → now ≡ k → so ≡ applied → Led stood left f s (k + 1) now so
leader_on stood left f s k leader most now so applied node lt at is led more now_is so_is =
    let one : suc k ≡ k + 1 = omega arith in
    let found = slice_get_read s.nodes.items (length s.nodes.items) k node refl lt at in (
      omega (arith, now_is),
      (λ some. omega (arith, now_is)),
      (λ w world.
          subst (λ (n : ℕ). IsLeader w n now so) one
          (subst (λ (l : ℕ). IsLeader w (suc k) l so) (sym now_is)
          (subst (λ (m : ℕ). IsLeader w (suc k) k m) (sym so_is)
          (leads_on w k leader most applied (member_applied stood left f s w world k node found ∙ sym is) more (led.2 w world))))),
    )

pub leader_stays : {P S : Type 0} (stood : Stood S) (left : Left S) (f : Frame) (s : Parts P S) (k leader most now so applied : ℕ) (node : Node P S) → k < length s.nodes.items
    → node ≡ get_or s.nodes.items k node → applied ≡ node.member.applied → Led stood left f s k leader most → applied ≤ most → now ≡ leader → so ≡ most → Led stood left f s (k + 1) now so
leader_stays stood left f s k leader most now so applied node lt at is led less now_is so_is =
    let one : suc k ≡ k + 1 = omega arith in
    let low = led.0 in
    let found = slice_get_read s.nodes.items (length s.nodes.items) k node refl lt at in (
      omega (arith, now_is, low),
      (λ some. omega (arith, now_is, low)),
      (λ w world.
          subst (λ (n : ℕ). IsLeader w n now so) one
          (subst (λ (l : ℕ). IsLeader w (suc k) l so) (sym now_is)
          (subst (λ (m : ℕ). IsLeader w (suc k) leader m) (sym so_is)
          (leads_still w k leader most applied (member_applied stood left f s w world k node found ∙ sym is) less (led.2 w world))))),
    )

-- ---- logs

-- the length of a member's log, by its code
pub log_there : {P S : Type 0} (stood : Stood S) (left : Left S) (f : Frame) (s : Parts P S) (w : World) → IsWorld stood left f s w → (k : ℕ) (node : Node P S)
    → slice_get s.nodes.items k ≡ Some node → length (w.nodes k).member.log ≡ last_number node.member.window
log_there stood left f s w is k node at = log_length (group f) k node.member (w.nodes k).member (is.nodes k node at).member

-- the longest of one member more
pub longer_next : {P S : Type 0} (stood : Stood S) (left : Left S) (f : Frame) (s : Parts P S) (w : World) → IsWorld stood left f s w → (k next : ℕ) (node : Node P S)
    (now more longest : ℕ) → suc k ≡ next → slice_get s.nodes.items k ≡ Some node → now ≡ last_number node.member.window → longest ≡ longest_below k w
    → more ≡ max longest now → more ≡ longest_below next w
longer_next stood left f s w is k next node now more longest one at here so sum =
    let e : now ≡ length (w.nodes k).member.log = here ∙ sym (log_there stood left f s w is k node at) in
    sum ∙ ap (λ (n : ℕ). max n now) so ∙ ap (max (longest_below k w)) e ∙ ap (λ (n : ℕ). longest_below n w) one
