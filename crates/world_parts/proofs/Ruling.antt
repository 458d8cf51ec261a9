-- What single calls tell of a member or a process is what the table of standings reads.
use Rattle.std.proofs.Common.{◌≡◌, ◌≤◌, ◌<◌, ◌+◌, ◌∙◌, ◌&&◌, ◌-◌, ◌^◌, not, min, ℕ, zero, suc, Bool, true, false, cond, Option, Some, None, slice_get, ap, sym, subst, refl, arith, length, leb}
use Rattle.std.proofs.lemmas.Bool.{le-leb, lt-leb, lt-ltb}
use Rattle.orca_base.specs.declared.limits.TheConstants.{HISTORY_LINES, NODES}
use Rattle.orca_base.specs.declared.what.What.{What}
use Rattle.orca_base.specs.declared.what.What.TheVariants.{HistoryLines}
use Rattle.group_member.specs.Laws.{EntryLaw}
use Rattle.group_rules.specs.Sets.{count, entry_at}
use Rattle.history_buffer.specs.Slots.{slot_at, slot_of}
use Rattle.history_buffer.specs.declared.history.Slot.{Slot}
use Rattle.history_buffer.specs.declared.history.Slot.TheVariants.{Found, Purged}
use Rattle.node_rules.specs.Moments.{IsDue}
use Rattle.run_law.specs.Limits.{StopsBefore, limit_of}
use Rattle.value_core.specs.declared.action.Reply.{Reply}
use Rattle.value_core.specs.declared.message.Message.{Message}
use Rattle.object_manager.specs.After.{Copied}
use Rattle.world_rules.specs.Frame.{Frame, group}
use Rattle.world_rules.specs.Nodes as nodes
use Rattle.world_rules.specs.Played.{Played, is_computing}
use Rattle.world_rules.specs.Standings.{after_limit, first_of, has_no_turns, is_done, is_no_group, is_out_of_events, is_out_of_turns, is_over_run, has_fault, all_ended, limit_at, limit_below, lines_limit, rests, rests_at, waits_for_group, waits_for_group_at, waits_in}
use Rattle.world_rules.specs.Steps.{lives_in}
use Rattle.world_rules.specs.Worlds.{Book, World, agreed, home_of, singles_in}
use Rattle.world_rules.specs.declared.standing.Standing.{Standing}
use Rattle.world_rules.specs.declared.standing.Standing.TheVariants.{OutOfTurns, OutOfEvents, NoGroup, Faulted, Blocked, Finished, Going}
use Rattle.node_parts.specs.Shown.{IsPlayedIf, Left, Stood, on_stage}
use Rattle.node_core.specs.Stands.{StandsAs}
use Rattle.node_core.specs.declared.node.Node.{Node}
use Rattle.node_parts.specs.declared.resident.Resident.{Resident}
use Rattle.world_parts.proofs.Lines.{lines_counted}
use Rattle.world_parts.proofs.Worlds.{slice_get_some}
use Rattle.world_parts.specs.Rows.{Stops, has_applied_all, how_ended, waits_at}
use Rattle.world_parts.specs.Standing.{IsWorld}
use Rattle.world_parts.specs.declared.parts.Parts.{Parts}

-- ---- members

-- whether one of the members lives
pub lives_within : (f : Frame) (w : World) (m : ℕ) → m < f.settings.nodes → lives_in f w m ≡ w.lives m
lives_within f w m lt = ap (λ (b : Bool). b && w.lives m) (lt-ltb m f.settings.nodes lt)

count_on : (test : ℕ → Bool) (k n one more : ℕ) → n ≡ count k test → one ≡ cond (test k) 1 0 → more ≡ n + one → more ≡ count (suc k) test
count_on test k n one more is so sum = go (test k) so
  where
    go : (b : Bool) → one ≡ cond b 1 0 → more ≡ cond b (suc (count k test)) (count k test)
    go true e = omega (arith, is, sum, e)
    go false e = omega (arith, is, sum, e)

pub count_next : (test : ℕ → Bool) (k next n one more : ℕ) → suc k ≡ next → n ≡ count k test → one ≡ cond (test k) 1 0 → more ≡ n + one → more ≡ count next test
count_next test k next n one more is h so sum = subst (λ (l : ℕ). more ≡ count l test) is (count_on test k n one more h so sum)

pub outside_there : {P S : Type 0} (stood : Stood S) (left : Left S) (f : Frame) (s : Parts P S) (w : World) → IsWorld stood left f s w → (m : ℕ) (node : Node P S)
    → Some node ≡ slice_get s.nodes.items m → node.member.outside ≡ (w.nodes m).member.outside
outside_there stood left f s w is m node at = sym ((is.nodes m node (sym at)).member.outside)

-- there is each member
pub member_there : {P S : Type 0} (stood : Stood S) (left : Left S) (f : Frame) (s : Parts P S) (w : World) → IsWorld stood left f s w → (m : ℕ) → m < f.settings.nodes
    → None ≡ slice_get s.nodes.items m → ⊥
member_there stood left f s w is m lt none = slice_get_some s.nodes.items m (omega (arith, lt, is.members)) (sym none)

-- ---- limits

pub stops_crashed : (f : Frame) (w : World) (m : ℕ) → w.lives m ≡ false → Stops f w m None
stops_crashed f w m is = sym (ap (λ (b : Bool). cond b (limit_at f (w.nodes m)) None) is)

pub stops_living : (f : Frame) (w : World) (m : ℕ) (passed : Option (What × ℕ)) → w.lives m ≡ true → passed ≡ limit_at f (w.nodes m) → Stops f w m passed
stops_living f w m passed lives is = is ∙ sym (ap (λ (b : Bool). cond b (limit_at f (w.nodes m)) None) lives)

-- ---- calls that wait

pub waits_home : {P S : Type 0} (stood : Stood S) (left : Left S) (f : Frame) (s : Parts P S) (w : World) → IsWorld stood left f s w → (home i j : ℕ) (node : Node P S) (b : Bool)
    → home ≡ home_of f w j → Some node ≡ slice_get s.nodes.items home → b ≡ (not node.member.outside && waits_in i node.copies.waits) → b ≡ waits_at w i (home_of f w j)
waits_home {P} {S} stood left f s w is home i j node b at here says =
    let there = is.nodes home node (sym here) in
    subst (λ (k : ℕ). b ≡ waits_at w i k) at
    (says ∙ ap (λ (o : Bool). not o && waits_in i node.copies.waits) (sym there.member.outside)
    ∙ ap (λ (c : Copied). not (w.nodes home).member.outside && waits_in i c.waits) there.copies)

pub queued_home : {P S : Type 0} (stood : Stood S) (left : Left S) (f : Frame) (s : Parts P S) (w : World) → IsWorld stood left f s w → (home i : ℕ) (node : Node P S) (b : Bool)
    → home ≡ home_of f w i → Some node ≡ slice_get s.nodes.items home → b ≡ waits_in i node.copies.queue → b ≡ waits_in i (w.nodes (home_of f w i)).copies.queue
queued_home stood left f s w is home i node b at here says =
    subst (λ (k : ℕ). b ≡ waits_in i (w.nodes k).copies.queue) at (says ∙ ap (λ (c : Copied). waits_in i c.queue) (is.nodes home node (sym here)).copies)

-- ---- processes, where they are here and where they aren't

pub turns_there : {S : Type 0} (stood : Stood S) (left : Left S) (f : Frame) (turns i : ℕ) (r : Resident S) (o : Option Played) (b : Bool) → turns ≡ f.settings.turns
    → IsPlayedIf stood left i (Some r) o → b ≡ (leb turns r.turns && is_computing (on_stage r.stage)) → b ≡ has_no_turns f o
turns_there stood left f turns i r None b is h says = absurd h
turns_there stood left f turns i r (Some q) b is h says =
    says ∙ ap (λ (n : ℕ). leb n r.turns && is_computing (on_stage r.stage)) is ∙ ap (λ (n : ℕ). leb f.settings.turns n && is_computing (on_stage r.stage)) h.turns ∙ ap (λ stage. leb f.settings.turns q.turns && is_computing stage) h.stage

pub turns_none : {S : Type 0} (stood : Stood S) (left : Left S) (f : Frame) (i : ℕ) (o : Option Played) → IsPlayedIf stood left i None o → false ≡ has_no_turns f o
turns_none stood left f i None h = refl
turns_none stood left f i (Some q) h = absurd h

pub waits_there : {S : Type 0} (stood : Stood S) (left : Left S) (f : Frame) (w : World) (i : ℕ) (r : Resident S) (o : Option Played) (b : Bool)
    → IsPlayedIf stood left i (Some r) o → b ≡ waits_for_group_at f w i (on_stage r.stage) → b ≡ waits_for_group f w i o
waits_there stood left f w i r None b h says = absurd h
waits_there stood left f w i r (Some q) b h says = says ∙ ap (waits_for_group_at f w i) h.stage

pub waits_none : {S : Type 0} (stood : Stood S) (left : Left S) (f : Frame) (w : World) (i : ℕ) (o : Option Played) → IsPlayedIf stood left i None o → true ≡ waits_for_group f w i o
waits_none stood left f w i None h = refl
waits_none stood left f w i (Some q) h = absurd h

pub rests_there : {S : Type 0} (stood : Stood S) (left : Left S) (f : Frame) (w : World) (i : ℕ) (r : Resident S) (o : Option Played) (b : Bool)
    → IsPlayedIf stood left i (Some r) o → b ≡ rests_at f w i (on_stage r.stage) → b ≡ rests f w i o
rests_there stood left f w i r None b h says = absurd h
rests_there stood left f w i r (Some q) b h says = says ∙ ap (rests_at f w i) h.stage

pub rests_none : {S : Type 0} (stood : Stood S) (left : Left S) (f : Frame) (w : World) (i : ℕ) (o : Option Played) → IsPlayedIf stood left i None o → false ≡ rests f w i o
rests_none stood left f w i None h = refl
rests_none stood left f w i (Some q) h = absurd h

-- ---- the table

-- by its tests, one after the other
abbrev table : Bool → Bool → Bool → Bool → Bool → Bool → Standing
table turns events lost over fault ended =
    cond turns OutOfTurns (cond events OutOfEvents (cond lost NoGroup (cond (over && fault) Faulted (cond (over && not ended) Blocked (cond over Finished Going)))))

ruled : (f : Frame) (w : World) (turns events lost over : Bool) → turns ≡ is_out_of_turns f w → events ≡ is_out_of_events f w → lost ≡ is_no_group f w → over ≡ is_over_run f w
    → table turns events lost over (has_fault f w) (all_ended f w) ≡ after_limit f w None
ruled f w turns events lost over a b c d =
    let h = has_fault f w in
    let e = all_ended f w in
    ap (λ (x : Bool). table x events lost over h e) a ∙ ap (λ (x : Bool). table (is_out_of_turns f w) x lost over h e) b
    ∙ ap (λ (x : Bool). table (is_out_of_turns f w) (is_out_of_events f w) x over h e) c
    ∙ ap (λ (x : Bool). table (is_out_of_turns f w) (is_out_of_events f w) (is_no_group f w) x h e) d

pub rules_turns : (f : Frame) (w : World) → true ≡ is_out_of_turns f w → OutOfTurns ≡ after_limit f w None
rules_turns f w a = ruled f w true (is_out_of_events f w) (is_no_group f w) (is_over_run f w) a refl refl refl

pub rules_events : (f : Frame) (w : World) → false ≡ is_out_of_turns f w → true ≡ is_out_of_events f w → OutOfEvents ≡ after_limit f w None
rules_events f w a b = ruled f w false true (is_no_group f w) (is_over_run f w) a b refl refl

pub rules_group : (f : Frame) (w : World) → false ≡ is_out_of_turns f w → false ≡ is_out_of_events f w → true ≡ is_no_group f w → NoGroup ≡ after_limit f w None
rules_group f w a b c = ruled f w false false true (is_over_run f w) a b c refl

pub rules_going : (f : Frame) (w : World) → false ≡ is_out_of_turns f w → false ≡ is_out_of_events f w → false ≡ is_no_group f w → false ≡ is_over_run f w → Going ≡ after_limit f w None
rules_going f w a b c d = ruled f w false false false false a b c d

ended : (h e : Bool) → how_ended h e ≡ table false false false true h e
ended true e = refl
ended false true = refl
ended false false = refl

pub rules_over : (f : Frame) (w : World) (says : Standing) → false ≡ is_out_of_turns f w → false ≡ is_out_of_events f w → false ≡ is_no_group f w → true ≡ is_over_run f w
    → says ≡ how_ended (has_fault f w) (all_ended f w) → says ≡ after_limit f w None
rules_over f w says a b c d is = is ∙ ended (has_fault f w) (all_ended f w) ∙ ruled f w false false false true a b c d

-- ---- more of members

-- the first member that a limit stops
pub limits_next : (f : Frame) (w : World) (k next : ℕ) → suc k ≡ next → limit_below f w k ≡ None → Stops f w k None → limit_below f w next ≡ None
limits_next f w k next one none stops =
    subst (λ (n : ℕ). limit_below f w n ≡ None) one (ap (λ o. first_of o (cond (w.lives k) (limit_at f (w.nodes k)) None)) none ∙ sym stops)

first_past : (f : Frame) (w : World) (k more n : ℕ) (passed : What × ℕ) → more + suc k ≡ n → limit_below f w k ≡ None → Stops f w k (Some passed) → limit_below f w n ≡ Some passed
first_past f w k zero n passed is none stops =
    let e : suc k ≡ n = omega (arith, is) in
    subst (λ (m : ℕ). limit_below f w m ≡ Some passed) e (ap (λ o. first_of o (cond (w.lives k) (limit_at f (w.nodes k)) None)) none ∙ sym stops)
first_past f w k (suc more) n passed is none stops =
    let e : suc (more + suc k) ≡ n = omega (arith, is) in
    subst (λ (m : ℕ). limit_below f w m ≡ Some passed) e
    (ap (λ o. first_of o (cond (w.lives (more + suc k)) (limit_at f (w.nodes (more + suc k))) None)) (first_past f w k more (more + suc k) passed refl none stops))

pub limits_found : (f : Frame) (w : World) (k n : ℕ) (passed : What × ℕ) → k < n → limit_below f w k ≡ None → Stops f w k (Some passed) → Some passed ≡ limit_below f w n
limits_found f w k n passed lt none stops = sym (first_past f w k (n - suc k) n passed (omega (arith, lt)) none stops)

pub limits_none : (f : Frame) (w : World) (k n : ℕ) → k ≡ n → limit_below f w k ≡ None → None ≡ limit_below f w n
limits_none f w k n is none = sym none ∙ ap (limit_below f w) is

pub few_lost : (k nodes lost one : ℕ) → k < nodes → nodes ≤ NODES → lost ≤ k → one ≤ 1 → lost + one < 2 ^ 8
few_lost k nodes lost one lt few low so =
    let members : NODES ≡ 16 = refl in
    omega (arith, lt, few, low, so, members)

-- as many entries as the list has
pub done_there : {P S : Type 0} (stood : Stood S) (left : Left S) (f : Frame) (s : Parts P S) (w : World) → IsWorld stood left f s w → (m : ℕ) (node : Node P S) (listed : ℕ) (b : Bool)
    → Some node ≡ slice_get s.nodes.items m → listed ≡ length s.ledger.entries
    → ((f : Frame) (m : ℕ) (v : nodes.Node) → StandsAs stood left f m node v → b ≡ has_applied_all f m v listed) → b ≡ is_done f w m (w.nodes m)
done_there stood left f s w is m node listed b at many says =
    says f m (w.nodes m) (is.nodes m node (sym at)) ∙ ap (has_applied_all f m (w.nodes m)) (many ∙ ap length is.entries)

-- ---- lines

-- the book has as many lines as were performed
book_lines : {P S : Type 0} (stood : Stood S) (left : Left S) (f : Frame) (s : Parts P S) (w : World) → IsWorld stood left f s w → length s.ledger.performed ≡ length (Book f w)
book_lines stood left f s w is = lines_counted (singles_in f w) f.performs (agreed f w) w.aside s.ledger.performed is.performed

pub many_lines : {P S : Type 0} (stood : Stood S) (left : Left S) (f : Frame) (s : Parts P S) (w : World) → IsWorld stood left f s w → (lines most : ℕ)
    → lines ≡ min (length s.ledger.performed) (2 ^ 64 - 1) → most ≡ HISTORY_LINES → most ≤ lines → Some (HistoryLines, most) ≡ lines_limit f w
many_lines stood left f s w is lines most so at many =
    let e : HISTORY_LINES ≤ length (Book f w) = omega (arith, so, at, many, book_lines stood left f s w is) in
    ap (λ (n : ℕ). let passed : Option (What × ℕ) = Some (HistoryLines, n) in passed) at
    ∙ sym (ap (λ (b : Bool). cond b (Some (HistoryLines, HISTORY_LINES)) None) (le-leb HISTORY_LINES (length (Book f w)) e))

pub few_lines : {P S : Type 0} (stood : Stood S) (left : Left S) (f : Frame) (s : Parts P S) (w : World) → IsWorld stood left f s w → (lines most : ℕ)
    → lines ≡ min (length s.ledger.performed) (2 ^ 64 - 1) → most ≡ HISTORY_LINES → lines < most → None ≡ lines_limit f w
few_lines stood left f s w is lines most so at few =
    let limit : HISTORY_LINES ≡ 2000000 = refl in
    let e : length (Book f w) < HISTORY_LINES = omega (arith, so, few, at, limit, book_lines stood left f s w is) in
    sym (ap (λ (b : Bool). cond b (Some (HistoryLines, HISTORY_LINES)) None) (lt-leb HISTORY_LINES (length (Book f w)) e))

-- ---- the entry before which a member stands

-- it is kept, and due
slot_is : {P S : Type 0} (stood : Stood S) (left : Left S) (f : Frame) (m : ℕ) (node : Node P S) (v : nodes.Node) → EntryLaw Message Reply → StandsAs stood left f m node v → StopsBefore f v
    → v.copies.applied < v.member.accepted → (number : ℕ) → number ≡ suc v.copies.applied → (x : Message) × IsDue v x × (slot_at node.member.window number ≡ Found x)
slot_is stood left f m node v law stands stops lt number is =
    let kept = stops.kept lt in
    let due = kept.1 in
    let past : leb number v.member.base ≡ false = lt-leb number v.member.base (omega (arith, is, kept.0)) in
    let found : slot_at node.member.window number ≡ Found due.0 =
    law (group f) m node.member v.member number stands.member ∙ ap (λ (b : Bool). cond b Purged (slot_of (entry_at v.member.log number))) past
    ∙ ap (λ (n : ℕ). slot_of (entry_at v.member.log n)) is ∙ ap slot_of due.1.there in
    (due.0, due.1, found)

applied_of : {P S : Type 0} (stood : Stood S) (left : Left S) (f : Frame) (m : ℕ) (node : Node P S) (v : nodes.Node) → StandsAs stood left f m node v → node.copies.applied ≡ v.copies.applied
applied_of stood left f m node v stands = ap (λ (c : Copied). c.applied) stands.copies

pub limit_none : {P S : Type 0} (stood : Stood S) (left : Left S) (f : Frame) (m : ℕ) (node : Node P S) (v : nodes.Node) → StandsAs stood left f m node v → StopsBefore f v
    → node.member.accepted ≤ node.copies.applied → None ≡ limit_at f v
limit_none stood left f m node v stands stops le =
    sym (stops.none (omega (arith, le, applied_of stood left f m node v stands, stands.member.accepted)))

pub limit_found : {P S : Type 0} (stood : Stood S) (left : Left S) (f : Frame) (m : ℕ) (node : Node P S) (v : nodes.Node) (number : ℕ) (x : Message) (passed : Option (What × ℕ)) → EntryLaw Message Reply
    → StandsAs stood left f m node v → StopsBefore f v → node.copies.applied < node.member.accepted → number ≡ node.copies.applied + 1 → Found x ≡ slot_at node.member.window number
    → passed ≡ limit_of x.action → passed ≡ limit_at f v
limit_found stood left f m node v number x passed law stands stops lt is at says =
    let e = applied_of stood left f m node v stands in
    let slot = slot_is stood left f m node v law stands stops (omega (arith, lt, e, stands.member.accepted)) number (omega (arith, is, e)) in
    let same : x ≡ slot.0 = let f : Found x ≡ Found slot.0 = at ∙ slot.2 in cc in
    says ∙ ap (λ (y : Message). limit_of y.action) same ∙ sym (stops.due slot.0 slot.1)

pub limit_lost : {P S : Type 0} (stood : Stood S) (left : Left S) (f : Frame) (m : ℕ) (node : Node P S) (v : nodes.Node) (number : ℕ) (is_slot : Slot Message) → EntryLaw Message Reply
    → StandsAs stood left f m node v → StopsBefore f v → node.copies.applied < node.member.accepted → number ≡ node.copies.applied + 1 → is_slot ≡ slot_at node.member.window number
    → ((x : Message) → is_slot ≡ Found x → ⊥) → ⊥
limit_lost stood left f m node v number is_slot law stands stops lt is at other =
    let e = applied_of stood left f m node v stands in
    let slot = slot_is stood left f m node v law stands stops (omega (arith, lt, e, stands.member.accepted)) number (omega (arith, is, e)) in
    other slot.0 (at ∙ slot.2)
