-- Each burst and each act is paid by what its process has done.
use Rattle.std.proofs.Common.{◌≡◌, ◌≤◌, ◌<◌, ◌⊎◌, ◌+◌, ◌*◌, ◌==◌, inl, inr, ⊎_elim, ℕ, zero, suc, true, false, List, [], ◌∷◌, ◌++◌, length, Option, Some, None, refl, sym, ap, ◌∙◌, arith, subst}
use Rattle.std.proofs.lemmas.Bool.{cases_lt, cond_both}
use Rattle.orca_base.specs.declared.ids.ProcessNo.{ProcessNo}
use Rattle.orca_base.specs.declared.limits.TheConstants.{BURST_TURNS, PROCESSES}
use Rattle.value_core.specs.declared.action.Action.{Action}
use Rattle.value_core.specs.declared.action.Action.TheVariants as action
use Rattle.value_core.specs.declared.action.Class.{Class}
use Rattle.value_core.specs.declared.action.Class.TheVariants.{Reads, Writes}
use Rattle.value_core.specs.declared.action.Line.{Line}
use Rattle.value_core.specs.declared.action.Reply.{Reply}
use Rattle.value_core.specs.declared.message.Message.{Message}
use Rattle.value_core.specs.declared.processor.Halt.{Halt}
use Rattle.value_core.specs.declared.processor.Halt.TheVariants as halt
use Rattle.value_core.specs.History.{Objects}
use Rattle.guard_queue.specs.declared.queue.Suspended.{Suspended}
use Rattle.object_manager.specs.State.{message_of}
use Rattle.group_rules.specs.Sets.{with_at}
use Rattle.group_rules.specs.Steps.{submit}
use Rattle.world_rules.specs.Bursts.{Halts, Ran, last_turn, reads_on}
use Rattle.world_rules.specs.Frame.{Frame, group}
use Rattle.world_rules.specs.Mail.Errand.{Ask}
use Rattle.world_rules.specs.Nodes.{Node, NodeWork, does, idle, known, plays}
use Rattle.world_rules.specs.Nodes.Deed.{Submits}
use Rattle.world_rules.specs.Owners.{performs_call, sends}
use Rattle.world_rules.specs.Parts.{acts_at, acts_by, acts_of, asks, calls, calls_as, submits}
use Rattle.world_rules.specs.Played.{Played, Stage, at_action, halted, moves_to, next_call}
use Rattle.world_rules.specs.Played.Stage.{Computing, Acting, Submitted, Reading, Asking, Over}
use Rattle.world_rules.specs.Processes.{owner_in, singles_of}
use Rattle.world_facts.specs.Processes.{is_last}
use Rattle.world_facts.specs.Replicated.{AllReplicated}
use Rattle.world_law.proofs.Onwards.{AreOnward, Onward, on_call, on_read, stay}
use Rattle.world_enough.specs.Paid.{is_asking, node_weight, stage_weight, sum, weight, weight_of}
use Rattle.world_enough.proofs.Costs.{ask_push, call_cost, joins_cost, node_cost, read_cost, work_cost}
use Rattle.world_enough.proofs.Shared.{no_single}
use Rattle.world_law.proofs.Maps.{at_both, at_here}

-- ---- sums

pub sum_up : (n : ℕ) (f g : ℕ → ℕ) → ((i : ℕ) → i < n → f i ≤ g i) → sum n f ≤ sum n g
sum_up zero f g h = omega arith
sum_up (suc n) f g h = let r = sum_up n f g (λ i l. h i (omega (arith, l))) in let o = h n (omega arith) in omega (arith, r, o)

pub sum_over : (n k d : ℕ) (f g : ℕ → ℕ) → k < n → ((i : ℕ) → i < n → f i ≤ g i) → f k + d ≤ g k → sum n f + d ≤ sum n g
sum_over zero k d f g low h more = absurd (omega (arith, low))
sum_over (suc n) k d f g low h more = ⊎_elim
    (λ (l : k < n). let r = sum_over n k d f g l (λ i l. h i (omega (arith, l))) more in let o = h n (omega arith) in omega (arith, r, o))
    (λ (l : n ≤ k). let same : k ≡ n = omega (arith, l, low) in
    let r = sum_up n f g (λ i l. h i (omega (arith, l))) in
    let o = subst (λ (j : ℕ). f j + d ≤ g j) same more in omega (arith, r, o))
    (cases_lt k n)

-- ---- one process

stage_most : (s : Stage) → stage_weight s ≤ 2
stage_most Computing = omega arith
stage_most (Acting act) = omega arith
stage_most (Submitted act) = omega arith
stage_most (Reading act) = omega arith
stage_most (Asking act) = omega arith
stage_most (Over act) = omega arith

pub onward_up : (free i : ℕ) (o p : Option Played) → (free ≤ i → o ≡ None) → Onward free i o p → weight_of o ≤ weight_of p
onward_up free i o p fresh (inl e) = let n = ap weight_of e in omega (arith, n)
onward_up free i o p fresh (inr (inl g)) =
    let a : weight_of o ≡ weight g.before = ap weight_of g.was in
    let b : weight_of p ≡ weight g.after = ap weight_of g.is in
    let s = stage_most g.before.stage in
    let z : stage_weight g.after.stage ≡ 0 = ap stage_weight g.computes in
    let more = g.more in let turns = g.turns in
    omega (arith, a, b, s, z, more, turns)
onward_up free i o p fresh (inr (inr b)) = let n : weight_of o ≡ 0 = ap weight_of (fresh b.late) in omega (arith, n)

-- ---- a burst

pub record Computed (r end : Played) (last : ℕ) : Type 0 where
  pub replies : length r.replies ≤ length end.replies
  pub turns : r.turns ≤ end.turns
  pub came : (1 ≤ stage_weight end.stage) ⊎ ((end.stage ≡ Computing) × (last ≤ end.turns))

action_weight : (act : Action) → 1 ≤ stage_weight (at_action act)
action_weight (action.Make kind object) = omega arith
action_weight (action.Call kind op object args) = omega arith
action_weight (action.Fork text args place_on) = omega arith
action_weight action.Ended = omega arith
action_weight (action.Faulted fault) = omega arith

halts_here : (f : Frame) (i : ProcessNo) (r : Played) (last used : ℕ) (at_halt : Halt) → Halts f i r last used at_halt → Computed r (halted used at_halt r) last
halts_here f i r last used (halt.At act) h = record {
  replies = omega arith;
  turns = omega (arith, h.1, h.4);
  came = inl (action_weight act);
}
halts_here f i r last used halt.Paused h = record {
  replies = omega arith;
  turns = omega (arith, h.1);
  came = inr (refl, omega (arith, h.1));
}

length_push : (xs : List Reply) (x : Reply) → length (xs ++ x ∷ []) ≡ suc (length xs)
length_push [] x = refl
length_push (y ∷ xs) x = ap suc (length_push xs x)

pub ran_far : (f : Frame) (objects : Objects) (place : ℕ) (i : ProcessNo) (last : ℕ) (r : Played) (lines : List Line) (end : Played) →
    Ran f objects place i last r lines end → Computed r end last
ran_far f objects place i last r [] end h = subst (λ (e : Played). Computed r e last) (sym h.4) (halts_here f i r last h.1 h.0 h.2)
ran_far f objects place i last r (line ∷ lines) end h =
    let used : ℕ = h.1 in
    let first = h.2 in
    let rest = ran_far f objects place i last (reads_on place used line r) lines end h.5 in
    let n = length_push r.replies line.reply in
    record {
      replies = omega (arith, rest.replies, n);
      turns = omega (arith, rest.turns, first.1, first.4);
      came = rest.came;
    }

-- it pays for itself, but where it used the last turns
pub burst_pays : (f : Frame) (start end : Played) → start.stage ≡ Computing → Computed start end (last_turn f start) →
    (weight start + BURST_TURNS ≤ weight end) ⊎ ((end.stage ≡ Computing) × (f.settings.turns ≤ end.turns) × (weight start ≤ weight end))
burst_pays f start end computes c = ⊎_elim
    (λ (o : 1 ≤ stage_weight end.stage). inl (omega (arith, z, c.replies, c.turns, o)))
    (λ (o : (end.stage ≡ Computing) × (last_turn f start ≤ end.turns)). by_turns o (cases_lt (start.turns + BURST_TURNS) (f.settings.turns + 1)))
    c.came
  where
    z : stage_weight start.stage ≡ 0
    z = ap stage_weight computes

    by_turns : (end.stage ≡ Computing) × (last_turn f start ≤ end.turns) → (start.turns + BURST_TURNS < f.settings.turns + 1) ⊎ (f.settings.turns + 1 ≤ start.turns + BURST_TURNS) →
        (weight start + BURST_TURNS ≤ weight end) ⊎ ((end.stage ≡ Computing) × (f.settings.turns ≤ end.turns) × (weight start ≤ weight end))
    by_turns o (inl l) = inl (omega (arith, z, c.replies, o.1, l))
    by_turns o (inr l) = inr (o.0, omega (arith, o.1, l), omega (arith, z, c.replies, c.turns))

-- ---- an act

-- the stage that its process comes to, and what that costs: an Ask and its Answer where it asks an owner, which it does only where some object
-- is single
pub record Acted (f : Frame) (m i : ℕ) (r : Played) (node : Node) (u : NodeWork) : Type 0 where
  pub stage : Stage
  pub heavy : stage_weight stage ≡ 2
  pub onward : AreOnward (plays i (moves_to stage r) (idle node)) u
  pub cost : work_cost u ≤ node_cost node + 2 * is_asking stage
  pub none : AllReplicated f → is_asking stage ≡ 0

acted_submits : (f : Frame) (m i : ℕ) (r : Played) (act : Action) (x : Message) (node : Node) → Acted f m i r node (submits f m i r act x (idle node))
acted_submits f m i r act x node =
    let v : NodeWork = does (Submits x) (plays i (moves_to (Submitted act) r) (idle node)) in
    record {
      stage = Submitted act;
      heavy = refl;
      onward = stay (plays i (moves_to (Submitted act) r) (idle node)) _ refl refl;
      cost = let e = joins_cost (submit (group f) m x node.member) v in omega (arith, e);
      none = λ all. refl;
    }

acted_as : (f : Frame) (m i : ℕ) (r : Played) (call : Suspended) (class : Class) (node : Node) → Acted f m i r node (calls_as f m i r call class (idle node))
acted_as f m i r call Reads node =
    let v : NodeWork = plays i (moves_to (Reading (message_of call).action) r) (idle node) in
    record {
      stage = Reading (message_of call).action;
      heavy = refl;
      onward = on_read f i v;
      cost = let e = read_cost f i v in omega (arith, e);
      none = λ all. refl;
    }
acted_as f m i r call Writes node = acted_submits f m i r (message_of call).action (message_of call) node

acted_asks : (f : Frame) (m i : ℕ) (r : Played) (call : Suspended) (node : Node) → singles_of f (known f node) call.object ≡ true → Acted f m i r node (asks f m i r call (idle node))
acted_asks f m i r call node single =
    let v : NodeWork = plays i (moves_to (Asking (message_of call).action) r) (idle node) in
    let owner : ℕ = owner_in (known f node) call.object in
    record {
      stage = Asking (message_of call).action;
      heavy = refl;
      onward = cond_both (owner == m) _ _ (λ t. AreOnward v t) (λ e. on_call f m (message_of call) v) (λ e. stay v _ refl refl);
      cost = cond_both (owner == m) (performs_call f m (message_of call) v) (sends m owner (Ask r.place (message_of call)) v) (λ t. work_cost t ≤ node_cost node + 2)
          (λ e. let c = call_cost f m (message_of call) v in omega (arith, c))
          (λ e. let p = ask_push [] node.member.installed m owner r.place (message_of call) in omega (arith, p));
      none = λ all. let c : true ≡ false = sym single ∙ no_single f (known f node) call.object all in absurd (cc c);
    }

acted_calls : (f : Frame) (m i : ℕ) (r : Played) (call : Suspended) (node : Node) → Acted f m i r node (calls f m i r call (idle node))
acted_calls f m i r call node = cond_both (singles_of f (known f node) call.object) _ _ (λ u. Acted f m i r node u)
    (λ e. acted_asks f m i r call node e) (λ e. acted_as f m i r call (f.performs.class_of call.kind call.op) node)

acted_by : (f : Frame) (m i : ℕ) (r : Played) (act : Action) (node : Node) → is_last act ≡ false → Acted f m i r node (acts_by f m i r act (idle node))
acted_by f m i r (action.Make kind object) node e = acted_submits f m i r (action.Make kind object)
    (record { process = record { 0 = i }; call = next_call r; action = action.Make kind object; performable = refl }) node
acted_by f m i r (action.Call kind op object args) node e = acted_calls f m i r
    (record { process = record { 0 = i }; call = next_call r; kind = kind; op = op; object = object; args = args }) node
acted_by f m i r (action.Fork text args place_on) node e = acted_submits f m i r (action.Fork text args place_on)
    (record { process = record { 0 = i }; call = next_call r; action = action.Fork text args place_on; performable = refl }) node
acted_by f m i r action.Ended node e = absurd (cc e)
acted_by f m i r (action.Faulted fault) node e = absurd (cc e)

pub acted : (f : Frame) (m i : ℕ) (r : Played) (act : Action) (o : Option Played) (node : Node) → o ≡ Some r → r.stage ≡ Acting act → is_last act ≡ false →
    Acted f m i r node (acts_of f m i o (idle node))
acted f m i r act o node here stage last =
    subst (λ (z : Option Played). Acted f m i r node (acts_of f m i z (idle node))) (sym here)
    (subst (λ (s : Stage). Acted f m i r node (acts_at f m i r s (idle node))) (sym stage) (acted_by f m i r act node last))

-- ---- a member

-- who has a number that isn't counted isn't there
abbrev pub Fresh : Node → Type 0
Fresh node = (i : ℕ) → node.copies.processes ≤ i → node.played i ≡ None

pub node_up : (node : Node) (u : NodeWork) → Fresh node → AreOnward (idle node) u → node_weight node.played ≤ node_weight u.node.played
node_up node u fresh on = sum_up PROCESSES _ _ (λ i low. onward_up node.copies.processes i (node.played i) (u.node.played i) (fresh i) (on.each i))

-- with one process that did more first
pub node_over : (node : Node) (u : NodeWork) (i d : ℕ) (r s : Played) → i < PROCESSES → i < node.copies.processes → Fresh node → node.played i ≡ Some r →
    weight r + d ≤ weight s → AreOnward (plays i s (idle node)) u → node_weight node.played + d ≤ node_weight u.node.played
node_over node u i d r s low counted fresh here more on =
    sum_over PROCESSES i d (λ k. weight_of (node.played k)) (λ k. weight_of (u.node.played k)) low (λ k l. let a = before k in let b = after k in omega (arith, a, b))
    (let a = after i in
    let b : weight_of (with_at node.played i (Some s) i) ≡ weight s = ap weight_of (at_here node.played i (Some s)) in
    let c : weight_of (node.played i) ≡ weight r = ap weight_of here in
    omega (arith, a, b, c, more))
  where
    before : (k : ℕ) → weight_of (node.played k) ≤ weight_of (with_at node.played i (Some s) k)
    before k = at_both node.played i (Some s) k (λ o. weight_of (node.played k) ≤ weight_of o)
        (λ e. let c : weight_of (node.played k) ≡ weight r = ap weight_of (ap node.played e ∙ here) in omega (arith, c, more))
        (λ no. omega arith)

    fresh_on : (k : ℕ) → node.copies.processes ≤ k → with_at node.played i (Some s) k ≡ None
    fresh_on k late = at_both node.played i (Some s) k (λ o. o ≡ None) (λ e. absurd (omega (arith, e, late, counted))) (λ no. fresh k late)

    after : (k : ℕ) → weight_of (with_at node.played i (Some s) k) ≤ weight_of (u.node.played k)
    after k = onward_up node.copies.processes k (with_at node.played i (Some s) k) (u.node.played k) (fresh_on k) (on.each k)
