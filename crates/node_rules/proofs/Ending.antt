-- A member that applied and noted what it may does nothing more: a note lets it go on only by a message that waited, so that fewer wait.
use Rattle.std.proofs.Common.{◌≡◌, ◌≤◌, ◌<◌, nat_lt, nat_le, ℕ, suc, ◌⊎◌, inl, inr, Bool, true, false, List, [], ◌∷◌, refl, sym, ap, ◌∙◌, subst, arith, length, take, drop, if◌then◌else◌, is_some, ◌-◌, max, min}
use Rattle.orca_base.specs.declared.limits.TheConstants.{ENTRIES_BEFORE_PURGE}
use Rattle.object_manager.specs.Limits.{too_many}
use Rattle.value_core.specs.declared.message.Message.{Message}
use Rattle.object_manager.specs.After.{Copied}
use Rattle.group_rules.specs.Messages.{Group}
use Rattle.group_rules.specs.Member.{Member, Waiting, has_room, leads, purged, stable_of}
use Rattle.group_rules.specs.Receiver.{send_status}
use Rattle.group_rules.specs.Sequencer.{finish, order_waiting, order_while_room}
use Rattle.group_rules.specs.Steps.{note, noted, should_report}
use Rattle.group_rules.specs.Work.{Work, becomes, idle, when}
use Rattle.world_rules.specs.Applying.{applies, applies_each, applies_one, due_entries, notes, passes_limit, round, rounds}
use Rattle.world_rules.specs.Frame.{Frame, group}
use Rattle.world_rules.specs.Nodes.{Node, NodeWork, joins}
use Rattle.node_rules.specs.Laws.{CatchingUpEnds}
use Rattle.node_rules.proofs.Walking.{due_rest, one_more}

-- ---- a note

-- what is due stays the same, with this number applied; or fewer wait
data Noted {M : Type 0} (n : ℕ) (s t : Member M) : Type 0 where
  Same : t.applied ≡ n → t.accepted ≡ s.accepted → t.log ≡ s.log → Noted n s t
  Fewer : length t.waiting < length s.waiting → Noted n s t

-- the work's state has these
record Has {M : Type 0} (n : ℕ) (s t : Member M) : Type 0 where
  applied : t.applied ≡ n
  accepted : t.accepted ≡ s.accepted
  log : t.log ≡ s.log
  waiting : t.waiting ≡ s.waiting

has_purged : {M : Type 0} (n stable : ℕ) (s t : Member M) → Has n s t → Has n s (purged t stable)
has_purged {M} n stable s t h = go (nat_le ENTRIES_BEFORE_PURGE (length t.log - t.base))
  where
    go : (b : Bool) → Has n s (if b then record t { base = max t.base (min stable t.applied) } else t)
    go true = record { applied = h.applied; accepted = h.accepted; log = h.log; waiting = h.waiting }
    go false = h

left : {M : Type 0} (g : Group M) (m : ℕ) (ws : List (Waiting M)) (v : Work M) → length (order_while_room g m ws v).state.waiting ≤ length ws
left g m [] v = omega arith
left {M} g m (w ∷ ws) v = go (has_room v.state) (left g m ws (order_waiting g m w v))
  where
    go : (b : Bool) → length (order_while_room g m ws (order_waiting g m w v)).state.waiting ≤ length ws
        → length (if b then order_while_room g m ws (order_waiting g m w v) else becomes (record v.state { waiting = w ∷ ws }) v).state.waiting ≤ suc (length ws)
    go true le = omega (arith, le)
    go false le = omega arith

-- the messages that wait are ordered while there is room: none is, or fewer wait
ordered : {M : Type 0} (g : Group M) (m n : ℕ) (ws : List (Waiting M)) (s : Member M) (v : Work M) → Has n s v.state → ws ≡ s.waiting → Noted n s (order_while_room g m ws v).state
ordered g m n [] s v h is = Same h.applied h.accepted h.log
ordered {M} g m n (w ∷ ws) s v h is = go (has_room v.state) (left g m ws (order_waiting g m w v))
  where
    go : (b : Bool) → length (order_while_room g m ws (order_waiting g m w v)).state.waiting ≤ length ws
        → Noted n s (if b then order_while_room g m ws (order_waiting g m w v) else becomes (record v.state { waiting = w ∷ ws }) v).state
    go true le = Fewer (let e = ap length is in omega (arith, le, e))
    go false le = Same h.applied h.accepted h.log

finished : {M : Type 0} (g : Group M) (m n : ℕ) (s : Member M) (v : Work M) → Has n s v.state → Noted n s (finish g m v).state
finished {M} g m n s v h = go (leads g m v.state)
  where
    u : Work M
    u = becomes (purged v.state (stable_of g m v.state)) v

    now : Has n s u.state
    now = has_purged n (stable_of g m v.state) s v.state h

    go : (b : Bool) → Noted n s (if b then order_while_room g m u.state.waiting u else v).state
    go true = ordered g m n u.state.waiting s u now now.waiting
    go false = Same h.applied h.accepted h.log

reports : {M : Type 0} (g : Group M) (m n : ℕ) (s : Member M) (v : Work M) (b : Bool) → Has n s v.state → Has n s (when b (send_status g m) v).state
reports g m n s v true h = record { applied = h.applied; accepted = h.accepted; log = h.log; waiting = h.waiting }
reports g m n s v false h = h

is_noted : {M : Type 0} (g : Group M) (m n : ℕ) (s : Member M) → Noted n s (note g m n s).state
is_noted g m n s =
    finished g m n s (when (should_report g m n s) (send_status g m) (idle (noted g n s)))
    (reports g m n s (idle (noted g n s)) (should_report g m n s) (record { applied = refl; accepted = refl; log = refl; waiting = refl }))

-- ---- entries

-- nothing is due, or a limit stops it
data Stopped (f : Frame) (node : Node) : List Message → Type 0 where
  Done : Stopped f node []
  Limit : (x : Message) (xs : List Message) → passes_limit f node x ≡ true → Stopped f node (x ∷ xs)

-- so it is where it applied what it may
stopped_each : (f : Frame) (m : ℕ) (xs : List Message) (v : NodeWork) → xs ≡ due_entries v.node → Stopped f (applies_each f m xs v).node (due_entries (applies_each f m xs v).node)
stopped_each f m [] v is = subst (Stopped f v.node) is Done
stopped_each f m (x ∷ xs) v is = go (passes_limit f v.node x) refl (stopped_each f m xs (applies_one f m x v) (due_rest v (applies_one f m x v) x xs (one_more f m x v) is))
  where
    u : NodeWork
    u = applies_one f m x v

    go : (b : Bool) → passes_limit f v.node x ≡ b → Stopped f (applies_each f m xs u).node (due_entries (applies_each f m xs u).node)
        → Stopped f (if b then v else applies_each f m xs u).node (due_entries (if b then v else applies_each f m xs u).node)
    go true limit rest = subst (Stopped f v.node) is (Limit x xs limit)
    go false within rest = rest

-- then it applies none
applies_none : (f : Frame) (m : ℕ) (node : Node) (xs : List Message) (v : NodeWork) → v.node.copies ≡ node.copies → Stopped f node xs → applies_each f m xs v ≡ v
applies_none f m node xs v same Done = refl
applies_none f m node xs v same (Limit x rest limit) =
    ap (λ (b : Bool). if b then v else applies_each f m rest (applies_one f m x v)) (ap (λ (c : Copied). is_some (too_many f.performs c x.action)) same ∙ limit)

member_each : (f : Frame) (m : ℕ) (xs : List Message) (v : NodeWork) → (applies_each f m xs v).node.member ≡ v.node.member
member_each f m [] v = refl
member_each f m (x ∷ xs) v = go (passes_limit f v.node x) (member_each f m xs (applies_one f m x v) ∙ (one_more f m x v).member)
  where
    go : (b : Bool) → (applies_each f m xs (applies_one f m x v)).node.member ≡ v.node.member → (if b then v else applies_each f m xs (applies_one f m x v)).node.member ≡ v.node.member
    go true rest = refl
    go false rest = rest

-- ---- rounds

not_below : (n : ℕ) → nat_lt n n ≡ false
not_below n = grind arith

-- a round after which the same is due is the last that does something
ended : (f : Frame) (m : ℕ) (node : Node) (v : NodeWork) → v.node.copies ≡ node.copies → v.node.member.applied ≡ node.copies.applied → Stopped f node (due_entries v.node) → round f m v ≡ v
ended f m node v same level stopped =
    let none = applies_none f m node (due_entries v.node) v same stopped in
    ap (notes f m) none
    ∙ ap (λ (b : Bool). if b then joins (note (group f) m v.node.copies.applied v.node.member) v else v)
    (ap (λ (c : Copied). nat_lt v.node.member.applied c.applied) same ∙ ap (λ (n : ℕ). nat_lt n node.copies.applied) level ∙ not_below node.copies.applied)

-- after a round nothing more is done by another, or fewer wait
once_more : (f : Frame) (m : ℕ) (v : NodeWork) → (round f m (round f m v) ≡ round f m v) ⊎ (length (round f m v).node.member.waiting < length v.node.member.waiting)
once_more f m v = go (nat_lt a.node.member.applied a.node.copies.applied) refl
  where
    a : NodeWork
    a = applies f m v

    stopped : Stopped f a.node (due_entries a.node)
    stopped = stopped_each f m (due_entries v.node) v refl

    u : NodeWork
    u = joins (note (group f) m a.node.copies.applied a.node.member) a

    go : (b : Bool) → nat_lt a.node.member.applied a.node.copies.applied ≡ b
        → (round f m (if b then u else a) ≡ (if b then u else a)) ⊎ (length (if b then u else a).node.member.waiting < length v.node.member.waiting)
    go false low =
        inl (ap (notes f m) (applies_none f m a.node (due_entries a.node) a refl stopped)
        ∙ ap (λ (b : Bool). if b then u else a) low)
    go true high = by (is_noted (group f) m a.node.copies.applied a.node.member)
      where
        by : Noted a.node.copies.applied a.node.member (note (group f) m a.node.copies.applied a.node.member).state
            → (round f m u ≡ u) ⊎ (length u.node.member.waiting < length v.node.member.waiting)
        by (Same applied accepted log) =
            inl (ended f m a.node u refl applied
            (subst (Stopped f a.node)
            (ap (λ (k : ℕ). drop a.node.copies.applied (take k a.node.member.log)) (sym accepted)
            ∙ ap (λ (l : List Message). drop a.node.copies.applied (take u.node.member.accepted l)) (sym log)) stopped))
        by (Fewer lt) = inr (subst (λ (s : Member Message). length u.node.member.waiting < length s.waiting) (member_each f m (due_entries v.node) v) lt)

still_rounds : (f : Frame) (m : ℕ) (ws : List (Waiting Message)) (v : NodeWork) → round f m v ≡ v → rounds f m ws v ≡ v
still_rounds f m [] v is = is
still_rounds f m (w ∷ ws) v is = ap (rounds f m ws) is ∙ still_rounds f m ws v is

rounds_end : (f : Frame) (m : ℕ) (ws : List (Waiting Message)) (v : NodeWork) → length v.node.member.waiting ≤ length ws → round f m (rounds f m ws v) ≡ rounds f m ws v
rounds_end f m [] v le = go (once_more f m v)
  where
    go : (round f m (round f m v) ≡ round f m v) ⊎ (length (round f m v).node.member.waiting < length v.node.member.waiting) → round f m (round f m v) ≡ round f m v
    go (inl is) = is
    go (inr lt) = absurd (omega (arith, lt, le))
rounds_end f m (w ∷ ws) v le = go (once_more f m v) (λ less. rounds_end f m ws (round f m v) less)
  where
    u : NodeWork
    u = round f m v

    go : (round f m u ≡ u) ⊎ (length u.node.member.waiting < length v.node.member.waiting)
        → (length u.node.member.waiting ≤ length ws → round f m (rounds f m ws u) ≡ rounds f m ws u) → round f m (rounds f m ws u) ≡ rounds f m ws u
    go (inl is) more = let same = still_rounds f m ws u is in ap (round f m) same ∙ is ∙ sym same
    go (inr lt) more = more (omega (arith, lt, le))

pub catching_up_ends : CatchingUpEnds
catching_up_ends f m v = rounds_end f m v.node.member.waiting v (omega arith)
