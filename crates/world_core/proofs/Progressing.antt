-- A draft, while the members of an event do their parts one after the other, and once they are done.
use Rattle.std.proofs.Common.{◌≡◌, ◌≤◌, ◌<◌, ◌+◌, ◌∙◌, ◌⊎◌, inl, inr, ⊎_elim, ◌&&◌, ◌||◌, ◌==◌, not, ℕ, zero, suc, Bool, false, cond, None, List, [], ◌∷◌, ◌++◌, Some, slice_get, slice_set, take, ap, sym, subst, refl, arith, length, length-append, append_assoc, append-nil}
use Rattle.std.proofs.lemmas.Bool.{cases_eq, eq-eqb}
use Rattle.std.specs.List.{AllByRecursion as Each}
use Rattle.value_core.specs.declared.action.Line.{Line}
use Rattle.value_core.specs.declared.message.Message.{Message}
use Rattle.object_manager.specs.After.{Copied}
use Rattle.book_law.specs.declared.placing.Placed.{Placed}
use Rattle.group_rules.specs.Steps.{is_empty}
use Rattle.node_rules.specs.Entries.{told_lines}
use Rattle.node_rules.specs.Starts.{Start, part}
use Rattle.run_law.specs.Growing.{ListGrows, PerformedGrows, TellsPart}
use Rattle.world_rules.specs.declared.event.Event.{Event}
use Rattle.world_rules.specs.Frame.{Frame}
use Rattle.world_rules.specs.Mail.{Mail, posted}
use Rattle.world_rules.specs.Nodes as nodes
use Rattle.world_rules.specs.Nodes.{NodeWork, aside_of, entries_of, mails_of}
use Rattle.world_rules.specs.Steps.{AtWork, after_part, has_stirred, has_stirred_at, has_stirred_below, untouched}
use Rattle.world_rules.specs.Worlds.{World, agreed}
use Rattle.node_core.specs.Keeping.{KeepsTasks}
use Rattle.node_parts.specs.Shown.{Left, Stood}
use Rattle.node_core.specs.Stands.{IsDone, StandsAs}
use Rattle.node_parts.specs.declared.moved.Moved.{Moved}
use Rattle.node_core.specs.declared.node.Node.{Node}
use Rattle.world_parts.specs.Recorded.{of_pieces}
use Rattle.world_parts.specs.Standing.{IsWorld}
use Rattle.world_parts.specs.declared.parts.Parts.{Parts}
use Rattle.world_core.specs.Drafting.{AreNodes, AreOutgoing, HasAdded, HasSpelled, IsDraft, KeepTasks, behind, has_moved, lines_behind, out_in, taken}
use Rattle.world_core.specs.Growing.{HasDrafted, Progress}
use Rattle.world_core.specs.Stepping.{is_burst_of}
use Rattle.world_core.specs.declared.draft.Draft.{Draft}
use Rattle.world_core.specs.declared.draft.Part.{Part}
use Rattle.letter_bytes.specs.declared.letters.Outgoing.{Outgoing}
use Rattle.world_core.proofs.Adding.{letters_added, nodes_added, stays_at, stirred_added, taken_length, taken_push, tasks_added, with_other, with_own}
use Rattle.world_core.proofs.Handing.{seen_there}
use Rattle.world_core.proofs.StayOut.{OutComputes, outs_kept, still_out}
use Rattle.world_core.proofs.Growing.{Fronts, Tells, drafted_all, drafted_first, drafted_list, drafted_on, fronts_on}

-- nothing is drafted
pub record IsEmpty {P S : Type 0} (draft : Draft P S) : Type 0 where
  pub parts : draft.parts.items ≡ []
  pub outgoing : draft.outgoing.items ≡ []
  pub entries : draft.entries.items ≡ []
  pub pieces : of_pieces draft.pieces.items ≡ []
  pub stirred : draft.has_stirred ≡ false

still_below : (n : ℕ) (w v : World) → v.nodes ≡ w.nodes → has_stirred_below n w v ≡ false
still_below zero w v same = refl
still_below (suc n) w v same =
    ap (λ (b : Bool). b || has_stirred_at (w.nodes n) (v.nodes n)) (still_below n w v same) ∙ ap (λ (k : ℕ → nodes.Node). has_stirred_at (w.nodes n) (k n)) same ∙ stays_at (w.nodes n)

pub still : (f : Frame) (w v : World) → v.nodes ≡ w.nodes → v.aside ≡ w.aside → has_stirred f w v ≡ false
still f w v same aside =
    ap (λ (b : Bool). b || not (length w.aside == length v.aside)) (still_below f.settings.nodes w v same)
    ∙ ap (λ (l : List Placed). not (length w.aside == length l)) aside ∙ ap not (eq-eqb (length w.aside) (length w.aside) refl)

pub progress_first : {P S : Type 0} (stood : Stood S) (left : Left S) (f : Frame) (s : Parts P S) (w v end : World) (draft : Draft P S) → IsWorld stood left f s w
    → v.nodes ≡ w.nodes → v.aside ≡ w.aside → IsEmpty draft → ListGrows f w end → Progress stood left f s w end draft (untouched v)
progress_first {P} {S} stood left f s w v end draft is same aside empty grows = record {
  nodes = subst (λ (l : List (Part P S)). AreNodes stood left f (taken l s.nodes.items) v) (sym empty.parts)
      (record { count = is.members; each = λ m node at. subst (λ (k : ℕ → nodes.Node). StandsAs stood left f m node (k m)) (sym same) (is.nodes m node at) });
  letters = subst (λ (l : List Outgoing). AreOutgoing f.settings.nodes l []) (sym empty.outgoing) tt;
  stirred = empty.stirred ∙ sym (still f w v same aside);
  tasks = subst (λ (l : List (Part P S)). KeepTasks s.nodes.items (taken l s.nodes.items)) (sym empty.parts) (λ m i node r view at here out. (node, at, here));
  outs = subst (λ (l : List (Part P S)). (m i : ℕ) → out_in (taken l s.nodes.items) m i ≡ out_in s.nodes.items m i) (sym empty.parts) (λ m i. refl);
  members = subst (λ (l : List (Part P S)). Each (λ (part : Part P S). part.member < f.settings.nodes) l) (sym empty.parts) tt;
  beside = [];
  grown = aside ∙ sym (append-nil w.aside);
  drafted = subst (λ (l : List Message). HasDrafted f w end l (of_pieces draft.pieces.items) []) (sym (ap (λ (l : List Message). s.ledger.entries ++ l) empty.entries ∙ append-nil s.ledger.entries ∙ is.entries))
      (subst (λ (l : List Placed). HasDrafted f w end (agreed f w) l []) (sym empty.pieces) (drafted_first f w end grows));
  later = λ m. let e = ap (λ (k : ℕ → nodes.Node). (k m).copies.applied) same in omega (arith, e);
  covered = λ m lt. inr (ap (λ (k : ℕ → nodes.Node). k m) same);
}

each_push : {A : Type 0} (Q : A → Type 0) (xs : List A) (x : A) → Each Q xs → Q x → Each Q (xs ++ x ∷ [])
each_push Q [] x h k = (k, tt)
each_push Q (y ∷ xs) x h k = (h.0, each_push Q xs x h.1 k)

-- what is known of the member whose part comes next
pub record Comes {P S : Type 0} (stood : Stood S) (left : Left S) (f : Frame) (s : Parts P S) (w end : World) (m : ℕ) (start : Start) (before : Node P S) : Type 0 where
  pub within : m < f.settings.nodes
  pub there : slice_get s.nodes.items m ≡ Some before
  pub stands : StandsAs stood left f m before (w.nodes m)
  pub own : Each (λ (mail : Mail). (posted f.settings.nodes mail).from ≡ m) (mails_of (part f m start (w.nodes m)).deeds)
  pub tells : TellsPart f w end m start
  pub places : (k : ℕ) (r : Placed) → slice_get (aside_of (part f m start (w.nodes m)).deeds) k ≡ Some r → r.place ≤ (end.nodes m).copies.applied
  pub had : (w.nodes m).copies.applied ≡ length (entries_of (w.nodes m))
  pub low : length (entries_of (w.nodes m)) ≤ length (agreed f w)
  pub computes : OutComputes before

pub progress_on : {P S : Type 0} (stood : Stood S) (left : Left S) (f : Frame) (s : Parts P S) (w end : World) (old new : Draft P S) (u : AtWork) (m : ℕ) (start : Start) (before after : Node P S) (moved : Moved)
    → IsWorld stood left f s w → ListGrows f w end → Comes stood left f s w end m start before → u.world.nodes m ≡ w.nodes m
    → HasAdded (length s.ledger.entries) before after moved old new → KeepsTasks before after → IsDone stood left f m after moved (w.nodes m) (part f m start (w.nodes m))
    → Progress stood left f s w end old u → Progress stood left f s w end new (after_part f m (part f m start (w.nodes m)) u)
progress_on {P} {S} stood left f s w end old new u m start before after moved is grows comes stood_there added keeps done h = record {
  nodes = nodes_added stood left f _ _ m after v u h.nodes next done.node;
  letters = letters_added f.settings.nodes m old.outgoing.items new.outgoing.items moved.sends.items u.mails (mails_of v.deeds) h.letters
      (subst (λ (n : ℕ). HasSpelled n moved.sends.items old.outgoing.items new.outgoing.items) me added.outgoing) done.did.sends comes.own;
  stirred = added.stirred ∙ ap (λ (b : Bool). b || has_moved before after moved) h.stirred ∙ ap (λ (b : Bool). has_stirred f w u.world || b) moves
      ∙ sym (stirred_added f w u m v h.beside comes.within stood_there h.grown);
  tasks = tasks_added s.nodes.items _ _ m before after h.tasks next comes.there keeps.only;
  outs = λ k i.
      ap (λ (l : List (Node P S)). out_in l k i) next
      ∙ outs_kept s.nodes.items (taken old.parts.items s.nodes.items) m after (omega (arith, comes.within, is.members, taken_length old.parts.items s.nodes.items)) h.outs
      (λ j. still_out before after keeps comes.computes j ∙ sym (seen_there s.nodes.items m j before comes.there)) k i;
  members = subst (λ (l : List (Part P S)). Each (λ (part : Part P S). part.member < f.settings.nodes) l) (sym added.parts)
      (each_push (λ (part : Part P S). part.member < f.settings.nodes) old.parts.items (record { member = before.member.me; node = after }) h.members (omega (arith, me, comes.within)));
  beside = h.beside ++ aside_of v.deeds;
  grown = ap (λ (l : List Placed). l ++ aside_of v.deeds) h.grown ∙ append_assoc w.aside h.beside (aside_of v.deeds);
  drafted = subst (λ (l : List Message). HasDrafted f w end l (of_pieces new.pieces.items) (h.beside ++ aside_of v.deeds)) (sym listed)
      (subst (λ (l : List Placed). HasDrafted f w end (known ++ behind (length known) (length front) moved.messages.items) l (h.beside ++ aside_of v.deeds)) (sym performed)
      (drafted_on f w end known front moved.messages.items (of_pieces old.pieces.items) h.beside (aside_of v.deeds) moved.entries.items now h.drafted (grows.within m comes.within) low had tells));
  later = λ k. ⊎_elim (own_later k) (other_later k) (cases_eq k m);
  covered = λ k lt. ⊎_elim (own k) (other k lt) (cases_eq k m);
}
  where
    v : NodeWork
    v = part f m start (w.nodes m)

    known : List Message
    known = s.ledger.entries ++ old.entries.items

    front : List Message
    front = entries_of (w.nodes m)

    now : ℕ
    now = (end.nodes m).copies.applied

    me : before.member.me ≡ m
    me = comes.stands.member.me

    next : taken new.parts.items s.nodes.items ≡ slice_set (taken old.parts.items s.nodes.items) m after
    next =
        ap (λ (l : List (Part P S)). taken l s.nodes.items) added.parts ∙ taken_push old.parts.items (record { member = before.member.me; node = after }) s.nodes.items
        ∙ ap (λ (n : ℕ). slice_set (taken old.parts.items s.nodes.items) n after) me

    moves_by : ℕ → ℕ → ℕ → ℕ → List Placed → Bool
    moves_by a b c d xs = not ((a == b) && (c == d)) || not (is_empty xs)

    moves : has_moved before after moved ≡ (has_stirred_at (w.nodes m) v.node || not (is_empty (aside_of v.deeds)))
    moves =
        ap (λ (a : ℕ). moves_by a after.member.applied before.member.installed after.member.installed moved.aside.items) (sym comes.stands.member.applied)
        ∙ ap (λ (b : ℕ). moves_by (w.nodes m).member.applied b before.member.installed after.member.installed moved.aside.items) (sym done.node.member.applied)
        ∙ ap (λ (c : ℕ). moves_by (w.nodes m).member.applied v.node.member.applied c after.member.installed moved.aside.items) (sym comes.stands.member.installed)
        ∙ ap (λ (d : ℕ). moves_by (w.nodes m).member.applied v.node.member.applied (w.nodes m).member.installed d moved.aside.items) (sym done.node.member.installed)
        ∙ ap (λ (xs : List Placed). moves_by (w.nodes m).member.applied v.node.member.applied (w.nodes m).member.installed v.node.member.installed xs) done.did.aside

    applied : before.copies.applied ≡ length front
    applied = ap (λ (c : Copied). c.applied) comes.stands.copies ∙ comes.had

    count : length s.ledger.entries + length old.entries.items ≡ length known
    count = sym (length-append s.ledger.entries old.entries.items)

    listed : s.ledger.entries ++ new.entries.items ≡ known ++ behind (length known) (length front) moved.messages.items
    listed =
        ap (λ (l : List Message). s.ledger.entries ++ l) added.entries
        ∙ sym (append_assoc s.ledger.entries old.entries.items (behind (length s.ledger.entries + length old.entries.items) before.copies.applied moved.messages.items))
        ∙ ap (λ (n : ℕ). known ++ behind n before.copies.applied moved.messages.items) count ∙ ap (λ (n : ℕ). known ++ behind (length known) n moved.messages.items) applied

    performed : of_pieces new.pieces.items ≡ of_pieces old.pieces.items ++ (lines_behind (length known) (length front) moved.entries.items ++ aside_of v.deeds)
    performed =
        added.pieces
        ∙ ap (λ (n : ℕ). of_pieces old.pieces.items ++ (lines_behind n before.copies.applied moved.entries.items ++ moved.aside.items)) count
        ∙ ap (λ (n : ℕ). of_pieces old.pieces.items ++ (lines_behind (length known) n moved.entries.items ++ moved.aside.items)) applied
        ∙ ap (λ (l : List Placed). of_pieces old.pieces.items ++ (lines_behind (length known) (length front) moved.entries.items ++ l)) done.did.aside

    low : length front ≤ length known
    low = omega (arith, comes.low, h.drafted.least)

    had : front ++ moved.messages.items ≡ take now (agreed f end)
    had = done.messages ∙ ap entries_of (sym comes.tells.node) ∙ grows.begin m comes.within

    told : moved.entries.items ≡ told_lines v.deeds
    told = done.did.entries

    tells : Tells f end (length front) now moved.entries.items (aside_of v.deeds)
    tells =
        subst (λ (n : ℕ). Tells f end n now moved.entries.items (aside_of v.deeds)) comes.had
        (subst (λ (l : List (List Line)). Tells f end (w.nodes m).copies.applied now l (aside_of v.deeds)) (sym told)
        (record { count = comes.tells.count; lines = comes.tells.lines; beside = comes.places }))

    fronts : Fronts (agreed f end) (length known) now (known ++ behind (length known) (length front) moved.messages.items)
    fronts = fronts_on (agreed f end) known front moved.messages.items now h.drafted.front (grows.within m comes.within) low had

    own_later : (k : ℕ) → k ≡ m → (w.nodes k).copies.applied ≤ ((after_part f m v u).world.nodes k).copies.applied
    own_later k same =
        subst (λ (j : ℕ). (w.nodes j).copies.applied ≤ ((after_part f m v u).world.nodes j).copies.applied) (sym same)
        (omega (arith, comes.tells.count, ap (λ (n : nodes.Node). n.copies.applied) comes.tells.node, ap (λ (n : nodes.Node). n.copies.applied) (with_own u.world.nodes m v.node)))

    other_later : (k : ℕ) → (k ≡ m → ⊥) → (w.nodes k).copies.applied ≤ ((after_part f m v u).world.nodes k).copies.applied
    other_later k apart = omega (arith, h.later k, ap (λ (n : nodes.Node). n.copies.applied) (with_other u.world.nodes m v.node k apart))

    own : (k : ℕ) → k ≡ m → ((end.nodes k).copies.applied ≤ length (s.ledger.entries ++ new.entries.items)) ⊎ ((after_part f m v u).world.nodes k ≡ w.nodes k)
    own k same = inl (omega (arith, ap (λ (j : ℕ). (end.nodes j).copies.applied) same, fronts.from_applied, ap length listed))

    other : (k : ℕ) → k < f.settings.nodes → (k ≡ m → ⊥) → ((end.nodes k).copies.applied ≤ length (s.ledger.entries ++ new.entries.items)) ⊎ ((after_part f m v u).world.nodes k ≡ w.nodes k)
    other k lt apart =
        ⊎_elim (λ (le : (end.nodes k).copies.applied ≤ length known). inl (omega (arith, le, fronts.from_known, ap length listed))) (λ (same : u.world.nodes k ≡ w.nodes k). inr (with_other u.world.nodes m v.node k apart ∙ same)) (h.covered k lt)

-- once all members are done, that is the event's draft
pub progress_done : {P S : Type 0} (stood : Stood S) (left : Left S) (f : Frame) (s : Parts P S) (w : World) (event : Event) (draft : Draft P S) (u : AtWork) → IsWorld stood left f s w
    → ListGrows f w u.world → PerformedGrows f w u.world → ((m : ℕ) → m < f.settings.nodes → (w.nodes m).copies.applied ≤ length (agreed f w))
    → Progress stood left f s w u.world draft u → ((m i : ℕ) → is_burst_of f w event m i ≡ false) → IsDraft stood left f s w event draft u
progress_done stood left f s w event draft u is grows law low h none = record {
  nodes = h.nodes;
  letters = h.letters;
  entries = whole;
  performed = drafted_all f w u.world (s.ledger.entries ++ draft.entries.items) (of_pieces draft.pieces.items) h.beside s.ledger.performed h.drafted grows whole h.grown law is.performed;
  stirred = h.stirred;
  tasks = h.tasks;
  outs = λ m i. h.outs m i ∙ ap (λ (b : Bool). cond b None (out_in s.nodes.items m i)) (sym (none m i));
  members = h.members;
  later = h.later;
}
  where
    all : (m : ℕ) → m < f.settings.nodes → (u.world.nodes m).copies.applied ≤ length (s.ledger.entries ++ draft.entries.items)
    all m lt =
        ⊎_elim (λ (le : (u.world.nodes m).copies.applied ≤ length (s.ledger.entries ++ draft.entries.items)). le)
        (λ (same : u.world.nodes m ≡ w.nodes m). omega (arith, ap (λ (n : nodes.Node). n.copies.applied) same, low m lt, h.drafted.least)) (h.covered m lt)

    whole : s.ledger.entries ++ draft.entries.items ≡ agreed f u.world
    whole = drafted_list f w u.world (s.ledger.entries ++ draft.entries.items) (of_pieces draft.pieces.items) h.beside h.drafted grows all
