-- A member's part joins those of the members before it: of members, letters, tasks, and whether anything stirred.
use Rattle.std.proofs.Common.{◌≡◌, ◌≤◌, ◌<◌, ◌+◌, ◌-◌, ◌∙◌, ◌⊎◌, inl, inr, ⊎_elim, ◌&&◌, ◌||◌, ◌==◌, not, ℕ, zero, suc, Bool, true, false, cond, List, [], ◌∷◌, ◌++◌, Some, slice_get, slice_set, ap, sym, subst, refl, arith, map, length, length-append}
use Rattle.std.proofs.lemmas.Bool.{eq-eqb, ne_eqb, eqb-true}
use Rattle.std.specs.List.{AllByRecursion as Each}
use Rattle.object_manager.specs.Viewed.{Viewed}
use Rattle.value_core.specs.declared.action.Reply.{Reply}
use Rattle.value_core.specs.declared.message.Message.{Message}
use Rattle.book_law.specs.declared.placing.Placed.{Placed}
use Rattle.group_member.specs.declared.sends.Letter.{Letter}
use Rattle.group_rules.specs.Sets.{with_at}
use Rattle.group_rules.specs.Steps.{is_empty}
use Rattle.world_rules.specs.Frame.{Frame}
use Rattle.world_rules.specs.Mail.{Mail, posted}
use Rattle.world_rules.specs.Nodes as nodes
use Rattle.world_rules.specs.Nodes.{NodeWork, aside_of, mails_of}
use Rattle.world_rules.specs.Steps.{AtWork, after_part, has_stirred, has_stirred_at, has_stirred_below}
use Rattle.world_rules.specs.Worlds.{World}
use Rattle.node_core.specs.Pieces.{resident_at}
use Rattle.node_parts.specs.Shown.{Left, Stood}
use Rattle.node_core.specs.Stands.{StandsAs, sent}
use Rattle.node_core.specs.declared.node.Node.{Node}
use Rattle.node_parts.specs.declared.resident.Resident.{Resident}
use Rattle.letter_bytes.specs.Letters.{IsOutgoing}
use Rattle.world_core.specs.Drafting.{AreLetters, AreNodes, AreOutgoing, HasSpelled, KeepTasks, taken}
use Rattle.world_core.specs.declared.draft.Part.{Part}
use Rattle.letter_bytes.specs.declared.letters.Outgoing.{Outgoing}
use Rattle.world_parts.proofs.Lists.{got_set, set_length}

-- ---- lists with one changed

pub taken_push : {P S : Type 0} (parts : List (Part P S)) (part : Part P S) (ns : List (Node P S)) → taken (parts ++ part ∷ []) ns ≡ slice_set (taken parts ns) part.member part.node
taken_push [] part ns = refl
taken_push (first ∷ parts) part ns = taken_push parts part (slice_set ns first.member first.node)

-- a list of no length is empty
pub none_in : {A : Type 0} (xs : List A) (n : ℕ) → n ≡ length xs → (n == 0) ≡ is_empty xs
none_in [] n is = ap (λ (k : ℕ). k == 0) is
none_in {A} (x ∷ xs) n is = ne_eqb n 0 (λ e. absurd (omega (arith, e, is)))

-- members take places, and are as many as they were
pub taken_length : {P S : Type 0} (parts : List (Part P S)) (nodes : List (Node P S)) → length (taken parts nodes) ≡ length nodes
taken_length [] nodes = refl
taken_length {P} {S} (part ∷ parts) nodes = taken_length parts (slice_set nodes part.member part.node) ∙ set_length nodes part.member part.node

pub with_own : {A : Type 0} (f : ℕ → A) (k : ℕ) (v : A) → with_at f k v k ≡ v
with_own f k v = ap (λ (b : Bool). cond b v (f k)) (eq-eqb k k refl)

pub with_other : {A : Type 0} (f : ℕ → A) (k : ℕ) (v : A) (x : ℕ) → (x ≡ k → ⊥) → with_at f k v x ≡ f x
with_other f k v x apart = ap (λ (b : Bool). cond b v (f x)) (ne_eqb x k apart)

-- ---- members

pub nodes_added : {P S : Type 0} (stood : Stood S) (left : Left S) (f : Frame) (ns more : List (Node P S)) (m : ℕ) (after : Node P S) (v : NodeWork) (u : AtWork)
    → AreNodes stood left f ns u.world → more ≡ slice_set ns m after → StandsAs stood left f m after v.node → AreNodes stood left f more (after_part f m v u).world
nodes_added {P} {S} stood left f ns more m after v u h is stands =
    subst (λ (l : List (Node P S)). AreNodes stood left f l (after_part f m v u).world) (sym is) (record {
      count = set_length ns m after ∙ h.count;
      each = λ k node at. ⊎_elim (own k node) (other k node) (got_set ns m k after node at);
    })
  where
    own : (k : ℕ) (node : Node P S) → (k ≡ m) × (after ≡ node) → StandsAs stood left f k node (with_at u.world.nodes m v.node k)
    own k node same =
        subst (λ (j : ℕ). StandsAs stood left f j node (with_at u.world.nodes m v.node j)) (sym same.0)
        (subst (λ (n : Node P S). StandsAs stood left f m n (with_at u.world.nodes m v.node m)) same.1
        (subst (StandsAs stood left f m after) (sym (with_own u.world.nodes m v.node)) stands))

    other : (k : ℕ) (node : Node P S) → (k ≡ m → ⊥) × (slice_get ns k ≡ Some node) → StandsAs stood left f k node (with_at u.world.nodes m v.node k)
    other k node apart = subst (StandsAs stood left f k node) (sym (with_other u.world.nodes m v.node k apart.0)) (h.each k node apart.1)

-- ---- tasks

pub tasks_added : {P S : Type 0} (old ns more : List (Node P S)) (m : ℕ) (before after : Node P S) → KeepTasks old ns → more ≡ slice_set ns m after
    → slice_get old m ≡ Some before → ((i : ℕ) (r : Resident S) (view : Viewed) → resident_at after i ≡ Some r → r.out ≡ Some view → resident_at before i ≡ Some r)
    → KeepTasks old more
tasks_added {P} {S} old ns more m before after h is at keeps =
    subst (KeepTasks old) (sym is) (λ k i node r view there here out. ⊎_elim (own k i node r view here out) (λ apart. h k i node r view apart.1 here out) (got_set ns m k after node there))
  where
    own : (k i : ℕ) (node : Node P S) (r : Resident S) (view : Viewed) → resident_at node i ≡ Some r → r.out ≡ Some view → (k ≡ m) × (after ≡ node)
        → (before : Node P S) × (slice_get old k ≡ Some before) × (resident_at before i ≡ Some r)
    own k i node r view here out same =
        (before, ap (λ (j : ℕ). slice_get old j) same.0 ∙ at, keeps i r view (ap (λ (n : Node P S). resident_at n i) same.1 ∙ here) out)

-- ---- letters

outgoing_more : (nodes : ℕ) (some more : List Outgoing) (mails others : List Mail) → AreOutgoing nodes some mails → AreOutgoing nodes more others → AreOutgoing nodes (some ++ more) (mails ++ others)
outgoing_more nodes [] more [] others h k = k
outgoing_more nodes (one ∷ some) more (mail ∷ mails) others h k = (h.0, outgoing_more nodes some more mails others h.1 k)
outgoing_more nodes [] more (mail ∷ mails) others h k = absurd h
outgoing_more nodes (one ∷ some) more [] others h k = absurd h

-- a member's own letters, as it sent them
own_letters : (nodes from : ℕ) (mails : List Mail) (more : List Outgoing) → Each (λ (mail : Mail). (posted nodes mail).from ≡ from) mails
    → AreLetters from (map (sent nodes) mails) more → AreOutgoing nodes more mails
own_letters nodes from [] [] h k = tt
own_letters nodes from (mail ∷ mails) (one ∷ more) h k =
    (subst (λ (n : ℕ). IsOutgoing one n (posted nodes mail).to (posted nodes mail).packet) (sym h.0) k.0, own_letters nodes from mails more h.1 k.1)
own_letters nodes from [] (one ∷ more) h k = absurd k
own_letters nodes from (mail ∷ mails) [] h k = absurd k

pub letters_added : (nodes from : ℕ) (old new : List Outgoing) (sends : List (Letter Message Reply)) (before mails : List Mail) → AreOutgoing nodes old before
    → HasSpelled from sends old new → sends ≡ map (sent nodes) mails → Each (λ (mail : Mail). (posted nodes mail).from ≡ from) mails → AreOutgoing nodes new (before ++ mails)
letters_added nodes from old new sends before mails h spelled is own =
    let more = spelled.0 in
    subst (λ (l : List Outgoing). AreOutgoing nodes l (before ++ mails)) (sym spelled.1)
    (outgoing_more nodes old more before mails h (own_letters nodes from mails more own (subst (λ (l : List (Letter Message Reply)). AreLetters from l more) is spelled.2)))

-- ---- whether anything stirred

pub stays_at : (n : nodes.Node) → has_stirred_at n n ≡ false
stays_at n =
    ap (λ (b : Bool). not (b && (n.member.installed == n.member.installed))) (eq-eqb n.member.applied n.member.applied refl)
    ∙ ap not (eq-eqb n.member.installed n.member.installed refl)

-- below the member nothing changed
stirs_below : (n m : ℕ) (w u v : World) → n ≤ m → ((k : ℕ) → (k ≡ m → ⊥) → v.nodes k ≡ u.nodes k) → has_stirred_below n w v ≡ has_stirred_below n w u
stirs_below zero m w u v low others = refl
stirs_below (suc n) m w u v low others =
    ap (λ (b : Bool). b || has_stirred_at (w.nodes n) (v.nodes n)) (stirs_below n m w u v (omega (arith, low)) others)
    ∙ ap (λ (k : nodes.Node). has_stirred_below n w u || has_stirred_at (w.nodes n) k) (others n (λ e. absurd (omega (arith, e, low))))

or_false : (a : Bool) → (a || false) ≡ a
or_false true = refl
or_false false = refl

or_swap : (a b c : Bool) → ((a || b) || c) ≡ ((a || c) || b)
or_swap true b c = refl
or_swap false true true = refl
or_swap false true false = refl
or_swap false false true = refl
or_swap false false false = refl

stirs_past : (more n m : ℕ) (w u v : World) → more + suc m ≡ n → ((k : ℕ) → (k ≡ m → ⊥) → v.nodes k ≡ u.nodes k) → u.nodes m ≡ w.nodes m
    → has_stirred_below n w v ≡ (has_stirred_below n w u || has_stirred_at (w.nodes m) (v.nodes m))
stirs_past zero n m w u v is others stood =
    let e : suc m ≡ n = omega (arith, is) in
    subst (λ (k : ℕ). has_stirred_below k w v ≡ (has_stirred_below k w u || has_stirred_at (w.nodes m) (v.nodes m))) e
    (ap (λ (b : Bool). b || has_stirred_at (w.nodes m) (v.nodes m)) (stirs_below m m w u v (omega arith) others
    ∙ sym (or_false (has_stirred_below m w u))
    ∙ sym (ap (λ (b : Bool). has_stirred_below m w u || b) (ap (has_stirred_at (w.nodes m)) stood ∙ stays_at (w.nodes m)))))
stirs_past (suc more) n m w u v is others stood =
    let e : suc (more + suc m) ≡ n = omega (arith, is) in
    subst (λ (k : ℕ). has_stirred_below k w v ≡ (has_stirred_below k w u || has_stirred_at (w.nodes m) (v.nodes m))) e
    (ap (λ (b : Bool). b || has_stirred_at (w.nodes (more + suc m)) (v.nodes (more + suc m))) (stirs_past more (more + suc m) m w u v refl others stood)
    ∙ or_swap (has_stirred_below (more + suc m) w u) (has_stirred_at (w.nodes m) (v.nodes m)) (has_stirred_at (w.nodes (more + suc m)) (v.nodes (more + suc m)))
    ∙ ap (λ (k : nodes.Node). (has_stirred_below (more + suc m) w u || has_stirred_at (w.nodes (more + suc m)) k) || has_stirred_at (w.nodes m) (v.nodes m)) (others (more + suc m) (λ e. absurd (omega (arith, e)))))

-- what was performed beside the list grew
grew : (w n : ℕ) (xs : List Placed) (more : ℕ) → w ≤ n → more ≡ n + length xs → not (w == more) ≡ (not (w == n) || not (is_empty xs))
grew w n [] more low is =
    let e : more ≡ n = omega (arith, is) in
    ap (λ (k : ℕ). not (w == k)) e ∙ sym (or_false (not (w == n)))
grew w n (x ∷ xs) more low is = apart (w == more) refl ∙ sym (or_true (not (w == n)))
  where
    or_true : (a : Bool) → (a || true) ≡ true
    or_true true = refl
    or_true false = refl

    apart : (b : Bool) → (w == more) ≡ b → not b ≡ true
    apart true e = absurd (omega (arith, low, is, eqb-true w more e))
    apart false e = refl

four : (a h b e : Bool) → ((a || h) || (b || e)) ≡ ((a || b) || (h || e))
four true h b e = refl
four false true true e = refl
four false true false e = refl
four false false b e = refl

pub stirred_added : (f : Frame) (w : World) (u : AtWork) (m : ℕ) (v : NodeWork) (beside : List Placed) → m < f.settings.nodes → u.world.nodes m ≡ w.nodes m → u.world.aside ≡ w.aside ++ beside
    → has_stirred f w (after_part f m v u).world ≡ (has_stirred f w u.world || (has_stirred_at (w.nodes m) v.node || not (is_empty (aside_of v.deeds))))
stirred_added f w u m v beside lt stood grown =
    let next = (after_part f m v u).world in
    let a = stirs_past (f.settings.nodes - suc m) f.settings.nodes m w u.world next (omega (arith, lt)) (λ k apart. with_other u.world.nodes m v.node k apart) stood in
    let low : length w.aside ≤ length u.world.aside = omega (arith, ap length grown, length-append w.aside beside) in
    let b = grew (length w.aside) (length u.world.aside) (aside_of v.deeds) (length next.aside) low (length-append u.world.aside (aside_of v.deeds)) in
    ap (λ (x : Bool). x || not (length w.aside == length next.aside)) (a ∙ ap (λ (k : nodes.Node). has_stirred_below f.settings.nodes w u.world || has_stirred_at (w.nodes m) k) (with_own u.world.nodes m v.node))
    ∙ ap (λ (y : Bool). (has_stirred_below f.settings.nodes w u.world || has_stirred_at (w.nodes m) v.node) || y) b
    ∙ four (has_stirred_below f.settings.nodes w u.world) (has_stirred_at (w.nodes m) v.node) (not (length w.aside == length u.world.aside)) (not (is_empty (aside_of v.deeds)))
