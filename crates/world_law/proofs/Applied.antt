-- A member that applies entries leaves its member in the group and the group's past as they are; its copies apply no more than is accepted.
use Rattle.std.proofs.Common.{◌≡◌, ◌==◌, ◌+◌, ◌-◌, ◌≤◌, ℕ, suc, min, Bool, List, [], ◌∷◌, length, take, refl, ap, ◌∙◌, arith, length-drop, length-take}
use Rattle.std.proofs.lemmas.Bool.{cond_both}
use Rattle.value_core.specs.declared.message.Message.{Message}
use Rattle.object_manager.specs.After.{Copied}
use Rattle.value_core.specs.Meaning.{Performs}
use Rattle.book_law.specs.Members.{after_entry}
use Rattle.book_law.specs.Passes.{Test, is_passed, lines_after}
use Rattle.group_rules.specs.Messages.{Group}
use Rattle.group_rules.specs.World.{Past}
use Rattle.world_rules.specs.Applying.{answers, applies, applies_each, applies_one, applies_with, begins, copies_take, due_entries, passes_limit, tries_reads}
use Rattle.world_rules.specs.Frame.{Frame, group}
use Rattle.world_rules.specs.Nodes.{NodeWork, known, past_after}
use Rattle.world_rules.specs.Processes.{Begun, begun_by, home_in, singles_of}
use Rattle.world_law.specs.Moments.{sent_letters}
use Rattle.world_law.proofs.Still.{Others, Still, still_answers, still_begins, still_on, still_reads}

-- the member, what the group remembers and which of its letters were sent stay, and the copies applied between none and so many entries more
pub record Applied (g : Group Message) (m more : ℕ) (v u : NodeWork) : Type 0 where
  pub member : u.node.member ≡ v.node.member
  pub past : (p : Past Message) → past_after g m u.deeds p ≡ past_after g m v.deeds p
  pub others : Others v.deeds → Others u.deeds
  pub letters : sent_letters u.deeds ≡ sent_letters v.deeds
  pub least : v.node.copies.applied ≤ u.node.copies.applied
  pub most : u.node.copies.applied ≤ v.node.copies.applied + more

pub one_more : (single : Test) (p : Performs) (c : Copied) (x : Message) (keeps : Bool) → (after_entry single p c x keeps).applied ≡ c.applied + 1
one_more single p c x keeps = cond_both (is_passed single x.action) _ _ (λ (z : Copied). z.applied ≡ c.applied + 1) (λ e. refl) (λ e. refl)

applied_with : (f : Frame) (g : Group Message) (m k : ℕ) (processes : List Begun) (count place : ℕ) (x : Message) (v : NodeWork) →
    Applied g m 1 v (applies_with f k processes count place x v)
applied_with f g m k processes count place x v =
    let taken : NodeWork = copies_take f k processes x v in
    let told : NodeWork = answers place (lines_after (singles_of f processes) f.performs v.node.copies x) taken in
    let born : List Begun = begun_by f.settings.nodes (home_in processes x.process.0) place x.action in
    let u : NodeWork = begins k count born told in
    let s : Still g m taken (tries_reads f u.node.copies.processes u) =
    still_on (still_answers g m place (lines_after (singles_of f processes) f.performs v.node.copies x) taken)
    (still_on (still_begins g m k count born told) (still_reads f g m u.node.copies.processes u)) in
    let n = one_more (singles_of f processes) f.performs v.node.copies x (home_in processes x.process.0 == k) in
    record { member = s.member; past = λ p. s.past p; others = s.others; letters = s.letters; least = omega (arith, s.applied, n); most = omega (arith, s.applied, n) }

pub applied_one : (f : Frame) (g : Group Message) (m k : ℕ) (x : Message) (v : NodeWork) → Applied g m 1 v (applies_one f k x v)
applied_one f g m k x v = applied_with f g m k (known f v.node) v.node.copies.processes (suc v.node.copies.applied) x v

applied_none : (g : Group Message) (m more : ℕ) (v : NodeWork) → Applied g m more v v
applied_none g m more v = record { member = refl; past = λ p. refl; others = λ h. h; letters = refl; least = omega arith; most = omega arith }

pub applied_each : (f : Frame) (g : Group Message) (m k : ℕ) (xs : List Message) (v : NodeWork) → Applied g m (length xs) v (applies_each f k xs v)
applied_each f g m k [] v = applied_none g m 0 v
applied_each f g m k (x ∷ xs) v = cond_both (passes_limit f v.node x) _ _ (λ u. Applied g m (length (x ∷ xs)) v u) (λ e. applied_none g m _ v)
    (λ e.
    let one = applied_one f g m k x v in
    let rest = applied_each f g m k xs (applies_one f k x v) in
    record {
      member = rest.member ∙ one.member;
      past = λ p. rest.past p ∙ one.past p;
      others = λ h. rest.others (one.others h);
      letters = rest.letters ∙ one.letters;
      least = omega (arith, one.least, rest.least);
      most = omega (arith, one.most, rest.most);
    })

-- so they apply no more than is accepted
pub applied_due : (f : Frame) (g : Group Message) (m k : ℕ) (v : NodeWork) → v.node.copies.applied ≤ v.node.member.accepted →
    Applied g m (v.node.member.accepted - v.node.copies.applied) v (applies f k v)
applied_due f g m k v below =
    let due = applied_each f g m k (due_entries v.node) v in
    let n : length (due_entries v.node) ≡ min v.node.member.accepted (length v.node.member.log) - v.node.copies.applied =
    length-drop v.node.copies.applied (take v.node.member.accepted v.node.member.log) ∙
    ap (λ z. z - v.node.copies.applied) (length-take v.node.member.accepted v.node.member.log) in
    record { member = due.member; past = due.past; others = due.others; letters = due.letters; least = due.least; most = omega (arith, due.most, n) }

-- one entry is one more
pub applied_exactly : (f : Frame) (m : ℕ) (x : Message) (v : NodeWork) → (applies_one f m x v).node.copies.applied ≡ v.node.copies.applied + 1
applied_exactly f m x v =
    let ps : List Begun = known f v.node in
    let count : ℕ = v.node.copies.processes in
    let place : ℕ = suc v.node.copies.applied in
    let lines = lines_after (singles_of f ps) f.performs v.node.copies x in
    let born : List Begun = begun_by f.settings.nodes (home_in ps x.process.0) place x.action in
    let taken : NodeWork = copies_take f m ps x v in
    let told : NodeWork = answers place lines taken in
    let u : NodeWork = begins m count born told in
    let s : Still (group f) m taken (tries_reads f u.node.copies.processes u) =
    still_on (still_answers (group f) m place lines taken)
    (still_on (still_begins (group f) m m count born told) (still_reads f (group f) m u.node.copies.processes u)) in
    s.applied ∙ one_more (singles_of f ps) f.performs v.node.copies x (home_in ps x.process.0 == m)

-- so the member stays with however many entries
pub member_applies : (f : Frame) (m : ℕ) (xs : List Message) (v : NodeWork) → (applies_each f m xs v).node.member ≡ v.node.member
member_applies f m xs v = (applied_each f (group f) m m xs v).member
