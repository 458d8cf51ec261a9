-- A member notes to its group how many entries it applied.
use Rattle.std.proofs.Common.{◌≡◌, ◌≤◌, ◌<◌, ◌^◌, ◌++◌, ◌∷◌, ℕ, Bool, List, [], map, append_assoc, append-nil, slice_index_or, None, refl, sym, ap, ◌∙◌, subst, arith, if◌then◌else◌}
use Rattle.std.proofs.lemmas.List.{map-append}
use Rattle.value_core.specs.declared.action.Reply.{Reply}
use Rattle.value_core.specs.declared.message.Message.{Message}
use Rattle.std.proofs.lemmas.Bool.{lt-ltb, le-ltb}
use Rattle.object_manager.specs.After.{Copied}
use Rattle.group_member.specs.AtWork.{AtWork, told_to}
use Rattle.group_member.specs.StandsFor.{IsMember, StandsFor}
use Rattle.group_rules.specs.Steps.{note}
use Rattle.world_rules.specs.Applying.{notes}
use Rattle.node_rules.specs.Conditions.{Fitness}
use Rattle.node_rules.specs.Entries.{told_lines}
use Rattle.node_rules.specs.Moments.{Goes, Moment, works}
use Rattle.node_rules.specs.Moments.Goes.{Notes}
use Rattle.node_rules.specs.Moments.Walks.{Stays, Then}
use Rattle.node_parts.specs.declared.errand.Errand.{Errand}
use Rattle.group_member.specs.declared.sends.Letter.{Letter}
use Rattle.group_rules.specs.OnWire.{post_of, posts_of}
use Rattle.group_rules.specs.Work as group_work
use Rattle.group_rules.specs.Work.{Act}
use Rattle.world_rules.specs.Frame.{Frame, group}
use Rattle.world_rules.specs.Mail.{Mail}
use Rattle.world_rules.specs.Nodes.{Deed, NodeWork, aside_of, entries_of, joins, mails_of}
use Rattle.world_rules.specs.Nodes.Deed.{Acts}
use Rattle.world_rules.specs.Processes.{processes_in}
use Rattle.node_parts.specs.Shown.{IsPlayedIf, Left, Stood, on_errand, on_given}
use Rattle.node_core.specs.Stands.{IsAt, IsWork, on_known, sent}
use Rattle.node_parts.specs.declared.moved.Moved.{Moved}
use Rattle.node_core.specs.declared.node.Node.{Node}
use Rattle.node_core.specs.declared.work.Work.{Work}

-- what the group's acts send comes behind what was sent
acts_sent : (n : ℕ) (acts : List (Act Message)) (deeds : List Deed)
    → map (sent n) (mails_of (map Acts acts ++ deeds)) ≡ map (sent n) (mails_of deeds) ++ map told_to (posts_of {R = Reply} n acts)
acts_sent n [] deeds = sym (append-nil (map (sent n) (mails_of deeds)))
acts_sent n (Act.Sends letter ∷ acts) deeds =
    map-append (sent n) (mails_of (map Acts acts ++ deeds)) (Mail.Grouped letter ∷ [])
    ∙ ap (λ (l : List (Letter Message Reply)). l ++ sent n (Mail.Grouped letter) ∷ []) (acts_sent n acts deeds)
    ∙ append_assoc (map (sent n) (mails_of deeds)) (map told_to (posts_of {R = Reply} n acts)) (sent n (Mail.Grouped letter) ∷ [])
    ∙ ap (λ (l : List (Letter Message Reply)). map (sent n) (mails_of deeds) ++ l) (sym (map-append told_to (posts_of {R = Reply} n acts) (post_of n letter ∷ [])))
acts_sent n (Act.Keeps packet ∷ acts) deeds = acts_sent n acts deeds
acts_sent n (Act.Orders k x ∷ acts) deeds = acts_sent n acts deeds
acts_sent n (Act.Begins k log answers ∷ acts) deeds = acts_sent n acts deeds

acts_entries : (acts : List (Act Message)) (deeds : List Deed) → told_lines (map Acts acts ++ deeds) ≡ told_lines deeds
acts_entries [] deeds = refl
acts_entries (act ∷ acts) deeds = acts_entries acts deeds

acts_aside : (acts : List (Act Message)) (deeds : List Deed) → aside_of (map Acts acts ++ deeds) ≡ aside_of deeds
acts_aside [] deeds = refl
acts_aside (act ∷ acts) deeds = acts_aside acts deeds

-- a step of its member in the group, which leaves the entries that the copies applied, and whose packets were posted
pub joined : {P S : Type 0} (stood : Stood S) (left : Left S) (f : Frame) (m : ℕ) (old new : Work P S) (sends : List (Letter Message Reply)) (work : group_work.Work Message) (v : NodeWork)
    → AtWork (group f) m new.node.member sends work → new.node ≡ record old.node { member = new.node.member }
    → new.moved ≡ record old.moved { sends = new.moved.sends } → new.moved.sends.items ≡ old.moved.sends.items ++ sends
    → entries_of (joins work v).node ≡ entries_of v.node
    → IsWork stood left f m old v → IsWork stood left f m new (joins work v)
joined {P} {S} stood left f m old new sends work v does same others posts kept h = record {
  node = record {
    member = does.state;
    copies = ap (λ (n : Node P S). n.copies) same ∙ h.node.copies;
    known = ap (λ (n : Node P S). n.known.items) same ∙ h.node.known ∙ ap (λ (l : List Message). map on_known (processes_in f l)) (sym kept);
    residents = subst (λ (n : Node P S). (i : ℕ) → IsPlayedIf stood left i (slice_index_or n.residents.items i None) (v.node.played i)) (sym same) h.node.residents;
    held = ap (λ (n : Node P S). map on_errand n.held.items) same ∙ h.node.held;
    given = λ i. ap (λ (n : Node P S). on_given (slice_index_or n.given.items i None)) same ∙ h.node.given i;
    choices = ap (λ (n : Node P S). n.choices) same ∙ h.node.choices;
  };
  moved = record {
    sends = posts ∙ ap (λ (l : List (Letter Message Reply)). l ++ sends) h.moved.sends
        ∙ ap (λ (l : List (Letter Message Reply)). map (sent f.settings.nodes) (mails_of v.deeds) ++ l) does.sends
        ∙ sym (acts_sent f.settings.nodes work.acts v.deeds);
    entries = ap (λ (d : Moved). d.entries.items) others ∙ h.moved.entries ∙ sym (acts_entries work.acts v.deeds);
    aside = ap (λ (d : Moved). d.aside.items) others ∙ h.moved.aside ∙ sym (acts_aside work.acts v.deeds);
  };
}

-- at any moment it may note how many entries it applied
pub record CanNote {P S : Type 0} (s : Work P S) : Type 0 where
  pub member : IsMember s.node.member
  pub from : s.node.member.applied ≤ s.node.copies.applied
  pub to : s.node.copies.applied ≤ s.node.member.accepted
  pub small : s.node.copies.applied < 2 ^ 62

pub can_note : {P S : Type 0} (stood : Stood S) (left : Left S) (f : Frame) (fitness : Fitness) (m : ℕ) (s : Work P S) (hand : List Errand) (u : Moment) → IsAt stood left f fitness m s hand u → CanNote s
can_note stood left f fitness m s hand u at =
    let now = at.fits u (Stays u) in
    let member = at.work.node.member in
    let applied = member.applied in
    let accepted = member.accepted in
    let copied = ap (λ (c : Copied). c.applied) at.work.node.copies in
    let noted = now.noted in
    let within = now.within in
    let small = now.small.accepted in
    record {
      member = member.member;
      from = omega (arith, applied, copied, noted);
      to = omega (arith, accepted, copied, within);
      small = omega (arith, copied, within, small);
    }

-- where it notes, the rules do, and where it doesn't, they don't
pub noted_then : (f : Frame) (m : ℕ) (v : NodeWork) → v.node.member.applied < v.node.copies.applied → notes f m v ≡ joins (note (group f) m v.node.copies.applied v.node.member) v
noted_then f m v lt = ap (λ (b : Bool). if b then joins (note (group f) m v.node.copies.applied v.node.member) v else v) (lt-ltb v.node.member.applied v.node.copies.applied lt)

pub noted_else : (f : Frame) (m : ℕ) (v : NodeWork) → v.node.copies.applied ≤ v.node.member.applied → notes f m v ≡ v
noted_else f m v le = ap (λ (b : Bool). if b then joins (note (group f) m v.node.copies.applied v.node.member) v else v) (le-ltb v.node.member.applied v.node.copies.applied le)

-- it goes on from a piece
pub goes_at : {P S : Type 0} (stood : Stood S) (left : Left S) (f : Frame) (fitness : Fitness) (m : ℕ) (old new : Work P S) (hand : List Errand) (u v : Moment)
    → Goes f m u v → v.hand ≡ u.hand → IsWork stood left f m new v.work → IsAt stood left f fitness m old hand u → IsAt stood left f fitness m new hand v
goes_at stood left f fitness m old new hand u v go same work at = record {
  work = work;
  errands = at.errands ∙ sym same;
  fits = λ x walk. at.fits x (Then u v x go walk);
}

-- so the note is that of the rules
pub note_goes : {P S : Type 0} (stood : Stood S) (left : Left S) (f : Frame) (fitness : Fitness) (m : ℕ) (old new : Work P S) (hand : List Errand) (u : Moment) (sends : List (Letter Message Reply)) (number : ℕ)
    → number ≡ old.node.copies.applied → old.node.member.applied < number
    → (StandsFor (group f) m old.node.member u.work.node.member → AtWork (group f) m new.node.member sends (note (group f) m number u.work.node.member))
    → new.node ≡ record old.node { member = new.node.member } → new.moved ≡ record old.moved { sends = new.moved.sends } → new.moved.sends.items ≡ old.moved.sends.items ++ sends
    → IsAt stood left f fitness m old hand u → IsAt stood left f fitness m new hand (works (notes f m u.work) u)
note_goes stood left f fitness m old new hand u sends number is below row same others posts at =
    goes_at stood left f fitness m old new hand u (works (notes f m u.work) u) (Notes refl) refl
    (subst (λ (w : NodeWork). IsWork stood left f m new w) (sym one_note)
    (joined stood left f m old new sends work u.work
    (subst (λ (n : ℕ). AtWork (group f) m new.node.member sends (note (group f) m n u.work.node.member)) here (row at.work.node.member))
    same others posts (ap (λ (w : NodeWork). entries_of w.node) (sym one_note) ∙ (at.fits u (Stays u)).kept) at.work)) at
  where
    work : group_work.Work Message
    work = note (group f) m u.work.node.copies.applied u.work.node.member

    here : number ≡ u.work.node.copies.applied
    here = is ∙ ap (λ (c : Copied). c.applied) at.work.node.copies

    one_note : notes f m u.work ≡ joins work u.work
    one_note = (let applied = at.work.node.member.applied in noted_then f m u.work (omega (arith, applied, here, below)))

pub notes_none : {P S : Type 0} (stood : Stood S) (left : Left S) (f : Frame) (fitness : Fitness) (m : ℕ) (s : Work P S) (hand : List Errand) (u : Moment)
    → s.node.copies.applied ≤ s.node.member.applied → IsAt stood left f fitness m s hand u → IsAt stood left f fitness m s hand (works (notes f m u.work) u)
notes_none stood left f fitness m s hand u le at =
    let applied = at.work.node.member.applied in
    let copied = ap (λ (c : Copied). c.applied) at.work.node.copies in
    subst (λ (w : NodeWork). IsAt stood left f fitness m s hand (works w u)) (sym (noted_else f m u.work (omega (arith, le, applied, copied)))) at
