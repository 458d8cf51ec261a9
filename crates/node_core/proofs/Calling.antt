-- Calls on single objects at work: what is sent and kept, and lines that are handed on.
use Rattle.std.proofs.Common.{◌≡◌, ◌++◌, ◌∷◌, ◌==◌, ℕ, Bool, true, false, List, [], map, Option, Some, None, refl, sym, ap, ◌∙◌, subst, if◌then◌else◌}
use Rattle.std.proofs.lemmas.Bool.{eq-eqb, ne_eqb}
use Rattle.std.proofs.lemmas.List.{map-append}
use Rattle.orca_base.specs.declared.ids.CallNo.{CallNo}
use Rattle.orca_base.specs.declared.ids.ProcessNo.{ProcessNo}
use Rattle.value_core.specs.Meaning.{Performs as Meant}
use Rattle.value_core.specs.declared.action.Line.{Line}
use Rattle.value_core.specs.declared.action.Reply.{Reply}
use Rattle.value_core.specs.declared.message.Message.{Message}
use Rattle.guard_queue.specs.Settles.{lines_of}
use Rattle.guard_queue.specs.declared.settling.Answered.{Answered}
use Rattle.object_manager.specs.After.{Copied}
use Rattle.object_manager.specs.Applies.{AppliesSingle, CopiesBlocked, CopiesFit}
use Rattle.object_manager.specs.Singles.{after_single, lines_single}
use Rattle.book_law.specs.Fitness.{ReplyFits}
use Rattle.group_member.specs.StandsFor.{StandsFor}
use Rattle.group_member.specs.declared.sends.Letter.{Letter}
use Rattle.group_packets.specs.declared.packet.Packet.{Packet}
use Rattle.group_rules.specs.Sets.{with_at}
use Rattle.world_rules.specs.Frame.{Frame, group}
use Rattle.world_rules.specs.Mail.{Errand, Mail, errand_packet}
use Rattle.world_rules.specs.Mail.Errand.{Answer}
use Rattle.world_rules.specs.Nodes as nodes
use Rattle.world_rules.specs.Nodes.{Deed, NodeWork, becomes, changes, does, known, mails_of}
use Rattle.world_rules.specs.Nodes.Deed.{Mails, Performs}
use Rattle.world_rules.specs.Owners.{hands, hands_all, performs_call, sends, sends_given}
use Rattle.world_rules.specs.Played.{receives}
use Rattle.world_rules.specs.Processes.{Begun, home_in}
use Rattle.node_rules.specs.Conditions.{Fitness}
use Rattle.node_core.specs.Calls.{HasKept, MayPerformCall, given_at, gives_kept}
use Rattle.node_core.specs.Pieces.{Becomes, BecomesIn, MayBeHanded, resident_at}
use Rattle.node_parts.specs.Shown.{IsPlayedIf, Left, Stood, on_errand, on_given}
use Rattle.node_core.specs.Stands.{IsMoved, IsWork, StandsAs, on_known, sent}
use Rattle.node_parts.specs.declared.errand.Given.{Given}
use Rattle.node_parts.specs.declared.moved.Moved.{Moved}
use Rattle.node_core.specs.declared.node.Node.{Node}
use Rattle.node_core.specs.declared.work.Work.{Work}
use Rattle.node_core.proofs.Handing.{MayHandRest, hand_first, hand_from, hand_rest, one_hands}
use Rattle.node_core.proofs.Trying.{performed}

-- ---- an Ask or an Answer is sent

pub mailed : {P S : Type 0} (stood : Stood S) (left : Left S) (f : Frame) (m to : ℕ) (errand : Errand) (packet : Packet Message Reply) (old new : Work P S) (v : NodeWork)
    → packet ≡ errand_packet old.node.member.installed errand → new.node ≡ old.node → new.moved.sends.items ≡ old.moved.sends.items ++ record { to = to; packet = packet } ∷ []
    → new.moved ≡ record old.moved { sends = new.moved.sends } → IsWork stood left f m old v → IsWork stood left f m new (sends m to errand v)
mailed {P} {S} stood left f m to errand packet old new v is same posts others h = record {
  node = subst (λ (n : Node P S). StandsAs stood left f m n v.node) (sym same) h.node;
  moved = record {
    sends = posts ∙ ap (λ (l : List (Letter Message Reply)). l ++ record { to = to; packet = packet } ∷ []) h.moved.sends
        ∙ ap (λ (p : Packet Message Reply). map (sent f.settings.nodes) (mails_of v.deeds) ++ record { to = to; packet = p } ∷ [])
        (is ∙ ap (λ (k : ℕ). errand_packet k errand) (sym h.node.member.installed))
        ∙ sym (map-append (sent f.settings.nodes) (mails_of v.deeds) (Mail.Sends v.node.member.installed m to errand ∷ []));
    entries = ap (λ (d : Moved). d.entries.items) others ∙ h.moved.entries;
    aside = ap (λ (d : Moved). d.aside.items) others ∙ h.moved.aside;
  };
}

-- ---- an Answer is kept

-- as the world has it
abbrev pub shown : Given → nodes.Given
shown given = record { place = given.place; call = given.call; reply = given.reply }

given_here : (k i : ℕ) (g : Given) (olds : ℕ → Option Given) (given : ℕ → Option nodes.Given) → on_given (olds i) ≡ given i
    → on_given (with_at olds k (Some g) i) ≡ with_at given k (Some (shown g)) i
given_here k i g olds given is = go (i == k)
  where
    go : (t : Bool) → on_given (if t then Some g else olds i) ≡ (if t then Some (shown g) else given i)
    go true = refl
    go false = is

-- the work with this Answer kept
abbrev pub keeps : ℕ → nodes.Given → NodeWork → NodeWork
keeps process given v = becomes (record v.node { given = with_at v.node.given process (Some given) }) v

pub kept : {P S : Type 0} (stood : Stood S) (left : Left S) (f : Frame) (m process : ℕ) (g : Given) (old new : Work P S) (v : NodeWork)
    → HasKept process g old new → IsWork stood left f m old v → IsWork stood left f m new (keeps process (shown g) v)
kept {P} {S} stood left f m process g old new v has h = record {
  node = record {
    member = subst (λ (w : Work P S). StandsFor (group f) m w.node.member v.node.member) (sym has.others) h.node.member;
    copies = ap (λ (w : Work P S). w.node.copies) has.others ∙ h.node.copies;
    known = ap (λ (w : Work P S). w.node.known.items) has.others ∙ h.node.known;
    residents = subst (λ (w : Work P S). (i : ℕ) → IsPlayedIf stood left i (resident_at w.node i) (v.node.played i)) (sym has.others) h.node.residents;
    held = ap (λ (w : Work P S). map on_errand w.node.held.items) has.others ∙ h.node.held;
    given = λ i. ap on_given (has.kept i) ∙ given_here process i g (given_at old.node) v.node.given (h.node.given i);
    choices = ap (λ (w : Work P S). w.node.choices) has.others ∙ h.node.choices;
  };
  moved = subst (λ (w : Work P S). IsMoved f.settings.nodes w.moved v.deeds) (sym has.others) h.moved;
}

-- ---- a kept Answer goes out

pub gives_none : {P S : Type 0} (stood : Stood S) (left : Left S) (f : Frame) (m : ℕ) (process : ProcessNo) (s : Work P S) (v : NodeWork)
    → given_at s.node process.0 ≡ None → IsWork stood left f m s v → IsWork stood left f m s (gives_kept f m process (v.node.given process.0) v)
gives_none stood left f m process s v is h =
    subst (λ (o : Option nodes.Given). IsWork stood left f m s (gives_kept f m process o v)) (sym (ap on_given is) ∙ h.node.given process.0) h

pub gives_some : {P S : Type 0} (stood : Stood S) (left : Left S) (f : Frame) (m home : ℕ) (process : ProcessNo) (g : Given) (packet : Packet Message Reply) (old new : Work P S) (v : NodeWork)
    → given_at old.node process.0 ≡ Some g
    → ((processes : List Begun) → old.node.known.items ≡ map on_known processes → home ≡ home_in processes process.0)
    → packet ≡ errand_packet old.node.member.installed (Answer g.place process g.call g.reply)
    → new.node ≡ old.node → new.moved.sends.items ≡ old.moved.sends.items ++ record { to = home; packet = packet } ∷ []
    → new.moved ≡ record old.moved { sends = new.moved.sends } → IsWork stood left f m old v → IsWork stood left f m new (gives_kept f m process (v.node.given process.0) v)
gives_some stood left f m home process g packet old new v at lives is same posts others h =
    subst (λ (o : Option nodes.Given). IsWork stood left f m new (gives_kept f m process o v)) (sym (ap on_given at) ∙ h.node.given process.0)
    (subst (λ (to : ℕ). IsWork stood left f m new (sends_given m to process (shown g) v)) (lives (known f v.node) h.node.known)
    (mailed stood left f m home (Answer g.place process g.call g.reply) packet old new v is same posts others h))

-- ---- a line is handed on

-- it stands beside the list
abbrev pub told_beside : Line → NodeWork → NodeWork
told_beside line v = does (Performs (record { place = v.node.copies.applied; line = line })) v

-- its process is this member's
pub hands_here : {P S : Type 0} (stood : Stood S) (left : Left S) (f : Frame) (m home me place : ℕ) (line : Line) (reply : Reply) (old mid new : Work P S) (v : NodeWork)
    → mid.node ≡ old.node → mid.moved.aside.items ≡ old.moved.aside.items ++ record { place = old.node.copies.applied; line = line } ∷ []
    → mid.moved ≡ record old.moved { aside = mid.moved.aside } → place ≡ old.node.copies.applied → reply ≡ line.reply
    → ((processes : List Begun) → mid.node.known.items ≡ map on_known processes → home ≡ home_in processes line.process.0) → me ≡ mid.node.member.me → home ≡ me
    → Becomes stood left mid new (λ g n. changes (receives place reply) line.process.0) → IsWork stood left f m old v → IsWork stood left f m new (hands f m line v)
hands_here {P} {S} stood left f m home me place line reply old mid new v same aside others at gets lives mine here becomes h =
    subst (λ (b : Bool). IsWork stood left f m new (if b then changes (receives v.node.copies.applied line.reply) line.process.0 (told_beside line v) else away)) (sym is)
    (subst (λ (x : Reply). IsWork stood left f m new (changes (receives v.node.copies.applied x) line.process.0 (told_beside line v))) gets
    (subst (λ (n : ℕ). IsWork stood left f m new (changes (receives n reply) line.process.0 (told_beside line v))) (at ∙ ap (λ (c : Copied). c.applied) h.node.copies)
    (becomes f m (told_beside line v) told)))
  where
    told : IsWork stood left f m mid (told_beside line v)
    told = performed stood left f m old mid line v same aside others h

    away : NodeWork
    away = (let given : nodes.Given = record { place = v.node.copies.applied; call = line.call; reply = line.reply } in
        sends_given m (home_in (known f v.node) line.process.0) line.process given (keeps line.process.0 given (told_beside line v)))

    is : (home_in (known f v.node) line.process.0 == m) ≡ true
    is = eq-eqb (home_in (known f v.node) line.process.0) m (sym (lives (known f v.node) told.node.known) ∙ here ∙ mine ∙ told.node.member.me)

-- it is another member's
pub hands_away : {P S : Type 0} (stood : Stood S) (left : Left S) (f : Frame) (m home me : ℕ) (line : Line) (g : Given) (old mid with_given new : Work P S) (v : NodeWork)
    → mid.node ≡ old.node → mid.moved.aside.items ≡ old.moved.aside.items ++ record { place = old.node.copies.applied; line = line } ∷ []
    → mid.moved ≡ record old.moved { aside = mid.moved.aside } → g.place ≡ old.node.copies.applied → g.call ≡ line.call → g.reply ≡ line.reply
    → ((processes : List Begun) → mid.node.known.items ≡ map on_known processes → home ≡ home_in processes line.process.0) → me ≡ mid.node.member.me → (home ≡ me → ⊥)
    → HasKept line.process.0 g mid with_given → Becomes stood left with_given new (λ k n w. gives_kept k n line.process (w.node.given line.process.0) w)
    → IsWork stood left f m old v → IsWork stood left f m new (hands f m line v)
hands_away {P} {S} stood left f m home me line g old mid with_given new v same aside others at number gets lives mine apart has becomes h =
    subst (λ (b : Bool). IsWork stood left f m new (if b then changes (receives v.node.copies.applied line.reply) line.process.0 (told_beside line v) else away)) (sym is)
    (subst (λ (x : nodes.Given). IsWork stood left f m new (sends_given m (home_in (known f v.node) line.process.0) line.process x (keeps line.process.0 x (told_beside line v)))) one
    (subst (λ (o : Option nodes.Given). IsWork stood left f m new (gives_kept f m line.process o (keeps line.process.0 (shown g) (told_beside line v)))) own
    (becomes f m (keeps line.process.0 (shown g) (told_beside line v)) (kept stood left f m line.process.0 g mid with_given (told_beside line v) has told))))
  where
    told : IsWork stood left f m mid (told_beside line v)
    told = performed stood left f m old mid line v same aside others h

    away : NodeWork
    away = (let given : nodes.Given = record { place = v.node.copies.applied; call = line.call; reply = line.reply } in
        sends_given m (home_in (known f v.node) line.process.0) line.process given (keeps line.process.0 given (told_beside line v)))

    is : (home_in (known f v.node) line.process.0 == m) ≡ false
    is = ne_eqb (home_in (known f v.node) line.process.0) m (λ e. apart (lives (known f v.node) told.node.known ∙ e ∙ sym told.node.member.me ∙ sym mine))

    one : shown g ≡ record { place = v.node.copies.applied; call = line.call; reply = line.reply }
    one = (let place : g.place ≡ v.node.copies.applied = at ∙ ap (λ (c : Copied). c.applied) h.node.copies in
        ap (λ (n : ℕ). record { place = n; call = g.call; reply = g.reply }) place
        ∙ ap (λ (n : CallNo). record { place = v.node.copies.applied; call = n; reply = g.reply }) number
        ∙ ap (λ (x : Reply). record { place = v.node.copies.applied; call = line.call; reply = x }) gets)

    own : with_at v.node.given line.process.0 (Some (shown g)) line.process.0 ≡ Some (shown g)
    own = ap (λ (b : Bool). if b then Some (shown g) else v.node.given line.process.0) (eq-eqb line.process.0 line.process.0 refl)

-- ---- the owner performs a call

-- what the call asks of the copies
pub record MayCallSingle (p : Meant) (fitness : Fitness) (x : Message) (c : Copied) : Type 0 where
  pub fits : CopiesFit fitness.state fitness.args c
  pub blocked : CopiesBlocked p c
  pub call : AppliesSingle fitness.args c x.action

pub may_call : {P S : Type 0} (stood : Stood S) (left : Left S) (f : Frame) (fitness : Fitness) (p : Meant) (x : Message) (s : Work P S) → p ≡ f.performs
    → MayPerformCall stood left f fitness x s → MayCallSingle p fitness x s.node.copies
may_call stood left f fitness p x s is (m, v, work, may) =
    subst (λ (c : Copied). MayCallSingle p fitness x c) (sym work.node.copies) (record {
      fits = may.fits;
      blocked = subst (λ (q : Meant). CopiesBlocked q v.node.copies) (sym is) may.blocked;
      call = may.may.call;
    })

-- some of its lines were handed on, and these are left
pub record HandsRest {P S : Type 0} (stood : Stood S) (left : Left S) (f : Frame) (fits_reply : ReplyFits) (x : Message) (old now : Work P S) (rest : List Answered) : Type 0 where
  pub can : (m : ℕ) × (u : NodeWork) × IsWork stood left f m now u × MayHandRest fits_reply u.node.played (lines_of rest)
  pub goes : (m : ℕ) (v : NodeWork) → IsWork stood left f m old v → (u : NodeWork) × IsWork stood left f m now u × (hands_all f m (lines_of rest) u ≡ performs_call f m x v)

-- it takes the call
abbrev pub with_call : Frame → Message → NodeWork → NodeWork
with_call f x v = becomes (record v.node { copies = after_single f.performs v.node.copies x }) v

pub called_here : {P S : Type 0} (stood : Stood S) (left : Left S) (f : Frame) (m : ℕ) (p : Meant) (x : Message) (old now : Work P S) (v : NodeWork) → p ≡ f.performs
    → now ≡ record old { node = record old.node { copies = now.node.copies } } → now.node.copies ≡ after_single p old.node.copies x
    → IsWork stood left f m old v → IsWork stood left f m now (with_call f x v)
called_here {P} {S} stood left f m p x old now v is same after h =
    subst (λ (w : Work P S). IsWork stood left f m w (with_call f x v)) (sym same) (record {
      node = record {
        member = h.node.member;
        copies = after ∙ ap (λ (q : Meant). after_single q old.node.copies x) is ∙ ap (λ (c : Copied). after_single f.performs c x) h.node.copies;
        known = h.node.known;
        residents = h.node.residents;
        held = h.node.held;
        given = h.node.given;
        choices = h.node.choices;
      };
      moved = h.moved;
    })

pub hands_begin : {P S : Type 0} (stood : Stood S) (left : Left S) (f : Frame) (fitness : Fitness) (p : Meant) (x : Message) (old now : Work P S) (all : List Answered) → p ≡ f.performs
    → now ≡ record old { node = record old.node { copies = now.node.copies } } → now.node.copies ≡ after_single p old.node.copies x
    → lines_of all ≡ lines_single p old.node.copies x → MayPerformCall stood left f fitness x old → HandsRest stood left f fitness.reply x old now all
hands_begin {P} {S} stood left f fitness p x old now all is same after lines (m, v, work, may) = record {
  can = (
    m,
    with_call f x v,
    called_here stood left f m p x old now v is same after work,
    subst (λ (l : List Line). MayHandRest fitness.reply v.node.played l) (sym (all_of m v work)) (hand_from fitness.reply v.node (lines_single f.performs v.node.copies x) may.may.lines may.small),
  );
  goes = λ k w h. (
    with_call f x w,
    called_here stood left f k p x old now w is same after h,
    ap (λ (l : List Line). hands_all f k l (with_call f x w)) (all_of k w h),
  );
}
  where
    all_of : (k : ℕ) (w : NodeWork) → IsWork stood left f k old w → lines_of all ≡ lines_single f.performs w.node.copies x
    all_of k w h = lines ∙ ap (λ (q : Meant). lines_single q old.node.copies x) is ∙ ap (λ (c : Copied). lines_single f.performs c x) h.node.copies

-- the next line may be handed on
pub hands_next : {P S : Type 0} (stood : Stood S) (left : Left S) (f : Frame) (fits_reply : ReplyFits) (x : Message) (old now : Work P S) (rest more : List Answered) (one : Answered)
    → rest ≡ one ∷ more → HandsRest stood left f fits_reply x old now rest
    → MayBeHanded stood left fits_reply one.line.process.0 one.line.reply (resident_at now.node one.line.process.0)
hands_next stood left f fits_reply x old now rest more one is h =
    hand_first stood left fits_reply h.can.1.node.played one.line (lines_of more) (resident_at now.node one.line.process.0) (h.can.2.node.residents one.line.process.0)
    (subst (λ (l : List Answered). MayHandRest fits_reply h.can.1.node.played (lines_of l)) is h.can.3)

-- and then the others are left
pub hands_more : {P S : Type 0} (stood : Stood S) (left : Left S) (f : Frame) (fits_reply : ReplyFits) (x : Message) (old now after : Work P S) (rest more : List Answered) (one : Answered)
    → rest ≡ one ∷ more → Becomes stood left now after (λ g m. hands g m one.line) → HandsRest stood left f fits_reply x old now rest
    → HandsRest stood left f fits_reply x old after more
hands_more stood left f fits_reply x old now after rest more one is becomes h = record {
  can =
      (let m = h.can.0 in let u = h.can.1 in (
        m,
        hands f m one.line u,
        becomes f m u h.can.2,
        hand_rest fits_reply u.node.played (hands f m one.line u).node.played one.line (lines_of more) (one_hands f m one.line u)
            (subst (λ (l : List Answered). MayHandRest fits_reply u.node.played (lines_of l)) is h.can.3),
      ));
  goes = λ m v work.
      (let u = (h.goes m v work).0 in
      (hands f m one.line u, becomes f m u (h.goes m v work).1, ap (λ (l : List Answered). hands_all f m (lines_of l) u) (sym is) ∙ (h.goes m v work).2));
}

-- until none is
pub hands_over : {P S : Type 0} (stood : Stood S) (left : Left S) (f : Frame) (fits_reply : ReplyFits) (x : Message) (old now : Work P S) (rest : List Answered) → rest ≡ []
    → HandsRest stood left f fits_reply x old now rest → BecomesIn stood left f old now (λ m. performs_call f m x)
hands_over stood left f fits_reply x old now rest is h m v work =
    subst (λ (w : NodeWork). IsWork stood left f m now w) (ap (λ (l : List Answered). hands_all f m (lines_of l) (h.goes m v work).0) (sym is) ∙ (h.goes m v work).2) (h.goes m v work).1
