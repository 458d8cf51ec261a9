-- A packet comes to a member: the group's go to its state in the group, Asks and Answers wait.
use Rattle.std.proofs.Common.{◌≡◌, ◌<◌, ◌++◌, ℕ, Bool, List, drop, refl, sym, ap, ◌∙◌, subst}
use Rattle.value_core.specs.declared.action.Reply.{Reply}
use Rattle.value_core.specs.declared.message.Message.{Message}
use Rattle.orca_base.specs.declared.ids.CallNo.{CallNo}
use Rattle.orca_base.specs.declared.ids.ProcessNo.{ProcessNo}
use Rattle.group_packets.specs.declared.packet.Join.{Join as JoinPacket}
use Rattle.group_packets.specs.declared.packet.News.{News as NewsPacket}
use Rattle.group_packets.specs.declared.packet.Packet.{Packet}
use Rattle.group_packets.specs.declared.packet.Packet.TheVariants as V
use Rattle.group_rules.specs.Member.{Kind, Letter, Member as RulesMember, Report}
use Rattle.group_rules.specs.Member.Kind.{Request, Body, Order, Entry, Ack, Accept, Nack, Status, Invite, Join, News}
use Rattle.group_rules.specs.Messages.{Group, group_of}
use Rattle.group_rules.specs.OnWire.{Posted, on_join, on_wire, receive_packet}
use Rattle.group_rules.specs.Steps.{deliver, deliver_kind}
use Rattle.group_rules.specs.Work as group_work
use Rattle.group_member.specs.AtWork.{AtWork, Does}
use Rattle.group_member.specs.StandsFor.{IsMember}
use Rattle.group_member.specs.declared.member.Member.{Member}
use Rattle.group_member.specs.declared.sends.Letter.{Letter as Sent}
use Rattle.group_reset.specs.Calls.{HearsAs, Hears, InvitedAs, Joins, JoinsAs, MayHear, MayJoin}
use Rattle.world_rules.specs.Frame.{Frame, bytes_of, group, name_of}
use Rattle.world_rules.specs.Mail as letters
use Rattle.world_rules.specs.Mail.{Mail, errand_packet, posted}
use Rattle.world_rules.specs.Nodes as nodes
use Rattle.world_rules.specs.Nodes.{NodeWork, idle}
use Rattle.world_rules.specs.Owners.{arrives}
use Rattle.node_rules.specs.Conditions.{Fitness}
use Rattle.node_rules.specs.Starts.{EventFits, JoinFits, KindFits, NewsFits, begun}
use Rattle.node_rules.specs.Starts.Start.{Comes}
use Rattle.node_core.specs.Events.{HasCome, IsTakenBy, MayBeTaken, MayComeFrom, TakesGrouped}
use Rattle.node_core.specs.Pieces.{Becomes}
use Rattle.node_parts.specs.Shown.{Left, Stood}
use Rattle.node_core.specs.Stands.{IsPostOf, IsWork}
use Rattle.node_core.specs.declared.work.Work.{Work}
use Rattle.node_core.proofs.Noting.{joined as joins_group}

abbrev pub Wire : Type 0
Wire = Packet Message Reply

abbrev pub result_packet : NewsPacket Message Reply → Wire
result_packet news = V.Result news

abbrev pub ask_packet : ℕ → ℕ → Message → Wire
ask_packet k place x = V.Ask k place x

abbrev pub answer_packet : ℕ → ℕ → ProcessNo → CallNo → Reply → Wire
answer_packet k place process call reply = V.Answer k place process call reply

-- ---- the kinds of packets

-- a kind whose packet is an Invite is one, of that incarnation
invite_kind : (N inc k : ℕ) (kind : Kind Message) → on_wire {R = Reply} N inc kind ≡ V.Invite k → (kind ≡ Invite) × (inc ≡ k)
invite_kind N inc k Invite is = (refl, cc is)
invite_kind N inc k (Request applied x) is = absurd (cc is)
invite_kind N inc k (Body applied x) is = absurd (cc is)
invite_kind N inc k (Order number process call accepted stable) is = absurd (cc is)
invite_kind N inc k (Entry number accepted stable x) is = absurd (cc is)
invite_kind N inc k (Ack count applied) is = absurd (cc is)
invite_kind N inc k (Accept accepted stable) is = absurd (cc is)
invite_kind N inc k (Nack first applied whole) is = absurd (cc is)
invite_kind N inc k (Status count applied) is = absurd (cc is)
invite_kind N inc k (Join report) is = absurd (cc is)
invite_kind N inc k (News accepted base members log) is = absurd (cc is)

-- likewise of a Join, which carries its report
join_kind : (N inc : ℕ) (kind : Kind Message) (join : JoinPacket Message Reply) → on_wire N inc kind ≡ V.Join join
    → (report : Report Message) × (kind ≡ Join report) × (on_join inc report ≡ join)
join_kind N inc (Join report) join is = (report, refl, cc is)
join_kind N inc Invite join is = absurd (cc is)
join_kind N inc (Request applied x) join is = absurd (cc is)
join_kind N inc (Body applied x) join is = absurd (cc is)
join_kind N inc (Order number process call accepted stable) join is = absurd (cc is)
join_kind N inc (Entry number accepted stable x) join is = absurd (cc is)
join_kind N inc (Ack count applied) join is = absurd (cc is)
join_kind N inc (Accept accepted stable) join is = absurd (cc is)
join_kind N inc (Nack first applied whole) join is = absurd (cc is)
join_kind N inc (Status count applied) join is = absurd (cc is)
join_kind N inc (News accepted base members log) join is = absurd (cc is)

-- and of a Result, which carries these numbers, members and log
pub record IsResult (N inc : ℕ) (kind : Kind Message) (news : NewsPacket Message Reply) : Type 0 where
  pub accepted : ℕ
  pub base : ℕ
  pub named : ℕ → Bool
  pub log : List Message
  pub kind_is : kind ≡ News accepted base named log
  pub carries : on_wire N inc (News accepted base named log) ≡ V.Result news

result_kind : (N inc : ℕ) (kind : Kind Message) (news : NewsPacket Message Reply) → on_wire N inc kind ≡ V.Result news → IsResult N inc kind news
result_kind N inc (News accepted base members log) news is = record { accepted = accepted; base = base; named = members; log = log; kind_is = refl; carries = is }
result_kind N inc Invite news is = absurd (cc is)
result_kind N inc (Request applied x) news is = absurd (cc is)
result_kind N inc (Body applied x) news is = absurd (cc is)
result_kind N inc (Order number process call accepted stable) news is = absurd (cc is)
result_kind N inc (Entry number accepted stable x) news is = absurd (cc is)
result_kind N inc (Ack count applied) news is = absurd (cc is)
result_kind N inc (Accept accepted stable) news is = absurd (cc is)
result_kind N inc (Nack first applied whole) news is = absurd (cc is)
result_kind N inc (Status count applied) news is = absurd (cc is)
result_kind N inc (Join report) news is = absurd (cc is)

-- the packet is no Invite, Join or Result
abbrev pub IsPlain : Wire → Type 0
IsPlain (V.Invite k) = ⊥
IsPlain (V.Join join) = ⊥
IsPlain (V.Result news) = ⊥
IsPlain packet = Unit {0}

-- what is none of these is
pub plain_else : (packet : Wire) → ((k : ℕ) → packet ≡ V.Invite k → ⊥) → ((join : JoinPacket Message Reply) → packet ≡ V.Join join → ⊥)
    → ((news : NewsPacket Message Reply) → packet ≡ V.Result news → ⊥) → IsPlain packet
plain_else (V.Invite k) invite joins result = invite k refl
plain_else (V.Join join) invite joins result = joins join refl
plain_else (V.Result news) invite joins result = result news refl
plain_else (V.Request k applied x) invite joins result = tt
plain_else (V.Body k applied x) invite joins result = tt
plain_else (V.Order k number process call accepted stable) invite joins result = tt
plain_else (V.Entry k number accepted stable x) invite joins result = tt
plain_else (V.Ack k count applied) invite joins result = tt
plain_else (V.Accept k accepted stable) invite joins result = tt
plain_else (V.Nack k first applied whole) invite joins result = tt
plain_else (V.Status k count applied) invite joins result = tt
plain_else (V.Ask k place x) invite joins result = tt
plain_else (V.Answer k place process call reply) invite joins result = tt

-- any other kind is received as it travels
plain_kind : (g : Group Message) (m from N inc : ℕ) (kind : Kind Message) (s : RulesMember Message) → IsPlain (on_wire N inc kind)
    → receive_packet g m from (on_wire {R = Reply} N inc kind) s ≡ deliver_kind g m from inc kind s
plain_kind g m from N inc (Request applied x) s plain = refl
plain_kind g m from N inc (Body applied x) s plain = refl
plain_kind g m from N inc (Order number process call accepted stable) s plain = refl
plain_kind g m from N inc (Entry number accepted stable x) s plain = refl
plain_kind g m from N inc (Ack count applied) s plain = refl
plain_kind g m from N inc (Accept accepted stable) s plain = refl
plain_kind g m from N inc (Nack first applied whole) s plain = refl
plain_kind g m from N inc (Status count applied) s plain = refl
plain_kind g m from N inc Invite s plain = absurd plain
plain_kind g m from N inc (Join report) s plain = absurd plain
plain_kind g m from N inc (News accepted base members log) s plain = absurd plain

-- no kind is an Ask or an Answer
no_ask : (N inc k place : ℕ) (x : Message) (kind : Kind Message) → on_wire {R = Reply} N inc kind ≡ V.Ask k place x → ⊥
no_ask N inc k place x (Request applied y) is = absurd (cc is)
no_ask N inc k place x (Body applied y) is = absurd (cc is)
no_ask N inc k place x (Order number process call accepted stable) is = absurd (cc is)
no_ask N inc k place x (Entry number accepted stable y) is = absurd (cc is)
no_ask N inc k place x (Ack count applied) is = absurd (cc is)
no_ask N inc k place x (Accept accepted stable) is = absurd (cc is)
no_ask N inc k place x (Nack first applied whole) is = absurd (cc is)
no_ask N inc k place x (Status count applied) is = absurd (cc is)
no_ask N inc k place x Invite is = absurd (cc is)
no_ask N inc k place x (Join report) is = absurd (cc is)
no_ask N inc k place x (News accepted base members log) is = absurd (cc is)

no_answer : (N inc k place : ℕ) (process : ProcessNo) (call : CallNo) (reply : Reply) (kind : Kind Message) → on_wire {R = Reply} N inc kind ≡ V.Answer k place process call reply → ⊥
no_answer N inc k place process call reply (Request applied y) is = absurd (cc is)
no_answer N inc k place process call reply (Body applied y) is = absurd (cc is)
no_answer N inc k place process call reply (Order number i n accepted stable) is = absurd (cc is)
no_answer N inc k place process call reply (Entry number accepted stable y) is = absurd (cc is)
no_answer N inc k place process call reply (Ack count applied) is = absurd (cc is)
no_answer N inc k place process call reply (Accept accepted stable) is = absurd (cc is)
no_answer N inc k place process call reply (Nack first applied whole) is = absurd (cc is)
no_answer N inc k place process call reply (Status count applied) is = absurd (cc is)
no_answer N inc k place process call reply Invite is = absurd (cc is)
no_answer N inc k place process call reply (Join report) is = absurd (cc is)
no_answer N inc k place process call reply (News accepted base members log) is = absurd (cc is)

-- ---- the member takes it

-- a letter is delivered by its kind
as_kind : (g : Group Message) (m from k : ℕ) (letter : Letter Message) (kind : Kind Message) (s : RulesMember Message) → letter.packet.from ≡ from → letter.packet.inc ≡ k → letter.packet.kind ≡ kind
    → deliver_kind g m from k kind s ≡ deliver g m letter.packet s
as_kind g m from k letter kind s one two three =
    ap (λ (n : ℕ). deliver_kind g m n k kind s) (sym one) ∙ ap (λ (n : ℕ). deliver_kind g m letter.packet.from n kind s) (sym two)
    ∙ ap (λ (c : Kind Message). deliver_kind g m letter.packet.from letter.packet.inc c s) (sym three)

pub taken_invite : (from k : ℕ) (old new : Member Message Reply) (sent : List (Sent Message Reply)) → InvitedAs name_of bytes_of from k old new sent → TakesGrouped from (V.Invite k) old new sent
taken_invite from k old new sent row nodes resilience which letter m is =
    let g : Group Message = group_of name_of bytes_of nodes resilience in
    let kind = invite_kind nodes letter.packet.inc k letter.packet.kind is.wire in
    subst (λ (w : group_work.Work Message). AtWork g which new sent w) (as_kind g which from k letter Invite m is.from_is kind.1 kind.0) (row nodes resilience which m is.stands)

-- what a Join asks, by the letter
joins_is : (nodes resilience which from : ℕ) (join : JoinPacket Message Reply) (letter : Letter Message) (s : Member Message Reply) (m : RulesMember Message)
    → IsTakenBy nodes resilience which from (V.Join join) letter s m
    → (report : Report Message) × (letter.packet.kind ≡ Join report) × (letter.packet.inc ≡ join.incarnation) × Joins (group_of name_of bytes_of nodes resilience) which from join s m report
joins_is nodes resilience which from join letter s m is =
    let g : Group Message = group_of name_of bytes_of nodes resilience in
    let kind = join_kind nodes letter.packet.inc letter.packet.kind join is.wire in
    let inc : letter.packet.inc ≡ join.incarnation = ap (λ (j : JoinPacket Message Reply). j.incarnation) kind.2 in
    let fits : JoinFits g which letter.packet.from letter.packet.inc kind.0 m = subst (λ (c : Kind Message). KindFits g which letter.packet.from letter.packet.inc c m) kind.1 is.fits.kind in
    let now : JoinFits g which from join.incarnation kind.0 m =
    subst (λ (n : ℕ). JoinFits g which n join.incarnation kind.0 m) is.from_is (subst (λ (n : ℕ). JoinFits g which letter.packet.from n kind.0 m) inc fits) in (
      kind.0,
      kind.1,
      inc,
      record {
        stands = is.stands;
        carries = subst (λ (n : ℕ). on_join n kind.0 ≡ join) inc kind.2;
        based = now.based;
        can = now.can;
      },
    )

pub may_join : (from : ℕ) (join : JoinPacket Message Reply) (s : Member Message Reply) → MayBeTaken from (V.Join join) s → MayJoin name_of bytes_of from join s
may_join from join s (nodes, resilience, which, letter, m, is) =
    (let one = joins_is nodes resilience which from join letter s m is in (nodes, resilience, which, m, one.0, one.3))

pub taken_join : (from : ℕ) (join : JoinPacket Message Reply) (old new : Member Message Reply) (sent : List (Sent Message Reply)) → JoinsAs name_of bytes_of from join old new sent
    → TakesGrouped from (V.Join join) old new sent
taken_join from join old new sent row nodes resilience which letter m is =
    let g : Group Message = group_of name_of bytes_of nodes resilience in
    let one = joins_is nodes resilience which from join letter old m is in
    subst (λ (w : group_work.Work Message). AtWork g which new sent w) (as_kind g which from join.incarnation letter (Join one.0) m is.from_is one.2 one.1)
    (row nodes resilience which m one.0 one.3)

-- what a Result asks
pub record HearsLetter (nodes resilience which from : ℕ) (news : NewsPacket Message Reply) (letter : Letter Message) (s : Member Message Reply) (m : RulesMember Message) : Type 0 where
  pub named : ℕ → Bool
  pub log : List Message
  pub kind_is : letter.packet.kind ≡ News news.accepted news.base named log
  pub inc : letter.packet.inc ≡ news.incarnation
  pub hears : Hears (group_of name_of bytes_of nodes resilience) which news s m named log

hears_is : (nodes resilience which from : ℕ) (news : NewsPacket Message Reply) (letter : Letter Message) (s : Member Message Reply) (m : RulesMember Message)
    → IsTakenBy nodes resilience which from (V.Result news) letter s m → HearsLetter nodes resilience which from news letter s m
hears_is nodes resilience which from news letter s m is =
    let g : Group Message = group_of name_of bytes_of nodes resilience in
    let one = result_kind nodes letter.packet.inc letter.packet.kind news is.wire in
    let carried = result_same _ news one.carries in
    let inc : letter.packet.inc ≡ news.incarnation = ap (λ (n : NewsPacket Message Reply). n.incarnation) carried in
    let accepted : one.accepted ≡ news.accepted = ap (λ (n : NewsPacket Message Reply). n.accepted) carried in
    let base : one.base ≡ news.base = ap (λ (n : NewsPacket Message Reply). n.base) carried in
    let fits : NewsFits g which letter.packet.inc one.accepted one.base one.log m = subst (λ (c : Kind Message). KindFits g which letter.packet.from letter.packet.inc c m) one.kind_is is.fits.kind in
    let now : NewsFits g which news.incarnation news.accepted news.base one.log m =
    subst (λ (n : ℕ). NewsFits g which news.incarnation news.accepted n one.log m) base
    (subst (λ (n : ℕ). NewsFits g which news.incarnation n one.base one.log m) accepted (subst (λ (n : ℕ). NewsFits g which n one.accepted one.base one.log m) inc fits)) in
    record {
      named = one.named;
      log = one.log;
      kind_is = one.kind_is ∙ ap (λ (n : ℕ). News n one.base one.named one.log) accepted ∙ ap (λ (n : ℕ). News news.accepted n one.named one.log) base;
      inc = inc;
      hears = record {
        stands = is.stands;
        members = ap (λ (n : NewsPacket Message Reply). n.members) carried;
        messages = ap (λ (n : ℕ). drop n one.log) (sym base) ∙ ap (λ (n : NewsPacket Message Reply). n.messages) carried;
        base = now.whole;
        accepted = now.accepts;
        window = now.window;
        other = now.other;
        reaches = now.reaches;
        continues = now.continues;
      };
    }
  where
    result_same : (a b : NewsPacket Message Reply) → result_packet a ≡ result_packet b → a ≡ b
    result_same a b e = cc e

pub may_hear : (from : ℕ) (news : NewsPacket Message Reply) (s : Member Message Reply) → MayBeTaken from (V.Result news) s → MayHear name_of bytes_of news s
may_hear from news s (nodes, resilience, which, letter, m, is) =
    (let one = hears_is nodes resilience which from news letter s m is in (nodes, resilience, which, m, one.named, one.log, one.hears))

pub taken_result : (from : ℕ) (news : NewsPacket Message Reply) (old new : Member Message Reply) (sent : List (Sent Message Reply)) → HearsAs name_of bytes_of from news old new sent
    → TakesGrouped from (V.Result news) old new sent
taken_result from news old new sent row nodes resilience which letter m is =
    let g : Group Message = group_of name_of bytes_of nodes resilience in
    let one = hears_is nodes resilience which from news letter old m is in
    subst (λ (w : group_work.Work Message). AtWork g which new sent w) (as_kind g which from news.incarnation letter (News news.accepted news.base one.named one.log) m is.from_is one.inc one.kind_is)
    (row nodes resilience which m one.named one.log one.hears)

pub taken_plain : (from : ℕ) (packet : Wire) (old new : Member Message Reply) (sent : List (Sent Message Reply)) → IsPlain packet
    → Does name_of bytes_of old new sent (λ g which. receive_packet g which from packet) → TakesGrouped from packet old new sent
taken_plain from packet old new sent plain row nodes resilience which letter m is =
    let g : Group Message = group_of name_of bytes_of nodes resilience in
    subst (λ (w : group_work.Work Message). AtWork g which new sent w)
    (ap (λ (p : Wire). receive_packet g which from p m) (sym is.wire)
    ∙ plain_kind g which from nodes letter.packet.inc letter.packet.kind m (subst IsPlain (sym is.wire) plain)
    ∙ as_kind g which from letter.packet.inc letter letter.packet.kind m is.from_is refl refl)
    (row nodes resilience which m is.stands)

pub taken_member : (from : ℕ) (packet : Wire) (s : Member Message Reply) → MayBeTaken from packet s → IsMember s
taken_member from packet s (nodes, resilience, which, letter, m, is) = is.stands.member

pub taken_from : (from : ℕ) (packet : Wire) (s : Member Message Reply) → MayBeTaken from packet s → from < s.config.nodes
taken_from from packet s (nodes, resilience, which, letter, m, is) =
    subst (λ (n : ℕ). from < n) (sym is.stands.nodes) (subst (λ (n : ℕ). n < nodes) is.from_is is.fits.from)

-- ---- at the node

-- the packet is an Ask or an Answer
abbrev pub IsOfGroup : Wire → Type 0
IsOfGroup (V.Ask k place x) = ⊥
IsOfGroup (V.Answer k place process call reply) = ⊥
IsOfGroup packet = Unit {0}

-- what is none of these is the group's
pub grouped_else : (packet : Wire) → ((k place : ℕ) (x : Message) → packet ≡ V.Ask k place x → ⊥)
    → ((k place : ℕ) (process : ProcessNo) (call : CallNo) (reply : Reply) → packet ≡ V.Answer k place process call reply → ⊥) → IsOfGroup packet
grouped_else (V.Ask k place x) asks answers = asks k place x refl
grouped_else (V.Answer k place process call reply) asks answers = answers k place process call reply refl
grouped_else (V.Request k applied x) asks answers = tt
grouped_else (V.Body k applied x) asks answers = tt
grouped_else (V.Order k number process call accepted stable) asks answers = tt
grouped_else (V.Entry k number accepted stable x) asks answers = tt
grouped_else (V.Ack k count applied) asks answers = tt
grouped_else (V.Accept k accepted stable) asks answers = tt
grouped_else (V.Nack k first applied whole) asks answers = tt
grouped_else (V.Status k count applied) asks answers = tt
grouped_else (V.Invite k) asks answers = tt
grouped_else (V.Join join) asks answers = tt
grouped_else (V.Result news) asks answers = tt

errand_not : (k : ℕ) (errand : letters.Errand) → IsOfGroup (errand_packet k errand) → ⊥
errand_not k (letters.Errand.Ask place x) h = h
errand_not k (letters.Errand.Answer place process call reply) h = h

-- a packet of the group is that of a letter
pub record IsLetterOf (N m from : ℕ) (packet : Wire) (mail : Mail) : Type 0 where
  pub letter : Letter Message
  pub mail_is : mail ≡ Mail.Grouped letter
  pub from_is : letter.packet.from ≡ from
  pub wire : on_wire N letter.packet.inc letter.packet.kind ≡ packet

pub letter_of : (N m from : ℕ) (packet : Wire) (mail : Mail) → IsOfGroup packet → IsPostOf N m from packet mail → IsLetterOf N m from packet mail
letter_of N m from packet (Mail.Grouped letter) grouped is = record { letter = letter; mail_is = refl; from_is = ap (λ (p : Posted Message Reply). p.from) is; wire = ap (λ (p : Posted Message Reply). p.packet) is }
letter_of N m from packet (Mail.Sends k source to errand) grouped is = absurd (errand_not k errand (subst IsOfGroup (sym (ap (λ (p : Posted Message Reply). p.packet) is)) grouped))

taken_as : {P S : Type 0} (stood : Stood S) (left : Left S) (f : Frame) (fitness : Fitness) (from m : ℕ) (packet : Wire) (mail : Mail) (s : Work P S) (v : nodes.Node)
    → (one : IsLetterOf f.settings.nodes m from packet mail) → IsWork stood left f m s (idle v) → EventFits f fitness m (Comes mail) v
    → IsTakenBy f.settings.nodes f.settings.resilience m from packet one.letter s.node.member v.member
taken_as stood left f fitness from m packet mail s v one work fits = record {
  stands = work.node.member;
  fits = (subst (λ (x : Mail). EventFits f fitness m (Comes x) v) one.mail_is fits).first;
  from_is = one.from_is;
  wire = one.wire;
}

pub may_be_taken : {P S : Type 0} (stood : Stood S) (left : Left S) (f : Frame) (fitness : Fitness) (from : ℕ) (packet : Wire) (s : Work P S) → IsOfGroup packet
    → MayComeFrom stood left f fitness from packet s → MayBeTaken from packet s.node.member
may_be_taken stood left f fitness from packet s grouped (mail, m, v, post, work, fits) =
    (let one = letter_of f.settings.nodes m from packet mail grouped post in
    (f.settings.nodes, f.settings.resilience, m, one.letter, v.member, taken_as stood left f fitness from m packet mail s v one work fits))

-- the member took it, and what that sends is posted
pub come_grouped : {P S : Type 0} (stood : Stood S) (left : Left S) (f : Frame) (fitness : Fitness) (from : ℕ) (packet : Wire) (old new : Work P S) (sent : List (Sent Message Reply)) → IsOfGroup packet
    → TakesGrouped from packet old.node.member new.node.member sent → new.node ≡ record old.node { member = new.node.member }
    → new.moved ≡ record old.moved { sends = new.moved.sends } → new.moved.sends.items ≡ old.moved.sends.items ++ sent → HasCome stood left f fitness from packet old new
come_grouped stood left f fitness from packet old new sent grouped row node others posts mail m v post work fits =
    let one = letter_of f.settings.nodes m from packet mail grouped post in
    let taken = taken_as stood left f fitness from m packet mail old v one work fits in
    let here = subst (λ (x : Mail). EventFits f fitness m (Comes x) v) one.mail_is fits in
    subst (λ (x : Mail). IsWork stood left f m new (begun f m (Comes x) v)) (sym one.mail_is)
    (joins_group stood left f m old new sent (deliver (group f) m one.letter.packet v.member) (idle v)
    (row f.settings.nodes f.settings.resilience m one.letter v.member taken) node others posts here.kept work)

-- an Ask or an Answer arrives
ask_is : (N m from k place : ℕ) (x : Message) (mail : Mail) (v : nodes.Node) (f : Frame) → IsPostOf N m from (V.Ask k place x) mail
    → arrives (letters.Errand.Ask place x) (idle v) ≡ begun f m (Comes mail) v
ask_is N m from k place x (Mail.Grouped letter) v f is = absurd (no_ask N letter.packet.inc k place x letter.packet.kind (ap (λ (p : Posted Message Reply). p.packet) is))
ask_is N m from k place x (Mail.Sends j source to (letters.Errand.Ask number y)) v f is = ap (λ (e : letters.Errand). arrives e (idle v)) (same (ap (λ (p : Posted Message Reply). p.packet) is))
  where
    same : ask_packet j number y ≡ ask_packet k place x → letters.Errand.Ask place x ≡ letters.Errand.Ask number y
    same e = cc e
ask_is N m from k place x (Mail.Sends j source to (letters.Errand.Answer number process call reply)) v f is = (let e = ap (λ (p : Posted Message Reply). p.packet) is in absurd (cc e))

pub come_ask : {P S : Type 0} (stood : Stood S) (left : Left S) (f : Frame) (fitness : Fitness) (from k place : ℕ) (x : Message) (old new : Work P S)
    → Becomes stood left old new (λ g m. arrives (letters.Errand.Ask place x)) → HasCome stood left f fitness from (V.Ask k place x) old new
come_ask stood left f fitness from k place x old new becomes mail m v post work fits =
    subst (λ (w : NodeWork). IsWork stood left f m new w) (ask_is f.settings.nodes m from k place x mail v f post) (becomes f m (idle v) work)

answer_is : (N m from k place : ℕ) (process : ProcessNo) (call : CallNo) (reply : Reply) (mail : Mail) (v : nodes.Node) (f : Frame) → IsPostOf N m from (V.Answer k place process call reply) mail
    → arrives (letters.Errand.Answer place process call reply) (idle v) ≡ begun f m (Comes mail) v
answer_is N m from k place process call reply (Mail.Grouped letter) v f is = absurd (no_answer N letter.packet.inc k place process call reply letter.packet.kind (ap (λ (p : Posted Message Reply). p.packet) is))
answer_is N m from k place process call reply (Mail.Sends j source to (letters.Errand.Answer number i n second)) v f is = ap (λ (e : letters.Errand). arrives e (idle v)) (same (ap (λ (p : Posted Message Reply). p.packet) is))
  where
    same : answer_packet j number i n second ≡ answer_packet k place process call reply → letters.Errand.Answer place process call reply ≡ letters.Errand.Answer number i n second
    same e = cc e
answer_is N m from k place process call reply (Mail.Sends j source to (letters.Errand.Ask number y)) v f is = (let e = ap (λ (p : Posted Message Reply). p.packet) is in absurd (cc e))

pub come_answer : {P S : Type 0} (stood : Stood S) (left : Left S) (f : Frame) (fitness : Fitness) (from k place : ℕ) (process : ProcessNo) (call : CallNo) (reply : Reply) (old new : Work P S)
    → Becomes stood left old new (λ g m. arrives (letters.Errand.Answer place process call reply)) → HasCome stood left f fitness from (V.Answer k place process call reply) old new
come_answer stood left f fitness from k place process call reply old new becomes mail m v post work fits =
    subst (λ (w : NodeWork). IsWork stood left f m new w) (answer_is f.settings.nodes m from k place process call reply mail v f post) (becomes f m (idle v) work)
