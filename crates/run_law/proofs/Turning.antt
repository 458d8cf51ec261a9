-- In a member's part each process goes on to have turns left, or to be busy with all of them: no reply comes to one that computes.
use Rattle.std.proofs.Common.{◌<◌, ◌≡◌, ◌≤◌, ◌⊎◌, inl, inr, ℕ, suc, ◌==◌, ◌||◌, Bool, true, false, nat_lt, List, [], ◌∷◌, length, Option, None, Some, refl, sym, ap, ◌∙◌, subst, arith, if◌then◌else◌, take}
use Rattle.std.specs.Prelude.{option_map}
use Rattle.std.proofs.lemmas.Bool.{cases_eq, cond_both, ltb-true, eqb-true}
use Rattle.value_core.specs.declared.action.Action.{Action}
use Rattle.value_core.specs.declared.action.Action.TheVariants as action
use Rattle.value_core.specs.declared.action.Class.{Class}
use Rattle.value_core.specs.declared.action.Class.TheVariants.{Reads, Writes}
use Rattle.value_core.specs.declared.action.Line.{Line}
use Rattle.value_core.specs.declared.message.Message.{Message}
use Rattle.guard_queue.specs.declared.queue.Suspended.{Suspended}
use Rattle.object_manager.specs.State.{message_of}
use Rattle.group_rules.specs.Steps.{note}
use Rattle.book_law.specs.Course.{Course}
use Rattle.book_law.specs.Events.{In, lines_by}
use Rattle.book_law.specs.Passes.{Test}
use Rattle.world_rules.specs.Applying.{notes}
use Rattle.object_manager.specs.Singles.{after_single, lines_single}
use Rattle.book_law.specs.Singles.{lines_on}
use Rattle.book_law.specs.Replies.{IsReplyTo}
use Rattle.world_course.proofs.Acting.{moving}
use Rattle.world_course.proofs.Asked.{ask_taken, member_here}
use Rattle.world_course.proofs.Carrying.{Carries}
use Rattle.world_course.proofs.Handing.{HandsOn, hands_on}
use Rattle.world_course.proofs.Owning.{OwnLines, TakesHere, own_lines, takes_here}
use Rattle.world_course.proofs.Program.{Program}
use Rattle.world_rules.specs.Frame.{Frame, group}
use Rattle.world_rules.specs.Mail.{Errand, Mail, place_of}
use Rattle.world_rules.specs.Mail.Errand.{Ask, Answer}
use Rattle.world_rules.specs.Nodes.{Node, NodeWork, idle, joins, plays, Given, becomes}
use Rattle.world_rules.specs.Nodes.{known as known_by}
use Rattle.world_rules.specs.Owners.{arrives, holds, is_held, sends, takes, performs_call, takes_call, takes_asked, sends_given, waits_here}
use Rattle.world_rules.specs.Parts.{acts_at, acts_by, acts_of, asks, asks_again_at, asks_again_by, asks_again_of, asks_owner, calls_as}
use Rattle.world_rules.specs.Played.{Played, Stage, moves_to, newborn, next_call}
use Rattle.world_rules.specs.Played.Stage.{Computing, Acting, Submitted, Reading, Asking, Over}
use Rattle.world_rules.specs.Processes.{Begun, home_in, owner_in, singles_of}
use Rattle.world_rules.specs.Worlds.{World}
use Rattle.world_law.specs.Moments.{IsMoment}
use Rattle.world_course.specs.Corresponds.{Corresponds, Agrees, IsMember, Stands}
use Rattle.world_course.specs.Errands.{ErrandStands, IsAsk, MayTake}
use Rattle.world_course.specs.Works.{at_work}
use Rattle.world_course.proofs.Applied.{Applied, AppliedNode, PlaysOn, received}
use Rattle.world_course.proofs.Lifting.{Starts}
use Rattle.world_course.proofs.Listing.{Listed, one_born}
use Rattle.world_course.proofs.Tries.{node_at}
use Rattle.world_course.proofs.Working.{entry_applies}
use Rattle.node_rules.specs.Handing.{waits_with}
use Rattle.node_rules.specs.Moments.{Goes, IsDue, Moment, Walks, born_of, entry_lines, takes_entry}
use Rattle.node_rules.specs.Moments.Goes.{Takes_entry, Tries_read, Notes, Opens, Takes, Holds, Asks_again}
use Rattle.node_rules.specs.Starts.{Start, begun, part}
use Rattle.node_rules.specs.Starts.Start.{Acts, Comes as CameIn, Ticks, Suspects}
use Rattle.world_calls.proofs.Fitting.{entry_replies, listed_at, starts_at, waits_out}
use Rattle.world_calls.proofs.Calling.{MayOwn, own_takes}
use Rattle.world_calls.proofs.Each.{AtEach, goes_each, own, self, with_next}
use Rattle.world_calls.proofs.Going.{At, Known}
use Rattle.orca_base.specs.declared.ids.CallNo.{CallNo}
use Rattle.value_core.specs.declared.action.Reply.{Reply}
use Rattle.value_core.specs.declared.meaning.Doing.TheVariants as doing
use Rattle.value_core.specs.declared.meaning.Tried.{Tried}
use Rattle.guard_queue.specs.Settles.{is_blocked}
use Rattle.book_law.specs.Events.{Runner}
use Rattle.world_rules.specs.Applying.{performs_read, tries_as, tries_of, tries_read}
use Rattle.world_rules.specs.Bursts.{read_line, read_on}
use Rattle.world_rules.specs.Owners.{hears_as, hears_of}
use Rattle.world_rules.specs.Played.{receives}
use Rattle.world_law.proofs.Maps.{at_both}
use Rattle.node_rules.specs.Conditions.{Fitness}
use Rattle.world_calls.proofs.Receiving.{waits_by}
use Rattle.book_law.specs.Course.{with_at}
use Rattle.node_rules.specs.Moments.{at_work as at_moment}
use Rattle.node_rules.proofs.Walking.{parts_walk}

-- it has turns left, or it computes with all of them and is busy
abbrev pub HasTurns : Frame → ℕ → Played → Type 0
HasTurns f i r =
    (r.turns < f.settings.turns)
    ⊎ ((r.stage ≡ Computing) × (r.turns ≡ f.settings.turns) × (f.computes.doing r.text (record { 0 = i }) r.args r.replies r.turns ≡ doing.Busy))

abbrev pub AllLeft : Frame → (ℕ → Option Played) → Type 0
AllLeft f played = (i : ℕ) (r : Played) → played i ≡ Some r → HasTurns f i r

abbrev Left : Frame → NodeWork → Type 0
Left f v = AllLeft f v.node.played

-- who waits for a reply, or will, has turns left
waiting_left : (f : Frame) (i : ℕ) (r : Played) → waits_by r.stage ≡ 1 → HasTurns f i r → r.turns < f.settings.turns
waiting_left f i r waits (inl lt) = lt
waiting_left f i r waits (inr (computes, all, busy)) = let e : 0 ≡ 1 = sym (ap waits_by computes) ∙ waits in absurd (omega (arith, e))

received_left : (f : Frame) (i place : ℕ) (reply : Reply) (r : Played) → waits_by r.stage ≡ 1 → HasTurns f i r → HasTurns f i (receives place reply r)
received_left f i place reply r waits h = inl (waiting_left f i r waits h)

pub set_left : (f : Frame) (i : ℕ) (t : Played) (played : ℕ → Option Played) → AllLeft f played → HasTurns f i t → AllLeft f (with_at played i (Some t))
set_left f i t played h is j r = at_both played i (Some t) j (λ z. z ≡ Some r → HasTurns f j r)
    (λ e found. let same : t ≡ r = cc found in subst (λ k. HasTurns f k r) (sym e) (subst (HasTurns f i) same is))
    (λ no found. h j r found)

-- ---- a read

read_left : (f : Frame) (i : ℕ) (r : Played) (act : Action) (t : Tried) (v : NodeWork) → v.node.played i ≡ Some r → waits_by r.stage ≡ 1 → Left f v → Left f (performs_read i r act t v)
read_left f i r act t v here waits h = cond_both (is_blocked t) _ _ (Left f) (λ e. h)
    (λ e.
    let line : Line = read_line (record { 0 = i }) r act t in
    set_left f i (receives v.node.copies.applied line.reply r) v.node.played h (received_left f i v.node.copies.applied line.reply r waits (h i r here)))

tried_left : (f : Frame) (i : ℕ) (r : Played) (stage : Stage) (v : NodeWork) → v.node.played i ≡ Some r → r.stage ≡ stage → Left f v → Left f (tries_as f i r stage v)
tried_left f i r (Reading act) v here is h = read_left f i r act (read_on f.performs v.node.copies.objects act) v here (ap waits_by is) h
tried_left f i r Computing v here is h = h
tried_left f i r (Acting act) v here is h = h
tried_left f i r (Submitted act) v here is h = h
tried_left f i r (Asking act) v here is h = h
tried_left f i r (Over act) v here is h = h

tries_of_left : (f : Frame) (i : ℕ) (o : Option Played) (v : NodeWork) → v.node.played i ≡ o → Left f v → Left f (tries_of f i o v)
tries_of_left f i None v here h = h
tries_of_left f i (Some r) v here h = tried_left f i r r.stage v here refl h

tries_left : (f : Frame) (i : ℕ) (v : NodeWork) → AllLeft f v.node.played → AllLeft f (tries_read f i v).node.played
tries_left f i v h = tries_of_left f i (v.node.played i) v refl h

-- ---- an Answer

heard_left : (f : Frame) (place i : ℕ) (call : CallNo) (reply : Reply) (r : Played) (stage : Stage) (v : NodeWork) → v.node.played i ≡ Some r → r.stage ≡ stage → Left f v → Left f (hears_as place i call reply r stage v)
heard_left f place i call reply r (Asking act) v here is h = cond_both (call.0 == length r.replies) _ _ (Left f)
    (λ e. set_left f i (receives place reply r) v.node.played h (received_left f i place reply r (ap waits_by is) (h i r here))) (λ e. h)
heard_left f place i call reply r Computing v here is h = h
heard_left f place i call reply r (Acting act) v here is h = h
heard_left f place i call reply r (Submitted act) v here is h = h
heard_left f place i call reply r (Reading act) v here is h = h
heard_left f place i call reply r (Over act) v here is h = h

hears_left : (f : Frame) (place i : ℕ) (call : CallNo) (reply : Reply) (o : Option Played) (v : NodeWork) → AllLeft f v.node.played → v.node.played i ≡ o → AllLeft f (hears_of place i call reply o v).node.played
hears_left f place i call reply None v h here = h
hears_left f place i call reply (Some r) v h here = heard_left f place i call reply r r.stage v here refl h

-- ---- lines: one at most, where it waits

lines_left : (f : Frame) (i place : ℕ) (r : Played) (x : Runner) (lines : List Line) → HasTurns f i r → IsReplyTo x lines → ((y : Message) → x.message ≡ Some y → waits_by r.stage ≡ 1) → HasTurns f i (received place lines r)
lines_left f i place r x [] h reply waits = h
lines_left f i place r x (l ∷ lines) h reply waits =
    subst (λ (ls : List Line). HasTurns f i (received place ls (receives place l.reply r))) (sym reply.0)
    (received_left f i place l.reply r (waits reply.1 reply.2) h)

-- ---- an entry

waits_so : (stage : Stage) (act : Action) → waits_with stage ≡ Some act → waits_by stage ≡ 1
waits_so Computing act is = absurd (cc is)
waits_so (Acting a) act is = refl
waits_so (Submitted a) act is = refl
waits_so (Reading a) act is = refl
waits_so (Asking a) act is = refl
waits_so (Over a) act is = absurd (cc is)

entry_left : (f : Frame) (fitness : Fitness) (single : Test) (w : World) (c : Course) (m : ℕ) (x : Message) (v : NodeWork) → Known f fitness w m → Corresponds f single (at_work f m w v) c → IsMoment f w m v → IsDue v.node x
    → Agrees f single (take (suc v.node.copies.applied) v.node.member.log) → AllLeft f v.node.played → AllLeft f (takes_entry f m x v).node.played
entry_left f fitness single w c m x v known k moment due agrees h j r is = go (one_born f.settings.nodes (home_in (known_by f v.node) x.process.0) place x.action)
  where
    place : ℕ
    place = suc v.node.copies.applied

    lines : List Line
    lines = entry_lines f v.node x

    l : Listed f single (at_work f m w v) c m x
    l = listed_at f fitness single w c m x v known k moment due agrees

    done : Applied f (at_work f m w v) (at_work f m w (takes_entry f m x v)) m x
    done = entry_applies f single w l.course m x v l.stands

    node : AppliedNode f m x v.node (takes_entry f m x v).node
    node = subst (λ (n : Node). AppliedNode f m x v.node n) (node_at f m w (takes_entry f m x v))
        (subst (λ (n : Node). AppliedNode f m x n ((at_work f m w (takes_entry f m x v)).nodes m)) (node_at f m w v) done.node)

    plays_on : PlaysOn m lines place (length (known_by f v.node)) (born_of f v.node x) v.node.played (takes_entry f m x v).node.played
    plays_on = node.plays

    old : (o : Option Played) → v.node.played j ≡ o → option_map (received place (lines_by j lines)) o ≡ Some r → HasTurns f j r
    old None here e = absurd (cc e)
    old (Some before) here e =
        let s : Starts f single (at_work f m w v) l.course j m before = starts_at f single w l.course m j before v l.stands here in
        let same : received place (lines_by j lines) before ≡ r = cc in
        subst (λ (z : Played). HasTurns f j z) same
        (lines_left f j place before s.process.runner (lines_by j lines) (h j before here)
        (entry_replies f fitness single w l.course m x v known.program l.stands l.next j s.process.runner s.process.runs (s.process.member ∙ s.of.home))
        (λ y out. waits_so before.stage y.action (waits_out f j s.process.runner before.stage y out s.is.stage)))

    others : ((b : Begun) → born_of f v.node x ≡ b ∷ [] → b.home ≡ m → j ≡ length (known_by f v.node) → ⊥) → HasTurns f j r
    others apart = old (v.node.played j) refl (sym (plays_on.others j apart) ∙ is)

    go : (born_of f v.node x ≡ []) ⊎ ((b : Begun) × (born_of f v.node x ≡ b ∷ []) × (b.place ≡ place)) → HasTurns f j r
    go (inl none) = others (λ b one home at. let e : [] ≡ b ∷ [] = sym none ∙ one in absurd (cc e))
    go (inr (b, one, at)) = by (cases_eq b.home m) (cases_eq j (length (known_by f v.node)))
      where
        by : (b.home ≡ m) ⊎ (b.home ≡ m → ⊥) → (j ≡ length (known_by f v.node)) ⊎ (j ≡ length (known_by f v.node) → ⊥) → HasTurns f j r
        by (inr apart) which = others (λ d two home here. let e : b ∷ [] ≡ d ∷ [] = sym one ∙ two in let same : b ≡ d = cc in apart (ap (λ (z : Begun). z.home) same ∙ home))
        by (inl home) (inr apart) = others (λ d two there here. apart here)
        by (inl home) (inl here) =
            let e : Some (newborn b) ≡ Some r = sym (ap (takes_entry f m x v).node.played here ∙ plays_on.born_here b one home) ∙ is in
            let same : newborn b ≡ r = cc in
            subst (λ (z : Played). HasTurns f j z) same (inl (let p = known.program in let set = p.settings in set.a_turn))

-- ---- a call that is taken

call_left : (f : Frame) (fitness : Fitness) (single : Test) (w : World) (c : Course) (m : ℕ) (call : Suspended) (v : NodeWork) → Program f fitness.state fitness.args fitness.text fitness.reply → (h : Stands f single (at_work f m w v) c)
    → MayTake f single c m call v → AllLeft f v.node.played → AllLeft f (performs_call f m (message_of call) v).node.played
call_left f fitness single w c m call v program h z few j r is = go (home_in (known_by f v.node) j == m) (sym (on.plays j) ∙ is)
  where
    lines : List Line
    lines = lines_single f.performs v.node.copies (message_of call)

    u : NodeWork
    u = becomes (record v.node { copies = after_single f.performs v.node.copies (message_of call) }) v

    n : ℕ
    n = v.node.copies.applied

    on : HandsOn f m n (known_by f v.node) lines u (performs_call f m (message_of call) v)
    on = hands_on f m n (known_by f v.node) lines u refl refl

    mine : IsMember f single c h.came m v.node
    mine = member_here f single w c m v h

    t : TakesHere f single c m call v
    t = takes_here f single fitness.state fitness.args fitness.text fitness.reply w c m call v program h mine z

    has : OwnLines f c (known_by f v.node) (lines_on f.performs t.copy call)
    has = own_lines f single w c m call v h mine t

    old : (o : Option Played) → v.node.played j ≡ o → option_map (received n (lines_by j lines)) o ≡ Some r → HasTurns f j r
    old None here e = absurd (cc e)
    old (Some before) here e =
        let s : Starts f single (at_work f m w v) c j m before = starts_at f single w c m j before v h here in
        let same : received n (lines_by j lines) before ≡ r = cc in
        subst (λ (p : Played). HasTurns f j p) same
        (lines_left f j n before s.process.runner (lines_by j lines) (few j before here)
        (subst (λ (ls : List Line). IsReplyTo s.process.runner (lines_by j ls)) (sym t.lines) (has.reply j s.process.runner s.process.runs))
        (λ y out. waits_so before.stage y.action (waits_out f j s.process.runner before.stage y out s.is.stage)))

    go : (b : Bool) → (if b then option_map (received n (lines_by j lines)) (v.node.played j) else v.node.played j) ≡ Some r → HasTurns f j r
    go true e = old (v.node.played j) refl e
    go false e = few j r e

-- ---- what leaves processes as they are

notes_plays : (f : Frame) (m : ℕ) (v : NodeWork) → (notes f m v).node.played ≡ v.node.played
notes_plays f m v = go (nat_lt v.node.member.applied v.node.copies.applied)
  where
    go : (b : Bool) → (if b then joins (note (group f) m v.node.copies.applied v.node.member) v else v).node.played ≡ v.node.played
    go true = refl
    go false = refl

owner_plays : (f : Frame) (m : ℕ) (r : Played) (call : Suspended) (v : NodeWork) → (asks_owner f m r call v).node.played ≡ v.node.played
owner_plays f m r call v = go (owner_in (known_by f v.node) call.object == m)
  where
    go : (b : Bool) → (if b then v else sends m (owner_in (known_by f v.node) call.object) (Ask r.place (message_of call)) v).node.played ≡ v.node.played
    go true = refl
    go false = refl

again_by_plays : (f : Frame) (m i : ℕ) (r : Played) (act : Action) (v : NodeWork) → (asks_again_by f m i r act v).node.played ≡ v.node.played
again_by_plays f m i r (action.Call kind op object given) v = owner_plays f m r (record { process = record { 0 = i }; call = next_call r; kind = kind; op = op; object = object; args = given }) v
again_by_plays f m i r (action.Make kind object) v = refl
again_by_plays f m i r (action.Fork text given place_on) v = refl
again_by_plays f m i r action.Ended v = refl
again_by_plays f m i r (action.Faulted fault) v = refl

again_at_plays : (f : Frame) (m i : ℕ) (r : Played) (stage : Stage) (v : NodeWork) → (asks_again_at f m i r stage v).node.played ≡ v.node.played
again_at_plays f m i r (Asking act) v = again_by_plays f m i r act v
again_at_plays f m i r Computing v = refl
again_at_plays f m i r (Acting act) v = refl
again_at_plays f m i r (Submitted act) v = refl
again_at_plays f m i r (Reading act) v = refl
again_at_plays f m i r (Over act) v = refl

again_plays : (f : Frame) (m i : ℕ) (o : Option Played) (v : NodeWork) → (asks_again_of f m i o v).node.played ≡ v.node.played
again_plays f m i None v = refl
again_plays f m i (Some r) v = again_at_plays f m i r r.stage v

arrives_plays : (errand : Errand) (v : NodeWork) → (arrives errand v).node.played ≡ v.node.played
arrives_plays errand v = go (v.node.member.outside || is_held errand v.node.held)
  where
    go : (b : Bool) → (if b then v else holds errand v).node.played ≡ v.node.played
    go true = refl
    go false = refl

-- ---- piece by piece

ask_left : (f : Frame) (fitness : Fitness) (single : Test) (w : World) (c : Course) (m place : ℕ) (x : Message) (v : NodeWork) → Program f fitness.state fitness.args fitness.text fitness.reply → Carries f single w c m v → IsAsk f single c m place x
    → place ≤ v.node.copies.applied → AllLeft f v.node.played → (o : Option Given) → v.node.given x.process.0 ≡ o → AllLeft f (takes_asked f m x o v).node.played
ask_left f fitness single w c m place x v program k a reached h = by
  where
    st : Stands f single (at_work f m w v) c
    st = let g = k.corresponds in g.stands

    taken : ((g : Given) → v.node.given x.process.0 ≡ Some g → g.call.0 < x.call.0) → (b : Bool) → waits_here x v.node.copies.waits ≡ b → AllLeft f (if b then v else performs_call f m x v).node.played
    taken lower true is = h
    taken lower false idle =
        subst (λ (y : Message). AllLeft f (performs_call f m y v).node.played) (sym a.is)
        (call_left f fitness single w c m a.call v program st (ask_taken f single fitness.state fitness.args fitness.text fitness.reply w c m place x v program k a reached idle lower) h)

    by : (o : Option Given) → v.node.given x.process.0 ≡ o → AllLeft f (takes_asked f m x o v).node.played
    by None is = taken (λ g there. let e : None ≡ Some g = sym is ∙ there in absurd (cc e)) (waits_here x v.node.copies.waits) refl
    by (Some given) is = or (nat_lt given.call.0 x.call.0) refl
      where
        again : NodeWork
        again = sends_given m (home_in (known_by f v.node) x.process.0) x.process given v

        old : (b : Bool) → AllLeft f (if b then again else v).node.played
        old true = h
        old false = h

        or : (b : Bool) → nat_lt given.call.0 x.call.0 ≡ b → AllLeft f (if b then takes_call f m x v else (if given.call.0 == x.call.0 then again else v)).node.played
        or true less = taken
            (λ g there. let e : Some given ≡ Some g = sym is ∙ there in let same : given ≡ g = cc in
            subst (λ (z : Given). z.call.0 < x.call.0) same (ltb-true given.call.0 x.call.0 less))
            (waits_here x v.node.copies.waits) refl
        or false less = old (given.call.0 == x.call.0)

takes_left : (f : Frame) (fitness : Fitness) (single : Test) (w : World) (c : Course) (m : ℕ) (errand : Errand) (v : NodeWork) → Program f fitness.state fitness.args fitness.text fitness.reply → Carries f single w c m v → ErrandStands f single c m errand
    → place_of errand ≤ v.node.copies.applied → AllLeft f v.node.played → AllLeft f (takes f m errand v).node.played
takes_left f fitness single w c m (Ask place x) v program k stands reached h = ask_left f fitness single w c m place x v program k stands reached h (v.node.given x.process.0) refl
takes_left f fitness single w c m (Answer place i call reply) v program k stands reached h = hears_left f place i.0 call reply (v.node.played i.0) v h refl

pub goes_left : (f : Frame) (fitness : Fitness) (w : World) (m : ℕ) (u v : Moment) → Known f fitness w m → AtEach f w m u → Goes f m u v → AllLeft f u.work.node.played → AllLeft f v.work.node.played
goes_left f fitness w m u v known e (Takes_entry x due within is) h =
    let t = with_next f fitness w m u x known e due in
    let b = e.each t.single t.so_far in
    let a : At f t.single w m u = b.at in
    let k = a.carries in
    subst (λ (z : Moment). AllLeft f z.work.node.played) (sym is) (entry_left f fitness t.single w a.course m x u.work known k.corresponds a.moment due t.next h)
goes_left f fitness w m u v known e (Tries_read i is) h = subst (λ (z : Moment). AllLeft f z.work.node.played) (sym is) (tries_left f i u.work h)
goes_left f fitness w m u v known e (Notes is) h = subst (λ (z : Moment). AllLeft f z.work.node.played) (sym is) (subst (AllLeft f) (sym (notes_plays f m u.work)) h)
goes_left f fitness w m u v known e (Opens empty inside is) h = subst (λ (z : Moment). AllLeft f z.work.node.played) (sym is) h
goes_left f fitness w m u v known e (Takes one es hand reached is) h =
    let b = self f w m u e in
    let a : At f (own f e.list) w m u = b.at in
    subst (λ (z : Moment). AllLeft f z.work.node.played) (sym is)
    (takes_left f fitness (own f e.list) w a.course m one u.work known.program a.carries (a.hand one (subst (In one) (sym hand) (inl refl))) reached h)
goes_left f fitness w m u v known e (Holds one es hand is) h = subst (λ (z : Moment). AllLeft f z.work.node.played) (sym is) h
goes_left f fitness w m u v known e (Asks_again i is) h =
    subst (λ (z : Moment). AllLeft f z.work.node.played) (sym is) (subst (AllLeft f) (sym (again_plays f m i (u.work.node.played i) u.work)) h)

-- ---- where a part begins

asks_left : (f : Frame) (fitness : Fitness) (single : Test) (w : World) (c : Course) (m i : ℕ) (r : Played) (call : Suspended) (v : NodeWork) → Program f fitness.state fitness.args fitness.text fitness.reply → Corresponds f single (at_work f m w v) c
    → v.node.played i ≡ Some r → r.stage ≡ Acting (message_of call).action → call.process ≡ record { 0 = i } → call.call ≡ record { 0 = length r.replies } → singles_of f (known_by f v.node) call.object ≡ true
    → r.turns < f.settings.turns → AllLeft f v.node.played → AllLeft f (asks f m i r call v).node.played
asks_left f fitness single w c m i r call v program g here acts process number is le h = go (owner_in (known_by f v.node) call.object == m) refl
  where
    u : NodeWork
    u = moving i (Asking (message_of call).action) r v

    few : AllLeft f u.node.played
    few = set_left f i (moves_to (Asking (message_of call).action) r) v.node.played h (inl le)

    t : MayOwn f single w c m i r call v
    t = own_takes f single w c m i r call v g here acts process number is

    go : (b : Bool) → (owner_in (known_by f v.node) call.object == m) ≡ b → AllLeft f (if b then performs_call f m (message_of call) u else sends m (owner_in (known_by f v.node) call.object) (Ask r.place (message_of call)) u).node.played
    go true owner = call_left f fitness single w t.course m call u program t.stands (t.may (eqb-true (owner_in (known_by f v.node) call.object) m owner)) few
    go false owner = few

act_left : (f : Frame) (fitness : Fitness) (single : Test) (w : World) (c : Course) (m i : ℕ) (r : Played) (act : Action) (v : NodeWork) → Program f fitness.state fitness.args fitness.text fitness.reply → Corresponds f single (at_work f m w v) c
    → v.node.played i ≡ Some r → r.stage ≡ Acting act → r.turns < f.settings.turns → AllLeft f v.node.played → AllLeft f (acts_by f m i r act v).node.played
act_left f fitness single w c m i r (action.Make kind object) v program g here acts le h = set_left f i (moves_to (Submitted (action.Make kind object)) r) v.node.played h (inl le)
act_left f fitness single w c m i r (action.Fork text given place_on) v program g here acts le h = set_left f i (moves_to (Submitted (action.Fork text given place_on)) r) v.node.played h (inl le)
act_left f fitness single w c m i r action.Ended v program g here acts le h = h
act_left f fitness single w c m i r (action.Faulted fault) v program g here acts le h = h
act_left f fitness single w c m i r (action.Call kind op object given) v program g here acts le h = go (singles_of f (known_by f v.node) object) refl
  where
    call : Suspended
    call = record { process = record { 0 = i }; call = next_call r; kind = kind; op = op; object = object; args = given }

    by : (class : Class) → AllLeft f (calls_as f m i r call class v).node.played
    by Reads = tries_left f i (plays i (moves_to (Reading (action.Call kind op object given)) r) v) (set_left f i (moves_to (Reading (action.Call kind op object given)) r) v.node.played h (inl le))
    by Writes = set_left f i (moves_to (Submitted (action.Call kind op object given)) r) v.node.played h (inl le)

    go : (b : Bool) → singles_of f (known_by f v.node) object ≡ b → AllLeft f (if b then asks f m i r call v else calls_as f m i r call (f.performs.class_of kind op) v).node.played
    go true is = asks_left f fitness single w c m i r call v program g here acts refl refl is le h
    go false is = by (f.performs.class_of kind op)

stage_left : (f : Frame) (fitness : Fitness) (single : Test) (w : World) (c : Course) (m i : ℕ) (r : Played) (stage : Stage) (v : NodeWork) → Program f fitness.state fitness.args fitness.text fitness.reply → Corresponds f single (at_work f m w v) c
    → v.node.played i ≡ Some r → r.stage ≡ stage → HasTurns f i r → AllLeft f v.node.played → AllLeft f (acts_at f m i r stage v).node.played
stage_left f fitness single w c m i r (Acting act) v program g here is le h = act_left f fitness single w c m i r act v program g here is (waiting_left f i r (ap waits_by is) le) h
stage_left f fitness single w c m i r Computing v program g here is le h = h
stage_left f fitness single w c m i r (Submitted act) v program g here is le h = h
stage_left f fitness single w c m i r (Reading act) v program g here is le h = h
stage_left f fitness single w c m i r (Asking act) v program g here is le h = h
stage_left f fitness single w c m i r (Over act) v program g here is le h = h

acts_left : (f : Frame) (fitness : Fitness) (single : Test) (w : World) (c : Course) (m i : ℕ) (o : Option Played) (v : NodeWork) → Program f fitness.state fitness.args fitness.text fitness.reply → Corresponds f single (at_work f m w v) c
    → v.node.played i ≡ o → AllLeft f v.node.played → AllLeft f (acts_of f m i o v).node.played
acts_left f fitness single w c m i None v program g here h = h
acts_left f fitness single w c m i (Some r) v program g here h = stage_left f fitness single w c m i r r.stage v program g here refl (h i r here) h

pub begun_left : (f : Frame) (fitness : Fitness) (w : World) (m : ℕ) (s : Start) → Known f fitness w m → AtEach f w m (record { work = idle (w.nodes m); hand = [] }) → AllLeft f (w.nodes m).played → AllLeft f (begun f m s (w.nodes m)).node.played
begun_left f fitness w m (Acts i) known e h =
    let b = self f w m (record { work = idle (w.nodes m); hand = [] }) e in
    let a : At f (own f e.list) w m (record { work = idle (w.nodes m); hand = [] }) = b.at in
    let k = a.carries in
    acts_left f fitness (own f e.list) w a.course m i ((w.nodes m).played i) (idle (w.nodes m)) known.program k.corresponds refl h
begun_left f fitness w m (CameIn (Mail.Grouped letter)) known e h = h
begun_left f fitness w m (CameIn (Mail.Sends incarnation from to errand)) known e h = subst (AllLeft f) (sym (arrives_plays errand (idle (w.nodes m)))) h
begun_left f fitness w m Ticks known e h = h
begun_left f fitness w m Suspects known e h = h

-- ---- the whole part

walks_left : (f : Frame) (fitness : Fitness) (w : World) (m : ℕ) (u v : Moment) → Known f fitness w m → AtEach f w m u → AllLeft f u.work.node.played → Walks f m u v → AllLeft f v.work.node.played
walks_left f fitness w m u v known e h (Walks.Stays x) = h
walks_left f fitness w m u v known e h (Walks.Then x y z go rest) =
    walks_left f fitness w m y v known (goes_each f fitness w m u y known e go) (goes_left f fitness w m u y known e go h) rest

pub part_left : (f : Frame) (fitness : Fitness) (w : World) (m : ℕ) (start : Start) → Known f fitness w m → AtEach f w m (at_moment (idle (w.nodes m))) → AtEach f w m (at_moment (begun f m start (w.nodes m)))
    → AllLeft f (w.nodes m).played → AllLeft f (part f m start (w.nodes m)).node.played
part_left f fitness w m start known before first h =
    walks_left f fitness w m (at_moment (begun f m start (w.nodes m))) (at_moment (part f m start (w.nodes m))) known first
    (begun_left f fitness w m start known before h) (parts_walk f m start (w.nodes m))
