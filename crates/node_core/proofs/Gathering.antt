-- What is left of the entries that a member's copies applied: one more of the next, and all of them as they were by what isn't an entry.
use Rattle.std.proofs.Common.{◌≡◌, ◌++◌, ◌∷◌, ◌==◌, nat_le, nat_lt, ℕ, zero, suc, Bool, true, false, List, [], length, take, Option, Some, None, refl, sym, ap, ◌∙◌, if◌then◌else◌}
use Rattle.orca_base.specs.declared.ids.CallNo.{CallNo}
use Rattle.value_core.specs.declared.action.Action.{Action}
use Rattle.value_core.specs.declared.action.Action.TheVariants as action
use Rattle.value_core.specs.declared.action.Line.{Line}
use Rattle.value_core.specs.declared.action.Reply.{Reply}
use Rattle.value_core.specs.declared.message.Message.{Message}
use Rattle.object_manager.specs.State.{message_of}
use Rattle.object_manager.specs.Singles.{after_single, lines_single}
use Rattle.book_law.proofs.Books.{take_at}
use Rattle.group_rules.specs.Member.{Member}
use Rattle.group_rules.specs.Sets.{with_at}
use Rattle.world_rules.specs.Applying.{applies_one}
use Rattle.world_rules.specs.Frame.{Frame}
use Rattle.world_rules.specs.Mail.{Errand, place_of}
use Rattle.world_rules.specs.Mail.Errand.{Ask, Answer}
use Rattle.world_rules.specs.Nodes.{Given, NodeWork, becomes, changes, does, entries_of, if_played, known, plays}
use Rattle.world_rules.specs.Nodes.Deed.{Performs}
use Rattle.world_rules.specs.Owners.{hands, hands_all, hears_as, hears_of, holds, performs_call, sends, sends_given, takes, takes_asked, takes_call, takes_each, takes_reached, waits_here}
use Rattle.world_rules.specs.Parts.{asks_again, asks_again_at, asks_again_by, asks_again_of, asks_below}
use Rattle.world_rules.specs.Played.{Played, Stage, next_call, receives}
use Rattle.world_rules.specs.Played.Stage.{Computing, Acting, Submitted, Reading, Asking, Over}
use Rattle.world_rules.specs.Processes.{home_in, owner_in}
use Rattle.node_rules.specs.Moments.{IsDue}
use Rattle.node_rules.proofs.Walking.{one_more}

-- the next one comes behind them
pub entries_more : (f : Frame) (m : ℕ) (x : Message) (v : NodeWork) → IsDue v.node x → entries_of v.node ++ x ∷ [] ≡ entries_of (applies_one f m x v).node
entries_more f m x v due =
    let one = one_more f m x v in
    sym (take_at v.node.member.log v.node.copies.applied x due.there)
    ∙ ap (λ (n : ℕ). take n v.node.member.log) (sym one.applied)
    ∙ ap (λ (s : Member Message). take (applies_one f m x v).node.copies.applied s.log) (sym one.member)

-- ---- what leaves them

abbrev pub KeepsEntries : NodeWork → NodeWork → Type 0
KeepsEntries v u = entries_of u.node ≡ entries_of v.node

either : (b : Bool) (v x y : NodeWork) → KeepsEntries v x → KeepsEntries v y → KeepsEntries v (if b then x else y)
either true v x y one two = one
either false v x y one two = two

kept_changes : (change : Played → Played) (i : ℕ) (v : NodeWork) → KeepsEntries v (changes change i v)
kept_changes change i v = go (v.node.played i)
  where
    go : (o : Option Played) → KeepsEntries v (if_played change i o v)
    go None = refl
    go (Some r) = refl

kept_hands : (f : Frame) (m : ℕ) (l : Line) (v : NodeWork) → KeepsEntries v (hands f m l v)
kept_hands f m l v =
    let place : ℕ = v.node.copies.applied in
    let w : NodeWork = does (Performs (record { place = place; line = l })) v in
    let home : ℕ = home_in (known f v.node) l.process.0 in
    let given : Given = record { place = place; call = l.call; reply = l.reply } in
    either (home == m) v (changes (receives place l.reply) l.process.0 w)
    (sends_given m home l.process given (becomes (record w.node { given = with_at w.node.given l.process.0 (Some given) }) w))
    (kept_changes (receives place l.reply) l.process.0 w) refl

kept_all : (f : Frame) (m : ℕ) (ls : List Line) (v : NodeWork) → KeepsEntries v (hands_all f m ls v)
kept_all f m [] v = refl
kept_all f m (l ∷ ls) v = kept_all f m ls (hands f m l v) ∙ kept_hands f m l v

kept_performs : (f : Frame) (m : ℕ) (x : Message) (v : NodeWork) → KeepsEntries v (performs_call f m x v)
kept_performs f m x v =
    kept_all f m (lines_single f.performs v.node.copies x) (becomes (record v.node { copies = after_single f.performs v.node.copies x }) v)

kept_call : (f : Frame) (m : ℕ) (x : Message) (v : NodeWork) → KeepsEntries v (takes_call f m x v)
kept_call f m x v = either (waits_here x v.node.copies.waits) v v (performs_call f m x v) refl (kept_performs f m x v)

kept_asked : (f : Frame) (m : ℕ) (x : Message) (o : Option Given) (v : NodeWork) → KeepsEntries v (takes_asked f m x o v)
kept_asked f m x None v = kept_call f m x v
kept_asked f m x (Some given) v =
    let again : NodeWork = sends_given m (home_in (known f v.node) x.process.0) x.process given v in
    either (nat_lt given.call.0 x.call.0) v (takes_call f m x v) (if given.call.0 == x.call.0 then again else v) (kept_call f m x v)
    (either (given.call.0 == x.call.0) v again v refl refl)

kept_hears : (place i : ℕ) (call : CallNo) (reply : Reply) (r : Played) (stage : Stage) (v : NodeWork) → KeepsEntries v (hears_as place i call reply r stage v)
kept_hears place i call reply r (Asking act) v = either (call.0 == length r.replies) v (plays i (receives place reply r) v) v refl refl
kept_hears place i call reply r Computing v = refl
kept_hears place i call reply r (Acting act) v = refl
kept_hears place i call reply r (Submitted act) v = refl
kept_hears place i call reply r (Reading act) v = refl
kept_hears place i call reply r (Over act) v = refl

kept_takes : (f : Frame) (m : ℕ) (errand : Errand) (v : NodeWork) → KeepsEntries v (takes f m errand v)
kept_takes f m (Ask place x) v = kept_asked f m x (v.node.given x.process.0) v
kept_takes f m (Answer place i call reply) v = go (v.node.played i.0)
  where
    go : (o : Option Played) → KeepsEntries v (hears_of place i.0 call reply o v)
    go None = refl
    go (Some r) = kept_hears place i.0 call reply r r.stage v

kept_each : (f : Frame) (m : ℕ) (errands : List Errand) (v : NodeWork) → KeepsEntries v (takes_each f m errands v)
kept_each f m [] v = refl
kept_each f m (errand ∷ errands) v =
    let reached : Bool = nat_le (place_of errand) v.node.copies.applied in
    kept_each f m errands (if reached then takes f m errand v else holds errand v)
    ∙ either reached v (takes f m errand v) (holds errand v) (kept_takes f m errand v) refl

-- the Asks and Answers at hand
pub kept_reached : (f : Frame) (m : ℕ) (v : NodeWork) → KeepsEntries v (takes_reached f m v)
kept_reached f m v =
    let w : NodeWork = becomes (record v.node { held = [] }) v in
    either v.node.member.outside v v (takes_each f m v.node.held w) refl (kept_each f m v.node.held w)

kept_by : (f : Frame) (m i : ℕ) (r : Played) (act : Action) (v : NodeWork) → KeepsEntries v (asks_again_by f m i r act v)
kept_by f m i r (action.Call kind op object args) v = go (owner_in (known f v.node) object == m)
  where
    go : (b : Bool) → KeepsEntries v (if b then v else sends m (owner_in (known f v.node) object)
        (Ask r.place (message_of (record { process = record { 0 = i }; call = next_call r; kind = kind; op = op; object = object; args = args }))) v)
    go true = refl
    go false = refl
kept_by f m i r (action.Make kind object) v = refl
kept_by f m i r (action.Fork text args place_on) v = refl
kept_by f m i r action.Ended v = refl
kept_by f m i r (action.Faulted fault) v = refl

kept_at : (f : Frame) (m i : ℕ) (r : Played) (stage : Stage) (v : NodeWork) → KeepsEntries v (asks_again_at f m i r stage v)
kept_at f m i r (Asking act) v = kept_by f m i r act v
kept_at f m i r Computing v = refl
kept_at f m i r (Acting act) v = refl
kept_at f m i r (Submitted act) v = refl
kept_at f m i r (Reading act) v = refl
kept_at f m i r (Over act) v = refl

kept_of : (f : Frame) (m i : ℕ) (o : Option Played) (v : NodeWork) → KeepsEntries v (asks_again_of f m i o v)
kept_of f m i None v = refl
kept_of f m i (Some r) v = kept_at f m i r r.stage v

kept_below : (f : Frame) (m n : ℕ) (v : NodeWork) → KeepsEntries v (asks_below f m n v)
kept_below f m zero v = refl
kept_below f m (suc i) v = (let u : NodeWork = asks_below f m i v in kept_of f m i (u.node.played i) u ∙ kept_below f m i v)

-- a tick's Asks
pub kept_again : (f : Frame) (m : ℕ) (v : NodeWork) → KeepsEntries v (asks_again f m v)
kept_again f m v = either v.node.member.outside v v (asks_below f m v.node.copies.processes v) refl (kept_below f m v.node.copies.processes v)
