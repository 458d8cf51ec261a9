-- The Asks and Answers whose place a member has reached are taken, in order of arrival; others wait on.
use Rattle.std.proofs.Common.{◌≡◌, ◌≤◌, ◌<◌, ◌==◌, ◌||◌, nat_le, nat_lt, ℕ, zero, suc, inl, inr, Bool, true, false, List, [], ◌∷◌, Option, Some, None, refl, sym, ap, ◌∙◌, subst, arith, length, if◌then◌else◌}
use Rattle.std.proofs.lemmas.Bool.{eqb-false, leb-true, ltb-true}
use Rattle.orca_base.specs.declared.ids.CallNo.{CallNo}
use Rattle.orca_base.specs.declared.ids.KindNo.{KindNo}
use Rattle.orca_base.specs.declared.ids.ObjectId.{ObjectId}
use Rattle.orca_base.specs.declared.ids.OpNo.{OpNo}
use Rattle.orca_base.specs.declared.ids.ProcessNo.{ProcessNo}
use Rattle.value_core.specs.Datum.{Data}
use Rattle.value_core.specs.declared.action.Action.{Action}
use Rattle.value_core.specs.declared.action.Action.TheVariants as action
use Rattle.value_core.specs.declared.action.Reply.{Reply}
use Rattle.value_core.specs.declared.message.Message.{Message}
use Rattle.object_manager.specs.After.{Copied}
use Rattle.object_manager.specs.State.{message_of}
use Rattle.group_rules.specs.Messages.{Group}
use Rattle.book_law.specs.Passes.{Test}
use Rattle.book_law.specs.Course.{Course}
use Rattle.book_law.specs.Events.{In}
use Rattle.book_law.specs.Fitness.{ArgsFit, StateFits}
use Rattle.book_law.proofs.Fits.{ReplyFits, TextFits}
use Rattle.object_manager.specs.Singles.{after_single, lines_single}
use Rattle.world_rules.specs.Frame.{Frame, group}
use Rattle.world_rules.specs.Mail.{Errand, Mail, place_of}
use Rattle.world_rules.specs.Mail.Errand.{Ask, Answer}
use Rattle.world_rules.specs.Nodes.{Given, NodeWork, becomes, known, plays}
use Rattle.world_rules.specs.Owners.{arrives, hears_as, hears_of, holds, is_held, performs_call, sends, sends_given, takes, takes_answer, takes_asked, takes_call, takes_each, takes_reached, waits_here}
use Rattle.world_rules.specs.Parts.{asks_again, asks_again_at, asks_again_by, asks_again_of, asks_below}
use Rattle.world_rules.specs.Played.{Played, Stage, receives}
use Rattle.world_rules.specs.Played.Stage.{Computing, Acting, Submitted, Reading, Asking, Over}
use Rattle.world_rules.specs.Processes.{home_in, owner_in}
use Rattle.world_rules.specs.Worlds.{World}
use Rattle.world_course.specs.Errands.{AsksFor, ErrandStands, IsAnswer, IsAsk}
use Rattle.world_course.proofs.Asked.{ask_stands, ask_taken, call_of}
use Rattle.world_course.proofs.Calling.{call_carries}
use Rattle.world_course.proofs.Carrying.{Carries, CarriesOn, carries_on, carries_stay, held_carries, holds_carries, own_node, sends_carries, silent_lifts}
use Rattle.world_course.proofs.Entry.{Stills, still, still_on}
use Rattle.world_course.proofs.Handing.{HandsOn, hands_on}
use Rattle.world_course.proofs.Hearing.{answer_lifts}
use Rattle.world_course.proofs.Later.{errand_later, leads_later}
use Rattle.world_course.proofs.Program.{Program}
use Rattle.world_course.proofs.Silent.{Silent, silent, silent_plays}

-- ---- an Ask

-- one that waits here is left
call_or_left : (f : Frame) (single : Test) (fits_state : StateFits) (fits_args : ArgsFit) (fits_text : TextFits) (fits_reply : ReplyFits) (w : World) (c : Course) (m place : ℕ) (x : Message) (v : NodeWork)
    → Program f fits_state fits_args fits_text fits_reply → Carries f single w c m v → IsAsk f single c m place x → place ≤ v.node.copies.applied → ((g : Given) → v.node.given x.process.0 ≡ Some g → g.call.0 < x.call.0)
    → CarriesOn f single w c m (takes_call f m x v)
call_or_left f single fits_state fits_args fits_text fits_reply w c m place x v program h a reached lower = go (waits_here x v.node.copies.waits) refl
  where
    go : (b : Bool) → waits_here x v.node.copies.waits ≡ b → CarriesOn f single w c m (if b then v else performs_call f m x v)
    go true is = carries_stay f single w c m v h
    go false is = subst (λ (y : Message). CarriesOn f single w c m (performs_call f m y v)) (sym a.is)
        (call_carries f single fits_state fits_args fits_text fits_reply w c m a.call v program h (ask_taken f single fits_state fits_args fits_text fits_reply w c m place x v program h a reached is lower))

asked_carries : (f : Frame) (single : Test) (fits_state : StateFits) (fits_args : ArgsFit) (fits_text : TextFits) (fits_reply : ReplyFits) (w : World) (c : Course) (m place : ℕ) (x : Message) (o : Option Given) (v : NodeWork)
    → Program f fits_state fits_args fits_text fits_reply → Carries f single w c m v → IsAsk f single c m place x → place ≤ v.node.copies.applied → v.node.given x.process.0 ≡ o → CarriesOn f single w c m (takes_asked f m x o v)
asked_carries f single fits_state fits_args fits_text fits_reply w c m place x None v program h a reached is =
    call_or_left f single fits_state fits_args fits_text fits_reply w c m place x v program h a reached (λ g there. let e : None ≡ Some g = sym is ∙ there in absurd (cc e))
asked_carries f single fits_state fits_args fits_text fits_reply w c m place x (Some given) v program h a reached is = go (nat_lt given.call.0 x.call.0) refl
  where
    again : NodeWork
    again = sends_given m (home_in (known f v.node) x.process.0) x.process given v

    old : (b : Bool) → CarriesOn f single w c m (if b then again else v)
    old true = carries_stay f single w c m again (sends_carries f single w c m (Mail.Sends v.node.member.installed m (home_in (known f v.node) x.process.0) (Answer given.place x.process given.call given.reply)) v h
        (let n = own_node f single w c m v h in n.given x.process given is))
    old false = carries_stay f single w c m v h

    go : (b : Bool) → nat_lt given.call.0 x.call.0 ≡ b → CarriesOn f single w c m (if b then takes_call f m x v else (if given.call.0 == x.call.0 then again else v))
    go true lower = call_or_left f single fits_state fits_args fits_text fits_reply w c m place x v program h a reached
        (λ g there. let e : Some given ≡ Some g = sym is ∙ there in let same : given ≡ g = cc in let lt = ltb-true given.call.0 x.call.0 lower in let k : given.call.0 ≡ g.call.0 = ap (λ (z : Given). z.call.0) same in omega (arith, lt, k))
    go false lower = old (given.call.0 == x.call.0)

-- ---- an Answer

silent_as : (place i : ℕ) (call : CallNo) (reply : Reply) (r : Played) (stage : Stage) (v : NodeWork) → Silent v (hears_as place i call reply r stage v)
silent_as place i call reply r (Asking act) v = go (call.0 == length r.replies)
  where
    go : (b : Bool) → Silent v (if b then plays i (receives place reply r) v else v)
    go true = silent_plays i (receives place reply r) v (λ waits. absurd waits)
    go false = silent v
silent_as place i call reply r Computing v = silent v
silent_as place i call reply r (Acting act) v = silent v
silent_as place i call reply r (Submitted act) v = silent v
silent_as place i call reply r (Reading act) v = silent v
silent_as place i call reply r (Over act) v = silent v

silent_of : (place i : ℕ) (call : CallNo) (reply : Reply) (o : Option Played) (v : NodeWork) → Silent v (hears_of place i call reply o v)
silent_of place i call reply None v = silent v
silent_of place i call reply (Some r) v = silent_as place i call reply r r.stage v

answer_carries : (f : Frame) (single : Test) (w : World) (c : Course) (m place : ℕ) (i : ProcessNo) (call : CallNo) (reply : Reply) (v : NodeWork) → Carries f single w c m v → IsAnswer c place i call reply → place ≤ v.node.copies.applied
    → CarriesOn f single w c m (takes_answer place i call reply v)
answer_carries f single w c m place i call reply v h a reached =
    silent_lifts f single w c m v (takes_answer place i call reply v) h (silent_of place i.0 call reply (v.node.played i.0) v) (answer_lifts f single w c m place i call reply v h.corresponds a reached)

-- ---- what waits for its place

pub errand_taken : (f : Frame) (single : Test) (fits_state : StateFits) (fits_args : ArgsFit) (fits_text : TextFits) (fits_reply : ReplyFits) (w : World) (c : Course) (m : ℕ) (errand : Errand) (v : NodeWork)
    → Program f fits_state fits_args fits_text fits_reply → Carries f single w c m v → ErrandStands f single c m errand → place_of errand ≤ v.node.copies.applied → CarriesOn f single w c m (takes f m errand v)
errand_taken f single fits_state fits_args fits_text fits_reply w c m (Ask place x) v program h stands reached =
    asked_carries f single fits_state fits_args fits_text fits_reply w c m place x (v.node.given x.process.0) v program h stands reached refl
errand_taken f single fits_state fits_args fits_text fits_reply w c m (Answer place i call reply) v program h stands reached = answer_carries f single w c m place i call reply v h stands reached

one_errand : (f : Frame) (single : Test) (fits_state : StateFits) (fits_args : ArgsFit) (fits_text : TextFits) (fits_reply : ReplyFits) (w : World) (c : Course) (m : ℕ) (errand : Errand) (v : NodeWork)
    → Program f fits_state fits_args fits_text fits_reply → Carries f single w c m v → ErrandStands f single c m errand
    → (b : Bool) → nat_le (place_of errand) v.node.copies.applied ≡ b → CarriesOn f single w c m (if b then takes f m errand v else holds errand v)
one_errand f single fits_state fits_args fits_text fits_reply w c m errand v program h stands true is =
    errand_taken f single fits_state fits_args fits_text fits_reply w c m errand v program h stands (leb-true (place_of errand) v.node.copies.applied is)
one_errand f single fits_state fits_args fits_text fits_reply w c m errand v program h stands false is = carries_stay f single w c m (holds errand v) (holds_carries f single w c m errand v h stands)

each_errand : (f : Frame) (single : Test) (fits_state : StateFits) (fits_args : ArgsFit) (fits_text : TextFits) (fits_reply : ReplyFits) (w : World) (c : Course) (m : ℕ) (errands : List Errand) (v : NodeWork)
    → Program f fits_state fits_args fits_text fits_reply → Carries f single w c m v → ((errand : Errand) → In errand errands → ErrandStands f single c m errand) → CarriesOn f single w c m (takes_each f m errands v)
each_errand f single fits_state fits_args fits_text fits_reply w c m [] v program h stand = carries_stay f single w c m v h
each_errand f single fits_state fits_args fits_text fits_reply w c m (errand ∷ errands) v program h stand =
    let u : NodeWork = if nat_le (place_of errand) v.node.copies.applied then takes f m errand v else holds errand v in
    let l = one_errand f single fits_state fits_args fits_text fits_reply w c m errand v program h (stand errand (inl refl)) (nat_le (place_of errand) v.node.copies.applied) refl in
    let k = h.corresponds in
    let st = k.stands in
    let later = leads_later f single c l.0 st.came l.1 in
    carries_on f single w c l.0 m (takes_each f m errands u) l.1
    (each_errand f single fits_state fits_args fits_text fits_reply w l.0 m errands u program l.2 (λ e is. errand_later f single c l.0 m e later (stand e (inr is))))

pub reached_carries : (f : Frame) (single : Test) (fits_state : StateFits) (fits_args : ArgsFit) (fits_text : TextFits) (fits_reply : ReplyFits) (w : World) (c : Course) (m : ℕ) (v : NodeWork)
    → Program f fits_state fits_args fits_text fits_reply → Carries f single w c m v → CarriesOn f single w c m (takes_reached f m v)
reached_carries f single fits_state fits_args fits_text fits_reply w c m v program h = go v.node.member.outside
  where
    u : NodeWork
    u = becomes (record v.node { held = [] }) v

    go : (b : Bool) → CarriesOn f single w c m (if b then v else takes_each f m v.node.held u)
    go true = carries_stay f single w c m v h
    go false = each_errand f single fits_state fits_args fits_text fits_reply w c m v.node.held u program (held_carries f single w c m [] v h (λ errand is. absurd is)) (let n = own_node f single w c m v h in n.held)

-- ---- and they leave what the member applied

call_still : (f : Frame) (m : ℕ) (x : Message) (v : NodeWork) → Stills (group f) m v (performs_call f m x v)
call_still f m x v =
    let u : NodeWork = becomes (record v.node { copies = after_single f.performs v.node.copies x }) v in
    let s : HandsOn f m v.node.copies.applied (known f v.node) (lines_single f.performs v.node.copies x) u (performs_call f m x v) =
    hands_on f m v.node.copies.applied (known f v.node) (lines_single f.performs v.node.copies x) u refl refl in
    record { member = s.member; applied = ap (λ (k : Copied). k.applied) s.copies; past = s.past }

call_if_still : (f : Frame) (m : ℕ) (x : Message) (v : NodeWork) → Stills (group f) m v (takes_call f m x v)
call_if_still f m x v = go (waits_here x v.node.copies.waits)
  where
    go : (b : Bool) → Stills (group f) m v (if b then v else performs_call f m x v)
    go true = still (group f) m v
    go false = call_still f m x v

asked_still : (f : Frame) (m : ℕ) (x : Message) (o : Option Given) (v : NodeWork) → Stills (group f) m v (takes_asked f m x o v)
asked_still f m x None v = call_if_still f m x v
asked_still f m x (Some given) v = go (nat_lt given.call.0 x.call.0) (given.call.0 == x.call.0)
  where
    again : NodeWork
    again = sends_given m (home_in (known f v.node) x.process.0) x.process given v

    go : (a b : Bool) → Stills (group f) m v (if a then takes_call f m x v else (if b then again else v))
    go true b = call_if_still f m x v
    go false true = record { member = refl; applied = refl; past = λ p. refl }
    go false false = still (group f) m v

hears_still : (g : Group Message) (m place i : ℕ) (call : CallNo) (reply : Reply) (r : Played) (stage : Stage) (v : NodeWork) → Stills g m v (hears_as place i call reply r stage v)
hears_still g m place i call reply r (Asking act) v = go (call.0 == length r.replies)
  where
    go : (b : Bool) → Stills g m v (if b then plays i (receives place reply r) v else v)
    go true = record { member = refl; applied = refl; past = λ p. refl }
    go false = still g m v
hears_still g m place i call reply r Computing v = still g m v
hears_still g m place i call reply r (Acting act) v = still g m v
hears_still g m place i call reply r (Submitted act) v = still g m v
hears_still g m place i call reply r (Reading act) v = still g m v
hears_still g m place i call reply r (Over act) v = still g m v

hears_of_still : (g : Group Message) (m place i : ℕ) (call : CallNo) (reply : Reply) (o : Option Played) (v : NodeWork) → Stills g m v (hears_of place i call reply o v)
hears_of_still g m place i call reply None v = still g m v
hears_of_still g m place i call reply (Some r) v = hears_still g m place i call reply r r.stage v

takes_still : (f : Frame) (m : ℕ) (errand : Errand) (v : NodeWork) → Stills (group f) m v (takes f m errand v)
takes_still f m (Ask place x) v = asked_still f m x (v.node.given x.process.0) v
takes_still f m (Answer place i call reply) v = hears_of_still (group f) m place i.0 call reply (v.node.played i.0) v

each_still : (f : Frame) (m : ℕ) (errands : List Errand) (v : NodeWork) → Stills (group f) m v (takes_each f m errands v)
each_still f m [] v = still (group f) m v
each_still f m (errand ∷ errands) v =
    let u : NodeWork = if nat_le (place_of errand) v.node.copies.applied then takes f m errand v else holds errand v in
    still_on (group f) m v u (takes_each f m errands u) (go (nat_le (place_of errand) v.node.copies.applied)) (each_still f m errands u)
  where
    go : (b : Bool) → Stills (group f) m v (if b then takes f m errand v else holds errand v)
    go true = takes_still f m errand v
    go false = record { member = refl; applied = refl; past = λ p. refl }

pub reached_still : (f : Frame) (m : ℕ) (v : NodeWork) → Stills (group f) m v (takes_reached f m v)
reached_still f m v = go v.node.member.outside
  where
    u : NodeWork
    u = becomes (record v.node { held = [] }) v

    go : (b : Bool) → Stills (group f) m v (if b then v else takes_each f m v.node.held u)
    go true = still (group f) m v
    go false = still_on (group f) m v u (takes_each f m v.node.held u) (record { member = refl; applied = refl; past = λ p. refl }) (each_still f m v.node.held u)

-- ---- one that comes

pub arrives_carries : (f : Frame) (single : Test) (w : World) (c : Course) (m : ℕ) (errand : Errand) (v : NodeWork) → Carries f single w c m v → ErrandStands f single c m errand → Carries f single w c m (arrives errand v)
arrives_carries f single w c m errand v h stands = go (v.node.member.outside || is_held errand v.node.held)
  where
    go : (b : Bool) → Carries f single w c m (if b then v else holds errand v)
    go true = h
    go false = holds_carries f single w c m errand v h stands

-- ---- Asks are sent again

again_owner : (f : Frame) (single : Test) (w : World) (c : Course) (m i : ℕ) (r : Played) (kind : KindNo) (op : OpNo) (object : ObjectId) (args : Data) (v : NodeWork) → Carries f single w c m v → v.node.played i ≡ Some r
    → r.stage ≡ Asking (action.Call kind op object args) → Carries f single w c m (asks_again_by f m i r (action.Call kind op object args) v)
again_owner f single w c m i r kind op object args v h here is = go (owner_in (known f v.node) object == m) refl
  where
    go : (b : Bool) → (owner_in (known f v.node) object == m) ≡ b → Carries f single w c m (if b then v else sends m (owner_in (known f v.node) object) (Ask r.place (message_of (call_of i r kind op object args))) v)
    go true e = h
    go false e = sends_carries f single w c m (Mail.Sends v.node.member.installed m (owner_in (known f v.node) object) (Ask r.place (message_of (call_of i r kind op object args)))) v h
        (ask_stands f single w c m i r kind op object args v h.corresponds here is (let n = own_node f single w c m v h in n.asks i r object here (subst (λ (z : Stage). AsksFor z object) (sym is) refl)) (eqb-false (owner_in (known f v.node) object) m e))

again_by : (f : Frame) (single : Test) (w : World) (c : Course) (m i : ℕ) (r : Played) (act : Action) (v : NodeWork) → Carries f single w c m v → v.node.played i ≡ Some r → r.stage ≡ Asking act → Carries f single w c m (asks_again_by f m i r act v)
again_by f single w c m i r (action.Call kind op object args) v h here is = again_owner f single w c m i r kind op object args v h here is
again_by f single w c m i r (action.Make kind object) v h here is = h
again_by f single w c m i r (action.Fork text args place_on) v h here is = h
again_by f single w c m i r action.Ended v h here is = h
again_by f single w c m i r (action.Faulted fault) v h here is = h

again_at : (f : Frame) (single : Test) (w : World) (c : Course) (m i : ℕ) (r : Played) (stage : Stage) (v : NodeWork) → Carries f single w c m v → v.node.played i ≡ Some r → r.stage ≡ stage → Carries f single w c m (asks_again_at f m i r stage v)
again_at f single w c m i r (Asking act) v h here is = again_by f single w c m i r act v h here is
again_at f single w c m i r Computing v h here is = h
again_at f single w c m i r (Acting act) v h here is = h
again_at f single w c m i r (Submitted act) v h here is = h
again_at f single w c m i r (Reading act) v h here is = h
again_at f single w c m i r (Over act) v h here is = h

pub again_of : (f : Frame) (single : Test) (w : World) (c : Course) (m i : ℕ) (o : Option Played) (v : NodeWork) → Carries f single w c m v → v.node.played i ≡ o → Carries f single w c m (asks_again_of f m i o v)
again_of f single w c m i None v h here = h
again_of f single w c m i (Some r) v h here = again_at f single w c m i r r.stage v h here refl

again_below : (f : Frame) (single : Test) (w : World) (c : Course) (m n : ℕ) (v : NodeWork) → Carries f single w c m v → Carries f single w c m (asks_below f m n v)
again_below f single w c m zero v h = h
again_below f single w c m (suc i) v h = again_of f single w c m i ((asks_below f m i v).node.played i) (asks_below f m i v) (again_below f single w c m i v h) refl

pub again_carries : (f : Frame) (single : Test) (w : World) (c : Course) (m : ℕ) (v : NodeWork) → Carries f single w c m v → Carries f single w c m (asks_again f m v)
again_carries f single w c m v h = go v.node.member.outside
  where
    go : (b : Bool) → Carries f single w c m (if b then v else asks_below f m v.node.copies.processes v)
    go true = h
    go false = again_below f single w c m v.node.copies.processes v h
