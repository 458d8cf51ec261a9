-- Each Answer that is kept, travels or waits reaches its process, and so will that of each call that waits at an owner.
use Rattle.std.proofs.Common.{◌≡◌, ◌==◌, ◌||◌, ◌+◌, ◌≤◌, ◌<◌, ◌⊎◌, if◌then◌else◌, ℕ, zero, suc, Bool, List, [], ◌∷◌, ◌++◌, map, append-nil, length, length-append, Option, None, Some, refl, sym, ap, ◌∙◌, arith, subst, inl, inr, nat_lt, nat_le}
use Rattle.std.proofs.lemmas.Bool.{cond_both, leb-true}
use Rattle.std.specs.List.{AllByRecursion as Each}
use Rattle.orca_base.specs.declared.ids.CallNo.{CallNo}
use Rattle.value_core.specs.Meaning.{Performs as Meant}
use Rattle.value_core.specs.declared.action.Action.{Action}
use Rattle.value_core.specs.declared.action.Action.TheVariants as action
use Rattle.value_core.specs.declared.action.Class.{Class}
use Rattle.value_core.specs.declared.action.Class.TheVariants.{Reads, Writes}
use Rattle.value_core.specs.declared.action.Line.{Line}
use Rattle.value_core.specs.declared.action.Reply.{Reply}
use Rattle.value_core.specs.declared.meaning.Tried.{Tried}
use Rattle.value_core.specs.declared.message.Message.{Message}
use Rattle.guard_queue.specs.Settles.{is_blocked}
use Rattle.guard_queue.specs.declared.queue.Suspended.{Suspended}
use Rattle.object_manager.specs.After.{Copied}
use Rattle.object_manager.specs.Singles.{after_single, lines_single}
use Rattle.object_manager.specs.State.{message_of}
use Rattle.book_law.specs.Members.{after_entry}
use Rattle.book_law.specs.Passes.{Test, is_passed, lines_after}
use Rattle.group_rules.specs.Member.{Waiting}
use Rattle.group_rules.specs.Sets.{with_at}
use Rattle.group_rules.specs.Steps.{note, submit}
use Rattle.group_rules.specs.Work.{Act, Work}
use Rattle.world_rules.specs.Applying.{answers, applies, applies_all, applies_each, applies_one, begins, copies_take, due_entries, passes_limit, performs_read, round, rounds, tries_as, tries_of, tries_read, tries_reads}
use Rattle.world_rules.specs.Frame.{Frame, group}
use Rattle.world_rules.specs.Mail.{Errand, Mail, place_of}
use Rattle.world_rules.specs.Mail.Errand.{Ask, Answer}
use Rattle.world_rules.specs.Nodes.{Deed, Given, NodeWork, becomes, changes, does, if_played, joins, known, mails_of, plays}
use Rattle.world_rules.specs.Nodes.Deed.{Acts, Performs, Submits}
use Rattle.world_rules.specs.Owners.{arrives, hands, hands_all, hands_to, hears_as, hears_of, holds, is_held, performs_call, sends, takes, takes_asked, takes_call, takes_each, takes_reached, waits_here}
use Rattle.world_rules.specs.Parts.{acts_at, acts_by, acts_of, asks, asks_again, asks_again_at, asks_again_by, asks_again_of, asks_below, asks_owner, calls_as, catches_up, submits}
use Rattle.world_rules.specs.Played.{Played, Stage, moves_to, next_call, receives}
use Rattle.world_rules.specs.Played.Stage.{Computing, Acting, Submitted, Reading, Asking, Over}
use Rattle.world_rules.specs.Processes.{Begun, begun_by, home_in, owner_in, singles_of}
use Rattle.world_law.specs.Asks.{WasAsked}
use Rattle.world_law.specs.Going.{Later}
use Rattle.world_law.specs.Places.{CallStands, Plays, Reaches}
use Rattle.world_law.proofs.Ages.{Fresh, On, ages_rounds, goes_calls_as, goes_submits, moved}
use Rattle.world_law.proofs.Applied.{one_more}
use Rattle.world_law.proofs.Flying.{each_append, each_more}
use Rattle.world_law.proofs.Going.{goes_changes, goes_hands, goes_hears, later_same}
use Rattle.world_law.proofs.Maps.{at_both, at_here}
use Rattle.world_law.proofs.Once.{trichotomy}
use Rattle.world_law.proofs.Sending.{applied_if}
use Rattle.world_law.proofs.Suspending.{lines_so, waits_so}

-- ---- one call

pub record AskFits (all : Plays) (place : ℕ) (x : Message) : Type 0 where
  pub member : ℕ
  pub process : Played
  pub here : all member x.process.0 ≡ Some process
  pub was : WasAsked process place x

abbrev pub ErrandFits : Plays → Errand → Type 0
ErrandFits all (Ask place x) = AskFits all place x
ErrandFits all (Answer place i call reply) = CallStands all place i.0 call

abbrev pub MailFits : Plays → Mail → Type 0
MailFits all (Mail.Grouped letter) = Unit {0}
MailFits all (Mail.Sends incarnation from to errand) = ErrandFits all errand

-- as processes go on
abbrev pub LaterAll : Plays → Plays → Type 0
LaterAll one two = (k i : ℕ) (r : Played) → one k i ≡ Some r → (t : Played) × (two k i ≡ Some t) × Later r t

more_of : (r t : Played) → (h : Later r t) → length t.replies ≡ length r.replies + length h.replies.0
more_of r t h = ap length h.replies.1 ∙ length-append r.replies h.replies.0

reaches_later : (r t : Played) (place more : ℕ) (call : CallNo) → place ≤ more → Later r t → Reaches r place call → Reaches t more call
reaches_later r t place more call le later (inl less) = let n = more_of r t later in inl (omega (arith, less, n))
reaches_later r t place more call le later (inr is) = by (trichotomy (length r.replies) (length t.replies))
  where
    by : (length r.replies < length t.replies) ⊎ ((length r.replies ≡ length t.replies) ⊎ (length t.replies < length r.replies)) → Reaches t more call
    by (inl less) = let e = is.0 in inl (omega (arith, less, e))
    by (inr (inl same)) =
        let e = is.0 in
        let low = is.1 in
        let place_same = later.place (sym same) in
        inr (omega (arith, e, same), omega (arith, low, place_same, le))
    by (inr (inr less)) = let n = more_of r t later in absurd (omega (arith, less, n))

asked_later : (r t : Played) (place : ℕ) (x : Message) → Later r t → WasAsked r place x → WasAsked t place x
asked_later r t place x later (inl less) = let n = more_of r t later in inl (omega (arith, less, n))
asked_later r t place x later (inr is) = by (trichotomy (length r.replies) (length t.replies))
  where
    by : (length r.replies < length t.replies) ⊎ ((length r.replies ≡ length t.replies) ⊎ (length t.replies < length r.replies)) → WasAsked t place x
    by (inl less) = let e = is.0 in inl (omega (arith, less, e))
    by (inr (inl same)) = inr (is.0 ∙ same, later.asks (sym same) x.action is.1, is.2 ∙ sym (later.place (sym same)))
    by (inr (inr less)) = let n = more_of r t later in absurd (omega (arith, less, n))

pub call_later : (one two : Plays) → LaterAll one two → (place more i : ℕ) (call : CallNo) → place ≤ more → CallStands one place i call → CallStands two more i call
call_later one two later place more i call le h =
    let a = later h.member i h.process h.here in
    record { member = h.member; process = a.0; here = a.1; reaches = reaches_later h.process a.0 place more call le a.2 h.reaches }

pub errand_later : (one two : Plays) → LaterAll one two → (errand : Errand) → ErrandFits one errand → ErrandFits two errand
errand_later one two later (Ask place x) h =
    let a = later h.member x.process.0 h.process h.here in
    record { member = h.member; process = a.0; here = a.1; was = asked_later h.process a.0 place x a.2 h.was }
errand_later one two later (Answer place i call reply) h = call_later one two later place place i.0 call (omega arith) h

pub mail_fits_later : (one two : Plays) → LaterAll one two → (mail : Mail) → MailFits one mail → MailFits two mail
mail_fits_later one two later (Mail.Grouped letter) h = tt
mail_fits_later one two later (Mail.Sends incarnation from to errand) h = errand_later one two later errand h

-- an Ask whose place is reached
asked_call : (all : Plays) (place applied : ℕ) (x : Message) → place ≤ applied → AskFits all place x → CallStands all applied x.process.0 x.call
asked_call all place applied x le h = record { member = h.member; process = h.process; here = h.here; reaches = by h.was }
  where
    by : WasAsked h.process place x → Reaches h.process applied x.call
    by (inl less) = inl less
    by (inr is) = let e = is.2 in inr (is.0, omega (arith, le, e))

-- ---- a node at work

-- Asks and Answers among letters
abbrev pub errands_in : List Mail → List Mail
errands_in [] = []
errands_in (Mail.Grouped letter ∷ mails) = errands_in mails
errands_in (Mail.Sends incarnation from to errand ∷ mails) = Mail.Sends incarnation from to errand ∷ errands_in mails

errands_append : (one two : List Mail) → errands_in (one ++ two) ≡ errands_in one ++ errands_in two
errands_append [] two = refl
errands_append (Mail.Grouped letter ∷ one) two = errands_append one two
errands_append (Mail.Sends incarnation from to errand ∷ one) two = ap (λ xs. Mail.Sends incarnation from to errand ∷ xs) (errands_append one two)

errands_join : (acts : List (Act Message)) (deeds : List Deed) → errands_in (mails_of (map Acts acts ++ deeds)) ≡ errands_in (mails_of deeds)
errands_join [] deeds = refl
errands_join (Act.Sends letter ∷ acts) deeds =
    errands_append (mails_of (map Acts acts ++ deeds)) (Mail.Grouped letter ∷ []) ∙ append-nil (errands_in (mails_of (map Acts acts ++ deeds))) ∙ errands_join acts deeds
errands_join (Act.Keeps packet ∷ acts) deeds = errands_join acts deeds
errands_join (Act.Orders k x ∷ acts) deeds = errands_join acts deeds
errands_join (Act.Begins k log answers ∷ acts) deeds = errands_join acts deeds

pub record FitsOf (all : Plays) (given : ℕ → Option Given) (applied : ℕ) (waits : List Suspended) (held rest : List Errand) (mails : List Mail) : Type 0 where
  pub rest_fit : Each (ErrandFits all) rest
  pub held_fit : Each (ErrandFits all) held
  pub given_fit : (i : ℕ) (one : Given) → given i ≡ Some one → CallStands all one.place i one.call
  pub waits_fit : Each (λ (one : Suspended). CallStands all applied one.process.0 one.call) waits
  pub mails_fit : Each (MailFits all) mails

fits_later : (one two : Plays) (given : ℕ → Option Given) (applied more : ℕ) (waits : List Suspended) (held rest : List Errand) (mails : List Mail) →
    LaterAll one two → applied ≤ more → FitsOf one given applied waits held rest mails → FitsOf two given more waits held rest mails
fits_later one two given applied more waits held rest mails later le h = record {
  rest_fit = each_more (ErrandFits one) (ErrandFits two) (errand_later one two later) rest h.rest_fit;
  held_fit = each_more (ErrandFits one) (ErrandFits two) (errand_later one two later) held h.held_fit;
  given_fit = λ i a found. call_later one two later a.place a.place i a.call (omega arith) (h.given_fit i a found);
  waits_fit = each_more (λ (c : Suspended). CallStands one applied c.process.0 c.call) (λ (c : Suspended). CallStands two more c.process.0 c.call)
      (λ c k. call_later one two later applied more c.process.0 c.call le k) waits h.waits_fit;
  mails_fit = each_more (MailFits one) (MailFits two) (mail_fits_later one two later) mails h.mails_fit;
}

-- what an owner keeps, what waits at it, and what was sent, stay
pub record Even (v u : NodeWork) : Type 0 where
  pub given : u.node.given ≡ v.node.given
  pub waits : u.node.copies.waits ≡ v.node.copies.waits
  pub held : u.node.held ≡ v.node.held
  pub mails : errands_in (mails_of u.deeds) ≡ errands_in (mails_of v.deeds)
  pub applied : v.node.copies.applied ≤ u.node.copies.applied

even : (v : NodeWork) → Even v v
even v = record { given = refl; waits = refl; held = refl; mails = refl; applied = omega arith }

even_on : (v u t : NodeWork) → Even v u → Even u t → Even v t
even_on v u t one two =
    let first = one.applied in
    let second = two.applied in
    record {
      given = two.given ∙ one.given;
      waits = two.waits ∙ one.waits;
      held = two.held ∙ one.held;
      mails = two.mails ∙ one.mails;
      applied = omega (arith, first, second);
    }

even_if : (change : Played → Played) (i : ℕ) (o : Option Played) (v : NodeWork) → Even v (if_played change i o v)
even_if change i None v = even v
even_if change i (Some r) v = record { given = refl; waits = refl; held = refl; mails = refl; applied = omega arith }

even_performs : (i : ℕ) (r : Played) (act : Action) (t : Tried) (v : NodeWork) → Even v (performs_read i r act t v)
even_performs i r act t v = cond_both (is_blocked t) _ _ (Even v) (λ e. even v)
    (λ e. record { given = refl; waits = refl; held = refl; mails = refl; applied = omega arith })

even_as : (f : Frame) (i : ℕ) (r : Played) (stage : Stage) (v : NodeWork) → Even v (tries_as f i r stage v)
even_as f i r (Reading act) v = even_performs i r act _ v
even_as f i r Computing v = even v
even_as f i r (Acting act) v = even v
even_as f i r (Submitted act) v = even v
even_as f i r (Asking act) v = even v
even_as f i r (Over act) v = even v

even_tries : (f : Frame) (i : ℕ) (o : Option Played) (v : NodeWork) → Even v (tries_of f i o v)
even_tries f i None v = even v
even_tries f i (Some r) v = even_as f i r r.stage v

even_reads : (f : Frame) (n : ℕ) (v : NodeWork) → Even v (tries_reads f n v)
even_reads f zero v = even v
even_reads f (suc i) v = even_on v (tries_reads f i v) (tries_reads f (suc i) v) (even_reads f i v)
    (even_tries f i ((tries_reads f i v).node.played i) (tries_reads f i v))

even_answers : (place : ℕ) (lines : List Line) (v : NodeWork) → Even v (answers place lines v)
even_answers place [] v = even v
even_answers place (l ∷ ls) v =
    let u : NodeWork = changes (receives place l.reply) l.process.0 v in
    even_on v u (answers place ls u) (even_if (receives place l.reply) l.process.0 (v.node.played l.process.0) v) (even_answers place ls u)

even_begins : (m i : ℕ) (processes : List Begun) (v : NodeWork) → Even v (begins m i processes v)
even_begins m i [] v = even v
even_begins m i (process ∷ processes) v = cond_both (process.home == m) _ _ (Even v)
    (λ e. record { given = refl; waits = refl; held = refl; mails = refl; applied = omega arith }) (λ e. even v)

waits_entry : (single : Test) (p : Meant) (c : Copied) (x : Message) (keeps : Bool) → (after_entry single p c x keeps).waits ≡ c.waits
waits_entry single p c x keeps = cond_both (is_passed single x.action) _ _ (λ (z : Copied). z.waits ≡ c.waits) (λ e. refl) (λ e. refl)

even_one : (f : Frame) (m : ℕ) (x : Message) (v : NodeWork) → Even v (applies_one f m x v)
even_one f m x v =
    let ps : List Begun = known f v.node in
    let place : ℕ = suc v.node.copies.applied in
    let taken : NodeWork = copies_take f m ps x v in
    let lines : List Line = lines_after (singles_of f ps) f.performs v.node.copies x in
    let told : NodeWork = answers place lines taken in
    let born : List Begun = begun_by f.settings.nodes (home_in ps x.process.0) place x.action in
    let u : NodeWork = begins m v.node.copies.processes born told in
    let new = one_more (singles_of f ps) f.performs v.node.copies x (home_in ps x.process.0 == m) in
    let first : Even v taken = record {
      given = refl;
      waits = waits_entry (singles_of f ps) f.performs v.node.copies x (home_in ps x.process.0 == m);
      held = refl;
      mails = refl;
      applied = omega (arith, new);
    } in
    even_on v taken (tries_reads f u.node.copies.processes u) first
    (even_on taken told (tries_reads f u.node.copies.processes u) (even_answers place lines taken)
    (even_on told u (tries_reads f u.node.copies.processes u) (even_begins m v.node.copies.processes born told) (even_reads f u.node.copies.processes u)))

even_each : (f : Frame) (m : ℕ) (xs : List Message) (v : NodeWork) → Even v (applies_each f m xs v)
even_each f m [] v = even v
even_each f m (x ∷ xs) v = cond_both (passes_limit f v.node x) _ _ (Even v) (λ e. even v)
    (λ e. even_on v (applies_one f m x v) (applies_each f m xs (applies_one f m x v)) (even_one f m x v) (even_each f m xs (applies_one f m x v)))

pub even_joins : (work : Work Message) (v : NodeWork) → Even v (joins work v)
even_joins work v = record { given = refl; waits = refl; held = refl; mails = errands_join work.acts v.deeds; applied = omega arith }

even_round : (f : Frame) (m : ℕ) (v : NodeWork) → Even v (round f m v)
even_round f m v =
    let u : NodeWork = applies f m v in
    even_on v u (round f m v) (even_each f m (due_entries v.node) v)
    (cond_both (nat_lt u.node.member.applied u.node.copies.applied) _ _ (Even u)
    (λ e. even_joins (note (group f) m u.node.copies.applied u.node.member) u) (λ e. even u))

even_rounds : (f : Frame) (m : ℕ) (waiting : List (Waiting Message)) (v : NodeWork) → Even v (rounds f m waiting v)
even_rounds f m [] v = even_round f m v
even_rounds f m (one ∷ more) v = even_on v (round f m v) (rounds f m more (round f m v)) (even_round f m v) (even_rounds f m more (round f m v))

even_hears_as : (place i : ℕ) (call : CallNo) (reply : Reply) (r : Played) (stage : Stage) (v : NodeWork) → Even v (hears_as place i call reply r stage v)
even_hears_as place i call reply r (Asking act) v = cond_both (call.0 == length r.replies) _ _ (Even v)
    (λ e. record { given = refl; waits = refl; held = refl; mails = refl; applied = omega arith }) (λ e. even v)
even_hears_as place i call reply r Computing v = even v
even_hears_as place i call reply r (Acting act) v = even v
even_hears_as place i call reply r (Submitted act) v = even v
even_hears_as place i call reply r (Reading act) v = even v
even_hears_as place i call reply r (Over act) v = even v

even_hears : (place i : ℕ) (call : CallNo) (reply : Reply) (o : Option Played) (v : NodeWork) → Even v (hears_of place i call reply o v)
even_hears place i call reply None v = even v
even_hears place i call reply (Some r) v = even_hears_as place i call reply r r.stage v

-- ---- member m at work, the others playing so

module _ (b : Plays) (f : Frame) (m : ℕ) where
  abbrev pub AllOf : NodeWork → Plays
  AllOf v = with_at b m v.node.played

  abbrev pub Fits : List Errand → NodeWork → Type 0
  Fits rest v = FitsOf (AllOf v) v.node.given v.node.copies.applied v.node.copies.waits v.node.held rest (errands_in (mails_of v.deeds))

  pub later_on_all : (v u : NodeWork) → On v u → LaterAll (AllOf v) (AllOf u)
  later_on_all v u on k i r = at_both b m v.node.played k
      (λ (p : ℕ → Option Played). p i ≡ Some r → (t : Played) × (AllOf u k i ≡ Some t) × Later r t)
      (λ e found. at_both b m u.node.played k (λ (p : ℕ → Option Played). (t : Played) × (p i ≡ Some t) × Later r t) (λ d. on i r found) (λ no. absurd (no e)))
      (λ no found. at_both b m u.node.played k (λ (p : ℕ → Option Played). (t : Played) × (p i ≡ Some t) × Later r t) (λ e. absurd (no e)) (λ d. (r, found, later_same r)))

  pub fits_even : (rest : List Errand) (v u : NodeWork) → On v u → Even v u → Fits rest v → Fits rest u
  fits_even rest v u on e h =
      let k = fits_later (AllOf v) (AllOf u) v.node.given v.node.copies.applied u.node.copies.applied v.node.copies.waits v.node.held rest
      (errands_in (mails_of v.deeds)) (later_on_all v u on) e.applied h in
      record {
        rest_fit = k.rest_fit;
        held_fit = subst (Each (ErrandFits (AllOf u))) (sym e.held) k.held_fit;
        given_fit = λ i one found. k.given_fit i one (ap (λ g. g i) (sym e.given) ∙ found);
        waits_fit = subst (Each (λ (c : Suspended). CallStands (AllOf u) u.node.copies.applied c.process.0 c.call)) (sym e.waits) k.waits_fit;
        mails_fit = subst (Each (MailFits (AllOf u))) (sym e.mails) k.mails_fit;
      }

  -- ---- owners

  fits_sends : (rest : List Errand) (to : ℕ) (errand : Errand) (v : NodeWork) → ErrandFits (AllOf v) errand → Fits rest v → Fits rest (sends m to errand v)
  fits_sends rest to errand v is h = record {
    rest_fit = h.rest_fit;
    held_fit = h.held_fit;
    given_fit = h.given_fit;
    waits_fit = h.waits_fit;
    mails_fit = subst (Each (MailFits (AllOf v))) (sym (errands_append (mails_of v.deeds) (Mail.Sends v.node.member.installed m to errand ∷ [])))
        (each_append (MailFits (AllOf v)) (errands_in (mails_of v.deeds)) (Mail.Sends v.node.member.installed m to errand ∷ []) h.mails_fit (is, tt));
  }

  fits_hands_to : (rest : List Errand) (home place : ℕ) (l : Line) (v : NodeWork) → CallStands (AllOf v) place l.process.0 l.call → Fits rest v →
      Fits rest (hands_to m home place l v)
  fits_hands_to rest home place l v is h = cond_both (home == m) _ _ (Fits rest)
      (λ e. fits_even rest v (changes (receives place l.reply) l.process.0 v) (goes_changes place l.reply l.process.0 v).on
      (even_if (receives place l.reply) l.process.0 (v.node.played l.process.0) v) h)
      (λ e.
      let given : Given = record { place = place; call = l.call; reply = l.reply } in
      let u : NodeWork = becomes (record v.node { given = with_at v.node.given l.process.0 (Some given) }) v in
      fits_sends rest home (Answer place l.process l.call l.reply) u is
      (record {
        rest_fit = h.rest_fit;
        held_fit = h.held_fit;
        given_fit = λ i one. at_both v.node.given l.process.0 (Some given) i (λ z. z ≡ Some one → CallStands (AllOf v) one.place i one.call)
            (λ same found.
            let e : given ≡ one = cc found in
            subst (λ (z : Given). CallStands (AllOf v) z.place i z.call) e (subst (λ k. CallStands (AllOf v) place k l.call) (sym same) is))
            (λ no found. h.given_fit i one found);
        waits_fit = h.waits_fit;
        mails_fit = h.mails_fit;
      }))

  applied_hands : (l : Line) (v : NodeWork) → (hands f m l v).node.copies.applied ≡ v.node.copies.applied
  applied_hands l v = cond_both (home_in (known f v.node) l.process.0 == m) _ _ (λ (u : NodeWork). u.node.copies.applied ≡ v.node.copies.applied)
      (λ e. applied_if (receives v.node.copies.applied l.reply) l.process.0 (v.node.played l.process.0)
      (does (Performs (record { place = v.node.copies.applied; line = l })) v))
      (λ e. refl)

  fits_hands_all : (rest : List Errand) (ls : List Line) (v : NodeWork) →
      Each (λ (l : Line). CallStands (AllOf v) v.node.copies.applied l.process.0 l.call) ls → Fits rest v → Fits rest (hands_all f m ls v)
  fits_hands_all rest [] v are h = h
  fits_hands_all rest (l ∷ ls) v are h =
      let u : NodeWork = hands f m l v in
      let same = applied_hands l v in
      fits_hands_all rest ls u
      (each_more (λ (one : Line). CallStands (AllOf v) v.node.copies.applied one.process.0 one.call)
      (λ (one : Line). CallStands (AllOf u) u.node.copies.applied one.process.0 one.call)
      (λ one k. call_later (AllOf v) (AllOf u) (later_on_all v u (goes_hands f m l v).on) v.node.copies.applied u.node.copies.applied one.process.0 one.call
      (omega (arith, same)) k) ls are.1)
      (fits_hands_to rest (home_in (known f v.node) l.process.0) v.node.copies.applied l
      (does (Performs (record { place = v.node.copies.applied; line = l })) v) are.0 h)

  fits_call : (rest : List Errand) (x : Message) (v : NodeWork) → CallStands (AllOf v) v.node.copies.applied x.process.0 x.call → Fits rest v →
      Fits rest (performs_call f m x v)
  fits_call rest x v is h =
      let P : ℕ → CallNo → Type 0 = λ i call. CallStands (AllOf v) v.node.copies.applied i call in
      let u : NodeWork = becomes (record v.node { copies = after_single f.performs v.node.copies x }) v in
      fits_hands_all rest (lines_single f.performs v.node.copies x) u (lines_so P f.performs v.node.copies x is h.waits_fit)
      (record {
        rest_fit = h.rest_fit;
        held_fit = h.held_fit;
        given_fit = h.given_fit;
        waits_fit = waits_so P f.performs v.node.copies x is h.waits_fit;
        mails_fit = h.mails_fit;
      })

  fits_takes_call : (rest : List Errand) (x : Message) (v : NodeWork) → CallStands (AllOf v) v.node.copies.applied x.process.0 x.call → Fits rest v →
      Fits rest (takes_call f m x v)
  fits_takes_call rest x v is h = cond_both (waits_here x v.node.copies.waits) _ _ (Fits rest) (λ e. h) (λ e. fits_call rest x v is h)

  fits_asked : (rest : List Errand) (x : Message) (o : Option Given) (v : NodeWork) → v.node.given x.process.0 ≡ o →
      CallStands (AllOf v) v.node.copies.applied x.process.0 x.call → Fits rest v → Fits rest (takes_asked f m x o v)
  fits_asked rest x None v here is h = fits_takes_call rest x v is h
  fits_asked rest x (Some given) v here is h = cond_both (nat_lt given.call.0 x.call.0) _ _ (Fits rest) (λ e. fits_takes_call rest x v is h)
      (λ e. cond_both (given.call.0 == x.call.0) _ _ (Fits rest)
      (λ d. fits_sends rest (home_in (known f v.node) x.process.0) (Answer given.place x.process given.call given.reply) v (h.given_fit x.process.0 given here) h)
      (λ d. h))

  fits_takes : (rest : List Errand) (errand : Errand) (v : NodeWork) → place_of errand ≤ v.node.copies.applied → ErrandFits (AllOf v) errand → Fits rest v →
      Fits rest (takes f m errand v)
  fits_takes rest (Ask place x) v le is h =
      fits_asked rest x (v.node.given x.process.0) v refl (asked_call (AllOf v) place v.node.copies.applied x le is) h
  fits_takes rest (Answer place i call reply) v le is h =
      fits_even rest v (hears_of place i.0 call reply (v.node.played i.0) v) (goes_hears place i.0 call reply (v.node.played i.0) v refl).on
      (even_hears place i.0 call reply (v.node.played i.0) v) h

  pub fits_holds : (rest : List Errand) (errand : Errand) (v : NodeWork) → ErrandFits (AllOf v) errand → Fits rest v → Fits rest (holds errand v)
  fits_holds rest errand v is h = record {
    rest_fit = h.rest_fit;
    held_fit = each_append (ErrandFits (AllOf v)) v.node.held (errand ∷ []) h.held_fit (is, tt);
    given_fit = h.given_fit;
    waits_fit = h.waits_fit;
    mails_fit = h.mails_fit;
  }

  fits_each : (errands : List Errand) (v : NodeWork) → Fits errands v → Fits [] (takes_each f m errands v)
  fits_each [] v h = h
  fits_each (errand ∷ errands) v h =
      let u : NodeWork = if nat_le (place_of errand) v.node.copies.applied then takes f m errand v else holds errand v in
      let k : Fits (errand ∷ errands) u = cond_both (nat_le (place_of errand) v.node.copies.applied) (takes f m errand v) (holds errand v) (Fits (errand ∷ errands))
      (λ e. fits_takes (errand ∷ errands) errand v (leb-true (place_of errand) v.node.copies.applied e) h.rest_fit.0 h)
      (λ e. fits_holds (errand ∷ errands) errand v h.rest_fit.0 h) in
      fits_each errands u
      (record { rest_fit = k.rest_fit.1; held_fit = k.held_fit; given_fit = k.given_fit; waits_fit = k.waits_fit; mails_fit = k.mails_fit })

  fits_reached : (v : NodeWork) → Fits [] v → Fits [] (takes_reached f m v)
  fits_reached v h = cond_both v.node.member.outside _ _ (Fits []) (λ e. h)
      (λ e. fits_each v.node.held (becomes (record v.node { held = [] }) v)
      (record { rest_fit = h.held_fit; held_fit = tt; given_fit = h.given_fit; waits_fit = h.waits_fit; mails_fit = h.mails_fit }))

  pub fits_up : (v : NodeWork) → Fresh v.node → Fits [] v → Fits [] (catches_up f m v)
  fits_up v fresh h = fits_reached (applies_all f m v)
      (fits_even [] v (applies_all f m v) (ages_rounds f m v.node.member.waiting v fresh).on (even_rounds f m v.node.member.waiting v) h)

  -- ---- parts of events

  pub fits_arrives : (errand : Errand) (v : NodeWork) → ErrandFits (AllOf v) errand → Fits [] v → Fits [] (arrives errand v)
  fits_arrives errand v is h = cond_both (v.node.member.outside || is_held errand v.node.held) _ _ (Fits []) (λ e. h) (λ e. fits_holds [] errand v is h)

  fits_owner : (r : Played) (call : Suspended) (v : NodeWork) → AskFits (AllOf v) r.place (message_of call) → Fits [] v → Fits [] (asks_owner f m r call v)
  fits_owner r call v is h = cond_both (owner_in (known f v.node) call.object == m) _ _ (Fits []) (λ e. h)
      (λ e. fits_sends [] (owner_in (known f v.node) call.object) (Ask r.place (message_of call)) v is h)

  fits_again_by : (i : ℕ) (r : Played) (act : Action) (v : NodeWork) → v.node.played i ≡ Some r → r.stage ≡ Asking act → Fits [] v →
      Fits [] (asks_again_by f m i r act v)
  fits_again_by i r (action.Call kind op object args) v here is h =
      let call : Suspended = record { process = record { 0 = i }; call = next_call r; kind = kind; op = op; object = object; args = args } in
      fits_owner r call v
      (record { member = m; process = r; here = ap (λ (p : ℕ → Option Played). p i) (at_here b m v.node.played) ∙ here; was = inr (refl, is, refl) }) h
  fits_again_by i r (action.Make kind object) v here is h = h
  fits_again_by i r (action.Fork text args place_on) v here is h = h
  fits_again_by i r action.Ended v here is h = h
  fits_again_by i r (action.Faulted fault) v here is h = h

  fits_again_at : (i : ℕ) (r : Played) (stage : Stage) (v : NodeWork) → v.node.played i ≡ Some r → r.stage ≡ stage → Fits [] v →
      Fits [] (asks_again_at f m i r stage v)
  fits_again_at i r (Asking act) v here is h = fits_again_by i r act v here is h
  fits_again_at i r Computing v here is h = h
  fits_again_at i r (Acting act) v here is h = h
  fits_again_at i r (Submitted act) v here is h = h
  fits_again_at i r (Reading act) v here is h = h
  fits_again_at i r (Over act) v here is h = h

  fits_again_of : (i : ℕ) (o : Option Played) (v : NodeWork) → v.node.played i ≡ o → Fits [] v → Fits [] (asks_again_of f m i o v)
  fits_again_of i None v here h = h
  fits_again_of i (Some r) v here h = fits_again_at i r r.stage v here refl h

  fits_below : (n : ℕ) (v : NodeWork) → Fits [] v → Fits [] (asks_below f m n v)
  fits_below zero v h = h
  fits_below (suc i) v h = fits_again_of i ((asks_below f m i v).node.played i) (asks_below f m i v) refl (fits_below i v h)

  pub fits_again : (v : NodeWork) → Fits [] v → Fits [] (asks_again f m v)
  fits_again v h = cond_both v.node.member.outside _ _ (Fits []) (λ e. h) (λ e. fits_below v.node.copies.processes v h)

  -- a process's action is carried out, at a place within what was applied
  fits_asks : (i : ℕ) (r : Played) (was : Action) (call : Suspended) (v : NodeWork) → v.node.played i ≡ Some r → r.stage ≡ Acting was →
      call.process.0 ≡ i → call.call.0 ≡ length r.replies → r.place ≤ v.node.copies.applied → Fits [] v → Fits [] (asks f m i r call v)
  fits_asks i r was call v here is process number low h =
      let t : Played = moves_to (Asking (message_of call).action) r in
      let u : NodeWork = plays i t v in
      let k : Fits [] u = fits_even [] v u (moved i r was (Asking (message_of call).action) v here is).on
      (record { given = refl; waits = refl; held = refl; mails = refl; applied = omega arith }) h in
      let found : AllOf u m call.process.0 ≡ Some t =
      ap (λ (p : ℕ → Option Played). p call.process.0) (at_here b m u.node.played) ∙ ap u.node.played process ∙ at_here v.node.played i (Some t) in
      cond_both (owner_in (known f v.node) call.object == m) _ _ (Fits [])
      (λ e. fits_call [] (message_of call) u (record { member = m; process = t; here = found; reaches = inr (number, low) }) k)
      (λ e. fits_sends [] (owner_in (known f v.node) call.object) (Ask r.place (message_of call)) u
      (record { member = m; process = t; here = found; was = inr (number, refl, refl) }) k)

  even_submits : (i : ℕ) (r : Played) (act : Action) (x : Message) (v : NodeWork) → Even v (submits f m i r act x v)
  even_submits i r act x v =
      let u : NodeWork = does (Submits x) (plays i (moves_to (Submitted act) r) v) in
      even_on v u (joins (submit (group f) m x u.node.member) u)
      (record { given = refl; waits = refl; held = refl; mails = refl; applied = omega arith }) (even_joins (submit (group f) m x u.node.member) u)

  even_calls_as : (i : ℕ) (r : Played) (call : Suspended) (class : Class) (v : NodeWork) → Even v (calls_as f m i r call class v)
  even_calls_as i r call Reads v =
      let u : NodeWork = plays i (moves_to (Reading (message_of call).action) r) v in
      even_on v u (tries_read f i u) (record { given = refl; waits = refl; held = refl; mails = refl; applied = omega arith }) (even_tries f i (u.node.played i) u)
  even_calls_as i r call Writes v = even_submits i r (message_of call).action (message_of call) v

  fits_by : (i : ℕ) (r : Played) (was act : Action) (v : NodeWork) → v.node.played i ≡ Some r → r.stage ≡ Acting was → r.place ≤ v.node.copies.applied →
      Fits [] v → Fits [] (acts_by f m i r act v)
  fits_by i r was (action.Make kind object) v here is low h =
      let x : Message = record { process = record { 0 = i }; call = next_call r; action = action.Make kind object; performable = refl } in
      fits_even [] v (submits f m i r (action.Make kind object) x v) (goes_submits f m i r (action.Make kind object) was x v here is).on
      (even_submits i r (action.Make kind object) x v) h
  fits_by i r was (action.Call kind op object args) v here is low h =
      let call : Suspended = record { process = record { 0 = i }; call = next_call r; kind = kind; op = op; object = object; args = args } in
      cond_both (singles_of f (known f v.node) call.object) _ _ (Fits [])
      (λ e. fits_asks i r was call v here is refl refl low h)
      (λ e. fits_even [] v (calls_as f m i r call (f.performs.class_of call.kind call.op) v)
      (goes_calls_as f m i r was call (f.performs.class_of call.kind call.op) v here is).on (even_calls_as i r call (f.performs.class_of call.kind call.op) v) h)
  fits_by i r was (action.Fork text args place_on) v here is low h =
      let x : Message = record { process = record { 0 = i }; call = next_call r; action = action.Fork text args place_on; performable = refl } in
      fits_even [] v (submits f m i r (action.Fork text args place_on) x v) (goes_submits f m i r (action.Fork text args place_on) was x v here is).on
      (even_submits i r (action.Fork text args place_on) x v) h
  fits_by i r was action.Ended v here is low h = h
  fits_by i r was (action.Faulted fault) v here is low h = h

  fits_at : (i : ℕ) (r : Played) (stage : Stage) (v : NodeWork) → v.node.played i ≡ Some r → r.stage ≡ stage → r.place ≤ v.node.copies.applied →
      Fits [] v → Fits [] (acts_at f m i r stage v)
  fits_at i r (Acting act) v here is low h = fits_by i r act act v here is low h
  fits_at i r Computing v here is low h = h
  fits_at i r (Submitted act) v here is low h = h
  fits_at i r (Reading act) v here is low h = h
  fits_at i r (Asking act) v here is low h = h
  fits_at i r (Over act) v here is low h = h

  pub fits_acts : (i : ℕ) (o : Option Played) (v : NodeWork) → v.node.played i ≡ o → ((r : Played) → o ≡ Some r → r.place ≤ v.node.copies.applied) →
      Fits [] v → Fits [] (acts_of f m i o v)
  fits_acts i None v here low h = h
  fits_acts i (Some r) v here low h = fits_at i r r.stage v here refl (low r refl) h
