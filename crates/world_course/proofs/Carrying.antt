-- What stands at work goes on standing: the world in which a member is at work, with each Ask and Answer, also those that its work sends.
use Rattle.std.proofs.Common.{◌≡◌, ◌==◌, ℕ, ◌⊎◌, inl, inr, ⊎_elim, Bool, true, false, List, [], ◌∷◌, ◌++◌, Option, refl, sym, ap, ◌∙◌, subst, arith, if◌then◌else◌}
use Rattle.std.proofs.lemmas.Bool.{cases_eq}
use Rattle.orca_base.specs.declared.ids.CallNo.{CallNo}
use Rattle.orca_base.specs.declared.ids.ObjectId.{ObjectId}
use Rattle.orca_base.specs.declared.ids.ProcessNo.{ProcessNo}
use Rattle.value_core.specs.declared.action.Line.{Line}
use Rattle.value_core.specs.declared.action.Reply.{Reply}
use Rattle.value_core.specs.declared.message.Message.{Message}
use Rattle.group_rules.specs.Work.{Work}
use Rattle.book_law.specs.Passes.{Test}
use Rattle.book_law.specs.declared.placing.Placed.{Placed}
use Rattle.book_law.specs.Course.{Course}
use Rattle.book_law.specs.Events.{Calls, In}
use Rattle.book_law.proofs.Courses.{at_other}
use Rattle.book_law.proofs.Lists.{in_push}
use Rattle.book_law.proofs.Objects.{in_append, in_first, in_second}
use Rattle.world_rules.specs.Frame.{Frame}
use Rattle.world_rules.specs.Mail.{Errand, Mail}
use Rattle.world_rules.specs.Nodes.{Given, Node, NodeWork, aside_of, becomes, does, joins, mails_of}
use Rattle.world_rules.specs.Nodes.Deed.{Mails}
use Rattle.world_rules.specs.Owners.{holds}
use Rattle.world_rules.specs.Played.{Stage}
use Rattle.world_rules.specs.Worlds.{World}
use Rattle.world_course.specs.Chain.{Leads}
use Rattle.world_course.specs.Chain.Leads.{Stays}
use Rattle.world_course.specs.Corresponds.{Corresponds, Lifts}
use Rattle.world_course.specs.Errands.{AllStand, ErrandStands, IsAnswer, IsGiven, MailStands, NodeStands, WaitsOn, WasPerformed}
use Rattle.world_course.specs.Group.{KeepsEntries}
use Rattle.world_course.specs.Works.{at_work}
use Rattle.world_course.proofs.Catching.{joins_on}
use Rattle.world_course.proofs.Changing.{leads_on}
use Rattle.world_course.proofs.Events.{OnlySends, sends_on}
use Rattle.world_course.proofs.Later.{Later, errand_later, later_self, leads_later}
use Rattle.world_course.proofs.Silent.{IsGrouped, Silent, asks_waits, shares_waits, silent_joins}
use Rattle.world_course.proofs.Tries.{node_at}

-- ---- at work

-- member m is at work in a world that stands for the course, with each Ask and Answer
pub record Carries (f : Frame) (single : Test) (w : World) (c : Course) (m : ℕ) (v : NodeWork) : Type 0 where
  pub corresponds : Corresponds f single (at_work f m w v) c
  pub errands : AllStand f single (at_work f m w v) c
  pub mails : (mail : Mail) → In mail (mails_of v.deeds) → MailStands f single c mail

abbrev pub CarriesOn : Frame → Test → World → Course → ℕ → NodeWork → Type 0
CarriesOn f single w c m v = (d : Course) × Leads single f.performs f.computes c d × Carries f single w d m v

pub carries_stay : (f : Frame) (single : Test) (w : World) (c : Course) (m : ℕ) (v : NodeWork) → Carries f single w c m v → CarriesOn f single w c m v
carries_stay f single w c m v h = (c, Stays c, h)

pub carries_on : (f : Frame) (single : Test) (w : World) (c d : Course) (m : ℕ) (v : NodeWork) → Leads single f.performs f.computes c d → CarriesOn f single w d m v → CarriesOn f single w c m v
carries_on f single w c d m v leads l = (l.0, leads_on single f.performs f.computes c d l.0 leads l.1, l.2)

-- the member's own node
pub own_node : (f : Frame) (single : Test) (w : World) (c : Course) (m : ℕ) (v : NodeWork) → Carries f single w c m v → NodeStands f single c m v.node
own_node f single w c m v h = let e = h.errands in subst (λ (n : Node). NodeStands f single c m n) (node_at f m w v) (e.nodes m)

-- ---- later courses

pub answer_later : (c d : Course) (n : ℕ) (i : ProcessNo) (number : CallNo) (says : Reply) → ((r : Placed) → In r c.aside → In r d.aside) → IsAnswer c n i number says → IsAnswer d n i number says
answer_later c d n i number says more a = record { line = a.line; there = more a.line a.there; place = a.place; process = a.process; call = a.call; reply = a.reply }

pub mail_later : (f : Frame) (single : Test) (c d : Course) (mail : Mail) → Later f c d → MailStands f single c mail → MailStands f single d mail
mail_later f single c d (Mail.Grouped letter) l h = tt
mail_later f single c d (Mail.Sends incarnation from to errand) l h = errand_later f single c d to errand l h

pub node_later : (f : Frame) (single : Test) (c d : Course) (m : ℕ) (node : Node) → Later f c d → NodeStands f single c m node → NodeStands f single d m node
node_later f single c d m node l n = record {
  held = λ errand is. errand_later f single c d m errand l (n.held errand is);
  given = λ i one is. answer_later c d one.place i one.call one.reply l.aside (n.given i one is);
  asks = n.asks;
  shares = n.shares;
}

pub grouped_stands : (f : Frame) (single : Test) (c : Course) (mail : Mail) → IsGrouped mail → MailStands f single c mail
grouped_stands f single c (Mail.Grouped letter) is = tt
grouped_stands f single c (Mail.Sends incarnation from to errand) is = absurd is

-- ---- a work that comes to another

-- `corresponds`, the world stands for a later course; `node`, so does what is at the member; `mails`, what is sent is what was, or it
-- stands; `beside`, a call on a single object that was performed was before, or it is told of; `given`, Answers that were kept are, or
-- later ones
pub record Comes (f : Frame) (single : Test) (w : World) (c d : Course) (m : ℕ) (v u : NodeWork) : Type 0 where
  pub corresponds : Corresponds f single (at_work f m w u) d
  pub later : Later f c d
  pub node : NodeStands f single d m u.node
  pub mails : (mail : Mail) → In mail (mails_of u.deeds) → In mail (mails_of v.deeds) ⊎ MailStands f single d mail
  pub beside :
      (r : Placed) (object : ObjectId) → In r (aside_of u.deeds) → Calls r.line.action object → single object ≡ true →
      In r (aside_of v.deeds) ⊎ WasPerformed f (at_work f m w u) d r.line object
  pub given : (r : Placed) → In r c.aside → IsGiven v.node r.line → IsGiven u.node r.line

-- what a member keeps, where it is the one at work and where it is another
given_at : (f : Frame) (m : ℕ) (w : World) (v u : NodeWork) (line : Line) → (IsGiven v.node line → IsGiven u.node line) → (k : ℕ) → IsGiven ((at_work f m w v).nodes k) line → IsGiven ((at_work f m w u).nodes k) line
given_at f m w v u line own k = go (k == m)
  where
    go : (b : Bool) → IsGiven (if b then v.node else w.nodes k) line → IsGiven (if b then u.node else w.nodes k) line
    go true g = own g
    go false g = g

pub carry : (f : Frame) (single : Test) (w : World) (c d : Course) (m : ℕ) (v u : NodeWork) → Carries f single w c m v → Comes f single w c d m v u → Carries f single w d m u
carry f single w c d m v u h z = record {
  corresponds = z.corresponds;
  errands = record {
    nodes = λ k. node k (cases_eq k m);
    travels = λ flight is. mail_later f single c d flight.packet.mail z.later (stood.travels flight is);
    performed = λ r o is calls alone. ⊎_elim
        (λ old. was r o (subst (λ (l : List Placed). In r l) (sym beside_was) (in_first r w.aside (aside_of v.deeds) old)) calls alone)
        (λ now. ⊎_elim
        (λ old. was r o (subst (λ (l : List Placed). In r l) (sym beside_was) (in_second r w.aside (aside_of v.deeds) old)) calls alone)
        (λ done. done)
        (z.beside r o now calls alone))
        (in_append r w.aside (aside_of u.deeds) (subst (λ (l : List Placed). In r l) beside_is is));
  };
  mails = λ mail is. ⊎_elim (λ old. mail_later f single c d mail z.later (h.mails mail old)) (λ new. new) (z.mails mail is);
}
  where
    stood : AllStand f single (at_work f m w v) c
    stood = h.errands

    beside_was : c.aside ≡ w.aside ++ aside_of v.deeds
    beside_was = let k = h.corresponds in let s = k.stands in s.beside

    beside_is : d.aside ≡ w.aside ++ aside_of u.deeds
    beside_is = let k = z.corresponds in let s = k.stands in s.beside

    node : (k : ℕ) → (k ≡ m) ⊎ (k ≡ m → ⊥) → NodeStands f single d k ((at_work f m w u).nodes k)
    node k (inl e) = subst (λ (n : ℕ). NodeStands f single d n ((at_work f m w u).nodes n)) (sym e) (subst (λ (n : Node). NodeStands f single d m n) (sym (node_at f m w u)) z.node)
    node k (inr apart) = subst (λ (n : Node). NodeStands f single d k n) (at_other w.nodes m v.node k apart ∙ sym (at_other w.nodes m u.node k apart))
        (node_later f single c d k ((at_work f m w v).nodes k) z.later (stood.nodes k))

    was : (r : Placed) (o : ObjectId) → In r c.aside → Calls r.line.action o → single o ≡ true → WasPerformed f (at_work f m w u) d r.line o
    was r o is calls alone =
        let p = stood.performed r o is calls alone in
        let l = z.later in
        record {
          owner = p.owner;
          of = l.homes p.owner o.process p.of;
          told = ⊎_elim (λ own. inl (l.homes p.owner r.line.process.0 own)) (λ g. inr (given_at f m w v u r.line (z.given r is) p.owner g)) p.told;
        }

-- ---- a silent work

pub silent_carries : (f : Frame) (single : Test) (w : World) (c d : Course) (m : ℕ) (v u : NodeWork) → Carries f single w c m v → Silent v u → Leads single f.performs f.computes c d → Corresponds f single (at_work f m w u) d
    → Carries f single w d m u
silent_carries f single w c d m v u h s leads corresponds = carry f single w c d m v u h (record {
  corresponds = corresponds;
  later = later;
  node = record {
    held = λ errand is. errand_later f single c d m errand later (n.held errand (subst (λ (l : List Errand). In errand l) s.held is));
    given = λ i one is. answer_later c d one.place i one.call one.reply later.aside (n.given i one (ap (λ (g : ℕ → Option Given). g i.0) (sym s.given) ∙ is));
    asks = λ j r o is at.
        let a = n.asks j r o (s.waits j r is (asks_waits r.stage o at)) at in
        record { alone = a.alone; maker = let lt = a.maker in let le = s.count in omega (arith, lt, le) };
    shares = λ j r o is at. n.shares j r o (s.waits j r is (shares_waits r.stage o at)) at;
  };
  mails = λ mail is. ⊎_elim (λ old. inl old) (λ g. inr (grouped_stands f single d mail g)) (s.mails mail is);
  beside = λ r o is calls alone. ⊎_elim (λ old. inl old)
      (λ was. let e : true ≡ false = sym alone ∙ n.shares was.process was.played o was.here (subst (λ (z : Stage). WaitsOn z o) (sym was.reads) calls) in absurd (cc e))
      (s.beside r is);
  given = λ r is g. record { given = g.given; there = ap (λ (gs : ℕ → Option Given). gs r.line.process.0) s.given ∙ g.there; call = g.call };
})
  where
    n : NodeStands f single c m v.node
    n = own_node f single w c m v h

    later : Later f c d
    later = let k = h.corresponds in let st = k.stands in leads_later f single c d st.came leads

pub silent_lifts : (f : Frame) (single : Test) (w : World) (c : Course) (m : ℕ) (v u : NodeWork) → Carries f single w c m v → Silent v u → Lifts f single c (at_work f m w u) → CarriesOn f single w c m u
silent_lifts f single w c m v u h s l = (l.0, l.1, silent_carries f single w c l.0 m v u h s l.1 l.2)

-- a step in the group
pub joins_carries : (f : Frame) (single : Test) (w : World) (c : Course) (m : ℕ) (work : Work Message) (v : NodeWork) → KeepsEntries v.node (joins work v).node → Carries f single w c m v → Carries f single w c m (joins work v)
joins_carries f single w c m work v entries h = silent_carries f single w c c m v (joins work v) h (silent_joins work v) (Stays c) (joins_on f single m w c work v entries h.corresponds)

-- ---- what waits for its place, and what is sent

-- only what is at the member changes, and what it sends
pub only_carries : (f : Frame) (single : Test) (w : World) (c : Course) (m : ℕ) (v u : NodeWork) → Carries f single w c m v → OnlySends f m v u → NodeStands f single c m u.node → u.node.given ≡ v.node.given
    → ((mail : Mail) → In mail (mails_of u.deeds) → In mail (mails_of v.deeds) ⊎ MailStands f single c mail) → Carries f single w c m u
only_carries f single w c m v u h o node given mails = carry f single w c c m v u h (record {
  corresponds = sends_on f single m w c v u o h.corresponds;
  later = later_self f c;
  node = node;
  mails = mails;
  beside = λ r object is calls alone. inl (subst (λ (l : List Placed). In r l) o.aside is);
  given = λ r is g. record { given = g.given; there = ap (λ (gs : ℕ → Option Given). gs r.line.process.0) given ∙ g.there; call = g.call };
})

pub sends_carries : (f : Frame) (single : Test) (w : World) (c : Course) (m : ℕ) (mail : Mail) (v : NodeWork) → Carries f single w c m v → MailStands f single c mail → Carries f single w c m (does (Mails mail) v)
sends_carries f single w c m mail v h stands = only_carries f single w c m v (does (Mails mail) v) h
    (record { copies = refl; member = refl; plays = refl; aside = refl; past = λ p. refl }) (own_node f single w c m v h) refl
    (λ one is. ⊎_elim (λ old. inl old) (λ e. inr (subst (λ (x : Mail). MailStands f single c x) (sym e) stands)) (in_push one mail (mails_of v.deeds) is))

-- other Asks and Answers wait here
pub held_carries : (f : Frame) (single : Test) (w : World) (c : Course) (m : ℕ) (held : List Errand) (v : NodeWork) → Carries f single w c m v → ((errand : Errand) → In errand held → ErrandStands f single c m errand)
    → Carries f single w c m (becomes (record v.node { held = held }) v)
held_carries f single w c m held v h stand =
    let n = own_node f single w c m v h in
    only_carries f single w c m v (becomes (record v.node { held = held }) v) h
    (record { copies = refl; member = refl; plays = refl; aside = refl; past = λ p. refl })
    (record {
      held = stand;
      given = n.given;
      asks = λ j r o is at. let a = n.asks j r o is at in record { alone = a.alone; maker = a.maker };
      shares = n.shares;
    }) refl (λ mail is. inl is)

pub holds_carries : (f : Frame) (single : Test) (w : World) (c : Course) (m : ℕ) (errand : Errand) (v : NodeWork) → Carries f single w c m v → ErrandStands f single c m errand → Carries f single w c m (holds errand v)
holds_carries f single w c m errand v h stands =
    let n = own_node f single w c m v h in
    held_carries f single w c m (v.node.held ++ errand ∷ []) v h
    (λ one is. ⊎_elim (λ old. n.held one old) (λ (e : one ≡ errand). subst (λ (x : Errand). ErrandStands f single c m x) (sym e) stands) (in_push one errand v.node.held is))
