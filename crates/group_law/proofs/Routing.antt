-- Each packet goes by its route.
use Rattle.std.proofs.Common.{◌≡◌, ℕ, ◌*◌, ◌%◌, ◌<◌, inl, inr, ⊎_elim, Bool, true, false, List, [], ◌∷◌, refl, sym, ap, ◌∙◌, arith}
use Rattle.group_rules.specs.Sets.{In}
use Rattle.group_rules.specs.Messages.{Group}
use Rattle.group_rules.specs.Member.{Kind, Packet, Letter, Member}
use Rattle.group_rules.specs.Member.Kind.{Request, Body, Order, Entry, Ack, Accept, Nack, Status, Invite, Join, News}
use Rattle.group_rules.specs.Work.{Work, idle}
use Rattle.group_rules.specs.Reset.{coordinate}
use Rattle.group_rules.specs.Steps.{ticked}
use Rattle.group_rules.specs.World.{Past, GroupWorld, Event, Sent, after, gnext, run, opening}
use Rattle.group_law.proofs.Ready.{Inv}
use Rattle.group_law.proofs.Events.{happened}
use Rattle.group_law.proofs.Opening.{opened}
use Rattle.group_law.proofs.Law.{reached}
use Rattle.group_law.proofs.Walk.{Came, Any, came_of, nothing, Way, Keeper, walk_receive, walk_invited, walk_joined, walk_take_over, walk_coordinate, walk_announced, walk_submit, walk_note, walk_timer}
use Rattle.group_law.proofs.Course.{Course, walk_event, next_here}
use Rattle.group_law.specs.Sends.{Routed, Travels, Routes, ByRoute, RoutesLaw}

-- what gives or accepts entries came from the sequencer of its incarnation
abbrev Leads : {M : Type 0} → Group M → Came → Type 0
Leads g c = c.leads ≡ true → c.from ≡ c.inc % g.nodes

routed : {M : Type 0} (g : Group M) (m : ℕ) (c : Came) (k to : ℕ) (t : Kind M) → Leads g c → Way g m c k to t → Routed (k % g.nodes) m to t
routed g m c k to (Request a x) leads way = way
routed g m c k to (Body a x) leads way = way
routed g m c k to (Order n i call a b) leads way = way
routed g m c k to (Entry n a b x) leads way = way
routed g m c k to (Ack n a) leads way = way
routed g m c k to (Accept a b) leads way = way
routed g m c k to (Nack n a whole) leads way = ⊎_elim (λ e. e) (λ e. e.2 ∙ (leads e.0 ∙ ap (λ i. i % g.nodes) (sym e.1))) way
routed g m c k to (Status n a) leads way = way
routed g m c k to Invite leads way = way
routed g m c k to (Join j) leads way = way
routed g m c k to (News a b members log) leads way = way

none_leads : {M : Type 0} (g : Group M) (c : Came) → c.leads ≡ false → Leads g c
none_leads g c e f = let q : true ≡ false = sym f ∙ e in absurd cc

leads_if : {M : Type 0} (g : Group M) (from to k : ℕ) (t : Kind M) → Routed (k % g.nodes) from to t → Leads g (came_of from k t)
leads_if g from to k (Request a x) h = none_leads g (came_of from k (Request a x)) refl
leads_if g from to k (Body a x) h = none_leads g (came_of from k (Body a x)) refl
leads_if g from to k (Order n i call a b) h = λ e. h
leads_if g from to k (Entry n a b x) h = λ e. h
leads_if {M} g from to k (Ack n a) h = none_leads g (came_of {M = M} from k (Ack n a)) refl
leads_if g from to k (Accept a b) h = λ e. h
leads_if {M} g from to k (Nack n a whole) h = none_leads g (came_of {M = M} from k (Nack n a whole)) refl
leads_if {M} g from to k (Status n a) h = none_leads g (came_of {M = M} from k (Status n a)) refl
leads_if {M} g from to k Invite h = none_leads g (came_of {M = M} from k Invite) refl
leads_if g from to k (Join j) h = none_leads g (came_of from k (Join j)) refl
leads_if g from to k (News a b members log) h = none_leads g (came_of from k (News a b members log)) refl

-- ---- row by row

keeps_routes : {M : Type 0} (g : Group M) (m : ℕ) (c : Came) → m < g.nodes → Leads g c → Keeper g m c Any (Unit {0}) (λ (u : Work M). Routes g u.acts)
keeps_routes g m c low leads = record {
  low = low;
  tells = λ u k to t goes way o says h. (routed g m c k to t leads way, h);
  turns = λ u t how h. h;
  orders = λ u x here h. h;
  leaving = λ u l h. h;
  promising = λ u k le is other h. h;
}

coordinates : {M : Type 0} (g : Group M) (m : ℕ) (s : Member M) → m < g.nodes → Routes g (coordinate g m s).acts
coordinates g m s low = walk_coordinate (keeps_routes g m nothing low (none_leads g nothing refl)) tt tt tt s (next_here g m s.promised low) tt (λ u b e h best many base. h) (λ b e l. tt) tt

-- ---- every letter

pub record Delivers {M : Type 0} (g : Group M) (letter : Letter M) : Type 0 where
  pub to : letter.to < g.nodes
  pub by : Travels g letter

abbrev pub Delivered : {M : Type 0} → Group M → List (Letter M) → Type 0
Delivered {M} g letters = (l : Letter M) → In l letters → Delivers g l

keeps_delivered : {M : Type 0} (g : Group M) (m : ℕ) (c : Came) (p : Past M) → m < g.nodes → Leads g c → Keeper g m c Any (Unit {0}) (λ (u : Work M). Delivered g (after u.acts p).letters)
keeps_delivered {M} g m c p low leads = record {
  low = low;
  tells = λ u k to t goes way o says h l. ⊎_elim (λ e. rw e (record { to = goes.0; by = routed g m c k to t leads way })) (λ i. h l i);
  turns = λ u t how h. h;
  orders = λ u x here h. h;
  leaving = λ u l h. h;
  promising = λ u k le is other h. h;
}

came_leads : {M : Type 0} (g : Group M) (letters : List (Letter M)) (q : Packet M) → Delivered g letters → Sent letters q → Leads g (came_of q.from q.inc q.kind)
came_leads g [] q h sent = absurd sent
came_leads {M} g (l ∷ letters) q h (inl e) = leads_if g q.from l.to q.inc q.kind (rw e (h l (inl refl)).by)
came_leads g (l ∷ letters) q h (inr sent) = came_leads g letters q (λ v i. h v (inr i)) sent

delivered_course : {M : Type 0} {g : Group M} {w : GroupWorld M} (event : Event M) → Delivered g w.past.letters → Course g w event (λ m p u. Delivered g (after u.acts p).letters)
delivered_course {M} {g} {w} event h = record {
  alone = λ m p low. keeps_delivered g m nothing p low (none_leads g nothing refl);
  came = λ m q low sent goes. keeps_delivered g m _ w.past low (came_leads g w.past.letters q h sent);
  rests = λ m low. h;
  submits = λ m x low e can. h;
  notes = λ m n low e above le. h;
  keeping = λ m k from j low sent o is. (h, λ u b e d best many base. d);
  coordinates = λ m s low when is d. (λ l. ⊎_elim (λ e. rw e (record { to = low; by = next_here g m s.promised low })) (λ i. d l i), λ u b e d best many base. d);
  tells = λ m k from a b members log low sent above le base. h;
}

delivered_at : {M : Type 0} {g : Group M} {w : GroupWorld M} (event : Event M) → 2 * g.resilience < g.nodes → Inv g w → Delivered g w.past.letters → Delivered g (gnext g w event).past.letters
delivered_at {M} {g} {w} event small h d = walk_event (λ m p u. Delivered g (after u.acts p).letters) (λ v. Delivered g v.past.letters) event small h (delivered_course event d) (λ m p u low e. e) (λ lives. d) d

delivered_runs : {M : Type 0} {g : Group M} (w : GroupWorld M) (es : List (Event M)) → 2 * g.resilience < g.nodes → Inv g w → Delivered g w.past.letters → Delivered g (run g w es).past.letters
delivered_runs w [] small h d = d
delivered_runs {M} {g} w (e ∷ es) small h d = delivered_runs (gnext g w e) es small (happened e small h) (delivered_at e small h d)

-- ---- the law

pub by_route : {M : Type 0} {g : Group M} {w : GroupWorld M} → Inv g w → Delivered g w.past.letters → ByRoute g w
by_route {M} {g} {w} h d = record {
  to = λ l i. (d l i).to;
  letters = λ l i. (d l i).by;
  submit = λ m x s low. walk_submit (alone m low) tt tt x s tt;
  receive = λ m from k kind s low known other way. walk_receive from k kind s (keeps_routes g m (came_of from k kind) low (leads_if g from m k kind way)) tt tt tt tt tt (known, other) tt;
  invited = λ m from k s low. walk_invited (keeps_routes g m (came_of {M = M} from k Invite) low (none_leads g (came_of {M = M} from k Invite) refl)) tt from k s refl tt;
  joined = λ m from k report s low. walk_joined (alone m low) tt tt from k report s (λ o is. (tt, λ u b e d best many base. d, λ b e l. tt)) tt;
  take_over = λ m k a b named log heard answers s low here. walk_take_over (alone m low) tt tt k a b named log heard answers (idle s) here tt;
  announced = λ m from k a b named log low sent. walk_announced (keeps_routes g m (came_of from k (News a b named log)) low (none_leads g (came_of from k (News a b named log)) refl)) tt tt from k a b named log (w.members m) refl (λ above. other m from k a b named log sent above) (λ above le base. tt) (λ x y. tt) (λ x y z. tt) tt;
  coordinate = λ m s low. coordinates g m s low;
  timer = λ m s low. walk_timer (alone m low) tt tt tt tt s (λ d. coordinates g m (ticked g m s) low) tt;
  note = λ m n s low. walk_note (alone m low) tt tt n s tt;
}
  where
    alone : (m : ℕ) → m < g.nodes → Keeper g m nothing Any (Unit {0}) (λ (u : Work M). Routes g u.acts)
    alone m low = keeps_routes g m nothing low (none_leads g nothing refl)

    other : (m from k a b : ℕ) (named : ℕ → Bool) (log : List M) → Sent w.past.letters (record { inc = k; from = from; kind = News a b named log }) → (w.members m).installed < k → m ≡ k % g.nodes → ⊥
    other m from k a b named log sent above e = let l = (h.fits m).bounds.leads k (h.sound.tells (record { inc = k; from = from; kind = News a b named log }) sent).up e in omega arith

pub routes_law : (M : Type 0) → RoutesLaw M
routes_law M g small events = by_route (reached g small events) (delivered_runs opening events small (opened g small) (λ l i. absurd i))
