-- What each event leaves as it is, and what a step adds.
use Rattle.std.proofs.Common.{◌≡◌, ◌+◌, ◌==◌, ℕ, zero, suc, Bool, true, false, cond, List, [], ◌∷◌, ◌++◌, length, length-append, map, Option, Some, None, append-nil, append_assoc, refl, sym, ap, ◌∙◌, arith, subst}
use Rattle.std.specs.Prelude.{slice_get}
use Rattle.std.specs.List.{flat_map}
use Rattle.std.proofs.lemmas.Bool.{and_parts, cond_both, eqb-true}
use Rattle.std.proofs.lemmas.List.Sums.{sum_by-cons}
use Rattle.book_law.specs.declared.placing.Placed.{Placed}
use Rattle.group_rules.specs.Sets.{with_at}
use Rattle.net_rules.specs.declared.fate.Fate.{Fate}
use Rattle.net_rules.specs.declared.flight.Flight.{Flight}
use Rattle.net_rules.specs.Flights.{ready_copy, ticked, without}
use Rattle.world_rules.specs.declared.event.Event.{Event}
use Rattle.world_rules.specs.declared.event.Event.TheVariants as event
use Rattle.world_rules.specs.declared.event.Step.{Step}
use Rattle.world_rules.specs.Frame.{Frame}
use Rattle.world_rules.specs.Mail.{Carried, Mail, is_whole, posted, receiver_of}
use Rattle.world_rules.specs.Nodes.{Node, NodeWork, aside_of}
use Rattle.world_rules.specs.Parts.{acts, computes, receives, suspects, ticks}
use Rattle.world_rules.specs.Steps.{AtWork, Known, Leads, Next, Possible, after_part, closes, comes, comes_whole, happens, lives_in, may_act_as, posts, posts_all, ticks_below, told_of, untouched}
use Rattle.world_rules.specs.Worlds.{Told, World, home_of, opening_world, played_in}
use Rattle.world_facts.specs.Counted.{AllCounted, StepLeaves, StepsLeave, count_swaps, is_swap}

-- ---- maps

at_other : {A : Type 0} (f : ℕ → A) (k x : ℕ) (v : A) → (x ≡ k → ⊥) → with_at f k v x ≡ f x
at_other f k x v apart = cond_both (x == k) v (f x) (λ z. z ≡ f x) (λ e. absurd (apart (eqb-true x k e))) (λ e. refl)

-- who lives isn't who crashed
apart_by : (lives : ℕ → Bool) (m k : ℕ) → lives m ≡ false → lives k ≡ true → m ≡ k → ⊥
apart_by lives m k gone alive same = let e : false ≡ true = sym gone ∙ ap lives same ∙ alive in cc e

-- ---- members at work

-- nothing is counted in the middle of an event; who crashed stays so, and as it was; what is performed stands behind
pub record Works (w : World) (u : AtWork) : Type 0 where
  pub sent : u.world.sent ≡ w.sent
  pub told : u.world.told ≡ w.told
  pub steps : u.world.steps ≡ w.steps
  pub crashed : (m : ℕ) → w.lives m ≡ false → (u.world.lives m ≡ false) × (u.world.nodes m ≡ w.nodes m)
  pub aside : (more : List Placed) × (u.world.aside ≡ w.aside ++ more)

works_none : (w v : World) → v.sent ≡ w.sent → v.told ≡ w.told → v.steps ≡ w.steps →
    ((m : ℕ) → w.lives m ≡ false → (v.lives m ≡ false) × (v.nodes m ≡ w.nodes m)) → v.aside ≡ w.aside → Works w (untouched v)
works_none w v sent told steps crashed aside = record {
  sent = sent;
  told = told;
  steps = steps;
  crashed = crashed;
  aside = ([], aside ∙ sym (append-nil w.aside));
}

works_part : (f : Frame) (w : World) (m : ℕ) (v : NodeWork) (u : AtWork) → w.lives m ≡ true → Works w u → Works w (after_part f m v u)
works_part f w m v u lives h = record {
  sent = h.sent;
  told = h.told;
  steps = h.steps;
  crashed = λ k gone.
      let c = h.crashed k gone in
      (c.0, at_other u.world.nodes m k v.node (apart_by w.lives k m gone lives) ∙ c.1);
  aside = (
    h.aside.0 ++ aside_of v.deeds,
    ap (λ (r : List Placed). r ++ aside_of v.deeds) h.aside.1 ∙ append_assoc w.aside h.aside.0 (aside_of v.deeds),
  );
}

idle_works : (w : World) → Works w (untouched w)
idle_works w = works_none w w refl refl refl (λ m gone. (gone, refl)) refl

-- ---- events

comes_works : (f : Frame) (w v : World) (mail : Mail) → v.lives ≡ w.lives → Works w (untouched v) → Works w (comes f v mail)
comes_works f w v mail same h = cond_both (lives_in f v (receiver_of mail)) _ _ (Works w)
    (λ e. works_part f w (receiver_of mail) (receives f (receiver_of mail) mail (v.nodes (receiver_of mail))) (untouched v)
    (ap (λ (l : ℕ → Bool). l (receiver_of mail)) (sym same) ∙ (and_parts _ _ e).1) h)
    (λ e. h)

whole_works : (f : Frame) (w v : World) (o : Option (Flight Carried)) → v.lives ≡ w.lives → Works w (untouched v) →
    Works w (comes_whole f v o)
whole_works f w v None same h = h
whole_works f w v (Some flight) same h = cond_both (is_whole f.settings.nodes flight.packet) _ _ (Works w)
    (λ e. comes_works f w v flight.packet.mail same h) (λ e. h)

-- ticks leave who lives
pub record Ticks (w : World) (u : AtWork) : Type 0 where
  pub works : Works w u
  pub lives : u.world.lives ≡ w.lives
  pub swaps : u.world.swaps ≡ w.swaps

below_works : (f : Frame) (w : World) (n : ℕ) (u : AtWork) → Ticks w u → Ticks w (ticks_below f n u)
below_works f w zero u h = h
below_works f w (suc m) u h =
    let k = below_works f w m u h in
    let v : AtWork = ticks_below f m u in
    cond_both (v.world.lives m) _ _ (Ticks w)
    (λ e. record {
      works = works_part f w m (ticks f m (v.world.nodes m)) v (ap (λ (l : ℕ → Bool). l m) (sym k.lives) ∙ e) k.works;
      lives = k.lives;
      swaps = k.swaps;
    })
    (λ e. k)

abbrev ticking : World → AtWork
ticking w = untouched (record w { flights = ticked w.flights })

pub tick_works : (f : Frame) (w : World) → Ticks w (ticks_below f f.settings.nodes (ticking w))
tick_works f w = below_works f w f.settings.nodes (ticking w)
    (record { works = works_none w (ticking w).world refl refl refl (λ m gone. (gone, refl)) refl; lives = refl; swaps = refl })

crash_stays : (w : World) (k m : ℕ) → w.lives m ≡ false → with_at w.lives k false m ≡ false
crash_stays w k m gone = cond_both (m == k) _ _ (λ b. b ≡ false) (λ e. refl) (λ e. gone)

pub event_works : (f : Frame) (w : World) (event : Event) (given : Known event) → Possible f w event given → Works w (happens f w event given)
event_works f w (event.Burst process place turns) burst may =
    let m : ℕ = home_of f w process.0 in
    works_part f w m (computes process.0 place burst.reads burst.end (w.nodes m)) (untouched w) may.lives (idle_works w)
event_works f w (event.Act process) given may =
    let m : ℕ = home_of f w process.0 in
    works_part f w m (acts f m process.0 (w.nodes m)) (untouched w) (and_parts _ (may_act_as (played_in f w process.0)) may).0 (idle_works w)
event_works f w (event.Deliver packet copy) given may =
    let v : World = record w { flights = without packet copy w.flights } in
    whole_works f w v (ready_copy packet copy w.flights) refl (works_none w v refl refl refl (λ m gone. (gone, refl)) refl)
event_works f w event.Tick given may = (tick_works f w).works
event_works f w (event.Crash node) given may =
    works_none w (record w { lives = with_at w.lives node false }) refl refl refl (λ m gone. (crash_stays w node m gone, refl)) refl
event_works f w (event.Suspect node) given may =
    works_part f w node (suspects f node (w.nodes node)) (untouched w) (and_parts _ _ may).1 (idle_works w)
event_works f w event.Swap given may = works_none w (record w { swaps = suc w.swaps }) refl refl refl (λ m gone. (gone, refl)) refl

-- ---- who crashes

abbrev Falls : World → World → Event → Type 0
Falls w v done = (m : ℕ) → w.lives m ≡ true → v.lives m ≡ false → done ≡ event.Crash m

none_falls : (w v : World) (done : Event) → v.lives ≡ w.lives → Falls w v done
none_falls w v done same m before after =
    let e : true ≡ false = sym before ∙ ap (λ (l : ℕ → Bool). l m) (sym same) ∙ after in
    absurd (cc e)

comes_lives : (f : Frame) (v : World) (mail : Mail) → (comes f v mail).world.lives ≡ v.lives
comes_lives f v mail = cond_both (lives_in f v (receiver_of mail)) _ _ (λ (u : AtWork). u.world.lives ≡ v.lives) (λ e. refl) (λ e. refl)

whole_lives : (f : Frame) (v : World) (o : Option (Flight Carried)) → (comes_whole f v o).world.lives ≡ v.lives
whole_lives f v None = refl
whole_lives f v (Some flight) = cond_both (is_whole f.settings.nodes flight.packet) _ _ (λ (u : AtWork). u.world.lives ≡ v.lives)
    (λ e. comes_lives f v flight.packet.mail) (λ e. refl)

crash_falls : (w : World) (node m : ℕ) → w.lives m ≡ true → with_at w.lives node false m ≡ false → m ≡ node
crash_falls w node m before after = go (m == node) refl after
  where
    go : (b : Bool) → (m == node) ≡ b → cond b false (w.lives m) ≡ false → m ≡ node
    go true is e = eqb-true m node is
    go false is e = let d : true ≡ false = sym before ∙ e in absurd (cc d)

pub event_falls : (f : Frame) (w : World) (event : Event) (given : Known event) → Falls w (happens f w event given).world event
event_falls f w (event.Burst process place turns) burst = none_falls w (happens f w (event.Burst process place turns) burst).world _ refl
event_falls f w (event.Act process) given = none_falls w (happens f w (event.Act process) given).world _ refl
event_falls f w (event.Deliver packet copy) given = none_falls w (happens f w (event.Deliver packet copy) given).world _
    (whole_lives f (record w { flights = without packet copy w.flights }) (ready_copy packet copy w.flights))
event_falls f w event.Tick given = none_falls w (happens f w event.Tick given).world _ (tick_works f w).lives
event_falls f w (event.Crash node) given = λ m before after. ap (λ k. event.Crash k) (sym (crash_falls w node m before after))
event_falls f w (event.Suspect node) given = none_falls w (happens f w (event.Suspect node) given).world _ refl
event_falls f w event.Swap given = none_falls w (happens f w event.Swap given).world _ refl

-- ---- swaps

abbrev pub swap_of : Event → ℕ
swap_of event = cond (is_swap event) 1 0

comes_swaps : (f : Frame) (v : World) (mail : Mail) → (comes f v mail).world.swaps ≡ v.swaps
comes_swaps f v mail = cond_both (lives_in f v (receiver_of mail)) _ _ (λ (u : AtWork). u.world.swaps ≡ v.swaps) (λ e. refl) (λ e. refl)

whole_swaps : (f : Frame) (v : World) (o : Option (Flight Carried)) → (comes_whole f v o).world.swaps ≡ v.swaps
whole_swaps f v None = refl
whole_swaps f v (Some flight) = cond_both (is_whole f.settings.nodes flight.packet) _ _ (λ (u : AtWork). u.world.swaps ≡ v.swaps)
    (λ e. comes_swaps f v flight.packet.mail) (λ e. refl)

no_swap : (n m : ℕ) → n ≡ m → n ≡ m + 0
no_swap n m e = omega (arith, e)

pub event_swaps : (f : Frame) (w : World) (event : Event) (given : Known event) → (happens f w event given).world.swaps ≡ w.swaps + swap_of event
event_swaps f w (event.Burst process place turns) burst = no_swap _ _ refl
event_swaps f w (event.Act process) given = no_swap _ _ refl
event_swaps f w (event.Deliver packet copy) given =
    no_swap _ _ (whole_swaps f (record w { flights = without packet copy w.flights }) (ready_copy packet copy w.flights))
event_swaps f w event.Tick given = no_swap _ _ (tick_works f w).swaps
event_swaps f w (event.Crash node) given = no_swap _ _ refl
event_swaps f w (event.Suspect node) given = no_swap _ _ refl
event_swaps f w event.Swap given = let e : suc w.swaps ≡ w.swaps + 1 = omega arith in e

-- ---- letters are posted

-- questions with the next numbers
abbrev pub Numbered : ℕ → List Told → Type 0
Numbered n [] = Unit {0}
Numbered n (t ∷ more) = (t.question.packet ≡ suc n) × Numbered (suc n) more

pub record Posts (w : World) (given : List Fate) (v : World) : Type 0 where
  pub more : List Told
  pub told : v.told ≡ w.told ++ more
  pub fates : map (λ (t : Told). t.fate) more ≡ given
  pub numbers : Numbered w.sent more
  pub sent : v.sent ≡ w.sent + length more
  pub lives : v.lives ≡ w.lives
  pub nodes : v.nodes ≡ w.nodes
  pub aside : v.aside ≡ w.aside
  pub swaps : v.swaps ≡ w.swaps

pub posts_is : (f : Frame) (w : World) (mails : List Mail) (fates : List Fate) → length fates ≡ length mails →
    Posts w fates (posts_all f w mails fates)
posts_is f w [] [] same = record {
  more = [];
  told = sym (append-nil w.told);
  fates = refl;
  numbers = tt;
  sent = omega arith;
  lives = refl;
  nodes = refl;
  aside = refl;
  swaps = refl;
}
posts_is f w [] (fate ∷ fates) same = absurd (cc same)
posts_is f w (mail ∷ mails) [] same = absurd (cc same)
posts_is f w (mail ∷ mails) (fate ∷ fates) same =
    let p = posts_is f (posts f w mail fate) mails fates (omega (arith, same)) in
    let one : Told = told_of w (posted f.settings.nodes mail) fate in
    let e = p.sent in
    record {
      more = one ∷ p.more;
      told = p.told ∙ append_assoc w.told (one ∷ []) p.more;
      fates = ap (λ (r : List Fate). fate ∷ r) p.fates;
      numbers = (refl, p.numbers);
      sent = omega (arith, e);
      lives = p.lives;
      nodes = p.nodes;
      aside = p.aside;
      swaps = p.swaps;
    }

-- ---- a step

pub step_leaves : StepsLeave
step_leaves f w step v next =
    let u : AtWork = happens f w step.event next.given in
    let h = event_works f w step.event next.given next.possible in
    let p = posts_is f u.world u.mails step.fates next.fates in
    subst (StepLeaves w step) (sym next.after)
    (record {
      crashed = λ m gone.
          let c = h.crashed m gone in
          (ap (λ (l : ℕ → Bool). l m) p.lives ∙ c.0, ap (λ (n : ℕ → Node). n m) p.nodes ∙ c.1);
      lives = λ m before after.
          event_falls f w step.event next.given m before (ap (λ (l : ℕ → Bool). l m) (sym p.lives) ∙ after);
      aside = (h.aside.0, p.aside ∙ h.aside.1);
      told = (p.more, p.told ∙ ap (λ (r : List Told). r ++ p.more) h.told, p.fates);
    })

-- ---- a run

-- questions so far are numbered from 1, and so are those behind them
get_numbered : (more : List Told) (n k : ℕ) (t : Told) → Numbered k more → slice_get more n ≡ Some t → t.question.packet ≡ suc (k + n)
get_numbered [] n k t h is = absurd (cc is)
get_numbered (x ∷ more) zero k t h is =
    let e : x ≡ t = cc in
    let d = h.0 in
    ap (λ (z : Told). z.question.packet) (sym e) ∙ d ∙ (let a : suc k ≡ suc (k + 0) = omega arith in a)
get_numbered (x ∷ more) (suc n) k t h is =
    get_numbered more n (suc k) t h.1 is ∙ (let a : suc (suc k + n) ≡ suc (k + suc n) = omega arith in a)

numbered_append : (xs ys : List Told) (n k : ℕ) → k ≡ n + length xs → Numbered n xs → Numbered k ys → Numbered n (xs ++ ys)
numbered_append [] ys n k is one two = subst (λ (j : ℕ). Numbered j ys) (let e : k ≡ n = omega (arith, is) in e) two
numbered_append (x ∷ xs) ys n k is one two = (one.0, numbered_append xs ys (suc n) k (omega (arith, is)) one.1 two)

map_append : {A B : Type 0} (g : A → B) (xs ys : List A) → map g (xs ++ ys) ≡ map g xs ++ map g ys
map_append g [] ys = refl
map_append {A} {B} g (x ∷ xs) ys = ap (λ (r : List B). g x ∷ r) (map_append g xs ys)

-- of the steps that are left, from a world that has counted so far
pub record Counts (w : World) (left : List Step) (v : World) : Type 0 where
  pub more : List Told
  pub told : v.told ≡ w.told ++ more
  pub fates : map (λ (t : Told). t.fate) more ≡ flat_map (λ (s : Step). s.fates) left
  pub numbers : Numbered w.sent more
  pub sent : v.sent ≡ w.sent + length more
  pub steps : v.steps ≡ w.steps + length left
  pub swaps : v.swaps ≡ w.swaps + count_swaps left

counts_none : (w : World) → Counts w [] w
counts_none w = record {
  more = [];
  told = sym (append-nil w.told);
  fates = refl;
  numbers = tt;
  sent = omega arith;
  steps = omega arith;
  swaps = omega arith;
}

counts_step : (f : Frame) (w u v : World) (step : Step) (steps : List Step) → Next f w step u → Counts u steps v → Counts w (step ∷ steps) v
counts_step f w u v step steps next c =
    let x : AtWork = happens f w step.event next.given in
    let h = event_works f w step.event next.given next.possible in
    let p = posts_is f x.world x.mails step.fates next.fates in
    let after : World = closes f w step x in
    let sent_u : u.sent ≡ w.sent + length p.more =
    ap (λ (z : World). z.sent) next.after ∙ p.sent ∙ ap (λ n. n + length p.more) h.sent in
    let told_u : u.told ≡ w.told ++ p.more =
    ap (λ (z : World). z.told) next.after ∙ p.told ∙ ap (λ (r : List Told). r ++ p.more) h.told in
    let steps_u : u.steps ≡ suc w.steps = ap (λ (z : World). z.steps) next.after in
    let swaps_u : u.swaps ≡ w.swaps + swap_of step.event =
    ap (λ (z : World). z.swaps) next.after ∙ p.swaps ∙ event_swaps f w step.event next.given in
    let s = c.sent in
    let t = c.steps in
    let q = c.swaps in
    let long = length-append p.more c.more in
    let first : count_swaps (step ∷ steps) ≡ swap_of step.event + count_swaps steps =
    sum_by-cons (λ (s : Step). swap_of s.event) step steps in
    record {
      more = p.more ++ c.more;
      told = c.told ∙ ap (λ (r : List Told). r ++ c.more) told_u ∙ append_assoc w.told p.more c.more;
      fates = map_append (λ (t : Told). t.fate) p.more c.more
          ∙ ap (λ (r : List Fate). r ++ map (λ (t : Told). t.fate) c.more) p.fates
          ∙ ap (λ (r : List Fate). step.fates ++ r) c.fates;
      numbers = numbered_append p.more c.more w.sent u.sent sent_u
          (subst (λ (n : ℕ). Numbered n p.more) h.sent p.numbers) c.numbers;
      sent = omega (arith, s, sent_u, long);
      steps = omega (arith, t, steps_u);
      swaps = omega (arith, q, swaps_u, first);
    }

counts : (f : Frame) (w : World) (steps : List Step) (v : World) → Leads f w steps v → Counts w steps v
counts f w [] v leads = subst (Counts w []) (sym leads) (counts_none w)
counts f w (step ∷ steps) v leads =
    counts_step f w leads.0 v step steps leads.1 (counts f leads.0 steps v leads.2)

pub all_counted : AllCounted
all_counted f steps w replays =
    let c = counts f (opening_world f) steps w replays in
    let s = c.sent in
    let t = c.steps in
    let q = c.swaps in
    let long : length w.told ≡ length c.more = ap length c.told in
    record {
      steps = omega (arith, t);
      swaps = omega (arith, q);
      sent = omega (arith, s, long);
      fates = ap (map (λ (t : Told). t.fate)) c.told ∙ c.fates;
      numbers = λ n t is. get_numbered c.more n 0 t c.numbers (ap (λ (r : List Told). slice_get r n) (sym c.told) ∙ is)
          ∙ (let a : suc (0 + n) ≡ suc n = omega arith in a);
    }
