-- Where a faultless run is quiet, and no limit is passed, it is over: so no tick comes.
use Rattle.std.proofs.Common.{◌≡◌, ◌<◌, ◌+◌, ◌%◌, ◌==◌, ℕ, Bool, true, false, List, [], ◌∷◌, ◌++◌, length, take, take_all, Option, Some, None, refl, sym, ap, ◌∙◌, arith, subst, inr}
use Rattle.std.specs.Prelude.{IsTrue, option_map, slice_get}
use Rattle.std.proofs.lemmas.Bool.{and_parts, eqb-true}
use Rattle.std.specs.List.{find}
use Rattle.value_core.specs.declared.message.Message.{Message}
use Rattle.group_rules.specs.Member.{Letter, Member, is_active, leads}
use Rattle.group_rules.specs.Messages.{Group}
use Rattle.group_rules.specs.World.{GroupWorld}
use Rattle.group_bound.specs.Flow.{Flow, flow, opening_flow}
use Rattle.group_bound.specs.Enough.{IsDone, IsQuiet, Smooth}
use Rattle.net_rules.specs.declared.flight.Flight.{Flight}
use Rattle.net_rules.specs.Flights.{first_ready, is_ready}
use Rattle.world_rules.specs.declared.event.Event as world
use Rattle.world_rules.specs.declared.event.Event.TheVariants as event
use Rattle.world_rules.specs.declared.event.Step.{Step}
use Rattle.world_rules.specs.declared.standing.Standing.TheVariants.{Going}
use Rattle.world_rules.specs.Frame.{Frame, group}
use Rattle.world_rules.specs.Mail.{Carried}
use Rattle.world_rules.specs.Nodes.{entries_of, known}
use Rattle.world_rules.specs.Played.{Played}
use Rattle.world_rules.specs.Processes.{Begun, home_or_first, processes_in}
use Rattle.world_rules.specs.Standings.{is_quiet, process_count, standing}
use Rattle.world_rules.specs.Steps.{Known, Next, Possible, Replays}
use Rattle.world_rules.specs.Worlds.{World, agreed, group_world, home_of, opening_world, played_in, processes_of, singles_in}
use Rattle.world_facts.specs.Rows.{AllRest, IsBegun, IsUnlimited, ReadsStanding}
use Rattle.world_facts.specs.Rows.{IsDone as MemberDone}
use Rattle.world_facts.specs.Rows.{IsQuiet as MomentQuiet}
use Rattle.world_facts.specs.Processes.{AllBegin, ProcessesStand}
use Rattle.world_law.specs.Grouped.{MaySubmit}
use Rattle.world_law.specs.Grouped.{Submits as MayAll}
use Rattle.world_law.specs.Holds.{Holds}
use Rattle.world_law.specs.Homes.{StepsHome}
use Rattle.world_law.specs.Lists.{OneList}
use Rattle.world_book.specs.Promise.{IsKept}
use Rattle.world_enough.specs.Faultless.{IsFaultless, IsTick, LeadsFaultless, NoTick, delivered, delivers_by}
use Rattle.world_enough.specs.Tie.{AreCalm, EndsQuiet, HasDelivered, Tied, letters_of}
use Rattle.world_book.specs.Following.{HasCourse}
use Rattle.world_idle.proofs.Level.{AllLevel}
use Rattle.world_idle.proofs.Plain.{object_of}
use Rattle.world_idle.proofs.Resting.{all_noted, got, rests_as, waits_here}
use Rattle.world_idle.proofs.Resting as resting
use Rattle.world_idle.proofs.Sent.{AllSent, opening_sent, sent_step}
use Rattle.world_idle.proofs.Walking.{may_all}
use Rattle.world_enough.proofs.Errands.{Covered, covered_asked, covered_none, covered_step, opening_covered}
use Rattle.world_enough.proofs.Owing.{Held, Lives, held_step, opening_held}
use Rattle.world_enough.proofs.Paying.{leads_of, one_more}
use Rattle.world_enough.proofs.Served.{waits_there}
use Rattle.world_law.proofs.AtWork.{if_true}
use Rattle.world_enough.proofs.Steps.{Laws, all_of, errands_come, letters_come, tied_step}

pub record Lore (f : Frame) : Type 0 where
  pub laws : Laws f
  pub rest : resting.Lore f
  pub home : StepsHome f
  pub begins : AllBegin
  pub reads : (w : World) → ReadsStanding f w

-- what is known of each world of a run
pub record Facts (f : Frame) (w : World) : Type 0 where
  pub holds : Holds f w
  pub kept : IsKept f w
  pub may : (i : ℕ) → MaySubmit f w i
  pub course : HasCourse f (singles_in f w) w
  pub stands : ProcessesStand f w

abbrev rest_of : (f : Frame) (w : World) → Facts f w → AllSent w → resting.Facts f w
rest_of f w facts sent = record { holds = facts.holds; kept = facts.kept; course = facts.course; sent = sent }

-- ---- nothing is in flight

no_flight : (n : ℕ) (flights : List (Flight Carried)) → AreCalm n flights → first_ready flights ≡ None → flights ≡ []
no_flight n [] calm e = refl
no_flight n (one ∷ flights) calm e =
    let here : find is_ready (one ∷ flights) ≡ Some one =
    if_true (one.ticks == 0) (Some one) (find is_ready flights) (ap (λ z. z == 0) calm.0.ready) in
    let some : Some (one.number, one.copy) ≡ None = sym (ap (λ (z : Option (Flight Carried)). option_map (λ (g : Flight Carried). (g.number, g.copy)) z) here) ∙ e in
    absurd (cc some)

-- ---- so all is done in the group

pub record GroupDone (f : Frame) (w : World) : Type 0 where
  pub log : (m : ℕ) → m < f.settings.nodes → (w.nodes m).member.log ≡ (w.nodes 0).member.log
  pub applied : (m : ℕ) → m < f.settings.nodes → (w.nodes m).member.applied ≡ length (w.nodes 0).member.log
  pub pending : (m : ℕ) → m < f.settings.nodes → (w.nodes m).member.pending ≡ []
  pub waiting : (w.nodes 0).member.waiting ≡ []
  pub installed : (m : ℕ) → m < f.settings.nodes → (w.nodes m).member.installed ≡ 0

done_as : (f : Frame) (z : GroupWorld Message) (w : World) (q : List (Letter Message)) (d a : ℕ) → z ≡ group_world w →
    Smooth (group f) (record { world = z; queue = q; delivered = d; asked = a }) → IsDone (group f) (record { world = z; queue = q; delivered = d; asked = a }) → GroupDone f w
done_as f z w q d a e smooth done = record {
  log = λ m low. subst (λ (y : GroupWorld Message). (y.members m).log ≡ (y.members 0).log) e (done.log m low);
  applied = λ m low. subst (λ (y : GroupWorld Message). (y.members m).applied ≡ length (y.members 0).log) e (done.applied m low);
  pending = λ m low. subst (λ (y : GroupWorld Message). (y.members m).pending ≡ []) e (done.pending m low);
  waiting = subst (λ (y : GroupWorld Message). (y.members 0).waiting ≡ []) e done.waiting;
  installed = λ m low. subst (λ (y : GroupWorld Message). (y.members m).installed ≡ 0) e (smooth.installed m low);
}

pub group_done : (f : Frame) (w : World) (d : ℕ) → Lore f → Holds f w → Tied f w d → IsUnlimited f w → w.flights ≡ [] → GroupDone f w
group_done f w d lore holds tied free empty =
    let g : Group Message = group f in
    let fl : Flow Message = flow g opening_flow tied.moves in
    let enough = lore.laws.enough tied.moves in
    let quiet : IsQuiet g fl = record {
      empty = tied.queue ∙ ap letters_of empty;
      noted = λ m low. subst (λ (y : GroupWorld Message). (y.members m).applied ≡ (y.members m).accepted) (sym tied.world)
          (all_noted f w m lore.rest holds low (tied.lives m) (free.members m low (tied.lives m)));
    } in
    done_as f fl.world w fl.queue fl.delivered fl.asked tied.world enough.smooth (enough.quiet quiet)

-- ---- the list

pub agreed_is : (f : Frame) (w : World) → Lore f → Holds f w → GroupDone f w → agreed f w ≡ (w.nodes 0).member.log
agreed_is f w lore holds done =
    let one : OneList f w = lore.rest.lists.one w holds.grouped in
    let k = one.some in
    k.2 ∙ ap (λ (n : ℕ). take n (w.nodes k.0).member.log) (done.applied k.0 k.1)
    ∙ ap (λ (xs : List Message). take (length (w.nodes 0).member.log) xs) (done.log k.0 k.1)
    ∙ take_all (length (w.nodes 0).member.log) (w.nodes 0).member.log (omega arith)

entries_are : (f : Frame) (w : World) (m : ℕ) → Lore f → Holds f w → GroupDone f w → m < f.settings.nodes → entries_of (w.nodes m) ≡ agreed f w
entries_are f w m lore holds done low =
    let one : OneList f w = lore.rest.lists.one w holds.grouped in
    one.copies m low ∙ ap (λ (n : ℕ). take n (w.nodes m).member.log) (done.applied m low)
    ∙ ap (λ (xs : List Message). take (length (w.nodes 0).member.log) xs) (done.log m low)
    ∙ take_all (length (w.nodes 0).member.log) (w.nodes 0).member.log (omega arith)
    ∙ sym (agreed_is f w lore holds done)

-- ---- members

leads_zero : (g : Group Message) (m : ℕ) (s : Member Message) → m < g.nodes → s.installed ≡ 0 → leads g m s ≡ true → m ≡ 0
leads_zero g m s low zeroth e =
    let at = eqb-true (s.installed % g.nodes) m (and_parts (is_active s) (s.installed % g.nodes == m) e).1 in
    let z : s.installed % g.nodes ≡ 0 = ap (λ (i : ℕ). i % g.nodes) zeroth ∙ omega arith in
    sym at ∙ z

member_done : (f : Frame) (w : World) (m : ℕ) → Lore f → Holds f w → GroupDone f w → m < f.settings.nodes → MemberDone f w m (w.nodes m)
member_done f w m lore holds done low = record {
  whole = done.applied m low ∙ sym (ap length (done.log m low));
  most = done.applied m low ∙ sym (ap length (agreed_is f w lore holds done));
  pending = done.pending m low;
  waiting = λ e. let z = leads_zero (group f) m (w.nodes m).member low (done.installed m low) e in
      subst (λ (k : ℕ). (w.nodes k).member.waiting ≡ []) (sym z) done.waiting;
}

-- ---- processes

begun_at : (f : Frame) (w : World) (i : ℕ) → Lore f → Facts f w → GroupDone f w → i < process_count f w → (r : Played) × (played_in f w i ≡ Some r)
begun_at f w i lore facts done low =
    let b = got (processes_of f w) i low in
    let m : ℕ = home_of f w i in
    let home : b.0.home ≡ m = sym (ap home_or_first b.1) in
    let there : m < f.settings.nodes = lore.laws.homes w i in
    let knows : known f (w.nodes m) ≡ processes_of f w = ap (processes_in f) (entries_are f w m lore facts.holds done there) in
    facts.kept.processes.begun m i b.0 (ap (λ (ps : List Begun). slice_get ps i) knows ∙ b.1) home

-- who lives, and is inside
pub lives_of : (f : Frame) (w : World) (d : ℕ) → Lore f → Tied f w d → Lives f w
lives_of f w d lore tied = record {
  live = λ m low. tied.lives m;
  inside = λ m low. subst (λ (z : GroupWorld Message). (z.members m).outside ≡ false) tied.world ((lore.laws.enough tied.moves).smooth.outside m low);
  calm = tied.calm;
}

pub quiet_rests : (f : Frame) (w : World) (d : ℕ) → Lore f → Facts f w → AllSent w → Held f w → Tied f w d → IsUnlimited f w → MomentQuiet f w → AllRest f w
quiet_rests f w d lore facts sent held tied free quiet =
    let empty : w.flights ≡ [] = no_flight w.sent w.flights tied.calm quiet.packets in
    let done : GroupDone f w = group_done f w d lore facts.holds tied free empty in
    let lives : Lives f w = lives_of f w d lore tied in
    let known_of : resting.Facts f w = rest_of f w facts sent in
    let level : AllLevel f w = λ m low. (member_done f w m lore facts.holds done low).most in
    record {
      quiet = quiet;
      flights = empty;
      members = λ m low here. member_done f w m lore facts.holds done low;
      processes = λ i low here.
          let b = begun_at f w i lore facts done low in
          let begun : IsBegun f w i b.0 = record { exists = low; here = b.1 } in
          let m : ℕ = home_of f w i in
          let there : m < f.settings.nodes = lore.laws.homes w i in (
            b.0,
            begun,
            rests_as f w i b.0 b.0.stage refl (quiet.processes i b.0 begun here)
                (λ act e. waits_here f w lore.rest known_of m i b.0 act there b.1 e (member_done f w m lore facts.holds done there))
                (λ act e.
                let o = object_of act (sent.calls m i b.0 act b.1 e) in
                waits_there f lore.rest lore.home w known_of lives held empty level m i b.0 act o.0 there b.1 e o.1),
          );
    }

-- ---- so no tick comes

no_tick : (f : Frame) (w : World) (d : ℕ) (e : world.Event) (given : Known e) → Lore f → Facts f w → AllSent w → Held f w → Tied f w d → standing f w ≡ Going → Possible f w e given → IsTick e → ⊥
no_tick f w d event.Tick given lore facts sent held tied going may tick =
    let reads = lore.reads w in
    let row = reads.says Going going in
    let quiet : MomentQuiet f w = reads.quiet.0 (if_yes (is_quiet f w) may) in
    row.1 (inr (quiet_rests f w d lore facts sent held tied row.0.limits quiet))
  where
    if_yes : (b : Bool) → IsTrue b → b ≡ true
    if_yes true h = refl
    if_yes false h = absurd (cc h)
no_tick f w d (event.Burst process place turns) given lore facts sent held tied going may tick = tick
no_tick f w d (event.Act process) given lore facts sent held tied going may tick = tick
no_tick f w d (event.Deliver packet copy) given lore facts sent held tied going may tick = tick
no_tick f w d (event.Crash node) given lore facts sent held tied going may tick = tick
no_tick f w d (event.Suspect node) given lore facts sent held tied going may tick = tick
no_tick f w d event.Swap given lore facts sent held tied going may tick = tick

-- what a faultless run comes to, of which n packets were delivered
pub record Comes (f : Frame) (w : World) (n : ℕ) : Type 0 where
  pub letters : ℕ
  pub errands : ℕ
  pub all : n ≡ letters + errands
  pub tied : Tied f w letters
  pub covered : Covered f w errands
  pub sent : AllSent w
  pub held : Held f w

comes_step : (f : Frame) (w v : World) (step : Step) (n : ℕ) → Lore f → Facts f w → Facts f v → Next f w step v → IsFaultless w step → (IsTick step.event → ⊥) → Comes f w n → Comes f v (delivers_by step.event + n)
comes_step f w v step n lore before after next less none c = record {
  letters = letters_come w step.event + c.letters;
  errands = errands_come w step.event + c.errands;
  all = together (delivers_by step.event) (letters_come w step.event) (errands_come w step.event) n c.letters c.errands (all_of f w step.event next.given next.possible) c.all;
  tied = tied;
  covered = covered_step f w v step c.errands (lore.laws.homes w) before.stands c.tied.calm next less none c.covered;
  sent = sent;
  held = held_step f lore.begins lore.rest lore.home w v step next may less none (rest_of f w before c.sent) (rest_of f v after sent) (lives_of f w c.letters lore c.tied) (lives_of f v (letters_come w step.event + c.letters) lore tied) c.held;
}
  where
    may : MayAll f w step.event
    may = may_all f w step.event before.may

    tied : Tied f v (letters_come w step.event + c.letters)
    tied = tied_step f w v step c.letters lore.laws next may before.holds.grouped less none c.tied

    sent : AllSent v
    sent = sent_step f w v step next may c.sent

    together : (e a b n l r : ℕ) → e ≡ a + b → n ≡ l + r → e + n ≡ (a + l) + (b + r)
    together e a b n l r one two = omega (arith, one, two)

leads_on : (f : Frame) (steps past : List Step) (w v : World) (n : ℕ) → Lore f → ((steps : List Step) (u : World) → Replays f steps u → Facts f u) → Replays f past w → Comes f w n →
    LeadsFaultless f w steps v → NoTick steps × Comes f v (delivered steps + n)
leads_on f [] past w v n lore facts came c e = (tt, subst (λ (z : World). Comes f z (0 + n)) (sym e) (subst (λ (k : ℕ). Comes f w k) (let e : n ≡ 0 + n = omega arith in e) c))
leads_on f (step ∷ steps) past w v n lore facts came c h =
    let u : World = h.0 in
    let next : Next f w step u = h.1 in
    let less : IsFaultless w step = h.2 in
    let none : IsTick step.event → ⊥ = no_tick f w c.letters step.event next.given lore (facts past w came) c.sent c.held c.tied next.going next.possible in
    let on : Replays f (past ++ step ∷ []) u = one_more f (opening_world f) w u past step came next in
    let more : Comes f u (delivers_by step.event + n) = comes_step f w u step n lore (facts past w came) (facts (past ++ step ∷ []) u on) next less none c in
    let r = leads_on f steps (past ++ step ∷ []) u v (delivers_by step.event + n) lore facts on more h.3 in
    ((none, r.0), subst (λ (k : ℕ). Comes f v k) (let e : delivered steps + (delivers_by step.event + n) ≡ (delivers_by step.event + delivered steps) + n = omega arith in e) r.1)

opening_tied : (f : Frame) → Tied f (opening_world f) 0
opening_tied f = record { moves = []; world = refl; queue = refl; delivered = refl; calm = tt; lives = λ m. refl }

opening_comes : (f : Frame) → Comes f (opening_world f) 0
opening_comes f = record { letters = 0; errands = 0; all = refl; tied = opening_tied f; covered = opening_covered f; sent = opening_sent f; held = opening_held f }

pub faultless : (f : Frame) (steps : List Step) (w : World) → Lore f → ((steps : List Step) (u : World) → Replays f steps u → Facts f u) →
    LeadsFaultless f (opening_world f) steps w → NoTick steps × HasDelivered f w (delivered steps) × EndsQuiet f w
faultless f steps w lore facts h =
    let r = leads_on f steps [] (opening_world f) w 0 lore facts refl (opening_comes f) h in
    let c = r.1 in (
      r.0,
      record {
        letters = c.letters;
        errands = c.errands;
        all = let e = c.all in omega (arith, e);
        tied = c.tied;
        asked = covered_asked f w c.errands c.covered;
        none = covered_none f w c.errands c.covered;
      },
      (λ free quiet. inr (quiet_rests f w c.letters lore (facts steps w (leads_of f steps (opening_world f) w h)) c.sent c.held c.tied free quiet)),
    )
