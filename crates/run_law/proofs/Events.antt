-- What each event of a run adds, put together.
use Rattle.std.proofs.Common.{◌≡◌, ◌<◌, ◌≤◌, ◌*◌, ℕ, Bool, true, false, if◌then◌else◌, List, ◌++◌, [], ◌∷◌, length, take, Option, Some, refl, sym, ap, ◌∙◌, subst, arith}
use Rattle.std.proofs.lemmas.Bool.{and_parts, ltb-true}
use Rattle.std.specs.Prelude.{All, nat_lt}
use Rattle.value_core.specs.declared.message.Message.{Message}
use Rattle.group_rules.specs.Agree.{Agree}
use Rattle.group_law.specs.Promise.{AgreementLaw}
use Rattle.net_rules.specs.declared.flight.Flight.{Flight}
use Rattle.book_law.specs.Passes.{Test}
use Rattle.book_law.specs.declared.placing.Placed.{Placed}
use Rattle.book_law.proofs.Courses.{at_own}
use Rattle.world_rules.specs.declared.event.Event as world
use Rattle.world_rules.specs.declared.event.Event.TheVariants as event
use Rattle.world_rules.specs.declared.event.Step.{Step}
use Rattle.world_rules.specs.declared.standing.Standing.TheVariants.{Going as IsGoing}
use Rattle.world_rules.specs.Frame.{Frame, group}
use Rattle.world_rules.specs.Mail.{Carried, is_whole, receiver_of}
use Rattle.world_rules.specs.Nodes.{Node, aside_of, entries_of}
use Rattle.world_rules.specs.Parts.{acts, receives, suspects}
use Rattle.world_rules.specs.Standings.{standing}
use Rattle.world_rules.specs.Steps.{Known as Given, Possible, Replays, comes_whole, does_part, happens, lives_in, untouched}
use Rattle.world_rules.specs.Worlds.{World, agreed, group_world, home_of, singles_in}
use Rattle.world_law.specs.Gives.{taken_from as taken}
use Rattle.world_law.specs.Grouped.{Grouped, MaySubmit}
use Rattle.world_law.specs.Holds.{Holds}
use Rattle.world_law.specs.Lists.{AllGrow, ListsGrow}
use Rattle.world_law.specs.Moments.{AllMoments, Lives}
use Rattle.world_course.specs.Corresponds.{Agrees}
use Rattle.world_course.proofs.Listing.{within_list}
use Rattle.world_course.proofs.Program.{Program}
use Rattle.world_book.specs.Following.{HasCourse}
use Rattle.world_book.specs.Promise.{IsKept}
use Rattle.world_book.proofs.Kept.{stands_for, submits}
use Rattle.node_rules.specs.Conditions.{Fitness}
use Rattle.node_rules.specs.Starts.{Start, part}
use Rattle.node_rules.specs.Starts.Start.{Acts, Comes, Ticks, Suspects}
use Rattle.world_calls.proofs.Beginning.{AllStart, GroupLaws, MayStart, begins_each}
use Rattle.world_calls.proofs.Each.{FollowsEach}
use Rattle.world_calls.proofs.Going.{Known}
use Rattle.run_law.specs.Growing.{EventGrows, ListGrows, TellsPart}
use Rattle.node_rules.specs.Entries.{told_lines}
use Rattle.run_law.specs.Parts.{InParts}
use Rattle.run_law.proofs.Adding.{event_new}
use Rattle.run_law.proofs.Growing.{IsStepped, agreed_same, list_grows, performed_grows, replays_on, stepped}
use Rattle.run_law.proofs.Lines.{ListMakes, list_makes}
use Rattle.run_law.proofs.Senders.{rows_of}
use Rattle.run_law.proofs.Senders.{Laws as SendLaws}
use Rattle.run_law.proofs.Telling.{ToldSo, beside_part, told_part}
use Rattle.run_law.proofs.Ticking.{each_part, ticks_apart}

-- ---- the laws that this stands on

-- of each run, as the law of the book has it
pub record RunLaws (f : Frame) : Type 0 where
  pub kept : (steps : List Step) (w : World) → Replays f steps w → IsKept f w
  pub follows : (steps : List Step) (w : World) → Replays f steps w → (single : Test) → Agrees f single (agreed f w) → HasCourse f single w
  pub holds : (steps : List Step) (w : World) → Replays f steps w → Holds f w
  pub may : (steps : List Step) (w : World) → Replays f steps w → (i : ℕ) → MaySubmit f w i

pub record Laws (f : Frame) (fitness : Fitness) : Type 0 where
  pub small : 2 * (group f).resilience < (group f).nodes
  pub program : Program f fitness.state fitness.args fitness.text fitness.reply
  pub worlds : AgreementLaw Message
  pub sends : SendLaws
  pub group : GroupLaws
  pub moments : AllMoments
  pub lists : AllGrow
  pub runs : RunLaws f

-- ---- where each member's part leads

-- where two facts are so of each part, so is a third that they give
pub in_both : (f : Frame) (w : World) (one two three : ℕ → Start → Type 0) (e : world.Event) → ((m : ℕ) (start : Start) → one m start → two m start → three m start) → InParts f w one e → InParts f w two e → InParts f w three e
in_both f w one two three (event.Act process) both a b = both (home_of f w process.0) (Acts process.0) a b
in_both f w one two three (event.Deliver packet copy) both a b = λ flight found whole lives.
    both (receiver_of flight.packet.mail) (Comes flight.packet.mail) (a flight found whole lives) (b flight found whole lives)
in_both f w one two three event.Tick both a b = λ m low lives. both m Ticks (a m low lives) (b m low lives)
in_both f w one two three (event.Suspect node) both a b = both node Suspects a b
in_both f w one two three (event.Burst process place turns) both a b = tt
in_both f w one two three (event.Crash node) both a b = tt
in_both f w one two three event.Swap both a b = tt

-- a whole copy that comes
came_so : (f : Frame) (w : World) (flight : Flight Carried) → is_whole f.settings.nodes flight.packet ≡ true → lives_in f w (receiver_of flight.packet.mail) ≡ true
    → (comes_whole f w (Some flight)).world.nodes (receiver_of flight.packet.mail)
    ≡ (receives f (receiver_of flight.packet.mail) flight.packet.mail (w.nodes (receiver_of flight.packet.mail))).node
came_so f w flight whole lives = go (is_whole f.settings.nodes flight.packet) (lives_in f w (receiver_of flight.packet.mail)) whole lives
  where
    m : ℕ
    m = receiver_of flight.packet.mail

    go : (a b : Bool) → a ≡ true → b ≡ true
        → (if a then (if b then does_part f m (receives f m flight.packet.mail) (untouched w) else untouched w) else untouched w).world.nodes m ≡ (receives f m flight.packet.mail (w.nodes m)).node
    go true true whole lives = at_own w.nodes m (receives f m flight.packet.mail (w.nodes m)).node
    go true false whole lives = absurd (cc lives)
    go false b whole lives = absurd (cc whole)

abbrev pub LeadsTo : Frame → World → World → ℕ → Start → Type 0
LeadsTo f w u m start = u.nodes m ≡ (part f m start (w.nodes m)).node

pub parts_lead : (f : Frame) (w : World) (e : world.Event) (given : Given e) → InParts f w (LeadsTo f w (happens f w e given).world) e
parts_lead f w (event.Act process) given = at_own w.nodes (home_of f w process.0) (acts f (home_of f w process.0) process.0 (w.nodes (home_of f w process.0))).node
parts_lead f w (event.Deliver packet copy) given = λ flight found whole lives.
    let m : ℕ = receiver_of flight.packet.mail in
    subst (λ (o : Option (Flight Carried)). (comes_whole f (taken w packet copy) o).world.nodes m ≡ (part f m (Comes flight.packet.mail) (w.nodes m)).node) (sym found)
    (came_so f (taken w packet copy) flight whole lives)
parts_lead f w event.Tick given = λ m low lives.
    let apart = ticks_apart f w f.settings.nodes in
    apart.ticked m low ∙ ap (λ (b : Bool). if b then (part f m Ticks (w.nodes m)).node else w.nodes m) lives
parts_lead f w (event.Suspect node) given = at_own w.nodes node (suspects f node (w.nodes node)).node
parts_lead f w (event.Burst process place turns) given = tt
parts_lead f w (event.Crash node) given = tt
parts_lead f w event.Swap given = tt

-- ---- an event

module _ (f : Frame) (fitness : Fitness) (laws : Laws f fitness) where
  run : RunLaws f
  run = laws.runs

  -- by the list's own choices
  pub made : (steps : List Step) (w : World) → Replays f steps w → ListMakes f (agreed f w)
  made steps w replays =
      let h = run.follows steps w replays (singles_in f w) (λ o lt. refl) in
      subst (ListMakes f) h.list (list_makes f fitness (singles_in f w) w h.course laws.program (stands_for f (singles_in f w) w h))

  pub fits : (w : World) → Grouped f w → (m : ℕ) → (w.nodes m).copies.applied ≤ length (w.nodes m).member.log
  fits w grouped m =
      let agree : Agree (group f) (group_world w) = subst (Agree (group f)) (sym grouped.run) (laws.worlds (group f) laws.small grouped.events) in
      let holds = agree.holds m in
      let applied = holds.applied in
      let accepted = holds.accepted in
      let level = grouped.level m in
      omega (arith, applied, accepted, level)

  -- no member applied more than the list has
  pub within : (steps : List Step) (w : World) → Replays f steps w → (m : ℕ) → (w.nodes m).copies.applied ≤ length (agreed f w)
  within steps w replays m =
      let h = run.follows steps w replays (singles_in f w) (λ o lt. refl) in
      subst (λ (l : List Message). (w.nodes m).copies.applied ≤ length l) h.list
      (within_list f (singles_in f w) w h.course (stands_for f (singles_in f w) w h) m)

  pub grown : (steps : List Step) (w u : World) → Replays f steps w → IsStepped f w u → ListGrows f w u
  grown steps w u replays s =
      let after = replays_on f steps w u replays s in
      let now = run.holds steps w replays in
      let later = run.holds (steps ++ s.step ∷ []) s.after after in
      let kept = run.kept (steps ++ s.step ∷ []) s.after after in
      let lists : ListsGrow f = laws.lists f laws.small in
      let more = lists.grows w s.after s.step s.next (submits f w s.step.event (run.may steps w replays)) now.grouped in
      list_grows f w u s.after more.0 more.1 s.nodes s.aside (lists.one s.after later.grouped) (fits s.after later.grouped) (λ r is. (kept.beside r is).0)

  -- the lines that a part tells, by a list that its member's entries begin
  pub told : (steps : List Step) (w u : World) → Replays f steps w → ListGrows f w u → ListMakes f (agreed f u) → (m : ℕ) (start : Start) → LeadsTo f w u m start
      → Lives f w m → MayStart f w m start → AllStart f w start
      → ToldSo f u (w.nodes m).copies.applied (part f m start (w.nodes m)).node.copies.applied (told_lines (part f m start (w.nodes m)).deeds)
  told steps w u replays grows makes m start leads lives may stands =
      told_part f fitness w m known (rows_of laws.sends f laws.small w m now.grouped lives) u makes start may
      (begins_each f fitness w m (agreed f w) start laws.group laws.small known follows may stands)
      (subst (λ (n : Node). entries_of n ≡ take n.copies.applied (agreed f u)) leads (grows.begin m low))
    where
      now : Holds f w
      now = run.holds steps w replays

      known : Known f fitness w m
      known = record { program = laws.program; group = laws.moments f laws.small; grouped = now.grouped; lives = lives }

      follows : FollowsEach f w (agreed f w)
      follows single agrees = let h = run.follows steps w replays single agrees in record { course = h.course; follows = h.follows; is = h.list }

      low : m < f.settings.nodes
      low = ltb-true m f.settings.nodes (and_parts (nat_lt m f.settings.nodes) (w.lives m) lives).0

  tells : (steps : List Step) (w u : World) → Replays f steps w → ListGrows f w u → ListMakes f (agreed f u) → (m : ℕ) (start : Start) → LeadsTo f w u m start
      → Lives f w m → MayStart f w m start → AllStart f w start → TellsPart f w u m start
  tells steps w u replays grows makes m start leads lives may stands =
      let so = told steps w u replays grows makes m start leads lives may stands in
      let now = run.holds steps w replays in
      record {
        node = leads;
        count = so.count ∙ ap (λ (n : Node). n.copies.applied) (sym leads);
        lines = so.lines;
        beside = subst (λ (n : Node). All (λ (r : Placed). r.place ≤ n.copies.applied) (aside_of (part f m start (w.nodes m)).deeds)) (sym leads)
            (beside_part f w m start (rows_of laws.sends f laws.small w m now.grouped lives) may);
      }

  pub event_grows : (steps : List Step) (w : World) (e : world.Event) (given : Given e) → Replays f steps w → standing f w ≡ IsGoing → Possible f w e given → EventGrows f w e given (happens f w e given).world
  event_grows steps w e given replays going possible = record {
    list = grows;
    parts = parts;
    performed = performed_grows f w u grows.more grows.grew (made steps w replays) (λ r is. ((run.kept steps w replays).beside r is).0);
    new = event_new f w (within steps w replays) e given (let small = laws.small in omega (arith, small)) possible (λ m. let le = within steps w replays m in let level = now.grouped.level m in omega (arith, le, level)) grows parts;
  }
    where
      u : World
      u = (happens f w e given).world

      s : IsStepped f w u
      s = stepped f w e given going possible

      now : Holds f w
      now = run.holds steps w replays

      grows : ListGrows f w u
      grows = grown steps w u replays s

      makes : ListMakes f (agreed f u)
      makes = subst (ListMakes f) (agreed_same f u s.after s.nodes) (made (steps ++ s.step ∷ []) s.after (replays_on f steps w u replays s))

      parts : InParts f w (TellsPart f w u) e
      parts = in_both f w (LeadsTo f w u) (λ m start. LeadsTo f w u m start → TellsPart f w u m start) (TellsPart f w u) e (λ m start leads says. says leads)
          (parts_lead f w e given)
          (each_part f w laws.small now.grouped (run.may steps w replays) e given possible (λ m start. LeadsTo f w u m start → TellsPart f w u m start)
          (λ m start lives may stands leads. tells steps w u replays grows makes m start leads lives may stands))
