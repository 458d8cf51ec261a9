-- The entries of the list of a run may be applied to opening copies again.
use Rattle.std.proofs.Common.{◌≡◌, ◌<◌, ◌≤◌, ◌+◌, ◌-◌, ◌^◌, ◌⊎◌, inl, inr, ℕ, zero, suc, Bool, true, false, if◌then◌else◌, List, [], ◌∷◌, ◌++◌, length, take, append-nil, Option, None, Some, refl, sym, ap, ◌∙◌, subst, arith}
use Rattle.std.specs.Prelude.{slice_get}
use Rattle.std.proofs.lemmas.Bool.{cases_eq, cases_lt}
use Rattle.std.proofs.lemmas.List.{length-take, take-append-le, take-take}
use Rattle.std.proofs.lemmas.List.Elements.{All-nil}
use Rattle.std.proofs.lemmas.Option.{slice_get_within}
use Rattle.value_core.specs.History.{Objects, object_at}
use Rattle.value_core.specs.Meaning.{Performs}
use Rattle.value_core.specs.declared.action.Action.{Action}
use Rattle.value_core.specs.declared.action.Action.TheVariants as action
use Rattle.value_core.specs.declared.meaning.Tried.TheVariants as tried
use Rattle.value_core.specs.declared.message.Message.{Message}
use Rattle.guard_queue.specs.Fitting.{Fitting}
use Rattle.guard_queue.specs.Settles.{AllBlocked, tried_in}
use Rattle.guard_queue.specs.declared.queue.Suspended.{Suspended}
use Rattle.object_manager.specs.After.{Copied, after as after_applied, opening_copies}
use Rattle.object_manager.specs.Applies.{Applies}
use Rattle.object_manager.specs.Limits.{too_many}
use Rattle.object_manager.specs.Singles.{after_passed, kinds_at, own_after}
use Rattle.group_rules.specs.Member.{Member}
use Rattle.net_rules.specs.declared.flight.Flight.{Flight}
use Rattle.net_rules.specs.Flights.{ready_copy}
use Rattle.book_law.specs.Book.{copies_at}
use Rattle.book_law.specs.Events.{In}
use Rattle.book_law.specs.Fitness.{Callable}
use Rattle.book_law.specs.Passes.{Test, after, after_all, is_passed}
use Rattle.book_law.specs.declared.placing.Placed.{Placed}
use Rattle.book_law.proofs.Books.{applied_all}
use Rattle.book_law.proofs.Courses.{at_other, at_own}
use Rattle.book_law.proofs.Stuck.{copies_blocked}
use Rattle.world_rules.specs.declared.event.Event as world
use Rattle.world_rules.specs.declared.event.Event.TheVariants as event
use Rattle.world_rules.specs.declared.event.Step.{Step}
use Rattle.world_rules.specs.Frame.{Frame}
use Rattle.world_rules.specs.Mail.{Carried, is_whole, receiver_of}
use Rattle.world_rules.specs.Nodes.{Node, entries_of, idle, known}
use Rattle.world_rules.specs.Parts.{acts, computes, receives, suspects}
use Rattle.world_rules.specs.Processes.{singles_of}
use Rattle.world_rules.specs.Steps.{Burst, Known as Given, Leads, Next, Possible, Replays, comes_whole, does_part, happens, lives_in, untouched}
use Rattle.world_rules.specs.Worlds.{World, agreed, applied_at, home_of, longer_of, longest, opening_world, singles_in}
use Rattle.world_law.specs.Counts.{AreSmall}
use Rattle.world_law.specs.Gives.{taken_from as taken}
use Rattle.world_law.specs.Lists.{OneList}
use Rattle.world_law.proofs.Walking.{performed_node}
use Rattle.world_course.specs.Corresponds.{Agrees}
use Rattle.world_course.proofs.Begun.{left_same}
use Rattle.world_course.proofs.Entry.{agrees_take}
use Rattle.world_course.proofs.Program.{callable}
use Rattle.world_book.specs.Following.{HasCourse}
use Rattle.world_book.proofs.Kept.{stands_for}
use Rattle.node_rules.specs.Conditions.{Fitness}
use Rattle.node_rules.specs.Starts.{Start, part}
use Rattle.node_rules.specs.Starts.Start.{Acts, Comes, Ticks, Suspects}
use Rattle.world_calls.proofs.Each.{own}
use Rattle.run_law.specs.Growing.{ListGrows}
use Rattle.node_rules.specs.Entries.{MayApplyAgain, MayTakeAgain, told_lines}
use Rattle.run_law.specs.Parts.{InParts}
use Rattle.run_law.proofs.Events.{Laws, LeadsTo, grown, in_both, made, parts_lead, told, within}
use Rattle.run_law.proofs.Growing.{IsStepped, agreed_same, one_more, replays_on, list_grows, step_nodes, stepped_by}
use Rattle.run_law.proofs.Lines.{ListMakes, same_at}
use Rattle.run_law.proofs.Telling.{ToldSo}
use Rattle.run_law.proofs.Ticking.{each_part, ticks_apart}

-- ---- copies of the list keep no single object

passed_own : (p : Performs) (own : Objects) (a : Action) → own_after p false own a ≡ own
passed_own p own (action.Make kind object) = refl
passed_own p own (action.Call kind op object args) = refl
passed_own p own (action.Fork text args place_on) = refl
passed_own p own action.Ended = refl
passed_own p own (action.Faulted fault) = refl

entry_own : (single : Test) (p : Performs) (c : Copied) (x : Message) → (after single p c x).own ≡ c.own
entry_own single p c x = go (is_passed single x.action)
  where
    go : (b : Bool) → (if b then after_passed p false c x else after_applied p c x).own ≡ c.own
    go true = passed_own p c.own x.action
    go false = refl

entry_waits : (single : Test) (p : Performs) (c : Copied) (x : Message) → (after single p c x).waits ≡ c.waits
entry_waits single p c x = go (is_passed single x.action)
  where
    go : (b : Bool) → (if b then after_passed p false c x else after_applied p c x).waits ≡ c.waits
    go true = refl
    go false = refl

all_own : (single : Test) (p : Performs) (c : Copied) (xs : List Message) → (after_all single p c xs).own ≡ c.own
all_own single p c [] = refl
all_own single p c (x ∷ xs) = all_own single p (after single p c x) xs ∙ entry_own single p c x

all_waits : (single : Test) (p : Performs) (c : Copied) (xs : List Message) → (after_all single p c xs).waits ≡ c.waits
all_waits single p c [] = refl
all_waits single p c (x ∷ xs) = all_waits single p (after single p c x) xs ∙ entry_waits single p c x

-- ---- who applied more did a part

module _ (f : Frame) (w : World) (says : ℕ → Start → Type 0) where
  pub record Did (u : World) (m : ℕ) : Type 0 where
    pub start : Start
    pub so : says m start
    pub leads : u.nodes m ≡ (part f m start (w.nodes m)).node

  abbrev pub More : World → ℕ → Type 0
  More u m = (w.nodes m).copies.applied < (u.nodes m).copies.applied

  -- a member that stays as it was applied no more
  stays : (u : World) (m : ℕ) → u.nodes m ≡ w.nodes m → More u m → ⊥
  stays u m same more = let e = ap (λ (n : Node). n.copies.applied) same in omega (arith, e, more)

  -- where one member alone does a part
  did_at : (u : World) (k : ℕ) (start : Start) → says k start → u.nodes k ≡ (part f k start (w.nodes k)).node → ((m : ℕ) → (m ≡ k → ⊥) → u.nodes m ≡ w.nodes m) → (m : ℕ) → More u m → Did u m
  did_at u k start so leads others m more = go (cases_eq m k)
    where
      go : (m ≡ k) ⊎ (m ≡ k → ⊥) → Did u m
      go (inl e) = subst (λ (j : ℕ). Did u j) (sym e) (record { start = start; so = so; leads = leads })
      go (inr apart) = absurd (stays u m (others m apart) more)

  -- a copy that comes
  came_did : (number copy : ℕ) → InParts f w says (event.Deliver number copy) → (o : Option (Flight Carried)) → ready_copy number copy w.flights ≡ o → (m : ℕ)
      → More (comes_whole f (taken w number copy) o).world m → Did (comes_whole f (taken w number copy) o).world m
  came_did number copy all None none m more = absurd (stays w m refl more)
  came_did number copy all (Some flight) found m more = go (is_whole f.settings.nodes flight.packet) (lives_in f w k) refl refl more
    where
      k : ℕ
      k = receiver_of flight.packet.mail

      left : Bool → Bool → World
      left a b =
          (if a then (if b then does_part f k (receives f k flight.packet.mail) (untouched (taken w number copy)) else untouched (taken w number copy))
          else untouched (taken w number copy)).world

      go : (a b : Bool) → is_whole f.settings.nodes flight.packet ≡ a → lives_in f w k ≡ b → More (left a b) m → Did (left a b) m
      go true true whole lives more =
          did_at (left true true) k (Comes flight.packet.mail) (all flight found whole lives) (at_own w.nodes k (receives f k flight.packet.mail (w.nodes k)).node)
          (λ j apart. at_other w.nodes k (receives f k flight.packet.mail (w.nodes k)).node j apart) m more
      go true false whole lives more = absurd (stays (left true false) m refl more)
      go false b whole lives more = absurd (stays (left false b) m refl more)

  -- a burst leaves copies as they are
  burst_same : (i place : ℕ) (burst : Burst) (node : Node) → (computes i place burst.reads burst.end node).node.copies.applied ≡ node.copies.applied
  burst_same i place burst node = ap (λ (n : Node). n.copies.applied) (performed_node place burst.reads (idle node))

  pub who_did : (e : world.Event) (given : Given e) → InParts f w says e → (m : ℕ) → m < f.settings.nodes → More (happens f w e given).world m → Did (happens f w e given).world m
  who_did (event.Act process) given all m low more =
      let k : ℕ = home_of f w process.0 in
      did_at (happens f w (event.Act process) given).world k (Acts process.0) all (parts_lead f w (event.Act process) given)
      (λ j apart. at_other w.nodes k (acts f k process.0 (w.nodes k)).node j apart) m more
  who_did (event.Deliver number copy) given all m low more = came_did number copy all (ready_copy number copy w.flights) refl m more
  who_did event.Tick given all m low more = go (w.lives m) refl
    where
      u : World
      u = (happens f w event.Tick given).world

      apart : u.nodes m ≡ (if w.lives m then (part f m Ticks (w.nodes m)).node else w.nodes m)
      apart = let t = ticks_apart f w f.settings.nodes in t.ticked m low

      go : (b : Bool) → w.lives m ≡ b → Did u m
      go true lives = record { start = Ticks; so = all m low lives; leads = apart ∙ ap (λ (b : Bool). if b then (part f m Ticks (w.nodes m)).node else w.nodes m) lives }
      go false lives = absurd (stays u m (apart ∙ ap (λ (b : Bool). if b then (part f m Ticks (w.nodes m)).node else w.nodes m) lives) more)
  who_did (event.Suspect node) given all m low more =
      did_at (happens f w (event.Suspect node) given).world node Suspects all (parts_lead f w (event.Suspect node) given)
      (λ j apart. at_other w.nodes node (suspects f node (w.nodes node)).node j apart) m more
  who_did (event.Burst process place turns) burst all m low more = go (cases_eq m k)
    where
      k : ℕ
      k = home_of f w process.0

      u : World
      u = (happens f w (event.Burst process place turns) burst).world

      go : (m ≡ k) ⊎ (m ≡ k → ⊥) → Did u m
      go (inl e) =
          let same : (u.nodes k).copies.applied ≡ (w.nodes k).copies.applied =
          ap (λ (n : Node). n.copies.applied) (at_own w.nodes k (computes process.0 place burst.reads burst.end (w.nodes k)).node) ∙ burst_same process.0 place burst (w.nodes k) in
          let both : (u.nodes m).copies.applied ≡ (w.nodes m).copies.applied = subst (λ (j : ℕ). (u.nodes j).copies.applied ≡ (w.nodes j).copies.applied) (sym e) same in
          absurd (omega (arith, both, more))
      go (inr apart) = absurd (stays u m (at_other w.nodes k (computes process.0 place burst.reads burst.end (w.nodes k)).node m apart) more)
  who_did (event.Crash node) given all m low more = absurd (stays w m refl more)
  who_did event.Swap given all m low more = absurd (stays w m refl more)

-- ---- no entry of the list passes a limit

abbrev pub AllPassed : Frame → List Message → Type 0
AllPassed f list = (n : ℕ) (x : Message) → slice_get list n ≡ Some x → too_many f.performs (copies_at (own f list) f.performs list n) x.action ≡ None

-- the entries that it had stay so in a longer list
earlier_passed : (f : Frame) (list more longer : List Message) → longer ≡ list ++ more → ListMakes f list → AllPassed f list → (n : ℕ) (x : Message) → n < length list → slice_get longer n ≡ Some x
    → too_many f.performs (copies_at (own f longer) f.performs longer n) x.action ≡ None
earlier_passed f list more longer is made h n x lt there =
    ap (λ (c : Copied). too_many f.performs c x.action)
    (same_at f (own f longer) longer list n made (λ j low. refl) (ap (take n) is ∙ take-append-le n list more (omega (arith, lt))))
    ∙ h n x (sym (left_same list more n lt) ∙ ap (λ (l : List Message). slice_get l n) (sym is) ∙ there)

module _ (f : Frame) (fitness : Fitness) (laws : Laws f fitness) where
  -- the lines that each part tells
  abbrev Tells : World → World → ℕ → Start → Type 0
  Tells w u m start = ToldSo f u (w.nodes m).copies.applied (part f m start (w.nodes m)).node.copies.applied (told_lines (part f m start (w.nodes m)).deeds)

  each_told : (steps : List Step) (w : World) (e : world.Event) (given : Given e) → Replays f steps w → Possible f w e given → ListGrows f w (happens f w e given).world → ListMakes f (agreed f (happens f w e given).world)
      → InParts f w (Tells w (happens f w e given).world) e
  each_told steps w e given replays possible grows makes =
      let u : World = (happens f w e given).world in
      let runs = laws.runs in
      let now = runs.holds steps w replays in
      in_both f w (LeadsTo f w u) (λ m start. LeadsTo f w u m start → Tells w u m start) (Tells w u) e (λ m start leads says. says leads)
      (parts_lead f w e given)
      (each_part f w laws.small now.grouped (runs.may steps w replays) e given possible (λ m start. LeadsTo f w u m start → Tells w u m start)
      (λ m start lives may stands leads. told f fitness laws steps w u replays grows makes m start leads lives may stands))

  -- a step leads on
  step_passed : (steps : List Step) (w v : World) (step : Step) → Replays f steps w → Next f w step v → AllPassed f (agreed f w) → AllPassed f (agreed f v)
  step_passed steps w v step replays next h = subst (AllPassed f) (sym (agreed_same f u v (step_nodes f w v step next))) (λ n x there. go n x there (cases_lt n (length (agreed f w))))
    where
      u : World
      u = (happens f w step.event next.given).world

      s : IsStepped f w u
      s = stepped_by f w v step next

      grows : ListGrows f w u
      grows = grown f fitness laws steps w u replays s

      makes : ListMakes f (agreed f u)
      makes = subst (ListMakes f) (agreed_same f u s.after s.nodes) (made f fitness laws (steps ++ s.step ∷ []) s.after (replays_on f steps w u replays s))

      new : (n : ℕ) (x : Message) → slice_get (agreed f u) n ≡ Some x → length (agreed f w) ≤ n → too_many f.performs (copies_at (own f (agreed f u)) f.performs (agreed f u) n) x.action ≡ None
      new n x there le =
          let m : ℕ = grows.some.0 in
          let low = grows.some.1 in
          let all = grows.some.2 in
          let before = within f fitness laws steps w replays m in
          let lt = slice_get_within (agreed f u) n x there in
          let d = who_did f w (Tells w u) step.event next.given (each_told steps w step.event next.given replays next.possible grows makes) m low (omega (arith, all, before, le, lt)) in
          let so = d.so in
          let count = so.count in
          let now : (part f m d.start (w.nodes m)).node.copies.applied ≡ (u.nodes m).copies.applied = ap (λ (z : Node). z.copies.applied) (sym d.leads) in
          let k : ℕ = n - (w.nodes m).copies.applied in
          let at : (w.nodes m).copies.applied + k ≡ n = omega (arith, before, le) in
          subst (λ (i : ℕ). too_many f.performs (copies_at (own f (agreed f u)) f.performs (agreed f u) i) x.action ≡ None) at
          (so.passed k x (omega (arith, count, now, all, lt, at)) (ap (slice_get (agreed f u)) at ∙ there))

      go : (n : ℕ) (x : Message) → slice_get (agreed f u) n ≡ Some x → (n < length (agreed f w)) ⊎ (length (agreed f w) ≤ n) → too_many f.performs (copies_at (own f (agreed f u)) f.performs (agreed f u) n) x.action ≡ None
      go n x there (inl lt) = earlier_passed f (agreed f w) grows.more (agreed f u) grows.grew (made f fitness laws steps w replays) h n x lt there
      go n x there (inr le) = new n x there le

  all_passed : (before steps : List Step) (w v : World) → Replays f before w → Leads f w steps v → AllPassed f (agreed f w) → AllPassed f (agreed f v)
  all_passed before [] w v replays leads h = subst (λ (z : World). AllPassed f (agreed f z)) (sym leads) h
  all_passed before (step ∷ steps) w v replays (u, next, leads) h =
      all_passed (before ++ step ∷ []) steps u v (one_more f (opening_world f) w u before step replays next) leads (step_passed before w u step replays next h)

  -- so it is in every run: before the first step the list has no entry
  pub run_passed : (steps : List Step) (w : World) → Replays f steps w → AllPassed f (agreed f w)
  run_passed steps w replays = all_passed [] steps (opening_world f) w refl replays (λ n x there. absurd (none n x there))
    where
      none_listed : (n : ℕ) → longest n (opening_world f) ≡ []
      none_listed zero = refl
      none_listed (suc n) = ap (λ (xs : List Message). longer_of xs (applied_at (opening_world f) n)) (none_listed n)

      none : (n : ℕ) (x : Message) → slice_get (agreed f (opening_world f)) n ≡ Some x → ⊥
      none n x there = let e : None ≡ Some x = ap (λ (l : List Message). slice_get l n) (sym (none_listed f.settings.nodes)) ∙ there in cc e

  -- ---- at an entry of the list

  pub fits_there : (steps : List Step) (w : World) → Replays f steps w → length (agreed f w) < 2 ^ 62 → (n : ℕ) (x : Message) → slice_get (agreed f w) n ≡ Some x
      → MayTakeAgain f.performs fitness.state fitness.args (copies_at (own f (agreed f w)) f.performs (agreed f w) n) x.action
  fits_there steps w replays few n x there = record {
    may = record {
      fits = record {
        shared = subst (λ (l : List Message). Fitting fitness.state fitness.args (kinds_at (copies_at single f.performs l n)) (copies_at single f.performs l n).objects (copies_at single f.performs l n).queue) h.list (calls.shared n);
        own = record {
          states = λ object kept is. let e : None ≡ Some kept = ap (λ (o : Objects). object_at o object) (sym none_own) ∙ is in absurd (cc e);
          calls = λ at call is. let e : None ≡ Some call = ap (λ (q : List Suspended). slice_get q at) (sym none_waits) ∙ is in absurd (cc e);
        };
      };
      blocked = record {
        shared = copies_blocked single f.performs (take n (agreed f w));
        own = subst (AllBlocked f.performs c.own) (sym none_waits) (All-nil (λ (call : Suspended). tried_in f.performs c.own call ≡ tried.Blocked));
      };
      applies = subst (λ (l : List Message). Applies fitness.args (copies_at single f.performs l n) x.action) h.list
          (calls.entries n x (ap (λ (l : List Message). slice_get l n) h.list ∙ there));
      room =
          let e = applied_all single f.performs opening_copies (take n (agreed f w)) in
          let long = length-take n (agreed f w) in
          omega (arith, e, long, few);
    };
    within = run_passed steps w replays n x there;
  }
    where
      single : Test
      single = singles_in f w

      c : Copied
      c = copies_at single f.performs (agreed f w) n

      h : HasCourse f single w
      h = let runs = laws.runs in runs.follows steps w replays single (λ o lt. refl)

      calls : Callable single f.performs f.computes fitness.state fitness.args h.course
      calls = let st = stands_for f single w h in callable f fitness.state fitness.args fitness.text fitness.reply laws.program single h.course st.came

      none_own : c.own ≡ []
      none_own = all_own single f.performs opening_copies (take n (agreed f w))

      none_waits : c.waits ≡ []
      none_waits = all_waits single f.performs opening_copies (take n (agreed f w))

  -- ---- by what a member knows

  get_taken : (k n : ℕ) (xs : List Message) → n < k → slice_get (take k xs) n ≡ slice_get xs n
  get_taken zero n xs lt = absurd (omega (arith, lt))
  get_taken (suc k) n [] lt = refl
  get_taken (suc k) zero (x ∷ xs) lt = refl
  get_taken (suc k) (suc n) (x ∷ xs) lt = get_taken k n xs (omega (arith, lt))

  pub apply_again : (steps : List Step) (w : World) → Replays f steps w → length (agreed f w) < 2 ^ 62 → (m : ℕ) → entries_of (w.nodes m) ≡ take (w.nodes m).copies.applied (agreed f w) → (entries : List Message)
      → entries ≡ take (length entries) (entries_of (w.nodes m)) → MayApplyAgain f fitness.state fitness.args (w.nodes m) entries
  apply_again steps w replays few m begin entries first n x there =
      subst (λ (c : Copied). MayTakeAgain f.performs fitness.state fitness.args c x.action) (sym same) (fits_there steps w replays few n x listed)
    where
      a : ℕ
      a = (w.nodes m).copies.applied

      list : List Message
      list = agreed f w

      known_by : List Message
      known_by = entries_of (w.nodes m)

      low : n < length entries
      low = slice_get_within entries n x there

      within_known : n < length known_by
      within_known =
          let e : length entries ≡ length (take (length entries) known_by) = ap (λ (l : List Message). length l) first in
          let long = length-take (length entries) known_by in
          omega (arith, e, long, low)

      within_applied : n < a
      within_applied =
          let e : length known_by ≡ length (take a list) = ap (λ (l : List Message). length l) begin in
          let long = length-take a list in
          let lt = within_known in
          omega (arith, e, long, lt)

      listed : slice_get list n ≡ Some x
      listed =
          sym (get_taken a n list within_applied) ∙ ap (λ (l : List Message). slice_get l n) (sym begin)
          ∙ sym (get_taken (length entries) n known_by low) ∙ ap (λ (l : List Message). slice_get l n) (sym first) ∙ there

      front : take n entries ≡ take n list
      front =
          ap (take n) first ∙ take-take n (length entries) known_by (omega (arith, low))
          ∙ ap (take n) begin ∙ take-take n a list (let lt = within_applied in omega (arith, lt))

      same : copies_at (singles_of f (known f (w.nodes m))) f.performs entries n ≡ copies_at (own f list) f.performs list n
      same = same_at f (own f known_by) entries list n (made f fitness laws steps w replays)
          (subst (Agrees f (own f known_by)) (sym first) (agrees_take f (own f known_by) known_by (length entries) (λ o lt. refl))) front

-- ---- the list of a replayed world

-- a run that is going has fewer steps than there may be
pub steps_few : {steps events most : ℕ} → events ≤ most → steps < events → steps ≤ most
steps_few le lt = omega (arith, le, lt)

pub list_small : (f : Frame) (w : World) → OneList f w → AreSmall w → length (agreed f w) < 2 ^ 62
list_small f w one small =
    let s : Member Message = (w.nodes one.some.0).member in
    let numbers = small.members one.some.0 in
    let few = numbers.entries in
    let e : length (agreed f w) ≡ length (take s.applied s.log) = ap (λ (l : List Message). length l) one.some.2 in
    let long = length-take s.applied s.log in
    omega (arith, e, long, few)

pub begins_list : (f : Frame) (w : World) → OneList f w → ((m : ℕ) → (w.nodes m).copies.applied ≤ length (w.nodes m).member.log) → ((r : Placed) → In r w.aside → r.place ≤ length (agreed f w))
    → (m : ℕ) → m < f.settings.nodes → entries_of (w.nodes m) ≡ take (w.nodes m).copies.applied (agreed f w)
begins_list f w one fit beside m low =
    let grows = list_grows f w w w [] (sym (append-nil (agreed f w))) refl refl one fit beside in
    grows.begin m low
