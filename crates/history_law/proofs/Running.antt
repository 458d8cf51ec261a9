-- A history is the book of a run: one more line is three events, its message submitted, ordered, and applied at member 0.
use Rattle.std.proofs.Common.{◌≡◌, ℕ, zero, suc, ◌+◌, ◌<◌, ◌≤◌, ◌⊎◌, inl, inr, ⊎_elim, Option, Some, None, List, [], ◌∷◌, ◌++◌, length, refl, sym, ap, ◌∙◌, arith, subst, append-nil, append_assoc}
use Rattle.std.specs.Prelude.{IsTrue, option_map, slice_get}
use Rattle.std.proofs.lemmas.Bool.{cases_eq, cases_lt}
use Rattle.std.proofs.lemmas.List.{length-append}
use Rattle.std.proofs.lemmas.Option.{slice_get_within}
use Rattle.value_core.specs.Performable.{is_performable}
use Rattle.value_core.specs.declared.action.Line.{Line}
use Rattle.value_core.specs.declared.action.Action.{Action}
use Rattle.value_core.specs.declared.action.Action.TheVariants as action
use Rattle.value_core.specs.declared.action.Reply.{Reply}
use Rattle.value_core.specs.declared.message.Message.{Message}
use Rattle.value_core.specs.Meaning.{Performs, Computes}
use Rattle.value_core.specs.History.{Configuration, IsStep, LegalFrom, Objects, Performed, Process, after_line, after_lines, forked, objects_after, opening, replies_in}
use Rattle.value_core.proofs.HistoryLemmas.{after_lines-push}
use Rattle.object_manager.specs.After.{Copied, opening_copies}
use Rattle.book_law.specs.Passes.{after, after_all, lines_after}
use Rattle.book_law.specs.declared.placing.Placed.{Placed}
use Rattle.book_law.specs.Book.{book, copies_at}
use Rattle.book_law.specs.Singles.{Single, singles_by}
use Rattle.book_law.specs.Course.{Came, Course, MayOrder, applying, forking, opening_course, ordered, submitted, with_at}
use Rattle.book_law.specs.Course.Next.{Applies, Forks, Orders, Submits}
use Rattle.book_law.specs.Course.Came.{Opens, Then}
use Rattle.book_law.specs.Events.{In, Runner, asking, handed, lines_by, newborn, took}
use Rattle.book_law.specs.Replicated.{all_replicated}
use Rattle.book_law.proofs.Books.{book_push, copies_all, copies_keep, copies_push}
use Rattle.book_law.proofs.Courses.{at_other, at_own}
use Rattle.book_law.proofs.Lists.{in_push, lines_by-other, lines_by-own}
use Rattle.book_law.proofs.Processes.{after_fork, after_length, after_other, after_own, get_end, get_some, with_reply}
use Rattle.history_law.specs.Runs.{HistoriesRun, IsRunOf}
use Rattle.history_law.proofs.Entries.{Does, does, message, performable}

-- the copies after the whole list
abbrev copies : Performs → List Message → Copied
copies p list = after_all all_replicated p opening_copies list

-- a process of a history, as it runs at member 0 without a message
abbrev resting : Process → ℕ → Runner
resting x place = record {
  member = 0;
  text = x.text;
  args = x.args;
  replies = x.replies;
  place = place;
  message = None;
  answer = None;
}

-- process j runs so, at a place that the list has
abbrev Rests : (ℕ → Option Runner) → ℕ → ℕ → Process → Type 0
Rests runners most j x = (place : ℕ) × (place ≤ most) × (runners j ≡ Some (resting x place))

-- the message is one that its process received the reply to
abbrev IsPast : List Process → Message → Type 0
IsPast processes m = (x : Process) × (slice_get processes m.process.0 ≡ Some x) × (m.call.0 < length x.replies)

-- the course is a run at rest whose book are these lines
record Follows (p : Performs) (q : Computes) (lines : List Line) (w : Course) : Type 0 where
  came : Came all_replicated p q w
  aside : w.aside ≡ []
  owned : w.owned ≡ []
  is_book : book all_replicated p w.list [] ≡ lines
  applied : w.applied 0 ≡ length w.list
  still : (copies p w.list).queue ≡ []
  objects : (copies p w.list).objects ≡ (after_lines p (opening q) lines).objects
  count : (copies p w.list).processes ≡ length (after_lines p (opening q) lines).processes
  rests : (j : ℕ) (x : Process) → slice_get (after_lines p (opening q) lines).processes j ≡ Some x → Rests w.runners (length w.list) j x
  only : (j : ℕ) (x : Runner) → w.runners j ≡ Some x → j < length (after_lines p (opening q) lines).processes
  past : (m : Message) → In m w.list → IsPast (after_lines p (opening q) lines).processes m

-- ---- small pieces

same_process : (o : Option Process) (x y : Process) → o ≡ Some x → o ≡ Some y → x ≡ y
same_process o x y e f = let g : Some x ≡ Some y = sym e ∙ f in cc

-- no object is single, so that an entry adds no copy
none_single : (p : Performs) (owner place : ℕ) (a : Action) → singles_by all_replicated p owner place a ≡ []
none_single p owner place (action.Make kind object) = refl
none_single p owner place (action.Call kind op object args) = refl
none_single p owner place (action.Fork text args place_on) = refl
none_single p owner place action.Ended = refl
none_single p owner place (action.Faulted fault) = refl

-- an action forks nothing, or one process that received nothing yet
forks_one : (a : Action) → (forked a ≡ []) ⊎ ((x : Process) × (forked a ≡ x ∷ []) × (x.replies ≡ []))
forks_one (action.Fork text args place_on) = inr (_, refl, refl)
forks_one (action.Make kind object) = inl refl
forks_one (action.Call kind op object args) = inl refl
forks_one action.Ended = inl refl
forks_one (action.Faulted fault) = inl refl

-- without single copies whatever is made wasn't
may_order : (owned : List Single) (a : Action) → owned ≡ [] → MayOrder all_replicated owned a
may_order owned a none = record {
  shared = λ o h. refl;
  unmade = λ o h i x there same. absurd (let e : None ≡ Some x = ap (λ (os : List Single). slice_get os i) (sym none) ∙ there in cc e);
}

-- what one line hands on: its reply to its process, and nothing to another
hands_own : (j place : ℕ) (l : Line) (x : Process) (m : Message) (at : ℕ) (lines : List Line) → lines ≡ l ∷ [] → l.process.0 ≡ j → handed 0 place lines j (asking m (resting x at)) ≡ resting (with_reply x l.reply) place
hands_own j place l x m at lines is own = ap (λ (ls : List Line). took place ls (asking m (resting x at))) (ap (lines_by j) is ∙ lines_by-own j l [] own)

hands_other : (j place : ℕ) (l : Line) (x : Process) (at : ℕ) (lines : List Line) → lines ≡ l ∷ [] → (l.process.0 ≡ j → ⊥) → handed 0 place lines j (resting x at) ≡ resting x at
hands_other j place l x at lines is apart = ap (λ (ls : List Line). took place ls (resting x at)) (ap (lines_by j) is ∙ lines_by-other j l [] apart)

some_mapped : (f : Runner → Runner) (o : Option Runner) (y : Runner) → option_map f o ≡ Some y → (x : Runner) × (o ≡ Some x)
some_mapped f None y e = absurd (cc e)
some_mapped f (Some x) y e = (x, refl)

-- ---- the processes once the line's message is in the list

record Listed (w : Course) (c : Configuration) (l : Line) (m : Message) (x : Process) (runners : ℕ → Option Runner) : Type 0 where
  own : (place : ℕ) × (runners l.process.0 ≡ Some (asking m (resting x place)))
  others : (k : ℕ) (z : Process) → (l.process.0 ≡ k → ⊥) → slice_get c.processes k ≡ Some z → Rests runners (length w.list) k z
  born : (z : Process) → forked l.action ≡ z ∷ [] → runners (length c.processes) ≡ Some (newborn 0 z.text z.args (suc (length w.list)))
  only : (k : ℕ) (r : Runner) → runners k ≡ Some r → k < length c.processes + length (forked l.action)

abbrev course_of : List Message → List Placed → List Single → List Message → (ℕ → ℕ) → (ℕ → Option Runner) → List Message → Course
course_of list aside owned entered applied runners asked = record {
  list = list;
  aside = aside;
  owned = owned;
  entered = entered;
  applied = applied;
  runners = runners;
  asked = asked;
}

-- ---- one line more

module _ (p : Performs) (q : Computes) (lines : List Line) (w : Course) (f : Follows p q lines w) (l : Line) (s : IsStep p q (after_lines p (opening q) lines) l) where
  abbrev before : Configuration
  before = after_lines p (opening q) lines

  abbrev ok : IsTrue (is_performable l.action)
  ok = performable p before.objects l.action l.guard l.reply s.performed

  abbrev m : Message
  m = message l.process l.call l.action ok

  abbrev its : Rests w.runners (length w.list) l.process.0 s.process
  its = f.rests l.process.0 s.process s.exists

  abbrev runner : Runner
  runner = resting s.process its.0

  fresh : In m w.list → ⊥
  fresh h =
      let past = f.past m h in
      let same = ap (λ (x : Process). length x.replies) (same_process (slice_get before.processes l.process.0) past.0 s.process past.1 s.exists) in
      let less = past.2 in
      absurd (omega (arith, less, same, s.call))

  effect : Does p (copies p w.list) m l
  effect = does p (copies p w.list) l.process l.call l.action ok l.guard l.reply f.still (subst (λ (os : Objects). Performed p os l.action l.guard l.reply) (sym f.objects) s.performed)

  there : l.process.0 < length before.processes
  there = slice_get_within before.processes l.process.0 s.process s.exists

  -- member 0 applies it
  applies : (aside : List Placed) (owned : List Single) (entered : List Message) (runners : ℕ → Option Runner) (asked : List Message) → Came all_replicated p q (course_of (w.list ++ m ∷ []) aside owned entered w.applied runners asked) → aside ≡ [] → owned ≡ []
      → Listed w before l m s.process runners → (v : Course) × Follows p q (lines ++ l ∷ []) v
  applies aside owned entered runners asked came no_aside no_owned listed = (
    last,
    record {
      came = Then had last came (Applies 0 m next refl);
      aside = no_aside;
      owned = no_owned;
      is_book = book_push all_replicated p w.list [] m (λ n lt. refl) ∙ ap (λ (ls : List Line). ls ++ lines_after all_replicated p (copies p w.list) m) f.is_book ∙ ap (λ (ls : List Line). lines ++ ls) effect.lines;
      applied = at_own w.applied 0 (suc (w.applied 0)) ∙ (let e = f.applied in omega (arith, e, long));
      still = ap (λ (c : Copied). c.queue) pushed ∙ effect.queue;
      objects = ap (λ (c : Copied). c.objects) pushed ∙ effect.objects ∙ ap (λ (os : Objects). objects_after p os l.action) f.objects ∙ ap (λ (c : Configuration). c.objects) (sym later);
      count = ap (λ (c : Copied). c.processes) pushed ∙ ap (λ (n : ℕ). n + length (forked l.action)) f.count ∙ sym (after_length p before l) ∙ ap (λ (c : Configuration). length c.processes) (sym later);
      rests = λ j x is. rests j x (ap (λ (c : Configuration). slice_get c.processes j) (sym later) ∙ is);
      only = λ j r is. subst (λ (c : Configuration). j < length c.processes) (sym later) (let first = some_mapped (handed 0 (suc (w.applied 0)) told j) (runners j) r is in let lt = listed.only j first.0 first.1 in let sum = after_length p before l in omega (arith, lt, sum));
      past = λ y h. subst (λ (c : Configuration). IsPast c.processes y) (sym later) (past y (in_push y m w.list h));
    },
  )
    where
      had : Course
      had = course_of (w.list ++ m ∷ []) aside owned entered w.applied runners asked

      last : Course
      last = applying all_replicated p had 0 m

      next : slice_get (w.list ++ m ∷ []) (w.applied 0) ≡ Some m
      next = ap (slice_get (w.list ++ m ∷ [])) f.applied ∙ get_end w.list m

      long : length (w.list ++ m ∷ []) ≡ length w.list + 1
      long = length-append w.list (m ∷ [])

      pushed : copies p (w.list ++ m ∷ []) ≡ after all_replicated p (copies p w.list) m
      pushed = copies_push all_replicated p w.list m

      later : after_lines p (opening q) (lines ++ l ∷ []) ≡ after_line p before l
      later = after_lines-push p (opening q) lines l

      told : List Line
      told = lines_after all_replicated p (copies_at all_replicated p (w.list ++ m ∷ []) (w.applied 0)) m

      is_told : told ≡ l ∷ []
      is_told =
          ap (λ (c : Copied). lines_after all_replicated p c m) (ap (copies_at all_replicated p (w.list ++ m ∷ [])) f.applied ∙ copies_keep all_replicated p w.list m (length w.list) (omega arith) ∙ copies_all all_replicated p w.list)
          ∙ effect.lines

      -- its process has the reply, another is as it was, and a new one begins
      own : (x : Process) → x ≡ with_reply s.process l.reply → Rests last.runners (length (w.list ++ m ∷ [])) l.process.0 x
      own x is = (
        suc (w.applied 0),
        (let e = f.applied in omega (arith, e, long)),
        ap (option_map (handed 0 (suc (w.applied 0)) told l.process.0)) listed.own.1
            ∙ ap (λ (r : Runner). Some r) (hands_own l.process.0 (suc (w.applied 0)) l s.process m listed.own.0 told is_told refl)
            ∙ ap (λ (y : Process). Some (resting y (suc (w.applied 0)))) (sym is),
      )

      other : (k : ℕ) (x : Process) → (l.process.0 ≡ k → ⊥) → slice_get before.processes k ≡ Some x → Rests last.runners (length (w.list ++ m ∷ [])) k x
      other k x apart is =
          let r = listed.others k x apart is in
          let le = r.1 in
          (r.0, omega (arith, le, long), ap (option_map (handed 0 (suc (w.applied 0)) told k)) r.2 ∙ ap (λ (y : Runner). Some y) (hands_other k (suc (w.applied 0)) l x r.0 told is_told apart))

      new : (x z : Process) → forked l.action ≡ z ∷ [] → z.replies ≡ [] → x ≡ z → Rests last.runners (length (w.list ++ m ∷ [])) (length before.processes) x
      new x z forks none is = (
        suc (length w.list),
        omega (arith, long),
        ap (option_map (handed 0 (suc (w.applied 0)) told (length before.processes))) (listed.born z forks ∙ ap (λ (rs : List Reply). Some (resting (record { text = z.text; args = z.args; replies = rs }) (suc (length w.list)))) (sym none))
            ∙ ap (λ (y : Runner). Some y) (hands_other (length before.processes) (suc (w.applied 0)) l z (suc (length w.list)) told is_told (λ (e : l.process.0 ≡ length before.processes). omega (arith, e, there)))
            ∙ ap (λ (y : Process). Some (resting y (suc (length w.list)))) (sym is),
      )

      rests : (j : ℕ) (x : Process) → slice_get (after_line p before l).processes j ≡ Some x → Rests last.runners (length (w.list ++ m ∷ [])) j x
      rests j x is = ⊎_elim
          (λ (lt : j < length before.processes).
          let old = get_some before.processes j lt in
          ⊎_elim
          (λ (e : l.process.0 ≡ j). subst (λ (k : ℕ). Rests last.runners (length (w.list ++ m ∷ [])) k x) e
          (own x (same_process (slice_get (after_line p before l).processes j) x (with_reply s.process l.reply) is (ap (slice_get (after_line p before l).processes) (sym e) ∙ after_own p before l s.process s.exists))))
          (λ apart. other j x apart (old.1 ∙ ap (λ (y : Process). Some y) (same_process (slice_get (after_line p before l).processes j) old.0 x (after_other p before l j old.0 apart old.1) is)))
          (cases_eq l.process.0 j))
          (λ (le : length before.processes ≤ j).
          let within = slice_get_within (after_line p before l).processes j x is in
          let sum = after_length p before l in
          ⊎_elim
          (λ (none : forked l.action ≡ []). absurd (let few = ap (λ (ps : List Process). length ps) none in omega (arith, le, within, sum, few)))
          (λ u.
          let few = ap (λ (ps : List Process). length ps) u.1 in
          let e : length before.processes ≡ j = omega (arith, le, within, sum, few) in
          subst (λ (k : ℕ). Rests last.runners (length (w.list ++ m ∷ [])) k x) e
          (new x u.0 u.1 u.2 (same_process (slice_get (after_line p before l).processes j) x u.0 is (ap (slice_get (after_line p before l).processes) (sym e) ∙ after_fork p before l u.0 u.1))))
          (forks_one l.action))
          (cases_lt j (length before.processes))

      old_past : (y : Message) → IsPast before.processes y → (l.process.0 ≡ y.process.0) ⊎ (l.process.0 ≡ y.process.0 → ⊥) → IsPast (after_line p before l).processes y
      old_past y h (inl e) =
          let same = ap (λ (x : Process). length x.replies) (same_process (slice_get before.processes y.process.0) h.0 s.process h.1 (ap (slice_get before.processes) (sym e) ∙ s.exists)) in
          let more = length-append s.process.replies (l.reply ∷ []) in
          let less = h.2 in
          (with_reply s.process l.reply, ap (slice_get (after_line p before l).processes) (sym e) ∙ after_own p before l s.process s.exists, omega (arith, same, more, less))
      old_past y h (inr apart) = (h.0, after_other p before l y.process.0 h.0 apart h.1, h.2)

      past : (y : Message) → In y w.list ⊎ (y ≡ m) → IsPast (after_line p before l).processes y
      past y (inl h) = old_past y (f.past y h) (cases_eq l.process.0 y.process.0)
      past y (inr e) =
          let more = length-append s.process.replies (l.reply ∷ []) in
          subst (λ (z : Message). IsPast (after_line p before l).processes z) (sym e)
          (with_reply s.process l.reply, after_own p before l s.process s.exists, (let c = s.call in omega (arith, c, more)))

  -- its process submits it
  abbrev asked : Course
  asked = submitted w l.process.0 runner m

  came_asked : Came all_replicated p q asked
  came_asked = Then w asked f.came (Submits l.process.0 runner m its.2 refl (record { process = refl; call = s.call; next = s.next }) refl)

  -- it is ordered
  plain : forked l.action ≡ [] → (v : Course) × Follows p q (lines ++ l ∷ []) v
  plain none = applies asked.aside (asked.owned ++ singles_by all_replicated p 0 (suc (length asked.list)) l.action) (asked.entered ++ m ∷ []) asked.runners asked.asked
      (Then asked (ordered all_replicated p asked m 0) came_asked
      (Orders m (asking m runner) (at_own w.runners l.process.0 (Some (asking m runner))) (inl refl) fresh (may_order w.owned l.action f.owned) none refl))
      f.aside
      (ap (λ (os : List Single). os ++ singles_by all_replicated p 0 (suc (length asked.list)) l.action) f.owned ∙ none_single p 0 (suc (length asked.list)) l.action)
      (record {
        own = (its.0, at_own w.runners l.process.0 (Some (asking m runner)));
        others = λ k z apart is. let r = f.rests k z is in (r.0, r.1, at_other w.runners l.process.0 (Some (asking m runner)) k (λ e. apart (sym e)) ∙ r.2);
        born = λ z forks. absurd (let e : [] ≡ z ∷ [] = sym none ∙ forks in cc e);
        only = λ k r is. ⊎_elim
            (λ (e : k ≡ l.process.0). omega (arith, e, there))
            (λ apart. let lt = f.only k r (sym (at_other w.runners l.process.0 (Some (asking m runner)) k apart) ∙ is) in omega (arith, lt)) (cases_eq k l.process.0);
      })

  forks : (born : Process) → forked l.action ≡ born ∷ [] → (v : Course) × Follows p q (lines ++ l ∷ []) v
  forks born is = applies asked.aside asked.owned (asked.entered ++ m ∷ []) (with_at asked.runners number child) asked.asked
      (Then asked (forking all_replicated p asked m born 0) came_asked (Forks m born 0 (inl refl) fresh is refl))
      f.aside f.owned
      (record {
        own = (its.0, at_other asked.runners number child l.process.0 (λ (e : l.process.0 ≡ number). let c = f.count in omega (arith, e, c, there)) ∙ at_own w.runners l.process.0 (Some (asking m runner)));
        others = λ k z apart there_z.
            let r = f.rests k z there_z in
            let lt = slice_get_within before.processes k z there_z in
            (r.0, r.1, at_other asked.runners number child k (λ (e : k ≡ number). let c = f.count in omega (arith, e, c, lt)) ∙ at_other w.runners l.process.0 (Some (asking m runner)) k (λ e. apart (sym e)) ∙ r.2);
        born = λ z forks_z.
            let e : born ∷ [] ≡ z ∷ [] = sym is ∙ forks_z in
            let g : born ≡ z = cc in
            ap (with_at asked.runners number child) (sym f.count) ∙ at_own asked.runners number child ∙ ap (λ (y : Process). Some (newborn 0 y.text y.args (suc (length w.list)))) g;
        only = λ k r here. ⊎_elim
            (λ (e : k ≡ number). let c = f.count in let one = ap (λ (ps : List Process). length ps) is in omega (arith, e, c, one))
            (λ apart. ⊎_elim
            (λ (e : k ≡ l.process.0). omega (arith, e, there))
            (λ far. let lt = f.only k r (sym (at_other w.runners l.process.0 (Some (asking m runner)) k far) ∙ sym (at_other asked.runners number child k apart) ∙ here) in omega (arith, lt)) (cases_eq k l.process.0))
            (cases_eq k number);
      })
    where
      number : ℕ
      number = (copies p w.list).processes

      child : Option Runner
      child = Some (newborn 0 born.text born.args (suc (length w.list)))

  one_more : (v : Course) × Follows p q (lines ++ l ∷ []) v
  one_more = ⊎_elim (λ none. plain none) (λ u. forks u.0 u.1) (forks_one l.action)

-- ---- all lines

opens : (p : Performs) (q : Computes) → Follows p q [] (opening_course q 0)
opens p q = record {
  came = Opens 0 refl;
  aside = refl;
  owned = refl;
  is_book = refl;
  applied = refl;
  still = refl;
  objects = refl;
  count = refl;
  rests = first;
  only = λ j x is. ⊎_elim (λ (e : j ≡ 0). omega (arith, e)) (λ apart. absurd (let e : None ≡ Some x = sym (at_other (λ (i : ℕ). None) 0 begun j apart) ∙ is in cc e)) (cases_eq j 0);
  past = λ m h. absurd h;
}
  where
    begun : Option Runner
    begun = (opening_course q 0).runners 0

    first : (j : ℕ) (x : Process) → slice_get (opening q).processes j ≡ Some x → Rests (opening_course q 0).runners 0 j x
    first zero x is = (0, omega arith, ap (λ (o : Option Process). option_map (λ (y : Process). resting y 0) o) is)
    first (suc j) x is = absurd (cc is)

run_from : (p : Performs) (q : Computes) (before lines : List Line) (w : Course) → Follows p q before w → LegalFrom p q (after_lines p (opening q) before) lines → (v : Course) × Follows p q (before ++ lines) v
run_from p q before [] w f legal = (w, subst (λ (ls : List Line). Follows p q ls w) (sym (append-nil before)) f)
run_from p q before (l ∷ lines) w f legal =
    let next = one_more p q before w f l legal.0 in
    let rest = run_from p q (before ++ l ∷ []) lines next.0 next.1 (subst (λ (c : Configuration). LegalFrom p q c lines) (sym (after_lines-push p (opening q) before l)) legal.1) in
    (rest.0, subst (λ (ls : List Line). Follows p q ls rest.0) (append_assoc before (l ∷ []) lines) rest.1)

is_run : (p : Performs) (q : Computes) (lines : List Line) (w : Course) → Follows p q lines w → IsRunOf p q lines
is_run p q lines w f = record {
  course = w;
  came = f.came;
  book = ap (book all_replicated p w.list) f.aside ∙ f.is_book;
  applied = f.applied;
  free = λ j x is.
      let y = get_some (after_lines p (opening q) lines).processes j (f.only j x is) in
      let r = f.rests j y.0 y.1 in
      let e : Some x ≡ Some (resting y.0 r.0) = sym is ∙ r.2 in
      let g : x ≡ resting y.0 r.0 = cc in
      let le = r.1 in
      let at = ap (λ (z : Runner). z.place) g in
      (ap (λ (z : Runner). z.member) g, ap (λ (z : Runner). z.message) g, omega (arith, at, le), ap (λ (z : Runner). z.replies) g ∙ ap replies_in (sym y.1));
}

pub histories_run : HistoriesRun
histories_run p q lines legal = let r = run_from p q [] lines (opening_course q 0) (opens p q) legal in is_run p q lines r.0 r.1
