-- What an event adds to the list of a run and to what was performed.
use Rattle.std.proofs.Common.{◌≡◌, ◌<◌, ◌≤◌, ◌+◌, ◌==◌, ◌⊎◌, inl, inr, ℕ, zero, suc, Bool, true, false, if◌then◌else◌, List, [], ◌∷◌, ◌++◌, length, length-append, take, append_assoc, Some, refl, sym, ap, ◌∙◌, subst, arith}
use Rattle.std.specs.Prelude.{slice_get}
use Rattle.std.proofs.lemmas.Bool.{cases_lt, eqb-true}
use Rattle.std.proofs.lemmas.List.{length-take, length-take-le, take-append-le, take_all}
use Rattle.std.proofs.lemmas.Option.{slice_get_within}
use Rattle.value_core.specs.declared.action.Line.{Line}
use Rattle.value_core.specs.declared.message.Message.{Message}
use Rattle.object_manager.specs.After.{Copied, acted, lines_after as lines_applied}
use Rattle.book_law.specs.Book.{aside_at, copies_at}
use Rattle.book_law.specs.Events.{In}
use Rattle.book_law.specs.Passes.{lines_after}
use Rattle.book_law.specs.declared.placing.Placed.{Placed}
use Rattle.group_rules.specs.Sets.{Begins}
use Rattle.net_rules.specs.declared.fate.Fate.{Fate}
use Rattle.net_rules.specs.declared.fate.Fate.TheVariants as fate
use Rattle.world_rules.specs.declared.event.Event as world
use Rattle.world_rules.specs.declared.event.Step.{Step}
use Rattle.world_rules.specs.declared.standing.Standing.TheVariants.{Going as IsGoing}
use Rattle.world_rules.specs.Frame.{Frame}
use Rattle.world_rules.specs.Mail.{Mail}
use Rattle.world_rules.specs.Nodes.{Node, entries_of}
use Rattle.world_rules.specs.Processes.{processes_in, singles_of}
use Rattle.world_rules.specs.Standings.{standing}
use Rattle.world_rules.specs.Steps.{AtWork, Known as Given, Leads, Next, Possible, Replays, after_step, happens, posts, posts_all}
use Rattle.world_rules.specs.Worlds.{World, agreed, applied_at, longer_of, longest, opening_world}
use Rattle.world_law.specs.Lists.{OneList}
use Rattle.world_law.proofs.Ages.{posted_nodes}
use Rattle.world_course.proofs.Applied.{same_passed}
use Rattle.world_course.proofs.Begun.{known_agrees, left_same}
use Rattle.world_calls.proofs.Each.{own}
use Rattle.run_law.specs.Growing.{ListGrows, PerformedGrows, lines_at}
use Rattle.run_law.proofs.Lines.{ListMakes, same_at}

-- ---- what stands at a place

pub aside_append : (n : ℕ) (one two : List Placed) → aside_at n (one ++ two) ≡ aside_at n one ++ aside_at n two
aside_append n [] two = refl
aside_append n (r ∷ one) two = go (r.place == n) (aside_append n one two)
  where
    go : (b : Bool) → aside_at n (one ++ two) ≡ aside_at n one ++ aside_at n two
        → (if b then r.line ∷ aside_at n (one ++ two) else aside_at n (one ++ two)) ≡ (if b then r.line ∷ aside_at n one else aside_at n one) ++ aside_at n two
    go true is = ap (λ (ls : List Line). r.line ∷ ls) is
    go false is = is

-- nothing has a place behind this one
none_behind : (n : ℕ) (aside : List Placed) → ((r : Placed) → In r aside → r.place < n) → aside_at n aside ≡ []
none_behind n [] low = refl
none_behind n (r ∷ rs) low = go (r.place == n) refl (none_behind n rs (λ a is. low a (inr is)))
  where
    go : (b : Bool) → (r.place == n) ≡ b → aside_at n rs ≡ [] → (if b then r.line ∷ aside_at n rs else aside_at n rs) ≡ []
    go true is none = let e : r.place ≡ n = eqb-true r.place n is in let lt = low r (inl refl) in absurd (omega (arith, e, lt))
    go false is none = none

-- ---- lines at a place of a longer list

-- by the list's own choices, whatever is put behind it
lines_keep : (f : Frame) (list more longer : List Message) → longer ≡ list ++ more → ListMakes f list → (n : ℕ) (x : Message) → slice_get list n ≡ Some x
    → lines_after (own f list) f.performs (copies_at (own f list) f.performs list n) x ≡ lines_after (own f longer) f.performs (copies_at (own f longer) f.performs longer n) x
lines_keep f list more longer is made n x there =
    ap (λ (b : Bool). if b then (acted f.performs c x).lines else lines_applied f.performs c x)
    (same_passed (own f list) (own f longer) x.action (λ o makes.
    let lt = made.makers n x o there makes in
    sym (known_agrees f (own f list) list n (λ j low. refl) o lt)
    ∙ ap (λ (l : List Message). singles_of f (processes_in f l) o) (sym begin)
    ∙ known_agrees f (own f longer) longer n (λ j low. refl) o (subst (λ (l : List Message). o.process < length (processes_in f l)) (sym begin) lt)))
    ∙ ap (λ (d : Copied). lines_after (own f longer) f.performs d x)
    (sym (same_at f (own f longer) longer list n made (λ j low. refl) begin))
  where
    c : Copied
    c = copies_at (own f list) f.performs list n

    begin : take n longer ≡ take n list
    begin = let lt = slice_get_within list n x there in ap (take n) is ∙ take-append-le n list more (omega (arith, lt))

-- ---- what was performed

pub performed_grows : (f : Frame) (w u : World) (more : List Message) → agreed f u ≡ agreed f w ++ more → ListMakes f (agreed f w)
    → ((r : Placed) → In r w.aside → r.place ≤ length (agreed f w)) → PerformedGrows f w u
performed_grows f w u more grew made beside performed extra h new = record {
  first = both 0 ∙ ap (λ (ls : List Line). ls ++ aside_at 0 extra) h.first ∙ ap (λ (ls : List Line). aside_at 0 w.aside ++ ls) (new.old 0 (omega arith)) ∙ sym (aside 0);
  entries = λ n x there. entry n x there (cases_lt n (length (agreed f w)));
  above = λ n lt. both n ∙ ap (λ (ls : List Line). ls ++ aside_at n extra) (h.above n (let le = longer in omega (arith, le, lt))) ∙ new.above n lt;
}
  where
    longer : length (agreed f w) ≤ length (agreed f u)
    longer = let e : length (agreed f u) ≡ length (agreed f w) + length more = ap (λ (l : List Message). length l) grew ∙ length-append (agreed f w) more in omega (arith, e)

    both : (n : ℕ) → aside_at n (performed ++ extra) ≡ aside_at n performed ++ aside_at n extra
    both n = aside_append n performed extra

    aside : (n : ℕ) → aside_at n u.aside ≡ aside_at n w.aside ++ aside_at n new.beside
    aside n = ap (aside_at n) new.grew ∙ aside_append n w.aside new.beside

    -- an entry that was there before
    earlier : (n : ℕ) (x : Message) → n < length (agreed f w) → slice_get (agreed f w) n ≡ Some x → aside_at (suc n) (performed ++ extra) ≡ lines_at f u n x ++ aside_at (suc n) u.aside
    earlier n x lt there =
        both (suc n)
        ∙ ap (λ (ls : List Line). ls ++ aside_at (suc n) extra) (h.entries n x there)
        ∙ ap (λ (ls : List Line). (lines_at f w n x ++ aside_at (suc n) w.aside) ++ ls) (new.old (suc n) (omega (arith, lt)))
        ∙ append_assoc (lines_at f w n x) (aside_at (suc n) w.aside) (aside_at (suc n) new.beside)
        ∙ ap (λ (ls : List Line). lines_at f w n x ++ ls) (sym (aside (suc n)))
        ∙ ap (λ (ls : List Line). ls ++ aside_at (suc n) u.aside) (lines_keep f (agreed f w) more (agreed f u) grew made n x there)

    -- one that is new
    later : (n : ℕ) (x : Message) → length (agreed f w) ≤ n → slice_get (agreed f u) n ≡ Some x → aside_at (suc n) (performed ++ extra) ≡ lines_at f u n x ++ aside_at (suc n) u.aside
    later n x le there =
        both (suc n)
        ∙ ap (λ (ls : List Line). ls ++ aside_at (suc n) extra) (h.above (suc n) (omega (arith, le)))
        ∙ new.entries n x le there
        ∙ ap (λ (ls : List Line). lines_at f u n x ++ ls)
        (sym (ap (λ (ls : List Line). ls ++ aside_at (suc n) new.beside) (none_behind (suc n) w.aside (λ r is. let low = beside r is in omega (arith, low, le)))) ∙ sym (aside (suc n)))

    entry : (n : ℕ) (x : Message) → slice_get (agreed f u) n ≡ Some x → (n < length (agreed f w)) ⊎ (length (agreed f w) ≤ n) → aside_at (suc n) (performed ++ extra) ≡ lines_at f u n x ++ aside_at (suc n) u.aside
    entry n x there (inl lt) =
        earlier n x lt (sym (left_same (agreed f w) more n lt) ∙ ap (λ (l : List Message). slice_get l n) (sym grew) ∙ there)
    entry n x there (inr le) = later n x le there

-- ---- the world that an event leaves, and the one after its step

-- fates for these letters
abbrev pub some_fates : List Mail → List Fate
some_fates [] = []
some_fates (mail ∷ mails) = fate.Pass ∷ some_fates mails

fates_many : (mails : List Mail) → length (some_fates mails) ≡ length mails
fates_many [] = refl
fates_many (mail ∷ mails) = ap suc (fates_many mails)

longest_same : (n : ℕ) (w v : World) → v.nodes ≡ w.nodes → longest n v ≡ longest n w
longest_same zero w v same = refl
longest_same (suc m) w v same =
    ap (λ (xs : List Message). longer_of xs (applied_at v m)) (longest_same m w v same)
    ∙ ap (λ (nodes : ℕ → Node). longer_of (longest m w) (take (nodes m).member.applied (nodes m).member.log)) same

-- with the same members the list is the same
pub agreed_same : (f : Frame) (w v : World) → v.nodes ≡ w.nodes → agreed f v ≡ agreed f w
agreed_same f w v same = longest_same f.settings.nodes w v same

pub posted_aside : (f : Frame) (mails : List Mail) (fates : List Fate) (w : World) → (posts_all f w mails fates).aside ≡ w.aside
posted_aside f [] fates w = refl
posted_aside f (mail ∷ mails) [] w = refl
posted_aside f (mail ∷ mails) (one ∷ fates) w = posted_aside f mails fates (posts f w mail one)

-- the event is a step, whatever the fates of its letters are
pub record IsStepped (f : Frame) (w : World) (u : World) : Type 0 where
  pub step : Step
  pub after : World
  pub next : Next f w step after
  pub nodes : after.nodes ≡ u.nodes
  pub aside : after.aside ≡ u.aside

-- its members are the event's
pub step_nodes : (f : Frame) (w v : World) (step : Step) → (next : Next f w step v) → v.nodes ≡ (happens f w step.event next.given).world.nodes
step_nodes f w v step next =
    let u : AtWork = happens f w step.event next.given in
    ap (λ (z : World). z.nodes) next.after ∙ posted_nodes f u.mails step.fates u.world

pub stepped_by : (f : Frame) (w v : World) (step : Step) → (next : Next f w step v) → IsStepped f w (happens f w step.event next.given).world
stepped_by f w v step next =
    let u : AtWork = happens f w step.event next.given in
    record {
      step = step;
      after = v;
      next = next;
      nodes = step_nodes f w v step next;
      aside = ap (λ (z : World). z.aside) next.after ∙ posted_aside f u.mails step.fates u.world;
    }

pub stepped : (f : Frame) (w : World) (e : world.Event) (given : Given e) → standing f w ≡ IsGoing → Possible f w e given → IsStepped f w (happens f w e given).world
stepped f w e given going possible = record {
  step = step;
  after = after_step f w step given;
  next = record { given = given; going = going; possible = possible; fates = fates_many u.mails; after = refl };
  nodes = posted_nodes f u.mails step.fates u.world;
  aside = posted_aside f u.mails step.fates u.world;
}
  where
    u : AtWork
    u = happens f w e given

    step : Step
    step = record { event = e; fates = some_fates u.mails }

pub one_more : (f : Frame) (w u v : World) (steps : List Step) (step : Step) → Leads f w steps u → Next f u step v → Leads f w (steps ++ step ∷ []) v
one_more f w u v [] step leads next = (v, subst (λ (z : World). Next f z step v) leads next, refl)
one_more f w u v (one ∷ steps) step (t, first, rest) next = (t, first, one_more f t u v steps step rest next)

pub replays_on : (f : Frame) (steps : List Step) (w u : World) → Replays f steps w → (s : IsStepped f w u) → Replays f (steps ++ s.step ∷ []) s.after
replays_on f steps w u replays s = one_more f (opening_world f) w s.after steps s.step replays s.next

-- ---- the list

taken : {A : Type 0} (xs ys : List A) → Begins xs ys → xs ≡ take (length xs) ys
taken xs ys b = sym (take_all (length xs) xs (omega arith)) ∙ b.is

few_of : {A : Type 0} (n : ℕ) (xs ys : List A) → length xs ≡ n → xs ≡ take n ys → n ≤ length ys
few_of n xs ys many is =
    let e : length xs ≡ length (take n ys) = ap (λ (z : List _). length z) is in
    let f = length-take n ys in
    omega (arith, many, e, f)

-- what is so of the list of a world whose members have what their copies applied
list_of : (f : Frame) (w v : World) (more : List Message) → agreed f v ≡ agreed f w ++ more → OneList f v → ((m : ℕ) → (v.nodes m).copies.applied ≤ length (v.nodes m).member.log)
    → ((r : Placed) → In r v.aside → r.place ≤ length (agreed f v)) → ListGrows f w v
list_of f w v more grew one fits beside = record {
  more = more;
  grew = grew;
  begin = begin;
  within = λ m low. few_of (v.nodes m).copies.applied (entries_of (v.nodes m)) (agreed f v) (many m) (begin m low);
  some = (one.some.0, one.some.1, sym (many one.some.0) ∙ ap (λ (l : List Message). length l) (one.copies one.some.0 one.some.1 ∙ sym one.some.2));
  beside = beside;
}
  where
    many : (m : ℕ) → length (entries_of (v.nodes m)) ≡ (v.nodes m).copies.applied
    many m = length-take-le (v.nodes m).copies.applied (v.nodes m).member.log (fits m)

    begin : (m : ℕ) → m < f.settings.nodes → entries_of (v.nodes m) ≡ take (v.nodes m).copies.applied (agreed f v)
    begin m low =
        let same = one.copies m low in
        same ∙ taken (applied_at v m) (agreed f v) (one.begin m low)
        ∙ ap (λ (n : ℕ). take n (agreed f v)) (ap (λ (l : List Message). length l) (sym same) ∙ many m)

-- with the same members and the same beside the list
list_same : (f : Frame) (w v u : World) → v.nodes ≡ u.nodes → v.aside ≡ u.aside → ListGrows f w v → ListGrows f w u
list_same f w v u nodes aside h = record {
  more = h.more;
  grew = sym list ∙ h.grew;
  begin = λ m low.
      subst (λ (l : List Message). entries_of (u.nodes m) ≡ take (u.nodes m).copies.applied l) list
      (subst (λ (ns : ℕ → Node). entries_of (ns m) ≡ take (ns m).copies.applied (agreed f v)) nodes (h.begin m low));
  within = λ m low.
      subst (λ (l : List Message). (u.nodes m).copies.applied ≤ length l) list
      (subst (λ (ns : ℕ → Node). (ns m).copies.applied ≤ length (agreed f v)) nodes (h.within m low));
  some = (
    h.some.0,
    h.some.1,
    subst (λ (l : List Message). (u.nodes h.some.0).copies.applied ≡ length l) list
        (subst (λ (ns : ℕ → Node). (ns h.some.0).copies.applied ≡ length (agreed f v)) nodes h.some.2),
  );
  beside = λ r is. subst (λ (l : List Message). r.place ≤ length l) list (h.beside r (subst (λ (rs : List Placed). In r rs) (sym aside) is));
}
  where
    list : agreed f v ≡ agreed f u
    list = agreed_same f u v nodes

pub list_grows : (f : Frame) (w u v : World) (more : List Message) → agreed f v ≡ agreed f w ++ more → v.nodes ≡ u.nodes → v.aside ≡ u.aside → OneList f v
    → ((m : ℕ) → (v.nodes m).copies.applied ≤ length (v.nodes m).member.log) → ((r : Placed) → In r v.aside → r.place ≤ length (agreed f v)) → ListGrows f w u
list_grows f w u v more grew nodes aside one fits beside = list_same f w v u nodes aside (list_of f w v more grew one fits beside)
