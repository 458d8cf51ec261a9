-- The entry that a member is about to apply is in the list, or joins it now.
use Rattle.std.proofs.Common.{◌≡◌, ◌≤◌, ◌<◌, ◌+◌, ℕ, zero, suc, ◌⊎◌, inl, inr, ⊎_elim, List, [], ◌∷◌, ◌++◌, Option, Some, None, refl, sym, ap, ◌∙◌, subst, arith, length, take, append-nil, length-append}
use Rattle.std.proofs.lemmas.Bool.{cases_lt}
use Rattle.std.proofs.lemmas.List.{take-append-le, take_all}
use Rattle.std.specs.Prelude.{slice_get}
use Rattle.value_core.specs.declared.action.Action.{Action}
use Rattle.value_core.specs.declared.action.Action.TheVariants as action
use Rattle.value_core.specs.declared.message.Message.{Message}
use Rattle.value_core.specs.History.{Process, forked}
use Rattle.value_core.specs.Meaning.{Performs}
use Rattle.object_manager.specs.After.{Copied, opening_copies}
use Rattle.book_law.specs.Passes.{Test, after, after_all}
use Rattle.book_law.specs.Course.{Came, Course, MayOrder, Next, forking, ordered}
use Rattle.book_law.specs.Course.Next.{Forks, Orders}
use Rattle.book_law.specs.Course.Came.{Then}
use Rattle.book_law.specs.Events.{In, Runner, newborn}
use Rattle.book_law.specs.Fitness.{ArgsFit, StateFits}
use Rattle.book_law.specs.Members.{copies_of}
use Rattle.book_law.proofs.Books.{copies_most, take_at}
use Rattle.book_law.proofs.Courses.{Sound, at_other, at_own, came_sound, fresh_of, pending}
use Rattle.book_law.proofs.Fits.{ReplyFits, TextFits}
use Rattle.book_law.proofs.Lists.{at_push}
use Rattle.book_law.proofs.Processes.{get_end, get_left, get_some}
use Rattle.world_rules.specs.Frame.{Frame}
use Rattle.world_rules.specs.Played.{Played}
use Rattle.world_rules.specs.Processes.{Begun, begun_by, first_process, home_in, member_named, processes_from, processes_in, with_entry}
use Rattle.world_rules.specs.Worlds.{World}
use Rattle.world_course.specs.Chain.{Leads}
use Rattle.world_course.specs.Chain.Leads.{Stays, By}
use Rattle.world_course.specs.Corresponds.{Agrees, IsAsked, Stands}
use Rattle.world_course.specs.Group.{IsAccepted, IsAgreed}
use Rattle.world_course.specs.Processes.{IsProcess, StandsHere, as_runner}
use Rattle.world_course.proofs.Begun.{from_append, in_take}
use Rattle.world_course.proofs.Changing.{asked_on}
use Rattle.world_course.proofs.Program.{Program, callable}

-- ---- lists

pub get_take : {A : Type 0} (xs : List A) (n i : ℕ) → i < n → slice_get (take n xs) i ≡ slice_get xs i
get_take xs zero i lt = absurd (omega (arith, lt))
get_take [] (suc n) i lt = refl
get_take (x ∷ xs) (suc n) zero lt = refl
get_take (x ∷ xs) (suc n) (suc i) lt = get_take xs n i (omega (arith, lt))

pub got_less : {A : Type 0} (xs : List A) (n : ℕ) (x : A) → slice_get xs n ≡ Some x → n < length xs
got_less [] n x is = absurd (cc is)
got_less (y ∷ xs) zero x is = omega arith
got_less (y ∷ xs) (suc n) x is = let lt = got_less xs n x is in omega (arith, lt)

-- ---- how many processes there are

born_length : (nodes parent place : ℕ) (a : Action) → length (begun_by nodes parent place a) ≡ length (forked a)
born_length nodes parent place (action.Fork text args place_on) = refl
born_length nodes parent place (action.Make kind object) = refl
born_length nodes parent place (action.Call kind op object args) = refl
born_length nodes parent place action.Ended = refl
born_length nodes parent place (action.Faulted fault) = refl

count_from : (f : Frame) (single : Test) (p : Performs) (c : Copied) (ps : List Begun) (n : ℕ) (xs : List Message) → length ps ≡ c.processes → length (processes_from f ps n xs) ≡ (after_all single p c xs).processes
count_from f single p c ps n [] e = e
count_from f single p c ps n (x ∷ xs) e =
    let born : List Begun = begun_by f.settings.nodes (home_in ps x.process.0) (suc n) x.action in
    let g : length (ps ++ born) ≡ length ps + length born = length-append ps born in
    let k : length born ≡ length (forked x.action) = born_length f.settings.nodes (home_in ps x.process.0) (suc n) x.action in
    count_from f single p (after single p c x) (with_entry f ps (suc n) x) (suc n) xs (g ∙ ap (λ (i : ℕ). i + length born) e ∙ ap (λ (i : ℕ). c.processes + i) k)

pub count_in : (f : Frame) (single : Test) (p : Performs) (list : List Message) → length (processes_in f list) ≡ (after_all single p opening_copies list).processes
count_in f single p list = count_from f single p opening_copies (first_process f ∷ []) 0 list refl

pub processes_push : (f : Frame) (list : List Message) (x : Message) → processes_in f (list ++ x ∷ []) ≡ with_entry f (processes_in f list) (suc (length list)) x
processes_push f list x =
    from_append f (first_process f ∷ []) 0 list (x ∷ []) ∙ ap (λ (k : ℕ). with_entry f (processes_in f list) (suc k) x) (let e : 0 + length list ≡ length list = omega arith in e)

-- a process of the course exists
pub runs_below : (f : Frame) (single : Test) (c : Course) (j : ℕ) (x : Runner) → Came single f.performs f.computes c → c.runners j ≡ Some x → j < length (processes_in f c.list)
runs_below f single c j x came is =
    let s = came_sound single f.performs f.computes c came in
    let k = s.kept in
    let u = k.stands j x is in
    let there = u.there in
    let most = copies_most single f.performs c.list x.place in
    let e = count_in f single f.performs c.list in
    omega (arith, there, most, e)

-- ---- the list grows

-- what there is once entry x joins the list: the same but for the process that it begins
record Grows (f : Frame) (single : Test) (c d : Course) (came : Came single f.performs f.computes c) (later : Came single f.performs f.computes d) (x : Message) : Type 0 where
  list : d.list ≡ c.list ++ x ∷ []
  aside : d.aside ≡ c.aside
  asked : d.asked ≡ c.asked
  applied : (m : ℕ) → d.applied m ≡ c.applied m
  copies : (m : ℕ) → copies_of single f.performs f.computes d later m ≡ copies_of single f.performs f.computes c came m
  others : (j : ℕ) → j < length (processes_in f c.list) → d.runners j ≡ c.runners j
  born : (b : Begun) → begun_by f.settings.nodes (home_in (processes_in f c.list) x.process.0) (suc (length c.list)) x.action ≡ b ∷ [] → d.runners (length (processes_in f c.list)) ≡ Some (as_runner b)

-- each action begins one process or none
pub one_born : (nodes parent place : ℕ) (a : Action) → (begun_by nodes parent place a ≡ []) ⊎ ((b : Begun) × (begun_by nodes parent place a ≡ b ∷ []) × (b.place ≡ place))
one_born nodes parent place (action.Fork text args place_on) = inr (record { text = text; args = args; home = member_named nodes parent place_on; place = place }, refl, refl)
one_born nodes parent place (action.Make kind object) = inl refl
one_born nodes parent place (action.Call kind op object args) = inl refl
one_born nodes parent place action.Ended = inl refl
one_born nodes parent place (action.Faulted fault) = inl refl

grown : (f : Frame) (single : Test) (w : World) (c d : Course) (x : Message) (h : Stands f single w c) (later : Came single f.performs f.computes d) → Grows f single c d h.came later x
    → Agrees f single (c.list ++ x ∷ []) → x.process.0 < length (processes_in f c.list) → ((m : ℕ) → (w.nodes m).copies.applied ≤ length c.list) → Stands f single w d
grown f single w c d x h later g agrees caller within = record {
  came = later;
  test = subst (Agrees f single) (sym g.list) agrees;
  beside = g.aside ∙ h.beside;
  asked = λ y is. asked_on single c d y g.asked (h.asked y is);
  callers = λ n y is. subst (λ (l : List Message). y.process.0 < length (processes_in f (take n l))) (sym g.list) (called n y (at_push c.list x n y (ap (λ (l : List Message). slice_get l n) (sym g.list) ∙ is)));
  members = λ k. let u = h.members k in record {
    applied = g.applied k ∙ u.applied;
    entries = u.entries ∙ sym (take-append-le (w.nodes k).copies.applied c.list (x ∷ []) (within k)) ∙ ap (take (w.nodes k).copies.applied) (sym g.list);
    copies = u.copies ∙ sym (g.copies k);
  };
  processes = λ j b is. process j b (ap (λ (l : List Message). slice_get (processes_in f l) j) (sym g.list) ∙ is);
  played = λ k j r is. let o = h.played k j r is in record {
    begun = o.begun;
    there = ap (λ (l : List Message). slice_get (processes_in f l) j) g.list ∙ ap (λ (ps : List Begun). slice_get ps j) (processes_push f c.list x)
        ∙ get_left (processes_in f c.list) born j o.begun o.there;
    home = o.home;
  };
}
  where
    born : List Begun
    born = begun_by f.settings.nodes (home_in (processes_in f c.list) x.process.0) (suc (length c.list)) x.action

    called : (n : ℕ) (y : Message) → (slice_get c.list n ≡ Some y) ⊎ ((n ≡ length c.list) × (x ≡ y)) → y.process.0 < length (processes_in f (take n (c.list ++ x ∷ [])))
    called n y (inl is) =
        let lt = got_less c.list n y is in
        subst (λ (l : List Message). y.process.0 < length (processes_in f l)) (sym (take-append-le n c.list (x ∷ []) (omega (arith, lt)))) (h.callers n y is)
    called n y (inr (e, same)) =
        subst (λ (l : List Message). y.process.0 < length (processes_in f l)) (sym (take-append-le n c.list (x ∷ []) (omega (arith, e)) ∙ take_all n c.list (omega (arith, e))))
        (subst (λ (z : Message). z.process.0 < length (processes_in f c.list)) same caller)

    old : (j : ℕ) (b : Begun) → slice_get (processes_in f c.list) j ≡ Some b → IsProcess f.computes j b (d.runners j) (w.nodes b.home)
    old j b is = let u = h.processes j b is in record {
      runner = u.runner;
      runs = g.others j (got_less (processes_in f c.list) j b is) ∙ u.runs;
      member = u.member;
      stands = u.stands;
    }

    -- nobody knows it yet
    unknown : (k j : ℕ) (o : Option Played) → (w.nodes k).played j ≡ o → j ≡ length (processes_in f c.list) → (w.nodes k).played j ≡ None
    unknown k j None is e = is
    unknown k j (Some r) is e = let z = h.played k j r is in let lt = got_less (processes_in f c.list) j z.begun z.there in absurd (omega (arith, lt, e))

    fresh : (j : ℕ) (a b : Begun) → born ≡ a ∷ [] → a.place ≡ suc (length c.list) → a ≡ b → j ≡ length (processes_in f c.list) → IsProcess f.computes j b (d.runners j) (w.nodes b.home)
    fresh j a b one place same e = subst (λ (z : Begun). IsProcess f.computes j z (d.runners j) (w.nodes z.home)) same (record {
      runner = as_runner a;
      runs = ap d.runners e ∙ g.born a one;
      member = refl;
      stands = subst (λ (o : Option Played). StandsHere f.computes j a (as_runner a) (w.nodes a.home).copies.applied o) (sym (unknown a.home j ((w.nodes a.home).played j) refl e))
          (let le = within a.home in omega (arith, le, place), refl);
    })

    process : (j : ℕ) (b : Begun) → slice_get (processes_in f (c.list ++ x ∷ [])) j ≡ Some b → IsProcess f.computes j b (d.runners j) (w.nodes b.home)
    process j b is = by_born (one_born f.settings.nodes (home_in (processes_in f c.list) x.process.0) (suc (length c.list)) x.action) (ap (λ (ps : List Begun). slice_get ps j) (sym (processes_push f c.list x)) ∙ is)
      where
        by_born : (born ≡ []) ⊎ ((a : Begun) × (born ≡ a ∷ []) × (a.place ≡ suc (length c.list))) → slice_get (processes_in f c.list ++ born) j ≡ Some b → IsProcess f.computes j b (d.runners j) (w.nodes b.home)
        by_born (inl none) at = old j b (ap (λ (ps : List Begun). slice_get ps j) (sym (append-nil (processes_in f c.list)) ∙ ap (λ (bs : List Begun). processes_in f c.list ++ bs) (sym none)) ∙ at)
        by_born (inr (a, one, place)) at = ⊎_elim (old j b) (λ u. fresh j a b one place u.1 u.0)
            (at_push (processes_in f c.list) a j b (ap (λ (bs : List Begun). slice_get (processes_in f c.list ++ bs) j) (sym one) ∙ at))

-- ---- what may be ordered

-- an action forks nothing, and begins nothing; or it forks a process, and begins it
data Forked (nodes parent place : ℕ) (a : Action) : Type 0 where
  Plain : forked a ≡ [] → begun_by nodes parent place a ≡ [] → Forked nodes parent place a
  Forking : (born : Process) (b : Begun) → forked a ≡ born ∷ [] → begun_by nodes parent place a ≡ b ∷ [] → as_runner b ≡ newborn b.home born.text born.args place → Forked nodes parent place a

forks : (nodes parent place : ℕ) (a : Action) → Forked nodes parent place a
forks nodes parent place (action.Fork text args place_on) =
    Forking (record { text = text; args = args; replies = [] }) (record { text = text; args = args; home = member_named nodes parent place_on; place = place }) refl refl refl
forks nodes parent place (action.Make kind object) = Plain refl refl
forks nodes parent place (action.Call kind op object args) = Plain refl refl
forks nodes parent place action.Ended = Plain refl refl
forks nodes parent place (action.Faulted fault) = Plain refl refl

-- the list with member m's next entry, at the same world
pub record Listed (f : Frame) (single : Test) (w : World) (c : Course) (m : ℕ) (x : Message) : Type 0 where
  pub course : Course
  pub leads : Leads single f.performs f.computes c course
  pub stands : Stands f single w course
  pub next : slice_get course.list (course.applied m) ≡ Some x
  pub long : (course.list ≡ c.list) ⊎ (length course.list ≤ suc ((w.nodes m).copies.applied))

-- a message that was submitted and isn't in the list is the next entry
joins_list : (f : Frame) (single : Test) (fits_state : StateFits) (fits_args : ArgsFit) (fits_text : TextFits) (fits_reply : ReplyFits) (w : World) (c : Course) (m : ℕ) (x : Message)
    → Program f fits_state fits_args fits_text fits_reply → (h : Stands f single w c) → IsAsked single c x → (In x c.list → ⊥) → Agrees f single (c.list ++ x ∷ []) → ((k : ℕ) → (w.nodes k).copies.applied ≤ length c.list)
    → (w.nodes m).copies.applied ≡ length c.list → Listed f single w c m x
joins_list f single fits_state fits_args fits_text fits_reply w c m x program h was new agrees within at = go (forks f.settings.nodes (home_in (processes_in f c.list) x.process.0) (suc (length c.list)) x.action)
  where
    sound : Sound single f.performs f.computes c
    sound = came_sound single f.performs f.computes c h.came

    may : MayOrder single c.owned x.action
    may = let u = callable f fits_state fits_args fits_text fits_reply program single c h.came in
        record { shared = was.shared; unmade = λ o makes i s is e. u.unmade x o was.among new makes i s is e }

    out : (r : Runner) × (c.runners x.process.0 ≡ Some r) × (r.message ≡ Some x)
    out = pending c.entered c.runners c.asked x sound.accounted was.among (fresh_of single f.performs f.computes c x sound may new)

    caller : x.process.0 < length (processes_in f c.list)
    caller = runs_below f single c x.process.0 out.0 h.came out.1

    applied_here : c.applied m ≡ length c.list
    applied_here = let u = h.members m in u.applied ∙ at

    found : slice_get (c.list ++ x ∷ []) (c.applied m) ≡ Some x
    found = ap (slice_get (c.list ++ x ∷ [])) applied_here ∙ get_end c.list x

    long : length (c.list ++ x ∷ []) ≤ suc ((w.nodes m).copies.applied)
    long = let e : length (c.list ++ x ∷ []) ≡ length c.list + 1 = length-append c.list (x ∷ []) in omega (arith, e, at)

    go : Forked f.settings.nodes (home_in (processes_in f c.list) x.process.0) (suc (length c.list)) x.action → Listed f single w c m x
    go (Plain plain none) =
        let d : Course = ordered single f.performs c x out.0.member in
        let step : Next single f.performs f.computes c d = Orders x out.0 out.1 was.among new may plain refl in
        let later : Came single f.performs f.computes d = Then c d h.came step in
        let grows : Grows f single c d h.came later x = record {
          list = refl;
          aside = refl;
          asked = refl;
          applied = λ k. refl;
          copies = λ k. refl;
          others = λ j lt. refl;
          born = λ b is. let e : [] ≡ b ∷ [] = sym none ∙ is in absurd (cc e);
        } in
        record { course = d; leads = By c d d step (Stays d); stands = grown f single w c d x h later grows agrees caller within; next = found; long = inr long }
    go (Forking born b forks_one begins same) =
        let d : Course = forking single f.performs c x born b.home in
        let step : Next single f.performs f.computes c d = Forks x born b.home was.among new forks_one refl in
        let later : Came single f.performs f.computes d = Then c d h.came step in
        let count : (after_all single f.performs opening_copies c.list).processes ≡ length (processes_in f c.list) = sym (count_in f single f.performs c.list) in
        let grows : Grows f single c d h.came later x = record {
          list = refl;
          aside = refl;
          asked = refl;
          applied = λ k. refl;
          copies = λ k. refl;
          others = λ j lt. at_other c.runners (after_all single f.performs opening_copies c.list).processes (Some (newborn b.home born.text born.args (suc (length c.list)))) j
              (λ e. absurd (omega (arith, lt, e, count)));
          born = λ a is.
              let same_one : b ∷ [] ≡ a ∷ [] = sym begins ∙ is in
              let e : b ≡ a = cc in
              ap d.runners (sym count) ∙ at_own c.runners (after_all single f.performs opening_copies c.list).processes (Some (newborn b.home born.text born.args (suc (length c.list))))
              ∙ ap (λ (z : Runner). Some z) (sym same) ∙ ap (λ (z : Begun). Some (as_runner z)) e;
        } in
        record { course = d; leads = By c d d step (Stays d); stands = grown f single w c d x h later grows agrees caller within; next = found; long = inr long }

-- ---- a member's next entry

pub within_list : (f : Frame) (single : Test) (w : World) (c : Course) → Stands f single w c → (k : ℕ) → (w.nodes k).copies.applied ≤ length c.list
within_list f single w c h k =
    let s = came_sound single f.performs f.computes c h.came in
    let kept = s.kept in
    let le = kept.within k in
    let u = h.members k in
    let e = u.applied in
    omega (arith, le, e)

-- an entry that some member applied before is the list's
pub is_listed : (f : Frame) (single : Test) (w : World) (c : Course) (m k : ℕ) (x : Message) → Stands f single w c → length c.list ≤ (w.nodes k).copies.applied → IsAgreed w → IsAccepted (w.nodes m) (w.nodes m).copies.applied x
    → (w.nodes m).copies.applied < length c.list → slice_get c.list (c.applied m) ≡ Some x
is_listed f single w c m k x h reached agreed here lt =
    let a : ℕ = (w.nodes m).copies.applied in
    let n : ℕ = (w.nodes k).copies.applied in
    let u = get_some c.list a lt in
    let less : a < n = omega (arith, lt, reached) in
    let mk = h.members k in
    let mm = h.members m in
    let there : slice_get (w.nodes k).member.log a ≡ Some u.0 =
    sym (get_take (w.nodes k).member.log n a less) ∙ ap (λ (l : List Message). slice_get l a) mk.entries ∙ get_take c.list n a less ∙ u.1 in
    let le = agreed.within k in
    let other : IsAccepted (w.nodes k) a u.0 = record { accepted = omega (arith, less, le); there = there } in
    let same = agreed.same m k a x u.0 here other in
    ap (slice_get c.list) mm.applied ∙ u.1 ∙ ap (λ (z : Message). Some z) (sym same)

pub listed : (f : Frame) (single : Test) (fits_state : StateFits) (fits_args : ArgsFit) (fits_text : TextFits) (fits_reply : ReplyFits) (w : World) (c : Course) (m : ℕ) (x : Message)
    → Program f fits_state fits_args fits_text fits_reply → Stands f single w c → ((k : ℕ) × (length c.list ≤ (w.nodes k).copies.applied)) → IsAgreed w
    → IsAccepted (w.nodes m) (w.nodes m).copies.applied x → Agrees f single (take (suc (w.nodes m).copies.applied) (w.nodes m).member.log) → Listed f single w c m x
listed f single fits_state fits_args fits_text fits_reply w c m x program h reached agreed here agrees = go (cases_lt a (length c.list))
  where
    a : ℕ
    a = (w.nodes m).copies.applied

    log : List Message
    log = (w.nodes m).member.log

    go : (a < length c.list) ⊎ (length c.list ≤ a) → Listed f single w c m x
    go (inl lt) = record { course = c; leads = Stays c; stands = h; next = is_listed f single w c m reached.0 x h reached.1 agreed here lt; long = inl refl }
    go (inr le) =
        let most = within_list f single w c h m in
        let at : a ≡ length c.list = omega (arith, le, most) in
        let u = h.members m in
        let whole : take a log ≡ c.list = u.entries ∙ take_all a c.list le in
        let longer : take (suc a) log ≡ c.list ++ x ∷ [] = take_at log a x here.there ∙ ap (λ (l : List Message). l ++ x ∷ []) whole in
        let new : In x c.list → ⊥ = λ is.
        let t = in_take x a log (subst (λ (l : List Message). In x l) (sym whole) is) in
        let lt = t.1 in
        let ok = here.accepted in
        let earlier : IsAccepted (w.nodes m) t.0 x = record { accepted = omega (arith, lt, ok); there = t.2 } in
        let e = agreed.once m t.0 a x earlier here in
        absurd (omega (arith, e, lt)) in
        joins_list f single fits_state fits_args fits_text fits_reply w c m x program h (h.asked x (agreed.submitted m a x here)) new (subst (Agrees f single) longer agrees) (within_list f single w c h) at
