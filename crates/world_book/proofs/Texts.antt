-- Each process of a course has the text and the arguments that its fork gave it.
use Rattle.std.proofs.Common.{◌≡◌, ◌≤◌, ◌+◌, ◌==◌, if◌then◌else◌, ℕ, zero, suc, ⊎_elim, Bool, true, false, List, [], ◌∷◌, ◌++◌, length, Option, Some, None, refl, sym, ap, ◌∙◌, arith, subst, append-nil}
use Rattle.std.proofs.lemmas.Bool.{cases_eq}
use Rattle.std.specs.Prelude.{option_map, slice_get}
use Rattle.value_core.specs.Datum as datum
use Rattle.value_core.specs.History.{Process, forked}
use Rattle.value_core.specs.declared.action.Action.{Action}
use Rattle.value_core.specs.declared.action.Action.TheVariants as action
use Rattle.value_core.specs.declared.action.Line.{Line}
use Rattle.value_core.specs.declared.message.Message.{Message}
use Rattle.object_manager.specs.After.{opening_copies}
use Rattle.book_law.specs.Book.{copies_at}
use Rattle.book_law.specs.Course.{Came, Course, Next, with_at}
use Rattle.book_law.specs.Course.Next.{Submits, Orders, Forks, Applies, Reads_at, Takes_call, Hears_answer}
use Rattle.book_law.specs.Course.Came.{Opens, Then}
use Rattle.book_law.specs.Events.{Runner, answering, asking, handed, lines_by, newborn, told, took}
use Rattle.book_law.specs.Passes.{Test, after_all, lines_after}
use Rattle.book_law.specs.Singles.{lines_on}
use Rattle.book_law.proofs.Courses.{at_other, at_own}
use Rattle.book_law.proofs.Hearing.{mapped}
use Rattle.book_law.proofs.Lists.{at_push}
use Rattle.world_rules.specs.Frame.{Frame}
use Rattle.world_rules.specs.Processes.{Begun, begun_by, first_process, home_in, member_named, processes_from, processes_in, with_entry}
use Rattle.world_course.proofs.Listing.{count_in, got_less, one_born, processes_push}

abbrev pub HasText : Begun → Runner → Type 0
HasText b x = (x.text ≡ b.text) × (x.args ≡ b.args)

abbrev pub AllHaveTexts : List Begun → (ℕ → Option Runner) → Type 0
AllHaveTexts begun runners = (j : ℕ) (b : Begun) (x : Runner) → slice_get begun j ≡ Some b → runners j ≡ Some x → HasText b x

set_texts : (begun : List Begun) (f : ℕ → Option Runner) (k : ℕ) (v : Runner) → ((b : Begun) → slice_get begun k ≡ Some b → HasText b v) → AllHaveTexts begun f → AllHaveTexts begun (with_at f k (Some v))
set_texts begun f k v own all j b x there here = ⊎_elim
    (λ (e : j ≡ k).
    let g : Some v ≡ Some x = sym (at_own f k (Some v)) ∙ ap (with_at f k (Some v)) (sym e) ∙ here in
    let h : v ≡ x = cc in
    subst (HasText b) h (own b (ap (slice_get begun) (sym e) ∙ there)))
    (λ apart. all j b x there (sym (at_other f k (Some v) j apart) ∙ here))
    (cases_eq j k)

abbrev SameText : Runner → Runner → Type 0
SameText x y = (y.text ≡ x.text) × (y.args ≡ x.args)

map_texts : (begun : List Begun) (f : ℕ → Option Runner) (g : ℕ → Runner → Runner) → ((j : ℕ) (x : Runner) → SameText x (g j x)) → AllHaveTexts begun f → AllHaveTexts begun (λ j. option_map (g j) (f j))
map_texts begun f g same all j b x there here =
    let u = mapped (g j) (f j) x here in
    let t = all j b u.0 there u.1 in
    let s = same j u.0 in
    subst (HasText b) (sym u.2) (s.0 ∙ t.0, s.1 ∙ t.1)

took_text : (place : ℕ) (lines : List Line) (x : Runner) → SameText x (took place lines x)
took_text place [] x = (refl, refl)
took_text place (l ∷ lines) x = (refl, refl)

handed_text : (n place : ℕ) (lines : List Line) (j : ℕ) (x : Runner) → SameText x (handed n place lines j x)
handed_text n place lines j x = go (x.member == n)
  where
    go : (b : Bool) → SameText x (if b then took place (lines_by j lines) x else x)
    go true = took_text place (lines_by j lines) x
    go false = (refl, refl)

answering_text : (place : ℕ) (lines : List Line) (x : Runner) → SameText x (answering place lines x)
answering_text place [] x = (refl, refl)
answering_text place (l ∷ lines) x = (refl, refl)

-- ---- the list grows

none_born : (nodes parent place : ℕ) (a : Action) → forked a ≡ [] → begun_by nodes parent place a ≡ []
none_born nodes parent place (action.Fork text args place_on) none = absurd (cc none)
none_born nodes parent place (action.Make kind object) none = refl
none_born nodes parent place (action.Call kind op object args) none = refl
none_born nodes parent place action.Ended none = refl
none_born nodes parent place (action.Faulted fault) none = refl

-- who is begun has the text and arguments of who is forked
pub record Born (nodes parent place : ℕ) (a : Action) (born : Process) : Type 0 where
  pub begun : Begun
  pub is : begun_by nodes parent place a ≡ begun ∷ []
  pub text : born.text ≡ begun.text
  pub args : born.args ≡ begun.args

fork_born : (nodes parent place : ℕ) (a : Action) (born : Process) → forked a ≡ born ∷ [] → Born nodes parent place a born
fork_born nodes parent place (action.Fork text args place_on) born is =
    let made : Process = record { text = text; args = args; replies = [] } in
    let e : made ≡ born = cc in
    record {
      begun = record { text = text; args = args; home = member_named nodes parent place_on; place = place };
      is = refl;
      text = ap (λ (z : Process). z.text) (sym e);
      args = ap (λ (z : Process). z.args) (sym e);
    }
fork_born nodes parent place (action.Make kind object) born is = absurd (cc is)
fork_born nodes parent place (action.Call kind op object args) born is = absurd (cc is)
fork_born nodes parent place action.Ended born is = absurd (cc is)
fork_born nodes parent place (action.Faulted fault) born is = absurd (cc is)

abbrev Texts : Frame → Course → Type 0
Texts f c = AllHaveTexts (processes_in f c.list) c.runners

next_texts : (f : Frame) (single : Test) (w v : Course) → Next single f.performs f.computes w v → Texts f w → Texts f v
next_texts f single w v (Submits j x m here free asks e) all =
    subst (Texts f) (sym e) (set_texts (processes_in f w.list) w.runners j (asking m x) (λ b there. all j b x there here) all)
next_texts f single w v (Orders x r here was new may plain e) all =
    let ps : List Begun = processes_in f w.list in
    let none = none_born f.settings.nodes (home_in ps x.process.0) (suc (length w.list)) x.action plain in
    let same : processes_in f (w.list ++ x ∷ []) ≡ ps = processes_push f w.list x ∙ ap (λ (bs : List Begun). ps ++ bs) none ∙ append-nil ps in
    subst (Texts f) (sym e) (subst (λ (bs : List Begun). AllHaveTexts bs w.runners) (sym same) all)
next_texts f single w v (Forks x born member was new forks e) all = subst (Texts f) (sym e) (λ j b y there here.
    let at : slice_get (ps ++ one.begun ∷ []) j ≡ Some b = ap (λ (bs : List Begun). slice_get bs j) (sym (processes_push f w.list x ∙ ap (λ (bs : List Begun). ps ++ bs) one.is)) ∙ there in
    ⊎_elim
    (λ (old : slice_get ps j ≡ Some b).
    let less = got_less ps j b old in
    all j b y old (sym (at_other w.runners number (Some child) j (λ (same : j ≡ number). omega (arith, less, same, many))) ∙ here))
    (λ u.
    let where_it_is : j ≡ number = u.0 ∙ many in
    let g : Some child ≡ Some y = sym (at_own w.runners number (Some child)) ∙ ap (with_at w.runners number (Some child)) (sym where_it_is) ∙ here in
    let h : child ≡ y = cc in
    subst (λ (z : Begun). HasText z y) u.1 (subst (HasText one.begun) h (one.text, one.args)))
    (at_push ps one.begun j b at))
  where
    ps : List Begun
    ps = processes_in f w.list

    number : ℕ
    number = (after_all single f.performs opening_copies w.list).processes

    many : length ps ≡ number
    many = count_in f single f.performs w.list

    child : Runner
    child = newborn member born.text born.args (suc (length w.list))

    one : Born f.settings.nodes (home_in ps x.process.0) (suc (length w.list)) x.action born
    one = fork_born f.settings.nodes (home_in ps x.process.0) (suc (length w.list)) x.action born forks
next_texts f single w v (Applies m y is e) all =
    let lines : List Line = lines_after single f.performs (copies_at single f.performs w.list (w.applied m)) y in
    subst (Texts f) (sym e) (map_texts (processes_in f w.list) w.runners (λ j. handed m (suc (w.applied m)) lines j) (λ j x. handed_text m (suc (w.applied m)) lines j x) all)
next_texts f single w v (Reads_at j x n line here h e) all =
    subst (Texts f) (sym e) (set_texts (processes_in f w.list) w.runners j (told n line x) (λ b there. all j b x there here) all)
next_texts f single w v (Takes_call i x r call t e) all =
    let lines : List Line = lines_on f.performs x call in
    subst (Texts f) (sym e) (map_texts (processes_in f w.list) w.runners (λ j. answering (w.applied x.owner) (lines_by j lines)) (λ j y. answering_text (w.applied x.owner) (lines_by j lines) y) all)
next_texts f single w v (Hears_answer j x r here has le e) all =
    subst (Texts f) (sym e) (set_texts (processes_in f w.list) w.runners j (told r.place r.line x) (λ b there. all j b x there here) all)

pub texts_stand : (f : Frame) (single : Test) (c : Course) → Came single f.performs f.computes c → AllHaveTexts (processes_in f c.list) c.runners
texts_stand f single c (Opens member shared) =
    let main : Runner = newborn member f.computes.main datum.none 0 in
    set_texts (first_process f ∷ []) (λ j. None) 0 main
    (λ b is. let e : first_process f ≡ b = cc in subst (λ (z : Begun). HasText z main) e (refl, refl))
    (λ j b x there here. absurd (cc here))
texts_stand f single c (Then w v came next) = next_texts f single w c next (texts_stand f single w came)

-- ---- places

abbrev UpTo : List Begun → ℕ → Type 0
UpTo ps n = (j : ℕ) (b : Begun) → slice_get ps j ≡ Some b → b.place ≤ n

up_to_next : (f : Frame) (ps : List Begun) (n : ℕ) (x : Message) → UpTo ps n → UpTo (with_entry f ps (suc n) x) (suc n)
up_to_next f ps n x up j b is = ⊎_elim
    (λ none.
    let le = up j b (ap (λ (bs : List Begun). slice_get bs j) (sym (append-nil ps) ∙ ap (λ (bs : List Begun). ps ++ bs) (sym none)) ∙ is) in
    omega (arith, le))
    (λ a. ⊎_elim
    (λ (old : slice_get ps j ≡ Some b). let le = up j b old in omega (arith, le))
    (λ u. let e : a.0.place ≡ b.place = ap (λ (z : Begun). z.place) u.1 in let place = a.2 in omega (arith, e, place))
    (at_push ps a.0 j b (ap (λ (bs : List Begun). slice_get (ps ++ bs) j) (sym a.1) ∙ is)))
    (one_born f.settings.nodes (home_in ps x.process.0) (suc n) x.action)

up_to_from : (f : Frame) (ps : List Begun) (n : ℕ) (xs : List Message) → UpTo ps n → UpTo (processes_from f ps n xs) (n + length xs)
up_to_from f ps n [] up j b is = let le = up j b is in omega (arith, le)
up_to_from f ps n (x ∷ xs) up j b is = let le = up_to_from f (with_entry f ps (suc n) x) (suc n) xs (up_to_next f ps n x up) j b is in omega (arith, le)

-- a process that entries begin has a place among theirs
pub within_places : (f : Frame) (list : List Message) (j : ℕ) (b : Begun) → slice_get (processes_in f list) j ≡ Some b → b.place ≤ length list
within_places f list j b is = let le = up_to_from f (first_process f ∷ []) 0 list first j b is in omega (arith, le)
  where
    first : UpTo (first_process f ∷ []) 0
    first zero a here = let e : first_process f ≡ a = cc in let g : 0 ≡ a.place = ap (λ (z : Begun). z.place) e in omega (arith, g)
    first (suc k) a here = absurd (cc here)
