-- Each single copy was made by the entry at its place, and each make of a single object has its copy.
use Rattle.std.proofs.Common.{◌≡◌, ◌⊎◌, inl, inr, ⊎_elim, ℕ, zero, suc, ◌==◌, Bool, true, false, Option, Some, List, [], ◌∷◌, ◌++◌, length, refl, sym, ap, ◌∙◌, subst, if◌then◌else◌}
use Rattle.std.specs.Prelude.{slice_get, slice_set, option_map}
use Rattle.std.proofs.lemmas.Bool.{cases_eq}
use Rattle.orca_base.specs.declared.ids.KindNo.{KindNo}
use Rattle.orca_base.specs.declared.ids.ObjectId.{ObjectId}
use Rattle.value_core.specs.Datum.{Data}
use Rattle.value_core.specs.declared.action.Line.{Line}
use Rattle.value_core.specs.declared.action.Action.{Action}
use Rattle.value_core.specs.declared.action.Action.TheVariants as action
use Rattle.value_core.specs.declared.meaning.Making.{Making}
use Rattle.value_core.specs.declared.meaning.Making.TheVariants as making
use Rattle.value_core.specs.declared.message.Message.{Message}
use Rattle.value_core.specs.Meaning.{Performs, Computes}
use Rattle.value_core.specs.History.{forked}
use Rattle.object_manager.specs.After.{opening_copies}
use Rattle.book_law.specs.Passes.{Test, after_all, lines_after}
use Rattle.book_law.specs.Singles.{Single, after_on, lines_on, single_of, singles_by}
use Rattle.book_law.specs.Book.{copies_at}
use Rattle.book_law.specs.Course.{Came, Course, Next, applying, hearing, reading, submitted, taking, with_at}
use Rattle.book_law.specs.Course.Next.{Submits, Orders, Forks, Applies, Reads_at, Takes_call, Hears_answer}
use Rattle.book_law.specs.Course.Came.{Opens, Then}
use Rattle.book_law.specs.Events.{Runner, answering, asking, handed, lines_by, newborn, told, took}
use Rattle.book_law.specs.Makers.{CopiesMade, HasCopy, IsMadeBy, MakesHaveCopies}
use Rattle.book_law.proofs.Lists.{at_push}
use Rattle.book_law.proofs.Processes.{get_end, get_left, set_other, set_same}
use Rattle.book_law.proofs.Entries.{no_number}
use Rattle.book_law.proofs.Taking.{set_cases}
use Rattle.book_law.proofs.Courses.{at_other, at_own, came_sound, one_of}
use Rattle.book_law.proofs.Owners.{kind_after}

-- ---- a process stays at its member

abbrev Stays : (ℕ → Option Runner) → (ℕ → Option Runner) → Type 0
Stays f g = (j : ℕ) (r : Runner) → f j ≡ Some r → (s : Runner) × (g j ≡ Some s) × (s.member ≡ r.member)

stays_at : (f : ℕ → Option Runner) (k : ℕ) (x y : Runner) → f k ≡ Some x → y.member ≡ x.member → Stays f (with_at f k (Some y))
stays_at f k x y here same j r there = ⊎_elim
    (λ (e : j ≡ k). (y, ap (with_at f k (Some y)) e ∙ at_own f k (Some y), same ∙ ap (λ (z : Runner). z.member) (one_of (f k) x r here (ap f (sym e) ∙ there))))
    (λ apart. (r, at_other f k (Some y) j apart ∙ there, refl))
    (cases_eq j k)

stays_by : (f : ℕ → Option Runner) (g : ℕ → Runner → Runner) → ((j : ℕ) (r : Runner) → (g j r).member ≡ r.member) → Stays f (λ j. option_map (g j) (f j))
stays_by f g same j r there = (g j r, ap (option_map (g j)) there, same j r)

took_stays : (place : ℕ) (lines : List Line) (x : Runner) → (took place lines x).member ≡ x.member
took_stays place [] x = refl
took_stays place (l ∷ lines) x = refl

handed_stays : (m place : ℕ) (lines : List Line) (j : ℕ) (x : Runner) → (handed m place lines j x).member ≡ x.member
handed_stays m place lines j x = go (x.member == m)
  where
    go : (b : Bool) → (if b then took place (lines_by j lines) x else x).member ≡ x.member
    go true = took_stays place (lines_by j lines) x
    go false = refl

answering_stays : (place : ℕ) (lines : List Line) (x : Runner) → (answering place lines x).member ≡ x.member
answering_stays place [] x = refl
answering_stays place (l ∷ lines) x = refl

-- ---- what was made stays so

carried : (list more : List Message) (f g : ℕ → Option Runner) (x z : Single) → ((n : ℕ) (y : Message) → slice_get list n ≡ Some y → slice_get more n ≡ Some y) → Stays f g
    → z.place ≡ x.place → z.object ≡ x.object → z.owner ≡ x.owner → z.kept.kind ≡ x.kept.kind → IsMadeBy list f x → IsMadeBy more g z
carried list more f g x z keeps stays place object owner kind h =
    let r = stays h.entry.process.0 h.runner h.process in
    record {
      before = h.before;
      entry = h.entry;
      runner = r.0;
      place = place ∙ h.place;
      there = keeps h.before h.entry h.there;
      makes = h.makes ∙ ap (λ (k : KindNo). action.Make k x.object) (sym kind) ∙ ap (action.Make z.kept.kind) (sym object);
      process = r.1;
      owner = r.2 ∙ h.owner ∙ sym owner;
    }

abbrev AllMade : List Message → (ℕ → Option Runner) → List Single → Type 0
AllMade list runners owned = (i : ℕ) (x : Single) → slice_get owned i ≡ Some x → IsMadeBy list runners x

all_carried : (list more : List Message) (f g : ℕ → Option Runner) (owned : List Single) → ((n : ℕ) (y : Message) → slice_get list n ≡ Some y → slice_get more n ≡ Some y) → Stays f g → AllMade list f owned → AllMade more g owned
all_carried list more f g owned keeps stays all i x is = carried list more f g x x keeps stays refl refl refl refl (all i x is)

pub at_split : {A : Type 0} (xs ys : List A) (i : ℕ) (z : A) → slice_get (xs ++ ys) i ≡ Some z → (slice_get xs i ≡ Some z) ⊎ ((k : ℕ) × (slice_get ys k ≡ Some z))
at_split [] ys i z is = inr (i, is)
at_split (x ∷ xs) ys zero z is = inl is
at_split (x ∷ xs) ys (suc i) z is = at_split xs ys i z is

-- what an entry adds
pub record Fresh (owner place : ℕ) (a : Action) (z : Single) : Type 0 where
  pub makes : a ≡ action.Make z.kept.kind z.object
  pub at : z.place ≡ place
  pub by : z.owner ≡ owner

fresh_of : (owner place : ℕ) (object : ObjectId) (kind : KindNo) (m : Making) (k : ℕ) (z : Single) → slice_get (single_of owner place object kind m) k ≡ Some z → Fresh owner place (action.Make kind object) z
fresh_of owner place object kind (making.Made state) zero z is =
    let made : Single = record { object = object; owner = owner; place = place; kept = record { kind = kind; state = state }; queue = [] } in
    let e : made ≡ z = cc in
    subst (λ (s : Single). Fresh owner place (action.Make kind object) s) e (record { makes = refl; at = refl; by = refl })
fresh_of owner place object kind (making.Made state) (suc k) z is = absurd (cc is)
fresh_of owner place object kind (making.Broke fault) k z is = absurd (cc is)

pub fresh_by : (single : Test) (p : Performs) (owner place : ℕ) (a : Action) (k : ℕ) (z : Single) → slice_get (singles_by single p owner place a) k ≡ Some z → Fresh owner place a z
fresh_by single p owner place (action.Make kind object) k z = go (single object)
  where
    go : (b : Bool) → slice_get (if b then single_of owner place object kind (p.made kind) else []) k ≡ Some z → Fresh owner place (action.Make kind object) z
    go true is = fresh_of owner place object kind (p.made kind) k z is
    go false is = absurd (cc is)
fresh_by single p owner place (action.Call kind op object args) k z = λ is. absurd (cc is)
fresh_by single p owner place (action.Fork text args place_on) k z = λ is. absurd (cc is)
fresh_by single p owner place action.Ended k z = λ is. absurd (cc is)
fresh_by single p owner place (action.Faulted fault) k z = λ is. absurd (cc is)

next_made : (single : Test) (p : Performs) (q : Computes) (w v : Course) → Next single p q w v → Came single p q w → AllMade w.list w.runners w.owned → AllMade v.list v.runners v.owned
next_made single p q w v (Submits j x m here free asks e) came all = subst (λ (u : Course). AllMade u.list u.runners u.owned) (sym e)
    (all_carried w.list w.list w.runners (submitted w j x m).runners w.owned (λ n y h. h) (stays_at w.runners j x (asking m x) here refl) all)
next_made single p q w v (Orders x r here was new may plain e) came all = subst (λ (u : Course). AllMade u.list u.runners u.owned) (sym e) (λ i z is. ⊎_elim
    (λ old. all_carried w.list (w.list ++ x ∷ []) w.runners w.runners w.owned (λ n y h. get_left w.list (x ∷ []) n y h) (λ j s h. (s, h, refl)) all i z old)
    (λ u. let f = fresh_by single p r.member (suc (length w.list)) x.action u.0 z u.1 in record {
      before = length w.list;
      entry = x;
      runner = r;
      place = f.at;
      there = get_end w.list x;
      makes = f.makes;
      process = here;
      owner = sym f.by;
    })
    (at_split w.owned (singles_by single p r.member (suc (length w.list)) x.action) i z is))
next_made single p q w v (Forks x born member was new forks e) came all =
    let number = (after_all single p opening_copies w.list).processes in
    let child = Some (newborn member born.text born.args (suc (length w.list))) in
    let s = came_sound single p q w came in
    subst (λ (u : Course). AllMade u.list u.runners u.owned) (sym e)
    (all_carried w.list (w.list ++ x ∷ []) w.runners (with_at w.runners number child) w.owned (λ n y h. get_left w.list (x ∷ []) n y h)
    (λ j r h. (r, at_other w.runners number child j (λ (f : j ≡ number). no_number single p q w.list w.aside w.owned w.entered w.applied w.runners r s.kept (ap w.runners (sym f) ∙ h)) ∙ h, refl)) all)
next_made single p q w v (Applies m y is e) came all = subst (λ (u : Course). AllMade u.list u.runners u.owned) (sym e)
    (all_carried w.list w.list w.runners (applying single p w m y).runners w.owned (λ n z h. h)
    (stays_by w.runners (λ j. handed m (suc (w.applied m)) (lines_after single p (copies_at single p w.list (w.applied m)) y) j) (λ j r. handed_stays m (suc (w.applied m)) (lines_after single p (copies_at single p w.list (w.applied m)) y) j r)) all)
next_made single p q w v (Reads_at j x n line here h e) came all = subst (λ (u : Course). AllMade u.list u.runners u.owned) (sym e)
    (all_carried w.list w.list w.runners (reading w j x n line).runners w.owned (λ k y is. is) (stays_at w.runners j x (told n line x) here refl) all)
next_made single p q w v (Takes_call i x r call t e) came all = subst (λ (u : Course). AllMade u.list u.runners u.owned) (sym e) (λ k z is. ⊎_elim
    (λ u. subst (λ (s : Single). IsMadeBy w.list (taking p w i x call).runners s) u.1
    (carried w.list w.list w.runners (taking p w i x call).runners x (after_on p x call) (λ n y h. h) stays refl refl refl (kind_after p x call) (all i x t.copy)))
    (λ u. carried w.list w.list w.runners (taking p w i x call).runners z z (λ n y h. h) stays refl refl refl refl (all k z u.1))
    (set_cases w.owned i k x (after_on p x call) z t.copy is))
  where
    stays : Stays w.runners (taking p w i x call).runners
    stays = stays_by w.runners (λ j. answering (w.applied x.owner) (lines_by j (lines_on p x call))) (λ j s. answering_stays (w.applied x.owner) (lines_by j (lines_on p x call)) s)
next_made single p q w v (Hears_answer j x r here has le e) came all = subst (λ (u : Course). AllMade u.list u.runners u.owned) (sym e)
    (all_carried w.list w.list w.runners (hearing w j x r).runners w.owned (λ n y h. h) (stays_at w.runners j x (told r.place r.line x) here refl) all)

pub copies_made : CopiesMade
copies_made single p q w (Opens member shared) = λ i x is. absurd (cc is)
copies_made single p q w (Then u v came next) = next_made single p q u v next came (copies_made single p q u came)

-- ---- each make has its copy

abbrev AllHave : Test → Performs → List Message → List Single → Type 0
AllHave single p list owned = (n : ℕ) (y : Message) (kind : KindNo) (object : ObjectId) (state : Data) → slice_get list n ≡ Some y → y.action ≡ action.Make kind object → single object ≡ true → p.made kind ≡ making.Made state → HasCopy owned n kind object

more_have : (owned new : List Single) (n : ℕ) (kind : KindNo) (object : ObjectId) → HasCopy owned n kind object → HasCopy (owned ++ new) n kind object
more_have owned new n kind object h = record { at = h.at; copy = h.copy; there = get_left owned new h.at h.copy h.there; object = h.object; kind = h.kind; place = h.place }

set_have : (owned : List Single) (i : ℕ) (x y : Single) (n : ℕ) (kind : KindNo) (object : ObjectId) → slice_get owned i ≡ Some x → y.object ≡ x.object → y.kept.kind ≡ x.kept.kind → y.place ≡ x.place → HasCopy owned n kind object → HasCopy (slice_set owned i y) n kind object
set_have owned i x y n kind object is same of_kind place h = ⊎_elim
    (λ (e : i ≡ h.at).
    let f : Some x ≡ Some h.copy = sym is ∙ ap (slice_get owned) e ∙ h.there in
    let g : x ≡ h.copy = cc in
    record {
      at = i;
      copy = y;
      there = set_same owned i x y is;
      object = same ∙ ap (λ (s : Single). s.object) g ∙ h.object;
      kind = of_kind ∙ ap (λ (s : Single). s.kept.kind) g ∙ h.kind;
      place = place ∙ ap (λ (s : Single). s.place) g ∙ h.place;
    })
    (λ apart. record { at = h.at; copy = h.copy; there = set_other owned i h.at y apart ∙ h.there; object = h.object; kind = h.kind; place = h.place })
    (cases_eq i h.at)

next_have : (single : Test) (p : Performs) (q : Computes) (w v : Course) → Next single p q w v → AllHave single p w.list w.owned → AllHave single p v.list v.owned
next_have single p q w v (Submits j x m here free asks e) all = subst (λ (u : Course). AllHave single p u.list u.owned) (sym e) all
next_have single p q w v (Orders x r here was new may plain e) all = subst (λ (u : Course). AllHave single p u.list u.owned) (sym e) (λ n y kind object state is makes shared made. ⊎_elim
    (λ old. more_have w.owned (singles_by single p r.member (suc (length w.list)) x.action) n kind object (all n y kind object state old makes shared made))
    (λ u.
    let z : Single = record { object = object; owner = r.member; place = suc (length w.list); kept = record { kind = kind; state = state }; queue = [] } in
    let adds : singles_by single p r.member (suc (length w.list)) x.action ≡ z ∷ [] =
    ap (singles_by single p r.member (suc (length w.list))) (ap (λ (m : Message). m.action) u.1 ∙ makes)
    ∙ ap (λ b. if b then single_of r.member (suc (length w.list)) object kind (p.made kind) else []) shared ∙ ap (single_of r.member (suc (length w.list)) object kind) made in
    record {
      at = length w.owned;
      copy = z;
      there = ap (λ (ss : List Single). slice_get (w.owned ++ ss) (length w.owned)) adds ∙ get_end w.owned z;
      object = refl;
      kind = refl;
      place = ap suc (sym u.0);
    })
    (at_push w.list x n y is))
next_have single p q w v (Forks x born member was new forks e) all = subst (λ (u : Course). AllHave single p u.list u.owned) (sym e) (λ n y kind object state is makes shared made. ⊎_elim
    (λ old. all n y kind object state old makes shared made)
    (λ u. let f : [] ≡ born ∷ [] = ap forked (sym makes) ∙ ap (λ (m : Message). forked m.action) (sym u.1) ∙ forks in absurd (cc f))
    (at_push w.list x n y is))
next_have single p q w v (Applies m y is e) all = subst (λ (u : Course). AllHave single p u.list u.owned) (sym e) all
next_have single p q w v (Reads_at j x n line here h e) all = subst (λ (u : Course). AllHave single p u.list u.owned) (sym e) all
next_have single p q w v (Takes_call i x r call t e) all = subst (λ (u : Course). AllHave single p u.list u.owned) (sym e)
    (λ n y kind object state is makes shared made. set_have w.owned i x (after_on p x call) n kind object t.copy refl (kind_after p x call) refl (all n y kind object state is makes shared made))
next_have single p q w v (Hears_answer j x r here has le e) all = subst (λ (u : Course). AllHave single p u.list u.owned) (sym e) all

pub makes_have_copies : MakesHaveCopies
makes_have_copies single p q w (Opens member shared) = λ n y kind object state is makes shared made. absurd (cc is)
makes_have_copies single p q w (Then u v came next) = next_have single p q u v next (makes_have_copies single p q u came)
