-- Suspended calls are blocked, so whoever waits at the end of a run is stuck.
use Rattle.std.proofs.Common.{◌≡◌, inl, inr, ⊎_elim, ℕ, zero, suc, Bool, true, false, Some, List, [], ◌∷◌, ◌++◌, length, refl, sym, ap, ◌∙◌, subst, if◌then◌else◌}
use Rattle.std.specs.Prelude.{slice_get, slice_set}
use Rattle.orca_base.specs.declared.ids.KindNo.{KindNo}
use Rattle.orca_base.specs.declared.ids.ProcessNo.{ProcessNo}
use Rattle.orca_base.specs.declared.ids.ObjectId.{ObjectId}
use Rattle.value_core.specs.declared.message.Message.{Message}
use Rattle.value_core.specs.declared.action.Action.{Action}
use Rattle.value_core.specs.declared.action.Action.TheVariants as action
use Rattle.value_core.specs.declared.meaning.Making.{Making}
use Rattle.value_core.specs.declared.meaning.Making.TheVariants as making
use Rattle.value_core.specs.declared.meaning.Tried.TheVariants as tried
use Rattle.value_core.specs.Meaning.{Performs, Computes}
use Rattle.value_core.specs.History.{IsStuck, object_at}
use Rattle.guard_queue.specs.declared.queue.Suspended.{Suspended}
use Rattle.guard_queue.specs.Settles.{AllBlocked, tried_by, tried_in}
use Rattle.guard_queue.proofs.Blocked.{at_place, from_places, settled_blocked}
use Rattle.object_manager.specs.After.{Copied, acted, after as after_applied, called, opening_copies}
use Rattle.object_manager.specs.Singles.{after_passed, after_single, side}
use Rattle.book_law.specs.Passes.{Test, after, after_all, is_passed}
use Rattle.object_manager.specs.State.{message_of}
use Rattle.book_law.specs.Singles.{Single, after_on, alone, single_of, singles_by}
use Rattle.book_law.specs.Book.{book}
use Rattle.book_law.specs.Course.{Came, Course, Next, taking}
use Rattle.book_law.specs.Course.Next.{Submits, Orders, Forks, Applies, Reads_at, Takes_call, Hears_answer}
use Rattle.book_law.specs.Course.Came.{Opens, Then}
use Rattle.book_law.specs.Events.{In}
use Rattle.book_law.specs.Fitness.{ArgsFit, StateFits, StuckAtEnd}
use Rattle.book_law.proofs.Fits.{Laws, ReplyFits, TextFits}
use Rattle.book_law.proofs.Kept.{Kept}
use Rattle.book_law.proofs.Owners.{there_after}
use Rattle.book_law.proofs.Processes.{set_same}
use Rattle.book_law.proofs.Books.{copies_all}
use Rattle.book_law.proofs.Taking.{set_cases}
use Rattle.book_law.proofs.Courses.{came_sound, next_keeps}
use Rattle.book_law.proofs.Calls.{every_call, queued_now}
use Rattle.book_law.proofs.Corollaries.{stuck_call, stuck_read, stuck_single, suspended}

-- ---- on the copies

entry_blocked : (single : Test) (p : Performs) (c : Copied) (x : Message) → AllBlocked p c.objects c.queue → AllBlocked p (after single p c x).objects (after single p c x).queue
entry_blocked single p c x h = go (is_passed single x.action)
  where
    go : (b : Bool) → AllBlocked p (if b then after_passed p false c x else after_applied p c x).objects (if b then after_passed p false c x else after_applied p c x).queue
    go true = h
    go false = let s = acted p c x in settled_blocked p (record { objects = s.objects; queue = s.queue; lines = [] })

entries_blocked : (single : Test) (p : Performs) (c : Copied) (xs : List Message) → AllBlocked p c.objects c.queue → AllBlocked p (after_all single p c xs).objects (after_all single p c xs).queue
entries_blocked single p c [] h = h
entries_blocked single p c (x ∷ xs) h = entries_blocked single p (after single p c x) xs (entry_blocked single p c x h)

pub copies_blocked : (single : Test) (p : Performs) (list : List Message) → AllBlocked p (after_all single p opening_copies list).objects (after_all single p opening_copies list).queue
copies_blocked single p list = entries_blocked single p opening_copies list (from_places p opening_copies.objects [] (λ at call is. absurd (cc is)))

-- ---- on a single copy

in_place : {A : Type 0} (x : A) (xs : List A) → In x xs → (at : ℕ) × (slice_get xs at ≡ Some x)
in_place x [] h = absurd h
in_place {A} x (y ∷ xs) (inl e) = (0, ap (λ (z : A). Some z) (sym e))
in_place x (y ∷ xs) (inr h) = let r = in_place x xs h in (suc r.0, r.1)

-- each call that is suspended on it is blocked by its state
abbrev CopyBlocked : Performs → Single → Type 0
CopyBlocked p x = (call : Suspended) → In call x.queue → p.tries call.kind call.op x.kept.state call.args ≡ tried.Blocked

on_blocked : (p : Performs) (x : Single) (call : Suspended) → ((other : Suspended) → In other (after_on p x call).queue → other.object ≡ x.object) → CopyBlocked p (after_on p x call)
on_blocked p x call its other inside =
    let here = side (alone x) in
    let s = called here call (tried_in p here.objects call) in
    let left = (after_single p (alone x) (message_of call)).own in
    let r = in_place other (after_on p x call).queue inside in
    let blocked : tried_in p left other ≡ tried.Blocked = at_place p left (after_on p x call).queue (settled_blocked p (record { objects = s.objects; queue = s.queue; lines = [] })) r.0 other r.1 in
    sym (ap (tried_by p other.kind other.op other.args) (ap (object_at left) (its other inside) ∙ there_after p x call)) ∙ blocked

-- ---- in every run

abbrev AllCopiesBlocked : Performs → List Single → Type 0
AllCopiesBlocked p owned = (i : ℕ) (x : Single) → slice_get owned i ≡ Some x → CopyBlocked p x

appended_blocked : (p : Performs) (xs ys : List Single) → AllCopiesBlocked p xs → AllCopiesBlocked p ys → AllCopiesBlocked p (xs ++ ys)
appended_blocked p [] ys one two i y is = two i y is
appended_blocked p (x ∷ xs) ys one two zero y is = one zero y is
appended_blocked p (x ∷ xs) ys one two (suc i) y is = appended_blocked p xs ys (λ k z e. one (suc k) z e) two i y is

new_blocked : (p : Performs) (owner place : ℕ) (object : ObjectId) (kind : KindNo) (m : Making) → AllCopiesBlocked p (single_of owner place object kind m)
new_blocked p owner place object kind (making.Made state) zero y is = λ call inside.
    let made : Single = record { object = object; owner = owner; place = place; kept = record { kind = kind; state = state }; queue = [] } in
    let e : made ≡ y = cc in
    absurd (subst (λ (z : Single). In call z.queue) (sym e) inside)
new_blocked p owner place object kind (making.Made state) (suc i) y is = absurd (cc is)
new_blocked p owner place object kind (making.Broke fault) i y is = absurd (cc is)

added_blocked : (single : Test) (p : Performs) (owner place : ℕ) (a : Action) → AllCopiesBlocked p (singles_by single p owner place a)
added_blocked single p owner place (action.Make kind object) = go (single object)
  where
    go : (b : Bool) → AllCopiesBlocked p (if b then single_of owner place object kind (p.made kind) else [])
    go true = new_blocked p owner place object kind (p.made kind)
    go false = λ i x is. absurd (cc is)
added_blocked single p owner place (action.Call kind op object args) = λ i x is. absurd (cc is)
added_blocked single p owner place (action.Fork text args place_on) = λ i x is. absurd (cc is)
added_blocked single p owner place action.Ended = λ i x is. absurd (cc is)
added_blocked single p owner place (action.Faulted fault) = λ i x is. absurd (cc is)

next_blocked : (single : Test) (p : Performs) (q : Computes) (w v : Course) → Next single p q w v → Came single p q w → AllCopiesBlocked p w.owned → AllCopiesBlocked p v.owned
next_blocked single p q w v (Submits j x m here free asks e) came all = subst (λ (u : Course). AllCopiesBlocked p u.owned) (sym e) all
next_blocked single p q w v (Orders x r here was new may plain e) came all =
    subst (λ (u : Course). AllCopiesBlocked p u.owned) (sym e) (appended_blocked p w.owned (singles_by single p r.member (suc (length w.list)) x.action) all (added_blocked single p r.member (suc (length w.list)) x.action))
next_blocked single p q w v (Forks x born member was new forks e) came all = subst (λ (u : Course). AllCopiesBlocked p u.owned) (sym e) all
next_blocked single p q w v (Applies m y is e) came all = subst (λ (u : Course). AllCopiesBlocked p u.owned) (sym e) all
next_blocked single p q w v (Reads_at j x n line here h e) came all = subst (λ (u : Course). AllCopiesBlocked p u.owned) (sym e) all
next_blocked single p q w v (Takes_call i x r call t e) came all = subst (λ (u : Course). AllCopiesBlocked p u.owned) (sym e) taken
  where
    set : Single
    set = after_on p x call

    its : (other : Suspended) → In other set.queue → other.object ≡ x.object
    its =
        let s = next_keeps single p q w (taking p w i x call) (Takes_call i x r call t refl) (came_sound single p q w came) in
        let k = s.kept in
        let o = k.owns i set (set_same w.owned i x set t.copy) in
        o.its

    taken : AllCopiesBlocked p (slice_set w.owned i set)
    taken k y is = ⊎_elim
        (λ u. subst (λ (z : Single). CopyBlocked p z) u.1 (on_blocked p x call its))
        (λ u. all k y u.1)
        (set_cases w.owned i k x set y t.copy is)
next_blocked single p q w v (Hears_answer j x r here has le e) came all = subst (λ (u : Course). AllCopiesBlocked p u.owned) (sym e) all

pub singles_blocked : (single : Test) (p : Performs) (q : Computes) (w : Course) → Came single p q w → AllCopiesBlocked p w.owned
singles_blocked single p q w (Opens member shared) = λ i x is. absurd (cc is)
singles_blocked single p q w (Then u v came next) = next_blocked single p q u v next came (singles_blocked single p q u came)

-- ---- who is stuck

same_number : (a b : ProcessNo) → a.0 ≡ b.0 → a ≡ b
same_number a b e = ap (λ (n : ℕ). record { 0 = n }) e

pub stuck_at_end : (single : Test) (p : Performs) (q : Computes) (fits_state : StateFits) (fits_args : ArgsFit) (fits_text : TextFits) (fits_reply : ReplyFits) (w : Course) → Laws p q fits_state fits_args fits_text fits_reply → Came single p q w → StuckAtEnd single p q w
stuck_at_end single p q fits_state fits_args fits_text fits_reply w laws came = record {
  shared = λ call inside. on_copies call (subst (λ (c : Copied). In call c.queue) (copies_all single p w.list) inside);
  singles = λ i x call is inside. stuck_single single p q w.list w.aside w.owned w.entered w.applied w.runners i x call k is inside (singles_blocked single p q w came i x is call inside);
  waits = λ number x m here out entered told whole. ⊎_elim
      (λ u. subst (λ (n : ProcessNo). IsStuck p q (book single p w.list w.aside) n) (same_number u.0.process number u.2) (on_copies u.0 u.1))
      (λ u. subst (λ (n : ProcessNo). IsStuck p q (book single p w.list w.aside) n) (same_number u.2.process number u.5)
      (stuck_single single p q w.list w.aside w.owned w.entered w.applied w.runners u.0 u.1 u.2 k u.3 u.4 (singles_blocked single p q w came u.0 u.1 u.3 u.2 u.4)))
      (suspended single p q w.list w.aside w.owned w.entered w.applied w.runners number.0 x m k here out entered told whole);
  reads = λ number x kind op object args here free shared next blocked.
      let s = k.stands number.0 x here in
      let c = every_call single p q fits_state fits_args fits_text fits_reply w laws came in
      let r = c.reads number x (length w.list) kind op object args (record { here = here; place = s.early; next = next }) free shared in
      let o = r.2 in
      let there : object_at copies.objects object ≡ Some o.kept = ap (λ (d : Copied). object_at d.objects object) (sym (copies_all single p w.list)) ∙ o.exists in
      stuck_read single p q w.list w.aside w.owned w.entered w.applied w.runners number x kind op object args o.kept k here free shared next there (sym (ap (tried_by p kind op args) o.exists) ∙ blocked);
}
  where
    k : Kept single p q w.list w.aside w.owned w.entered w.applied w.runners
    k = let s = came_sound single p q w came in s.kept

    copies : Copied
    copies = after_all single p opening_copies w.list

    on_copies : (call : Suspended) → In call (after_all single p opening_copies w.list).queue → IsStuck p q (book single p w.list w.aside) call.process
    on_copies call inside =
        let fits = queued_now single p q fits_state fits_args fits_text fits_reply w.list w.aside w.owned w.entered w.applied w.runners laws k call inside in
        let r = in_place call (after_all single p opening_copies w.list).queue inside in
        let blocked : tried_in p (after_all single p opening_copies w.list).objects call ≡ tried.Blocked = at_place p (after_all single p opening_copies w.list).objects (after_all single p opening_copies w.list).queue (copies_blocked single p w.list) r.0 call r.1 in
        stuck_call single p q w.list w.aside w.owned w.entered w.applied w.runners call fits.kept k inside fits.exists (sym (ap (tried_by p call.kind call.op call.args) fits.exists) ∙ blocked)
