-- What is kept of a run tells the places of its lines.
use Rattle.std.proofs.Common.{inl, inr, ◌≡◌, ◌<◌, ◌==◌, ◌&&◌, ◌||◌, ⊎_elim, ℕ, zero, suc, Bool, true, false, Option, Some, None, List, [], ◌∷◌, slice_get, refl, sym, ap, ◌∙◌, arith, subst}
use Rattle.std.specs.Prelude.{is_some}
use Rattle.std.proofs.lemmas.Bool.{eq-eqb, eqb-true}
use Rattle.std.proofs.lemmas.Option.{slice_get_within}
use Rattle.orca_base.specs.declared.ids.ObjectId.{ObjectId}
use Rattle.value_core.specs.declared.action.Action.{Action}
use Rattle.value_core.specs.declared.action.Action.TheVariants as action
use Rattle.value_core.specs.declared.action.Instance.{Instance}
use Rattle.value_core.specs.declared.action.Line.{Line}
use Rattle.value_core.specs.declared.message.Message.{Message}
use Rattle.value_core.specs.History.{object_at}
use Rattle.object_manager.specs.After.{Copied}
use Rattle.book_law.specs.Events.{Calls, In, IsRead}
use Rattle.book_law.specs.Members.{Holds, copies_of}
use Rattle.book_law.specs.Owners.{Keeps}
use Rattle.book_law.specs.Passes.{Test}
use Rattle.book_law.specs.declared.placing.Placed.{Placed}
use Rattle.book_law.proofs.Apart.{singles_apart}
use Rattle.book_law.proofs.Asked.{entered_asked}
use Rattle.book_law.proofs.Lists.{in_at}
use Rattle.book_law.proofs.Members.{members_hold}
use Rattle.world_rules.specs.declared.standing.PlaceNote.{PlaceNote}
use Rattle.world_rules.specs.declared.standing.PlaceNote.TheVariants as note
use Rattle.world_rules.specs.Frame.{Frame}
use Rattle.world_rules.specs.Worlds.{Book, World, agreed, aside_note, called_note, places, singles_in}
use Rattle.world_facts.proofs.Rows.{any_at, any_from}
use Rattle.world_facts.specs.Places.{number_of}
use Rattle.world_facts.specs.Processes.{HomesAreMembers}
use Rattle.world_course.specs.Corresponds.{IsMember, Stands}
use Rattle.world_book.specs.Following.{HasCourse}
use Rattle.world_places.specs.Explained.{IsLineOf, RanAt}
use Rattle.world_places.specs.Told.{calls_such, has_number, is_among, note_by, note_told, some_keeps}
use Rattle.world_places.proofs.Apart.{IsNumberOf, Shares, all_apart}
use Rattle.world_places.proofs.Beside.{IsCallBeside, IsReadBeside, all_beside}
use Rattle.world_places.proofs.Lines.{IsCopyOf, called, copy_of, whole_sides}
use Rattle.world_places.proofs.Lists.{sides_at}

-- ---- lines of messages

numbers_of : (y : Message) (l : Line) → IsNumberOf y l → has_number y l ≡ true
numbers_of y l is = ap (λ b. b && (y.call.0 == l.call.0)) (eq-eqb y.process.0 l.process.0 is.process) ∙ eq-eqb y.call.0 l.call.0 is.call

both_so : (a b : Bool) → (a && b) ≡ true → (a ≡ true) × (b ≡ true)
both_so true b e = (refl, e)
both_so false b e = absurd (cc e)

own_of : (y : Message) (l : Line) → has_number y l ≡ true → IsNumberOf y l
own_of y l e =
    let u = both_so (y.process.0 == l.process.0) (y.call.0 == l.call.0) e in
    record { process = eqb-true y.process.0 l.process.0 u.0; call = eqb-true y.call.0 l.call.0 u.1 }

among_true : (xs : List Message) (k : ℕ) (y : Message) (l : Line) → slice_get xs k ≡ Some y → IsNumberOf y l → is_among xs l ≡ true
among_true [] k y l at is = absurd (let lt = slice_get_within [] k y at in omega (arith, lt))
among_true (x ∷ xs) zero y l at is = let e : x ≡ y = cc at in ap (λ (z : Message). has_number z l || is_among xs l) e ∙ ap (λ b. b || is_among xs l) (numbers_of y l is)
among_true (x ∷ xs) (suc k) y l at is = go (has_number x l) (among_true xs k y l at is)
  where
    go : (b : Bool) → is_among xs l ≡ true → (b || is_among xs l) ≡ true
    go true e = refl
    go false e = e

among_false : (xs : List Message) (l : Line) → ((y : Message) → In y xs → IsNumberOf y l → ⊥) → is_among xs l ≡ false
among_false [] l none = refl
among_false (x ∷ xs) l none = go (has_number x l) refl (among_false xs l (λ y h. none y (inr h)))
  where
    go : (b : Bool) → has_number x l ≡ b → is_among xs l ≡ false → (b || is_among xs l) ≡ false
    go true e rest = absurd (none x (inl refl) (own_of x l e))
    go false e rest = rest

number_is : (y : Message) (l : Line) → IsLineOf y l → IsNumberOf y l
number_is y l is = record { process = ap (λ n. n.0) is.process; call = ap (λ n. n.0) is.call }

-- ---- single objects

abbrev has_own : World → ObjectId → ℕ → Bool
has_own w o m = is_some (object_at (w.nodes m).copies.own o)

none_keeps : (f : Frame) (w : World) (o : ObjectId) → ((m : ℕ) (kept : Instance) → object_at (w.nodes m).copies.own o ≡ Some kept → ⊥) → some_keeps f w o ≡ false
none_keeps f w o none = go (some_keeps f w o) refl
  where
    never : (m : ℕ) (k : Option Instance) → object_at (w.nodes m).copies.own o ≡ k → is_some k ≡ true → ⊥
    never m None e is = absurd (cc is)
    never m (Some kept) e is = none m kept e

    go : (b : Bool) → some_keeps f w o ≡ b → some_keeps f w o ≡ false
    go false e = e
    go true e = let u = any_at f.settings.nodes (has_own w o) e in absurd (never u.0 (object_at (w.nodes u.0).copies.own o) refl u.2)

calls_as : (such : ObjectId → Bool) (b : Bool) (a : Action) (o : ObjectId) → Calls a o → such o ≡ b → calls_such such a ≡ b
calls_as such b (action.Call kind op object args) o of is = ap such (sym of) ∙ is
calls_as such b (action.Make kind object) o of is = absurd of
calls_as such b (action.Fork process args place_on) o of is = absurd of
calls_as such b action.Ended o of is = absurd of
calls_as such b (action.Faulted fault) o of is = absurd of

calls_none : (such : ObjectId → Bool) (a : Action) → ((o : ObjectId) → Calls a o → such o ≡ false) → calls_such such a ≡ false
calls_none such (action.Call kind op object args) none = none object refl
calls_none such (action.Make kind object) none = refl
calls_none such (action.Fork process args place_on) none = refl
calls_none such action.Ended none = refl
calls_none such (action.Faulted fault) none = refl

-- ---- each line of a run

module _ (f : Frame) (w : World) (h : HasCourse f (singles_in f w) w) (homes : HomesAreMembers) (some : 0 < f.settings.nodes) where
  abbrev single : Test
  single = singles_in f w

  abbrev kept : ObjectId → Bool
  kept = some_keeps f w

  stands : Stands f single w h.course
  stands = let g = h.follows in let c = g.corresponds in c.stands

  holds : (m : ℕ) → Holds single f.performs h.course.list h.course.owned m (w.nodes m).copies.applied (w.nodes m).copies
  holds m =
      let member : IsMember f single h.course stands.came m (w.nodes m) = stands.members m in
      subst (λ (c : Copied). Holds single f.performs h.course.list h.course.owned m (w.nodes m).copies.applied c) (sym member.copies)
      (subst (λ (n : ℕ). Holds single f.performs h.course.list h.course.owned m n (copies_of single f.performs f.computes h.course stands.came m)) member.applied
      (members_hold single f.performs f.computes h.course stands.came m))

  -- no member keeps a replicated object as a single one
  shared_none : (o : ObjectId) → single o ≡ false → kept o ≡ false
  shared_none o shared = none_keeps f w o (λ m k is.
      let u = holds m in
      let x = u.only o k is in
      let c = copy_of f w h x.0 x.1 x.2 in
      let e : true ≡ false = sym c.alone ∙ ap single x.3 ∙ shared in
      absurd (cc e))

  -- an entry's line is of a message of the list, which calls no single object
  ran_told : (number : ℕ) (l : Line) → RanAt f w number l → note.Entry number ≡ note_told f w (record { place = number; line = l })
  ran_told number l ran = ⊎_elim
      (λ (u : IsLineOf ran.entry l). of ran.before ran.entry ran.there u)
      (λ u. of u.earlier u.entry u.there u.of)
      ran.of
    where
      of : (k : ℕ) (y : Message) → slice_get (agreed f w) k ≡ Some y → IsLineOf y l → note.Entry number ≡ note_told f w (record { place = number; line = l })
      of k y there is =
          let apart = singles_apart single f.performs f.computes h.course stands.came in
          let inside : In y h.course.list = subst (λ (ys : List Message). In y ys) (sym h.list) (in_at y (agreed f w) k there) in
          let none : calls_such kept l.action ≡ false = calls_none kept l.action (λ o calls. shared_none o (apart.unlisted y o inside (subst (λ (a : Action). Calls a o) (sym is.action) calls))) in
          let listed : is_among (agreed f w) l ≡ true = among_true (agreed f w) k y l there (number_is y l is) in
          sym (ap (λ b. note_by b (is_among (agreed f w) l) number) none ∙ ap (λ b. note_by false b number) listed)

  read_told : (r : Placed) → In r w.aside → IsReadBeside single f.performs h.course.list r → aside_note single r.place r.line.action ≡ note_told f w r
  read_told r inside beside =
      let i : IsRead single f.performs _ r.line = beside.read in
      let shared : Shares single r = λ o calls. ap single (subst (λ (a : Action). Calls a o) i.is calls) ∙ i.shared in
      let none : calls_such kept r.line.action ≡ false = calls_none kept r.line.action (λ o calls. shared_none o (shared o calls)) in
      let asked = entered_asked single f.performs f.computes h.course stands.came in
      let new : is_among (agreed f w) r.line ≡ false = among_false (agreed f w) r.line (λ y there is.
      all_apart single f.performs f.computes h.course stands.came r (subst (λ (rs : List Placed). In r rs) (sym stands.beside) inside) shared y
      (asked.listed y (subst (λ (ys : List Message). In y ys) (sym h.list) there)) is) in
      ap (aside_note single r.place) i.is ∙ ap (λ b. called_note b r.place) i.shared
      ∙ sym (ap (λ b. note_by b (is_among (agreed f w) r.line) r.place) none ∙ ap (λ b. note_by false b r.place) new)

  call_told : (r : Placed) → IsCallBeside h.course.owned (λ m. 0) h.course.applied r → aside_note single r.place r.line.action ≡ note_told f w r
  call_told r b =
      let c : IsCopyOf f w h b.copy = copy_of f w h b.at b.copy b.there in
      let m : ℕ = b.copy.owner in
      let within : m < f.settings.nodes = (let lt = homes f w c.made.entry.process.0 some in let e = c.owner in omega (arith, lt, e)) in
      let member : IsMember f single h.course stands.came m (w.nodes m) = stands.members m in
      let made = b.made in
      let reached = b.reached in
      let same = member.applied in
      let has : Keeps (w.nodes m).copies b.copy = (let u = holds m in u.keeps b.at b.copy b.there (refl, omega (arith, made, reached, same))) in
      let keeps : kept b.copy.object ≡ true = any_from f.settings.nodes (has_own w b.copy.object) m within (ap is_some has.state) in
      let calls : calls_such kept r.line.action ≡ true = calls_as kept true r.line.action b.copy.object b.calls keeps in
      called f w r.place r.line.action b.copy.object b.calls c.alone
      ∙ sym (ap (λ s. note_by s (is_among (agreed f w) r.line) r.place) calls)

  -- by its number
  abbrev IsTold : Line → PlaceNote → Type 0
  IsTold l x = x ≡ note_told f w (record { place = number_of x; line = l })

  aside_number : (n : ℕ) (a : Action) → number_of (aside_note single n a) ≡ n
  aside_number n (action.Call kind op object args) = go (single object)
    where
      go : (b : Bool) → number_of (called_note b n) ≡ n
      go true = refl
      go false = refl
  aside_number n (action.Make kind object) = refl
  aside_number n (action.Fork process args place_on) = refl
  aside_number n action.Ended = refl
  aside_number n (action.Faulted fault) = refl

  beside_told : (r : Placed) → In r w.aside → IsTold r.line (aside_note single r.place r.line.action)
  beside_told r inside =
      whole ∙ ap (λ (n : ℕ). note_told f w (record { place = n; line = r.line })) (sym (aside_number r.place r.line.action))
    where
      whole : aside_note single r.place r.line.action ≡ note_told f w r
      whole = ⊎_elim
          (λ none. absurd none)
          (λ o. ⊎_elim (λ u. read_told r inside u) (λ u. call_told r u) o)
          (all_beside single f.performs f.computes h.course stands.came r (subst (λ (rs : List Placed). In r rs) (sym stands.beside) inside))

  pub line_told : (i : ℕ) (l : Line) (x : PlaceNote) → slice_get (Book f w) i ≡ Some l → slice_get (places f w) i ≡ Some x → IsTold l x
  line_told i l x is at = sides_at IsTold (places f w) (Book f w) i l x (whole_sides f w IsTold (λ number k ran. ran_told number k ran) beside_told) is at
