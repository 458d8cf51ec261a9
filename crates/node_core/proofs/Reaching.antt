-- Asks and Answers whose place is reached are taken one by one, in a walk.
use Rattle.std.proofs.Common.{◌≡◌, ◌≤◌, ◌<◌, ◌++◌, ◌∷◌, ℕ, Bool, true, false, ◌||◌, ◌+◌, List, [], Option, Some, None, MatchOption, drop, get_or, length, map, refl, sym, ap, ◌∙◌, subst, if◌then◌else◌}
use Rattle.std.proofs.lemmas.Bool.{le-leb, lt-leb}
use Rattle.std.proofs.lemmas.List.{at_drop_all, at_drop_more, map-append}
use Rattle.object_manager.specs.After.{Copied}
use Rattle.world_rules.specs.Frame.{Frame}
use Rattle.world_rules.specs.Mail as mail
use Rattle.world_rules.specs.Mail.{place_of, same_errand}
use Rattle.world_rules.specs.Nodes.{NodeWork}
use Rattle.world_rules.specs.Owners.{arrives, holds, is_held, takes, takes_each, takes_reached}
use Rattle.node_rules.specs.Conditions.{Conditions, Fitness}
use Rattle.node_rules.specs.Moments.{Goes, Moment, holds_none, works}
use Rattle.node_rules.specs.Moments.Goes.{Holds, Opens, Takes}
use Rattle.node_rules.specs.Moments.Walks.{Stays, Then}
use Rattle.node_core.specs.Calls.{GoesFree, IsFree, MayTakeNext}
use Rattle.node_core.specs.Pieces.{Becomes, BecomesIn}
use Rattle.node_parts.specs.Shown.{Left, Stood, on_errand}
use Rattle.node_core.specs.Stands.{IsAt, IsWork}
use Rattle.node_parts.specs.declared.errand.Errand.{Errand}
use Rattle.node_core.specs.declared.work.Work.{Work}

-- what is so of a value that is there, and of none
pub some_left : {X : Type 0} (r : Option X) (x : X) (P : Type 0) (Q : X → Type 0) → r ≡ Some x → MatchOption r P Q → Q x
some_left None x P Q is h = absurd (cc is)
some_left (Some y) x P Q is h = (let e : y ≡ x = cc is in subst Q e h)

pub none_left : {X : Type 0} (r : Option X) (P : Type 0) (Q : X → Type 0) → r ≡ None → MatchOption r P Q → P
none_left None P Q is h = h
none_left (Some y) P Q is h = absurd (cc is)

pub empty_left : {X : Type 0} (xs : List X) → length xs ≡ 0 → xs ≡ []
empty_left [] is = refl
empty_left (x ∷ xs) is = absurd (cc is)

-- one more is held
pub held_more : {P S : Type 0} (stood : Stood S) (left : Left S) (f : Frame) (m : ℕ) (errand : Errand) (old new : Work P S) (v : NodeWork)
    → new ≡ record old { node = record old.node { held = new.node.held } } → new.node.held.items ≡ old.node.held.items ++ errand ∷ []
    → IsWork stood left f m old v → IsWork stood left f m new (holds (on_errand errand) v)
held_more {P} {S} stood left f m errand old new v same held h =
    subst (λ (w : Work P S). IsWork stood left f m w (holds (on_errand errand) v)) (sym same) (record {
      node = record {
        member = h.node.member;
        copies = h.node.copies;
        known = h.node.known;
        residents = h.node.residents;
        held = ap (λ (l : List Errand). map on_errand l) held ∙ map-append on_errand old.node.held.items (errand ∷ [])
            ∙ ap (λ (l : List mail.Errand). l ++ on_errand errand ∷ []) h.node.held;
        given = h.node.given;
        choices = h.node.choices;
      };
      moved = h.moved;
    })

-- it goes on by a piece that leaves these at hand
goes_to : {P S : Type 0} (stood : Stood S) (left : Left S) (f : Frame) (fitness : Fitness) (m : ℕ) (old new : Work P S) (hand rest : List Errand) (u v : Moment)
    → Goes f m u v → map on_errand rest ≡ v.hand → IsWork stood left f m new v.work → IsAt stood left f fitness m old hand u → IsAt stood left f fitness m new rest v
goes_to stood left f fitness m old new hand rest u v go is work at = record {
  work = work;
  errands = is;
  fits = λ x walk. at.fits x (Then u v x go walk);
}

-- those are left at hand
abbrev pub TakesRest : {P S : Type 0} → Stood S → Left S → Frame → Fitness → Work P S → Work P S → List Errand → Type 0
TakesRest stood left f fitness old now rest =
    (m : ℕ) (u : Moment) → IsAt stood left f fitness m old [] u →
    (w : Moment) × IsAt stood left f fitness m now rest w × (takes_each f m w.hand w.work ≡ takes_reached f m u.work)

-- an outside member takes none
pub reached_outside : {P S : Type 0} (stood : Stood S) (left : Left S) (f : Frame) (fitness : Fitness) (outside : Bool) (s : Work P S) → outside ≡ s.node.member.outside → outside ≡ true
    → GoesFree stood left f fitness s s (λ m. takes_reached f m)
reached_outside stood left f fitness outside s tells out m u at =
    subst (λ (w : NodeWork). IsAt stood left f fitness m s [] (works w u))
    (ap (λ (b : Bool). if b then u.work else takes_each f m u.work.node.held (holds_none u.work)) (sym (at.work.node.member.outside ∙ sym tells ∙ out))) at

-- any other has those that it held at hand
pub reached_begin : {P S : Type 0} (stood : Stood S) (left : Left S) (f : Frame) (fitness : Fitness) (outside : Bool) (old now : Work P S) (all : List Errand)
    → outside ≡ old.node.member.outside → outside ≡ false → all ≡ old.node.held.items → now ≡ record old { node = record old.node { held = now.node.held } } → now.node.held.items ≡ []
    → TakesRest stood left f fitness old now all
reached_begin {P} {S} stood left f fitness outside old now all tells inside is same none m u at = (
  opened,
  goes_to stood left f fitness m old now [] all u opened (Opens (sym at.errands) out refl) (ap (λ (l : List Errand). map on_errand l) is ∙ at.work.node.held)
      (subst (λ (w : Work P S). IsWork stood left f m w (holds_none u.work)) (sym same) (record {
        node = record {
          member = at.work.node.member;
          copies = at.work.node.copies;
          known = at.work.node.known;
          residents = at.work.node.residents;
          held = ap (λ (l : List Errand). map on_errand l) none;
          given = at.work.node.given;
          choices = at.work.node.choices;
        };
        moved = at.work.moved;
      })) at,
  ap (λ (b : Bool). if b then u.work else takes_each f m u.work.node.held (holds_none u.work)) (sym out),
)
  where
    opened : Moment
    opened = record { work = holds_none u.work; hand = u.work.node.held }

    out : u.work.node.member.outside ≡ false
    out = at.work.node.member.outside ∙ sym tells ∙ inside

-- the first one may be taken, where its place is reached
pub reached_next : {P S : Type 0} (stood : Stood S) (left : Left S) (f : Frame) (fitness : Fitness) (old now : Work P S) (rest more : List Errand) (errand : Errand) → rest ≡ errand ∷ more
    → place_of (on_errand errand) ≤ now.node.copies.applied → TakesRest stood left f fitness old now rest → IsFree stood left f fitness old
    → MayTakeNext stood left f fitness (on_errand errand) now
reached_next stood left f fitness old now rest more errand is reached goes (m, u, at) = (
  m,
  w.work,
  here.work,
  record { fits = fits.fits; blocked = fits.blocked; small = fits.small },
  fits.takes (on_errand errand) (map on_errand more) (sym here.errands ∙ ap (λ (l : List Errand). map on_errand l) is)
      (subst (λ (c : Copied). place_of (on_errand errand) ≤ c.applied) here.work.node.copies reached),
)
  where
    w : Moment
    w = (goes m u at).0

    here : IsAt stood left f fitness m now rest w
    here = (goes m u at).1

    fits : Conditions f fitness m w
    fits = here.fits w (Stays w)

-- then the others are left
pub reached_taken : {P S : Type 0} (stood : Stood S) (left : Left S) (f : Frame) (fitness : Fitness) (old now after : Work P S) (rest more : List Errand) (errand : Errand) → rest ≡ errand ∷ more
    → place_of (on_errand errand) ≤ now.node.copies.applied → BecomesIn stood left f now after (λ m. takes f m (on_errand errand)) → TakesRest stood left f fitness old now rest
    → TakesRest stood left f fitness old after more
reached_taken {P} {S} stood left f fitness old now after rest more errand is reached becomes goes m u at = (
  taken,
  goes_to stood left f fitness m now after rest more w taken (Takes (on_errand errand) (map on_errand more) first behind refl) refl (becomes m w.work here.work) here,
  ap (λ (b : Bool). takes_each f m (map on_errand more) (if b then takes f m (on_errand errand) w.work else holds (on_errand errand) w.work))
      (sym (le-leb (place_of (on_errand errand)) w.work.node.copies.applied behind))
      ∙ ap (λ (l : List mail.Errand). takes_each f m l w.work) (sym first) ∙ (goes m u at).2,
)
  where
    w : Moment
    w = (goes m u at).0

    here : IsAt stood left f fitness m now rest w
    here = (goes m u at).1

    taken : Moment
    taken = record { work = takes f m (on_errand errand) w.work; hand = map on_errand more }

    first : w.hand ≡ on_errand errand ∷ map on_errand more
    first = sym here.errands ∙ ap (λ (l : List Errand). map on_errand l) is

    behind : place_of (on_errand errand) ≤ w.work.node.copies.applied
    behind = subst (λ (c : Copied). place_of (on_errand errand) ≤ c.applied) here.work.node.copies reached

-- also where the first one is held
pub reached_held : {P S : Type 0} (stood : Stood S) (left : Left S) (f : Frame) (fitness : Fitness) (old now after : Work P S) (rest more : List Errand) (errand : Errand) → rest ≡ errand ∷ more
    → now.node.copies.applied < place_of (on_errand errand) → after ≡ record now { node = record now.node { held = after.node.held } }
    → after.node.held.items ≡ now.node.held.items ++ errand ∷ [] → TakesRest stood left f fitness old now rest → TakesRest stood left f fitness old after more
reached_held {P} {S} stood left f fitness old now after rest more errand is ahead same held goes m u at = (
  waits,
  goes_to stood left f fitness m now after rest more w waits (Holds (on_errand errand) (map on_errand more) first refl) refl work here,
  ap (λ (b : Bool). takes_each f m (map on_errand more) (if b then takes f m (on_errand errand) w.work else holds (on_errand errand) w.work))
      (sym (lt-leb (place_of (on_errand errand)) w.work.node.copies.applied behind))
      ∙ ap (λ (l : List mail.Errand). takes_each f m l w.work) (sym first) ∙ (goes m u at).2,
)
  where
    w : Moment
    w = (goes m u at).0

    here : IsAt stood left f fitness m now rest w
    here = (goes m u at).1

    waits : Moment
    waits = record { work = holds (on_errand errand) w.work; hand = map on_errand more }

    first : w.hand ≡ on_errand errand ∷ map on_errand more
    first = sym here.errands ∙ ap (λ (l : List Errand). map on_errand l) is

    behind : w.work.node.copies.applied < place_of (on_errand errand)
    behind = subst (λ (c : Copied). c.applied < place_of (on_errand errand)) here.work.node.copies ahead

    work : IsWork stood left f m after (holds (on_errand errand) w.work)
    work = held_more stood left f m errand now after w.work same held here.work

-- until none is
pub reached_over : {P S : Type 0} (stood : Stood S) (left : Left S) (f : Frame) (fitness : Fitness) (old now : Work P S) (rest : List Errand) → rest ≡ []
    → TakesRest stood left f fitness old now rest → GoesFree stood left f fitness old now (λ m. takes_reached f m)
reached_over {P} {S} stood left f fitness old now rest is goes m u at =
    subst (λ (x : Moment). IsAt stood left f fitness m now [] x) same (subst (λ (l : List Errand). IsAt stood left f fitness m now l w) is here)
  where
    w : Moment
    w = (goes m u at).0

    here : IsAt stood left f fitness m now rest w
    here = (goes m u at).1

    none : w.hand ≡ []
    none = sym here.errands ∙ ap (λ (l : List Errand). map on_errand l) is

    same : w ≡ works (takes_reached f m u.work) u
    same = ap (λ (l : List mail.Errand). record { work = w.work; hand = l }) (none ∙ at.errands)
        ∙ ap (λ (x : NodeWork). record { work = x; hand = u.hand }) (ap (λ (l : List mail.Errand). takes_each f m l w.work) (sym none) ∙ (goes m u at).2)

-- ---- one comes

-- it is refused at an outside member, or where one of the same call is held
abbrev pub refused : {P S : Type 0} → Errand → Work P S → Bool
refused errand s = s.node.member.outside || is_held (on_errand errand) (map on_errand s.node.held.items)

refused_so : {P S : Type 0} (stood : Stood S) (left : Left S) (f : Frame) (m : ℕ) (errand : Errand) (s : Work P S) (v : NodeWork) → IsWork stood left f m s v
    → (v.node.member.outside || is_held (on_errand errand) v.node.held) ≡ refused errand s
refused_so stood left f m errand s v work =
    ap (λ (b : Bool). b || is_held (on_errand errand) v.node.held) work.node.member.outside
    ∙ ap (λ (l : List mail.Errand). s.node.member.outside || is_held (on_errand errand) l) (sym work.node.held)

pub arrives_not : {P S : Type 0} (stood : Stood S) (left : Left S) (errand : Errand) (s : Work P S) → refused errand s ≡ true
    → Becomes stood left s s (λ f m. arrives (on_errand errand))
arrives_not stood left errand s is f m v work =
    subst (λ (w : NodeWork). IsWork stood left f m s w)
    (ap (λ (b : Bool). if b then v else holds (on_errand errand) v) (sym (refused_so stood left f m errand s v work ∙ is))) work

pub arrives_held : {P S : Type 0} (stood : Stood S) (left : Left S) (errand : Errand) (old new : Work P S) → refused errand old ≡ false
    → new ≡ record old { node = record old.node { held = new.node.held } } → new.node.held.items ≡ old.node.held.items ++ errand ∷ []
    → Becomes stood left old new (λ f m. arrives (on_errand errand))
arrives_held stood left errand old new is same held f m v work =
    subst (λ (w : NodeWork). IsWork stood left f m new w)
    (ap (λ (b : Bool). if b then v else holds (on_errand errand) v) (sym (refused_so stood left f m errand old v work ∙ is)))
    (held_more stood left f m errand old new v same held work)

-- so the two tests tell
refused_as : {P S : Type 0} (errand : Errand) (s : Work P S) (outside held : Bool) (list : List Errand) → outside ≡ s.node.member.outside → outside ≡ false → list ≡ s.node.held.items
    → held ≡ is_held (on_errand errand) (map on_errand list) → refused errand s ≡ held
refused_as errand s outside held list tells inside is same =
    ap (λ (b : Bool). b || is_held (on_errand errand) (map on_errand s.node.held.items)) (sym tells ∙ inside)
    ∙ ap (λ (l : List Errand). is_held (on_errand errand) (map on_errand l)) (sym is) ∙ sym same

pub refused_outside : {P S : Type 0} (errand : Errand) (s : Work P S) (outside : Bool) → outside ≡ s.node.member.outside → outside ≡ true → refused errand s ≡ true
refused_outside errand s outside tells out = ap (λ (b : Bool). b || is_held (on_errand errand) (map on_errand s.node.held.items)) (sym tells ∙ out)

pub refused_held : {P S : Type 0} (errand : Errand) (s : Work P S) (outside held : Bool) (list : List Errand) → outside ≡ s.node.member.outside → outside ≡ false → list ≡ s.node.held.items
    → held ≡ is_held (on_errand errand) (map on_errand list) → held ≡ true → refused errand s ≡ true
refused_held errand s outside held list tells inside is same hit = refused_as errand s outside held list tells inside is same ∙ hit

pub refused_none : {P S : Type 0} (errand : Errand) (s : Work P S) (outside held : Bool) (list : List Errand) → outside ≡ s.node.member.outside → outside ≡ false → list ≡ s.node.held.items
    → held ≡ is_held (on_errand errand) (map on_errand list) → held ≡ false → refused errand s ≡ false
refused_none errand s outside held list tells inside is same apart = refused_as errand s outside held list tells inside is same ∙ apart

-- ---- whether one of the same call is held

one_held : (errand other : Errand) (held : List Errand) (i : ℕ) → i < length held → other ≡ get_or held i other
    → is_held (on_errand errand) (map on_errand (drop i held)) ≡ (same_errand (on_errand errand) (on_errand other) || is_held (on_errand errand) (map on_errand (drop (i + 1) held)))
one_held errand other held i lt is =
    at_drop_more (λ (l : List Errand). is_held (on_errand errand) (map on_errand l)) held i other lt
    ∙ ap (λ (o : Errand). same_errand (on_errand errand) (on_errand o) || is_held (on_errand errand) (map on_errand (drop (i + 1) held))) (sym is)

pub held_next : (errand other : Errand) (held : List Errand) (i : ℕ) (same : Bool) → i < length held → other ≡ get_or held i other → same ≡ same_errand (on_errand errand) (on_errand other) → same ≡ false
    → is_held (on_errand errand) (map on_errand (drop i held)) ≡ is_held (on_errand errand) (map on_errand held)
    → is_held (on_errand errand) (map on_errand (drop (i + 1) held)) ≡ is_held (on_errand errand) (map on_errand held)
held_next errand other held i same lt is tells apart so_far =
    ap (λ (b : Bool). b || is_held (on_errand errand) (map on_errand (drop (i + 1) held))) (sym apart ∙ tells) ∙ sym (one_held errand other held i lt is) ∙ so_far

pub held_this : (errand other : Errand) (held : List Errand) (i : ℕ) (same : Bool) → i < length held → other ≡ get_or held i other → same ≡ same_errand (on_errand errand) (on_errand other) → same ≡ true
    → is_held (on_errand errand) (map on_errand (drop i held)) ≡ is_held (on_errand errand) (map on_errand held) → true ≡ is_held (on_errand errand) (map on_errand held)
held_this errand other held i same lt is tells hit so_far =
    ap (λ (b : Bool). b || is_held (on_errand errand) (map on_errand (drop (i + 1) held))) (sym hit ∙ tells) ∙ sym (one_held errand other held i lt is) ∙ so_far

pub held_none : (errand : Errand) (held : List Errand) (i : ℕ) → length held ≤ i
    → is_held (on_errand errand) (map on_errand (drop i held)) ≡ is_held (on_errand errand) (map on_errand held) → false ≡ is_held (on_errand errand) (map on_errand held)
held_none errand held i le so_far = sym (at_drop_all (λ (l : List Errand). is_held (on_errand errand) (map on_errand l)) held i le) ∙ so_far
