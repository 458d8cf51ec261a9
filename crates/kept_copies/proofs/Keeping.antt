-- Each kept copy is what the history left of its object, by whether that is single, and by whose it is.
use Rattle.std.proofs.Common.{◌≡◌, ◌∙◌, ◌==◌, ℕ, Bool, true, false, List, Option, Some, None, ap, sym, subst, refl, arith}
use Rattle.std.specs.Prelude.{slice_get}
use Rattle.std.proofs.lemmas.Bool.{eq-eqb, eqb-true}
use Rattle.std.proofs.lemmas.Option.{slice_get_past, slice_get_within}
use Rattle.orca_base.specs.declared.ids.ObjectId.{ObjectId}
use Rattle.orca_base.specs.declared.ids.TextNo.{TextNo}
use Rattle.value_core.specs.declared.action.Instance.{Instance}
use Rattle.value_core.specs.declared.action.Line.{Line}
use Rattle.value_core.specs.History as history
use Rattle.value_core.specs.History.{Process, object_at, objects_of}
use Rattle.guard_queue.specs.Shown.{or_else}
use Rattle.world_rules.specs.Frame.{Frame, chooses_single}
use Rattle.world_rules.specs.Processes as rules
use Rattle.world_rules.specs.Processes.{Begun, owner_in}
use Rattle.world_rules.specs.Worlds.{Book, World, places, processes_of, singles_in}
use Rattle.world_book.specs.Promise.{IsKept, applied_book}
use Rattle.world_facts.specs.Ends as facts
use Rattle.world_facts.specs.Ends.{EndsStand, process_end}
use Rattle.world_facts.specs.Places.{IsPlaced, book_behind, lines_to}
use Rattle.run_ends.specs.Telling.{AreNodeEnds, AreProcessEnds, IsNodeEnd}
use Rattle.run_ends.specs.declared.ends.NodeEnd.{NodeEnd}
use Rattle.run_ends.specs.declared.ends.ProcessEnd.{ProcessEnd}
use Rattle.kept_copies.specs.Copies.{HasCopies, is_owner, is_single, kept_of, owned_by, single_by}
use Rattle.kept_copies.proofs.Ends.{count_is, end_is, get_below, past_end}

or_none : (x : Option Instance) → or_else x None ≡ x
or_none None = refl
or_none (Some kept) = refl

nothing_else : (x : Option Instance) → ((kept : Instance) → x ≡ Some kept → ⊥) → x ≡ None
nothing_else None h = refl
nothing_else (Some kept) h = absurd (h kept refl)

apart : (b : Bool) → b ≡ true → b ≡ false → ⊥
apart b one two = let e : true ≡ false = sym one ∙ two in cc e

some_apart : (x : Option Instance) (kept : Instance) → x ≡ Some kept → x ≡ None → ⊥
some_apart x kept one two = let e : Some kept ≡ None = sym one ∙ two in cc e

-- of what isn't made nothing is kept
not_made : (in_front in_all : Option Instance) → ((was : Instance) → in_front ≡ Some was → ⊥) → None ≡ kept_of true true in_front in_all
not_made None in_all h = refl
not_made (Some was) in_all h = absurd (h was refl)

module _ (f : Frame) (w : World) (kept : IsKept f w) (o : ObjectId) where
  -- ---- which object is single, and whose it is

  single_is : is_single f (Book f w) o ≡ singles_in f w o
  single_is = by (slice_get (processes_of f w) o.process) refl
    where
      by : (b : Option Begun) → slice_get (processes_of f w) o.process ≡ b → is_single f (Book f w) o ≡ singles_in f w o
      by None e =
          let past = past_end (processes_of f w) o.process e in
          let count = kept.processes.count in
          ap (λ (p : Option Process). single_by f p o.number)
          (slice_get_past (history.processes_of f.performs f.computes (Book f w)) o.process (omega (arith, past, count)))
          ∙ sym (ap (λ (b : Option Begun). rules.single_by f b o.number) e)
      by (Some b) e =
          let of = kept.processes.each o.process b e in
          ap (λ (p : Option Process). single_by f p o.number) of.exists
          ∙ ap (λ (t : TextNo). chooses_single f.settings.choices t o.number) of.text
          ∙ sym (ap (λ (b : Option Begun). rules.single_by f b o.number) e)

  owner_is : (ends : List ProcessEnd) → AreProcessEnds f w ends → EndsStand f w → (m : ℕ) → singles_in f w o ≡ true →
      is_owner ends m o ≡ (owner_in (processes_of f w) o == m)
  owner_is ends are stand m single = by (slice_get (processes_of f w) o.process) refl
    where
      by : (b : Option Begun) → slice_get (processes_of f w) o.process ≡ b → is_owner ends m o ≡ (owner_in (processes_of f w) o == m)
      by None e = absurd (apart (singles_in f w o) single (ap (λ (b : Option Begun). rules.single_by f b o.number) e))
      by (Some b) e =
          let within = slice_get_within (processes_of f w) o.process b e in
          let count = count_is f w ends are stand in
          let there = get_below ends o.process (omega (arith, within, count)) in
          let found = end_is f w ends o.process there.0 are stand there.1 in
          ap (λ (x : Option ProcessEnd). owned_by x m) there.1 ∙ ap (λ (x : facts.ProcessEnd). x.node == m) found.1

  -- ---- what a member has of it

  module _ (m : ℕ) where
    abbrev objects : Option Instance
    objects = object_at (w.nodes m).copies.objects o

    abbrev own : Option Instance
    own = object_at (w.nodes m).copies.own o

    abbrev in_front : Option Instance
    in_front = object_at (objects_of f.performs f.computes (applied_book f w m)) o

    abbrev in_all : Option Instance
    in_all = object_at (objects_of f.performs f.computes (Book f w)) o

    -- of a single one
    of_own : (x : Option Instance) → own ≡ x → singles_in f w o ≡ true → (owner : Bool) → owner ≡ (owner_in (processes_of f w) o == m) → x ≡ kept_of true owner in_front in_all
    of_own (Some had) e single owner is =
        let h = (kept.copies m).own o had e in
        sym h.left
        ∙ sym (ap (λ (x : Option Instance). kept_of true true x in_all) h.made)
        ∙ sym (ap (λ (b : Bool). kept_of true b in_front in_all) (is ∙ eq-eqb (owner_in (processes_of f w) o) m h.owner))
    of_own None e single true is =
        not_made in_front in_all
        (λ was there. let has = (kept.copies m).owned o was single (eqb-true (owner_in (processes_of f w) o) m (sym is)) there in some_apart own has.0 has.1 e)
    of_own None e single false is = refl

    -- of each
    of_either : (single : Bool) → singles_in f w o ≡ single → (owner : Bool) → (singles_in f w o ≡ true → owner ≡ (owner_in (processes_of f w) o == m)) →
        or_else objects own ≡ kept_of single owner in_front in_all
    of_either false many owner is =
        ap (or_else objects) (nothing_else own (λ had e. apart (singles_in f w o) ((kept.copies m).own o had e).single many))
        ∙ or_none objects ∙ (kept.copies m).replicated o many
    of_either true single owner is =
        ap (λ (x : Option Instance). or_else x own) ((kept.copies m).apart o single) ∙ of_own own refl single owner (is single)

-- ---- all of them

copies_in : (f : Frame) (w : World) → IsKept f w → IsPlaced f w → EndsStand f w → (ends : List ProcessEnd) → AreProcessEnds f w ends →
    (m : ℕ) (end : NodeEnd) → IsNodeEnd end (facts.node_end w m) → HasCopies f w (Book f w) ends m end
copies_in f w kept placed stand ends are m end is =
    let n = (w.nodes m).member.applied in
    record {
      front = applied_book f w m;
      rest = book_behind f w n;
      splits = placed.front n;
      places = placed.until n ∙ ap (λ k. lines_to k (places f w) (Book f w)) (sym is.applied);
      copies = λ o.
          is.copies o
          ∙ of_either f w kept o m (singles_in f w o) refl (is_owner ends m o) (λ single. owner_is f w kept o ends are stand m single)
          ∙ ap (λ (b : Bool). kept_of b (is_owner ends m o) (object_at (objects_of f.performs f.computes (applied_book f w m)) o)
          (object_at (objects_of f.performs f.computes (Book f w)) o)) (sym (single_is f w kept o));
    }

pub copies_kept : (f : Frame) (w : World) → IsKept f w → IsPlaced f w → EndsStand f w → (book : List Line) → book ≡ Book f w → (ends : List ProcessEnd) → AreProcessEnds f w ends →
    (nodes : List NodeEnd) → AreNodeEnds f w nodes → (m : ℕ) (end : NodeEnd) → slice_get nodes m ≡ Some end → HasCopies f w book ends m end
copies_kept f w kept placed stand book is ends are nodes members m end at =
    subst (λ (b : List Line). HasCopies f w b ends m end) (sym is) (copies_in f w kept placed stand ends are m end (members.each m end at))
