-- A process submits its next action: what is kept stays kept. And the opening.
use Rattle.std.proofs.Common.{inl, ◌≡◌, ◌+◌, true, false, ℕ, zero, suc, ⊎_elim, Option, Some, None, List, [], refl, sym, ap, ◌∙◌, arith, subst}
use Rattle.std.proofs.lemmas.Bool.{cases_eq}
use Rattle.value_core.specs.Datum as datum
use Rattle.value_core.specs.declared.action.Line.{Line}
use Rattle.value_core.specs.declared.message.Message.{Message}
use Rattle.value_core.specs.Meaning.{Performs, Computes}
use Rattle.value_core.specs.declared.action.Instance.{Instance}
use Rattle.value_core.specs.History.{after_lines, object_at, opening, output_kind, output_object}
use Rattle.orca_base.specs.declared.ids.ObjectId.{ObjectId}
use Rattle.object_manager.specs.After.{Copied, opening_copies}
use Rattle.book_law.specs.Passes.{Test, after_all}
use Rattle.book_law.specs.Book.{Placed, behind, copies_at, up_to}
use Rattle.book_law.specs.Singles.{Single, waiting, waits}
use Rattle.book_law.specs.Events.{Asks, Runner, asking, newborn}
use Rattle.book_law.specs.Promise.{Follows}
use Rattle.book_law.proofs.Kept.{Kept, Stands}
use Rattle.book_law.proofs.Kept.Stage.{Free, Sent}
use Rattle.book_law.proofs.Hearing.{changes}
use Rattle.book_law.proofs.Stages.{not_both, stage_free}
use Rattle.book_law.proofs.Typed.{at_with}

pub submits : (single : Test) (p : Performs) (q : Computes) (list : List Message) (aside : List Placed) (owned : List Single) (seen : List Message) (applied : ℕ → ℕ) (runners more : ℕ → Option Runner) (j : ℕ) (x : Runner) (m : Message) → runners j ≡ Some x → x.message ≡ None → Asks q j x m
    → more j ≡ Some (asking m x) → ((i : ℕ) → (i ≡ j → ⊥) → more i ≡ runners i)
    → Kept single p q list aside owned seen applied runners → Kept single p q list aside owned seen applied more
submits single p q list aside owned seen applied runners more j x m here free asks now rest k = changes single p q list aside owned seen applied runners more j x (asking m x) here now rest (inl refl) new k
  where
    s : Stands single p q list aside owned seen (applied x.member) j x
    s = k.stands j x here

    new : Stands single p q list aside owned seen (applied x.member) j (asking m x)
    new =
        let f = stage_free seen x.message x.answer (waiting j (after_all single p opening_copies list).queue + waits j owned) s.awaited free s.stage in
        record {
          awaited = s.awaited;
          process = s.process;
          since = s.since;
          unseen = s.unseen;
          quiet = s.quiet;
          answer = s.answer;
          there = s.there;
          early = s.early;
          asks = λ n e. let g : m ≡ n = cc in subst (λ (o : Message). Asks q j (asking m x) o) g (record { process = asks.process; call = asks.call; next = asks.next });
          earlier = λ z h g. inl (⊎_elim (λ u. u) (λ u. absurd (not_both x.message z free u)) (s.earlier z h g));
          stage = Sent m refl f.2 (λ h. ⊎_elim (λ u. let a = asks.call in absurd (omega (arith, a, u))) (λ u. not_both x.message m free u) (s.earlier m h asks.process)) f.0 f.1;
        }

-- ---- the opening

up_to_none : (single : Test) (p : Performs) (n : ℕ) → up_to single p [] [] n ≡ []
up_to_none single p zero = refl
up_to_none single p (suc n) = refl

copies_none : (single : Test) (p : Performs) (n : ℕ) → copies_at single p [] n ≡ opening_copies
copies_none single p zero = refl
copies_none single p (suc n) = refl

behind_none : (single : Test) (p : Performs) (n : ℕ) → behind single p [] [] n ≡ []
behind_none single p zero = refl
behind_none single p (suc n) = refl

pub opened : (single : Test) (p : Performs) (q : Computes) (runners : ℕ → Option Runner) (member : ℕ) → single output_object ≡ false → runners 0 ≡ Some (newborn member q.main datum.none 0) → ((i : ℕ) → (i ≡ 0 → ⊥) → runners i ≡ None) → Kept single p q [] [] [] [] (λ m. 0) runners
opened single p q runners member shared first rest = record {
  legal = tt;
  follows = λ n. subst (λ (c : Copied). Follows single p q (up_to single p [] [] n) c) (sym (copies_none single p n)) (subst (λ (ls : List Line). Follows single p q ls opening_copies) (sym (up_to_none single p n)) (record { objects = λ o h. refl; processes = refl }));
  next = λ call h. absurd h;
  shared = λ call h. absurd h;
  once = λ j. omega arith;
  within = λ m. omega arith;
  held = λ n lt. refl;
  unborn = λ j n le. refl;
  listed = λ y h. absurd h;
  counts = refl;
  distinct = λ i k x y is. absurd (cc is);
  known = λ n o kept is u. absurd (none o kept is (ap (λ (ls : List Line). object_at (after_lines p (opening q) ls).objects o) (sym (up_to_none single p n)) ∙ u));
  owns = λ i x is. absurd (cc is);
  stands = λ i y there. ⊎_elim (own i y there) (λ apart. absurd (let e : None ≡ Some y = sym (rest i apart) ∙ there in cc e)) (cases_eq i 0);
}
  where
    none : (o : ObjectId) (kept : Instance) → single o ≡ true → object_at (opening q).objects o ≡ Some kept → ⊥
    none o kept is u = ⊎_elim
        (λ v. let e : true ≡ false = sym is ∙ ap single v.0 ∙ shared in absurd (cc e))
        (λ v. absurd (let e : None ≡ Some kept = sym v ∙ u in cc e))
        (at_with [] output_object (record { kind = output_kind; state = datum.none }) o)

    one : Stands single p q [] [] [] [] 0 0 (newborn member q.main datum.none 0)
    one = record {
      awaited = [];
      process = refl;
      since = refl;
      unseen = refl;
      quiet = λ n lt. refl;
      answer = tt;
      there = omega arith;
      early = omega arith;
      asks = λ m e. absurd (cc e);
      earlier = λ y h f. absurd h;
      stage = Free refl refl refl refl;
    }

    own : (i : ℕ) (y : Runner) → runners i ≡ Some y → i ≡ 0 → Stands single p q [] [] [] [] 0 i y
    own i y there is =
        let g : Some (newborn member q.main datum.none 0) ≡ Some y = sym first ∙ ap runners (sym is) ∙ there in
        let h : newborn member q.main datum.none 0 ≡ y = cc in
        subst (λ (z : Runner). Stands single p q [] [] [] [] 0 i z) h (subst (λ (n : ℕ). Stands single p q [] [] [] [] 0 n (newborn member q.main datum.none 0)) (sym is) one)
