-- The opening world and the opening course.
use Rattle.std.proofs.Common.{◌≡◌, ℕ, zero, suc, ◌⊎◌, inl, inr, false, List, [], ◌∷◌, Option, Some, None, refl, sym, ap, ◌∙◌, subst, arith}
use Rattle.std.proofs.lemmas.Bool.{cases_eq}
use Rattle.std.specs.Prelude.{slice_get}
use Rattle.orca_base.specs.declared.what.Choice.{Choice}
use Rattle.value_core.specs.History.{output_object}
use Rattle.book_law.specs.Passes.{Test}
use Rattle.book_law.specs.Course.{Came, opening_course}
use Rattle.book_law.specs.Course.Came.{Opens}
use Rattle.world_rules.specs.Frame.{Frame, choice_in, is_single}
use Rattle.world_rules.specs.Nodes.{opening_node}
use Rattle.world_rules.specs.Played.{Played, newborn}
use Rattle.world_rules.specs.Processes.{Begun, first_process}
use Rattle.world_rules.specs.Worlds.{opening_world}
use Rattle.group_rules.specs.Member.{nobody}
use Rattle.book_law.proofs.Courses.{at_other}
use Rattle.world_course.specs.Corresponds.{Agrees, Corresponds, IsMember, IsOf}
use Rattle.world_course.specs.Errands.{AllStand}
use Rattle.world_course.specs.Law.{OpeningFollows}
use Rattle.world_course.specs.Processes.{IsProcess, as_runner}
use Rattle.world_course.proofs.Silent.{Waits, asks_waits, shares_waits}

-- the output object, whose number is 0, isn't chosen
not_chosen : (choices : Option (List Choice)) → is_single (choice_in choices 0) ≡ false
not_chosen None = refl
not_chosen (Some choices) = refl

output_shared : (f : Frame) (single : Test) → Agrees f single [] → single output_object ≡ false
output_shared f single agrees = agrees output_object (omega arith) ∙ not_chosen (slice_get f.settings.choices f.computes.main.0)

abbrev opens : (f : Frame) (single : Test) → Agrees f single [] → Came single f.performs f.computes (opening_course f.computes 0)
opens f single agrees = Opens 0 (output_shared f single agrees)

member : (f : Frame) (single : Test) (agrees : Agrees f single []) (m : ℕ) → IsMember f single (opening_course f.computes 0) (opens f single agrees) m (opening_node f m)
member f single agrees m = record { applied = refl; entries = refl; copies = refl }

process : (f : Frame) (j : ℕ) (b : Begun) → slice_get (first_process f ∷ []) j ≡ Some b → IsProcess f.computes j b ((opening_course f.computes 0).runners j) (opening_node f b.home)
process f zero b is =
    let e : first_process f ≡ b = cc in
    subst (λ (z : Begun). IsProcess f.computes 0 z ((opening_course f.computes 0).runners 0) (opening_node f z.home)) e
    (record {
      runner = as_runner (first_process f);
      runs = refl;
      member = refl;
      stands = (omega arith, omega arith, record { text = refl; args = refl; replies = refl; place = refl; stage = refl });
    })
process f (suc j) b is = absurd (cc is)

none_plays : (r : Played) (o : Option Played) → o ≡ None → o ≡ Some r → ⊥
none_plays r o none is = let e : None ≡ Some r = sym none ∙ is in absurd (cc e)

plays : (f : Frame) (m j : ℕ) (r : Played) → (opening_node f m).played j ≡ Some r → IsOf f (opening_course f.computes 0) m j
plays f zero zero r is = record { begun = first_process f; there = refl; home = refl }
plays f zero (suc j) r is = absurd (none_plays r ((opening_node f zero).played (suc j)) (at_other nobody 0 (Some (newborn (first_process f))) (suc j) (λ e. absurd (omega (arith, e)))) is)
plays f (suc m) j r is = absurd (none_plays r ((opening_node f (suc m)).played j) refl is)

opening_corresponds : (f : Frame) (single : Test) → Agrees f single [] → Corresponds f single (opening_world f) (opening_course f.computes 0)
opening_corresponds f single agrees = record {
  stands = record {
    came = opens f single agrees;
    test = agrees;
    beside = refl;
    asked = λ x h. absurd h;
    callers = λ n y is. absurd (cc is);
    members = member f single agrees;
    processes = process f;
    played = plays f;
  };
  reached = (0, omega arith);
}

-- nobody waits
computes_first : (f : Frame) (m j : ℕ) (r : Played) → (opening_node f m).played j ≡ Some r → Waits r.stage → ⊥
computes_first f zero j r is waits = go (cases_eq j 0)
  where
    go : (j ≡ 0) ⊎ (j ≡ 0 → ⊥) → ⊥
    go (inl e) =
        let g : Some (newborn (first_process f)) ≡ Some r = sym (ap (opening_node f zero).played e) ∙ is in
        let h : newborn (first_process f) ≡ r = cc in
        subst (λ (z : Played). Waits z.stage) (sym h) waits
    go (inr apart) = none_plays r ((opening_node f zero).played j) (at_other nobody 0 (Some (newborn (first_process f))) j apart) is
computes_first f (suc m) j r is waits = none_plays r ((opening_node f (suc m)).played j) refl is

opening_stands : (f : Frame) (single : Test) → AllStand f single (opening_world f) (opening_course f.computes 0)
opening_stands f single = record {
  nodes = λ m. record {
    held = λ errand is. absurd is;
    given = λ i one is. absurd (cc is);
    asks = λ j r o is at. absurd (computes_first f m j r is (asks_waits r.stage o at));
    shares = λ j r o is at. absurd (computes_first f m j r is (shares_waits r.stage o at));
  };
  travels = λ flight is. absurd is;
  performed = λ r o is calls alone. absurd is;
}

pub opening_follows : (f : Frame) → OpeningFollows f
opening_follows f single agrees = record { corresponds = opening_corresponds f single agrees; errands = opening_stands f single }
