-- Instructions of variables, as far as their operands are taken.
use Rattle.std.proofs.Common.{◌≡◌, ℕ, List, [], ◌∷◌, Some, true, false, ap, ◌∙◌}
use Rattle.value_core.specs.Datum.{Datum}
use Rattle.value_paths.specs.declared.step.Step.{Step as ValueStep}
use Rattle.value_paths.specs.Paths.{part_at}
use Rattle.meaning_rules.specs.Variables.{drop_element, put, store, take}
use Rattle.code_rules.specs.Instructions.{Mark}
use Rattle.code_rules.specs.Instructions as rules
use Rattle.code_rules.specs.Machine.{Code, Config, Stuck, act, at_state, indices, into, next, on_out, on_result, on_top, pops, pushes, read, steps_by, to}
use Rattle.code_steps.specs.Moves.{holding}
use Rattle.code_steps.specs.Pops.{PopsPath}

module _ (code : Code) (home : Config) (slot : ℕ) (marks : List Mark) (old mid st locals : List Datum) (path : List ValueStep) (x : Datum) where
  -- a value from a path
  pub gets : PopsPath marks old true st path → act code (Some (rules.Get slot marks)) (holding home old locals) ≡
      on_result (read slot path locals) (λ y. pushes (holding home old locals) st y locals)
  gets p = p (λ q stack. on_result (read slot q locals) (λ y. pushes (holding home old locals) stack y locals))

  pub gets_not : PopsPath marks old false st path → act code (Some (rules.Get slot marks)) (holding home old locals) ≡ Stuck
  gets_not p = p (λ q stack. on_result (read slot q locals) (λ y. pushes (holding home old locals) stack y locals))

  -- a part of a constant
  pub parts : PopsPath marks old true st path → act code (Some (rules.Part x marks)) (holding home old locals) ≡
      on_result (part_at path x) (λ y. pushes (holding home old locals) st y locals)
  parts p = p (λ q stack. on_result (part_at q x) (λ y. pushes (holding home old locals) stack y locals))

  pub parts_not : PopsPath marks old false st path → act code (Some (rules.Part x marks)) (holding home old locals) ≡ Stuck
  parts_not p = p (λ q stack. on_result (part_at q x) (λ y. pushes (holding home old locals) stack y locals))

  -- an assignment: the value stands above the path's indices
  pub assigns : old ≡ x ∷ mid → PopsPath marks mid true st path → act code (Some (rules.Put slot marks)) (holding home old locals) ≡
      on_out (store (to slot path) x (at_state locals)) (λ u after. next (holding home old locals) st after)
  assigns is p =
      ap (λ w. on_top w (λ y rest. pops (indices marks) rest [] (λ xs stack. into store slot (steps_by marks xs) y (holding home old locals) stack))) is
      ∙ p (λ q stack. into store slot q x (holding home old locals) stack)

  pub assigns_not : old ≡ x ∷ mid → PopsPath marks mid false st path → act code (Some (rules.Put slot marks)) (holding home old locals) ≡ Stuck
  assigns_not is p =
      ap (λ w. on_top w (λ y rest. pops (indices marks) rest [] (λ xs stack. into store slot (steps_by marks xs) y (holding home old locals) stack))) is
      ∙ p (λ q stack. into store slot q x (holding home old locals) stack)

  pub assigns_none : old ≡ [] → act code (Some (rules.Put slot marks)) (holding home old locals) ≡ Stuck
  assigns_none is = ap (λ w. on_top w (λ y rest. pops (indices marks) rest [] (λ xs stack. into store slot (steps_by marks xs) y (holding home old locals) stack))) is

  -- an element comes to a set or bag: it stands beneath the path's indices
  pub inserts : PopsPath marks old true mid path → mid ≡ x ∷ st → act code (Some (rules.Insert slot marks)) (holding home old locals) ≡
      on_out (put (to slot path) x (at_state locals)) (λ u after. next (holding home old locals) st after)
  inserts p is =
      p (λ q rest. on_top rest (λ y stack. into put slot q y (holding home old locals) stack))
      ∙ ap (λ w. on_top w (λ y stack. into put slot path y (holding home old locals) stack)) is

  pub inserts_not : PopsPath marks old false mid path → act code (Some (rules.Insert slot marks)) (holding home old locals) ≡ Stuck
  inserts_not p = p (λ q rest. on_top rest (λ y stack. into put slot q y (holding home old locals) stack))

  pub inserts_none : PopsPath marks old true mid path → mid ≡ [] → act code (Some (rules.Insert slot marks)) (holding home old locals) ≡ Stuck
  inserts_none p is =
      p (λ q rest. on_top rest (λ y stack. into put slot q y (holding home old locals) stack))
      ∙ ap (λ w. on_top w (λ y stack. into put slot path y (holding home old locals) stack)) is

  -- an element goes
  pub deletes : PopsPath marks old true mid path → mid ≡ x ∷ st → act code (Some (rules.Delete slot marks)) (holding home old locals) ≡
      on_out (drop_element (to slot path) x (at_state locals)) (λ u after. next (holding home old locals) st after)
  deletes p is =
      p (λ q rest. on_top rest (λ y stack. into drop_element slot q y (holding home old locals) stack))
      ∙ ap (λ w. on_top w (λ y stack. into drop_element slot path y (holding home old locals) stack)) is

  pub deletes_not : PopsPath marks old false mid path → act code (Some (rules.Delete slot marks)) (holding home old locals) ≡ Stuck
  deletes_not p = p (λ q rest. on_top rest (λ y stack. into drop_element slot q y (holding home old locals) stack))

  pub deletes_none : PopsPath marks old true mid path → mid ≡ [] → act code (Some (rules.Delete slot marks)) (holding home old locals) ≡ Stuck
  deletes_none p is =
      p (λ q rest. on_top rest (λ y stack. into drop_element slot q y (holding home old locals) stack))
      ∙ ap (λ w. on_top w (λ y stack. into drop_element slot path y (holding home old locals) stack)) is

  -- the least element goes
  pub takes : PopsPath marks old true st path → act code (Some (rules.Least slot marks)) (holding home old locals) ≡
      on_out (take (to slot path) (at_state locals)) (λ y after. pushes (holding home old locals) st y after)
  takes p = p (λ q stack. on_out (take (to slot q) (at_state locals)) (λ y after. pushes (holding home old locals) stack y after))

  pub takes_not : PopsPath marks old false st path → act code (Some (rules.Least slot marks)) (holding home old locals) ≡ Stuck
  takes_not p = p (λ q stack. on_out (take (to slot q) (at_state locals)) (λ y after. pushes (holding home old locals) stack y after))
