use Rattle.std.proofs.Common.{◌≡◌, drop}
use Rattle.std.specs.List.{list_all}
use Rattle.type_forms.specs.Settled.{is_settled}
use Rattle.type_forms.proofs.settled.are_settled.Given as goal

abbrev pub invariant-parts : goal.invariant-parts
invariant-parts l = list_all (is_settled l.settled) (drop l.part-index l.parts) ≡ list_all (is_settled l.settled) l.parts
