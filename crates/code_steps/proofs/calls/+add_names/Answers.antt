use Rattle.std.proofs.Common.{◌≡◌, ◌++◌, List, length, map, subst, arith, rules}
use Rattle.std.proofs.lemmas.Bool.Decides.{nat_tests}
use Rattle.value_core.specs.Datum.{Datum, list_of}
use Rattle.value_core.specs.View.{datum_of}
use Rattle.code_steps.proofs.Entering.{names_all}
use Rattle.std.specs.Prelude.{OnOk}
use Rattle.code_steps.proofs.calls.+add_names.Goals as goal

pub returns-in-len1-up-empty : goal.returns-in-len1-up-empty
returns-in-len1-up-empty t c =
    let none : length c.args.args.now ≡ 0 = first_of (grind arith, grind (arith, nat_tests), omega arith, search rules) in
    subst (λ (zs : List Datum). OnOk c.add_copies.result (list_of c.add_copies.new.all ≡ list_of c.args.all.now ++ zs)) (names_all (map datum_of c.args.opens.now) c.args.args.now none) c.add_copies.ensures
