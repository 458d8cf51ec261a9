use Rattle.std.proofs.Common.{◌≡◌, ℕ, zero, drop, map, subst, arith}
use Rattle.orca_syntax.specs.Shown.{typed_name}
use Rattle.type_rules.specs.TypePhrases.{record_of}
use Rattle.type_forms.specs.Finding.{Finds}
use Rattle.type_forms.specs.Measures.{cut_found, declared_in}
use Rattle.type_forms.proofs.records.record_of.Goals as goal

pub returns : goal.returns
returns c = λ us f w v.
    let none : c.fields.left ≡ zero = omega (arith, c.fields-test.false) in
    subst (λ (k : ℕ). Finds c.fields.found (cut_found (record_of (declared_in c.args.forms.types.now) w c.args.number (map typed_name (drop k c.args.fields.now)))))
    none (c.fields.invariant.1 us f w v)
