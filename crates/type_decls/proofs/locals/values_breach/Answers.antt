use Rattle.std.proofs.Math.ListN.{drop_of_length-le}
use Rattle.orca_syntax.specs.Syntax.{TypedName}
use Rattle.orca_syntax.specs.Shown.{typed_name}
use Rattle.type_rules.specs.TypePhrases.{data_found}
use Rattle.type_decls.proofs.FirstOnes.{shown_further, shown_end}
use Rattle.type_decls.proofs.locals.values_breach.Goals as goal

pub values-preserved : goal.values-preserved
values-preserved c = λ us t w v.
    shown_further typed_name (λ (u : TypedName). (data_found w u.kind).breaches) c.args.values.now c.values.value-index c.value-item.result c.values.first
    c.in_ok-found.found.first c.lesser-first.result _ c.values-test.true c.value-item.is c.lesser-first.ensures
    ((c.in_ok-found.ensures {u = tt}) us t w v).first (c.values.invariant us t w v)

pub returns : goal.returns
returns c = λ us t w v.
    shown_end typed_name (λ (u : TypedName). (data_found w u.kind).breaches) c.args.values.now c.values.value-index c.values.first _
    (drop_of_length-le c.args.values.now c.values-test.false) (c.values.invariant us t w v)
