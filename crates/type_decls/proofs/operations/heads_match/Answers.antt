use Rattle.std.proofs.Common.{◌≡◌, ℕ, ◌+◌, ◌-◌, Bool, drop, map, sym, ap, subst, ◌∙◌, arith}
use Rattle.std.specs.Prelude.{slice_get}
use Rattle.orca_syntax.specs.Shown.{head, operation}
use Rattle.type_rules.specs.Order.{least}
use Rattle.type_rules.specs.Rules.{asks}
use Rattle.type_rules.specs.Declarations.{heads_match, is_head_of, operation_view}
use Rattle.type_forms.specs.Finding.{FirstOf}
use Rattle.type_decls.proofs.FirstOnes.{first_of_two}
use Rattle.type_decls.proofs.Rows.{head_more}
use Rattle.type_decls.proofs.operations.heads_match.Goals as goal

pub operations-preserved : goal.operations-preserved
operations-preserved c =
    let i = c.operations.left - 1 in
    let x = c.index-operations-left.result in
    let test = c.operations-test.true in
    let le = c.operations.invariant.0 in
    let next : c.operations.left ≡ i + 1 = omega (arith, test) in
    let hs = map head c.args.specified.heads.now in
    let os = c.args.operations.now in (
      omega (arith, test, le),
      (λ us t fs hf hn.
          first_of_two c.asks.result c.operations.first c.lesser-first.result
          (asks 12 x.head.at (is_head_of us (operation_view us c.args.home.now fs (operation x)) c.args.specified.home.now (operation x).head (slice_get hs i)))
          (heads_match us c.args.home.now fs c.args.specified.home.now (drop (i + 1) hs) (map operation (drop (i + 1) os))) c.lesser-first.ensures
          (c.asks.ensures ∙ ap (λ (b : Bool). least (asks 12 x.head.at b)) ((c.in_ok-matches.ensures {u = tt}).matched us t fs hf (c.operations.invariant.2 fs hf hn)))
          (subst (λ (k : ℕ). FirstOf c.operations.first (heads_match us c.args.home.now fs c.args.specified.home.now (drop k hs) (map operation (drop k os)))) next
          (c.operations.invariant.1 us t fs hf hn))
          ∙ ap least (sym (head_more us c.args.home.now fs c.args.specified.home.now hs os i x (omega (arith, test, le)) c.index-operations-left.is))),
      (λ fs hf hn. (c.in_ok-matches.ensures {u = tt}).names fs hf (c.operations.invariant.2 fs hf hn)),
    )
