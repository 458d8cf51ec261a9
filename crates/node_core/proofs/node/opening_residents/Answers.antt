use Rattle.std.proofs.Common.{◌++◌, ◌∷◌, [], List, Option, Some, ap, sym, subst, ◌∙◌, arith}
use Rattle.orca_base.specs.declared.ids.TextNo.{TextNo}
use Rattle.value_core.specs.Datum.{Data}
use Rattle.value_core.specs.Datum as datum
use Rattle.value_core.specs.Meaning.{Computes}
use Rattle.node_parts.specs.declared.resident.Resident.{Resident}
use Rattle.node_core.proofs.Keeping.{opened_none}
use Rattle.node_core.proofs.TakingIn.{no_values, opens_here}
use Rattle.node_core.proofs.node.opening_residents.Goals as goal

pub start-requires : goal.start-requires
start-requires g c =
    let m = c.args.machine.now in (
      [],
      subst (λ (t : TextNo). g.P.Performer.fits_text m [] t c.new-args.result) (sym c.requires)
          (subst (λ (d : Data). g.P.Performer.fits_text m [] (g.P.Processor.computes m).main d) (sym (no_values c.new-args.result c.new-args.ensures)) (g.met.P.Processor.main_fits m [])),
    )

pub returns-clause-opens : goal.returns-clause-opens
returns-clause-opens g c i =
    let m = c.args.machine.now in
    opens_here g.P.OneRun.stood g.P.OneRun.left g.P.OneRun.run.frame c.args.me i c.in_ok-state.state c.in_ok-newborn.field-0 c.push.new.self.items (omega arith)
    (c.in_ok-newborn.ensures {u = tt})
    ((c.in_ok-push.ensures {u = tt}).items ∙ ap (λ (l : List (Option (Resident g.row.P-State.Denot))). l ++ Some c.in_ok-newborn.field-0 ∷ []) c.new-residents.ensures.items)
    (subst (λ (t : TextNo). g.P.OneRun.stood c.in_ok-state.state t (record { 0 = 0 }) datum.none [] 0) (c.requires ∙ ap (λ (q : Computes). q.main) (g.met.P.OneRun.computes_run m))
    (subst (λ (d : Data). g.P.OneRun.stood c.in_ok-state.state c.args.text (record { 0 = 0 }) d [] 0) (no_values c.new-args.result c.new-args.ensures)
    (g.met.P.OneRun.stands_stood m c.in_ok-state.state c.args.text (record { 0 = 0 }) c.new-args.result [] 0 (c.in_ok-state.ensures {u = tt}))))

pub returns-clause-out : goal.returns-clause-out
returns-clause-out g c =
    opened_none c.push.new.self.items c.in_ok-newborn.field-0
    ((c.in_ok-push.ensures {u = tt}).items ∙ ap (λ (l : List (Option (Resident g.row.P-State.Denot))). l ++ Some c.in_ok-newborn.field-0 ∷ []) c.new-residents.ensures.items)
    (ap (λ r. r.out) (c.in_ok-newborn.ensures {u = tt}))
