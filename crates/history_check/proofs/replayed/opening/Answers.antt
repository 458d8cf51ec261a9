use Rattle.std.proofs.Common.{[], refl, sym, subst}
use Rattle.orca_base.specs.declared.ids.TextNo.{TextNo}
use Rattle.value_core.specs.Datum.{Data}
use Rattle.history_check.proofs.Opening.{no_values, opens}
use Rattle.history_check.proofs.replayed.opening.Goals as goal

pub start-requires : goal.start-requires
start-requires g c =
    let m = c.args.program.now in (
      [],
      subst (λ (t : TextNo). g.P.Performer.fits_text m [] t c.new-args.result) (sym c.main_text-text.ensures)
          (subst (λ (d : Data). g.P.Performer.fits_text m [] (g.P.Processor.computes m).main d) (sym (no_values c.new-args.result c.new-args.ensures)) (g.met.P.Processor.main_fits m [])),
    )

pub returns : goal.returns
returns g c =
    let m = c.args.program.now in
    opens g.row.P-State.Denot (g.P.Processor.stands m) (g.P.Performer.performs m) (g.P.Processor.computes m) (record { objects = c.put.new.self; players = c.push.new.self }) c.main_text-text.result c.new-args.result
    (record { state = c.in_ok-state.state; calls = 0 }) c.new-players.result.items c.in_ok-objects.objects c.main_text-text.ensures (no_values c.new-args.result c.new-args.ensures) refl (c.in_ok-state.ensures {u = tt})
    (c.in_ok-objects.ensures {u = tt}) (c.in_ok-put.ensures {u = tt}).ok c.new-players.ensures.items c.in_ok-push.ensures.items
