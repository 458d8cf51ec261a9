-- A tick of a stretch: the Ask of each process that asks an owner elsewhere goes again.
use Rattle.std.proofs.Common.{◌≡◌, ◌<◌, ℕ, true, false, Some, List, length, sym, ap, ◌∙◌, arith, subst}
use Rattle.std.proofs.lemmas.Bool.{cond_both, lt-ltb}
use Rattle.orca_base.specs.declared.ids.ObjectId.{ObjectId}
use Rattle.value_core.specs.declared.action.Action.{Action}
use Rattle.book_law.specs.Events.{Calls}
use Rattle.group_rules.specs.Steps.{timer}
use Rattle.net_rules.specs.Flights.{ticked}
use Rattle.world_rules.specs.Frame.{Frame, group}
use Rattle.world_rules.specs.Nodes.{Node, NodeWork, idle, joins, known, mails_of}
use Rattle.world_rules.specs.Parts.{asks_again, asks_below, catches_up, ticks}
use Rattle.world_rules.specs.Played.{Played}
use Rattle.world_rules.specs.Played.Stage.{Asking, Computing}
use Rattle.world_rules.specs.Processes.{Begun, home_in, owner_in}
use Rattle.world_rules.specs.Steps.{passes_tick}
use Rattle.world_rules.specs.Worlds.{World, home_of, processes_of}
use Rattle.world_law.specs.Holds.{Holds}
use Rattle.world_idle.specs.Stretches.{AllInside, AllSame}
use Rattle.world_idle.proofs.Acted.{below_posts}
use Rattle.world_law.proofs.AtWork.{both_true}
use Rattle.world_idle.proofs.Catching.{catches_same}
use Rattle.world_idle.proofs.Moving.{Laws}
use Rattle.world_law.proofs.Onwards.{on_catches}
use Rattle.world_idle.proofs.Owed.{Caught, part_mails}
use Rattle.world_idle.proofs.OwnSteps.{again_node}
use Rattle.world_idle.proofs.Rows.{timer_applied}
use Rattle.world_idle.proofs.Sent.{stayed}
use Rattle.world_idle.proofs.SingleEvents.{ticks_mails}
use Rattle.world_idle.proofs.Taking.{AskFor, Has, MailTo, known_same}
use Rattle.world_idle.proofs.Ticking.{timed}

asking_now : (r : Played) (act : Action) → r.stage ≡ Asking act → r.stage ≡ Computing → ⊥
asking_now r act e d = let c : Asking act ≡ Computing = sym e ∙ d in cc c

-- ---- a tick: each process's Ask goes again

module _ (f : Frame) (laws : Laws f) (w v : World) (nodes : v.nodes ≡ (passes_tick f w).world.nodes) (holds : Holds f w) (after : Holds f v) (same : AllSame f w v) (inside : AllInside f v)
    (h : ℕ) (low : h < f.settings.nodes) (live : w.lives h ≡ true) (knows : known f (v.nodes h) ≡ processes_of f v) where
  abbrev first : NodeWork
  first = asks_again f h (joins (timer (group f) h (w.nodes h).member) (idle (w.nodes h)))

  again : (asks_again f h (joins (timer (group f) h (w.nodes h).member) (idle (w.nodes h)))).node ≡ (joins (timer (group f) h (w.nodes h).member) (idle (w.nodes h))).node
  again = again_node f h (joins (timer (group f) h (w.nodes h).member) (idle (w.nodes h)))

  ran : v.nodes h ≡ (ticks f h (w.nodes h)).node
  ran = ap (λ (z : ℕ → Node). z h) nodes ∙ (timed f (record w { flights = ticked w.flights }) f.settings.nodes).ran h low live

  noted : (catches_up f h (asks_again f h (joins (timer (group f) h (w.nodes h).member) (idle (w.nodes h))))).node.member.applied ≡ (asks_again f h (joins (timer (group f) h (w.nodes h).member) (idle (w.nodes h)))).node.member.applied
  noted = ap (λ (z : Node). z.member.applied) (sym ran) ∙ (same h low).applied
      ∙ sym (timer_applied f w h laws.steps laws.small holds.grouped (both_true _ _ (lt-ltb h f.settings.nodes low) live))
      ∙ ap (λ (z : Node). z.member.applied) (sym again)

  member : (ticks f h (w.nodes h)).node.member ≡ (joins (timer (group f) h (w.nodes h).member) (idle (w.nodes h))).node.member
  member = (catches_same f h (asks_again f h (joins (timer (group f) h (w.nodes h).member) (idle (w.nodes h)))) noted).member ∙ ap (λ (z : Node). z.member) again

  inside_here : (ticks f h (w.nodes h)).node.member.outside ≡ false
  inside_here = ap (λ (z : Node). z.member.outside) (sym ran) ∙ inside h low

  applied : (w.nodes h).copies.applied ≡ (ticks f h (w.nodes h)).node.copies.applied
  applied = sym (holds.grouped.level h) ∙ sym (same h low).applied ∙ after.grouped.level h ∙ ap (λ (z : Node). z.copies.applied) ran

  knows_joined : known f (joins (timer (group f) h (w.nodes h).member) (idle (w.nodes h))).node ≡ processes_of f v
  knows_joined = known_same f (joins (timer (group f) h (w.nodes h).member) (idle (w.nodes h))).node (ticks f h (w.nodes h)).node (sym member) applied ∙ ap (known f) (sym ran) ∙ knows

  module _ (i : ℕ) (r : Played) (act : Action) (o : ObjectId) (here : (v.nodes h).played i ≡ Some r) (is : r.stage ≡ Asking act) (calls : Calls act o) (home : home_of f v i ≡ h) (other : h ≡ owner_in (processes_of f v) o → ⊥) where
    there : (ticks f h (w.nodes h)).node.played i ≡ Some r
    there = ap (λ (z : Node). z.played i) (sym ran) ∙ here

    was : (w.nodes h).played i ≡ Some r
    was = ap (λ (z : Node). z.played i) (sym again)
        ∙ stayed first.node.copies.processes i (first.node.played i) ((catches_up f h first).node.played i) r ((on_catches f h first).each i) there (asking_now r act is)

    counted : i < (w.nodes h).copies.processes
    counted = let l = (holds.home h).known_here i r was in let e = (holds.home h).counted in omega (arith, l, e)

    caught : Caught f h i h first
    caught = record { inside = inside_here; home = ap (λ (z : Node). home_in (known f z) i) (sym ran) ∙ ap (λ (z : List Begun). home_in z i) knows ∙ home }

    posted : Has (MailTo (owner_in (processes_of f v) o) (AskFor i (length r.replies))) (mails_of (asks_below f h (w.nodes h).copies.processes (joins (timer (group f) h (w.nodes h).member) (idle (w.nodes h)))).deeds)
    posted = subst (λ (z : List Begun). Has (MailTo (owner_in z o) (AskFor i (length r.replies))) (mails_of (asks_below f h (w.nodes h).copies.processes (joins (timer (group f) h (w.nodes h).member) (idle (w.nodes h)))).deeds)) knows_joined
        (below_posts f h (w.nodes h).copies.processes i r act o (joins (timer (group f) h (w.nodes h).member) (idle (w.nodes h))) counted was is calls (λ d. other (sym d ∙ ap (λ (z : List Begun). owner_in z o) knows_joined)))

    begins : Has (MailTo (owner_in (processes_of f v) o) (AskFor i (length r.replies))) (mails_of first.deeds)
    begins = cond_both (joins (timer (group f) h (w.nodes h).member) (idle (w.nodes h))).node.member.outside (joins (timer (group f) h (w.nodes h).member) (idle (w.nodes h))) (asks_below f h (w.nodes h).copies.processes (joins (timer (group f) h (w.nodes h).member) (idle (w.nodes h))))
        (λ (z : NodeWork). Has (MailTo (owner_in (processes_of f v) o) (AskFor i (length r.replies))) (mails_of z.deeds))
        (λ e. let c : true ≡ false = sym e ∙ ap (λ t. t.outside) (sym member) ∙ inside_here in absurd (cc c)) (λ e. posted)

    pub tick_mail : Has (MailTo (owner_in (processes_of f v) o) (AskFor i (length r.replies))) (passes_tick f w).mails
    tick_mail = ticks_mails f (record w { flights = ticked w.flights }) (MailTo (owner_in (processes_of f v) o) (AskFor i (length r.replies))) f.settings.nodes h low live
        (part_mails f h i (length r.replies) h first caught (MailTo (owner_in (processes_of f v) o) (AskFor i (length r.replies))) begins)
