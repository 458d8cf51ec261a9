-- A burst: its process doesn't wait at its end, and Asks and Answers stand.
use Rattle.std.proofs.Common.{◌≡◌, ◌≤◌, ℕ, inl, ⊎_elim, true, false, List, [], ◌∷◌, Some, refl, sym, ap, ◌∙◌, subst}
use Rattle.orca_base.specs.declared.ids.ObjectId.{ObjectId}
use Rattle.orca_base.specs.declared.ids.ProcessNo.{ProcessNo}
use Rattle.value_core.specs.declared.action.Action.{Action}
use Rattle.value_core.specs.declared.action.Action.TheVariants as action
use Rattle.value_core.specs.declared.action.Line.{Line}
use Rattle.value_core.specs.declared.processor.Halt.{Halt}
use Rattle.value_core.specs.declared.processor.Halt.TheVariants as halt
use Rattle.value_core.specs.History.{Objects}
use Rattle.group_rules.specs.Sets.{with_at}
use Rattle.book_law.specs.Passes.{Test}
use Rattle.book_law.specs.Course.{Course}
use Rattle.book_law.specs.Events.{Calls, In}
use Rattle.book_law.specs.Fitness.{ArgsFit, StateFits}
use Rattle.book_law.specs.Performed.{placed}
use Rattle.book_law.specs.declared.placing.Placed.{Placed}
use Rattle.book_law.proofs.Fits.{ReplyFits, TextFits}
use Rattle.book_law.proofs.Objects.{in_append}
use Rattle.book_law.proofs.Replying.{in_placed}
use Rattle.world_rules.specs.Bursts.{Ran, reads_on}
use Rattle.world_rules.specs.Frame.{Frame}
use Rattle.world_rules.specs.Mail.{Mail}
use Rattle.world_rules.specs.Nodes.{Node, NodeWork, aside_of, does, idle, mails_of}
use Rattle.world_rules.specs.Nodes.Deed.{Performs}
use Rattle.world_rules.specs.Parts.{computes, performs_all}
use Rattle.world_rules.specs.Played.{Played, at_action, stage_at}
use Rattle.world_rules.specs.Steps.{Burst, IsBurst, bursts}
use Rattle.world_rules.specs.Worlds.{World, home_of}
use Rattle.world_course.specs.Corresponds.{Lifts}
use Rattle.world_course.specs.Errands.{Follows, NodeStands}
use Rattle.world_course.specs.Works.{at_work}
use Rattle.world_course.proofs.Carrying.{Carries, CarriesOn, carry, node_later, own_node}
use Rattle.world_course.proofs.Doing.{set_or_old}
use Rattle.world_course.proofs.Later.{Later, leads_later}
use Rattle.world_course.proofs.Lifting.{BurstLifts, burst_lifts, performs_aside, performs_node}
use Rattle.world_course.proofs.Parts.{idle_carries}
use Rattle.world_course.proofs.Program.{Program}
use Rattle.world_course.proofs.Silent.{Waits, asks_waits, shares_waits}

action_rests : (a : Action) → Waits (at_action a) → ⊥
action_rests (action.Make kind object) waits = waits
action_rests (action.Call kind op object args) waits = waits
action_rests (action.Fork text args place_on) waits = waits
action_rests action.Ended waits = waits
action_rests (action.Faulted fault) waits = waits

halt_rests : (h : Halt) → Waits (stage_at h) → ⊥
halt_rests (halt.At a) waits = action_rests a waits
halt_rests halt.Paused waits = waits

ran_rests : (f : Frame) (objects : Objects) (place : ℕ) (i : ProcessNo) (last : ℕ) (r : Played) (lines : List Line) (end : Played) → Ran f objects place i last r lines end → Waits end.stage → ⊥
ran_rests f objects place i last r [] end (at_halt, used, halts, ends, is) waits = halt_rests at_halt (subst Waits (ap (λ (z : Played). z.stage) is) waits)
ran_rests f objects place i last r (line ∷ lines) end (act, used, halts, ans, is, rest) waits = ran_rests f objects place i last (reads_on place used line r) lines end rest waits

-- ---- the work of a burst

performs_mails : (n : ℕ) (lines : List Line) (v : NodeWork) → mails_of (performs_all n lines v).deeds ≡ mails_of v.deeds
performs_mails n [] v = refl
performs_mails n (line ∷ lines) v = performs_mails n lines (does (Performs (record { place = n; line = line })) v)

ended_node : (f : Frame) (single : Test) (c : Course) (m i : ℕ) (end : Played) (node : Node) → (Waits end.stage → ⊥) → NodeStands f single c m node → NodeStands f single c m (record node { played = with_at node.played i (Some end) })
ended_node f single c m i end node rests n = record {
  held = n.held;
  given = n.given;
  asks = λ j s o is at. ⊎_elim
      (λ e. absurd (rests (subst Waits (ap (λ (z : Played). z.stage) (sym e)) (asks_waits s.stage o at))))
      (λ old. let a = n.asks j s o old at in record { alone = a.alone; maker = a.maker })
      (set_or_old i end node.played j s is);
  shares = λ j s o is at. ⊎_elim
      (λ e. absurd (rests (subst Waits (ap (λ (z : Played). z.stage) (sym e)) (shares_waits s.stage o at))))
      (λ old. n.shares j s o old at)
      (set_or_old i end node.played j s is);
}

burst_carries : (f : Frame) (single : Test) (w : World) (c : Course) (m i place : ℕ) (lines : List Line) (end : Played) → Follows f single w c → (Waits end.stage → ⊥) → Lifts f single c (at_work f m w (computes i place lines end (w.nodes m)))
    → ((l : Line) (o : ObjectId) → In l lines → Calls l.action o → single o ≡ false) → CarriesOn f single w c m (computes i place lines end (w.nodes m))
burst_carries f single w c m i place lines end h rests (d, leads, corresponds) shared = (
  d,
  leads,
  carry f single w c d m (idle (w.nodes m)) u k (record {
    corresponds = corresponds;
    later = later;
    node = subst (λ (n : Node). NodeStands f single d m (record n { played = with_at n.played i (Some end) })) (sym same)
        (ended_node f single d m i end (w.nodes m) rests (node_later f single c d m (w.nodes m) later (own_node f single w c m (idle (w.nodes m)) k)));
    mails = λ mail is. inl (subst (λ (l : List Mail). In mail l) (performs_mails place lines (idle (w.nodes m))) is);
    beside = λ r o is calls alone. ⊎_elim (λ old. inl old)
        (λ new. let e : true ≡ false = sym alone ∙ shared r.line o (in_placed place r lines new).1 calls in absurd (cc e))
        (in_append r (aside_of (idle (w.nodes m)).deeds) (placed place lines) (subst (λ (l : List Placed). In r l) (performs_aside place lines (idle (w.nodes m))) is));
    given = λ r is g. record { given = g.given; there = ap (λ (n : Node). n.given r.line.process.0) same ∙ g.there; call = g.call };
  }),
)
  where
    u : NodeWork
    u = computes i place lines end (w.nodes m)

    same : (performs_all place lines (idle (w.nodes m))).node ≡ w.nodes m
    same = performs_node place lines (idle (w.nodes m))

    k : Carries f single w c m (idle (w.nodes m))
    k = idle_carries f single w c m h

    later : Later f c d
    later = let z = h.corresponds in let st = z.stands in leads_later f single c d st.came leads

pub burst_part : (f : Frame) (single : Test) (fits_state : StateFits) (fits_args : ArgsFit) (fits_text : TextFits) (fits_reply : ReplyFits) (w : World) (c : Course) (i : ProcessNo) (place turns : ℕ) (burst : Burst)
    → Program f fits_state fits_args fits_text fits_reply → Follows f single w c → (w.nodes (home_of f w i.0)).member.applied ≤ (w.nodes (home_of f w i.0)).copies.applied → IsBurst f w i place turns burst
    → CarriesOn f single w c (home_of f w i.0) (computes i.0 place burst.reads burst.end (w.nodes (home_of f w i.0)))
burst_part f single fits_state fits_args fits_text fits_reply w c i place turns burst program h noted b =
    let l : BurstLifts f single c (bursts f w i place burst).world burst.reads = burst_lifts f single fits_state fits_args fits_text fits_reply w c i place turns burst program h.corresponds noted b in
    burst_carries f single w c (home_of f w i.0) i.0 place burst.reads burst.end h (ran_rests f _ place i _ b.start burst.reads burst.end b.ran) l.lifts l.shared
