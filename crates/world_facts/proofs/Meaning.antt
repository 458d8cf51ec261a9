-- Where a process stands at the end is what it does next after its replies, however many turns it may take.
use Rattle.std.proofs.Common.{◌≡◌, ◌≤◌, ◌+◌, ◌-◌, ℕ, Bool, true, false, List, refl, sym, ap, ◌∙◌, arith, subst}
use Rattle.orca_base.specs.declared.ids.ProcessNo.{ProcessNo}
use Rattle.orca_base.specs.declared.ids.TextNo.{TextNo}
use Rattle.value_core.specs.Datum.{Data}
use Rattle.value_core.specs.History.{most_turns}
use Rattle.value_core.specs.Lawful.{next_of}
use Rattle.value_core.specs.Meaning.{Computes}
use Rattle.value_core.specs.declared.action.Action.{Action}
use Rattle.value_core.specs.declared.action.Action.TheVariants as action
use Rattle.value_core.specs.declared.action.Reply.{Reply}
use Rattle.value_core.specs.declared.meaning.Doing.{Doing}
use Rattle.value_core.specs.declared.meaning.Doing.TheVariants as doing
use Rattle.world_rules.specs.Frame.{Frame}
use Rattle.world_rules.specs.Played.{Played, Stage}
use Rattle.world_rules.specs.Played.Stage.{Computing, Acting, Submitted, Reading, Asking, Over}
use Rattle.world_rules.specs.Worlds.{home_of}
use Rattle.world_facts.specs.Ends.{EndsMean, StandsBy, end_at, end_over, process_end}
use Rattle.world_facts.specs.Processes.{DoesNext, StandsAt, is_last}
use Rattle.world_facts.proofs.Ends.{stand_is}
use Rattle.world_facts.proofs.Processes.{all_stand}

-- what a process does next, once it isn't busy, stays
abbrev pub Stays : Computes → Type 0
Stays q =
    (text : TextNo) (number : ProcessNo) (args : Data) (replies : List Reply) (n k : ℕ) →
    (q.doing text number args replies n ≡ doing.Busy → ⊥) → q.doing text number args replies (n + k) ≡ q.doing text number args replies n

not_busy : (next : Doing) (act : Action) → next ≡ doing.At act → next ≡ doing.Busy → ⊥
not_busy next act is busy = let e : doing.At act ≡ doing.Busy = sym is ∙ busy in cc e

-- with more turns it does the same
later : (f : Frame) → Stays f.computes → (i : ProcessNo) (r : Played) (act : Action) (most : ℕ) → f.settings.turns ≤ most → DoesNext f i r act →
    f.computes.doing r.text i r.args r.replies most ≡ doing.At act
later f stays i r act most few next =
    let under = next.turns in
    let e : r.turns + 1 + (most - (r.turns + 1)) ≡ most = omega (arith, under, few) in
    ap (f.computes.doing r.text i r.args r.replies) (sym e)
    ∙ stays r.text i r.args r.replies (r.turns + 1) (most - (r.turns + 1)) (not_busy _ act next.next) ∙ next.next

over_by : (next : Doing) (act : Action) → next ≡ doing.At act → is_last act ≡ true → StandsBy next (end_over act)
over_by next (action.Make kind object) is last = absurd (cc last)
over_by next (action.Call kind op object args) is last = absurd (cc last)
over_by next (action.Fork text args place_on) is last = absurd (cc last)
over_by next action.Ended is last = is
over_by next (action.Faulted fault) is last = is

stands_by : (f : Frame) → Stays f.computes → (i : ProcessNo) (r : Played) (most : ℕ) → f.settings.turns ≤ most → (lives : Bool) (stage : Stage) →
    StandsAt f i r stage → StandsBy (f.computes.doing r.text i r.args r.replies most) (end_at lives stage)
stands_by f stays i r most few true Computing h = tt
stands_by f stays i r most few true (Acting act) h = (later f stays i r act most few h.0, h.1)
stands_by f stays i r most few true (Submitted act) h = (later f stays i r act most few h.0, h.1)
stands_by f stays i r most few true (Reading act) h = (later f stays i r act most few h.0, h.1)
stands_by f stays i r most few true (Asking act) h = (later f stays i r act most few h.0, h.1)
stands_by f stays i r most few true (Over act) h = over_by _ act (later f stays i r act most few h.0) h.1
stands_by f stays i r most few false Computing h = tt
stands_by f stays i r most few false (Acting act) h = tt
stands_by f stays i r most few false (Submitted act) h = tt
stands_by f stays i r most few false (Reading act) h = tt
stands_by f stays i r most few false (Asking act) h = tt
stands_by f stays i r most few false (Over act) h = over_by _ act (later f stays i r act most few h.0) h.1

pub ends_mean : (q : Computes) → Stays q → EndsMean q
ends_mean q stays f same few steps w replays i r here =
    let lives : Bool = w.lives (home_of f w i.0) in
    let played = (all_stand f steps w replays).each (home_of f w i.0) i r here in
    let by : StandsBy (f.computes.doing r.text i r.args r.replies most_turns) (end_at lives r.stage) =
    stands_by f (subst Stays (sym same) stays) i r most_turns few lives r.stage played.stands in
    subst (λ (z : Computes). StandsBy (next_of z r.text i r.args r.replies) (process_end f w i.0).stand) same
    (subst (StandsBy (f.computes.doing r.text i r.args r.replies most_turns)) (sym (stand_is f w i.0 r lives refl here)) by)
