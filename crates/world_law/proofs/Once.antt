-- A list of steps leads to one world at most.
use Rattle.std.proofs.Common.{◌≡◌, ◌<◌, ◌+◌, ◌-◌, ℕ, zero, suc, true, false, not, List, [], ◌∷◌, Some, refl, sym, ap, ◌∙◌, subst, arith, inl, inr, ◌⊎◌}
use Rattle.std.specs.Prelude.{IsTrue}
use Rattle.orca_base.specs.declared.ids.ProcessNo.{ProcessNo}
use Rattle.orca_base.specs.declared.ids.TextNo.{TextNo}
use Rattle.value_core.specs.Datum.{Data}
use Rattle.value_core.specs.Goes.{Goes, Reaches}
use Rattle.value_core.specs.Meaning.{Computes}
use Rattle.value_core.specs.declared.action.Action.{Action}
use Rattle.value_core.specs.declared.action.Line.{Line}
use Rattle.value_core.specs.declared.action.Reply.{Reply}
use Rattle.value_core.specs.declared.meaning.Doing.{Doing}
use Rattle.value_core.specs.declared.meaning.Doing.TheVariants as doing
use Rattle.value_core.specs.declared.processor.Halt.{Halt}
use Rattle.value_core.specs.declared.processor.Halt.TheVariants as halt
use Rattle.value_core.specs.History.{Objects}
use Rattle.world_rules.specs.declared.event.Event.{Event}
use Rattle.world_rules.specs.declared.event.Event.TheVariants as event
use Rattle.world_rules.specs.declared.event.Step.{Step}
use Rattle.world_rules.specs.Bursts.{Halts, Ran, is_answered, is_end, last_turn, read_line, read_on, reads_on}
use Rattle.world_rules.specs.Frame.{Frame}
use Rattle.world_rules.specs.Played.{Played, halted}
use Rattle.world_rules.specs.Steps.{Burst, IsBurst, Known, Leads, Possible, after_step, objects_after}
use Rattle.world_rules.specs.Worlds.{World, home_of, opening_world}
use Rattle.world_law.specs.Once.{IsOnce, NextOnce, RanOnce, ReplaysOnce}

-- what a process does next, once it isn't busy, stays
abbrev pub Stays : Computes → Type 0
Stays q =
    (text : TextNo) (number : ProcessNo) (args : Data) (replies : List Reply) (n k : ℕ) →
    (q.doing text number args replies n ≡ doing.Busy → ⊥) → q.doing text number args replies (n + k) ≡ q.doing text number args replies n

not_busy : (d : Doing) (act : Action) → d ≡ doing.At act → d ≡ doing.Busy → ⊥
not_busy d act at busy = let e : doing.At act ≡ doing.Busy = sym at ∙ busy in cc e

-- the same at each number of turns from there on
later : (next : ℕ → Doing) → ((n k : ℕ) → (next n ≡ doing.Busy → ⊥) → next (n + k) ≡ next n) → (u v : ℕ) (act : Action) → u < v →
    next (u + 1) ≡ doing.At act → next v ≡ doing.Busy → ⊥
later next stays u v act less at busy =
    let e : u + 1 + (v - (u + 1)) ≡ v = omega (arith, less) in
    not_busy (next v) act (sym (ap next e) ∙ stays (u + 1) (v - (u + 1)) (not_busy (next (u + 1)) act at) ∙ at) busy

-- it reaches its next action after one number of turns
no_later : (next : ℕ → Doing) → ((n k : ℕ) → (next n ≡ doing.Busy → ⊥) → next (n + k) ≡ next n) → (u v : ℕ) (a b : Action) →
    Reaches next u (doing.At a) → Reaches next v (doing.At b) → u < v → ⊥
no_later next stays u v a b at (then_at, inl none) less = omega (arith, none, less)
no_later next stays u v a b at (then_at, inr busy) less = later next stays u v a less at.0 busy

raised : (u v : ℕ) → (u < v) ⊎ ((u ≡ v) ⊎ (v < u)) → (suc u < suc v) ⊎ ((suc u ≡ suc v) ⊎ (suc v < suc u))
raised u v (inl less) = inl (omega (arith, less))
raised u v (inr (inl same)) = inr (inl (omega (arith, same)))
raised u v (inr (inr more)) = inr (inr (omega (arith, more)))

pub trichotomy : (u v : ℕ) → (u < v) ⊎ ((u ≡ v) ⊎ (v < u))
trichotomy zero zero = inr (inl refl)
trichotomy zero (suc v) = inl (omega arith)
trichotomy (suc u) zero = inr (inr (omega arith))
trichotomy (suc u) (suc v) = raised u v (trichotomy u v)

abbrev action_in : Doing → Action → Action
action_in (doing.At act) other = act
action_in doing.Busy other = other

-- so two computations of the same process halt alike
reached_once : (next : ℕ → Doing) → ((n k : ℕ) → (next n ≡ doing.Busy → ⊥) → next (n + k) ≡ next n) → (u v : ℕ) (a b : Action) →
    Reaches next u (doing.At a) → Reaches next v (doing.At b) → (u < v) ⊎ ((u ≡ v) ⊎ (v < u)) → (u ≡ v) × (a ≡ b)
reached_once next stays u v a b at then_at (inl less) = absurd (no_later next stays u v a b at then_at less)
reached_once next stays u v a b at then_at (inr (inr more)) = absurd (no_later next stays v u b a then_at at more)
reached_once next stays u v a b at then_at (inr (inl same)) =
    let e : doing.At a ≡ doing.At b = sym at.0 ∙ ap (λ n. next (n + 1)) same ∙ then_at.0 in
    (same, ap (λ d. action_in d a) e)

no_pause : (next : ℕ → Doing) → ((n k : ℕ) → (next n ≡ doing.Busy → ⊥) → next (n + k) ≡ next n) → (turns budget : ℕ) (a : Action) (used u : ℕ) →
    Goes next (λ n. n ≡ used) turns budget (halt.At a) → next (turns + budget) ≡ doing.Busy → ⊥
no_pause next stays turns budget a used u at busy = later next stays at.0 (turns + budget) a at.2 at.3.0 busy

halts_once : (next : ℕ → Doing) → ((n k : ℕ) → (next n ≡ doing.Busy → ⊥) → next (n + k) ≡ next n) → (turns budget u v : ℕ) (a b : Halt) →
    Goes next (λ n. n ≡ u) turns budget a → Goes next (λ n. n ≡ v) turns budget b → (u ≡ v) × (a ≡ b)
halts_once next stays turns budget u v (halt.At a) (halt.At b) one two =
    let e = reached_once next stays one.0 two.0 a b one.3 two.3 (trichotomy one.0 two.0) in
    (sym one.4 ∙ e.0 ∙ two.4, ap halt.At e.1)
halts_once next stays turns budget u v (halt.At a) halt.Paused one two = absurd (no_pause next stays turns budget a u v one two.0)
halts_once next stays turns budget u v halt.Paused (halt.At b) one two = absurd (no_pause next stays turns budget b v u two one.0)
halts_once next stays turns budget u v halt.Paused halt.Paused one two = (sym one.1 ∙ two.1, refl)

both : (f : Frame) → Stays f.computes → (i : ProcessNo) (r : Played) (last u v : ℕ) (a b : Halt) →
    Halts f i r last u a → Halts f i r last v b → (u ≡ v) × (a ≡ b)
both f stays i r last u v a b one two = halts_once (f.computes.doing r.text i r.args r.replies)
    (stays r.text i r.args r.replies) r.turns (last - r.turns) u v a b one two

-- a burst that ends doesn't go on
ends_here : (f : Frame) (objects : Objects) (act : Action) (a : Halt) → a ≡ halt.At act → IsTrue (is_end f objects a) →
    IsTrue (is_answered f objects act) → ⊥
ends_here f objects act a same ends answers =
    let e : not (is_answered f objects act) ≡ true = ap (is_end f objects) (sym same) ∙ ends in
    let h : not true ≡ true = ap not (sym answers) ∙ e in
    let g : false ≡ true = h in
    cc g

abbrev at_action : Halt → Action → Action
at_action (halt.At act) other = act
at_action halt.Paused other = other

pub ran_once : (f : Frame) → Stays f.computes → RanOnce f
ran_once f stays objects place i last r [] [] end end' one two =
    let e = both f stays i r last one.1 two.1 one.0 two.0 one.2 two.2 in
    (refl, one.4 ∙ ap (λ u. halted u one.0 r) e.0 ∙ ap (λ a. halted two.1 a r) e.1 ∙ sym two.4)
ran_once f stays objects place i last r [] (k ∷ ks) end end' one two =
    let e = both f stays i r last one.1 two.1 one.0 (halt.At two.0) one.2 two.2 in
    absurd (ends_here f objects two.0 one.0 e.1 one.3 two.3)
ran_once f stays objects place i last r (l ∷ ls) [] end end' one two =
    let e = both f stays i r last two.1 one.1 two.0 (halt.At one.0) two.2 one.2 in
    absurd (ends_here f objects one.0 two.0 e.1 two.3 one.3)
ran_once f stays objects place i last r (l ∷ ls) (k ∷ ks) end end' one two =
    let e = both f stays i r last one.1 two.1 (halt.At one.0) (halt.At two.0) one.2 two.2 in
    let acts : one.0 ≡ two.0 = ap (λ a. at_action a one.0) e.1 in
    let line : l ≡ k = one.4 ∙ ap (λ act. read_line i r act (read_on f.performs objects act)) acts ∙ sym two.4 in
    let next : reads_on place two.1 k r ≡ reads_on place one.1 l r =
    ap (λ u. reads_on place u k r) (sym e.0) ∙ ap (λ z. reads_on place one.1 z r) (sym line) in
    let rest = ran_once f stays objects place i last (reads_on place one.1 l r) ls ks end end' one.5
    (subst (λ z. Ran f objects place i last z ks end') next two.5) in
    (ap (λ z. z ∷ ls) line ∙ ap (λ zs. k ∷ zs) rest.0, rest.1)

abbrev burst_of : List Line → Played → Burst
burst_of reads end = record { reads = reads; end = end }

-- where a burst may have run so, it ran so
burst_once : (f : Frame) → Stays f.computes → (w : World) (i : ProcessNo) (place turns : ℕ) (a b : Burst) → IsBurst f w i place turns a →
    IsBurst f w i place turns b → a ≡ b
burst_once f stays w i place turns a b one two =
    let found : Some two.start ≡ Some one.start = sym two.here ∙ one.here in
    let start : two.start ≡ one.start = cc in
    let e = ran_once f stays (objects_after f (w.nodes (home_of f w i.0)) place) place i (last_turn f one.start) one.start
    a.reads b.reads a.end b.end one.ran
    (subst (λ (r : Played). Ran f (objects_after f (w.nodes (home_of f w i.0)) place) place i (last_turn f r) r b.reads b.end) start two.ran) in
    ap (λ z. burst_of z a.end) e.0 ∙ ap (λ z. burst_of b.reads z) e.1

given_once : (f : Frame) → Stays f.computes → (w : World) (event : Event) (a b : Known event) → Possible f w event a → Possible f w event b → a ≡ b
given_once f stays w (event.Burst process place turns) a b one two = burst_once f stays w process place turns a b one two
given_once f stays w (event.Act process) a b one two = refl
given_once f stays w (event.Deliver packet copy) a b one two = refl
given_once f stays w event.Tick a b one two = refl
given_once f stays w (event.Crash node) a b one two = refl
given_once f stays w (event.Suspect node) a b one two = refl
given_once f stays w event.Swap a b one two = refl

pub next_once : (f : Frame) → Stays f.computes → NextOnce f
next_once f stays w u v step one two =
    one.after ∙ ap (after_step f w step) (given_once f stays w step.event one.given two.given one.possible two.possible) ∙ sym two.after

leads_once : (f : Frame) → Stays f.computes → (w : World) (steps : List Step) (u v : World) → Leads f w steps u → Leads f w steps v → u ≡ v
leads_once f stays w [] u v one two = one ∙ sym two
leads_once f stays w (step ∷ steps) u v one two =
    let same : two.0 ≡ one.0 = next_once f stays w two.0 one.0 step two.1 one.1 in
    leads_once f stays one.0 steps u v one.2 (subst (λ (z : World). Leads f z steps v) same two.2)

pub replays_once : (f : Frame) → Stays f.computes → ReplaysOnce f
replays_once f stays steps u v one two = leads_once f stays (opening_world f) steps u v one two

pub is_once : (f : Frame) → Stays f.computes → IsOnce f
is_once f stays = record { ran = ran_once f stays; next = next_once f stays; replays = replays_once f stays }
