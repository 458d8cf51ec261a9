-- A member's part of a tick joins the draft of those before it.
use Rattle.std.proofs.Common.{◌≡◌, ◌<◌, ◌^◌, ℕ, suc, true, false, Some, slice_get, ap, sym, subst, refl, arith, length, length-append}
use Rattle.node_rules.specs.Conditions.{Fitness}
use Rattle.node_rules.specs.Laws.{PartsAreWalks}
use Rattle.node_rules.specs.Starts.{EventFits, part}
use Rattle.node_rules.specs.Starts.Start.{Ticks}
use Rattle.world_calls.specs.Law.{ticking}
use Rattle.world_law.specs.SoundPackets.{IsSoundMail}
use Rattle.world_rules.specs.declared.event.Event.TheVariants as event
use Rattle.world_rules.specs.declared.standing.Standing.TheVariants.{Going}
use Rattle.world_rules.specs.Frame.{Frame}
use Rattle.world_rules.specs.Standings.{is_quiet, standing}
use Rattle.world_rules.specs.Steps.{AtWork}
use Rattle.world_rules.specs.Worlds.{World}
use Rattle.node_parts.specs.Shown.{Left, Stood}
use Rattle.node_core.specs.Stands.{IsDone, StandsAs}
use Rattle.node_core.specs.declared.node.Node.{Node}
use Rattle.world_parts.specs.Standing.{IsWorld, Stands}
use Rattle.world_parts.specs.declared.parts.Parts.{Parts}
use Rattle.world_core.specs.Drafting.{AddsPart, MayAdd}
use Rattle.world_core.specs.Growing.{Progress}
use Rattle.world_core.specs.declared.draft.Draft.{Draft}
use Rattle.world_core.proofs.Doing.{list_small, low_all}
use Rattle.world_core.proofs.Eventing.{comes_now, letters_sound, may_add}
use Rattle.world_core.proofs.Progressing.{Comes, progress_on}
use Rattle.world_core.proofs.Ticking.{tick_letters, tick_none, tick_part, tick_small}

comes_tick : {P S : Type 0} (stood : Stood S) (left : Left S) (f : Frame) (s : Parts P S) (w : World) (m : ℕ) (before : Node P S) → Stands stood left f s → IsWorld stood left f s w → standing f w ≡ Going
    → is_quiet f w ≡ true → m < f.settings.nodes → slice_get s.nodes.items m ≡ Some before → w.lives m ≡ true → Comes stood left f s w (ticking f w f.settings.nodes).world m Ticks before
comes_tick stood left f s w m before h is going quiet lt at lives =
    let grows = h.laws.grow f refl refl h.settings s.ledger.steps w is.replays going event.Tick tt quiet in
    comes_now stood left f s w (ticking f w f.settings.nodes).world h is m Ticks before lt at
    (h.laws.own f refl refl h.settings s.ledger.steps w is.replays event.Tick tt quiet m lt lives) (grows.parts m lt lives)

pub tick_may : {P S : Type 0} (stood : Stood S) (left : Left S) (f : Frame) (fitness : Fitness) (s : Parts P S) (w : World) (m : ℕ) (before : Node P S) (draft : Draft P S) → Stands stood left f s
    → IsWorld stood left f s w → standing f w ≡ Going → is_quiet f w ≡ true → PartsAreWalks → ((n : ℕ) → n < f.settings.nodes → w.lives n ≡ true → EventFits f fitness n Ticks (w.nodes n))
    → m < f.settings.nodes → slice_get s.nodes.items m ≡ Some before → w.lives m ≡ true → Progress stood left f s w (ticking f w f.settings.nodes).world draft (ticking f w m)
    → MayAdd stood left f fitness s before Ticks draft
tick_may stood left f fitness s w m before draft h is going quiet walks fits lt at lives progress =
    let grows = h.laws.grow f refl refl h.settings s.ledger.steps w is.replays going event.Tick tt quiet in
    let sound = letters_sound f h.laws h.settings s.ledger.steps w is.replays going event.Tick tt quiet in
    let low : (n : ℕ) → n < f.settings.nodes → (w.nodes n).copies.applied < 2 ^ 62 = λ n within. omega (arith, low_all stood left f s w h is n within, list_small stood left f s w h is going, ap length is.entries) in
    let small = tick_small f fitness w walks (h.laws.apart f w) grows.list fits low in
    may_add stood left f fitness s w (ticking f w f.settings.nodes).world m Ticks before draft walks grows.list (comes_tick stood left f s w m before h is going quiet lt at lives) (fits m lt lives)
    (tick_letters f w (IsSoundMail f) (h.laws.apart f w) f.settings.nodes m lt lives sound)
    (omega (arith, small, progress.drafted.most, length-append s.ledger.entries draft.entries.items))

-- the member did its part
pub tick_done : {P S : Type 0} (stood : Stood S) (left : Left S) (f : Frame) (fitness : Fitness) (s : Parts P S) (w : World) (m : ℕ) (before : Node P S) (old new : Draft P S) → Stands stood left f s
    → IsWorld stood left f s w → standing f w ≡ Going → is_quiet f w ≡ true → EventFits f fitness m Ticks (w.nodes m) → m < f.settings.nodes → slice_get s.nodes.items m ≡ Some before → w.lives m ≡ true
    → Progress stood left f s w (ticking f w f.settings.nodes).world old (ticking f w m) → AddsPart stood left f fitness s before Ticks old new
    → Progress stood left f s w (ticking f w f.settings.nodes).world new (ticking f w (suc m))
tick_done {P} {S} stood left f fitness s w m before old new h is going quiet fits lt at lives progress adds =
    let grows = h.laws.grow f refl refl h.settings s.ledger.steps w is.replays going event.Tick tt quiet in
    let comes = comes_tick stood left f s w m before h is going quiet lt at lives in
    let me = comes.stands.member.me in
    let done = subst (λ (n : ℕ). StandsAs stood left f n before (w.nodes m) → EventFits f fitness n Ticks (w.nodes m) → IsDone stood left f n adds.after adds.moved (w.nodes m) (part f n Ticks (w.nodes m))) me (adds.does (w.nodes m)) comes.stands fits in
    subst (λ (u : AtWork). Progress stood left f s w (ticking f w f.settings.nodes).world new u) (sym (tick_part f w m (h.laws.apart f w m) lives))
    (progress_on stood left f s w (ticking f w f.settings.nodes).world old new (ticking f w m) m Ticks before adds.after adds.moved is grows.list comes ((h.laws.apart f w m).others m (omega arith)) adds.added adds.tasks done progress)

-- a crashed one does none
pub tick_past : {P S : Type 0} (stood : Stood S) (left : Left S) (f : Frame) (s : Parts P S) (w : World) (m : ℕ) (draft : Draft P S) → Stands stood left f s → w.lives m ≡ false
    → Progress stood left f s w (ticking f w f.settings.nodes).world draft (ticking f w m) → Progress stood left f s w (ticking f w f.settings.nodes).world draft (ticking f w (suc m))
tick_past stood left f s w m draft h dead progress =
    subst (λ (u : AtWork). Progress stood left f s w (ticking f w f.settings.nodes).world draft u) (sym (tick_none f w m (h.laws.apart f w m) dead)) progress
