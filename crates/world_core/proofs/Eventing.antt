-- What is so of each possible event of a run that is going: of its letters, of its numbers, and of the members that do their parts.
use Rattle.std.proofs.Common.{◌≡◌, ◌≤◌, ◌<◌, ◌+◌, ◌^◌, ◌∙◌, ℕ, suc, All, List, [], ◌∷◌, ◌++◌, Some, slice_get, ap, sym, subst, refl, arith, length}
use Rattle.std.proofs.lemmas.List.{length-take-le}
use Rattle.std.proofs.lemmas.Option.{get_or_from_slice_get, slice_get_within}
use Rattle.std.specs.List.{AllByRecursion as Each}
use Rattle.value_core.specs.declared.message.Message.{Message}
use Rattle.book_law.specs.declared.placing.Placed.{Placed}
use Rattle.net_rules.specs.declared.fate.Fate.{Fate}
use Rattle.net_rules.specs.declared.fate.Fate.TheVariants.{Pass}
use Rattle.node_rules.specs.Conditions.{Fitness}
use Rattle.node_rules.specs.Entries.{told_lines}
use Rattle.node_rules.specs.Laws.{PartsAreWalks}
use Rattle.node_rules.specs.Moments.{at_work}
use Rattle.node_rules.specs.Starts.{EventFits, Start, part}
use Rattle.run_law.specs.Growing.{ListGrows, TellsPart}
use Rattle.run_law.specs.Sending.{SendsOwn}
use Rattle.group_rules.specs.Sets.{In}
use Rattle.group_rules.specs.World.{Past}
use Rattle.world_law.specs.Grouped.{Submits}
use Rattle.world_law.specs.SoundPackets.{IsSoundMail, SaidSound}
use Rattle.world_rules.specs.declared.event.Event.{Event}
use Rattle.world_rules.specs.declared.event.Event.TheVariants as event
use Rattle.world_rules.specs.declared.event.Step.{Step}
use Rattle.world_rules.specs.declared.standing.Standing.TheVariants.{Going}
use Rattle.world_rules.specs.Frame.{AreSettings, Frame}
use Rattle.world_rules.specs.Mail.{Mail, posted}
use Rattle.world_rules.specs.Nodes as nodes
use Rattle.world_rules.specs.Nodes.{aside_of, entries_of, mails_of}
use Rattle.world_rules.specs.Standings.{standing}
use Rattle.world_rules.specs.Steps.{Known, Leads, Next, Possible, Replays, after_step, happens, posts, posts_all}
use Rattle.world_rules.specs.Worlds.{World, agreed, applied_at}
use Rattle.node_parts.specs.Shown.{Left, Stood}
use Rattle.node_core.specs.Stands.{StandsAs}
use Rattle.node_core.specs.declared.node.Node.{Node}
use Rattle.world_parts.proofs.Leading.{applied_length}
use Rattle.world_parts.specs.Standing.{IsWorld, Laws, Stands}
use Rattle.world_parts.specs.declared.parts.Parts.{Parts}
use Rattle.world_core.specs.Drafting.{MayAdd}
use Rattle.world_core.specs.declared.draft.Draft.{Draft}
use Rattle.world_core.proofs.StayOut.{out_computes}
use Rattle.world_core.proofs.Progressing.{Comes}

-- ---- lists

each_of : {A : Type 0} (P : A → Type 0) (xs : List A) → All P xs → Each P xs
each_of P [] h = tt
each_of P (x ∷ xs) h = (h 0 x (omega arith), each_of P xs (λ k d lt. h (suc k) d (omega (arith, lt))))

pub one_of : {A : Type 0} (P : A → Type 0) (xs : List A) → All P xs → (k : ℕ) (x : A) → slice_get xs k ≡ Some x → P x
one_of P xs h k x at = subst P (get_or_from_slice_get xs k x x at) (h k x (slice_get_within xs k x at))

-- ---- a step, whatever its fates

pub leads_push : (f : Frame) (w : World) (steps : List Step) (u : World) (step : Step) (v : World) → Leads f w steps u → Next f u step v → Leads f w (steps ++ step ∷ []) v
leads_push f w [] u step v h next = (v, subst (λ (x : World). Next f x step v) h next, refl)
leads_push f w (first ∷ steps) u step v h next = (h.0, h.1, leads_push f h.0 steps u step v h.2 next)

abbrev passes : {A : Type 0} → List A → List Fate
passes [] = []
passes (x ∷ xs) = Pass ∷ passes xs

passes_all : {A : Type 0} (xs : List A) → length (passes xs) ≡ length xs
passes_all [] = refl
passes_all (x ∷ xs) = ap suc (passes_all xs)

past_kept : (f : Frame) (w : World) (mails : List Mail) (fates : List Fate) → (posts_all f w mails fates).past ≡ w.past
past_kept f w [] fates = refl
past_kept f w (mail ∷ mails) [] = refl
past_kept f w (mail ∷ mails) (fate ∷ fates) = past_kept f (posts f w mail fate) mails fates

aside_kept : (f : Frame) (w : World) (mails : List Mail) (fates : List Fate) → (posts_all f w mails fates).aside ≡ w.aside
aside_kept f w [] fates = refl
aside_kept f w (mail ∷ mails) [] = refl
aside_kept f w (mail ∷ mails) (fate ∷ fates) = aside_kept f (posts f w mail fate) mails fates

-- ---- letters

may_submit : (f : Frame) → Laws f.performs f.computes → AreSettings f.settings → (steps : List Step) (w : World) → Replays f steps w → (event : Event) → Submits f w event
may_submit f laws settings steps w replays (event.Act process) = laws.may f refl refl settings steps w replays process.0
may_submit f laws settings steps w replays (event.Burst process place turns) = tt
may_submit f laws settings steps w replays (event.Deliver packet copy) = tt
may_submit f laws settings steps w replays event.Tick = tt
may_submit f laws settings steps w replays (event.Crash node) = tt
may_submit f laws settings steps w replays (event.Suspect node) = tt
may_submit f laws settings steps w replays event.Swap = tt

-- each letter of an event is what bytes spell
pub letters_sound : (f : Frame) → Laws f.performs f.computes → AreSettings f.settings → (steps : List Step) (w : World) → Replays f steps w → standing f w ≡ Going
    → (event : Event) (given : Known event) → Possible f w event given → Each (IsSoundMail f) (happens f w event given).mails
letters_sound f laws settings steps w replays going event given possible =
    let u = happens f w event given in
    let step : Step = record { event = event; fates = passes u.mails } in
    let v = after_step f w step given in
    let next : Next f w step v = record { given = given; going = going; possible = possible; fates = passes_all u.mails; after = refl } in
    let sound = laws.sound f refl refl settings (steps ++ step ∷ []) v (leads_push f _ steps w step v replays next) in
    let now = laws.sound f refl refl settings steps w replays in
    let hold = laws.hold f refl refl settings steps w replays in
    let said : SaidSound u.world = record {
      submitted = λ i x among. sound.said.submitted i x (subst (λ (past : Past Message). In x (past.submitted i)) (sym (past_kept f u.world u.mails step.fates)) among);
      performed = λ one among. sound.said.performed one (subst (λ (aside : List Placed). In one aside) (sym (aside_kept f u.world u.mails step.fates)) among);
    } in
    (laws.letters f settings.resilience settings.few).letters w event given possible (may_submit f laws settings steps w replays event) hold.grouped hold.places hold.numbered hold.answers now.next said now.flies

-- ---- members

-- a member's entries are as many as its copies applied, and begin the list
pub entries_had : {P S : Type 0} (stood : Stood S) (left : Left S) (f : Frame) (s : Parts P S) (w : World) → Stands stood left f s → IsWorld stood left f s w → (m : ℕ) (node : Node P S)
    → m < f.settings.nodes → slice_get s.nodes.items m ≡ Some node → ((w.nodes m).copies.applied ≡ length (entries_of (w.nodes m))) × (length (entries_of (w.nodes m)) ≤ length (agreed f w))
entries_had stood left f s w h is m node lt at =
    let hold = h.laws.hold f refl refl h.settings s.ledger.steps w is.replays in
    let one = (h.laws.lists f h.settings.resilience).one w hold.grouped in
    let there = is.nodes m node at in
    let noted = applied_length _ m node.member (w.nodes m).member there.member in
    let all : length (applied_at w m) ≡ (w.nodes m).member.applied = noted ∙ sym there.member.applied in
    let same = ap length (one.copies m lt) in (
      sym (hold.grouped.level m) ∙ sym all ∙ sym same,
      omega (arith, same, (one.begin m lt).right),
    )

pub comes_now : {P S : Type 0} (stood : Stood S) (left : Left S) (f : Frame) (s : Parts P S) (w end : World) → Stands stood left f s → IsWorld stood left f s w → (m : ℕ) (start : Start) (node : Node P S)
    → m < f.settings.nodes → slice_get s.nodes.items m ≡ Some node → SendsOwn f w m start → TellsPart f w end m start → Comes stood left f s w end m start node
comes_now stood left f s w end h is m start node lt at own tells = record {
  within = lt;
  there = at;
  stands = is.nodes m node at;
  own = each_of (λ (mail : Mail). (posted f.settings.nodes mail).from ≡ m) _ own;
  tells = tells;
  places = one_of (λ (r : Placed). r.place ≤ (end.nodes m).copies.applied) _ tells.beside;
  had = (entries_had stood left f s w h is m node lt at).0;
  low = (entries_had stood left f s w h is m node lt at).1;
  computes = out_computes stood left f s w h is m node at;
}

-- so its part may join a draft
pub may_add : {P S : Type 0} (stood : Stood S) (left : Left S) (f : Frame) (fitness : Fitness) (s : Parts P S) (w end : World) (m : ℕ) (start : Start) (node : Node P S) (draft : Draft P S)
    → PartsAreWalks → ListGrows f w end → Comes stood left f s w end m start node → EventFits f fitness m start (w.nodes m) → Each (IsSoundMail f) (mails_of (part f m start (w.nodes m)).deeds)
    → length s.ledger.entries + length draft.entries.items < 2 ^ 62 → MayAdd stood left f fitness s node start draft
may_add {P} {S} stood left f fitness s w end m start node draft walks grows comes fits sound few =
    joined (subst Joins (sym comes.stands.member.me) (comes.stands, fits, sound, told, small))
  where
    Joins : ℕ → Type 0
    Joins n =
        StandsAs stood left f n node (w.nodes m) × EventFits f fitness n start (w.nodes m) × Each (IsSoundMail f) (mails_of (part f n start (w.nodes m)).deeds)
        × ((w.nodes m).copies.applied + length (told_lines (part f n start (w.nodes m)).deeds) ≡ length (entries_of (part f n start (w.nodes m)).node))
        × (length (entries_of (part f n start (w.nodes m)).node) < 2 ^ 62)

    now : ℕ
    now = (end.nodes m).copies.applied

    many : length (entries_of (end.nodes m)) ≡ now
    many = ap length (grows.begin m comes.within) ∙ length-take-le now (agreed f end) (grows.within m comes.within)

    there : length (entries_of (part f m start (w.nodes m)).node) ≡ now
    there = ap (λ (n : nodes.Node). length (entries_of n)) (sym comes.tells.node) ∙ many

    told : (w.nodes m).copies.applied + length (told_lines (part f m start (w.nodes m)).deeds) ≡ length (entries_of (part f m start (w.nodes m)).node)
    told = comes.tells.count ∙ sym there

    small : length (entries_of (part f m start (w.nodes m)).node) < 2 ^ 62
    small =
        let last = fits.moments (at_work (part f m start (w.nodes m))) (walks f m start (w.nodes m)) in
        omega (arith, there, ap (λ (n : nodes.Node). n.copies.applied) comes.tells.node, last.within, last.small.accepted)

    joined : Joins node.member.me → MayAdd stood left f fitness s node start draft
    joined j = record { node = w.nodes m; stands = j.0; fits = j.1; sound = j.2; told = j.3; had = comes.had; small = j.4; few = few }
