-- A copy of a packet comes to its receiver, or nothing happens but that it is gone.
use Rattle.std.proofs.Common.{◌≡◌, ◌<◌, ◌^◌, ◌∙◌, ℕ, Bool, true, false, cond, List, Option, None, Some, is_some, slice_get, ap, sym, subst, refl, arith, length}
use Rattle.value_core.specs.declared.action.Reply.{Reply}
use Rattle.value_core.specs.declared.message.Message.{Message}
use Rattle.group_packets.specs.declared.packet.Packet.{Packet}
use Rattle.group_rules.specs.OnWire.{Posted}
use Rattle.net_rules.specs.Flights.{ready_copy, without}
use Rattle.net_rules.specs.declared.flight.Flight.{Flight}
use Rattle.node_rules.specs.Conditions.{Fitness}
use Rattle.node_rules.specs.Laws.{PartsAreWalks}
use Rattle.node_rules.specs.Starts.{EventFits, part}
use Rattle.node_rules.specs.Starts.Start.{Comes}
use Rattle.run_law.specs.Parts.{InParts}
use Rattle.world_rules.specs.declared.event.Event.TheVariants as event
use Rattle.world_rules.specs.declared.standing.Standing.TheVariants.{Going}
use Rattle.world_rules.specs.Frame.{Frame}
use Rattle.world_rules.specs.Mail.{Carried, is_whole, posted, receiver_of}
use Rattle.world_rules.specs.Standings.{standing}
use Rattle.world_rules.specs.Steps.{after_part, comes, comes_whole, happens, lives_in, untouched}
use Rattle.world_rules.specs.Worlds.{World}
use Rattle.node_parts.specs.Shown.{Left, Stood}
use Rattle.node_core.specs.Stands.{IsPostOf}
use Rattle.node_core.specs.declared.node.Node.{Node}
use Rattle.world_parts.specs.Standing.{IsWorld, Stands}
use Rattle.world_parts.specs.declared.parts.Parts.{Parts}
use Rattle.letter_bytes.specs.Letters.{IsIncoming}
use Rattle.world_core.specs.Drafting.{AddsLetter, IsDraft, MayAddLetter}
use Rattle.world_core.specs.declared.draft.Draft.{Draft}
use Rattle.world_core.proofs.Coming.{Found, Lengths, Prefixes, come_cut, come_whole, few_spelled, found, to_is}
use Rattle.world_core.proofs.Doing.{Here, one_comes, one_draft, one_may, quiet_draft, within_of}
use Rattle.world_core.proofs.Progressing.{Comes as ComesNext, IsEmpty}

pub arrives_here : {P S : Type 0} (stood : Stood S) (left : Left S) (f : Frame) (s : Parts P S) (w : World) (number copy : ℕ) (flight : Flight (List ℕ)) → Stands stood left f s → IsWorld stood left f s w
    → standing f w ≡ Going → Found f w number copy flight → Here stood left f s w (event.Deliver number copy) tt
arrives_here stood left f s w number copy flight h is going found = record { stands = h; is = is; going = going; possible = ap is_some found.there }

-- the world without the copy
abbrev pub gone : World → ℕ → ℕ → World
gone w number copy = record w { flights = without number copy w.flights }

come_as : (f : Frame) (w : World) (one : Flight Carried) (b c : Bool) → is_whole f.settings.nodes one.packet ≡ b → lives_in f w (receiver_of one.packet.mail) ≡ c → comes_whole f w (Some one)
    ≡ cond b (cond c (after_part f (receiver_of one.packet.mail) (part f (receiver_of one.packet.mail) (Comes one.packet.mail) (w.nodes (receiver_of one.packet.mail))) (untouched w)) (untouched w)) (untouched w)
come_as f w one b c whole lives =
    ap (λ (x : Bool). cond x (comes f w one.packet.mail) (untouched w)) whole
    ∙ ap (λ (x : Bool). cond b (cond x (after_part f (receiver_of one.packet.mail) (part f (receiver_of one.packet.mail) (Comes one.packet.mail) (w.nodes (receiver_of one.packet.mail))) (untouched w)) (untouched w)) (untouched w)) lives

-- it comes to nobody, where its receiver crashed
pub come_crashed : (f : Frame) (w : World) (number copy : ℕ) (flight : Flight (List ℕ)) → (h : Found f w number copy flight) → lives_in f w (receiver_of h.one.packet.mail) ≡ false
    → happens f w (event.Deliver number copy) tt ≡ untouched (gone w number copy)
come_crashed f w number copy flight h crashed =
    ap (comes_whole f (gone w number copy)) h.there ∙ come_as f (gone w number copy) h.one (is_whole f.settings.nodes h.one.packet) false refl crashed ∙ same (is_whole f.settings.nodes h.one.packet)
  where
    same : (b : Bool) → cond b (untouched (gone w number copy)) (untouched (gone w number copy)) ≡ untouched (gone w number copy)
    same true = refl
    same false = refl

-- nor where it was cut
pub come_cut_short : (f : Frame) (w : World) (number copy : ℕ) (flight : Flight (List ℕ)) → (h : Found f w number copy flight) → is_whole f.settings.nodes h.one.packet ≡ false
    → happens f w (event.Deliver number copy) tt ≡ untouched (gone w number copy)
come_cut_short f w number copy flight h cut =
    ap (comes_whole f (gone w number copy)) h.there ∙ come_as f (gone w number copy) h.one false (lives_in f w (receiver_of h.one.packet.mail)) cut refl

come_part : (f : Frame) (w : World) (number copy : ℕ) (flight : Flight (List ℕ)) → (h : Found f w number copy flight) → is_whole f.settings.nodes h.one.packet ≡ true → lives_in f w (receiver_of h.one.packet.mail) ≡ true
    → happens f w (event.Deliver number copy) tt
    ≡ after_part f (receiver_of h.one.packet.mail) (part f (receiver_of h.one.packet.mail) (Comes h.one.packet.mail) (w.nodes (receiver_of h.one.packet.mail))) (untouched (gone w number copy))
come_part f w number copy flight h whole lives =
    ap (comes_whole f (gone w number copy)) h.there ∙ come_as f (gone w number copy) h.one true true whole lives

pub come_nothing : {P S : Type 0} (stood : Stood S) (left : Left S) (f : Frame) (s : Parts P S) (w : World) (number copy : ℕ) (draft : Draft P S) → Here stood left f s w (event.Deliver number copy) tt
    → happens f w (event.Deliver number copy) tt ≡ untouched (gone w number copy) → IsEmpty draft → IsDraft stood left f s w (event.Deliver number copy) draft (happens f w (event.Deliver number copy) tt)
come_nothing stood left f s w number copy draft here is empty = quiet_draft stood left f s w (gone w number copy) (event.Deliver number copy) tt draft here is refl refl empty (λ m i. refl)

-- ---- it comes to its receiver

-- what is known of it: the letter that it is, and the member to which it goes
pub record Receives {P S : Type 0} (stood : Stood S) (left : Left S) (f : Frame) (fitness : Fitness) (s : Parts P S) (w : World) (number copy : ℕ) (flight : Flight (List ℕ)) (packet : Packet Message Reply) (before : Node P S) : Type 0 where
  pub found : Found f w number copy flight
  pub here : Here stood left f s w (event.Deliver number copy) tt
  pub lives : lives_in f w flight.to ≡ true
  pub whole : is_whole f.settings.nodes found.one.packet ≡ true
  pub packet_is : packet ≡ (posted f.settings.nodes found.one.packet.mail).packet
  pub at : Some before ≡ slice_get s.nodes.items flight.to
  pub walks : PartsAreWalks
  pub fits : InParts f w (λ m start. EventFits f fitness m start (w.nodes m)) (event.Deliver number copy)

receiver_is : {P S : Type 0} (stood : Stood S) (left : Left S) (f : Frame) (fitness : Fitness) (s : Parts P S) (w : World) (number copy : ℕ) (flight : Flight (List ℕ)) (packet : Packet Message Reply) (before : Node P S)
    → (h : Receives stood left f fitness s w number copy flight packet before) → flight.to ≡ receiver_of h.found.one.packet.mail
receiver_is stood left f fitness s w number copy flight packet before h = ap (λ (g : Flight (List ℕ)). g.to) h.found.is ∙ h.found.to

lives_there : {P S : Type 0} (stood : Stood S) (left : Left S) (f : Frame) (fitness : Fitness) (s : Parts P S) (w : World) (number copy : ℕ) (flight : Flight (List ℕ)) (packet : Packet Message Reply) (before : Node P S)
    → (h : Receives stood left f fitness s w number copy flight packet before) → lives_in f w (receiver_of h.found.one.packet.mail) ≡ true
lives_there stood left f fitness s w number copy flight packet before h = ap (lives_in f w) (sym (receiver_is stood left f fitness s w number copy flight packet before h)) ∙ h.lives

comes_next : {P S : Type 0} (stood : Stood S) (left : Left S) (f : Frame) (fitness : Fitness) (s : Parts P S) (w : World) (number copy : ℕ) (flight : Flight (List ℕ)) (packet : Packet Message Reply) (before : Node P S)
    → (h : Receives stood left f fitness s w number copy flight packet before)
    → ComesNext stood left f s w (happens f w (event.Deliver number copy) tt).world (receiver_of h.found.one.packet.mail) (Comes h.found.one.packet.mail) before
comes_next stood left f fitness s w number copy flight packet before h =
    let m = receiver_of h.found.one.packet.mail in
    let lives = lives_there stood left f fitness s w number copy flight packet before h in
    let laws = h.here.stands.laws in
    let settings = h.here.stands.settings in
    one_comes stood left f s w (event.Deliver number copy) tt m (Comes h.found.one.packet.mail) before h.here (within_of f w m lives)
    (ap (slice_get s.nodes.items) (sym (receiver_is stood left f fitness s w number copy flight packet before h)) ∙ sym h.at)
    (laws.own f refl refl settings s.ledger.steps w h.here.is.replays (event.Deliver number copy) tt h.here.possible h.found.one h.found.there h.whole lives)
    ((laws.grow f refl refl settings s.ledger.steps w h.here.is.replays h.here.going (event.Deliver number copy) tt h.here.possible).parts h.found.one h.found.there h.whole lives)

fits_there : {P S : Type 0} (stood : Stood S) (left : Left S) (f : Frame) (fitness : Fitness) (s : Parts P S) (w : World) (number copy : ℕ) (flight : Flight (List ℕ)) (packet : Packet Message Reply) (before : Node P S)
    → (h : Receives stood left f fitness s w number copy flight packet before)
    → EventFits f fitness (receiver_of h.found.one.packet.mail) (Comes h.found.one.packet.mail) (w.nodes (receiver_of h.found.one.packet.mail))
fits_there stood left f fitness s w number copy flight packet before h =
    h.fits h.found.one h.found.there h.whole (lives_there stood left f fitness s w number copy flight packet before h)

abbrev posting : ℕ → ℕ → Packet Message Reply → Posted Message Reply
posting from to packet = record { from = from; to = to; packet = packet }

post_is : {P S : Type 0} (stood : Stood S) (left : Left S) (f : Frame) (fitness : Fitness) (s : Parts P S) (w : World) (number copy : ℕ) (flight : Flight (List ℕ)) (packet : Packet Message Reply) (before : Node P S)
    → (h : Receives stood left f fitness s w number copy flight packet before) → IsPostOf f.settings.nodes before.member.me flight.from packet h.found.one.packet.mail
post_is stood left f fitness s w number copy flight packet before h =
    let p = posted f.settings.nodes h.found.one.packet.mail in
    let from : p.from ≡ flight.from = sym (ap (λ (g : Flight (List ℕ)). g.from) h.found.is ∙ h.found.from) in
    let me : before.member.me ≡ flight.to = (h.here.is.nodes flight.to before (sym h.at)).member.me in
    let to : p.to ≡ before.member.me = to_is f.settings.nodes h.found.one.packet.mail ∙ sym (me ∙ receiver_is stood left f fitness s w number copy flight packet before h) in
    ap (λ (n : ℕ). posting n p.to p.packet) from
    ∙ ap (λ (n : ℕ). posting flight.from n p.packet) to
    ∙ ap (λ (q : Packet Message Reply). posting flight.from before.member.me q) (sym h.packet_is)

pub come_may : {P S : Type 0} (stood : Stood S) (left : Left S) (f : Frame) (fitness : Fitness) (s : Parts P S) (w : World) (number copy : ℕ) (flight : Flight (List ℕ)) (packet : Packet Message Reply) (before : Node P S) (draft : Draft P S)
    → Receives stood left f fitness s w number copy flight packet before → IsEmpty draft → MayAddLetter stood left f fitness s before flight.from packet draft
come_may stood left f fitness s w number copy flight packet before draft h empty =
    let mail = h.found.one.packet.mail in
    let lives = lives_there stood left f fitness s w number copy flight packet before h in (
      mail,
      post_is stood left f fitness s w number copy flight packet before h,
      one_may stood left f fitness s w (gone w number copy) (event.Deliver number copy) tt (receiver_of mail) (Comes mail) before draft h.here h.walks (come_part f w number copy flight h.found h.whole lives)
          (comes_next stood left f fitness s w number copy flight packet before h) (fits_there stood left f fitness s w number copy flight packet before h) empty,
    )

pub come_draft : {P S : Type 0} (stood : Stood S) (left : Left S) (f : Frame) (fitness : Fitness) (s : Parts P S) (w : World) (number copy : ℕ) (flight : Flight (List ℕ)) (packet : Packet Message Reply) (before : Node P S) (old new : Draft P S)
    → Receives stood left f fitness s w number copy flight packet before → IsEmpty old → AddsLetter stood left f fitness s before flight.from packet old new
    → IsDraft stood left f s w (event.Deliver number copy) new (happens f w (event.Deliver number copy) tt)
come_draft stood left f fitness s w number copy flight packet before old new h empty adds =
    let mail = h.found.one.packet.mail in
    let lives = lives_there stood left f fitness s w number copy flight packet before h in
    one_draft stood left f fitness s w (gone w number copy) (event.Deliver number copy) tt (receiver_of mail) (Comes mail) before old new h.here (come_part f w number copy flight h.found h.whole lives) refl refl
    (comes_next stood left f fitness s w number copy flight packet before h) (fits_there stood left f fitness s w number copy flight packet before h) empty
    (adds mail (post_is stood left f fitness s w number copy flight packet before h)) (λ m i. refl)

pub receives_of : {P S : Type 0} (stood : Stood S) (left : Left S) (f : Frame) (fitness : Fitness) (s : Parts P S) (w : World) (number copy : ℕ) (flight : Flight (List ℕ)) (packet : Packet Message Reply) (before : Node P S)
    → Stands stood left f s → IsWorld stood left f s w → standing f w ≡ Going → Some flight ≡ ready_copy number copy s.net.flights → lives_in f w flight.to ≡ true → IsIncoming flight.packet (Some packet)
    → Prefixes → Lengths → Some before ≡ slice_get s.nodes.items flight.to → PartsAreWalks → (is_some (ready_copy number copy w.flights) ≡ true → InParts f w (λ m start. EventFits f fitness m start (w.nodes m)) (event.Deliver number copy))
    → Receives stood left f fitness s w number copy flight packet before
receives_of stood left f fitness s w number copy flight packet before h is going looked lives incoming prefixes lengths at walks fits =
    let found = found stood left f s w number copy flight h is looked in
    let here = arrives_here stood left f s w number copy flight h is going found in
    let come = come_whole prefixes lengths f.settings.nodes found.one.packet packet found.read (subst (λ (g : Flight (List ℕ)). IsIncoming g.packet (Some packet)) found.is incoming) in
    record { found = found; here = here; lives = lives; whole = come.0; packet_is = come.1; at = at; walks = walks; fits = fits here.possible }

-- where its receiver crashed, or it was cut, nothing comes
pub crashed_drafts : {P S : Type 0} (stood : Stood S) (left : Left S) (f : Frame) (s : Parts P S) (w : World) (number copy : ℕ) (flight : Flight (List ℕ)) (draft : Draft P S) → Stands stood left f s → IsWorld stood left f s w → standing f w ≡ Going
    → Some flight ≡ ready_copy number copy s.net.flights → lives_in f w flight.to ≡ false → IsEmpty draft
    → Here stood left f s w (event.Deliver number copy) tt × IsDraft stood left f s w (event.Deliver number copy) draft (happens f w (event.Deliver number copy) tt)
crashed_drafts stood left f s w number copy flight draft h is going looked crashed empty =
    let found = found stood left f s w number copy flight h is looked in
    let here = arrives_here stood left f s w number copy flight h is going found in
    let to = ap (λ (g : Flight (List ℕ)). g.to) found.is ∙ found.to in
    (here, come_nothing stood left f s w number copy draft here (come_crashed f w number copy flight found (ap (lives_in f w) (sym to) ∙ crashed)) empty)

pub cut_drafts : {P S : Type 0} (stood : Stood S) (left : Left S) (f : Frame) (s : Parts P S) (w : World) (number copy : ℕ) (flight : Flight (List ℕ)) (draft : Draft P S) → Stands stood left f s → IsWorld stood left f s w → standing f w ≡ Going
    → Some flight ≡ ready_copy number copy s.net.flights → IsIncoming flight.packet None → Lengths → IsEmpty draft
    → Here stood left f s w (event.Deliver number copy) tt × IsDraft stood left f s w (event.Deliver number copy) draft (happens f w (event.Deliver number copy) tt)
cut_drafts stood left f s w number copy flight draft h is going looked incoming lengths empty =
    let found = found stood left f s w number copy flight h is looked in
    let here = arrives_here stood left f s w number copy flight h is going found in
    let cut = come_cut lengths f.settings.nodes found.one.packet found.read (subst (λ (g : Flight (List ℕ)). IsIncoming g.packet None) found.is incoming) in
    (here, come_nothing stood left f s w number copy draft here (come_cut_short f w number copy flight found cut) empty)

-- few bytes travel
pub few_bytes : {P S : Type 0} (stood : Stood S) (left : Left S) (f : Frame) (s : Parts P S) (w : World) (number copy : ℕ) (flight : Flight (List ℕ)) → Stands stood left f s → IsWorld stood left f s w → Some flight ≡ ready_copy number copy s.net.flights → Lengths
    → length flight.packet < 2 ^ 32
few_bytes stood left f s w number copy flight h is looked lengths =
    let found = found stood left f s w number copy flight h is looked in
    let few = few_spelled lengths f.settings.nodes found.one.packet found.read in
    omega (arith, few, ap (λ (g : Flight (List ℕ)). length g.packet) found.is)

-- what was read of the bytes that a copy has
pub incoming_of : (bytes spelled : List ℕ) (read packet : Option (Packet Message Reply)) → bytes ≡ spelled → read ≡ packet → IsIncoming bytes read → IsIncoming spelled packet
incoming_of bytes spelled read packet same is incoming =
    subst (λ (o : Option (Packet Message Reply)). IsIncoming spelled o) is (subst (λ (l : List ℕ). IsIncoming l read) same incoming)
