-- How much may come yet.
use Rattle.std.proofs.Common.{◌≡◌, ◌∙◌, ◌<◌, ◌≤◌, ◌+◌, ℕ, zero, suc, Bool, true, false, cond, ◌==◌, List, [], ◌∷◌, ◌++◌, take, Option, None, Some, refl, ap, sym, arith}
use Rattle.std.specs.List.{filter}
use Rattle.group_join.specs.Seeking.{answer_of, entry_behind}
use Rattle.group_join.specs.Spelling.{join_spelling}
use Rattle.group_join.specs.declared.packet.JoinPacket.{JoinPacket}
use Rattle.group_join.specs.declared.packet.JoinPacket.TheVariants.{Seek, State, Next}
use Rattle.group_rules.specs.Member.{Member}
use Rattle.group_rules.specs.Sets.{entry_at}
use Rattle.net_rules.specs.Flights.{is_ready}
use Rattle.net_rules.specs.declared.flight.Flight.{Flight}
use Rattle.value_core.specs.declared.message.Message.{Message}
use Rattle.std.specs.Prelude.{option_map}
use Rattle.world_rules.specs.Frame.{Frame}
use Rattle.world_rules.specs.Worlds.{World}
use Rattle.join_law.specs.Rounds.{can_answer}
use Rattle.follower_run.specs.Answers.{answer_in}
use Rattle.follower_run.specs.Posts.{led_to, load, weight}

-- ---- weights

weight_if : (b : Bool) → (1 ≤ cond b 3 1) × (cond b 3 1 ≤ 3)
weight_if true = (omega arith, omega arith)
weight_if false = (omega arith, omega arith)

pub some_weight : (bytes : List ℕ) → 1 ≤ weight bytes
some_weight [] = omega arith
some_weight (tag ∷ bytes) = (weight_if (tag == 1)).0

pub cut_weight : (n : ℕ) (bytes : List ℕ) → weight (take n bytes) ≤ weight bytes
cut_weight zero bytes = some_weight bytes
cut_weight (suc n) [] = omega arith
cut_weight (suc n) (tag ∷ bytes) = omega arith

-- what leads to nothing weighs least, and a Seek weighs 3
pub light : (packet : JoinPacket) → led_to packet ≡ 0 → weight (join_spelling packet) ≡ 1
light (Seek applied) none = absurd (omega (arith, none))
light (State state) none = refl
light (Next number message) none = refl

pub heavy : (packet : JoinPacket) → led_to packet < weight (join_spelling packet)
heavy (Seek applied) = omega arith
heavy (State state) = omega arith
heavy (Next number message) = omega arith

-- ---- loads

load_if : (b : Bool) (one : Flight (List ℕ)) (more : List (Flight (List ℕ))) → load (cond b (one ∷ []) [] ++ more) ≤ load more + weight one.packet
load_if true one more = omega arith
load_if false one more = omega arith

pub load_one : (one : Flight (List ℕ)) (more now : List (Flight (List ℕ))) → now ≡ filter is_ready (one ∷ []) ++ more → load now ≤ load more + weight one.packet
load_one one more now is = let le = load_if (is_ready one) one more in omega (arith, le, ap load is)

-- ---- answers

some_none : (number : ℕ) (o : Option Message) (packet : JoinPacket) → option_map (λ (x : Message). Next number x) o ≡ Some packet → led_to packet ≡ 0
some_none number None packet is = absurd (cc is)
some_none number (Some x) packet is = let f : Next number x ≡ packet = cc is in ap led_to (sym f)

answer_none : (member : Member Message) (applied : ℕ) (state packet : JoinPacket) → led_to state ≡ 0 → (none purged : Bool) → cond none None (cond purged (Some state) (entry_behind member applied)) ≡ Some packet → led_to packet ≡ 0
answer_none member applied state packet light_state true purged is = absurd (cc is)
answer_none member applied state packet light_state false true is = let f : state ≡ packet = cc is in ap led_to (sym f) ∙ light_state
answer_none member applied state packet light_state false false is = some_none (suc applied) (entry_at member.log (suc applied)) packet is

in_none : (f : Frame) (w : World) (m applied : ℕ) (packet : JoinPacket) (b : Bool) → cond b (answer_of (w.nodes m).member (w.nodes m).copies applied) None ≡ Some packet → led_to packet ≡ 0
in_none f w m applied packet true is = answer_none (w.nodes m).member applied _ packet refl _ _ is
in_none f w m applied packet false is = absurd (cc is)

-- what a member answers leads to nothing
pub answers_none : (f : Frame) (w : World) (m applied : ℕ) (packet : JoinPacket) → answer_in f w m applied ≡ Some packet → led_to packet ≡ 0
answers_none f w m applied packet is = in_none f w m applied packet (can_answer f w m) is

-- the first of those that come
pub load_first : (all rest : List (Flight (List ℕ))) (one : Flight (List ℕ)) → all ≡ one ∷ rest → load all ≡ weight one.packet + load rest
load_first all rest one is = ap load is
