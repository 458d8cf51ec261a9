-- What is asked of members, one by one.
use Rattle.std.proofs.Common.{◌≡◌, ◌∙◌, ◌<◌, ◌≤◌, ◌⊎◌, inl, inr, ℕ, zero, suc, Bool, true, false, cond, ltb, max, ◌&&◌, not, List, [], ◌∷◌, ◌+◌, length, take, drop, Option, Some, refl, ap, sym, arith}
use Rattle.std.proofs.lemmas.Bool.{ltb-false, ltb-true}
use Rattle.std.proofs.lemmas.List.{length-take-le}
use Rattle.group_member.specs.StandsFor.{StandsFor}
use Rattle.group_member.specs.declared.member.Member.{Member}
use Rattle.group_rules.specs.Messages.{Group}
use Rattle.group_rules.specs.Member.{Member as RulesMember}
use Rattle.value_core.specs.declared.message.Message.{Message}
use Rattle.value_core.specs.declared.action.Reply.{Reply}
use Rattle.world_rules.specs.Frame.{Frame}
use Rattle.world_rules.specs.Steps.{lives_in}
use Rattle.world_rules.specs.Worlds.{World, applied_at, longest}
use Rattle.join_law.specs.Rounds.{ahead, can_answer, further}

-- ---- who answers

lives_if : (b : Bool) (m n : ℕ) (lives outside : Bool) → ltb m n ≡ b → (m < n → ⊥) → false ≡ ((b && lives) && not outside)
lives_if true m n lives outside is beyond = absurd (beyond (ltb-true m n is))
lives_if false m n lives outside is beyond = refl

-- a member that there isn't doesn't
pub nobody_there : (f : Frame) (w : World) (m : ℕ) → (m < f.settings.nodes → ⊥) → false ≡ can_answer f w m
nobody_there f w m beyond = lives_if (ltb m f.settings.nodes) m f.settings.nodes (w.lives m) (w.nodes m).member.outside refl beyond

pub there_answers : (f : Frame) (w : World) (m : ℕ) (lives outside : Bool) → lives ≡ lives_in f w m → (w.nodes m).member.outside ≡ outside → (lives && not outside) ≡ can_answer f w m
there_answers f w m lives outside lives_is outside_is = ap (λ (b : Bool). b && not outside) lives_is ∙ ap (λ (b : Bool). lives_in f w m && not b) (sym outside_is)

-- ---- who is ahead

further_if : (w : World) (m k : ℕ) (b : Bool) → ltb (w.nodes k).member.applied (w.nodes m).member.applied ≡ b → cond b m k ≡ further w m (Some k)
further_if w m k b is = ap (λ (c : Bool). cond c m k) (sym is)

pub stays_found : (w : World) (m k a b : ℕ) → a ≡ (w.nodes k).member.applied → b ≡ (w.nodes m).member.applied → b ≤ a → k ≡ further w m (Some k)
stays_found w m k a b of_k of_m le = go (ltb (w.nodes k).member.applied (w.nodes m).member.applied) refl
  where
    go : (c : Bool) → ltb (w.nodes k).member.applied (w.nodes m).member.applied ≡ c → k ≡ further w m (Some k)
    go true is = let lt = ltb-true (w.nodes k).member.applied (w.nodes m).member.applied is in absurd (omega (arith, lt, of_k, of_m, le))
    go false is = further_if w m k false is

pub goes_further : (w : World) (m k a b : ℕ) → a ≡ (w.nodes k).member.applied → b ≡ (w.nodes m).member.applied → a < b → m ≡ further w m (Some k)
goes_further w m k a b of_k of_m lt = go (ltb (w.nodes k).member.applied (w.nodes m).member.applied) refl
  where
    go : (c : Bool) → ltb (w.nodes k).member.applied (w.nodes m).member.applied ≡ c → m ≡ further w m (Some k)
    go true is = further_if w m k true is
    go false is = let le = ltb-false (w.nodes k).member.applied (w.nodes m).member.applied is in absurd (omega (arith, le, of_k, of_m, lt))

pub ahead_on : (f : Frame) (w : World) (m : ℕ) (found : Option ℕ) (one : ℕ) → found ≡ ahead f w m → one ≡ further w m found → can_answer f w m ≡ true → Some one ≡ ahead f w (suc m)
ahead_on f w m found one is more can =
    ap (λ (k : ℕ). Some k) (more ∙ ap (further w m) is) ∙ sym (ap (λ (b : Bool). cond b (Some (further w m (ahead f w m))) (ahead f w m)) can)

pub ahead_still : (f : Frame) (w : World) (m : ℕ) (found : Option ℕ) → found ≡ ahead f w m → can_answer f w m ≡ false → found ≡ ahead f w (suc m)
ahead_still f w m found is cannot = is ∙ sym (ap (λ (b : Bool). cond b (Some (further w m (ahead f w m))) (ahead f w m)) cannot)

-- ---- how much was applied

dropped : (n : ℕ) (xs : List Message) → n ≤ length xs → length xs ≡ n + length (drop n xs)
dropped zero xs le = omega arith
dropped (suc n) [] le = absurd (omega (arith, le))
dropped (suc n) (x ∷ xs) le = let rest = dropped n xs (omega (arith, le)) in omega (arith, rest)

-- a member applied as many as it says, which its log has
pub applied_long : (g : Group Message) (which : ℕ) (s : Member Message Reply) (m : RulesMember Message) → StandsFor g which s m → length (take m.applied m.log) ≡ s.applied
applied_long g which s m h =
    let applies = h.member.applies in
    let accepts = h.member.accepts in
    let items = ap (λ (l : List Message). length l) h.log in
    let all = dropped m.base m.log h.whole in
    let logged : m.applied ≤ length m.log = omega (arith, applies, accepts, h.applied, h.base, items, all) in
    length-take-le m.applied m.log logged ∙ h.applied

longer_if : (xs ys : List Message) (b : Bool) (n : ℕ) → ltb (length xs) (length ys) ≡ b → ((length ys ≤ length xs) × (n ≡ length xs)) ⊎ ((length xs ≤ length ys) × (n ≡ length ys)) → n ≡ length (cond b ys xs)
longer_if xs ys true n is (inl so) = let lt = ltb-true (length xs) (length ys) is in absurd (omega (arith, lt, so.0))
longer_if xs ys true n is (inr so) = so.1
longer_if xs ys false n is (inl so) = so.1
longer_if xs ys false n is (inr so) = let le = ltb-false (length xs) (length ys) is in omega (arith, le, so.0, so.1)

-- the greater of what was found so far and what this member applied
pub longest_on : (w : World) (m most own next : ℕ) → most ≡ length (longest m w) → length (applied_at w m) ≡ own → ((own ≤ most) × (next ≡ most)) ⊎ ((most ≤ own) × (next ≡ own)) → next ≡ length (longest (suc m) w)
longest_on w m most own next is own_is (inl so) =
    longer_if (longest m w) (applied_at w m) (ltb (length (longest m w)) (length (applied_at w m))) next refl (inl (omega (arith, so.0, is, own_is), so.1 ∙ is))
longest_on w m most own next is own_is (inr so) =
    longer_if (longest m w) (applied_at w m) (ltb (length (longest m w)) (length (applied_at w m))) next refl (inr (omega (arith, so.0, is, own_is), so.1 ∙ sym own_is))

-- the greater of two
pub of_greater : (a b next : ℕ) → next ≡ max a b → ((b ≤ a) × (next ≡ a)) ⊎ ((a ≤ b) × (next ≡ b))
of_greater a b next is = go (ltb a b) refl
  where
    go : (t : Bool) → ltb a b ≡ t → ((b ≤ a) × (next ≡ a)) ⊎ ((a ≤ b) × (next ≡ b))
    go true t = let lt = ltb-true a b t in inr (omega (arith, lt), omega (arith, lt, is))
    go false t = let le = ltb-false a b t in inl (omega (arith, le), omega (arith, le, is))
