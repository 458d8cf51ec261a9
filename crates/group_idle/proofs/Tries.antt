-- One stretch, computed, so that the laws aren't about none: three members, r = 1, the sequencer crashed; a tick passes.
use Rattle.std.proofs.Common.{◌≡◌, ℕ, zero, suc, ◌<◌, nat_lt, Bool, true, false, [], ◌∷◌, refl, arith}
use Rattle.std.proofs.lemmas.Bool.{ltb-true, and_parts}
use Rattle.group_rules.specs.Member.{leads}
use Rattle.group_rules.specs.World.{acts_on, opening, opening_past}
use Rattle.group_idle.specs.Net.{Net, Move, moves}
use Rattle.group_idle.specs.Idle.{Still, Done, Idle}
use Rattle.group_idle.specs.Worst.{three}

crashed : Net ℕ
crashed = record { world = record { members = opening.members; lives = λ m. if_zero m; past = opening_past }; flights = [] }
  where
    if_zero : ℕ → Bool
    if_zero zero = false
    if_zero (suc m) = true

never : false ≡ true → ⊥
never e = absurd cc

nobody_leads : (m : ℕ) → acts_on three crashed.world m ≡ true → leads three m (crashed.world.members m) ≡ true → ⊥
unfolding crashed
nobody_leads zero a l = never a
nobody_leads (suc zero) a l = never l
nobody_leads (suc (suc zero)) a l = never l
nobody_leads (suc (suc (suc m))) a l = let d : suc (suc (suc m)) < 3 = ltb-true (suc (suc (suc m))) 3 (and_parts (nat_lt (suc (suc (suc m))) 3) true a).0 in absurd (omega arith)

not_done : Done three crashed.world → ⊥
not_done d = nobody_leads d.leader d.acts d.leads

still : Still three crashed (moves three crashed Move.Ticks)
unfolding crashed
still zero l = record { promised = refl; installed = refl; accepted = refl; applied = refl; inside = refl; stays = refl }
still (suc zero) l = record { promised = refl; installed = refl; accepted = refl; applied = refl; inside = refl; stays = refl }
still (suc (suc zero)) l = record { promised = refl; installed = refl; accepted = refl; applied = refl; inside = refl; stays = refl }
still (suc (suc (suc m))) l = absurd (omega arith)

one_tick : Idle three crashed (Move.Ticks ∷ [])
unfolding crashed
one_tick = ((refl, not_done), still, tt)
