-- Single steps of resets, written out: docs/RUNTIME.md, Runs.
use Rattle.std.specs.Prelude.{ℕ, false, not, Some, [], ◌∷◌, ◌==◌, ◌≡◌}
use Rattle.group_packets.specs.declared.packet.Packet.TheVariants as V
use Rattle.group_rules.specs.Member.{Report, Member, opening_member}
use Rattle.group_rules.specs.Member.Kind.{Status}
use Rattle.group_rules.specs.Work.{letters_of}
use Rattle.group_rules.specs.Reset.{coordinate, invited, joined, announced}
use Rattle.group_rules.specs.Steps.{receive}
use Rattle.group_rules.specs.Runs.{group, from_to}
use Rattle.group_rules.specs.Windows.{up_to, posts, empty_handed, purged_sequencer, behind, news_in}

-- ---- a Result of its own incarnation doesn't put a member outside whose log reaches its base, though it applied less

pub record OwnResultSpares : Type 0 where
  pub stays : (announced (group 3 1) 0 2 5 100 64 (λ x. not (x == 0)) (up_to 100) (record behind { log = up_to 70 })).state.outside ≡ false

-- ---- an install takes the base of the log that it takes, also where it is below the own one, and no Nack is open

abbrev pub half_purged : Member ℕ
half_purged = record (opening_member {M = ℕ}) { log = up_to 200; base = 50; accepted = 200; applied = 200; nacked = 9 }

abbrev pub less_purged : Report ℕ
less_purged = record { installed = 0; accepted = 201; applied = 200; base = 10; log = up_to 201 }

pub record InstallTakesBase : Type 0 where
  pub base : (joined (group 3 1) 1 2 4 less_purged (coordinate (group 3 1) 1 half_purged).state).state.base ≡ 10
  pub nacked : (joined (group 3 1) 1 2 4 less_purged (coordinate (group 3 1) 1 half_purged).state).state.nacked ≡ 0
  pub told : (announced (group 3 1) 0 2 5 200 10 (λ x. not (x == 0)) (up_to 201) half_purged).state.base ≡ 10
  pub forgets : (announced (group 3 1) 0 2 5 200 10 (λ x. not (x == 0)) (up_to 201) half_purged).state.nacked ≡ 0

-- ---- a repeated Invite is answered again, a repeated Join replaces the kept one, the greatest accepted number that is reported is taken,
-- and a Status below the base is answered by a Result

abbrev pub one_accepted : ℕ → Report ℕ
one_accepted x = record empty_handed { accepted = 1; log = x ∷ [] }

pub record AnsweredAgain : Type 0 where
  pub invite : posts 3 (invited (group 3 1) 2 1 4 (invited (group 3 1) 2 1 4 opening_member).state) ≡
      from_to 2 1 (V.Join (record { incarnation = 4; installed = 0; accepted = 0; applied = 0; base = 0; messages = [] })) ∷ []
  pub join : (joined (group 5 1) 1 2 6 (one_accepted 9)
      (joined (group 5 1) 1 2 6 empty_handed (coordinate (group 5 1) 1 opening_member).state).state).state.answers 2 ≡
      Some (one_accepted 9)
  pub most : (joined (group 3 1) 1 2 4 (one_accepted 7)
      (coordinate (group 3 1) 1 (record (opening_member {M = ℕ}) { log = 7 ∷ [] })).state).state.accepted ≡ 1
  pub status : news_in (letters_of (receive (group 3 1) 2 0 5 (Status 63 63) purged_sequencer).acts) ≡ (0, 100, 64, 100) ∷ []
