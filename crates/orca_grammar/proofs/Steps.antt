-- The steps of a reader of the grammar: nested phrases by the levels that are left, and parts one after the other.
use Rattle.std.proofs.Common.{◌≡◌, ◌≢◌, ℕ, zero, suc, ◌+◌, ◌-◌, ◌<◌, ◌≤◌, Bool, true, false, List, [], ◌∷◌, ◌++◌, length, Option, Some, None, Result, Ok, Err, refl, sym, ap, ◌∙◌, subst, arith}
use Rattle.orca_lexer.specs.declared.token.Token.{Token}
use Rattle.orca_grammar.specs.Forms.{Nest, Form, Many, Nested, Phrase, Mark}
use Rattle.orca_grammar.specs.Rules.{rule}
use Rattle.orca_grammar.specs.Reading.{comes, nullable, first, decided, Unexpected, TooDeep, Bad, bad, behind, in_brackets, nest_over}
use Rattle.orca_grammar.specs.Sets.{sets, firsts_of}
use Rattle.orca_grammar.specs.Grammar.{nest_at, read}
use Rattle.orca_grammar.proofs.Decided.{rules_decided, firsts_are, nexts_in, never_empty}
use Rattle.orca_grammar.proofs.Derivations.{Checked}
use Rattle.orca_grammar.proofs.Tests.{and_cases}
use Rattle.orca_grammar.proofs.Takes.{takes, shorter, enough, stop_at, step_at, fail_at, chosen}

-- the tables of the grammar agree with its rules
pub checked : Checked sets rule
checked = record { decides = rules_decided; firsts = firsts_are; nexts = nexts_in; some = never_empty }

-- where no level is left, nothing is read
pub nest_zero : (n : Nest) (ts : List Token) → nest_at 0 n ts ≡ chosen (comes (firsts_of n) ts) (bad TooDeep ts) (bad Unexpected ts)
unfolding nest_at nest_over
nest_zero n ts = refl

-- a nested phrase is read by its rule, with one level fewer
pub nest_deeper : (d : ℕ) (n : Nest) (ts : List Token) → nest_at (suc d) n ts ≡ in_brackets (Phrase n) (read d (rule n) ts)
unfolding nest_at nest_over
nest_deeper d n ts = refl

pub nest_below : (d : ℕ) (n : Nest) (ts : List Token) → 0 < d → nest_at d n ts ≡ in_brackets (Phrase n) (read (d - 1) (rule n) ts)
nest_below zero n ts lt = absurd (omega arith)
nest_below (suc d) n ts lt = nest_deeper d n ts ∙ ap (λ k. in_brackets (Phrase n) (read k (rule n) ts)) (omega arith)

-- what is read leaves fewer tokens
pub form_shorter : (d : ℕ) (f : Form) (ts rest : List Token) (ms : List Mark) → decided sets f ≡ true → nullable f ≡ false → read d f ts ≡ Ok (ms, rest) → length rest < length ts
unfolding nest_at
form_shorter d f ts rest ms dec some e = shorter sets rule checked d f ts rest ms some (takes sets rule checked d f dec ts ms rest e)

pub nest_shorter : (d : ℕ) (n : Nest) (ts rest : List Token) (ms : List Mark) → nest_at d n ts ≡ Ok (ms, rest) → length rest < length ts
nest_shorter d n ts rest ms e = form_shorter d (Nested n) ts rest ms refl refl e

-- parts one after the other: none comes, one more comes, one fails
pub many_stop : (d : ℕ) (f : Form) (ts : List Token) → comes (first sets f) ts ≡ false → read d (Many f) ts ≡ Ok ([], ts)
unfolding nest_at
many_stop d f ts c = stop_at sets rule d f (length ts) ts c

pub many_step : (d : ℕ) (f : Form) (ts mid : List Token) (a : List Mark) → decided sets (Many f) ≡ true → comes (first sets f) ts ≡ true → read d f ts ≡ Ok (a, mid) → read d (Many f) ts ≡ behind a (read d (Many f) mid)
unfolding nest_at
many_step d f [] mid a dec c e = absurd cc
many_step d f (t ∷ ts) mid a dec c e =
    step_at sets rule d f (length ts) (t ∷ ts) a mid c e
    ∙ ap (behind a) (enough sets rule checked d f dec (length ts) mid less)
  where
    less : length mid ≤ length ts
    less =
        let p = and_cases (decided sets f) _ dec in
        let q = and_cases _ _ p.1 in
        let s = form_shorter d f (t ∷ ts) mid a p.0 (not_is (nullable f) q.0) e in omega arith
      where
        not_is : (b : Bool) → Rattle.std.proofs.Common.not b ≡ true → b ≡ false
        not_is true h = absurd cc
        not_is false h = refl

pub many_fail : (d : ℕ) (f : Form) (ts : List Token) (b : Bad) → comes (first sets f) ts ≡ true → read d f ts ≡ Err b → read d (Many f) ts ≡ Err b
unfolding nest_at
many_fail d f [] b c e = absurd cc
many_fail d f (t ∷ ts) b c e = fail_at sets rule d f (length ts) (t ∷ ts) b c e
