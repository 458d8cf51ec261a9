-- The arms of an `if`, as they are read one after the other.
use Rattle.std.proofs.Common.{◌≡◌, ℕ, ◌≤◌, true, false, cond, List, [], ◌∷◌, ◌++◌, length, Ok, sym, ap, ◌∙◌, append_assoc, arith, length-append}
use Rattle.std.proofs.lemmas.List.{append-nil}
use Rattle.orca_lexer.specs.declared.token.Keyword.TheVariants.{KeyElse, KeyElsif}
use Rattle.orca_lexer.specs.declared.token.Token.{Token}
use Rattle.orca_grammar.specs.Forms.{KeyOf, Many, Mark}
use Rattle.orca_grammar.specs.Rules as rules
use Rattle.orca_grammar.specs.Reading.{comes, Read, behind, ◌>>=◌}
use Rattle.orca_grammar.specs.Grammar.{read}
use Rattle.orca_tree.specs.declared.tree.Arm.{Arm}
use Rattle.orca_tree.specs.Marks.{word, arm, arm_word, arms, more_arms}
use Rattle.parse_exprs.specs.Gives.{Failure, Fails}
use Rattle.parse_exprs.proofs.Readings.{goes_on, stops, breaks, both_second, fails_same}
use Rattle.parse_exprs.proofs.Loops.{flat_map-push}
use Rattle.parse_statements.proofs.Decisions.{elsif_arms_decided}

-- an arm that isn't the first, with the word in front of it
abbrev pub later : Arm → List Mark
later a = word (arm_word a) ∷ arm a

pub arms-push : (xs : List Arm) (x : Arm) → 1 ≤ length xs → arms (xs ++ x ∷ []) ≡ arms xs ++ later x
arms-push [] x some = absurd (omega arith)
arms-push (a ∷ xs) x some =
    ap (λ (ms : List Mark). arm a ++ ms) (flat_map-push later xs x) ∙ sym (append_assoc (arm a) (more_arms xs) (later x))

-- what the loop over the arms keeps
pub record Arms (d : ℕ) (xs : List Arm) (rest : List Token) (total : Read) : Type 0 where
  pub some : 1 ≤ length xs
  pub so_far : total ≡ behind (arms xs) (read d (Many rules.elsif_arm) rest)

pub arms_begin : (d : ℕ) (a : Arm) (ts mid : List Token) → read d rules.when ts ≡ Ok (arm a, mid) → Arms d (a ∷ []) mid (read d rules.when_arms ts)
unfolding rules.when_arms rules.elsif_arms
arms_begin d a ts mid e = record {
  some = omega arith;
  so_far = ap (λ (r : Read). r >>= (λ y. behind y.0 (read d (Many rules.elsif_arm) y.1))) e ∙ ap (λ (ms : List Mark). behind ms (read d (Many rules.elsif_arm) mid)) (sym (append-nil (arm a)));
}

pub arms_more : {d : ℕ} {xs : List Arm} {rest : List Token} {total : Read} (x : Arm) (mid : List Token) → comes (KeyOf KeyElsif ∷ []) rest ≡ true → read d rules.elsif_arm rest ≡ Ok (later x, mid)
    → Arms d xs rest total → Arms d (xs ++ x ∷ []) mid total
unfolding rules.elsif_arm
arms_more {d = d} {xs = xs} {rest = rest} {total = total} x mid c e kept = record {
  some = omega (arith, length-append xs (x ∷ []));
  so_far =
      goes_on d rules.elsif_arm (arms xs) rest total kept.so_far (later x) mid elsif_arms_decided c e
      ∙ ap (λ (ms : List Mark). behind ms (read d (Many rules.elsif_arm) mid)) (sym (arms-push xs x kept.some));
}

pub arms_end : {d : ℕ} {xs : List Arm} {rest : List Token} {total : Read} → comes (KeyOf KeyElsif ∷ []) rest ≡ false → Arms d xs rest total → total ≡ Ok (arms xs, rest)
unfolding rules.elsif_arm
arms_end {d = d} {xs = xs} {rest = rest} {total = total} c kept = stops d rules.elsif_arm (arms xs) rest total kept.so_far c

pub arms_stop : {d : ℕ} {xs : List Arm} {rest : List Token} {total : Read} (h : Failure) → comes (KeyOf KeyElsif ∷ []) rest ≡ true → Fails h (read d rules.elsif_arm rest) → Arms d xs rest total → Fails h total
unfolding rules.elsif_arm
arms_stop {d = d} {xs = xs} {rest = rest} {total = total} h c e kept = breaks d rules.elsif_arm (arms xs) rest total kept.so_far h c e

-- no `else`, and an `else` behind them
pub no_last : (d : ℕ) (xs : List Arm) (ts rest : List Token) → read d rules.when_arms ts ≡ Ok (arms xs, rest) → comes (KeyOf KeyElse ∷ []) rest ≡ false → read d rules.arms ts ≡ Ok (arms xs, rest)
unfolding rules.arms rules.else_arm rules.otherwise
no_last d xs ts rest e c =
    ap (λ (r : Read). r >>= (λ y. behind y.0 (read d rules.else_arm y.1))) e
    ∙ ap (λ b. behind (arms xs) (cond b (read d rules.otherwise rest) (let r : Read = Ok ([], rest) in r))) c
    ∙ ap (λ (ms : List Mark). let r : Read = Ok (ms, rest) in r) (append-nil (arms xs))

pub last_fails : (d : ℕ) (xs : List Arm) (ts rest : List Token) → read d rules.when_arms ts ≡ Ok (arms xs, rest) → comes (KeyOf KeyElse ∷ []) rest ≡ true → (h : Failure) → Fails h (read d rules.otherwise rest) → Fails h (read d rules.arms ts)
unfolding rules.arms rules.else_arm rules.otherwise
last_fails d xs ts rest e c h bad =
    both_second d rules.when_arms rules.else_arm ts (arms xs) rest e h
    (fails_same h _ _ (ap (λ b. cond b (read d rules.otherwise rest) (let r : Read = Ok ([], rest) in r)) c) bad)

pub with_last : (d : ℕ) (xs : List Arm) (a : Arm) (ts rest mid : List Token) → 1 ≤ length xs → read d rules.when_arms ts ≡ Ok (arms xs, rest) → comes (KeyOf KeyElse ∷ []) rest ≡ true
    → read d rules.otherwise rest ≡ Ok (later a, mid) → read d rules.arms ts ≡ Ok (arms (xs ++ a ∷ []), mid)
unfolding rules.arms rules.else_arm rules.otherwise
with_last d xs a ts rest mid some e c last =
    ap (λ (r : Read). r >>= (λ y. behind y.0 (read d rules.else_arm y.1))) e
    ∙ ap (λ b. behind (arms xs) (cond b (read d rules.otherwise rest) (let r : Read = Ok ([], rest) in r))) c
    ∙ ap (behind (arms xs)) last
    ∙ ap (λ (ms : List Mark). let r : Read = Ok (ms, mid) in r) (sym (arms-push xs a some))
