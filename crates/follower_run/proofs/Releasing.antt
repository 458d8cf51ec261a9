-- What is held back, one copy after the other, as it comes nearer.
use Rattle.std.proofs.Common.{◌≡◌, ◌∙◌, ℕ, Bool, true, false, cond, not, List, [], ◌∷◌, ◌++◌, ap, sym, subst}
use Rattle.std.specs.List.{filter}
use Rattle.net_rules.specs.Flights.{is_ready, nearer, ticked}
use Rattle.net_rules.specs.declared.flight.Flight.{Flight}
use Rattle.follower_run.specs.Posts.{is_late}
use Rattle.follower_run.proofs.Given.{behind_both}

abbrev pub Posts : Type 0
Posts = List (Flight (List ℕ))

-- it goes behind those that were kept, or is left out
pub kept_on : (test : Flight (List ℕ) → Bool) (xs rest goal : Posts) (one new : Flight (List ℕ)) → new ≡ nearer one → test new ≡ true → xs ++ filter test (ticked (one ∷ rest)) ≡ goal → (xs ++ new ∷ []) ++ filter test (ticked rest) ≡ goal
kept_on test xs rest goal one new is keeps h =
    let more = filter test (ticked rest) in
    behind_both xs (new ∷ []) more
    ∙ ap (λ (x : Flight (List ℕ)). xs ++ x ∷ more) is
    ∙ ap (λ (b : Bool). xs ++ cond b (nearer one ∷ more) more) (sym (ap test (sym is) ∙ keeps))
    ∙ h

pub left_out : (test : Flight (List ℕ) → Bool) (xs rest goal : Posts) (one new : Flight (List ℕ)) → new ≡ nearer one → test new ≡ false → xs ++ filter test (ticked (one ∷ rest)) ≡ goal → xs ++ filter test (ticked rest) ≡ goal
left_out test xs rest goal one new is keeps h =
    let more = filter test (ticked rest) in
    ap (λ (b : Bool). xs ++ cond b (nearer one ∷ more) more) (sym (ap test (sym is) ∙ keeps)) ∙ h

pub late_not : (one : Flight (List ℕ)) (b : Bool) → is_ready one ≡ b → is_late one ≡ not b
late_not one b is = ap not is

-- the rest of a queue, of which the first left
pub rest_is : (all rest : Posts) (one : Flight (List ℕ)) → all ≡ one ∷ rest → (P : Posts → Type 0) → P all → P (one ∷ rest)
rest_is all rest one is P so = subst P is so
