-- A coordinator invites, and takes answers.
use Rattle.std.proofs.Common.{◌≡◌, ℕ, zero, suc, ◌+◌, ◌-◌, ◌*◌, ◌/◌, ◌%◌, ◌<◌, ◌≤◌, ◌==◌, ◌&&◌, nat_lt, nat_le, not, Bool, true, false, Option, Some, None, List, [], ◌++◌, length, refl, sym, ap, subst, ◌∙◌, arith, if◌then◌else◌}
use Rattle.std.specs.Option.{is_some}
use Rattle.std.proofs.lemmas.Bool.{and_parts, eqb-true}
use Rattle.std.proofs.lemmas.Nat.{mod-mul-add}
use Rattle.std.proofs.Math.Nat.{div-add-mod}
use Rattle.orca_base.specs.declared.ids.MessageId.{MessageId}
use Rattle.orca_base.specs.declared.limits.TheConstants.{WINDOW}
use Rattle.group_packets.specs.declared.packet.Join.{Join}
use Rattle.group_packets.specs.declared.packet.Packet.{Packet}
use Rattle.group_packets.specs.declared.packet.Packet.TheVariants as V
use Rattle.group_rules.specs.Sets.{count, with_at}
use Rattle.group_rules.specs.Messages.{Group, group_of}
use Rattle.group_rules.specs.Member.{Member as RulesMember, Report, is_gathering, nobody, report_of}
use Rattle.group_rules.specs.Member.Kind.{Invite, Join as JoinOf}
use Rattle.group_rules.specs.OnWire.{on_join}
use Rattle.group_rules.specs.Reset.{best, better_of, beats, CanGather, CanTake, coordinate, gather, gathers, gave, invite, keeps, next_incarnation}
use Rattle.group_rules.specs.Work.{Act, Work, does, idle}
use Rattle.group_member.specs.declared.member.Config.{Config}
use Rattle.group_member.specs.declared.member.Member.{Member}
use Rattle.group_member.specs.declared.sends.Letter.{Letter}
use Rattle.group_member.specs.AtWork.{AtWork}
use Rattle.group_member.specs.StandsFor.{Follows, HasNumbersOf, KeepsAnswer, StandsFor, Tells}
use Rattle.group_member.specs.Ticks.{gathering_by}
use Rattle.group_member.specs.Told.{others_below}
use Rattle.group_member.proofs.Rows.{held_then, held_else}
use Rattle.group_member.proofs.Ticking.{gathering_same}
use Rattle.group_member.proofs.Working.{tell_all, tell_state, whole_length}
use Rattle.group_reset.specs.declared.outcome.Joined.{Joined}
use Rattle.group_reset.specs.declared.outcome.Joined.TheVariants.{Stale}
use Rattle.group_reset.specs.Calls.{ComesOf, CoordinatesAs, IsSome, Joins, JoinsAs, MayJoin}
use Rattle.group_reset.specs.Concludes.{CanConclude, Concludes, gathered}
use Rattle.group_reset.proofs.Concluding.{can_conclude}

-- ---- tests

and_none : (a b : Bool) → a ≡ false → (a && b) ≡ false
and_none false b e = refl
and_none true b e = absurd (clash e)
  where
    clash : true ≡ false → ⊥
    clash f = cc

and_other : (a b : Bool) → b ≡ false → (a && b) ≡ false
and_other true b e = e
and_other false b e = refl

and_both : (a b : Bool) → a ≡ true → b ≡ true → (a && b) ≡ true
and_both true b e f = f
and_both false b e f = absurd (clash e)
  where
    clash : false ≡ true → ⊥
    clash g = cc

same_test : (m n : ℕ) → m ≡ n → (m == n) ≡ true
same_test m n e = grind arith

apart_test : (m n : ℕ) → (m ≡ n → ⊥) → (m == n) ≡ false
apart_test m n other = go (m == n) refl
  where
    go : (b : Bool) → (m == n) ≡ b → b ≡ false
    go true e = absurd (other (eqb-true m n e))
    go false e = refl

-- ---- the next incarnation

pub next_round : (p n m : ℕ) → m < n → p - p % n + n + m ≡ (p / n + 1) * n + m
next_round p n m l = let a = div-add-mod p n in omega arith

pub next_fits : (p n : ℕ) → p % n ≤ p
next_fits p n = let a = div-add-mod p n in omega arith

-- its coordinator is the member itself
pub next_mine : (p n m : ℕ) → m < n → ((p / n + 1) * n + m) % n ≡ m
next_mine p n m l = mod-mul-add (p / n + 1) n m l

-- ---- its own answer alone

alone_none : {B : Type 0} (n which : ℕ) (r : Report B) → n ≤ which → count n (gave (with_at nobody which (Some r))) ≡ 0
alone_none zero which r l = refl
alone_none {B} (suc n) which r l = go (n == which) refl (alone_none n which r (omega arith))
  where
    go : (b : Bool) → (n == which) ≡ b → count n (gave (with_at nobody which (Some r))) ≡ 0 → (if is_some (if b then Some r else None) then suc (count n (gave (with_at nobody which (Some r)))) else count n (gave (with_at nobody which (Some r)))) ≡ 0
    go true e ih = let q = eqb-true n which e in absurd (omega arith)
    go false e ih = ih

pub alone_one : {B : Type 0} (n which : ℕ) (r : Report B) → count n (gave (with_at nobody which (Some r))) ≤ 1
alone_one zero which r = omega arith
alone_one {B} (suc n) which r = go (n == which) refl (alone_one n which r)
  where
    go : (b : Bool) → (n == which) ≡ b → count n (gave (with_at nobody which (Some r))) ≤ 1 → (if is_some (if b then Some r else None) then suc (count n (gave (with_at nobody which (Some r)))) else count n (gave (with_at nobody which (Some r)))) ≤ 1
    go true e ih = let q = eqb-true n which e in let z = alone_none n which r (omega arith) in omega arith
    go false e ih = ih

none_some : {A : Type 0} (a : A) → None ≡ Some a → ⊥
none_some a e = cc

pub inside : {A : Type 0} (a b : A) → Some a ≡ Some b → b ≡ a
inside a b e = cc

pub best_all : {B : Type 0} (n : ℕ) (f : ℕ → Option (Report B)) (r : Report B) → ((x : ℕ) (a : Report B) → f x ≡ Some a → a ≡ r) → (kept : Report B) → best n f ≡ Some kept → kept ≡ r
best_all zero f r h kept e = absurd (none_some kept e)
best_all {B} (suc n) f r h kept e = go (best n f) (f n) (λ k q. best_all n f r h k q) (λ a q. h n a q) e
  where
    either : (a b : Report B) (c : Bool) → (if c then Some b else Some a) ≡ Some kept → a ≡ r → b ≡ r → kept ≡ r
    either a b true q p s = inside b kept q ∙ s
    either a b false q p s = inside a kept q ∙ p

    go : (o p : Option (Report B)) → ((k : Report B) → o ≡ Some k → k ≡ r) → ((a : Report B) → p ≡ Some a → a ≡ r) → better_of beats o p ≡ Some kept → kept ≡ r
    go None p ih one q = one kept q
    go (Some a) None ih one q = inside a kept q ∙ ih a refl
    go (Some a) (Some b) ih one q = either a b (beats b a) q (ih a refl) (one b refl)

pub alone_is : {B : Type 0} (which : ℕ) (r : Report B) (x : ℕ) (a : Report B) → with_at nobody which (Some r) x ≡ Some a → a ≡ r
alone_is {B} which r x a e = go (x == which) e
  where
    go : (b : Bool) → (if b then Some r else None) ≡ Some a → a ≡ r
    go true q = inside r a q
    go false q = absurd (none_some a q)

-- so it can take that
pub gathers_can : {B R : Type 0} {g : Group B} {which : ℕ} {s : Member B R} {m : RulesMember B} (k : ℕ) → StandsFor g which s m → CanGather g (gathers which k m)
gathers_can {B} {R} {g} {which} {s} {m} k h = λ many kept e low. go kept (best_all g.nodes (gathers which k m).answers (report_of m) (alone_is which (report_of m)) kept e)
  where
    fits : m.accepted ≤ length m.log
    fits =
        let a = h.member.accepts in
        let b = h.accepted in
        let l = whole_length h in
        omega arith

    small : length m.log ≤ m.base + WINDOW
    small =
        let a = h.member.kept in
        let b = h.base in
        let l = whole_length h in
        omega arith

    go : (kept : Report B) → kept ≡ report_of m → CanTake (gathers which k m) kept
    go kept e = subst (λ (r : Report B). CanTake (gathers which k m) r) (sym e) (record {
      applied = refl;
      own = fits;
      reported = λ x report q. let p : report.accepted ≡ m.accepted = ap (λ (r : Report B). r.accepted) (alone_is which (report_of m) x report q) in let f = fits in omega arith;
      window = small;
    })

-- ---- Coordinate

abbrev pub invited_by : {B : Type 0} → Group B → ℕ → ℕ → RulesMember B → Work B
invited_by g which k m = does (Act.Keeps (record { inc = k; from = which; kind = JoinOf (report_of m) })) (idle (gathers which k m))

pub invites_all : {B R : Type 0} {g : Group B} {which : ℕ} {s : Member B R} (k : ℕ) (m : RulesMember B) (sent new : List (Letter B R)) → sent ≡ [] → new ≡ sent ++ others_below s.config.nodes s.me (V.Invite k) → StandsFor g which s (gathers which k m) → AtWork g which s new (invite g which k m)
invites_all {B} {R} {g} {which} {s} k m sent new none is h =
    subst (λ (l : List (Letter B R)). AtWork g which s l (invite g which k m)) (sym is) (tell_all k Invite (V.Invite k) refl start)
  where
    start : AtWork g which s sent (invited_by g which k m)
    start = record { state = h; sends = none }

pub invite_state : {B : Type 0} (g : Group B) (which k : ℕ) (m : RulesMember B) → (invite g which k m).state ≡ gathers which k m
invite_state g which k m = tell_state g.nodes which k Invite (invited_by g which k m)

-- the incarnation is the rules' next one
pub next_same : {B R : Type 0} {g : Group B} {which : ℕ} {s : Member B R} {m : RulesMember B} (k : ℕ) → k ≡ (s.promised / s.config.nodes + 1) * s.config.nodes + s.me → StandsFor g which s m → k ≡ next_incarnation g which m.promised
next_same k is h = is ∙ rw (h.promised, h.nodes, h.me) refl

-- another than the only member waits
pub invites_row : {B R : Type 0} {g : Group B} {which : ℕ} {t : Member B R} (k : ℕ) (m : RulesMember B) (new : List (Letter B R)) → m.outside ≡ false → k ≡ next_incarnation g which m.promised → 2 * g.resilience < g.nodes → 1 < g.nodes → AtWork g which t new (invite g which k m) → AtWork g which t new (coordinate g which m)
invites_row {B} {R} {g} {which} {t} k m new alive is few many w =
    held_else (AtWork g which t new) m.outside _ _ alive
    (subst (λ (n : ℕ). AtWork g which t new (gather g which (invite g which n m))) is
    (held_else (AtWork g which t new) (nat_le (g.nodes - g.resilience) (count g.nodes (gave (invite g which k m).state.answers))) _ _ (above (g.nodes - g.resilience) (count g.nodes (gave (invite g which k m).state.answers)) one) w))
  where
    above : (m n : ℕ) → n < m → nat_le m n ≡ false
    above m n l = grind arith

    one : count g.nodes (gave (invite g which k m).state.answers) < g.nodes - g.resilience
    one =
        let s : count g.nodes (gave (invite g which k m).state.answers) ≡ count g.nodes (gave (gathers which k m).answers) = ap (λ (u : RulesMember B). count g.nodes (gave u.answers)) (invite_state g which k m) in
        let a : count g.nodes (gave (gathers which k m).answers) ≤ 1 = alone_one g.nodes which (report_of m) in
        omega arith

-- and that one goes on
pub alone_row : {B R : Type 0} (name : B → MessageId) (bytes : B → ℕ) (N r which k : ℕ) (s t : Member B R) (m : RulesMember B) (sent : List (Letter B R)) → m.outside ≡ false → k ≡ next_incarnation (group_of name bytes N r) which m.promised → CanGather (group_of name bytes N r) (gathers which k m)
    → Concludes name bytes s t sent → AtWork (group_of name bytes N r) which s [] (invite (group_of name bytes N r) which k m) → AtWork (group_of name bytes N r) which t sent (coordinate (group_of name bytes N r) which m)
alone_row {B} {R} name bytes N r which k s t m sent alive is can d w =
    held_else (AtWork (group_of name bytes N r) which t sent) m.outside _ _ alive
    (subst (λ (n : ℕ). AtWork (group_of name bytes N r) which t sent (gather (group_of name bytes N r) which (invite (group_of name bytes N r) which n m))) is
    (d N r which (invite (group_of name bytes N r) which k m) w (subst (λ (u : RulesMember B). CanGather (group_of name bytes N r) u) (sym (invite_state (group_of name bytes N r) which k m)) can)))

pub none_others : {B R : Type 0} (n me : ℕ) (packet : Packet B R) → n ≡ 1 → me < n → others_below n me packet ≡ []
none_others zero me packet e l = absurd (omega arith)
none_others (suc zero) zero packet e l = refl
none_others (suc zero) (suc me) packet e l = absurd (omega arith)
none_others (suc (suc n)) me packet e l = absurd (omega arith)

-- ---- Join

pub stale_row : {B R : Type 0} (name : B → MessageId) (bytes : B → ℕ) (from : ℕ) (join : Join B R) (s : Member B R) (sends : List (Letter B R)) → sends ≡ [] → gathering_by s ≡ false → JoinsAs name bytes from join s s sends
stale_row name bytes from join s sends none fails = λ N r which m report j.
    held_else (AtWork (group_of name bytes N r) which s sends) (is_gathering (group_of name bytes N r) which m && (join.incarnation == m.promised)) _ _ (and_none (is_gathering (group_of name bytes N r) which m) (join.incarnation == m.promised) (gathering_same j.stands ∙ fails)) (record { state = j.stands; sends = none })

pub late_row : {B R : Type 0} (name : B → MessageId) (bytes : B → ℕ) (from : ℕ) (join : Join B R) (s : Member B R) (sends : List (Letter B R)) → sends ≡ [] → (join.incarnation ≡ s.promised → ⊥) → JoinsAs name bytes from join s s sends
late_row name bytes from join s sends none other = λ N r which m report j.
    held_else (AtWork (group_of name bytes N r) which s sends) (is_gathering (group_of name bytes N r) which m && (join.incarnation == m.promised)) _ _ (and_other (is_gathering (group_of name bytes N r) which m) (join.incarnation == m.promised) (apart_test join.incarnation m.promised (λ e. other (e ∙ j.stands.promised)))) (record { state = j.stands; sends = none })

pub stale_outcome : {B R : Type 0} (name : B → MessageId) (bytes : B → ℕ) (from : ℕ) (join : Join B R) (s : Member B R) → gathering_by s ≡ false → ComesOf name bytes from join s Stale
stale_outcome name bytes from join s fails = λ N r which m report j.
    held_else (λ (o : Joined). Stale ≡ o) (is_gathering (group_of name bytes N r) which m && (join.incarnation == m.promised)) _ _ (and_none (is_gathering (group_of name bytes N r) which m) (join.incarnation == m.promised) (gathering_same j.stands ∙ fails)) refl

pub late_outcome : {B R : Type 0} (name : B → MessageId) (bytes : B → ℕ) (from : ℕ) (join : Join B R) (s : Member B R) → (join.incarnation ≡ s.promised → ⊥) → ComesOf name bytes from join s Stale
late_outcome name bytes from join s other = λ N r which m report j.
    held_else (λ (o : Joined). Stale ≡ o) (is_gathering (group_of name bytes N r) which m && (join.incarnation == m.promised)) _ _ (and_other (is_gathering (group_of name bytes N r) which m) (join.incarnation == m.promised) (apart_test join.incarnation m.promised (λ e. other (e ∙ j.stands.promised)))) refl

gathers_here : {B R : Type 0} (s : Member B R) → gathering_by s ≡ true → s.promised % s.config.nodes ≡ s.me
gathers_here s e =
    let c = and_parts (not s.outside) (nat_lt s.installed s.promised && ((s.promised % s.config.nodes) == s.me)) e in
    let d = and_parts (nat_lt s.installed s.promised) ((s.promised % s.config.nodes) == s.me) c.1 in
    eqb-true (s.promised % s.config.nodes) s.me d.1

-- a member that keeps the answer
pub keeps_stands : {B R : Type 0} (name : B → MessageId) (bytes : B → ℕ) (N r which from : ℕ) (s t : Member B R) (join : Join B R) (m : RulesMember B) (report : Report B) → join.incarnation ≡ s.promised → KeepsAnswer name bytes from join s t
    → Joins (group_of name bytes N r) which from join s m report → StandsFor (group_of name bytes N r) which t (keeps from report m)
keeps_stands {B} {R} name bytes N r which from s t join m report now keep j =
    keep report (ap (λ (k : ℕ). on_join {M = B} {R = R} k report) (sym now) ∙ j.carries) j.based N r which m j.stands

pub keeps_can : {B R : Type 0} (name : B → MessageId) (bytes : B → ℕ) (from : ℕ) (s t : Member B R) (join : Join B R) → join.incarnation ≡ s.promised → gathering_by s ≡ true → KeepsAnswer name bytes from join s t → HasNumbersOf s t
    → MayJoin name bytes from join s → CanConclude t
keeps_can {B} {R} name bytes from s t join now gathering keep more may =
    let N = may.0 in
    let j = may.5 in
    can_conclude t (keeps from may.4 may.3) here (keeps_stands name bytes may.0 may.1 may.2 from s t join may.3 may.4 now keep j) (j.can (gathering_same j.stands ∙ gathering) (now ∙ sym j.stands.promised))
  where
    here : t.promised % t.config.nodes ≡ t.me
    here = rw (more.promised, more.config, more.me) (gathers_here s gathering)

pub joins_row : {B R : Type 0} (name : B → MessageId) (bytes : B → ℕ) (from : ℕ) (s t u : Member B R) (join : Join B R) (sends : List (Letter B R)) → join.incarnation ≡ s.promised → gathering_by s ≡ true → KeepsAnswer name bytes from join s t
    → Concludes name bytes t u sends → JoinsAs name bytes from join s u sends
joins_row {B} {R} name bytes from s t u join sends now gathering keep d = λ N r which m report j.
    held_then (AtWork (group_of name bytes N r) which u sends) (is_gathering (group_of name bytes N r) which m && (join.incarnation == m.promised)) _ _ (and_both (is_gathering (group_of name bytes N r) which m) (join.incarnation == m.promised) (gathering_same j.stands ∙ gathering) (same_test join.incarnation m.promised (now ∙ sym j.stands.promised)))
    (d N r which (idle (keeps from report m)) (record { state = keeps_stands name bytes N r which from s t join m report now keep j; sends = refl }) (j.can (gathering_same j.stands ∙ gathering) (now ∙ sym j.stands.promised)))

pub joins_outcome : {B R : Type 0} (name : B → MessageId) (bytes : B → ℕ) (from : ℕ) (s t : Member B R) (join : Join B R) (done : Joined) → join.incarnation ≡ s.promised → gathering_by s ≡ true → KeepsAnswer name bytes from join s t
    → Tells name bytes t (λ g which m. done ≡ gathered g m) → ComesOf name bytes from join s done
joins_outcome {B} {R} name bytes from s t join done now gathering keep d = λ N r which m report j.
    held_then (λ (o : Joined). done ≡ o) (is_gathering (group_of name bytes N r) which m && (join.incarnation == m.promised)) _ _ (and_both (is_gathering (group_of name bytes N r) which m) (join.incarnation == m.promised) (gathering_same j.stands ∙ gathering) (same_test join.incarnation m.promised (now ∙ sym j.stands.promised)))
    (d N r which (keeps from report m) (keeps_stands name bytes N r which from s t join m report now keep j))

-- ---- the whole call

pub outside_row : {B R : Type 0} (name : B → MessageId) (bytes : B → ℕ) (s : Member B R) (sends : List (Letter B R)) → sends ≡ [] → s.outside ≡ true → CoordinatesAs name bytes s s sends
outside_row name bytes s sends none out = λ N r which m h. held_then (AtWork (group_of name bytes N r) which s sends) m.outside _ _ (h.outside ∙ out) (record { state = h; sends = none })

-- what is known once it told the others: it gathers for the next incarnation, and these are the invitations
pub record Invites {B R : Type 0} (name : B → MessageId) (bytes : B → ℕ) (s t : Member B R) (k nodes me : ℕ) (new : List (Letter B R)) : Type 0 where
  pub alive : s.outside ≡ false
  pub next : k ≡ (s.promised / nodes + 1) * nodes + me
  pub begins : Follows name bytes s t (λ g which. gathers which k)
  pub promised : HasNumbersOf (record s { promised = k }) t
  pub nodes_are : nodes ≡ s.config.nodes
  pub me_is : me ≡ s.me
  pub sends : new ≡ others_below nodes me (V.Invite k)

next_by : {B R : Type 0} (name : B → MessageId) (bytes : B → ℕ) {N r which : ℕ} {s t : Member B R} {k nodes me : ℕ} {new : List (Letter B R)} (m : RulesMember B) → Invites name bytes s t k nodes me new → StandsFor (group_of name bytes N r) which s m → k ≡ next_incarnation (group_of name bytes N r) which m.promised
next_by name bytes {N} {r} {which} {s} {k = k} m i h = next_same k (i.next ∙ rw (i.nodes_are, i.me_is) refl) h

invited_at : {B R : Type 0} (name : B → MessageId) (bytes : B → ℕ) {N r which : ℕ} {s t : Member B R} {k nodes me : ℕ} {new : List (Letter B R)} (m : RulesMember B) → Invites name bytes s t k nodes me new → StandsFor (group_of name bytes N r) which s m
    → AtWork (group_of name bytes N r) which t new (invite (group_of name bytes N r) which k m)
invited_at {B} {R} name bytes {N} {r} {which} {s} {t} {k} {nodes} {me} {new} m i h =
    invites_all k m [] new refl (i.sends ∙ (ap (λ (x : ℕ). others_below x me (V.Invite k)) (i.nodes_are ∙ sym (ap (λ (c : Config). c.nodes) i.promised.config)) ∙ ap (λ (x : ℕ). others_below t.config.nodes x (V.Invite k)) (i.me_is ∙ sym i.promised.me)))
    (i.begins N r which m h)

pub coordinates_many : {B R : Type 0} (name : B → MessageId) (bytes : B → ℕ) (s t : Member B R) (k nodes me : ℕ) (new : List (Letter B R)) → Invites name bytes s t k nodes me new → 1 < nodes → CoordinatesAs name bytes s t new
coordinates_many name bytes s t k nodes me new i many = λ N r which m h.
    let f = h.member.few in
    let a = h.nodes in
    let b = h.resilience in
    let c = i.nodes_are in
    invites_row k m new (h.outside ∙ i.alive) (next_by name bytes m i h) (omega arith) (omega arith) (invited_at name bytes m i h)

pub coordinates_alone : {B R : Type 0} (name : B → MessageId) (bytes : B → ℕ) (s t u : Member B R) (k nodes me : ℕ) (new sent : List (Letter B R)) → Invites name bytes s t k nodes me new → nodes ≤ 1 → Concludes name bytes t u sent → CoordinatesAs name bytes s u sent
coordinates_alone {B} {R} name bytes s t u k nodes me new sent i one d = λ N r which m h.
    let low = h.member.me in
    let a = i.nodes_are in
    let b = i.me_is in
    let none : new ≡ [] = i.sends ∙ none_others nodes me (V.Invite k) (omega arith) (omega arith) in
    alone_row name bytes N r which k t u m sent (h.outside ∙ i.alive) (next_by name bytes m i h) (gathers_can k h) d
    (subst (λ (l : List (Letter B R)). AtWork (group_of name bytes N r) which t l (invite (group_of name bytes N r) which k m)) none (invited_at name bytes m i h))

pub gathered_can : {B R : Type 0} (name : B → MessageId) (bytes : B → ℕ) (s t : Member B R) (k nodes me : ℕ) (new : List (Letter B R)) → Invites name bytes s t k nodes me new → IsSome name bytes s → CanConclude t
gathered_can {B} {R} name bytes s t k nodes me new i some =
    let h = some.4 in
    can_conclude t (gathers some.2 k some.3) here (i.begins some.0 some.1 some.2 some.3 h) (gathers_can k h)
  where
    here : t.promised % t.config.nodes ≡ t.me
    here =
        let h = some.4 in
        let l = h.member.me in
        rw (i.promised.promised, i.promised.config, i.promised.me) (ap (λ (x : ℕ). x % s.config.nodes) (i.next ∙ rw (i.nodes_are, i.me_is) refl) ∙ next_mine s.promised s.config.nodes s.me l)
