-- A member is invited, and takes a Result.
use Rattle.std.proofs.Common.{◌≡◌, ℕ, ◌%◌, ◌<◌, ◌≤◌, ◌==◌, ◌&&◌, nat_lt, nat_le, not, Bool, true, false, List, [], ◌∷◌, ◌++◌, length, drop, refl, sym, ap, subst, ◌∙◌, arith, length-drop, if◌then◌else◌, All}
use Rattle.std.proofs.lemmas.Bool.{and_parts, leb-true}
use Rattle.orca_base.specs.declared.ids.MessageId.{MessageId}
use Rattle.group_packets.specs.declared.packet.Join.{Join}
use Rattle.group_packets.specs.declared.packet.News.{News}
use Rattle.group_packets.specs.declared.packet.Packet.TheVariants as V
use Rattle.group_rules.specs.Messages.{Group, group_of}
use Rattle.group_rules.specs.Member.{Member as RulesMember, leaves, report_of}
use Rattle.group_rules.specs.Member.Kind.{Join as JoinOf}
use Rattle.group_rules.specs.OnWire.{on_join}
use Rattle.group_rules.specs.Reset.{heeds, listens, promises, promises_above, take_news}
use Rattle.group_rules.specs.Work.{idle, tell}
use Rattle.group_member.specs.declared.member.Member.{Member}
use Rattle.group_member.specs.declared.sends.Letter.{Letter}
use Rattle.group_member.specs.AtWork.{AtWork}
use Rattle.group_member.specs.Installs.{CanInstall, Installs}
use Rattle.group_member.specs.Packets.{heeds_by}
use Rattle.group_member.specs.StandsFor.{Follows, IsOwnJoin, StandsFor}
use Rattle.group_member.proofs.Rows.{held_then, held_else}
use Rattle.group_member.proofs.Working.{begins, tell_one, whole_length}
use Rattle.history_buffer.specs.Window.{last_number}
use Rattle.group_reset.specs.Calls.{Answers, HearsAs, InvitedAs, MayHear}
use Rattle.group_reset.proofs.Choosing.{members_low}

within : (m n : ℕ) → m ≤ n → nat_le m n ≡ true
within m n l = grind arith

beyond : (m n : ℕ) → n < m → nat_le m n ≡ false
beyond m n l = grind arith

under : (m n : ℕ) → m < n → nat_lt m n ≡ true
under m n l = grind arith

not_under : (m n : ℕ) → n ≤ m → nat_lt m n ≡ false
not_under m n l = grind arith

and_none : (a b : Bool) → a ≡ false → (a && b) ≡ false
and_none false b e = refl
and_none true b e = absurd (clash e)
  where
    clash : true ≡ false → ⊥
    clash f = cc

and_not : (a b : Bool) → b ≡ true → (a && not b) ≡ false
and_not true true e = refl
and_not false b e = refl
and_not true false e = absurd (clash e)
  where
    clash : false ≡ true → ⊥
    clash f = cc

and_but : (a b : Bool) → a ≡ true → b ≡ false → (a && not b) ≡ true
and_but true false e f = refl
and_but false b e f = absurd (clash e)
  where
    clash : false ≡ true → ⊥
    clash g = cc
and_but true true e f = absurd (clash f)
  where
    clash : true ≡ false → ⊥
    clash g = cc

pub heeds_same : {B R : Type 0} {g : Group B} {which : ℕ} {s : Member B R} {m : RulesMember B} (k : ℕ) → StandsFor g which s m → heeds m k ≡ heeds_by s k
heeds_same k h = rw (h.outside, h.promised) refl

promised_within : {B R : Type 0} (s : Member B R) (k : ℕ) → heeds_by s k ≡ true → s.promised ≤ k
promised_within s k e = leb-true s.promised k (and_parts (not s.outside) (nat_le s.promised k) e).1

-- ---- what it promises

pub promises_more : {B R : Type 0} (name : B → MessageId) (bytes : B → ℕ) (s t : Member B R) (k : ℕ) → s.promised < k → Follows name bytes s t (λ g which. promises k) → Follows name bytes s t (λ g which. promises_above k)
promises_more {B} {R} name bytes s t k above f = λ N r which m h.
    let p = h.promised in
    held_then (StandsFor (group_of name bytes N r) which t) (nat_lt m.promised k) (promises k m) m (under m.promised k (omega arith)) (f N r which m h)

pub promises_not : {B R : Type 0} (name : B → MessageId) (bytes : B → ℕ) (s : Member B R) (k : ℕ) → k ≤ s.promised → Follows name bytes s s (λ g which. promises_above k)
promises_not {B} {R} name bytes s k low = λ N r which m h.
    let p = h.promised in
    held_else (StandsFor (group_of name bytes N r) which s) (nat_lt m.promised k) (promises k m) m (not_under m.promised k (omega arith)) h

promised_now : {B : Type 0} (k : ℕ) (m : RulesMember B) → m.promised ≤ k → (promises_above k m).promised ≡ k
promised_now {B} k m low = go (nat_lt m.promised k) refl
  where
    go : (b : Bool) → nat_lt m.promised k ≡ b → (if b then promises k m else m).promised ≡ k
    go true e = refl
    go false e = equal m.promised k low e
      where
        equal : (a b : ℕ) → a ≤ b → nat_lt a b ≡ false → a ≡ b
        equal a b l f = grind arith

listens_promised : {B : Type 0} (g : Group B) (from k : ℕ) (m : RulesMember B) → (listens g from k m).promised ≡ m.promised
listens_promised {B} g from k m = go ((k == m.installed) && (from == k % g.nodes))
  where
    go : (b : Bool) → (if b then record m { silent = 0 } else m).promised ≡ m.promised
    go true = refl
    go false = refl

-- ---- Invite

pub answers_not : {B R : Type 0} (name : B → MessageId) (bytes : B → ℕ) (s : Member B R) (k : ℕ) (sends : List (Letter B R)) → sends ≡ [] → k ≤ s.installed → Answers name bytes k s sends
answers_not {B} {R} name bytes s k sends none low = λ N r which m h is.
    let i = h.installed in
    held_else (AtWork (group_of name bytes N r) which s sends) (nat_lt m.installed k) _ _ (not_under m.installed k (omega arith)) (begins none h)

pub answers_all : {B R : Type 0} (name : B → MessageId) (bytes : B → ℕ) (s : Member B R) (k to : ℕ) (join : Join B R) (start sends : List (Letter B R)) → start ≡ [] → s.installed < k → to ≡ k % s.config.nodes → IsOwnJoin name bytes s join → sends ≡ start ++ record { to = to; packet = V.Join join } ∷ []
    → Answers name bytes k s sends
answers_all {B} {R} name bytes s k to join start sends none above goes own is = λ N r which m h now.
    let i = h.installed in
    held_then (AtWork (group_of name bytes N r) which s sends) (nat_lt m.installed k) _ _ (under m.installed k (omega arith))
    (subst (λ (l : List (Letter B R)). AtWork (group_of name bytes N r) which s l (tell which k (JoinOf (report_of m)) (k % N) (idle m))) (sym is)
    (subst (λ (n : ℕ). AtWork (group_of name bytes N r) which s (start ++ record { to = to; packet = V.Join join } ∷ []) (tell which k (JoinOf (report_of m)) n (idle m))) (goes ∙ ap (λ (n : ℕ). k % n) h.nodes)
    (tell_one k (JoinOf (report_of m)) to (V.Join join) (ap (λ (j : Join B R). V.Join j) (own N r which m h ∙ ap (λ (n : ℕ). on_join n (report_of m)) now)) (begins none h))))

pub not_heeded : {B R : Type 0} (name : B → MessageId) (bytes : B → ℕ) (from k : ℕ) (s : Member B R) (sends : List (Letter B R)) → sends ≡ [] → heeds_by s k ≡ false → InvitedAs name bytes from k s s sends
not_heeded {B} {R} name bytes from k s sends none fails = λ N r which m h.
    held_else (AtWork (group_of name bytes N r) which s sends) (heeds m k && not (k % N == which)) _ _ (and_none (heeds m k) (not (k % N == which)) (heeds_same k h ∙ fails)) (begins none h)

pub own_invitation : {B R : Type 0} (name : B → MessageId) (bytes : B → ℕ) (from k : ℕ) (s : Member B R) (sends : List (Letter B R)) → sends ≡ [] → (k % s.config.nodes == s.me) ≡ true → InvitedAs name bytes from k s s sends
own_invitation {B} {R} name bytes from k s sends none own = λ N r which m h.
    held_else (AtWork (group_of name bytes N r) which s sends) (heeds m k && not (k % N == which)) _ _ (and_not (heeds m k) (k % N == which) (rw (← h.nodes, ← h.me) own)) (begins none h)

pub invited_row : {B R : Type 0} (name : B → MessageId) (bytes : B → ℕ) (from k : ℕ) (s l t : Member B R) (sends : List (Letter B R)) → heeds_by s k ≡ true → (k % s.config.nodes == s.me) ≡ false → Follows name bytes s l (λ g which. listens g from k)
    → Follows name bytes l t (λ g which. promises_above k) → Answers name bytes k t sends → InvitedAs name bytes from k s t sends
invited_row {B} {R} name bytes from k s l t sends holds other heard promised d = λ N r which m h.
    let p = h.promised in
    let low = promised_within s k holds in
    let q = listens_promised (group_of name bytes N r) from k m in
    held_then (AtWork (group_of name bytes N r) which t sends) (heeds m k && not (k % N == which)) _ _ (and_but (heeds m k) (k % N == which) (heeds_same k h ∙ holds) (rw (← h.nodes, ← h.me) other))
    (d N r which (promises_above k (listens (group_of name bytes N r) from k m)) (promised N r which (listens (group_of name bytes N r) from k m) (heard N r which m h)) (promised_now k (listens (group_of name bytes N r) from k m) (omega arith)))

-- ---- Result

not_true : (b : Bool) → b ≡ false → not b ≡ true
not_true b e = ap not e

pub not_heard : {B R : Type 0} (name : B → MessageId) (bytes : B → ℕ) (from : ℕ) (news : News B R) (s : Member B R) (sends : List (Letter B R)) → sends ≡ [] → heeds_by s news.incarnation ≡ false → HearsAs name bytes from news s s sends
not_heard {B} {R} name bytes from news s sends none fails = λ N r which m named log c.
    held_then (AtWork (group_of name bytes N r) which s sends) (not (heeds m news.incarnation)) _ _ (ap not (heeds_same news.incarnation c.stands ∙ fails)) (begins none c.stands)

-- of the installed incarnation, or an earlier one
pub heard_now : {B R : Type 0} (name : B → MessageId) (bytes : B → ℕ) (from : ℕ) (news : News B R) (s l : Member B R) (sends : List (Letter B R)) → sends ≡ [] → heeds_by s news.incarnation ≡ true → news.incarnation ≤ s.installed → news.base ≤ last_number s.window → Follows name bytes s l (λ g which. listens g from news.incarnation)
    → HearsAs name bytes from news s l sends
heard_now {B} {R} name bytes from news s l sends none holds low has f = λ N r which m named log c.
    let i = c.stands.installed in
    let w = whole_length c.stands in
    held_else (AtWork (group_of name bytes N r) which l sends) (not (heeds m news.incarnation)) _ _ (ap not (heeds_same news.incarnation c.stands ∙ holds))
    (held_else (AtWork (group_of name bytes N r) which l sends) (nat_lt m.installed news.incarnation) _ _ (not_under m.installed news.incarnation (omega arith))
    (held_else (AtWork (group_of name bytes N r) which l sends) (nat_lt (length m.log) news.base) _ _ (not_under (length m.log) news.base (omega arith)) (begins none (f N r which m c.stands))))

pub heard_behind : {B R : Type 0} (name : B → MessageId) (bytes : B → ℕ) (from : ℕ) (news : News B R) (s l t : Member B R) (sends : List (Letter B R)) → sends ≡ [] → heeds_by s news.incarnation ≡ true → news.incarnation ≤ s.installed → last_number s.window < news.base → Follows name bytes s l (λ g which. listens g from news.incarnation)
    → Follows name bytes l t (λ g which. leaves) → HearsAs name bytes from news s t sends
heard_behind {B} {R} name bytes from news s l t sends none holds low lacks f d = λ N r which m named log c.
    let i = c.stands.installed in
    let w = whole_length c.stands in
    held_else (AtWork (group_of name bytes N r) which t sends) (not (heeds m news.incarnation)) _ _ (ap not (heeds_same news.incarnation c.stands ∙ holds))
    (held_else (AtWork (group_of name bytes N r) which t sends) (nat_lt m.installed news.incarnation) _ _ (not_under m.installed news.incarnation (omega arith))
    (held_then (AtWork (group_of name bytes N r) which t sends) (nat_lt (length m.log) news.base) _ _ (under (length m.log) news.base (omega arith)) (begins none (d N r which (listens (group_of name bytes N r) from news.incarnation m) (f N r which m c.stands)))))

-- of a later one
pub left_behind : {B R : Type 0} (name : B → MessageId) (bytes : B → ℕ) (from : ℕ) (news : News B R) (s l t : Member B R) (sends : List (Letter B R)) → sends ≡ [] → heeds_by s news.incarnation ≡ true → s.installed < news.incarnation → s.applied < news.base → Follows name bytes s l (λ g which. promises_above news.incarnation)
    → Follows name bytes l t (λ g which. leaves) → HearsAs name bytes from news s t sends
left_behind {B} {R} name bytes from news s l t sends none holds above lacks f d = λ N r which m named log c.
    let i = c.stands.installed in
    let a = c.stands.applied in
    held_else (AtWork (group_of name bytes N r) which t sends) (not (heeds m news.incarnation)) _ _ (ap not (heeds_same news.incarnation c.stands ∙ holds))
    (held_then (AtWork (group_of name bytes N r) which t sends) (nat_lt m.installed news.incarnation) _ _ (under m.installed news.incarnation (omega arith))
    (held_else (AtWork (group_of name bytes N r) which t sends) (nat_le news.base m.applied) _ _ (beyond news.base m.applied (omega arith)) (begins none (d N r which (promises_above news.incarnation m) (f N r which m c.stands)))))

pub heard_later : {B R : Type 0} (name : B → MessageId) (bytes : B → ℕ) (from : ℕ) (news : News B R) (s t : Member B R) (sends : List (Letter B R)) → heeds_by s news.incarnation ≡ true → s.installed < news.incarnation → news.base ≤ s.applied
    → Installs name bytes news s t sends (λ g which. take_news g which news.incarnation news.accepted news.base) → HearsAs name bytes from news s t sends
heard_later {B} {R} name bytes from news s t sends holds above low d = λ N r which m named log c.
    let i = c.stands.installed in
    let a = c.stands.applied in
    held_else (AtWork (group_of name bytes N r) which t sends) (not (heeds m news.incarnation)) _ _ (ap not (heeds_same news.incarnation c.stands ∙ holds))
    (held_then (AtWork (group_of name bytes N r) which t sends) (nat_lt m.installed news.incarnation) _ _ (under m.installed news.incarnation (omega arith))
    (held_then (AtWork (group_of name bytes N r) which t sends) (nat_le news.base m.applied) _ _ (within news.base m.applied (omega arith))
    (d N r which m named log c.stands (record { members = c.members; messages = c.messages; base = c.base; applied = c.continues (omega arith) }))))

-- what it hears of a later incarnation it can install
pub can_hear : {B R : Type 0} (name : B → MessageId) (bytes : B → ℕ) (news : News B R) (s : Member B R) → s.installed < news.incarnation → news.base ≤ s.applied → MayHear name bytes news s → CanInstall s news
can_hear {B} {R} name bytes news s above low may =
    let c = may.6 in
    let i = c.stands.installed in
    let a = c.stands.accepted in
    let b = c.base in
    let r = c.reaches (omega arith) in
    let p = c.accepted in
    let w = c.window in
    let l = length-drop news.base may.5 in
    let q : length (drop news.base may.5) ≡ length news.messages = ap (λ (xs : List B). length xs) c.messages in
    record {
      begins = low;
      reaches = omega arith;
      accepted = omega arith;
      fits = omega arith;
      members = subst (λ (xs : List ℕ). All (λ x. x < s.config.nodes) xs) c.members (members_low may.0 s.config.nodes may.4 (let n = c.stands.nodes in omega arith));
    }

pub other_than : {B R : Type 0} (name : B → MessageId) (bytes : B → ℕ) (news : News B R) (s : Member B R) → MayHear name bytes news s → news.incarnation % s.config.nodes ≡ s.me → ⊥
other_than {B} {R} name bytes news s may e = let c = may.6 in c.other (ap (λ (n : ℕ). news.incarnation % n) (sym c.stands.nodes) ∙ (e ∙ c.stands.me))
