-- What is read of a line's words is what they say, and what they say is read.
use Rattle.std.proofs.Common.{◌≡◌, ℕ, Bool, true, false, List, [], ◌∷◌, ap, refl, subst, ◌∙◌}
use Rattle.std.specs.Prelude.{Option, Some, None, Result, Ok, Err, if◌then◌else◌}
use Rattle.net_rules.specs.declared.fate.Fate.TheVariants as fate
use Rattle.net_rules.specs.declared.fate.Fate.{Fate as PacketFate}
use Rattle.net_rules.specs.declared.fate.WireAct.TheVariants as act
use Rattle.net_rules.specs.declared.line.Kinds.{Kinds}
use Rattle.net_rules.specs.declared.line.Which.{Which}
use Rattle.net_rules.specs.declared.line.ScriptLine.{ScriptLine}
use Rattle.net_rules.specs.declared.line.ScriptLine.TheVariants.{Fate, Act, Seed}
use Rattle.fault_scripts.specs.declared.error.ScriptError.{ScriptError}
use Rattle.fault_scripts.specs.declared.error.ScriptError.TheVariants.{UnknownWord, BadNumber}
use Rattle.fault_scripts.specs.declared.words.Verb.{Verb}
use Rattle.fault_scripts.specs.declared.words.Verb.TheVariants as verb
use Rattle.fault_scripts.specs.Words.{verb_of, kinds_of, which_of, packet_number, member_number, number_32, seed_number, percentage}
use Rattle.fault_scripts.specs.Says.{Says, is_seed}
use Rattle.fault_scripts.specs.Reading.{◌>>=◌, meant, next, over, packets_at, count_at, fate_line, sized_at, member_at, swap_line, seed_line, behind_verb, said_at}

abbrev Words : Type 0
Words = List (List ℕ)

-- where two steps gave something, the first did
pub bind_ok : {A B : Type 0} (r : Result A ScriptError) (f : A → Result B ScriptError) (y : B) → (r >>= f) ≡ Ok y → (x : A) × (r ≡ Ok x) × (f x ≡ Ok y)
bind_ok (Ok x) f y e = (x, refl, e)
bind_ok (Err e') f y e = absurd (cc)

abbrev pub ok : {A : Type 0} → A → Result A ScriptError
ok x = Ok x

pub ok_is : {A : Type 0} (x y : A) → ok x ≡ ok y → x ≡ y
ok_is x y e = cc

-- the words are one that is read as this, and these behind it
record Took {X : Type 0} (read : List ℕ → Option X) (words : Words) (x : X × Words) : Type 0 where
  pub word : List ℕ
  pub spelled : words ≡ word ∷ x.1
  pub means : read word ≡ Some x.0

meant_ok : {X : Type 0} (read : List ℕ → Option X) (error : ScriptError) (word : List ℕ) (words : Words) (o : Option X) (x : X × Words) →
    read word ≡ o → meant error o words ≡ Ok x → Took read (word ∷ words) x
meant_ok read error word words None x is e = absurd (cc)
meant_ok read error word words (Some y) x is e =
    let same : (y, words) ≡ x = ok_is (y, words) x e in
    record { word = word; spelled = ap (λ z. word ∷ z.1) same; means = is ∙ ap (λ z. Some z.0) same }

took : {X : Type 0} (read : List ℕ → Option X) (error : ScriptError) (words : Words) (x : X × Words) → next read error words ≡ Ok x → Took read words x
unfolding next
took read error [] x e = absurd (cc)
took read error (word ∷ words) x e = meant_ok read error word words (read word) x refl e

-- no word is left
none_left : (number : ℕ) (words : Words) (u : Unit {0}) → over number words ≡ Ok u → words ≡ []
unfolding over
none_left number [] u e = refl
none_left number (word ∷ words) u e = absurd (cc)

-- a word that is read as this is read so
takes : {X : Type 0} (read : List ℕ → Option X) (error : ScriptError) (word : List ℕ) (words : Words) (x : X) → read word ≡ Some x → next read error (word ∷ words) ≡ Ok (x, words)
unfolding next
takes read error word words x e = ap (λ o. meant error o words) e

over_none : (number : ℕ) → over number [] ≡ Ok tt
unfolding over
over_none number = refl

-- kinds, and which packets of these, in front of these words
record Packets (words : Words) (x : (Kinds × Which) × Words) : Type 0 where
  pub k : List ℕ
  pub n : List ℕ
  pub spelled : words ≡ k ∷ n ∷ x.1
  pub kinds : kinds_of k ≡ Some x.0.0
  pub which : which_of n ≡ Some x.0.1

packets_ok : (number : ℕ) (words : Words) (x : (Kinds × Which) × Words) → packets_at number words ≡ Ok x → Packets words x
unfolding packets_at
packets_ok number words x e =
    let a = bind_ok (next kinds_of (UnknownWord number) words) (λ k. next which_of (BadNumber number) k.1 >>= λ w. Ok ((k.0, w.0), w.1)) x e in
    let b = bind_ok (next which_of (BadNumber number) a.0.1) (λ w. Ok ((a.0.0, w.0), w.1)) x a.2 in
    let k = took kinds_of (UnknownWord number) words a.0 a.1 in
    let n = took which_of (BadNumber number) a.0.1 b.0 b.1 in
    let same : ((a.0.0, b.0.0), b.0.1) ≡ x = ok_is ((a.0.0, b.0.0), b.0.1) x b.2 in
    record {
      k = k.word;
      n = n.word;
      spelled = k.spelled ∙ ap (λ ws. k.word ∷ ws) n.spelled ∙ ap (λ z. k.word ∷ n.word ∷ z.1) same;
      kinds = k.means ∙ ap (λ z. Some z.0.0) same;
      which = n.means ∙ ap (λ z. Some z.0.1) same;
    }

packets_again : (number : ℕ) (k n : List ℕ) (more : Words) (kinds : Kinds) (which : Which) → kinds_of k ≡ Some kinds → which_of n ≡ Some which →
    packets_at number (k ∷ n ∷ more) ≡ Ok ((kinds, which), more)
unfolding packets_at
packets_again number k n more kinds which is one =
    ap (λ r. r >>= λ x. next which_of (BadNumber number) x.1 >>= λ w. Ok ((x.0, w.0), w.1)) (takes kinds_of (UnknownWord number) k (n ∷ more) kinds is)
    ∙ ap (λ r. r >>= λ w. Ok ((kinds, w.0), w.1)) (takes which_of (BadNumber number) n more which one)

-- kinds, and how many packets of these, in front of these words
record Count (words : Words) (x : (Kinds × ℕ) × Words) : Type 0 where
  pub k : List ℕ
  pub n : List ℕ
  pub spelled : words ≡ k ∷ n ∷ x.1
  pub kinds : kinds_of k ≡ Some x.0.0
  pub count : packet_number n ≡ Some x.0.1

count_ok : (number : ℕ) (words : Words) (x : (Kinds × ℕ) × Words) → count_at number words ≡ Ok x → Count words x
unfolding count_at
count_ok number words x e =
    let a = bind_ok (next kinds_of (UnknownWord number) words) (λ k. next packet_number (BadNumber number) k.1 >>= λ w. Ok ((k.0, w.0), w.1)) x e in
    let b = bind_ok (next packet_number (BadNumber number) a.0.1) (λ w. Ok ((a.0.0, w.0), w.1)) x a.2 in
    let k = took kinds_of (UnknownWord number) words a.0 a.1 in
    let n = took packet_number (BadNumber number) a.0.1 b.0 b.1 in
    let same : ((a.0.0, b.0.0), b.0.1) ≡ x = ok_is ((a.0.0, b.0.0), b.0.1) x b.2 in
    record {
      k = k.word;
      n = n.word;
      spelled = k.spelled ∙ ap (λ ws. k.word ∷ ws) n.spelled ∙ ap (λ z. k.word ∷ n.word ∷ z.1) same;
      kinds = k.means ∙ ap (λ z. Some z.0.0) same;
      count = n.means ∙ ap (λ z. Some z.0.1) same;
    }

count_again : (number : ℕ) (k n : List ℕ) (more : Words) (kinds : Kinds) (count : ℕ) → kinds_of k ≡ Some kinds → packet_number n ≡ Some count →
    count_at number (k ∷ n ∷ more) ≡ Ok ((kinds, count), more)
unfolding count_at
count_again number k n more kinds count is one =
    ap (λ r. r >>= λ x. next packet_number (BadNumber number) x.1 >>= λ w. Ok ((x.0, w.0), w.1)) (takes kinds_of (UnknownWord number) k (n ∷ more) kinds is)
    ∙ ap (λ r. r >>= λ w. Ok ((kinds, w.0), w.1)) (takes packet_number (BadNumber number) n more count one)

-- behind `drop` and `twice`
fate_ok : (number : ℕ) (said : PacketFate) (words : Words) (line : ScriptLine) → fate_line number said words ≡ Ok line →
    (x : Kinds × Which) × Packets words (x, []) × (Fate x.0 x.1 said ≡ line)
unfolding fate_line
fate_ok number said words line e =
    let a = bind_ok (packets_at number words) (λ p. over number p.1 >>= λ end. Ok (Fate p.0.0 p.0.1 said)) line e in
    let b = bind_ok (over number a.0.1) (λ end. Ok (Fate a.0.0.0 a.0.0.1 said)) line a.2 in
    let p = packets_ok number words a.0 a.1 in
    let none = none_left number a.0.1 b.0 b.1 in
    (a.0.0, record { k = p.k; n = p.n; spelled = p.spelled ∙ ap (λ ws. p.k ∷ p.n ∷ ws) none; kinds = p.kinds; which = p.which }, ok_is (Fate a.0.0.0 a.0.0.1 said) line b.2)

fate_again : (number : ℕ) (said : PacketFate) (k n : List ℕ) (kinds : Kinds) (which : Which) → kinds_of k ≡ Some kinds → which_of n ≡ Some which →
    fate_line number said (k ∷ n ∷ []) ≡ Ok (Fate kinds which said)
unfolding fate_line
fate_again number said k n kinds which is one =
    ap (λ r. r >>= λ p. over number p.1 >>= λ end. Ok (Fate p.0.0 p.0.1 said)) (packets_again number k n [] kinds which is one)
    ∙ ap (λ r. r >>= λ end. Ok (Fate kinds which said)) (over_none number)

-- behind `hold` and `cut`
record Sized (words : Words) (x : Kinds × Which × ℕ) : Type 0 where
  pub k : List ℕ
  pub n : List ℕ
  pub m : List ℕ
  pub spelled : words ≡ k ∷ n ∷ m ∷ []
  pub kinds : kinds_of k ≡ Some x.0
  pub which : which_of n ≡ Some x.1
  pub size : number_32 m ≡ Some x.2

sized_ok : (number : ℕ) (words : Words) (x : Kinds × Which × ℕ) → sized_at number words ≡ Ok x → Sized words x
unfolding sized_at
sized_ok number words x e =
    let a = bind_ok (packets_at number words) (λ p. next number_32 (BadNumber number) p.1 >>= λ s. over number s.1 >>= λ end. Ok (p.0.0, p.0.1, s.0)) x e in
    let b = bind_ok (next number_32 (BadNumber number) a.0.1) (λ s. over number s.1 >>= λ end. Ok (a.0.0.0, a.0.0.1, s.0)) x a.2 in
    let d = bind_ok (over number b.0.1) (λ end. Ok (a.0.0.0, a.0.0.1, b.0.0)) x b.2 in
    let p = packets_ok number words a.0 a.1 in
    let m = took number_32 (BadNumber number) a.0.1 b.0 b.1 in
    let none = none_left number b.0.1 d.0 d.1 in
    let same : (a.0.0.0, a.0.0.1, b.0.0) ≡ x = ok_is (a.0.0.0, a.0.0.1, b.0.0) x d.2 in
    record {
      k = p.k;
      n = p.n;
      m = m.word;
      spelled = p.spelled ∙ ap (λ ws. p.k ∷ p.n ∷ ws) m.spelled ∙ ap (λ ws. p.k ∷ p.n ∷ m.word ∷ ws) none;
      kinds = p.kinds ∙ ap (λ z. Some z.0) same;
      which = p.which ∙ ap (λ z. Some z.1) same;
      size = m.means ∙ ap (λ z. Some z.2) same;
    }

sized_again : (number : ℕ) (k n m : List ℕ) (kinds : Kinds) (which : Which) (size : ℕ) → kinds_of k ≡ Some kinds → which_of n ≡ Some which → number_32 m ≡ Some size →
    sized_at number (k ∷ n ∷ m ∷ []) ≡ Ok (kinds, which, size)
unfolding sized_at
sized_again number k n m kinds which size is one s =
    ap (λ r. r >>= λ p. next number_32 (BadNumber number) p.1 >>= λ s. over number s.1 >>= λ end. Ok (p.0.0, p.0.1, s.0)) (packets_again number k n (m ∷ []) kinds which is one)
    ∙ ap (λ r. r >>= λ s. over number s.1 >>= λ end. Ok (kinds, which, s.0)) (takes number_32 (BadNumber number) m [] size s)
    ∙ ap (λ r. r >>= λ end. Ok (kinds, which, size)) (over_none number)

-- behind `crash` and `suspect`
record OfMember (words : Words) (x : ℕ × Kinds × ℕ) : Type 0 where
  pub m : List ℕ
  pub k : List ℕ
  pub n : List ℕ
  pub spelled : words ≡ m ∷ k ∷ n ∷ []
  pub node : member_number m ≡ Some x.0
  pub kinds : kinds_of k ≡ Some x.1
  pub count : packet_number n ≡ Some x.2

member_ok : (number : ℕ) (words : Words) (x : ℕ × Kinds × ℕ) → member_at number words ≡ Ok x → OfMember words x
unfolding member_at
member_ok number words x e =
    let a = bind_ok (next member_number (BadNumber number) words) (λ m. count_at number m.1 >>= λ p. over number p.1 >>= λ end. Ok (m.0, p.0.0, p.0.1)) x e in
    let b = bind_ok (count_at number a.0.1) (λ p. over number p.1 >>= λ end. Ok (a.0.0, p.0.0, p.0.1)) x a.2 in
    let d = bind_ok (over number b.0.1) (λ end. Ok (a.0.0, b.0.0.0, b.0.0.1)) x b.2 in
    let m = took member_number (BadNumber number) words a.0 a.1 in
    let p = count_ok number a.0.1 b.0 b.1 in
    let none = none_left number b.0.1 d.0 d.1 in
    let same : (a.0.0, b.0.0.0, b.0.0.1) ≡ x = ok_is (a.0.0, b.0.0.0, b.0.0.1) x d.2 in
    record {
      m = m.word;
      k = p.k;
      n = p.n;
      spelled = m.spelled ∙ ap (λ ws. m.word ∷ ws) p.spelled ∙ ap (λ ws. m.word ∷ p.k ∷ p.n ∷ ws) none;
      node = m.means ∙ ap (λ z. Some z.0) same;
      kinds = p.kinds ∙ ap (λ z. Some z.1) same;
      count = p.count ∙ ap (λ z. Some z.2) same;
    }

member_again : (number : ℕ) (m k n : List ℕ) (node : ℕ) (kinds : Kinds) (count : ℕ) → member_number m ≡ Some node → kinds_of k ≡ Some kinds → packet_number n ≡ Some count →
    member_at number (m ∷ k ∷ n ∷ []) ≡ Ok (node, kinds, count)
unfolding member_at
member_again number m k n node kinds count who is one =
    ap (λ r. r >>= λ m. count_at number m.1 >>= λ p. over number p.1 >>= λ end. Ok (m.0, p.0.0, p.0.1)) (takes member_number (BadNumber number) m (k ∷ n ∷ []) node who)
    ∙ ap (λ r. r >>= λ p. over number p.1 >>= λ end. Ok (node, p.0.0, p.0.1)) (count_again number k n [] kinds count is one)
    ∙ ap (λ r. r >>= λ end. Ok (node, kinds, count)) (over_none number)

-- behind `swap`
swap_ok : (number : ℕ) (words : Words) (line : ScriptLine) → swap_line number words ≡ Ok line →
    (x : Kinds × ℕ) × Count words (x, []) × (Act x.0 x.1 act.Swap ≡ line)
unfolding swap_line
swap_ok number words line e =
    let a = bind_ok (count_at number words) (λ p. over number p.1 >>= λ end. Ok (Act p.0.0 p.0.1 act.Swap)) line e in
    let b = bind_ok (over number a.0.1) (λ end. Ok (Act a.0.0.0 a.0.0.1 act.Swap)) line a.2 in
    let p = count_ok number words a.0 a.1 in
    let none = none_left number a.0.1 b.0 b.1 in
    (a.0.0, record { k = p.k; n = p.n; spelled = p.spelled ∙ ap (λ ws. p.k ∷ p.n ∷ ws) none; kinds = p.kinds; count = p.count }, ok_is (Act a.0.0.0 a.0.0.1 act.Swap) line b.2)

swap_again : (number : ℕ) (k n : List ℕ) (kinds : Kinds) (count : ℕ) → kinds_of k ≡ Some kinds → packet_number n ≡ Some count →
    swap_line number (k ∷ n ∷ []) ≡ Ok (Act kinds count act.Swap)
unfolding swap_line
swap_again number k n kinds count is one =
    ap (λ r. r >>= λ p. over number p.1 >>= λ end. Ok (Act p.0.0 p.0.1 act.Swap)) (count_again number k n [] kinds count is one)
    ∙ ap (λ r. r >>= λ end. Ok (Act kinds count act.Swap)) (over_none number)

-- behind `seed`
record Seeds (words : Words) (seed percent : ℕ) : Type 0 where
  pub s : List ℕ
  pub p : List ℕ
  pub spelled : words ≡ s ∷ p ∷ []
  pub seeds : seed_number s ≡ Some seed
  pub percents : percentage p ≡ Some percent

seed_ok : (number : ℕ) (words : Words) (line : ScriptLine) → seed_line number words ≡ Ok line →
    (seed : ℕ) × (percent : ℕ) × Seeds words seed percent × (Seed seed percent ≡ line)
unfolding seed_line
seed_ok number words line e =
    let a = bind_ok (next seed_number (BadNumber number) words) (λ s. next percentage (BadNumber number) s.1 >>= λ p. over number p.1 >>= λ end. Ok (Seed s.0 p.0)) line e in
    let b = bind_ok (next percentage (BadNumber number) a.0.1) (λ p. over number p.1 >>= λ end. Ok (Seed a.0.0 p.0)) line a.2 in
    let d = bind_ok (over number b.0.1) (λ end. Ok (Seed a.0.0 b.0.0)) line b.2 in
    let s = took seed_number (BadNumber number) words a.0 a.1 in
    let p = took percentage (BadNumber number) a.0.1 b.0 b.1 in
    let none = none_left number b.0.1 d.0 d.1 in
    (a.0.0, b.0.0, record { s = s.word; p = p.word; spelled = s.spelled ∙ ap (λ ws. s.word ∷ ws) p.spelled ∙ ap (λ ws. s.word ∷ p.word ∷ ws) none; seeds = s.means; percents = p.means }, ok_is (Seed a.0.0 b.0.0) line d.2)

seed_again : (number : ℕ) (s p : List ℕ) (seed percent : ℕ) → seed_number s ≡ Some seed → percentage p ≡ Some percent →
    seed_line number (s ∷ p ∷ []) ≡ Ok (Seed seed percent)
unfolding seed_line
seed_again number s p seed percent is of =
    ap (λ r. r >>= λ s. next percentage (BadNumber number) s.1 >>= λ p. over number p.1 >>= λ end. Ok (Seed s.0 p.0)) (takes seed_number (BadNumber number) s (p ∷ []) seed is)
    ∙ ap (λ r. r >>= λ p. over number p.1 >>= λ end. Ok (Seed seed p.0)) (takes percentage (BadNumber number) p [] percent of)
    ∙ ap (λ r. r >>= λ end. Ok (Seed seed percent)) (over_none number)

-- a line of random words stands only where none stood
abbrev pub NotAgain : Bool → ScriptLine → Type 0
NotAgain seeded line = is_seed line ≡ true → seeded ≡ false

-- what is read is said
behind_ok : (seeded : Bool) (number : ℕ) (v : Verb) (w : List ℕ) (rest words : Words) (line : ScriptLine) → words ≡ w ∷ rest → verb_of w ≡ Some v →
    behind_verb seeded number v rest ≡ Ok line → Says words line × NotAgain seeded line
behind_ok seeded number verb.Drop w rest words line spelled is e =
    let f = fate_ok number fate.Drop rest line e in
    let p = f.1 in
    subst (λ (l : ScriptLine). Says words l × NotAgain seeded l) f.2
    ((w, p.k, p.n, spelled ∙ ap (λ ws. w ∷ ws) p.spelled, is, p.kinds, p.which), λ h. absurd (cc))
behind_ok seeded number verb.Twice w rest words line spelled is e =
    let f = fate_ok number fate.Twice rest line e in
    let p = f.1 in
    subst (λ (l : ScriptLine). Says words l × NotAgain seeded l) f.2
    ((w, p.k, p.n, spelled ∙ ap (λ ws. w ∷ ws) p.spelled, is, p.kinds, p.which), λ h. absurd (cc))
behind_ok seeded number verb.Hold w rest words line spelled is e =
    let b = bind_ok (sized_at number rest) (λ x. Ok (Fate x.0 x.1 (fate.Hold x.2))) line e in
    let p = sized_ok number rest b.0 b.1 in
    subst (λ (l : ScriptLine). Says words l × NotAgain seeded l) (ok_is (Fate b.0.0 b.0.1 (fate.Hold b.0.2)) line b.2)
    ((p.m, (w, p.k, p.n, spelled ∙ ap (λ ws. w ∷ ws) p.spelled, is, p.kinds, p.which), p.size), λ h. absurd (cc))
behind_ok seeded number verb.Cut w rest words line spelled is e =
    let b = bind_ok (sized_at number rest) (λ x. Ok (Fate x.0 x.1 (fate.Cut x.2))) line e in
    let p = sized_ok number rest b.0 b.1 in
    subst (λ (l : ScriptLine). Says words l × NotAgain seeded l) (ok_is (Fate b.0.0 b.0.1 (fate.Cut b.0.2)) line b.2)
    ((p.m, (w, p.k, p.n, spelled ∙ ap (λ ws. w ∷ ws) p.spelled, is, p.kinds, p.which), p.size), λ h. absurd (cc))
behind_ok seeded number verb.Crash w rest words line spelled is e =
    let b = bind_ok (member_at number rest) (λ x. Ok (Act x.1 x.2 (act.Crash x.0))) line e in
    let p = member_ok number rest b.0 b.1 in
    subst (λ (l : ScriptLine). Says words l × NotAgain seeded l) (ok_is (Act b.0.1 b.0.2 (act.Crash b.0.0)) line b.2)
    ((w, p.m, p.k, p.n, spelled ∙ ap (λ ws. w ∷ ws) p.spelled, is, p.node, p.kinds, p.count), λ h. absurd (cc))
behind_ok seeded number verb.Suspect w rest words line spelled is e =
    let b = bind_ok (member_at number rest) (λ x. Ok (Act x.1 x.2 (act.Suspect x.0))) line e in
    let p = member_ok number rest b.0 b.1 in
    subst (λ (l : ScriptLine). Says words l × NotAgain seeded l) (ok_is (Act b.0.1 b.0.2 (act.Suspect b.0.0)) line b.2)
    ((w, p.m, p.k, p.n, spelled ∙ ap (λ ws. w ∷ ws) p.spelled, is, p.node, p.kinds, p.count), λ h. absurd (cc))
behind_ok seeded number verb.Swap w rest words line spelled is e =
    let f = swap_ok number rest line e in
    let p = f.1 in
    subst (λ (l : ScriptLine). Says words l × NotAgain seeded l) f.2
    ((w, p.k, p.n, spelled ∙ ap (λ ws. w ∷ ws) p.spelled, is, p.kinds, p.count), λ h. absurd (cc))
behind_ok true number verb.Seed w rest words line spelled is e = absurd (cc)
behind_ok false number verb.Seed w rest words line spelled is e =
    let f = seed_ok number rest line e in
    let p = f.2 in
    subst (λ (l : ScriptLine). Says words l × NotAgain false l) f.3
    ((w, p.s, p.p, spelled ∙ ap (λ ws. w ∷ ws) p.spelled, is, p.seeds, p.percents), λ h. refl)

pub said_ok : (seeded : Bool) (number : ℕ) (words : Words) (line : ScriptLine) → said_at seeded number words ≡ Ok line → Says words line × NotAgain seeded line
unfolding said_at
said_ok seeded number words line e =
    let a = bind_ok (next verb_of (UnknownWord number) words) (λ f. behind_verb seeded number f.0 f.1) line e in
    let w = took verb_of (UnknownWord number) words a.0 a.1 in
    behind_ok seeded number a.0.0 w.word a.0.1 words line w.spelled w.means a.2

-- what is said is read
begins : (seeded : Bool) (number : ℕ) (w : List ℕ) (rest words : Words) (v : Verb) (line : ScriptLine) → words ≡ w ∷ rest → verb_of w ≡ Some v →
    behind_verb seeded number v rest ≡ Ok line → said_at seeded number words ≡ Ok line
unfolding said_at
begins seeded number w rest words v line spelled is e =
    ap (λ ws. next verb_of (UnknownWord number) ws >>= λ f. behind_verb seeded number f.0 f.1) spelled
    ∙ ap (λ r. r >>= λ f. behind_verb seeded number f.0 f.1) (takes verb_of (UnknownWord number) w rest v is) ∙ e

pub said_again : (seeded : Bool) (number : ℕ) (words : Words) (line : ScriptLine) → Says words line → NotAgain seeded line → said_at seeded number words ≡ Ok line
said_again seeded number words (Fate kinds which fate.Pass) s apart = absurd s
said_again seeded number words (Fate kinds which fate.Drop) s apart =
    begins seeded number s.0 (s.1 ∷ s.2 ∷ []) words verb.Drop _ s.3 s.4 (fate_again number fate.Drop s.1 s.2 kinds which s.5 s.6)
said_again seeded number words (Fate kinds which fate.Twice) s apart =
    begins seeded number s.0 (s.1 ∷ s.2 ∷ []) words verb.Twice _ s.3 s.4 (fate_again number fate.Twice s.1 s.2 kinds which s.5 s.6)
said_again seeded number words (Fate kinds which (fate.Hold ticks)) s apart =
    let p = s.1 in
    begins seeded number p.0 (p.1 ∷ p.2 ∷ s.0 ∷ []) words verb.Hold _ p.3 p.4
    (ap (λ r. r >>= λ x. Ok (Fate x.0 x.1 (fate.Hold x.2))) (sized_again number p.1 p.2 s.0 kinds which ticks p.5 p.6 s.2))
said_again seeded number words (Fate kinds which (fate.Cut size)) s apart =
    let p = s.1 in
    begins seeded number p.0 (p.1 ∷ p.2 ∷ s.0 ∷ []) words verb.Cut _ p.3 p.4
    (ap (λ r. r >>= λ x. Ok (Fate x.0 x.1 (fate.Cut x.2))) (sized_again number p.1 p.2 s.0 kinds which size p.5 p.6 s.2))
said_again seeded number words (Act kinds count (act.Crash node)) s apart =
    begins seeded number s.0 (s.1 ∷ s.2 ∷ s.3 ∷ []) words verb.Crash _ s.4 s.5
    (ap (λ r. r >>= λ x. Ok (Act x.1 x.2 (act.Crash x.0))) (member_again number s.1 s.2 s.3 node kinds count s.6 s.7 s.8))
said_again seeded number words (Act kinds count (act.Suspect node)) s apart =
    begins seeded number s.0 (s.1 ∷ s.2 ∷ s.3 ∷ []) words verb.Suspect _ s.4 s.5
    (ap (λ r. r >>= λ x. Ok (Act x.1 x.2 (act.Suspect x.0))) (member_again number s.1 s.2 s.3 node kinds count s.6 s.7 s.8))
said_again seeded number words (Act kinds count act.Swap) s apart =
    begins seeded number s.0 (s.1 ∷ s.2 ∷ []) words verb.Swap _ s.3 s.4 (swap_again number s.1 s.2 kinds count s.5 s.6)
said_again seeded number words (Seed seed percent) s apart =
    begins seeded number s.0 (s.1 ∷ s.2 ∷ []) words verb.Seed _ s.3 s.4
    (ap (λ b. if b then Err (UnknownWord number) else seed_line number (s.1 ∷ s.2 ∷ [])) (apart refl) ∙ seed_again number s.1 s.2 seed percent s.5 s.6)
