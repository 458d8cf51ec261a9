-- What a member's part tells: of each entry that it applies the lines that the list of the run has for it.
use Rattle.std.proofs.Common.{◌≡◌, ◌<◌, ◌≤◌, ◌+◌, ◌⊎◌, inl, inr, ℕ, zero, suc, false, nat_lt, List, [], ◌∷◌, ◌++◌, All, map, length, length-append, take, Option, None, Some, refl, sym, ap, ◌∙◌, subst, arith}
use Rattle.std.specs.Prelude.{is_some, slice_get}
use Rattle.std.proofs.lemmas.Bool.{cases_eq, cond_both}
use Rattle.std.proofs.lemmas.List.{take-take}
use Rattle.std.proofs.lemmas.List.Elements.{All-nil, All-push, All-weaker}
use Rattle.value_core.specs.declared.action.Line.{Line}
use Rattle.value_core.specs.declared.message.Message.{Message}
use Rattle.object_manager.specs.Limits.{too_many}
use Rattle.book_law.specs.Book.{copies_at}
use Rattle.book_law.specs.declared.placing.Placed.{Placed}
use Rattle.book_law.proofs.Processes.{get_end}
use Rattle.group_rules.specs.Member.{Member}
use Rattle.group_rules.specs.Messages.{Group}
use Rattle.group_rules.specs.Work.{Act}
use Rattle.world_rules.specs.Applying.{notes, passes_limit, tries_read}
use Rattle.world_rules.specs.Frame.{Frame, group}
use Rattle.world_rules.specs.Nodes.{Deed, NodeWork, aside_of, entries_of}
use Rattle.world_rules.specs.Nodes.Deed.{Acts}
use Rattle.world_rules.specs.Owners.{takes}
use Rattle.world_rules.specs.Parts.{asks_again_of}
use Rattle.world_rules.specs.Worlds.{World, agreed, singles_in}
use Rattle.world_law.specs.Moments.{IsMoment}
use Rattle.world_law.proofs.Still.{Still, still_again_of, still_read, still_takes}
use Rattle.world_course.proofs.Begun.{left_same}
use Rattle.node_rules.specs.Conditions.{Fitness}
use Rattle.node_rules.specs.Moments.{Goes, IsDue, Moment, Walks, entry_lines, takes_entry}
use Rattle.node_rules.specs.Moments.{at_work as at_moment}
use Rattle.node_rules.specs.Moments.Goes.{Takes_entry, Tries_read, Notes, Opens, Takes, Holds, Asks_again}
use Rattle.node_rules.specs.Starts.{Start, begun, part}
use Rattle.node_rules.proofs.Walking.{parts_walk}
use Rattle.world_calls.proofs.Beginning.{MayStart}
use Rattle.world_calls.proofs.Each.{AtEach, goes_each, notes_keep, self}
use Rattle.world_calls.proofs.Going.{Known, entry_entries, entry_number}
use Rattle.run_law.specs.Growing.{lines_at}
use Rattle.node_rules.specs.Entries.{told_lines}
use Rattle.run_law.proofs.Deeds.{Rows, StaysWith, has_begun, has_entry, has_goes, has_part}
use Rattle.run_law.proofs.Lines.{ListMakes, limit_is, lines_are, shares}

-- ---- a member's entries begin the list at each moment, since they do at the end

module _ (f : Frame) (fitness : Fitness) (w : World) (m : ℕ) (known : Known f fitness w m) (list : List Message) where
  abbrev pub Begins : NodeWork → Type 0
  Begins v = entries_of v.node ≡ take v.node.copies.applied list

  still_begins : (v u : NodeWork) → Still (group f) m v u → Begins u → Begins v
  still_begins v u s is =
      ap (λ (n : ℕ). take n v.node.member.log) (sym s.applied) ∙ ap (λ (z : Member Message). take u.node.copies.applied z.log) (sym s.member) ∙ is
      ∙ ap (λ (n : ℕ). take n list) s.applied

  notes_begins : (v : NodeWork) → entries_of (notes f m v).node ≡ entries_of v.node → Begins (notes f m v) → Begins v
  notes_begins v kept is = sym kept ∙ is ∙ ap (λ (n : ℕ). take n list) same
    where
      same : (notes f m v).node.copies.applied ≡ v.node.copies.applied
      same = cond_both (nat_lt v.node.member.applied v.node.copies.applied) _ _ (λ (u : NodeWork). u.node.copies.applied ≡ v.node.copies.applied) (λ e. refl) (λ e. refl)

  -- with one entry more
  pub entry_begins : (x : Message) (v : NodeWork) → Begins (takes_entry f m x v) → take (suc v.node.copies.applied) v.node.member.log ≡ take (suc v.node.copies.applied) list
  entry_begins x v is = sym (entry_entries f m x v) ∙ is ∙ ap (λ (n : ℕ). take n list) (entry_number f m x v)

  pub before_entry : (x : Message) (v : NodeWork) → Begins (takes_entry f m x v) → Begins v
  before_entry x v is =
      let n : ℕ = v.node.copies.applied in
      sym (take-take n (suc n) v.node.member.log (omega arith)) ∙ ap (take n) (entry_begins x v is) ∙ take-take n (suc n) list (omega arith)

  goes_begins : (u v : Moment) → IsMoment f w m u.work → Goes f m u v → Begins v.work → Begins u.work
  goes_begins u v moment (Takes_entry x due within is) begins = before_entry x u.work (subst (λ (z : Moment). Begins z.work) is begins)
  goes_begins u v moment (Tries_read i is) begins =
      still_begins u.work (tries_read f i u.work) (still_read f (group f) m i u.work) (subst (λ (z : Moment). Begins z.work) is begins)
  goes_begins u v moment (Notes is) begins =
      let g = known.group in
      notes_begins u.work (notes_keep f w m u.work (g.notes w m u.work known.lives moment)) (subst (λ (z : Moment). Begins z.work) is begins)
  goes_begins u v moment (Opens none inside is) begins = subst (λ (z : Moment). Begins z.work) is begins
  goes_begins u v moment (Takes e es hand reached is) begins =
      still_begins u.work (takes f m e u.work) (still_takes f (group f) m m e u.work) (subst (λ (z : Moment). Begins z.work) is begins)
  goes_begins u v moment (Holds e es hand is) begins = subst (λ (z : Moment). Begins z.work) is begins
  goes_begins u v moment (Asks_again i is) begins =
      still_begins u.work (asks_again_of f m i (u.work.node.played i) u.work) (still_again_of f (group f) m m i (u.work.node.played i) u.work)
      (subst (λ (z : Moment). Begins z.work) is begins)

  pub moment_at : (u : Moment) → AtEach f w m u → IsMoment f w m u.work
  moment_at u e = let one = self f w m u e in let a = one.at in a.moment

  pub walks_begins : (u v : Moment) → Walks f m u v → AtEach f w m u → Begins v.work → Begins u.work
  walks_begins u v (Walks.Stays x) e begins = begins
  walks_begins u v (Walks.Then x y z go rest) e begins =
      goes_begins u y (moment_at u e) go (walks_begins y v rest (goes_each f fitness w m u y known e go) begins)

-- ---- what was told so far

-- from a entries on, up to n, these are the lines of the entries by the list, and none passed a limit there
pub record ToldSo (f : Frame) (u : World) (a n : ℕ) (told : List (List Line)) : Type 0 where
  pub count : a + length told ≡ n
  pub lines :
      (k : ℕ) (x : Message) → k < length told → slice_get (agreed f u) (a + k) ≡ Some x → slice_get told k ≡ Some (lines_at f u (a + k) x)
  pub passed :
      (k : ℕ) (x : Message) → k < length told → slice_get (agreed f u) (a + k) ≡ Some x →
      too_many f.performs (copies_at (singles_in f u) f.performs (agreed f u) (a + k)) x.action ≡ None

none_told : (f : Frame) (u : World) (a : ℕ) → ToldSo f u a a []
none_told f u a = record {
  count = omega arith;
  lines = λ k x lt there. absurd (omega (arith, lt));
  passed = λ k x lt there. absurd (omega (arith, lt));
}

below_or : (k n : ℕ) → k < suc n → (k < n) ⊎ (k ≡ n)
below_or k n lt = go (cases_eq k n)
  where
    go : (k ≡ n) ⊎ (k ≡ n → ⊥) → (k < n) ⊎ (k ≡ n)
    go (inl e) = inr e
    go (inr apart) = inl (omega (arith, lt, apart))

one_told : (f : Frame) (u : World) (a n : ℕ) (told : List (List Line)) (x : Message) (ls : List Line) → ToldSo f u a n told → slice_get (agreed f u) n ≡ Some x → ls ≡ lines_at f u n x
    → too_many f.performs (copies_at (singles_in f u) f.performs (agreed f u) n) x.action ≡ None → ToldSo f u a (suc n) (told ++ ls ∷ [])
one_told f u a n told x ls h there is few = record {
  count = let count = h.count in omega (arith, count, long);
  lines = λ k y lt at. put_line k y at (below_or k (length told) (omega (arith, lt, long)));
  passed = λ k y lt at. put_passed k y at (below_or k (length told) (omega (arith, lt, long)));
}
  where
    long : length (told ++ ls ∷ []) ≡ length told + 1
    long = length-append told (ls ∷ [])

    last : (k : ℕ) → k ≡ length told → a + k ≡ n
    last k e = let count = h.count in omega (arith, count, e)

    same : (k : ℕ) (y : Message) → k ≡ length told → slice_get (agreed f u) (a + k) ≡ Some y → y ≡ x
    same k y e at = let both : Some y ≡ Some x = sym at ∙ ap (slice_get (agreed f u)) (last k e) ∙ there in cc both

    put_line : (k : ℕ) (y : Message) → slice_get (agreed f u) (a + k) ≡ Some y → (k < length told) ⊎ (k ≡ length told) → slice_get (told ++ ls ∷ []) k ≡ Some (lines_at f u (a + k) y)
    put_line k y at (inl lt) = left_same told (ls ∷ []) k lt ∙ h.lines k y lt at
    put_line k y at (inr e) =
        ap (slice_get (told ++ ls ∷ [])) e ∙ get_end told ls
        ∙ ap (λ (z : List Line). Some z) (is ∙ ap (λ (i : ℕ). lines_at f u i x) (sym (last k e)) ∙ ap (lines_at f u (a + k)) (sym (same k y e at)))

    put_passed : (k : ℕ) (y : Message) → slice_get (agreed f u) (a + k) ≡ Some y → (k < length told) ⊎ (k ≡ length told)
        → too_many f.performs (copies_at (singles_in f u) f.performs (agreed f u) (a + k)) y.action ≡ None
    put_passed k y at (inl lt) = h.passed k y lt at
    put_passed k y at (inr e) =
        ap (λ (i : ℕ). too_many f.performs (copies_at (singles_in f u) f.performs (agreed f u) i) y.action) (last k e)
        ∙ ap (λ (z : Message). too_many f.performs (copies_at (singles_in f u) f.performs (agreed f u) n) z.action) (same k y e at) ∙ few

acts_told : (acts : List (Act Message)) (deeds : List Deed) → told_lines (map Acts acts ++ deeds) ≡ told_lines deeds
acts_told [] deeds = refl
acts_told (act ∷ acts) deeds = acts_told acts deeds

stays_told : (f : Frame) (u : World) (m a : ℕ) → StaysWith (group f) m (λ n deeds. ToldSo f u a n (told_lines deeds))
stays_told f u m a = record {
  submits = λ n x deeds h. h;
  acts = λ n uses acts deeds t h. subst (ToldSo f u a n) (sym (acts_told acts deeds)) h;
  mails = λ n incarnation to errand deeds h. h;
  performs = λ n line deeds h. h;
}

-- ---- from moment to moment

not_some : {A : Type 0} (o : Option A) → is_some o ≡ false → o ≡ None
not_some None is = refl
not_some (Some x) is = absurd (cc is)

-- the entry that is due stands in the list
last_of : {A : Type 0} (xs : List A) (n : ℕ) → slice_get (take (suc n) xs) n ≡ slice_get xs n
last_of [] n = refl
last_of (x ∷ xs) zero = refl
last_of (x ∷ xs) (suc n) = last_of xs n

next_there : (list log : List Message) (n : ℕ) (x : Message) → slice_get log n ≡ Some x → take (suc n) log ≡ take (suc n) list → slice_get list n ≡ Some x
next_there list log n x there same = sym (last_of list n) ∙ ap (λ (l : List Message). slice_get l n) (sym same) ∙ last_of log n ∙ there

module _ (f : Frame) (fitness : Fitness) (w : World) (m : ℕ) (known : Known f fitness w m) (rows : Rows f w m) (u : World) (made : ListMakes f (agreed f u)) where
  abbrev Told : NodeWork → Type 0
  Told v = ToldSo f u (w.nodes m).copies.applied v.node.copies.applied (told_lines v.deeds)

  told_entry : (t : Moment) (x : Message) → AtEach f w m t → IsDue t.work.node x → passes_limit f t.work.node x ≡ false → Begins f fitness w m known (agreed f u) (takes_entry f m x t.work) → Told t.work → Told (takes_entry f m x t.work)
  told_entry t x e due within begins h =
      let n : ℕ = t.work.node.copies.applied in
      let so_far = before_entry f fitness w m known (agreed f u) x t.work begins in
      let there = next_there (agreed f u) t.work.node.member.log n x due.there (entry_begins f fitness w m known (agreed f u) x t.work begins) in
      let same = shares f w m t (agreed f u) e made so_far in
      has_entry f w m (λ k deeds. ToldSo f u (w.nodes m).copies.applied k (told_lines deeds)) (stays_told f u m (w.nodes m).copies.applied) rows x t.work
      (one_told f u (w.nodes m).copies.applied n (told_lines t.work.deeds) x (entry_lines f t.work.node x) h there
      (lines_are f (agreed f u) n x t.work.node made there so_far same)
      (sym (limit_is f.performs t.work.node.copies (copies_at (singles_in f u) f.performs (agreed f u) n) x.action same)
      ∙ not_some (too_many f.performs t.work.node.copies x.action) within))

  told_walks : (t v : Moment) → Walks f m t v → AtEach f w m t → Begins f fitness w m known (agreed f u) v.work → Told t.work → Told v.work
  told_walks t v (Walks.Stays x) e begins h = h
  told_walks t v (Walks.Then a y z go rest) e begins h =
      let later = goes_each f fitness w m t y known e go in
      let there = walks_begins f fitness w m known (agreed f u) y v rest later begins in
      told_walks y v rest later begins
      (has_goes f w m (λ k deeds. ToldSo f u (w.nodes m).copies.applied k (told_lines deeds)) (stays_told f u m (w.nodes m).copies.applied) rows t y
      (λ x due within is k. subst (λ (p : Moment). Told p.work) (sym is)
      (told_entry t x e due within (subst (λ (p : Moment). Begins f fitness w m known (agreed f u) p.work) is there) k))
      go h)

  -- so it is at the end of a part, where the member's entries begin the list
  pub told_part : (start : Start) → MayStart f w m start → AtEach f w m (at_moment (begun f m start (w.nodes m))) → Begins f fitness w m known (agreed f u) (part f m start (w.nodes m))
      → ToldSo f u (w.nodes m).copies.applied (part f m start (w.nodes m)).node.copies.applied (told_lines (part f m start (w.nodes m)).deeds)
  told_part start may e begins =
      told_walks (at_moment (begun f m start (w.nodes m))) (at_moment (part f m start (w.nodes m))) (parts_walk f m start (w.nodes m)) e begins
      (has_begun f w m (λ k deeds. ToldSo f u (w.nodes m).copies.applied k (told_lines deeds)) (stays_told f u m (w.nodes m).copies.applied) rows start may
      (none_told f u (w.nodes m).copies.applied))

-- ---- beside the list

acts_beside : (acts : List (Act Message)) (deeds : List Deed) → aside_of (map Acts acts ++ deeds) ≡ aside_of deeds
acts_beside [] deeds = refl
acts_beside (act ∷ acts) deeds = acts_beside acts deeds

abbrev UpTo : ℕ → Placed → Type 0
UpTo n r = r.place ≤ n

stays_beside : (g : Group Message) (m : ℕ) → StaysWith g m (λ n deeds. All (UpTo n) (aside_of deeds))
stays_beside g m = record {
  submits = λ n x deeds h. h;
  acts = λ n uses acts deeds t h. subst (All (UpTo n)) (sym (acts_beside acts deeds)) h;
  mails = λ n incarnation to errand deeds h. h;
  performs = λ n line deeds h. All-push (UpTo n) (aside_of deeds) (record { place = n; line = line }) h (omega arith);
}

pub beside_part : (f : Frame) (w : World) (m : ℕ) (start : Start) → Rows f w m → MayStart f w m start →
    All (UpTo (part f m start (w.nodes m)).node.copies.applied) (aside_of (part f m start (w.nodes m)).deeds)
beside_part f w m start rows may =
    has_part f w m (λ n deeds. All (UpTo n) (aside_of deeds)) (stays_beside (group f) m) rows
    (λ n lines deeds h. All-weaker (UpTo n) (UpTo (suc n)) (λ r le. omega (arith, le)) (aside_of deeds) h) start may
    (All-nil (UpTo (w.nodes m).copies.applied))
