-- Which process each entry begins.
use Rattle.std.proofs.Common.{◌≡◌, ◌≤◌, ◌<◌, ◌+◌, ℕ, zero, suc, ◌⊎◌, inl, inr, ⊎_elim, List, [], ◌∷◌, ◌++◌, Some, sym, ap, ◌∙◌, arith, length, take, drop, append-nil, length-append}
use Rattle.std.proofs.lemmas.Bool.{cases_lt}
use Rattle.std.proofs.lemmas.List.{length-take-le, take-append-drop}
use Rattle.std.specs.Prelude.{slice_get}
use Rattle.value_core.specs.declared.message.Message.{Message}
use Rattle.book_law.proofs.Books.{take_at}
use Rattle.book_law.proofs.Lists.{at_push}
use Rattle.book_law.proofs.Processes.{get_end}
use Rattle.world_rules.specs.Frame.{Frame}
use Rattle.world_rules.specs.Processes.{Begun, begun_by, first_process, home_in, processes_from, processes_in, with_entry}
use Rattle.world_course.proofs.Begun.{from_append, get_from}
use Rattle.world_course.proofs.Listing.{got_less, one_born, processes_push}

-- all places are at most n
abbrev UpTo : List Begun → ℕ → Type 0
UpTo ps n = (j : ℕ) (b : Begun) → slice_get ps j ≡ Some b → b.place ≤ n

up_to_next : (f : Frame) (ps : List Begun) (n : ℕ) (x : Message) → UpTo ps n → UpTo (with_entry f ps (suc n) x) (suc n)
up_to_next f ps n x up j b is = go (one_born f.settings.nodes (home_in ps x.process.0) (suc n) x.action)
  where
    born : List Begun
    born = begun_by f.settings.nodes (home_in ps x.process.0) (suc n) x.action

    go : (born ≡ []) ⊎ ((a : Begun) × (born ≡ a ∷ []) × (a.place ≡ suc n)) → b.place ≤ suc n
    go (inl none) =
        let le = up j b (ap (λ (bs : List Begun). slice_get bs j) (sym (append-nil ps) ∙ ap (λ (bs : List Begun). ps ++ bs) (sym none)) ∙ is) in
        omega (arith, le)
    go (inr (a, one, place)) = ⊎_elim
        (λ (old : slice_get ps j ≡ Some b). let le = up j b old in omega (arith, le))
        (λ u. let e : a.place ≡ b.place = ap (λ (z : Begun). z.place) u.1 in omega (arith, e, place))
        (at_push ps a j b (ap (λ (bs : List Begun). slice_get (ps ++ bs) j) (sym one) ∙ is))

up_to_from : (f : Frame) (ps : List Begun) (n : ℕ) (xs : List Message) → UpTo ps n → UpTo (processes_from f ps n xs) (n + length xs)
up_to_from f ps n [] up j b is = let le = up j b is in omega (arith, le)
up_to_from f ps n (x ∷ xs) up j b is = let le = up_to_from f (with_entry f ps (suc n) x) (suc n) xs (up_to_next f ps n x up) j b is in omega (arith, le)

up_to_first : (f : Frame) → UpTo (first_process f ∷ []) 0
up_to_first f zero b is = let e : first_process f ≡ b = cc in let g : 0 ≡ b.place = ap (λ (z : Begun). z.place) e in omega (arith, g)
up_to_first f (suc j) b is = absurd (cc is)

-- those that later entries begin have later places
behind_from : (f : Frame) (ps : List Begun) (n : ℕ) (xs : List Message) (j : ℕ) (b : Begun) → length ps ≤ j → slice_get (processes_from f ps n xs) j ≡ Some b → n < b.place
behind_from f ps n [] j b le is = let lt = got_less ps j b is in absurd (omega (arith, le, lt))
behind_from f ps n (x ∷ xs) j b le is = ⊎_elim
    (λ (lt : j < length (with_entry f ps (suc n) x)). here lt (one_born f.settings.nodes (home_in ps x.process.0) (suc n) x.action))
    (λ (far : length (with_entry f ps (suc n) x) ≤ j). let lt = behind_from f (with_entry f ps (suc n) x) (suc n) xs j b far is in omega (arith, lt))
    (cases_lt j (length (with_entry f ps (suc n) x)))
  where
    born : List Begun
    born = begun_by f.settings.nodes (home_in ps x.process.0) (suc n) x.action

    here : j < length (ps ++ born) → (born ≡ []) ⊎ ((a : Begun) × (born ≡ a ∷ []) × (a.place ≡ suc n)) → n < b.place
    here lt (inl none) =
        let e : length (ps ++ born) ≡ length ps = ap (λ (bs : List Begun). length (ps ++ bs)) none ∙ ap length (append-nil ps) in
        absurd (omega (arith, lt, e, le))
    here lt (inr (a, one, place)) =
        let at : slice_get (ps ++ born) j ≡ Some b = sym (stays lt) ∙ is in
        ⊎_elim
        (λ (old : slice_get ps j ≡ Some b). let less = got_less ps j b old in absurd (omega (arith, less, le)))
        (λ u. let e : a.place ≡ b.place = ap (λ (z : Begun). z.place) u.1 in omega (arith, e, place))
        (at_push ps a j b (ap (λ (bs : List Begun). slice_get (ps ++ bs) j) (sym one) ∙ at))
      where
        stays : j < length (ps ++ born) → slice_get (processes_from f (ps ++ born) (suc n) xs) j ≡ slice_get (ps ++ born) j
        stays less = get_from f (ps ++ born) (suc n) xs j less

-- ---- the process of one entry

-- what entry a + 1, which is x, begins
abbrev pub born_at : Frame → List Message → ℕ → Message → List Begun
born_at f list a x = begun_by f.settings.nodes (home_in (processes_in f (take a list)) x.process.0) (suc a) x.action

-- the processes of a list, around one entry
around : (f : Frame) (list : List Message) (a : ℕ) (x : Message) → slice_get list a ≡ Some x
    → processes_in f list ≡ processes_from f (processes_in f (take a list) ++ born_at f list a x) (suc a) (drop (suc a) list)
around f list a x is =
    ap (processes_in f) (sym (take-append-drop (suc a) list))
    ∙ from_append f (first_process f ∷ []) 0 (take (suc a) list) (drop (suc a) list)
    ∙ ap (λ (n : ℕ). processes_from f (processes_in f (take (suc a) list)) n (drop (suc a) list)) number
    ∙ ap (λ (ps : List Begun). processes_from f ps (suc a) (drop (suc a) list)) here
  where
    less : a < length list
    less = got_less list a x is

    shorter : length (take a list) ≡ a
    shorter = length-take-le a list (omega (arith, less))

    number : 0 + length (take (suc a) list) ≡ suc a
    number = let e = length-take-le (suc a) list (omega (arith, less)) in omega (arith, e)

    here : processes_in f (take (suc a) list) ≡ processes_in f (take a list) ++ born_at f list a x
    here = ap (processes_in f) (take_at list a x is) ∙ processes_push f (take a list) x ∙ ap (λ (n : ℕ). with_entry f (processes_in f (take a list)) (suc n) x) shorter

-- it has the next number
pub born_there : (f : Frame) (list : List Message) (a : ℕ) (x : Message) (b : Begun) → slice_get list a ≡ Some x → born_at f list a x ≡ b ∷ [] → slice_get (processes_in f list) (length (processes_in f (take a list))) ≡ Some b
born_there f list a x b is one =
    let ps : List Begun = processes_in f (take a list) in
    let e : length (ps ++ born_at f list a x) ≡ length ps + 1 = ap (λ (bs : List Begun). length (ps ++ bs)) one ∙ length-append ps (b ∷ []) in
    ap (λ (bs : List Begun). slice_get bs (length ps)) (around f list a x is)
    ∙ get_from f (ps ++ born_at f list a x) (suc a) (drop (suc a) list) (length ps) (omega (arith, e))
    ∙ ap (λ (bs : List Begun). slice_get (ps ++ bs) (length ps)) one
    ∙ get_end ps b

-- and a process of its place is it
pub placed_so : (f : Frame) (list : List Message) (a : ℕ) (x : Message) (j : ℕ) (b : Begun) → slice_get list a ≡ Some x → slice_get (processes_in f list) j ≡ Some b → b.place ≡ suc a
    → (j ≡ length (processes_in f (take a list))) × (born_at f list a x ≡ b ∷ [])
placed_so f list a x j b is there place = go (one_born f.settings.nodes (home_in (processes_in f (take a list)) x.process.0) (suc a) x.action) (cases_lt j (length (ps ++ born_at f list a x)))
  where
    ps : List Begun
    ps = processes_in f (take a list)

    at : slice_get (processes_from f (ps ++ born_at f list a x) (suc a) (drop (suc a) list)) j ≡ Some b
    at = ap (λ (bs : List Begun). slice_get bs j) (sym (around f list a x is)) ∙ there

    early : slice_get ps j ≡ Some b → ⊥
    early old =
        let le = up_to_from f (first_process f ∷ []) 0 (take a list) (up_to_first f) j b old in
        let less = got_less list a x is in
        let e = length-take-le a list (omega (arith, less)) in
        omega (arith, le, place, e)

    go : (born_at f list a x ≡ []) ⊎ ((z : Begun) × (born_at f list a x ≡ z ∷ []) × (z.place ≡ suc a)) → (j < length (ps ++ born_at f list a x)) ⊎ (length (ps ++ born_at f list a x) ≤ j)
        → (j ≡ length ps) × (born_at f list a x ≡ b ∷ [])
    go which (inr far) = let lt = behind_from f (ps ++ born_at f list a x) (suc a) (drop (suc a) list) j b far at in absurd (omega (arith, lt, place))
    go (inl none) (inl lt) =
        let old : slice_get ps j ≡ Some b = ap (λ (bs : List Begun). slice_get bs j) (sym (append-nil ps) ∙ ap (λ (bs : List Begun). ps ++ bs) (sym none))
        ∙ sym (get_from f (ps ++ born_at f list a x) (suc a) (drop (suc a) list) j lt) ∙ at in
        absurd (early old)
    go (inr (z, one, same)) (inl lt) = ⊎_elim
        (λ (old : slice_get ps j ≡ Some b). absurd (early old))
        (λ u. (u.0, one ∙ ap (λ (y : Begun). y ∷ []) u.1))
        (at_push ps z j b (ap (λ (bs : List Begun). slice_get (ps ++ bs) j) (sym one) ∙ sym (get_from f (ps ++ born_at f list a x) (suc a) (drop (suc a) list) j lt) ∙ at))
