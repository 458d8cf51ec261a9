-- Entries and pieces are stored one after the other, for which there is room; and members take their places.
use Rattle.std.proofs.Common.{◌≡◌, ◌≤◌, ◌<◌, ◌+◌, ◌-◌, ◌∙◌, ℕ, List, [], ◌∷◌, ◌++◌, slice_set, ap, sym, subst, refl, arith, length, append-nil, append_assoc}
use Rattle.std.specs.List.{AllByRecursion as Each}
use Rattle.value_core.specs.declared.message.Message.{Message}
use Rattle.book_law.specs.declared.placing.Placed.{Placed}
use Rattle.node_core.specs.declared.node.Node.{Node}
use Rattle.world_parts.proofs.Lists.{set_length}
use Rattle.world_parts.specs.Recorded.{Recorded, of_piece, of_pieces}
use Rattle.world_parts.specs.declared.ledger.Piece.{Piece}
use Rattle.world_core.specs.Drafting.{taken}
use Rattle.world_core.specs.declared.draft.Part.{Part}

-- ---- entries

-- what the loop knows
pub record KeptTo (all rest : List Message) (old now : Recorded) : Type 0 where
  pub same : now ≡ record old { entries = now.entries; entry_room = now.entry_room }
  pub entries : now.entries ++ rest ≡ old.entries ++ all
  pub room : now.entry_room + length all ≡ old.entry_room + length rest

pub kept_first : (all rest : List Message) (old : Recorded) → rest ≡ all → KeptTo all rest old old
kept_first all rest old is = record { same = refl; entries = ap (λ (l : List Message). old.entries ++ l) is; room = omega (arith, ap length is) }

pub kept_room : (all rest left : List Message) (x : Message) (old now : Recorded) → rest ≡ x ∷ left → length all ≤ old.entry_room → KeptTo all rest old now → 1 ≤ now.entry_room
kept_room all rest left x old now is few h = omega (arith, ap length is, few, h.room)

pub kept_more : (all rest left : List Message) (x : Message) (old now new : Recorded) → rest ≡ x ∷ left → length all ≤ old.entry_room
    → new ≡ record now { entries = now.entries ++ x ∷ []; entry_room = now.entry_room - 1 } → KeptTo all rest old now → KeptTo all left old new
kept_more all rest left x old now new is few pushed h =
    subst (KeptTo all left old) (sym pushed) (record {
      same = ap (λ (r : Recorded). record r { entries = now.entries ++ x ∷ []; entry_room = now.entry_room - 1 }) h.same;
      entries = append_assoc now.entries (x ∷ []) left ∙ ap (λ (l : List Message). now.entries ++ l) (sym is) ∙ h.entries;
      room = omega (arith, h.room, ap length is, kept_room all rest left x old now is few h);
    })

pub kept_over : (all rest : List Message) (old now : Recorded) → rest ≡ [] → KeptTo all rest old now → now ≡ record old { entries = old.entries ++ all; entry_room = old.entry_room - length all }
kept_over all rest old now none h =
    let e : now.entries ≡ old.entries ++ all = sym (append-nil now.entries) ∙ ap (λ (l : List Message). now.entries ++ l) (sym none) ∙ h.entries in
    let r : now.entry_room ≡ old.entry_room - length all = omega (arith, h.room, ap length none) in
    h.same ∙ ap (λ (l : List Message). record old { entries = l; entry_room = now.entry_room }) e ∙ ap (λ (n : ℕ). record old { entries = old.entries ++ all; entry_room = n }) r

-- ---- what was performed

pub record DoneTo (all rest : List Piece) (old now : Recorded) : Type 0 where
  pub same : now ≡ record old { performed = now.performed; piece_room = now.piece_room }
  pub performed : now.performed ++ of_pieces rest ≡ old.performed ++ of_pieces all
  pub room : now.piece_room + length all ≡ old.piece_room + length rest

pub done_first : (all rest : List Piece) (old : Recorded) → rest ≡ all → DoneTo all rest old old
done_first all rest old is = record { same = refl; performed = ap (λ (l : List Piece). old.performed ++ of_pieces l) is; room = omega (arith, ap length is) }

pub done_room : (all rest left : List Piece) (x : Piece) (old now : Recorded) → rest ≡ x ∷ left → length all ≤ old.piece_room → DoneTo all rest old now → 1 ≤ now.piece_room
done_room all rest left x old now is few h = omega (arith, ap length is, few, h.room)

pub done_more : (all rest left : List Piece) (x : Piece) (old now new : Recorded) → rest ≡ x ∷ left → length all ≤ old.piece_room
    → new ≡ record now { performed = now.performed ++ of_piece x; piece_room = now.piece_room - 1 } → DoneTo all rest old now → DoneTo all left old new
done_more all rest left x old now new is few pushed h =
    subst (DoneTo all left old) (sym pushed) (record {
      same = ap (λ (r : Recorded). record r { performed = now.performed ++ of_piece x; piece_room = now.piece_room - 1 }) h.same;
      performed = append_assoc now.performed (of_piece x) (of_pieces left) ∙ ap (λ (l : List Piece). now.performed ++ of_pieces l) (sym is) ∙ h.performed;
      room = omega (arith, h.room, ap length is, done_room all rest left x old now is few h);
    })

pub done_over : (all rest : List Piece) (old now : Recorded) → rest ≡ [] → DoneTo all rest old now
    → now ≡ record old { performed = old.performed ++ of_pieces all; piece_room = old.piece_room - length all }
done_over all rest old now none h =
    let e : now.performed ≡ old.performed ++ of_pieces all = sym (append-nil now.performed) ∙ ap (λ (l : List Piece). now.performed ++ of_pieces l) (sym none) ∙ h.performed in
    let r : now.piece_room ≡ old.piece_room - length all = omega (arith, h.room, ap length none) in
    h.same ∙ ap (λ (l : List Placed). record old { performed = l; piece_room = now.piece_room }) e ∙ ap (λ (n : ℕ). record old { performed = old.performed ++ of_pieces all; piece_room = n }) r

-- ---- members

pub record TakenTo {P S : Type 0} (all rest : List (Part P S)) (old now : List (Node P S)) : Type 0 where
  pub same : taken rest now ≡ taken all old
  pub count : length now ≡ length old
  pub low : Each (λ (part : Part P S). part.member < length old) rest

pub taken_first : {P S : Type 0} (all rest : List (Part P S)) (old : List (Node P S)) → rest ≡ all → Each (λ (part : Part P S). part.member < length old) all → TakenTo all rest old old
taken_first {P} {S} all rest old is low = record {
  same = ap (λ (l : List (Part P S)). taken l old) is;
  count = refl;
  low = subst (Each (λ (part : Part P S). part.member < length old)) (sym is) low;
}

pub taken_low : {P S : Type 0} (all rest left : List (Part P S)) (part : Part P S) (old now : List (Node P S)) → rest ≡ part ∷ left → TakenTo all rest old now → part.member < length now
taken_low {P} {S} all rest left part old now is h = omega (arith, h.count, (subst (Each (λ (part : Part P S). part.member < length old)) is h.low).0)

pub taken_more : {P S : Type 0} (all rest left : List (Part P S)) (part : Part P S) (old now new : List (Node P S)) → rest ≡ part ∷ left → new ≡ slice_set now part.member part.node
    → TakenTo all rest old now → TakenTo all left old new
taken_more {P} {S} all rest left part old now new is set h =
    subst (TakenTo all left old) (sym set) (record {
      same = ap (λ (l : List (Part P S)). taken l now) (sym is) ∙ h.same;
      count = set_length now part.member part.node ∙ h.count;
      low = (subst (Each (λ (part : Part P S). part.member < length old)) is h.low).1;
    })

pub taken_over : {P S : Type 0} (all rest : List (Part P S)) (old now : List (Node P S)) → rest ≡ [] → TakenTo all rest old now → now ≡ taken all old
taken_over {P} {S} all rest old now none h = sym (ap (λ (l : List (Part P S)). taken l now) none) ∙ h.same
