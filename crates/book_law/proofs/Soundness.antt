-- What fits is sound: each message that was ever submitted, and each line of the book.
use Rattle.std.proofs.Common.{◌≤◌, inl, inr, List, [], ◌∷◌, length, refl, sym, subst}
use Rattle.std.specs.Prelude.{IsTrue, ℕ}
use Rattle.orca_base.specs.declared.ids.KindNo.{KindNo}
use Rattle.orca_base.specs.declared.ids.OpNo.{OpNo}
use Rattle.orca_base.specs.declared.ids.TextNo.{TextNo}
use Rattle.orca_base.specs.declared.ids.ObjectId.{ObjectId}
use Rattle.value_core.specs.Datum.{Data}
use Rattle.value_core.specs.Fits.{AreNumbered, Kinds}
use Rattle.value_core.specs.Lawful.{FitsAction}
use Rattle.value_core.specs.Performable.{is_performable}
use Rattle.value_core.specs.Sound.{AreSoundArguments, IsGuardOf, IsSoundAction, IsSoundReply}
use Rattle.value_core.specs.declared.action.Line.{Line}
use Rattle.value_core.specs.declared.action.Action.{Action}
use Rattle.value_core.specs.declared.action.Action.TheVariants as action
use Rattle.value_core.specs.declared.action.Reply.{Reply}
use Rattle.value_core.specs.declared.action.Reply.TheVariants as answer
use Rattle.value_core.specs.declared.meaning.Doing.TheVariants as doing
use Rattle.value_core.specs.Meaning.{Performs, Computes}
use Rattle.value_core.specs.History.{Configuration, LegalFrom, Objects, Performed, after_line, opening}
use Rattle.book_law.specs.Passes.{Test}
use Rattle.object_manager.specs.Singles.{kinds_at}
use Rattle.book_law.specs.Book.{book, copies_at}
use Rattle.book_law.specs.Course.{Came, Course}
use Rattle.book_law.specs.Events.{In}
use Rattle.book_law.specs.Fitness.{ArgsFit, ReplyFits, StateFits, TextFits}
use Rattle.book_law.specs.Machines.{ActionFits, AllSound}
use Rattle.book_law.proofs.Courses.{came_sound}
use Rattle.book_law.proofs.Fits.{Laws}
use Rattle.book_law.proofs.Machines.{all_fit}

-- the laws of soundness of a performer
pub record SoundLaws (fits_args : ArgsFit) (fits_text : TextFits) (fits_reply : ReplyFits) : Type 0 where
  pub args_sound : (kinds : Kinds) (kind : KindNo) (op : OpNo) (args : Data) → fits_args kinds kind op args → AreSoundArguments args
  pub text_sound : (kinds : Kinds) (text : TextNo) (args : Data) → AreNumbered kinds → fits_text kinds text args → AreSoundArguments args
  pub reply_sound : (kind : KindNo) (op : OpNo) (reply : Reply) → fits_reply kind op reply → IsSoundReply reply

action_sound : (fits_args : ArgsFit) (fits_text : TextFits) (fits_reply : ReplyFits) (kinds : Kinds) (a : Action) → SoundLaws fits_args fits_text fits_reply → AreNumbered kinds → ActionFits fits_args fits_text kinds a → IsSoundAction a
action_sound fits_args fits_text fits_reply kinds (action.Make kind object) laws numbered h = tt
action_sound fits_args fits_text fits_reply kinds (action.Call kind op object args) laws numbered h = laws.args_sound kinds kind op args h
action_sound fits_args fits_text fits_reply kinds (action.Fork text args place_on) laws numbered h = laws.text_sound kinds text args numbered h
action_sound fits_args fits_text fits_reply kinds action.Ended laws numbered h = tt
action_sound fits_args fits_text fits_reply kinds (action.Faulted fault) laws numbered h = tt

made_sound : (fits_reply : ReplyFits) (kind : KindNo) (object : ObjectId) (reply : Reply) → FitsAction fits_reply (doing.At (action.Make kind object)) reply → IsSoundReply reply
made_sound fits_reply kind object answer.Done h = tt
made_sound fits_reply kind object (answer.Gave value) h = absurd h
made_sound fits_reply kind object (answer.Broke fault) h = tt

replied_sound : (fits_args : ArgsFit) (fits_text : TextFits) (fits_reply : ReplyFits) (a : Action) (reply : Reply) → SoundLaws fits_args fits_text fits_reply → FitsAction fits_reply (doing.At a) reply → IsSoundReply reply
replied_sound fits_args fits_text fits_reply (action.Make kind object) reply laws h = made_sound fits_reply kind object reply h
replied_sound fits_args fits_text fits_reply (action.Call kind op object args) reply laws h = laws.reply_sound kind op reply h
replied_sound fits_args fits_text fits_reply (action.Fork text args place_on) reply laws h = subst (λ (r : Reply). IsSoundReply r) (sym h) tt
replied_sound fits_args fits_text fits_reply action.Ended reply laws h = absurd h
replied_sound fits_args fits_text fits_reply (action.Faulted fault) reply laws h = absurd h

-- what is performed is performable, by its guard
guarded : (p : Performs) (objects : Objects) (a : Action) (guard : ℕ) (reply : Reply) → Performed p objects a guard reply → IsTrue (is_performable a) × IsGuardOf a guard
guarded p objects (action.Make kind object) guard reply done = (refl, done.0)
guarded p objects (action.Call kind op object args) guard reply done = (refl, tt)
guarded p objects (action.Fork text args place_on) guard reply done = (refl, done.0)
guarded p objects action.Ended guard reply done = absurd done
guarded p objects (action.Faulted fault) guard reply done = absurd done

line_guarded : (p : Performs) (q : Computes) (c : Configuration) (lines : List Line) (l : Line) → LegalFrom p q c lines → In l lines → IsTrue (is_performable l.action) × IsGuardOf l.action l.guard
line_guarded p q c [] l legal h = absurd h
line_guarded p q c (k ∷ lines) l legal (inl e) =
    let s = legal.0 in
    subst (λ (z : Line). IsTrue (is_performable z.action) × IsGuardOf z.action z.guard) (sym e) (guarded p c.objects k.action k.guard k.reply s.performed)
line_guarded p q c (k ∷ lines) l legal (inr h) = line_guarded p q (after_line p c k) lines l legal.1 h

pub all_sound : (single : Test) (p : Performs) (q : Computes) (fits_state : StateFits) (fits_args : ArgsFit) (fits_text : TextFits) (fits_reply : ReplyFits) (w : Course) → Laws p q fits_state fits_args fits_text fits_reply → SoundLaws fits_args fits_text fits_reply → Came single p q w
    → ((n : ℕ) → n ≤ length w.list → AreNumbered (kinds_at (copies_at single p w.list n))) → AllSound single p w
all_sound single p q fits_state fits_args fits_text fits_reply w laws sounds came numbered =
    let f = all_fit single p q fits_state fits_args fits_text fits_reply w laws came in
    let s = came_sound single p q w came in
    let k = s.kept in
    record {
      messages = λ m h. let u = f.asked m h in record { action = action_sound fits_args fits_text fits_reply (kinds_at (copies_at single p w.list u.0)) m.action sounds (numbered u.0 u.1) u.2; performable = m.performable };
      lines = λ l h.
          let u = f.performed l h in
          let g = line_guarded p q (opening q) (book single p w.list w.aside) l k.legal h in
          record { action = action_sound fits_args fits_text fits_reply (kinds_at (copies_at single p w.list u.0)) l.action sounds (numbered u.0 u.1) u.2; performable = g.0; guard = g.1; reply = replied_sound fits_args fits_text fits_reply l.action l.reply sounds u.3 };
    }
