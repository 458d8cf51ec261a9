use Rattle.std.proofs.Common.{refl, arith, length-drop}
use Rattle.std.proofs.lemmas.List.{take_rest}
use Rattle.orca_lexer.proofs.Following.{front_slice, fault_within}
use Rattle.orca_lexer.proofs.lexer.token_at.Goals as goal

pub past_all-requires-clause-within : goal.past_all-requires-clause-within
past_all-requires-clause-within c =
    let fault = rw c.in-Err-Because.field-0-is at c.in-Err-Because.ensures in
    omega (arith, fault_within _ _ _ fault, length-drop c.args.cursor.offset c.args.text.now, c.requires.more)

pub returns-in-Ok : goal.returns-in-Ok
returns-in-Ok c =
    let front = rw (take_rest c.args.text.now c.args.cursor.offset) at c.in-Ok.ensures in
    let token = front_slice c.args.text.now c.args.cursor.offset _ _ _ c.requires.at.within c.past_all-behind.ensures.offset front in
    record {
      start = refl;
      within = token.within;
      longest = token.longest;
      means = token.means;
      place = c.requires.at.place;
      at = c.past_all-behind.ensures.at;
      end = refl;
    }
