use Rattle.std.proofs.Common.{◌≡◌, length, vec_len, refl, ◌∙◌, rules}
use Rattle.program_bodies.proofs.OneMore.{one_more}
use Rattle.program_bodies.proofs.bodies.add_name.Goals as goal

pub returns : goal.returns
returns c = λ ls has.
    let counted : vec_len c.args.names.now.types ≡ length c.args.names.now.types.items = search rules in
    one_more c.args.names.now _ c.args.name.now c.args.role _ c.args.kind _ _ ls refl (c.in_ok-own.ensures {u = tt}) (c.len.ensures ∙ counted)
    (c.in_ok-note.ensures {u = tt}) (c.in_ok-note-2.ensures {u = tt}) c.in_ok-push.ensures.items has
