use Rattle.std.proofs.Common.{refl}
use Rattle.program_bodies.proofs.site.Site.new.Goals as goal

pub returns : goal.returns
returns c = λ w code body guard. record {
  code = code;
  home = body.home;
  owner = body.owner;
  in_guard = guard;
  own = w.locals;
  locals = refl;
  names = body.names;
}
