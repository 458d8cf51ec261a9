use Rattle.std.proofs.Common.{◌<◌, ◌≤◌, length, refl, arith}
use Rattle.std.proofs.lemmas.Option.{slice_get_read}
use Rattle.run_ends.proofs.Books.{hear_off, hear_on}
use Rattle.run_ends.proofs.telling.hear.Goals as goal

pub returns-in_ok-hear_one : goal.returns-in_ok-hear_one
returns-in_ok-hear_one g c w is before h =
    let xs = c.args.replies.now.items in
    let lt : c.args.line.now.process.0 < length xs = omega (arith, c.if-at-len.true, c.len.ensures, c.args.replies.now.ok.0) in
    hear_on (λ v. v.items) g.P.OneRun.run.frame w before c.args.line.now c.received-received.result xs c.index_mut.result.now c.hear_one.new.heard (c.received-received.ensures w is)
    (slice_get_read xs (length xs) c.args.line.now.process.0 c.index_mut.result.now refl lt c.index_mut.ensures.value) (c.in_ok-hear_one.ensures {u = tt}) h

pub returns-else-at-len : goal.returns-else-at-len
returns-else-at-len g c w is before h =
    let xs = c.args.replies.now.items in
    let past : length xs ≤ c.args.line.now.process.0 = omega (arith, c.if-at-len.false, c.len.ensures, c.args.replies.now.ok.0) in
    hear_off (λ v. v.items) g.P.OneRun.run.frame w before c.args.line.now xs past h
