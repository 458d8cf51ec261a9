use Rattle.parse_units.proofs.Refusals.{refusal_none, refusal_once}
use Rattle.parse_units.proofs.Texts.{nothing_left, is_whole, is_left}
use Rattle.parse_units.proofs.whole.parse.Goals as goal

pub returns-then-is_empty-clause-found : goal.returns-then-is_empty-clause-found
returns-then-is_empty-clause-found c = (is_whole c.args.tokens.now _ c.in-Ok.rest.now (nothing_left _ c.if-is_empty.ensures) c.in-Ok.ensures).text

pub returns-then-is_empty-clause-nests : goal.returns-then-is_empty-clause-nests
returns-then-is_empty-clause-nests c = (is_whole c.args.tokens.now _ c.in-Ok.rest.now (nothing_left _ c.if-is_empty.ensures) c.in-Ok.ensures).fits

pub returns-then-is_empty-clause-only : goal.returns-then-is_empty-clause-only
returns-then-is_empty-clause-only c = (is_whole c.args.tokens.now _ c.in-Ok.rest.now (nothing_left _ c.if-is_empty.ensures) c.in-Ok.ensures).only

pub returns-in_ok-cause-in-Ok-clause-refused : goal.returns-in_ok-cause-in-Ok-clause-refused
returns-in_ok-cause-in-Ok-clause-refused c =
    let left = is_left c.args.tokens.now _ c.in-Ok.rest.now c.if-is_empty.ensures c.in-Ok.ensures in
    rw c.refuse.ensures (c.in_ok-cause-in-Ok.ensures left.0 left.1)

pub returns-in_ok-cause-in-Ok-clause-none : goal.returns-in_ok-cause-in-Ok-clause-none
returns-in_ok-cause-in-Ok-clause-none c =
    let left = is_left c.args.tokens.now _ c.in-Ok.rest.now c.if-is_empty.ensures c.in-Ok.ensures in
    let refused = c.in_ok-cause-in-Ok.ensures left.0 left.1 in
    rw c.refuse.ensures (λ ms text fits. refusal_none c.args.tokens.now c.in_ok-cause-in-Ok.cause ms refused text fits)

pub returns-in_ok-cause-in-Ok-clause-first : goal.returns-in_ok-cause-in-Ok-clause-first
returns-in_ok-cause-in-Ok-clause-first c =
    let left = is_left c.args.tokens.now _ c.in-Ok.rest.now c.if-is_empty.ensures c.in-Ok.ensures in
    let refused = c.in_ok-cause-in-Ok.ensures left.0 left.1 in
    rw c.refuse.ensures (λ other p. refusal_once c.args.tokens.now other c.in_ok-cause-in-Ok.cause p refused)

pub returns-in_ok-cause-in-Err-Because-clause-none : goal.returns-in_ok-cause-in-Err-Because-clause-none
returns-in_ok-cause-in-Err-Because-clause-none c =
    let refused = c.in_ok-cause-in-Err-Because.ensures in
    rw c.refuse-in-Err-Because.ensures (λ ms text fits. refusal_none c.args.tokens.now c.in_ok-cause-in-Err-Because.cause ms refused text fits)

pub returns-in_ok-cause-in-Err-Because-clause-first : goal.returns-in_ok-cause-in-Err-Because-clause-first
returns-in_ok-cause-in-Err-Because-clause-first c =
    let refused = c.in_ok-cause-in-Err-Because.ensures in
    rw c.refuse-in-Err-Because.ensures (λ other p. refusal_once c.args.tokens.now other c.in_ok-cause-in-Err-Because.cause p refused)
