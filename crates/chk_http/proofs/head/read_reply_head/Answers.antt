use Rattle.std.proofs.Common.{inl}
use Rattle.chk_http.proofs.Front.{front_reply_within}
use Rattle.chk_http.proofs.HeadAnswers.{ok_from_and, short_reply_ok, short_reply_err, short_reply_found, long_reply_ok, long_reply_found}
use Rattle.chk_http.proofs.head.read_reply_head.Goals as goal

pub returns-then-bytes-lt-HEAD_BYTES-clause-head :
    goal.returns-then-bytes-lt-HEAD_BYTES-clause-head
returns-then-bytes-lt-HEAD_BYTES-clause-head c =
    short_reply_ok c.args.bytes.now c.read_reply_front.result c.if-bytes-lt-HEAD_BYTES.true c.read_reply_front.ensures.within
    c.read_reply_front.ensures.head

pub returns-then-bytes-lt-HEAD_BYTES-clause-found :
    goal.returns-then-bytes-lt-HEAD_BYTES-clause-found
returns-then-bytes-lt-HEAD_BYTES-clause-found c h behind has =
    short_reply_found c.args.bytes.now h behind _ has
    (λ h rest reads few. ok_from_and c.read_reply_front.result _ (c.read_reply_front.ensures.found h rest reads few))

pub returns-then-bytes-lt-HEAD_BYTES-clause-refused :
    goal.returns-then-bytes-lt-HEAD_BYTES-clause-refused
returns-then-bytes-lt-HEAD_BYTES-clause-refused c =
    short_reply_err c.args.bytes.now c.read_reply_front.result c.read_reply_front.ensures.refused

pub returns-in-Ok-clause-within : goal.returns-in-Ok-clause-within
returns-in-Ok-clause-within c =
    front_reply_within 16384 c.args.bytes.now c.in-Ok.head.headers c.in-Ok.head.spans c.in-Ok.ensures.within

pub returns-in-Ok-clause-head : goal.returns-in-Ok-clause-head
returns-in-Ok-clause-head c = long_reply_ok c.args.bytes.now c.in-Ok.head c.in-Ok.ensures.within c.in-Ok.ensures.head

pub returns-in-Ok-clause-endless : goal.returns-in-Ok-clause-endless
returns-in-Ok-clause-endless c endless =
    let placed = long_reply_ok c.args.bytes.now c.in-Ok.head c.in-Ok.ensures.within c.in-Ok.ensures.head in
    absurd (endless.1 placed.0 _ placed.2)

pub returns-in-Err-clause-found : goal.returns-in-Err-clause-found
returns-in-Err-clause-found c h behind has =
    absurd (long_reply_found c.args.bytes.now h behind _ has c.in-Err.ensures.found)

pub returns-in-Err-clause-refused : goal.returns-in-Err-clause-refused
returns-in-Err-clause-refused c = inl (
  c.if-bytes-lt-HEAD_BYTES.false,
  λ h behind has. long_reply_found c.args.bytes.now h behind _ has c.in-Err.ensures.found,
)
