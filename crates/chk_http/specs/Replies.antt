-- How a reply is answered (RFC 9112): each fault with the bytes at which it comes.
use Rattle.std.specs.Prelude.{◌≡◌, ◌⊎◌, ℕ, List, [], take, drop, codes, Result, Ok, Err}
use Rattle.httparse.specs.Grammar.{ResponseHead, status_code}
use Rattle.chk_http_grammar.specs.Heads.{HasReplyHead, stated_lengths}
use Rattle.chk_http.specs.declared.fault.HttpFault.{HttpFault}
use Rattle.chk_http.specs.declared.fault.HttpFault.TheVariants.{BadHead, NoLength, TooLarge, NotYet, BadPath, BadMethod, BadLine}
use Rattle.chk_http.specs.declared.head.ReplyPlaces.{ReplyPlaces}
use Rattle.chk_http.specs.declared.reply.ReplyRef.{ReplyRef}
use Rattle.chk_http.specs.HeaderLines.{values_at}
use Rattle.chk_http.specs.Heads.{IsNoReplyHead, IsOpenReplyHead, IsEndlessReply, HasManyReplyLines}
use Rattle.chk_http.specs.Bodies.{BodyStands, IsBadLength, IsLongLength, IsCutBody}

-- what is looked at in a reply
pub record Replied : Type 0 where
  pub code : ℕ
  pub lengths : List (List ℕ)
  pub behind : List ℕ

-- the same, in a head and what stands behind it
abbrev pub replied_in : ResponseHead → List ℕ → Replied
replied_in head behind =
    record { code = status_code head; lengths = stated_lengths head.fields; behind = behind }

-- what the places of a head say
abbrev pub replied_at : List ℕ → ReplyPlaces → Replied
replied_at bytes p = record {
  code = p.spans.code;
  lengths = values_at (codes "content-length") bytes (take p.spans.headers p.headers);
  behind = drop p.spans.len bytes;
}

-- what an answer says of a reply
abbrev pub AnswersReplied : Replied → Result ReplyRef HttpFault → Type 0
AnswersReplied a (Ok reply) = (reply.code ≡ a.code) × BodyStands a.lengths a.behind reply.body.now
AnswersReplied a (Err NoLength) = a.lengths ≡ []
AnswersReplied a (Err BadHead) = IsBadLength a.lengths
AnswersReplied a (Err TooLarge) = IsLongLength a.lengths
AnswersReplied a (Err NotYet) = IsCutBody a.lengths a.behind
AnswersReplied a (Err BadPath) = ⊥
AnswersReplied a (Err BadMethod) = ⊥
AnswersReplied a (Err BadLine) = ⊥

-- the bytes have a small head, and what it says is so
abbrev pub HasReplied : List ℕ → (Replied → Type 0) → Type 0
HasReplied bytes says =
    (head : ResponseHead) × (behind : List ℕ) × HasReplyHead bytes head behind
    × says (replied_in head behind)

-- a reply without a Content-Length
unfoldable pub IsReplyWithoutLength : List ℕ → Type 0
IsReplyWithoutLength bytes = HasReplied bytes (λ a. a.lengths ≡ [])

-- a reply with two Content-Length lines, or one that isn't 1 to 19 digits below 2^63
unfoldable pub HasBadReplyLength : List ℕ → Type 0
HasBadReplyLength bytes = HasReplied bytes (λ a. IsBadLength a.lengths)

-- a reply whose length is above 4,194,304
unfoldable pub HasLongReplyBody : List ℕ → Type 0
HasLongReplyBody bytes = HasReplied bytes (λ a. IsLongLength a.lengths)

-- a reply with fewer bytes than its length behind the head
unfoldable pub HasCutReplyBody : List ℕ → Type 0
HasCutReplyBody bytes = HasReplied bytes (λ a. IsCutBody a.lengths a.behind)

-- the head can't be one, or the length
abbrev pub IsBadReplyHead : List ℕ → Type 0
IsBadReplyHead bytes = IsNoReplyHead bytes ⊎ HasBadReplyLength bytes

-- the head or the body is too large
abbrev pub IsTooLargeReply : List ℕ → Type 0
IsTooLargeReply bytes = (IsEndlessReply bytes ⊎ HasManyReplyLines bytes) ⊎ HasLongReplyBody bytes

-- the bytes end before the head or the body does
abbrev pub IsNotYetReply : List ℕ → Type 0
IsNotYetReply bytes = IsOpenReplyHead bytes ⊎ HasCutReplyBody bytes

-- the answer is this reply
abbrev pub GivesReply : Result ReplyRef HttpFault → ℕ → List ℕ → Type 0
GivesReply (Ok reply) code body = (reply.code ≡ code) × (reply.body.now ≡ body)
GivesReply (Err fault) code body = ⊥

-- the fault is one that a reply can have
abbrev pub IsReplyFault : HttpFault → Type 0
IsReplyFault BadHead = Unit {0}
IsReplyFault NoLength = Unit {0}
IsReplyFault TooLarge = Unit {0}
IsReplyFault NotYet = Unit {0}
IsReplyFault BadPath = ⊥
IsReplyFault BadMethod = ⊥
IsReplyFault BadLine = ⊥
