-- How a request is answered (RFC 9112): each fault with the bytes at which it comes.
use Rattle.std.specs.Prelude.{◌≡◌, ◌≢◌, ◌⊎◌, ℕ, ◌<◌, List, [], ◌++◌, length, take, drop, codes, Result, Ok, Err}
use Rattle.std.specs.Borrow.{Bor}
use Rattle.httparse.specs.Grammar.{RequestHead}
use Rattle.httparse.specs.Spans.{span_bytes}
use Rattle.chk_bytes.specs.Stems.{Stem}
use Rattle.chk_http_grammar.specs.Heads.{HasRequestHead, stated_lengths, stated_codings}
use Rattle.chk_http.specs.declared.fault.HttpFault.{HttpFault}
use Rattle.chk_http.specs.declared.fault.HttpFault.TheVariants.{BadHead, NoLength, TooLarge, NotYet, BadPath, BadMethod, BadLine}
use Rattle.chk_http.specs.declared.request.RequestRef.{RequestRef}
use Rattle.chk_http.specs.declared.request.RequestRef.TheVariants.{Post, Acks}
use Rattle.chk_http.specs.declared.head.RequestPlaces.{RequestPlaces}
use Rattle.chk_http.specs.declared.request.Target.{Target}
use Rattle.chk_http.specs.declared.request.Target.TheVariants.{Posts, Polls, Other}
use Rattle.chk_http.specs.HeaderLines.{values_at}
use Rattle.chk_http.specs.Heads.{IsNoRequestHead, IsOpenRequestHead, IsEndlessRequest, HasManyRequestLines}
use Rattle.chk_http.specs.Queries.{IsQuery}
use Rattle.chk_http.specs.Bodies.{BodyStands, IsBadLength, IsLongLength, IsCutBody}

-- what is looked at in a request
pub record Asked : Type 0 where
  pub method : List ℕ
  pub target : List ℕ
  pub codings : List (List ℕ)
  pub lengths : List (List ℕ)
  pub behind : List ℕ

-- the same, in a head and what stands behind it
abbrev pub asked_in : RequestHead → List ℕ → Asked
asked_in head behind = record {
  method = head.method;
  target = head.target;
  codings = stated_codings head.fields;
  lengths = stated_lengths head.fields;
  behind = behind;
}

-- the target of posts
abbrev pub IsPostTarget : List ℕ → Type 0
IsPostTarget target = target ≡ codes "/chukwa"

-- the target of polls: with a query or without
abbrev pub IsPollTarget : List ℕ → Type 0
IsPollTarget target =
    (target ≡ codes "/acks")
    ⊎ ((query : List ℕ) × (0 < length query) × (target ≡ codes "/acks?" ++ query))

-- the target is none that is served
abbrev pub AsksNothing : Asked → Type 0
AsksNothing a = ¬ (IsPostTarget a.target) × ¬ (IsPollTarget a.target)

-- the target has another method
abbrev pub AsksOtherwise : Asked → Type 0
AsksOtherwise a =
    (IsPostTarget a.target × (a.method ≢ codes "POST"))
    ⊎ (IsPollTarget a.target × (a.method ≢ codes "GET"))

-- a poll
abbrev pub AsksToPoll : Asked → Type 0
AsksToPoll a = IsPollTarget a.target × (a.method ≡ codes "GET")

-- a poll whose query isn't 1 to 64 stems
abbrev pub AsksNoStems : Asked → Type 0
AsksNoStems a =
    AsksToPoll a
    × ((stems : List Stem) (query : List ℕ) → a.target ≡ codes "/acks?" ++ query
    → ¬ (IsQuery stems query))

-- a poll with this query, which is one of stems
abbrev pub AsksStems : Asked → List ℕ → Type 0
AsksStems a query =
    (a.method ≡ codes "GET") × (a.target ≡ codes "/acks?" ++ query)
    × ((stems : List Stem) × IsQuery stems query)

-- a post
abbrev pub AsksToPost : Asked → Type 0
AsksToPost a = IsPostTarget a.target × (a.method ≡ codes "POST")

-- a post with a coding or without a length
abbrev pub PostsNoLength : Asked → Type 0
PostsNoLength a = AsksToPost a × ((a.codings ≢ []) ⊎ (a.lengths ≡ []))

-- a post with a length that isn't one
abbrev pub PostsBadLength : Asked → Type 0
PostsBadLength a = AsksToPost a × (a.codings ≡ []) × IsBadLength a.lengths

-- a post of too many bytes
abbrev pub PostsTooMuch : Asked → Type 0
PostsTooMuch a = AsksToPost a × (a.codings ≡ []) × IsLongLength a.lengths

-- a post with fewer bytes than its length
abbrev pub PostsTooFew : Asked → Type 0
PostsTooFew a = AsksToPost a × (a.codings ≡ []) × IsCutBody a.lengths a.behind

-- a post of this body
abbrev pub PostsBody : Asked → List ℕ → Type 0
PostsBody a body = AsksToPost a × (a.codings ≡ []) × BodyStands a.lengths a.behind body

-- what an answer says of what was asked
abbrev pub AnswersAsked : Asked → Result RequestRef HttpFault → Type 0
AnswersAsked a (Ok (Post body)) = PostsBody a body.now
AnswersAsked a (Ok (Acks query)) = AsksStems a query.now
AnswersAsked a (Err BadPath) = AsksNothing a
AnswersAsked a (Err BadMethod) = AsksOtherwise a
AnswersAsked a (Err BadLine) = AsksNoStems a
AnswersAsked a (Err NoLength) = PostsNoLength a
AnswersAsked a (Err BadHead) = PostsBadLength a
AnswersAsked a (Err TooLarge) = PostsTooMuch a
AnswersAsked a (Err NotYet) = PostsTooFew a

-- what the places of a head say that is asked
abbrev pub asked_at : List ℕ → RequestPlaces → Asked
asked_at bytes p = record {
  method = span_bytes bytes p.spans.method;
  target = span_bytes bytes p.spans.path;
  codings = values_at (codes "transfer-encoding") bytes (take p.spans.headers p.headers);
  lengths = values_at (codes "content-length") bytes (take p.spans.headers p.headers);
  behind = drop p.spans.len bytes;
}

-- what a target is
abbrev pub IsTarget : List ℕ → Target → Type 0
IsTarget target Posts = IsPostTarget target
IsTarget target (Polls query) =
    ((target ≡ codes "/acks") × (query.now ≡ []))
    ⊎ ((0 < length query.now) × (target ≡ codes "/acks?" ++ query.now))
IsTarget target Other = ¬ (IsPostTarget target) × ¬ (IsPollTarget target)

-- what an answer says of a post with these codings and lengths
abbrev pub AnswersPost : List (List ℕ) → List (List ℕ) → List ℕ → Result (Bor (List ℕ)) HttpFault
    → Type 0
AnswersPost codings lengths behind (Ok body) = (codings ≡ []) × BodyStands lengths behind body.now
AnswersPost codings lengths behind (Err NoLength) = (codings ≢ []) ⊎ (lengths ≡ [])
AnswersPost codings lengths behind (Err BadHead) = (codings ≡ []) × IsBadLength lengths
AnswersPost codings lengths behind (Err TooLarge) = (codings ≡ []) × IsLongLength lengths
AnswersPost codings lengths behind (Err NotYet) = (codings ≡ []) × IsCutBody lengths behind
AnswersPost codings lengths behind (Err BadPath) = ⊥
AnswersPost codings lengths behind (Err BadMethod) = ⊥
AnswersPost codings lengths behind (Err BadLine) = ⊥

-- what an answer says of a query
abbrev pub AnswersQuery : List ℕ → Result (Bor (List ℕ)) HttpFault → Type 0
AnswersQuery query (Ok text) = (text.now ≡ query) × ((stems : List Stem) × IsQuery stems query)
AnswersQuery query (Err BadLine) = (stems : List Stem) → ¬ (IsQuery stems query)
AnswersQuery query (Err NoLength) = ⊥
AnswersQuery query (Err BadHead) = ⊥
AnswersQuery query (Err TooLarge) = ⊥
AnswersQuery query (Err NotYet) = ⊥
AnswersQuery query (Err BadPath) = ⊥
AnswersQuery query (Err BadMethod) = ⊥

-- ---- the same of the bytes

-- the bytes have a small head, and what it asks is so
abbrev pub HasAsked : List ℕ → (Asked → Type 0) → Type 0
HasAsked bytes says =
    (head : RequestHead) × (behind : List ℕ) × HasRequestHead bytes head behind
    × says (asked_in head behind)

-- the target isn't `/chukwa`, `/acks` or `/acks?` with more behind
unfoldable pub IsBadPath : List ℕ → Type 0
IsBadPath bytes = HasAsked bytes AsksNothing

-- the method isn't POST for `/chukwa` or GET for the others
unfoldable pub IsBadMethod : List ℕ → Type 0
IsBadMethod bytes = HasAsked bytes AsksOtherwise

-- a poll whose query isn't 1 to 64 stems
unfoldable pub IsBadQuery : List ℕ → Type 0
IsBadQuery bytes = HasAsked bytes AsksNoStems

-- a post with a Transfer-Encoding, or without a Content-Length
unfoldable pub IsWithoutLength : List ℕ → Type 0
IsWithoutLength bytes = HasAsked bytes PostsNoLength

-- a post with two Content-Length lines, or one that isn't 1 to 19 digits below 2^63
unfoldable pub HasBadLength : List ℕ → Type 0
HasBadLength bytes = HasAsked bytes PostsBadLength

-- a post whose length is above 4,194,304
unfoldable pub HasLongBody : List ℕ → Type 0
HasLongBody bytes = HasAsked bytes PostsTooMuch

-- a post with fewer bytes than its length behind the head
unfoldable pub HasCutBody : List ℕ → Type 0
HasCutBody bytes = HasAsked bytes PostsTooFew

-- the head can't be one, or the length
abbrev pub IsBadHead : List ℕ → Type 0
IsBadHead bytes = IsNoRequestHead bytes ⊎ HasBadLength bytes

-- the head or the body is too large
abbrev pub IsTooLarge : List ℕ → Type 0
IsTooLarge bytes = (IsEndlessRequest bytes ⊎ HasManyRequestLines bytes) ⊎ HasLongBody bytes

-- the bytes end before the head or the body does
abbrev pub IsNotYet : List ℕ → Type 0
IsNotYet bytes = IsOpenRequestHead bytes ⊎ HasCutBody bytes

-- the answer is this body
abbrev pub GivesPost : Result RequestRef HttpFault → List ℕ → Type 0
GivesPost (Ok (Post body)) wanted = body.now ≡ wanted
GivesPost (Ok (Acks query)) wanted = ⊥
GivesPost (Err fault) wanted = ⊥

-- the answer is a query of these stems
abbrev pub GivesPoll : Result RequestRef HttpFault → List Stem → Type 0
GivesPoll (Ok (Post body)) stems = ⊥
GivesPoll (Ok (Acks query)) stems = IsQuery stems query.now
GivesPoll (Err fault) stems = ⊥

-- where the answer is a query, it is one of stems
abbrev pub IfPoll : Result RequestRef HttpFault → (List ℕ → Type 0) → Type 0
IfPoll (Ok (Post body)) says = Unit {0}
IfPoll (Ok (Acks query)) says = says query.now
IfPoll (Err fault) says = Unit {0}
