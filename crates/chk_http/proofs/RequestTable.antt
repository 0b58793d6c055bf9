-- The table of requests: each answer comes exactly in its case.
use Rattle.std.proofs.Common.{◌≡◌, ◌⊎◌, inl, inr, ℕ, zero, suc, ◌<◌, ◌++◌, List, [], ◌∷◌, length, Result, Ok, Err, refl, sym, subst, ap, ◌∙◌, arith, take, drop}
use Rattle.std.specs.Prelude.{◌↔◌, codes}
use Rattle.std.proofs.lemmas.Option.{same_Some}
use Rattle.httparse.specs.Grammar.{RequestHead}
use Rattle.chk_bytes.specs.Stems.{Stem}
use Rattle.chk_http_grammar.specs.Heads.{HasRequestHead}
use Rattle.chk_http_grammar.specs.Messages.{PostRequest, PollRequest, query_text}
use Rattle.chk_http_grammar.proofs.HeadLemmas.{HasRequestHead-same}
use Rattle.chk_http.specs.declared.fault.HttpFault.{HttpFault}
use Rattle.chk_http.specs.declared.fault.HttpFault.TheVariants.{BadHead, NoLength, TooLarge, NotYet, BadPath, BadMethod, BadLine}
use Rattle.chk_http.specs.declared.request.RequestRef.{RequestRef}
use Rattle.chk_http.specs.declared.request.RequestRef.TheVariants.{Post, Acks}
use Rattle.chk_http.specs.Heads.{HasNoRequestHead, IsRequestHeadFault, IsEndlessRequest}
use Rattle.chk_http.specs.Queries.{IsQuery}
use Rattle.chk_http.specs.Requests.{Asked, asked_in, AsksNothing, AsksOtherwise, AsksNoStems, AsksStems, AsksToPoll, PostsNoLength, PostsBadLength, PostsTooMuch, PostsTooFew, PostsBody, AnswersAsked, HasAsked, IsBadPath, IsBadMethod, IsBadQuery, IsWithoutLength, HasBadLength, HasLongBody, HasCutBody, IsBadHead, IsTooLarge, IsNotYet, GivesPost, GivesPoll, IfPoll}
use Rattle.chk_http.proofs.Targets.{no_empty_query}
use Rattle.chk_http.proofs.Stages.{stage, stage_nothing, stage_otherwise, stage_poll, stage_no_length, stage_bad_length, stage_too_much, stage_too_few, stage_body}

abbrev pub Answer : Type 0
Answer = Result RequestRef HttpFault

-- ---- the answer that is due at a stage

abbrev pub AnswersPoll : Asked → Answer → Type 0
AnswersPoll a (Ok (Post body)) = ⊥
AnswersPoll a (Ok (Acks query)) = AsksStems a query.now
AnswersPoll a (Err BadLine) = AsksNoStems a
AnswersPoll a (Err BadHead) = ⊥
AnswersPoll a (Err NoLength) = ⊥
AnswersPoll a (Err TooLarge) = ⊥
AnswersPoll a (Err NotYet) = ⊥
AnswersPoll a (Err BadPath) = ⊥
AnswersPoll a (Err BadMethod) = ⊥

abbrev pub AnswersBody : Asked → Answer → Type 0
AnswersBody a (Ok (Post body)) = PostsBody a body.now
AnswersBody a (Ok (Acks query)) = ⊥
AnswersBody a (Err fault) = ⊥

abbrev pub IsDue : Asked → ℕ → Answer → Type 0
IsDue a zero r = r ≡ Err BadPath
IsDue a (suc zero) r = r ≡ Err BadMethod
IsDue a (suc (suc zero)) r = AnswersPoll a r
IsDue a (suc (suc (suc zero))) r = r ≡ Err NoLength
IsDue a (suc (suc (suc (suc zero)))) r = r ≡ Err BadHead
IsDue a (suc (suc (suc (suc (suc zero))))) r = r ≡ Err TooLarge
IsDue a (suc (suc (suc (suc (suc (suc zero)))))) r = r ≡ Err NotYet
IsDue a (suc (suc (suc (suc (suc (suc (suc n))))))) r = AnswersBody a r

asks_to_poll : (a : Asked) (query : List ℕ) → AsksStems a query → AsksToPoll a
asks_to_poll a query says = (inr (query, some_text query (no_empty_query says.2.0 query says.2.1), says.1), says.0)
  where
    some_text : (text : List ℕ) → (text ≡ [] → ⊥) → 0 < length text
    some_text [] some = absurd (some refl)
    some_text (b ∷ text) some = omega arith

due : (a : Asked) (r : Answer) → AnswersAsked a r → IsDue a (stage a) r
due a (Ok (Post body)) says = subst (λ k. IsDue a k (Ok (Post body))) (sym (stage_body a body.now says)) says
due a (Ok (Acks query)) says =
    subst (λ k. IsDue a k (Ok (Acks query))) (sym (stage_poll a (asks_to_poll a query.now says))) says
due a (Err BadPath) says = subst (λ k. IsDue a k (Err BadPath)) (sym (stage_nothing a says)) refl
due a (Err BadMethod) says = subst (λ k. IsDue a k (Err BadMethod)) (sym (stage_otherwise a says)) refl
due a (Err BadLine) says = subst (λ k. IsDue a k (Err BadLine)) (sym (stage_poll a says.0)) says
due a (Err NoLength) says = subst (λ k. IsDue a k (Err NoLength)) (sym (stage_no_length a says)) refl
due a (Err BadHead) says = subst (λ k. IsDue a k (Err BadHead)) (sym (stage_bad_length a says)) refl
due a (Err TooLarge) says = subst (λ k. IsDue a k (Err TooLarge)) (sym (stage_too_much a says)) refl
due a (Err NotYet) says = subst (λ k. IsDue a k (Err NotYet)) (sym (stage_too_few a says)) refl

-- ---- over the bytes

-- no small head stands there, or one and what the answer says of it
abbrev pub IsAnswered : List ℕ → Answer → Type 0
IsAnswered bytes r =
    ((fault : HttpFault) × (r ≡ Err fault) × IsRequestHeadFault bytes fault × HasNoRequestHead bytes
    × (IsEndlessRequest bytes → fault ≡ TooLarge))
    ⊎ HasAsked bytes (λ a. AnswersAsked a r)

-- what the one head asks
asked_same : (bytes : List ℕ) (says : Asked → Type 0) (head : RequestHead) (behind : List ℕ)
    → HasRequestHead bytes head behind
    → HasAsked bytes says → says (asked_in head behind)
asked_same bytes says head behind has asked =
    let same = HasRequestHead-same bytes asked.0 head asked.1 behind asked.2 has in
    subst (λ h. says (asked_in h behind)) same.0 (subst (λ b. says (asked_in asked.0 b)) same.1 asked.3)

-- where what is asked is known, the answer is the one that is due
record Due (bytes : List ℕ) (says : Asked → Type 0) (k : ℕ) (r : Answer) : Type 0 where
  asked : Asked
  says_so : says asked
  is : IsDue asked k r

due_at : (bytes : List ℕ) (r : Answer) (says : Asked → Type 0) (k : ℕ) → ((a : Asked) → says a → stage a ≡ k)
    → IsAnswered bytes r
    → HasAsked bytes says → Due bytes says k r
due_at bytes r says k at (inl none) asked = absurd (none.3 asked.0 asked.1 asked.2)
due_at bytes r says k at (inr some) asked =
    let a = asked_in some.0 some.1 in
    let so = asked_same bytes says some.0 some.1 some.2 asked in
    record { asked = a; says_so = so; is = subst (λ n. IsDue a n r) (at a so) (due a r some.3) }

-- what an answer says
told : (bytes : List ℕ) (r : Answer) (fault : HttpFault) → IsAnswered bytes r → r ≡ Err fault
    → IsRequestHeadFault bytes fault ⊎ HasAsked bytes (λ a. AnswersAsked a (Err fault))
told bytes r fault (inl none) e =
    let same : none.0 ≡ fault = let both : Err none.0 ≡ Err fault = sym none.1 ∙ e in cc in
    inl (subst (IsRequestHeadFault bytes) same none.2)
told bytes r fault (inr some) e = inr (some.0, some.1, some.2, subst (λ r. AnswersAsked (asked_in some.0 some.1) r) e some.3)

-- a row of the table that no head's fault has
row : (bytes : List ℕ) (r : Answer) (fault : HttpFault) (says : Asked → Type 0) (k : ℕ)
    → (IsRequestHeadFault bytes fault → ⊥) → ((a : Asked) → AnswersAsked a (Err fault) → says a)
    → ((a : Asked) → says a → stage a ≡ k) → ((a : Asked) → says a → IsDue a k r → r ≡ Err fault)
    → IsAnswered bytes r → (r ≡ Err fault) ↔ HasAsked bytes says
row bytes r fault says k none means at due is = (
  (λ e. elim (told bytes r fault is e) [
    | inl no_head ↦ absurd (none no_head)
    | inr some ↦ (some.0, some.1, some.2, means (asked_in some.0 some.1) some.3)
  ]),
  (λ asked. let d = due_at bytes r says k at is asked in due d.asked d.says_so d.is),
)

pub row_bad_path : (bytes : List ℕ) (r : Answer) → IsAnswered bytes r → (r ≡ Err BadPath) ↔ IsBadPath bytes
unfolding IsBadPath
row_bad_path bytes r is = row bytes r BadPath AsksNothing 0 (λ h. h) (λ a s. s) stage_nothing (λ a s d. d) is

pub row_bad_method : (bytes : List ℕ) (r : Answer) → IsAnswered bytes r → (r ≡ Err BadMethod) ↔ IsBadMethod bytes
unfolding IsBadMethod
row_bad_method bytes r is = row bytes r BadMethod AsksOtherwise 1 (λ h. h) (λ a s. s) stage_otherwise (λ a s d. d) is

due_line : (a : Asked) (r : Answer) → AsksNoStems a → AnswersPoll a r → r ≡ Err BadLine
due_line a (Ok (Post body)) says d = absurd d
due_line a (Ok (Acks query)) says d = absurd (says.1 d.2.0 query.now d.1 d.2.1)
due_line a (Err BadLine) says d = refl
due_line a (Err BadHead) says d = absurd d
due_line a (Err NoLength) says d = absurd d
due_line a (Err TooLarge) says d = absurd d
due_line a (Err NotYet) says d = absurd d
due_line a (Err BadPath) says d = absurd d
due_line a (Err BadMethod) says d = absurd d

pub row_bad_line : (bytes : List ℕ) (r : Answer) → IsAnswered bytes r → (r ≡ Err BadLine) ↔ IsBadQuery bytes
unfolding IsBadQuery
row_bad_line bytes r is =
    row bytes r BadLine AsksNoStems 2 (λ h. h) (λ a s. s) (λ a s. stage_poll a s.0) (λ a s d. due_line a r s d) is

pub row_no_length : (bytes : List ℕ) (r : Answer) → IsAnswered bytes r → (r ≡ Err NoLength) ↔ IsWithoutLength bytes
unfolding IsWithoutLength
row_no_length bytes r is = row bytes r NoLength PostsNoLength 3 (λ h. h) (λ a s. s) stage_no_length (λ a s d. d) is

-- the rows that a head's fault shares

pub row_bad_head : (bytes : List ℕ) (r : Answer) → IsAnswered bytes r → r ≡ Err BadHead → IsBadHead bytes
unfolding HasBadLength
row_bad_head bytes r is e = told bytes r BadHead is e

pub row_bad_length : (bytes : List ℕ) (r : Answer) → IsAnswered bytes r → HasBadLength bytes → r ≡ Err BadHead
unfolding HasBadLength
row_bad_length bytes r is asked = (due_at bytes r PostsBadLength 4 stage_bad_length is asked).is

pub row_too_large : (bytes : List ℕ) (r : Answer) → IsAnswered bytes r → r ≡ Err TooLarge → IsTooLarge bytes
unfolding HasLongBody
row_too_large bytes r is e = told bytes r TooLarge is e

pub row_long_body : (bytes : List ℕ) (r : Answer) → IsAnswered bytes r → HasLongBody bytes → r ≡ Err TooLarge
unfolding HasLongBody
row_long_body bytes r is asked = (due_at bytes r PostsTooMuch 5 stage_too_much is asked).is

pub row_not_yet : (bytes : List ℕ) (r : Answer) → IsAnswered bytes r → r ≡ Err NotYet → IsNotYet bytes
unfolding HasCutBody
row_not_yet bytes r is e = told bytes r NotYet is e

pub row_cut_body : (bytes : List ℕ) (r : Answer) → IsAnswered bytes r → HasCutBody bytes → r ≡ Err NotYet
unfolding HasCutBody
row_cut_body bytes r is asked = (due_at bytes r PostsTooFew 6 stage_too_few is asked).is

-- posts

posted : (bytes body : List ℕ) → HasAsked bytes (λ a. PostsBody a body) → PostRequest body bytes
posted bytes body asked = record {
  head = asked.0;
  behind = asked.1;
  has_head = asked.2;
  method = asked.3.0.1;
  target = asked.3.0.0;
  not_coded = asked.3.1;
  has = record { stated = asked.3.2.stated; short = asked.3.2.short; is = asked.3.2.is };
}

pub row_post : (bytes body : List ℕ) (r : Answer) → IsAnswered bytes r → GivesPost r body → PostRequest body bytes
row_post bytes body (Ok (Post given)) (inl none) gives = absurd (let both = none.1 in cc)
row_post bytes body (Ok (Post given)) (inr some) gives =
    posted bytes body (some.0, some.1, some.2, subst (λ b. PostsBody (asked_in some.0 some.1) b) gives some.3)
row_post bytes body (Ok (Acks query)) is gives = absurd gives
row_post bytes body (Err fault) is gives = absurd gives

same_body : (a : Asked) (body : List ℕ) (r : Answer) → PostsBody a body → AnswersBody a r → GivesPost r body
same_body a body (Ok (Post given)) says d =
    let long : length given.now ≡ length body = same_Some (length given.now) (length body) (sym d.2.stated ∙ says.2.stated) in
    d.2.is ∙ (ap (λ n. take n a.behind) long ∙ sym says.2.is)
same_body a body (Ok (Acks query)) says d = absurd d
same_body a body (Err fault) says d = absurd d

pub row_post_found : (bytes body : List ℕ) (r : Answer) → IsAnswered bytes r → PostRequest body bytes → GivesPost r body
row_post_found bytes body r is post =
    let asked : HasAsked bytes (λ a. PostsBody a body) = (
      post.head,
      post.behind,
      post.has_head,
      ((post.target, post.method), post.not_coded, record { stated = post.has.stated; short = post.has.short; is = post.has.is }),
    ) in
    let d = due_at bytes r (λ a. PostsBody a body) 7 (λ a s. stage_body a body s) is asked in
    same_body d.asked body r d.says_so d.is

-- polls

pub row_poll : (bytes : List ℕ) (stems : List Stem) (r : Answer) → IsAnswered bytes r → GivesPoll r stems
    → PollRequest stems bytes
row_poll bytes stems (Ok (Post body)) is gives = absurd gives
row_poll bytes stems (Ok (Acks query)) (inl none) gives = absurd (let both = none.1 in cc)
row_poll bytes stems (Ok (Acks query)) (inr some) gives = record {
  head = some.0;
  behind = some.1;
  has_head = some.2;
  method = some.3.0;
  target = some.3.1 ∙ ap (λ q. codes "/acks?" ++ q) gives.is;
  some = gives.some;
  few = gives.few;
  are = gives.are;
}
row_poll bytes stems (Err fault) is gives = absurd gives

same_query : (a : Asked) (stems : List Stem) (query : List ℕ) (r : Answer) → a.target ≡ codes "/acks?" ++ query
    → IsQuery stems query
    → AnswersPoll a r → GivesPoll r stems
same_query a stems query (Ok (Post body)) target is d = absurd d
same_query a stems query (Ok (Acks given)) target is d =
    let same : query ≡ given.now = behind_slash query given.now (sym target ∙ d.1) in
    subst (λ q. IsQuery stems q) same is
  where
    behind_slash : (x y : List ℕ) → codes "/acks?" ++ x ≡ codes "/acks?" ++ y → x ≡ y
    behind_slash x y e = ap (drop 6) e
same_query a stems query (Err BadLine) target is d = absurd (d.1 stems query target is)
same_query a stems query (Err BadHead) target is d = absurd d
same_query a stems query (Err NoLength) target is d = absurd d
same_query a stems query (Err TooLarge) target is d = absurd d
same_query a stems query (Err NotYet) target is d = absurd d
same_query a stems query (Err BadPath) target is d = absurd d
same_query a stems query (Err BadMethod) target is d = absurd d

pub row_poll_found : (bytes : List ℕ) (stems : List Stem) (r : Answer) → IsAnswered bytes r → PollRequest stems bytes
    → GivesPoll r stems
row_poll_found bytes stems r is poll =
    let query : IsQuery stems (query_text stems) = record { some = poll.some; few = poll.few; are = poll.are; is = refl } in
    let says : Asked → Type 0 = λ a. (a.target ≡ codes "/acks?" ++ query_text stems) × (a.method ≡ codes "GET") in
    let asks : (a : Asked) → says a → AsksToPoll a =
    λ a s. asks_to_poll a (query_text stems) (s.1, s.0, (stems, query)) in
    let d = due_at bytes r says 2 (λ a s. stage_poll a (asks a s)) is (poll.head, poll.behind, poll.has_head, (poll.target, poll.method)) in
    same_query d.asked stems (query_text stems) r d.says_so.0 query d.is

pub row_asked : (bytes : List ℕ) (r : Answer) → IsAnswered bytes r
    → IfPoll r (λ query. (stems : List Stem) × IsQuery stems query)
row_asked bytes (Ok (Post body)) is = tt
row_asked bytes (Ok (Acks query)) (inl none) = absurd (let both = none.1 in cc)
row_asked bytes (Ok (Acks query)) (inr some) = some.3.2
row_asked bytes (Err fault) is = tt

pub row_endless : (bytes : List ℕ) (r : Answer) → IsAnswered bytes r → IsEndlessRequest bytes → r ≡ Err TooLarge
row_endless bytes r (inl none) endless = none.1 ∙ ap Err (none.4 endless)
row_endless bytes r (inr some) endless = absurd (endless.1 some.0 some.1 some.2)

-- all rows of the table
abbrev pub AllRows : List ℕ → Answer → Type 0
AllRows bytes r = record {
  post : (body : List ℕ) → GivesPost r body ↔ PostRequest body bytes;
  poll : (stems : List Stem) → GivesPoll r stems ↔ PollRequest stems bytes;
  asked : IfPoll r (λ query. (stems : List Stem) × IsQuery stems query);
  bad_path : (r ≡ Err BadPath) ↔ IsBadPath bytes;
  bad_method : (r ≡ Err BadMethod) ↔ IsBadMethod bytes;
  bad_line : (r ≡ Err BadLine) ↔ IsBadQuery bytes;
  no_length : (r ≡ Err NoLength) ↔ IsWithoutLength bytes;
  bad_head : r ≡ Err BadHead → IsBadHead bytes;
  bad_length : HasBadLength bytes → r ≡ Err BadHead;
  too_large : r ≡ Err TooLarge → IsTooLarge bytes;
  endless : IsEndlessRequest bytes → r ≡ Err TooLarge;
  long_body : HasLongBody bytes → r ≡ Err TooLarge;
  not_yet : r ≡ Err NotYet → IsNotYet bytes;
  cut_body : HasCutBody bytes → r ≡ Err NotYet;
}

pub all_rows : (bytes : List ℕ) (r : Answer) → IsAnswered bytes r → AllRows bytes r
all_rows bytes r is = record {
  post = λ body. (row_post bytes body r is, row_post_found bytes body r is);
  poll = λ stems. (row_poll bytes stems r is, row_poll_found bytes stems r is);
  asked = row_asked bytes r is;
  bad_path = row_bad_path bytes r is;
  bad_method = row_bad_method bytes r is;
  bad_line = row_bad_line bytes r is;
  no_length = row_no_length bytes r is;
  bad_head = row_bad_head bytes r is;
  bad_length = row_bad_length bytes r is;
  too_large = row_too_large bytes r is;
  endless = row_endless bytes r is;
  long_body = row_long_body bytes r is;
  not_yet = row_not_yet bytes r is;
  cut_body = row_cut_body bytes r is;
}
