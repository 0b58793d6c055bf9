-- Accepted messages: more bytes behind them don't matter, and they have one meaning.
use Rattle.std.proofs.Common.{◌≡◌, inl, inr, ℕ, List, ◌++◌, ap, sym, subst, ◌∙◌}
use Rattle.std.specs.Prelude.{codes}
use Rattle.httparse.specs.Grammar.{status_code}
use Rattle.chk_bytes.specs.Words.{BeginsWith}
use Rattle.chk_bytes.specs.Stems.{Stem}
use Rattle.chk_http_grammar.specs.Heads.{HasBody}
use Rattle.chk_http_grammar.specs.Messages.{PostRequest, PollRequest, IsRequest, IsReply, Ack, acks_text, IsGoodReply, query_text}
use Rattle.chk_http_grammar.proofs.HeadLemmas.{HasRequestHead-append, HasRequestHead-same, HasReplyHead-append, HasReplyHead-same, HasBody-append, HasBody-same}
use Rattle.chk_http_grammar.proofs.Apart.{query_text-same, acks_text-same}

-- ---- more bytes behind

pub PostRequest-append : (body bytes more : List ℕ) → PostRequest body bytes → PostRequest body (bytes ++ more)
PostRequest-append body bytes more r = record {
  head = r.head;
  behind = r.behind ++ more;
  has_head = HasRequestHead-append bytes r.head r.behind more r.has_head;
  method = r.method;
  target = r.target;
  not_coded = r.not_coded;
  has = HasBody-append r.head.fields body r.behind more r.has;
}

pub PollRequest-append : (stems : List Stem) (bytes more : List ℕ) → PollRequest stems bytes → PollRequest stems (bytes ++ more)
PollRequest-append stems bytes more r = record {
  head = r.head;
  behind = r.behind ++ more;
  has_head = HasRequestHead-append bytes r.head r.behind more r.has_head;
  method = r.method;
  target = r.target;
  some = r.some;
  few = r.few;
  are = r.are;
}

pub IsReply-append : (code : ℕ) (body bytes more : List ℕ) → IsReply code body bytes → IsReply code body (bytes ++ more)
IsReply-append code body bytes more r = record {
  head = r.head;
  behind = r.behind ++ more;
  has_head = HasReplyHead-append bytes r.head r.behind more r.has_head;
  code_is = r.code_is;
  has = HasBody-append r.head.fields body r.behind more r.has;
}

-- a request in front makes the whole one
pub request_in_front : (bytes front : List ℕ) → BeginsWith bytes front → IsRequest front → IsRequest bytes
request_in_front bytes front begins (inl r) =
    inl (r.0, subst (λ b. PostRequest r.0 b) (sym begins.1) (PostRequest-append r.0 front begins.0 r.1))
request_in_front bytes front begins (inr r) =
    inr (r.0, subst (λ b. PollRequest r.0 b) (sym begins.1) (PollRequest-append r.0 front begins.0 r.1))

-- ---- one meaning

pub PostRequest-same : (body other bytes : List ℕ) → PostRequest body bytes → PostRequest other bytes → body ≡ other
PostRequest-same body other bytes r q =
    let same = HasRequestHead-same bytes r.head q.head r.behind q.behind r.has_head q.has_head in
    HasBody-same q.head.fields body other q.behind
    (subst (λ b. HasBody q.head.fields body b) same.1 (subst (λ h. HasBody h.fields body r.behind) same.0 r.has)) q.has

pub PollRequest-same : (stems others : List Stem) (bytes : List ℕ) → PollRequest stems bytes → PollRequest others bytes → stems ≡ others
PollRequest-same stems others bytes r q =
    let same = HasRequestHead-same bytes r.head q.head r.behind q.behind r.has_head q.has_head in
    let target : codes "/acks?" ++ query_text stems ≡ codes "/acks?" ++ query_text others =
    sym r.target ∙ (ap (λ h. h.target) same.0 ∙ q.target) in
    query_text-same stems others r.are q.are (cc)

pub never_both : (body : List ℕ) (stems : List Stem) (bytes : List ℕ) → PostRequest body bytes → PollRequest stems bytes → ⊥
never_both body stems bytes r q =
    let same = HasRequestHead-same bytes r.head q.head r.behind q.behind r.has_head q.has_head in
    let method : codes "POST" ≡ codes "GET" = sym r.method ∙ (ap (λ h. h.method) same.0 ∙ q.method) in
    cc

pub IsReply-same : (code other : ℕ) (body others bytes : List ℕ) → IsReply code body bytes → IsReply other others bytes
    → (code ≡ other) × (body ≡ others)
IsReply-same code other body others bytes r q =
    let same = HasReplyHead-same bytes r.head q.head r.behind q.behind r.has_head q.has_head in (
      sym r.code_is ∙ (ap status_code same.0 ∙ q.code_is),
      HasBody-same q.head.fields body others q.behind
          (subst (λ b. HasBody q.head.fields body b) same.1 (subst (λ h. HasBody h.fields body r.behind) same.0 r.has)) q.has,
    )

pub IsGoodReply-same : (acks others : List Ack) (bytes : List ℕ) → IsGoodReply acks bytes → IsGoodReply others bytes → acks ≡ others
IsGoodReply-same acks others bytes r q =
    acks_text-same acks others r.0 q.0 (IsReply-same 200 200 (acks_text acks) (acks_text others) bytes r.1 q.1).1
