-- No written message begins another one, and a front of a written request that is accepted is the whole of it.
use Rattle.std.proofs.Common.{subst, ◌≡◌, inl, inr, ℕ, List, [], ◌∷◌, ◌++◌, length, refl, ap, sym, ◌∙◌, arith, length-append}
use Rattle.std.proofs.lemmas.List.{nil_from_length}
use Rattle.httparse.specs.Grammar.{Field}
use Rattle.chk_bytes.specs.Stems.{Stem}
use Rattle.chk_chunk.specs.Keys.{Chunk}
use Rattle.chk_chunk.specs.Posts.{IsPost, written_post}
use Rattle.chk_chunk.proofs.PostGrammar.{one_post}
use Rattle.chk_http_grammar.proofs.Chunks.{written_is_posted}
use Rattle.chk_http_grammar.specs.Heads.{HasBody}
use Rattle.chk_http_grammar.specs.Messages.{PostRequest, PollRequest, IsPostOf, WrittenPost, WrittenPoll, WrittenReply, IsWritten, written_post_request, written_poll_request, written_reply}
use Rattle.chk_http_grammar.proofs.HeadLemmas.{HasRequestHead-append, HasRequestHead-same, HasReplyHead-append, HasReplyHead-same, HasBody-fits}
use Rattle.chk_http_grammar.proofs.Printed.{post_head, poll_head, reply_head}
use Rattle.chk_http_grammar.proofs.Accepted.{PostRequest-append, PollRequest-append, PostRequest-same, PollRequest-same, IsReply-append, IsReply-same, never_both}
use Rattle.chk_http_grammar.proofs.Written.{written_post_has, written_poll_has, written_reply_has, post_accepted, written_is_poll, written_is_reply}

-- what is accepted of a body reaches to its end: nothing stands behind it
nothing_behind : (fields : List Field) (body behind rest : List ℕ) → HasBody fields body behind → behind ++ rest ≡ body → rest ≡ []
nothing_behind fields body behind rest has whole =
    nil_from_length rest (omega (arith, HasBody-fits fields body behind has, ap length whole, length-append behind rest))

pub front_of_post : (address : List ℕ) (chunks : List Chunk) (body front rest : List ℕ) → WrittenPost address chunks (front ++ rest)
    → PostRequest body front → (rest ≡ []) × (body ≡ written_post chunks)
front_of_post address chunks body front rest w r =
    let post = written_post chunks in
    let whole = front ++ rest in
    let same_body = PostRequest-same body post whole (PostRequest-append body front rest r) (post_accepted address post whole w.to w.short w.is) in
    let head = HasRequestHead-same whole r.head (post_head address (length post)) (r.behind ++ rest) post
    (HasRequestHead-append front r.head r.behind rest r.has_head) (written_post_has address post whole w.to w.short w.is) in
    (nothing_behind r.head.fields body r.behind rest r.has (head.1 ∙ sym same_body), same_body)

pub front_of_post_chunks : (address : List ℕ) (chunks others : List Chunk) (front rest : List ℕ) → WrittenPost address chunks (front ++ rest)
    → IsPostOf others front → (rest ≡ []) × (others ≡ chunks)
front_of_post_chunks address chunks others front rest w r =
    let whole = front_of_post address chunks r.0 front rest w r.1 in
    let written = subst (λ b. IsPost chunks b) (sym whole.1) (written_is_posted chunks w.some w.few w.are w.short) in
    (whole.0, one_post others chunks r.0 r.2 written)

pub front_of_post_is_no_poll : (address : List ℕ) (chunks : List Chunk) (stems : List Stem) (front rest : List ℕ)
    → WrittenPost address chunks (front ++ rest) → PollRequest stems front → ⊥
front_of_post_is_no_poll address chunks stems front rest w r =
    never_both (written_post chunks) stems (front ++ rest) (post_accepted address (written_post chunks) (front ++ rest) w.to w.short w.is)
    (PollRequest-append stems front rest r)

pub front_of_poll : (address : List ℕ) (stems others : List Stem) (front rest : List ℕ) → WrittenPoll address stems (front ++ rest)
    → PollRequest others front → (rest ≡ []) × (others ≡ stems)
front_of_poll address stems others front rest w r =
    let whole = front ++ rest in
    let head = HasRequestHead-same whole r.head (poll_head address stems) (r.behind ++ rest) []
    (HasRequestHead-append front r.head r.behind rest r.has_head) (written_poll_has address stems whole w) in (
      nil_from_length rest (omega (arith, ap length head.1, length-append r.behind rest)),
      PollRequest-same others stems whole (PollRequest-append others front rest r) (written_is_poll address stems whole w),
    )

pub front_of_poll_is_no_post : (address : List ℕ) (stems : List Stem) (body front rest : List ℕ)
    → WrittenPoll address stems (front ++ rest) → PostRequest body front → ⊥
front_of_poll_is_no_post address stems body front rest w r =
    never_both body stems (front ++ rest) (PostRequest-append body front rest r) (written_is_poll address stems (front ++ rest) w)

front_of_reply : (c d : ℕ) (p q a b bytes more : List ℕ) → WrittenReply c p a bytes → WrittenReply d q b (bytes ++ more) → more ≡ []
front_of_reply c d p q a b bytes more w v =
    let whole = bytes ++ more in
    let r = written_is_reply c p a bytes w in
    let same = IsReply-same c d a b whole (IsReply-append c a bytes more r) (written_is_reply d q b whole v) in
    let head = HasReplyHead-same whole r.head (reply_head d q (length b)) (r.behind ++ more) b
    (HasReplyHead-append bytes r.head r.behind more r.has_head) (written_reply_has d q b whole v) in
    nothing_behind r.head.fields a r.behind more r.has (head.1 ∙ sym same.1)

-- the first byte
post_begins : (address body : List ℕ) → (rest : List ℕ) × (written_post_request address body ≡ 80 ∷ rest)
unfolding written_post_request
post_begins address body = (_, refl)

poll_begins : (address : List ℕ) (stems : List Stem) → (rest : List ℕ) × (written_poll_request address stems ≡ 71 ∷ rest)
unfolding written_poll_request
poll_begins address stems = (_, refl)

reply_begins : (code : ℕ) (phrase body : List ℕ) → (rest : List ℕ) × (written_reply code phrase body ≡ 72 ∷ rest)
unfolding written_reply
reply_begins code phrase body = (_, refl)

starts_apart : (c d : ℕ) (xs ys bytes more : List ℕ) → (c ≡ d → ⊥) → bytes ≡ c ∷ xs → bytes ++ more ≡ d ∷ ys → ⊥
starts_apart c d xs ys bytes more differ e f =
    let whole : c ∷ (xs ++ more) ≡ d ∷ ys = sym (ap (λ b. b ++ more) e) ∙ f in
    differ (cc)

-- no request begins a reply, and no reply a request
post_or_reply : (address body : List ℕ) (code : ℕ) (phrase answer : List ℕ) (bytes more : List ℕ) → bytes ≡ written_post_request address body
    → bytes ++ more ≡ written_reply code phrase answer → ⊥
post_or_reply address body code phrase answer bytes more e f =
    let p = post_begins address body in
    let r = reply_begins code phrase answer in
    starts_apart 80 72 p.0 r.0 bytes more (λ h. omega arith) (e ∙ p.1) (f ∙ r.1)

poll_or_reply : (address : List ℕ) (stems : List Stem) (code : ℕ) (phrase answer : List ℕ) (bytes more : List ℕ)
    → bytes ≡ written_poll_request address stems → bytes ++ more ≡ written_reply code phrase answer → ⊥
poll_or_reply address stems code phrase answer bytes more e f =
    let p = poll_begins address stems in
    let r = reply_begins code phrase answer in
    starts_apart 71 72 p.0 r.0 bytes more (λ h. omega arith) (e ∙ p.1) (f ∙ r.1)

reply_or_post : (code : ℕ) (phrase answer : List ℕ) (address body : List ℕ) (bytes more : List ℕ) → bytes ≡ written_reply code phrase answer
    → bytes ++ more ≡ written_post_request address body → ⊥
reply_or_post code phrase answer address body bytes more e f =
    let p = post_begins address body in
    let r = reply_begins code phrase answer in
    starts_apart 72 80 r.0 p.0 bytes more (λ h. omega arith) (e ∙ r.1) (f ∙ p.1)

reply_or_poll : (code : ℕ) (phrase answer address : List ℕ) (stems : List Stem) (bytes more : List ℕ)
    → bytes ≡ written_reply code phrase answer → bytes ++ more ≡ written_poll_request address stems → ⊥
reply_or_poll code phrase answer address stems bytes more e f =
    let p = poll_begins address stems in
    let r = reply_begins code phrase answer in
    starts_apart 72 71 r.0 p.0 bytes more (λ h. omega arith) (e ∙ r.1) (f ∙ p.1)

pub none_begins_another : (bytes more : List ℕ) → IsWritten bytes → IsWritten (bytes ++ more) → more ≡ []
none_begins_another bytes more (inl w) (inl v) =
    (front_of_post v.0 v.1 (written_post w.1) bytes more v.2 (post_accepted w.0 (written_post w.1) bytes w.2.to w.2.short w.2.is)).0
none_begins_another bytes more (inl w) (inr (inl v)) =
    absurd (front_of_poll_is_no_post v.0 v.1 (written_post w.1) bytes more v.2 (post_accepted w.0 (written_post w.1) bytes w.2.to w.2.short w.2.is))
none_begins_another bytes more (inl w) (inr (inr v)) =
    absurd (post_or_reply w.0 (written_post w.1) v.0 v.1 v.2 bytes more w.2.is v.3.is)
none_begins_another bytes more (inr (inl w)) (inl v) =
    absurd (front_of_post_is_no_poll v.0 v.1 w.1 bytes more v.2 (written_is_poll w.0 w.1 bytes w.2))
none_begins_another bytes more (inr (inl w)) (inr (inl v)) =
    (front_of_poll v.0 v.1 w.1 bytes more v.2 (written_is_poll w.0 w.1 bytes w.2)).0
none_begins_another bytes more (inr (inl w)) (inr (inr v)) =
    absurd (poll_or_reply w.0 w.1 v.0 v.1 v.2 bytes more w.2.is v.3.is)
none_begins_another bytes more (inr (inr w)) (inl v) =
    absurd (reply_or_post w.0 w.1 w.2 v.0 (written_post v.1) bytes more w.3.is v.2.is)
none_begins_another bytes more (inr (inr w)) (inr (inl v)) =
    absurd (reply_or_poll w.0 w.1 w.2 v.0 v.1 bytes more w.3.is v.2.is)
none_begins_another bytes more (inr (inr w)) (inr (inr v)) =
    front_of_reply w.0 v.0 w.1 v.1 w.2 v.2 bytes more w.3 v.3
