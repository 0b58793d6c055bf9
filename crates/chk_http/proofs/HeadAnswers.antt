-- What is known of a small head once a parse has answered.
use Rattle.std.proofs.Common.{◌≡◌, ℕ, ◌≤◌, ◌<◌, List, length, drop, take, arith, inr, Result, Ok, Err, sym, ◌∙◌}
use Rattle.std.specs.Prelude.{IfOk, IfErr, IsOk, IsOkAnd, refl}
use Rattle.httparse.specs.Grammar.{RequestHead, ReadsRequest, ResponseHead, ReadsResponse}
use Rattle.httparse.specs.Spans.{IsRequestAt, IsRequestWithin, IsResponseAt, IsResponseWithin}
use Rattle.chk_http_grammar.specs.Heads.{HasRequestHead, HasReplyHead}
use Rattle.chk_http.specs.declared.fault.HttpFault.{HttpFault}
use Rattle.chk_http.specs.declared.fault.HttpFault.TheVariants.{BadHead, NoLength, TooLarge, NotYet, BadPath, BadMethod, BadLine}
use Rattle.chk_http.specs.declared.head.RequestPlaces.{RequestPlaces}
use Rattle.chk_http.specs.declared.head.ReplyPlaces.{ReplyPlaces}
use Rattle.chk_http.specs.Heads.{IsRequestHeadFault, IsRequestFrontFault, IsReplyHeadFault, IsReplyFrontFault, HasManyRequestLines, IsNoRequestHead, IsOpenRequestHead, HasManyReplyLines, IsNoReplyHead, IsOpenReplyHead}
use Rattle.chk_http.proofs.Front.{front_at, head_in_front, head_fits, front_reply_at, reply_head_in_front, reply_head_fits}

pub ok_from_and : {A E : Type 0} (r : Result A E) (P : A → Type 0) → IsOkAnd r P → IsOk r
ok_from_and (Ok x) P holds = refl
ok_from_and (Err e) P holds = absurd holds

-- one fault
pub same_fault : {A : Type 0} (r : Result A HttpFault) (f g : HttpFault) → r ≡ Err f → r ≡ Err g → f ≡ g
same_fault r f g e d = let both : Err f ≡ Err g = sym e ∙ d in cc

-- ---- requests

-- where the spans of a request's head lie, and that it has at most 32 lines
abbrev pub IsPlaced : List ℕ → RequestPlaces → Type 0
IsPlaced bytes p = (h : RequestHead) × IsRequestAt bytes p.headers p.spans h × (length h.fields ≤ 32)

-- the same with its small size
abbrev pub IsSmallPlaced : List ℕ → RequestPlaces → Type 0
IsSmallPlaced bytes p =
    (h : RequestHead) × IsRequestAt bytes p.headers p.spans h × HasRequestHead bytes h (drop p.spans.len bytes)

small_head : (bytes : List ℕ) (p : RequestPlaces) → length bytes < 16384 → IsRequestWithin bytes p.headers p.spans
    → IsPlaced bytes p
    → IsSmallPlaced bytes p
unfolding HasRequestHead
small_head bytes p short within placed =
    let fits = within.section.len_fits in
    let len = placed.1.len in
    (placed.0, placed.1, (placed.1.reads, (placed.2, omega arith)))

pub short_ok : (bytes : List ℕ) (r : Result RequestPlaces HttpFault) → length bytes < 16384
    → IfOk r (λ p. IsRequestWithin bytes p.headers p.spans) → IfOk r (IsPlaced bytes) → IfOk r (IsSmallPlaced bytes)
short_ok bytes (Ok p) short within placed = small_head bytes p short within placed
short_ok bytes (Err e) short within placed = tt

pub short_err : (bytes : List ℕ) (r : Result RequestPlaces HttpFault) → IfErr r (IsRequestFrontFault bytes)
    → IfErr r (IsRequestHeadFault bytes)
unfolding HasManyRequestLines IsNoRequestHead IsOpenRequestHead
short_err bytes (Ok p) refused = tt
short_err bytes (Err BadHead) refused = refused
short_err bytes (Err TooLarge) refused = inr refused
short_err bytes (Err NotYet) refused = refused
short_err bytes (Err NoLength) refused = absurd refused
short_err bytes (Err BadPath) refused = absurd refused
short_err bytes (Err BadMethod) refused = absurd refused
short_err bytes (Err BadLine) refused = absurd refused

-- a head that was read in the first bytes is one of the whole
pub long_ok : (bytes : List ℕ) (p : RequestPlaces) → IsRequestWithin (take 16384 bytes) p.headers p.spans
    → IsPlaced (take 16384 bytes) p
    → IsSmallPlaced bytes p
unfolding HasRequestHead
long_ok bytes p within placed =
    let at = front_at 16384 bytes p.headers p.spans placed.0 within placed.1 in
    let fits = head_fits 16384 bytes p.headers p.spans placed.0 within placed.1 in
    (placed.0, at, (at.reads, (placed.2, fits)))

-- a small head is found in the first bytes
pub long_found : (bytes : List ℕ) (h : RequestHead) (behind : List ℕ) (R : Type 0) → HasRequestHead bytes h behind
    → ((h : RequestHead) (rest : List ℕ) → ReadsRequest (take 16384 bytes) h rest → length h.fields ≤ 32 → R) → R
unfolding HasRequestHead
long_found bytes h behind R has found = found h _ (head_in_front 16384 bytes h behind has.1.1 has.0) has.1.0

pub short_found : (bytes : List ℕ) (h : RequestHead) (behind : List ℕ) (R : Type 0) → HasRequestHead bytes h behind
    → ((h : RequestHead) (rest : List ℕ) → ReadsRequest bytes h rest → length h.fields ≤ 32 → R) → R
unfolding HasRequestHead
short_found bytes h behind R has found = found h behind has.0 has.1.0

-- ---- replies

-- where the spans of a reply's head lie, and that it has at most 32 lines
abbrev pub IsReplyPlaced : List ℕ → ReplyPlaces → Type 0
IsReplyPlaced bytes p = (h : ResponseHead) × IsResponseAt bytes p.headers p.spans h × (length h.fields ≤ 32)

-- the same with its small size
abbrev pub IsSmallReplyPlaced : List ℕ → ReplyPlaces → Type 0
IsSmallReplyPlaced bytes p =
    (h : ResponseHead) × IsResponseAt bytes p.headers p.spans h × HasReplyHead bytes h (drop p.spans.len bytes)

small_reply_head : (bytes : List ℕ) (p : ReplyPlaces) → length bytes < 16384 → IsResponseWithin bytes p.headers p.spans
    → IsReplyPlaced bytes p → IsSmallReplyPlaced bytes p
unfolding HasReplyHead
small_reply_head bytes p short within placed =
    let fits = within.section.len_fits in
    let len = placed.1.len in
    (placed.0, placed.1, (placed.1.reads, (placed.2, omega arith)))

pub short_reply_ok : (bytes : List ℕ) (r : Result ReplyPlaces HttpFault) → length bytes < 16384
    → IfOk r (λ p. IsResponseWithin bytes p.headers p.spans) → IfOk r (IsReplyPlaced bytes)
    → IfOk r (IsSmallReplyPlaced bytes)
short_reply_ok bytes (Ok p) short within placed = small_reply_head bytes p short within placed
short_reply_ok bytes (Err e) short within placed = tt

pub short_reply_err : (bytes : List ℕ) (r : Result ReplyPlaces HttpFault) → IfErr r (IsReplyFrontFault bytes)
    → IfErr r (IsReplyHeadFault bytes)
unfolding HasManyReplyLines IsNoReplyHead IsOpenReplyHead
short_reply_err bytes (Ok p) refused = tt
short_reply_err bytes (Err BadHead) refused = refused
short_reply_err bytes (Err TooLarge) refused = inr refused
short_reply_err bytes (Err NotYet) refused = refused
short_reply_err bytes (Err NoLength) refused = absurd refused
short_reply_err bytes (Err BadPath) refused = absurd refused
short_reply_err bytes (Err BadMethod) refused = absurd refused
short_reply_err bytes (Err BadLine) refused = absurd refused

-- a head that was read in the first bytes is one of the whole
pub long_reply_ok : (bytes : List ℕ) (p : ReplyPlaces) → IsResponseWithin (take 16384 bytes) p.headers p.spans
    → IsReplyPlaced (take 16384 bytes) p → IsSmallReplyPlaced bytes p
unfolding HasReplyHead
long_reply_ok bytes p within placed =
    let at = front_reply_at 16384 bytes p.headers p.spans placed.0 within placed.1 in
    let fits = reply_head_fits 16384 bytes p.headers p.spans placed.0 within placed.1 in
    (placed.0, at, (at.reads, (placed.2, fits)))

-- a small head is found in the first bytes
pub long_reply_found : (bytes : List ℕ) (h : ResponseHead) (behind : List ℕ) (R : Type 0) → HasReplyHead bytes h behind
    → ((h : ResponseHead) (rest : List ℕ) → ReadsResponse (take 16384 bytes) h rest → length h.fields ≤ 32 → R) → R
unfolding HasReplyHead
long_reply_found bytes h behind R has found = found h _ (reply_head_in_front 16384 bytes h behind has.1.1 has.0) has.1.0

pub short_reply_found : (bytes : List ℕ) (h : ResponseHead) (behind : List ℕ) (R : Type 0) → HasReplyHead bytes h behind
    → ((h : ResponseHead) (rest : List ℕ) → ReadsResponse bytes h rest → length h.fields ≤ 32 → R) → R
unfolding HasReplyHead
short_reply_found bytes h behind R has found = found h behind has.0 has.1.0
