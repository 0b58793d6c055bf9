-- What is answered where the bytes have no small head (RFC 9112).
use Rattle.std.specs.Prelude.{◌⊎◌, ℕ, ◌≤◌, List, length}
use Rattle.httparse.specs.Grammar.{RequestHead, ResponseHead, NeverHasRequest, NeverHasResponse, HasNoRequest, HasNoResponse, MayBecomeRequest, MayBecomeResponse}
use Rattle.httparse.specs.Spans.{RequestExceeds, RequestOverflows, ResponseExceeds, ResponseOverflows}
use Rattle.chk_http_grammar.specs.Heads.{HasRequestHead, HasReplyHead}
use Rattle.chk_http.specs.declared.fault.HttpFault.{HttpFault}
use Rattle.chk_http.specs.declared.fault.HttpFault.TheVariants.{BadHead, NoLength, TooLarge, NotYet, BadPath, BadMethod, BadLine}

-- no front of the bytes is a head of a request with at most 32 lines and 16,384 bytes
abbrev pub HasNoRequestHead : List ℕ → Type 0
HasNoRequestHead bytes =
    (head : RequestHead) (behind : List ℕ) → ¬ (HasRequestHead bytes head behind)

-- the bytes of a whole head, and more, hold none
abbrev pub IsEndlessRequest : List ℕ → Type 0
IsEndlessRequest bytes = (16384 ≤ length bytes) × HasNoRequestHead bytes

-- there are more than 32 header lines, whatever comes behind
unfoldable pub HasManyRequestLines : List ℕ → Type 0
HasManyRequestLines bytes = RequestExceeds 32 bytes × RequestOverflows 32 bytes

-- no continuation of the bytes has a head of a request
unfoldable pub IsNoRequestHead : List ℕ → Type 0
IsNoRequestHead bytes = NeverHasRequest bytes

-- no front of the bytes is a head of a request, and they may become one, or end inside the target
unfoldable pub IsOpenRequestHead : List ℕ → Type 0
IsOpenRequestHead bytes = HasNoRequest bytes × MayBecomeRequest bytes

-- the same for a reply

-- no front of the bytes is a head of a reply with at most 32 lines and 16,384 bytes
abbrev pub HasNoReplyHead : List ℕ → Type 0
HasNoReplyHead bytes = (head : ResponseHead) (behind : List ℕ) → ¬ (HasReplyHead bytes head behind)

-- the bytes of a whole head, and more, hold none
abbrev pub IsEndlessReply : List ℕ → Type 0
IsEndlessReply bytes = (16384 ≤ length bytes) × HasNoReplyHead bytes

-- there are more than 32 header lines, whatever comes behind
unfoldable pub HasManyReplyLines : List ℕ → Type 0
HasManyReplyLines bytes = ResponseExceeds 32 bytes × ResponseOverflows 32 bytes

-- no continuation of the bytes has a head of a reply
unfoldable pub IsNoReplyHead : List ℕ → Type 0
IsNoReplyHead bytes = NeverHasResponse bytes

-- no front of the bytes is a head of a reply, and they may become one
unfoldable pub IsOpenReplyHead : List ℕ → Type 0
IsOpenReplyHead bytes = HasNoResponse bytes × MayBecomeResponse bytes

-- why no head of a request was found
abbrev pub IsRequestHeadFault : List ℕ → HttpFault → Type 0
IsRequestHeadFault bytes BadHead = IsNoRequestHead bytes
IsRequestHeadFault bytes TooLarge = IsEndlessRequest bytes ⊎ HasManyRequestLines bytes
IsRequestHeadFault bytes NotYet = IsOpenRequestHead bytes
IsRequestHeadFault bytes NoLength = ⊥
IsRequestHeadFault bytes BadPath = ⊥
IsRequestHeadFault bytes BadMethod = ⊥
IsRequestHeadFault bytes BadLine = ⊥

-- why no head of a request was found in bytes that are all there are
abbrev pub IsRequestFrontFault : List ℕ → HttpFault → Type 0
IsRequestFrontFault bytes BadHead = NeverHasRequest bytes
IsRequestFrontFault bytes TooLarge = RequestExceeds 32 bytes × RequestOverflows 32 bytes
IsRequestFrontFault bytes NotYet = HasNoRequest bytes × MayBecomeRequest bytes
IsRequestFrontFault bytes NoLength = ⊥
IsRequestFrontFault bytes BadPath = ⊥
IsRequestFrontFault bytes BadMethod = ⊥
IsRequestFrontFault bytes BadLine = ⊥

-- why no head of a reply was found
abbrev pub IsReplyHeadFault : List ℕ → HttpFault → Type 0
IsReplyHeadFault bytes BadHead = IsNoReplyHead bytes
IsReplyHeadFault bytes TooLarge = IsEndlessReply bytes ⊎ HasManyReplyLines bytes
IsReplyHeadFault bytes NotYet = IsOpenReplyHead bytes
IsReplyHeadFault bytes NoLength = ⊥
IsReplyHeadFault bytes BadPath = ⊥
IsReplyHeadFault bytes BadMethod = ⊥
IsReplyHeadFault bytes BadLine = ⊥

-- why no head of a reply was found in bytes that are all there are
abbrev pub IsReplyFrontFault : List ℕ → HttpFault → Type 0
IsReplyFrontFault bytes BadHead = NeverHasResponse bytes
IsReplyFrontFault bytes TooLarge = ResponseExceeds 32 bytes × ResponseOverflows 32 bytes
IsReplyFrontFault bytes NotYet = HasNoResponse bytes × MayBecomeResponse bytes
IsReplyFrontFault bytes NoLength = ⊥
IsReplyFrontFault bytes BadPath = ⊥
IsReplyFrontFault bytes BadMethod = ⊥
IsReplyFrontFault bytes BadLine = ⊥
