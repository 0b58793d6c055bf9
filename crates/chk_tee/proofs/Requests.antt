-- No message of a tee begins with a request, and no front of it does.
use Rattle.std.proofs.Common.{◌≡◌, ◌⊎◌, inl, inr, ℕ, List, [], ◌∷◌, ◌++◌, refl, sym, ap, ◌∙◌, subst, arith}
use Rattle.httparse.specs.Grammar.{LineEnd, crlf, lf, RequestHead, print_blank, print_request}
use Rattle.chk_bytes.specs.Words.{BeginsWith}
use Rattle.chk_http_grammar.specs.Heads.{HasRequestHead}
use Rattle.chk_http_grammar.specs.Messages.{IsRequest}
use Rattle.chk_http_grammar.proofs.Accepted.{request_in_front}
use Rattle.chk_tee.specs.Messages.{Teed, IsTee}

-- the bytes begin with this one
abbrev Begins : ℕ → List ℕ → Type 0
Begins b bytes = (rest : List ℕ) × (bytes ≡ b ∷ rest)

begins_more : (b : ℕ) (bytes more : List ℕ) → Begins b bytes → Begins b (bytes ++ more)
begins_more b bytes more (rest, e) = (rest ++ more, ap (λ l. l ++ more) e)

-- a line's end or the method's first byte
abbrev IsFirst : ℕ → ℕ → Type 0
IsFirst m b = (b ≡ m) ⊎ ((b ≡ 13) ⊎ (b ≡ 10))

blank_begins : (blank : List LineEnd) (m : ℕ) (method : List ℕ) → Begins m method
    → (b : ℕ) × IsFirst m b × Begins b (print_blank blank ++ method)
blank_begins [] m method begins = (m, inl refl, begins)
blank_begins (crlf ∷ blank) m method begins = (13, inr (inl refl), (_, refl))
blank_begins (lf ∷ blank) m method begins = (10, inr (inr refl), (_, refl))

head_begins : (h : RequestHead) (m : ℕ) (rest : List ℕ) → Begins m h.method
    → (b : ℕ) × IsFirst m b × Begins b (print_request h ++ rest)
unfolding print_request
head_begins h m rest begins =
    let first = blank_begins h.blank m h.method begins in (
      first.0,
      first.1,
      begins_more _ _ _ (begins_more _ _ _ (begins_more _ _ _ (begins_more _ _ _ (begins_more _ _ _ first.2)))),
    )

request_begins : (bytes : List ℕ) (h : RequestHead) (behind : List ℕ) (m : ℕ) → HasRequestHead bytes h behind → Begins m h.method
    → (b : ℕ) × IsFirst m b × Begins b bytes
unfolding HasRequestHead
request_begins bytes h behind m has begins =
    let first = head_begins h m behind begins in
    (first.0, first.1, subst (λ (l : List ℕ). Begins first.0 l) (sym has.0.1) first.2)

one_byte : (b : ℕ) (bytes : List ℕ) → Begins 67 bytes → Begins b bytes → b ≡ 67
one_byte b bytes (rest, e) (more, f) = let both = sym f ∙ e in cc

apart : (m : ℕ) (bytes : List ℕ) → (m ≡ 67 → ⊥) → Begins 67 bytes → (b : ℕ) × IsFirst m b × Begins b bytes → ⊥
apart m bytes other tee (b, inl is, begins) = other (sym is ∙ one_byte b bytes tee begins)
apart m bytes other tee (b, inr (inl is), begins) = let e = one_byte b bytes tee begins in omega arith
apart m bytes other tee (b, inr (inr is), begins) = let e = one_byte b bytes tee begins in omega arith

pub tee_is_no_request : (items : List Teed) (bytes : List ℕ) → IsTee items bytes → IsRequest bytes → ⊥
tee_is_no_request items bytes tee (inl (body, post)) =
    apart 80 bytes (λ e. omega arith) (_, tee.is) (request_begins bytes post.head post.behind 80 post.has_head (_, post.method))
tee_is_no_request items bytes tee (inr (stems, poll)) =
    apart 71 bytes (λ e. omega arith) (_, tee.is) (request_begins bytes poll.head poll.behind 71 poll.has_head (_, poll.method))

pub front_is_no_request : (items : List Teed) (bytes front : List ℕ) → IsTee items bytes → BeginsWith bytes front → IsRequest front → ⊥
front_is_no_request items bytes front tee begins request =
    tee_is_no_request items bytes tee (request_in_front bytes front begins request)
