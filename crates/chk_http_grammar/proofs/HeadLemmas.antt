-- What proofs need of heads and bodies, so that none opens the grammar.
use Rattle.std.proofs.Common.{◌≡◌, ℕ, List, ◌++◌, length, take, min, sym, subst, ap, ◌∙◌, ◌≤◌}
use Rattle.std.proofs.lemmas.List.{length-take, take-append-le}
use Rattle.std.proofs.lemmas.Option.{same_Some}
use Rattle.std.proofs.Math.Nat.{min-le_right}
use Rattle.httparse.specs.Grammar.{Field, RequestHead, ResponseHead, print_request, print_response}
use Rattle.httparse.proofs.GrammarLemmas.{ReadsRequest-append, ReadsResponse-append, request_unique, response_unique}
use Rattle.chk_http_grammar.specs.Heads.{HasRequestHead, HasReplyHead, HasBody}

-- ---- the head of a request

pub HasRequestHead-append : (bytes : List ℕ) (head : RequestHead) (behind more : List ℕ) → HasRequestHead bytes head behind
    → HasRequestHead (bytes ++ more) head (behind ++ more)
unfolding HasRequestHead
HasRequestHead-append bytes head behind more has = (ReadsRequest-append bytes head behind more has.0, has.1)

-- bytes have one head
pub HasRequestHead-same : (bytes : List ℕ) (head other : RequestHead) (behind others : List ℕ) → HasRequestHead bytes head behind
    → HasRequestHead bytes other others → (head ≡ other) × (behind ≡ others)
unfolding HasRequestHead
HasRequestHead-same bytes head other behind others has also = request_unique bytes head other behind others has.0 also.0

-- the head stands in front of the rest
pub HasRequestHead-is : (bytes : List ℕ) (head : RequestHead) (behind : List ℕ) → HasRequestHead bytes head behind
    → bytes ≡ print_request head ++ behind
unfolding HasRequestHead
HasRequestHead-is bytes head behind has = has.0.1

-- ---- the head of a reply

pub HasReplyHead-append : (bytes : List ℕ) (head : ResponseHead) (behind more : List ℕ) → HasReplyHead bytes head behind
    → HasReplyHead (bytes ++ more) head (behind ++ more)
unfolding HasReplyHead
HasReplyHead-append bytes head behind more has = (ReadsResponse-append bytes head behind more has.0, has.1)

-- bytes have one head
pub HasReplyHead-same : (bytes : List ℕ) (head other : ResponseHead) (behind others : List ℕ) → HasReplyHead bytes head behind
    → HasReplyHead bytes other others → (head ≡ other) × (behind ≡ others)
unfolding HasReplyHead
HasReplyHead-same bytes head other behind others has also = response_unique bytes head other behind others has.0 also.0

-- the head stands in front of the rest
pub HasReplyHead-is : (bytes : List ℕ) (head : ResponseHead) (behind : List ℕ) → HasReplyHead bytes head behind
    → bytes ≡ print_response head ++ behind
unfolding HasReplyHead
HasReplyHead-is bytes head behind has = has.0.1

-- ---- bodies

-- a body is no longer than what it is taken from
pub HasBody-fits : (fields : List Field) (body behind : List ℕ) → HasBody fields body behind → length body ≤ length behind
HasBody-fits fields body behind has =
    let size : min (length body) (length behind) ≡ length body = sym (length-take (length body) behind) ∙ sym (ap length has.is) in
    subst (λ n. n ≤ length behind) size (min-le_right (length body) (length behind))

pub HasBody-append : (fields : List Field) (body behind more : List ℕ) → HasBody fields body behind → HasBody fields body (behind ++ more)
HasBody-append fields body behind more has = record {
  stated = has.stated;
  short = has.short;
  is = has.is ∙ sym (take-append-le (length body) behind more (HasBody-fits fields body behind has));
}

-- behind one head stands one body
pub HasBody-same : (fields : List Field) (body other behind : List ℕ) → HasBody fields body behind → HasBody fields other behind
    → body ≡ other
HasBody-same fields body other behind has also =
    let long : length body ≡ length other = same_Some (length body) (length other) (sym has.stated ∙ also.stated) in
    has.is ∙ (ap (λ n. take n behind) long ∙ sym also.is)
