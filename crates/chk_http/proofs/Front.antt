-- What a parse of the front of a byte string says of the whole string.
use Rattle.std.proofs.Common.{◌≡◌, ℕ, ◌+◌, ◌-◌, ◌≤◌, List, [], ◌∷◌, ◌++◌, length, take, drop, map, min, suc, refl, sym, subst, ap, ap₂, ◌∙◌, arith}
use Rattle.std.specs.List.{All, slice_range}
use Rattle.std.proofs.lemmas.List.{take-append-drop, drop-append-le, take-append-le, length-append, length-drop, length-take, append_assoc}
use Rattle.std.proofs.Math.Seq.{take-append-add}
use Rattle.std.proofs.Math.Nat.{min-le_left}
use Rattle.httparse.specs.declared.spans.HeaderSpan.{HeaderSpan}
use Rattle.httparse.specs.declared.spans.RequestSpans.{RequestSpans}
use Rattle.httparse.specs.declared.spans.ResponseSpans.{ResponseSpans}
use Rattle.httparse.specs.Grammar.{RequestHead, ReadsRequest, print_request, ResponseHead, ReadsResponse, print_response}
use Rattle.httparse.specs.Spans.{IsHeaderWithin, IsRequestAt, IsRequestWithin, IsResponseAt, IsResponseWithin, header_bytes}

-- a part of the front is that part of the whole
range_of_front : (xs ys : List ℕ) (s e : ℕ) → s ≤ e → e ≤ length xs → slice_range (xs ++ ys) s e ≡ slice_range xs s e
range_of_front xs ys s e ordered fits =
    let size : length (drop s xs) ≡ length xs - s = length-drop s xs in
    ap (take (e - s)) (drop-append-le s xs ys (omega arith)) ∙ take-append-le (e - s) (drop s xs) ys (omega arith)

header_of_front : (xs ys : List ℕ) (n : ℕ) (h : HeaderSpan) → IsHeaderWithin n h → n ≤ length xs
    → header_bytes (xs ++ ys) h ≡ header_bytes xs h
header_of_front xs ys n h inside fits = ap₂ (λ a b. (a, b))
    (range_of_front xs ys h.name.start h.name.end inside.0.0 (omega arith))
    (range_of_front xs ys h.value.start h.value.end inside.1.0 (omega arith))

headers_of_front : (xs ys : List ℕ) (n : ℕ) (hs : List HeaderSpan) → All (IsHeaderWithin n) hs → n ≤ length xs
    → map (header_bytes (xs ++ ys)) hs ≡ map (header_bytes xs) hs
headers_of_front xs ys n [] all fits = refl
headers_of_front xs ys n (h ∷ hs) all fits = ap₂ (λ a b. a ∷ b)
    (header_of_front xs ys n h (all 0 h (omega arith)) fits)
    (headers_of_front xs ys n hs (λ k d lt. all (suc k) d (omega arith)) fits)

-- ---- requests

whole_within : (xs ys : List ℕ) (hs : List HeaderSpan) (r : RequestSpans) → IsRequestWithin xs hs r
    → IsRequestWithin (xs ++ ys) hs r
whole_within xs ys hs r w =
    let more : length (xs ++ ys) ≡ length xs + length ys = length-append xs ys in
    let fits = w.section.len_fits in
    record {
      method = w.method;
      path = w.path;
      version = w.version;
      section = record { len_fits = omega arith; count_fits = w.section.count_fits; headers_fit = w.section.headers_fit };
    }

whole_at : (xs ys : List ℕ) (hs : List HeaderSpan) (r : RequestSpans) (h : RequestHead) → IsRequestWithin xs hs r
    → IsRequestAt xs hs r h → IsRequestAt (xs ++ ys) hs r h
whole_at xs ys hs r h w at =
    let fits = w.section.len_fits in
    record {
      reads = (
        at.reads.0,
        ap (λ t. t ++ ys) at.reads.1 ∙ append_assoc (print_request h) (drop r.len xs) ys
            ∙ ap (λ t. print_request h ++ t) (sym (drop-append-le r.len xs ys fits)),
      );
      len = at.len;
      method = range_of_front xs ys r.method.start r.method.end w.method.0 (omega arith) ∙ at.method;
      path = range_of_front xs ys r.path.start r.path.end w.path.0 (omega arith) ∙ at.path;
      version = at.version;
      fields = headers_of_front xs ys r.len (take r.headers hs) w.section.headers_fit fits ∙ at.fields;
    }

-- the same of the first n bytes
pub front_within : (n : ℕ) (bytes : List ℕ) (hs : List HeaderSpan) (r : RequestSpans)
    → IsRequestWithin (take n bytes) hs r
    → IsRequestWithin bytes hs r
front_within n bytes hs r w =
    subst (λ b. IsRequestWithin b hs r) (take-append-drop n bytes) (whole_within (take n bytes) (drop n bytes) hs r w)

pub front_at : (n : ℕ) (bytes : List ℕ) (hs : List HeaderSpan) (r : RequestSpans) (h : RequestHead)
    → IsRequestWithin (take n bytes) hs r → IsRequestAt (take n bytes) hs r h → IsRequestAt bytes hs r h
front_at n bytes hs r h w at =
    subst (λ b. IsRequestAt b hs r h) (take-append-drop n bytes) (whole_at (take n bytes) (drop n bytes) hs r h w at)

-- a head that fits the first n bytes is read there
pub head_in_front : (n : ℕ) (bytes : List ℕ) (h : RequestHead) (rest : List ℕ) → length (print_request h) ≤ n
    → ReadsRequest bytes h rest → ReadsRequest (take n bytes) h (take (n - length (print_request h)) rest)
head_in_front n bytes h rest fits reads =
    let k = n - length (print_request h) in
    let sum : n ≡ length (print_request h) + k = omega arith in (
      reads.0,
      ap (take n) reads.1 ∙ ap (λ m. take m (print_request h
          ++ rest)) sum ∙ take-append-add (print_request h) rest k,
    )

-- a head that was read in the first n bytes has at most n
pub head_fits : (n : ℕ) (bytes : List ℕ) (hs : List HeaderSpan) (r : RequestSpans) (h : RequestHead)
    → IsRequestWithin (take n bytes) hs r → IsRequestAt (take n bytes) hs r h → length (print_request h) ≤ n
head_fits n bytes hs r h w at =
    let size : length (take n bytes) ≡ min n (length bytes) = length-take n bytes in
    let fits = w.section.len_fits in
    let len = at.len in
    let below = min-le_left n (length bytes) in
    omega arith

-- ---- replies

whole_reply_within : (xs ys : List ℕ) (hs : List HeaderSpan) (r : ResponseSpans) → IsResponseWithin xs hs r
    → IsResponseWithin (xs ++ ys) hs r
whole_reply_within xs ys hs r w =
    let more : length (xs ++ ys) ≡ length xs + length ys = length-append xs ys in
    let fits = w.section.len_fits in
    record {
      version = w.version;
      code = w.code;
      reason = w.reason;
      section = record { len_fits = omega arith; count_fits = w.section.count_fits; headers_fit = w.section.headers_fit };
    }

whole_reply_at : (xs ys : List ℕ) (hs : List HeaderSpan) (r : ResponseSpans) (h : ResponseHead)
    → IsResponseWithin xs hs r
    → IsResponseAt xs hs r h → IsResponseAt (xs ++ ys) hs r h
whole_reply_at xs ys hs r h w at =
    let fits = w.section.len_fits in
    record {
      reads = (
        at.reads.0,
        ap (λ t. t ++ ys) at.reads.1 ∙ append_assoc (print_response h) (drop r.len xs) ys
            ∙ ap (λ t. print_response h ++ t) (sym (drop-append-le r.len xs ys fits)),
      );
      len = at.len;
      version = at.version;
      code = at.code;
      reason = range_of_front xs ys r.reason.start r.reason.end w.reason.0 (omega arith) ∙ at.reason;
      fields = headers_of_front xs ys r.len (take r.headers hs) w.section.headers_fit fits ∙ at.fields;
    }

pub front_reply_within : (n : ℕ) (bytes : List ℕ) (hs : List HeaderSpan) (r : ResponseSpans)
    → IsResponseWithin (take n bytes) hs r
    → IsResponseWithin bytes hs r
front_reply_within n bytes hs r w =
    subst (λ b. IsResponseWithin b hs r) (take-append-drop n bytes) (whole_reply_within (take n bytes) (drop n bytes) hs r w)

pub front_reply_at : (n : ℕ) (bytes : List ℕ) (hs : List HeaderSpan) (r : ResponseSpans) (h : ResponseHead)
    → IsResponseWithin (take n bytes) hs r → IsResponseAt (take n bytes) hs r h → IsResponseAt bytes hs r h
front_reply_at n bytes hs r h w at =
    subst (λ b. IsResponseAt b hs r h) (take-append-drop n bytes) (whole_reply_at (take n bytes) (drop n bytes) hs r h w at)

pub reply_head_in_front : (n : ℕ) (bytes : List ℕ) (h : ResponseHead) (rest : List ℕ) → length (print_response h) ≤ n
    → ReadsResponse bytes h rest → ReadsResponse (take n bytes) h (take (n - length (print_response h)) rest)
reply_head_in_front n bytes h rest fits reads =
    let k = n - length (print_response h) in
    let sum : n ≡ length (print_response h) + k = omega arith in (
      reads.0,
      ap (take n) reads.1 ∙ ap (λ m. take m (print_response h
          ++ rest)) sum ∙ take-append-add (print_response h) rest k,
    )

pub reply_head_fits : (n : ℕ) (bytes : List ℕ) (hs : List HeaderSpan) (r : ResponseSpans) (h : ResponseHead)
    → IsResponseWithin (take n bytes) hs r → IsResponseAt (take n bytes) hs r h → length (print_response h) ≤ n
reply_head_fits n bytes hs r h w at =
    let size : length (take n bytes) ≡ min n (length bytes) = length-take n bytes in
    let fits = w.section.len_fits in
    let len = at.len in
    let below = min-le_left n (length bytes) in
    omega arith
