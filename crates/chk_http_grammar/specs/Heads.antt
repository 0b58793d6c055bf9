-- The heads of messages (RFC 9112): their header lines, and what has to stand behind them.
use Rattle.std.specs.Prelude.{◌≡◌, ℕ, ◌≤◌, List, [], ◌∷◌, length, take, map, filter, codes, bytes_eq, Option, Some, None}
use Rattle.std.specs.Str.{str_to_ascii_lowercase}
use Rattle.httparse.specs.Grammar.{Field, RequestHead, ResponseHead, ReadsRequest, ReadsResponse, print_request, print_response, field_value}
use Rattle.chk_bytes.specs.Numbers.{number_in_digits}
use Rattle.chk_chunk.specs.Posts.{post_limit}

-- the values of the header lines of this name, in whatever case it is written
unfoldable pub values_named : List ℕ → List Field → List (List ℕ)
values_named name fields = map field_value (filter (λ f. bytes_eq (str_to_ascii_lowercase f.name) name) fields)

-- the one value, as a number
abbrev pub length_in : List (List ℕ) → Option ℕ
length_in [] = None
length_in (value ∷ []) = number_in_digits value
length_in (value ∷ other ∷ values) = None

-- the values of the lines that state a length
abbrev pub stated_lengths : List Field → List (List ℕ)
stated_lengths fields = values_named (codes "content-length") fields

-- the values of the lines that name a coding of the body
abbrev pub stated_codings : List Field → List (List ℕ)
stated_codings fields = values_named (codes "transfer-encoding") fields

-- the one length that the header lines state
abbrev pub stated_length : List Field → Option ℕ
stated_length fields = length_in (stated_lengths fields)

-- the head has at most 32 lines and 16,384 bytes
abbrev pub IsSmallHead : List Field → List ℕ → Type 0
IsSmallHead fields head = (length fields ≤ 32) × (length head ≤ 16384)

-- the bytes are this small head of a request and what stands behind it
unfoldable pub HasRequestHead : List ℕ → RequestHead → List ℕ → Type 0
HasRequestHead bytes head behind = ReadsRequest bytes head behind × IsSmallHead head.fields (print_request head)

-- the bytes are this small head of a reply and what stands behind it
unfoldable pub HasReplyHead : List ℕ → ResponseHead → List ℕ → Type 0
HasReplyHead bytes head behind = ReadsResponse bytes head behind × IsSmallHead head.fields (print_response head)

-- what stands behind a head begins with a body of the stated length
pub record HasBody (fields : List Field) (body behind : List ℕ) : Type 0 where
  pub stated : stated_length fields ≡ Some (length body)
  pub short : length body ≤ post_limit
  pub is : body ≡ take (length body) behind
