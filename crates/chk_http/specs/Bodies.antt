-- What is answered for the body of a message, by the values of the lines that state its length.
use Rattle.std.specs.Prelude.{◌≡◌, ◌≢◌, ℕ, ◌≤◌, ◌<◌, List, [], length, take, Result, Ok, Err, Some, None}
use Rattle.std.specs.Borrow.{Bor}
use Rattle.chk_bytes.specs.Numbers.{number_in_digits}
use Rattle.chk_chunk.specs.Posts.{post_limit}
use Rattle.chk_http_grammar.specs.Heads.{length_in}
use Rattle.chk_http.specs.declared.fault.HttpFault.{HttpFault}
use Rattle.chk_http.specs.declared.fault.HttpFault.TheVariants.{BadHead, NoLength, TooLarge, NotYet, BadPath, BadMethod, BadLine}

-- the body of the stated length stands behind the head
pub record BodyStands (lengths : List (List ℕ)) (behind body : List ℕ) : Type 0 where
  pub stated : length_in lengths ≡ Some (length body)
  pub short : length body ≤ post_limit
  pub is : body ≡ take (length body) behind

-- a length is stated more than once, or isn't a number of 1 to 19 digits below 2^63
abbrev pub IsBadLength : List (List ℕ) → Type 0
IsBadLength lengths = (lengths ≢ []) × (length_in lengths ≡ None)

-- a length above 4,194,304 is stated
abbrev pub IsLongLength : List (List ℕ) → Type 0
IsLongLength lengths = (n : ℕ) × (length_in lengths ≡ Some n) × (post_limit < n)

-- fewer bytes than the stated length stand behind the head
abbrev pub IsCutBody : List (List ℕ) → List ℕ → Type 0
IsCutBody lengths behind =
    (n : ℕ) × (length_in lengths ≡ Some n) × (n ≤ post_limit) × (length behind < n)

-- what an answer says of the lengths and of what stands behind the head
abbrev pub AnswersBody : List (List ℕ) → List ℕ → Result (Bor (List ℕ)) HttpFault → Type 0
AnswersBody lengths behind (Ok body) = BodyStands lengths behind body.now
AnswersBody lengths behind (Err NoLength) = lengths ≡ []
AnswersBody lengths behind (Err BadHead) = IsBadLength lengths
AnswersBody lengths behind (Err TooLarge) = IsLongLength lengths
AnswersBody lengths behind (Err NotYet) = IsCutBody lengths behind
AnswersBody lengths behind (Err BadPath) = ⊥
AnswersBody lengths behind (Err BadMethod) = ⊥
AnswersBody lengths behind (Err BadLine) = ⊥

-- what an answer says of the lengths
abbrev pub AnswersLengths : List (List ℕ) → Result ℕ HttpFault → Type 0
AnswersLengths lengths (Ok n) = (length_in lengths ≡ Some n) × (n ≤ post_limit)
AnswersLengths lengths (Err NoLength) = lengths ≡ []
AnswersLengths lengths (Err BadHead) = IsBadLength lengths
AnswersLengths lengths (Err TooLarge) = IsLongLength lengths
AnswersLengths lengths (Err NotYet) = ⊥
AnswersLengths lengths (Err BadPath) = ⊥
AnswersLengths lengths (Err BadMethod) = ⊥
AnswersLengths lengths (Err BadLine) = ⊥

-- what an answer says of one value
abbrev pub AnswersLength : List ℕ → Result ℕ HttpFault → Type 0
AnswersLength value (Ok n) = (number_in_digits value ≡ Some n) × (n ≤ post_limit)
AnswersLength value (Err BadHead) = number_in_digits value ≡ None
AnswersLength value (Err TooLarge) = (n : ℕ) × (number_in_digits value ≡ Some n) × (post_limit < n)
AnswersLength value (Err NoLength) = ⊥
AnswersLength value (Err NotYet) = ⊥
AnswersLength value (Err BadPath) = ⊥
AnswersLength value (Err BadMethod) = ⊥
AnswersLength value (Err BadLine) = ⊥
