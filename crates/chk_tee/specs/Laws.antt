-- The laws of filters and messages.
use Rattle.std.specs.Prelude.{◌≡◌, ◌↔◌, ◌<◌, ◌≤◌, List, ℕ, length, None, Some, Ok}
use Rattle.chk_bytes.specs.Words.{BeginsWith}
use Rattle.chk_http_grammar.specs.Messages.{IsRequest}
use Rattle.chk_tee.specs.Messages.{Teed, IsTee, AreTeed, written_tee, tee_limit, most_teed, tee_mark}
use Rattle.chk_tee.specs.Faults.{tee_fault, mark_wrong}
use Rattle.chk_tee.specs.Filters.{IsFilter, filter_in}
use Rattle.chk_tee.specs.declared.faults.TeeFault.TheVariants.{NotTee}
use Rattle.chk_tee.specs.declared.filters.Filter.{Filter}

-- bytes have no fault exactly where they are a message of some chunks
abbrev pub FaultlessIsTee : List ℕ → Type 0
FaultlessIsTee bytes = (tee_fault bytes ≡ None) ↔ ((items : List Teed) × IsTee items bytes)

-- bytes are a message of one list of chunks at most
abbrev pub TeeIsOne : Type 0
TeeIsOne = (ts us : List Teed) (bytes : List ℕ) → IsTee ts bytes → IsTee us bytes → ts ≡ us

-- no message begins another one
abbrev pub TeeStandsAlone : Type 0
TeeStandsAlone =
    (ts us : List Teed) (short long : List ℕ) → IsTee ts short → IsTee us long → BeginsWith long short → short ≡ long

-- what is written is a message
abbrev pub WrittenIsTee : Type 0
WrittenIsTee =
    (items : List Teed) → 0 < length items → length items ≤ most_teed → AreTeed items
    → length (written_tee items) ≤ tee_limit → IsTee items (written_tee items)

-- the first five bytes are wrong exactly where the bytes don't begin with the mark and aren't a front of it
abbrev pub NotTeeExactly : Type 0
NotTeeExactly =
    (bytes : List ℕ)
    → (mark_wrong bytes ≡ Some NotTee) ↔ (¬ (BeginsWith bytes tee_mark) × ¬ (BeginsWith tee_mark bytes))

-- no front of a message, and nothing that begins with one, is a request
abbrev pub NoRequest : Type 0
NoRequest =
    (items : List Teed) (bytes front : List ℕ) → IsTee items bytes → BeginsWith bytes front → ¬ (IsRequest front)

-- a text is read as just the filter that it is
abbrev pub FilterIsRead : Type 0
FilterIsRead = (f : Filter) (text : List ℕ) → (filter_in text ≡ Ok f) ↔ IsFilter f text

-- a text is one filter at most
abbrev pub FilterIsOne : Type 0
FilterIsOne = (f g : Filter) (text : List ℕ) → IsFilter f text → IsFilter g text → f ≡ g
