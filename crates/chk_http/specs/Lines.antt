-- The lines of a good reply: a stem, a space and a number each.
use Rattle.std.specs.Prelude.{◌≡◌, ℕ, IsTrue, List, [], ◌∷◌, ◌++◌, length, take, map, unwrap_or}
use Rattle.std.specs.List.{list_all}
use Rattle.chk_bytes.specs.Numbers.{plain_number}
use Rattle.chk_bytes.specs.Words.{parts_at}
use Rattle.chk_bytes.specs.Stems.{stem_of}
use Rattle.chk_http_grammar.specs.Messages.{Ack, ack_of, is_ack, ack_text, acks_text}
use Rattle.chk_http.specs.declared.line_list.Line.{Line}
use Rattle.chk_http.specs.Queries.{stem_at}

-- the body is so many lines
pub record IsLines (count : ℕ) (acks : List Ack) (body : List ℕ) : Type 0 where
  pub many : length acks ≡ count
  pub are : IsTrue (list_all is_ack acks)
  pub is : body ≡ acks_text acks

-- the line that two parts make
abbrev pub ack_of_parts : List (List ℕ) → Ack
ack_of_parts (stem ∷ number ∷ []) = ack_of (stem_at stem) (unwrap_or (plain_number number) 0)
ack_of_parts _ = ack_of (stem_of [] 0 0) 0

-- the first so many lines that a text names
unfoldable pub acks_in : ℕ → List ℕ → List Ack
acks_in count text = take count (map (λ line. ack_of_parts (parts_at 32 line)) (parts_at 10 text))

-- the text is the lines that it names
abbrev pub AreLinesListed : ℕ → List ℕ → Type 0
AreLinesListed count text = IsLines count (acks_in count text) text

-- no line stands in front
abbrev pub HasNoLine : List ℕ → Type 0
HasNoLine text =
    (ack : Ack) (behind : List ℕ) → IsTrue (is_ack ack) → ¬ (text ≡ ack_text ack ++ behind)

-- this line stands in front
pub record BeginsWithLine (text : List ℕ) (line : Line) : Type 0 where
  pub ack : IsTrue (is_ack (ack_of line.stem line.number))
  pub is : text ≡ ack_text (ack_of line.stem line.number) ++ line.behind.now
