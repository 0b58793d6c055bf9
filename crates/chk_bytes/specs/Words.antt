-- Words, and the parts of a text.
use Rattle.std.specs.Prelude.{◌≡◌, ℕ, ◌-◌, Bool, true, false, ◌&&◌, ◌||◌, not, ◌==◌, nat_lt, nat_le, List, [], ◌∷◌, ◌++◌, length, take, drop, bytes_eq, if◌then◌else◌, Option, Some, None, IsTrue}
use Rattle.std.specs.List.{list_all}
use Rattle.std.specs.Str.{is_utf8}

-- a byte that may stand in a word: no control byte, not the space, not the byte 127
abbrev pub is_word_byte : ℕ → Bool
is_word_byte b = nat_lt 32 b && not (b == 127)

-- 1 to 4,096 bytes of UTF-8, none a space, a control byte or the byte 127
unfoldable pub is_word : List ℕ → Bool
is_word text =
    nat_lt 0 (length text) && nat_le (length text) 4096
    && list_all is_word_byte text && is_utf8 text

-- the whole is this part and something behind it
abbrev pub BeginsWith : List ℕ → List ℕ → Type 0
BeginsWith whole part = (rest : List ℕ) × (whole ≡ part ++ rest)

-- what stands before this ending
abbrev pub before_end : List ℕ → List ℕ → Option (List ℕ)
before_end ending text =
    if bytes_eq (drop (length text - length ending) text) ending
    then Some (take (length text - length ending) text) else None

-- what stands behind this beginning
abbrev pub behind_front : List ℕ → List ℕ → Option (List ℕ)
behind_front front text =
    if bytes_eq (take (length front) text) front then Some (drop (length front) text) else None

-- this separator doesn't stand in the text
abbrev pub lacks : ℕ → List ℕ → Bool
lacks separator text = list_all (λ b. not (b == separator)) text

-- the text is these two with the first separator between them
pub record SplitsAt (separator : ℕ) (text front back : List ℕ) : Type 0 where
  pub front_lacks : IsTrue (lacks separator front)
  pub whole : text ≡ front ++ separator ∷ back

-- a byte put in front of the first part
abbrev pub onto_first : ℕ → List (List ℕ) → List (List ℕ)
onto_first b [] = (b ∷ []) ∷ []
onto_first b (part ∷ parts) = (b ∷ part) ∷ parts

-- the parts of a text between these separators: one more than there are separators
abbrev pub parts_at : ℕ → List ℕ → List (List ℕ)
parts_at separator [] = [] ∷ []
parts_at separator (b ∷ text) =
    if b == separator then [] ∷ parts_at separator text
    else onto_first b (parts_at separator text)

-- the parts with the separator between each two
abbrev pub joined_at : ℕ → List (List ℕ) → List ℕ
joined_at separator [] = []
joined_at separator (part ∷ []) = part
joined_at separator (part ∷ next ∷ parts) = part ++ separator ∷ joined_at separator (next ∷ parts)

-- all parts, one after the other
abbrev pub joined : List (List ℕ) → List ℕ
joined [] = []
joined (part ∷ parts) = part ++ joined parts

-- the byte order of texts
abbrev pub text_lt : List ℕ → List ℕ → Bool
text_lt _ [] = false
text_lt [] (c ∷ cs) = true
text_lt (b ∷ bs) (c ∷ cs) = nat_lt b c || (b == c && text_lt bs cs)

-- a value is the one that a text spells: it is allowed, and its spelling is the text
abbrev pub spelling : {A : Type 0} → (A → Bool) → (A → List ℕ) → A → List ℕ → Option A
spelling allowed spell value text =
    if allowed value && bytes_eq (spell value) text then Some value else None
