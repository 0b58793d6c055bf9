-- Queries: stems with `&` between each two.
use Rattle.std.specs.Prelude.{◌≡◌, ◌⊎◌, ℕ, ◌≤◌, ◌<◌, IsTrue, List, [], ◌∷◌, length, map, unwrap_or}
use Rattle.std.specs.List.{list_all}
use Rattle.chk_bytes.specs.Words.{parts_at, lacks, SplitsAt}
use Rattle.chk_bytes.specs.Stems.{Stem, stem_of, is_stem, read_stem}
use Rattle.chk_http_grammar.specs.Messages.{query_text}

-- the text is these stems, at least one and at most so many
pub record AreUpTo (most : ℕ) (stems : List Stem) (text : List ℕ) : Type 0 where
  pub some : 0 < length stems
  pub few : length stems ≤ most
  pub are : IsTrue (list_all is_stem stems)
  pub is : text ≡ query_text stems

-- the text is 1 to 64 stems
abbrev pub IsQuery : List Stem → List ℕ → Type 0
IsQuery stems text = AreUpTo 64 stems text

-- the stem that a part spells
abbrev pub stem_at : List ℕ → Stem
stem_at part = unwrap_or (read_stem part) (stem_of [] 0 0)

-- the stems that a text names, none where it is empty
unfoldable pub stems_in : List ℕ → List Stem
stems_in [] = []
stems_in (b ∷ text) = map stem_at (parts_at 38 (b ∷ text))

-- the text is the stems that it names
pub record AreListed (text : List ℕ) : Type 0 where
  pub are : IsTrue (list_all is_stem (stems_in text))
  pub is : text ≡ query_text (stems_in text)

-- the part of a text before its first separator, or all of it
abbrev pub IsFirstPart : List ℕ → List ℕ → List ℕ → Type 0
IsFirstPart text part behind =
    SplitsAt 38 text part behind ⊎ (IsTrue (lacks 38 text) × (part ≡ text) × (behind ≡ []))
