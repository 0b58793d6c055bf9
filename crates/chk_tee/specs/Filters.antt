-- Filters: which chunks a watcher wants, and the texts that say so.
use Rattle.std.specs.Prelude.{◌≡◌, ◌⊎◌, ℕ, ◌+◌, ◌<◌, Bool, true, ◌&&◌, List, [], ◌∷◌, ◌++◌, length, map, filter, codes, bytes_eq, if◌then◌else◌, Option, Some, None, Result, Ok, Err, IsTrue}
use Rattle.std.specs.Option.{option_map}
use Rattle.chk_bytes.specs.Words.{is_word, lacks, parts_at, joined_at, behind_front}
use Rattle.chk_chunk.specs.Keys.{Stream}
use Rattle.chk_tee.specs.Messages.{Teed}
use Rattle.chk_tee.specs.declared.filters.Filter.{Filter}

-- ---- what passes

-- nothing is asked of the name, or it is this word
abbrev pub allows : Option (List ℕ) → List ℕ → Bool
allows None name = true
allows (Some word) name = bytes_eq word name

-- the stream's chunks pass
abbrev pub passes : Filter → Stream → Bool
passes f s = allows f.host s.source && (allows f.kind s.kind && allows f.name s.name)

-- those of some chunks that pass
abbrev pub passing : Filter → List Teed → List Teed
passing f items = filter (λ t. passes f t.chunk.key.stream) items

-- ---- the grammar

-- a part of a text: the name that it asks for, and the word that this has to be
pub data Part : Type 0 where
  OnHost : List ℕ → Part
  OnKind : List ℕ → Part
  OnName : List ℕ → Part

abbrev pub host_front : List ℕ
host_front = codes "host="

abbrev pub kind_front : List ℕ
kind_front = codes "datatype="

abbrev pub name_front : List ℕ
name_front = codes "name="

-- how it is spelled
abbrev pub part_text : Part → List ℕ
part_text (OnHost word) = host_front ++ word
part_text (OnKind word) = kind_front ++ word
part_text (OnName word) = name_front ++ word

-- the word
abbrev pub part_word : Part → List ℕ
part_word (OnHost word) = word
part_word (OnKind word) = word
part_word (OnName word) = word

-- it is a word without `&`
abbrev pub IsPart : Part → Type 0
IsPart p = IsTrue (is_word (part_word p)) × IsTrue (lacks 38 (part_word p))

-- the filter that asks for nothing
abbrev pub everything : Filter
everything = record { host = None; kind = None; name = None }

-- a name that nothing was asked of yet, with this word
abbrev pub with_word : Option (List ℕ) → List ℕ → Option (List ℕ)
with_word None word = Some word
with_word (Some old) word = None

-- the filter with one part more, of a name that it doesn't ask for yet
abbrev pub with_part : Filter → Part → Option Filter
with_part f (OnHost word) = option_map (λ w. record { host = Some w; kind = f.kind; name = f.name }) (with_word f.host word)
with_part f (OnKind word) = option_map (λ w. record { host = f.host; kind = Some w; name = f.name }) (with_word f.kind word)
with_part f (OnName word) = option_map (λ w. record { host = f.host; kind = f.kind; name = Some w }) (with_word f.name word)

-- the filter with these parts more, each of another name
abbrev pub HasParts : Filter → List Part → Filter → Type 0
HasParts f [] g = f ≡ g
HasParts f (p ∷ ps) g = (h : Filter) × IsPart p × (with_part f p ≡ Some h) × HasParts h ps g

-- the text is the filter: `all`, or parts of different names with `&` between each two
abbrev pub IsFilter : Filter → List ℕ → Type 0
IsFilter f text =
    ((f ≡ everything) × (text ≡ codes "all"))
    ⊎ ((parts : List Part)
    × (0 < length parts)
    × HasParts everything parts f
    × (text ≡ joined_at 38 (map part_text parts)))

-- ---- reading

-- a name that nothing was asked of yet, with this text, where that is a word
abbrev pub asked_too : Option (List ℕ) → List ℕ → Option (List ℕ)
asked_too None text = if is_word text then Some text else None
asked_too (Some old) text = None

-- the filter with the part more that a text spells, where it spells one of a new name
unfoldable pub added : Filter → List ℕ → Option Filter
added f text =
    elim (behind_front host_front text) [
      | Some word ↦ option_map (λ w. record { host = Some w; kind = f.kind; name = f.name }) (asked_too f.host word)
      | None ↦
          elim (behind_front kind_front text) [
            | Some word ↦ option_map (λ w. record { host = f.host; kind = Some w; name = f.name }) (asked_too f.kind word)
            | None ↦
                elim (behind_front name_front text) [
                  | Some word ↦ option_map (λ w. record { host = f.host; kind = f.kind; name = Some w }) (asked_too f.name word)
                  | None ↦ None
                ]
          ]
    ]

-- the filter with the parts more that these texts spell, or the place of the first that spells none
abbrev pub filter_from : ℕ → Filter → List (List ℕ) → Result Filter ℕ
filter_from at f [] = Ok f
filter_from at f (text ∷ texts) =
    elim (added f text) [ Some g ↦ filter_from (at + (length text + 1)) g texts | None ↦ Err at ]

-- the filter that a text is, or the place of its first wrong part
unfoldable pub filter_in : List ℕ → Result Filter ℕ
filter_in text =
    if bytes_eq text (codes "all") then Ok everything else filter_from 0 everything (parts_at 38 text)
