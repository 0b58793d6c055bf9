-- The settling of the sinks that were left under writing: what is known before and after each of its calls.
use Rattle.std.specs.Prelude.{◌≡◌, ℕ, Bool, true, false, ◌&&◌, not, IsTrue, List, codes, bytes_eq, is_some, if◌then◌else◌, Option, Some, None, option_map, Result, Ok, Err}
use Rattle.std.specs.List.{list_any}
use Rattle.chk_bytes.specs.Numbers.{spelled}
use Rattle.chk_bytes.specs.Stems.{Stem, is_stem, is_collector, same_stem, read_stem}
use Rattle.chk_bytes.specs.Words.{before_end}
use Rattle.chk_site.specs.declared.acts.Who.{Who}
use Rattle.chk_site.specs.Files.{File, Files}
use Rattle.chk_site.specs.History.{History, files_after}
use Rattle.chk_world.specs.Names.{SinkFile, MarkFile, file}
use Rattle.chk_world.specs.Committed.{HasFile, IsAbsent}
use Rattle.chk_world.specs.Collectors.{IsCommitted}
use Rattle.chk_world.specs.Places.{AtTold}
use Rattle.chk_sink.specs.declared.fault.SinkFault.{SinkFault}
use Rattle.chk_sink.specs.declared.fault.SinkFault.TheVariants.{Damaged}
use Rattle.chk_sink.specs.States.{State, process, last_stem}
use Rattle.chk_sink.specs.Held.{IsOther, Holds, Matches}

-- the process writes these sinks, of which some may have been left under writing
pub record IsSettling (s : State) (who : Who) : Type 0 where
  pub writer : who ≡ process s
  pub named : IsTrue (is_collector s.collector)
  pub abandoned : s.abandoned ≡ true
  pub good : is_some s.current ≡ true → IsTrue (is_stem (last_stem s))

-- the stem of the sink that is written to, where there is one
abbrev pub kept_stem : State → Option Stem
kept_stem s = option_map (λ o. last_stem s) s.current

-- ---- the stems that the folder's names tell of

-- the stem that a text with this ending begins with
abbrev pub stem_before : Option (List ℕ) → Option Stem
stem_before None = None
stem_before (Some text) = read_stem text

-- the stem of a sink under writing, else of a mark
abbrev pub stem_of_either : Option (List ℕ) → Option (List ℕ) → Option Stem
stem_of_either (Some text) other = read_stem text
stem_of_either None other = stem_before other

-- the stem of a sink under writing or of a mark, by the name in the folder
abbrev pub left_in : List ℕ → Option Stem
left_in name = stem_of_either (before_end (codes ".chukwa") name) (before_end (codes ".mark") name)

-- it is this stem
abbrev pub is_same : Option Stem → Stem → Bool
is_same None x = false
is_same (Some y) x = same_stem x y

-- the stem, where it is one of the collector's and neither of these two
abbrev pub chosen : List ℕ → Option Stem → Option Stem → Option Stem → Option Stem
chosen c kept last None = None
chosen c kept last (Some x) =
    if bytes_eq x.collector c && (not (is_same kept x) && not (is_same last x)) then Some x else None

-- the stem is one that these names tell of, and not the one that was settled last
abbrev pub left_of : List (List ℕ) → Option Stem → Stem → Bool
left_of names last x = list_any (λ name. is_same (left_in name) x) names && not (is_same last x)

-- no stem is left
abbrev pub none_left : Stem → Bool
none_left x = false

-- ---- what the history holds

-- neither the sink nor its mark is there
abbrev pub IsGone : Stem → Files → Type 0
IsGone x files = IsAbsent (file files (SinkFile x)) × IsAbsent (file files (MarkFile x))

-- it holds the sinks, and of the collector's other sinks only these may be left
pub record HoldsBut (s : State) (may : Stem → Bool) (history : History) : Type 0 where
  pub holds : Holds s history
  pub others : (y : Stem) → IsOther s y → may y ≡ false → IsGone y (files_after history)

-- it holds the sinks, of the collector's other sinks only these and x may be left, and P holds of x and its mark
pub record HoldsAt (s : State) (may : Stem → Bool) (x : Stem) (P : Option File → Option File → Type 0)
    (history : History) : Type 0 where
  pub holds : Holds s history
  pub others : (y : Stem) → IsOther s y → may y ≡ false → same_stem y x ≡ false → IsGone y (files_after history)
  pub there : P (file (files_after history) (SinkFile x)) (file (files_after history) (MarkFile x))

-- nothing is known of the sink and its mark
abbrev pub AnyFiles : Option File → Option File → Type 0
AnyFiles sink mark = Unit {0}

-- there is no mark
abbrev pub NoMark : Option File → Option File → Type 0
NoMark sink mark = IsAbsent mark

-- the mark is this number
abbrev pub MarkedBy : ℕ → Option File → Option File → Type 0
MarkedBy n sink mark = HasFile mark (λ m. spelled m.bytes ≡ n)

-- and the sink has just so many bytes, all synced
abbrev pub CutAt : ℕ → Option File → Option File → Type 0
CutAt n sink mark = MarkedBy n sink mark × HasFile sink (IsCommitted n)

-- there is no sink
abbrev pub NoSink : Option File → Option File → Type 0
NoSink sink mark = IsAbsent sink

-- there is neither
abbrev pub BothGone : Option File → Option File → Type 0
BothGone sink mark = IsAbsent sink × IsAbsent mark

-- what the reading of the mark found
abbrev pub MarkFound : Option ℕ → Option File → Option File → Type 0
MarkFound None = NoMark
MarkFound (Some n) = MarkedBy n

-- what the cut found: a sink, or none
abbrev pub CutFound : ℕ → Bool → Option File → Option File → Type 0
CutFound n true = CutAt n
CutFound n false = NoSink

-- what a part of a settling leads to: P of its value where it was done, the sinks as they are held where it was
-- refused, and never a damaged file
abbrev pub Found : {T : Type 0} → List (List ℕ) → State → (T → History → Type 0) → Result T SinkFault → History → Type 0
Found stamped s P (Ok value) history = AtTold stamped (process s) (P value) history
Found stamped s P (Err (Damaged name at)) history = AtTold stamped (process s) (λ front. ⊥) history
Found stamped s P (Err fault) history = Matches stamped s history
