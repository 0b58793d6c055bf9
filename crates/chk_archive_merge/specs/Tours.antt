-- The order in which a merge goes through streams and files.
use Rattle.std.specs.Prelude.{◌≡◌, ℕ, ◌<◌, ◌≤◌, true, false, List, [], ◌∷◌, ◌++◌, length, take, All}
use Rattle.chk_world.specs.Books.{End}
use Rattle.chk_record_index.specs.Heads.{Head}
use Rattle.chk_record_reader.specs.Courses.{is_head_of, goes_on}
use Rattle.chk_record_reader.specs.OnePass.{end_at}
use Rattle.chk_archive_merge.specs.declared.cursor.Cursor.{Cursor}
use Rattle.chk_archive_merge.specs.declared.tour.Tour.{Tour}
use Rattle.chk_archive_merge.specs.declared.tour.Turn.{Turn}
use Rattle.chk_archive_merge.specs.declared.tour.Turn.TheVariants as turn

-- the head goes on in the end's stream from this offset, and has bytes
pub record GoesOnIn (e : End) (at : ℕ) (h : Head) : Type 0 where
  pub of : is_head_of e.stream h ≡ true
  pub on : goes_on e at h ≡ true
  pub some : h.begin < h.key.seq

-- the heads are of the end's stream, one going on behind the other from the one offset to the other;
-- their files' numbers rise, from at least `low` to at most `high`
abbrev pub IsBlock : End → ℕ → ℕ → List Head → ℕ → ℕ → Type 0
IsBlock e at low [] to high = (to ≡ at) × (low ≤ high)
IsBlock e at low (h ∷ hs) to high =
    GoesOnIn e at h × (low ≤ h.file) × IsBlock e h.key.seq h.file hs to high

-- the whole streams of these ends, one behind the other
abbrev pub AreBlocks : List End → List Head → Type 0
AreBlocks [] heads = heads ≡ []
AreBlocks (e ∷ es) heads =
    (own : List Head) × (rest : List Head) × (high : ℕ) × (heads ≡ own ++ rest)
    × IsBlock e e.start 0 own e.end high × AreBlocks es rest

-- these heads were gone through: the streams before the tour's whole, and its own up to where it is
pub record IsToured (es : List End) (t : Tour) (heads : List Head) : Type 0 where
  pub past : List Head
  pub now : List Head
  pub split : heads ≡ past ++ now
  pub whole : AreBlocks (take t.stream es) past
  pub block : t.stream < length es
      → IsBlock (end_at es t.stream) (end_at es t.stream).start 0 now t.reached t.file
  pub none : length es ≤ t.stream → now ≡ []

-- the tour is at a stream and a file that are there; or it is behind all streams, and no cursor holds
-- a record
abbrev pub IsTurn : List End → List Cursor → Tour → Turn → Type 0
IsTurn es cs t turn.Write = (t.stream < length es) × (t.file < length cs)
IsTurn es cs t turn.End = (length es ≤ t.stream) × All (λ c. c.held ≡ false) cs
IsTurn es cs t turn.Stop = Unit {0}

-- the tour goes on without a record
pub record GoesFurther (es : List End) (old new : Tour) : Type 0 where
  pub same : (heads : List Head) → IsToured es old heads → IsToured es new heads

-- the tour before the first record
abbrev pub IsFirst : List End → Tour → Type 0
IsFirst es t = IsToured es t []
