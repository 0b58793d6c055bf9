-- The newest files of an archive that suffice, and the heads of their records.
use Rattle.std.specs.Prelude.{◌≡◌, ℕ, zero, suc, ◌<◌, ◌≤◌, List, ◌++◌, length, drop, filter, Bool, true, false, Option, Some, None, Result, Ok, Err}
use Rattle.std.specs.List.Sorted.{ties}
use Rattle.chk_site.specs.Files.{File, Files}
use Rattle.chk_site.specs.History.{History}
use Rattle.chk_replace.specs.Load.{Has}
use Rattle.chk_chunk.specs.Keys.{chunk_limit}
use Rattle.chk_world.specs.Books.{End, AllChunks}
use Rattle.chk_world.proofs.Each.{Each}
use Rattle.chk_record_index.specs.Heads.{Head, heads_in}
use Rattle.chk_record_index.specs.Order.{head_before, in_head_order}
use Rattle.chk_record_index.specs.Pieces.{bytes_in}
use Rattle.chk_record_index.specs.ShownHeads.{ShowsHeads, ShowAll}
use Rattle.chk_record_index.specs.declared.fault.JobFault.{JobFault}
use Rattle.chk_record_reader.specs.Segments.{HasFiles, IsSound, heads_from}
use Rattle.chk_demux_scan.specs.Backward.{AllRunBack, ReachPlaces, ReachStarts, AreBegins}
use Rattle.chk_demux_scan.specs.Forward.{past_of}

-- the heads of the files from this one on, in the order of the files
abbrev pub heads_behind : Files → List (List ℕ) → ℕ → List Head
heads_behind held names j = heads_from chunk_limit held j (drop j names)

-- the records of all files begin at their streams' starts; those of some begin at the places or
-- below
abbrev pub ReachFar : List End → List ℕ → ℕ → List Head → Type 0
ReachFar es places zero hs = ReachStarts es hs
ReachFar es places (suc j) hs = ReachPlaces es places hs

-- The files from this one on suffice: they are of chunks, their records run up to the streams'
-- ends in the book, and they reach back as far as they have to.
pub record Suffice (es : List End) (places : List ℕ) (names : List (List ℕ)) (held : Files) (j : ℕ)
    : Type 0 where
  pub sound : Each (IsSound chunk_limit held) (drop j names)
  pub run : AllRunBack es (heads_behind held names j)
  pub far : ReachFar es places j (heads_behind held names j)

-- They suffice, and no fewer reach back so far. The heads are those of their records that end past
-- the places of their streams, in order.
pub record IsNewest (es : List End) (places : List ℕ) (names : List (List ℕ)) (held : Files)
    (j : ℕ) (heads : List Head) : Type 0 where
  pub within : j ≤ length names
  pub suffice : Suffice es places names held j
  pub newest : (i : ℕ) → j < i → i ≤ length names
      → ReachPlaces es places (heads_behind held names i) → ⊥
  pub order : heads ≡ in_head_order (past_of es places (heads_behind held names j))

-- among the files from the k-th one on are such; or these don't suffice
pub data FoundFrom (es : List End) (places : List ℕ) (names : List (List ℕ)) (held : Files) (k : ℕ)
    (heads : List Head) : Type 0 where
  are_found : (j : ℕ) → k ≤ j → IsNewest es places names held j heads
      → FoundFrom es places names held k heads
  too_few : 0 < k → (Suffice es places names held k → ⊥) → FoundFrom es places names held k heads

-- at Ok these are the heads, where there are any; there are none only where the files don't
-- suffice. The files are as they were
abbrev pub FoundNewest : List End → List ℕ → List (List ℕ) → Files → ℕ
    → Result (Option (List Head)) JobFault → History → Type 0
FoundNewest es places names held k (Ok (Some heads)) history =
    HasFiles (drop k names) held history × FoundFrom es places names held k heads
FoundNewest es places names held k (Ok None) history = Suffice es places names held k → ⊥
FoundNewest es places names held k (Err fault) history = Unit {0}

-- own reads show the heads of the records in the files from some one on; these run, and those that
-- end past the places of their streams are the given ones, put in order
pub record ShowsSome (es : List End) (places : List ℕ) (names : List (List ℕ)) (heads : List Head)
    (added history : History) : Type 0 where
  pub first : ℕ
  pub within : first ≤ length names
  pub found : List Head
  pub show : ShowAll chunk_limit first (drop first names) found added history
  pub run : AllRunBack es found
  pub order : heads ≡ in_head_order (past_of es places found)

-- at Ok own reads show the heads, where there are any
abbrev pub ShowsNewest : List End → List ℕ → List (List ℕ) → Result (Option (List Head)) JobFault
    → History → History → Type 0
ShowsNewest es places names (Ok (Some heads)) added history =
    ShowsSome es places names heads added history
ShowsNewest es places names (Ok None) added history = Unit {0}
ShowsNewest es places names (Err fault) added history = Unit {0}

-- At Ok own reads show the heads of the file's records. Those that end past the places of their
-- streams stand behind the others, and all of them are in front of the later records.
abbrev pub ShowsTook : List End → List ℕ → List ℕ → ℕ → List Head → List Head → List ℕ → List ℕ
    → Result Bool JobFault → History → History → Type 0
ShowsTook es places name number old new before after (Ok true) added history =
    (own : List Head) × (new ≡ old ++ past_of es places own)
    × ((later : List Head) → AreBegins es later before → AreBegins es (own ++ later) after)
    × ShowsHeads chunk_limit number name own added history
ShowsTook es places name number old new before after (Ok false) added history = Unit {0}
ShowsTook es places name number old new before after (Err fault) added history = Unit {0}

-- of each kind of heads that no order tells apart both lists have the same ones, in the same order
abbrev pub SameTies : List Head → List Head → Type 0
SameTies hs ks = (h : Head) → filter (ties head_before h) hs ≡ filter (ties head_before h) ks

-- the files from the i-th one on are read: these heads are those of what is new there, the records
-- run, these are where each stream's begin, and no fewer files reach back so far
pub record IsBack (es : List End) (places : List ℕ) (names : List (List ℕ)) (held : Files) (i : ℕ)
    (heads : List Head)
    (begins : List ℕ) : Type 0 where
  pub sound : Each (IsSound chunk_limit held) (drop i names)
  pub order : SameTies heads (past_of es places (heads_behind held names i))
  pub course : AreBegins es (heads_behind held names i) begins
  pub newest : (j : ℕ) → i < j → j ≤ length names
      → ReachPlaces es places (heads_behind held names j) → ⊥

-- so it is while no more files are read than the k-th one; then these don't suffice
pub record SoFar (es : List End) (places : List ℕ) (names : List (List ℕ)) (held : Files) (k i : ℕ)
    (heads : List Head)
    (begins : List ℕ) (history : History) : Type 0 where
  pub files : HasFiles (drop k names) held history
  pub back : k ≤ i → IsBack es places names held i heads begins
  pub few : i < k → Suffice es places names held k → ⊥

-- at Ok: all that is needed was read; or the files don't suffice
abbrev pub ReadBack : List End → List ℕ → List (List ℕ) → Files → ℕ → List Head
    → Result Bool JobFault → History → Type 0
ReadBack es places names held k heads (Ok true) history =
    HasFiles (drop k names) held history × ((sorted : List Head) → sorted ≡ in_head_order heads
    → FoundFrom es places names held k sorted)
ReadBack es places names held k heads (Ok false) history = Suffice es places names held k → ⊥
ReadBack es places names held k heads (Err fault) history = Unit {0}

-- own reads show the heads of the files from the i-th one on, which run; the heads that were taken
-- are those of what is new among these, in another order
pub record ShowsFrom (es : List End) (places : List ℕ) (names : List (List ℕ)) (i : ℕ)
    (heads : List Head) (begins : List ℕ) (added history : History) : Type 0 where
  pub found : List Head
  pub show : ShowAll chunk_limit i (drop i names) found added history
  pub course : AreBegins es found begins
  pub order : SameTies heads (past_of es places found)

abbrev pub ShowsBack : List End → List ℕ → List (List ℕ) → List Head → Result Bool JobFault
    → History → History → Type 0
ShowsBack es places names heads (Ok true) added history =
    (sorted : List Head) → sorted ≡ in_head_order heads
    → ShowsSome es places names sorted added history
ShowsBack es places names heads (Ok false) added history = Unit {0}
ShowsBack es places names heads (Err fault) added history = Unit {0}

-- At Ok the file is of chunks. The heads of its records that end past the places of their streams
-- stand behind the others, and all of them are in front of the later records. Or the file isn't of
-- chunks, or they aren't in front of those.
abbrev pub TookNext : List End → List ℕ → List ℕ → Option File → ℕ → List Head → List Head
    → List ℕ → List ℕ → Result Bool JobFault → History → Type 0
TookNext es places name f number old new before after (Ok true) history =
    Has name f history × AllChunks chunk_limit (bytes_in f)
    × (new ≡ old ++ past_of es places (heads_in chunk_limit number (bytes_in f)))
    × ((later : List Head) → AreBegins es later before
    → AreBegins es (heads_in chunk_limit number (bytes_in f) ++ later) after)
TookNext es places name f number old new before after (Ok false) history =
    (front later : List Head) → AreBegins es later before → AllChunks chunk_limit (bytes_in f)
    → AllRunBack es (front ++ (heads_in chunk_limit number (bytes_in f) ++ later)) → ⊥
TookNext es places name f number old new before after (Err fault) history = Unit {0}
