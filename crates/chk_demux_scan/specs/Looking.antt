-- What is held of a file whose records are looked at as they are read.
use Rattle.std.specs.Prelude.{◌≡◌, ℕ, List, [], ◌∷◌, ◌++◌, take, Bool, true, false, Option, Some, None, Result, Ok, Err, IsTrue}
use Rattle.chk_site.specs.Files.{File}
use Rattle.chk_site.specs.History.{History}
use Rattle.chk_replace.specs.Load.{Has}
use Rattle.chk_chunk.specs.Keys.{Chunk, chunk_limit}
use Rattle.chk_seqfile.specs.Entries.{Placed, records_of}
use Rattle.chk_salvage.specs.declared.pieces.Pieces.{Pieces}
use Rattle.chk_salvage.specs.Feeding.{IsFed, fed_place}
use Rattle.chk_world.specs.Books.{End, AllChunks, ends_rise, chunk_of}
use Rattle.chk_record_index.specs.Heads.{Head, head_of, heads_in}
use Rattle.chk_record_index.specs.Feeding.{AreChunks, TookFed}
use Rattle.chk_record_index.specs.Pieces.{bytes_in}
use Rattle.chk_record_index.specs.ShownHeads.{ShowsHeads}
use Rattle.chk_record_index.specs.declared.fault.JobFault.{JobFault}
use Rattle.chk_demux_scan.specs.Forward.{Looks}
use Rattle.chk_demux_scan.specs.declared.looking.Look.{Look}

-- these heads were looked at
abbrev pub LooksOn : List End → List ℕ → List Head → List Head → List Head → Look → Type 0
LooksOn es places seen old new look = Looks es places seen old new look.spans.items look.broken

-- these more were looked at, behind whatever was before
abbrev pub LooksMore : List End → List ℕ → List Head → List Head → Look → List Head → Look → Type 0
LooksMore es places more held before now after =
    IsTrue (ends_rise es) → (seen old : List Head) → LooksOn es places seen old held before
    → LooksOn es places (seen ++ more) old now after

-- the record is a chunk, and its head was looked at; or it is none
abbrev pub LookedIf : Bool → List End → List ℕ → ℕ → Placed → List Head → Look → List Head → Look
    → Type 0
LookedIf true es places file r held before now after =
    (c : Chunk) × (chunk_of chunk_limit r ≡ Some c)
    × LooksMore es places (head_of file r.at c ∷ []) held before now after
LookedIf false es places file r held before now after = chunk_of chunk_limit r ≡ None

-- the reader goes over what was fed, whatever it was, as if these heads were taken of it
abbrev pub TookAll : ℕ → Pieces → Pieces → List Head → Option ℕ → Type 0
TookAll file p q went stop = (fed : List ℕ) → IsFed p fed
    → AreChunks chunk_limit (records_of (take (fed_place p) fed))
    → TookFed chunk_limit file p q fed [] went stop

-- the reader went over the records of what was fed, and their heads were looked at; or what was fed
-- can't begin a file of chunks
abbrev pub LookedFed : Bool → List End → List ℕ → ℕ → Pieces → Pieces → List Head → Look
    → List Head → Look → Type 0
LookedFed true es places file p q held before now after =
    (went : List Head) × TookAll file p q went None
    × LooksMore es places went held before now after
LookedFed false es places file p q held before now after = (at : ℕ) × TookAll file p q [] (Some at)

-- at Ok the file is one of chunks, and the heads of its records were looked at; or it is none
abbrev pub LookedAt : List End → List ℕ → List ℕ → Option File → ℕ → List Head → List Head → Look
    → Result Bool JobFault → History → Type 0
LookedAt es places name f number old new look (Ok true) history =
    Has name f history × AllChunks chunk_limit (bytes_in f)
    × LooksOn es places (heads_in chunk_limit number (bytes_in f)) old new look
LookedAt es places name f number old new look (Ok false) history =
    AllChunks chunk_limit (bytes_in f) → ⊥
LookedAt es places name f number old new look (Err fault) history = Unit {0}

-- at Ok own reads show the heads of the file's records, which were looked at
abbrev pub ShowsLooked : List End → List ℕ → List ℕ → ℕ → List Head → List Head → Look
    → Result Bool JobFault → History → History → Type 0
ShowsLooked es places name number old new look (Ok true) added history =
    (own : List Head) × LooksOn es places own old new look
    × ShowsHeads chunk_limit number name own added history
ShowsLooked es places name number old new look (Ok false) added history = Unit {0}
ShowsLooked es places name number old new look (Err fault) added history = Unit {0}
