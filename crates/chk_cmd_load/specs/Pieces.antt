-- The pieces that are appended to the logs of a load.
use Rattle.std.specs.Prelude.{◌≡◌, ◌⊎◌, ℕ, ◌<◌, ◌≤◌, false, IsTrue, List, [], ◌∷◌, ◌++◌, length, bytes_eq, if◌then◌else◌, Option, Result, Ok, Err}
use Rattle.chk_bytes.specs.Words.{BeginsWith}
use Rattle.chk_site.specs.declared.acts.Act.{Act}
use Rattle.chk_site.specs.declared.acts.ActAnswer.{ActAnswer}
use Rattle.chk_site.specs.declared.acts.ActAnswer.TheVariants.{Done}
use Rattle.chk_site.specs.declared.acts.Call.TheVariants.{LogAppend}
use Rattle.chk_site.specs.declared.acts.CallFault.{CallFault}
use Rattle.chk_site.specs.declared.acts.OutsideFault.{OutsideFault}
use Rattle.chk_site.specs.declared.acts.OutsideFault.TheVariants.{NoMemory as no_memory}
use Rattle.chk_site.specs.declared.acts.Who.{Who}
use Rattle.chk_site.specs.Acts.{Deed, GrowsLog, Says, deed, same_who}
use Rattle.chk_site.specs.History.{History}
use Rattle.chk_site.specs.Site.{Adds, Asked, asked, answered, plain, Calls, Ends}
use Rattle.chk_cmd_line.specs.Loads.{load_log}
use Rattle.chk_cmd_load.specs.Lines.{all_lines, bytes_of, ends_lines}
use Rattle.chk_cmd_load.specs.Processes.{chukwa}

-- bytes for the log of this path
pub record LogPiece : Type 0 where
  pub path : List ℕ
  pub bytes : List ℕ

-- the most bytes of a piece that a load appends
abbrev pub log_piece_limit : ℕ
log_piece_limit = 65536

-- whole lines for one of the three logs, at least one, and no more bytes than the limit
pub record IsPiece (p : LogPiece) : Type 0 where
  pub log : ℕ
  pub low : log < 3
  pub path : p.path ≡ load_log log
  pub some : 0 < length p.bytes
  pub most : length p.bytes ≤ log_piece_limit
  pub lines : IsTrue (ends_lines p.bytes)

-- what the pieces for one log have, joined in order
abbrev pub joined : List ℕ → List LogPiece → List ℕ
joined path [] = []
joined path (p ∷ pieces) = (if bytes_eq p.path path then p.bytes else []) ++ joined path pieces

-- ---- in turn

-- the call that appends a piece
abbrev pub appending : Who → LogPiece → Asked
appending who p = asked who LogAppend (p.path ∷ p.bytes ∷ []) 0 0

-- each piece was appended in its turn, up to one whose append ended the work
pub data AppendsInTurn (who : Who) : List LogPiece → Result Unit OutsideFault → Option History → Option History → Type 0 where
  all_appended : {now : Option History} → AppendsInTurn who [] (Ok tt) now now
  unappended : {pieces : List LogPiece} {now : Option History} → AppendsInTurn who pieces (Err no_memory) now now
  appended_on : {p : LogPiece} {pieces : List LogPiece} {result : Result Unit OutsideFault} {old mid new : Option History}
      → IsPiece p → Adds old mid (Calls (appending who p) (Ok (plain {T = Unit {0}} tt)))
      → AppendsInTurn who pieces result mid new → AppendsInTurn who (p ∷ pieces) result old new
  ended : {p : LogPiece} {pieces : List LogPiece} {fault : OutsideFault} {old new : Option History} (given : Result Unit CallFault)
      → IsPiece p → Ends LogAppend given fault → Adds old new (Calls (appending who p) (answered plain given))
      → AppendsInTurn who (p ∷ pieces) (Err fault) old new

-- of the other logs there is no piece
abbrev pub ForNoOther : List ℕ → List LogPiece → Type 0
ForNoOther path pieces = (other : List ℕ) → bytes_eq path other ≡ false → joined other pieces ≡ []

-- the lines of one log were appended in pieces; where that ended otherwise, a front of them was asked for
abbrev pub WritesLog : Who → ℕ → ℕ → Result ℕ OutsideFault → Option History → Option History → Type 0
WritesLog who lines log (Ok n) old new =
    (pieces : List LogPiece) × AppendsInTurn who pieces (Ok tt) old new × ForNoOther (load_log log) pieces
    × (joined (load_log log) pieces ≡ all_lines lines log) × (n ≡ length (all_lines lines log))
WritesLog who lines log (Err fault) old new =
    (pieces : List LogPiece) × AppendsInTurn who pieces (Err fault) old new × ForNoOther (load_log log) pieces
    × BeginsWith (all_lines lines log) (joined (load_log log) pieces)

-- the same of the three logs
abbrev pub WritesAll : Who → ℕ → Result ℕ OutsideFault → Option History → Option History → Type 0
WritesAll who lines (Ok n) old new =
    (pieces : List LogPiece) × AppendsInTurn who pieces (Ok tt) old new × (n ≡ bytes_of lines 3)
    × ((log : ℕ) → log < 3 → joined (load_log log) pieces ≡ all_lines lines log)
WritesAll who lines (Err fault) old new =
    (pieces : List LogPiece) × AppendsInTurn who pieces (Err fault) old new
    × ((log : ℕ) → log < 3 → BeginsWith (all_lines lines log) (joined (load_log log) pieces))

-- The piece that waits was appended where it has so many bytes, and then none waits; otherwise
-- nothing was done.
abbrev pub Flushes : Who → List ℕ → ℕ → List ℕ → List ℕ → Result ℕ OutsideFault → Option History → Option History → Type 0
Flushes who path least before after (Ok n) old new =
    ((length before < least) × (after ≡ before) × (n ≡ 0) × (new ≡ old))
    ⊎ ((after ≡ []) × (n ≡ length before)
    × AppendsInTurn who (record { path = path; bytes = before } ∷ []) (Ok tt) old new)
Flushes who path least before after (Err fault) old new =
    AppendsInTurn who (record { path = path; bytes = before } ∷ []) (Err fault) old new

-- ---- what acts of the writer were

-- what the writer's acts have of this kind, the oldest first; of the acts the newest is the first
abbrev pub of_writer : {X : Type 0} → (Deed → ActAnswer → List X) → List Act → List X
of_writer part [] = []
of_writer part (act ∷ acts) =
    of_writer part acts ++ (if same_who act.who chukwa then part (deed act) act.answer else [])

-- the piece that an append was asked for
abbrev pub asked_piece : Deed → ActAnswer → List LogPiece
asked_piece (GrowsLog path bytes) answer = record { path = path; bytes = bytes } ∷ []
asked_piece call answer = []

-- the piece that was appended
abbrev pub done_piece : Deed → ActAnswer → List LogPiece
done_piece (GrowsLog path bytes) (Done words number of) = record { path = path; bytes = bytes } ∷ []
done_piece call answer = []

-- the text that was printed
abbrev pub done_print : Deed → ActAnswer → List (List ℕ)
done_print (Says text) (Done words number of) = text ∷ []
done_print call answer = []

-- The writer's pieces on each of the three logs, joined in order, are all the lines that the
-- generator gives to that log, in its order.
abbrev pub HasAppended : ℕ → List Act → Type 0
HasAppended lines acts =
    (log : ℕ) → log < 3 → joined (load_log log) (of_writer done_piece acts) ≡ all_lines lines log

-- what it was asked to append to each log is a front of them
abbrev pub AppendsFront : ℕ → List Act → Type 0
AppendsFront lines acts =
    (log : ℕ) → log < 3 → BeginsWith (all_lines lines log) (joined (load_log log) (of_writer asked_piece acts))
