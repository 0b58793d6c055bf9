-- How the parts of a state fit. It speaks of no history.
use Rattle.std.specs.Prelude.{◌≡◌, ℕ, ◌≤◌, IsTrue, List, [], ◌∷◌, length, map, Contains, Any, Some}
use Rattle.std.specs.Prelude.{find, slice_get, slice_index}
use Rattle.chk_chunk.specs.Keys.{chunk_limit}
use Rattle.chk_tail.specs.Walks.{Spot}
use Rattle.chk_rotate.specs.Marks.{place_of, BeginsBelow}
use Rattle.chk_world.specs.Names.{is_source}
use Rattle.chk_world.specs.Checkpoints.{Line, is_line, is_line_of, same_log, are_apart, most_lines}
use Rattle.chk_world.specs.Answering.{MovesToLater}
use Rattle.chk_agent_adaptor.specs.Adaptors.{Adaptor, stream_at, line_at, read_line, IsPlaced}
use Rattle.chk_agent_delivery.specs.declared.delivery.Rules.{Rules}
use Rattle.chk_agent_delivery.specs.Sound.{IsSound as IsSoundDelivery, next_begins}
use Rattle.chk_agent_delivery.specs.Basis.{AreOwned}
use Rattle.chk_agent.specs.States.{State, committed_at, basis_of}

-- each mark's suffix is that of the one before it, or a later one
abbrev pub SuffixesRise : List Spot → Type 0
SuffixesRise [] = Unit {0}
SuffixesRise (m ∷ []) = Unit {0}
SuffixesRise (m ∷ n ∷ marks) = MovesToLater m.after n.after × SuffixesRise (n ∷ marks)

-- the line of the offset read, as if it lay in a mark's generation
abbrev pub mark_line : Adaptor → Spot → Line
mark_line a m = record (read_line a) { first = m.first; after = m.after }

-- its marks rise, in offsets and suffixes, to the place read, and a checkpoint can hold each place
-- from the first of them on
pub record IsMarked (a : Adaptor) : Type 0 where
  pub placed : IsPlaced a
  pub suffixes : SuffixesRise a.marks
  pub spelled : (m : Spot) → Contains a.marks m → IsTrue (is_line (mark_line a m))

-- its next chunk begins at the place read, and its committed end lies among its marks
pub record FitsPlace (begin committed : ℕ) (a : Adaptor) : Type 0 where
  pub marked : IsMarked a
  pub queued : begin ≡ a.read.offset
  pub from : BeginsBelow committed a.marks
  pub to : committed ≤ a.read.offset

-- An adaptor with its line among the saved ones, which its committed end is at or past.
pub record FitsAdaptor (source : List ℕ) (lines : List Line) (begin committed : ℕ) (a : Adaptor) : Type 0 where
  pub saved : Line
  pub there : find (is_line_of (stream_at source a)) lines ≡ Some saved
  pub is_saved : IsTrue (is_line saved)
  pub class : saved.class ≡ a.class
  pub start : saved.start ≡ a.start
  pub place : FitsPlace begin committed a
  pub on : saved.offset ≤ committed
  pub later : MovesToLater saved.after (place_of a.marks committed).after

-- there is room for a row, and for the bytes of a chunk
pub record IsEnough (rules : Rules) : Type 0 where
  pub some_rows : 1 ≤ rules.rows
  pub a_piece : chunk_limit ≤ rules.queue

-- The table has 10,000 adaptors. No line of the checkpoint is lost, no two adaptors are of one
-- stream, and no two live ones have one name; all this but the lines themselves is known of the
-- adaptors at any offset.
pub record IsSound (s : State) : Type 0 where
  pub source : IsTrue (is_source s.source)
  pub delivery : IsSoundDelivery s.delivery
  pub enough : IsEnough s.delivery.rules
  pub known : length s.delivery.table.committed ≡ most_lines
  pub few : length s.adaptors ≤ most_lines
  pub each : (i : ℕ) (a : Adaptor) → slice_get s.adaptors i ≡ Some a
      → FitsAdaptor s.source s.saved (slice_index (next_begins s.delivery) i) (committed_at s i) a
  pub owned : AreOwned (basis_of s) s.delivery.owners s.delivery.queue.chunks
  pub none_lost : (l : Line) → Contains s.saved l → Any (λ a. IsTrue (same_log l (line_at 0 a))) s.adaptors
  pub apart : IsTrue (are_apart (map (line_at 0) s.adaptors))
