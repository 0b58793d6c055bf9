use Rattle.std.proofs.Common.{rules, ◌≡◌, ℕ, ◌+◌, ◌≤◌, ◌<◌, ◌++◌, List, append_assoc, ap, ◌∙◌}
use Rattle.chk_seqfile.specs.Entries.{record_entry, sync_entry, piece_at}
use Rattle.chk_seqfile.proofs.writer.SeqWriter.push_piece.Goals as goal
use Rattle.chk_seqfile.proofs.writer.SeqWriter.push_piece.Goals.{then-self+in_ok-push_sync, else-self}

-- what is appended where a sync entry is due, and where none is
piece_due : (marker : List ℕ) (place last : ℕ) (key value : List ℕ) → last + 2000 ≤ place
    → sync_entry marker ++ record_entry key value ≡ piece_at marker place last key value
piece_due marker place last key value due = search rules

piece_plain : (marker : List ℕ) (place last : ℕ) (key value : List ℕ) → place < last + 2000
    → record_entry key value ≡ piece_at marker place last key value
piece_plain marker place last key value early = search rules

-- the end of the function
pub returns-clause-piece : goal.returns-clause-piece
returns-clause-piece c =
    let m = c.args.self.now.marker in
    let place = c.args.self.now.place in
    let last = c.args.self.now.last_sync in
    let key = c.args.key.now in
    let value = c.args.value.now in
    let record_is = record_entry key value in
    c.in_ok-push_record.ensures.ok ∙ elim c.if-self.branch [
      | then-self+in_ok-push_sync w ↦ ap (λ x. x ++ record_is) (w.out-is ∙ w.in_ok-push_sync.ensures.ok)
          ∙ append_assoc c.args.out.now (sync_entry m) record_is
          ∙ ap (λ x. c.args.out.now ++ x) (piece_due m place last key value w.if-self.true)
      | else-self w ↦ ap (λ x. x ++ record_is) w.out-is
          ∙ ap (λ x. c.args.out.now ++ x) (piece_plain m place last key value w.if-self.false)
    ]
