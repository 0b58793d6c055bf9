use Rattle.std.proofs.Common.{◌≡◌, sym, subst, ◌∙◌, length, ap, arith, ◌<◌, slice_index}
use Rattle.std.proofs.lemmas.List.{get_or_default}
use Rattle.chk_acks.specs.Contiguous.{IsContiguousEnd}
use Rattle.chk_acks.specs.Rows.{rows_of}
use Rattle.chk_acks.specs.Table.{IsSettled, Table}
use Rattle.chk_acks.specs.Sound.{IsSound}
use Rattle.chk_acks.proofs.Settled.{settled_contiguous}
use Rattle.chk_acks.proofs.Turns.{turn_on}
use Rattle.chk_acks.proofs.table.Acks.committed_end.Goals as goal

-- the table that is seen is sound, and its end was read
sound : (c : goal.After-row_known-1) → IsSound c.args.self.now
sound c = subst IsSound c.self.view_is c.self.invariant.sound

read : (c : goal.After-row_known-1) → slice_index c.args.self.now.committed c.args.adaptor
    ≡ c.index.result.now
read c =
    let known : c.args.adaptor < length c.self.inside.committed.items =
    subst (λ (t : Table). c.args.adaptor < length t.committed) (sym c.self.view_is) c.requires in
    ap (λ (t : Table). slice_index t.committed c.args.adaptor) (sym c.self.view_is)
    ∙ sym (c.index.ensures
    ∙ get_or_default c.self.inside.committed.items c.args.adaptor c.index.result.now 0 known)

pub returns-clause-committed_is_contiguous : goal.returns-clause-committed_is_contiguous
returns-clause-committed_is_contiguous c =
    subst (IsContiguousEnd (IsSettled c.args.self.now c.args.adaptor) 0) (read c)
    (settled_contiguous c.args.self.now c.args.adaptor (sound c) c.requires)

pub returns-clause-ordered : goal.returns-clause-ordered
returns-clause-ordered c =
    omega (
      arith,
      read c,
      turn_on (slice_index c.args.self.now.committed c.args.adaptor)
          (rows_of c.args.adaptor c.args.self.now.rows)
          (slice_index c.args.self.now.last c.args.adaptor)
          ((sound c).turn c.args.adaptor c.requires),
    )
