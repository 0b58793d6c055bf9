use Rattle.std.proofs.Common.{◌<◌, length, subst, sym}
use Rattle.std.specs.List.{All}
use Rattle.chk_acks.specs.declared.row.Row.{Row}
use Rattle.chk_acks.specs.declared.kept.Kept.{Kept}
use Rattle.chk_acks.specs.Keeping.{Answers}
use Rattle.chk_acks.proofs.Keeps.{known_seen}
use Rattle.chk_acks.proofs.rows.Rows.advance.Goals as goal

pub advance-requires : goal.advance-requires
advance-requires c =
    let end = length c.args.committed.now in
    subst (All (λ (k : Kept). k.adaptor < end)) (sym c.deref.ensures.value)
    (known_seen c.self.inside.sinks.items c.self.inside.kept.items end
    (subst (λ (a : Answers). All (λ (row : Row). row.adaptor < end) a.rows) (sym c.self.view_is)
    c.requires))
