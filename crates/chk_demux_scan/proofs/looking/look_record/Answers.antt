use Rattle.std.proofs.Common.{refl, sym, ◌∙◌}
use Rattle.chk_chunk.specs.Keys.{chunk_limit}
use Rattle.chk_chunk.specs.Lent.{lent_key}
use Rattle.chk_salvage.specs.Views.{placed_of}
use Rattle.chk_record_index.proofs.Records.{no_key, no_value, is_chunk}
use Rattle.chk_demux_scan.proofs.looking.look_record.Goals as goal

pub returns-in-Err-clause-ok : goal.returns-in-Err-clause-ok
returns-in-Err-clause-ok c =
    no_key chunk_limit (placed_of c.args.found.now) c.in-Err.ensures.every_key

pub returns-then-not-is_size-clause-ok : goal.returns-then-not-is_size-clause-ok
returns-then-not-is_size-clause-ok c =
    no_value chunk_limit (placed_of c.args.found.now) (lent_key c.in-Ok.key) c.in-Ok.ensures.key
    (sym (c.is_size.ensures.is (lent_key c.in-Ok.key) c.args.found.now.value.now refl refl refl)
    ∙ c.if-not-is_size.true)

pub returns-clause-ok : goal.returns-clause-ok
returns-clause-ok c = (
  record { key = lent_key c.in-Ok.key; value = c.args.found.now.value.now },
  is_chunk chunk_limit (placed_of c.args.found.now) (lent_key c.in-Ok.key) c.in-Ok.ensures.key
      (sym (c.is_size.ensures.is (lent_key c.in-Ok.key) c.args.found.now.value.now refl refl refl)
      ∙ c.if-not-is_size.false),
  c.in_ok-look_at.ensures.ok,
)
