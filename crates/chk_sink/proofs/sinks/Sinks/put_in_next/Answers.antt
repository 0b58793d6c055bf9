use Rattle.std.proofs.Common.{◌∙◌, ap, sym, List, ℕ, length}
use Rattle.chk_bytes.specs.Stems.{Stem}
use Rattle.chk_seqfile.specs.Headers.{header}
use Rattle.chk_seqfile.specs.Entries.{piece_at}
use Rattle.chk_world.specs.Names.{SinkFile, spell}
use Rattle.chk_world.specs.Collectors.{marker}
use Rattle.chk_sink.specs.States.{next_stem}
use Rattle.chk_sink.specs.SinkFields.{first_of, longer}
use Rattle.chk_sink.proofs.Owning.{made_none, refused_by}
use Rattle.chk_sink.proofs.Fields.{put_refused}
use Rattle.chk_sink.proofs.sinks.Sinks.put_in_next.Goals as goal

pub make_next-requires-clause-name : goal.make_next-requires-clause-name
make_next-requires-clause-name g c =
    c.as_str.ensures.value ∙ (c.in_ok-name.ensures.name
    ∙ ap (λ (y : Stem). spell (SinkFile y)) c.next_stem-stem.ensures.next)

pub make_next-requires-clause-head : goal.make_next-requires-clause-head
make_next-requires-clause-head g c =
    c.as_slice.ensures ∙ (c.in_ok-name.ensures.head
    ∙ ap (λ (y : Stem). header (marker y)) c.next_stem-stem.ensures.next)

pub make_next-requires-clause-current : goal.make_next-requires-clause-current
make_next-requires-clause-current g c =
    c.in_ok-name.ensures.longer
    ∙ (ap (λ (y : Stem). longer (first_of y) (length c.in_ok-name.piece))
    c.next_stem-stem.ensures.next
    ∙ ap (λ (p : List ℕ). longer (first_of (next_stem c.args.self.now)) (length p))
    (sym c.as_slice-2.ensures))

pub returns-in_err-name-clause-told : goal.returns-in_err-name-clause-told
returns-in_err-name-clause-told g c stamped handled chunk posted is v =
    put_refused stamped c.args.self.now handled chunk c.from_residual.result _
    (refused_by c.from_residual.ensures.1) _

pub returns-clause-told : goal.returns-clause-told
returns-clause-told g c stamped handled chunk posted is v =
    c.make_next.ensures.told stamped handled chunk c.args.key.now c.args.value.now posted is v
    (c.as_slice-2.ensures
    ∙ (c.in_ok-name.ensures.piece
    ∙ ap (λ (y : Stem). piece_at (marker y) 96 96 c.args.key.now c.args.value.now)
    c.next_stem-stem.ensures.next))

pub returns-in_err-name-clause-own : goal.returns-in_err-name-clause-own
returns-in_err-name-clause-own g c =
    made_none c.from_residual.result _ (refused_by c.from_residual.ensures.1)
