use Rattle.std.proofs.Common.{◌≡◌, ◌∙◌, Ok, Err, Result, get_or, ap, subst}
use Rattle.std.specs.Prelude.{OnOk, IfErr}
use Rattle.std.proofs.lemmas.Result.{err_from_is_err_and}
use Rattle.chk_site.specs.Site.{Adds}
use Rattle.chk_site.specs.Runs.{anyhow, Leads}
use Rattle.chk_chunk.specs.Keys.{Chunk}
use Rattle.chk_chunk.specs.Lent.{lent_chunk}
use Rattle.chk_world.specs.JobSteps.{SparesFile, IsOf, ReadsOrWrites}
use Rattle.chk_record_index.specs.Heads.{Head}
use Rattle.chk_record_index.specs.Pieces.{AsksInPieces}
use Rattle.chk_record_index.specs.Order.{no_head}
use Rattle.chk_record_index.specs.Faults.{IsOfWrite}
use Rattle.chk_record_index.specs.declared.fault.JobFault.{JobFault}
use Rattle.chk_record_index.specs.declared.fault.JobFault.TheVariants.{Outside, Damaged, Spent, NoMemory}
use Rattle.chk_record_index.proofs.Gathering.{every_then}
use Rattle.chk_book.specs.Folders.{segment_name}
use Rattle.chk_book.specs.Segmenting.{HoldsSegment}
use Rattle.chk_book.specs.Written.{IsAt, taken, HasTaken}
use Rattle.chk_book.proofs.Added.{fails_later}
use Rattle.chk_record_reader.specs.Merging.{chunk_read, chunk_with}
use Rattle.chk_record_reader.proofs.Writing.{NoDamage, reads_as, writes_as, writes_ask, fetched_beside, not_written, unwritten, written}
use Rattle.chk_record_index.proofs.Causes.{shows_first, shows_outside}
use Rattle.chk_site.specs.declared.acts.OutsideFault.TheVariants.{NoMemory as no_memory}
use Rattle.chk_record_reader.specs.Gone.{IsGoneIn}
use Rattle.chk_record_reader.proofs.Causes.{shows_written}
use Rattle.chk_record_reader.proofs.merging.write_one.Goals as goal

no_damage : (result : Result (Unit {0}) JobFault) → IfErr result IsOfWrite → NoDamage result
no_damage (Ok value) of = tt
no_damage (Err (Outside call)) of = tt
no_damage (Err (Damaged name at)) of = of
no_damage (Err (Spent n)) of = tt
no_damage (Err NoMemory) of = tt

pub returns-in_err-fetch-clause-raw : goal.returns-in_err-fetch-clause-raw
returns-in_err-fetch-clause-raw g c w held is at settled apart =
    let h = get_or c.args.heads.now c.args.index no_head in
    let p = err_from_is_err_and c.from_residual.result c.from_residual.ensures.1 in
    rw (p.1, p.2)
    (not_written c.args.most c.args.names.now held c.args.heads.now c.args.index w h c.args.reader.now c.fetch.new.reader
    (taken c.args.segmenter.now w (chunk_read h c.fetch.new.reader)) c.in_err-fetch.field-0.0
    (fetched_beside c.args.most c.args.names.now held c.args.heads.now c.args.index w h c.args.reader.now c.fetch.new.reader
    (Err c.in_err-fetch.field-0.0) (c.in_err-fetch.ensures.raw c.args.most held c.requires.few settled) c.in_err-fetch.ensures.stays))

pub returns-in_err-fetch-clause-own : goal.returns-in_err-fetch-clause-own
returns-in_err-fetch-clause-own g c w at is = reads_as (segment_name w.folder w.number) (c.in_err-fetch.ensures.own is)

pub returns-then-not-is_part-clause-raw : goal.returns-then-not-is_part-clause-raw
returns-then-not-is_part-clause-raw g c w held is at settled apart =
    let h = get_or c.args.heads.now c.args.index no_head in
    unwritten c.args.most c.args.names.now held c.args.heads.now c.args.index w c.args.reader.now c.fetch.new.reader
    (taken c.args.segmenter.now w (chunk_read h c.fetch.new.reader)) c.in_ok-fetch.ensures.pieces

pub returns-then-not-is_part-clause-own : goal.returns-then-not-is_part-clause-own
returns-then-not-is_part-clause-own g c w at is = reads_as (segment_name w.folder w.number) (c.in_ok-fetch.ensures.own is)

pub returns-clause-raw : goal.returns-clause-raw
returns-clause-raw g c w held is at settled apart =
    let h = get_or c.args.heads.now c.args.index no_head in
    let chunk : lent_chunk c.chunk_of-chunk.result ≡ chunk_read h c.fetch.new.reader =
    c.chunk_of-chunk.ensures
    ∙ (ap (λ (k : Head). chunk_with k.key c.value.result.now) c.get.ensures.head ∙ ap (λ v. chunk_with h.key v) c.value.ensures) in
    written c.args.most c.args.names.now held c.args.heads.now c.args.index w c.args.segmenter.now c.args.reader.now c.fetch.new.reader c.part.result
    settled apart c.requires.index
    (fetched_beside c.args.most c.args.names.now held c.args.heads.now c.args.index w h c.args.reader.now c.fetch.new.reader
    (Ok tt) (c.in_ok-fetch.ensures.raw c.args.most held c.requires.few settled) c.in_ok-fetch.ensures.stays)
    (subst
    (λ (k : Chunk). Adds (g.S.Site.told c.fetch.new.site) (g.S.Site.told c.part.new.site)
    (Leads (anyhow (SparesFile (segment_name w.folder w.number))) (HoldsSegment w) (HasTaken c.args.segmenter.now w k c.part.result)))
    chunk (c.part.ensures.raw w at))
    (c.part.ensures.own w at (c.requires.who ∙ is)) (no_damage c.part.result c.part.ensures.only)

pub returns-clause-at : goal.returns-clause-at
returns-clause-at g c w at =
    let h = get_or c.args.heads.now c.args.index no_head in
    let chunk : lent_chunk c.chunk_of-chunk.result ≡ chunk_read h c.fetch.new.reader =
    c.chunk_of-chunk.ensures
    ∙ (ap (λ (k : Head). chunk_with k.key c.value.result.now) c.get.ensures.head ∙ ap (λ v. chunk_with h.key v) c.value.ensures) in
    subst (λ (k : Chunk). OnOk c.part.result (IsAt c.part.new.self (taken c.args.segmenter.now w k))) chunk (c.part.ensures.at w at)

pub returns-clause-own : goal.returns-clause-own
returns-clause-own g c w at is =
    every_then (IsOf (ReadsOrWrites (segment_name w.folder w.number))) (reads_as (segment_name w.folder w.number) (c.in_ok-fetch.ensures.own is))
    (writes_as (segment_name w.folder w.number) (c.part.ensures.own w at (c.requires.who ∙ is)))

pub returns-clause-last : goal.returns-clause-last
returns-clause-last g c = fails_later c.part.result c.in_ok-fetch.ensures.pieces c.part.ensures.last

pub returns-in_err-fetch-clause-pieces : goal.returns-in_err-fetch-clause-pieces
returns-in_err-fetch-clause-pieces g c w at is = c.in_err-fetch.ensures.pieces

pub returns-then-not-is_part-clause-pieces : goal.returns-then-not-is_part-clause-pieces
returns-then-not-is_part-clause-pieces g c w at is = c.in_ok-fetch.ensures.pieces

pub returns-clause-pieces : goal.returns-clause-pieces
returns-clause-pieces g c w at is =
    every_then AsksInPieces c.in_ok-fetch.ensures.pieces
    (writes_ask (segment_name w.folder w.number) (c.part.ensures.own w at (c.requires.who ∙ is)))

pub returns-in_err-fetch-clause-shown : goal.returns-in_err-fetch-clause-shown
returns-in_err-fetch-clause-shown g c =
    let p = err_from_is_err_and c.from_residual.result c.from_residual.ensures.1 in
    rw (p.1, p.2)
    (shows_first (Unit {0}) (Unit {0}) (IsGoneIn c.args.names.now c.args.heads.now) c.in_err-fetch.field-0.0 c.in_err-fetch.ensures.shown)

pub returns-then-not-is_part-clause-shown : goal.returns-then-not-is_part-clause-shown
returns-then-not-is_part-clause-shown g c =
    shows_outside (Unit {0}) (IsGoneIn c.args.names.now c.args.heads.now) no_memory c.in_ok-fetch.ensures.pieces

pub returns-clause-shown : goal.returns-clause-shown
returns-clause-shown g c =
    shows_written (IsGoneIn c.args.names.now c.args.heads.now) c.part.result c.part.ensures.only
    (fails_later c.part.result c.in_ok-fetch.ensures.pieces c.part.ensures.last)
