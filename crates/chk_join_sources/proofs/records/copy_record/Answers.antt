use Rattle.std.proofs.Common.{◌++◌, ◌∷◌, [], Ok, Err, ap}
use Rattle.chk_chunk.specs.Lent.{lent_key}
use Rattle.chk_record_index.specs.Heads.{Head}
use Rattle.chk_record_index.proofs.Gathering.{every_then}
use Rattle.chk_record_index.specs.Pieces.{AsksInPieces}
use Rattle.chk_world.specs.JobSteps.{IsOf}
use Rattle.chk_book.proofs.Added.{fails_later, cause_then}
use Rattle.chk_site.proofs.Leads.{leads_then}
use Rattle.chk_record_reader.specs.Archives.{chunk_in}
use Rattle.chk_join_sources.specs.Blocks.{head_in}
use Rattle.chk_join_sources.specs.Copying.{joined_segment, Copies}
use Rattle.chk_join_sources.proofs.CopySteps.{reads_copy, writes_copy, of_write}
use Rattle.chk_book.proofs.Works.{worked}
use Rattle.chk_record_reader.proofs.Writing.{writes_ask}
use Rattle.chk_join_sources.proofs.OneRecord.{fetched_for, not_copied, put_behind}
use Rattle.chk_record_reader.specs.Merging.{chunk_with}
use Rattle.chk_join_sources.proofs.Standing.{stood_still, put_stands, stood_fails, is_copy}
use Rattle.chk_join_sources.proofs.records.copy_record.Goals as goal

pub returns-in-Ok-clause-raw : goal.returns-in-Ok-clause-raw
returns-in-Ok-clause-raw g c most all held chunks few settled apart side =
    let l = c.args.side.now in
    let h = head_in l.heads.now c.args.index in
    let s = c.args.segmenter.now in
    let q = c.fetch.new.reader in
    leads_then
    (fetched_for all held l h chunks s c.args.reader.now q (Ok tt) c.in-Ok.ensures.own
    (λ windows. c.in-Ok.ensures.raw most all held few settled side.among side.known windows) c.in-Ok.ensures.stays)
    (put_behind all held l h chunks s q c.put_record.new.segmenter (lent_key c.get-head.result.key) c.value.result.now
    (ap (λ (x : Head). x.key) c.get-head.ensures.head) c.value.ensures settled apart c.put_record.result c.put_record.ensures.only
    c.put_record.ensures.at c.put_record.ensures.own c.put_record.ensures.raw)

pub returns-in-Ok-clause-works : goal.returns-in-Ok-clause-works
returns-in-Ok-clause-works g c =
    let n = c.args.segmenter.now.number in
    worked (Copies n) c.put_record.result
    (every_then (IsOf (Copies n)) (reads_copy n c.in-Ok.ensures.own) (writes_copy n c.put_record.ensures.own))
    (every_then AsksInPieces c.in-Ok.ensures.pieces (writes_ask (joined_segment n) c.put_record.ensures.own))
    (fails_later c.put_record.result c.in-Ok.ensures.pieces c.put_record.ensures.last)

pub returns-in-Ok-clause-only : goal.returns-in-Ok-clause-only
returns-in-Ok-clause-only g c = of_write c.put_record.result c.put_record.ensures.only

pub returns-in-Ok-clause-cause : goal.returns-in-Ok-clause-cause
returns-in-Ok-clause-cause g c =
    cause_then c.put_record.result (g.S.Site.fault_count c.args.site.now) (g.S.Site.fault_count c.fetch.new.site)
    (g.S.Site.fault_count c.put_record.new.site) c.in-Ok.ensures.cause c.put_record.ensures.cause

pub returns-in-Err-clause-raw : goal.returns-in-Err-clause-raw
returns-in-Err-clause-raw g c most all held chunks few settled apart side =
    let l = c.args.side.now in
    let h = head_in l.heads.now c.args.index in
    let s = c.args.segmenter.now in
    let q = c.fetch.new.reader in
    not_copied all held l h chunks s q s (chunks ++ chunk_in l.names.now held h ∷ []) c.in-Err.fault
    (fetched_for all held l h chunks s c.args.reader.now q (Err c.in-Err.fault) c.in-Err.ensures.own
    (λ windows. c.in-Err.ensures.raw most all held few settled side.among side.known windows) c.in-Err.ensures.stays)

pub returns-in-Err-clause-works : goal.returns-in-Err-clause-works
returns-in-Err-clause-works g c =
    let n = c.args.segmenter.now.number in
    worked (Copies n) (Err c.in-Err.fault) (reads_copy n c.in-Err.ensures.own) c.in-Err.ensures.pieces c.in-Err.ensures.last

pub returns-in-Ok-clause-stands : goal.returns-in-Ok-clause-stands
returns-in-Ok-clause-stands g c chunks =
    let h = head_in c.args.side.now.heads.now c.args.index in
    let s = c.args.segmenter.now in
    let t = c.put_record.new.segmenter in
    let head = c.get-head.result in
    let copied = chunk_with (lent_key head.key) c.value.result.now in
    leads_then (stood_still s chunks c.in-Ok.ensures.own c.in-Ok.ensures.stays)
    (put_stands s t chunks h copied c.put_record.result
    (is_copy h copied head.begin c.put_record.result (ap (λ (x : Head). x.key) c.get-head.ensures.head)
    (ap (λ (x : Head). x.begin) c.get-head.ensures.head) c.put_record.ensures.copy)
    c.put_record.ensures.at c.put_record.ensures.own c.put_record.ensures.raw)

pub returns-in-Err-clause-stands : goal.returns-in-Err-clause-stands
returns-in-Err-clause-stands g c chunks =
    let h = head_in c.args.side.now.heads.now c.args.index in
    let s = c.args.segmenter.now in
    stood_fails (joined_segment s.number) chunks (h ∷ []) s c.in-Err.fault c.in-Err.ensures.pieces
