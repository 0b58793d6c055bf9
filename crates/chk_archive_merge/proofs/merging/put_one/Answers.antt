use Rattle.std.proofs.Common.{ℕ, Option, Some, None, Ok, refl, sym, ap, subst}
use Rattle.std.proofs.lemmas.Result.{err_from_is_err_and}
use Rattle.chk_site.specs.History.{Every}
use Rattle.chk_site.specs.Site.{Adds}
use Rattle.chk_site.specs.Runs.{anyhow, Leads}
use Rattle.chk_site.proofs.Leads.{leads_none}
use Rattle.chk_site.proofs.Runs.{adds_none, adds_as}
use Rattle.chk_chunk.specs.Keys.{Chunk}
use Rattle.chk_chunk.specs.Lent.{lent_chunk}
use Rattle.chk_world.specs.JobSteps.{IsOf, WritesTo, SparesFile}
use Rattle.chk_book.proofs.Added.{cause_later, fails_as}
use Rattle.chk_book.specs.Folders.{segment_name}
use Rattle.chk_book.specs.Segmenting.{HoldsSegment}
use Rattle.chk_book.specs.Views.{end_view}
use Rattle.chk_book.specs.Written.{IsAt, taken}
use Rattle.chk_record_index.specs.Faults.{FailsLast}
use Rattle.chk_book.proofs.Segmented.{unsaid as led_anyhow}
use Rattle.chk_archive_merge.proofs.Putting.{chunk_can, here_is, here_next}
use Rattle.chk_archive_merge.proofs.merging.put_one.Goals as goal

pub returns-in_default-clause-raw : goal.returns-in_default-clause-raw
returns-in_default-clause-raw g c w at = leads_none _ (λ h x. x)

pub returns-in_default-clause-own : goal.returns-in_default-clause-own
returns-in_default-clause-own g c w at = adds_none _ (Every (IsOf (WritesTo (segment_name w.folder w.number)))) (λ h. tt)

pub returns-in_default-clause-last : goal.returns-in_default-clause-last
returns-in_default-clause-last g c = adds_none _ (FailsLast {T = Option ℕ} (Ok None)) (λ h. tt)

pub part-requires-clause-key : goal.part-requires-clause-key
part-requires-clause-key g c =
    let n = c.in-Some.ensures in
    (chunk_can c.args.most c.args.cursor.now.key c.args.cursor.now.value (lent_chunk c.in-Some.chunk) n.is).0

pub part-requires-clause-value : goal.part-requires-clause-value
part-requires-clause-value g c =
    let n = c.in-Some.ensures in
    rw (sym c.requires.most)
    (chunk_can c.args.most c.args.cursor.now.key c.args.cursor.now.value (lent_chunk c.in-Some.chunk) n.is).1

pub returns-in_err-part-clause-raw : goal.returns-in_err-part-clause-raw
returns-in_err-part-clause-raw g c w at =
    let p = err_from_is_err_and c.from_residual.result c.from_residual.ensures.1 in
    rw (p.1, p.2) (led_anyhow (λ h. tt) (c.in_err-part.ensures.own w at c.requires.job))

pub returns-in_err-part-clause-own : goal.returns-in_err-part-clause-own
returns-in_err-part-clause-own g c w at = c.in_err-part.ensures.own w at c.requires.job

pub returns-in_err-part-clause-last : goal.returns-in_err-part-clause-last
returns-in_err-part-clause-last g c =
    let p = err_from_is_err_and c.from_residual.result c.from_residual.ensures.1 in
    rw (p.1, p.2) (fails_as (Option ℕ) (Unit {0}) c.in_err-part.field-0.0 c.in_err-part.ensures.last)

pub returns-in_err-part-clause-cause : goal.returns-in_err-part-clause-cause
returns-in_err-part-clause-cause g c =
    let p = err_from_is_err_and c.from_residual.result c.from_residual.ensures.1 in
    rw (p.1, p.2)
    (cause_later (Option ℕ) (Unit {0}) c.in_err-part.field-0.0 (g.S.Site.fault_count c.args.site.now) (g.S.Site.fault_count c.args.site.now)
    (g.S.Site.fault_count c.part.new.site) refl c.in_err-part.ensures.cause)

pub returns-clause-raw : goal.returns-clause-raw
returns-clause-raw g c w at =
    let n = c.in-Some.ensures in
    let same = here_is c.args.most (end_view c.args.end.now) c.args.reached c.args.cursor.now (lent_chunk c.in-Some.chunk) n in
    subst
    (λ (d : Chunk). Adds (g.S.Site.told c.args.site.now) (g.S.Site.told c.part.new.site)
    (Leads (anyhow (SparesFile (segment_name w.folder w.number))) (HoldsSegment w) (HoldsSegment (taken c.args.segmenter.now w d))))
    (sym same) (c.in_ok-part.ensures.raw w at)

pub returns-clause-next : goal.returns-clause-next
returns-clause-next g c =
    let n = c.in-Some.ensures in
    let same = here_is c.args.most (end_view c.args.end.now) c.args.reached c.args.cursor.now (lent_chunk c.in-Some.chunk) n in (
      here_next c.args.most (end_view c.args.end.now) c.args.reached c.args.cursor.now (lent_chunk c.in-Some.chunk) n,
      ap (λ (d : Chunk). d.key.seq) (sym same),
    )

pub returns-clause-put : goal.returns-clause-put
returns-clause-put g c w at =
    let n = c.in-Some.ensures in
    let same = here_is c.args.most (end_view c.args.end.now) c.args.reached c.args.cursor.now (lent_chunk c.in-Some.chunk) n in
    subst (λ (d : Chunk). IsAt c.part.new.self (taken c.args.segmenter.now w d)) (sym same) (c.in_ok-part.ensures.at w at)

pub returns-clause-own : goal.returns-clause-own
returns-clause-own g c w at = c.in_ok-part.ensures.own w at c.requires.job

pub returns-clause-last : goal.returns-clause-last
returns-clause-last g c = adds_as (FailsLast {T = Option ℕ} (Ok (Some c.in-Some.chunk.seq))) c.in_ok-part.ensures.last (λ added h x. tt)
