use Rattle.std.proofs.Common.{◌∙◌, ℕ, Bool, map, Option, Ok, Err, refl, sym, ap, true≢false}
use Rattle.std.proofs.lemmas.Result.{err_from_is_err_and}
use Rattle.chk_site.proofs.Leads.{leads_as, leads_none, leads_then}
use Rattle.chk_world.specs.JobSteps.{ReadsOrWrites}
use Rattle.chk_book.proofs.Added.{cause_later}
use Rattle.chk_book.specs.Folders.{segment_name, most_in}
use Rattle.chk_book.specs.Segmenting.{begun}
use Rattle.chk_book.specs.Views.{end_view}
use Rattle.chk_book.specs.Written.{taken}
use Rattle.chk_record_reader.proofs.Merged.{apart_as, named_as}
use Rattle.chk_archive_merge.specs.Merges.{chunk_at}
use Rattle.chk_archive_merge.proofs.InTurn.{merging_begins, merging_further}
use Rattle.chk_book.proofs.Segmented.{unsaid as led_anyhow}
use Rattle.chk_archive_merge.proofs.Works.{works_value, works_fault, works_named}
use Rattle.chk_book.proofs.Works.{works_none, works_then}
use Rattle.chk_archive_merge.proofs.merging.write_all.Goals as goal

pub loop-turn-init : goal.loop-turn-init
loop-turn-init g c = record {
  so = (
    begun c.args.folder.now c.args.next,
    c.requires.begun,
    refl,
    refl,
    λ held settled apart.
        leads_none _
        (λ h can.
        merging_begins (most_in c.args.folder.now) c.args.names.now held (map end_view c.args.ends.now) c.new-tour.result c.args.cursors.now
        (begun c.args.folder.now c.args.next) h can.0 refl c.new-tour.ensures can.1),
  );
  who = refl;
  size = c.requires.count;
  works = works_none (ReadsOrWrites (segment_name c.args.folder.now c.args.next)) (tt {0}) _;
  count = refl;
}

pub write_at-requires-clause-who : goal.write_at-requires-clause-who
write_at-requires-clause-who g c = c.loop-turn.invariant.who ∙ c.requires.who

pub write_at-requires-clause-most : goal.write_at-requires-clause-most
write_at-requires-clause-most g c =
    let so = c.loop-turn.invariant.so in
    c.most_in-most.ensures.most ∙ sym (ap most_in (so.1.folder ∙ so.2))

pub returns-in-End-clause-raw : goal.returns-in-End-clause-raw
returns-in-End-clause-raw g c held settled apart =
    let so = c.loop-turn.invariant.so in
    leads_as (λ h x. x)
    (λ h x. (
      c.seek.new.self,
      c.loop-turn.cursors,
      so.0,
      so.1,
      so.2,
      so.3,
      merging_further (most_in c.args.folder.now) c.args.names.now held (map end_view c.args.ends.now) c.loop-turn.tour c.seek.new.self c.loop-turn.cursors
          so.0 h c.seek.ensures.on x,
      rw c.in-End.is at c.seek.ensures.turn,
    )) (so.4 held settled apart)

pub returns-in-End-clause-some : goal.returns-in-End-clause-some
returns-in-End-clause-some g c all = let so = c.loop-turn.invariant.so in (so.0, so.1, so.2, so.3)

pub returns-in-End-clause-works : goal.returns-in-End-clause-works
returns-in-End-clause-works g c =
    works_value (ReadsOrWrites (segment_name c.args.folder.now c.args.next)) (tt {0}) _ c.loop-turn.invariant.works

pub returns-in-Stop-clause-raw : goal.returns-in-Stop-clause-raw
returns-in-Stop-clause-raw g c held settled apart =
    leads_as (λ h x. x) (λ h x. x.can.0) (c.loop-turn.invariant.so.4 held settled apart)

pub returns-in-Stop-clause-some : goal.returns-in-Stop-clause-some
returns-in-Stop-clause-some g c so = absurd (true≢false (sym so))

pub returns-in-Stop-clause-works : goal.returns-in-Stop-clause-works
returns-in-Stop-clause-works g c =
    works_value (ReadsOrWrites (segment_name c.args.folder.now c.args.next)) (tt {0}) _ c.loop-turn.invariant.works

pub returns-in_err-reached-clause-raw : goal.returns-in_err-reached-clause-raw
returns-in_err-reached-clause-raw g c held settled apart =
    let p = err_from_is_err_and c.from_residual.result c.from_residual.ensures.1 in
    let so = c.loop-turn.invariant.so in
    let K = ReadsOrWrites (segment_name c.args.folder.now c.args.next) in
    rw (p.1, p.2)
    (led_anyhow (λ h. tt)
    (works_then {T = Unit {0}} {U = Option ℕ} K (Ok (tt {0})) (Err c.in_err-reached.field-0.0) c.loop-turn.invariant.works
    (works_named so.0 c.args.folder.now c.args.next (Err c.in_err-reached.field-0.0) so.2 so.3 (c.in_err-reached.ensures.works so.0 so.1))))

pub returns-in_err-reached-clause-works : goal.returns-in_err-reached-clause-works
returns-in_err-reached-clause-works g c =
    let p = err_from_is_err_and c.from_residual.result c.from_residual.ensures.1 in
    let so = c.loop-turn.invariant.so in
    let K = ReadsOrWrites (segment_name c.args.folder.now c.args.next) in
    rw (p.1, p.2)
    (works_then {T = Unit {0}} {U = Bool} K (Ok (tt {0})) (Err c.in_err-reached.field-0.0) c.loop-turn.invariant.works
    (works_fault {T = Option ℕ} {U = Bool} K c.in_err-reached.field-0.0
    (works_named {T = Option ℕ} so.0 c.args.folder.now c.args.next (Err c.in_err-reached.field-0.0) so.2 so.3 (c.in_err-reached.ensures.works so.0 so.1))))

pub returns-in_err-reached-clause-only : goal.returns-in_err-reached-clause-only
returns-in_err-reached-clause-only g c =
    let p = err_from_is_err_and c.from_residual.result c.from_residual.ensures.1 in
    rw (p.1, p.2) c.in_err-reached.ensures.only

pub returns-in_err-reached-clause-cause : goal.returns-in_err-reached-clause-cause
returns-in_err-reached-clause-cause g c =
    let p = err_from_is_err_and c.from_residual.result c.from_residual.ensures.1 in
    rw (p.1, p.2)
    (cause_later Bool (Option ℕ) c.in_err-reached.field-0.0 (g.S.Site.fault_count c.args.site.now) (g.S.Site.fault_count c.loop-turn.site)
    (g.S.Site.fault_count c.write_at.new.site) c.loop-turn.invariant.count c.in_err-reached.ensures.cause)

pub returns-in-None-clause-raw : goal.returns-in-None-clause-raw
returns-in-None-clause-raw g c held settled apart =
    let so = c.loop-turn.invariant.so in
    let es = map end_view c.args.ends.now in
    leads_then
    (leads_as (λ h x. x)
    (λ h x. merging_further (most_in c.args.folder.now) c.args.names.now held es c.loop-turn.tour c.seek.new.self c.loop-turn.cursors so.0 h c.seek.ensures.on x)
    (so.4 held settled apart))
    (named_as c.args.names.now so.0 c.args.folder.now c.args.next so.2 so.3
    (rw c.most_in-most.ensures.most at
    (rw c.in-None.is at c.in_ok-reached.ensures.raw so.0 held so.1 settled (apart_as c.args.names.now so.0 c.args.folder.now c.args.next so.2 so.3 apart))))

pub returns-in-None-clause-some : goal.returns-in-None-clause-some
returns-in-None-clause-some g c so = absurd (true≢false (sym so))

pub returns-in-None-clause-works : goal.returns-in-None-clause-works
returns-in-None-clause-works g c =
    let so = c.loop-turn.invariant.so in
    let K = ReadsOrWrites (segment_name c.args.folder.now c.args.next) in
    works_then K (Ok (tt {0})) (Ok _) c.loop-turn.invariant.works
    (works_value K c.in_ok-reached.field-0 _
    (works_named so.0 c.args.folder.now c.args.next (Ok c.in_ok-reached.field-0) so.2 so.3 (c.in_ok-reached.ensures.works so.0 so.1)))

pub returns-in-None-clause-cause : goal.returns-in-None-clause-cause
returns-in-None-clause-cause g c = c.in_ok-reached.ensures.cause ∙ c.loop-turn.invariant.count

pub loop-turn-preserved : goal.loop-turn-preserved
loop-turn-preserved g c =
    let so = c.loop-turn.invariant.so in
    let es = map end_view c.args.ends.now in
    let K = ReadsOrWrites (segment_name c.args.folder.now c.args.next) in
    record {
      so = (
        taken c.loop-turn.segmenter so.0 (chunk_at (most_in c.args.folder.now) c.loop-turn.cursors c.seek.new.self.file),
        (rw c.most_in-most.ensures.most at (rw c.in-Some.is at c.in_ok-reached.ensures.put)) so.0 so.1,
        so.2,
        so.3,
        λ held settled apart.
            leads_then
            (leads_as (λ h x. x)
            (λ h x. merging_further (most_in c.args.folder.now) c.args.names.now held es c.loop-turn.tour c.seek.new.self c.loop-turn.cursors so.0 h c.seek.ensures.on x)
            (so.4 held settled apart))
            (named_as c.args.names.now so.0 c.args.folder.now c.args.next so.2 so.3
            (rw c.most_in-most.ensures.most at
            (rw c.in-Some.is at c.in_ok-reached.ensures.raw so.0 held so.1 settled (apart_as c.args.names.now so.0 c.args.folder.now c.args.next so.2 so.3 apart)))),
      );
      who = c.write_at.ensures.who ∙ c.loop-turn.invariant.who;
      size = c.write_at.ensures.count ∙ c.loop-turn.invariant.size;
      works = works_then K (Ok (tt {0})) (Ok (tt {0})) c.loop-turn.invariant.works
          (works_value K c.in_ok-reached.field-0 (tt {0})
          (works_named so.0 c.args.folder.now c.args.next (Ok c.in_ok-reached.field-0) so.2 so.3 (c.in_ok-reached.ensures.works so.0 so.1)));
      count = c.in_ok-reached.ensures.cause ∙ c.loop-turn.invariant.count;
    }

pub returns-clause-raw : goal.returns-clause-raw
returns-clause-raw g c held settled apart =
    leads_as (λ h x. x) (λ h x. x.can.0) (c.loop-turn.invariant.so.4 held settled apart)

pub returns-clause-some : goal.returns-clause-some
returns-clause-some g c so = absurd (true≢false (sym so))

pub returns-clause-works : goal.returns-clause-works
returns-clause-works g c =
    works_value (ReadsOrWrites (segment_name c.args.folder.now c.args.next)) (tt {0}) _ c.loop-turn.invariant.works
