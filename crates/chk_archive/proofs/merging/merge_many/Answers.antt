use Rattle.std.proofs.Common.{◌≡◌, ◌<◌, ◌≤◌, arith, length, map, Ok, Err, refl, sym, subst}
use Rattle.std.specs.Prelude.{codes}
use Rattle.std.proofs.lemmas.List.{length-map}
use Rattle.std.proofs.lemmas.Result.{err_from_is_err_and}
use Rattle.chk_site.proofs.Leads.{leads_none, leads_as}
use Rattle.chk_site.proofs.Runs.{adds_as}
use Rattle.chk_world.specs.Names.{ArchiveFolder}
use Rattle.chk_world.specs.Sight.{sight}
use Rattle.chk_world.specs.JobSteps.{IsOf, ReadsOrWrites}
use Rattle.chk_record_index.specs.Faults.{FailsLast, job_fault}
use Rattle.chk_record_index.specs.Pieces.{AsksInPieces}
use Rattle.chk_record_index.proofs.Gathering.{every_then}
use Rattle.chk_book.specs.Books.{book_view}
use Rattle.chk_book.specs.Views.{segment_view}
use Rattle.chk_book.specs.declared.book.Book.{Book as Struct}
use Rattle.chk_book.specs.Folders.{segment_name}
use Rattle.chk_archive_parts.proofs.StepKinds.{as_kind, no_reads, fails_behind}
use Rattle.chk_archive_parts.proofs.WholeSegments.{archive_folder}
use Rattle.chk_archive.specs.Archived.{MergesBy, ReplacesBook}
use Rattle.chk_archive.proofs.Lasts.{as_fails}
use Rattle.chk_archive.proofs.Preparing.{of_merge}
use Rattle.chk_archive_parts.proofs.Published.{replaces_no_reads}
use Rattle.chk_archive.proofs.TakenIn.{of_replace}
use Rattle.chk_archive.specs.Shown.{IsAtLast}
use Rattle.chk_archive.proofs.SpentCauses.{spent_as, spent_book, spent_outside}
use Rattle.chk_archive.proofs.MergedMany.{few_left, merged_so, merge_fails, publish_fails, all_merged}
use Rattle.std.specs.Prelude.{codes}
use Rattle.chk_record_index.proofs.Causes.{shows_outside, shows_ok}
use Rattle.chk_record_reader.specs.Gone.{IsUnsound}
use Rattle.chk_archive.proofs.merging.merge_many.Goals as goal

many_view : (b : Struct) → 16 ≤ length b.segments → 16 ≤ length (book_view b).segments
many_view b many =
    let size : length (map segment_view b.segments) ≡ length b.segments = length-map b.segments segment_view in
    omega (arith, many, size)

pub merge-requires-clause-folder : goal.merge-requires-clause-folder
merge-requires-clause-folder g c = archive_folder

pub merge-requires-clause-job : goal.merge-requires-clause-job
merge-requires-clause-job g c = c.requires

pub publish_next-requires-clause-folder : goal.publish_next-requires-clause-folder
publish_next-requires-clause-folder g c = archive_folder

pub returns-in_err-merge-clause-told : goal.returns-in_err-merge-clause-told
returns-in_err-merge-clause-told g c stamped =
    let q = err_from_is_err_and c.from_residual.result c.from_residual.ensures.1 in
    let b = book_view c.args.book.now in
    let new = book_view c.merge.new.book in
    rw (q.1, q.2)
    (leads_as (λ h k. k) (λ h k. merge_fails stamped b new new c.in_err-merge.field-0.0 h k)
    (merged_so stamped b new (Err c.in_err-merge.field-0.0) c.in_err-merge.ensures.spent
    (many_view c.args.book.now (subst (λ l. 16 ≤ length l) c.as_slice.ensures c.if-as_slice-lt-MANY.false))
    (λ held settled apart. c.in_err-merge.ensures.raw held settled apart) c.in_err-merge.ensures.own))

pub returns-in_err-merge-clause-own : goal.returns-in_err-merge-clause-own
returns-in_err-merge-clause-own g c =
    let n = (book_view c.args.book.now).next in
    as_kind (ReadsOrWrites (segment_name (codes "archive") n)) MergesBy (of_merge n) c.in_err-merge.ensures.own

pub returns-in_err-merge-clause-pieces : goal.returns-in_err-merge-clause-pieces
returns-in_err-merge-clause-pieces g c = c.in_err-merge.ensures.pieces

pub returns-in_err-publish_next-clause-told : goal.returns-in_err-publish_next-clause-told
returns-in_err-publish_next-clause-told g c stamped =
    let q = err_from_is_err_and c.from_residual-in_err-publish_next.result c.from_residual-in_err-publish_next.ensures.1 in
    let b = book_view c.args.book.now in
    let new = book_view c.merge.new.book in
    let many = many_view c.args.book.now (subst (λ l. 16 ≤ length l) c.as_slice.ensures c.if-as_slice-lt-MANY.false) in
    rw (q.1, q.2)
    (publish_fails stamped b new many c.publish_next.result
    (merged_so stamped b new (Ok tt) c.in_ok-merge.ensures.spent many
    (λ held settled apart. c.in_ok-merge.ensures.raw held settled apart) c.in_ok-merge.ensures.own)
    c.publish_next.ensures.own (λ u may. c.publish_next.ensures.told stamped ArchiveFolder u refl may) new c.in_err-publish_next.field-0.0
    c.in_err-publish_next.was)

pub returns-in_err-publish_next-clause-own : goal.returns-in_err-publish_next-clause-own
returns-in_err-publish_next-clause-own g c =
    let n = (book_view c.args.book.now).next in
    every_then (IsOf MergesBy)
    (as_kind (ReadsOrWrites (segment_name (codes "archive") n)) MergesBy (of_merge n) c.in_ok-merge.ensures.own)
    (as_kind ReplacesBook MergesBy of_replace c.publish_next.ensures.own)

pub returns-in_err-publish_next-clause-pieces : goal.returns-in_err-publish_next-clause-pieces
returns-in_err-publish_next-clause-pieces g c =
    every_then AsksInPieces c.in_ok-merge.ensures.pieces (no_reads ReplacesBook (replaces_no_reads (codes "archive")) c.publish_next.ensures.own)

pub returns-in_err-publish_next-clause-last : goal.returns-in_err-publish_next-clause-last
returns-in_err-publish_next-clause-last g c =
    let q = err_from_is_err_and c.from_residual-in_err-publish_next.result c.from_residual-in_err-publish_next.ensures.1 in
    rw (q.1, q.2)
    (fails_behind {T = Unit {0}} (Err (job_fault c.in_err-publish_next.field-0.0)) c.in_ok-merge.ensures.own
    (as_fails (Unit {0}) (Unit {0}) c.in_err-publish_next.field-0.0 c.in_err-publish_next.ensures.last))

pub returns-clause-told : goal.returns-clause-told
returns-clause-told g c stamped =
    let b = book_view c.args.book.now in
    let new = book_view c.merge.new.book in
    let many = many_view c.args.book.now (subst (λ l. 16 ≤ length l) c.as_slice.ensures c.if-as_slice-lt-MANY.false) in
    all_merged stamped b new many c.publish_next.result
    (merged_so stamped b new (Ok tt) c.in_ok-merge.ensures.spent many
    (λ held settled apart. c.in_ok-merge.ensures.raw held settled apart) c.in_ok-merge.ensures.own)
    c.publish_next.ensures.own (λ u may. c.publish_next.ensures.told stamped ArchiveFolder u refl may) tt c.in_ok-publish_next.was

pub returns-clause-own : goal.returns-clause-own
returns-clause-own g c =
    let n = (book_view c.args.book.now).next in
    every_then (IsOf MergesBy)
    (as_kind (ReadsOrWrites (segment_name (codes "archive") n)) MergesBy (of_merge n) c.in_ok-merge.ensures.own)
    (as_kind ReplacesBook MergesBy of_replace c.publish_next.ensures.own)

pub returns-clause-pieces : goal.returns-clause-pieces
returns-clause-pieces g c =
    every_then AsksInPieces c.in_ok-merge.ensures.pieces (no_reads ReplacesBook (replaces_no_reads (codes "archive")) c.publish_next.ensures.own)

pub returns-clause-last : goal.returns-clause-last
returns-clause-last g c =
    adds_as (FailsLast {T = Unit {0}} (Ok tt))
    (every_then AsksInPieces c.in_ok-merge.ensures.pieces (no_reads ReplacesBook (replaces_no_reads (codes "archive")) c.publish_next.ensures.own))
    (λ added history k. tt)

pub returns-then-as_slice-lt-MANY-clause-told : goal.returns-then-as_slice-lt-MANY-clause-told
returns-then-as_slice-lt-MANY-clause-told g c stamped =
    let b = c.args.book.now in
    let few : length b.segments < 16 = subst (λ l. length l < 16) c.as_slice.ensures c.if-as_slice-lt-MANY.true in
    let size : length (map segment_view b.segments) ≡ length b.segments = length-map b.segments segment_view in
    leads_none (g.S.Site.told c.args.site.now)
    (λ h k. record {
      legal = k.legal;
      may_act = k.may_act;
      alive = λ runs. few_left (book_view b) (sight h) (k.alive runs) (subst (λ n. n < 16) (sym size) few);
    })

pub returns-in_err-merge-clause-few : goal.returns-in_err-merge-clause-few
returns-in_err-merge-clause-few g c low =
    let b = c.args.book.now in
    let many : 16 ≤ length b.segments = subst (λ l. 16 ≤ length l) c.as_slice.ensures c.if-as_slice-lt-MANY.false in
    let size : length (map segment_view b.segments) ≡ length b.segments = length-map b.segments segment_view in
    absurd (let z : ⊥ = omega (arith, low, many, size) in z)

pub returns-in_err-publish_next-clause-few : goal.returns-in_err-publish_next-clause-few
returns-in_err-publish_next-clause-few g c low =
    let b = c.args.book.now in
    let many : 16 ≤ length b.segments = subst (λ l. 16 ≤ length l) c.as_slice.ensures c.if-as_slice-lt-MANY.false in
    let size : length (map segment_view b.segments) ≡ length b.segments = length-map b.segments segment_view in
    absurd (let z : ⊥ = omega (arith, low, many, size) in z)

pub returns-clause-few : goal.returns-clause-few
returns-clause-few g c low =
    let b = c.args.book.now in
    let many : 16 ≤ length b.segments = subst (λ l. 16 ≤ length l) c.as_slice.ensures c.if-as_slice-lt-MANY.false in
    let size : length (map segment_view b.segments) ≡ length b.segments = length-map b.segments segment_view in
    absurd (let z : ⊥ = omega (arith, low, many, size) in z)

pub returns-in_err-publish_next-clause-shown : goal.returns-in_err-publish_next-clause-shown
returns-in_err-publish_next-clause-shown g c =
    let q = err_from_is_err_and c.from_residual-in_err-publish_next.result c.from_residual-in_err-publish_next.ensures.1 in
    rw (q.1, q.2)
    (shows_outside (Unit {0}) (IsUnsound (codes "archive") (book_view c.args.book.now)) c.in_err-publish_next.field-0.0
    (every_then AsksInPieces c.in_ok-merge.ensures.pieces (no_reads ReplacesBook (replaces_no_reads (codes "archive")) c.publish_next.ensures.own)))

pub returns-clause-shown : goal.returns-clause-shown
returns-clause-shown g c =
    shows_ok (IsUnsound (codes "archive") (book_view c.args.book.now)) (tt {0})
    (every_then AsksInPieces c.in_ok-merge.ensures.pieces (no_reads ReplacesBook (replaces_no_reads (codes "archive")) c.publish_next.ensures.own))

pub returns-in_err-merge-clause-spent : goal.returns-in_err-merge-clause-spent
returns-in_err-merge-clause-spent g c =
    let q = err_from_is_err_and c.from_residual.result c.from_residual.ensures.1 in
    let b = book_view c.args.book.now in
    rw (q.1, q.2)
    (spent_as (IsAtLast b) ((16 ≤ length b.segments) × IsAtLast b)
    (λ x. (
      many_view c.args.book.now
          (subst (λ l. 16 ≤ length l) c.as_slice.ensures c.if-as_slice-lt-MANY.false),
      x,
    ))
    c.in_err-merge.field-0.0
    (spent_book (Unit {0}) b c.in_err-merge.field-0.0 c.in_err-merge.ensures.spent))

pub returns-in_err-publish_next-clause-spent : goal.returns-in_err-publish_next-clause-spent
returns-in_err-publish_next-clause-spent g c =
    let q = err_from_is_err_and c.from_residual-in_err-publish_next.result
    c.from_residual-in_err-publish_next.ensures.1 in
    let b = book_view c.args.book.now in
    rw (q.1, q.2) (spent_outside ((16 ≤ length b.segments)
    × IsAtLast b) c.in_err-publish_next.field-0.0)

pub returns-then-as_slice-lt-MANY-clause-many : goal.returns-then-as_slice-lt-MANY-clause-many
returns-then-as_slice-lt-MANY-clause-many g c high =
    let b = c.args.book.now in
    let few : length b.segments < 16 =
    subst (λ l. length l < 16) c.as_slice.ensures c.if-as_slice-lt-MANY.true in
    let size : length (map segment_view b.segments) ≡ length b.segments =
    length-map b.segments segment_view in
    absurd (let z : ⊥ = omega (arith, high, few, size) in z)

pub returns-clause-many : goal.returns-clause-many
returns-clause-many g c high = c.in_ok-merge.ensures.next
