use Rattle.std.proofs.Common.{◌∙◌, ◌≤◌, ℕ, length, Ok, Err, get_or, refl, subst, arith}
use Rattle.std.proofs.lemmas.Result.{err_from_is_err_and}
use Rattle.std.proofs.lemmas.List.{take_all}
use Rattle.chk_site.specs.Site.{Adds}
use Rattle.chk_site.specs.Runs.{anyhow, Leads}
use Rattle.chk_site.proofs.Runs.{adds_as, adds_then}
use Rattle.chk_site.proofs.Leads.{leads_then}
use Rattle.chk_world.specs.Books.{Book}
use Rattle.chk_world.specs.JobSteps.{SparesFile, IsOf, ReadsOrWrites}
use Rattle.chk_record_index.specs.Order.{no_head}
use Rattle.chk_record_index.specs.Pieces.{AsksInPieces}
use Rattle.chk_record_index.proofs.Gathering.{every_then}
use Rattle.chk_book.specs.declared.segmenter.Segmenter.{Segmenter}
use Rattle.chk_book.specs.Books.{book_view}
use Rattle.chk_book.specs.Folders.{segment_name, most_in}
use Rattle.chk_book.specs.Segmenting.{HoldsSegment, begun}
use Rattle.chk_book.specs.Written.{taken, HasEnded}
use Rattle.chk_record_reader.specs.Merging.{SparesBoth, CanWrite, chunk_read, WroteOne, bare_book}
use Rattle.chk_record_reader.proofs.AllGathered.{fails_later}
use Rattle.chk_record_reader.proofs.Writing.{writes_as, writes_ask}
use Rattle.chk_record_reader.proofs.Merged.{begun_beside, ended_beside, not_merged, unmerged, named_as, apart_as, own_as, of_begin, of_write}
use Rattle.chk_book.proofs.Added.{fails_as, cause_later, spent_write}
use Rattle.chk_record_reader.proofs.MergedInto.{spent_read, spent_same}
use Rattle.chk_record_index.proofs.Causes.{shows_then, shows_write, shows_ok}
use Rattle.chk_record_reader.specs.Gone.{IsGoneIn}
use Rattle.chk_record_reader.proofs.Causes.{shows_begun, late_gone_in}
use Rattle.chk_record_reader.proofs.merging.write_segment.Goals as goal

pub returns-in_err-segmenter-clause-own : goal.returns-in_err-segmenter-clause-own
returns-in_err-segmenter-clause-own g c = λ is. writes_as (segment_name c.args.folder.now
    c.args.merged.now.next) (c.in_err-segmenter.ensures.own is)

pub loop-index-init : goal.loop-index-init
loop-index-init g c = record {
  so = (
    begun c.args.folder.now c.args.merged.now.next,
    c.in_ok-segmenter.ensures.at,
    refl,
    refl,
    λ held is settled apart.
        begun_beside (most_in c.args.folder.now) c.args.names.now held c.args.heads.now
        c.args.folder.now c.args.merged.now.next c.new-reader.result settled apart
        c.new-reader.ensures c.in_ok-segmenter.ensures.raw (c.in_ok-segmenter.ensures.own is),
  );
  who = c.in_ok-segmenter.ensures.who;
  own = λ is. writes_as (segment_name c.args.folder.now c.args.merged.now.next)
      (c.in_ok-segmenter.ensures.own is);
  pieces = λ is. writes_ask (segment_name c.args.folder.now c.args.merged.now.next)
      (c.in_ok-segmenter.ensures.own is);
  made = adds_as (λ added history. Unit {0}) c.in_ok-segmenter.ensures.raw (λ added history x. tt);
  count = c.in_ok-segmenter.ensures.cause;
}

pub returns-in_err-write_one-clause-raw : goal.returns-in_err-write_one-clause-raw
returns-in_err-write_one-clause-raw g c held is settled apart =
    let l = c.loop-index in
    let w = l.invariant.so.0 in
    let f = l.invariant.so.2 in
    let n = l.invariant.so.3 in
    let folder = c.args.folder.now in
    let names = c.args.names.now in
    let heads = c.args.heads.now in
    let q = c.write_one.new.reader in
    let v = taken l.segmenter w (chunk_read (get_or heads l.index no_head) q) in
    let r = c.from_residual-in_err-write_one in
    let p = err_from_is_err_and r.result r.ensures.1 in
    let apart' = apart_as names w folder c.args.merged.now.next f n apart in
    rw (p.1, p.2)
    (named_as names w folder c.args.merged.now.next f n
    (leads_then (l.invariant.so.4 held is settled apart')
    (not_merged (most_in folder) names held heads folder c.args.merged.now.next l.index
    (segment_name w.folder w.number) q v c.in_err-write_one.field-0.0
    (subst
    (λ (m : ℕ). Adds (g.S.Site.told l.site) (g.S.Site.told c.write_one.new.site)
    (Leads (anyhow (SparesBoth names (segment_name w.folder w.number))) (CanWrite m names held
    heads l.reader w l.index)
    (WroteOne m names held heads q v l.index (Err c.in_err-write_one.field-0.0))))
    c.most_in-most.ensures.most (c.in_err-write_one.ensures.raw w held is l.invariant.so.1 settled
    apart')))))

pub returns-in_err-write_one-clause-own : goal.returns-in_err-write_one-clause-own
returns-in_err-write_one-clause-own g c = λ is.
    let i = c.loop-index.invariant in
    every_then (IsOf (ReadsOrWrites (segment_name c.args.folder.now c.args.merged.now.next)))
    (i.own is)
    (own_as i.so.0 c.args.folder.now c.args.merged.now.next i.so.2 i.so.3
    (c.in_err-write_one.ensures.own i.so.0 i.so.1 is))

pub returns-in_err-write_one-clause-last : goal.returns-in_err-write_one-clause-last
returns-in_err-write_one-clause-last g c =
    let r = c.from_residual-in_err-write_one in
    let p = err_from_is_err_and r.result r.ensures.1 in
    rw (p.1, p.2) (fails_later (Unit {0}) (Unit {0}) c.in_err-write_one.field-0.0
    c.loop-index.invariant.made c.in_err-write_one.ensures.last)

pub loop-index-preserved : goal.loop-index-preserved
loop-index-preserved g c =
    let l = c.loop-index in
    let i = l.invariant in
    let w = i.so.0 in
    let names = c.args.names.now in
    let heads = c.args.heads.now in
    let q = c.write_one.new.reader in
    let v = taken l.segmenter w (chunk_read (get_or heads l.index no_head) q) in
    record {
      so = (
        v,
        c.in_ok-write_one.ensures.at w i.so.1,
        i.so.2,
        i.so.3,
        λ held is settled apart.
            leads_then (i.so.4 held is settled apart)
            (subst
            (λ (m : ℕ). Adds (g.S.Site.told l.site) (g.S.Site.told c.write_one.new.site)
            (Leads (anyhow (SparesBoth names (segment_name w.folder w.number))) (CanWrite m names
            held heads l.reader w l.index)
            (WroteOne m names held heads q v l.index (Ok tt))))
            c.most_in-most.ensures.most (c.in_ok-write_one.ensures.raw w held is i.so.1 settled
            apart)),
      );
      who = c.write_one.ensures.who ∙ i.who;
      own = λ is.
          every_then (IsOf (ReadsOrWrites (segment_name c.args.folder.now c.args.merged.now.next)))
          (i.own is)
          (own_as i.so.0 c.args.folder.now c.args.merged.now.next i.so.2 i.so.3
          (c.in_ok-write_one.ensures.own i.so.0 i.so.1 is));
      pieces = λ is. every_then AsksInPieces (i.pieces is) (c.in_ok-write_one.ensures.pieces i.so.0
          i.so.1 is);
      made = adds_then (λ added history. Unit {0}) i.made c.in_ok-write_one.ensures.last (λ a b
          history x y. tt);
      count = c.in_ok-write_one.ensures.cause ∙ i.count;
    }

pub returns-in_err-finish-clause-raw : goal.returns-in_err-finish-clause-raw
returns-in_err-finish-clause-raw g c held is settled apart =
    let r = c.from_residual-in_err-finish in
    let p = err_from_is_err_and r.result r.ensures.1 in
    rw (p.1, p.2)
    (unmerged (most_in c.args.folder.now) c.args.names.now held c.args.heads.now c.args.folder.now
    c.args.merged.now.next
    (segment_name c.args.folder.now c.args.merged.now.next) c.in_err-finish.field-0.0 (of_write
    c.in_err-finish.field-0.0 c.in_err-finish.ensures.only)
    (adds_then (λ added history. Unit {0}) c.loop-index.invariant.made c.in_err-finish.ensures.last
    (λ a b history x y. tt)))

pub returns-in_err-finish-clause-own : goal.returns-in_err-finish-clause-own
returns-in_err-finish-clause-own g c = λ is.
    let i = c.loop-index.invariant in
    every_then (IsOf (ReadsOrWrites (segment_name c.args.folder.now c.args.merged.now.next)))
    (i.own is)
    (own_as i.so.0 c.args.folder.now c.args.merged.now.next i.so.2 i.so.3
    (writes_as (segment_name i.so.0.folder i.so.0.number) (c.in_err-finish.ensures.own i.so.0
    i.so.1 (i.who ∙ is))))

pub returns-in_err-finish-clause-last : goal.returns-in_err-finish-clause-last
returns-in_err-finish-clause-last g c =
    let r = c.from_residual-in_err-finish in
    let p = err_from_is_err_and r.result r.ensures.1 in
    rw (p.1, p.2) (fails_later (Unit {0}) (Unit {0}) c.in_err-finish.field-0.0
    c.loop-index.invariant.made c.in_err-finish.ensures.last)

pub returns-clause-raw : goal.returns-clause-raw
returns-clause-raw g c held is settled apart =
    let l = c.loop-index in
    let w = l.invariant.so.0 in
    let f = l.invariant.so.2 in
    let n = l.invariant.so.3 in
    let folder = c.args.folder.now in
    let names = c.args.names.now in
    let heads = c.args.heads.now in
    let apart' = apart_as names w folder c.args.merged.now.next f n apart in
    let past : length heads ≤ l.index = let e = c.loop-index-test.false in let k =
    c.len-index-end.ensures in omega arith in
    named_as names w folder c.args.merged.now.next f n
    (leads_then (l.invariant.so.4 held is settled apart')
    (ended_beside (most_in folder) names held heads folder c.args.merged.now.next l.index
    l.segmenter l.reader w (book_view c.finish.new.book) settled apart'
    l.invariant.so.1 f n (take_all l.index heads past)
    (subst
    (λ (b : Book). Adds (g.S.Site.told l.site) (g.S.Site.told c.finish.new.site)
    (Leads (anyhow (SparesFile (segment_name w.folder w.number))) (HoldsSegment w) (HasEnded w b
    (book_view c.finish.new.book) (Ok tt))))
    c.requires.bare (c.in_ok-finish.ensures.raw w l.invariant.so.1))
    (c.in_ok-finish.ensures.own w l.invariant.so.1 (l.invariant.who ∙ is))))

pub returns-clause-own : goal.returns-clause-own
returns-clause-own g c = λ is.
    let i = c.loop-index.invariant in
    every_then (IsOf (ReadsOrWrites (segment_name c.args.folder.now c.args.merged.now.next)))
    (i.own is)
    (own_as i.so.0 c.args.folder.now c.args.merged.now.next i.so.2 i.so.3
    (writes_as (segment_name i.so.0.folder i.so.0.number) (c.in_ok-finish.ensures.own i.so.0 i.so.1
    (i.who ∙ is))))

pub returns-clause-last : goal.returns-clause-last
returns-clause-last g c =
    adds_then _ c.loop-index.invariant.made c.in_ok-finish.ensures.last (λ a b history x y. tt)

pub returns-in_err-segmenter-clause-pieces : goal.returns-in_err-segmenter-clause-pieces
returns-in_err-segmenter-clause-pieces g c = λ is. writes_ask (segment_name c.args.folder.now
    c.args.merged.now.next) (c.in_err-segmenter.ensures.own is)

pub returns-in_err-write_one-clause-pieces : goal.returns-in_err-write_one-clause-pieces
returns-in_err-write_one-clause-pieces g c = λ is.
    let i = c.loop-index.invariant in
    every_then AsksInPieces (i.pieces is) (c.in_err-write_one.ensures.pieces i.so.0 i.so.1 is)

pub returns-in_err-finish-clause-pieces : goal.returns-in_err-finish-clause-pieces
returns-in_err-finish-clause-pieces g c = λ is.
    let i = c.loop-index.invariant in
    every_then AsksInPieces (i.pieces is)
    (writes_ask (segment_name i.so.0.folder i.so.0.number) (c.in_err-finish.ensures.own i.so.0
    i.so.1 (i.who ∙ is)))

pub returns-clause-pieces : goal.returns-clause-pieces
returns-clause-pieces g c = λ is.
    let i = c.loop-index.invariant in
    every_then AsksInPieces (i.pieces is)
    (writes_ask (segment_name i.so.0.folder i.so.0.number) (c.in_ok-finish.ensures.own i.so.0
    i.so.1 (i.who ∙ is)))

pub returns-in_err-segmenter-clause-raw : goal.returns-in_err-segmenter-clause-raw
returns-in_err-segmenter-clause-raw g c held is settled apart =
    let r = c.from_residual in
    let p = err_from_is_err_and r.result r.ensures.1 in
    rw (p.1, p.2)
    (unmerged (most_in c.args.folder.now) c.args.names.now held c.args.heads.now c.args.folder.now
    c.args.merged.now.next
    (segment_name c.args.folder.now c.args.merged.now.next) c.in_err-segmenter.field-0.0
    (of_begin c.in_err-segmenter.field-0.0 c.in_err-segmenter.ensures.only)
    c.in_err-segmenter.ensures.last)

pub returns-in_err-segmenter-clause-spent : goal.returns-in_err-segmenter-clause-spent
returns-in_err-segmenter-clause-spent g c =
    let r = c.from_residual in
    let p = err_from_is_err_and r.result r.ensures.1 in
    rw (p.1, p.2)
    (spent_same Segmenter (Unit {0}) (book_view c.args.merged.now) (bare_book
    c.args.merged.now.next) c.in_err-segmenter.field-0.0 refl
    c.in_err-segmenter.ensures.spent)

pub returns-in_err-segmenter-clause-last : goal.returns-in_err-segmenter-clause-last
returns-in_err-segmenter-clause-last g c =
    let r = c.from_residual in
    let p = err_from_is_err_and r.result r.ensures.1 in
    rw (p.1, p.2)
    (fails_as (Unit {0}) Segmenter c.in_err-segmenter.field-0.0 c.in_err-segmenter.ensures.last)

pub returns-in_err-segmenter-clause-cause : goal.returns-in_err-segmenter-clause-cause
returns-in_err-segmenter-clause-cause g c =
    let r = c.from_residual in
    let p = err_from_is_err_and r.result r.ensures.1 in
    rw (p.1, p.2)
    (cause_later (Unit {0}) Segmenter c.in_err-segmenter.field-0.0 (g.S.Site.fault_count
    c.args.site.now)
    (g.S.Site.fault_count c.args.site.now) (g.S.Site.fault_count c.begin_segment.new.site) refl
    c.in_err-segmenter.ensures.cause)

pub returns-in_err-write_one-clause-spent : goal.returns-in_err-write_one-clause-spent
returns-in_err-write_one-clause-spent g c =
    let r = c.from_residual-in_err-write_one in
    let p = err_from_is_err_and r.result r.ensures.1 in
    rw (p.1, p.2)
    (spent_read (Unit {0}) (bare_book c.args.merged.now.next) c.in_err-write_one.field-0.0
    c.in_err-write_one.ensures.only
    (λ e. let other = c.in_ok-segmenter.ensures.spent in other e))

pub returns-in_err-write_one-clause-cause : goal.returns-in_err-write_one-clause-cause
returns-in_err-write_one-clause-cause g c =
    let r = c.from_residual-in_err-write_one in
    let p = err_from_is_err_and r.result r.ensures.1 in
    rw (p.1, p.2)
    (cause_later (Unit {0}) (Unit {0}) c.in_err-write_one.field-0.0 (g.S.Site.fault_count
    c.args.site.now)
    (g.S.Site.fault_count c.loop-index.site) (g.S.Site.fault_count c.write_one.new.site)
    c.loop-index.invariant.count
    c.in_err-write_one.ensures.cause)

pub returns-in_err-finish-clause-spent : goal.returns-in_err-finish-clause-spent
returns-in_err-finish-clause-spent g c =
    let r = c.from_residual-in_err-finish in
    let p = err_from_is_err_and r.result r.ensures.1 in
    rw (p.1, p.2)
    (spent_write (Unit {0}) (bare_book c.args.merged.now.next) c.in_err-finish.field-0.0
    c.in_err-finish.ensures.only
    (λ e. let other = c.in_ok-segmenter.ensures.spent in other e))

pub returns-in_err-finish-clause-cause : goal.returns-in_err-finish-clause-cause
returns-in_err-finish-clause-cause g c =
    let r = c.from_residual-in_err-finish in
    let p = err_from_is_err_and r.result r.ensures.1 in
    rw (p.1, p.2)
    (cause_later (Unit {0}) (Unit {0}) c.in_err-finish.field-0.0 (g.S.Site.fault_count
    c.args.site.now)
    (g.S.Site.fault_count c.loop-index.site) (g.S.Site.fault_count c.finish.new.site)
    c.loop-index.invariant.count
    c.in_err-finish.ensures.cause)

pub returns-clause-spent : goal.returns-clause-spent
returns-clause-spent g c = c.in_ok-segmenter.ensures.spent

pub returns-clause-cause : goal.returns-clause-cause
returns-clause-cause g c = c.in_ok-finish.ensures.cause ∙ c.loop-index.invariant.count

pub returns-in_err-segmenter-clause-shown : goal.returns-in_err-segmenter-clause-shown
returns-in_err-segmenter-clause-shown g c =
    let r = c.from_residual in
    let p = err_from_is_err_and r.result r.ensures.1 in
    rw (p.1, p.2)
    (shows_begun (Unit {0}) (IsGoneIn c.args.names.now c.args.heads.now) c.in_err-segmenter.field-0.0 c.in_err-segmenter.ensures.only
    c.in_err-segmenter.ensures.last)

pub returns-in_err-write_one-clause-shown : goal.returns-in_err-write_one-clause-shown
returns-in_err-write_one-clause-shown g c =
    let r = c.from_residual-in_err-write_one in
    let p = err_from_is_err_and r.result r.ensures.1 in
    let names = c.args.names.now in
    let heads = c.args.heads.now in
    rw (p.1, p.2)
    (shows_then (Unit {0}) (Unit {0}) (IsGoneIn names heads) (late_gone_in names heads) c.in_err-write_one.field-0.0
    c.loop-index.invariant.made c.in_err-write_one.ensures.shown)

pub returns-in_err-finish-clause-shown : goal.returns-in_err-finish-clause-shown
returns-in_err-finish-clause-shown g c =
    let r = c.from_residual-in_err-finish in
    let p = err_from_is_err_and r.result r.ensures.1 in
    rw (p.1, p.2)
    (shows_write (Unit {0}) (IsGoneIn c.args.names.now c.args.heads.now) c.in_err-finish.field-0.0 c.in_err-finish.ensures.only
    (adds_then (λ added history. Unit {0}) c.loop-index.invariant.made c.in_err-finish.ensures.last (λ a b history x y. tt)))

pub returns-clause-shown : goal.returns-clause-shown
returns-clause-shown g c =
    shows_ok (IsGoneIn c.args.names.now c.args.heads.now) (tt {0})
    (adds_then (λ added history. Unit {0}) c.loop-index.invariant.made c.in_ok-finish.ensures.last (λ a b history x y. tt))

pub returns-clause-next : goal.returns-clause-next
returns-clause-next g c = c.in_ok-finish.ensures.next
