use Rattle.std.proofs.Common.{◌≡◌, ◌∙◌, ◌+◌, ◌-◌, ◌++◌, sym, subst, refl, inl, ◌≤◌, arith, take, drop, length, length-drop, append-nil, Ok}
use Rattle.std.specs.Prelude.{codes}
use Rattle.std.proofs.lemmas.Result.{err_from_is_err_and}
use Rattle.std.proofs.lemmas.List.{take_all}
use Rattle.chk_site.specs.Site.{Adds}
use Rattle.chk_site.specs.Runs.{Leads}
use Rattle.chk_site.proofs.Leads.{leads_none, leads_then}
use Rattle.chk_world.specs.Places.{As}
use Rattle.chk_world.specs.Sight.{job, AtJob}
use Rattle.chk_world.specs.JobSteps.{WritesTo}
use Rattle.chk_book.specs.Books.{book_view}
use Rattle.chk_book.specs.Views.{end_view}
use Rattle.chk_book.specs.Folders.{segment_name}
use Rattle.chk_demux.specs.Working.{Worked}
use Rattle.chk_demux.specs.Writes.{IsOutput}
use Rattle.chk_demux_split.specs.Splitting.{Feeds}
use Rattle.chk_demux.specs.Giving.{IsSplitting, chunks_of_fed, given_chunks, place_given}
use Rattle.chk_demux.proofs.Ends.{so_fails, so_done, no_more, cause_behind}
use Rattle.chk_demux.specs.Shown.{PutsIf}
use Rattle.chk_demux.specs.Due.{HasRecord}
use Rattle.chk_demux.proofs.Feeding.{still_splits, value_on}
use Rattle.chk_demux.proofs.Due.{still_due}
use Rattle.chk_archive_parts.proofs.Works.{works_result, works_end}
use Rattle.chk_book.proofs.Works.{works_none, works_then}
use Rattle.chk_demux.proofs.giving.split_value.Goals as goal

pub loop-at-init : goal.loop-at-init
loop-at-init g c =
    let heads = c.args.heads.now in
    let e = end_view c.args.end.now in
    record {
      within = omega arith;
      splits = λ t fed s. subst (λ l. IsSplitting t l c.args.splitter.now) (sym (append-nil fed)) s;
      due = λ t fed s. inl refl;
      so_far = λ stamped v outs from t fed free s placed.
          leads_none (g.S.Site.told c.args.site.now)
          (λ h k. subst (λ l. AtJob stamped (IsOutput v (outs ++ chunks_of_fed heads e from t l) c.args.output.now) h)
          (sym (append-nil fed)) k);
      writer = c.requires.writer;
      works = works_none (WritesTo (segment_name (codes "demux") (book_view c.args.book.now).next)) tt (g.S.Site.told c.args.site.now);
      count = refl;
    }

pub returns-in_err-taken-clause-told : goal.returns-in_err-taken-clause-told
returns-in_err-taken-clause-told g c stamped v outs from t fed free s placed =
    let p = err_from_is_err_and c.from_residual.result c.from_residual.ensures.1 in
    let heads = c.args.heads.now in
    let e = end_view c.args.end.now in
    let l = c.loop-at in
    rw (p.1, p.2)
    (no_more {U = Unit {0}} stamped
    (AtJob stamped (IsOutput v (outs ++ chunks_of_fed heads e from t fed) c.args.output.now))
    (IsOutput v (outs ++ chunks_of_fed heads e from t (fed ++ take l.at c.args.value.now)) l.output)
    (λ w u. IsOutput v (outs ++ chunks_of_fed heads e from t (fed ++ c.args.value.now)) l.output u)
    (l.invariant.so_far stamped v outs from t fed free s placed))

pub loop-at-preserved : goal.loop-at-preserved
loop-at-preserved g c =
    let heads = c.args.heads.now in
    let e = end_view c.args.end.now in
    let value = c.args.value.now in
    let l = c.loop-at in
    let n = c.in_ok-taken.taken in
    let next = (book_view c.args.book.now).next in
    let size = length-drop l.at value in
    let whole : take (length value - l.at) (drop l.at value) ≡ drop l.at value =
    take_all (length value - l.at) (drop l.at value) (omega (arith, size)) in
    let feeds : Feeds l.splitter c.feed.new.self (take n (drop l.at value)) =
    subst (λ x. Feeds l.splitter c.feed.new.self (take n x)) whole c.in_ok-taken.ensures.fed in
    let few : n ≤ length (drop l.at value) = subst (λ x. n ≤ length x) whole c.in_ok-taken.ensures.within in
    record {
      within =
          let low = l.invariant.within in
          omega (arith, few, size, low);
      splits = λ t fed s.
          still_splits heads e c.args.index 0 t fed value l.at n l.splitter c.feed.new.self (l.invariant.splits t fed s) feeds;
      due = λ t fed s.
          still_due heads e t fed value l.at n l.splitter c.feed.new.self
          (l.invariant.splits t fed s) feeds c.args.output.now.entries l.output.entries
          c.give.new.output.entries (l.invariant.due t fed s) c.in_ok-give.ensures.due;
      so_far = λ stamped v outs from t fed free s placed.
          let so = outs ++ chunks_of_fed heads e from t (fed ++ take l.at value) in
          subst (λ x. Adds (g.S.Site.told c.args.site.now) (g.S.Site.told c.give.new.site) (Leads (As stamped job)
          (AtJob stamped (IsOutput v (outs ++ chunks_of_fed heads e from t fed) c.args.output.now))
          (AtJob stamped (IsOutput v x c.give.new.output))))
          (value_on heads e c.args.index from t fed value l.at n l.splitter c.feed.new.self (l.invariant.splits t fed s) feeds placed outs)
          (leads_then (l.invariant.so_far stamped v outs from t fed free s placed)
          (so_done {T = Unit {0}} stamped (AtJob stamped (IsOutput v so l.output))
          (λ w u. IsOutput v (so ++ given_chunks heads e c.args.index
          (place_given heads c.args.index (length value - (l.at + n)) c.feed.new.self) c.feed.new.self.given)
          c.give.new.output u) c.give.result c.in_ok-give.field-0 c.in_ok-give.was
          (c.give.ensures.told stamped v so free)));
      writer = c.in_ok-give.ensures.writer;
      works = works_then (WritesTo (segment_name (codes "demux") next)) (Ok tt) (Ok tt) l.invariant.works
          (subst (λ r. Adds (g.S.Site.told l.site) (g.S.Site.told c.give.new.site) (Worked (WritesTo (segment_name (codes "demux") next)) r))
          c.in_ok-give.was c.give.ensures.works);
      count = c.in_ok-give.ensures.cause ∙ l.invariant.count;
    }

pub returns-in_err-give-clause-told : goal.returns-in_err-give-clause-told
returns-in_err-give-clause-told g c stamped v outs from t fed free s placed =
    let p = err_from_is_err_and c.from_residual-in_err-give.result c.from_residual-in_err-give.ensures.1 in
    let heads = c.args.heads.now in
    let e = end_view c.args.end.now in
    let l = c.loop-at in
    let so = outs ++ chunks_of_fed heads e from t (fed ++ take l.at c.args.value.now) in
    rw (p.1, p.2)
    (leads_then (l.invariant.so_far stamped v outs from t fed free s placed)
    (so_fails {T = Unit {0}} {U = Unit {0}} stamped (AtJob stamped (IsOutput v so l.output))
    (λ w u. IsOutput v (so ++ given_chunks heads e c.args.index
    (place_given heads c.args.index (length c.args.value.now - (l.at + c.in_ok-taken.taken)) c.feed.new.self) c.feed.new.self.given)
    c.give.new.output u)
    (λ w u. IsOutput v (outs ++ chunks_of_fed heads e from t (fed ++ c.args.value.now)) c.give.new.output u)
    c.give.result c.in_err-give.field-0.0 c.in_err-give.was (c.give.ensures.told stamped v so free)))

pub returns-in_err-give-clause-works : goal.returns-in_err-give-clause-works
returns-in_err-give-clause-works g c =
    let p = err_from_is_err_and c.from_residual-in_err-give.result c.from_residual-in_err-give.ensures.1 in
    let w = segment_name (codes "demux") (book_view c.args.book.now).next in
    rw (p.1, p.2)
    (works_result (Unit {0}) (WritesTo w) c.give.result c.in_err-give.field-0.0 c.in_err-give.was
    (works_then (WritesTo w) (Ok tt) c.give.result c.loop-at.invariant.works c.give.ensures.works))

pub returns-clause-told : goal.returns-clause-told
returns-clause-told g c stamped v outs from t fed free s placed =
    let heads = c.args.heads.now in
    let e = end_view c.args.end.now in
    let l = c.loop-at in
    subst (λ x. Adds (g.S.Site.told c.args.site.now) (g.S.Site.told l.site) (Leads (As stamped job)
    (AtJob stamped (IsOutput v (outs ++ chunks_of_fed heads e from t fed) c.args.output.now))
    (AtJob stamped (IsOutput v (outs ++ chunks_of_fed heads e from t (fed ++ x)) l.output))))
    (take_all l.at c.args.value.now c.loop-at-test.false)
    (l.invariant.so_far stamped v outs from t fed free s placed)

pub returns-in_err-taken-clause-split : goal.returns-in_err-taken-clause-split
returns-in_err-taken-clause-split g c t fed s =
    let p = err_from_is_err_and c.from_residual.result c.from_residual.ensures.1 in
    rw p.1 tt

pub returns-in_err-taken-clause-writer : goal.returns-in_err-taken-clause-writer
returns-in_err-taken-clause-writer g c =
    let p = err_from_is_err_and c.from_residual.result c.from_residual.ensures.1 in
    rw p.1 tt

pub returns-in_err-taken-clause-works : goal.returns-in_err-taken-clause-works
returns-in_err-taken-clause-works g c =
    let p = err_from_is_err_and c.from_residual.result c.from_residual.ensures.1 in
    rw (p.1, p.2)
    (works_end (Unit {0}) (Unit {0})
    (WritesTo (segment_name (codes "demux") (book_view c.args.book.now).next)) tt
    c.loop-at.invariant.works)

pub returns-in_err-taken-clause-cause : goal.returns-in_err-taken-clause-cause
returns-in_err-taken-clause-cause g c =
    let p = err_from_is_err_and c.from_residual.result c.from_residual.ensures.1 in
    rw (p.1, p.2) c.loop-at.invariant.count

pub returns-in_err-give-clause-split : goal.returns-in_err-give-clause-split
returns-in_err-give-clause-split g c t fed s =
    let p = err_from_is_err_and c.from_residual-in_err-give.result c.from_residual-in_err-give.ensures.1 in
    rw p.1 tt

pub returns-in_err-give-clause-writer : goal.returns-in_err-give-clause-writer
returns-in_err-give-clause-writer g c =
    let p = err_from_is_err_and c.from_residual-in_err-give.result c.from_residual-in_err-give.ensures.1 in
    rw p.1 tt

pub returns-in_err-give-clause-cause : goal.returns-in_err-give-clause-cause
returns-in_err-give-clause-cause g c =
    let p = err_from_is_err_and c.from_residual-in_err-give.result c.from_residual-in_err-give.ensures.1 in
    rw (p.1, p.2)
    (cause_behind (Unit {0}) c.give.result c.in_err-give.field-0.0 c.in_err-give.was
    (g.S.Site.fault_count c.args.site.now) (g.S.Site.fault_count c.loop-at.site)
    (g.S.Site.fault_count c.give.new.site) c.loop-at.invariant.count c.give.ensures.cause)

pub returns-clause-split : goal.returns-clause-split
returns-clause-split g c t fed s =
    subst (λ x. IsSplitting t (fed ++ x) c.loop-at.splitter) (take_all c.loop-at.at c.args.value.now c.loop-at-test.false)
    (c.loop-at.invariant.splits t fed s)

pub returns-clause-writer : goal.returns-clause-writer
returns-clause-writer g c = c.loop-at.invariant.writer

pub returns-clause-works : goal.returns-clause-works
returns-clause-works g c = c.loop-at.invariant.works

pub returns-clause-cause : goal.returns-clause-cause
returns-clause-cause g c = c.loop-at.invariant.count

pub give-requires-clause-job : goal.give-requires-clause-job
give-requires-clause-job g c = c.requires.job

pub give-requires-clause-writer : goal.give-requires-clause-writer
give-requires-clause-writer g c = c.loop-at.invariant.writer

pub give-requires-clause-index : goal.give-requires-clause-index
give-requires-clause-index g c = c.requires.index

pub give-requires-clause-head : goal.give-requires-clause-head
give-requires-clause-head g c = c.requires.head

pub returns-in_err-taken-clause-only : goal.returns-in_err-taken-clause-only
returns-in_err-taken-clause-only g c =
    let p = err_from_is_err_and c.from_residual.result c.from_residual.ensures.1 in
    rw (p.1, p.2) tt

pub returns-in_err-give-clause-only : goal.returns-in_err-give-clause-only
returns-in_err-give-clause-only g c =
    let p = err_from_is_err_and c.from_residual-in_err-give.result c.from_residual-in_err-give.ensures.1 in
    rw (p.1, p.2) c.in_err-give.ensures.only

pub returns-in_err-taken-clause-due : goal.returns-in_err-taken-clause-due
returns-in_err-taken-clause-due g c t fed s =
    let p = err_from_is_err_and c.from_residual.result c.from_residual.ensures.1 in
    rw p.1 tt

pub returns-in_err-give-clause-due : goal.returns-in_err-give-clause-due
returns-in_err-give-clause-due g c t fed s =
    let p = err_from_is_err_and c.from_residual-in_err-give.result c.from_residual-in_err-give.ensures.1 in
    rw p.1 tt

pub returns-clause-due : goal.returns-clause-due
returns-clause-due g c t fed s =
    subst (λ x. PutsIf (HasRecord t (fed ++ x)) c.args.output.now.entries c.loop-at.output.entries)
    (take_all c.loop-at.at c.args.value.now c.loop-at-test.false)
    (c.loop-at.invariant.due t fed s)
