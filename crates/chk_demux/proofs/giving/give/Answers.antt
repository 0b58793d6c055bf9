use Rattle.std.proofs.Common.{◌≡◌, ◌∙◌, ◌-◌, ◌++◌, ◌<◌, length, ap, ap₂, sym, subst, inl, refl}
use Rattle.std.specs.Prelude.{codes}
use Rattle.chk_site.specs.Site.{Adds}
use Rattle.chk_site.specs.Runs.{Leads}
use Rattle.chk_site.proofs.Leads.{leads_none}
use Rattle.chk_world.specs.Places.{As}
use Rattle.chk_world.specs.Sight.{job, AtJob}
use Rattle.chk_world.specs.JobSteps.{WritesTo}
use Rattle.chk_record_index.specs.Heads.{Head}
use Rattle.chk_book.specs.Books.{book_view}
use Rattle.chk_book.specs.Views.{end_view}
use Rattle.chk_book.specs.Folders.{segment_name}
use Rattle.chk_demux.specs.Working.{EndsSo}
use Rattle.chk_demux.specs.Writes.{IsOutput}
use Rattle.chk_demux.specs.Giving.{given_chunks, place_given}
use Rattle.chk_demux.proofs.Feeding.{given_none}
use Rattle.chk_archive_parts.proofs.Works.{works_memory}
use Rattle.chk_book.proofs.Works.{works_none}
use Rattle.chk_demux.proofs.NewHeads.{past_put}
use Rattle.chk_demux.proofs.giving.give.Goals as goal

pub returns-in_default-clause-told : goal.returns-in_default-clause-told
returns-in_default-clause-told g c stamped v outs free =
    let heads = c.args.heads.now in
    let s = c.args.splitter.now in
    leads_none (g.S.Site.told c.args.site.now)
    (λ h k. subst (λ l. AtJob stamped (IsOutput v l c.args.output.now) h)
    (sym (given_none heads (end_view c.args.end.now) c.args.index (place_given heads c.args.index c.args.behind s) s.given outs
    c.in_default.ensures.lent)) k)

pub returns-in_default-clause-works : goal.returns-in_default-clause-works
returns-in_default-clause-works g c =
    works_none (WritesTo (segment_name (codes "demux") (book_view c.args.book.now).next)) tt (g.S.Site.told c.args.site.now)

pub returns-in_default-place_of-clause-works : goal.returns-in_default-place_of-clause-works
returns-in_default-place_of-clause-works g c =
    works_memory _ (WritesTo (segment_name (codes "demux") (book_view c.args.book.now).next)) (g.S.Site.told c.args.site.now)

pub returns-clause-told : goal.returns-clause-told
returns-clause-told g c stamped v outs free =
    let heads = c.args.heads.now in
    let e = end_view c.args.end.now in
    let s = c.args.splitter.now in
    let place : c.in-Some-place_of.place ≡ place_given heads c.args.index c.args.behind s =
    c.in-Some-place_of.ensures
    ∙ ap₂ (λ m n. m - c.args.behind - n) (ap (λ (h : Head). h.key.seq) c.requires.head.there) c.pending.ensures in
    subst (λ l. Adds (g.S.Site.told c.args.site.now) (g.S.Site.told c.write_record.new.site)
    (Leads (As stamped job) (AtJob stamped (IsOutput v outs c.args.output.now))
    (EndsSo stamped (λ t u. IsOutput v (outs ++ l) c.write_record.new.output u) c.write_record.result)))
    (ap₂ (λ m r. given_chunks heads e c.args.index m r) place c.in-Some.ensures.lent)
    (c.write_record.ensures.told stamped v outs free)

pub returns-in_default-clause-due : goal.returns-in_default-clause-due
returns-in_default-clause-due g c = inl refl

pub returns-clause-due : goal.returns-clause-due
returns-clause-due g c =
    past_put c.write_record.result c.args.output.now.entries c.write_record.new.output.entries
    (subst (λ l. 0 < length l) c.in-Some.ensures.lent c.in-Some.ensures.some)
