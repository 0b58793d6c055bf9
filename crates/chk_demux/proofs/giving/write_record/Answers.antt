use Rattle.std.proofs.Common.{◌≡◌, ◌∙◌, ◌+◌, ◌++◌, ◌∷◌, [], ap, sym, subst}
use Rattle.std.specs.Prelude.{codes}
use Rattle.chk_site.specs.Site.{Adds}
use Rattle.chk_site.specs.Runs.{Leads}
use Rattle.chk_chunk.specs.Lent.{lent_chunk}
use Rattle.chk_world.specs.Places.{As}
use Rattle.chk_world.specs.Sight.{job, AtJob}
use Rattle.chk_world.specs.JobSteps.{WritesTo}
use Rattle.chk_book.specs.Books.{book_view}
use Rattle.chk_book.specs.Views.{end_view}
use Rattle.chk_book.specs.Folders.{segment_name}
use Rattle.chk_demux.specs.Working.{EndsSo}
use Rattle.chk_demux.specs.Writes.{IsOutput}
use Rattle.chk_demux.specs.Giving.{keyed, cluster_back, made_chunk}
use Rattle.chk_demux.proofs.Feeding.{given_made}
use Rattle.chk_archive_parts.proofs.Works.{works_memory}
use Rattle.chk_demux.proofs.giving.write_record.Goals as goal

pub returns-in_default-clause-works : goal.returns-in_default-clause-works
returns-in_default-clause-works g c =
    works_memory _ (WritesTo (segment_name (codes "demux") (book_view c.args.book.now).next)) (g.S.Site.told c.args.site.now)

pub returns-in_default-record_chunk-clause-works : goal.returns-in_default-record_chunk-clause-works
returns-in_default-record_chunk-clause-works g c =
    works_memory _ (WritesTo (segment_name (codes "demux") (book_view c.args.book.now).next)) (g.S.Site.told c.args.site.now)

pub returns-clause-told : goal.returns-clause-told
returns-clause-told g c stamped v outs free =
    let heads = c.args.heads.now in
    let e = end_view c.args.end.now in
    let bytes = c.args.bytes.now in
    let seq = c.args.place in
    let is : lent_chunk c.in-Some-record_chunk.chunk ≡ made_chunk heads e (c.args.index + 1) seq bytes =
    c.in-Some-record_chunk.ensures.is
    ∙ ap (λ k. keyed e k seq bytes)
    (c.in-Some.ensures.cluster
    ∙ ap (λ n. cluster_back heads e.stream n (c.args.index + 1)) c.saturating_sub-at.ensures) in
    subst (λ l. Adds (g.S.Site.told c.args.site.now) (g.S.Site.told c.put.new.site)
    (Leads (As stamped job) (AtJob stamped (IsOutput v outs c.args.output.now))
    (EndsSo stamped (λ t u. IsOutput v (outs ++ l) c.put.new.output u) c.put.result)))
    (ap (λ x. x ∷ []) is ∙ sym (given_made heads e c.args.index seq bytes c.requires.some))
    (c.put.ensures.told stamped v outs free)
