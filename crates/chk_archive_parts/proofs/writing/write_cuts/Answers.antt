use Rattle.std.proofs.Common.{◌∙◌, [], sym, subst, refl, take}
use Rattle.std.specs.Prelude.{codes}
use Rattle.std.proofs.lemmas.Result.{err_from_is_err_and}
use Rattle.std.proofs.lemmas.List.{take_all}
use Rattle.chk_site.specs.History.{History, Every}
use Rattle.chk_site.specs.Site.{Adds}
use Rattle.chk_site.proofs.Runs.{adds_none}
use Rattle.chk_site.proofs.Leads.{leads_none, leads_as}
use Rattle.chk_world.specs.Sight.{sight, AtJob}
use Rattle.chk_world.specs.JobSteps.{IsOf, ReadsOrWrites}
use Rattle.chk_record_index.specs.Pieces.{AsksInPieces}
use Rattle.chk_record_index.proofs.Gathering.{every_then}
use Rattle.chk_book.specs.Folders.{segment_name}
use Rattle.chk_archive_parts.specs.Cuts.{cut_chunks}
use Rattle.chk_archive_parts.specs.Writes.{IsFree, IsSoFar}
use Rattle.chk_archive_parts.proofs.CutLists.{cut_more, cut_fails}
use Rattle.chk_archive_parts.proofs.AllFiles.{fails_later}
use Rattle.chk_record_index.proofs.Causes.{shows_then}
use Rattle.chk_record_reader.proofs.Causes.{late_gone_in}
use Rattle.chk_record_reader.specs.Gone.{IsGoneIn}
use Rattle.chk_archive_parts.proofs.writing.write_cuts.Goals as goal

pub loop-place-init : goal.loop-place-init
loop-place-init g c =
    let w = segment_name (codes "archive") c.args.segmenter.now.number in
    record {
      so_far = λ stamped v cs records free.
          leads_none (g.S.Site.told c.args.site.now)
          (λ h k. record {
            legal = k.legal;
            may_act = k.may_act;
            alive = λ runs.
                (k.alive runs, c.new-shelf.ensures v c.args.files.now c.args.heads.now);
          });
      segment = c.requires.segment;
      number = refl;
      writer = c.requires.writer;
      own = adds_none (g.S.Site.told c.args.site.now) (Every (IsOf (ReadsOrWrites w))) (λ history. tt);
      pieces = adds_none (g.S.Site.told c.args.site.now) (Every AsksInPieces) (λ history. tt);
      count = refl;
    }

pub returns-in_err-write_cut-clause-told : goal.returns-in_err-write_cut-clause-told
returns-in_err-write_cut-clause-told g c stamped v cs records free =
    let p = err_from_is_err_and c.from_residual.result c.from_residual.ensures.1 in
    let files = c.args.files.now in
    let heads = c.args.heads.now in
    let cuts = c.args.cuts.now in
    let l = c.loop-place in
    let A : History → Type 0 = AtJob stamped (IsSoFar v [] c.args.segmenter.now) in
    let t = c.write_cut.new.segmenter in
    let q = c.write_cut.new.shelf in
    let low = c.loop-place-test.true in
    let now : IsFree v files l.segmenter.number = subst (IsFree v files) (sym l.invariant.number) free in
    rw (p.1, p.2)
    (cut_fails stamped v files heads cs cuts records c.requires.cuts l.place low A l.segmenter t
    l.shelf q c.write_cut.result (cut_chunks cs cuts) c.in_err-write_cut.field-0.0 c.in_err-write_cut.was
    (l.invariant.so_far stamped v cs records free)
    (c.write_cut.ensures.told stamped v cs (cut_chunks cs (take l.place cuts)) records now))

pub returns-in_err-write_cut-clause-own : goal.returns-in_err-write_cut-clause-own
returns-in_err-write_cut-clause-own g c =
    let l = c.loop-place in
    every_then (IsOf (ReadsOrWrites (segment_name (codes "archive") c.args.segmenter.now.number))) l.invariant.own
    (subst (λ n. Adds (g.S.Site.told l.site) (g.S.Site.told c.write_cut.new.site)
    (Every (IsOf (ReadsOrWrites (segment_name (codes "archive") n))))) l.invariant.number c.write_cut.ensures.own)

pub returns-in_err-write_cut-clause-pieces : goal.returns-in_err-write_cut-clause-pieces
returns-in_err-write_cut-clause-pieces g c = every_then AsksInPieces c.loop-place.invariant.pieces c.write_cut.ensures.pieces

pub returns-in_err-write_cut-clause-last : goal.returns-in_err-write_cut-clause-last
returns-in_err-write_cut-clause-last g c =
    let p = err_from_is_err_and c.from_residual.result c.from_residual.ensures.1 in
    rw (p.1, p.2)
    (fails_later (Unit {0}) (Unit {0}) c.in_err-write_cut.field-0.0 c.loop-place.invariant.pieces
    c.in_err-write_cut.ensures.last)

pub loop-place-preserved : goal.loop-place-preserved
loop-place-preserved g c =
    let files = c.args.files.now in
    let heads = c.args.heads.now in
    let cuts = c.args.cuts.now in
    let l = c.loop-place in
    let t = c.write_cut.new.segmenter in
    let q = c.write_cut.new.shelf in
    let low = c.loop-place-test.true in
    record {
      so_far = λ stamped v cs records free.
          let A : History → Type 0 = AtJob stamped (IsSoFar v [] c.args.segmenter.now) in
          let now : IsFree v files l.segmenter.number = subst (IsFree v files) (sym l.invariant.number) free in
          cut_more stamped v files heads cs cuts records c.requires.cuts l.place low A l.segmenter t
          l.shelf q c.write_cut.result c.in_ok-write_cut.field-0 c.in_ok-write_cut.was
          (l.invariant.so_far stamped v cs records free)
          (c.write_cut.ensures.told stamped v cs (cut_chunks cs (take l.place cuts)) records now);
      segment = c.in_ok-write_cut.ensures.segment;
      number = c.in_ok-write_cut.ensures.number ∙ l.invariant.number;
      writer = c.write_cut.ensures.who ∙ l.invariant.writer;
      own = every_then (IsOf (ReadsOrWrites (segment_name (codes "archive") c.args.segmenter.now.number))) l.invariant.own
          (subst (λ n. Adds (g.S.Site.told l.site) (g.S.Site.told c.write_cut.new.site)
          (Every (IsOf (ReadsOrWrites (segment_name (codes "archive") n))))) l.invariant.number c.write_cut.ensures.own);
      pieces = every_then AsksInPieces l.invariant.pieces c.write_cut.ensures.pieces;
      count = c.in_ok-write_cut.ensures.cause ∙ l.invariant.count;
    }

pub returns-clause-told : goal.returns-clause-told
returns-clause-told g c stamped v cs records free =
    let l = c.loop-place in
    leads_as (λ h k. k)
    (λ h k. record {
      legal = k.legal;
      may_act = k.may_act;
      alive = λ runs.
          subst (λ x. IsSoFar v (cut_chunks cs x) l.segmenter (sight h))
          (take_all l.place c.args.cuts.now c.loop-place-test.false) (k.alive runs).0;
    })
    (l.invariant.so_far stamped v cs records free)

pub returns-in_err-write_cut-clause-shown : goal.returns-in_err-write_cut-clause-shown
returns-in_err-write_cut-clause-shown g c =
    let p = err_from_is_err_and c.from_residual.result c.from_residual.ensures.1 in
    let files = c.args.files.now in
    let heads = c.args.heads.now in
    rw (p.1, p.2)
    (shows_then (Unit {0}) (Unit {0}) (IsGoneIn files heads) (late_gone_in files heads) c.in_err-write_cut.field-0.0
    c.loop-place.invariant.pieces c.in_err-write_cut.ensures.shown)
