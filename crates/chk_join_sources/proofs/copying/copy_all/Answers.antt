use Rattle.std.proofs.Common.{◌∙◌, ◌++◌, Ok, Err, refl, sym, subst, take, get_or}
use Rattle.std.specs.Prelude.{flat_map}
use Rattle.std.proofs.lemmas.Result.{err_from_is_err_and}
use Rattle.std.proofs.lemmas.List.{append-nil, take_all}
use Rattle.chk_site.specs.Site.{Adds}
use Rattle.chk_site.specs.Runs.{anyhow, Leads}
use Rattle.chk_site.proofs.Leads.{leads_as, leads_none, leads_then}
use Rattle.chk_book.proofs.Added.{cause_later}
use Rattle.chk_record_reader.specs.Merging.{SparesBoth, AreApart}
use Rattle.chk_record_reader.proofs.AllRead.{each_get, no_windows}
use Rattle.chk_join_sources.specs.Copying.{joined_segment, HasCopied, CanCopyBoth, Copies, chosen_chunks, FitsIn}
use Rattle.chk_join_sources.proofs.CopySteps.{works_number}
use Rattle.chk_book.proofs.Works.{works_none, works_then}
use Rattle.chk_join_sources.proofs.CopiedBlocks.{no_choice, choices_more, of_number, all_fails}
use Rattle.std.proofs.Common.{List}
use Rattle.chk_world.specs.JobSteps.{SparesFile}
use Rattle.chk_record_index.specs.Heads.{Head}
use Rattle.chk_join_sources.specs.declared.plan.Choice.{Choice}
use Rattle.chk_join_sources.specs.Standing.{StandsSo, HasStood, chosen_heads}
use Rattle.chk_join_sources.proofs.Standing.{stood_fails, none_stood, stood_more, chosen_more, stands_number}
use Rattle.chk_join_sources.proofs.copying.copy_all.Goals as goal

pub copy_choice-requires-clause-fits : goal.copy_choice-requires-clause-fits
copy_choice-requires-clause-fits g c =
    each_get (FitsIn c.args.left.now c.args.right.now) c.args.choices.now c.requires.fits c.loop-index.index no_choice
    c.loop-index-test.true

pub loop-index-init : goal.loop-index-init
loop-index-init g c = record {
  so = λ most all held chunks few settled apart left right.
      leads_none (g.S.Site.told c.args.site.now)
      (λ h x. (
        subst (λ cs. HasCopied all held cs c.args.segmenter.now h) (sym (append-nil chunks)) x,
        record {
          left = no_windows c.args.left.now.names.now held c.new-readers.result.left c.new-readers.ensures.left;
          right = no_windows c.args.right.now.names.now held c.new-readers.result.right c.new-readers.ensures.right;
        },
      ));
  stood = λ chunks.
      leads_none (g.S.Site.told c.args.site.now)
      (λ h x. none_stood chunks (flat_map (chosen_heads c.args.left.now c.args.right.now) (take 0 c.args.choices.now))
      c.args.segmenter.now h refl x);
  number = refl;
  writer = c.requires.segment;
  works = works_none (Copies c.args.segmenter.now.number) tt (g.S.Site.told c.args.site.now);
  count = refl;
}

pub loop-index-preserved : goal.loop-index-preserved
loop-index-preserved g c =
    let l = c.loop-index in
    let i = l.invariant in
    let n = c.args.segmenter.now.number in
    let on = c.in_ok-copy_choice.ensures.on in
    record {
      so = λ most all held chunks few settled apart left right.
          let f = chosen_chunks c.args.left.now c.args.right.now held in
          let before = chunks ++ flat_map f (take l.index c.args.choices.now) in
          leads_then (i.so most all held chunks few settled apart left right)
          (of_number all l.segmenter.number n i.number
          (subst (λ cs. Adds (g.S.Site.told l.site) (g.S.Site.told c.copy_choice.new.site)
          (Leads (anyhow (SparesBoth all (joined_segment l.segmenter.number)))
          (CanCopyBoth all held c.args.left.now c.args.right.now before l.readers l.segmenter)
          (CanCopyBoth all held c.args.left.now c.args.right.now cs c.copy_choice.new.readers c.copy_choice.new.segmenter)))
          (choices_more f c.args.choices.now l.index chunks c.loop-index-test.true)
          (c.in_ok-copy_choice.ensures.raw most all held before few settled
          (subst (λ k. AreApart all (joined_segment k)) (sym i.number) apart) left right)));
      stood = λ chunks.
          let f = chosen_heads c.args.left.now c.args.right.now in
          subst (λ (hs : List Head). Adds (g.S.Site.told c.args.site.now) (g.S.Site.told c.copy_choice.new.site)
          (Leads (anyhow (SparesFile (joined_segment n))) (StandsSo chunks c.args.segmenter.now)
          (HasStood chunks hs c.copy_choice.new.segmenter (Ok tt))))
          (chosen_more f c.args.choices.now l.index no_choice c.loop-index-test.true)
          (stood_more (joined_segment n) l.segmenter c.copy_choice.new.segmenter chunks
          (flat_map f (take l.index c.args.choices.now)) (f (get_or c.args.choices.now l.index no_choice)) (Ok tt)
          (i.stood chunks) c.in_ok-copy_choice.ensures.works
          (λ cs. stands_number l.segmenter.number n i.number (c.in_ok-copy_choice.ensures.stands cs)));
      number = on.number ∙ i.number;
      writer = on.writer;
      works = works_then (Copies n) (Ok tt) (Ok tt) i.works (works_number l.segmenter.number n i.number (Ok tt) c.in_ok-copy_choice.ensures.works);
      count = c.in_ok-copy_choice.ensures.cause ∙ i.count;
    }

pub returns-in_err-copy_choice-clause-raw : goal.returns-in_err-copy_choice-clause-raw
returns-in_err-copy_choice-clause-raw g c most all held chunks few settled apart left right =
    let p = err_from_is_err_and c.from_residual.result c.from_residual.ensures.1 in
    let l = c.loop-index in
    let i = l.invariant in
    let n = c.args.segmenter.now.number in
    let f = chosen_chunks c.args.left.now c.args.right.now held in
    let before = chunks ++ flat_map f (take l.index c.args.choices.now) in
    rw (p.1, p.2)
    (leads_then (i.so most all held chunks few settled apart left right)
    (all_fails all held c.args.left.now c.args.right.now (joined_segment n) (before ++ f (get_or c.args.choices.now l.index no_choice))
    (chunks ++ flat_map f c.args.choices.now) c.copy_choice.new.readers c.copy_choice.new.segmenter
    c.in_err-copy_choice.field-0.0
    (of_number all l.segmenter.number n i.number
    (c.in_err-copy_choice.ensures.raw most all held before few settled
    (subst (λ k. AreApart all (joined_segment k)) (sym i.number) apart) left right))))

pub returns-in_err-copy_choice-clause-works : goal.returns-in_err-copy_choice-clause-works
returns-in_err-copy_choice-clause-works g c =
    let p = err_from_is_err_and c.from_residual.result c.from_residual.ensures.1 in
    let l = c.loop-index in
    let n = c.args.segmenter.now.number in
    let fault = c.in_err-copy_choice.field-0.0 in
    rw (p.1, p.2)
    (works_then {T = Unit {0}} {U = Unit {0}} (Copies n) (Ok tt) (Err fault) l.invariant.works
    (works_number l.segmenter.number n l.invariant.number (Err fault) c.in_err-copy_choice.ensures.works))

pub returns-in_err-copy_choice-clause-cause : goal.returns-in_err-copy_choice-clause-cause
returns-in_err-copy_choice-clause-cause g c =
    let p = err_from_is_err_and c.from_residual.result c.from_residual.ensures.1 in
    rw (p.1, p.2)
    (cause_later (Unit {0}) (Unit {0}) c.in_err-copy_choice.field-0.0 (g.S.Site.fault_count c.args.site.now)
    (g.S.Site.fault_count c.loop-index.site) (g.S.Site.fault_count c.copy_choice.new.site)
    c.loop-index.invariant.count c.in_err-copy_choice.ensures.cause)

pub returns-clause-raw : goal.returns-clause-raw
returns-clause-raw g c most all held chunks few settled apart left right =
    let l = c.loop-index in
    let f = chosen_chunks c.args.left.now c.args.right.now held in
    leads_as (λ h x. x)
    (λ h x. subst (λ cs. HasCopied all held (chunks ++ flat_map f cs) l.segmenter h)
    (take_all l.index c.args.choices.now c.loop-index-test.false) x.0)
    (l.invariant.so most all held chunks few settled apart left right)

pub returns-clause-on : goal.returns-clause-on
returns-clause-on g c = record { number = c.loop-index.invariant.number; writer = c.loop-index.invariant.writer }

pub returns-clause-works : goal.returns-clause-works
returns-clause-works g c = c.loop-index.invariant.works

pub returns-clause-cause : goal.returns-clause-cause
returns-clause-cause g c = c.loop-index.invariant.count

pub returns-in_err-copy_choice-clause-stands : goal.returns-in_err-copy_choice-clause-stands
returns-in_err-copy_choice-clause-stands g c chunks =
    let p = err_from_is_err_and c.from_residual.result c.from_residual.ensures.1 in
    let l = c.loop-index in
    let n = c.args.segmenter.now.number in
    let fault = c.in_err-copy_choice.field-0.0 in
    rw (p.1, p.2)
    (stood_fails (joined_segment n) chunks (flat_map (chosen_heads c.args.left.now c.args.right.now) c.args.choices.now)
    c.copy_choice.new.segmenter fault
    (works_then {T = Unit {0}} {U = Unit {0}} (Copies n) (Ok tt) (Err fault) l.invariant.works
    (works_number l.segmenter.number n l.invariant.number (Err fault) c.in_err-copy_choice.ensures.works)))

pub returns-clause-stands : goal.returns-clause-stands
returns-clause-stands g c chunks =
    let l = c.loop-index in
    subst (λ (xs : List Choice). Adds (g.S.Site.told c.args.site.now) (g.S.Site.told l.site)
    (Leads (anyhow (SparesFile (joined_segment c.args.segmenter.now.number))) (StandsSo chunks c.args.segmenter.now)
    (HasStood chunks (flat_map (chosen_heads c.args.left.now c.args.right.now) xs) l.segmenter (Ok tt))))
    (take_all l.index c.args.choices.now c.loop-index-test.false) (l.invariant.stood chunks)
