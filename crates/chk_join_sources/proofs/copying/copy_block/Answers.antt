use Rattle.std.proofs.Common.{◌≡◌, ◌∙◌, ◌++◌, ◌∷◌, [], ℕ, Ok, Err, refl, sym, subst, arith}
use Rattle.std.proofs.lemmas.Result.{err_from_is_err_and}
use Rattle.chk_site.specs.Site.{Adds}
use Rattle.chk_site.specs.Runs.{anyhow, Leads}
use Rattle.chk_site.proofs.Leads.{leads_none, leads_then}
use Rattle.chk_book.proofs.Added.{cause_later}
use Rattle.chk_record_reader.specs.Archives.{chunk_in}
use Rattle.chk_record_reader.specs.Merging.{SparesBoth, AreApart}
use Rattle.chk_join_sources.specs.Blocks.{head_in}
use Rattle.chk_join_sources.specs.Copying.{joined_segment, CanCopy, Copies, chunks_between}
use Rattle.chk_join_sources.proofs.CopySteps.{works_number}
use Rattle.chk_book.proofs.Works.{works_none, works_then}
use Rattle.chk_join_sources.proofs.CopiedBlocks.{between_none, between_more, of_number, block_fails}
use Rattle.std.proofs.Common.{List}
use Rattle.chk_world.specs.JobSteps.{SparesFile}
use Rattle.chk_record_index.specs.Heads.{Head}
use Rattle.chk_join_sources.specs.Standing.{StandsSo, HasStood, heads_between}
use Rattle.chk_join_sources.proofs.Standing.{stood_fails, none_stood, no_heads, stood_more, heads_more, stands_number}
use Rattle.chk_join_sources.proofs.copying.copy_block.Goals as goal

pub loop-index-init : goal.loop-index-init
loop-index-init g c = record {
  so = λ most all held chunks few settled apart side.
      leads_none (g.S.Site.told c.args.site.now)
      (λ h x. subst (λ cs. CanCopy all held c.args.side.now cs c.args.reader.now c.args.segmenter.now h)
      (between_none c.args.side.now held c.args.block.first chunks) x);
  stood = λ chunks.
      leads_none (g.S.Site.told c.args.site.now)
      (λ h x. none_stood chunks (heads_between c.args.side.now c.args.block.first c.args.block.first) c.args.segmenter.now h
      (no_heads c.args.side.now c.args.block.first) x);
  number = refl;
  writer = c.requires.segment;
  works = works_none (Copies c.args.segmenter.now.number) tt (g.S.Site.told c.args.site.now);
  count = refl;
  low = omega arith;
  high = c.requires.low;
}

pub loop-index-preserved : goal.loop-index-preserved
loop-index-preserved g c =
    let l = c.loop-index in
    let i = l.invariant in
    let side = c.args.side.now in
    let n = c.args.segmenter.now.number in
    let on = c.in_ok-copy_record.ensures.on in
    let below = c.loop-index-test.true in
    let high = c.requires.high in
    record {
      so = λ most all held chunks few settled apart sound.
          let before = chunks ++ chunks_between side held c.args.block.first l.index in
          leads_then (i.so most all held chunks few settled apart sound)
          (of_number all l.segmenter.number n i.number
          (subst (λ cs. Adds (g.S.Site.told l.site) (g.S.Site.told c.copy_record.new.site)
          (Leads (anyhow (SparesBoth all (joined_segment l.segmenter.number))) (CanCopy all held side before l.reader l.segmenter)
          (CanCopy all held side cs c.copy_record.new.reader c.copy_record.new.segmenter)))
          (between_more side held c.args.block.first l.index chunks i.low (omega (arith, below, high)))
          (c.in_ok-copy_record.ensures.raw most all held before few settled
          (subst (λ k. AreApart all (joined_segment k)) (sym i.number) apart) sound)));
      stood = λ chunks.
          subst (λ (hs : List Head). Adds (g.S.Site.told c.args.site.now) (g.S.Site.told c.copy_record.new.site)
          (Leads (anyhow (SparesFile (joined_segment n))) (StandsSo chunks c.args.segmenter.now)
          (HasStood chunks hs c.copy_record.new.segmenter (Ok tt))))
          (heads_more side c.args.block.first l.index i.low (omega (arith, below, high)))
          (stood_more (joined_segment n) l.segmenter c.copy_record.new.segmenter chunks
          (heads_between side c.args.block.first l.index) (head_in side.heads.now l.index ∷ []) (Ok tt) (i.stood chunks)
          c.in_ok-copy_record.ensures.works
          (λ cs. stands_number l.segmenter.number n i.number (c.in_ok-copy_record.ensures.stands cs)));
      number = on.number ∙ i.number;
      writer = on.writer;
      works = works_then (Copies n) (Ok tt) (Ok tt) i.works (works_number l.segmenter.number n i.number (Ok tt) c.in_ok-copy_record.ensures.works);
      count = c.in_ok-copy_record.ensures.cause ∙ i.count;
      low = let low = i.low in omega (arith, low);
      high = omega (arith, below);
    }

pub returns-in_err-copy_record-clause-raw : goal.returns-in_err-copy_record-clause-raw
returns-in_err-copy_record-clause-raw g c most all held chunks few settled apart sound =
    let p = err_from_is_err_and c.from_residual.result c.from_residual.ensures.1 in
    let l = c.loop-index in
    let i = l.invariant in
    let side = c.args.side.now in
    let n = c.args.segmenter.now.number in
    let before = chunks ++ chunks_between side held c.args.block.first l.index in
    rw (p.1, p.2)
    (leads_then (i.so most all held chunks few settled apart sound)
    (block_fails all held side (joined_segment n) (before ++ chunk_in side.names.now held (head_in side.heads.now l.index) ∷ [])
    (chunks ++ chunks_between side held c.args.block.first c.args.block.end) c.copy_record.new.reader c.copy_record.new.segmenter
    c.in_err-copy_record.field-0.0
    (of_number all l.segmenter.number n i.number
    (c.in_err-copy_record.ensures.raw most all held before few settled
    (subst (λ k. AreApart all (joined_segment k)) (sym i.number) apart) sound))))

pub returns-in_err-copy_record-clause-works : goal.returns-in_err-copy_record-clause-works
returns-in_err-copy_record-clause-works g c =
    let p = err_from_is_err_and c.from_residual.result c.from_residual.ensures.1 in
    let l = c.loop-index in
    let n = c.args.segmenter.now.number in
    let fault = c.in_err-copy_record.field-0.0 in
    rw (p.1, p.2)
    (works_then {T = Unit {0}} {U = Unit {0}} (Copies n) (Ok tt) (Err fault) l.invariant.works
    (works_number l.segmenter.number n l.invariant.number (Err fault) c.in_err-copy_record.ensures.works))

pub returns-in_err-copy_record-clause-cause : goal.returns-in_err-copy_record-clause-cause
returns-in_err-copy_record-clause-cause g c =
    let p = err_from_is_err_and c.from_residual.result c.from_residual.ensures.1 in
    rw (p.1, p.2)
    (cause_later (Unit {0}) (Unit {0}) c.in_err-copy_record.field-0.0 (g.S.Site.fault_count c.args.site.now)
    (g.S.Site.fault_count c.loop-index.site) (g.S.Site.fault_count c.copy_record.new.site)
    c.loop-index.invariant.count c.in_err-copy_record.ensures.cause)

pub returns-clause-raw : goal.returns-clause-raw
returns-clause-raw g c most all held chunks few settled apart sound =
    let l = c.loop-index in
    let past = c.loop-index-test.false in
    let high = l.invariant.high in
    let e : l.index ≡ c.args.block.end = omega (arith, past, high) in
    subst (λ (k : ℕ). Adds (g.S.Site.told c.args.site.now) (g.S.Site.told l.site)
    (Leads (anyhow (SparesBoth all (joined_segment c.args.segmenter.now.number)))
    (CanCopy all held c.args.side.now chunks c.args.reader.now c.args.segmenter.now)
    (CanCopy all held c.args.side.now (chunks ++ chunks_between c.args.side.now held c.args.block.first k) l.reader l.segmenter)))
    e (l.invariant.so most all held chunks few settled apart sound)

pub returns-clause-on : goal.returns-clause-on
returns-clause-on g c = record { number = c.loop-index.invariant.number; writer = c.loop-index.invariant.writer }

pub returns-clause-works : goal.returns-clause-works
returns-clause-works g c = c.loop-index.invariant.works

pub returns-clause-cause : goal.returns-clause-cause
returns-clause-cause g c = c.loop-index.invariant.count

pub returns-in_err-copy_record-clause-stands : goal.returns-in_err-copy_record-clause-stands
returns-in_err-copy_record-clause-stands g c chunks =
    let p = err_from_is_err_and c.from_residual.result c.from_residual.ensures.1 in
    let l = c.loop-index in
    let n = c.args.segmenter.now.number in
    let fault = c.in_err-copy_record.field-0.0 in
    rw (p.1, p.2)
    (stood_fails (joined_segment n) chunks (heads_between c.args.side.now c.args.block.first c.args.block.end)
    c.copy_record.new.segmenter fault
    (works_then {T = Unit {0}} {U = Unit {0}} (Copies n) (Ok tt) (Err fault) l.invariant.works
    (works_number l.segmenter.number n l.invariant.number (Err fault) c.in_err-copy_record.ensures.works)))

pub returns-clause-stands : goal.returns-clause-stands
returns-clause-stands g c chunks =
    let l = c.loop-index in
    let past = c.loop-index-test.false in
    let high = l.invariant.high in
    let e : l.index ≡ c.args.block.end = omega (arith, past, high) in
    subst (λ (k : ℕ). Adds (g.S.Site.told c.args.site.now) (g.S.Site.told l.site)
    (Leads (anyhow (SparesFile (joined_segment c.args.segmenter.now.number))) (StandsSo chunks c.args.segmenter.now)
    (HasStood chunks (heads_between c.args.side.now c.args.block.first k) l.segmenter (Ok tt))))
    e (l.invariant.stood chunks)
