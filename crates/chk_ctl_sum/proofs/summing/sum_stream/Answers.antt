use Rattle.std.proofs.Common.{ℕ, drop, subst}
use Rattle.chk_site.specs.Site.{Adds}
use Rattle.chk_site.specs.Runs.{anyhow, Leads}
use Rattle.chk_book.specs.Views.{end_view}
use Rattle.chk_record_reader.specs.Segments.{SparesFiles}
use Rattle.chk_ctl_sum.specs.Summing.{bytes_of, CanSum, SummedOne}
use Rattle.chk_ctl_sum.proofs.Blocks.{block_bytes}
use Rattle.chk_ctl_sum.proofs.summing.sum_stream.Goals as goal

pub returns-clause-raw : goal.returns-clause-raw
returns-clause-raw g c most all held few settled side rise =
    let s = c.args.side.now in
    let e = c.args.rest.now.end.now in
    subst (λ (k : ℕ). Adds (g.S.Site.told c.args.site.now) (g.S.Site.told c.sum_block.new.site)
    (Leads (anyhow (SparesFiles all)) (CanSum all held s c.args.reader.now)
    (SummedOne all held s (drop k (bytes_of s held (end_view e).stream)) c.sum_block.new.reader
    c.sum_block.result))) c.skip.ensures
    (subst (λ bytes. Adds (g.S.Site.told c.args.site.now) (g.S.Site.told c.sum_block.new.site)
    (Leads (anyhow (SparesFiles all)) (CanSum all held s c.args.reader.now)
    (SummedOne all held s (drop c.skip.result bytes) c.sum_block.new.reader c.sum_block.result)))
    (block_bytes s held (end_view e).stream c.block_of-block.result
    c.block_of-block.ensures.within c.block_of-block.ensures.all
    (c.block_of-block.ensures.holds rise))
    (c.sum_block.ensures.raw most all held few settled side))
