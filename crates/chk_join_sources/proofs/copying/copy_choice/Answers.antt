use Rattle.std.proofs.Common.{◌≤◌, ◌++◌, Bool, List, subst, length}
use Rattle.std.specs.Prelude.{if◌then◌else◌}
use Rattle.chk_site.specs.Site.{Adds}
use Rattle.chk_site.specs.Runs.{anyhow, Leads}
use Rattle.chk_chunk.specs.Keys.{Chunk}
use Rattle.chk_record_reader.specs.Merging.{SparesBoth}
use Rattle.chk_join_sources.specs.Copying.{joined_segment, chunks_between, CanCopyBoth, CopiedBoth}
use Rattle.chk_join_sources.proofs.CopiedBlocks.{of_left, of_right, from_right, from_left}
use Rattle.chk_world.specs.JobSteps.{SparesFile}
use Rattle.chk_record_index.specs.Heads.{Head}
use Rattle.chk_join_sources.specs.Standing.{StandsSo, HasStood}
use Rattle.chk_join_sources.proofs.Standing.{heads_right, heads_left}
use Rattle.chk_join_sources.proofs.copying.copy_choice.Goals as goal

pub copy_block-requires-clause-high : goal.copy_block-requires-clause-high
copy_block-requires-clause-high g c =
    subst (λ (t : Bool). c.args.choice.block.end ≤ length (if t then c.args.right.now.heads.now else c.args.left.now.heads.now))
    c.if-choice.true c.requires.fits.high

pub copy_block-requires-2-clause-high : goal.copy_block-requires-2-clause-high
copy_block-requires-2-clause-high g c =
    subst (λ (t : Bool). c.args.choice.block.end ≤ length (if t then c.args.right.now.heads.now else c.args.left.now.heads.now))
    c.if-choice.false c.requires.fits.high

pub returns-then-choice-clause-raw : goal.returns-then-choice-clause-raw
returns-then-choice-clause-raw g c most all held chunks few settled apart left right =
    let l = c.args.left.now in
    let r = c.args.right.now in
    let rs = c.args.readers.now in
    let s = c.args.segmenter.now in
    let b = c.args.choice.block in
    let q = c.copy_block.new.reader in
    let t = c.copy_block.new.segmenter in
    subst (λ (cs : List Chunk). Adds (g.S.Site.told c.args.site.now) (g.S.Site.told c.copy_block.new.site)
    (Leads (anyhow (SparesBoth all (joined_segment s.number))) (CanCopyBoth all held l r chunks rs s)
    (CopiedBoth all held l r cs (record { left = rs.left; right = q }) t c.copy_block.result)))
    (from_right l r held c.args.choice chunks c.if-choice.true)
    (of_right all held l r (joined_segment s.number) chunks (chunks ++ chunks_between r held b.first b.end) rs q s t c.copy_block.result
    (c.copy_block.ensures.raw most all held chunks few settled apart right))

pub returns-clause-raw : goal.returns-clause-raw
returns-clause-raw g c most all held chunks few settled apart left right =
    let l = c.args.left.now in
    let r = c.args.right.now in
    let rs = c.args.readers.now in
    let s = c.args.segmenter.now in
    let b = c.args.choice.block in
    let q = c.copy_block-2.new.reader in
    let t = c.copy_block-2.new.segmenter in
    subst (λ (cs : List Chunk). Adds (g.S.Site.told c.args.site.now) (g.S.Site.told c.copy_block-2.new.site)
    (Leads (anyhow (SparesBoth all (joined_segment s.number))) (CanCopyBoth all held l r chunks rs s)
    (CopiedBoth all held l r cs (record { left = q; right = rs.right }) t c.copy_block-2.result)))
    (from_left l r held c.args.choice chunks c.if-choice.false)
    (of_left all held l r (joined_segment s.number) chunks (chunks ++ chunks_between l held b.first b.end) rs q s t c.copy_block-2.result
    (c.copy_block-2.ensures.raw most all held chunks few settled apart left))

pub returns-then-choice-clause-stands : goal.returns-then-choice-clause-stands
returns-then-choice-clause-stands g c chunks =
    let s = c.args.segmenter.now in
    subst (λ (hs : List Head). Adds (g.S.Site.told c.args.site.now) (g.S.Site.told c.copy_block.new.site)
    (Leads (anyhow (SparesFile (joined_segment s.number))) (StandsSo chunks s)
    (HasStood chunks hs c.copy_block.new.segmenter c.copy_block.result)))
    (heads_right c.args.left.now c.args.right.now c.args.choice c.if-choice.true) (c.copy_block.ensures.stands chunks)

pub returns-clause-stands : goal.returns-clause-stands
returns-clause-stands g c chunks =
    let s = c.args.segmenter.now in
    subst (λ (hs : List Head). Adds (g.S.Site.told c.args.site.now) (g.S.Site.told c.copy_block-2.new.site)
    (Leads (anyhow (SparesFile (joined_segment s.number))) (StandsSo chunks s)
    (HasStood chunks hs c.copy_block-2.new.segmenter c.copy_block-2.result)))
    (heads_left c.args.left.now c.args.right.now c.args.choice c.if-choice.false) (c.copy_block-2.ensures.stands chunks)
