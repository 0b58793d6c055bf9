use Rattle.chk_book.specs.Folders.{segment_name}
use Rattle.chk_ctl_verify.proofs.Steps.{no_quiet}
use Rattle.chk_ctl_verify.specs.Files.{ChunksSeen}
use Rattle.std.proofs.Common.{List, refl, subst, ℕ, ◌∙◌}
use Rattle.std.specs.Prelude.{IfOk}
use Rattle.chk_ctl_verify.proofs.books.look_at_named.Goals as goal

pub returns-in-Ok : goal.returns-in-Ok
returns-in-Ok g c =
    record {
      told = subst (λ (m : ℕ). IfOk c.look_at_chunks.result (λ found. ChunksSeen m (segment_name
          c.args.folder.now c.args.number) found (g.S.Site.told c.args.site.now) (g.S.Site.told
          c.look_at_chunks.new.site))) c.most_in.ensures.most
          (subst (λ (n : List ℕ). IfOk c.look_at_chunks.result (λ found. ChunksSeen
          c.most_in.result n found (g.S.Site.told c.args.site.now) (g.S.Site.told
          c.look_at_chunks.new.site))) (c.as_str.ensures.text ∙ c.in-Ok.ensures)
          c.look_at_chunks.ensures.told);
      own = c.look_at_chunks.ensures.own;
      cause = c.look_at_chunks.ensures.cause;
    }

pub returns-in-Err : goal.returns-in-Err
returns-in-Err g c =
    record {
      told = tt;
      own = no_quiet (g.S.Site.told c.args.site.now);
      cause = refl;
    }
